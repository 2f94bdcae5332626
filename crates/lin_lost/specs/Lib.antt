pub mod Counts
pub mod Lost
