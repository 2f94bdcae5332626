pub mod Begun
pub mod Crossing
pub mod Keys
