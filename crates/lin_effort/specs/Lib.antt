pub mod Decision
pub mod Lifts
