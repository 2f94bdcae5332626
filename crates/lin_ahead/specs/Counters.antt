-- Counters.
pub mod Sums
pub mod ToldOfCounter
