-- Sums over a list, how often a number is in one, and lists that divide the numbers below a bound.
pub mod Totals
pub mod TotalLemmas
pub mod Division
pub mod DivisionLemmas
pub mod PlaceLemmas
