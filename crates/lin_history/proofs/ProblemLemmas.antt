-- Lemmas on problems, and worked histories that check the definitions.
pub mod NumberLemmas
pub mod EventNumberLemmas
pub mod MergeLemmas
pub mod TimelineLemmas
pub mod Rows
