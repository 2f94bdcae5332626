-- Lemmas on events, and on what the builder keeps.
pub mod EventLemmas
pub mod OutcomeLemmas
pub mod ObjectLemmas
pub mod NamedAtLemmas
pub mod FoundLemmas
pub mod NextEventLemmas
pub mod BuilderLemmas
pub mod KeptLemmas
pub mod EndLemmas
pub mod NumberingLemmas
pub mod IndexLemmas
pub mod PartCallsLemmas
