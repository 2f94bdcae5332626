-- Linearizations of a whole history, and the join of one order for each object.
pub mod Whole
pub mod JoinedOrder
pub mod PartLemmas
pub mod PlaceLemmas
pub mod PartProblem
pub mod OrderLemmas
pub mod RecordedWhole
pub mod TimeLemmas
pub mod LocalityLemmas
pub mod Points
pub mod LocalityLaw
