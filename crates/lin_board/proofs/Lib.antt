pub mod RuleLemmas
pub mod StepLemmas
pub mod GatherLemmas
pub mod SeatLemmas
pub mod EndLemmas
