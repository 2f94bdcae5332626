pub mod LimitFacts
pub mod RunLemmas
pub mod PathLemmas
pub mod LevelLemmas
pub mod WidthLemmas
pub mod TaskLemmas
pub mod ValueLemmas
mod OutcomeLemmas
mod VerdictLemmas
pub mod ScoutingLemmas
