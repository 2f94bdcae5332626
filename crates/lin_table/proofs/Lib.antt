pub mod LimitFacts
pub mod TotalLemmas
pub mod StepLemmas
pub mod HandLemmas
pub mod PartLemmas
pub mod GatherLemmas
pub mod EndLemmas
pub mod CountLemmas
