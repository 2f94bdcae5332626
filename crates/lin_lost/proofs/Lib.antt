pub mod CountLemmas
pub mod StepLemmas
pub mod LostLemmas
pub mod RestLemmas
pub mod WalkLemmas
