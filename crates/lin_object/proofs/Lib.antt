mod AnswerLemmas
mod BoolLemmas
mod EditLemmas
mod NumberLemmas
mod PlaceLemmas
mod StepTableLemmas
