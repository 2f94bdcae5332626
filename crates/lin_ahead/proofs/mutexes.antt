pub mod StepLemmas
pub mod SectionLemmas
pub mod ReleaseLemmas
pub mod RowLemmas
pub mod StrayLemmas
pub mod HeldLemmas
pub mod HolderLemmas
