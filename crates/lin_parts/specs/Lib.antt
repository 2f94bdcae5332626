pub mod Parts
pub mod PartLemmas
pub mod RunLemmas
pub mod ListLemmas
