pub mod ProgressLemmas
pub mod LookupLemmas
pub mod MemoLemmas
pub mod LinksLemmas
pub mod CallEntriesLemmas
pub mod EntriesLemmas
pub mod SizeLemmas
pub mod RunLemmas
pub mod PathLemmas
pub mod LiftedSetLemmas
pub mod WeightLemmas
pub mod WindowLemmas
pub mod CallSetFieldsLemmas
pub mod ToldLemmas
mod FewerLemmas
