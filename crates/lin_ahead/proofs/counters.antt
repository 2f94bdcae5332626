pub mod OverLemmas
pub mod SumLemmas
pub mod SumLoadLemmas
pub mod SumRowLemmas
pub mod CounterLemmas
