pub mod CrossedLemmas
