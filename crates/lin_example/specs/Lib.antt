pub mod Recording
pub mod Semaphore
pub mod SemaphoreLemmas
