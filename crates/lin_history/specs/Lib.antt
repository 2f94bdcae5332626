pub mod OptionLemmas
pub mod ReplyLemmas
pub mod Refusals
pub mod Problems
pub mod Recorder
pub mod Locality
pub mod Verifier
