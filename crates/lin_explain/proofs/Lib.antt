pub mod ListLemmas
pub mod NextLemmas
pub mod StateLemmas
pub mod TextLemmas
pub mod RunLemmas
pub mod LateLemmas
