pub mod StackLemmas
pub mod OwedStackLemmas
pub mod StackRowLemmas
pub mod AboveLemmas
pub mod StackLateLemmas
pub mod PopperLemmas
pub mod PopLemmas
pub mod CrossedLemmas
