pub mod AnswerLemmas
pub mod Counting
pub mod Exact
pub mod FirstItemLemmas
pub mod InTurn
pub mod Items
pub mod Shares
pub mod StandIns
