pub mod VerdictLemmas
pub mod JoinLemmas
