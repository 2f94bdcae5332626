pub mod LimitFacts
pub mod ListLemmas
pub mod VerifierLemmas
pub mod ProblemLemmas
pub mod RecorderLemmas
pub mod JoinLemmas
pub mod WholeLemmas
