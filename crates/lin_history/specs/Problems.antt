-- The theory of problems: the part of a history on one object, its calls, their precedence, legal lists, runs,
-- linearizations and configurations.
pub mod Lists
pub mod ProblemParts
pub mod Problem
pub mod AnyProblem
pub mod LegalLists
pub mod Precedence
pub mod Timeline
pub mod EventLemmas
pub mod NumberedEvents
pub mod Continuations
pub mod ListLemmas
pub mod Linearizations
pub mod Configurations
pub mod Needs
pub mod SameProblem
pub mod SameProblemLemmas
