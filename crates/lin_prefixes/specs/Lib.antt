pub mod Prefixes
pub mod Freed
pub mod Marked
pub mod OnlyReplies
pub mod PartAnswer
pub mod Questions
pub mod RunsTold
pub mod WholeAnswer
