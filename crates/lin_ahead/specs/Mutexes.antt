-- What is known of a mutex's calls before any search (this project's own).
pub mod Acquires
pub mod Sections
pub mod MutexAhead
pub mod Strays
pub mod HeldUntil
