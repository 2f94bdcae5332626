-- Histories as they are recorded: events, the calls of a history, and what the builder keeps.
pub mod Names
pub mod Events
pub mod RecordedHistory
pub mod Recording
pub mod Found
pub mod Parts
pub mod NextEvents
pub mod Views
pub mod BuilderState
