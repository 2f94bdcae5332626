-- Queues.
pub mod Queue
pub mod ToldOfQueue
pub mod ItemRows
pub mod Slots
pub mod CountedRows
pub mod Hurried
