-- Items of queues and stacks.
pub mod Numbers
pub mod Impossible
pub mod ItemCalls
pub mod CallNumbers
pub mod Owed
pub mod Late
pub mod Takers
