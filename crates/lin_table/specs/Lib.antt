pub mod Totals
pub mod Home
pub mod Rule
pub mod Steps
pub mod Hand
pub mod Gather
pub mod Shared
pub mod SharedLemmas
