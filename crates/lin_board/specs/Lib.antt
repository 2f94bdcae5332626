pub mod Lists
pub mod Rule
pub mod Steps
pub mod Facts
pub mod Board
pub mod Seat
pub mod Gather
pub mod Tally
