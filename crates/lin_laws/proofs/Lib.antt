pub mod TurnLemmas
