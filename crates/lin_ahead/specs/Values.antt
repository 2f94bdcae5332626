-- Registers, maps of one key, and sets of one item.
pub mod Register
pub mod Owners
pub mod Due
pub mod Stranded
pub mod PossibleOwners
pub mod Writers
pub mod Narrowing
pub mod NeededPairs
pub mod ToldOfRegister
pub mod KeyValue
pub mod ItemValue
pub mod TakenTwice
pub mod Balance
pub mod Ranks
pub mod Clusters
