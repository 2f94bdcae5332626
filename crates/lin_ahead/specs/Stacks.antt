-- Stacks.
pub mod Stack
pub mod ToldOfStack
pub mod StackTakers
