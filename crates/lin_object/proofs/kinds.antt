mod CounterLemmas
mod MapFacts
mod MapLemmas
mod MutexLemmas
mod QueueLemmas
mod RegisterLemmas
mod SetLemmas
mod StackLemmas
