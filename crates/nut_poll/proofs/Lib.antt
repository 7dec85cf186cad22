pub mod Late
pub mod QueueLemmas
pub mod TurnLemmas
