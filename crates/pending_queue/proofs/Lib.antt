pub mod CountLemmas
pub mod HeldLaws
pub mod LeastLemmas
pub mod QueueLemmas
pub mod ReadyLemmas
pub mod SeekLemmas
pub mod WaitLemmas
