pub mod ClosureLemmas
pub mod NextLemmas
pub mod PlaceLemmas
pub mod SearchLemmas
pub mod ShiftLemmas
