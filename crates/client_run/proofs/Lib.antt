pub mod Ordering
pub mod RunLaws
pub mod ServeLaws
pub mod WaitLaws
