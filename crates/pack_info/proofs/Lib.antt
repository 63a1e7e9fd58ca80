pub mod NumberLaws
pub mod PackLaws
pub mod ReadLaws
pub mod TailLaws
pub mod WalkLaws
pub mod NameLaws
