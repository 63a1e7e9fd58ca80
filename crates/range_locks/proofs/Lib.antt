pub mod FirstLemmas
pub mod ListedLemmas
pub mod NumberLemmas
pub mod PlaceLemmas
mod RangeExamples
