pub mod FitLaws
pub mod PlaceLaws
pub mod SizeLaws
pub mod WatchLaws
