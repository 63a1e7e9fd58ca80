pub mod GrowthLaws
pub mod HandleLaws
pub mod LockLaws
pub mod ReadLaws
pub mod RoomLaws
pub mod SetEndLaws
pub mod WriteLaws
