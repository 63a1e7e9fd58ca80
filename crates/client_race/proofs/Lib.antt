pub mod CallLaws
pub mod DeskLaws
pub mod Facing
pub mod RaceLaws
pub mod SetupLaws
pub mod StayLaws
