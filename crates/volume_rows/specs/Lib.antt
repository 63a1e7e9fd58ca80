pub mod Children
pub mod Cursors
pub mod Effects
pub mod Enumerated
pub mod Infos
pub mod Links
pub mod Noting
pub mod Streams
