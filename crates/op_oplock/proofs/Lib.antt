pub mod AckLaws
pub mod OplockLaws
