pub mod Components
pub mod NameFault
