pub mod Due
pub mod Log
