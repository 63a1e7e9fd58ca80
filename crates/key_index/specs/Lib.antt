pub mod Index
pub mod RowsByKey
