pub mod RangeTable
