-- The byte-range locks on a stream, each with its number.
use Rattle.std.specs.Prelude.{ℕ, List}
use Rattle.fsa_model.specs.Volume.{Volume}
use Rattle.range_locks.specs.declared.range.Range.{Range}
use Rattle.volume_tables.specs.HandleTable as table

-- the ranges that are locked on this stream, in the order in which they were granted
abbrev pub ranges_on : Volume → ℕ → List Range
ranges_on v stream = table.ranges_on v.handles v.locks stream
