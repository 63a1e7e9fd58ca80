-- The log of changes, of which no more is kept than a watch may still be told.
use Rattle.std.specs.Prelude.{ℕ, length}
use Rattle.fsa_model.specs.Volume.{Volume}
use Rattle.volume_state.specs.Watches.{least_place}

-- the place of the first change that is kept then: the least from which a watch is due, and, where there is no watch,
-- the number of all changes, so that none is kept
abbrev pub trimmed_base : Volume → ℕ
trimmed_base v = least_place v.watches (length v.changes)
