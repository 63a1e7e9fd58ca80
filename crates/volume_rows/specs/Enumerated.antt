-- What contracts see of an enumeration of a directory.
use Rattle.std.specs.Prelude.{ℕ, List}
use Rattle.fsa_model.specs.Volume.{Cursor}

-- its expression, and where it stands
abbrev pub Enumerated : Type 0
Enumerated = List ℕ × Cursor
