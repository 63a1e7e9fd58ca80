-- The bytes of a string.
use Rattle.std.specs.Prelude.{ℕ, List}
use Rattle.std.specs.Arc.{arc_value}
use Rattle.fsa_types.specs.declared.text.Backing.{Backing}
use Rattle.fsa_types.specs.declared.text.Backing.TheVariants.{Own, Shared}

-- those of its own list, or of the list that it shares
abbrev pub bytes_in : Backing → List ℕ
bytes_in (Own bytes) = bytes.items
bytes_in (Shared bytes) = (arc_value bytes).items
