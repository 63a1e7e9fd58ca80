-- Names that expressions of literal units match.
use Rattle.std.specs.Prelude.{ℕ, Bool, true, false, List, length, drop, nat_le, ◌-◌, ◌&&◌}
use Rattle.fsa_types.specs.CaseTable.{same_name}
use Rattle.fsa_types.specs.Match.{Sign, Literal, sign_of}

abbrev pub is_literal_sign : Sign → Bool
is_literal_sign Literal = true
is_literal_sign _ = false

-- a unit stands for itself
abbrev pub is_literal : ℕ → Bool
is_literal unit = is_literal_sign (sign_of unit)

-- a name ends in these units
abbrev pub has_ending : List (ℕ × ℕ) → List ℕ → List ℕ → Bool
has_ending table literal name =
    nat_le (length literal) (length name) && same_name table literal (drop (length name - length literal) name)
