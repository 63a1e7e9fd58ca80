-- Heads of names: their first units, packed into one number.
use Rattle.std.specs.Prelude.{ℕ, zero, suc, ◌+◌, ◌*◌, Bool, true, ◌&&◌, if◌then◌else◌, List, min, nat_lt, slice_get}
use Rattle.std.specs.Option.{option_map_or}
use Rattle.fsa_types.specs.CaseTable.{upcased}
use Rattle.fsa_model.specs.Volume.{Link}

-- a unit of a name, and 0 past its end
abbrev pub unit_at : List ℕ → ℕ → ℕ
unit_at units place = option_map_or (λ (unit : ℕ). unit) (slice_get units place) 0

-- a unit as 8 bits: 255 for each from there on, and 0 where not all units before it are below 255
abbrev pub head_digit : Bool → ℕ → ℕ
head_digit exact unit = if exact then min unit 255 else 0

-- the first units, so many, are all below 255
unfoldable pub is_exact : List ℕ → ℕ → Bool
is_exact units zero = true
is_exact units (suc count) = is_exact units count && nat_lt (unit_at units count) 255

-- so many units, each in 8 bits
unfoldable pub units_packed : List ℕ → ℕ → ℕ
units_packed units zero = 0
units_packed units (suc count) = units_packed units count * 256 + head_digit (is_exact units count) (unit_at units count)

-- the head of a name has its first sixteen upcased units
abbrev pub head_of : List (ℕ × ℕ) → List ℕ → ℕ
head_of table name = units_packed (upcased table name) 16

-- the head of a link's name
abbrev pub link_head : List (ℕ × ℕ) → ℕ × Link → ℕ
link_head table entry = head_of table entry.1.name
