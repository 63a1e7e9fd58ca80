-- The part of a path above a directory.
use Rattle.std.specs.Prelude.{ℕ, ◌+◌, List, zero, suc, length}
use Rattle.std.specs.Option.{option_map_or}
use Rattle.fsa_model.specs.Lookups.{link_of_file}
use Rattle.fsa_model.specs.Volume.{Link, Volume}

-- how many units stand before a name in this directory, each component with the `\` behind it
abbrev pub units_above : ℕ → List (ℕ × Link) → ℕ → ℕ
units_above zero links dir = 0
units_above (suc most) links dir =
    option_map_or (λ entry. length entry.1.name + 1 + units_above most links entry.1.parent) (link_of_file links dir) 0

-- how many directories stand above this one
abbrev pub dirs_above : ℕ → List (ℕ × Link) → ℕ → ℕ
dirs_above zero links dir = 0
dirs_above (suc most) links dir =
    option_map_or (λ entry. 1 + dirs_above most links entry.1.parent) (link_of_file links dir) 0

-- how many units and how many ancestors a change of so many units in this directory would note
abbrev pub units_noted_in : Volume → ℕ → ℕ → ℕ
units_noted_in v parent units = units + units_above (length v.links) v.links parent

abbrev pub dirs_in : Volume → ℕ → ℕ
dirs_in v parent = 1 + dirs_above (length v.links) v.links parent
