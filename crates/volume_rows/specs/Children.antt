-- The links of a directory behind a name, in the order of their names.
use Rattle.std.specs.Prelude.{ℕ, Bool, true, ◌&&◌, ◌==◌, List, Option, filter}
use Rattle.std.specs.Option.{option_map_or}
use Rattle.std.specs.Ordering.{is_lt}
use Rattle.fsa_types.specs.CaseTable.{cmp_name}
use Rattle.fsa_types.specs.Sorting.{in_order}
use Rattle.fsa_model.specs.QueryDir.{is_listed_before}
use Rattle.fsa_model.specs.Volume.{Link}

-- a name stands behind that one; behind none each does
abbrev pub is_name_after : List (ℕ × ℕ) → Option (List ℕ) → List ℕ → Bool
is_name_after table after name = option_map_or (λ other. is_lt (cmp_name table other name)) after true

-- a link is in this directory, and its name stands behind that one
abbrev pub is_child_after : List (ℕ × ℕ) → ℕ → Option (List ℕ) → Link → Bool
is_child_after table dir after link = link.parent == dir && is_name_after table after link.name

-- such links in order, marked or not
abbrev pub links_after : List (ℕ × ℕ) → ℕ → Option (List ℕ) → List (ℕ × Link) → List (ℕ × Link)
links_after table dir after links = in_order (is_listed_before table) (filter (λ entry. is_child_after table dir after entry.1) links)
