-- The first entry that names a right decides it, as [MS-DTYP] 'Access Check Algorithm Pseudocode'
-- implies: what allows a right after a deny of it doesn't help, and what denies a right after an
-- allow of it doesn't hurt.
use Rattle.std.specs.Prelude.{ℕ, Bool, false, IsTrue, List, Option, None, Some, find, ◌==◌}
use Rattle.std.specs.List.{list_any}
use Rattle.std.specs.Option.{option_map_or}
use Rattle.std.specs.Int.{bit_at}
use Rattle.fsa_types.specs.declared.request.Ace.{Ace}
use Rattle.fsa_types.specs.Access.{asked_of_list, entries_for}

-- the mask has the right of this bit
abbrev pub has_right : ℕ → ℕ → Bool
has_right mask right = bit_at mask right == 1

-- the first of the entries that names the right allows it; a right that none names isn't allowed
abbrev pub allows : List Ace → ℕ → Bool
allows entries right = option_map_or (λ entry. entry.allow) (find (λ entry. has_right entry.mask right) entries) false

-- the entries allow each of these rights
abbrev pub AllowEach : List Ace → ℕ → Type 0
AllowEach entries wanted = (right : ℕ) → IsTrue (has_right wanted right) → IsTrue (allows entries right)

-- there is no list, or its entries for the client allow each right that is asked of it
abbrev pub ListAllows : Option (List Ace) → ℕ → List ℕ → ℕ → Type 0
ListAllows None owner sids wanted = Unit {0}
ListAllows (Some entries) owner sids wanted = AllowEach (entries_for sids entries) (asked_of_list owner sids wanted)

-- some of the entries name each right of the mask
abbrev pub NameEach : List Ace → ℕ → Type 0
NameEach entries mask = (right : ℕ) → IsTrue (has_right mask right) → IsTrue (list_any (λ entry. has_right entry.mask right) entries)
