-- What an access list denies, and what generic rights stand for, after [MS-DTYP] 'Access Check
-- Algorithm Pseudocode' and 'ACCESS_MASK'. SIDs are numbers, and rights are the bits of an access
-- mask.
use Rattle.std.specs.Prelude.{ℕ, ◌-◌, ◌^◌, Bool, true, false, not, List, [], ◌∷◌, Option, None, Some, filter, fold, ◌==◌, if◌then◌else◌}
use Rattle.std.specs.List.{list_any}
use Rattle.std.specs.Option.{option_map}
use Rattle.std.specs.Int.RustNames.{bit_and, bit_or, bit_xor}
use Rattle.fsa_types.specs.BoundedList.{Bounded}
use Rattle.fsa_types.specs.Masks.{FILE_ALL_ACCESS, FILE_GENERIC_EXECUTE, FILE_GENERIC_READ, FILE_GENERIC_WRITE, GENERIC_ALL, GENERIC_EXECUTE, GENERIC_READ, GENERIC_WRITE, READ_CONTROL, WRITE_DAC, generic_bits}
use Rattle.fsa_types.specs.declared.request.Ace.{Ace}

-- a mask has some of these bits
abbrev pub has_any : ℕ → ℕ → Bool
has_any mask bits = not (bit_and mask bits == 0)

-- a mask has a bit that is none of these
abbrev pub has_other : ℕ → ℕ → Bool
has_other mask bits = not (bit_and mask bits == mask)

-- a mask but for the bits that it has of these
abbrev pub without : ℕ → ℕ → ℕ
without mask bits = bit_xor mask (bit_and mask bits)

-- one of the client's SIDs is this one
abbrev pub has_sid : List ℕ → ℕ → Bool
has_sid sids sid = list_any (λ own. own == sid) sids

-- READ_CONTROL and WRITE_DAC, which an owner has without a list
abbrev pub owner_rights : ℕ
owner_rights = bit_or READ_CONTROL WRITE_DAC

-- what is asked of the list
abbrev pub asked_of_list : ℕ → List ℕ → ℕ → ℕ
asked_of_list owner sids wanted = if has_sid sids owner then without wanted owner_rights else wanted

-- the entries that speak of the client, in order
abbrev pub entries_for : List ℕ → List Ace → List Ace
entries_for sids entries = filter (λ entry. has_sid sids entry.sid) entries

-- entries taken in order: a deny entry with a bit that is still wanted denies, an allow entry takes
-- its bits off what is wanted, and at the end anything that is left is denied
abbrev pub walk_denies : List Ace → ℕ → Bool
walk_denies [] wanted = not (wanted == 0)
walk_denies (entry ∷ entries) wanted =
    if entry.allow then walk_denies entries (without wanted entry.mask)
    else if has_any wanted entry.mask then true
    else walk_denies entries wanted

-- the entries of a list, where there is one
abbrev pub entries_of : Option (Bounded Ace) → Option (List Ace)
entries_of dacl = option_map (λ list. list.items) dacl

-- whether the entries of a list deny what is wanted; no list denies nothing
abbrev pub denied : Option (List Ace) → ℕ → List ℕ → ℕ → Bool
denied None owner sids wanted = false
denied (Some entries) owner sids wanted = walk_denies (entries_for sids entries) (asked_of_list owner sids wanted)

-- the access check: all that is wanted, or nothing where the list denies it
abbrev pub check : Option (List Ace) → ℕ → List ℕ → ℕ → Option ℕ
check dacl owner sids wanted = if denied dacl owner sids wanted then None else Some wanted

-- what a generic right stands for, in a mask that has it
abbrev pub stands_for : ℕ → ℕ → ℕ → ℕ
stands_for mask generic rights = if has_any mask generic then rights else 0

-- the generic rights, all, execute, write and read, each with what it stands for
abbrev pub generic_rights : List (ℕ × ℕ)
generic_rights =
    (GENERIC_ALL, FILE_ALL_ACCESS) ∷ (GENERIC_EXECUTE, FILE_GENERIC_EXECUTE) ∷ (GENERIC_WRITE, FILE_GENERIC_WRITE) ∷ (GENERIC_READ, FILE_GENERIC_READ)
    ∷ []

-- all that a mask of 32 bits can have but generic rights
abbrev pub plain_bits : ℕ
plain_bits = 2 ^ 32 - 1 - generic_bits

-- a mask with each generic right replaced by what it stands for, and its other bits as they are
abbrev pub map_generic : ℕ → ℕ
map_generic mask = fold (λ mapped right. bit_or mapped (stands_for mask right.0 right.1)) (bit_and mask plain_bits) generic_rights
