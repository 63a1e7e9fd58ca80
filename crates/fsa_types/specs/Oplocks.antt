-- Oplocks: levels as sets of read, write and handle caching, and what a class of requests does to
-- one oplock, after [MS-FSA] 'Algorithm to Check for an Oplock Break'.
use Rattle.std.specs.Prelude.{ℕ, Bool, true, false, ◌&&◌, ◌||◌, ◌==◌, not, Option, Some, None, if◌then◌else◌}
use Rattle.std.specs.Option.{option_map_or}
use Rattle.fsa_types.specs.declared.request.Level.{Level}
use Rattle.fsa_types.specs.declared.request.Level.TheVariants.{Nil, R, RH, RW, RWH}
use Rattle.fsa_types.specs.declared.oplock.Class.{Class}
use Rattle.fsa_types.specs.declared.oplock.Class.TheVariants.{Clash, NameChange, ReadOpen, Change}

-- an oplock ('Per Oplock') of a handle: its level; while a break is in progress its target, which is the most
-- that may stay, and the number of the break, 0 without one; and the turn of the call that is pending as
-- granted, if there is one
pub record Oplock : Type 0 where
  pub handle : ℕ
  pub key : ℕ
  pub level : Level
  pub target : Option Level
  pub number : ℕ
  pub call : Option ℕ

-- read caching is in every level but none
abbrev pub has_read : Level → Bool
has_read Nil = false
has_read _ = true

abbrev pub has_write : Level → Bool
has_write RW = true
has_write RWH = true
has_write _ = false

abbrev pub has_handle : Level → Bool
has_handle RH = true
has_handle RWH = true
has_handle _ = false

-- the level with read caching and, as said, write and handle caching
abbrev pub level_with : Bool → Bool → Level
level_with write handle =
    if write then (if handle then RWH else RW) else (if handle then RH else R)

-- what is in both levels
abbrev pub in_both : Level → Level → Level
in_both a b =
    if has_read a && has_read b
    then level_with (has_write a && has_write b) (has_handle a && has_handle b)
    else Nil

-- all that is in the first level is in the second
abbrev pub is_within : Level → Level → Bool
is_within a b =
    (not (has_read a) || has_read b) && (not (has_write a) || has_write b) && (not (has_handle a) || has_handle b)

-- what a class leaves
abbrev pub keep : Class → Level
keep Clash = RW
keep NameChange = RW
keep ReadOpen = RH
keep Change = Nil

-- a class that waits for handle caching to be given up
abbrev pub waits_for_handles : Class → Bool
waits_for_handles Clash = true
waits_for_handles NameChange = true
waits_for_handles _ = false

-- two handles have the same key where they are one handle, or their keys are equal and not 0
abbrev pub is_same_key : ℕ → ℕ → Option ℕ → ℕ → Bool
is_same_key handle key other other_key =
    option_map_or (λ o. o == handle) other false || (key == other_key && not (key == 0))

-- what a class does to an oplock: nothing; it ends, and its holder is told that none is left; a
-- break to this level begins, and its holder is told so and has to answer; or the break in progress
-- goes on to this level, and nobody is told
pub data Effect : Type 0 where
  Stays : Effect
  Ends : Effect
  Begins : Level → Effect
  Lowers : Level → Effect

-- for an oplock of this level, with this target where a break is in progress
abbrev pub effect : Class → Level → Option Level → Effect
effect class level (Some target) = Lowers (in_both target (keep class))
effect class level None =
    if is_within level (keep class) then Stays
    else if is_within level R then Ends
    else Begins (in_both level (keep class))

-- the level loses write caching, or handle caching to a class that waits for that
abbrev pub loses : Class → Level → Bool
loses class level =
    (has_write level && not (has_write (keep class)))
    || (waits_for_handles class && has_handle level && not (has_handle (keep class)))

-- the request waits for the break of such an oplock: where the level loses something, or where the
-- target of the break in progress isn't within what the class leaves
abbrev pub is_awaited : Class → Level → Option Level → Bool
is_awaited class level target =
    loses class level || option_map_or (λ to. not (is_within to (keep class))) target false
