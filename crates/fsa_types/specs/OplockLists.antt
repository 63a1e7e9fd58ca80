-- Lists of oplocks: what breaks leave of them, which numbers the breaks get, who is told, for which
-- breaks a request waits, and what is always true of such a list, after [MS-FSA] 'Algorithm to Check for
-- an Oplock Break'.
use Rattle.std.specs.Prelude.{◌≡◌, ℕ, Bool, false, true, ◌+◌, ◌==◌, ◌&&◌, ◌≤◌, not, List, Option, Some, None, is_some, find, filter, map, fold, All, AllPairs, IsTrue, if◌then◌else◌}
use Rattle.std.specs.Option.{option_map_or}
use Rattle.fsa_types.specs.Oplocks.{Oplock, Effect, Stays, Ends, Begins, Lowers, effect, is_awaited, is_within}
use Rattle.fsa_types.specs.declared.oplock.Class.{Class}
use Rattle.fsa_types.specs.declared.request.Level.{Level}
use Rattle.fsa_types.specs.declared.request.Level.TheVariants.{Nil}

-- ---- what an effect leaves

-- oplocks in the order in which they were granted, and the number of the last break that began
pub record OplockState : Type 0 where
  pub oplocks : List Oplock
  pub last_break : ℕ

-- all but that of this handle
abbrev pub without_oplock_of : ℕ → List Oplock → List Oplock
without_oplock_of handle oplocks = filter (λ oplock. not (oplock.handle == handle)) oplocks

-- an oplock once a break of this number to this level has begun, where it is this handle's
abbrev pub break_begun : ℕ → Level → ℕ → Oplock → Oplock
break_begun handle level number oplock = if oplock.handle == handle then record oplock { target = Some level; number = number; call = None } else oplock

-- an oplock once its break in progress goes on to this level, where it is this handle's
abbrev pub lowered : ℕ → Level → Oplock → Oplock
lowered handle level oplock = if oplock.handle == handle then record oplock { target = Some level } else oplock

-- what the effect on the oplock of this handle leaves of the list, the next break having this number
abbrev pub left_by_effect : Effect → ℕ → ℕ → List Oplock → List Oplock
left_by_effect Stays handle number oplocks = oplocks
left_by_effect Ends handle number oplocks = without_oplock_of handle oplocks
left_by_effect (Begins level) handle number oplocks = map (break_begun handle level number) oplocks
left_by_effect (Lowers level) handle number oplocks = map (lowered handle level) oplocks

-- the number of the last break that began, after the effect
abbrev pub last_by : Effect → ℕ → ℕ
last_by (Begins level) last = last + 1
last_by _ last = last

-- what the effect on the oplock of this handle leaves; each break that begins gets the next number
abbrev pub after_effect : Effect → ℕ → OplockState → OplockState
after_effect done handle held = record {
  oplocks = left_by_effect done handle (held.last_break + 1) held.oplocks;
  last_break = last_by done held.last_break;
}

-- what a class of requests does to an oplock
abbrev pub effect_on : Class → Oplock → Effect
effect_on class oplock = effect class oplock.level oplock.target

-- what is left once these oplocks are broken, one after the other
abbrev pub after_breaks : Class → OplockState → List Oplock → OplockState
after_breaks class held chosen = fold (λ now oplock. after_effect (effect_on class oplock) oplock.handle now) held chosen

-- ---- who is told

-- what the holder is told: the level that may stay, and whether it has to answer
abbrev pub told_by : Effect → Option (Level × Bool)
told_by Ends = Some (Nil, false)
told_by (Begins level) = Some (level, true)
told_by _ = None

-- the holder is told
abbrev pub is_told : Effect → Bool
is_told done = is_some (told_by done)

-- those of these oplocks whose pending calls are told
abbrev pub told_among : Class → List Oplock → List Oplock
told_among class chosen = filter (λ oplock. is_told (effect_on class oplock) && is_some oplock.call) chosen

-- ---- for which breaks a request waits

-- the number of the break in progress on a handle, 0 without one
abbrev pub number_of_break : List Oplock → ℕ → ℕ
number_of_break oplocks handle = option_map_or (λ oplock. oplock.number) (find (λ oplock. oplock.handle == handle) oplocks) 0

-- the numbers of the breaks that a request of this class waits for, of these oplocks, in order; `after`
-- are the oplocks once all are broken
abbrev pub awaited_among : Class → List Oplock → List Oplock → List ℕ
awaited_among class chosen after =
    map (λ oplock. number_of_break after oplock.handle) (filter (λ oplock. is_awaited class oplock.level oplock.target) chosen)

-- ---- what is always true

-- an oplock has the number of a break exactly where it has a target, and a call that is pending as
-- granted exactly where it has none; its target is within its level
pub record IsSoundOplock (oplock : Oplock) : Type 0 where
  pub has_number : not (oplock.number == 0) ≡ is_some oplock.target
  pub has_call : is_some oplock.call ≡ not (is_some oplock.target)
  pub target_within : IsTrue (option_map_or (λ target. is_within target oplock.level) oplock.target true)

-- each oplock is sound; at most one is of a handle; and the numbers of the breaks in progress differ, and
-- none is above the last one given
pub record AreOplocks (oplocks : List Oplock) (last_break : ℕ) : Type 0 where
  pub each : All IsSoundOplock oplocks
  pub handles_differ : AllPairs (λ a b. (a.handle == b.handle) ≡ false) oplocks
  pub numbers_differ : AllPairs (λ a b. (is_some a.target && a.number == b.number) ≡ false) oplocks
  pub numbers_given : All (λ oplock. oplock.number ≤ last_break) oplocks

-- ---- what an effect asks

-- a break to this level can begin of the oplock of this handle: that is no more than it has
abbrev pub CanBegin : Level → ℕ → List Oplock → Type 0
CanBegin level handle oplocks = All (λ oplock. (oplock.handle == handle) ≡ true → IsTrue (is_within level oplock.level)) oplocks

-- the break in progress on this handle can go on to this level: there is one, and that is no more than
-- the oplock has
abbrev pub CanGoOn : Level → ℕ → List Oplock → Type 0
CanGoOn level handle oplocks =
    All (λ oplock. (oplock.handle == handle) ≡ true → IsTrue (is_within level oplock.level) × IsTrue (is_some oplock.target)) oplocks

-- this effect can be had on the oplock of this handle
abbrev pub CanHave : Effect → ℕ → List Oplock → Type 0
CanHave (Begins level) handle oplocks = CanBegin level handle oplocks
CanHave (Lowers level) handle oplocks = CanGoOn level handle oplocks
CanHave _ handle oplocks = Unit {0}

-- an oplock is another one once that was broken, or is as it was: breaks leave its level, and a break in
-- progress goes on
pub record IsLater (was now : Oplock) : Type 0 where
  pub level : now.level ≡ was.level
  pub target : is_some was.target ≡ true → is_some now.target ≡ true

-- the oplock of its handle, where it is still there, is this one or what breaks made of it
abbrev pub IsCopy : List Oplock → Oplock → Type 0
IsCopy oplocks was = All (λ now. (now.handle == was.handle) ≡ true → IsLater was now) oplocks
