-- Where a request doesn't wait for the breaks that it began, no handle of another key has what the
-- class takes away; and after a change no handle of another key counts on its reads.
use Rattle.std.proofs.Common.{◌≡◌, ℕ, Bool, true, false, ◌==◌, ◌&&◌, ◌||◌, not, List, [], ◌∷◌, length, refl, ap, sym, ◌∙◌, arith, Option, Some, None, inl, inr}
use Rattle.std.specs.List.{list_any}
use Rattle.std.specs.Option.{option_map_or}
use Rattle.std.specs.Prelude.{filter, find, map, All, AllPairs, if◌then◌else◌}
use Rattle.std.proofs.lemmas.Bool.{cases_Bool, eqb-true, ne_eqb, false≢true, or_parts, and_right, and_from, not_from_false}
use Rattle.std.proofs.lemmas.List.Elements.{All-filter}
use Rattle.fsa_types.specs.declared.oplock.Class.{Class}
use Rattle.fsa_types.specs.declared.oplock.Class.TheVariants.{Clash, NameChange, ReadOpen, Change}
use Rattle.fsa_types.specs.declared.oplock.HandleSet.{HandleSet}
use Rattle.fsa_types.specs.declared.request.Level.{Level}
use Rattle.fsa_types.specs.declared.request.Level.TheVariants.{Nil, R, RH, RW, RWH}
use Rattle.fsa_types.specs.Oplocks.{Effect, Stays, Ends, Begins, Lowers, effect, is_awaited, is_same_key, has_read, has_write, has_handle, in_both, is_within, keep, loses}
use Rattle.fsa_types.specs.Rows.{row_of}
use Rattle.fsa_model.specs.Breaks.{with_effect, with_breaks, is_broken_before, is_chosen, chosen}
use Rattle.fsa_model.specs.Coherence.{level_of, counts_on_reads, is_own, NoOtherHas, IsTied}
use Rattle.fsa_model.specs.Grant.{oplock_of}
use Rattle.fsa_model.specs.Lookups.{is_on}
use Rattle.fsa_model.specs.Sound.{has_its_key}
use Rattle.fsa_model.specs.Volume.{Handle, Oplock, Volume}
use Rattle.fsa_model.specs.Waits.{waits_for}
use Rattle.fsa_model.proofs.BreakLaws.{broken, with_breaks-rest, break_of}
use Rattle.fsa_model.proofs.CoherenceLaws.{held_in, held_after, held-effect, held-broken, only_oplock, any_oplock, All-in_order, any-in_order}
use Rattle.fsa_model.proofs.RowLaws.{find-any, find-all, option_cases}

-- ---- what is held after the breaks

-- nothing, where nothing was
held-nothing : (kind : Class) (v : Volume) (oplocks : List Oplock) (handle : ℕ) → held_in v.oplocks handle ≡ None → held_in (broken kind v oplocks).oplocks handle ≡ None
held-nothing kind v [] handle none = none
held-nothing kind v (o ∷ oplocks) handle none =
    let done : Effect = effect kind o.level o.target in
    held-nothing kind (with_effect v o done) oplocks handle (held-effect v o done handle ∙ elim (cases_Bool (o.handle == handle)) [
      | inl here ↦ rw (here, none) (nothing done)
      | inr other ↦ rw (other, none) refl
    ])
  where
    nothing : (done : Effect) → held_after done None ≡ None
    nothing Stays = refl
    nothing Ends = refl
    nothing (Begins level) = refl
    nothing (Lowers level) = refl

-- what the effect makes of it, where the oplock is chosen
pub held-breaks : (v : Volume) (on : HandleSet) (kind : Class) (acting : Option ℕ) (key : ℕ) (handle : ℕ) (oplock : Oplock)
    → AllPairs (λ a b. (a.handle == b.handle) ≡ false) v.oplocks → oplock_of v handle ≡ Some oplock
    → held_in (with_breaks v on kind acting key).oplocks handle
    ≡ (if is_chosen v on acting key oplock then held_after (effect kind oplock.level oplock.target) (Some (oplock.level, oplock.target)) else Some (oplock.level, oplock.target))
held-breaks v on kind acting key handle oplock differ found =
    let only = only_oplock v.oplocks handle oplock differ found in
    let alike : Oplock → Type 0 = λ o. (o.handle == handle) ≡ true → effect kind o.level o.target ≡ effect kind oplock.level oplock.target in
    let of_it : All (λ o. (o.handle == handle) ≡ true → effect kind o.level o.target ≡ effect kind oplock.level oplock.target) (chosen v on acting key)
    = All-in_order alike (is_broken_before v) (filter (is_chosen v on acting key) v.oplocks) (All-filter (is_chosen v on acting key) alike v.oplocks
    (λ k d within here. ap (λ (o : Oplock). effect kind o.level o.target) (only k d within here))) in
    let is_there : list_any (λ (o : Oplock). o.handle == handle) (chosen v on acting key) ≡ is_chosen v on acting key oplock
    = any-in_order (λ (o : Oplock). o.handle == handle) (is_broken_before v) (filter (is_chosen v on acting key) v.oplocks) ∙ any_oplock (is_chosen v on acting key) v.oplocks handle oplock differ found in
    let before : held_in v.oplocks handle ≡ Some (oplock.level, oplock.target) = rw found refl in
    held-broken kind v (chosen v on acting key) handle (effect kind oplock.level oplock.target) of_it ∙ rw (is_there, before) refl

pub held-no_breaks : (v : Volume) (on : HandleSet) (kind : Class) (acting : Option ℕ) (key : ℕ) (handle : ℕ) → oplock_of v handle ≡ None
    → held_in (with_breaks v on kind acting key).oplocks handle ≡ None
held-no_breaks v on kind acting key handle none = held-nothing kind v (chosen v on acting key) handle (rw none refl)

-- ---- levels and counting, as what is held tells them

pub level-held : (v : Volume) (handle : ℕ) → level_of v handle ≡ option_map_or (λ held. held.0) (held_in v.oplocks handle) Nil
level-held v handle = elim (option_cases (oplock_of v handle)) [ inl none ↦ rw none refl | inr some ↦ rw some.1 refl ]

abbrev pub counts_held : Option (Level × Option Level) → Bool
counts_held held = option_map_or (λ h. has_read h.0 && option_map_or has_read h.1 true) held false

pub counts-held : (v : Volume) (handle : ℕ) → counts_on_reads v handle ≡ counts_held (held_in v.oplocks handle)
counts-held v handle = elim (option_cases (oplock_of v handle)) [ inl none ↦ rw none refl | inr some ↦ rw some.1 refl ]

-- ---- one oplock

-- an effect leaves the level or ends the oplock
keeps-lost : (kind : Class) (level : Level) (target : Option Level) → loses kind level ≡ false
    → loses kind (option_map_or (λ held. held.0) (held_after (effect kind level target) (Some (level, target))) Nil) ≡ false
keeps-lost kind level (Some told) kept = kept
keeps-lost kind level None kept = elim (cases_Bool (is_within level (keep kind))) [
  | inl inside ↦ rw inside kept
  | inr outside ↦ elim (cases_Bool (is_within level R)) [
    | inl reads ↦ rw (outside, reads) (loses-nothing kind)
    | inr more ↦ rw (outside, more) kept
  ]
]
  where
    loses-nothing : (kind : Class) → loses kind Nil ≡ false
    loses-nothing Clash = refl
    loses-nothing NameChange = refl
    loses-nothing ReadOpen = refl
    loses-nothing Change = refl

-- what is changed isn't counted on
in_both-nothing : (level : Level) → in_both level Nil ≡ Nil
in_both-nothing Nil = refl
in_both-nothing R = refl
in_both-nothing RH = refl
in_both-nothing RW = refl
in_both-nothing RWH = refl

counts-not : (level : Level) (target : Option Level) → counts_held (held_after (effect Change level target) (Some (level, target))) ≡ false
counts-not level (Some told) = rw (in_both-nothing told) (and_right (has_read level) false refl)
counts-not Nil None = refl
counts-not R None = refl
counts-not RH None = refl
counts-not RW None = refl
counts-not RWH None = refl

-- ---- all of them

-- what some item that passes a filter passes
pub any-both : {X : Type 0} (p q : X → Bool) (xs : List X) → list_any q (filter p xs) ≡ list_any (λ x. p x && q x) xs
any-both p q [] = refl
any-both p q (x ∷ xs) = elim (cases_Bool (p x)) [
  | inl passes ↦ rw passes (ap (λ rest. q x || rest) (any-both p q xs))
  | inr fails ↦ rw fails (any-both p q xs)
]

-- what is found passes the test
pub find-passes : {X : Type 0} (p : X → Bool) (xs : List X) (x : X) → find p xs ≡ Some x → p x ≡ true
find-passes p [] x found = cc
find-passes p (y ∷ xs) x found = elim (cases_Bool (p y)) [
  | inl here ↦ (let is : Some y ≡ Some x = rw here at found in let same : y ≡ x = cc in rw (← same) here)
  | inr other ↦ find-passes p xs x (rw other at found)
]

-- none of those that are chosen is awaited
pub not_awaited : (v : Volume) (on : HandleSet) (kind : Class) (acting : Option ℕ) (key : ℕ) (handle : ℕ) (oplock : Oplock)
    → waits_for v on kind acting key ≡ false → oplock_of v handle ≡ Some oplock → is_chosen v on acting key oplock ≡ true
    → is_awaited kind oplock.level oplock.target ≡ false
not_awaited v on kind acting key handle oplock no_wait found is_one = elim (cases_Bool (is_awaited kind oplock.level oplock.target)) [
  | inl it_waits ↦ absurd (false≢true (sym none ∙ some it_waits))
  | inr is_not ↦ is_not
]
  where
    waits : Oplock → Bool
    waits o = is_awaited kind o.level o.target

    empty : (oplocks : List Oplock) (f : Oplock → ℕ) → not (length (map f (filter waits oplocks)) == 0) ≡ false → list_any waits oplocks ≡ false
    empty [] f no_length = refl
    empty (o ∷ oplocks) f no_length = elim (cases_Bool (waits o)) [
      | inl it_waits ↦ (let so : not (length (map f (o ∷ filter waits oplocks)) == 0) ≡ false = rw it_waits at no_length in
          absurd (false≢true (sym so ∙ not_from_false _ (ne_eqb (length (map f (o ∷ filter waits oplocks))) 0 (λ e. absurd (omega arith))))))
      | inr passes_on ↦ rw passes_on (empty oplocks f (rw passes_on at no_length))
    ]

    none : list_any waits (chosen v on acting key) ≡ false
    none = empty (chosen v on acting key) (λ o. break_of (with_breaks v on kind acting key) o.handle) no_wait

    some : is_awaited kind oplock.level oplock.target ≡ true → list_any waits (chosen v on acting key) ≡ true
    some it_waits = any-in_order waits (is_broken_before v) (filter (is_chosen v on acting key) v.oplocks) ∙ any-both (is_chosen v on acting key) waits v.oplocks
        ∙ find-any (λ o. o.handle == handle) (λ o. is_chosen v on acting key o && waits o) v.oplocks oplock found (and_from _ _ is_one it_waits)

-- breaks leave handles and links as they are
pub handles-breaks : (v : Volume) (on : HandleSet) (kind : Class) (acting : Option ℕ) (key : ℕ) → (with_breaks v on kind acting key).handles ≡ v.handles
handles-breaks v on kind acting key = ap (λ (w : Volume). w.handles) (with_breaks-rest v on kind acting key)

pub links-breaks : (v : Volume) (on : HandleSet) (kind : Class) (acting : Option ℕ) (key : ℕ) → (with_breaks v on kind acting key).links ≡ v.links
links-breaks v on kind acting key = ap (λ (w : Volume). w.links) (with_breaks-rest v on kind acting key)

pub streams-breaks : (v : Volume) (on : HandleSet) (kind : Class) (acting : Option ℕ) (key : ℕ) → (with_breaks v on kind acting key).streams ≡ v.streams
streams-breaks v on kind acting key = ap (λ (w : Volume). w.streams) (with_breaks-rest v on kind acting key)

-- a handle of the set and of another key: its oplock is chosen
pub is_chosen-other : (v : Volume) (on : HandleSet) (acting : Option ℕ) (key handle : ℕ) (row : Handle) (oplock : Oplock) → IsTied v
    → oplock_of v handle ≡ Some oplock → row_of v.handles handle ≡ Some row → is_on v on row ≡ true → is_own v handle acting key ≡ false
    → is_chosen v on acting key oplock ≡ true
is_chosen-other v on acting key handle row oplock tied found living inside other =
    let of_it : oplock.handle ≡ handle = eqb-true oplock.handle handle (find-passes (λ o. o.handle == handle) v.oplocks oplock found) in
    let keyed : has_its_key v.handles oplock ≡ true = find-all (λ o. has_its_key v.handles o ≡ true) (λ o. o.handle == handle) v.oplocks oplock found tied.oplocks_have_keys in
    let of_key : row.key ≡ oplock.key = eqb-true row.key oplock.key (rw (of_it, living) at keyed) in
    let differs : is_same_key handle oplock.key acting key ≡ false = ap (λ k. is_same_key handle k acting key) (sym of_key) ∙ (rw living at other) in
    rw (of_it, living) (and_from _ _ inside (not_from_false _ differs))

-- a request that doesn't wait for the breaks that it began: what its class takes away, no other handle has
pub no_other-breaks : (has : Level → Bool) (v : Volume) (on : HandleSet) (kind : Class) (acting : Option ℕ) (key : ℕ) → IsTied v
    → ((level : Level) → loses kind level ≡ false → has level ≡ false) → waits_for v on kind acting key ≡ false
    → NoOtherHas has (with_breaks v on kind acting key) on acting key
no_other-breaks has v on kind acting key tied taken no_wait handle row living inside other =
    let w : Volume = with_breaks v on kind acting key in
    let living_before : row_of v.handles handle ≡ Some row = rw (handles-breaks v on kind acting key) at living in
    let inside_before : is_on v on row ≡ true = rw (links-breaks v on kind acting key) at inside in
    let other_before : is_own v handle acting key ≡ false = rw (handles-breaks v on kind acting key) at other in
    taken (level_of w handle) (ap (loses kind) (level-held w handle) ∙ elim (option_cases (oplock_of v handle)) [
      | inl none ↦ rw (held-no_breaks v on kind acting key handle none) (nothing kind)
      | inr some ↦ (let is_one : is_chosen v on acting key some.0 ≡ true = is_chosen-other v on acting key handle row some.0 tied some.1 living_before inside_before other_before in
          let kept : loses kind some.0.level ≡ false = (or_parts _ _ (not_awaited v on kind acting key handle some.0 no_wait some.1 is_one)).0 in
          rw (held-breaks v on kind acting key handle some.0 tied.oplocks_differ some.1, is_one) (keeps-lost kind some.0.level some.0.target kept))
    ])
  where
    nothing : (kind : Class) → loses kind Nil ≡ false
    nothing Clash = refl
    nothing NameChange = refl
    nothing ReadOpen = refl
    nothing Change = refl

-- after a class Change, whether it is waited for or not, no other handle of the set counts on its reads
pub counts-change : (v : Volume) (on : HandleSet) (acting : Option ℕ) (key handle : ℕ) (row : Handle) → IsTied v
    → row_of v.handles handle ≡ Some row → is_on v on row ≡ true → is_own v handle acting key ≡ false
    → counts_on_reads (with_breaks v on Change acting key) handle ≡ false
counts-change v on acting key handle row tied living inside other =
    counts-held (with_breaks v on Change acting key) handle ∙ elim (option_cases (oplock_of v handle)) [
      | inl none ↦ rw (held-no_breaks v on Change acting key handle none) refl
      | inr some ↦ rw (held-breaks v on Change acting key handle some.0 tied.oplocks_differ some.1, is_chosen-other v on acting key handle row some.0 tied some.1 living inside other)
          (counts-not some.0.level some.0.target)
    ]

-- what the classes take away: writing, all that change or read; handles, those that clash or change names
pub takes_writing : (level : Level) → (loses ReadOpen level ≡ false → has_write level ≡ false) × (loses Change level ≡ false → has_write level ≡ false)
takes_writing Nil = (λ _. refl, λ _. refl)
takes_writing R = (λ _. refl, λ _. refl)
takes_writing RH = (λ _. refl, λ _. refl)
takes_writing RW = (λ so. cc, λ so. cc)
takes_writing RWH = (λ so. cc, λ so. cc)

pub takes_handles : (level : Level) → (loses Clash level ≡ false → has_handle level ≡ false) × (loses NameChange level ≡ false → has_handle level ≡ false)
takes_handles Nil = (λ _. refl, λ _. refl)
takes_handles R = (λ _. refl, λ _. refl)
takes_handles RH = (λ so. cc, λ so. cc)
takes_handles RW = (λ _. refl, λ _. refl)
takes_handles RWH = (λ so. cc, λ so. cc)
