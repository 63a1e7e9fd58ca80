-- A break that goes over the oplocks that are chosen, and breaks each in the table of its home, does to the tables
-- what it does to the list.
use Rattle.std.proofs.Common.{◌≡◌, ℕ, ◌+◌, ◌<◌, ◌≤◌, true, false, List, [], ◌∷◌, ◌++◌, length, take, get_or, refl, ap, sym, subst, ◌∙◌, arith, inl, inr, Option, Some, None, IsSome}
use Rattle.std.specs.List.{AllPairs}
use Rattle.std.specs.Option.{ForSome}
use Rattle.std.specs.Prelude.{◌==◌, filter, fold}
use Rattle.std.proofs.lemmas.Bool.{cases_Bool, eqb-true}
use Rattle.std.proofs.lemmas.List.{get_or_default, take_all, take_more}
use Rattle.std.proofs.lemmas.List.Sums.{fold-append}
use Rattle.fsa_types.specs.OplockLists.{OplockState, after_breaks, after_effect, effect_on, last_by, left_by_effect}
use Rattle.fsa_types.specs.Oplocks.{Begins, Effect, Ends, Lowers, Oplock, Stays}
use Rattle.fsa_types.specs.declared.oplock.Class.{Class}
use Rattle.fsa_model.specs.Volume.{Handle}
use Rattle.fsa_model.proofs.RowLaws.{option_cases}
use Rattle.oplock_state.specs.Homes.{home_of_handle}
use Rattle.oplock_state.specs.State.{State}
use Rattle.oplock_state.specs.Tables.{AreSorted, AreThere, IsStep, last_at, room_at, rows_at}
use Rattle.oplock_state.proofs.SortLemmas.{IsLocal, local-left, sorted-local, there-at, there-home}

-- so far have the tables come once the first of those that are chosen are broken: each that is to come is there still,
-- as it was
pub record AreBegun (handles : List (ℕ × Handle)) (kind : Class) (held : OplockState) (chosen : List Oplock) (place : ℕ) (tables : List (ℕ × State)) (last : ℕ) : Type 0 where
  pub sorted : AreSorted handles (after_breaks kind held (take place chosen)).oplocks tables
  pub number : last ≡ (after_breaks kind held (take place chosen)).last_break
  pub there : (k : ℕ) (d : Oplock) → place ≤ k → k < length chosen
      → filter (λ (other : Oplock). other.handle == (get_or chosen k d).handle) (after_breaks kind held (take place chosen)).oplocks ≡ get_or chosen k d ∷ []
  pub lasts : (key : ℕ) → last_at tables key ≤ last

pub begun-none : (handles : List (ℕ × Handle)) (kind : Class) (held : OplockState) (chosen : List Oplock) (tables : List (ℕ × State)) → AreSorted handles held.oplocks tables → AreThere held.oplocks chosen
    → ((key : ℕ) → last_at tables key ≤ held.last_break) → AreBegun handles kind held chosen 0 tables held.last_break
begun-none handles kind held chosen tables sorted there lasts = record {
  sorted = sorted;
  number = refl;
  there = λ k d from within. there.each k d within;
  lasts = lasts;
}

last-more : (done : Effect) (last : ℕ) → last ≤ last_by done last
last-more Stays last = omega arith
last-more Ends last = omega arith
last-more (Begins level) last = omega arith
last-more (Lowers level) last = omega arith

-- the step of a class on one oplock
abbrev step_of : Class → OplockState → Oplock → OplockState
step_of kind now oplock = after_effect (effect_on kind oplock) oplock.handle now

-- one more is broken
after-more : (kind : Class) (held : OplockState) (chosen : List Oplock) (place : ℕ) (oplock : Oplock) → place < length chosen → oplock ≡ get_or chosen place oplock
    → after_breaks kind held (take (place + 1) chosen) ≡ after_effect (effect_on kind oplock) oplock.handle (after_breaks kind held (take place chosen))
after-more kind held chosen place oplock within read =
    ap (λ (first : List Oplock). fold (step_of kind) held first) (take_more chosen place oplock within ∙ ap (λ (o : Oplock). take place chosen ++ o ∷ []) (sym read))
    ∙ fold-append (step_of kind) held (take place chosen) (oplock ∷ [])

-- the one that is broken next is there, and has a home
pub next-there : (handles : List (ℕ × Handle)) (kind : Class) (held : OplockState) (chosen : List Oplock) (place : ℕ) (tables : List (ℕ × State)) (last : ℕ) (oplock : Oplock)
    → AreBegun handles kind held chosen place tables last → place < length chosen → oplock ≡ get_or chosen place oplock
    → filter (λ (other : Oplock). other.handle == oplock.handle) (after_breaks kind held (take place chosen)).oplocks ≡ oplock ∷ []
next-there handles kind held chosen place tables last oplock begun within read =
    subst (λ (o : Oplock). filter (λ (other : Oplock). other.handle == o.handle) (after_breaks kind held (take place chosen)).oplocks ≡ o ∷ []) (sym read) (begun.there place oplock (omega arith) within)

pub next-home : (handles : List (ℕ × Handle)) (kind : Class) (held : OplockState) (chosen : List Oplock) (place : ℕ) (tables : List (ℕ × State)) (last : ℕ) (oplock : Oplock)
    → AreBegun handles kind held chosen place tables last → place < length chosen → oplock ≡ get_or chosen place oplock → IsSome (home_of_handle handles oplock.handle)
next-home handles kind held chosen place tables last oplock begun within read =
    there-home handles (after_breaks kind held (take place chosen)).oplocks oplock begun.sorted.homes (next-there handles kind held chosen place tables last oplock begun within read)

pub next-at : (handles : List (ℕ × Handle)) (kind : Class) (held : OplockState) (chosen : List Oplock) (place : ℕ) (tables : List (ℕ × State)) (last : ℕ) (oplock : Oplock)
    → AreBegun handles kind held chosen place tables last → place < length chosen → oplock ≡ get_or chosen place oplock
    → ForSome (home_of_handle handles oplock.handle) (λ home. filter (λ (other : Oplock). other.handle == oplock.handle) (rows_at tables home) ≡ oplock ∷ [])
next-at handles kind held chosen place tables last oplock begun within read home found =
    ap (filter (λ (other : Oplock). other.handle == oplock.handle)) (begun.sorted.each home)
    ∙ there-at handles (after_breaks kind held (take place chosen)).oplocks oplock home found (next-there handles kind held chosen place tables last oplock begun within read)

-- it is broken in its table
pub begun-more : (handles : List (ℕ × Handle)) (kind : Class) (held : OplockState) (chosen : List Oplock) (place : ℕ) (tables new : List (ℕ × State)) (last : ℕ) (oplock : Oplock)
    → AreBegun handles kind held chosen place tables last → place < length chosen → oplock ≡ get_or chosen place oplock → AllPairs (λ a b. (a.handle == b.handle) ≡ false) chosen
    → ForSome (home_of_handle handles oplock.handle)
    (λ home. IsStep tables new home (left_by_effect (effect_on kind oplock) oplock.handle (last + 1) (rows_at tables home)) (last_by (effect_on kind oplock) last) 0)
    → AreBegun handles kind held chosen (place + 1) new (last_by (effect_on kind oplock) last)
begun-more handles kind held chosen place tables new last oplock begun within read differ steps =
    elim (option_cases (home_of_handle handles oplock.handle)) [
      | inl none ↦ absurd (homeless (home_of_handle handles oplock.handle) none (next-home handles kind held chosen place tables last oplock begun within read))
      | inr some ↦ at_home some.0 some.1
    ]
  where
    homeless : (home : Option ℕ) → home ≡ None → IsSome home → ⊥
    homeless None none some = (let impossible : false ≡ true = some in cc)
    homeless (Some home) none some = (let impossible : Some home ≡ None = none in cc)

    at_home : (home : ℕ) → home_of_handle handles oplock.handle ≡ Some home → AreBegun handles kind held chosen (place + 1) new (last_by (effect_on kind oplock) last)
    at_home home found =
        let was : OplockState = after_breaks kind held (take place chosen) in
        let done : Effect = effect_on kind oplock in
        let step = steps home found in
        let more = after-more kind held chosen place oplock within read in
        let local : IsLocal oplock.handle (left_by_effect done oplock.handle (last + 1)) = local-left done oplock.handle (last + 1) in
        let left : left_by_effect done oplock.handle (last + 1) was.oplocks ≡ (after_breaks kind held (take (place + 1) chosen)).oplocks
        = ap (λ (n : ℕ). left_by_effect done oplock.handle (n + 1) was.oplocks) begun.number ∙ sym (ap (λ (s : OplockState). s.oplocks) more) in
        let sorted = sorted-local handles was.oplocks tables new oplock.handle home (last_by done last) 0 (left_by_effect done oplock.handle (last + 1)) local found begun.sorted step in
        record {
          sorted = subst (λ (rows : List Oplock). AreSorted handles rows new) left sorted;
          number = ap (λ (n : ℕ). last_by done n) begun.number ∙ sym (ap (λ (s : OplockState). s.last_break) more);
          there = λ k d from inside.
              (let apart : ((get_or chosen place d).handle == (get_or chosen k d).handle) ≡ false = differ place k d (omega arith) inside in
              let same : oplock ≡ get_or chosen place d = read ∙ get_or_default chosen place oplock d within in
              let other : (oplock.handle == (get_or chosen k d).handle) ≡ false = ap (λ (o : Oplock). o.handle == (get_or chosen k d).handle) same ∙ apart in
              ap (filter (λ (x : Oplock). x.handle == (get_or chosen k d).handle)) (sym left)
              ∙ local.keeps (get_or chosen k d).handle was.oplocks other
              ∙ begun.there k d (omega arith) inside);
          lasts = λ key. elim (cases_Bool (key == home)) [
            | inl here ↦ (let is : key ≡ home = eqb-true key home here in let now = step.number in rw is (omega arith))
            | inr beside ↦ (let now = step.other_lasts key beside in let before = begun.lasts key in let up = last-more done last in omega arith)
          ];
        }

-- all are broken
pub begun-all : (handles : List (ℕ × Handle)) (kind : Class) (held : OplockState) (chosen : List Oplock) (place : ℕ) (tables : List (ℕ × State)) (last : ℕ) → AreBegun handles kind held chosen place tables last
    → length chosen ≤ place → AreSorted handles (after_breaks kind held chosen).oplocks tables × ((key : ℕ) → last_at tables key ≤ (after_breaks kind held chosen).last_break)
begun-all handles kind held chosen place tables last begun past =
    let all : take place chosen ≡ chosen = take_all place chosen past in (
      subst (λ (broken : List Oplock). AreSorted handles (after_breaks kind held broken).oplocks tables) all begun.sorted,
      λ key. (let now = begun.lasts key in let is = begun.number ∙ ap (λ (broken : List Oplock). (after_breaks kind held broken).last_break) all in omega arith),
    )

-- ---- numbers and room

pub last-few : (done : Effect) (last : ℕ) → last_by done last ≤ last + 1
last-few Stays last = omega arith
last-few Ends last = omega arith
last-few (Begins level) last = omega arith
last-few (Lowers level) last = omega arith

pub steps-room : (home : Option ℕ) (tables new : List (ℕ × State)) (rows : ℕ → List Oplock) (last : ℕ) → IsSome home → ForSome home (λ own. IsStep tables new own (rows own) last 0)
    → (key : ℕ) → room_at tables key ≤ room_at new key
steps-room None tables new rows last some steps key = (let impossible : false ≡ true = some in cc)
steps-room (Some home) tables new rows last some steps key =
    let step = steps home refl in
    elim (cases_Bool (key == home)) [
      | inl here ↦ (let is : key ≡ home = eqb-true key home here in let has = step.room in rw is (omega arith))
      | inr beside ↦ (let same = step.other_rooms key beside in omega arith)
    ]
