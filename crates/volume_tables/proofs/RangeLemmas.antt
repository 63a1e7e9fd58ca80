-- The tables of streams, where one of them changes.
use Rattle.std.proofs.Common.{◌≡◌, ℕ, suc, ◌≤◌, Bool, false, not, List, [], ◌∷◌, length, refl, ap, sym, ◌∙◌, eq-eqb, arith, inl, inr, Some, None}
use Rattle.std.specs.Prelude.{◌==◌, filter}
use Rattle.std.specs.List.{list_any}
use Rattle.std.proofs.lemmas.Bool.{cases_Bool, both_ways, eqb-true, ne_eqb}
use Rattle.fsa_types.specs.Rows.{row_of}
use Rattle.range_locks.specs.RangeTable.{Ranges}
use Rattle.range_locks.specs.declared.range.Range.{Range}
use Rattle.volume_tables.specs.Ranges.{ranges_in, room_at, AreSetIn, KeepsRanges}
use Rattle.volume_tables.proofs.PlaceLemmas.{IsPut}

-- what a stream has where its table is known
pub ranges_in-some : (tables : List (ℕ × Ranges)) (stream : ℕ) (table : Ranges) → row_of tables stream ≡ Some table → ranges_in tables stream ≡ table.ranges
ranges_in-some tables stream table some = rw some refl

pub room_at-some : (tables : List (ℕ × Ranges)) (stream : ℕ) (table : Ranges) → row_of tables stream ≡ Some table → room_at tables stream ≡ table.room
room_at-some tables stream table some = rw some refl

-- and where it has none
pub ranges_in-none : (tables : List (ℕ × Ranges)) (stream : ℕ) → row_of tables stream ≡ None → ranges_in tables stream ≡ []
ranges_in-none tables stream none = rw none refl

pub room_at-none : (tables : List (ℕ × Ranges)) (stream : ℕ) → row_of tables stream ≡ None → room_at tables stream ≡ 0
room_at-none tables stream none = rw none refl

-- with another table put, the ranges of one stream are set
pub AreSetIn-put : (old new : List (ℕ × Ranges)) (stream : ℕ) (table : Ranges) (ranges : List Range) → IsPut old new stream table → table.ranges ≡ ranges → AreSetIn old new stream ranges
AreSetIn-put old new stream table ranges put same = record {
  here = ranges_in-some new stream table put.here ∙ same;
  others = λ other differ. rw (put.others other differ) refl;
}

-- and the room of the others stays
pub room_at-other : (old new : List (ℕ × Ranges)) (stream : ℕ) (table : Ranges) → IsPut old new stream table → (other : ℕ) → (other == stream) ≡ false → room_at new other ≡ room_at old other
room_at-other old new stream table put other differ = rw (put.others other differ) refl

-- where the table that is put has no less room, no stream has
pub kept-put : (old new : List (ℕ × Ranges)) (stream : ℕ) (table : Ranges) → IsPut old new stream table → room_at old stream ≤ table.room → (other : ℕ) → room_at old other ≤ room_at new other
kept-put old new stream table put more other =
    elim (cases_Bool (other == stream)) [
      | inl here ↦ (let same : other ≡ stream = eqb-true other stream here in
          let set : room_at new stream ≡ table.room = room_at-some new stream table put.here in
          rw same (omega arith))
      | inr differ ↦ (let same = room_at-other old new stream table put other differ in omega arith)
    ]

-- where it has the same ranges, all keep theirs
pub KeepsRanges-put : (old new : List (ℕ × Ranges)) (stream : ℕ) (table : Ranges) → IsPut old new stream table → table.ranges ≡ ranges_in old stream → room_at old stream ≤ table.room
    → KeepsRanges old new
KeepsRanges-put old new stream table put same more = record {
  ranges = λ other. elim (cases_Bool (other == stream)) [
    | inl here ↦ (let is : other ≡ stream = eqb-true other stream here in rw is (ranges_in-some new stream table put.here ∙ same))
    | inr differ ↦ rw (put.others other differ) refl
  ];
  room = kept-put old new stream table put more;
}

-- fewer items are left where some passes, and as many where none does
few-left : {X : Type 0} (p : X → Bool) (xs : List X) → length (filter (λ x. not (p x)) xs) ≤ length xs
few-left p [] = omega arith
few-left p (x ∷ xs) = let rest = few-left p xs in elim (cases_Bool (p x)) [
  | inl passes ↦ rw passes (omega arith)
  | inr fails ↦ rw fails (omega arith)
]

next-same : (a b : ℕ) → (suc a == suc b) ≡ (a == b)
next-same a b = elim (cases_Bool (a == b)) [
  | inl same ↦ eq-eqb (suc a) (suc b) (ap suc (eqb-true a b same)) ∙ sym same
  | inr other ↦ ne_eqb (suc a) (suc b) (λ next. let same : a ≡ b = omega (arith, next) in absurd (both_ways (a == b) other (eq-eqb a b same))) ∙ sym other
]

pub some-less : {X : Type 0} (p : X → Bool) (xs : List X) → list_any p xs ≡ not (length (filter (λ x. not (p x)) xs) == length xs)
some-less p [] = refl
some-less p (x ∷ xs) = elim (cases_Bool (p x)) [
  | inl passes ↦ (
      let few = few-left p xs in
      let fewer : (length (filter (λ x. not (p x)) xs) == suc (length xs)) ≡ false = ne_eqb _ _ (λ same. absurd (omega (arith, same))) in
      rw (passes, fewer) refl)
  | inr fails ↦ rw fails (some-less p xs ∙ ap not (sym (next-same (length (filter (λ x. not (p x)) xs)) (length xs))))
]
