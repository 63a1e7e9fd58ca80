-- Steps of the loops that fill the case table and look for a pair at fault.
use Rattle.std.proofs.Common.{◌≡◌, ◌≢◌, ◌∙◌, ℕ, ◌+◌, ◌<◌, ◌≤◌, Bool, true, false, ◌||◌, List, [], ◌∷◌, ◌++◌, Option, Some, None, take, drop, set, get_or, length, refl, sym, ap, eqb, inl, inr, arith, ◌⊎◌, get_or-set_same, get_or-set_other}
use Rattle.std.specs.Prelude.{find}
use Rattle.std.specs.List.{list_any, enumerate_from, AllByRecursion}
use Rattle.std.proofs.lemmas.List.{take_more, drop_more, drop_all, length-set}
use Rattle.std.proofs.lemmas.List.Elements.{All-from_recursion}
use Rattle.std.proofs.lemmas.List.Folds.{list_any-append}
use Rattle.std.proofs.lemmas.List.FromFn.{get_or-enumerate_from, length-enumerate_from}
use Rattle.std.proofs.lemmas.Bool.{cases_eq, eq-eqb, ne_eqb}
use Rattle.fsa_types.specs.CaseTable.{is_at_fault}
use Rattle.fsa_types.specs.CaseTableBody.{AreMarks}

-- ---- marks

pub AreMarks-none : (marks : List Bool) → length marks ≡ 65536 → AllByRecursion (λ mark. (mark ≡ false) ⊎ (mark ≡ false)) marks
    → AreMarks (λ unit. false) marks
AreMarks-none marks all unset = record {
  all = all;
  each = λ unit within.
      elim (All-from_recursion (λ mark. (mark ≡ false) ⊎ (mark ≡ false)) marks unset unit false (omega arith)) [ inl e ↦ e | inr e ↦ e ];
}

or_false : (b : Bool) → (b || false) ≡ b
or_false true = refl
or_false false = refl

or_true : (b : Bool) → (b || true) ≡ true
or_true true = refl
or_true false = refl

-- one pair more at the end: its source, or its target, has a mark
pub AreMarks-set : (key : ℕ × ℕ → ℕ) (pairs : List (ℕ × ℕ)) (place : ℕ) (pair : ℕ × ℕ) (marks : List Bool) → place < length pairs
    → pair ≡ get_or pairs place pair → key pair < 65536
    → AreMarks (λ unit. list_any (λ p. eqb (key p) unit) (take place pairs)) marks
    → AreMarks (λ unit. list_any (λ p. eqb (key p) unit) (take (place + 1) pairs)) (set marks (key pair) true)
AreMarks-set key pairs place pair marks in' is below given = record {
  all = length-set marks (key pair) true ∙ given.all;
  each = λ unit within.
      let ends : take (place + 1) pairs ≡ take place pairs ++ pair ∷ [] = take_more pairs place pair in' ∙ ap (λ p. take place pairs ++ p ∷ []) (sym is) in
      let before : Bool = list_any (λ p. eqb (key p) unit) (take place pairs) in
      rw (ends, list_any-append (λ p. eqb (key p) unit) (take place pairs) (pair ∷ []))
      (elim (cases_eq (key pair) unit) [
        | inl same ↦
            let inside : key pair < length marks = omega arith in
            rw (← same, get_or-set_same marks (key pair) true false inside, eq-eqb (key pair) (key pair) refl, or_true) refl
        | inr other ↦
            let apart : unit ≢ key pair = λ e. other (sym e) in
            rw (get_or-set_other marks (key pair) unit true false apart, ne_eqb (key pair) unit other, or_false) (given.each unit within)
      ]);
}

-- ---- the first pair at fault

-- the search for it, from a place on
abbrev pub fault_from : List (ℕ × ℕ) → ℕ → Option (ℕ × (ℕ × ℕ))
fault_from pairs place = find (λ entry. is_at_fault (take entry.0 pairs) entry.1) (drop place (enumerate_from 0 pairs))

at_place : (pairs : List (ℕ × ℕ)) (place : ℕ) (pair : ℕ × ℕ) → place < length pairs → pair ≡ get_or pairs place pair
    → drop place (enumerate_from 0 pairs) ≡ (place, pair) ∷ drop (place + 1) (enumerate_from 0 pairs)
at_place pairs place pair in' is =
    let inside : place < length (enumerate_from 0 pairs) = rw (length-enumerate_from 0 pairs) in' in
    drop_more (enumerate_from 0 pairs) place (0, pair) inside
    ∙ ap (λ entry. entry ∷ drop (place + 1) (enumerate_from 0 pairs))
    (get_or-enumerate_from 0 pairs place (0, pair) in' ∙ (let zero : 0 + place ≡ place = omega arith in λ i. (zero i, sym is i)))

pub fault_from-more : (pairs : List (ℕ × ℕ)) (place : ℕ) (pair : ℕ × ℕ) → place < length pairs → pair ≡ get_or pairs place pair
    → is_at_fault (take place pairs) pair ≡ false → fault_from pairs (place + 1) ≡ fault_from pairs place
fault_from-more pairs place pair in' is sound = rw (at_place pairs place pair in' is, sound) refl

pub fault_from-here : (pairs : List (ℕ × ℕ)) (place : ℕ) (pair : ℕ × ℕ) → place < length pairs → pair ≡ get_or pairs place pair
    → is_at_fault (take place pairs) pair ≡ true → fault_from pairs place ≡ Some (place, pair)
fault_from-here pairs place pair in' is fault = rw (at_place pairs place pair in' is, fault) refl

pub fault_from-all : (pairs : List (ℕ × ℕ)) (place : ℕ) → length pairs ≤ place → fault_from pairs place ≡ None
fault_from-all pairs place past =
    let over : length (enumerate_from 0 pairs) ≤ place = rw (length-enumerate_from 0 pairs) past in
    rw (drop_all place (enumerate_from 0 pairs) over) refl
