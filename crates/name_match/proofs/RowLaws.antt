-- Laws of the row of an expression, which is made from its last cell to its first.
use Rattle.std.proofs.Common.{◌≡◌, ℕ, ◌+◌, ◌-◌, ◌<◌, ◌≤◌, Bool, false, List, [], ◌∷◌, length, get_or, take, drop, ap, ◌∙◌, arith, inl, inr, get_or-set_same, get_or-set_other}
use Rattle.std.specs.Prelude.{◌==◌}
use Rattle.std.proofs.Math.ListN.{set}
use Rattle.std.proofs.lemmas.Bool.{cases_eq}
use Rattle.std.proofs.lemmas.List.{drop_more, drop-drop, take_rest}
use Rattle.fsa_types.specs.CaseTable.{up}
use Rattle.fsa_types.specs.Match.{sign_of, is_dot, is_last_dot, matches}
use Rattle.name_match.specs.Ends.{cell, cell_of_empty}
use Rattle.name_match.proofs.MatchLaws.{matches-cons, matches-nil}

-- the cells from this place on say whether the expression from there on matches the name
pub record EndsFrom (table : List (ℕ × ℕ)) (expression name : List ℕ) (row : List Bool) (place : ℕ) : Type 0 where
  pub cells : (k : ℕ) → place ≤ k → k ≤ length expression → get_or row k false ≡ matches table (drop k expression) name

-- one cell more
pub EndsFrom-set : (table : List (ℕ × ℕ)) (expression name : List ℕ) (row : List Bool) (place p : ℕ) (b : Bool)
    → place ≡ p + 1 → p < length row → b ≡ matches table (drop p expression) name
    → EndsFrom table expression name row place → EndsFrom table expression name (set row p b) p
EndsFrom-set table expression name row place p b above within here ends = record {
  cells = λ k from upto. elim (cases_eq k p) [
    | inl same ↦ rw same (get_or-set_same row p b false within ∙ here)
    | inr other ↦ get_or-set_other row p k b false other ∙ ends.cells k (omega arith) upto
  ];
}

-- what a cell is, for the empty name and for another
pub matches-nil_at : (table : List (ℕ × ℕ)) (expression : List ℕ) (p : ℕ) → p < length expression
    → matches table (drop p expression) [] ≡ cell_of_empty (sign_of (get_or expression p 0)) (matches table (drop (p + 1) expression) [])
matches-nil_at table expression p within = rw (drop_more expression p 0 within) (matches-nil table (get_or expression p 0) (drop (p + 1) expression))

pub matches-cons_at : (table : List (ℕ × ℕ)) (expression : List ℕ) (p first : ℕ) (others : List ℕ) → p < length expression
    → matches table (drop p expression) (first ∷ others)
    ≡ cell (sign_of (get_or expression p 0))
    (record { is_same = up table (get_or expression p 0) == up table first; is_dot = is_dot first; is_last_dot = is_last_dot first others })
    (record {
      rest = matches table (drop (p + 1) expression) (first ∷ others);
      later = matches table (drop p expression) others;
      next = matches table (drop (p + 1) expression) others;
    })
matches-cons_at table expression p first others within =
    rw (drop_more expression p 0 within) (matches-cons table (get_or expression p 0) (drop (p + 1) expression) first others)

-- a row that is being made for the name: the cells below the place are still those for the name
-- without its first unit, and so is `next`, which was at the place
pub record IsBeingRead (table : List (ℕ × ℕ)) (expression name : List ℕ) (row : List Bool) (next : Bool) (place : ℕ) : Type 0 where
  pub ends : EndsFrom table expression name row place
  pub left : (k : ℕ) → k < place → get_or row k false ≡ matches table (drop k expression) (drop 1 name)
  pub next_is : next ≡ matches table (drop place expression) (drop 1 name)

-- the rest of a name from its place before this one on, without its first unit
pub drop-rest_before : {X : Type 0} (xs : List X) (place : ℕ) → 0 < place → drop 1 (take (length xs - (place - 1)) (drop (place - 1) xs)) ≡ drop place xs
drop-rest_before xs place after =
    let same : place - 1 + 1 ≡ place = omega arith in
    rw take_rest (drop-drop 1 (place - 1) xs ∙ ap (λ k. drop k xs) same)
