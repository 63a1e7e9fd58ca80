-- Rows of which no cell is set: what an expression doesn't match from any place on, it doesn't match behind other units.
use Rattle.std.proofs.Common.{◌≡◌, ℕ, zero, suc, ◌+◌, ◌<◌, ◌≤◌, Bool, true, false, not, List, [], ◌∷◌, ◌++◌, length, get_or, take, drop, refl, ap, sym, ◌∙◌, arith, inl, inr, get_or-set_other}
use Rattle.std.specs.Prelude.{◌==◌, ◌&&◌}
use Rattle.std.proofs.Math.ListN.{set}
use Rattle.std.proofs.Math.Seq.{drop-length}
use Rattle.std.proofs.lemmas.Bool.{cases_Bool, cases_eq}
use Rattle.fsa_types.specs.CaseTable.{up}
use Rattle.fsa_types.specs.Match.{Sign, Star, QuestionMark, DosStar, DosQm, DosDot, Literal, sign_of, is_dot, is_last_dot, matches}
use Rattle.name_match.specs.Ends.{IsDead, cell}
use Rattle.name_match.specs.declared.ends.First.{First}
use Rattle.name_match.proofs.MatchLaws.{matches-cons}
use Rattle.name_match.proofs.RowLaws.{EndsFrom-set, IsBeingRead, matches-cons_at}

-- none of the places from this one on matches
pub record NoneFrom (table : List (ℕ × ℕ)) (expression name : List ℕ) (place : ℕ) : Type 0 where
  pub cells : (k : ℕ) → place ≤ k → k ≤ length expression → matches table (drop k expression) name ≡ false

and-none : (b : Bool) → (b && false) ≡ false
and-none true = refl
and-none false = refl

cell-dead : (sign : Sign) (first : First) → cell sign first (record { rest = false; later = false; next = false }) ≡ false
cell-dead Star first = refl
cell-dead QuestionMark first = refl
cell-dead DosStar first = and-none (not first.is_last_dot)
cell-dead DosQm first = elim (cases_Bool first.is_dot) [ inl dot ↦ rw dot refl | inr other ↦ rw other refl ]
cell-dead DosDot first = and-none first.is_dot
cell-dead Literal first = and-none first.is_same

-- a unit before a name that isn't matched from any place on
dead-unit : (table : List (ℕ × ℕ)) (expression : List ℕ) (first : ℕ) (others : List ℕ) → ((k : ℕ) → k ≤ length expression → matches table (drop k expression) others ≡ false)
    → (k : ℕ) → k ≤ length expression → matches table (drop k expression) (first ∷ others) ≡ false
dead-unit table [] first others none zero within = refl
dead-unit table [] first others none (suc k) within = absurd (omega arith)
dead-unit table (unit ∷ units) first others none zero within =
    let rest : matches table units (first ∷ others) ≡ false = dead-unit table units first others (λ k upto. none (suc k) (omega arith)) 0 (omega arith) in
    let later : matches table (unit ∷ units) others ≡ false = none 0 (omega arith) in
    let next : matches table units others ≡ false = none 1 (omega arith) in
    let cells = matches-cons table unit units first others in
    cells ∙ rw (rest, later, next) (cell-dead (sign_of unit) (record { is_same = up table unit == up table first; is_dot = is_dot first; is_last_dot = is_last_dot first others }))
dead-unit table (unit ∷ units) first others none (suc k) within = dead-unit table units first others (λ j upto. none (suc j) (omega arith)) k (omega arith)

dead-units : (table : List (ℕ × ℕ)) (expression before name : List ℕ) → ((k : ℕ) → k ≤ length expression → matches table (drop k expression) name ≡ false)
    → (k : ℕ) → k ≤ length expression → matches table (drop k expression) (before ++ name) ≡ false
dead-units table expression [] name none = none
dead-units table expression (first ∷ before) name none = dead-unit table expression first (before ++ name) (dead-units table expression before name none)

both-parts : (place : ℕ) (name : List ℕ) → take place name ++ drop place name ≡ name
both-parts zero name = refl
both-parts (suc place) [] = refl
both-parts (suc place) (first ∷ others) = ap (λ (rest : List ℕ). first ∷ rest) (both-parts place others)

-- where the rest of a name is matched from no place on, the name isn't matched
pub dead-name : (table : List (ℕ × ℕ)) (expression name : List ℕ) (place : ℕ) → IsDead table expression (drop place name) → matches table expression name ≡ false
dead-name table expression name place dead =
    let whole : matches table expression (take place name ++ drop place name) ≡ false = dead-units table expression (take place name) (drop place name) dead.cells 0 (omega arith) in
    rw (both-parts place name) at whole

-- behind the last place only the empty name is matched
pub NoneFrom-end : (table : List (ℕ × ℕ)) (expression name : List ℕ) → 0 < length name → NoneFrom table expression name (length expression)
NoneFrom-end table expression [] some = absurd (omega arith)
NoneFrom-end table expression (first ∷ others) some = record {
  cells = λ k from upto. let same : k ≡ length expression = omega arith in rw (same, drop-length expression) refl;
}

pub NoneFrom-less : (table : List (ℕ × ℕ)) (expression name : List ℕ) (place p : ℕ) → place ≡ p + 1 → matches table (drop p expression) name ≡ false → NoneFrom table expression name place → NoneFrom table expression name p
NoneFrom-less table expression name place p above here none = record {
  cells = λ k from upto. elim (cases_eq k p) [ inl same ↦ rw same here | inr other ↦ none.cells k (omega arith) upto ];
}

-- ---- one cell more of a row that is being made

-- what a cell is, of those around it
pub cell-read : (table : List (ℕ × ℕ)) (expression name : List ℕ) (row : List Bool) (next : Bool) (place p : ℕ) (same dot last b : Bool) → 0 < length name → place ≡ p + 1 → p < length expression
    → same ≡ (up table (get_or expression p 0) == up table (get_or name 0 0)) → dot ≡ is_dot (get_or name 0 0) → last ≡ is_last_dot (get_or name 0 0) (drop 1 name)
    → b ≡ cell (sign_of (get_or expression p 0)) (record { is_same = same; is_dot = dot; is_last_dot = last }) (record { rest = get_or row (p + 1) false; later = get_or row p false; next = next })
    → IsBeingRead table expression name row next place → b ≡ matches table (drop p expression) name
cell-read table expression [] row next place p same dot last b some above within of_same of_dot of_last is read = absurd (omega arith)
cell-read table expression (unit ∷ others) row next place p same dot last b some above within of_same of_dot of_last is read =
    let rest : get_or row (p + 1) false ≡ matches table (drop (p + 1) expression) (unit ∷ others) = rw above at (read.ends.cells place (omega arith) (omega arith)) in
    let later : get_or row p false ≡ matches table (drop p expression) others = read.left p (omega arith) in
    let behind : next ≡ matches table (drop (p + 1) expression) others = rw above at read.next_is in
    is ∙ rw (of_same, of_dot, of_last, rest, later, behind) (sym (matches-cons_at table expression p unit others within))

pub IsBeingRead-set : (table : List (ℕ × ℕ)) (expression name : List ℕ) (row : List Bool) (next : Bool) (place p : ℕ) (b : Bool) → place ≡ p + 1 → p < length row → b ≡ matches table (drop p expression) name
    → IsBeingRead table expression name row next place → IsBeingRead table expression name (set row p b) (get_or row p false) p
IsBeingRead-set table expression name row next place p b above within here read = record {
  ends = EndsFrom-set table expression name row place p b above within here read.ends;
  left = λ k below. get_or-set_other row p k b false (λ same. absurd (omega (arith, same))) ∙ read.left k (omega arith);
  next_is = read.left p (omega arith);
}
