-- The literal units with which an expression begins.
use Rattle.std.proofs.Common.{◌≡◌, ℕ, suc, ◌+◌, true, List, [], ◌∷◌, refl, arith, inl, inr}
use Rattle.std.specs.Prelude.{◌==◌, nat_eq}
use Rattle.std.specs.List.{prefix_len, starts_with, take_while}
use Rattle.std.proofs.lemmas.Bool.{and_from, and_parts, cases_Bool, false≢true}
use Rattle.fsa_types.specs.CaseTable.{up, upcased}
use Rattle.fsa_types.specs.Match.{Literal, first_matches, matches, sign_of}
use Rattle.name_match.specs.Plan.{is_literal}
use Rattle.name_match.proofs.MatchLaws.{literal_sign}

-- one literal unit, and those behind it
begins-more : (table : List (ℕ × ℕ)) (unit : ℕ) (rest literal : List ℕ) (name : List ℕ)
    → ((others : List ℕ) → matches table rest others ≡ true → starts_with nat_eq (upcased table others) (upcased table literal) ≡ true)
    → first_matches table unit Literal (matches table rest) name ≡ true → starts_with nat_eq (upcased table name) (upcased table (unit ∷ literal)) ≡ true
begins-more table unit rest literal [] begins matched = absurd (false≢true matched)
begins-more table unit rest literal (first ∷ others) begins matched =
    let parts = and_parts (up table unit == up table first) (matches table rest others) matched in
    and_from (up table unit == up table first) (starts_with nat_eq (upcased table others) (upcased table literal)) parts.0 (begins others parts.1)

-- a name that is matched begins with the literal units before the first sign
pub matched-begins : (table : List (ℕ × ℕ)) (expression name : List ℕ) → matches table expression name ≡ true → starts_with nat_eq (upcased table name) (upcased table (take_while is_literal expression)) ≡ true
matched-begins table [] name matched = refl
matched-begins table (unit ∷ rest) name matched = elim (cases_Bool (is_literal unit)) [
  | inl literal ↦ (
      let itself : first_matches table unit Literal (matches table rest) name ≡ true = rw (literal_sign (sign_of unit) literal) at matched in
      let one : 1 + prefix_len is_literal rest ≡ suc (prefix_len is_literal rest) = omega arith in
      rw (literal, one) (begins-more table unit rest (take_while is_literal rest) name (matched-begins table rest) itself))
  | inr sign ↦ rw sign refl
]
