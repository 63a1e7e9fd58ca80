-- Laws of matching: one step of the name, and the expressions that have a straight way.
use Rattle.std.proofs.Common.{◌≡◌, ℕ, suc, ◌-◌, ◌<◌, ◌≤◌, Bool, true, false, List, [], ◌∷◌, length, drop, refl, ap, sym, ◌∙◌, arith, inl, inr}
use Rattle.std.specs.Prelude.{◌==◌, ◌&&◌, ◌||◌, nat_eq, if◌then◌else◌}
use Rattle.std.specs.List.{list_all}
use Rattle.std.specs.Cmp.Lexicographic.{unequal}
use Rattle.std.proofs.lemmas.Bool.{cases_lt, and_parts, and_from, eqb-true, cond_both, lt-leb, le-leb}
use Rattle.std.proofs.lemmas.List.{length-map}
use Rattle.fsa_types.specs.CaseTable.{up, upcased, same_name}
use Rattle.fsa_types.specs.Match.{Sign, Star, QuestionMark, DosStar, DosQm, DosDot, Literal, sign_of, is_dot, is_last_dot, star_matches, first_matches, matches}
use Rattle.name_match.specs.Plan.{is_literal, is_literal_sign, has_ending}
use Rattle.name_match.specs.ExpressionPlan.{plan_before_literals, plan_of}
use Rattle.name_match.specs.declared.plan.Plan.{Plan}
use Rattle.name_match.specs.declared.plan.Plan.TheVariants.{Every, Literal as ByLiteral, Suffix, Ends}
use Rattle.name_match.specs.Ends.{cell, cell_of_empty}

-- an expression by its first unit against a name that isn't empty, said by the cells around
first_matches-cons : (table : List (ℕ × ℕ)) (unit : ℕ) (sign : Sign) (rest : List ℕ → Bool) (first : ℕ) (others : List ℕ)
    → first_matches table unit sign rest (first ∷ others)
    ≡ cell sign (record { is_same = up table unit == up table first; is_dot = is_dot first; is_last_dot = is_last_dot first others })
    (record { rest = rest (first ∷ others); later = first_matches table unit sign rest others; next = rest others })
first_matches-cons table unit Star rest first others = refl
first_matches-cons table unit QuestionMark rest first others = refl
first_matches-cons table unit DosStar rest first others = refl
first_matches-cons table unit DosQm rest first others = refl
first_matches-cons table unit DosDot rest first others = refl
first_matches-cons table unit Literal rest first others = refl

first_matches-nil : (table : List (ℕ × ℕ)) (unit : ℕ) (sign : Sign) (rest : List ℕ → Bool)
    → first_matches table unit sign rest [] ≡ cell_of_empty sign (rest [])
first_matches-nil table unit Star rest = refl
first_matches-nil table unit QuestionMark rest = refl
first_matches-nil table unit DosStar rest = refl
first_matches-nil table unit DosQm rest = refl
first_matches-nil table unit DosDot rest = refl
first_matches-nil table unit Literal rest = refl

pub matches-cons : (table : List (ℕ × ℕ)) (unit : ℕ) (units : List ℕ) (first : ℕ) (others : List ℕ)
    → matches table (unit ∷ units) (first ∷ others)
    ≡ cell (sign_of unit) (record { is_same = up table unit == up table first; is_dot = is_dot first; is_last_dot = is_last_dot first others })
    (record { rest = matches table units (first ∷ others); later = matches table (unit ∷ units) others; next = matches table units others })
matches-cons table unit units first others = first_matches-cons table unit (sign_of unit) (matches table units) first others

pub matches-nil : (table : List (ℕ × ℕ)) (unit : ℕ) (units : List ℕ)
    → matches table (unit ∷ units) [] ≡ cell_of_empty (sign_of unit) (matches table units [])
matches-nil table unit units = first_matches-nil table unit (sign_of unit) (matches table units)

-- `*` alone matches every name
star_matches-nothing : (table : List (ℕ × ℕ)) (name : List ℕ) → star_matches (matches table []) name ≡ true
star_matches-nothing table [] = refl
star_matches-nothing table (first ∷ others) = rw (star_matches-nothing table others) refl

pub matches-star : (table : List (ℕ × ℕ)) (units name : List ℕ) → units ≡ 42 ∷ [] → matches table units name ≡ true
matches-star table units name star = rw star (star_matches-nothing table name)

-- literal units match the same name alone
pub literal_sign : (sign : Sign) → is_literal_sign sign ≡ true → sign ≡ Literal
literal_sign Literal literal = refl
literal_sign _ literal = cc

literal_matches-cons : (table : List (ℕ × ℕ)) (unit : ℕ) (units : List ℕ) (rest : List ℕ → Bool)
    → ((name : List ℕ) → rest name ≡ same_name table units name)
    → (name : List ℕ) → first_matches table unit Literal rest name ≡ same_name table (unit ∷ units) name
literal_matches-cons table unit units rest same [] = refl
literal_matches-cons table unit units rest same (first ∷ others) = ap (λ b. (up table unit == up table first) && b) (same others)

pub matches-literal : (table : List (ℕ × ℕ)) (units name : List ℕ) → list_all is_literal units ≡ true → matches table units name ≡ same_name table units name
matches-literal table [] [] literal = refl
matches-literal table [] (first ∷ others) literal = refl
matches-literal table (unit ∷ units) name literal =
    let parts = and_parts (is_literal unit) (list_all is_literal units) literal in
    rw (literal_sign (sign_of unit) parts.0) (literal_matches-cons table unit units (matches table units) (λ rest. matches-literal table units rest parts.1) name)

-- `*` before literal units matches a name that ends in them
same_name-lengths : (table : List (ℕ × ℕ)) (left right : List ℕ) → (length left ≡ length right → ⊥) → same_name table left right ≡ false
same_name-lengths table left right differ =
    unequal nat_eq (upcased table left) (upcased table right) (λ e. differ (sym (length-map left (up table)) ∙ e ∙ length-map right (up table)))

or-false : (b : Bool) → (b || false) ≡ b
or-false true = refl
or-false false = refl

module _ (table : List (ℕ × ℕ)) (literal : List ℕ) (rest : List ℕ → Bool) (same : (name : List ℕ) → rest name ≡ same_name table literal name) where
  -- a name that is too short
  star_matches-short : (name : List ℕ) → length name < length literal → star_matches rest name ≡ false
  star_matches-short [] short = same [] ∙ same_name-lengths table literal [] (λ e. absurd (omega arith))
  star_matches-short (first ∷ others) short =
      let here : rest (first ∷ others) ≡ false = same (first ∷ others) ∙ same_name-lengths table literal (first ∷ others) (λ e. absurd (omega arith)) in
      rw here (star_matches-short others (omega arith))

  star_matches-long : (name : List ℕ) → length literal ≤ length name → star_matches rest name ≡ same_name table literal (drop (length name - length literal) name)
  star_matches-long [] long = let none : 0 - length literal ≡ 0 = omega arith in rw none (same [])
  star_matches-long (first ∷ others) long =
      elim (cases_lt (length others) (length literal)) [
        | inl short ↦ (
            let none : suc (length others) - length literal ≡ 0 = omega arith in
            rw (none, star_matches-short others short) (or-false (rest (first ∷ others)) ∙ same (first ∷ others)))
        | inr long ↦ (
            let here : rest (first ∷ others) ≡ false = same (first ∷ others) ∙ same_name-lengths table literal (first ∷ others) (λ e. absurd (omega arith)) in
            let more : suc (length others) - length literal ≡ suc (length others - length literal) = omega arith in
            rw (more, here) (star_matches-long others long))
      ]

  star_matches-literal : (name : List ℕ) → star_matches rest name ≡ has_ending table literal name
  star_matches-literal name =
      elim (cases_lt (length name) (length literal)) [
        | inl short ↦ rw (lt-leb (length literal) (length name) short) (star_matches-short name short)
        | inr long ↦ rw (le-leb (length literal) (length name) long) (star_matches-long name long)
      ]

-- the units are `*` and then literal ones
abbrev pub IsStarAndLiterals : List ℕ → Type 0
IsStarAndLiterals [] = ⊥
IsStarAndLiterals (unit ∷ units) = (unit ≡ 42) × (list_all is_literal units ≡ true)

pub matches-suffix : (table : List (ℕ × ℕ)) (units name : List ℕ) → IsStarAndLiterals units → matches table units name ≡ has_ending table (drop 1 units) name
matches-suffix table [] name star = absurd star
matches-suffix table (unit ∷ units) name star =
    rw star.0 (star_matches-literal table units (matches table units) (λ rest. matches-literal table units rest star.1) name)

-- what is known of the units of a plan
abbrev pub Serves : Plan → List ℕ → Type 0
Serves Every units = units ≡ 42 ∷ []
Serves ByLiteral units = list_all is_literal units ≡ true
Serves Suffix units = IsStarAndLiterals units
Serves Ends units = Unit {0}

star_alone : (unit : ℕ) (units : List ℕ) → unit ≡ 42 → (length units == 0) ≡ true → unit ∷ units ≡ 42 ∷ []
star_alone unit [] star none = rw star refl
star_alone unit (next ∷ units) star none =
    let empty : suc (length units) ≡ 0 = eqb-true (suc (length units)) 0 none in
    absurd (omega arith)

plan_of-serves : (units : List ℕ) → Serves (plan_of units) units
plan_of-serves [] = refl
plan_of-serves (unit ∷ units) =
    let Serving : Plan → Type 0 = λ plan. Serves plan (unit ∷ units) in
    cond_both (list_all is_literal units) (plan_before_literals unit units) Ends Serving
    (λ literal.
    cond_both (unit == 42) (if length units == 0 then Every else Suffix) (if is_literal unit then ByLiteral else Ends) Serving
    (λ star. cond_both (length units == 0) Every Suffix Serving (λ none. star_alone unit units (eqb-true unit 42 star) none) (λ some. (eqb-true unit 42 star, literal)))
    (λ other. cond_both (is_literal unit) ByLiteral Ends Serving (λ itself. and_from (is_literal unit) (list_all is_literal units) itself literal) (λ sign. tt)))
    (λ mixed. tt)

pub planned-serves : (plan : Plan) (units : List ℕ) → plan ≡ plan_of units → Serves plan units
planned-serves plan units planned = rw planned (plan_of-serves units)
