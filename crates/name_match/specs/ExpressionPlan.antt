-- Which plan an expression has: the straight way, where there is one.
use Rattle.std.specs.Prelude.{ℕ, ◌≤◌, ◌≡◌, ◌==◌, List, [], ◌∷◌, length, if◌then◌else◌}
use Rattle.std.specs.List.{list_all}
use Rattle.fsa_types.specs.Paths.{most_name_units}
use Rattle.name_match.specs.Plan.{is_literal}
use Rattle.name_match.specs.declared.plan.Plan.{Plan}
use Rattle.name_match.specs.declared.plan.Plan.TheVariants.{Every, Literal, Suffix, Ends}

-- the plan for a unit and literal ones after it
abbrev pub plan_before_literals : ℕ → List ℕ → Plan
plan_before_literals unit units =
    if unit == 42 then (if length units == 0 then Every else Suffix)
    else if is_literal unit then Literal
    else Ends

-- `*` alone, literal units alone (or none), and `*` before literal units have a straight way
abbrev pub plan_of : List ℕ → Plan
plan_of [] = Literal
plan_of (unit ∷ units) = if list_all is_literal units then plan_before_literals unit units else Ends

-- an expression has at most most_name_units units, and the plan for them
pub record IsExpression (units : List ℕ) (plan : Plan) : Type 0 where
  pub short : length units ≤ most_name_units
  pub planned : plan ≡ plan_of units
