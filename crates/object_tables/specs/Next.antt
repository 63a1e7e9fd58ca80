-- The row of the least number above another.
use Rattle.std.specs.Prelude.{ℕ, ◌<◌, ◌≤◌, List, Option, IfNone, IfSome, IsTrue, find, nat_lt, option_map}
use Rattle.fsa_types.specs.Rows.{lives}

-- the number of the first row above this one, among rows whose numbers rise
abbrev pub next_number_after : {R : Type 0} → List (ℕ × R) → ℕ → Option ℕ
next_number_after rows after = option_map (λ row. row.0) (find (λ row. nat_lt after row.0) rows)

-- it is that of a row, above `after`, and none of a row stands between; where there is none, no row is above
pub record IsNext {R : Type 0} (rows : List (ℕ × R)) (after : ℕ) (next : Option ℕ) : Type 0 where
  pub live : IfSome next (λ id. IsTrue (lives rows id))
  pub above : IfSome next (λ id. after < id)
  pub least : IfSome next (λ id. (other : ℕ) → IsTrue (lives rows other) → after < other → id ≤ other)
  pub none : IfNone next ((other : ℕ) → IsTrue (lives rows other) → other ≤ after)
