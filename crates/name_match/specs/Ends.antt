-- The row that stands for an expression against a name: for each place of the expression, whether
-- what stands from there on matches.
use Rattle.std.specs.Prelude.{ℕ, ◌≡◌, ◌≤◌, ◌<◌, Bool, false, not, ◌&&◌, ◌||◌, List, length, drop, slice_index, slice_index_or, if◌then◌else◌}
use Rattle.fsa_types.specs.CaseTable.{up}
use Rattle.fsa_types.specs.Match.{matches, Sign, Star, QuestionMark, DosStar, DosQm, DosDot, Literal}
use Rattle.name_match.specs.declared.ends.First.{First}
use Rattle.name_match.specs.declared.ends.Around.{Around}

-- each cell says whether the expression from its place on matches the name
pub record AreEnds (table : List (ℕ × ℕ)) (expression name : List ℕ) (row : List Bool) : Type 0 where
  pub cells : (k : ℕ) → k ≤ length expression
      → slice_index_or row k false ≡ matches table (drop k expression) name

-- from none of its places on the expression matches the name
pub record IsDead (table : List (ℕ × ℕ)) (expression name : List ℕ) : Type 0 where
  pub cells : (k : ℕ) → k ≤ length expression → matches table (drop k expression) name ≡ false

-- the row begins with these units, upcased
pub record BeginsUpcased (table : List (ℕ × ℕ)) (units row : List ℕ) : Type 0 where
  pub cells : (k : ℕ) → k < length units → slice_index row k ≡ up table (slice_index units k)

-- an expression by its first unit, against the empty name
abbrev pub cell_of_empty : Sign → Bool → Bool
cell_of_empty Star rest = rest
cell_of_empty QuestionMark rest = false
cell_of_empty DosStar rest = rest
cell_of_empty DosQm rest = rest
cell_of_empty DosDot rest = rest
cell_of_empty Literal rest = false

-- an expression by its first unit, against a name that isn't empty
abbrev pub cell : Sign → First → Around → Bool
cell Star first around = around.rest || around.later
cell QuestionMark first around = around.next
cell DosStar first around = around.rest || (not first.is_last_dot && around.later)
cell DosQm first around = if first.is_dot then around.rest else around.next
cell DosDot first around = first.is_dot && around.next
cell Literal first around = first.is_same && around.next
