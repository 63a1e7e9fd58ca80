-- What it means that a line is the least at fault: which lines some script begins with.
use Rattle.std.specs.Prelude.{◌≡◌, ℕ, ◌-◌, ◌<◌, ◌≤◌, List, [], ◌∷◌, ◌++◌, Ok, length, take}
use Rattle.std.specs.List.{flat_map}
use Rattle.fsa_model.specs.Fault.{Fault}
use Rattle.fsa_model.specs.Setup.{Script}
use Rattle.fsa_model.specs.Script.{pieces, script_of}

-- these lines, each with its line feed
abbrev pub with_line_feeds : List (List ℕ) → List ℕ
with_line_feeds lines = flat_map (λ line. line ++ 10 ∷ []) lines

-- some script begins with these lines
abbrev pub BeginScript : List (List ℕ) → Type 0
BeginScript lines = (more : List ℕ) × (script : Script) × (script_of (with_line_feeds lines ++ more) ≡ Ok script)

-- some script begins with the lines before the faulty one, and none with the faulty one too, where it
-- has a line feed; what stands behind the last line feed has none
pub record IsLeast (bytes : List ℕ) (fault : Fault) : Type 0 where
  pub before : BeginScript (take (fault.line - 1) (pieces bytes))
  pub here : fault.line < length (pieces bytes) → ¬ BeginScript (take fault.line (pieces bytes))
  pub within : fault.line ≤ length (pieces bytes)
