-- Which breaks and locks are still there, by the oplocks and the locks alone.
use Rattle.std.specs.Prelude.{ℕ, Bool, List}
use Rattle.std.specs.List.{list_any}
use Rattle.fsa_types.specs.Rows.{lives}
use Rattle.fsa_types.specs.declared.reply.Blocker.{Blocker}
use Rattle.fsa_types.specs.declared.reply.Blocker.TheVariants as blocker
use Rattle.fsa_model.specs.Volume.{Lock, Oplock}
use Rattle.fsa_model.specs.Waiting.{is_breaking}

-- what blocks a call is still there
abbrev pub is_there : List Oplock → List (ℕ × Lock) → Blocker → Bool
is_there oplocks locks (blocker.Break number) = list_any (is_breaking number) oplocks
is_there oplocks locks (blocker.Lock number) = lives locks number
