-- The line by which the clock goes on: what its field says.
use Rattle.std.specs.Prelude.{ℕ, List, Result}
use Rattle.fsa_types.specs.declared.request.What.{What}
use Rattle.fsa_types.specs.declared.request.What.TheVariants.{Tick}
use Rattle.fsa_model.specs.Fault.{Kind, ◌>>=◌}
use Rattle.fsa_model.specs.Words.{most_id, number_at, ended}

-- how far the clock goes on
unfoldable pub tick_fields : List ℕ → Result What Kind
tick_fields bytes = do
  ticks ← number_at most_id bytes
  ended ticks.1 (Tick ticks.0)
