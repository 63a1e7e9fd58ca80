-- The lines that wait for a call or cancel one: what their field says.
use Rattle.std.specs.Prelude.{ℕ, List, Result}
use Rattle.fsa_types.specs.declared.request.What.{What}
use Rattle.fsa_types.specs.declared.request.What.TheVariants.{Ask, WaitFor}
use Rattle.fsa_types.specs.declared.request.Request.TheVariants.{Cancel}
use Rattle.fsa_model.specs.Fault.{Kind, ◌>>=◌}
use Rattle.fsa_model.specs.Words.{most_id, number_at, ended}

-- the number of a call of the same client
unfoldable pub cancel_fields : List ℕ → Result What Kind
cancel_fields bytes = do
  number ← number_at most_id bytes
  ended number.1 (Ask (Cancel number.0))

-- the number of a call of the same client
unfoldable pub wait_fields : List ℕ → Result What Kind
wait_fields bytes = do
  number ← number_at most_id bytes
  ended number.1 (WaitFor number.0)
