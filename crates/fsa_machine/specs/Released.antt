-- How many held calls are let go: by what has ended, and by the own call of a turn.
use Rattle.std.specs.Prelude.{ℕ, ◌&&◌, Bool}
use Rattle.fsa_types.specs.declared.request.Call.{Call}
use Rattle.fsa_model.specs.Engine.{is_released, own_tried}
use Rattle.fsa_model.specs.Once.{how_many}
use Rattle.fsa_model.specs.Settling.{is_free}
use Rattle.fsa_model.specs.Volume.{Pending, Volume}
use Rattle.fsa_model.specs.Waiting.{is_held}

-- the call is held, and no living blocker holds it
abbrev pub is_held_free : Volume → ℕ × Pending → Bool
is_held_free v entry = is_held entry.1 && is_free v entry

abbrev pub how_many_let_go : Volume → ℕ
how_many_let_go v = how_many (is_held_free v) v.pending

-- how many held calls the own try of this turn lets go: it hasn't ended them, and the last of what they waited for
-- ended in it
abbrev pub how_many_released : Volume → Call → ℕ
how_many_released v call = how_many (λ entry. is_released v (own_tried v call) entry.0 entry) v.pending
