-- The tries of a history, in order: in each turn the turn's own call is tried, and then the held calls that are
-- taken up while the turn settles.
use Rattle.std.specs.Option.{option_map_or}
use Rattle.std.specs.Prelude.{◌&&◌, not, ℕ, zero, suc, List, [], ◌∷◌, ◌++◌, length, if◌then◌else◌}
use Rattle.fsa_types.specs.declared.request.Call.{Call}
use Rattle.fsa_types.specs.declared.request.CallId.{CallId}
use Rattle.fsa_model.specs.Engine.{own_tried}
use Rattle.fsa_model.specs.History.{HistoryEntry, Run, begun, turn_on}
use Rattle.fsa_model.specs.Settle.{Settling, starves, taken_up}
use Rattle.fsa_model.specs.Setup.{Setup}
use Rattle.fsa_model.specs.Try.{try}
use Rattle.fsa_model.specs.Turn.{turn_number, volume_after}
use Rattle.fsa_model.specs.Volume.{Pending, Volume}
use Rattle.fsa_model.specs.Waiting.{is_held, next_ready}

-- a try: the volume before it, the call, and the turn in which or under which the call is tried
pub record Tried : Type 0 where
  pub before : Volume
  pub call : Call
  pub turn : ℕ

-- the volume that it leaves
abbrev pub left_by : Tried → Volume
left_by t = volume_after (try t.before t.call t.turn)

-- what is taken up is tried where it is a held call that finds memory
abbrev pub tried_in : Settling → ℕ × Pending → List Tried
tried_in s entry =
    if is_held entry.1 && not (starves s.starved entry.1) then record { before = s.volume; call = entry.1.call; turn = entry.0 } ∷ [] else []

-- the tries of so many steps of a settlement from here on
abbrev pub tries_of_steps : ℕ → Settling → List Tried
tries_of_steps zero s = []
tries_of_steps (suc more) s = option_map_or (λ entry. tried_in s entry ++ tries_of_steps more (taken_up s entry)) (next_ready s.volume) []

-- the tries of the turn of this call, in which these calls found no memory
abbrev pub tries_of_turn : Volume → Call → List CallId → List Tried
tries_of_turn v call starved =
    record { before = v; call = call; turn = turn_number v }
    ∷ tries_of_steps (length (own_tried v call).pending) (record { volume = own_tried v call; starved = starved; taken = [] })

-- the tries of these turns
abbrev pub tries_from : Run → List HistoryEntry → List Tried
tries_from r [] = []
tries_from r (entry ∷ more) =
    tries_of_turn r.volume entry.call entry.starved ++ option_map_or (λ next. tries_from next more) (turn_on r entry) []

-- the tries of a history from a fresh volume
abbrev pub tries_of : Setup → List HistoryEntry → List Tried
tries_of setup history = tries_from (begun setup) history
