-- What a machine keeps of a turn.
use Rattle.fsa_model.specs.History.{HistoryEntry}
use Rattle.fsa_model.specs.Outcome.{TurnOut, out_of}
use Rattle.fsa_machine.specs.declared.kept.KeptTurn.{KeptTurn}

-- the entry of the history
abbrev pub kept_entry : KeptTurn → HistoryEntry
kept_entry kept = record { call = kept.call; starved = kept.out.starved.items }

-- what it gave out
abbrev pub out_kept : KeptTurn → TurnOut
out_kept kept = out_of kept.out
