-- The log of changes over one turn.
use Rattle.std.proofs.Common.{◌≡◌, ℕ, List, Some, ap, sym, ◌∙◌}
use Rattle.std.specs.Prelude.{Result, Ok, Err, IfErr}
use Rattle.fsa_types.specs.declared.memory.NoMemory.{NoMemory}
use Rattle.fsa_types.specs.declared.reply.Out.{Out}
use Rattle.fsa_types.specs.declared.request.Call.{Call}
use Rattle.fsa_model.specs.History.{HistoryEntry, Run, run}
use Rattle.fsa_model.specs.Outcome.{TurnOut}
use Rattle.fsa_model.specs.Setup.{Setup}
use Rattle.fsa_model.specs.Volume.{Volume}
use Rattle.fsa_machine.specs.MachineView.{RunsTo}
use Rattle.fsa_machine.specs.Spare.{SpareTurns}
use Rattle.fsa_machine.specs.Trimmed.{trimmed_base}
use Rattle.fsa_machine.specs.declared.kept.KeptTurn.{KeptTurn}
use Rattle.fsa_machine.proofs.StandLaws.{same-run}

-- a log that is trimmed before and after begins where it did, where the volume is the same
base-stays : (v w : Volume) (base base' : ℕ) → base ≡ trimmed_base v → base' ≡ trimmed_base w → w ≡ v → base' ≡ base
base-stays v w base base' was is same = is ∙ ap (λ (u : Volume). trimmed_base u) same ∙ sym was

-- so a turn that is refused leaves the log as it was, though it is trimmed then
pub refused-stays : (result : Result Out (Call × NoMemory)) (call : Call) (v u w : Volume) (base base' : ℕ) (kept kept' : List KeptTurn) (spare spare' : SpareTurns)
    → IfErr result (λ back. (u ≡ v) × (kept' ≡ kept) × (spare' ≡ spare) × (back.0 ≡ call)) → w ≡ u → base ≡ trimmed_base v → base' ≡ trimmed_base w
    → IfErr result (λ back. (w ≡ v) × (base' ≡ base) × (kept' ≡ kept) × (spare' ≡ spare) × (back.0 ≡ call))
refused-stays (Ok out) call v u w base base' kept kept' spare spare' err same was is = tt
refused-stays (Err back) call v u w base base' kept kept' spare spare' err same was is = (same ∙ err.0, base-stays v w base base' was is (same ∙ err.0), err.1, err.2, err.3)

-- the log is trimmed to the volume of the run
pub RunsTo-trimmed : (setup : Setup) (entries : List HistoryEntry) (outs : List TurnOut) (v : Volume) (r : Run) (base : ℕ) → RunsTo setup entries outs v → run setup entries ≡ Some r → base ≡ trimmed_base v
    → base ≡ trimmed_base r.volume
RunsTo-trimmed setup entries outs v r base stands runs is = is ∙ ap (λ (u : Volume). trimmed_base u) (sym (same-run setup entries outs v r stands runs).0)
