use Rattle.std.proofs.Common.{◌≡◌, Some, take}
use Rattle.std.specs.List.{flat_map}
use Rattle.fsa_model.specs.History.{Run, run}
use Rattle.fsa_model.specs.Summary.{statuses_of}
use Rattle.fsa_top.proofs.summary.statuses_in.Given as goal

abbrev pub invariant-loop-turn : goal.invariant-loop-turn
invariant-loop-turn l = (r : Run) → run l.machine.setup l.machine.entries ≡ Some r → l.ends.items ≡ flat_map statuses_of (take l.turn r.outs)
