use Rattle.history_laws.proofs.SameRace.{Begun-differ, Whole-begun}
use Rattle.history_laws.proofs.law.calls_made_side_by_side_differ.Goals as goal

pub returns : goal.returns
returns c = record { differ = Begun-differ; whole = Whole-begun }
