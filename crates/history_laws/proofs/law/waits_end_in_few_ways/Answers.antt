use Rattle.history_laws.proofs.SettledWaits.{waits-settle}
use Rattle.history_laws.proofs.Stalling.{waits-stall}
use Rattle.history_laws.proofs.WaitRuns.{waits-end}
use Rattle.history_laws.proofs.law.waits_end_in_few_ways.Goals as goal

pub returns : goal.returns
returns c = record { ends = waits-end; stalled = waits-stall; settled = waits-settle }
