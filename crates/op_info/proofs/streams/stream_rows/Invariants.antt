use Rattle.std.proofs.Common.{length}
use Rattle.volume_state.specs.InOrder.{streams_after}
use Rattle.op_info.specs.Streams.{IsWalked}
use Rattle.op_info.proofs.streams.stream_rows.Given as goal

abbrev pub invariant-names : goal.invariant-names
invariant-names l = IsWalked l.volume.content l.file l.rows.items l.units

abbrev pub decreases-names : goal.decreases-names
decreases-names l = length (streams_after l.volume.content l.file l.units)
