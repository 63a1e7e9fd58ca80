use Rattle.std.proofs.Common.{◌∙◌, ap}
use Rattle.volume_breaks.specs.Calls.{Calls}
use Rattle.volume_breaks.proofs.ReleaseLemmas.{breaks-more}
use Rattle.volume_breaks.proofs.releasing.release_breaks.Goals as goal

pub loop-oplock-preserved : goal.loop-oplock-preserved
loop-oplock-preserved c = record {
  held = breaks-more c.args.pending.now c.loop-oplock.pending c.release_break.new.pending c.args.oplocks.now c.loop-oplock.oplock-index c.args.handle c.oplock-item.result
      c.loop-oplock-test.true c.oplock-item.is c.loop-oplock.invariant.held c.release_break.ensures.held;
  others = c.release_break.ensures.others ∙ ap (λ (calls : Calls). record calls { held = c.release_break.new.pending.held }) c.loop-oplock.invariant.others;
}
