use Rattle.std.proofs.Common.{◌∙◌, ap}
use Rattle.volume_breaks.specs.Calls.{Calls}
use Rattle.volume_breaks.proofs.ReleaseLemmas.{locks-more}
use Rattle.volume_breaks.proofs.releasing.release_locks.Goals as goal

pub loop-lock-preserved : goal.loop-lock-preserved
loop-lock-preserved c = record {
  held = locks-more c.args.pending.now c.loop-lock.pending c.release_lock.new.pending c.args.locks.now c.loop-lock.lock-index c.args.handle c.lock-item.result
      c.loop-lock-test.true c.lock-item.is c.loop-lock.invariant.held c.release_lock.ensures.held;
  others = c.release_lock.ensures.others ∙ ap (λ (calls : Calls). record calls { held = c.release_lock.new.pending.held }) c.loop-lock.invariant.others;
}
