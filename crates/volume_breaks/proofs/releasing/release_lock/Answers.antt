use Rattle.std.proofs.Common.{ℕ, eq-eqb}
use Rattle.fsa_model.specs.Volume.{Lock}
use Rattle.volume_breaks.proofs.ReleaseLemmas.{lose-lock}
use Rattle.volume_breaks.proofs.releasing.release_lock.Goals as goal

pub returns-then-lock-handle-clause-held : goal.returns-then-lock-handle-clause-held
returns-then-lock-handle-clause-held c =
    let its = c.lock.inside.0.1.0 in
    let lock : ℕ × Lock = (c.lock.inside.0.0, record { handle = its.handle; at = its.at; count = its.count; exclusive = its.exclusive }) in
    rw (c.ended.ensures, ← c.lock.view_is) (lose-lock c.args.pending.now lock c.args.handle (eq-eqb its.handle c.args.handle c.if-lock-handle.true))
