use Rattle.std.proofs.Common.{eq-eqb, sym, ◌∙◌}
use Rattle.fsa_model.specs.Volume.{Oplock}
use Rattle.volume_breaks.proofs.ReleaseLemmas.{lose-break}
use Rattle.volume_breaks.proofs.releasing.release_break.Goals as goal

pub returns-then-is_some-clause-held : goal.returns-then-is_some-clause-held
returns-then-is_some-clause-held c =
    let its = c.oplock.inside in
    let oplock : Oplock = record { handle = its.handle; key = its.key; level = its.level; target = its.target; number = its.number; call = its.call } in
    rw (c.ended.ensures, ← c.oplock.view_is)
    (lose-break c.args.pending.now oplock c.args.handle (eq-eqb its.handle c.args.handle c.if-oplock-handle.true) (sym c.is_some.ensures ∙ c.if-is_some.true))
