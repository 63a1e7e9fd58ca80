use Rattle.fsa_types.proofs.OplockLemmas.{CanHave-effect}
use Rattle.fsa_types.specs.OplockLists.{effect_on, CanHave}
use Rattle.volume_breaks.proofs.telling.break_one.Goals as goal

pub apply-requires-clause-fits : goal.apply-requires-clause-fits
apply-requires-clause-fits c =
    let can : CanHave (effect_on c.args.class c.args.oplock) c.args.oplock.handle c.args.oplocks.now.rows = CanHave-effect c.args.class c.args.oplock c.args.oplocks.now.rows c.requires.sound c.requires.copy in
    rw (c.effect-done.ensures, ← c.oplock.view_is) (rw (← c.oplock.view_is) at can)
