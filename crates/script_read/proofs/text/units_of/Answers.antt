use Rattle.script_read.proofs.ReadLemmas.{ahead-more}
use Rattle.script_read.proofs.text.units_of.Goals as goal

pub units-preserved : goal.units-preserved
units-preserved c = rw c.in_ok-push.ensures.items (ahead-more _ _ _ _ _ c.in_ok-unit.ensures.unit c.units.invariant)
