use Rattle.std.proofs.Common.{eqb}
use Rattle.names.proofs.CutLemmas.{slice_split-None, slice_split-Some}
use Rattle.names.proofs.unit_split.split_once.Goals as goal

pub returns-in-None-clause-parts : goal.returns-in-None-clause-parts
returns-in-None-clause-parts c = slice_split-None (λ unit. eqb unit c.args.at) c.args.units.now c.in-None.ensures

pub returns-in-Some-clause-parts : goal.returns-in-Some-clause-parts
returns-in-Some-clause-parts c = slice_split-Some (λ unit. eqb unit c.args.at) c.args.units.now c.in-Some.place c.in-Some.ensures
