use Rattle.std.proofs.Common.{rules, ◌∙◌}
use Rattle.acl_check.proofs.GenericLemmas.{map_generic-none_left, map_generic-plain}
use Rattle.acl_check.proofs.generic.map_generic.Goals as goal

pub returns-clause-mapped : goal.returns-clause-mapped
returns-clause-mapped c = search rules

pub returns-clause-none_left : goal.returns-clause-none_left
returns-clause-none_left c = rw (returns-clause-mapped c) (map_generic-none_left c.args.mask)

pub returns-clause-plain : goal.returns-clause-plain
returns-clause-plain c plain = returns-clause-mapped c ∙ map_generic-plain c.args.mask c.ranges.mask.fits plain
