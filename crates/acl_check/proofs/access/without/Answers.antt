use Rattle.acl_check.proofs.BitLemmas.{and_not-without}
use Rattle.acl_check.proofs.access.without.Goals as goal

pub returns : goal.returns
returns c = and_not-without c.args.mask c.args.bits c.ranges.mask.fits c.ranges.bits.fits
