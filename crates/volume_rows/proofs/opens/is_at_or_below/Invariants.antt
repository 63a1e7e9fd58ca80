use Rattle.std.proofs.Common.{◌≡◌, length}
use Rattle.fsa_model.specs.Lookups.{leads_to}
use Rattle.volume_rows.proofs.opens.is_at_or_below.Given as goal

abbrev pub invariant-up : goal.invariant-up
invariant-up l = leads_to l.more l.links.rows l.above l.at ≡ leads_to (length l.links.rows) l.links.rows l.above l.dir

abbrev pub decreases-up : goal.decreases-up
decreases-up l = l.more
