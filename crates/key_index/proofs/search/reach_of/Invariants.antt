use Rattle.std.proofs.Common.{◌<◌, ◌-◌, length}
use Rattle.key_index.proofs.search.reach_of.Given as goal

abbrev pub invariant-far : goal.invariant-far
invariant-far l = 0 < l.reach

abbrev pub decreases-far : goal.decreases-far
decreases-far l = length l.entries - l.reach
