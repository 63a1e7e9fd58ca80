use Rattle.std.proofs.Common.{◌≡◌, ◌++◌, take, drop}
use Rattle.std.specs.Prelude.{map}
use Rattle.fsa_types.specs.OplockGrants.{as_answered}
use Rattle.volume_breaks.proofs.oplock_list.keep_of.Given as goal

abbrev pub invariant-loop-row : goal.invariant-loop-row
invariant-loop-row l = l.rows ≡ map (as_answered l.handle l.level l.turn) (take l.row-index l.fn.rows) ++ drop l.row-index l.fn.rows
