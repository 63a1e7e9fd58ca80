use Rattle.std.proofs.Common.{◌≡◌, drop}
use Rattle.std.specs.Prelude.{fold}
use Rattle.fsa_types.specs.OplockGrants.{after_switches}
use Rattle.fsa_types.specs.OplockLists.{without_oplock_of}
use Rattle.volume_breaks.proofs.granting.drop_chosen.Given as goal

-- what those from this place on leave of the list as it is now is what all of them leave of it as it was
abbrev pub invariant-loop-place : goal.invariant-loop-place
invariant-loop-place l = record {
  rows : fold (λ now oplock. without_oplock_of oplock.handle now) l.oplocks.rows (drop l.place l.fn.oplocks.chosen) ≡ after_switches l.fn.oplocks.rows l.fn.oplocks.chosen;
  others : l.oplocks ≡ record l.fn.oplocks { rows = l.oplocks.rows };
}
