use Rattle.std.proofs.Common.{◌≡◌, drop}
use Rattle.fsa_types.specs.Access.{entries_for, walk_denies}
use Rattle.acl_check.proofs.access.walk_denies.Given as goal

abbrev pub invariant-loop-entry : goal.invariant-loop-entry
invariant-loop-entry l =
    walk_denies (entries_for l.sids (drop l.entry-index l.entries)) l.left ≡ walk_denies (entries_for l.sids l.entries) l.wanted
