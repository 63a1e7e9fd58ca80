use Rattle.std.proofs.Common.{◌≡◌, ◌-◌, ◌≤◌, length}
use Rattle.fsa_model.specs.Words.{onto}
use Rattle.fsa_model.specs.Lines.{sids_at}
use Rattle.script_read.proofs.ReadLemmas.{ahead}
use Rattle.script_read.proofs.line.sids_behind.Given as goal

abbrev pub invariant-sids : goal.invariant-sids
invariant-sids l = record {
  read : ahead l.sids.items (sids_at (16 - length l.sids.items) l.rest) ≡ onto l.first (sids_at 15 l.bytes);
  few : length l.sids.items ≤ 16;
  room : l.sids.room ≡ 16;
}

abbrev pub decreases-sids : goal.decreases-sids
decreases-sids l = length l.rest
