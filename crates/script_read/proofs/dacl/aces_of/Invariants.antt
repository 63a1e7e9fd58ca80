use Rattle.std.proofs.Common.{◌≡◌, ◌+◌, ◌-◌, ◌≤◌, length}
use Rattle.std.specs.Prelude.{◌==◌, min}
use Rattle.std.specs.List.{count_by}
use Rattle.fsa_model.specs.InformationLines.{aces_of}
use Rattle.script_read.proofs.ReadLemmas.{ahead}
use Rattle.script_read.proofs.dacl.aces_of.Given as goal

abbrev pub invariant-aces : goal.invariant-aces
invariant-aces l = record {
  read : ahead l.dacl.items (aces_of (32 - length l.dacl.items) l.rest) ≡ aces_of 32 l.bytes;
  few : length l.dacl.items ≤ 32;
  count : length l.dacl.items + count_by (λ byte. byte == 44) l.rest ≡ count_by (λ byte. byte == 44) l.bytes;
  room : l.dacl.room ≡ min (count_by (λ byte. byte == 44) l.bytes) 32;
}

abbrev pub decreases-aces : goal.decreases-aces
decreases-aces l = length l.rest
