use Rattle.shared_volume.specs.Shared.{IsPass, OnlySees}
use Rattle.shared_volume.proofs.shared.SharedVolume.status_of.Given as goal

abbrev pub invariant-loop : goal.invariant-loop
invariant-loop g l = record {
  pass : IsPass l.fn.self l.pass;
  sees : OnlySees l.fn.pass.seat.me.0 l.pass.seat.me.0;
}
