use Rattle.std.proofs.Common.{◌≡◌, ◌≤◌, ◌++◌, length, drop}
use Rattle.std.specs.Prelude.{filter, map}
use Rattle.std.specs.Vec.{vec_capacity}
use Rattle.fsa_types.specs.Oplocks.{is_awaited}
use Rattle.fsa_types.specs.OplockLists.{number_of_break}
use Rattle.volume_breaks.proofs.awaiting.await_breaks.Given as goal

-- the numbers that were set aside, and then those of the oplocks that are left, are all
abbrev pub invariant-loop-oplock : goal.invariant-loop-oplock
invariant-loop-oplock l = record {
  waited : l.waited.items ++ map (λ oplock. number_of_break l.oplocks oplock.handle) (filter (λ oplock. is_awaited l.class oplock.level oplock.target) (drop l.oplock-index l.chosen))
      ≡ map (λ oplock. number_of_break l.oplocks oplock.handle) (filter (λ oplock. is_awaited l.class oplock.level oplock.target) l.chosen);
  few : length l.waited.items ≤ l.oplock-index;
  room : vec_capacity l.fn.waited ≤ vec_capacity l.waited;
}
