use Rattle.std.proofs.Common.{◌≡◌, ◌≤◌, ◌+◌, drop, length}
use Rattle.fsa_machine.proofs.StallLaws.{Stalls}
use Rattle.fsa_machine.proofs.settle.end_waits.Given as goal

abbrev pub invariant-loop-id : goal.invariant-loop-id
invariant-loop-id g l = record {
  stalls : Stalls (g.S.Store.content l.fn.store) (g.S.Store.content l.store) (drop l.id-index l.waits.items) l.fn.ended.items l.ended.items;
  ends : length l.waits.items ≤ g.S.Store.spare_ends l.store + l.id-index;
  left : g.S.Store.spare_ends l.fn.store + length (g.S.Store.content l.fn.store).ended ≤ g.S.Store.spare_ends l.store + length (g.S.Store.content l.store).ended;
  pending_kept : g.S.Store.spare_pending l.fn.store ≤ g.S.Store.spare_pending l.store;
  told_room : l.ended.room ≡ l.fn.ended.room;
  room : length l.ended.items + length l.waits.items ≤ l.ended.room + l.id-index;
}
