use Rattle.std.proofs.Common.{◌≡◌, ◌≤◌, ◌+◌, ◌++◌, length}
use Rattle.fsa_model.specs.Turn.{ends_between}
use Rattle.fsa_model.specs.Settling.{Reaches, how_many_free}
use Rattle.fsa_machine.specs.Released.{how_many_let_go}
use Rattle.fsa_machine.specs.Serves.{ServesOn}
use Rattle.fsa_machine.proofs.settle.take_up_all.Given as goal

abbrev pub invariant-turns : goal.invariant-turns
invariant-turns g l = record {
  reaches : Reaches (g.S.Store.content l.fn.store) l.starved.items (g.S.Store.content l.store);
  serves : ServesOn (g.S.Store.content l.fn.store) (g.S.Store.content l.store);
  ends : g.S.Store.spare_ends l.fn.store + length (g.S.Store.content l.fn.store).ended ≤ g.S.Store.spare_ends l.store + length (g.S.Store.content l.store).ended;
  pending_kept : g.S.Store.spare_pending l.fn.store ≤ g.S.Store.spare_pending l.store;
  told : l.ended.items ≡ l.fn.ended.items ++ ends_between (g.S.Store.content l.fn.store) (g.S.Store.content l.store);
  told_room : l.ended.room ≡ l.fn.ended.room;
  named_room : l.starved.room ≡ l.fn.starved.room;
  tries : l.steps + how_many_let_go (g.S.Store.content l.store) ≤ l.fn.steps + how_many_let_go (g.S.Store.content l.fn.store);
  rises : l.fn.steps ≤ l.steps;
  named : length l.starved.items + length (g.S.Store.content l.store).pending ≤ l.starved.room;
}

abbrev pub decreases-turns : goal.decreases-turns
decreases-turns g l = how_many_free (g.S.Store.content l.store)
