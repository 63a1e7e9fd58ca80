use Rattle.std.proofs.Common.{take}
use Rattle.std.specs.Prelude.{fold}
use Rattle.oplock_state.specs.Tables.{AreSorted, KeepFit, given_up}
use Rattle.oplock_state.proofs.oplock_table.give_up_all.Given as goal

-- those before this place are given up in the tables
abbrev pub invariant-loop-oplock : goal.invariant-loop-oplock
invariant-loop-oplock l = record {
  sorted : AreSorted l.handles.rows (fold (given_up l.turn) l.list.rows (take l.oplock-index l.list.rows)) l.tables;
  fit : KeepFit l.fn.tables l.tables;
}
