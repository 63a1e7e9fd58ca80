use Rattle.std.proofs.Common.{ℕ, ◌+◌, ◌≤◌}
use Rattle.oplock_state.proofs.BeginLemmas.{AreBegun}
use Rattle.oplock_state.specs.Tables.{room_at}
use Rattle.volume_breaks.specs.Oplocks.{state_of}
use Rattle.oplock_state.proofs.oplock_table.begin_all.Given as goal

-- those before this place are broken in the tables
abbrev pub invariant-loop-place : goal.invariant-loop-place
invariant-loop-place l = record {
  begun : AreBegun l.handles.rows l.class (state_of l.list) l.list.chosen l.place l.tables l.last;
  room : (key : ℕ) → room_at l.fn.tables key ≤ room_at l.tables key;
  numbers : l.last ≤ l.list.last + l.place;
}
