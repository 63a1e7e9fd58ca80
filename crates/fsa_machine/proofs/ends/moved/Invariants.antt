use Rattle.std.proofs.Common.{◌≡◌, ◌+◌, ◌≤◌, ◌++◌, length, reverse, vec_len, vec_capacity}
use Rattle.fsa_machine.proofs.ends.moved.Given as goal

abbrev pub invariant-ends : goal.invariant-ends
invariant-ends l = record {
  items : l.list.items ++ reverse l.ends.items ≡ l.fn.ends.items;
  fits : length l.list.items + length l.ends.items ≤ l.list.room;
  room : l.list.room ≡ l.fn.list.room;
  capacity : vec_capacity l.ends ≡ vec_capacity l.fn.ends;
}

abbrev pub decreases-ends : goal.decreases-ends
decreases-ends l = vec_len l.ends
