use Rattle.std.proofs.Common.{◌≡◌, ◌≤◌, ◌+◌, ◌++◌, map, take}
use Rattle.pending_queue.proofs.waits.Waits.add.Given as goal

abbrev pub invariant-loop-blocker : goal.invariant-loop-blocker
invariant-loop-blocker l = record {
  entries : l.self.entries ≡ l.fn.self.entries ++ map (λ blocker. (l.turn, blocker)) (take l.blocker-index l.blockers);
  left : l.fn.self.room ≤ l.self.room + l.blocker-index;
}
