use Rattle.std.proofs.Common.{◌≡◌, ℕ, ◌⊎◌, true, [], slice_get, Some}
use mathlib.Core.Option.{some}
use lib.ListN.{get_elem?}
use Rattle.history_lock.proofs.close.gather.Given as goal

abbrev pub invariant-loop-pass : goal.invariant-loop-pass
invariant-loop-pass g l = record {
  place : (l.seat.table_id ≡ l.fn.seat.table_id) × (l.seat.id ≡ l.fn.seat.id) × (l.seat.me.1 ≡ []);
  view : l.seat.me.0 ≡ record l.fn.seat.me.0 { kept = l.seat.me.0.kept };
  left : (i : ℕ) (p : _) → slice_get l.passes.items i ≡ Some p → (p.seat.table_id ≡ l.top.table_id) × (p.seat.me.0.live ≡ true);
  kept : (i : ℕ) (p : _) → slice_get l.fn.passes.items i ≡ Some p → (slice_get l.passes.items i ≡ Some p) ⊎ ((k : ℕ) × (get_elem? l.seat.me.0.kept k ≡ some p.seat.me.0.own));
}

abbrev pub decreases-loop-pass : goal.decreases-loop-pass
decreases-loop-pass g l = goal.left-loop-pass g l
