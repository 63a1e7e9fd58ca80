use Rattle.std.proofs.Common.{arith, not, ◌≡◌, sym}
use Rattle.std.specs.Prelude.{◌==◌}
use Rattle.pending_queue.specs.PendingQueue.{held_among}
use Rattle.pending_queue.proofs.HeldLaws.{among-removed}
use Rattle.volume_breaks.proofs.CallLemmas.{AreCalls-filter}
use Rattle.volume_breaks.proofs.OrderLemmas.{AreInOrder-filter}
use Rattle.volume_breaks.proofs.TurnLemmas.{IsNumbered-rise, sum_of}
use Rattle.volume_breaks.proofs.WaitingLemmas.{has_wait-filter}
use Rattle.volume_breaks.proofs.pending_calls.PendingCalls.end_under.Goals as goal

pub drop_row-requires : goal.drop_row-requires
drop_row-requires c = record { differ = c.self.invariant.0.turns_differ }

pub invariant_of-self : goal.invariant_of-self
invariant_of-self c =
    let rows = c.self.inside.rows.items in (
      rw c.drop_row.ensures.items (AreCalls-filter (λ entry. not (entry.0 == c.args.turn)) rows c.self.invariant.0),
      (let places = c.self.invariant.1 in record {
        rows_fit = omega (arith, places.rows_fit, c.drop_row.ensures.room);
        calls_fit = omega (arith, places.calls_fit, c.remove-self-inside.ensures.calls_kept);
        blockers_fit = omega (arith, places.blockers_fit, c.remove-self-inside.ensures.blockers_kept);
      }),
      rw c.drop_row.ensures.items (AreInOrder-filter c.self.inside.rising (λ entry. not (entry.0 == c.args.turn)) rows c.self.invariant.2),
      rw (c.still_waits-self-inside.ensures, c.as_slice.ensures, c.drop_row.ensures.items) (has_wait-filter c.self.inside.waiting (λ entry. not (entry.0 == c.args.turn)) rows c.self.invariant.3),
      (λ is. c.drop_row.ensures.calls (sum_of rows) (IsNumbered-rise rows (c.self.invariant.2 is)) (c.self.invariant.4 is)),
      (λ is. c.drop_row.ensures.handles (sum_of rows) (IsNumbered-rise rows (c.self.invariant.2 is)) (c.self.invariant.5 is)),
      omega (arith, c.self.invariant.6, c.drop_row.ensures.kept),
    )

pub returns-clause-held : goal.returns-clause-held
returns-clause-held c = λ alive were.
    let rows = c.self.inside.rows.items in
    let held : c.self.inside.queue.held ≡ held_among alive rows = rw (← c.self.view_is) at were in
    rw (c.remove-self-inside.ensures.held, held, c.drop_row.ensures.items) (sym (among-removed alive rows c.args.turn))
