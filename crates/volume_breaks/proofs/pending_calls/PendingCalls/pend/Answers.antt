use Rattle.std.proofs.Common.{arith, ap, ◌≡◌, ◌∙◌, Bool}
use Rattle.std.specs.Prelude.{◌||◌}
use Rattle.fsa_model.specs.Waiting.{is_wait}
use Rattle.pending_queue.specs.PendingQueue.{held_among}
use Rattle.volume_breaks.proofs.CallLemmas.{AreCalls-push, held-push}
use Rattle.volume_breaks.proofs.OrderLemmas.{AreInOrder-push}
use Rattle.volume_breaks.proofs.WaitingLemmas.{has_wait-push}
use Rattle.volume_breaks.proofs.pending_calls.PendingCalls.pend.Goals as goal

pub invariant_of-self : goal.invariant_of-self
invariant_of-self c = (
  rw c.push.ensures.items (
      AreCalls-push c.self.inside.rows.items c.args.turn (record { call = c.args.call; blockers = c.args.blockers.items }) c.self.invariant.0
      (rw (← c.self.view_is) at c.requires.new_turn) (rw (← c.self.view_is) at c.requires.new_call)),
  (let places = c.self.invariant.1 in
      let room = rw (← c.self.view_is) at c.requires.room in
      let blockers = rw (← c.self.view_is) at c.requires.places in
      let waiting = rw c.as_slice-2.ensures at c.hold.ensures.places in
      record {
        rows_fit = omega (arith, places.rows_fit, c.push.ensures.left, room);
        calls_fit = omega (arith, places.calls_fit, c.hold.ensures.room, room);
        blockers_fit = omega (arith, places.blockers_fit, waiting, c.len.ensures, blockers);
      }),
  rw c.push.ensures.items (
      AreInOrder-push c.self.inside.rising c.stays_rising-self-inside.result c.self.inside.rows.items c.args.turn (record { call = c.args.call; blockers = c.args.blockers.items }) c.self.invariant.2
      c.stays_rising-self-inside.ensures.rose (rw c.as_slice.ensures at c.stays_rising-self-inside.ensures.behind)),
  rw (c.waits_with-self-inside.ensures, c.push.ensures.items) (
      ap (λ (waiting : Bool). waiting || is_wait c.args.call.what) c.self.invariant.3
      ∙ has_wait-push c.self.inside.rows.items c.args.turn (record { call = c.args.call; blockers = c.args.blockers.items })),
  (λ is. rw c.push.ensures.items (c.add.ensures.calls c.self.inside.rows.items c.args.blockers.items (c.self.invariant.4 (c.stays_rising-self-inside.ensures.rose is)))),
  (λ is. rw c.push.ensures.items (c.add.ensures.handles c.self.inside.rows.items c.args.blockers.items (c.self.invariant.5 (c.stays_rising-self-inside.ensures.rose is)))),
  (let room = rw (← c.self.view_is) at c.requires.room in omega (arith, c.self.invariant.6, c.add.ensures.left, room)),
)

pub returns-clause-held : goal.returns-clause-held
returns-clause-held c = λ alive were living.
    let rows = c.self.inside.rows.items in
    let held : c.self.inside.queue.held ≡ held_among alive rows = rw (← c.self.view_is) at were in
    rw (c.hold.ensures.held, c.as_slice-2.ensures, held, c.push.ensures.items)
    (held-push alive rows c.args.turn c.args.call c.args.blockers.items (rw (← c.self.view_is) at c.requires.new_turn) living)
