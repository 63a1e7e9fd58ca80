use Rattle.std.proofs.Common.{arith, refl, ◌≡◌, ◌∙◌}
use Rattle.fsa_model.specs.Volume.{Pending}
use Rattle.key_index.proofs.RowLaws.{index-changed}
use Rattle.pending_queue.specs.PendingQueue.{held_among}
use Rattle.volume_breaks.specs.CallIndex.{row_call_key, row_handle_key}
use Rattle.volume_breaks.proofs.CallLemmas.{AreCalls-changed, held-changed}
use Rattle.volume_breaks.proofs.OrderLemmas.{AreInOrder-changed}
use Rattle.volume_breaks.proofs.WaitingLemmas.{has_wait-changed}
use Rattle.volume_breaks.proofs.pending_calls.PendingCalls.hold_anew.Goals as goal

pub invariant_of-self : goal.invariant_of-self
invariant_of-self c = (
  rw c.set_blockers.ensures.items (AreCalls-changed c.self.inside.rows.items c.args.turn c.args.blockers.items c.self.invariant.0),
  (let places = c.self.invariant.1 in
      let blockers = rw (← c.self.view_is) at c.requires.places in
      let waiting = rw c.as_slice.ensures at c.in-Ok.ensures.blockers_left in
      let calls = rw (rw (← c.self.view_is) at c.requires.held) at c.in-Ok.ensures.calls_left in
      record {
        rows_fit = omega (arith, places.rows_fit, c.set_blockers.ensures.room);
        calls_fit = omega (arith, places.calls_fit, calls);
        blockers_fit = omega (arith, places.blockers_fit, waiting, c.len.ensures, blockers);
      }),
  rw c.set_blockers.ensures.items (AreInOrder-changed c.self.inside.rising c.self.inside.rows.items c.args.turn c.args.blockers.items c.self.invariant.2),
  rw c.set_blockers.ensures.items (c.self.invariant.3 ∙ has_wait-changed c.self.inside.rows.items c.args.turn c.args.blockers.items),
  (λ is. rw c.set_blockers.ensures.items (index-changed row_call_key (λ (row : Pending). record row { blockers = c.args.blockers.items }) c.self.inside.rows.items c.self.inside.turns.calls c.args.turn (λ row. refl) (c.self.invariant.4 is))),
  (λ is. rw c.set_blockers.ensures.items (index-changed row_handle_key (λ (row : Pending). record row { blockers = c.args.blockers.items }) c.self.inside.rows.items c.self.inside.turns.handles c.args.turn (λ row. refl) (c.self.invariant.5 is))),
  c.self.invariant.6,
)

pub returns-clause-held : goal.returns-clause-held
returns-clause-held c = λ alive were living.
    let rows = c.self.inside.rows.items in
    let held : c.self.inside.queue.held ≡ held_among alive rows = rw (← c.self.view_is) at were in
    rw (c.in-Ok.ensures.ok, c.as_slice.ensures, held, c.set_blockers.ensures.items)
    (held-changed alive rows c.args.turn c.args.blockers.items c.self.invariant.0 (rw (← c.self.view_is) at c.requires.under) c.requires.some living)
