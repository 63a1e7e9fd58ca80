use Rattle.std.proofs.Common.{◌∙◌, arith}
use Rattle.fsa_machine.proofs.StallLaws.{Stalls-step, Stalls-done, drop-index, drop-past, ends-step, room-step}
use Rattle.fsa_machine.proofs.settle.end_waits.Goals as goal

pub loop-id-preserved : goal.loop-id-preserved
loop-id-preserved g c = record {
  stalls = Stalls-step _ _ _ _ _ _ _ _ _ c.loop-id.invariant.stalls (drop-index c.as_slice-id-items.result.now c.args.waits.now.items c.loop-id.id-index _ c.loop-id-test.true c.as_slice-id-items.ensures) c.end_so.ensures.content c.end_so.ensures.told;
  ends = omega (arith, c.loop-id.invariant.ends, c.end_so.ensures.left);
  left = ends-step (g.S.Store.content c.args.store.now) (g.S.Store.content c.loop-id.store) (g.S.Store.content c.end_so.new.store) _ _ _ _ _ _ c.loop-id.invariant.left c.end_so.ensures.content c.end_so.ensures.left;
  pending_kept = omega (arith, c.loop-id.invariant.pending_kept, c.end_so.ensures.pending_kept);
  told_room = c.end_so.ensures.told_room ∙ c.loop-id.invariant.told_room;
  room = room-step _ _ _ _ _ _ _ c.loop-id.invariant.room c.end_so.ensures.told c.end_so.ensures.told_room;
}

pub returns-clause-content : goal.returns-clause-content
returns-clause-content g c = Stalls-done _ _ _ _ _ c.loop-id.invariant.stalls (drop-past c.as_slice-id-items.result.now c.args.waits.now.items c.loop-id.id-index c.loop-id-test.false c.as_slice-id-items.ensures)
