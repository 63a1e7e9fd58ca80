use Rattle.std.proofs.Common.{◌∙◌, ◌+◌, sym, ap, arith, drop}
use Rattle.std.specs.Prelude.{fold}
use Rattle.fsa_model.specs.Volume.{Volume}
use Rattle.volume_breaks.specs.Breaks.{with_calls, with_switch_told}
use Rattle.volume_breaks.proofs.BreakLemmas.{fold-more, fold-all}
use Rattle.volume_breaks.proofs.granting.end_switched.Goals as goal

pub loop-oplock-preserved : goal.loop-oplock-preserved
loop-oplock-preserved c = record {
  done = λ v.
      let now : Volume = with_calls v c.loop-oplock.pending.items c.loop-oplock.ended.items in
      ap (λ w. fold with_switch_told w (drop (c.loop-oplock.oplock-index + 1) c.args.switched.now)) (c.end_one.ensures.done v)
      ∙ sym (fold-more with_switch_told now c.args.switched.now c.loop-oplock.oplock-index c.oplock-item.result c.loop-oplock-test.true c.oplock-item.is)
      ∙ c.loop-oplock.invariant.done v;
  held = λ alive were. c.end_one.ensures.held alive (c.loop-oplock.invariant.held alive were);
  room = (c.end_one.ensures.room.0 ∙ c.loop-oplock.invariant.room.0, c.end_one.ensures.room.1 ∙ c.loop-oplock.invariant.room.1);
  left = (let one = c.end_one.ensures.left in let before = c.loop-oplock.invariant.left in omega arith);
  ends = (let one = c.end_one.ensures.ends in let before = c.loop-oplock.invariant.ends in omega arith);
}

pub returns-clause-done : goal.returns-clause-done
returns-clause-done c = λ v.
    let now : Volume = with_calls v c.loop-oplock.pending.items c.loop-oplock.ended.items in
    sym (fold-all with_switch_told now c.args.switched.now c.loop-oplock.oplock-index (omega (arith, c.loop-oplock-test.false))) ∙ c.loop-oplock.invariant.done v
