use Rattle.std.proofs.Common.{sym, ap, ◌∙◌, arith}
use Rattle.volume_state.specs.VolumeView.{Spare}
use Rattle.op_delete.proofs.EndLaws.{IsEnding-first, IsEnding-last, IsEnding-turn}
use Rattle.op_delete.proofs.ends.end_each.Goals as goal

pub turns-init : goal.turns-init
turns-init c = record {
  ending = IsEnding-first c.args.ending c.args.volume.now.content c.end_turn.new.volume.content c.in-Some.first c.in-Some.ensures.sound c.in-Some.ensures.lives c.in-Some.ensures.least
      c.end_turn.ensures.content c.end_turn.ensures.rest;
  others = c.end_turn.ensures.others;
  room = omega (arith, c.end_turn.ensures.count, c.requires);
  count = c.end_turn.ensures.count;
  ends = c.end_turn.ensures.ends;
}

pub turns-preserved : goal.turns-preserved
turns-preserved c = record {
  ending = IsEnding-turn c.args.ending c.args.volume.now.content c.turns.volume.content c.end_turn-in-Some-next_pending.new.volume.content c.turns.after c.in-Some-next_pending.turn c.turns.invariant.ending
      c.in-Some-next_pending.ensures.sound (sym c.in-Some-next_pending.ensures.found) c.in-Some-next_pending.ensures.after c.in-Some-next_pending.ensures.lives c.end_turn-in-Some-next_pending.ensures.content
      c.end_turn-in-Some-next_pending.ensures.rest;
  others = c.end_turn-in-Some-next_pending.ensures.others
      ∙ ap (λ (s : Spare). record s { ends = c.end_turn-in-Some-next_pending.new.volume.spare.ends; pending = c.end_turn-in-Some-next_pending.new.volume.spare.pending; blockers = c.end_turn-in-Some-next_pending.new.volume.spare.blockers })
      c.turns.invariant.others;
  room = omega (arith, c.end_turn-in-Some-next_pending.ensures.count, c.turns.invariant.room);
  count = omega (arith, c.end_turn-in-Some-next_pending.ensures.count, c.turns.invariant.count);
  ends = omega (arith, c.end_turn-in-Some-next_pending.ensures.ends, c.turns.invariant.ends);
}

pub returns-clause-content : goal.returns-clause-content
returns-clause-content c =
    IsEnding-last c.args.ending c.args.volume.now.content c.turns.volume.content c.turns.after c.turns.invariant.ending c.in_default-next_pending.ensures.none
