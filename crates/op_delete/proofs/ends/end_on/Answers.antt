use Rattle.std.proofs.Common.{◌∙◌, ℕ, ap, arith, sym}
use Rattle.std.specs.Prelude.{◌==◌, ◌&&◌}
use Rattle.fsa_model.specs.Volume.{Volume, Pending}
use Rattle.op_delete.specs.declared.ends.Ending.TheVariants.{OfHandle}
use Rattle.volume_breaks.specs.CallIndex.{is_naming}
use Rattle.volume_state.specs.VolumeView.{Spare}
use Rattle.op_delete.proofs.EndLaws.{ended-first, ended-none, some-pending}
use Rattle.op_delete.proofs.ends.end_on.Goals as goal

pub end_turn-requires : goal.end_turn-requires
end_turn-requires c =
    let some = some-pending c.turns.volume.content.pending (λ (entry : ℕ × Pending). entry.0 == c.in-Some.turn && is_naming c.args.client c.args.handle entry.1) c.in-Some.ensures.there in
    omega (arith, some, c.turns.invariant.room)

pub turns-preserved : goal.turns-preserved
turns-preserved c =
    let new = c.end_turn.new.volume in
    let is = c.end_turn.ensures in
    let next = ended-first (OfHandle c.args.client c.args.handle) c.turns.volume.content new.content c.in-Some.turn c.in-Some.ensures.sound c.in-Some.ensures.there c.in-Some.ensures.least is.content in
    record {
      goes = next.goes ∙ c.turns.invariant.goes;
      rest = is.rest ∙ ap (λ (w : Volume). record w { pending = new.content.pending; ended = new.content.ended }) c.turns.invariant.rest;
      others = is.others ∙ ap (λ (s : Spare). record s { ends = new.spare.ends; pending = new.spare.pending; blockers = new.spare.blockers }) c.turns.invariant.others;
      room = omega (arith, is.count, c.turns.invariant.room);
      count = omega (arith, is.count, c.turns.invariant.count);
      ends = omega (arith, is.ends, c.turns.invariant.ends);
    }

pub turns-smaller : goal.turns-smaller
turns-smaller c =
    let is = c.end_turn.ensures in
    let next = ended-first (OfHandle c.args.client c.args.handle) c.turns.volume.content c.end_turn.new.volume.content c.in-Some.turn c.in-Some.ensures.sound c.in-Some.ensures.there c.in-Some.ensures.least is.content in
    next.less

pub returns-clause-content : goal.returns-clause-content
returns-clause-content c = sym (ended-none (OfHandle c.args.client c.args.handle) c.turns.volume.content c.in_default.ensures.none) ∙ c.turns.invariant.goes
