use Rattle.std.proofs.Common.{◌∙◌, arith}
use Rattle.fsa_model.specs.Outcome.{out_of}
use Rattle.fsa_top.proofs.SummaryLaws.{statuses-all, statuses-turn}
use Rattle.fsa_top.proofs.summary.statuses_in.Goals as goal

pub loop-turn-preserved : goal.loop-turn-preserved
loop-turn-preserved c = λ r runs.
    c.in_ok-push_statuses.ensures ∙ statuses-turn r.outs c.loop-turn.turn (out_of c.out_at.result.now) c.loop-turn.ends.items (c.out_at.ensures r runs) (c.loop-turn.invariant r runs)

pub returns : goal.returns
returns c = λ r runs.
    statuses-all c.args.machine.now.setup c.args.machine.now.entries r c.loop-turn.turn c.loop-turn.ends.items runs
    (omega (arith, c.loop-turn-test.false, c.loop-turn.auto.turn-end, c.len-turn-end.ensures)) (c.loop-turn.invariant r runs)
