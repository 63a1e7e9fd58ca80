use Rattle.std.proofs.Common.{◌∙◌, sym, arith}
use Rattle.volume_state.proofs.DueLaws.{among-end, among-more}
use Rattle.volume_state.proofs.due.next_among.Goals as goal

pub loop-row-preserved : goal.loop-row-preserved
loop-row-preserved c =
    among-more c.args.volume.now.content c.args.rows.now c.args.pending.now c.loop-row.row-index _ c.loop-row.first c.next_on-first.result c.loop-row-test.true c.next_on-first.ensures
    ∙ c.loop-row.invariant

pub returns : goal.returns
returns c =
    let past = c.loop-row-test.false in
    sym (among-end c.args.volume.now.content c.args.rows.now c.args.pending.now c.loop-row.row-index c.loop-row.first (omega arith)) ∙ c.loop-row.invariant
