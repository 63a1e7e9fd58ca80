use Rattle.op_info.proofs.StreamLaws.{walk-default}
use Rattle.op_info.proofs.streams.default_row.Goals as goal

pub returns-in_ok-push-in-Some : goal.returns-in_ok-push-in-Some
returns-in_ok-push-in-Some c =
    rw (c.in_ok-push-in-Some.ensures.items, c.new-rows.ensures.items)
    (walk-default c.args.volume.now.content c.args.file c.in-Some.stream c.in_ok-row-in-Some.row c.in-Some.ensures.lives c.in-Some.ensures.first c.in_ok-row-in-Some.ensures)
