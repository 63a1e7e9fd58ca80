use Rattle.op_info.proofs.StreamLaws.{walk-fewer, walk-more}
use Rattle.op_info.proofs.streams.stream_rows.Goals as goal

pub names-smaller : goal.names-smaller
names-smaller c =
    walk-fewer c.args.volume.now.content c.args.file c.names.units.now c.units_of-units.result.now c.in-Some.stream c.in-Some.ensures.lives c.in-Some.ensures.rest c.units_of-units.ensures

pub names-preserved : goal.names-preserved
names-preserved c =
    rw c.in_ok-push.ensures.items
    (walk-more c.args.volume.now.content c.args.file c.names.units.now c.units_of-units.result.now c.names.rows.items c.in-Some.stream c.in_ok-row.row c.in-Some.ensures.lives c.in-Some.ensures.rest
    c.in_ok-row.ensures c.units_of-units.ensures c.names.invariant)
