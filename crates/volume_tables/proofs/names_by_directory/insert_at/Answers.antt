use Rattle.std.proofs.Common.{◌≤◌, ◌^◌, arith}
use Rattle.volume_tables.proofs.DirectoryLaws.{index-come, index-missing, others-come, placed-come}
use Rattle.volume_tables.proofs.names_by_directory.insert_at.Goals as goal

pub returns-clause-placed : goal.returns-clause-placed
returns-clause-placed c =
    let r = c.insert_reserved-slot in
    let low : c.args.dir ≤ 2 ^ 64 = (let fits = c.ranges.dir.fits in omega arith) in
    rw c.insert.ensures.items (placed-come c.args.indexes.now r.new.self c.args.places.now.items c.args.dir r.result c.args.place c.args.index c.requires.placed low c.requires.missing r.ensures.was_vacant r.ensures.updates)

pub returns-clause-here : goal.returns-clause-here
returns-clause-here c =
    let r = c.insert_reserved-slot in
    let low : c.args.dir ≤ 2 ^ 64 = (let fits = c.ranges.dir.fits in omega arith) in
    rw c.insert.ensures.items (index-come c.args.indexes.now r.new.self c.args.places.now.items c.args.dir r.result c.args.place c.args.index c.requires.placed low c.requires.missing r.ensures.was_vacant r.ensures.updates)

pub returns-clause-none : goal.returns-clause-none
returns-clause-none c = index-missing c.args.indexes.now c.args.places.now.items c.args.dir c.args.place c.requires.placed c.requires.missing

pub returns-clause-others : goal.returns-clause-others
returns-clause-others c =
    let r = c.insert_reserved-slot in
    let low : c.args.dir ≤ 2 ^ 64 = (let fits = c.ranges.dir.fits in omega arith) in
    rw c.insert.ensures.items (others-come c.args.indexes.now r.new.self c.args.places.now.items c.args.dir r.result c.args.place c.args.index c.requires.placed low c.requires.missing r.ensures.was_vacant r.ensures.updates)
