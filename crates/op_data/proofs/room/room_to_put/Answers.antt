use Rattle.op_data.proofs.room.room_to_put.Goals as goal

pub returns-clause-put : goal.returns-clause-put
returns-clause-put c = (
  c.requires.fits,
  c.in_ok-blockers.ensures.kept.bytes c.args.stream c.args.at c.args.count c.in_ok-reserve_bytes.ensures.room,
  record {
    changes = c.in_ok-blockers.ensures.needed.changes;
    units = rw (c.in_ok-blockers.ensures.content, c.in_ok-reserve_bytes.ensures.content, ← c.noted_of_write-noted.ensures, ← c.in-Some.ensures.units) c.in_ok-blockers.ensures.needed.units;
    dirs = rw (c.in_ok-blockers.ensures.content, c.in_ok-reserve_bytes.ensures.content, ← c.noted_of_write-noted.ensures, ← c.in-Some.ensures.dirs) c.in_ok-blockers.ensures.needed.dirs;
  },
)
