use Rattle.volume_tables.proofs.stream_table.StreamTable.reserve_bytes.Goals as goal

pub invariant_of-self : goal.invariant_of-self
invariant_of-self c = (rw c.reserve_in.ensures.rows c.self.invariant.0, rw c.reserve_in.ensures.room c.self.invariant.1, c.self.invariant.2)
