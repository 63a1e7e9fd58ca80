use Rattle.volume_tables.proofs.handle_table.HandleTable.some_clashes.Goals as goal

pub returns-in-Stream : goal.returns-in-Stream
returns-in-Stream c =
    let i = c.self.inside in
    rw (← c.self.view_is, c.in-Stream.is) (c.clashes_on.ensures i.table.rows c.self.invariant.4)

pub returns-in-Link : goal.returns-in-Link
returns-in-Link c =
    let i = c.self.inside in
    rw (← c.self.view_is, c.in-Link.is) (c.clashes_by.ensures i.table.rows c.self.invariant.4)
