use Rattle.volume_tables.proofs.handle_table.HandleTable.opened_by.Goals as goal

pub returns : goal.returns
returns c = rw (← c.self.view_is) (c.opened_by.ensures c.self.inside.table.rows c.self.invariant.2)
