use Rattle.volume_tables.proofs.handle_table.HandleTable.next_of.Goals as goal

pub returns : goal.returns
returns c = rw (← c.self.view_is) (c.next_of.ensures c.self.inside.table.rows c.self.invariant.2)
