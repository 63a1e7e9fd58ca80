use Rattle.oplock_state.proofs.oplock_table.OplockTable.give_up.Goals as goal

pub invariant_of-self : goal.invariant_of-self
invariant_of-self c =
    let i = c.self.inside in
    rw c.give_up.ensures (c.give_up_all.ensures.fit i.list.rooms i.list.last c.self.invariant)

pub returns-clause-sorted : goal.returns-clause-sorted
returns-clause-sorted c = rw c.give_up.ensures c.give_up_all.ensures.sorted
