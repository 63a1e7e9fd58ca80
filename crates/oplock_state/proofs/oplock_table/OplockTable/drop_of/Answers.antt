use Rattle.std.proofs.Common.{sym}
use Rattle.fsa_types.specs.OplockLists.{without_oplock_of}
use Rattle.oplock_state.specs.Tables.{AreSorted, rows_at}
use Rattle.oplock_state.proofs.SortLemmas.{fit-dropped, sorted-dropped}
use Rattle.oplock_state.proofs.oplock_table.OplockTable.drop_of.Goals as goal

pub invariant_of-self : goal.invariant_of-self
invariant_of-self c =
    let i = c.self.inside in
    rw c.drop_of.ensures
    (fit-dropped i.list.rooms i.list.last i.tables c.drop_in_table.new.tables c.home_of_handle.result (λ own. without_oplock_of c.args.handle (rows_at i.tables own)) c.drop_in_table.ensures.own c.drop_in_table.ensures.none c.self.invariant)

pub returns-clause-sorted : goal.returns-clause-sorted
returns-clause-sorted c =
    let i = c.self.inside in
    let handles = c.args.handles.now.rows in
    let sorted : AreSorted handles i.list.rows i.tables = rw (← c.self.view_is) at c.requires.sorted in
    rw c.drop_of.ensures
    (sorted-dropped handles i.list.rows i.tables c.drop_in_table.new.tables c.args.handle c.home_of_handle.result (sym c.home_of_handle.ensures) c.drop_in_table.ensures.own c.drop_in_table.ensures.none sorted)
