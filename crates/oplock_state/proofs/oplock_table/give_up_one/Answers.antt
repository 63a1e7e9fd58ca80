use Rattle.std.proofs.Common.{◌≡◌, ℕ, ◌∙◌, ap, subst, sym, true}
use Rattle.fsa_types.specs.OplockLists.{without_oplock_of}
use Rattle.fsa_types.specs.Oplocks.{Oplock}
use Rattle.fsa_model.specs.Waiting.{is_granted_under}
use Rattle.oplock_state.specs.Tables.{AreSorted, rows_at}
use Rattle.oplock_state.proofs.SortLemmas.{fit-dropped, sorted-dropped}
use Rattle.oplock_state.proofs.oplock_table.give_up_one.Goals as goal

pub returns-then-is_granted_under-clause-sorted : goal.returns-then-is_granted_under-clause-sorted
returns-then-is_granted_under-clause-sorted c = λ rows sorted.
    let handles = c.args.handles.now.rows in
    let new = c.drop_in_table.new.tables in
    let same : c.oplock.inside.handle ≡ c.args.oplock.now.handle = ap (λ (o : Oplock). o.handle) c.oplock.view_is in
    let granted : is_granted_under c.args.turn c.args.oplock.now ≡ true = sym c.is_granted_under.ensures ∙ c.if-is_granted_under.true in
    let dropped = sorted-dropped handles rows c.args.tables.now new c.oplock.inside.handle c.home_of_handle-home.result (sym c.home_of_handle-home.ensures) c.drop_in_table.ensures.own c.drop_in_table.ensures.none sorted in
    rw granted (subst (λ (handle : ℕ). AreSorted handles (without_oplock_of handle rows) new) same dropped)

pub returns-then-is_granted_under-clause-fit : goal.returns-then-is_granted_under-clause-fit
returns-then-is_granted_under-clause-fit c = λ rooms last fit.
    fit-dropped rooms last c.args.tables.now c.drop_in_table.new.tables c.home_of_handle-home.result (λ own. without_oplock_of c.oplock.inside.handle (rows_at c.args.tables.now own)) c.drop_in_table.ensures.own c.drop_in_table.ensures.none fit
