use Rattle.std.proofs.Common.{◌≡◌, ℕ, ◌∙◌, ap, sym, true, false, None, Some, arith}
use Rattle.fsa_types.specs.Oplocks.{Oplock}
use Rattle.oplock_state.specs.Homes.{home_of_handle}
use Rattle.oplock_state.proofs.oplock_table.begin_in_table.Goals as goal

pub unreachable-requires : goal.unreachable-requires
unreachable-requires c =
    let same : c.oplock.inside.handle ≡ c.args.oplock.handle = ap (λ (o : Oplock). o.handle) c.oplock.view_is in
    let none : home_of_handle c.args.handles.now.rows c.args.oplock.handle ≡ None = ap (λ (h : ℕ). home_of_handle c.args.handles.now.rows h) (sym same) ∙ sym c.home_of_handle.ensures ∙ c.in_default.is in
    let impossible : false ≡ true = rw none at c.requires.home in
    cc

pub begin-requires-clause-rising : goal.begin-requires-clause-rising
begin-requires-clause-rising c =
    let most = c.requires.rising c.in-Some.home in
    omega arith

pub begin-requires-clause-there : goal.begin-requires-clause-there
begin-requires-clause-there c =
    let same : c.oplock.inside.handle ≡ c.args.oplock.handle = ap (λ (o : Oplock). o.handle) c.oplock.view_is in
    let found : home_of_handle c.args.handles.now.rows c.args.oplock.handle ≡ Some c.in-Some.home = ap (λ (h : ℕ). home_of_handle c.args.handles.now.rows h) (sym same) ∙ sym c.home_of_handle.ensures ∙ c.in-Some.is in
    c.requires.there c.in-Some.home found
