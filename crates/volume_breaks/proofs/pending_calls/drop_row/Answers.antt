use Rattle.std.proofs.Common.{◌≡◌, Some, sym, ◌∙◌}
use Rattle.std.specs.List.{position}
use Rattle.std.specs.Prelude.{◌==◌}
use Rattle.fsa_types.proofs.RowLemmas.{fails-none}
use Rattle.pending_queue.proofs.CountLemmas.{without-none}
use Rattle.volume_breaks.proofs.WaitingLemmas.{removed-there}
use Rattle.volume_breaks.proofs.pending_calls.drop_row.Goals as goal

pub forget_turn-requires-clause-there : goal.forget_turn-requires-clause-there
forget_turn-requires-clause-there c = rw (c.as_slice-in-Some.ensures, ← c.as_slice.ensures) (sym c.place_of.ensures ∙ c.in-Some.is)

pub returns-in-Some-clause-items : goal.returns-in-Some-clause-items
returns-in-Some-clause-items c =
    let rows = c.args.rows.now.items in
    let found : position (λ e. e.0 == c.args.turn) rows ≡ Some c.in-Some.place = rw c.as_slice.ensures at (sym c.place_of.ensures ∙ c.in-Some.is) in
    c.remove.ensures.items ∙ removed-there rows c.in-Some.place c.args.turn c.requires.differ found

pub returns-in-Some-clause-calls : goal.returns-in-Some-clause-calls
returns-in-Some-clause-calls c last numbered is =
    let rows = c.args.rows.now.items in
    let found : position (λ e. e.0 == c.args.turn) rows ≡ Some c.in-Some.place = rw c.as_slice.ensures at (sym c.place_of.ensures ∙ c.in-Some.is) in
    rw (c.remove.ensures.items, removed-there rows c.in-Some.place c.args.turn c.requires.differ found)
    ((rw c.as_slice-in-Some.ensures at c.forget_turn.ensures.calls) last numbered is)

pub returns-in-Some-clause-handles : goal.returns-in-Some-clause-handles
returns-in-Some-clause-handles c last numbered is =
    let rows = c.args.rows.now.items in
    let found : position (λ e. e.0 == c.args.turn) rows ≡ Some c.in-Some.place = rw c.as_slice.ensures at (sym c.place_of.ensures ∙ c.in-Some.is) in
    rw (c.remove.ensures.items, removed-there rows c.in-Some.place c.args.turn c.requires.differ found)
    ((rw c.as_slice-in-Some.ensures at c.forget_turn.ensures.handles) last numbered is)

pub returns-in_default-clause-items : goal.returns-in_default-clause-items
returns-in_default-clause-items c =
    sym (without-none c.args.rows.now.items c.args.turn (fails-none c.args.rows.now.items c.args.turn (rw c.as_slice.ensures at (sym c.place_of.ensures ∙ c.in_default.is))))
