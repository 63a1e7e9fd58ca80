use Rattle.std.proofs.Common.{◌≡◌, ◌-◌, Some, sym, ◌∙◌, ap}
use Rattle.std.specs.List.{position}
use Rattle.std.specs.Prelude.{◌==◌}
use Rattle.fsa_types.proofs.RowLemmas.{IsAt-position, fails-none}
use Rattle.pending_queue.specs.Lists.{turns_of}
use Rattle.pending_queue.proofs.CountLemmas.{changed-at, changed-none, turns-changed}
use Rattle.pending_queue.proofs.ReadyLemmas.{ready-fewer, ready-lowered}
use Rattle.pending_queue.proofs.calls.count_down.Goals as goal

pub returns-in-Some-clause-items : goal.returns-in-Some-clause-items
returns-in-Some-clause-items c =
    let rows = c.args.calls.now.items in
    let entry = c.index_mut.result.now in
    let found : position (λ e. e.0 == c.args.turn) rows ≡ Some c.in-Some.place = rw c.deref.ensures.value at (sym c.place_of.ensures.place ∙ c.in-Some.is) in
    let at = IsAt-position rows c.args.turn c.in-Some.place entry found in
    let number : entry.0 ≡ c.args.turn = ap (λ e. e.0) c.index_mut.ensures.value ∙ at.here entry in
    rw (c.lower.ensures.call, number, c.index_mut.ensures.value) (changed-at (λ count. count - 1) rows c.args.turn c.in-Some.place entry c.requires.differ at.within (at.here entry))

pub returns-in-Some-clause-turns : goal.returns-in-Some-clause-turns
returns-in-Some-clause-turns c = ap turns_of (returns-in-Some-clause-items c) ∙ turns-changed (λ count. count - 1) c.args.calls.now.items c.args.turn

pub returns-in-Some-clause-ready : goal.returns-in-Some-clause-ready
returns-in-Some-clause-ready c =
    let rows = c.args.calls.now.items in
    let entry = c.index_mut.result.now in
    let found : position (λ e. e.0 == c.args.turn) rows ≡ Some c.in-Some.place = rw c.deref.ensures.value at (sym c.place_of.ensures.place ∙ c.in-Some.is) in
    let at = IsAt-position rows c.args.turn c.in-Some.place entry found in
    let number : entry.0 ≡ c.args.turn = ap (λ e. e.0) c.index_mut.ensures.value ∙ at.here entry in
    rw (c.lower.ensures.call, c.lower.ensures.none, number, c.index_mut.ensures.value) (ready-lowered rows c.in-Some.place c.args.turn entry c.requires.differ at.within (at.here entry))

pub returns-in-None-clause-items : goal.returns-in-None-clause-items
returns-in-None-clause-items c = sym (changed-none (λ count. count - 1) c.args.calls.now.items c.args.turn
    (fails-none c.args.calls.now.items c.args.turn (rw c.deref.ensures.value at (sym c.place_of.ensures.place ∙ c.in-None.is))))

pub returns-in-Some-clause-fewer : goal.returns-in-Some-clause-fewer
returns-in-Some-clause-fewer c none =
    let rows = c.args.calls.now.items in
    let found : position (λ e. e.0 == c.args.turn) rows ≡ Some c.in-Some.place = rw c.deref.ensures.value at (sym c.place_of.ensures.place ∙ c.in-Some.is) in
    let at = IsAt-position rows c.args.turn c.in-Some.place (0, 0) found in
    ready-fewer rows c.in-Some.place c.args.turn (0, 0) c.requires.differ at.within (at.here (0, 0))
