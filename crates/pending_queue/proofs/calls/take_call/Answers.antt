use Rattle.std.proofs.Common.{◌≡◌, Some, sym, ◌∙◌, ap, ℕ}
use Rattle.std.specs.List.{position}
use Rattle.std.specs.Prelude.{◌==◌}
use Rattle.fsa_types.proofs.RowLemmas.{IsAt-position, fails-none}
use Rattle.pending_queue.proofs.CountLemmas.{removed-at, row-at, row-none, without-none}
use Rattle.pending_queue.proofs.ReadyLemmas.{ready-fewer, ready-removed, ready-unremoved}
use Rattle.pending_queue.proofs.calls.take_call.Goals as goal

pub returns-in-None-clause-count : goal.returns-in-None-clause-count
returns-in-None-clause-count c = sym (row-none c.args.calls.now.items c.args.turn (fails-none c.args.calls.now.items c.args.turn (rw c.deref.ensures.value at (sym c.find_call.ensures.place ∙ c.in-None.is))))

pub returns-in-None-clause-items : goal.returns-in-None-clause-items
returns-in-None-clause-items c = sym (without-none c.args.calls.now.items c.args.turn (fails-none c.args.calls.now.items c.args.turn (rw c.deref.ensures.value at (sym c.find_call.ensures.place ∙ c.in-None.is))))

pub returns-in-Some-clause-count : goal.returns-in-Some-clause-count
returns-in-Some-clause-count c =
    let rows = c.args.calls.now.items in
    let found : position (λ e. e.0 == c.args.turn) rows ≡ Some c.in-Some.place = rw c.deref.ensures.value at (sym c.find_call.ensures.place ∙ c.in-Some.is) in
    let at = IsAt-position rows c.args.turn c.in-Some.place (0, 0) found in
    let call = c.remove-call.result in
    ap (λ (e : ℕ × ℕ). Some e.1) c.remove-call.ensures.value ∙ sym (row-at rows c.args.turn c.in-Some.place call c.requires.differ at.within (at.here call))

pub returns-in-Some-clause-items : goal.returns-in-Some-clause-items
returns-in-Some-clause-items c =
    let rows = c.args.calls.now.items in
    let found : position (λ e. e.0 == c.args.turn) rows ≡ Some c.in-Some.place = rw c.deref.ensures.value at (sym c.find_call.ensures.place ∙ c.in-Some.is) in
    let at = IsAt-position rows c.args.turn c.in-Some.place (0, 0) found in
    c.remove-call.ensures.items ∙ removed-at rows c.args.turn c.in-Some.place (0, 0) c.requires.differ at.within (at.here (0, 0))

pub returns-in-None-clause-ready : goal.returns-in-None-clause-ready
returns-in-None-clause-ready c =
    ready-unremoved c.args.calls.now.items c.args.turn (fails-none c.args.calls.now.items c.args.turn (rw c.deref.ensures.value at (sym c.find_call.ensures.place ∙ c.in-None.is)))

pub returns-in-Some-clause-ready : goal.returns-in-Some-clause-ready
returns-in-Some-clause-ready c =
    let rows = c.args.calls.now.items in
    let found : position (λ e. e.0 == c.args.turn) rows ≡ Some c.in-Some.place = rw c.deref.ensures.value at (sym c.find_call.ensures.place ∙ c.in-Some.is) in
    let at = IsAt-position rows c.args.turn c.in-Some.place (0, 0) found in
    rw c.remove-call.ensures.items (ready-removed rows c.in-Some.place c.args.turn (0, 0) c.requires.differ at.within (at.here (0, 0)))

pub returns-in-Some-clause-fewer : goal.returns-in-Some-clause-fewer
returns-in-Some-clause-fewer c =
    let rows = c.args.calls.now.items in
    let found : position (λ e. e.0 == c.args.turn) rows ≡ Some c.in-Some.place = rw c.deref.ensures.value at (sym c.find_call.ensures.place ∙ c.in-Some.is) in
    let at = IsAt-position rows c.args.turn c.in-Some.place (0, 0) found in
    ready-fewer rows c.in-Some.place c.args.turn (0, 0) c.requires.differ at.within (at.here (0, 0))
