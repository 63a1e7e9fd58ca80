use Rattle.std.proofs.Common.{◌≡◌, ℕ, arith, Some, sym, ◌∙◌, length, true}
use Rattle.std.proofs.Math.ListN.{length-set}
use Rattle.std.specs.List.{position}
use Rattle.std.specs.Vec.{vec_len}
use Rattle.std.specs.Prelude.{◌==◌}
use Rattle.fsa_types.specs.Rows.{lives}
use Rattle.fsa_types.proofs.RowLemmas.{IsAt-position, fails-none}
use Rattle.pending_queue.proofs.CountLemmas.{changed-at, length-there, lives-at}
use Rattle.pending_queue.proofs.ReadyLemmas.{ready-fewer, ready-pushed, ready-pushed-fewer, ready-set}
use Rattle.pending_queue.proofs.calls.put_count.Goals as goal

pub returns-in-Some-clause-ok : goal.returns-in-Some-clause-ok
returns-in-Some-clause-ok c =
    let rows = c.args.calls.now.items in
    let found : position (λ e. e.0 == c.args.turn) rows ≡ Some c.in-Some.place = rw c.deref.ensures.value at (sym c.find_call.ensures.place ∙ c.in-Some.is) in
    let at = IsAt-position rows c.args.turn c.in-Some.place (0, 0) found in
    let there : lives rows c.args.turn ≡ true = lives-at rows c.args.turn c.in-Some.place (0, 0) at.within (at.here (0, 0)) in
    rw there (changed-at (λ _. c.args.count) rows c.args.turn c.in-Some.place (0, 0) c.requires.differ at.within (at.here (0, 0)))

pub returns-in-Some-clause-len : goal.returns-in-Some-clause-len
returns-in-Some-clause-len c =
    let rows = c.args.calls.now.items in
    let found : position (λ e. e.0 == c.args.turn) rows ≡ Some c.in-Some.place = rw c.deref.ensures.value at (sym c.find_call.ensures.place ∙ c.in-Some.is) in
    let at = IsAt-position rows c.args.turn c.in-Some.place (0, 0) found in
    let there : lives rows c.args.turn ≡ true = lives-at rows c.args.turn c.in-Some.place (0, 0) at.within (at.here (0, 0)) in
    let long : length rows ≡ vec_len c.args.calls.now = rw c.deref.ensures.value at c.deref.ensures.len in
    sym long ∙ length-there rows c.args.turn c.args.count there

pub returns-in_ok-push-in-None-clause-ready : goal.returns-in_ok-push-in-None-clause-ready
returns-in_ok-push-in-None-clause-ready c =
    let rows = c.args.calls.now.items in
    let apart = fails-none rows c.args.turn (rw c.deref.ensures.value at (sym c.find_call.ensures.place ∙ c.in-None.is)) in
    rw c.in_ok-push-in-None.ensures.items (ready-pushed rows c.args.turn c.args.count apart)

pub returns-in_ok-push-in-None-clause-fewer : goal.returns-in_ok-push-in-None-clause-fewer
returns-in_ok-push-in-None-clause-fewer c =
    let rows = c.args.calls.now.items in
    let apart = fails-none rows c.args.turn (rw c.deref.ensures.value at (sym c.find_call.ensures.place ∙ c.in-None.is)) in
    rw c.in_ok-push-in-None.ensures.items (ready-pushed-fewer rows c.args.turn c.args.count apart)

pub returns-in-Some-clause-ready : goal.returns-in-Some-clause-ready
returns-in-Some-clause-ready c =
    let rows = c.args.calls.now.items in
    let found : position (λ e. e.0 == c.args.turn) rows ≡ Some c.in-Some.place = rw c.deref.ensures.value at (sym c.find_call.ensures.place ∙ c.in-Some.is) in
    let at = IsAt-position rows c.args.turn c.in-Some.place (0, 0) found in
    ready-set rows c.in-Some.place c.args.turn c.args.count (0, 0) c.requires.differ at.within (at.here (0, 0))

pub returns-in-Some-clause-fewer : goal.returns-in-Some-clause-fewer
returns-in-Some-clause-fewer c =
    let rows = c.args.calls.now.items in
    let found : position (λ e. e.0 == c.args.turn) rows ≡ Some c.in-Some.place = rw c.deref.ensures.value at (sym c.find_call.ensures.place ∙ c.in-Some.is) in
    let at = IsAt-position rows c.args.turn c.in-Some.place (0, 0) found in
    let fewer = ready-fewer rows c.in-Some.place c.args.turn (0, 0) c.requires.differ at.within (at.here (0, 0)) in
    omega (arith, length-set {A = ℕ × ℕ})
