use Rattle.std.proofs.Common.{◌≡◌, ◌∙◌, ◌-◌, ◌<◌, ℕ, suc, ap, arith, get_or, length, subst}
use Rattle.std.proofs.Math.ListN.{set}
use Rattle.std.proofs.lemmas.List.{get_or_read}
use Rattle.pending_queue.specs.declared.waits.Wait.{Wait}
use Rattle.pending_queue.specs.Waits.{end_of, is_turn, nothing, ended_where, over_at, slot}
use Rattle.pending_queue.proofs.WaitLemmas.{Walked, Walked-done, Walked-start, Walked-step, Stepped, of_turn, stepped}
use Rattle.pending_queue.proofs.waits.drop_each.Goals as goal

pub loop-end-init : goal.loop-end-init
loop-end-init c =
    let heads = c.args.heads.now in
    let all : c.len.result ≡ length c.args.waits.now.items = omega arith in
    let end : c.end_of-end.result ≡ end_of heads (slot (length heads) c.args.turn) (length c.args.waits.now.items) =
    c.end_of-end.ensures ∙ ap (λ k. end_of heads k c.len.result) c.slot_of.ensures ∙ ap (end_of heads (slot (length heads) c.args.turn)) all in
    record {
      walked = Walked-start heads (of_turn c.args.turn) c.args.waits.now.items c.end_of-end.result c.requires end;
      len = omega arith;
      room = omega arith;
    }

walked-so-far : (c : goal.After-waits-1) → Walked (length c.args.heads.now) (of_turn c.args.turn) c.args.waits.now.items c.loop-end.waits.items (suc (c.loop-end.end - 1))
walked-so-far c =
    let is : c.loop-end.end ≡ suc (c.loop-end.end - 1) = omega arith in
    subst (λ (end : ℕ). Walked (length c.args.heads.now) (of_turn c.args.turn) c.args.waits.now.items c.loop-end.waits.items end) is c.loop-end.invariant.walked

is_read : (c : goal.After-waits-1) → c.index-wait.result.now ≡ get_or c.loop-end.waits.items (c.loop-end.end - 1) nothing
is_read c =
    let inside = c.loop-end.invariant.walked.within in
    let here : c.loop-end.end - 1 < length c.loop-end.waits.items = omega arith in
    get_or_read c.loop-end.waits.items (c.loop-end.end - 1) c.index-wait.result.now here c.index-wait.ensures nothing

one-step : (c : goal.After-waits-1) → Stepped (length c.args.heads.now) (of_turn c.args.turn) c.loop-end.waits.items (c.loop-end.end - 1) c.index-wait.result.now.turn_link
one-step c =
    stepped c.args.heads.now (of_turn c.args.turn) c.args.waits.now.items c.loop-end.waits.items (c.loop-end.end - 1) c.index-wait.result.now.turn_link c.requires
    (walked-so-far c) (ap (λ (wait : Wait). wait.turn_link) (is_read c))

pub loop-end-smaller : goal.loop-end-smaller
loop-end-smaller c = let less = (one-step c).less in omega arith

pub loop-end-preserved : goal.loop-end-preserved
loop-end-preserved c =
    let kept = c.loop-end.invariant in
    let place : ℕ = c.loop-end.end - 1 in
    let waits = c.loop-end.waits.items in
    let put : set waits place c.without_turn.result ≡ over_at (is_turn c.args.turn) waits place = ap (set waits place) (c.without_turn.ensures ∙ ap (ended_where (is_turn c.args.turn)) (is_read c)) in
    record {
      walked = rw put (Walked-step (length c.args.heads.now) (of_turn c.args.turn) c.args.waits.now.items waits place c.index-wait.result.now.turn_link (walked-so-far c) (one-step c));
      len = kept.len;
      room = kept.room;
    }

pub returns-clause-entries : goal.returns-clause-entries
returns-clause-entries c =
    let none : c.loop-end.end ≡ 0 = omega arith in
    Walked-done (length c.args.heads.now) (of_turn c.args.turn) c.args.waits.now.items c.loop-end.waits.items c.loop-end.end c.loop-end.invariant.walked none

pub returns-clause-bare : goal.returns-clause-bare
returns-clause-bare c = c.loop-end.invariant.walked.same
