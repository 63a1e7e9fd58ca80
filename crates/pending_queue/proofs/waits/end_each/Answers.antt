use Rattle.std.proofs.Common.{◌≡◌, ◌∙◌, ◌-◌, ◌<◌, ℕ, suc, refl, ap, arith, get_or, length, subst, sym}
use Rattle.std.proofs.lemmas.List.{get_or_read, length-map}
use Rattle.pending_queue.specs.declared.waits.Wait.{Wait}
use Rattle.pending_queue.specs.Waits.{end_of, nothing, blocker_number, slot}
use Rattle.pending_queue.proofs.CountLemmas.{differ-turns}
use Rattle.pending_queue.proofs.WaitLemmas.{Walked, Walked-done, Walked-start, Walked-step, Stepped, discount-over, none-discounted, none-left, of_blocker, stepped}
use Rattle.pending_queue.proofs.waits.end_each.Goals as goal

pub loop-end-init : goal.loop-end-init
loop-end-init c =
    let heads = c.args.heads.now in
    let own : c.slot_of.result ≡ slot (length heads) (blocker_number c.args.blocker) = c.slot_of.ensures ∙ ap (slot (length heads)) c.blocker_number.ensures in
    let all : c.len.result ≡ length c.args.waits.now.items = omega arith in
    let end : c.end_of-end.result ≡ end_of heads (slot (length heads) (blocker_number c.args.blocker)) (length c.args.waits.now.items) =
    c.end_of-end.ensures ∙ ap (λ k. end_of heads k c.len.result) own ∙ ap (end_of heads (slot (length heads) (blocker_number c.args.blocker))) all in
    record {
      walked = Walked-start heads (of_blocker c.args.blocker) c.args.waits.now.items c.end_of-end.result c.requires.linked end;
      counts = refl;
      turns = refl;
      ready = c.requires.ready;
      places = omega arith;
      waits_len = omega arith;
      waits_room = omega arith;
      len = omega arith;
      room = omega arith;
    }

pub end_at-requires-clause-differ : goal.end_at-requires-clause-differ
end_at-requires-clause-differ c = differ-turns c.args.calls.now.items c.loop-end.calls.items c.loop-end.invariant.turns c.requires.differ

pub end_at-requires-clause-places : goal.end_at-requires-clause-places
end_at-requires-clause-places c =
    let many = ap length c.loop-end.invariant.turns in
    let now = length-map c.loop-end.calls.items (λ (call : ℕ × ℕ). call.0) in
    let was = length-map c.args.calls.now.items (λ (call : ℕ × ℕ). call.0) in
    let places = c.requires.places in
    omega (arith, c.loop-end.invariant.places)

walked-so-far : (c : goal.After-end_at) → Walked (length c.args.heads.now) (of_blocker c.args.blocker) c.args.waits.now.items c.loop-end.waits.items (suc (c.loop-end.end - 1))
walked-so-far c =
    let is : c.loop-end.end ≡ suc (c.loop-end.end - 1) = omega arith in
    subst (λ (end : ℕ). Walked (length c.args.heads.now) (of_blocker c.args.blocker) c.args.waits.now.items c.loop-end.waits.items end) is c.loop-end.invariant.walked

is_there : (c : goal.After-end_at) → c.loop-end.end - 1 < length c.loop-end.waits.items
is_there c = let inside = c.loop-end.invariant.walked.within in omega arith

one-step : (c : goal.After-end_at) → Stepped (length c.args.heads.now) (of_blocker c.args.blocker) c.loop-end.waits.items (c.loop-end.end - 1) c.index.result.now.link
one-step c =
    let place : ℕ = c.loop-end.end - 1 in
    let read : c.index.result.now ≡ get_or c.loop-end.waits.items place nothing = get_or_read c.loop-end.waits.items place c.index.result.now (is_there c) c.index.ensures nothing in
    stepped c.args.heads.now (of_blocker c.args.blocker) c.args.waits.now.items c.loop-end.waits.items place c.index.result.now.link c.requires.linked
    (walked-so-far c) (ap (λ (wait : Wait). wait.link) read)

pub loop-end-smaller : goal.loop-end-smaller
loop-end-smaller c = let less = (one-step c).less in omega arith

pub loop-end-preserved : goal.loop-end-preserved
loop-end-preserved c =
    let kept = c.loop-end.invariant in
    let then = c.end_at.ensures in
    let place : ℕ = c.loop-end.end - 1 in
    let waits = c.loop-end.waits.items in
    record {
      walked = rw then.items (Walked-step (length c.args.heads.now) (of_blocker c.args.blocker) c.args.waits.now.items waits place c.index.result.now.link (walked-so-far c) (one-step c));
      counts = rw (then.items, then.calls) (discount-over c.args.blocker waits place c.loop-end.calls.items (is_there c) ∙ kept.counts);
      turns = then.turns ∙ kept.turns;
      ready = then.ready;
      places = omega (arith, then.places, kept.places);
      waits_len = then.waits_len ∙ kept.waits_len;
      waits_room = then.waits_room ∙ kept.waits_room;
      len = then.len ∙ kept.len;
      room = then.room ∙ kept.room;
    }

pub returns-clause-entries : goal.returns-clause-entries
returns-clause-entries c =
    let none : c.loop-end.end ≡ 0 = omega arith in
    Walked-done (length c.args.heads.now) (of_blocker c.args.blocker) c.args.waits.now.items c.loop-end.waits.items c.loop-end.end c.loop-end.invariant.walked none

pub returns-clause-calls : goal.returns-clause-calls
returns-clause-calls c =
    let none : c.loop-end.end ≡ 0 = omega arith in
    sym (none-discounted c.args.blocker c.loop-end.waits.items c.loop-end.calls.items (none-left (length c.args.heads.now) (of_blocker c.args.blocker) c.args.waits.now.items c.loop-end.waits.items c.loop-end.end c.loop-end.invariant.walked none))
    ∙ c.loop-end.invariant.counts

pub returns-clause-bare : goal.returns-clause-bare
returns-clause-bare c = c.loop-end.invariant.walked.same
