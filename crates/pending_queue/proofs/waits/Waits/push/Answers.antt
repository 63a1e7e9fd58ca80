use Rattle.std.proofs.Common.{◌≡◌, ◌∙◌, true, length, arith, ap}
use Rattle.pending_queue.specs.declared.waits.Wait.{Wait}
use Rattle.pending_queue.specs.Waits.{by_blocker, by_turn, end_of, link_of, blocker_number, slot, turn_link_of}
use Rattle.pending_queue.proofs.WaitLemmas.{AreLinked-pushed}
use Rattle.pending_queue.proofs.waits.Waits.push.Goals as goal

pub invariant_of-self : goal.invariant_of-self
invariant_of-self c =
    let i = c.self.inside in
    let wait : Wait = record { turn = c.args.turn; blocker = c.args.blocker; lives = true; link = c.end_of-link.result; turn_link = c.end_of-turn_link.result } in
    let many : c.len.result ≡ length i.heads.items = omega arith in
    let many_turns : c.len-3.result ≡ length i.turn_heads.items = omega arith in
    let own : c.slot_of-own.result ≡ slot (length i.heads.items) (blocker_number wait.blocker) = c.slot_of-own.ensures ∙ ap (λ n. slot n c.blocker_number.result) many ∙ ap (slot (length i.heads.items)) c.blocker_number.ensures in
    let turn_own : c.slot_of-turn_own.result ≡ slot (length i.turn_heads.items) wait.turn = c.slot_of-turn_own.ensures ∙ ap (λ n. slot n c.args.turn) many_turns in
    let all : c.len-2.result ≡ length i.waits.items = omega arith in
    let all_too : c.len-4.result ≡ length i.waits.items = omega arith in
    let link : wait.link ≡ end_of i.heads.items c.slot_of-own.result (length i.waits.items) = c.end_of-link.ensures ∙ ap (λ heads. end_of heads c.slot_of-own.result c.len-2.result) c.deref.ensures.value ∙ ap (end_of i.heads.items c.slot_of-own.result) all in
    let turn_link : wait.turn_link ≡ end_of i.turn_heads.items c.slot_of-turn_own.result (length i.waits.items) =
    c.end_of-turn_link.ensures ∙ ap (λ heads. end_of heads c.slot_of-turn_own.result c.len-4.result) c.deref-2.ensures.value ∙ ap (end_of i.turn_heads.items c.slot_of-turn_own.result) all_too in
    rw (c.set_head.ensures, c.set_head-2.ensures, c.in-Ok.ensures.items) (record {
      blockers = AreLinked-pushed by_blocker link_of i.heads.items i.waits.items wait c.slot_of-own.result c.len-5.result c.self.invariant.blockers own link (omega (arith, c.in-Ok.ensures.len));
      turns = AreLinked-pushed by_turn turn_link_of i.turn_heads.items i.waits.items wait c.slot_of-turn_own.result c.len-6.result c.self.invariant.turns turn_own turn_link (omega (arith, c.in-Ok.ensures.len));
    })
