use Rattle.std.proofs.Common.{◌≡◌, ◌∙◌, ap, length, suc, sym, arith}
use Rattle.pending_queue.specs.Waits.{end_of, slot}
use Rattle.volume_breaks.proofs.EndLemmas.{AreFound-push, length-more}
use Rattle.volume_breaks.proofs.end_table.link.Goals as goal

pub returns-clause-found : goal.returns-clause-found
returns-clause-found c ends end is are =
    let heads = c.args.heads.now.items in
    let links = c.args.links.now.items in
    let many : c.len.result ≡ length heads = omega arith in
    let own : c.slot_of-own.result ≡ slot (length heads) end.number = c.slot_of-own.ensures ∙ ap (λ n. slot n c.args.number) many ∙ ap (slot (length heads)) (sym is) in
    let link : c.end_of-end.result ≡ end_of heads c.slot_of-own.result (length links) =
    c.end_of-end.ensures ∙ ap (λ heads. end_of heads c.slot_of-own.result c.len-2.result) c.deref.ensures.value ∙ ap (end_of heads c.slot_of-own.result) c.len-2.ensures in
    let behind : c.len-3.result ≡ suc (length links) = c.len-3.ensures ∙ ap length c.push.ensures.items ∙ length-more links c.end_of-end.result in
    rw (c.set_head.ensures, c.push.ensures.items) (AreFound-push heads links ends end c.slot_of-own.result c.end_of-end.result c.len-3.result are own link behind)
