use Rattle.std.proofs.Common.{◌∙◌, length, ap, arith}
use Rattle.pending_queue.proofs.ReadyLemmas.{without-gap, with-gap, with-place}
use Rattle.pending_queue.proofs.ready.set_ready.Goals as goal

pub keep_at-requires : goal.keep_at-requires
keep_at-requires c = (let at = rw c.deref.ensures.value at c.in-Ok.ensures.there in at.within)

pub put_at-requires-clause-within : goal.put_at-requires-clause-within
put_at-requires-clause-within c = (let gap = rw c.deref.ensures.value at c.in-Err.ensures.missing in gap.within)

pub put_at-requires-clause-room : goal.put_at-requires-clause-room
put_at-requires-clause-room c =
    let same = ap length (without-gap c.args.ready.now.items c.args.turn c.in-Err.place (rw c.deref.ensures.value at c.in-Err.ensures.missing)) in
    let room = c.requires.room in
    omega arith

pub returns-in-Ok-clause-items : goal.returns-in-Ok-clause-items
returns-in-Ok-clause-items c =
    c.keep_at.ensures.items ∙ with-place c.args.ready.now.items c.args.turn c.in-Ok.place c.args.is_ready c.requires.rising (rw c.deref.ensures.value at c.in-Ok.ensures.there)

pub returns-in-Err-clause-items : goal.returns-in-Err-clause-items
returns-in-Err-clause-items c = c.put_at.ensures.items ∙ with-gap c.args.ready.now.items c.args.turn c.in-Err.place c.args.is_ready (rw c.deref.ensures.value at c.in-Err.ensures.missing)
