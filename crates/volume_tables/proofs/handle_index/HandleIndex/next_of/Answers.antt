use Rattle.std.proofs.Common.{sym, ◌∙◌}
use Rattle.volume_tables.specs.HandleIndex.{AreIndexed, IndexedHandles}
use Rattle.volume_tables.proofs.NextLemmas.{next-other, next-own, next-past}
use Rattle.volume_tables.proofs.handle_index.HandleIndex.next_of.Goals as goal

pub returns-in-None : goal.returns-in-None
returns-in-None c rows is =
    let i = c.self.inside in
    let index : IndexedHandles = record { calls = i.calls.entries; streams = i.streams.entries; links = i.links.entries; room = i.room } in
    let mine : AreIndexed rows index = rw (← c.self.view_is) at is in
    next-past c.args.client c.args.after rows index c.ranges.after.fits mine c.after.ensures.rising (rw c.call_key_of.ensures at (sym c.after.ensures.entry ∙ c.in-None.is))

pub returns-then-key-call_key_of : goal.returns-then-key-call_key_of
returns-then-key-call_key_of c rows is =
    let i = c.self.inside in
    let index : IndexedHandles = record { calls = i.calls.entries; streams = i.streams.entries; links = i.links.entries; room = i.room } in
    let mine : AreIndexed rows index = rw (← c.self.view_is) at is in
    next-own c.args.client c.args.after rows index c.ranges.after.fits mine c.after.ensures.rising (c.in-Some.key, c.in-Some.id) (rw c.call_key_of.ensures at (sym c.after.ensures.entry ∙ c.in-Some.is))
    (rw c.call_key_of-in-Some.ensures at c.if-key-call_key_of.true)

pub returns-else-key-call_key_of : goal.returns-else-key-call_key_of
returns-else-key-call_key_of c rows is =
    let i = c.self.inside in
    let index : IndexedHandles = record { calls = i.calls.entries; streams = i.streams.entries; links = i.links.entries; room = i.room } in
    let mine : AreIndexed rows index = rw (← c.self.view_is) at is in
    next-other c.args.client c.args.after rows index c.ranges.after.fits mine c.after.ensures.rising (c.in-Some.key, c.in-Some.id) (rw c.call_key_of.ensures at (sym c.after.ensures.entry ∙ c.in-Some.is))
    (rw c.call_key_of-in-Some.ensures at c.if-key-call_key_of.false)
