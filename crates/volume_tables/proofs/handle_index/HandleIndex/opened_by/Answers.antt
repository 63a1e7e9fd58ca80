use Rattle.std.proofs.Common.{ℕ, List, ap, ◌∙◌}
use Rattle.std.specs.Prelude.{option_map, slice_get}
use Rattle.volume_tables.specs.HandleIndex.{AreIndexed, IndexedHandles}
use Rattle.volume_tables.proofs.NextLemmas.{opened-first}
use Rattle.volume_tables.proofs.handle_index.HandleIndex.opened_by.Goals as goal

pub returns-in-None : goal.returns-in-None
returns-in-None c rows is =
    let i = c.self.inside in
    let index : IndexedHandles = record { calls = i.calls.entries; streams = i.streams.entries; links = i.links.entries; room = i.room } in
    let mine : AreIndexed rows index = rw (← c.self.view_is) at is in
    let first = c.in-None.ensures.value ∙ ap (λ (es : List (ℕ × ℕ)). slice_get es 0) (rw c.call_key_of.ensures at c.of.ensures) in
    ap (option_map (λ (e : ℕ × ℕ). e.1)) first ∙ opened-first c.args.client c.args.number rows index c.ranges.number.fits mine

pub returns-in-Some : goal.returns-in-Some
returns-in-Some c rows is =
    let i = c.self.inside in
    let index : IndexedHandles = record { calls = i.calls.entries; streams = i.streams.entries; links = i.links.entries; room = i.room } in
    let mine : AreIndexed rows index = rw (← c.self.view_is) at is in
    let first = c.in-Some.ensures.value ∙ ap (λ (es : List (ℕ × ℕ)). slice_get es 0) (rw c.call_key_of.ensures at c.of.ensures) in
    ap (option_map (λ (e : ℕ × ℕ). e.1)) first ∙ opened-first c.args.client c.args.number rows index c.ranges.number.fits mine
