use Rattle.std.proofs.Common.{ℕ, ◌<◌, ◌≤◌, ◌∙◌, Some, ap, arith, length, sym}
use Rattle.slab.specs.Slab.{get}
use Rattle.object_tables.proofs.PlaceLemmas.{entry-here, entry-past}
use Rattle.object_tables.proofs.table.Table.entry_at.Goals as goal

pub returns-then-len-place : goal.returns-then-len-place
returns-then-len-place g c =
    let i = c.self.inside in
    let past : length i.places.items ≤ c.args.place = omega (arith, c.len.ensures, c.if-len-place.true) in
    rw (← c.self.view_is) (sym (entry-past (get i.rows) i.places.items c.self.invariant.there c.args.place past))

pub returns : goal.returns
returns g c =
    let i = c.self.inside in
    let within : c.args.place < length i.places.items = omega (arith, c.len.ensures, c.if-len-place.false) in
    let under = ap (λ (p : ℕ × ℕ). get i.rows p.1) (sym c.at-id.ensures) ∙ c.index.ensures in
    rw (← c.self.view_is) (ap (λ (p : ℕ × ℕ). Some (p.0, c.index.result.now)) c.at-id.ensures
    ∙ sym (entry-here (get i.rows) i.places.items c.self.invariant.there c.args.place c.at-id.result c.index.result.now within under))
