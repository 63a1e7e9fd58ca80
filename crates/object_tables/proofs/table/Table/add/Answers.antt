use Rattle.std.proofs.Common.{◌≡◌, ◌≢◌, ℕ, None, ap}
use Rattle.slab.specs.Slab.{Slab, get}
use Rattle.object_tables.proofs.PlaceLemmas.{placed-added, rows-added}
use Rattle.object_tables.proofs.table.Table.add.Goals as goal

pub invariant_of-self-2 : goal.invariant_of-self-2
invariant_of-self-2 g c =
    let i = c.self.inside in
    let new = c.insert_reserved-key.new.self in
    let key = c.insert_reserved-key.result in
    let slots : c.reserve-2.new.self.slots ≡ i.rows.slots = ap (λ (s : Slab g.row.T.Denot). s.slots) c.reserve-2.ensures.rest_kept in
    let vacant : get i.rows key ≡ None = rw slots at c.insert_reserved-key.ensures.was_vacant in
    let others : (other : ℕ) → other ≢ key → get new other ≡ get i.rows other = rw slots at c.insert_reserved-key.ensures.updates.others in
    rw (c.push.ensures.items, c.reserve.ensures.items)
    (placed-added (get i.rows) (get new) i.places.items i.last key c.args.row c.self.invariant vacant c.insert_reserved-key.ensures.updates.changed others)

pub returns-clause-rows : goal.returns-clause-rows
returns-clause-rows g c =
    let i = c.self.inside in
    let new = c.insert_reserved-key.new.self in
    let key = c.insert_reserved-key.result in
    let slots : c.reserve-2.new.self.slots ≡ i.rows.slots = ap (λ (s : Slab g.row.T.Denot). s.slots) c.reserve-2.ensures.rest_kept in
    let vacant : get i.rows key ≡ None = rw slots at c.insert_reserved-key.ensures.was_vacant in
    let others : (other : ℕ) → other ≢ key → get new other ≡ get i.rows other = rw slots at c.insert_reserved-key.ensures.updates.others in
    rw (← c.self.view_is, c.push.ensures.items, c.reserve.ensures.items)
    (rows-added (get i.rows) (get new) i.places.items i.last key c.args.row c.self.invariant vacant c.insert_reserved-key.ensures.updates.changed others)
