use Rattle.std.proofs.Common.{arith}
use Rattle.slab.specs.Slab.{get}
use Rattle.object_tables.proofs.PlaceLemmas.{rows-length, rows-numbered}
use Rattle.object_tables.proofs.table.Table.len.Goals as goal

pub returns-clause-count : goal.returns-clause-count
returns-clause-count g c =
    let i = c.self.inside in
    let long = rw c.as_slice.ensures at c.count_of.ensures.count in
    rw (← c.self.view_is) (omega (arith, long, rows-length (get i.rows) i.places.items c.self.invariant.there))

pub returns-clause-few : goal.returns-clause-few
returns-clause-few g c =
    let i = c.self.inside in
    let few = rw c.as_slice.ensures at c.count_of.ensures.few in
    rw (← c.self.view_is) (omega (arith, few, rows-length (get i.rows) i.places.items c.self.invariant.there))

pub returns-clause-numbered : goal.returns-clause-numbered
returns-clause-numbered g c =
    let i = c.self.inside in
    rw (← c.self.view_is) (rows-numbered (get i.rows) i.places.items i.last c.self.invariant)
