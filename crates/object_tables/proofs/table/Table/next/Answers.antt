use Rattle.std.proofs.Common.{◌<◌, ◌≤◌, ◌∙◌, ap, length, sym}
use Rattle.std.specs.Prelude.{option_map}
use Rattle.std.specs.List.Sorted.{IsPartitionPoint}
use Rattle.slab.specs.Slab.{get}
use Rattle.object_tables.specs.Places.{rows_in}
use Rattle.object_tables.proofs.NextLemmas.{next-here, next-least}
use Rattle.object_tables.proofs.PlaceLemmas.{after-same, rows-numbered}
use Rattle.object_tables.proofs.table.Table.next.Goals as goal

pub returns-clause-found : goal.returns-clause-found
returns-clause-found g c =
    let i = c.self.inside in
    let xs = i.places.items in
    let point : IsPartitionPoint (λ e. e.0 ≤ c.args.after) (λ e. c.args.after < e.0) xs c.end_of.result = rw c.as_slice-places.ensures at c.end_of.ensures.point in
    let bound : c.end_of.result ≤ length xs = rw c.as_slice-places.ensures at c.end_of.ensures.bound in
    rw (← c.self.view_is) ((rw c.as_slice-places.ensures at c.number_at.ensures) ∙ ap (option_map (λ row. row.0)) (next-here xs c.end_of.result c.args.after bound point)
    ∙ sym (after-same (get i.rows) xs c.self.invariant.there c.args.after))

pub returns-clause-next : goal.returns-clause-next
returns-clause-next g c =
    let i = c.self.inside in
    let found = returns-clause-found g c in
    rw found (rw (← c.self.view_is) (next-least (rows_in i.rows i.places.items) c.args.after (rows-numbered (get i.rows) i.places.items i.last c.self.invariant).rising))
