use Rattle.std.proofs.Common.{◌^◌, arith}
use Rattle.slab.specs.Slab.{get}
use Rattle.fsa_types.specs.Places.{StandsAt}
use Rattle.object_tables.specs.Places.{rows_in}
use Rattle.volume_tables.proofs.ShareLemmas.{held_in-none, row-none}
use Rattle.volume_tables.proofs.share_table.ShareTable.remove.Goals as goal

pub unreachable-requires : goal.unreachable-requires
unreachable-requires c =
    let i = c.self.inside in
    let at : StandsAt i.places.items c.args.key c.in_default.field-0 = rw c.as_slice.ensures at c.in_default.ensures.missing in
    let none = held_in-none (rows_in i.counts i.places.items) c.args.key (row-none (get i.counts) i.places.items (2 ^ 64) c.args.key c.in_default.field-0 c.self.invariant.0 at) in
    let held = rw none at (rw (← c.self.view_is) at c.requires) in
    absurd (omega (arith, held.1))
