use Rattle.std.proofs.Common.{◌≡◌, refl}
use Rattle.notify_queue.specs.Log.{start_of}
use Rattle.notify_queue.proofs.PartLaws.{IsLog-left, begun-left, changes-left, start-within}
use Rattle.notify_queue.proofs.part.LogPart.drop_first.Goals as goal

pub invariant_of-self : goal.invariant_of-self
invariant_of-self c =
    let start : c.start_of-unit.result ≡ start_of c.self.inside.entries.items c.args.count c.self.inside.first_unit c.self.inside.first_dir = rw c.as_slice.ensures at c.start_of-unit.ensures in
    rw (c.drop_first-2.ensures.items, c.drop_first-3.ensures.items, c.move_all.ensures.items, c.drop_first.ensures.items, start)
    (IsLog-left c.self.inside.units.items c.self.inside.dirs.items c.self.inside.entries.items c.self.inside.first_unit c.self.inside.first_dir c.args.count c.self.invariant)

pub returns-clause-changes : goal.returns-clause-changes
returns-clause-changes c =
    let start : c.start_of-unit.result ≡ start_of c.self.inside.entries.items c.args.count c.self.inside.first_unit c.self.inside.first_dir = rw c.as_slice.ensures at c.start_of-unit.ensures in
    rw (← c.self.view_is, c.drop_first-2.ensures.items, c.drop_first-3.ensures.items, c.move_all.ensures.items, c.drop_first.ensures.items, start)
    (changes-left c.self.inside.units.items c.self.inside.dirs.items c.self.inside.entries.items c.self.inside.first_unit c.self.inside.first_dir c.args.count c.self.invariant)

pub returns-clause-begun : goal.returns-clause-begun
returns-clause-begun c =
    let start : c.start_of-unit.result ≡ start_of c.self.inside.entries.items c.args.count c.self.inside.first_unit c.self.inside.first_dir = rw c.as_slice.ensures at c.start_of-unit.ensures in
    let within = start-within c.self.inside.units.items c.self.inside.dirs.items c.self.inside.entries.items c.self.inside.first_unit c.self.inside.first_dir c.args.count c.self.invariant in
    rw (
      ← c.self.view_is,
      c.drop_first-2.ensures.items,
      c.drop_first-3.ensures.items,
      start,
      begun-left _ c.self.inside.first_unit c.self.inside.units.items within.0,
      begun-left _ c.self.inside.first_dir c.self.inside.dirs.items within.1,
    )
    (refl, refl)
