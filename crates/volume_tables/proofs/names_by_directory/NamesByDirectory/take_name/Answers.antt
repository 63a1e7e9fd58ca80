use Rattle.std.proofs.Common.{◌≡◌, get_or, ℕ, ap, sym}
use Rattle.fsa_types.specs.Places.{IsAt, StandsAt}
use Rattle.volume_tables.specs.Directories.{index_at}
use Rattle.volume_tables.proofs.DirectoryLaws.{index-beside, index-changed, index-missing, index-there, taken-none}
use Rattle.volume_tables.proofs.names_by_directory.NamesByDirectory.take_name.Goals as goal

pub take_in-requires-clause-ordered : goal.take_in-requires-clause-ordered
take_in-requires-clause-ordered c =
    let i = c.self.inside in
    let at : IsAt i.places.items c.args.dir c.in-Ok.place = rw c.as_slice.ensures at c.in-Ok.ensures.there in
    let was = index-there i.indexes i.places.items c.args.dir c.at-slot.result.1 c.in-Ok.place c.at-slot.result c.self.invariant at (ap (λ (e : ℕ × ℕ). e.1) (sym c.at-slot.ensures)) in
    rw was at (rw (← c.self.view_is) at c.requires)

pub returns-in-Ok-clause-taken : goal.returns-in-Ok-clause-taken
returns-in-Ok-clause-taken c =
    let i = c.self.inside in
    let new = c.take_in.new.indexes in
    let at : IsAt i.places.items c.args.dir c.in-Ok.place = rw c.as_slice.ensures at c.in-Ok.ensures.there in
    let under : (get_or i.places.items c.in-Ok.place c.at-slot.result).1 ≡ c.at-slot.result.1 = ap (λ (e : ℕ × ℕ). e.1) (sym c.at-slot.ensures) in
    let was = index-there i.indexes i.places.items c.args.dir c.at-slot.result.1 c.in-Ok.place c.at-slot.result c.self.invariant at under in
    let now = index-changed i.indexes new i.places.items c.args.dir c.at-slot.result.1 c.in-Ok.place c.at-slot.result (index_at new c.at-slot.result.1) c.self.invariant at under c.take_in.ensures.updates in
    rw (← c.self.view_is, was, now) c.take_in.ensures.taken

pub returns-in-Ok-clause-others : goal.returns-in-Ok-clause-others
returns-in-Ok-clause-others c =
    let i = c.self.inside in
    let new = c.take_in.new.indexes in
    let at : IsAt i.places.items c.args.dir c.in-Ok.place = rw c.as_slice.ensures at c.in-Ok.ensures.there in
    rw (← c.self.view_is)
    (index-beside i.indexes new i.places.items c.args.dir c.at-slot.result.1 c.in-Ok.place c.at-slot.result (index_at new c.at-slot.result.1) c.self.invariant at (ap (λ (e : ℕ × ℕ). e.1) (sym c.at-slot.ensures)) c.take_in.ensures.updates)

pub returns-in_default-clause-taken : goal.returns-in_default-clause-taken
returns-in_default-clause-taken c =
    let i = c.self.inside in
    let at : StandsAt i.places.items c.args.dir c.in_default.field-0 = rw c.as_slice.ensures at c.in_default.ensures.missing in
    rw (← c.self.view_is) (taken-none c.args.table.now c.args.links.now.rows c.args.units.now _ (index-missing i.indexes i.places.items c.args.dir c.in_default.field-0 c.self.invariant at))
