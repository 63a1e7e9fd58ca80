use Rattle.std.proofs.Common.{◌≡◌, get_or, ℕ, ap, sym, arith}
use Rattle.fsa_types.specs.Places.{IsAt, StandsAt}
use Rattle.object_tables.specs.Places.{rows_in}
use Rattle.volume_tables.specs.Directories.{index_at, index_of}
use Rattle.volume_tables.proofs.DirectoryLaws.{index-beside, index-changed, index-missing, index-there, no_names, placed-changed, slot-there}
use Rattle.volume_tables.proofs.names_by_directory.NamesByDirectory.put.Goals as goal

pub unreachable-requires : goal.unreachable-requires
unreachable-requires c =
    let i = c.self.inside in
    let at : StandsAt i.places.items c.args.dir c.in_default.field-0 = rw c.as_slice.ensures at c.in_default.ensures.missing in
    let none : index_of (rows_in i.indexes i.places.items) c.args.dir ≡ no_names = index-missing i.indexes i.places.items c.args.dir c.in_default.field-0 c.self.invariant at in
    let room = rw none at (rw (← c.self.view_is) at c.requires.room) in
    absurd (omega (arith, room))

pub put_in-requires-clause-there : goal.put_in-requires-clause-there
put_in-requires-clause-there c =
    let i = c.self.inside in
    let at : IsAt i.places.items c.args.dir c.in-Ok.place = rw c.as_slice.ensures at c.in-Ok.ensures.there in
    slot-there i.indexes i.places.items c.args.dir c.at-slot.result.1 c.in-Ok.place c.at-slot.result c.self.invariant at (ap (λ (e : ℕ × ℕ). e.1) (sym c.at-slot.ensures))

pub put_in-requires-clause-room : goal.put_in-requires-clause-room
put_in-requires-clause-room c =
    let i = c.self.inside in
    let at : IsAt i.places.items c.args.dir c.in-Ok.place = rw c.as_slice.ensures at c.in-Ok.ensures.there in
    let was = index-there i.indexes i.places.items c.args.dir c.at-slot.result.1 c.in-Ok.place c.at-slot.result c.self.invariant at (ap (λ (e : ℕ × ℕ). e.1) (sym c.at-slot.ensures)) in
    rw was at (rw (← c.self.view_is) at c.requires.room)

pub put_in-requires-clause-ordered : goal.put_in-requires-clause-ordered
put_in-requires-clause-ordered c =
    let i = c.self.inside in
    let at : IsAt i.places.items c.args.dir c.in-Ok.place = rw c.as_slice.ensures at c.in-Ok.ensures.there in
    let was = index-there i.indexes i.places.items c.args.dir c.at-slot.result.1 c.in-Ok.place c.at-slot.result c.self.invariant at (ap (λ (e : ℕ × ℕ). e.1) (sym c.at-slot.ensures)) in
    rw was at (rw (← c.self.view_is) at c.requires.ordered)

pub put_in-requires-clause-is_new : goal.put_in-requires-clause-is_new
put_in-requires-clause-is_new c =
    let i = c.self.inside in
    let at : IsAt i.places.items c.args.dir c.in-Ok.place = rw c.as_slice.ensures at c.in-Ok.ensures.there in
    let was = index-there i.indexes i.places.items c.args.dir c.at-slot.result.1 c.in-Ok.place c.at-slot.result c.self.invariant at (ap (λ (e : ℕ × ℕ). e.1) (sym c.at-slot.ensures)) in
    rw was at (rw (← c.self.view_is) at c.requires.is_new)

pub invariant_of-self : goal.invariant_of-self
invariant_of-self c =
    let i = c.self.inside in
    let new = c.put_in.new.indexes in
    let at : IsAt i.places.items c.args.dir c.in-Ok.place = rw c.as_slice.ensures at c.in-Ok.ensures.there in
    placed-changed i.indexes new i.places.items c.args.dir c.at-slot.result.1 c.in-Ok.place c.at-slot.result (index_at new c.at-slot.result.1) c.self.invariant at (ap (λ (e : ℕ × ℕ). e.1) (sym c.at-slot.ensures)) c.put_in.ensures.updates

pub returns-clause-put : goal.returns-clause-put
returns-clause-put c =
    let i = c.self.inside in
    let new = c.put_in.new.indexes in
    let at : IsAt i.places.items c.args.dir c.in-Ok.place = rw c.as_slice.ensures at c.in-Ok.ensures.there in
    let under : (get_or i.places.items c.in-Ok.place c.at-slot.result).1 ≡ c.at-slot.result.1 = ap (λ (e : ℕ × ℕ). e.1) (sym c.at-slot.ensures) in
    let was = index-there i.indexes i.places.items c.args.dir c.at-slot.result.1 c.in-Ok.place c.at-slot.result c.self.invariant at under in
    let now = index-changed i.indexes new i.places.items c.args.dir c.at-slot.result.1 c.in-Ok.place c.at-slot.result (index_at new c.at-slot.result.1) c.self.invariant at under c.put_in.ensures.updates in
    rw (← c.self.view_is, was, now) c.put_in.ensures.put

pub returns-clause-others : goal.returns-clause-others
returns-clause-others c =
    let i = c.self.inside in
    let new = c.put_in.new.indexes in
    let at : IsAt i.places.items c.args.dir c.in-Ok.place = rw c.as_slice.ensures at c.in-Ok.ensures.there in
    rw (← c.self.view_is)
    (index-beside i.indexes new i.places.items c.args.dir c.at-slot.result.1 c.in-Ok.place c.at-slot.result (index_at new c.at-slot.result.1) c.self.invariant at (ap (λ (e : ℕ × ℕ). e.1) (sym c.at-slot.ensures)) c.put_in.ensures.updates)
