use Rattle.std.proofs.Common.{◌≡◌, ℕ, List, ◌≤◌, ◌+◌, ◌^◌, length, arith, ap, sym, ◌∙◌, Some}
use Rattle.fsa_types.specs.Rows.{row_of}
use Rattle.fsa_types.proofs.RowLemmas.{length-numbered}
use Rattle.fsa_model.specs.Changes.{units_noted, dirs_noted}
use Rattle.fsa_model.specs.Volume.{Link}
use Rattle.volume_state.specs.Content.{content_of}
use Rattle.volume_state.specs.Paths.{units_above, dirs_above}
use Rattle.volume_state.specs.declared.room.NoteRoom.{NoteRoom}
use Rattle.volume_state.proofs.OpenLaws.{IfSome-map, IfNone-map, units_noted-found, dirs_noted-found}
use Rattle.volume_state.proofs.volume.Volume.note_room.Goals as goal

-- the units that were told are those that a note takes
told : (c : goal.After-room_above)
    → length c.units-name.result.now + c.units_of-suffix.result + units_above (length c.by_file.result.now.rows) c.by_file.result.now.rows c.row.inside.parent
    ≡ units_noted (content_of c.self.inside) c.args.link c.args.stream
told c =
    let row : Link = record { parent = c.row.inside.parent; name = c.row.inside.name; file = c.row.inside.file; deleted = c.row.inside.deleted } in
    let found : row_of c.self.inside.links.rows c.args.link ≡ Some row = sym (rw (← c.row.view_is) at c.in-Some.ensures) in
    let suffix = c.units_of-suffix.ensures ∙ ap (λ (units : List ℕ). length units) c.name_of_stream.ensures in
    rw (ap (λ (units : List ℕ). length units) c.units-name.ensures, suffix, c.by_file.ensures.rows) (sym (units_noted-found (content_of c.self.inside) c.args.link row c.args.stream found))

pub returns-clause-units : goal.returns-clause-units
returns-clause-units c =
    rw (← c.self.view_is)
    (IfSome-map
    (λ (room : NoteRoom). room.units ≡ length c.units-name.result.now + c.units_of-suffix.result + units_above (length c.by_file.result.now.rows) c.by_file.result.now.rows c.row.inside.parent)
    (λ room. room.units ≡ units_noted (content_of c.self.inside) c.args.link c.args.stream) c.room_above.result (λ room is. is ∙ told c) c.room_above.ensures.units)

pub returns-clause-dirs : goal.returns-clause-dirs
returns-clause-dirs c =
    let row : Link = record { parent = c.row.inside.parent; name = c.row.inside.name; file = c.row.inside.file; deleted = c.row.inside.deleted } in
    let found : row_of c.self.inside.links.rows c.args.link ≡ Some row = sym (rw (← c.row.view_is) at c.in-Some.ensures) in
    rw (← c.self.view_is)
    (IfSome-map
    (λ (room : NoteRoom). room.dirs ≡ 1 + dirs_above (length c.by_file.result.now.rows) c.by_file.result.now.rows c.row.inside.parent)
    (λ room. room.dirs ≡ dirs_noted (content_of c.self.inside) c.args.link c.args.stream) c.room_above.result
    (λ room is. is ∙ rw c.by_file.ensures.rows (sym (dirs_noted-found (content_of c.self.inside) c.args.link row c.args.stream found))) c.room_above.ensures.dirs)

pub returns-clause-few : goal.returns-clause-few
returns-clause-few c =
    let few : length c.self.inside.links.rows ≤ c.self.inside.links.last + 1
    = length-numbered c.self.inside.links.rows c.self.inside.links.last c.self.invariant.0.links_numbered in
    let bound = c.self.invariant.0.bounded.links in
    let same = ap length c.by_file.ensures.rows in
    IfSome-map (λ (room : NoteRoom). room.dirs ≤ 1 + length c.by_file.result.now.rows) (λ room. room.dirs ≤ 2 ^ 32) c.room_above.result (λ room below. omega arith) c.room_above.ensures.few

pub returns-clause-none : goal.returns-clause-none
returns-clause-none c =
    let same = told c in
    rw (← c.self.view_is)
    (IfNone-map
    (2 ^ 64 ≤ length c.units-name.result.now + c.units_of-suffix.result + units_above (length c.by_file.result.now.rows) c.by_file.result.now.rows c.row.inside.parent)
    (2 ^ 64 ≤ units_noted (content_of c.self.inside) c.args.link c.args.stream) c.room_above.result (λ above. omega arith) c.room_above.ensures.none)
