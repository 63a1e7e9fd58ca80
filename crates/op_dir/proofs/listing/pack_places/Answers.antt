use Rattle.std.proofs.Common.{◌≡◌, ℕ, ◌-◌, ◌<◌, ◌≤◌, List, length, map, refl, ap, sym, ◌∙◌, arith}
use Rattle.std.proofs.lemmas.List.{length-map}
use Rattle.fsa_types.specs.PackedRows.{PackRow, pack_kind}
use Rattle.fsa_types.specs.Packing.{Packed, fitting, packed}
use Rattle.fsa_types.specs.declared.reply.PackKind.{PackKind}
use Rattle.fsa_model.specs.QueryDir.{entry_row, entry_rows}
use Rattle.fsa_model.specs.Volume.{Volume}
use Rattle.op_dir.specs.Places.{place_entry}
use Rattle.op_dir.specs.declared.places.Place.{Place}
use Rattle.op_dir.proofs.FitLaws.{bytes-packed, fitting-packed, fitting-within, none-given, some-given}
use Rattle.op_dir.proofs.listing.pack_places.Goals as goal

within : (v : Volume) (dir : ℕ) (kind : PackKind) (places : List Place) (rows : List PackRow) (room count : ℕ) → map (packed kind) rows ≡ map (packed kind) (entry_rows v (map (place_entry v dir) places)) → count ≡ fitting kind rows room
    → (count ≡ 0 → ⊥) → count - 1 < length places
within v dir kind places rows room count are is some =
    let shown : List PackRow = entry_rows v (map (place_entry v dir) places) in
    let same : length (map (packed kind) rows) ≡ length (map (packed kind) shown) = ap (λ (entries : List Packed). length entries) are in
    let long : length shown ≡ length places = length-map (map (place_entry v dir) places) (entry_row v) ∙ length-map places (place_entry v dir) in
    let few : fitting kind rows room ≤ length rows = fitting-within kind rows room in
    omega (arith, same, long, few, is, some, length-map rows (packed kind), length-map shown (packed kind))

pub bounds-places-last : goal.bounds-places-last
bounds-places-last c =
    let v = c.args.volume.now.content in
    let kind : PackKind = pack_kind c.args.kind in
    within v c.args.dir kind c.args.places.now c.args.rows.now c.args.room c.in_ok-bytes.count c.requires.rows
    c.in_ok-bytes.ensures.count c.if-count-eq0.false

pub offset_bounds-places-last : goal.offset_bounds-places-last
offset_bounds-places-last c =
    let v = c.args.volume.now.content in
    let kind : PackKind = pack_kind c.args.kind in
    let inside : c.in_ok-bytes.count - 1 < length c.args.places.now = within v c.args.dir kind c.args.places.now c.args.rows.now c.args.room c.in_ok-bytes.count
    c.requires.rows c.in_ok-bytes.ensures.count c.if-count-eq0.false in
    omega arith

pub returns-then-count-eq0 : goal.returns-then-count-eq0
returns-then-count-eq0 c =
    let v = c.args.volume.now.content in
    let kind : PackKind = pack_kind c.args.kind in
    let shown : List PackRow = entry_rows v (map (place_entry v c.args.dir) c.args.places.now) in
    let are : map (packed kind) c.args.rows.now ≡ map (packed kind) shown = c.requires.rows in
    none-given v c.args.dir c.args.kind c.args.places.now c.args.room c.in_ok-bytes.count
    (sym c.is_empty.ensures ∙ c.if-is_empty.false)
    (c.in_ok-bytes.ensures.count ∙ fitting-packed kind c.args.rows.now shown c.args.room are)
    c.if-count-eq0.true

pub returns : goal.returns
returns c =
    let v = c.args.volume.now.content in
    let kind : PackKind = pack_kind c.args.kind in
    let shown : List PackRow = entry_rows v (map (place_entry v c.args.dir) c.args.places.now) in
    let are : map (packed kind) c.args.rows.now ≡ map (packed kind) shown = c.requires.rows in
    some-given v c.args.dir c.args.kind c.args.places.now c.args.room c.in_ok-bytes.count _ _ c.in_ok-after.after c.in_ok-bytes.bytes
    (sym c.is_empty.ensures ∙ c.if-is_empty.false)
    (c.in_ok-bytes.ensures.count ∙ fitting-packed kind c.args.rows.now shown c.args.room are)
    c.if-count-eq0.false
    (within v c.args.dir kind c.args.places.now c.args.rows.now c.args.room c.in_ok-bytes.count are c.in_ok-bytes.ensures.count c.if-count-eq0.false)
    refl
    c.in_ok-after.ensures
    (c.in_ok-bytes.ensures.bytes ∙ bytes-packed kind c.in_ok-bytes.count c.args.rows.now shown are)
