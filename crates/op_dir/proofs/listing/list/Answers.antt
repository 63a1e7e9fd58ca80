use Rattle.std.proofs.Common.{List, map, subst, sym}
use Rattle.std.proofs.lemmas.Result.{IfOk-weaker}
use Rattle.fsa_types.specs.PackedRows.{pack_kind}
use Rattle.fsa_model.specs.QueryDir.{DirectoryEntry, left_to_list}
use Rattle.fsa_model.specs.Volume.{Cursor}
use Rattle.op_dir.specs.Filling.{Fills}
use Rattle.op_dir.specs.Listing.{Lists}
use Rattle.op_dir.specs.Places.{place_entry}
use Rattle.op_dir.specs.declared.listing.Listing.{Listing}
use Rattle.op_dir.specs.declared.places.Place.{Place}
use Rattle.op_dir.proofs.FitLaws.{Lists-filled}
use Rattle.volume_rows.specs.Cursors.{cursor_of}
use Rattle.op_dir.proofs.listing.list.Goals as goal

pub returns : goal.returns
returns c =
    let v = c.args.volume.now.content in
    let cursor : Cursor = cursor_of c.args.cursor.now in
    let all : List DirectoryEntry = left_to_list v c.args.dir c.args.expression.now cursor in
    let first : List DirectoryEntry = map (place_entry v c.args.dir) c.deref.result.now in
    let fills : Fills (pack_kind c.args.kind) c.args.room first all = subst (λ (places : List Place). Fills (pack_kind c.args.kind) c.args.room (map (place_entry v c.args.dir) places) all) (sym c.deref.ensures.value) c.in_ok-places.ensures.fills in
    IfOk-weaker c.pack_places.result
    (λ listing. (cursor : Cursor) → Lists v c.args.kind cursor first c.args.room listing)
    (λ listing. Lists v c.args.kind cursor all c.args.room listing)
    (λ (listing : Listing). λ (lists : (cursor : Cursor) → Lists v c.args.kind cursor first c.args.room listing). Lists-filled v c.args.kind cursor first all c.args.room listing c.requires.room fills (lists cursor))
    c.pack_places.ensures
