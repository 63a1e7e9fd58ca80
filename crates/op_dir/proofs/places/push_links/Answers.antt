use Rattle.std.proofs.Common.{List, map}
use Rattle.fsa_types.specs.PackedRows.{pack_kind}
use Rattle.fsa_model.specs.QueryDir.{DirectoryEntry}
use Rattle.op_dir.specs.Places.{place_entry}
use Rattle.op_dir.proofs.FitLaws.{fills_on, rows_on}
use Rattle.op_dir.proofs.PlaceLaws.{goes_on}
use Rattle.op_dir.proofs.places.push_links.Goals as goal

pub links-preserved : goal.links-preserved
links-preserved c =
    let v = c.args.volume.now.content in
    let some : List DirectoryEntry = map (place_entry v c.args.dir) c.links.places.items in
    let more : List DirectoryEntry = map (place_entry v c.args.dir) c.push_link.new.places.items in
    record {
      all = goes_on v c.args.expression.now c.args.links.now c.links.id-index _ some more _ c.links-test.true c.links.invariant.all c.in_ok-left.ensures.entries;
      left = fills_on (pack_kind c.args.kind) c.args.room c.links.left c.in_ok-left.left some _ more c.links.invariant.left c.in_ok-left.ensures.entries c.in_ok-left.ensures.left;
      rows = rows_on v (pack_kind c.args.kind) some _ more c.links.rows.items c.push_link.new.rows.items c.links.invariant.rows c.in_ok-left.ensures.entries c.in_ok-left.ensures.rows;
    }
