use Rattle.std.proofs.Common.{◌≡◌, ◌≤◌, ◌-◌, ◌++◌, drop, map}
use Rattle.fsa_types.specs.PackedRows.{pack_kind}
use Rattle.fsa_types.specs.Packing.{packed}
use Rattle.fsa_model.specs.QueryDir.{entry_rows}
use Rattle.op_dir.specs.Filling.{padded_size}
use Rattle.op_dir.specs.Places.{place_entry}
use Rattle.op_dir.proofs.PlaceLaws.{listed_under}
use Rattle.op_dir.proofs.places.push_links.Given as goal

abbrev pub invariant-links : goal.invariant-links
invariant-links l = record {
  all : map (place_entry l.volume.content l.dir) l.places.items ++ listed_under l.volume.content l.expression (drop l.id-index l.links)
      ≡ map (place_entry l.volume.content l.dir) l.fn.places.items ++ listed_under l.volume.content l.expression l.links;
  left : l.room - padded_size (pack_kind l.kind) (map (place_entry l.volume.content l.dir) l.places.items) ≤ l.left;
  rows : map (packed (pack_kind l.kind)) l.rows.items ≡ map (packed (pack_kind l.kind)) (entry_rows l.volume.content (map (place_entry l.volume.content l.dir) l.places.items));
}
