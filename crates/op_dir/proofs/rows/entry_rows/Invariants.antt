use Rattle.std.proofs.Common.{◌≡◌, map, take}
use Rattle.fsa_types.specs.PackedRows.{pack_kind}
use Rattle.fsa_types.specs.Packing.{packed}
use Rattle.fsa_model.specs.QueryDir.{entry_row}
use Rattle.op_dir.specs.Places.{place_entry}
use Rattle.op_dir.proofs.rows.entry_rows.Given as goal

abbrev pub invariant-loop-place : goal.invariant-loop-place
invariant-loop-place l = map (packed (pack_kind l.kind)) l.rows.items ≡ map (λ place. packed (pack_kind l.kind) (entry_row l.volume.content (place_entry l.volume.content l.dir place))) (take l.place-index l.places)
