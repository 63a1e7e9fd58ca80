use Rattle.std.proofs.Common.{◌≡◌, ℕ, ◌≤◌, List, length, map, take, ap, sym, ◌∙◌}
use Rattle.std.proofs.lemmas.List.{take_all}
use Rattle.std.proofs.lemmas.Simd.{map-map}
use Rattle.fsa_types.specs.PackedRows.{PackRow, pack_kind}
use Rattle.fsa_types.specs.Packing.{packed}
use Rattle.fsa_types.specs.declared.reply.PackKind.{PackKind}
use Rattle.fsa_model.specs.QueryDir.{entry_row, entry_rows}
use Rattle.fsa_model.specs.Volume.{Volume}
use Rattle.op_dir.specs.Places.{place_entry}
use Rattle.op_dir.specs.declared.places.Place.{Place}
use Rattle.op_dir.proofs.rows.entry_rows.Goals as goal

all-rows : (v : Volume) (dir : ℕ) (kind : PackKind) (places : List Place) (n : ℕ) (rows : List PackRow) → length places ≤ n → map (packed kind) rows ≡ map (λ place. packed kind (entry_row v (place_entry v dir place))) (take n places)
    → map (packed kind) rows ≡ map (packed kind) (entry_rows v (map (place_entry v dir) places))
all-rows v dir kind places n rows all is =
    is ∙ ap (map (λ place. packed kind (entry_row v (place_entry v dir place)))) (take_all n places all)
    ∙ sym (map-map (packed kind) (λ place. entry_row v (place_entry v dir place)) places)
    ∙ ap (map (packed kind)) (sym (map-map (entry_row v) (place_entry v dir) places))

pub returns : goal.returns
returns c = all-rows c.args.volume.now.content c.args.dir (pack_kind c.args.kind) c.args.places.now c.loop-place.place-index c.loop-place.rows.items c.loop-place-test.false c.loop-place.invariant
