-- What a query of a directory comes to, before anything changes.
use Rattle.std.specs.Prelude.{◌≡◌, ℕ, true, false, ◌==◌, List, length, take}
use Rattle.fsa_types.specs.PackedRows.{pack_kind}
use Rattle.fsa_types.specs.Packing.{bytes}
use Rattle.fsa_types.specs.declared.request.DirKind.{DirKind}
use Rattle.fsa_model.specs.QueryDir.{DirectoryEntry, entry_rows, how_many_fit, place_after}
use Rattle.fsa_model.specs.Volume.{Cursor, Volume}
use Rattle.op_dir.specs.declared.listing.Listing.{Listing}
use Rattle.op_dir.specs.declared.listing.Listing.TheVariants.{NoneLeft, NoneFits, Given}
use Rattle.volume_rows.specs.Cursors.{cursor_of}

-- of these entries none is there; or the first doesn't fit into the room; or as many as fit were packed
abbrev pub Lists : Volume → DirKind → Cursor → List DirectoryEntry → ℕ → Listing → Type 0
Lists v kind cursor entries room NoneLeft = (length entries == 0) ≡ true
Lists v kind cursor entries room NoneFits = ((length entries == 0) ≡ false) × ((how_many_fit v kind entries room == 0) ≡ true)
Lists v kind cursor entries room (Given after packed) =
    ((length entries == 0) ≡ false) × ((how_many_fit v kind entries room == 0) ≡ false)
    × (cursor_of after ≡ place_after cursor entries (how_many_fit v kind entries room))
    × (packed ≡ bytes (pack_kind kind) (take (how_many_fit v kind entries room) (entry_rows v entries)))
