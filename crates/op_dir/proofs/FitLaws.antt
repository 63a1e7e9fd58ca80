-- As many entries as fit are among the first ones, once these fill the room.
use Rattle.std.proofs.Common.{◌≡◌, ℕ, zero, suc, ◌+◌, ◌-◌, ◌*◌, ◌<◌, ◌≤◌, false, List, [], ◌∷◌, ◌++◌, length, get_or, take, map, refl, ap, sym, ◌∙◌, arith, inl, inr, ◌⊎◌, Option, Some}
use Rattle.std.specs.Option.{option_map_or}
use Rattle.std.specs.Prelude.{◌==◌, slice_get}
use Rattle.std.proofs.lemmas.Bool.{cases_lt, ne_eqb}
use Rattle.std.proofs.lemmas.List.{append-nil, length-map, map-append, take-append-le, take-map}
use Rattle.fsa_types.specs.PackedRows.{PackRow, pack_kind}
use Rattle.fsa_types.specs.Packing.{Packed, bytes, entries_bytes, fitting, head_size, packed, rounded, size_of}
use Rattle.fsa_types.specs.declared.reply.PackKind.{PackKind}
use Rattle.fsa_types.specs.declared.reply.PackKind.TheVariants.{Names, Dir, Full, IdFull}
use Rattle.fsa_types.specs.declared.request.DirKind.{DirKind}
use Rattle.fsa_types.specs.declared.request.DirKind.TheVariants as dir
use Rattle.fsa_model.specs.QueryDir.{DirectoryEntry, entry_row, entry_rows, how_many_fit, place_after}
use Rattle.fsa_model.specs.Volume.{Cursor, Volume}
use Rattle.op_dir.specs.Filling.{Fills, padded, padded_size}
use Rattle.op_dir.specs.Listing.{Lists}
use Rattle.op_dir.specs.Places.{place_entry}
use Rattle.op_dir.specs.declared.listing.Listing.{Listing}
use Rattle.op_dir.specs.declared.listing.Listing.TheVariants.{NoneLeft, NoneFits, Given}
use Rattle.op_dir.specs.declared.places.Place.{Place}
use Rattle.volume_rows.specs.Cursors.{cursor_of}
use Rattle.volume_rows.specs.declared.cursors.Cursor.{Cursor as Stand}
use Rattle.pack_info.proofs.NumberLaws.{length-name_of}
use Rattle.pack_info.proofs.PackLaws.{fit, fit-is, fit-more, fit-none, fit-within, fitting_is}

-- ---- how many fit

-- an entry of a directory has its name alone behind its head
size-entry : (kind : DirKind) (v : Volume) (entry : DirectoryEntry) → size_of (pack_kind kind) (packed (pack_kind kind) (entry_row v entry)) ≡ head_size (pack_kind kind) + 2 * length entry.name
size-entry dir.Names v entry = omega (arith, length-name_of Names entry.name)
size-entry dir.Dir v entry = omega (arith, length-name_of Dir entry.name)
size-entry dir.Full v entry = omega (arith, length-name_of Full entry.name)
size-entry dir.IdFull v entry = omega (arith, length-name_of IdFull entry.name)

abbrev packed_entries : DirKind → Volume → List DirectoryEntry → List Packed
packed_entries kind v entries = map (packed (pack_kind kind)) (entry_rows v entries)

-- where no other fits behind the first ones, as many fit as of these
fit-filled : (kind : DirKind) (v : Volume) (used room : ℕ) (first rest : List DirectoryEntry) → room - (used + padded_size (pack_kind kind) first) < head_size (pack_kind kind)
    → fit (pack_kind kind) used room (packed_entries kind v first) ≡ fit (pack_kind kind) used room (packed_entries kind v (first ++ rest))
fit-filled kind v used room [] [] full = refl
fit-filled kind v used room [] (entry ∷ rest) full =
    sym (fit-none (pack_kind kind) used room (packed (pack_kind kind) (entry_row v entry)) (packed_entries kind v rest) (omega (arith, full, size-entry kind v entry)))
fit-filled kind v used room (entry ∷ first) rest full =
    let k : PackKind = pack_kind kind in
    let e : Packed = packed k (entry_row v entry) in
    elim (cases_lt room (used + size_of k e)) [
      | inl long ↦ fit-none k used room e (packed_entries kind v first) long ∙ sym (fit-none k used room e (packed_entries kind v (first ++ rest)) long)
      | inr fits ↦ (let size : rounded k (size_of k e) ≡ padded k (length entry.name) = ap (rounded k) (size-entry kind v entry) in
          fit-more k used room e (packed_entries kind v first) fits
          ∙ ap suc (fit-filled kind v (used + rounded k (size_of k e)) room first rest (omega (arith, full, size)))
          ∙ sym (fit-more k used room e (packed_entries kind v (first ++ rest)) fits))
    ]

fitting-fit : (kind : PackKind) (rows : List PackRow) (room : ℕ) → fitting kind rows room ≡ fit kind 0 room (map (packed kind) rows)
fitting-fit kind rows room = sym (fitting_is kind rows room (fit kind 0 room (map (packed kind) rows)) (fit-is kind room (fit kind 0 room (map (packed kind) rows)) (map (packed kind) rows) refl))

pub fitting-within : (kind : PackKind) (rows : List PackRow) (room : ℕ) → fitting kind rows room ≤ length rows
fitting-within kind rows room = omega (arith, fitting-fit kind rows room, fit-within kind 0 room (map (packed kind) rows), length-map rows (packed kind))

-- rows that are packed alike
pub fitting-packed : (kind : PackKind) (rows others : List PackRow) (room : ℕ) → map (packed kind) rows ≡ map (packed kind) others → fitting kind rows room ≡ fitting kind others room
fitting-packed kind rows others room same = fitting-fit kind rows room ∙ ap (fit kind 0 room) same ∙ sym (fitting-fit kind others room)

pub bytes-packed : (kind : PackKind) (n : ℕ) (rows others : List PackRow) → map (packed kind) rows ≡ map (packed kind) others → bytes kind (take n rows) ≡ bytes kind (take n others)
bytes-packed kind n rows others same =
    ap (entries_bytes kind) (sym (take-map (packed kind) n rows) ∙ ap (take n) same ∙ take-map (packed kind) n others)

fit-same : (v : Volume) (kind : DirKind) (first rest : List DirectoryEntry) (room : ℕ) → room - padded_size (pack_kind kind) first < head_size (pack_kind kind)
    → how_many_fit v kind first room ≡ how_many_fit v kind (first ++ rest) room
fit-same v kind first rest room full =
    fitting-fit (pack_kind kind) (entry_rows v first) room ∙ fit-filled kind v 0 room first rest (omega (arith, full)) ∙ sym (fitting-fit (pack_kind kind) (entry_rows v (first ++ rest)) room)

fit-first : (v : Volume) (kind : DirKind) (first : List DirectoryEntry) (room : ℕ) → how_many_fit v kind first room ≤ length first
fit-first v kind first room = omega (arith, fitting-within (pack_kind kind) (entry_rows v first) room, length-map first (entry_row v))

-- ---- the first of a list

got-first : {X : Type 0} (n : ℕ) (xs ys : List X) → n < length xs → slice_get xs n ≡ slice_get (xs ++ ys) n
got-first n [] ys few = absurd (omega arith)
got-first zero (x ∷ xs) ys few = refl
got-first (suc n) (x ∷ xs) ys few = got-first n xs ys (omega arith)

nonzero : (n : ℕ) → (suc n == 0) ≡ false
nonzero n = ne_eqb (suc n) 0 (λ e. omega (arith, e))

none-first : (kind : PackKind) (first rest : List DirectoryEntry) (room : ℕ) → head_size kind ≤ room → room - padded_size kind first < head_size kind → (length first == 0) ≡ (length (first ++ rest) == 0)
none-first kind [] rest room some full = absurd (omega arith)
none-first kind (entry ∷ first) rest room some full = nonzero (length first) ∙ sym (nonzero (length (first ++ rest)))

-- ---- what is listed

Lists-first : (v : Volume) (kind : DirKind) (cursor : Cursor) (first rest : List DirectoryEntry) (room : ℕ) (listing : Listing) → head_size (pack_kind kind) ≤ room
    → room - padded_size (pack_kind kind) first < head_size (pack_kind kind) → Lists v kind cursor first room listing → Lists v kind cursor (first ++ rest) room listing
Lists-first v kind cursor first rest room NoneLeft some full lists = sym (none-first (pack_kind kind) first rest room some full) ∙ lists
Lists-first v kind cursor first rest room NoneFits some full lists = (
  sym (none-first (pack_kind kind) first rest room some full) ∙ lists.0,
  ap (λ n. n == 0) (sym (fit-same v kind first rest room full)) ∙ lists.1,
)
Lists-first v kind cursor first rest room (Given after made) some full lists =
    let n : ℕ = how_many_fit v kind first room in
    let same : n ≡ how_many_fit v kind (first ++ rest) room = fit-same v kind first rest room full in
    let within : n ≤ length first = fit-first v kind first room in
    let given : 0 < n = zero-less n lists.1 in
    let long : length (entry_rows v first) ≡ length first = length-map first (entry_row v) in (
      sym (none-first (pack_kind kind) first rest room some full) ∙ lists.0,
      ap (λ n. n == 0) (sym same) ∙ lists.1,
      lists.2 ∙ ap (λ (o : Option DirectoryEntry). option_map_or (λ entry. entry.place) o cursor) (got-first (n - 1) first rest (omega (arith, within, given)))
          ∙ ap (place_after cursor (first ++ rest)) same,
      lists.3 ∙ ap (bytes (pack_kind kind)) (sym (take-append-le n (entry_rows v first) (entry_rows v rest) (omega (arith, within, long))))
          ∙ ap (λ (rows : List PackRow). bytes (pack_kind kind) (take n rows)) (sym (map-append (entry_row v) first rest))
          ∙ ap (λ m. bytes (pack_kind kind) (take m (entry_rows v (first ++ rest)))) same,
    )
  where
    zero-less : (n : ℕ) → (n == 0) ≡ false → 0 < n
    zero-less zero some = absurd cc
    zero-less (suc n) some = omega arith

-- listing from the first entries, which fill the room, is listing from all
pub Lists-filled : (v : Volume) (kind : DirKind) (cursor : Cursor) (first all : List DirectoryEntry) (room : ℕ) (listing : Listing) → head_size (pack_kind kind) ≤ room
    → Fills (pack_kind kind) room first all → Lists v kind cursor first room listing → Lists v kind cursor all room listing
Lists-filled v kind cursor first all room listing some fills lists = rw fills.parts (go fills.rest fills.full)
  where
    go : (rest : List DirectoryEntry) → (rest ≡ []) ⊎ (room - padded_size (pack_kind kind) first < head_size (pack_kind kind)) → Lists v kind cursor (first ++ rest) room listing
    go rest (inl none) = rw (none, append-nil first) lists
    go rest (inr full) = Lists-first v kind cursor first rest room listing some full lists

-- ---- how entries fill a room

pub padded_size-append : (kind : PackKind) (some more : List DirectoryEntry) → padded_size kind (some ++ more) ≡ padded_size kind some + padded_size kind more
padded_size-append kind [] more = omega arith
padded_size-append kind (entry ∷ some) more = omega (arith, padded_size-append kind some more)

-- what is left of the room behind some is at most this, so behind some more it is at most what these leave of it
pub fills_on : (kind : PackKind) (room left behind : ℕ) (some more all : List DirectoryEntry) → room - padded_size kind some ≤ left → all ≡ some ++ more → behind ≡ left - padded_size kind more → room - padded_size kind all ≤ behind
fills_on kind room left behind some more all at_most are is = rw (are, is) (omega (arith, at_most, padded_size-append kind some more))

pub fills-all : (kind : PackKind) (room : ℕ) (first rest all : List DirectoryEntry) → first ++ rest ≡ all → rest ≡ [] → Fills kind room first all
fills-all kind room first rest all parts none = record { rest = rest; parts = sym parts; full = inl none }

pub fills-full : (kind : PackKind) (room left : ℕ) (first rest all : List DirectoryEntry) → first ++ rest ≡ all → room - padded_size kind first ≤ left → left < head_size kind → Fills kind room first all
fills-full kind room left first rest all parts at_most full = record { rest = rest; parts = sym parts; full = inr (omega (arith, at_most, full)) }

-- ---- what was packed

-- the rows of some, and of some more
pub rows_on : (v : Volume) (kind : PackKind) (some more all : List DirectoryEntry) (rows made : List PackRow) → map (packed kind) rows ≡ map (packed kind) (entry_rows v some) → all ≡ some ++ more
    → map (packed kind) made ≡ map (packed kind) rows ++ map (packed kind) (entry_rows v more) → map (packed kind) made ≡ map (packed kind) (entry_rows v all)
rows_on v kind some more all rows made before are is =
    is
    ∙ ap (λ (entries : List Packed). entries ++ map (packed kind) (entry_rows v more)) before
    ∙ sym (map-append (packed kind) (entry_rows v some) (entry_rows v more))
    ∙ ap (map (packed kind)) (sym (map-append (entry_row v) some more))
    ∙ ap (λ (entries : List DirectoryEntry). map (packed kind) (entry_rows v entries)) (sym are)

slice_get-mapped : {X Y : Type 0} (f : X → Y) (xs : List X) (i : ℕ) (x d : X) → i < length xs → x ≡ get_or xs i d → slice_get (map f xs) i ≡ Some (f x)
slice_get-mapped f [] i x d within is = absurd (omega arith)
slice_get-mapped f (y ∷ ys) zero x d within is = ap (λ z. Some (f z)) (sym is)
slice_get-mapped f (y ∷ ys) (suc i) x d within is = slice_get-mapped f ys i x d (omega arith) is

-- the enumeration stands behind the last entry that was given
pub place-given : (v : Volume) (dir : ℕ) (cursor : Cursor) (places : List Place) (given : ℕ) (place d : Place) → given - 1 < length places → place ≡ get_or places (given - 1) d
    → place_after cursor (map (place_entry v dir) places) given ≡ (place_entry v dir place).place
place-given v dir cursor places given place d within is =
    ap (λ (o : Option DirectoryEntry). option_map_or (λ entry. entry.place) o cursor) (slice_get-mapped (place_entry v dir) places (given - 1) place d within is)

pub none-given : (v : Volume) (dir : ℕ) (kind : DirKind) (places : List Place) (room count : ℕ) → (length places == 0) ≡ false → count ≡ how_many_fit v kind (map (place_entry v dir) places) room → count ≡ 0
    → (cursor : Cursor) → Lists v kind cursor (map (place_entry v dir) places) room NoneFits
none-given v dir kind places room count some is none cursor = (ap (λ n. n == 0) (length-map places (place_entry v dir)) ∙ some, ap (λ n. n == 0) (sym is ∙ none))

pub some-given : (v : Volume) (dir : ℕ) (kind : DirKind) (places : List Place) (room count : ℕ) (place d : Place) (after : Stand) (made : List ℕ) → (length places == 0) ≡ false
    → count ≡ how_many_fit v kind (map (place_entry v dir) places) room → (count ≡ 0 → ⊥) → count - 1 < length places → place ≡ get_or places (count - 1) d
    → cursor_of after ≡ (place_entry v dir place).place → made ≡ bytes (pack_kind kind) (take count (entry_rows v (map (place_entry v dir) places)))
    → (cursor : Cursor) → Lists v kind cursor (map (place_entry v dir) places) room (Given after made)
some-given v dir kind places room count place d after made some is more within there stands packed cursor = (
  ap (λ n. n == 0) (length-map places (place_entry v dir)) ∙ some,
  ap (λ n. n == 0) (sym is) ∙ ne_eqb count 0 more,
  stands ∙ sym (place-given v dir cursor places count place d within there) ∙ ap (place_after cursor (map (place_entry v dir) places)) is,
  packed ∙ ap (λ n. bytes (pack_kind kind) (take n (entry_rows v (map (place_entry v dir) places)))) is,
)
