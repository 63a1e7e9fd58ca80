-- Listing a directory, after [MS-FSA] 'Server Requests Querying a Directory': the entries of a directory, where an
-- enumeration stands, and one try of it, its checks in order, each by its name.
use Rattle.std.specs.Prelude.{ℕ, Bool, true, false, ◌-◌, ◌==◌, ◌&&◌, not, nat_lt, List, [], ◌∷◌, ◌++◌, filter, map, take, length, is_some, slice_get, if◌then◌else◌, codes}
use Rattle.std.specs.Option.{option_map_or}
use Rattle.std.specs.Ordering.{is_lt}
use Rattle.fsa_types.specs.Access.{has_any}
use Rattle.fsa_types.specs.CaseTable.{cmp_name}
use Rattle.fsa_types.specs.Masks.{READ_DATA}
use Rattle.fsa_types.specs.Match.{is_refused, matches}
use Rattle.fsa_types.specs.PackedRows.{PackRow, pack_kind}
use Rattle.fsa_types.specs.Packing.{bytes, fitting, head_size}
use Rattle.fsa_types.specs.Rows.{row_of}
use Rattle.fsa_types.specs.Sorting.{in_order}
use Rattle.fsa_types.specs.declared.reply.Body.TheVariants.{Packed}
use Rattle.fsa_types.specs.declared.reply.PackKind.{PackKind}
use Rattle.fsa_types.specs.declared.reply.Reply.{Reply}
use Rattle.fsa_types.specs.declared.request.DirKind.{DirKind}
use Rattle.fsa_types.specs.declared.status.Status.{Status}
use Rattle.fsa_types.specs.declared.status.Status.TheVariants.{Success, InvalidHandle, InvalidParameter, AccessDenied, ObjectNameInvalid, InfoLengthMismatch, NoSuchFile, NoMoreFiles, BufferOverflow}
use Rattle.fsa_model.specs.Edits.{with_cursor}
use Rattle.fsa_model.specs.Lookups.{file_of_link, handle_of, link_of_file}
use Rattle.fsa_model.specs.Outcome.{Outcome, Done, ends_with, refused}
use Rattle.fsa_model.specs.ShownNumbers.{listed_numbers}
use Rattle.fsa_model.specs.Volume.{Cursor, Start, Dot, DotDot, After, Handle, Link, Volume}

-- ---- the entries

-- an entry: where the enumeration stands once it was given, its name, and the file that it shows
pub record DirectoryEntry : Type 0 where
  pub place : Cursor
  pub name : List ℕ
  pub file : ℕ

-- the directory that this one is in
abbrev pub parent_directory : Volume → ℕ → ℕ
parent_directory v dir = option_map_or (λ entry. entry.1.parent) (link_of_file v.links dir) dir

-- `.` shows the directory, and `..` its parent
abbrev pub dot_entry : ℕ → DirectoryEntry
dot_entry dir = record { place = Dot; name = codes "."; file = dir }

abbrev pub dot_dot_entry : Volume → ℕ → DirectoryEntry
dot_dot_entry v dir = record { place = DotDot; name = codes ".."; file = parent_directory v dir }

-- `.` and `..`, of which the root has neither
abbrev pub dots : Volume → ℕ → List DirectoryEntry
dots v dir = if dir == 1 then [] else dot_entry dir ∷ dot_dot_entry v dir ∷ []

-- one link stands before another: in the order of their upcased names
abbrev pub is_listed_before : List (ℕ × ℕ) → ℕ × Link → ℕ × Link → Bool
is_listed_before table one other = is_lt (cmp_name table one.1.name other.1.name)

-- the links of a directory that aren't marked for deletion, in order
abbrev pub listed_links : Volume → ℕ → List (ℕ × Link)
listed_links v dir = in_order (is_listed_before v.table) (filter (λ entry. entry.1.parent == dir && not entry.1.deleted) v.links)

abbrev pub link_entry : ℕ × Link → DirectoryEntry
link_entry entry = record { place = After entry.1.name; name = entry.1.name; file = entry.1.file }

abbrev pub directory_entries : Volume → ℕ → List DirectoryEntry
directory_entries v dir = dots v dir ++ map link_entry (listed_links v dir)

-- ---- where an enumeration stands

-- a link's place, behind this name
abbrev pub is_link_after : List (ℕ × ℕ) → List ℕ → Cursor → Bool
is_link_after table name (After other) = is_lt (cmp_name table name other)
is_link_after table name _ = false

-- the place of `..` or of a link
abbrev pub is_dot_dot_or_link : Cursor → Bool
is_dot_dot_or_link DotDot = true
is_dot_dot_or_link (After name) = true
is_dot_dot_or_link _ = false

-- the place of a link
abbrev pub is_link_place : Cursor → Bool
is_link_place (After name) = true
is_link_place _ = false

-- an entry comes after the last one that was given: of links those with greater names, whatever was made or
-- removed since
abbrev pub is_still_to_come : List (ℕ × ℕ) → Cursor → Cursor → Bool
is_still_to_come table Start place = true
is_still_to_come table Dot place = is_dot_dot_or_link place
is_still_to_come table DotDot place = is_link_place place
is_still_to_come table (After name) place = is_link_after table name place

-- the entries that are still to come and match the expression
abbrev pub left_to_list : Volume → ℕ → List ℕ → Cursor → List DirectoryEntry
left_to_list v dir expression cursor =
    filter (λ entry. is_still_to_come v.table cursor entry.place && matches v.table expression entry.name) (directory_entries v dir)

-- an expression that isn't empty is kept; an empty one keeps the one before, or is `*`
abbrev pub kept_expression : Handle → List ℕ → List ℕ
kept_expression handle expression =
    if not (length expression == 0) then expression else option_map_or (λ kept. kept.0) handle.enumeration (codes "*")

-- the expression and the cursor of a query: the first one and a restart begin anew; a later one goes on, and its
-- own expression is ignored
abbrev pub begun_enumeration : Handle → List ℕ → Bool → List ℕ × Cursor
begun_enumeration handle expression restart =
    if restart then (kept_expression handle expression, Start)
    else option_map_or (λ kept. kept) handle.enumeration (kept_expression handle expression, Start)

-- ---- the answer

-- how an entry is packed
abbrev pub entry_row : Volume → DirectoryEntry → PackRow
entry_row v entry = record { numbers = listed_numbers v entry.file; name = entry.name }

abbrev pub entry_rows : Volume → List DirectoryEntry → List PackRow
entry_rows v entries = map (entry_row v) entries

-- how many of these fit into the room
abbrev pub how_many_fit : Volume → DirKind → List DirectoryEntry → ℕ → ℕ
how_many_fit v kind entries room = fitting (pack_kind kind) (entry_rows v entries) room

-- where the enumeration stands once so many of these were given
abbrev pub place_after : Cursor → List DirectoryEntry → ℕ → Cursor
place_after cursor entries given = option_map_or (λ entry. entry.place) (slice_get entries (given - 1)) cursor

abbrev pub is_start : Cursor → Bool
is_start Start = true
is_start _ = false

-- nothing is left
abbrev pub none_left_status : Cursor → Status
none_left_status cursor = if is_start cursor then NoSuchFile else NoMoreFiles

-- these rows, packed
abbrev pub packed_reply : PackKind → List PackRow → Reply
packed_reply kind rows = record { status = Success; body = Packed kind (bytes kind rows) }

-- as many as fit are given; where the first doesn't, no part of it is
unfoldable pub list_entries : Volume → ℕ → DirKind → List ℕ → Cursor → List DirectoryEntry → ℕ → Outcome
list_entries v id kind expression cursor entries room =
    if length entries == 0 then ends_with (with_cursor v id expression cursor) (none_left_status cursor)
    else if how_many_fit v kind entries room == 0 then ends_with (with_cursor v id expression cursor) BufferOverflow
    else Done (with_cursor v id expression (place_after cursor entries (how_many_fit v kind entries room)))
    (packed_reply (pack_kind kind) (take (how_many_fit v kind entries room) (entry_rows v entries)))

unfoldable pub query_dir_in : Volume → ℕ → ℕ → DirKind → List ℕ → Cursor → ℕ → Outcome
query_dir_in v id dir kind expression cursor room = list_entries v id kind expression cursor (left_to_list v dir expression cursor) room

-- ---- the checks

-- a directory, READ_DATA, an expression, and room for what stands before a name
unfoldable pub query_dir_by : Volume → ℕ → Handle → DirKind → List ℕ → Bool → ℕ → Outcome
query_dir_by v id handle kind expression restart room =
    if is_some handle.stream then refused v InvalidParameter
    else if not (has_any handle.access READ_DATA) then refused v AccessDenied
    else if is_refused expression then refused v ObjectNameInvalid
    else if nat_lt room (head_size (pack_kind kind)) then refused v InfoLengthMismatch
    else option_map_or
    (λ dir. query_dir_in v id dir kind (begun_enumeration handle expression restart).0 (begun_enumeration handle expression restart).1 room)
    (file_of_link v.links handle.link) (refused v InvalidHandle)

-- the handle of this number
unfoldable pub query_dir_at : Volume → ℕ → DirKind → List ℕ → Bool → ℕ → Outcome
query_dir_at v id kind expression restart room =
    option_map_or (λ handle. query_dir_by v id handle kind expression restart room) (row_of v.handles id) (refused v InvalidHandle)

-- one try of a query
unfoldable pub try_query_dir : Volume → ℕ → ℕ → DirKind → List ℕ → Bool → ℕ → Outcome
try_query_dir v client handle kind expression restart room =
    option_map_or (λ id. query_dir_at v id kind expression restart room) (handle_of v client handle) (refused v InvalidHandle)
