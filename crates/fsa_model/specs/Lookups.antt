-- What can be looked up in a volume: links by directory and name, streams by file and name, handles
-- by client and number, what a file and a stream are, and what belongs to what.
use Rattle.std.specs.Prelude.{ℕ, Bool, false, List, [], ◌&&◌, ◌||◌, ◌==◌, not, Option, Some, find, filter, length, nat_lt, option_map, slice_get, zero, suc, if◌then◌else◌}
use Rattle.std.specs.Option.{option_map_or}
use Rattle.std.specs.List.{list_any, slice_index_or}
use Rattle.fsa_types.specs.CaseTable.{same_name}
use Rattle.fsa_types.specs.Rows.{row_of}
use Rattle.fsa_types.specs.Sharing.{clash}
use Rattle.fsa_types.specs.declared.oplock.HandleSet.{HandleSet}
use Rattle.fsa_types.specs.declared.oplock.HandleSet.TheVariants as set
use Rattle.fsa_model.specs.Volume.{File, Link, Stream, Handle, Volume}

-- the number of the first row that passes
abbrev pub number_of : {R : Type 0} → (R → Bool) → List (ℕ × R) → Option ℕ
number_of test rows = option_map (λ entry. entry.0) (find (λ entry. test entry.1) rows)

-- some row passes
abbrev pub has_row : {R : Type 0} → (R → Bool) → List (ℕ × R) → Bool
has_row test rows = list_any (λ entry. test entry.1) rows

-- a link of this name in this directory, names compared by the case table
abbrev pub is_named : List (ℕ × ℕ) → ℕ → List ℕ → Link → Bool
is_named table parent name link = link.parent == parent && same_name table link.name name

-- the link of this name in this directory
abbrev pub child_of : Volume → ℕ → List ℕ → Option ℕ
child_of v parent name = number_of (is_named v.table parent name) v.links

-- a stream of this name of this file; the default stream's name is empty
abbrev pub is_stream_named : List (ℕ × ℕ) → ℕ → List ℕ → Stream → Bool
is_stream_named table file name stream = stream.file == file && same_name table stream.name name

-- the stream of this name of this file
abbrev pub stream_of : Volume → ℕ → List ℕ → Option ℕ
stream_of v file name = number_of (is_stream_named v.table file name) v.streams

-- the handle that this call of this client opened
abbrev pub is_opened_by : ℕ → ℕ → Handle → Bool
is_opened_by client number handle = handle.client == client && handle.number == number

abbrev pub handle_of : Volume → ℕ → ℕ → Option ℕ
handle_of v client number = number_of (is_opened_by client number) v.handles

-- there is a directory of this number
abbrev pub is_directory : List (ℕ × File) → ℕ → Bool
is_directory files file = list_any (λ entry. entry.0 == file && entry.1.directory) files

-- the first link of this file; a directory has one, and the root has none
abbrev pub link_of_file : List (ℕ × Link) → ℕ → Option (ℕ × Link)
link_of_file links file = find (λ entry. entry.1.file == file) links

-- the number of a directory's link, 0 for the root
abbrev pub dir_link : Volume → ℕ → ℕ
dir_link v dir = option_map_or (λ entry. entry.0) (link_of_file v.links dir) 0

-- some link, marked or not, has this parent
abbrev pub has_child : List (ℕ × Link) → ℕ → Bool
has_child links dir = has_row (λ link. link.parent == dir) links

-- how many links of a file are not marked, and how many there are
abbrev pub links_of : Volume → ℕ → ℕ × ℕ
links_of v file = (
  length (filter (λ entry. entry.1.file == file && not entry.1.deleted) v.links),
  length (filter (λ entry. entry.1.file == file) v.links),
)

-- the file of a link; of link 0 it is the root
abbrev pub file_of_link : List (ℕ × Link) → ℕ → Option ℕ
file_of_link links link = if link == 0 then Some 1 else option_map (λ row. row.file) (row_of links link)

-- the link is marked for deletion
abbrev pub is_link_marked : Volume → ℕ → Bool
is_link_marked v link = option_map_or (λ row. row.deleted) (row_of v.links link) false

-- the file of a link, and the directory that the link is in; 0 where there is no such link
abbrev pub linked_file : Volume → ℕ → ℕ
linked_file v link = option_map_or (λ row. row.file) (row_of v.links link) 0

abbrev pub parent_of : Volume → ℕ → ℕ
parent_of v link = option_map_or (λ row. row.parent) (row_of v.links link) 0

-- the times of a file, its attributes and its owner
abbrev pub creation_time : Volume → ℕ → ℕ
creation_time v file = option_map_or (λ row. row.creation) (row_of v.files file) 0

abbrev pub access_time : Volume → ℕ → ℕ
access_time v file = option_map_or (λ row. row.access) (row_of v.files file) 0

abbrev pub write_time : Volume → ℕ → ℕ
write_time v file = option_map_or (λ row. row.write) (row_of v.files file) 0

abbrev pub attributes_of : Volume → ℕ → ℕ
attributes_of v file = option_map_or (λ row. row.attributes) (row_of v.files file) 0

abbrev pub owner_of : Volume → ℕ → ℕ
owner_of v file = option_map_or (λ row. row.owner) (row_of v.files file) 0

-- the file of a stream; whether the stream is named, and whether it is marked for deletion
abbrev pub file_of_stream : Volume → ℕ → ℕ
file_of_stream v stream = option_map_or (λ row. row.file) (row_of v.streams stream) 0

abbrev pub is_named_stream : Volume → ℕ → Bool
is_named_stream v stream = option_map_or (λ row. not (length row.name == 0)) (row_of v.streams stream) false

abbrev pub is_marked : Volume → ℕ → Bool
is_marked v stream = option_map_or (λ row. row.deleted) (row_of v.streams stream) false

-- the largest end of a range of a stream's bytes
abbrev pub largest_end : ℕ
largest_end = 0x7FFFFFFFFFFFFFFF

-- the bytes of a stream
abbrev pub bytes_of : Volume → ℕ → List ℕ
bytes_of v stream = option_map_or (λ row. row.bytes) (row_of v.streams stream) []

-- so many steps up, or fewer, lead from this directory to the directory `above`
abbrev pub leads_to : ℕ → List (ℕ × Link) → ℕ → ℕ → Bool
leads_to zero links above dir = dir == above
leads_to (suc steps) links above dir =
    dir == above || option_map_or (λ entry. leads_to steps links above entry.1.parent) (link_of_file links dir) false

-- the directory is that one or lies below it
abbrev pub is_at_or_below : List (ℕ × Link) → ℕ → ℕ → Bool
is_at_or_below links above dir = leads_to (length links) links above dir

-- this link lies below that directory
abbrev pub is_below : List (ℕ × Link) → ℕ → ℕ → Bool
is_below links above link =
    option_map_or (λ row. leads_to (length links) links above row.parent) (row_of links link) false

-- the handle is of this stream; it was opened by this link, where 0 is the root's
abbrev pub is_open_on : ℕ → Handle → Bool
is_open_on stream handle = option_map_or (λ s. s == stream) handle.stream false

abbrev pub is_open_by : ℕ → Handle → Bool
is_open_by link handle = handle.link == link

-- a handle is one of the set, in a tree of these links
abbrev pub is_one_of : List (ℕ × Link) → HandleSet → Handle → Bool
is_one_of links (set.Stream stream) handle = is_open_on stream handle
is_one_of links (set.Link link) handle = is_open_by link handle
is_one_of links (set.Below dir) handle = is_below links dir handle.link

abbrev pub is_on : Volume → HandleSet → Handle → Bool
is_on v on handle = is_one_of v.links on handle

-- the handles of the set, in the order in which they were opened
abbrev pub handles_on : Volume → HandleSet → List (ℕ × Handle)
handles_on v on = filter (λ entry. is_on v on entry.1) v.handles

-- the handle is the client's, and its number is above this one
abbrev pub is_after : ℕ → ℕ → Handle → Bool
is_after client after handle = handle.client == client && nat_lt after handle.number

-- that client's handle with the least number above `after`: no other stands between
abbrev pub next_handle_of : Volume → ℕ → ℕ → Option ℕ
next_handle_of v client after =
    number_of
    (λ handle. is_after client after handle
    && not (has_row (λ other. is_after client after other && nat_lt other.number handle.number) v.handles))
    v.handles

-- an open with these masks clashes with some handle of the set
abbrev pub clashes_on : Volume → HandleSet → ℕ → ℕ → Bool
clashes_on v on access share =
    has_row (λ handle. is_on v on handle && clash access share handle.access handle.share) v.handles

-- a client's SIDs
abbrev pub sids_of : Volume → ℕ → List ℕ
sids_of v client = option_map_or (λ row. row.sids) (slice_get v.clients client) []

-- a client has left
abbrev pub has_left : Volume → ℕ → Bool
has_left v client = slice_index_or v.left client false

-- the least turn above `after` under which a call is pending: no other stands between
abbrev pub next_pending : Volume → ℕ → Option ℕ
next_pending v after =
    option_map (λ entry. entry.0)
    (find (λ entry. nat_lt after entry.0 && not (list_any (λ other. nat_lt after other.0 && nat_lt other.0 entry.0) v.pending)) v.pending)
