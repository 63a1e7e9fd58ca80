-- What can change in a volume, one name for each change. What a change doesn't name stays.
use Rattle.std.specs.Prelude.{ℕ, Bool, true, false, List, [], ◌∷◌, ◌++◌, ◌+◌, ◌&&◌, ◌==◌, not, Option, Some, filter, if◌then◌else◌, slice_set}
use Rattle.std.specs.Option.{option_map_or}
use Rattle.fsa_types.specs.Rows.{row_of, without_row, with_row_changed}
use Rattle.fsa_types.specs.StreamBytes.{put, cut}
use Rattle.fsa_types.specs.declared.request.Ace.{Ace}
use Rattle.fsa_types.specs.declared.request.Call.{Call}
use Rattle.fsa_types.specs.declared.reply.Blocker.{Blocker}
use Rattle.fsa_types.specs.declared.reply.Reply.{Reply}
use Rattle.fsa_model.specs.Volume.{File, Cursor, Handle, Lock, Pending, Volume}
use Rattle.fsa_model.specs.Lookups.{has_row, number_of}

-- a file or directory more, with the next number
abbrev pub with_file : Volume → File → Volume
with_file v file = record v {
  files = v.files ++ (v.last_file + 1, file) ∷ [];
  last_file = v.last_file + 1;
}

-- a link more, not marked
abbrev pub with_link : Volume → ℕ → List ℕ → ℕ → Volume
with_link v parent name file = record v {
  links = v.links ++ (v.last_link + 1, record { parent = parent; name = name; file = file; deleted = false }) ∷ [];
  last_link = v.last_link + 1;
}

-- a stream more, empty and not marked
abbrev pub with_stream : Volume → ℕ → List ℕ → Volume
with_stream v file name = record v {
  streams = v.streams ++ (v.last_stream + 1, record { file = file; name = name; bytes = []; deleted = false }) ∷ [];
  last_stream = v.last_stream + 1;
}

-- a handle more
abbrev pub with_handle : Volume → Handle → Volume
with_handle v handle = record v {
  handles = v.handles ++ (v.last_handle + 1, handle) ∷ [];
  last_handle = v.last_handle + 1;
}

-- without the handle, and without its locks, its oplock with its break, and its watch
abbrev pub without_handle : Volume → ℕ → Volume
without_handle v handle = record v {
  handles = without_row v.handles handle;
  locks = filter (λ entry. not (entry.1.handle == handle)) v.locks;
  oplocks = filter (λ oplock. not (oplock.handle == handle)) v.oplocks;
  watches = filter (λ watch. not (watch.handle == handle)) v.watches;
}

-- without the file and its streams
abbrev pub without_file : Volume → ℕ → Volume
without_file v file = record v {
  files = without_row v.files file;
  streams = filter (λ entry. not (entry.1.file == file)) v.streams;
}

-- without the file and its streams, unless it has a link
abbrev pub without_file_unless_linked : Volume → ℕ → Volume
without_file_unless_linked v file =
    if has_row (λ link. link.file == file) v.links then v else without_file v file

-- without the link; with a file's last link the file and its streams go
abbrev pub without_link : Volume → ℕ → Volume
without_link v link =
    option_map_or (λ row. without_file_unless_linked (record v { links = without_row v.links link }) row.file) (row_of v.links link) v

-- without the stream
abbrev pub without_stream : Volume → ℕ → Volume
without_stream v stream = record v { streams = without_row v.streams stream }

-- the link in this directory, with this name
abbrev pub with_link_moved : Volume → ℕ → ℕ → List ℕ → Volume
with_link_moved v link parent name = record v {
  links = with_row_changed (λ row. record row { parent = parent; name = name }) v.links link;
}

-- the link marked for deletion, or its mark cleared
abbrev pub with_link_marked : Volume → ℕ → Bool → Volume
with_link_marked v link deleted = record v {
  links = with_row_changed (λ row. record row { deleted = deleted }) v.links link;
}

-- the stream marked for deletion, or its mark cleared
abbrev pub with_stream_marked : Volume → ℕ → Bool → Volume
with_stream_marked v stream deleted = record v {
  streams = with_row_changed (λ row. record row { deleted = deleted }) v.streams stream;
}

-- the bytes put at this place, a gap before them filled with zeros
abbrev pub with_bytes : Volume → ℕ → ℕ → List ℕ → Volume
with_bytes v stream at bytes = record v {
  streams = with_row_changed (λ row. record row { bytes = put row.bytes at bytes }) v.streams stream;
}

-- the stream of this length, with zeros beyond its old end
abbrev pub with_length : Volume → ℕ → ℕ → Volume
with_length v stream length = record v {
  streams = with_row_changed (λ row. record row { bytes = cut row.bytes length }) v.streams stream;
}

-- the file with these times and attributes
abbrev pub with_basic : Volume → ℕ → ℕ → ℕ → ℕ → ℕ → ℕ → Volume
with_basic v file creation access write change attributes = record v {
  files = with_row_changed (λ row. record row { creation = creation; access = access; write = write; change = change; attributes = attributes }) v.files file;
}

-- the file with this owner
abbrev pub with_owner : Volume → ℕ → ℕ → Volume
with_owner v file owner = record v { files = with_row_changed (λ row. record row { owner = owner }) v.files file }

-- the file with this access list, or with none
abbrev pub with_dacl : Volume → ℕ → Option (List Ace) → Volume
with_dacl v file dacl = record v { files = with_row_changed (λ row. record row { dacl = dacl }) v.files file }

-- the file with this reparse point, or with none
abbrev pub with_point : Volume → ℕ → Option (ℕ × List ℕ) → Volume
with_point v file point = record v { files = with_row_changed (λ row. record row { point = point }) v.files file }

-- a lock more, with the next number
abbrev pub with_lock : Volume → ℕ → ℕ → ℕ → Bool → Volume
with_lock v handle at count exclusive = record v {
  locks = v.locks ++ (v.last_lock + 1, record { handle = handle; at = at; count = count; exclusive = exclusive }) ∷ [];
  last_lock = v.last_lock + 1;
}

-- a lock of this handle on exactly this range
abbrev pub is_lock_on : ℕ → ℕ → ℕ → Lock → Bool
is_lock_on handle at count lock = lock.handle == handle && lock.at == at && lock.count == count

-- without the first lock of this handle on exactly this range, where there is one
abbrev pub without_lock : Volume → ℕ → ℕ → ℕ → Volume
without_lock v handle at count = record v {
  locks = option_map_or (λ number. without_row v.locks number) (number_of (is_lock_on handle at count) v.locks) v.locks;
}

-- without the handle's oplock
abbrev pub without_oplock : Volume → ℕ → Volume
without_oplock v handle = record v { oplocks = filter (λ oplock. not (oplock.handle == handle)) v.oplocks }

-- the handle's enumeration with this expression, standing there
abbrev pub with_cursor : Volume → ℕ → List ℕ → Cursor → Volume
with_cursor v handle expression cursor = record v {
  handles = with_row_changed (λ row. record row { enumeration = Some (expression, cursor) }) v.handles handle;
}

-- a watch more, to which what is noted from place `from` on is due
abbrev pub with_watch : Volume → ℕ → ℕ → Bool → ℕ → Volume
with_watch v handle filter tree from = record v {
  watches = v.watches ++ record { handle = handle; filter = filter; tree = tree; from = from } ∷ [];
}

-- the owner's limit, in place of an earlier one
abbrev pub with_limit : Volume → ℕ → ℕ → Volume
with_limit v sid limit = record v {
  limits = filter (λ entry. not (entry.0 == sid)) v.limits ++ (sid, limit) ∷ [];
}

-- the clock so many ticks on
abbrev pub with_ticks : Volume → ℕ → Volume
with_ticks v ticks = record v { clock = v.clock + ticks }

-- the call pending under this turn, with what it waits for
abbrev pub with_pending : Volume → ℕ → Call → List Blocker → Volume
with_pending v turn call blockers = record v {
  pending = v.pending ++ (turn, record { call = call; blockers = blockers }) ∷ [];
}

-- the call that is pending under this turn waits for these instead
abbrev pub with_blockers : Volume → ℕ → List Blocker → Volume
with_blockers v turn blockers = record v {
  pending = with_row_changed (λ row. record row { blockers = blockers }) v.pending turn;
}

-- the call has ended with this reply, and is pending no more
abbrev pub is_call : ℕ → ℕ → Pending → Bool
is_call client number pending = pending.call.client == client && pending.call.number == number

abbrev pub with_end : Volume → ℕ → ℕ → Reply → Volume
with_end v client number reply = record v {
  pending = filter (λ entry. not (is_call client number entry.1)) v.pending;
  ended = v.ended ++ record { client = client; number = number; reply = reply } ∷ [];
}

-- the client has left
abbrev pub with_left : Volume → ℕ → Volume
with_left v client = record v { left = slice_set v.left client true }
