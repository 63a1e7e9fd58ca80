-- The requests that change nothing of files, links and streams, and note nothing: reads, flushes, locks and unlocks, queries,
-- oplocks and acknowledgements, watches, quotas, cancellations, waits and ticks. Of each try the volume is left alike, but for the
-- clock after a tick, and the changes that such a call makes are none.
use Rattle.std.proofs.Common.{◌≡◌, ℕ, ◌+◌, Bool, true, false, List, [], ◌∷◌, refl, ap, inl, inr, Option, Some, None}
use Rattle.std.specs.Option.{option_map_or}
use Rattle.std.specs.Prelude.{◌&&◌, ◌||◌, ◌==◌, fold, is_some, length, nat_le, nat_lt, not, if◌then◌else◌}
use Rattle.std.proofs.lemmas.Bool.{cases_Bool}
use Rattle.fsa_types.specs.Access.{has_any}
use Rattle.fsa_types.specs.Masks.{APPEND_DATA, READ_ATTRIBUTES, READ_DATA, WRITE_DATA}
use Rattle.fsa_types.specs.Match.{is_refused}
use Rattle.fsa_types.specs.Oplocks.{has_read, in_both}
use Rattle.fsa_types.specs.PackedRows.{pack_kind}
use Rattle.fsa_types.specs.Packing.{head_size}
use Rattle.fsa_types.specs.Rows.{row_of}
use Rattle.fsa_types.specs.declared.oplock.Class.{Class}
use Rattle.fsa_types.specs.declared.oplock.Class.TheVariants.{Change, ReadOpen}
use Rattle.fsa_types.specs.declared.oplock.HandleSet.{HandleSet}
use Rattle.fsa_types.specs.declared.oplock.HandleSet.TheVariants.{Stream}
use Rattle.fsa_types.specs.declared.reply.Body.{Body}
use Rattle.fsa_types.specs.declared.request.DirKind.{DirKind}
use Rattle.fsa_types.specs.declared.request.InfoKind.{InfoKind}
use Rattle.fsa_types.specs.declared.request.InfoKind.TheVariants.{Basic, Standard, Internal, Tag, Streams}
use Rattle.fsa_types.specs.declared.request.Level.{Level}
use Rattle.fsa_types.specs.declared.request.Request.TheVariants as request
use Rattle.fsa_types.specs.declared.request.What.{What}
use Rattle.fsa_types.specs.declared.request.What.TheVariants.{Ask, Tick, WaitFor, Leave}
use Rattle.fsa_types.specs.declared.status.Status.{Status}
use Rattle.fsa_types.specs.declared.status.Status.TheVariants.{OplockSwitchedToNewHandle}
use Rattle.fsa_model.specs.Breaks.{with_breaks}
use Rattle.fsa_model.specs.Edits.{is_call, is_lock_on, without_oplock}
use Rattle.fsa_model.specs.Flush.{flush_at, try_flush}
use Rattle.fsa_model.specs.Grant.{ack_at, ack_keeping, is_not_granted, oplock_at, oplock_by, oplock_on, switched, target_of, try_ack, try_oplock, with_all_switched, with_call_ended, with_granted, with_switched}
use Rattle.fsa_model.specs.Locking.{lock_at, lock_blockers, lock_by, lock_free, lock_range, lock_stream, passes_top, try_lock, try_unlock, unlock_at, unlock_by, unlock_range}
use Rattle.fsa_model.specs.Lookups.{bytes_of, file_of_link, handle_of, is_link_marked, largest_end, number_of}
use Rattle.fsa_model.specs.Locked.{read_is_locked}
use Rattle.fsa_model.specs.Outcome.{Outcome, Done, Stay, Hold}
use Rattle.fsa_model.specs.QueryDir.{DirectoryEntry, begun_enumeration, how_many_fit, left_to_list, list_entries, query_dir_at, query_dir_by, query_dir_in, try_query_dir}
use Rattle.fsa_model.specs.QueryInfo.{fixed_size, how_many_streams_fit, needs_attributes, query_file, query_info_at, query_info_by, query_streams, query_streams_by, stream_rows, try_query_info}
use Rattle.fsa_model.specs.Quota.{is_administrator, try_query_quota, try_set_quota}
use Rattle.fsa_model.specs.Read.{read_at, read_by, read_bytes, read_range, read_stream, read_unlocked, try_read}
use Rattle.fsa_model.specs.ReparsePoints.{get_point, get_reparse_at, get_reparse_by, get_reparse_of, point_buffer, try_get_reparse}
use Rattle.fsa_model.specs.Try.{try_what}
use Rattle.fsa_model.specs.Turn.{volume_after}
use Rattle.fsa_model.specs.Volume.{Cursor, Handle, Oplock, Volume}
use Rattle.fsa_model.specs.Waiting.{has_ended, is_pending, try_cancel, try_wait}
use Rattle.fsa_model.specs.Waits.{held_by, waits_for}
use Rattle.fsa_model.specs.Walk.{point_of}
use Rattle.fsa_model.specs.Watching.{is_notify_filter, is_something_due, notify_at, notify_by, notify_due, try_notify, watch_of, with_watch_begun}
use Rattle.fsa_model.proofs.RowLaws.{option_cases}
use Rattle.history_laws.specs.TreeChanges.{LeavesChanges, SameTree, changes_asked, changes_of}
use Rattle.history_laws.proofs.TreeParts.{Alike, Alike-breaks, Alike-next, Alike-same, Alike-tree, where_success-none}

-- ---- quiet tries

-- a volume with the case table, files, links, streams, numbers, changes and clock of another
Alike-rest : (v w : Volume)
    → w ≡ record w { table = v.table; files = v.files; links = v.links; streams = v.streams; last_file = v.last_file; last_link = v.last_link; last_stream = v.last_stream; changes = v.changes; clock = v.clock }
    → Alike v w
Alike-rest v w is = record {
  table = ap (λ (u : Volume). u.table) is;
  files = ap (λ (u : Volume). u.files) is;
  links = ap (λ (u : Volume). u.links) is;
  streams = ap (λ (u : Volume). u.streams) is;
  last_file = ap (λ (u : Volume). u.last_file) is;
  last_link = ap (λ (u : Volume). u.last_link) is;
  last_stream = ap (λ (u : Volume). u.last_stream) is;
  changes = ap (λ (u : Volume). u.changes) is;
  clock = ap (λ (u : Volume). u.clock) is;
}

-- what a try came to leaves the volume alike
abbrev QuietTo : Volume → Outcome → Type 0
QuietTo v outcome = Alike v (volume_after outcome)

-- by what a test or a search finds
quiet-if : (v : Volume) (test : Bool) (one other : Outcome) → QuietTo v one → QuietTo v other → QuietTo v (if test then one else other)
quiet-if v true one other first second = first
quiet-if v false one other first second = second

quiet-option : {T : Type 0} (v : Volume) (found : Option T) (some : T → Outcome) (none : Outcome) → ((item : T) → QuietTo v (some item)) → QuietTo v none
    → QuietTo v (option_map_or some found none)
quiet-option v None some none there missing = missing
quiet-option v (Some item) some none there missing = there item

-- it waits for breaks, or goes on after them
quiet-breaks : (v : Volume) (on : HandleSet) (class : Class) (acting : Option ℕ) (key : ℕ) (outcome : Outcome) → QuietTo (with_breaks v on class acting key) outcome
    → QuietTo v (if waits_for v on class acting key then held_by v on class acting key else outcome)
quiet-breaks v on class acting key outcome after =
    quiet-if v (waits_for v on class acting key) (held_by v on class acting key) outcome (Alike-breaks v on class acting key)
    (Alike-next v (with_breaks v on class acting key) (volume_after outcome) (Alike-breaks v on class acting key) after)

-- ---- reads and flushes

read_bytes-quiet : (v : Volume) (stream at count : ℕ) → QuietTo v (read_bytes v stream at count)
unfolding read_bytes
read_bytes-quiet v stream at count = quiet-if v (nat_le (length (bytes_of v stream)) at) _ _ (Alike-same v) (Alike-same v)

read_unlocked-quiet : (v : Volume) (handle stream at count : ℕ) → QuietTo v (read_unlocked v handle stream at count)
unfolding read_unlocked
read_unlocked-quiet v handle stream at count = quiet-if v (read_is_locked v handle stream at count) _ _ (Alike-same v) (read_bytes-quiet v stream at count)

read_range-quiet : (v : Volume) (handle key stream at count : ℕ) → QuietTo v (read_range v handle key stream at count)
unfolding read_range
read_range-quiet v handle key stream at count =
    quiet-breaks v (Stream stream) ReadOpen (Some handle) key _ (read_unlocked-quiet (with_breaks v (Stream stream) ReadOpen (Some handle) key) handle stream at count)

read_stream-quiet : (v : Volume) (id : ℕ) (handle : Handle) (stream at count : ℕ) → QuietTo v (read_stream v id handle stream at count)
unfolding read_stream
read_stream-quiet v id handle stream at count =
    quiet-if v (not (has_any handle.access READ_DATA)) _ _ (Alike-same v)
    (quiet-if v (nat_lt largest_end (at + count)) _ _ (Alike-same v)
    (quiet-if v (count == 0) _ _ (Alike-same v) (read_range-quiet v id handle.key stream at count)))

read_by-quiet : (v : Volume) (id : ℕ) (handle : Handle) (at count : ℕ) → QuietTo v (read_by v id handle at count)
unfolding read_by
read_by-quiet v id handle at count = quiet-option v handle.stream _ _ (λ stream. read_stream-quiet v id handle stream at count) (Alike-same v)

read_at-quiet : (v : Volume) (id at count : ℕ) → QuietTo v (read_at v id at count)
unfolding read_at
read_at-quiet v id at count = quiet-option v (row_of v.handles id) _ _ (λ handle. read_by-quiet v id handle at count) (Alike-same v)

try_read-quiet : (v : Volume) (client handle at count : ℕ) → QuietTo v (try_read v client handle at count)
unfolding try_read
try_read-quiet v client handle at count = quiet-option v (handle_of v client handle) _ _ (λ id. read_at-quiet v id at count) (Alike-same v)

flush_at-quiet : (v : Volume) (id : ℕ) → QuietTo v (flush_at v id)
unfolding flush_at
flush_at-quiet v id =
    quiet-option v (row_of v.handles id) _ _
    (λ handle. quiet-if v (has_any handle.access WRITE_DATA || has_any handle.access APPEND_DATA) _ _ (Alike-same v) (Alike-same v)) (Alike-same v)

try_flush-quiet : (v : Volume) (client handle : ℕ) → QuietTo v (try_flush v client handle)
unfolding try_flush
try_flush-quiet v client handle = quiet-option v (handle_of v client handle) _ _ (λ id. flush_at-quiet v id) (Alike-same v)

-- ---- locks and unlocks

lock_free-quiet : (v : Volume) (handle stream at count : ℕ) (exclusive wait : Bool) → QuietTo v (lock_free v handle stream at count exclusive wait)
unfolding lock_free
lock_free-quiet v handle stream at count exclusive wait =
    quiet-if v (length (lock_blockers v handle stream at count exclusive) == 0) _ _ (Alike-rest v _ refl)
    (quiet-if v wait _ _ (Alike-same v) (Alike-same v))

lock_range-quiet : (v : Volume) (handle key stream at count : ℕ) (exclusive wait : Bool) → QuietTo v (lock_range v handle key stream at count exclusive wait)
unfolding lock_range
lock_range-quiet v handle key stream at count exclusive wait =
    quiet-breaks v (Stream stream) Change (Some handle) key _ (lock_free-quiet (with_breaks v (Stream stream) Change (Some handle) key) handle stream at count exclusive wait)

lock_stream-quiet : (v : Volume) (id : ℕ) (handle : Handle) (stream at count : ℕ) (exclusive wait : Bool) → QuietTo v (lock_stream v id handle stream at count exclusive wait)
unfolding lock_stream
lock_stream-quiet v id handle stream at count exclusive wait =
    quiet-if v (not (has_any handle.access READ_DATA || has_any handle.access WRITE_DATA)) _ _ (Alike-same v)
    (quiet-if v (passes_top at count) _ _ (Alike-same v) (lock_range-quiet v id handle.key stream at count exclusive wait))

lock_by-quiet : (v : Volume) (id : ℕ) (handle : Handle) (at count : ℕ) (exclusive wait : Bool) → QuietTo v (lock_by v id handle at count exclusive wait)
unfolding lock_by
lock_by-quiet v id handle at count exclusive wait =
    quiet-option v handle.stream _ _ (λ stream. lock_stream-quiet v id handle stream at count exclusive wait) (Alike-same v)

lock_at-quiet : (v : Volume) (id at count : ℕ) (exclusive wait : Bool) → QuietTo v (lock_at v id at count exclusive wait)
unfolding lock_at
lock_at-quiet v id at count exclusive wait =
    quiet-option v (row_of v.handles id) _ _ (λ handle. lock_by-quiet v id handle at count exclusive wait) (Alike-same v)

try_lock-quiet : (v : Volume) (client handle at count : ℕ) (exclusive wait : Bool) → QuietTo v (try_lock v client handle at count exclusive wait)
unfolding try_lock
try_lock-quiet v client handle at count exclusive wait =
    quiet-option v (handle_of v client handle) _ _ (λ id. lock_at-quiet v id at count exclusive wait) (Alike-same v)

unlock_range-quiet : (v : Volume) (id at count : ℕ) → QuietTo v (unlock_range v id at count)
unfolding unlock_range
unlock_range-quiet v id at count =
    quiet-option v (number_of (is_lock_on id at count) v.locks) _ _ (λ found. Alike-rest v _ refl) (Alike-same v)

unlock_by-quiet : (v : Volume) (id : ℕ) (handle : Handle) (at count : ℕ) → QuietTo v (unlock_by v id handle at count)
unfolding unlock_by
unlock_by-quiet v id handle at count = quiet-option v handle.stream _ _ (λ stream. unlock_range-quiet v id at count) (Alike-same v)

unlock_at-quiet : (v : Volume) (id at count : ℕ) → QuietTo v (unlock_at v id at count)
unfolding unlock_at
unlock_at-quiet v id at count = quiet-option v (row_of v.handles id) _ _ (λ handle. unlock_by-quiet v id handle at count) (Alike-same v)

try_unlock-quiet : (v : Volume) (client handle at count : ℕ) → QuietTo v (try_unlock v client handle at count)
unfolding try_unlock
try_unlock-quiet v client handle at count = quiet-option v (handle_of v client handle) _ _ (λ id. unlock_at-quiet v id at count) (Alike-same v)

-- ---- listings, of which a cursor moves

list_entries-quiet : (v : Volume) (id : ℕ) (kind : DirKind) (expression : List ℕ) (cursor : Cursor) (entries : List DirectoryEntry) (room : ℕ) → QuietTo v (list_entries v id kind expression cursor entries room)
unfolding list_entries
list_entries-quiet v id kind expression cursor entries room =
    quiet-if v (length entries == 0) _ _ (Alike-rest v _ refl)
    (quiet-if v (how_many_fit v kind entries room == 0) _ _ (Alike-rest v _ refl) (Alike-rest v _ refl))

query_dir_in-quiet : (v : Volume) (id dir : ℕ) (kind : DirKind) (expression : List ℕ) (cursor : Cursor) (room : ℕ) → QuietTo v (query_dir_in v id dir kind expression cursor room)
unfolding query_dir_in
query_dir_in-quiet v id dir kind expression cursor room = list_entries-quiet v id kind expression cursor (left_to_list v dir expression cursor) room

query_dir_by-quiet : (v : Volume) (id : ℕ) (handle : Handle) (kind : DirKind) (expression : List ℕ) (restart : Bool) (room : ℕ) → QuietTo v (query_dir_by v id handle kind expression restart room)
unfolding query_dir_by
query_dir_by-quiet v id handle kind expression restart room =
    quiet-if v (is_some handle.stream) _ _ (Alike-same v)
    (quiet-if v (not (has_any handle.access READ_DATA)) _ _ (Alike-same v)
    (quiet-if v (is_refused expression) _ _ (Alike-same v)
    (quiet-if v (nat_lt room (head_size (pack_kind kind))) _ _ (Alike-same v)
    (quiet-option v (file_of_link v.links handle.link) _ _
    (λ dir. query_dir_in-quiet v id dir kind (begun_enumeration handle expression restart).0 (begun_enumeration handle expression restart).1 room) (Alike-same v)))))

query_dir_at-quiet : (v : Volume) (id : ℕ) (kind : DirKind) (expression : List ℕ) (restart : Bool) (room : ℕ) → QuietTo v (query_dir_at v id kind expression restart room)
unfolding query_dir_at
query_dir_at-quiet v id kind expression restart room =
    quiet-option v (row_of v.handles id) _ _ (λ handle. query_dir_by-quiet v id handle kind expression restart room) (Alike-same v)

try_query_dir-quiet : (v : Volume) (client handle : ℕ) (kind : DirKind) (expression : List ℕ) (restart : Bool) (room : ℕ) → QuietTo v (try_query_dir v client handle kind expression restart room)
unfolding try_query_dir
try_query_dir-quiet v client handle kind expression restart room =
    quiet-option v (handle_of v client handle) _ _ (λ id. query_dir_at-quiet v id kind expression restart room) (Alike-same v)

-- ---- watches

Alike-watch_begun : (v : Volume) (id filter : ℕ) (whole : Bool) → Alike v (with_watch_begun v id filter whole)
Alike-watch_begun v id filter whole = elim (cases_Bool (is_some (watch_of v id))) [
  | inl there ↦ rw there (Alike-same v)
  | inr missing ↦ rw missing (Alike-rest v _ refl)
]

notify_due-quiet : (v : Volume) (id room : ℕ) → QuietTo v (notify_due v id room)
notify_due-quiet v id room = quiet-if v (is_something_due v id) _ _ (Alike-rest v _ refl) (Alike-same v)

notify_by-quiet : (v : Volume) (id : ℕ) (handle : Handle) (filter : ℕ) (whole : Bool) (room : ℕ) → QuietTo v (notify_by v id handle filter whole room)
notify_by-quiet v id handle filter whole room =
    quiet-if v (is_some handle.stream) _ _ (Alike-same v)
    (quiet-if v (not (has_any handle.access READ_DATA)) _ _ (Alike-same v)
    (quiet-if v (not (is_notify_filter filter)) _ _ (Alike-same v)
    (quiet-if v (is_link_marked v handle.link) _ _ (Alike-same v)
    (Alike-next v (with_watch_begun v id filter whole) (volume_after (notify_due (with_watch_begun v id filter whole) id room)) (Alike-watch_begun v id filter whole)
    (notify_due-quiet (with_watch_begun v id filter whole) id room)))))

notify_at-quiet : (v : Volume) (id filter : ℕ) (whole : Bool) (room : ℕ) → QuietTo v (notify_at v id filter whole room)
unfolding notify_at
notify_at-quiet v id filter whole room = quiet-option v (row_of v.handles id) _ _ (λ handle. notify_by-quiet v id handle filter whole room) (Alike-same v)

try_notify-quiet : (v : Volume) (client handle filter : ℕ) (whole : Bool) (room : ℕ) → QuietTo v (try_notify v client handle filter whole room)
unfolding try_notify
try_notify-quiet v client handle filter whole room = quiet-option v (handle_of v client handle) _ _ (λ id. notify_at-quiet v id filter whole room) (Alike-same v)

-- ---- information

query_streams-quiet : (v : Volume) (file room : ℕ) → QuietTo v (query_streams v file room)
unfolding query_streams
query_streams-quiet v file room = quiet-if v (how_many_streams_fit v file room == length (stream_rows v file)) _ _ (Alike-same v) (Alike-same v)

query_streams_by-quiet : (v : Volume) (handle : Handle) (file room : ℕ) → QuietTo v (query_streams_by v handle file room)
unfolding query_streams_by
query_streams_by-quiet v handle file room = quiet-if v (is_some handle.stream) _ _ (query_streams-quiet v file room) (Alike-same v)

query_file-quiet : (v : Volume) (handle : Handle) (file : ℕ) (kind : InfoKind) (room : ℕ) → QuietTo v (query_file v handle file kind room)
unfolding query_file
query_file-quiet v handle file Basic room = Alike-same v
query_file-quiet v handle file Standard room = Alike-same v
query_file-quiet v handle file Internal room = Alike-same v
query_file-quiet v handle file Tag room = Alike-same v
query_file-quiet v handle file Streams room = query_streams_by-quiet v handle file room

query_info_by-quiet : (v : Volume) (handle : Handle) (kind : InfoKind) (room : ℕ) → QuietTo v (query_info_by v handle kind room)
unfolding query_info_by
query_info_by-quiet v handle kind room =
    quiet-if v (nat_lt room (fixed_size kind)) _ _ (Alike-same v)
    (quiet-if v (needs_attributes kind && not (has_any handle.access READ_ATTRIBUTES)) _ _ (Alike-same v)
    (quiet-option v (file_of_link v.links handle.link) _ _ (λ file. query_file-quiet v handle file kind room) (Alike-same v)))

query_info_at-quiet : (v : Volume) (id : ℕ) (kind : InfoKind) (room : ℕ) → QuietTo v (query_info_at v id kind room)
unfolding query_info_at
query_info_at-quiet v id kind room = quiet-option v (row_of v.handles id) _ _ (λ handle. query_info_by-quiet v handle kind room) (Alike-same v)

try_query_info-quiet : (v : Volume) (client handle : ℕ) (kind : InfoKind) (room : ℕ) → QuietTo v (try_query_info v client handle kind room)
unfolding try_query_info
try_query_info-quiet v client handle kind room = quiet-option v (handle_of v client handle) _ _ (λ id. query_info_at-quiet v id kind room) (Alike-same v)

-- ---- oplocks and acknowledgements, which end calls

Alike-call_ended : (v : Volume) (turn : Option ℕ) (status : Status) → Alike v (with_call_ended v turn status)
Alike-call_ended v None status = Alike-same v
Alike-call_ended v (Some turn) status = elim (option_cases (row_of v.pending turn)) [
  | inl none ↦ rw none (Alike-same v)
  | inr some ↦ rw some.1 (Alike-rest v _ refl)
]

Alike-without_oplock : (v : Volume) (handle : ℕ) → Alike v (without_oplock v handle)
Alike-without_oplock v handle = Alike-rest v _ refl

Alike-switched : (v : Volume) (oplock : Oplock) → Alike v (with_switched v oplock)
Alike-switched v oplock =
    Alike-next v (without_oplock v oplock.handle) (with_switched v oplock) (Alike-without_oplock v oplock.handle)
    (Alike-call_ended (without_oplock v oplock.handle) oplock.call OplockSwitchedToNewHandle)

Alike-all_switched : (oplocks : List Oplock) (v : Volume) → Alike v (fold with_switched v oplocks)
Alike-all_switched [] v = Alike-same v
Alike-all_switched (oplock ∷ more) v =
    Alike-next v (with_switched v oplock) (fold with_switched (with_switched v oplock) more) (Alike-switched v oplock) (Alike-all_switched more (with_switched v oplock))

Alike-granted : (v : Volume) (handle key stream : ℕ) (level : Level) (turn : ℕ) → Alike v (with_granted v handle key stream level turn)
Alike-granted v handle key stream level turn =
    Alike-next v (with_all_switched v handle key stream) (with_granted v handle key stream level turn) (Alike-all_switched (switched v handle key stream) v)
    (Alike-rest (with_all_switched v handle key stream) _ refl)

oplock_on-quiet : (v : Volume) (handle key stream : ℕ) (level : Level) (turn : ℕ) → QuietTo v (oplock_on v handle key stream level turn)
unfolding oplock_on
oplock_on-quiet v handle key stream level turn =
    quiet-if v (is_not_granted v handle key stream level) _ _ (Alike-same v) (Alike-granted v handle key stream level turn)

oplock_by-quiet : (v : Volume) (id : ℕ) (handle : Handle) (level : Level) (turn : ℕ) → QuietTo v (oplock_by v id handle level turn)
unfolding oplock_by
oplock_by-quiet v id handle level turn = quiet-option v handle.stream _ _ (λ stream. oplock_on-quiet v id handle.key stream level turn) (Alike-same v)

oplock_at-quiet : (v : Volume) (id : ℕ) (level : Level) (turn : ℕ) → QuietTo v (oplock_at v id level turn)
unfolding oplock_at
oplock_at-quiet v id level turn = quiet-option v (row_of v.handles id) _ _ (λ handle. oplock_by-quiet v id handle level turn) (Alike-same v)

try_oplock-quiet : (v : Volume) (client handle : ℕ) (level : Level) (turn : ℕ) → QuietTo v (try_oplock v client handle level turn)
unfolding try_oplock
try_oplock-quiet v client handle level turn = quiet-option v (handle_of v client handle) _ _ (λ id. oplock_at-quiet v id level turn) (Alike-same v)

ack_keeping-quiet : (v : Volume) (handle : ℕ) (level : Level) (turn : ℕ) → QuietTo v (ack_keeping v handle level turn)
unfolding ack_keeping
ack_keeping-quiet v handle level turn = quiet-if v (has_read level) _ _ (Alike-rest v _ refl) (Alike-without_oplock v handle)

ack_at-quiet : (v : Volume) (handle : ℕ) (level : Level) (turn : ℕ) → QuietTo v (ack_at v handle level turn)
unfolding ack_at
ack_at-quiet v handle level turn = quiet-option v (target_of v handle) _ _ (λ target. ack_keeping-quiet v handle (in_both level target) turn) (Alike-same v)

try_ack-quiet : (v : Volume) (client handle : ℕ) (level : Level) (turn : ℕ) → QuietTo v (try_ack v client handle level turn)
unfolding try_ack
try_ack-quiet v client handle level turn = quiet-option v (handle_of v client handle) _ _ (λ id. ack_at-quiet v id level turn) (Alike-same v)

-- ---- reparse points that are asked for

get_point-quiet : (v : Volume) (point : ℕ × List ℕ) (room : ℕ) → QuietTo v (get_point v point room)
unfolding get_point
get_point-quiet v point room =
    quiet-if v (nat_lt room 8) _ _ (Alike-same v) (quiet-if v (nat_lt room (length (point_buffer point))) _ _ (Alike-same v) (Alike-same v))

get_reparse_of-quiet : (v : Volume) (file room : ℕ) → QuietTo v (get_reparse_of v file room)
unfolding get_reparse_of
get_reparse_of-quiet v file room = quiet-option v (point_of v file) _ _ (λ point. get_point-quiet v point room) (Alike-same v)

get_reparse_by-quiet : (v : Volume) (handle : Handle) (room : ℕ) → QuietTo v (get_reparse_by v handle room)
unfolding get_reparse_by
get_reparse_by-quiet v handle room = quiet-option v (file_of_link v.links handle.link) _ _ (λ file. get_reparse_of-quiet v file room) (Alike-same v)

get_reparse_at-quiet : (v : Volume) (id room : ℕ) → QuietTo v (get_reparse_at v id room)
unfolding get_reparse_at
get_reparse_at-quiet v id room = quiet-option v (row_of v.handles id) _ _ (λ handle. get_reparse_by-quiet v handle room) (Alike-same v)

try_get_reparse-quiet : (v : Volume) (client handle room : ℕ) → QuietTo v (try_get_reparse v client handle room)
unfolding try_get_reparse
try_get_reparse-quiet v client handle room = quiet-option v (handle_of v client handle) _ _ (λ id. get_reparse_at-quiet v id room) (Alike-same v)

-- ---- quotas, cancellations and waits

try_set_quota-quiet : (v : Volume) (client sid limit : ℕ) → QuietTo v (try_set_quota v client sid limit)
unfolding try_set_quota
try_set_quota-quiet v client sid limit = quiet-if v (not (is_administrator v client)) _ _ (Alike-same v) (Alike-rest v _ refl)

try_query_quota-quiet : (v : Volume) (sid : ℕ) → QuietTo v (try_query_quota v sid)
unfolding try_query_quota
try_query_quota-quiet v sid = Alike-same v

try_cancel-quiet : (v : Volume) (client number : ℕ) → QuietTo v (try_cancel v client number)
unfolding try_cancel
try_cancel-quiet v client number =
    quiet-option v (number_of (is_call client number) v.pending) _ _ (λ turn. Alike-rest v _ refl) (Alike-same v)

try_wait-quiet : (v : Volume) (client number : ℕ) → QuietTo v (try_wait v client number)
unfolding try_wait
try_wait-quiet v client number =
    quiet-if v (has_ended v client number) _ _ (Alike-same v) (quiet-if v (is_pending v client number) _ _ (Alike-same v) (Alike-same v))

-- ---- all of them

-- a request that changes nothing of the tree, or a tick, or a wait
abbrev pub asks_quiet : What → Bool
asks_quiet (Ask (request.Create path wanted share disposition options attributes key)) = false
asks_quiet (Ask (request.Close handle)) = false
asks_quiet (Ask (request.Write handle at bytes)) = false
asks_quiet (Ask (request.SetEnd handle length)) = false
asks_quiet (Ask (request.SetDisposition handle delete)) = false
asks_quiet (Ask (request.Rename handle path replace)) = false
asks_quiet (Ask (request.Link handle path replace)) = false
asks_quiet (Ask (request.SetSecurity handle owner dacl)) = false
asks_quiet (Ask (request.SetBasic handle creation access write change attributes)) = false
asks_quiet (Ask (request.SetReparse handle bytes)) = false
asks_quiet (Ask (request.DeleteReparse handle tag)) = false
asks_quiet Leave = false
asks_quiet _ = true

-- its try leaves the tree as it was
quiet-tree : (v : Volume) (turn client number : ℕ) (what : What) → asks_quiet what ≡ true → SameTree v (volume_after (try_what v turn client number what))
quiet-tree v turn client number (Ask (request.Read handle at count)) quiet = Alike-tree v _ (try_read-quiet v client handle at count)
quiet-tree v turn client number (Ask (request.Flush handle)) quiet = Alike-tree v _ (try_flush-quiet v client handle)
quiet-tree v turn client number (Ask (request.Lock handle at count exclusive wait)) quiet = Alike-tree v _ (try_lock-quiet v client handle at count exclusive wait)
quiet-tree v turn client number (Ask (request.Unlock handle at count)) quiet = Alike-tree v _ (try_unlock-quiet v client handle at count)
quiet-tree v turn client number (Ask (request.QueryDir handle kind expression restart room)) quiet = Alike-tree v _ (try_query_dir-quiet v client handle kind expression restart room)
quiet-tree v turn client number (Ask (request.Notify handle filter whole room)) quiet = Alike-tree v _ (try_notify-quiet v client handle filter whole room)
quiet-tree v turn client number (Ask (request.QueryInfo handle kind room)) quiet = Alike-tree v _ (try_query_info-quiet v client handle kind room)
quiet-tree v turn client number (Ask (request.Oplock handle level)) quiet = Alike-tree v _ (try_oplock-quiet v client handle level turn)
quiet-tree v turn client number (Ask (request.Ack handle level)) quiet = Alike-tree v _ (try_ack-quiet v client handle level turn)
quiet-tree v turn client number (Ask (request.GetReparse handle room)) quiet = Alike-tree v _ (try_get_reparse-quiet v client handle room)
quiet-tree v turn client number (Ask (request.SetQuota sid limit)) quiet = Alike-tree v _ (try_set_quota-quiet v client sid limit)
quiet-tree v turn client number (Ask (request.QueryQuota sid)) quiet = Alike-tree v _ (try_query_quota-quiet v sid)
quiet-tree v turn client number (Ask (request.Cancel cancelled)) quiet = Alike-tree v _ (try_cancel-quiet v client cancelled)
quiet-tree v turn client number (Tick ticks) quiet =
    record { table = refl; files = refl; links = refl; streams = refl; last_file = refl; last_link = refl; last_stream = refl; changes = refl }
quiet-tree v turn client number (WaitFor earlier) quiet = Alike-tree v _ (try_wait-quiet v client earlier)
quiet-tree v turn client number _ quiet = cc

-- it asks for no changes, whatever it tells
quiet-asked : (v : Volume) (client number : ℕ) (what : What) (body : Body) → asks_quiet what ≡ true → changes_asked v client number what body ≡ []
quiet-asked v client number (Ask (request.Create path wanted share disposition options attributes key)) body quiet = cc
quiet-asked v client number (Ask (request.Close handle)) body quiet = cc
quiet-asked v client number (Ask (request.Write handle at bytes)) body quiet = cc
quiet-asked v client number (Ask (request.SetEnd handle length)) body quiet = cc
quiet-asked v client number (Ask (request.SetDisposition handle delete)) body quiet = cc
quiet-asked v client number (Ask (request.Rename handle path replace)) body quiet = cc
quiet-asked v client number (Ask (request.Link handle path replace)) body quiet = cc
quiet-asked v client number (Ask (request.SetSecurity handle owner dacl)) body quiet = cc
quiet-asked v client number (Ask (request.SetBasic handle creation access write change attributes)) body quiet = cc
quiet-asked v client number (Ask (request.SetReparse handle bytes)) body quiet = cc
quiet-asked v client number (Ask (request.DeleteReparse handle tag)) body quiet = cc
quiet-asked v client number Leave body quiet = cc
quiet-asked v client number _ body quiet = refl

-- and makes none, whatever it comes to
quiet-changes : (v : Volume) (client number : ℕ) (what : What) (outcome : Outcome) → asks_quiet what ≡ true → changes_of v client number what outcome ≡ []
quiet-changes v client number what (Done w reply) quiet = rw (quiet-asked v client number what reply.body quiet) (where_success-none reply.status)
quiet-changes v client number what (Stay w interim) quiet = refl
quiet-changes v client number what (Hold w blockers interim) quiet = refl

-- a try of such a call leaves just what its changes leave
pub quiet-leaves : (v : Volume) (turn client number : ℕ) (what : What) → asks_quiet what ≡ true → LeavesChanges v client number what (try_what v turn client number what)
quiet-leaves v turn client number what quiet =
    rw (quiet-changes v client number what (try_what v turn client number what) quiet) (quiet-tree v turn client number what quiet)
