-- What a try of any call but an open, a close and a leaving leaves of the handles: all of them as they were, but that a query of a
-- directory may move the cursor of one. Each request's definition is followed once.
use Rattle.std.proofs.Common.{◌∷◌, ◌≡◌, ℕ, ◌+◌, Bool, true, false, List, length, refl, sym, ◌∙◌, Option, Some, None, ap, inl, inr, []}
use Rattle.std.specs.Option.{option_map_or}
use Rattle.std.specs.Prelude.{◌==◌, is_some, if◌then◌else◌, filter}
use Rattle.std.proofs.lemmas.Bool.{cases_Bool}
use Rattle.fsa_types.specs.Masks.{FILE_ACTION_ADDED, FILE_NOTIFY_CHANGE_FILE_NAME}
use Rattle.fsa_types.specs.Rows.{row_of, with_row_changed, without_row}
use Rattle.fsa_types.specs.declared.oplock.Class.{Class}
use Rattle.fsa_types.specs.declared.oplock.HandleSet.{HandleSet}
use Rattle.fsa_types.specs.declared.reply.Blocker.{Blocker}
use Rattle.fsa_types.specs.declared.reply.Interim.{Interim}
use Rattle.fsa_types.specs.declared.reply.Reply.{Reply}
use Rattle.fsa_types.specs.declared.request.DaclChange.{DaclChange}
use Rattle.fsa_types.specs.declared.request.DaclChange.TheVariants.{Keep, Remove, Put}
use Rattle.fsa_types.specs.declared.request.DirKind.{DirKind}
use Rattle.fsa_types.specs.declared.request.InfoKind.{InfoKind}
use Rattle.fsa_types.specs.declared.request.InfoKind.TheVariants.{Basic, Standard, Internal, Tag, Streams}
use Rattle.fsa_types.specs.declared.request.Level.{Level}
use Rattle.fsa_types.specs.declared.request.Request.TheVariants as request
use Rattle.fsa_types.specs.declared.request.What.{What}
use Rattle.fsa_types.specs.declared.request.What.TheVariants.{Ask, Leave, Tick, WaitFor}
use Rattle.fsa_model.specs.Breaks.{with_breaks}
use Rattle.fsa_model.specs.Changes.{with_change_noted}
use Rattle.fsa_model.specs.Close.{named_stream}
use Rattle.fsa_model.specs.Edits.{with_cursor, with_limit, with_link, with_link_marked, with_link_moved, with_lock, with_owner, with_point, with_stream_marked, with_watch, without_file_unless_linked, without_link, without_lock, without_oplock}
use Rattle.fsa_model.specs.Flush.{flush_at, try_flush}
use Rattle.fsa_model.specs.Frame.{all_unenumerated, unenumerated}
use Rattle.fsa_model.specs.Grant.{ack_at, ack_keeping, oplock_at, oplock_by, oplock_on, switched, try_ack, try_oplock, with_granted, with_level_kept}
use Rattle.fsa_model.specs.Link.{link_at, link_by, link_file, link_into, link_over, link_over_broken, link_over_closed, link_over_other, link_walked, try_link, with_link_added, with_linked}
use Rattle.fsa_model.specs.Locking.{lock_at, lock_by, lock_free, lock_range, lock_stream, try_lock, try_unlock, unlock_at, unlock_by, unlock_range}
use Rattle.fsa_model.specs.Lookups.{handle_of, has_row}
use Rattle.fsa_model.specs.Open.{stopped}
use Rattle.fsa_model.specs.Outcome.{Outcome, Done, Stay, Hold}
use Rattle.fsa_model.specs.QueryDir.{list_entries, query_dir_at, query_dir_by, query_dir_in, try_query_dir}
use Rattle.fsa_model.specs.QueryInfo.{query_file, query_info_at, query_info_by, query_streams, query_streams_by, try_query_info}
use Rattle.fsa_model.specs.Quota.{try_query_quota, try_set_quota}
use Rattle.fsa_model.specs.Read.{read_at, read_by, read_bytes, read_range, read_stream, read_unlocked, try_read}
use Rattle.fsa_model.specs.Rename.{is_elsewhere, rename_at, rename_below_closed, rename_by, rename_directory, rename_done, rename_free, rename_into, rename_link, rename_named, rename_over, rename_over_broken, rename_over_closed, rename_walked, try_rename, with_link_renamed, with_move_noted, with_renamed}
use Rattle.fsa_model.specs.ReparsePoints.{delete_reparse_at, delete_reparse_by, delete_reparse_of, get_point, get_reparse_at, get_reparse_by, get_reparse_of, remove_point, set_buffer, set_point, set_reparse_at, set_reparse_by, try_delete_reparse, try_get_reparse, try_set_reparse, with_point_noted}
use Rattle.fsa_model.specs.Replacement.{Naming, new_name, with_link_replaced, with_replaced}
use Rattle.fsa_model.specs.Security.{asks_something, set_security_at, set_security_by, set_security_of, try_set_security, with_change_time, with_dacl_asked, with_owner_asked, with_security}
use Rattle.fsa_model.specs.SetBasic.{basic_bits, Basics, set_basic_at, set_basic_by, set_basic_of, try_set_basic, with_basics, with_basics_noted}
use Rattle.fsa_model.specs.SetDisposition.{delete_by, delete_marked, set_disposition_at, set_disposition_by, try_set_disposition, with_mark}
use Rattle.fsa_model.specs.SetEnd.{set_end_at, set_end_by, set_end_grown, set_end_stream, set_end_to, try_set_end, with_end_set, with_resized}
use Rattle.fsa_model.specs.Try.{try_what}
use Rattle.fsa_model.specs.Turn.{volume_after}
use Rattle.fsa_model.specs.Volume.{Cursor, Handle, Link, Volume}
use Rattle.fsa_model.specs.Waiting.{try_cancel, try_wait, with_cancelled}
use Rattle.fsa_model.specs.Waits.{held_by, waits_for}
use Rattle.fsa_model.specs.Walk.{Walked, Reached, Barred, Diverted}
use Rattle.fsa_model.specs.Watching.{notify_at, try_notify, watch_of, with_watch_begun, with_watch_seen}
use Rattle.fsa_model.specs.Write.{try_write, with_file_write_noted, with_stream_write_noted, with_write_noted, with_written, write_at, write_at_place, write_by, write_bytes, write_grown, write_range, write_stream, write_unlocked}
use Rattle.fsa_model.proofs.CoherenceBreaks.{handles-breaks}
use Rattle.fsa_model.proofs.CoherenceClose.{handles-noted}
use Rattle.fsa_model.proofs.GrantedLaws.{handles-switched}
use Rattle.fsa_model.proofs.RowLaws.{eqb-swap, option_cases}
use Rattle.history_laws.specs.HandlesClose.{KeepsHandles, ListsOne}
use Rattle.history_laws.proofs.NotedRows.{row_of-unchanged}
use Rattle.history_laws.proofs.OpensStay.{closes_handles}

-- the handles are the same
record KeepsExactly (v w : Volume) : Type 0 where
  same : w.handles ≡ v.handles

-- ---- volumes

still : (v w : Volume) → w.handles ≡ v.handles → KeepsExactly v w
still v w same = record { same = same }

keep-same : (v : Volume) → KeepsExactly v v
keep-same v = still v v refl

keep-next : {u v w : Volume} → KeepsExactly u v → KeepsExactly v w → KeepsExactly u w
keep-next first second = record { same = second.same ∙ first.same }

keep-if : {v : Volume} (test : Bool) (one other : Volume) → KeepsExactly v one → KeepsExactly v other → KeepsExactly v (if test then one else other)
keep-if true one other holds fails = holds
keep-if false one other holds fails = fails

keep-option : {X : Type 0} {v : Volume} (found : Option X) (some : X → Volume) (none : Volume) → ((x : X) → KeepsExactly v (some x)) → KeepsExactly v none → KeepsExactly v (option_map_or some found none)
keep-option None some none with_some with_none = with_none
keep-option (Some x) some none with_some with_none = with_some x

-- a change noted, and breaks
keep-noted : (v : Volume) (link action bits : ℕ) (stream : Option ℕ) → KeepsExactly v (with_change_noted v link action bits stream)
keep-noted v link action bits stream = still v _ (handles-noted v link action bits stream)

keep-breaks : (v : Volume) (on : HandleSet) (kind : Class) (acting : Option ℕ) (key : ℕ) → KeepsExactly v (with_breaks v on kind acting key)
keep-breaks v on kind acting key = still v _ (handles-breaks v on kind acting key)

-- ---- outcomes

-- a try that comes to this leaves the handles as they were
record Keeps (v : Volume) (outcome : Outcome) : Type 0 where
  so : KeepsExactly v (volume_after outcome)

keeps-done : {v w : Volume} {reply : Reply} → KeepsExactly v w → Keeps v (Done w reply)
keeps-done kept = record { so = kept }

keeps-stays : {v w : Volume} {interim : Interim} → KeepsExactly v w → Keeps v (Stay w interim)
keeps-stays kept = record { so = kept }

keeps-held : {v w : Volume} {blockers : List Blocker} {interim : Interim} → KeepsExactly v w → Keeps v (Hold w blockers interim)
keeps-held kept = record { so = kept }

keeps-if : {v : Volume} (test : Bool) (one other : Outcome) → Keeps v one → Keeps v other → Keeps v (if test then one else other)
keeps-if true one other holds fails = holds
keeps-if false one other holds fails = fails

keeps-option : {X : Type 0} {v : Volume} (found : Option X) (some : X → Outcome) (none : Outcome) → ((x : X) → Keeps v (some x)) → Keeps v none → Keeps v (option_map_or some found none)
keeps-option None some none with_some with_none = with_none
keeps-option (Some x) some none with_some with_none = with_some x

-- held by breaks, or on after them
keeps-breaks : (v : Volume) (on : HandleSet) (kind : Class) (acting : Option ℕ) (key : ℕ) (outcome : Outcome) → Keeps (with_breaks v on kind acting key) outcome
    → Keeps v (if waits_for v on kind acting key then held_by v on kind acting key else outcome)
keeps-breaks v on kind acting key outcome goes =
    keeps-if (waits_for v on kind acting key) (held_by v on kind acting key) outcome (record { so = keep-breaks v on kind acting key }) (record { so = keep-next (keep-breaks v on kind acting key) goes.so })

ruleset going = (keeps-breaks, keeps-if, keeps-option, keeps-done, keep-same)

-- ---- edits

write_noted : (v : Volume) (link stream : ℕ) (longer : Bool) → KeepsExactly v (with_write_noted v link stream longer)
write_noted v link stream longer = keep-if _ (with_stream_write_noted v link stream longer) (with_file_write_noted v link longer) (keep-noted v link _ _ (Some stream)) (keep-noted v link _ _ None)

written : (v : Volume) (link stream at : ℕ) (bytes : List ℕ) → KeepsExactly v (with_written v link stream at bytes)
written v link stream at bytes = keep-next (write_noted v link stream _) (still _ _ refl)

end_set : (v : Volume) (link stream end : ℕ) → KeepsExactly v (with_end_set v link stream end)
end_set v link stream end =
    keep-if _ v (with_resized v link stream end) (keep-same v) (keep-next (write_noted v link stream true) (still (with_write_noted v link stream true) (with_resized v link stream end) refl))

without : (v : Volume) (link : ℕ) → KeepsExactly v (without_link v link)
without v link =
    keep-option (row_of v.links link) (λ (row : Link). without_file_unless_linked (record v { links = without_row v.links link }) row.file) v
    (λ (row : Link). keep-if (has_row (λ (other : Link). other.file == row.file) (without_row v.links link)) _ _ (still v _ refl) (still v _ refl)) (keep-same v)

replaced_link : (v : Volume) (replaced : Option ℕ) → KeepsExactly v (with_replaced v replaced)
replaced_link v replaced =
    keep-option replaced (λ link. with_link_replaced v link) v (λ link. keep-next (keep-noted v link _ _ None) (without _ link)) (keep-same v)

move_noted : (v : Volume) (naming : Naming) (dir old new : ℕ) → KeepsExactly v (with_move_noted v naming dir old new)
move_noted v naming dir old new =
    keep-next (keep-noted v naming.link old _ None) (keep-next (still _ (with_link_moved (with_change_noted v naming.link old _ None) naming.link dir _) refl) (keep-noted _ naming.link new _ None))

link_renamed : (v : Volume) (naming : Naming) (dir : ℕ) → KeepsExactly v (with_link_renamed v naming dir)
link_renamed v naming dir = keep-if (is_elsewhere v naming dir) _ _ (move_noted v naming dir _ _) (move_noted v naming dir _ _)

renamed : (v : Volume) (naming : Naming) (dir : ℕ) (replaced : Option ℕ) → KeepsExactly v (with_renamed v naming dir replaced)
renamed v naming dir replaced =
    let first : Volume = with_replaced v replaced in let second : Volume = with_link_renamed first naming dir in
    keep-next (replaced_link v replaced) (keep-next (link_renamed first naming dir) (still second (with_renamed v naming dir replaced) refl))

linked : (v : Volume) (naming : Naming) (dir : ℕ) (replaced : Option ℕ) → KeepsExactly v (with_linked v naming dir replaced)
linked v naming dir replaced =
    let first : Volume = with_replaced v replaced in let second : Volume = with_link first dir (new_name naming) naming.file in let third : Volume = with_link_added first naming dir in
    keep-next (replaced_link v replaced) (keep-next (still first second refl)
    (keep-next (keep-noted second (first.last_link + 1) FILE_ACTION_ADDED FILE_NOTIFY_CHANGE_FILE_NAME None) (still third (with_linked v naming dir replaced) refl)))

locked : (v : Volume) (handle at count : ℕ) (exclusive : Bool) → KeepsExactly v (with_lock v handle at count exclusive)
locked v handle at count exclusive = still v _ refl

unlocked : (v : Volume) (id at count : ℕ) → KeepsExactly v (without_lock v id at count)
unlocked v id at count = still v _ refl

mark : (v : Volume) (handle : Handle) (delete : Bool) → KeepsExactly v (with_mark v handle delete)
mark v handle delete =
    keep-option (named_stream v handle) (λ stream. with_stream_marked v stream delete) (with_link_marked v handle.link delete)
    (λ stream. still v (with_stream_marked v stream delete) refl) (still v (with_link_marked v handle.link delete) refl)

basics : (v : Volume) (link file : ℕ) (asked : Basics) → KeepsExactly v (with_basics_noted v link file asked)
basics v link file asked =
    let set : KeepsExactly v (with_basics v file asked) = still v (with_basics v file asked) refl in
    keep-if (basic_bits asked == 0) (with_basics v file asked) _ set (keep-next set (keep-noted (with_basics v file asked) link _ _ None))

owned : (v : Volume) (file : ℕ) (owner : Option ℕ) → KeepsExactly v (with_owner_asked v file owner)
owned v file owner = keep-option owner (λ sid. with_owner v file sid) v (λ sid. still v (with_owner v file sid) refl) (keep-same v)

listed : (v : Volume) (file : ℕ) (dacl : DaclChange) → KeepsExactly v (with_dacl_asked v file dacl)
listed v file Keep = keep-same v
listed v file Remove = still v (with_dacl_asked v file Remove) refl
listed v file (Put dacl) = still v (with_dacl_asked v file (Put dacl)) refl

secured : (v : Volume) (link file : ℕ) (owner : Option ℕ) (dacl : DaclChange) → KeepsExactly v (with_security v link file owner dacl)
secured v link file owner dacl =
    let first : Volume = with_owner_asked v file owner in let second : Volume = with_dacl_asked first file dacl in let third : Volume = with_change_time second file in
    keep-next (owned v file owner) (keep-next (listed first file dacl) (keep-next (still second third refl)
    (keep-if (asks_something owner dacl) _ third (keep-noted third link _ _ None) (keep-same third))))

pointed : (v : Volume) (link file : ℕ) (point : Option (ℕ × List ℕ)) → KeepsExactly v (with_point_noted v link file point)
pointed v link file point = keep-next (still v (with_point v file point) refl) (keep-noted (with_point v file point) link _ _ None)

limited : (v : Volume) (sid bytes : ℕ) → KeepsExactly v (with_limit v sid bytes)
limited v sid bytes = still v (with_limit v sid bytes) refl

-- ---- reads, writes, flushes, new lengths and locks

read : (v : Volume) (client handle at count : ℕ) → Keeps v (try_read v client handle at count)
unfolding try_read read_at read_by read_stream read_range read_unlocked read_bytes
read v client handle at count = search going depth 60 fits 4000

write : (v : Volume) (client handle : ℕ) (at : Option ℕ) (bytes : List ℕ) → Keeps v (try_write v client handle at bytes)
unfolding try_write write_at write_by write_stream write_at_place write_range write_unlocked write_grown write_bytes
write v client handle at bytes = search (going, written) depth 60 fits 4000

flush : (v : Volume) (client handle : ℕ) → Keeps v (try_flush v client handle)
unfolding try_flush flush_at
flush v client handle = search going depth 60 fits 4000

set_end : (v : Volume) (client handle end : ℕ) → Keeps v (try_set_end v client handle end)
unfolding try_set_end set_end_at set_end_by set_end_stream set_end_to set_end_grown
set_end v client handle end = search (going, end_set) depth 60 fits 4000

lock : (v : Volume) (client handle at count : ℕ) (exclusive wait : Bool) → Keeps v (try_lock v client handle at count exclusive wait)
unfolding try_lock lock_at lock_by lock_stream lock_range lock_free
lock v client handle at count exclusive wait = search (going, keeps-held, locked) depth 60 fits 4000

unlock : (v : Volume) (client handle at count : ℕ) → Keeps v (try_unlock v client handle at count)
unfolding try_unlock unlock_at unlock_by unlock_range
unlock v client handle at count = search (going, unlocked) depth 60 fits 4000

-- ---- names

stops : (v : Volume) (file : ℕ) (rest : List ℕ) → Keeps v (stopped v file rest)
unfolding stopped
stops v file rest = search going depth 60 fits 4000

rename_goes : (v : Volume) (naming : Naming) (dir : ℕ) → Keeps v (rename_into v naming dir)
unfolding rename_into rename_directory rename_below_closed rename_named rename_over rename_over_broken rename_over_closed rename_free rename_done
rename_goes v naming dir = search (going, renamed) depth 60 fits 4000

rename_walks : (v : Volume) (naming : Naming) (walked : Walked) → Keeps v (rename_walked v naming walked)
unfolding rename_walked
rename_walks v naming (Reached dir) = rename_goes v naming dir
rename_walks v naming (Barred status) = keeps-done (keep-same v)
rename_walks v naming (Diverted file next) = stops v file _

rename : (v : Volume) (client handle : ℕ) (path : List ℕ) (replace : Bool) → Keeps v (try_rename v client handle path replace)
unfolding try_rename rename_at rename_by rename_link
rename v client handle path replace = search (going, rename_walks) depth 60 fits 4000

link_goes : (v : Volume) (naming : Naming) (dir : ℕ) → Keeps v (link_into v naming dir)
unfolding link_into link_over link_over_other link_over_broken link_over_closed
link_goes v naming dir = search (going, linked) depth 60 fits 4000

link_walks : (v : Volume) (naming : Naming) (walked : Walked) → Keeps v (link_walked v naming walked)
unfolding link_walked
link_walks v naming (Reached dir) = link_goes v naming dir
link_walks v naming (Barred status) = keeps-done (keep-same v)
link_walks v naming (Diverted file next) = stops v file _

link : (v : Volume) (client handle : ℕ) (path : List ℕ) (replace : Bool) → Keeps v (try_link v client handle path replace)
unfolding try_link link_at link_by link_file
link v client handle path replace = search (going, link_walks) depth 60 fits 4000

set_disposition : (v : Volume) (client handle : ℕ) (delete : Bool) → Keeps v (try_set_disposition v client handle delete)
unfolding try_set_disposition set_disposition_at set_disposition_by delete_by delete_marked
set_disposition v client handle delete = search (going, mark) depth 60 fits 4000

-- ---- listings, information, security, reparse points and quotas

query_kind : (v : Volume) (handle : Handle) (file : ℕ) (kind : InfoKind) (room : ℕ) → Keeps v (query_file v handle file kind room)
unfolding query_file query_streams_by query_streams
query_kind v handle file Basic room = keeps-done (keep-same v)
query_kind v handle file Standard room = keeps-done (keep-same v)
query_kind v handle file Internal room = keeps-done (keep-same v)
query_kind v handle file Tag room = keeps-done (keep-same v)
query_kind v handle file Streams room = search going depth 60 fits 4000

query_info : (v : Volume) (client handle : ℕ) (kind : InfoKind) (room : ℕ) → Keeps v (try_query_info v client handle kind room)
unfolding try_query_info query_info_at query_info_by
query_info v client handle kind room = search (going, query_kind) depth 60 fits 4000

set_basic : (v : Volume) (client handle : ℕ) (asked : Basics) → Keeps v (try_set_basic v client handle asked)
unfolding try_set_basic set_basic_at set_basic_by set_basic_of
set_basic v client handle asked = search (going, basics) depth 60 fits 4000

set_security : (v : Volume) (client handle : ℕ) (owner : Option ℕ) (dacl : DaclChange) → Keeps v (try_set_security v client handle owner dacl)
unfolding try_set_security set_security_at set_security_by set_security_of
set_security v client handle owner dacl = search (going, secured) depth 60 fits 4000

set_reparse : (v : Volume) (client handle : ℕ) (bytes : List ℕ) → Keeps v (try_set_reparse v client handle bytes)
unfolding try_set_reparse set_reparse_at set_reparse_by set_buffer set_point
set_reparse v client handle bytes = search (going, pointed) depth 60 fits 4000

get_reparse : (v : Volume) (client handle room : ℕ) → Keeps v (try_get_reparse v client handle room)
unfolding try_get_reparse get_reparse_at get_reparse_by get_reparse_of get_point
get_reparse v client handle room = search going depth 60 fits 4000

delete_reparse : (v : Volume) (client handle tag : ℕ) → Keeps v (try_delete_reparse v client handle tag)
unfolding try_delete_reparse delete_reparse_at delete_reparse_by delete_reparse_of remove_point
delete_reparse v client handle tag = search (going, pointed) depth 60 fits 4000

set_quota : (v : Volume) (client sid bytes : ℕ) → Keeps v (try_set_quota v client sid bytes)
unfolding try_set_quota
set_quota v client sid bytes = search (going, limited) depth 60 fits 4000

query_quota : (v : Volume) (sid : ℕ) → Keeps v (try_query_quota v sid)
unfolding try_query_quota
query_quota v sid = search going depth 60 fits 4000

-- ---- oplocks, acknowledgements, watches, cancellations and waits

granted : (v : Volume) (id key stream : ℕ) (level : Level) (turn : ℕ) → KeepsExactly v (with_granted v id key stream level turn)
granted v id key stream level turn = still v _ (handles-switched (switched v id key stream) v)

oplock : (v : Volume) (client handle : ℕ) (level : Level) (turn : ℕ) → Keeps v (try_oplock v client handle level turn)
unfolding try_oplock oplock_at oplock_by oplock_on
oplock v client handle level turn = search (going, keeps-stays, granted) depth 60 fits 4000

level_kept : (v : Volume) (id : ℕ) (level : Level) (turn : ℕ) → KeepsExactly v (with_level_kept v id level turn)
level_kept v id level turn = still v _ refl

oplock_gone : (v : Volume) (id : ℕ) → KeepsExactly v (without_oplock v id)
oplock_gone v id = still v _ refl

ack : (v : Volume) (client handle : ℕ) (level : Level) (turn : ℕ) → Keeps v (try_ack v client handle level turn)
unfolding try_ack ack_at ack_keeping
ack v client handle level turn = search (going, keeps-stays, level_kept, oplock_gone) depth 60 fits 4000

begun_watch : (v : Volume) (id asked : ℕ) (whole : Bool) → KeepsExactly v (with_watch_begun v id asked whole)
begun_watch v id asked whole = keep-if (is_some (watch_of v id)) v _ (keep-same v) (still v (with_watch v id asked whole (length v.changes)) refl)

seen_watch : (u v : Volume) (id : ℕ) → KeepsExactly u v → KeepsExactly u (with_watch_seen v id)
seen_watch u v id first = keep-next first (still v (with_watch_seen v id) refl)

notify : (v : Volume) (client handle asked : ℕ) (whole : Bool) (room : ℕ) → Keeps v (try_notify v client handle asked whole room)
unfolding try_notify notify_at
notify v client handle asked whole room = search (going, keeps-stays, begun_watch, seen_watch) depth 60 fits 4000

cancelled : (v : Volume) (client number turn : ℕ) → KeepsExactly v (with_cancelled v client number turn)
cancelled v client number turn = still v _ refl

cancel : (v : Volume) (client number : ℕ) → Keeps v (try_cancel v client number)
unfolding try_cancel
cancel v client number = search (going, cancelled) depth 60 fits 4000

wait : (v : Volume) (client earlier : ℕ) → Keeps v (try_wait v client earlier)
unfolding try_wait
wait v client earlier = search (going, keeps-stays) depth 60 fits 4000

-- ---- queries of directories

-- a cursor that moves changes nothing else of a handle
unenumerated-cursor : (handles : List (ℕ × Handle)) (id : ℕ) (expression : List ℕ) (place : Cursor)
    → all_unenumerated (with_row_changed (λ row. record row { enumeration = Some (expression, place) }) handles id) ≡ all_unenumerated handles
unenumerated-cursor [] id expression place = refl
unenumerated-cursor (entry ∷ handles) id expression place = elim (cases_Bool (entry.0 == id)) [
  | inl here ↦ rw here (ap (λ (rest : List (ℕ × Handle)). (entry.0, unenumerated entry.1) ∷ rest) (unenumerated-cursor handles id expression place))
  | inr other ↦ rw other (ap (λ (rest : List (ℕ × Handle)). (entry.0, unenumerated entry.1) ∷ rest) (unenumerated-cursor handles id expression place))
]

-- a try that comes to this moves the cursor of this handle alone
record Lists (v : Volume) (id : ℕ) (outcome : Outcome) : Type 0 where
  same : all_unenumerated (volume_after outcome).handles ≡ all_unenumerated v.handles
  others : (handle : ℕ) → (id == handle) ≡ false → row_of (volume_after outcome).handles handle ≡ row_of v.handles handle

lists-same : (v : Volume) (id : ℕ) {reply : Reply} → Lists v id (Done v reply)
lists-same v id = record { same = refl; others = λ handle other. refl }

lists-cursor : (v : Volume) (id : ℕ) (expression : List ℕ) (place : Cursor) {reply : Reply} → Lists v id (Done (with_cursor v id expression place) reply)
lists-cursor v id expression place = record {
  same = unenumerated-cursor v.handles id expression place;
  others = λ handle other. row_of-unchanged (λ (row : Handle). record row { enumeration = Some (expression, place) }) v.handles id handle (eqb-swap handle id ∙ other);
}

lists-if : {v : Volume} {id : ℕ} (test : Bool) (one other : Outcome) → Lists v id one → Lists v id other → Lists v id (if test then one else other)
lists-if true one other holds fails = holds
lists-if false one other holds fails = fails

lists-option : {X : Type 0} {v : Volume} {id : ℕ} (found : Option X) (some : X → Outcome) (none : Outcome) → ((x : X) → Lists v id (some x)) → Lists v id none
    → Lists v id (option_map_or some found none)
lists-option None some none with_some with_none = with_none
lists-option (Some x) some none with_some with_none = with_some x

query_dir-at : (v : Volume) (id : ℕ) (kind : DirKind) (expression : List ℕ) (restart : Bool) (room : ℕ) → Lists v id (query_dir_at v id kind expression restart room)
unfolding query_dir_at query_dir_by query_dir_in list_entries
query_dir-at v id kind expression restart room = search (lists-if, lists-option, lists-cursor, lists-same) depth 60 fits 4000

query_dir : (v : Volume) (client handle : ℕ) (kind : DirKind) (expression : List ℕ) (restart : Bool) (room : ℕ)
    → ListsOne v client handle (volume_after (try_query_dir v client handle kind expression restart room))
unfolding try_query_dir
query_dir v client handle kind expression restart room = elim (option_cases (handle_of v client handle)) [
  | inl unknown ↦ rw unknown (record { same = refl; others = λ any other. refl })
  | inr named ↦ (let lists = query_dir-at v named.0 kind expression restart room in record {
    same = rw named.1 lists.same;
    others = λ any other. (let apart : (named.0 == any) ≡ false = sym (ap (λ found. option_map_or (λ own. own == any) found false) named.1) ∙ other in rw named.1 (lists.others any apart));
  })
]

-- ---- any call

left : {v : Volume} {outcome : Outcome} → Keeps v outcome → (volume_after outcome).handles ≡ v.handles
left keeps = keeps.so.same

-- a try of any call but a close and a leaving; of an open it says nothing
pub what-kept : (v : Volume) (turn client number : ℕ) (what : What) → closes_handles what ≡ false → KeepsHandles client what v (volume_after (try_what v turn client number what))
what-kept v turn client number (Ask (request.Create path wanted share disposition options attributes key)) other = tt
what-kept v turn client number (Ask (request.Close handle)) other = cc
what-kept v turn client number (Ask (request.Read handle at count)) other = left (read v client handle at count)
what-kept v turn client number (Ask (request.Write handle at bytes)) other = left (write v client handle at bytes)
what-kept v turn client number (Ask (request.Flush handle)) other = left (flush v client handle)
what-kept v turn client number (Ask (request.SetEnd handle length)) other = left (set_end v client handle length)
what-kept v turn client number (Ask (request.Lock handle at count exclusive wait)) other = left (lock v client handle at count exclusive wait)
what-kept v turn client number (Ask (request.Unlock handle at count)) other = left (unlock v client handle at count)
what-kept v turn client number (Ask (request.QueryDir handle kind expression restart room)) other = query_dir v client handle kind expression restart room
what-kept v turn client number (Ask (request.SetDisposition handle delete)) other = left (set_disposition v client handle delete)
what-kept v turn client number (Ask (request.Rename handle path replace)) other = left (rename v client handle path replace)
what-kept v turn client number (Ask (request.Link handle path replace)) other = left (link v client handle path replace)
what-kept v turn client number (Ask (request.Oplock handle level)) other = left (oplock v client handle level turn)
what-kept v turn client number (Ask (request.Ack handle level)) other = left (ack v client handle level turn)
what-kept v turn client number (Ask (request.SetSecurity handle owner dacl)) other = left (set_security v client handle owner dacl)
what-kept v turn client number (Ask (request.Notify handle filter whole room)) other = left (notify v client handle filter whole room)
what-kept v turn client number (Ask (request.Cancel earlier)) other = left (cancel v client earlier)
what-kept v turn client number (Ask (request.QueryInfo handle kind room)) other = left (query_info v client handle kind room)
what-kept v turn client number (Ask (request.SetBasic handle creation access write change attributes)) other = left (set_basic v client handle _)
what-kept v turn client number (Ask (request.SetReparse handle bytes)) other = left (set_reparse v client handle bytes)
what-kept v turn client number (Ask (request.GetReparse handle room)) other = left (get_reparse v client handle room)
what-kept v turn client number (Ask (request.DeleteReparse handle tag)) other = left (delete_reparse v client handle tag)
what-kept v turn client number (Ask (request.SetQuota sid limit)) other = left (set_quota v client sid limit)
what-kept v turn client number (Ask (request.QueryQuota sid)) other = left (query_quota v sid)
what-kept v turn client number (Tick ticks) other = refl
what-kept v turn client number (WaitFor earlier) other = left (wait v client earlier)
what-kept v turn client number Leave other = cc
