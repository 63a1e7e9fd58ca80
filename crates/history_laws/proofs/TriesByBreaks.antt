-- A try changes oplocks, pending calls and ends by breaks of one class alone, but for that of an oplock's request, an
-- acknowledgement, an unlock, a close, a cancellation or a leaving: each request's definition is followed once. What breaks
-- nothing stands here for any class, and for none.
use Rattle.std.proofs.Common.{◌≡◌, ℕ, ◌+◌, Bool, true, false, not, List, length, refl, Option, Some, None}
use Rattle.std.specs.Option.{option_map_or}
use Rattle.std.specs.Prelude.{◌==◌, is_some}
use Rattle.fsa_types.specs.Masks.{FILE_ACTION_ADDED, FILE_ACTION_ADDED_STREAM, FILE_ACTION_REMOVED, FILE_ACTION_REMOVED_STREAM, FILE_NOTIFY_CHANGE_DIR_NAME, FILE_NOTIFY_CHANGE_FILE_NAME, FILE_NOTIFY_CHANGE_STREAM_NAME}
use Rattle.fsa_types.specs.Rows.{row_of, without_row}
use Rattle.fsa_types.specs.declared.oplock.Class.{Class}
use Rattle.fsa_types.specs.declared.oplock.Class.TheVariants.{Clash, NameChange, ReadOpen, Change}
use Rattle.fsa_types.specs.declared.oplock.HandleSet.{HandleSet}
use Rattle.fsa_types.specs.declared.request.DaclChange.{DaclChange}
use Rattle.fsa_types.specs.declared.request.DaclChange.TheVariants.{Keep, Remove, Put}
use Rattle.fsa_types.specs.declared.request.DirKind.{DirKind}
use Rattle.fsa_types.specs.declared.request.InfoKind.{InfoKind}
use Rattle.fsa_types.specs.declared.request.InfoKind.TheVariants.{Basic, Standard, Internal, Tag, Streams}
use Rattle.fsa_types.specs.declared.request.Request.{Request}
use Rattle.fsa_types.specs.declared.request.Request.TheVariants as request
use Rattle.fsa_types.specs.declared.request.What.{What}
use Rattle.fsa_types.specs.declared.request.What.TheVariants.{Ask, Tick, WaitFor, Leave}
use Rattle.fsa_model.specs.Changes.{with_change_noted}
use Rattle.fsa_model.specs.Edits.{with_cursor, with_limit, with_ticks, with_watch, without_stream, with_link, with_link_marked, with_link_moved, with_lock, with_owner, with_point, with_stream, with_stream_marked, without_file_unless_linked, without_link}
use Rattle.fsa_model.specs.Flush.{flush_at, try_flush}
use Rattle.fsa_model.specs.Link.{link_at, link_by, link_file, link_into, link_over, link_over_broken, link_over_closed, link_over_other, link_walked, try_link, with_linked, with_link_added}
use Rattle.fsa_model.specs.Locking.{lock_at, lock_by, lock_free, lock_range, lock_stream, try_lock}
use Rattle.fsa_model.specs.Lookups.{has_row}
use Rattle.fsa_model.specs.Open.{Asked, clashed, create_at, create_by_link, create_found, create_in_file, create_missing, create_named, create_on_stream, create_stream, create_there, create_walked, make_directory, make_file, names_stream, open_directory, open_existing, open_granted, open_stream, overwrite_existing, stopped, stream_name, try_create, with_directory_made, with_file_made, with_new_directory, with_new_file, with_new_file_and_stream, with_new_stream, with_open, with_overwrite_noted, with_overwritten}
use Rattle.fsa_model.specs.QueryDir.{list_entries, query_dir_at, query_dir_by, query_dir_in, try_query_dir}
use Rattle.fsa_model.specs.QueryInfo.{query_file, query_info_at, query_info_by, query_streams, query_streams_by, try_query_info}
use Rattle.fsa_model.specs.Quota.{try_query_quota, try_set_quota}
use Rattle.fsa_model.specs.Read.{read_at, read_by, read_bytes, read_range, read_stream, read_unlocked, try_read}
use Rattle.fsa_model.specs.Rename.{is_elsewhere, rename_at, rename_below_closed, rename_by, rename_directory, rename_done, rename_free, rename_into, rename_link, rename_named, rename_over, rename_over_broken, rename_over_closed, rename_walked, try_rename, with_link_renamed, with_move_noted, with_renamed}
use Rattle.fsa_model.specs.ReparsePoints.{delete_reparse_at, delete_reparse_by, delete_reparse_of, get_point, get_reparse_at, get_reparse_by, get_reparse_of, remove_point, set_buffer, set_point, set_reparse_at, set_reparse_by, try_delete_reparse, try_get_reparse, try_set_reparse, with_point_noted}
use Rattle.fsa_model.specs.Replacement.{Naming, new_name, with_link_replaced, with_replaced}
use Rattle.fsa_model.specs.Security.{asks_something, set_security_at, set_security_by, set_security_of, try_set_security, with_dacl_asked, with_change_time, with_owner_asked, with_security}
use Rattle.fsa_model.specs.SetBasic.{Basics, basic_bits, set_basic_at, set_basic_by, set_basic_of, try_set_basic, with_basics, with_basics_noted}
use Rattle.fsa_model.specs.SetDisposition.{delete_by, delete_marked, set_disposition_at, set_disposition_by, try_set_disposition, with_mark}
use Rattle.fsa_model.specs.SetEnd.{set_end_at, set_end_by, set_end_grown, set_end_stream, set_end_to, try_set_end, with_end_set, with_resized}
use Rattle.fsa_model.specs.Settling.{may_be_held}
use Rattle.fsa_model.specs.Try.{try_request, try_what}
use Rattle.fsa_model.specs.Volume.{Cursor, Handle, Link, Volume}
use Rattle.fsa_model.specs.Close.{is_link_of_parent, is_link_over, is_stream_over, name_bit, named_stream, with_link_swept, with_mark_on_close, with_stream_swept, with_swept}
use Rattle.fsa_model.specs.Walk.{Walked, Reached, Barred, Diverted}
use Rattle.fsa_model.specs.Write.{try_write, with_file_write_noted, with_stream_write_noted, with_write_noted, with_written, write_at, write_at_place, write_by, write_bytes, write_grown, write_range, write_stream, write_unlocked}
use Rattle.fsa_model.specs.Waiting.{try_wait}
use Rattle.fsa_model.specs.Watching.{notify_at, try_notify, watch_of, with_watch_begun, with_watch_seen}
use Rattle.history_laws.proofs.ByBreaks.{ByAtMost, ByBreaks, Locked, Still, TriesByBreaks, TriesByClass, by-breaks, by-if, by-next, by-noted, by-option, by-same, one-class, one-done, one-if, one-option, tries-breaks, tries-done, tries-held, tries-if, tries-option, tries-stays}

ruleset going = (tries-breaks, tries-if, tries-option, tries-done, by-same)

-- ---- edits

write_noted : {kind : Option Class} (v : Volume) (link stream : ℕ) (longer : Bool) → ByAtMost kind v (with_write_noted v link stream longer)
write_noted v link stream longer = by-if _ (with_stream_write_noted v link stream longer) (with_file_write_noted v link longer) (by-noted v link _ _ (Some stream)) (by-noted v link _ _ None)

pub written : {kind : Option Class} (v : Volume) (link stream at : ℕ) (bytes : List ℕ) → ByAtMost kind v (with_written v link stream at bytes)
written v link stream at bytes = by-next (write_noted v link stream _) (Still _ _ refl refl refl refl refl refl refl)

pub without : {kind : Option Class} (v : Volume) (link : ℕ) → ByAtMost kind v (without_link v link)
without v link =
    by-option (row_of v.links link) (λ (row : Link). without_file_unless_linked (record v { links = without_row v.links link }) row.file) v
    (λ (row : Link). by-if (has_row (λ (other : Link). other.file == row.file) (without_row v.links link)) _ _ (Still v _ refl refl refl refl refl refl refl) (Still v _ refl refl refl refl refl refl refl)) (by-same v)

replaced_link : {kind : Option Class} (v : Volume) (replaced : Option ℕ) → ByAtMost kind v (with_replaced v replaced)
replaced_link v replaced =
    by-option replaced (λ link. with_link_replaced v link) v (λ link. by-next (by-noted v link _ _ None) (without _ link)) (by-same v)

move_noted : {kind : Option Class} (v : Volume) (naming : Naming) (dir old new : ℕ) → ByAtMost kind v (with_move_noted v naming dir old new)
move_noted v naming dir old new =
    by-next (by-noted v naming.link old _ None) (by-next (Still _ (with_link_moved (with_change_noted v naming.link old _ None) naming.link dir _) refl refl refl refl refl refl refl) (by-noted _ naming.link new _ None))

link_renamed : {kind : Option Class} (v : Volume) (naming : Naming) (dir : ℕ) → ByAtMost kind v (with_link_renamed v naming dir)
link_renamed v naming dir = by-if (is_elsewhere v naming dir) _ _ (move_noted v naming dir _ _) (move_noted v naming dir _ _)

pub renamed : {kind : Option Class} (v : Volume) (naming : Naming) (dir : ℕ) (replaced : Option ℕ) → ByAtMost kind v (with_renamed v naming dir replaced)
renamed v naming dir replaced =
    let first : Volume = with_replaced v replaced in let second : Volume = with_link_renamed first naming dir in
    by-next (replaced_link v replaced) (by-next (link_renamed first naming dir) (Still second (with_renamed v naming dir replaced) refl refl refl refl refl refl refl))

pub linked : {kind : Option Class} (v : Volume) (naming : Naming) (dir : ℕ) (replaced : Option ℕ) → ByAtMost kind v (with_linked v naming dir replaced)
linked v naming dir replaced =
    let first : Volume = with_replaced v replaced in let second : Volume = with_link first dir (new_name naming) naming.file in let third : Volume = with_link_added first naming dir in
    by-next (replaced_link v replaced) (by-next (Still first second refl refl refl refl refl refl refl)
    (by-next (by-noted second (first.last_link + 1) FILE_ACTION_ADDED FILE_NOTIFY_CHANGE_FILE_NAME None) (Still third (with_linked v naming dir replaced) refl refl refl refl refl refl refl)))

pub end_set : {kind : Option Class} (v : Volume) (link stream end : ℕ) → ByAtMost kind v (with_end_set v link stream end)
end_set v link stream end =
    by-if _ v (with_resized v link stream end) (by-same v) (by-next (write_noted v link stream true) (Still (with_write_noted v link stream true) (with_resized v link stream end) refl refl refl refl refl refl refl))

pub locked : {kind : Option Class} (v : Volume) (handle at count : ℕ) (exclusive : Bool) → ByAtMost kind v (with_lock v handle at count exclusive)
locked v handle at count exclusive = Locked v handle at count exclusive

pub mark : {kind : Option Class} (v : Volume) (handle : Handle) (delete : Bool) → ByAtMost kind v (with_mark v handle delete)
mark v handle delete =
    by-option (named_stream v handle) (λ stream. with_stream_marked v stream delete) (with_link_marked v handle.link delete)
    (λ stream. Still v (with_stream_marked v stream delete) refl refl refl refl refl refl refl) (Still v (with_link_marked v handle.link delete) refl refl refl refl refl refl refl)

cursor : {kind : Option Class} (v : Volume) (handle : ℕ) (expression : List ℕ) (place : Cursor) → ByAtMost kind v (with_cursor v handle expression place)
cursor v handle expression place = Still v (with_cursor v handle expression place) refl refl refl refl refl refl refl

basics : {kind : Option Class} (v : Volume) (link file : ℕ) (asked : Basics) → ByAtMost kind v (with_basics_noted v link file asked)
basics {kind} v link file asked =
    let set : ByAtMost kind v (with_basics v file asked) = Still v (with_basics v file asked) refl refl refl refl refl refl refl in
    by-if (basic_bits asked == 0) (with_basics v file asked) _ set (by-next set (by-noted (with_basics v file asked) link _ _ None))

owned : {kind : Option Class} (v : Volume) (file : ℕ) (owner : Option ℕ) → ByAtMost kind v (with_owner_asked v file owner)
owned v file owner = by-option owner (λ sid. with_owner v file sid) v (λ sid. Still v (with_owner v file sid) refl refl refl refl refl refl refl) (by-same v)

listed : {kind : Option Class} (v : Volume) (file : ℕ) (dacl : DaclChange) → ByAtMost kind v (with_dacl_asked v file dacl)
listed v file Keep = by-same v
listed v file Remove = Still v (with_dacl_asked v file Remove) refl refl refl refl refl refl refl
listed v file (Put dacl) = Still v (with_dacl_asked v file (Put dacl)) refl refl refl refl refl refl refl

secured : {kind : Option Class} (v : Volume) (link file : ℕ) (owner : Option ℕ) (dacl : DaclChange) → ByAtMost kind v (with_security v link file owner dacl)
secured v link file owner dacl =
    let first : Volume = with_owner_asked v file owner in let second : Volume = with_dacl_asked first file dacl in let third : Volume = with_change_time second file in
    by-next (owned v file owner) (by-next (listed first file dacl) (by-next (Still second third refl refl refl refl refl refl refl)
    (by-if (asks_something owner dacl) _ third (by-noted third link _ _ None) (by-same third))))

pointed : {kind : Option Class} (v : Volume) (link file : ℕ) (point : Option (ℕ × List ℕ)) → ByAtMost kind v (with_point_noted v link file point)
pointed v link file point = by-next (Still v (with_point v file point) refl refl refl refl refl refl refl) (by-noted (with_point v file point) link _ _ None)

limited : {kind : Option Class} (v : Volume) (sid bytes : ℕ) → ByAtMost kind v (with_limit v sid bytes)
limited v sid bytes = Still v (with_limit v sid bytes) refl refl refl refl refl refl refl

opened_so : {kind : Option Class} (u v : Volume) (asked : Asked) (link : ℕ) (stream : Option ℕ) → ByAtMost kind u v → ByAtMost kind u (with_open v asked link stream)
opened_so u v asked link stream first = by-next first (Still v (with_open v asked link stream) refl refl refl refl refl refl refl)

overwritten : {kind : Option Class} (u v : Volume) (asked : Asked) (link file stream : ℕ) → ByAtMost kind u v → ByAtMost kind u (with_overwritten v asked link file stream)
overwritten u v asked link file stream first =
    let noted : Volume = with_overwrite_noted v link stream (names_stream asked.path) in
    by-next first (by-next (by-if (names_stream asked.path) _ _ (by-noted v link _ _ (Some stream)) (by-noted v link _ _ None))
    (Still noted (with_overwritten v asked link file stream) refl refl refl refl refl refl refl))

new_stream : {kind : Option Class} (v : Volume) (asked : Asked) (link file : ℕ) → ByAtMost kind v (with_new_stream v asked link file)
new_stream v asked link file =
    let opened : Volume = with_open (with_stream v file (stream_name asked.path)) asked link (Some (v.last_stream + 1)) in
    by-next (Still v opened refl refl refl refl refl refl refl) (by-noted opened link _ _ (Some (v.last_stream + 1)))

new_file : {kind : Option Class} (v : Volume) (asked : Asked) (dir : ℕ) (name : List ℕ) → ByAtMost kind v (with_new_file v asked dir name)
new_file v asked dir name =
    let opened : Volume = with_open (with_file_made v asked dir name) asked (v.last_link + 1) (Some (v.last_stream + 1)) in
    by-next (Still v opened refl refl refl refl refl refl refl) (by-noted opened (v.last_link + 1) FILE_ACTION_ADDED FILE_NOTIFY_CHANGE_FILE_NAME None)

new_directory : {kind : Option Class} (v : Volume) (asked : Asked) (dir : ℕ) (name : List ℕ) → ByAtMost kind v (with_new_directory v asked dir name)
new_directory v asked dir name =
    let opened : Volume = with_open (with_directory_made v asked dir name) asked (v.last_link + 1) None in
    by-next (Still v opened refl refl refl refl refl refl refl) (by-noted opened (v.last_link + 1) FILE_ACTION_ADDED FILE_NOTIFY_CHANGE_DIR_NAME None)

new_both : {kind : Option Class} (v : Volume) (asked : Asked) (dir : ℕ) (name : List ℕ) → ByAtMost kind v (with_new_file_and_stream v asked dir name)
new_both v asked dir name =
    let opened : Volume = with_open (with_stream (with_file_made v asked dir name) (v.last_file + 1) (stream_name asked.path)) asked (v.last_link + 1) (Some (v.last_stream + 2)) in
    let noted : Volume = with_change_noted opened (v.last_link + 1) FILE_ACTION_ADDED FILE_NOTIFY_CHANGE_FILE_NAME None in
    by-next (Still v opened refl refl refl refl refl refl refl) (by-next (by-noted opened (v.last_link + 1) FILE_ACTION_ADDED FILE_NOTIFY_CHANGE_FILE_NAME None)
    (by-noted noted (v.last_link + 1) FILE_ACTION_ADDED_STREAM FILE_NOTIFY_CHANGE_STREAM_NAME (Some (v.last_stream + 2))))

-- ---- reads, writes, flushes, new lengths and locks

read : (v : Volume) (client handle at count : ℕ) → TriesByClass (Some ReadOpen) v (try_read v client handle at count)
unfolding try_read read_at read_by read_stream read_range read_unlocked read_bytes
read v client handle at count = search going depth 60 fits 4000

write : (v : Volume) (client handle : ℕ) (at : Option ℕ) (bytes : List ℕ) → TriesByClass (Some Change) v (try_write v client handle at bytes)
unfolding try_write write_at write_by write_stream write_at_place write_range write_unlocked write_grown write_bytes
write v client handle at bytes = search (going, written) depth 60 fits 4000

pub flush : {kind : Option Class} (v : Volume) (client handle : ℕ) → TriesByClass kind v (try_flush v client handle)
unfolding try_flush flush_at
flush v client handle = search going depth 60 fits 4000

set_end : (v : Volume) (client handle end : ℕ) → TriesByClass (Some Change) v (try_set_end v client handle end)
unfolding try_set_end set_end_at set_end_by set_end_stream set_end_to set_end_grown
set_end v client handle end = search (going, end_set) depth 60 fits 4000

lock : (v : Volume) (client handle at count : ℕ) (exclusive wait : Bool) → TriesByClass (Some Change) v (try_lock v client handle at count exclusive wait)
unfolding try_lock lock_at lock_by lock_stream lock_range lock_free
lock v client handle at count exclusive wait = search (going, tries-held, locked) depth 60 fits 4000

-- ---- names

stops : {kind : Option Class} (v : Volume) (file : ℕ) (rest : List ℕ) → TriesByClass kind v (stopped v file rest)
unfolding stopped
stops v file rest = search going depth 60 fits 4000

rename_goes : (v : Volume) (naming : Naming) (dir : ℕ) → TriesByClass (Some NameChange) v (rename_into v naming dir)
unfolding rename_into rename_directory rename_below_closed rename_named rename_over rename_over_broken rename_over_closed rename_free rename_done
rename_goes v naming dir = search (going, renamed) depth 60 fits 4000

rename_walks : (v : Volume) (naming : Naming) (walked : Walked) → TriesByClass (Some NameChange) v (rename_walked v naming walked)
unfolding rename_walked
rename_walks v naming (Reached dir) = rename_goes v naming dir
rename_walks v naming (Barred status) = tries-done (by-same v)
rename_walks v naming (Diverted file next) = stops v file _

rename : (v : Volume) (client handle : ℕ) (path : List ℕ) (replace : Bool) → TriesByClass (Some NameChange) v (try_rename v client handle path replace)
unfolding try_rename rename_at rename_by rename_link
rename v client handle path replace = search (going, rename_walks) depth 60 fits 4000

link_goes : (v : Volume) (naming : Naming) (dir : ℕ) → TriesByClass (Some NameChange) v (link_into v naming dir)
unfolding link_into link_over link_over_other link_over_broken link_over_closed
link_goes v naming dir = search (going, linked) depth 60 fits 4000

link_walks : (v : Volume) (naming : Naming) (walked : Walked) → TriesByClass (Some NameChange) v (link_walked v naming walked)
unfolding link_walked
link_walks v naming (Reached dir) = link_goes v naming dir
link_walks v naming (Barred status) = tries-done (by-same v)
link_walks v naming (Diverted file next) = stops v file _

link : (v : Volume) (client handle : ℕ) (path : List ℕ) (replace : Bool) → TriesByClass (Some NameChange) v (try_link v client handle path replace)
unfolding try_link link_at link_by link_file
link v client handle path replace = search (going, link_walks) depth 60 fits 4000

set_disposition : (v : Volume) (client handle : ℕ) (delete : Bool) → TriesByClass (Some NameChange) v (try_set_disposition v client handle delete)
unfolding try_set_disposition set_disposition_at set_disposition_by delete_by delete_marked
set_disposition v client handle delete = search (going, mark) depth 60 fits 4000

-- ---- listings, information, security, reparse points and quotas

pub query_dir : {class : Option Class} (v : Volume) (client handle : ℕ) (kind : DirKind) (expression : List ℕ) (restart : Bool) (room : ℕ) → TriesByClass class v (try_query_dir v client handle kind expression restart room)
unfolding try_query_dir query_dir_at query_dir_by query_dir_in list_entries
query_dir v client handle kind expression restart room = search (going, cursor) depth 60 fits 4000

query_kind : {class : Option Class} (v : Volume) (handle : Handle) (file : ℕ) (kind : InfoKind) (room : ℕ) → TriesByClass class v (query_file v handle file kind room)
unfolding query_file query_streams_by query_streams
query_kind v handle file Basic room = tries-done (by-same v)
query_kind v handle file Standard room = tries-done (by-same v)
query_kind v handle file Internal room = tries-done (by-same v)
query_kind v handle file Tag room = tries-done (by-same v)
query_kind v handle file Streams room = search going depth 60 fits 4000

pub query_info : {class : Option Class} (v : Volume) (client handle : ℕ) (kind : InfoKind) (room : ℕ) → TriesByClass class v (try_query_info v client handle kind room)
unfolding try_query_info query_info_at query_info_by
query_info v client handle kind room = search (going, query_kind) depth 60 fits 4000

pub set_basic : {kind : Option Class} (v : Volume) (client handle : ℕ) (asked : Basics) → TriesByClass kind v (try_set_basic v client handle asked)
unfolding try_set_basic set_basic_at set_basic_by set_basic_of
set_basic v client handle asked = search (going, basics) depth 60 fits 4000

pub set_security : {kind : Option Class} (v : Volume) (client handle : ℕ) (owner : Option ℕ) (dacl : DaclChange) → TriesByClass kind v (try_set_security v client handle owner dacl)
unfolding try_set_security set_security_at set_security_by set_security_of
set_security v client handle owner dacl = search (going, secured) depth 60 fits 4000

pub set_reparse : {kind : Option Class} (v : Volume) (client handle : ℕ) (bytes : List ℕ) → TriesByClass kind v (try_set_reparse v client handle bytes)
unfolding try_set_reparse set_reparse_at set_reparse_by set_buffer set_point
set_reparse v client handle bytes = search (going, pointed) depth 60 fits 4000

pub get_reparse : {kind : Option Class} (v : Volume) (client handle room : ℕ) → TriesByClass kind v (try_get_reparse v client handle room)
unfolding try_get_reparse get_reparse_at get_reparse_by get_reparse_of get_point
get_reparse v client handle room = search going depth 60 fits 4000

pub delete_reparse : {kind : Option Class} (v : Volume) (client handle tag : ℕ) → TriesByClass kind v (try_delete_reparse v client handle tag)
unfolding try_delete_reparse delete_reparse_at delete_reparse_by delete_reparse_of remove_point
delete_reparse v client handle tag = search (going, pointed) depth 60 fits 4000

pub set_quota : {kind : Option Class} (v : Volume) (client sid bytes : ℕ) → TriesByClass kind v (try_set_quota v client sid bytes)
unfolding try_set_quota
set_quota v client sid bytes = search (going, limited) depth 60 fits 4000

pub query_quota : {kind : Option Class} (v : Volume) (sid : ℕ) → TriesByClass kind v (try_query_quota v sid)
unfolding try_query_quota
query_quota v sid = search going depth 60 fits 4000

-- ---- opens

open_clashes : (v : Volume) (on : HandleSet) (key : ℕ) → TriesByBreaks v (clashed v on key)
unfolding clashed
open_clashes v on key = one-class {kind = Clash} (search going)

open_goes : (v : Volume) (asked : Asked) (link : ℕ) (stream : Option ℕ) (on : HandleSet) → TriesByBreaks v (open_existing v asked link stream on)
unfolding open_existing
open_goes v asked link stream on = one-class {kind = ReadOpen} (search (going, opened_so, by-breaks) depth 60 fits 4000)

open_overwrites : (v : Volume) (asked : Asked) (link file stream : ℕ) → TriesByBreaks v (overwrite_existing v asked link file stream)
unfolding overwrite_existing
open_overwrites v asked link file stream = one-class {kind = Change} (search (going, opened_so, overwritten) depth 60 fits 4000)

open_stops : (v : Volume) (file : ℕ) (rest : List ℕ) → TriesByBreaks v (stopped v file rest)
open_stops v file rest = one-class {kind = Change} (stops v file rest)

ruleset one_of = (one-if, one-option, one-done, by-same)

-- it breaks by one class or another
open_there : (v : Volume) (asked : Asked) (link file : ℕ) → TriesByBreaks v (create_found v asked link file)
unfolding create_found create_there create_in_file create_stream create_on_stream open_stream open_directory open_granted
open_there v asked link file = search (one_of, open_clashes, open_goes, open_overwrites, new_stream, open_stops) depth 60 fits 4000

open_missing : (v : Volume) (asked : Asked) (dir : ℕ) (name : List ℕ) → TriesByBreaks v (create_missing v asked dir name)
unfolding create_missing make_file make_directory
open_missing v asked dir name = search (one_of, new_file, new_both, new_directory) depth 60 fits 4000

open_named : (v : Volume) (asked : Asked) (dir : ℕ) (name : List ℕ) → TriesByBreaks v (create_named v asked dir name)
unfolding create_named create_by_link
open_named v asked dir name = search (one_of, open_there, open_missing) depth 60 fits 4000

open_walks : (v : Volume) (asked : Asked) (walked : Walked) → TriesByBreaks v (create_walked v asked walked)
unfolding create_walked
open_walks v asked (Reached dir) = search (one-if, open_there, open_named)
open_walks v asked (Barred status) = one-done (by-same v)
open_walks v asked (Diverted file next) = open_stops v file _

create : (v : Volume) (asked : Asked) → TriesByBreaks v (try_create v asked)
unfolding try_create create_at
create v asked = search (one_of, open_walks) depth 60 fits 4000

-- ---- what goes with a handle

pub marked_on_close : {kind : Class} (v : Volume) (handle : Handle) → ByBreaks kind v (with_mark_on_close v handle)
marked_on_close v handle =
    by-if (not handle.delete_on_close) v _ (by-same v)
    (by-option (named_stream v handle) (λ stream. with_stream_marked v stream true) _ (λ stream. Still v (with_stream_marked v stream true) refl refl refl refl refl refl refl)
    (by-if (is_link_of_parent v handle.link) v (with_link_marked v handle.link true) (by-same v) (Still v (with_link_marked v handle.link true) refl refl refl refl refl refl refl)))

stream_swept : {kind : Option Class} (v : Volume) (link stream : ℕ) → ByAtMost kind v (with_stream_swept v link stream)
stream_swept v link stream =
    let noted : Volume = with_change_noted v link FILE_ACTION_REMOVED_STREAM FILE_NOTIFY_CHANGE_STREAM_NAME (Some stream) in
    by-if (is_stream_over v stream) (without_stream noted stream) v (by-next (by-noted v link _ _ (Some stream)) (Still noted (without_stream noted stream) refl refl refl refl refl refl refl)) (by-same v)

link_swept : {kind : Option Class} (v : Volume) (link : ℕ) → ByAtMost kind v (with_link_swept v link)
link_swept v link = by-if (is_link_over v link) _ v (by-next (by-noted v link FILE_ACTION_REMOVED (name_bit v link) None) (without (with_change_noted v link FILE_ACTION_REMOVED (name_bit v link) None) link)) (by-same v)

pub swept : {kind : Class} (v : Volume) (handle : Handle) → ByBreaks kind v (with_swept v handle)
swept v handle =
    let first : Volume = option_map_or (λ stream. with_stream_swept v handle.link stream) handle.stream v in
    by-next (by-option handle.stream (λ stream. with_stream_swept v handle.link stream) v (λ stream. stream_swept v handle.link stream) (by-same v)) (link_swept first handle.link)

-- ---- watches and waits

begun_watch : {kind : Option Class} (v : Volume) (id asked : ℕ) (whole : Bool) → ByAtMost kind v (with_watch_begun v id asked whole)
begun_watch v id asked whole = by-if (is_some (watch_of v id)) v _ (by-same v) (Still v (with_watch v id asked whole (length v.changes)) refl refl refl refl refl refl refl)

seen_watch : {kind : Option Class} (u v : Volume) (id : ℕ) → ByAtMost kind u v → ByAtMost kind u (with_watch_seen v id)
seen_watch u v id first = by-next first (Still v (with_watch_seen v id) refl refl refl refl refl refl refl)

pub notify : {kind : Option Class} (v : Volume) (client handle asked : ℕ) (whole : Bool) (room : ℕ) → TriesByClass kind v (try_notify v client handle asked whole room)
unfolding try_notify notify_at
notify v client handle asked whole room = search (going, tries-stays, begun_watch, seen_watch) depth 40 fits 4000

pub wait : {kind : Option Class} (v : Volume) (client earlier : ℕ) → TriesByClass kind v (try_wait v client earlier)
unfolding try_wait
wait v client earlier = search (going, tries-stays) depth 20

-- ---- any call but a few

-- an oplock's request, an acknowledgement, an unlock, a close, a cancellation and a leaving may change them otherwise
abbrev pub changes_otherwise : What → Bool
changes_otherwise (Ask (request.Oplock handle level)) = true
changes_otherwise (Ask (request.Ack handle level)) = true
changes_otherwise (Ask (request.Unlock handle at count)) = true
changes_otherwise (Ask (request.Close handle)) = true
changes_otherwise (Ask (request.Cancel number)) = true
changes_otherwise Leave = true
changes_otherwise _ = false

-- what can be held doesn't
pub held-by_breaks : (what : What) → may_be_held what ≡ true → changes_otherwise what ≡ false
held-by_breaks (Ask (request.Oplock handle level)) can = cc
held-by_breaks (Ask (request.Ack handle level)) can = cc
held-by_breaks (Ask (request.Unlock handle at count)) can = cc
held-by_breaks (Ask (request.Close handle)) can = cc
held-by_breaks (Ask (request.Cancel number)) can = cc
held-by_breaks Leave can = cc
held-by_breaks _ can = refl

request-by_breaks : (v : Volume) (turn client call : ℕ) (asked : Request) → changes_otherwise (Ask asked) ≡ false → TriesByBreaks v (try_request v turn client call asked)
request-by_breaks v turn client call (request.Create path wanted share disposition options attributes key) more = create v _
request-by_breaks v turn client call (request.Read handle at count) more = one-class (read v client handle at count)
request-by_breaks v turn client call (request.Write handle at bytes) more = one-class (write v client handle at bytes)
request-by_breaks v turn client call (request.Flush handle) more = one-class {kind = Change} (flush v client handle)
request-by_breaks v turn client call (request.SetEnd handle length) more = one-class (set_end v client handle length)
request-by_breaks v turn client call (request.Lock handle at count exclusive wait) more = one-class (lock v client handle at count exclusive wait)
request-by_breaks v turn client call (request.SetSecurity handle owner dacl) more = one-class {kind = Change} (set_security v client handle owner dacl)
request-by_breaks v turn client call (request.QueryDir handle kind expression restart room) more = one-class {kind = Change} (query_dir v client handle kind expression restart room)
request-by_breaks v turn client call (request.SetDisposition handle delete) more = one-class (set_disposition v client handle delete)
request-by_breaks v turn client call (request.Rename handle path replace) more = one-class (rename v client handle path replace)
request-by_breaks v turn client call (request.Link handle path replace) more = one-class (link v client handle path replace)
request-by_breaks v turn client call (request.QueryInfo handle kind room) more = one-class {kind = Change} (query_info v client handle kind room)
request-by_breaks v turn client call (request.SetBasic handle creation access write change attributes) more = one-class {kind = Change} (set_basic v client handle _)
request-by_breaks v turn client call (request.SetReparse handle bytes) more = one-class {kind = Change} (set_reparse v client handle bytes)
request-by_breaks v turn client call (request.GetReparse handle room) more = one-class {kind = Change} (get_reparse v client handle room)
request-by_breaks v turn client call (request.DeleteReparse handle tag) more = one-class {kind = Change} (delete_reparse v client handle tag)
request-by_breaks v turn client call (request.SetQuota sid bytes) more = one-class {kind = Change} (set_quota v client sid bytes)
request-by_breaks v turn client call (request.QueryQuota sid) more = one-class {kind = Change} (query_quota v sid)
request-by_breaks v turn client call (request.Notify handle asked whole room) more = one-class {kind = Change} (notify v client handle asked whole room)
request-by_breaks v turn client call _ more = cc

pub what-by_breaks : (v : Volume) (turn client call : ℕ) (what : What) → changes_otherwise what ≡ false → TriesByBreaks v (try_what v turn client call what)
what-by_breaks v turn client call (Ask asked) more = request-by_breaks v turn client call asked more
what-by_breaks v turn client call (Tick ticks) more = one-done (Still v (with_ticks v ticks) refl refl refl refl refl refl refl)
what-by_breaks v turn client call (WaitFor earlier) more = one-class {kind = Change} (wait v client earlier)
what-by_breaks v turn client call Leave more = cc
