-- No call ends by its own try in what tells of a break: each request's definition is followed once.
use Rattle.std.proofs.Common.{◌≡◌, ℕ, Bool, true, false, List, refl, inl, inr, Option, Some, None}
use Rattle.std.specs.Option.{option_map_or}
use Rattle.std.specs.Prelude.{nat_le, if◌then◌else◌}
use Rattle.std.proofs.lemmas.Bool.{cases_Bool}
use Rattle.fsa_types.specs.declared.reply.Blocker.{Blocker}
use Rattle.fsa_types.specs.declared.reply.Body.TheVariants.{Nothing}
use Rattle.fsa_types.specs.declared.reply.Interim.{Interim}
use Rattle.fsa_types.specs.declared.reply.Reply.{Reply}
use Rattle.fsa_types.specs.declared.request.Call.{Call}
use Rattle.fsa_types.specs.declared.request.DaclChange.{DaclChange}
use Rattle.fsa_types.specs.declared.request.DirKind.{DirKind}
use Rattle.fsa_types.specs.declared.request.InfoKind.{InfoKind}
use Rattle.fsa_types.specs.declared.request.InfoKind.TheVariants.{Basic, Standard, Internal, Tag, Streams}
use Rattle.fsa_types.specs.declared.request.Level.{Level}
use Rattle.fsa_types.specs.declared.request.Request.{Request}
use Rattle.fsa_types.specs.declared.request.Request.TheVariants as request
use Rattle.fsa_types.specs.declared.request.What.{What}
use Rattle.fsa_types.specs.declared.request.What.TheVariants.{Ask, Tick, WaitFor, Leave}
use Rattle.fsa_types.specs.declared.status.Status.{Status}
use Rattle.fsa_model.specs.Close.{close_at, try_close, try_leave}
use Rattle.fsa_model.specs.Flush.{flush_at, try_flush}
use Rattle.fsa_model.specs.Grant.{ack_at, ack_keeping, oplock_at, oplock_by, oplock_on, try_ack, try_oplock}
use Rattle.fsa_model.specs.Link.{link_at, link_by, link_file, link_into, link_over, link_over_broken, link_over_closed, link_over_other, link_walked, try_link}
use Rattle.fsa_model.specs.Locking.{lock_at, lock_by, lock_free, lock_range, lock_stream, try_lock, try_unlock, unlock_at, unlock_by, unlock_range}
use Rattle.fsa_model.specs.Lookups.{has_left}
use Rattle.fsa_model.specs.Open.{Asked, clashed, create_at, create_by_link, create_found, create_in_file, create_missing, create_named, create_on_stream, create_stream, create_there, create_walked, make_directory, make_file, open_directory, open_existing, open_granted, open_stream, overwrite_existing, stopped, try_create}
use Rattle.fsa_model.specs.Outcome.{Outcome, Done, Stay, Hold}
use Rattle.fsa_model.specs.QueryDir.{list_entries, query_dir_at, query_dir_by, query_dir_in, try_query_dir}
use Rattle.fsa_model.specs.QueryInfo.{query_file, query_info_at, query_info_by, query_streams, query_streams_by, try_query_info}
use Rattle.fsa_model.specs.Quota.{try_query_quota, try_set_quota}
use Rattle.fsa_model.specs.Read.{read_at, read_by, read_bytes, read_range, read_stream, read_unlocked, try_read}
use Rattle.fsa_model.specs.Rename.{rename_at, rename_below_closed, rename_by, rename_directory, rename_done, rename_free, rename_into, rename_link, rename_named, rename_over, rename_over_broken, rename_over_closed, rename_walked, try_rename}
use Rattle.fsa_model.specs.ReparsePoints.{delete_reparse_at, delete_reparse_by, delete_reparse_of, get_point, get_reparse_at, get_reparse_by, get_reparse_of, remove_point, set_buffer, set_point, set_reparse_at, set_reparse_by, try_delete_reparse, try_get_reparse, try_set_reparse}
use Rattle.fsa_model.specs.Replacement.{Naming}
use Rattle.fsa_model.specs.Security.{set_security_at, set_security_by, set_security_of, try_set_security}
use Rattle.fsa_model.specs.SetBasic.{Basics, set_basic_at, set_basic_by, set_basic_of, try_set_basic}
use Rattle.fsa_model.specs.SetDisposition.{delete_by, delete_marked, set_disposition_at, set_disposition_by, try_set_disposition}
use Rattle.fsa_model.specs.SetEnd.{set_end_at, set_end_by, set_end_grown, set_end_stream, set_end_to, try_set_end}
use Rattle.fsa_model.specs.Try.{try, try_request, try_what}
use Rattle.fsa_model.specs.Volume.{Handle, Volume}
use Rattle.fsa_model.specs.Waiting.{try_cancel, try_wait}
use Rattle.fsa_model.specs.Walk.{Walked, Reached, Barred, Diverted}
use Rattle.fsa_model.specs.Watching.{due_size, notify_at, report, try_notify}
use Rattle.fsa_model.specs.Write.{try_write, write_at, write_at_place, write_by, write_bytes, write_grown, write_range, write_stream, write_unlocked}
use Rattle.history_laws.specs.Telling.{tells_of_break}

-- ---- how a definition goes on

-- where the try ends the call, its reply doesn't tell of a break
abbrev pub EndsUntold : Outcome → Type 0
EndsUntold (Done v reply) = tells_of_break reply ≡ false
EndsUntold (Stay v interim) = Unit {0}
EndsUntold (Hold v blockers interim) = Unit {0}

pub record Replies (outcome : Outcome) : Type 0 where
  pub so : EndsUntold outcome

done : (v : Volume) (reply : Reply) → tells_of_break reply ≡ false → Replies (Done v reply)
done v reply other = record { so = other }

stays : (v : Volume) (interim : Interim) → Replies (Stay v interim)
stays v interim = record { so = tt }

held : (v : Volume) (blockers : List Blocker) (interim : Interim) → Replies (Hold v blockers interim)
held v blockers interim = record { so = tt }

ends : (v : Volume) (status : Status) → Replies (Done v (record { status = status; body = Nothing }))
ends v status = record { so = refl }

either : (test : Bool) (one other : Outcome) → Replies one → Replies other → Replies (if test then one else other)
either true one other holds fails = holds
either false one other holds fails = fails

option : {X : Type 0} (found : Option X) (some : X → Outcome) (none : Outcome) → ((x : X) → Replies (some x)) → Replies none → Replies (option_map_or some found none)
option None some none with_some with_none = with_none
option (Some x) some none with_some with_none = with_some x

ruleset going = (either, option, ends, stays, held, done)

-- ---- reads, writes, flushes, new lengths and locks

read : (v : Volume) (client handle at count : ℕ) → Replies (try_read v client handle at count)
unfolding try_read read_at read_by read_stream read_range read_unlocked read_bytes
read v client handle at count = search going depth 60 fits 4000

write : (v : Volume) (client handle : ℕ) (at : Option ℕ) (bytes : List ℕ) → Replies (try_write v client handle at bytes)
unfolding try_write write_at write_by write_stream write_at_place write_range write_unlocked write_grown write_bytes
write v client handle at bytes = search going depth 60 fits 4000

flush : (v : Volume) (client handle : ℕ) → Replies (try_flush v client handle)
unfolding try_flush flush_at
flush v client handle = search going depth 60 fits 4000

set_end : (v : Volume) (client handle end : ℕ) → Replies (try_set_end v client handle end)
unfolding try_set_end set_end_at set_end_by set_end_stream set_end_to set_end_grown
set_end v client handle end = search going depth 60 fits 4000

lock : (v : Volume) (client handle at count : ℕ) (exclusive wait : Bool) → Replies (try_lock v client handle at count exclusive wait)
unfolding try_lock lock_at lock_by lock_stream lock_range lock_free
lock v client handle at count exclusive wait = search going depth 60 fits 4000

unlock : (v : Volume) (client handle at count : ℕ) → Replies (try_unlock v client handle at count)
unfolding try_unlock unlock_at unlock_by unlock_range
unlock v client handle at count = search going depth 60 fits 4000

-- ---- names

stops : (v : Volume) (file : ℕ) (rest : List ℕ) → Replies (stopped v file rest)
unfolding stopped
stops v file rest = search going depth 60 fits 4000

rename_goes : (v : Volume) (naming : Naming) (dir : ℕ) → Replies (rename_into v naming dir)
unfolding rename_into rename_directory rename_below_closed rename_named rename_over rename_over_broken rename_over_closed rename_free rename_done
rename_goes v naming dir = search going depth 60 fits 4000

rename_walks : (v : Volume) (naming : Naming) (walked : Walked) → Replies (rename_walked v naming walked)
unfolding rename_walked
rename_walks v naming (Reached dir) = rename_goes v naming dir
rename_walks v naming (Barred status) = ends v status
rename_walks v naming (Diverted file next) = stops v file _

rename : (v : Volume) (client handle : ℕ) (path : List ℕ) (replace : Bool) → Replies (try_rename v client handle path replace)
unfolding try_rename rename_at rename_by rename_link
rename v client handle path replace = search (going, rename_walks) depth 60 fits 4000

link_goes : (v : Volume) (naming : Naming) (dir : ℕ) → Replies (link_into v naming dir)
unfolding link_into link_over link_over_other link_over_broken link_over_closed
link_goes v naming dir = search going depth 60 fits 4000

link_walks : (v : Volume) (naming : Naming) (walked : Walked) → Replies (link_walked v naming walked)
unfolding link_walked
link_walks v naming (Reached dir) = link_goes v naming dir
link_walks v naming (Barred status) = ends v status
link_walks v naming (Diverted file next) = stops v file _

link : (v : Volume) (client handle : ℕ) (path : List ℕ) (replace : Bool) → Replies (try_link v client handle path replace)
unfolding try_link link_at link_by link_file
link v client handle path replace = search (going, link_walks) depth 60 fits 4000

set_disposition : (v : Volume) (client handle : ℕ) (delete : Bool) → Replies (try_set_disposition v client handle delete)
unfolding try_set_disposition set_disposition_at set_disposition_by delete_by delete_marked
set_disposition v client handle delete = search going depth 60 fits 4000

-- ---- listings, information, security, reparse points and quotas

query_dir : (v : Volume) (client handle : ℕ) (kind : DirKind) (expression : List ℕ) (restart : Bool) (room : ℕ) → Replies (try_query_dir v client handle kind expression restart room)
unfolding try_query_dir query_dir_at query_dir_by query_dir_in list_entries
query_dir v client handle kind expression restart room = search going depth 60 fits 4000

query_kind : (v : Volume) (handle : Handle) (file : ℕ) (kind : InfoKind) (room : ℕ) → Replies (query_file v handle file kind room)
unfolding query_file query_streams_by query_streams
query_kind v handle file Basic room = record { so = refl }
query_kind v handle file Standard room = record { so = refl }
query_kind v handle file Internal room = record { so = refl }
query_kind v handle file Tag room = record { so = refl }
query_kind v handle file Streams room = search going depth 60 fits 4000

query_info : (v : Volume) (client handle : ℕ) (kind : InfoKind) (room : ℕ) → Replies (try_query_info v client handle kind room)
unfolding try_query_info query_info_at query_info_by
query_info v client handle kind room = search (going, query_kind) depth 60 fits 4000

set_basic : (v : Volume) (client handle : ℕ) (asked : Basics) → Replies (try_set_basic v client handle asked)
unfolding try_set_basic set_basic_at set_basic_by set_basic_of
set_basic v client handle asked = search going depth 60 fits 4000

set_security : (v : Volume) (client handle : ℕ) (owner : Option ℕ) (dacl : DaclChange) → Replies (try_set_security v client handle owner dacl)
unfolding try_set_security set_security_at set_security_by set_security_of
set_security v client handle owner dacl = search going depth 60 fits 4000

set_reparse : (v : Volume) (client handle : ℕ) (bytes : List ℕ) → Replies (try_set_reparse v client handle bytes)
unfolding try_set_reparse set_reparse_at set_reparse_by set_buffer set_point
set_reparse v client handle bytes = search going depth 60 fits 4000

get_reparse : (v : Volume) (client handle room : ℕ) → Replies (try_get_reparse v client handle room)
unfolding try_get_reparse get_reparse_at get_reparse_by get_reparse_of get_point
get_reparse v client handle room = search going depth 60 fits 4000

delete_reparse : (v : Volume) (client handle tag : ℕ) → Replies (try_delete_reparse v client handle tag)
unfolding try_delete_reparse delete_reparse_at delete_reparse_by delete_reparse_of remove_point
delete_reparse v client handle tag = search going depth 60 fits 4000

set_quota : (v : Volume) (client sid bytes : ℕ) → Replies (try_set_quota v client sid bytes)
unfolding try_set_quota
set_quota v client sid bytes = search going depth 60 fits 4000

query_quota : (v : Volume) (sid : ℕ) → Replies (try_query_quota v sid)
unfolding try_query_quota
query_quota v sid = search going depth 60 fits 4000

-- ---- opens

open_there : (v : Volume) (asked : Asked) (link file : ℕ) → Replies (create_found v asked link file)
unfolding create_found create_there create_in_file create_stream create_on_stream open_stream open_directory open_granted overwrite_existing open_existing clashed
open_there v asked link file = search (going, stops) depth 60 fits 4000

open_missing : (v : Volume) (asked : Asked) (dir : ℕ) (name : List ℕ) → Replies (create_missing v asked dir name)
unfolding create_missing make_file make_directory
open_missing v asked dir name = search going depth 60 fits 4000

open_named : (v : Volume) (asked : Asked) (dir : ℕ) (name : List ℕ) → Replies (create_named v asked dir name)
unfolding create_named create_by_link
open_named v asked dir name = search (going, open_there, open_missing) depth 60 fits 4000

open_walks : (v : Volume) (asked : Asked) (walked : Walked) → Replies (create_walked v asked walked)
unfolding create_walked
open_walks v asked (Reached dir) = search (either, open_there, open_named)
open_walks v asked (Barred status) = ends v status
open_walks v asked (Diverted file next) = stops v file _

create : (v : Volume) (asked : Asked) → Replies (try_create v asked)
unfolding try_create create_at
create v asked = search (going, open_walks) depth 60 fits 4000

-- ---- oplocks, closes, watches, waits and cancellations

oplock : (v : Volume) (client handle : ℕ) (level : Level) (turn : ℕ) → Replies (try_oplock v client handle level turn)
unfolding try_oplock oplock_at oplock_by oplock_on
oplock v client handle level turn = search going depth 60 fits 4000

ack : (v : Volume) (client handle : ℕ) (level : Level) (turn : ℕ) → Replies (try_ack v client handle level turn)
unfolding try_ack ack_at ack_keeping
ack v client handle level turn = search going depth 60 fits 4000

close : (v : Volume) (client handle : ℕ) → Replies (try_close v client handle)
unfolding try_close close_at
close v client handle = search going depth 60 fits 4000

leave : (v : Volume) (client : ℕ) → Replies (try_leave v client)
unfolding try_leave
leave v client = record { so = refl }

pub report-untold : (v : Volume) (id room : ℕ) → tells_of_break (report v id room) ≡ false
report-untold v id room = elim (cases_Bool (nat_le (due_size v id) room)) [ inl within ↦ rw within refl | inr more ↦ rw more refl ]

notify : (v : Volume) (client handle asked : ℕ) (whole : Bool) (room : ℕ) → Replies (try_notify v client handle asked whole room)
unfolding try_notify notify_at
notify v client handle asked whole room = search (going, report-untold) depth 40 fits 4000

wait : (v : Volume) (client earlier : ℕ) → Replies (try_wait v client earlier)
unfolding try_wait
wait v client earlier = search going depth 20

cancel : (v : Volume) (client number : ℕ) → Replies (try_cancel v client number)
unfolding try_cancel
cancel v client number = search going depth 20

-- ---- any call

request-untold : (v : Volume) (turn client call : ℕ) (asked : Request) → Replies (try_request v turn client call asked)
request-untold v turn client call (request.Create path wanted share disposition options attributes key) = create v _
request-untold v turn client call (request.Close handle) = close v client handle
request-untold v turn client call (request.Read handle at count) = read v client handle at count
request-untold v turn client call (request.Write handle at bytes) = write v client handle at bytes
request-untold v turn client call (request.Flush handle) = flush v client handle
request-untold v turn client call (request.SetEnd handle length) = set_end v client handle length
request-untold v turn client call (request.Lock handle at count exclusive wait) = lock v client handle at count exclusive wait
request-untold v turn client call (request.Unlock handle at count) = unlock v client handle at count
request-untold v turn client call (request.SetSecurity handle owner dacl) = set_security v client handle owner dacl
request-untold v turn client call (request.QueryDir handle kind expression restart room) = query_dir v client handle kind expression restart room
request-untold v turn client call (request.SetDisposition handle delete) = set_disposition v client handle delete
request-untold v turn client call (request.Rename handle path replace) = rename v client handle path replace
request-untold v turn client call (request.Link handle path replace) = link v client handle path replace
request-untold v turn client call (request.Oplock handle level) = oplock v client handle level turn
request-untold v turn client call (request.Ack handle level) = ack v client handle level turn
request-untold v turn client call (request.QueryInfo handle kind room) = query_info v client handle kind room
request-untold v turn client call (request.SetBasic handle creation access write change attributes) = set_basic v client handle _
request-untold v turn client call (request.SetReparse handle bytes) = set_reparse v client handle bytes
request-untold v turn client call (request.GetReparse handle room) = get_reparse v client handle room
request-untold v turn client call (request.DeleteReparse handle tag) = delete_reparse v client handle tag
request-untold v turn client call (request.SetQuota sid bytes) = set_quota v client sid bytes
request-untold v turn client call (request.QueryQuota sid) = query_quota v sid
request-untold v turn client call (request.Notify handle asked whole room) = notify v client handle asked whole room
request-untold v turn client call (request.Cancel number) = cancel v client number

what-untold : (v : Volume) (turn client call : ℕ) (what : What) → Replies (try_what v turn client call what)
what-untold v turn client call (Ask asked) = request-untold v turn client call asked
what-untold v turn client call (Tick ticks) = record { so = refl }
what-untold v turn client call (WaitFor earlier) = wait v client earlier
what-untold v turn client call Leave = leave v client

pub try-untold : (v : Volume) (call : Call) (turn : ℕ) → Replies (try v call turn)
try-untold v call turn = either (has_left v call.client) _ _ (ends v _) (what-untold v turn call.client call.number call.what)
