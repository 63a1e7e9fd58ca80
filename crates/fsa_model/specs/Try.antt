-- One try of a call.
use Rattle.std.specs.Prelude.{ℕ, if◌then◌else◌}
use Rattle.fsa_types.specs.declared.status.Status.TheVariants.{Success, InvalidHandle}
use Rattle.fsa_types.specs.declared.request.Request.{Request}
use Rattle.fsa_types.specs.declared.request.Request.TheVariants.{Create, Close, Read, Write, Flush, SetEnd, Lock, Unlock, QueryDir, QueryInfo, SetBasic, SetDisposition, Rename, Link, Oplock, Ack, SetSecurity, SetReparse, GetReparse, DeleteReparse, SetQuota, QueryQuota, Cancel, Notify}
use Rattle.fsa_types.specs.declared.request.What.{What}
use Rattle.fsa_types.specs.declared.request.What.TheVariants.{Ask, Tick, WaitFor, Leave}
use Rattle.fsa_types.specs.declared.request.Call.{Call}
use Rattle.fsa_model.specs.Close.{try_close, try_leave}
use Rattle.fsa_model.specs.Edits.{with_ticks}
use Rattle.fsa_model.specs.Flush.{try_flush}
use Rattle.fsa_model.specs.Grant.{try_ack, try_oplock}
use Rattle.fsa_model.specs.Link.{try_link}
use Rattle.fsa_model.specs.Locking.{try_lock, try_unlock}
use Rattle.fsa_model.specs.Lookups.{has_left}
use Rattle.fsa_model.specs.Open.{try_create}
use Rattle.fsa_model.specs.Outcome.{Outcome, ends_with, refused}
use Rattle.fsa_model.specs.QueryDir.{try_query_dir}
use Rattle.fsa_model.specs.QueryInfo.{try_query_info}
use Rattle.fsa_model.specs.Quota.{try_query_quota, try_set_quota}
use Rattle.fsa_model.specs.Read.{try_read}
use Rattle.fsa_model.specs.ReparsePoints.{try_delete_reparse, try_get_reparse, try_set_reparse}
use Rattle.fsa_model.specs.Rename.{try_rename}
use Rattle.fsa_model.specs.Security.{try_set_security}
use Rattle.fsa_model.specs.SetBasic.{try_set_basic}
use Rattle.fsa_model.specs.SetDisposition.{try_set_disposition}
use Rattle.fsa_model.specs.SetEnd.{try_set_end}
use Rattle.fsa_model.specs.Volume.{Volume}
use Rattle.fsa_model.specs.Watching.{try_notify}
use Rattle.fsa_model.specs.Waiting.{try_cancel, try_wait}
use Rattle.fsa_model.specs.Write.{try_write}

-- one try of a request, from its first check, by the client's call of this number, which is or will be
-- pending under this turn
abbrev pub try_request : Volume → ℕ → ℕ → ℕ → Request → Outcome
try_request v turn client number (Create path wanted share disposition options attributes key) =
    try_create v (record {
      client = client;
      number = number;
      path = path;
      wanted = wanted;
      share = share;
      disposition = disposition;
      options = options;
      attributes = attributes;
      key = key;
    })
try_request v turn client number (Close handle) = try_close v client handle
try_request v turn client number (Read handle at count) = try_read v client handle at count
try_request v turn client number (Write handle at bytes) = try_write v client handle at bytes
try_request v turn client number (Flush handle) = try_flush v client handle
try_request v turn client number (SetEnd handle length) = try_set_end v client handle length
try_request v turn client number (Lock handle at count exclusive wait) = try_lock v client handle at count exclusive wait
try_request v turn client number (Unlock handle at count) = try_unlock v client handle at count
try_request v turn client number (QueryDir handle kind expression restart room) = try_query_dir v client handle kind expression restart room
try_request v turn client number (SetDisposition handle delete) = try_set_disposition v client handle delete
try_request v turn client number (Rename handle path replace) = try_rename v client handle path replace
try_request v turn client number (Link handle path replace) = try_link v client handle path replace
try_request v turn client number (Oplock handle level) = try_oplock v client handle level turn
try_request v turn client number (Ack handle level) = try_ack v client handle level turn
try_request v turn client number (SetSecurity handle owner dacl) = try_set_security v client handle owner dacl
try_request v turn client number (Notify handle filter tree room) = try_notify v client handle filter tree room
try_request v turn client number (Cancel cancelled) = try_cancel v client cancelled
try_request v turn client number (QueryInfo handle kind room) = try_query_info v client handle kind room
try_request v turn client number (SetBasic handle creation access write change attributes) =
    try_set_basic v client handle (record { creation = creation; access = access; write = write; change = change; attributes = attributes })
try_request v turn client number (SetReparse handle bytes) = try_set_reparse v client handle bytes
try_request v turn client number (GetReparse handle room) = try_get_reparse v client handle room
try_request v turn client number (DeleteReparse handle tag) = try_delete_reparse v client handle tag
try_request v turn client number (SetQuota sid limit) = try_set_quota v client sid limit
try_request v turn client number (QueryQuota sid) = try_query_quota v sid

abbrev pub try_what : Volume → ℕ → ℕ → ℕ → What → Outcome
try_what v turn client number (Ask request) = try_request v turn client number request
try_what v turn client number (Tick ticks) = ends_with (with_ticks v ticks) Success
try_what v turn client number (WaitFor earlier) = try_wait v client earlier
try_what v turn client number Leave = try_leave v client

-- one try of a call in this turn, or under it; a client that has left has no handle
abbrev pub try : Volume → Call → ℕ → Outcome
try v call turn = if has_left v call.client then refused v InvalidHandle else try_what v turn call.client call.number call.what
