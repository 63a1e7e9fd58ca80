-- That an open leaves just the handle that was asked for, and a lock just the lock, and that neither leaves one where it doesn't
-- succeed, nor does any call while it is pending. After [MS-FSA] 'Server Requests an Open of a File' and 'Server Requests a
-- Byte-Range Lock'.
use Rattle.std.specs.Prelude.{◌≡◌, ◌+◌, ◌==◌, ℕ, Bool, true, false, List, [], ◌∷◌, ◌++◌, length, All, Option, Some, None, unwrap_or, if◌then◌else◌}
use Rattle.fsa_types.specs.Access.{has_any, map_generic}
use Rattle.fsa_types.specs.Masks.{DELETE_ON_CLOSE, DIRECTORY_FILE}
use Rattle.fsa_types.specs.Paths.{components}
use Rattle.fsa_types.specs.declared.oplock.HandleSet.{HandleSet}
use Rattle.fsa_types.specs.declared.oplock.HandleSet.TheVariants as set
use Rattle.fsa_types.specs.declared.request.Call.{Call}
use Rattle.fsa_types.specs.declared.request.Disposition.{Disposition}
use Rattle.fsa_types.specs.declared.request.Request.TheVariants as request
use Rattle.fsa_types.specs.declared.request.What.TheVariants.{Ask}
use Rattle.fsa_types.specs.declared.status.Status.{Status}
use Rattle.fsa_types.specs.declared.status.Status.TheVariants.{Success, OplockBreakInProgress}
use Rattle.fsa_model.specs.Coherence.{set_of_path}
use Rattle.fsa_model.specs.History.{HistoryEntry}
use Rattle.fsa_model.specs.Lookups.{child_of, handle_of, is_on}
use Rattle.fsa_model.specs.Outcome.{Outcome, Done, Stay, Hold}
use Rattle.fsa_model.specs.Setup.{Setup}
use Rattle.fsa_model.specs.Tries.{Tried, tries_of}
use Rattle.fsa_model.specs.Try.{try}
use Rattle.fsa_model.specs.Volume.{Handle, Volume}
use Rattle.fsa_model.specs.Walk.{Walked, Reached, last_name, walk}
use Rattle.history_laws.specs.WaitEnds.{is_success}

-- the statuses with which an open has succeeded
abbrev pub is_opened : Status → Bool
is_opened Success = true
is_opened OplockBreakInProgress = true
is_opened _ = false

-- the link that the path names: that of the root is 0; where the directory that it leads to has no link of its last name, the next
-- number, since one is made
abbrev pub link_walked : Volume → List (List ℕ) → Walked → Option ℕ
link_walked v names (Reached dir) = Some (if length names == 0 then 0 else unwrap_or (child_of v dir (last_name names)) (v.last_link + 1))
link_walked v names _ = None

abbrev pub link_of_path : Volume → List ℕ → Option ℕ
link_of_path v path = link_walked v (components path) (walk v (components path))

-- the stream that the path names, where it is there, and none where it names a directory that is; otherwise that which is made
abbrev pub stream_named : Option HandleSet → Option ℕ → Option ℕ
stream_named (Some (set.Stream stream)) made = Some stream
stream_named (Some _) made = None
stream_named None made = made

-- one handle more, with the next number: the client's, under the number of its call, with the rights that were asked for, generic
-- ones as those that they stand for, the sharing, the key, and the option to delete on close; it enumerates nothing yet. It is by
-- the link that the path names, and on what the path named, where that was there; otherwise on the stream made last, or on none,
-- where a directory was asked for
pub record OpensOne (v : Volume) (call : Call) (path : List ℕ) (wanted shared options key_asked : ℕ) (next : Volume) : Type 0 where
  pub handle : Handle
  pub added : next.handles ≡ v.handles ++ (v.last_handle + 1, handle) ∷ []
  pub client : handle.client ≡ call.client
  pub number : handle.number ≡ call.number
  pub access : handle.access ≡ map_generic wanted
  pub share : handle.share ≡ shared
  pub key : handle.key ≡ key_asked
  pub delete_on_close : handle.delete_on_close ≡ has_any options DELETE_ON_CLOSE
  pub enumeration : handle.enumeration ≡ None
  pub link : link_of_path v path ≡ Some handle.link
  pub stream : handle.stream ≡ stream_named (set_of_path v path) (if has_any options DIRECTORY_FILE then None else Some next.last_stream)
  pub on : (named : HandleSet) → set_of_path v path ≡ Some named → is_on v named handle ≡ true

-- after a try of an open with these words
pub record OpensAsAsked (v : Volume) (call : Call) (path : List ℕ) (wanted share options key : ℕ) (status : Status) (next : Volume) : Type 0 where
  pub opens : is_opened status ≡ true → OpensOne v call path wanted share options key next
  pub refuses : is_opened status ≡ false → next.handles ≡ v.handles
  pub locks : next.locks ≡ v.locks

-- one lock more, with the next number: by the client's handle of this number, on just the range, and of the kind that was asked for
pub record LocksOne (v : Volume) (client number at count : ℕ) (exclusive : Bool) (next : Volume) : Type 0 where
  pub handle : ℕ
  pub named : handle_of v client number ≡ Some handle
  pub added : next.locks ≡ v.locks ++ (v.last_lock + 1, record { handle = handle; at = at; count = count; exclusive = exclusive }) ∷ []

-- after a try of such a lock
pub record LocksAsAsked (v : Volume) (client number at count : ℕ) (exclusive : Bool) (status : Status) (next : Volume) : Type 0 where
  pub locks : is_success status ≡ true → LocksOne v client number at count exclusive next
  pub refuses : is_success status ≡ false → next.locks ≡ v.locks
  pub handles : next.handles ≡ v.handles

-- neither a handle nor a lock has come or gone
abbrev pub LeavesBoth : Volume → Volume → Type 0
LeavesBoth v next = (next.handles ≡ v.handles) × (next.locks ≡ v.locks)

-- a try of the call that came to this: where it is an open or a lock and has ended, it leaves what was asked for; while it is
-- pending, neither a handle nor a lock more
abbrev pub LeavesAsAsked : Volume → Call → Outcome → Type 0
LeavesAsAsked v call (Done next reply) =
    ((path : List ℕ) (wanted share : ℕ) (disposition : Disposition) (options attributes key : ℕ) → call.what ≡ Ask (request.Create path wanted share disposition options attributes key)
    → OpensAsAsked v call path wanted share options key reply.status next)
    × ((number at count : ℕ) (exclusive wait : Bool) → call.what ≡ Ask (request.Lock number at count exclusive wait)
    → LocksAsAsked v call.client number at count exclusive reply.status next)
LeavesAsAsked v call (Stay next interim) = LeavesBoth v next
LeavesAsAsked v call (Hold next blockers interim) = LeavesBoth v next

-- so it is in each try of a history
abbrev pub OpensAndLocksAsAsked : Setup → List HistoryEntry → Type 0
OpensAndLocksAsAsked setup history = All (λ (t : Tried). LeavesAsAsked t.before t.call (try t.before t.call t.turn)) (tries_of setup history)
