-- A handle stays open in a try of a call that is no close and no leaving; and a call ends in its try that is no open and no wait
-- and names no handle that its client has open.
use Rattle.std.proofs.Common.{◌≡◌, ℕ, Bool, true, false, refl, inl, inr, Option, Some, None}
use Rattle.std.specs.Option.{option_map_or}
use Rattle.std.specs.Prelude.{is_some, if◌then◌else◌}
use Rattle.std.proofs.lemmas.Bool.{cases_Bool}
use Rattle.fsa_types.specs.declared.reply.Interim.{Interim}
use Rattle.fsa_types.specs.declared.reply.Interim.TheVariants.{Granted}
use Rattle.fsa_types.specs.declared.reply.Reply.{Reply}
use Rattle.fsa_types.specs.declared.request.Level.{Level}
use Rattle.fsa_types.specs.declared.request.Request.{Request}
use Rattle.fsa_types.specs.declared.request.Request.TheVariants as request
use Rattle.fsa_types.specs.declared.request.What.{What}
use Rattle.fsa_types.specs.declared.request.What.TheVariants.{Ask, Leave, Tick, WaitFor}
use Rattle.fsa_types.specs.declared.status.Status.{Status}
use Rattle.fsa_types.specs.declared.status.Status.TheVariants.{InvalidHandle, Success}
use Rattle.fsa_model.specs.Close.{close_at, handle_named, is_open_or_wait, try_close, try_leave}
use Rattle.fsa_model.specs.Edits.{without_lock, without_oplock}
use Rattle.fsa_model.specs.Flush.{try_flush}
use Rattle.fsa_model.specs.Grant.{ack_at, ack_keeping, oplock_at, oplock_by, oplock_on, switched, try_ack, try_oplock, with_granted, with_level_kept}
use Rattle.fsa_model.specs.Link.{try_link}
use Rattle.fsa_model.specs.Locking.{try_lock, try_unlock, unlock_at, unlock_by, unlock_range}
use Rattle.fsa_model.specs.Lookups.{handle_of}
use Rattle.fsa_model.specs.Outcome.{Outcome, Done, Stay, Hold, ends_with, refused}
use Rattle.fsa_model.specs.QueryDir.{try_query_dir}
use Rattle.fsa_model.specs.QueryInfo.{try_query_info}
use Rattle.fsa_model.specs.Quota.{try_query_quota, try_set_quota}
use Rattle.fsa_model.specs.Read.{try_read}
use Rattle.fsa_model.specs.Rename.{try_rename}
use Rattle.fsa_model.specs.ReparsePoints.{try_delete_reparse, try_get_reparse, try_set_reparse}
use Rattle.fsa_model.specs.Security.{try_set_security}
use Rattle.fsa_model.specs.SetBasic.{try_set_basic}
use Rattle.fsa_model.specs.SetDisposition.{try_set_disposition}
use Rattle.fsa_model.specs.SetEnd.{try_set_end}
use Rattle.fsa_model.specs.Settling.{HasOneOplockEach}
use Rattle.fsa_model.specs.Try.{try_request, try_what}
use Rattle.fsa_model.specs.Turn.{volume_after}
use Rattle.fsa_model.specs.Volume.{Volume}
use Rattle.fsa_model.specs.Waiting.{try_cancel, try_wait, with_cancelled}
use Rattle.fsa_model.specs.Watching.{notify_at, try_notify, watch_of, with_watch_begun, with_watch_seen}
use Rattle.fsa_model.specs.Write.{try_write}
use Rattle.fsa_model.proofs.GrantedLaws.{handles-switched}
use Rattle.fsa_model.proofs.GrantLaws.{KeepsAll-all_switched}
use Rattle.fsa_model.proofs.KeepLaws.{KeepsAll}
use Rattle.fsa_model.proofs.PendLaws.{HandlesStay, HandlesStay-same}
use Rattle.fsa_model.proofs.TryLaws.{Leaves, SameNumbers, Tries, TriesTo}
use Rattle.fsa_model.proofs.TryObeys.{has_own_laws, try_request-obeys}

-- ---- handles stay open

record Steady (v : Volume) (outcome : Outcome) : Type 0 where
  so : HandlesStay v (volume_after outcome)

steady-if : {v : Volume} (test : Bool) (one other : Outcome) → Steady v one → Steady v other → Steady v (if test then one else other)
steady-if true one other holds fails = holds
steady-if false one other holds fails = fails

steady-option : {X : Type 0} {v : Volume} (found : Option X) (some : X → Outcome) (none : Outcome) → ((x : X) → Steady v (some x)) → Steady v none → Steady v (option_map_or some found none)
steady-option None some none with_some with_none = with_none
steady-option (Some x) some none with_some with_none = with_some x

steady-refused : (v : Volume) (status : Status) → Steady v (refused v status)
steady-refused v status = record { so = HandlesStay-same refl refl }

-- what keeps what every try keeps
steady-tries : (v : Volume) (outcome : Outcome) → TriesTo Leaves v outcome → HandlesStay v (volume_after outcome)
steady-tries v (Done w reply) tries = tries.0.stay
steady-tries v (Stay w interim) tries = absurd tries
steady-tries v (Hold w blockers interim) tries = tries.0.stay

-- an oplock's request
steady-granted : (v : Volume) (id key stream : ℕ) (level : Level) (turn : ℕ) → Steady v (Stay (with_granted v id key stream level turn) (Granted level))
steady-granted v id key stream level turn = record {
  so = HandlesStay-same (handles-switched (switched v id key stream) v) (SameNumbers.handles (KeepsAll.same (KeepsAll-all_switched (switched v id key stream) v)));
}

steady-oplock : (v : Volume) (client handle : ℕ) (level : Level) (turn : ℕ) → Steady v (try_oplock v client handle level turn)
unfolding try_oplock oplock_at oplock_by oplock_on
steady-oplock v client handle level turn = search (steady-if, steady-option, steady-refused, steady-granted) depth 20

-- acknowledgements and unlocks
steady-level : (v : Volume) (id : ℕ) (level : Level) (turn : ℕ) → Steady v (Stay (with_level_kept v id level turn) (Granted level))
steady-level v id level turn = record { so = HandlesStay-same refl refl }

steady-without : (v : Volume) (id : ℕ) (reply : Reply) → Steady v (Done (without_oplock v id) reply)
steady-without v id reply = record { so = HandlesStay-same refl refl }

steady-ack : (v : Volume) (client handle : ℕ) (level : Level) (turn : ℕ) → Steady v (try_ack v client handle level turn)
unfolding try_ack ack_at ack_keeping
steady-ack v client handle level turn = search (steady-if, steady-option, steady-refused, steady-level, steady-without) depth 20

steady-unlocked : (v : Volume) (id at count : ℕ) → Steady v (ends_with (without_lock v id at count) Success)
steady-unlocked v id at count = record { so = HandlesStay-same refl refl }

steady-unlock : (v : Volume) (client handle at count : ℕ) → Steady v (try_unlock v client handle at count)
unfolding try_unlock unlock_at unlock_by unlock_range
steady-unlock v client handle at count = search (steady-option, steady-refused, steady-unlocked) depth 20

-- watches, waits and cancellations
steady-seen : (v : Volume) (id filter : ℕ) (whole : Bool) (reply : Reply) → Steady v (Done (with_watch_seen (with_watch_begun v id filter whole) id) reply)
steady-seen v id filter whole reply = elim (cases_Bool (is_some (watch_of v id))) [
  | inl there ↦ rw there (record { so = HandlesStay-same refl refl })
  | inr first ↦ rw first (record { so = HandlesStay-same refl refl })
]

steady-begun : (v : Volume) (id filter : ℕ) (whole : Bool) (interim : Interim) → Steady v (Stay (with_watch_begun v id filter whole) interim)
steady-begun v id filter whole interim = elim (cases_Bool (is_some (watch_of v id))) [
  | inl there ↦ rw there (record { so = HandlesStay-same refl refl })
  | inr first ↦ rw first (record { so = HandlesStay-same refl refl })
]

steady-notify : (v : Volume) (client handle filter : ℕ) (whole : Bool) (room : ℕ) → Steady v (try_notify v client handle filter whole room)
unfolding try_notify notify_at
steady-notify v client handle filter whole room = search (steady-if, steady-option, steady-refused, steady-seen, steady-begun) depth 40 fits 4000

steady-done : (v : Volume) (reply : Reply) → Steady v (Done v reply)
steady-done v reply = record { so = HandlesStay-same refl refl }

steady-stay : (v : Volume) (interim : Interim) → Steady v (Stay v interim)
steady-stay v interim = record { so = HandlesStay-same refl refl }

steady-wait : (v : Volume) (client earlier : ℕ) → Steady v (try_wait v client earlier)
unfolding try_wait
steady-wait v client earlier = search (steady-if, steady-done, steady-stay) depth 20

steady-cancelled : (v : Volume) (client number turn : ℕ) → Steady v (ends_with (with_cancelled v client number turn) Success)
steady-cancelled v client number turn = record { so = HandlesStay-same refl refl }

steady-cancel : (v : Volume) (client number : ℕ) → Steady v (try_cancel v client number)
unfolding try_cancel
steady-cancel v client number = search (steady-option, steady-refused, steady-cancelled) depth 20

-- a close and a leaving
abbrev pub closes_handles : What → Bool
closes_handles (Ask (request.Close handle)) = true
closes_handles Leave = true
closes_handles _ = false

pub what-stays_open : (v : Volume) (turn client number : ℕ) (what : What) → HasOneOplockEach v → closes_handles what ≡ false → HandlesStay v (volume_after (try_what v turn client number what))
what-stays_open v turn client number (Ask asked) one other = elim (cases_Bool (has_own_laws asked)) [
  | inr obeys ↦ steady-tries v (try_request v turn client number asked) (Tries.so ((try_request-obeys v turn client number asked obeys).tries one))
  | inl own ↦ Steady.so (of_own asked own other)
]
  where
    of_own : (asked : Request) → has_own_laws asked ≡ true → closes_handles (Ask asked) ≡ false → Steady v (try_request v turn client number asked)
    of_own (request.Oplock handle level) own other = steady-oplock v client handle level turn
    of_own (request.Ack handle level) own other = steady-ack v client handle level turn
    of_own (request.Unlock handle at count) own other = steady-unlock v client handle at count
    of_own (request.Notify handle filter whole room) own other = steady-notify v client handle filter whole room
    of_own (request.Cancel cancelled) own other = steady-cancel v client cancelled
    of_own (request.Close handle) own other = absurd (let impossible : true ≡ false = other in cc)
    of_own _ own other = absurd (let impossible : false ≡ true = own in cc)
what-stays_open v turn client number (Tick ticks) one other = HandlesStay-same refl refl
what-stays_open v turn client number (WaitFor earlier) one other = Steady.so (steady-wait v client earlier)
what-stays_open v turn client number Leave one other = absurd (let impossible : true ≡ false = other in cc)

-- ---- what ends at once

-- what is asked names a handle that the client has open
abbrev pub names_open_one : Volume → ℕ → What → Bool
names_open_one v client (Ask asked) = option_map_or (λ number. is_some (handle_of v client number)) (handle_named asked) false
names_open_one v client _ = false

abbrev pub EndsAtOnce : Outcome → Type 0
EndsAtOnce (Done w reply) = Unit {0}
EndsAtOnce (Stay w interim) = ⊥
EndsAtOnce (Hold w blockers interim) = ⊥

record Ends (outcome : Outcome) : Type 0 where
  so : EndsAtOnce outcome

ends-missing : (v : Volume) (found : Option ℕ) (some : ℕ → Outcome) → is_some found ≡ false → Ends (option_map_or some found (refused v InvalidHandle))
ends-missing v None some missing = record { so = tt }
ends-missing v (Some id) some missing = cc

ends-if : (test : Bool) (one other : Outcome) → Ends one → Ends other → Ends (if test then one else other)
ends-if true one other holds fails = holds
ends-if false one other holds fails = fails

ends-option : {X : Type 0} (found : Option X) (some : X → Outcome) (none : Outcome) → ((x : X) → Ends (some x)) → Ends none → Ends (option_map_or some found none)
ends-option None some none with_some with_none = with_none
ends-option (Some x) some none with_some with_none = with_some x

ends-done : (w : Volume) (reply : Reply) → Ends (Done w reply)
ends-done w reply = record { so = tt }

ends-close : (v : Volume) (client handle : ℕ) → Ends (try_close v client handle)
unfolding try_close close_at
ends-close v client handle = search (ends-option, ends-done) depth 20

ends-cancel : (v : Volume) (client number : ℕ) → Ends (try_cancel v client number)
unfolding try_cancel
ends-cancel v client number = search (ends-option, ends-done) depth 20

ends-leave : (v : Volume) (client : ℕ) → Ends (try_leave v client)
unfolding try_leave
ends-leave v client = record { so = tt }

ends-set_quota : (v : Volume) (client sid bytes : ℕ) → Ends (try_set_quota v client sid bytes)
unfolding try_set_quota
ends-set_quota v client sid bytes = search (ends-if, ends-done) depth 20

ends-query_quota : (v : Volume) (sid : ℕ) → Ends (try_query_quota v sid)
unfolding try_query_quota
ends-query_quota v sid = record { so = tt }

ends-request : (v : Volume) (turn client number : ℕ) (asked : Request) → is_open_or_wait (Ask asked) ≡ false → names_open_one v client (Ask asked) ≡ false → Ends (try_request v turn client number asked)
unfolding try_read try_write try_flush try_set_end try_lock try_unlock try_query_dir try_set_disposition try_rename try_link try_oplock try_ack try_set_security try_notify try_query_info try_set_basic try_set_reparse try_get_reparse try_delete_reparse
ends-request v turn client number (request.Create path wanted share disposition options attributes key) other none = cc
ends-request v turn client number (request.Close handle) other none = ends-close v client handle
ends-request v turn client number (request.Read handle at count) other none = ends-missing v (handle_of v client handle) _ none
ends-request v turn client number (request.Write handle at bytes) other none = ends-missing v (handle_of v client handle) _ none
ends-request v turn client number (request.Flush handle) other none = ends-missing v (handle_of v client handle) _ none
ends-request v turn client number (request.SetEnd handle length) other none = ends-missing v (handle_of v client handle) _ none
ends-request v turn client number (request.Lock handle at count exclusive wait) other none = ends-missing v (handle_of v client handle) _ none
ends-request v turn client number (request.Unlock handle at count) other none = ends-missing v (handle_of v client handle) _ none
ends-request v turn client number (request.QueryDir handle kind expression restart room) other none = ends-missing v (handle_of v client handle) _ none
ends-request v turn client number (request.SetDisposition handle delete) other none = ends-missing v (handle_of v client handle) _ none
ends-request v turn client number (request.Rename handle path replace) other none = ends-missing v (handle_of v client handle) _ none
ends-request v turn client number (request.Link handle path replace) other none = ends-missing v (handle_of v client handle) _ none
ends-request v turn client number (request.Oplock handle level) other none = ends-missing v (handle_of v client handle) _ none
ends-request v turn client number (request.Ack handle level) other none = ends-missing v (handle_of v client handle) _ none
ends-request v turn client number (request.SetSecurity handle owner dacl) other none = ends-missing v (handle_of v client handle) _ none
ends-request v turn client number (request.Notify handle filter whole room) other none = ends-missing v (handle_of v client handle) _ none
ends-request v turn client number (request.Cancel cancelled) other none = ends-cancel v client cancelled
ends-request v turn client number (request.QueryInfo handle kind room) other none = ends-missing v (handle_of v client handle) _ none
ends-request v turn client number (request.SetBasic handle creation access write change attributes) other none = ends-missing v (handle_of v client handle) _ none
ends-request v turn client number (request.SetReparse handle bytes) other none = ends-missing v (handle_of v client handle) _ none
ends-request v turn client number (request.GetReparse handle room) other none = ends-missing v (handle_of v client handle) _ none
ends-request v turn client number (request.DeleteReparse handle tag) other none = ends-missing v (handle_of v client handle) _ none
ends-request v turn client number (request.SetQuota sid limit) other none = ends-set_quota v client sid limit
ends-request v turn client number (request.QueryQuota sid) other none = ends-query_quota v sid

pub what-ends_at_once : (v : Volume) (turn client number : ℕ) (what : What) → is_open_or_wait what ≡ false → names_open_one v client what ≡ false → EndsAtOnce (try_what v turn client number what)
what-ends_at_once v turn client number (Ask asked) other none = Ends.so (ends-request v turn client number asked other none)
what-ends_at_once v turn client number (Tick ticks) other none = tt
what-ends_at_once v turn client number (WaitFor earlier) other none = cc
what-ends_at_once v turn client number Leave other none = Ends.so (ends-leave v client)

-- a cancellation, a close and a leaving
abbrev pub may_call_off : What → Bool
may_call_off (Ask (request.Cancel number)) = true
may_call_off (Ask (request.Close handle)) = true
may_call_off Leave = true
may_call_off _ = false

pub calling_off-ends : (v : Volume) (turn client number : ℕ) (what : What) → may_call_off what ≡ true → EndsAtOnce (try_what v turn client number what)
calling_off-ends v turn client number (Ask (request.Cancel cancelled)) may = Ends.so (ends-cancel v client cancelled)
calling_off-ends v turn client number (Ask (request.Close handle)) may = Ends.so (ends-close v client handle)
calling_off-ends v turn client number Leave may = Ends.so (ends-leave v client)
calling_off-ends v turn client number _ may = cc
