-- Why a call that isn't held is pending after a try of it: a request of an oplock could be granted, and has it; an
-- acknowledgement has kept some of its level; a Notify has passed its checks, and has a watch to which nothing is due; and a wait
-- is for a call that is pending. Calls of all other kinds that no break or lock can hold have ended.
use Rattle.std.proofs.Common.{◌≡◌, ℕ, Bool, true, false, refl, ap, ◌∙◌, eq-eqb, inl, inr, Option, Some, None}
use Rattle.std.specs.List.{list_any}
use Rattle.std.specs.Prelude.{◌&&◌, not, is_some}
use Rattle.std.proofs.lemmas.Bool.{cases_Bool, eqb-true, not-false}
use Rattle.fsa_types.specs.Access.{has_any}
use Rattle.fsa_types.specs.Masks.{READ_DATA}
use Rattle.fsa_types.specs.OplockGrants.{as_granted}
use Rattle.fsa_types.specs.Oplocks.{has_read, in_both}
use Rattle.fsa_types.specs.Rows.{row_of}
use Rattle.fsa_types.specs.declared.reply.Interim.TheVariants as interim
use Rattle.fsa_types.specs.declared.request.Call.{Call}
use Rattle.fsa_types.specs.declared.request.Level.{Level}
use Rattle.fsa_types.specs.declared.request.Request.{Request}
use Rattle.fsa_types.specs.declared.request.Request.TheVariants as request
use Rattle.fsa_types.specs.declared.request.What.{What}
use Rattle.fsa_types.specs.declared.request.What.TheVariants.{Ask, Tick, WaitFor, Leave}
use Rattle.fsa_model.specs.Close.{try_close, try_leave}
use Rattle.fsa_model.specs.Coherence.{key_of}
use Rattle.fsa_model.specs.Grant.{ack_at, ack_keeping, is_not_granted, is_oplock_on, is_of_key, oplock_at, oplock_by, oplock_of, oplock_on, switched, target_of, try_ack, try_oplock, with_all_switched, with_granted, with_level_kept}
use Rattle.fsa_model.specs.Locking.{try_unlock, unlock_at, unlock_by, unlock_range}
use Rattle.fsa_model.specs.Lookups.{handle_of, is_link_marked}
use Rattle.fsa_model.specs.Outcome.{Outcome, Done, Stay, Hold}
use Rattle.fsa_model.specs.Reports.{PassesChecks}
use Rattle.fsa_model.specs.Settling.{is_of}
use Rattle.fsa_model.specs.Try.{try_request, try_what}
use Rattle.fsa_model.specs.Volume.{Handle, Oplock, Volume, Watch}
use Rattle.fsa_model.specs.Waiting.{has_ended, is_pending, try_cancel, try_wait}
use Rattle.fsa_model.specs.Watching.{is_notify_filter, is_something_due, notify_at, try_notify, watch_of, with_watch_begun}
use Rattle.fsa_model.proofs.CoherenceGrant.{held-all}
use Rattle.fsa_model.proofs.GrantedLaws.{find-filtered}
use Rattle.fsa_model.proofs.ObeyLaws.{Obeys, SparesTo, may_be_held}
use Rattle.fsa_model.proofs.ReportLaws.{find-push}
use Rattle.fsa_model.proofs.RowLaws.{find-any, option_cases, option_map-none}
use Rattle.fsa_model.proofs.TryObeys.{has_own_laws, try_request-obeys}
use Rattle.fsa_model.proofs.WaitLaws.{find-passes}
use Rattle.history_laws.specs.WhyPending.{PendsForCause, Granted, Kept, Watches, Waits}
use Rattle.history_laws.proofs.CausesOfCalls.{found-answered, found-more}
use Rattle.history_laws.proofs.OpensStay.{EndsAtOnce, calling_off-ends}
use Rattle.history_laws.proofs.Pends.{Pends, pends-done, pends-if, pends-option}

-- ---- a request of an oplock

-- once those of its key on its stream have been switched the handle has none, since its own is one of them
none-switched : (v : Volume) (id : ℕ) (row : Handle) (stream : ℕ) → row_of v.handles id ≡ Some row → row.stream ≡ Some stream
    → oplock_of (with_all_switched v id row.key stream) id ≡ None
none-switched v id row stream living on_it =
    option_map-none (λ (o : Oplock). (o.level, o.target)) (oplock_of (with_all_switched v id row.key stream) id)
    (held-all (switched v id row.key stream) v id ∙ elim (option_cases (oplock_of v id)) [
      | inl none ↦ rw none (elim (cases_Bool (list_any (is_of id) (switched v id row.key stream))) [ inl more ↦ rw more refl | inr no_more ↦ rw no_more refl ])
      | inr was ↦ rw (its was.0 was.1) refl
    ])
  where
    its : (was : Oplock) → oplock_of v id ≡ Some was → list_any (is_of id) (switched v id row.key stream) ≡ true
    its was found =
        (let of_it : was.handle ≡ id = eqb-true was.handle id (find-passes (is_of id) v.oplocks was found) in
        let goes : (is_oplock_on v stream was && is_of_key id row.key was) ≡ true = rw (of_it, living, on_it, eq-eqb stream stream refl, eq-eqb id id refl) refl in
        find-any (is_of id) (is_of id) (switched v id row.key stream) was (find-filtered (is_of id) (λ o. is_oplock_on v stream o && is_of_key id row.key o) v.oplocks was found goes)
        (find-passes (is_of id) v.oplocks was found))

-- so it has what it asks for
granted : (v : Volume) (id : ℕ) (row : Handle) (stream : ℕ) (level : Level) (turn : ℕ) → row_of v.handles id ≡ Some row → row.stream ≡ Some stream
    → oplock_of (with_granted v id row.key stream level turn) id ≡ Some (as_granted id (key_of v id) level turn)
granted v id row stream level turn living on_it =
    rw living (found-more (with_all_switched v id row.key stream).oplocks (as_granted id row.key level turn) id (none-switched v id row stream living on_it) (eq-eqb id id refl))

grants : {v : Volume} {call : Call} {turn number : ℕ} {level : Level} (id : ℕ) (row : Handle) (stream : ℕ) → call.what ≡ Ask (request.Oplock number level)
    → handle_of v call.client number ≡ Some id → row_of v.handles id ≡ Some row → row.stream ≡ Some stream → is_not_granted v id row.key stream level ≡ false
    → Pends v call turn (Stay (with_granted v id row.key stream level turn) (interim.Granted level))
grants {v} {turn} {number} {level} id row stream is named living on_it free =
    record { so = Granted number id stream level is named (rw living on_it) (rw living free) (rw living refl) (granted v id row stream level turn living on_it) }

pub oplock-pends : (v : Volume) (call : Call) (turn number : ℕ) (level : Level) → call.what ≡ Ask (request.Oplock number level)
    → PendsForCause v call turn (try_oplock v call.client number level turn)
unfolding try_oplock oplock_at oplock_by oplock_on
oplock-pends v call turn number level is = Pends.so (search (pends-if, pends-option, pends-done, grants, is) depth 60 fits 4000)

-- ---- an acknowledgement

-- its handle has what is kept
kept : (v : Volume) (id : ℕ) (level : Level) (turn : ℕ) (was : Oplock) → oplock_of v id ≡ Some was
    → oplock_of (with_level_kept v id level turn) id ≡ Some (record was { level = level; target = None; number = 0; call = Some turn })
kept v id level turn was found = found-answered v.oplocks id level turn id ∙ rw (found, find-passes (is_of id) v.oplocks was found) refl

keeps : {v : Volume} {call : Call} {turn number : ℕ} {level : Level} (id : ℕ) (target : Level) → call.what ≡ Ask (request.Ack number level)
    → handle_of v call.client number ≡ Some id → target_of v id ≡ Some target → has_read (in_both level target) ≡ true
    → Pends v call turn (Stay (with_level_kept v id (in_both level target) turn) (interim.Granted (in_both level target)))
keeps {v} {turn} {number} {level} id target is named breaks reads = elim (option_cases (oplock_of v id)) [
  | inl none ↦ (let impossible : None ≡ Some target = rw none at breaks in cc)
  | inr was ↦ record { so = Kept number id level target was.0 is named was.1 (rw was.1 at breaks) reads refl (kept v id (in_both level target) turn was.0 was.1) }
]

pub ack-pends : (v : Volume) (call : Call) (turn number : ℕ) (level : Level) → call.what ≡ Ask (request.Ack number level)
    → PendsForCause v call turn (try_ack v call.client number level turn)
unfolding try_ack ack_at ack_keeping
ack-pends v call turn number level is = Pends.so (search (pends-if, pends-option, pends-done, keeps, is) depth 60 fits 4000)

-- ---- a Notify

-- its handle has a watch
watched : (v : Volume) (id filter : ℕ) (whole : Bool) → is_some (watch_of (with_watch_begun v id filter whole) id) ≡ true
watched v id filter whole = elim (option_cases (watch_of v id)) [
  | inl none ↦ rw none (ap (λ (found : Option Watch). is_some found) (find-push id v.watches _ none (eq-eqb id id refl)))
  | inr watch ↦ rw (watch.1, watch.1) refl
]

watches : {v : Volume} {call : Call} {turn number filter : ℕ} {whole : Bool} {room : ℕ} (id : ℕ) (row : Handle) → call.what ≡ Ask (request.Notify number filter whole room)
    → handle_of v call.client number ≡ Some id → row_of v.handles id ≡ Some row → is_some row.stream ≡ false → not (has_any row.access READ_DATA) ≡ false → not (is_notify_filter filter) ≡ false
    → is_link_marked v row.link ≡ false → is_something_due (with_watch_begun v id filter whole) id ≡ false → Pends v call turn (Stay (with_watch_begun v id filter whole) interim.Watch)
watches {v} {number} {filter} {whole} {room} id row is named living directory reads asks unmarked none =
    record { so = Watches number filter room id whole row is named living passes refl (watched v id filter whole) none }
  where
    passes : PassesChecks v row filter
    passes = record { directory = directory; access = not-false (has_any row.access READ_DATA) reads; asked = not-false (is_notify_filter filter) asks; unmarked = unmarked }

pub notify-pends : (v : Volume) (call : Call) (turn number filter : ℕ) (whole : Bool) (room : ℕ) → call.what ≡ Ask (request.Notify number filter whole room)
    → PendsForCause v call turn (try_notify v call.client number filter whole room)
unfolding try_notify notify_at
notify-pends v call turn number filter whole room is = Pends.so (search (pends-if, pends-option, pends-done, watches, is) depth 60 fits 4000)

-- ---- a wait

waits : {v : Volume} {call : Call} {turn number : ℕ} → call.what ≡ WaitFor number → is_pending v call.client number ≡ true → has_ended v call.client number ≡ false
    → Pends v call turn (Stay v interim.Waiting)
waits {number} is pends goes_on = record { so = Waits number is pends goes_on refl }

pub wait-pends : (v : Volume) (call : Call) (turn number : ℕ) → call.what ≡ WaitFor number → PendsForCause v call turn (try_wait v call.client number)
unfolding try_wait
wait-pends v call turn number is = Pends.so (search (pends-if, pends-done, waits, is) depth 40)

-- ---- calls of all other kinds

-- a call of such a kind can be pending after a try
abbrev pub stays : What → Bool
stays (Ask (request.Oplock number level)) = true
stays (Ask (request.Ack number level)) = true
stays (Ask (request.Notify number filter whole room)) = true
stays (WaitFor number) = true
stays what = may_be_held what

-- what ends at once isn't pending
at_once : (v : Volume) (call : Call) (turn : ℕ) (outcome : Outcome) → EndsAtOnce outcome → PendsForCause v call turn outcome
at_once v call turn (Done next reply) ends = tt
at_once v call turn (Stay next shown) ends = absurd ends
at_once v call turn (Hold next blockers shown) ends = absurd ends

-- nor is what is never held, and never stays without a blocker
never_held : (v : Volume) (call : Call) (turn : ℕ) (what : What) (outcome : Outcome) → may_be_held what ≡ false → SparesTo what v outcome
    → PendsForCause v call turn outcome
never_held v call turn what (Done next reply) never spares = tt
never_held v call turn what (Stay next shown) never spares = absurd spares
never_held v call turn what (Hold next blockers shown) never spares = cc

-- breaks and locks hold none of the other kinds
ends-unheld : (request : Request) → stays (Ask request) ≡ false → may_be_held (Ask request) ≡ false
ends-unheld (request.Oplock number level) ends = refl
ends-unheld (request.Ack number level) ends = refl
ends-unheld (request.Notify number filter whole room) ends = refl
ends-unheld _ ends = ends

-- what may end what others wait for ends at once
unlock-pends : (v : Volume) (call : Call) (turn number at count : ℕ) → PendsForCause v call turn (try_unlock v call.client number at count)
unfolding try_unlock unlock_at unlock_by unlock_range
unlock-pends v call turn number at count = Pends.so (search (pends-option, pends-done) depth 40)

own-ends : (v : Volume) (call : Call) (turn : ℕ) (request : Request) → has_own_laws request ≡ true → stays (Ask request) ≡ false
    → PendsForCause v call turn (try_request v turn call.client call.number request)
own-ends v call turn (request.Close number) own ends = at_once v call turn (try_close v call.client number) (calling_off-ends v turn call.client call.number (Ask (request.Close number)) refl)
own-ends v call turn (request.Cancel number) own ends = at_once v call turn (try_cancel v call.client number) (calling_off-ends v turn call.client call.number (Ask (request.Cancel number)) refl)
own-ends v call turn (request.Unlock number at count) own ends = unlock-pends v call turn number at count
own-ends v call turn _ own ends = cc

pub ends-pends : (v : Volume) (call : Call) (turn : ℕ) (what : What) → stays what ≡ false → PendsForCause v call turn (try_what v turn call.client call.number what)
ends-pends v call turn (Ask request) ends = elim (cases_Bool (has_own_laws request)) [
  | inl own ↦ own-ends v call turn request own ends
  | inr other ↦ never_held v call turn (Ask request) _ (ends-unheld request ends) (Obeys.spares (try_request-obeys v turn call.client call.number request other))
]
ends-pends v call turn (Tick ticks) ends = tt
ends-pends v call turn (WaitFor number) ends = cc
ends-pends v call turn Leave ends = at_once v call turn (try_leave v call.client) (calling_off-ends v turn call.client call.number Leave refl)
