-- No break and no lock ends by a try of a call that is no acknowledgement, unlock, close or leaving.
use Rattle.std.proofs.Common.{◌≡◌, ℕ, Bool, true, false, not, refl, inl, inr, length, Option, Some, None}
use Rattle.std.specs.Prelude.{◌==◌, ◌&&◌, is_some}
use Rattle.std.specs.List.{filter}
use Rattle.std.specs.Option.{option_map_or}
use Rattle.std.proofs.lemmas.Bool.{cases_Bool}
use Rattle.fsa_types.specs.Access.{has_any}
use Rattle.fsa_types.specs.Masks.{READ_DATA}
use Rattle.fsa_types.specs.Rows.{row_of}
use Rattle.fsa_types.specs.declared.reply.Blocker.{Blocker}
use Rattle.fsa_types.specs.declared.reply.Blocker.TheVariants as blocker
use Rattle.fsa_types.specs.declared.request.Call.{Call}
use Rattle.fsa_types.specs.declared.request.Request.{Request}
use Rattle.fsa_types.specs.declared.request.Request.TheVariants.{Ack, Cancel, Close, Notify, Oplock as OplockRequest, Unlock}
use Rattle.fsa_types.specs.declared.request.What.{What}
use Rattle.fsa_types.specs.declared.request.What.TheVariants.{Ask, Leave, Tick, WaitFor}
use Rattle.fsa_model.specs.Edits.{is_call, with_ticks, with_watch}
use Rattle.fsa_model.specs.Lookups.{handle_of, has_left, is_link_marked, number_of}
use Rattle.fsa_model.specs.Outcome.{Outcome, Done, Stay, Hold}
use Rattle.fsa_model.specs.Settling.{HasOneOplockEach}
use Rattle.fsa_model.specs.Try.{try, try_request, try_what}
use Rattle.fsa_model.specs.Turn.{volume_after}
use Rattle.fsa_model.specs.Volume.{Handle, Oplock, Volume}
use Rattle.fsa_model.specs.Waiting.{blocker_lives, has_ended, is_breaking, is_granted_under, is_pending, try_cancel, try_wait, with_cancelled}
use Rattle.fsa_model.specs.Watching.{is_notify_filter, is_something_due, notify_at, notify_by, notify_due, try_notify, watch_of, with_watch_seen}
use Rattle.fsa_model.proofs.CountLaws.{and_left}
use Rattle.fsa_model.proofs.GrantLaws.{try_oplock-ends}
use Rattle.fsa_model.proofs.RowLaws.{option_cases}
use Rattle.fsa_model.proofs.TryLaws.{Leaves, Tries, TriesTo}
use Rattle.fsa_model.proofs.TryObeys.{has_own_laws, try_request-obeys}
use Rattle.history_laws.specs.Releasing.{may_release}
use Rattle.history_laws.proofs.AnyLaws.{any-kept}
use Rattle.history_laws.proofs.BrokenGrants.{NoBrokenGrant, is_broken_grant}

-- what is waited for lives on
abbrev pub LiveOn : Volume → Volume → Type 0
LiveOn v w = (b : Blocker) → blocker_lives v b ≡ true → blocker_lives w b ≡ true

pub alike : (v w : Volume) → w.oplocks ≡ v.oplocks → w.locks ≡ v.locks → LiveOn v w
alike v w oplocks locks (blocker.Break number) is = rw oplocks is
alike v w oplocks locks (blocker.Lock number) is = rw locks is

-- ---- a try

live-tries : (v : Volume) (outcome : Outcome) → TriesTo Leaves v outcome → LiveOn v (volume_after outcome)
live-tries v (Done w reply) tries = tries.0.lives
live-tries v (Stay w interim) tries = absurd tries
live-tries v (Hold w blockers interim) tries = tries.0.lives

live-due : (v w : Volume) (id room : ℕ) → w.oplocks ≡ v.oplocks → w.locks ≡ v.locks → LiveOn v (volume_after (notify_due w id room))
live-due v w id room oplocks locks = elim (cases_Bool (is_something_due w id)) [
  | inl due ↦ rw due (alike v (with_watch_seen w id) oplocks locks)
  | inr none ↦ rw none (alike v w oplocks locks)
]

live-notify_by : (v : Volume) (id : ℕ) (handle : Handle) (filter : ℕ) (tree : Bool) (room : ℕ) → LiveOn v (volume_after (notify_by v id handle filter tree room))
live-notify_by v id handle filter tree room = elim (cases_Bool (is_some handle.stream)) [
  | inl is ↦ rw is (alike v v refl refl)
  | inr directory ↦ rw directory (elim (cases_Bool (not (has_any handle.access READ_DATA))) [
    | inl denied ↦ rw denied (alike v v refl refl)
    | inr reads ↦ rw reads (elim (cases_Bool (not (is_notify_filter filter))) [
      | inl wrong ↦ rw wrong (alike v v refl refl)
      | inr right ↦ rw right (elim (cases_Bool (is_link_marked v handle.link)) [
        | inl marked ↦ rw marked (alike v v refl refl)
        | inr unmarked ↦ rw unmarked (elim (cases_Bool (is_some (watch_of v id))) [
          | inl there ↦ rw there (live-due v v id room refl refl)
          | inr first ↦ rw first (live-due v (with_watch v id filter tree (length v.changes)) id room refl refl)
        ])
      ])
    ])
  ])
]

live-notify : (v : Volume) (client handle filter : ℕ) (tree : Bool) (room : ℕ) → LiveOn v (volume_after (try_notify v client handle filter tree room))
unfolding try_notify notify_at
live-notify v client handle filter tree room = elim (option_cases (handle_of v client handle)) [
  | inl none ↦ rw none (alike v v refl refl)
  | inr id ↦ rw id.1 (elim (option_cases (row_of v.handles id.0)) [
    | inl none ↦ rw none (alike v v refl refl)
    | inr row ↦ rw row.1 (live-notify_by v id.0 row.0 filter tree room)
  ])
]

live-wait : (v : Volume) (client earlier : ℕ) → LiveOn v (volume_after (try_wait v client earlier))
unfolding try_wait
live-wait v client earlier = elim (cases_Bool (has_ended v client earlier)) [
  | inl over ↦ rw over (alike v v refl refl)
  | inr goes_on ↦ rw goes_on (elim (cases_Bool (is_pending v client earlier)) [
    | inl pends ↦ rw pends (alike v v refl refl)
    | inr no_call ↦ rw no_call (alike v v refl refl)
  ])
]

-- an oplock that a cancelled call gives up has no break in progress
live-cancel : (v : Volume) (client number : ℕ) → NoBrokenGrant v.oplocks → LiveOn v (volume_after (try_cancel v client number))
unfolding try_cancel
live-cancel v client number none = elim (option_cases (number_of (is_call client number) v.pending)) [
  | inl missing ↦ rw missing (alike v v refl refl)
  | inr turn ↦ rw turn.1 (given_up turn.0)
]
  where
    breaking : (turn n : ℕ) (o : Oplock) → is_breaking n o ≡ true → is_broken_grant o ≡ false → not (is_granted_under turn o) ≡ true
    breaking turn n o is none = by (is_some o.target) o.call (and_left (is_some o.target) (o.number == n) is) none
      where
        by : (target : Bool) (call : Option ℕ) → target ≡ true → (target && is_some call) ≡ false → not (option_map_or (λ other. other == turn) call false) ≡ true
        by true None is none = refl
        by true (Some other) is none = cc
        by false call is none = cc

    given_up : (turn : ℕ) → LiveOn v (with_cancelled v client number turn)
    given_up turn (blocker.Break n) is = any-kept (is_breaking n) is_broken_grant (λ (o : Oplock). not (is_granted_under turn o)) v.oplocks (breaking turn n) none is
    given_up turn (blocker.Lock n) is = is

live-own : (v : Volume) (turn client number : ℕ) (request : Request) → NoBrokenGrant v.oplocks → has_own_laws request ≡ true → may_release (Ask request) ≡ false → LiveOn v (volume_after (try_request v turn client number request))
live-own v turn client number (OplockRequest handle level) none own other = (try_oplock-ends v client handle level turn).so
live-own v turn client number (Notify handle filter tree room) none own other = live-notify v client handle filter tree room
live-own v turn client number (Cancel cancelled) none own other = live-cancel v client cancelled none
live-own v turn client number (Ack handle level) none own other = absurd (let impossible : true ≡ false = other in cc)
live-own v turn client number (Close handle) none own other = absurd (let impossible : true ≡ false = other in cc)
live-own v turn client number (Unlock handle at count) none own other = absurd (let impossible : true ≡ false = other in cc)
live-own v turn client number _ none own other = absurd (let impossible : false ≡ true = own in cc)

live-request : (v : Volume) (turn client number : ℕ) (request : Request) → HasOneOplockEach v → NoBrokenGrant v.oplocks → may_release (Ask request) ≡ false → LiveOn v (volume_after (try_request v turn client number request))
live-request v turn client number request one none other = elim (cases_Bool (has_own_laws request)) [
  | inl own ↦ live-own v turn client number request none own other
  | inr obeys ↦ live-tries v (try_request v turn client number request) (Tries.so ((try_request-obeys v turn client number request obeys).tries one))
]

live-what : (v : Volume) (turn client number : ℕ) (what : What) → HasOneOplockEach v → NoBrokenGrant v.oplocks → may_release what ≡ false → LiveOn v (volume_after (try_what v turn client number what))
live-what v turn client number (Ask request) one none other = live-request v turn client number request one none other
live-what v turn client number (Tick ticks) one none other = alike v (with_ticks v ticks) refl refl
live-what v turn client number (WaitFor earlier) one none other = live-wait v client earlier
live-what v turn client number Leave one none other = absurd (let impossible : true ≡ false = other in cc)

pub live-try : (v : Volume) (call : Call) (turn : ℕ) → HasOneOplockEach v → NoBrokenGrant v.oplocks → may_release call.what ≡ false → LiveOn v (volume_after (try v call turn))
live-try v call turn one none other = elim (cases_Bool (has_left v call.client)) [
  | inl gone ↦ rw gone (alike v v refl refl)
  | inr here ↦ rw here (live-what v turn call.client call.number call.what one none other)
]
