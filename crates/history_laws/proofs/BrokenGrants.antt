-- An oplock with a break in progress is granted to no pending call, and no two locks have one number, over a whole run.
use Rattle.std.proofs.Common.{◌≡◌, ℕ, ◌+◌, ◌≤◌, ◌<◌, Bool, true, false, not, List, [], ◌∷◌, ◌++◌, refl, ap, ◌∙◌, arith, inl, inr, Option, Some, None}
use Rattle.std.specs.List.{filter, fold, list_any}
use Rattle.std.specs.Option.{option_map_or}
use Rattle.std.specs.Prelude.{◌==◌, ◌&&◌, is_some, map, if◌then◌else◌}
use Rattle.std.proofs.lemmas.Bool.{cases_Bool, eqb-true}
use Rattle.fsa_types.specs.Oplocks.{Effect, Stays, Ends, Begins, Lowers}
use Rattle.fsa_types.specs.OplockGrants.{as_granted}
use Rattle.fsa_types.specs.declared.oplock.Class.{Class}
use Rattle.fsa_types.specs.declared.reply.Body.TheVariants.{Nothing}
use Rattle.fsa_types.specs.declared.reply.Interim.TheVariants.{Granted}
use Rattle.fsa_types.specs.declared.reply.Reply.{Reply}
use Rattle.fsa_types.specs.declared.request.Call.{Call}
use Rattle.fsa_types.specs.declared.request.Level.{Level}
use Rattle.fsa_types.specs.declared.request.Level.TheVariants.{Nil}
use Rattle.fsa_types.specs.declared.request.Request.TheVariants.{Ack, Cancel, Close, Oplock as OplockRequest, Unlock}
use Rattle.fsa_types.specs.declared.request.What.{What}
use Rattle.fsa_types.specs.declared.request.What.TheVariants.{Ask, Leave}
use Rattle.fsa_types.specs.declared.status.Status.{Status}
use Rattle.fsa_types.specs.declared.status.Status.TheVariants.{Cancelled, InvalidHandle, OplockSwitchedToNewHandle, Success}
use Rattle.fsa_model.specs.Breaks.{chosen, with_break_begun, with_breaks, with_effect}
use Rattle.fsa_model.specs.Close.{close_at, closed_status, handles_of_client, is_call_on, is_left_behind, pending_by_turn, try_close, try_leave, with_all_closed, with_calls_ended, with_client_gone, with_closed, with_mark_on_close}
use Rattle.fsa_model.specs.Edits.{is_lock_on, with_end, with_lock, without_handle, without_lock, without_oplock}
use Rattle.fsa_model.specs.Engine.{CallsDiffer, own_tried}
use Rattle.fsa_types.specs.Rows.{row_of, without_row}
use Rattle.fsa_model.specs.Grant.{with_call_ended, ack_at, ack_keeping, oplock_at, oplock_by, oplock_on, switched, try_ack, try_oplock, with_granted, with_level_kept, with_switched}
use Rattle.fsa_model.specs.History.{HistoryEntry, Run, run}
use Rattle.fsa_model.specs.Locking.{try_unlock, unlock_at, unlock_by, unlock_range}
use Rattle.fsa_model.specs.Lookups.{has_left, number_of}
use Rattle.fsa_model.specs.Once.{how_many}
use Rattle.fsa_model.specs.Outcome.{Outcome, Done, Stay, ends_with, refused}
use Rattle.fsa_model.specs.Settle.{Settling, starves, taken_up, taken_up_all}
use Rattle.fsa_model.specs.Settling.{MaySettle}
use Rattle.fsa_model.specs.Setup.{Setup}
use Rattle.fsa_model.specs.Try.{try, try_what}
use Rattle.fsa_model.specs.Turn.{turn_number, volume_after}
use Rattle.fsa_model.specs.Volume.{Handle, Lock, Oplock, Pending, Volume, fresh}
use Rattle.fsa_model.specs.Waiting.{is_granted_under, is_held, try_cancel, with_oplock_given_up}
use Rattle.fsa_model.proofs.BreakLaws.{broken, told-oplocks, with_breaks-rest}
use Rattle.fsa_model.proofs.CountLaws.{how_many-append, how_many-filter_le}
use Rattle.fsa_model.proofs.KeepLaws.{Untouched-mark_on_close, Untouched-swept}
use Rattle.fsa_model.proofs.OnceLaws.{SameBlockers, blockers-calls_ended}
use Rattle.fsa_model.proofs.RowLaws.{any-filter_none, option_cases}
use Rattle.fsa_model.proofs.SettleLaws.{IsNext}
use Rattle.fsa_model.proofs.TryLaws.{HasOneOplockEach-kept, Keeps-breaks, Untouched, Untouched-next}
use Rattle.fsa_model.proofs.WaitLaws.{HasOneOplockEach, badly-rest, begun, changed, chosen-well, done_to, goes_on_badly, lacks_break, lowered, or_none}
use Rattle.history_laws.proofs.ByBreaks.{ByBreaks, Still, Locked, Broken, Next, TriesByBreaks}
use Rattle.history_laws.proofs.TriesByBreaks.{changes_otherwise, what-by_breaks}
use Rattle.history_laws.proofs.TurnBlockers.{blockers-answered, blockers-come, blockers-stalled, blockers-tried}
use Rattle.history_laws.proofs.TurnByTurn.{new-call, own-may, run-keeps, settled-keeps}

-- a break is in progress on the oplock, and it's granted to a pending call
abbrev pub is_broken_grant : Oplock → Bool
is_broken_grant oplock = is_some oplock.target && is_some oplock.call

abbrev pub NoBrokenGrant : List Oplock → Type 0
NoBrokenGrant oplocks = list_any is_broken_grant oplocks ≡ false

-- ---- changes of oplocks

-- one handle's oplock is changed, and then it isn't such a one
changed-none : (change : Oplock → Oplock) (at : ℕ) (oplocks : List Oplock) → ((o : Oplock) → is_broken_grant (change o) ≡ false) → NoBrokenGrant oplocks → NoBrokenGrant (map (changed change at) oplocks)
changed-none change at [] so none = refl
changed-none change at (o ∷ oplocks) so none =
    let parts = or_none (is_broken_grant o) (list_any is_broken_grant oplocks) none in
    let rest : NoBrokenGrant (map (changed change at) oplocks) = changed-none change at oplocks so parts.1 in
    elim (cases_Bool (o.handle == at)) [
      | inl here ↦ rw (here, so o) rest
      | inr other ↦ rw (other, parts.0) rest
    ]

-- a break goes on where one is in progress
lowered-none : (at : ℕ) (level : Level) (oplocks : List Oplock) → list_any (lacks_break at) oplocks ≡ false → NoBrokenGrant oplocks → NoBrokenGrant (map (changed (lowered level) at) oplocks)
lowered-none at level [] lacks none = refl
lowered-none at level (o ∷ oplocks) lacks none =
    let parts = or_none (is_broken_grant o) (list_any is_broken_grant oplocks) none in
    let lacks_parts = or_none (lacks_break at o) (list_any (lacks_break at) oplocks) lacks in
    let rest : NoBrokenGrant (map (changed (lowered level) at) oplocks) = lowered-none at level oplocks lacks_parts.1 parts.1 in
    elim (cases_Bool (o.handle == at)) [
      | inl here ↦ (let broken : not (is_some o.target) ≡ false = rw here at lacks_parts.0 in
          let free : is_some o.call ≡ false = by (is_some o.target) (is_some o.call) broken parts.0 in rw (here, free) rest)
      | inr other ↦ rw (other, parts.0) rest
    ]
  where
    by : (target call : Bool) → not target ≡ false → (target && call) ≡ false → call ≡ false
    by true call broken is = is
    by false call broken is = cc

-- ---- breaks

effect-none : (w : Volume) (oplock : Oplock) (done : Effect) → goes_on_badly w oplock done ≡ false → NoBrokenGrant w.oplocks → NoBrokenGrant (with_effect w oplock done).oplocks
effect-none w oplock Stays well none = none
effect-none w oplock Ends well none =
    rw (told-oplocks (without_oplock w oplock.handle) oplock.call Nil false) (any-filter_none is_broken_grant (λ (o : Oplock). not (o.handle == oplock.handle)) w.oplocks none)
effect-none w oplock (Begins level) well none =
    rw (told-oplocks (with_break_begun w oplock.handle level) oplock.call level true) (changed-none (begun (w.last_break + 1) level) oplock.handle w.oplocks (λ o. refl) none)
effect-none w oplock (Lowers level) well none = lowered-none oplock.handle level w.oplocks well none

broken-none : (kind : Class) (w : Volume) (oplocks : List Oplock) → list_any (λ x. goes_on_badly w x (done_to kind x)) oplocks ≡ false → NoBrokenGrant w.oplocks → NoBrokenGrant (broken kind w oplocks).oplocks
broken-none kind w [] well none = none
broken-none kind w (o ∷ oplocks) well none =
    let parts = or_none (goes_on_badly w o (done_to kind o)) (list_any (λ x. goes_on_badly w x (done_to kind x)) oplocks) well in
    broken-none kind (with_effect w o (done_to kind o)) oplocks (badly-rest kind w o oplocks parts.1) (effect-none w o (done_to kind o) parts.0 none)

-- ---- locks

-- no two have one number, and none a number that is still to be given
pub record AreNumbered (locks : List (ℕ × Lock)) (last : ℕ) : Type 0 where
  pub one : (number : ℕ) → how_many (λ entry. entry.0 == number) locks ≤ 1
  pub given : (number : ℕ) → last < number → how_many (λ entry. entry.0 == number) locks ≡ 0

fewer_locks : (keep : ℕ × Lock → Bool) (locks : List (ℕ × Lock)) (last : ℕ) → AreNumbered locks last → AreNumbered (filter keep locks) last
fewer_locks keep locks last numbered = record {
  one = λ number. (let few = numbered.one number in let fewer = how_many-filter_le (λ (entry : ℕ × Lock). entry.0 == number) keep locks in omega arith);
  given = λ number later. (let none = numbered.given number later in let fewer = how_many-filter_le (λ (entry : ℕ × Lock). entry.0 == number) keep locks in omega arith);
}

one_lock : (v : Volume) (handle at count : ℕ) (exclusive : Bool) → AreNumbered v.locks v.last_lock → AreNumbered (with_lock v handle at count exclusive).locks (with_lock v handle at count exclusive).last_lock
one_lock v handle at count exclusive numbered = record {
  one = λ number. (let all = pushed_lock number in let few = numbered.one number in elim (cases_Bool (v.last_lock + 1 == number)) [
    | inl new ↦ (let is : v.last_lock + 1 ≡ number = eqb-true (v.last_lock + 1) number new in let none = numbered.given number (omega arith) in let counted : how_many (λ entry. entry.0 == number) (with_lock v handle at count exclusive).locks ≡ how_many (λ entry. entry.0 == number) v.locks + (1 + 0) = rw new at all in omega arith)
    | inr older ↦ (let counted : how_many (λ entry. entry.0 == number) (with_lock v handle at count exclusive).locks ≡ how_many (λ entry. entry.0 == number) v.locks + (0 + 0) = rw older at all in omega arith)
  ]);
  given = λ number later. (let all = pushed_lock number in let none = numbered.given number (omega arith) in elim (cases_Bool (v.last_lock + 1 == number)) [
    | inl new ↦ (let is : v.last_lock + 1 ≡ number = eqb-true (v.last_lock + 1) number new in absurd (omega arith))
    | inr older ↦ (let counted : how_many (λ entry. entry.0 == number) (with_lock v handle at count exclusive).locks ≡ how_many (λ entry. entry.0 == number) v.locks + (0 + 0) = rw older at all in omega arith)
  ]);
}
  where
    pushed_lock : (number : ℕ) → how_many (λ (entry : ℕ × Lock). entry.0 == number) (v.locks ++ (v.last_lock + 1, record { handle = handle; at = at; count = count; exclusive = exclusive }) ∷ [])
        ≡ how_many (λ (entry : ℕ × Lock). entry.0 == number) v.locks + how_many (λ (entry : ℕ × Lock). entry.0 == number) ((v.last_lock + 1, record { handle = handle; at = at; count = count; exclusive = exclusive }) ∷ [])
    pushed_lock number = how_many-append (λ (entry : ℕ × Lock). entry.0 == number) v.locks ((v.last_lock + 1, record { handle = handle; at = at; count = count; exclusive = exclusive }) ∷ [])

-- ---- what changes oplocks by breaks alone

-- no oplock with a break is granted to a call, and the locks have numbers that differ
pub record IsTidy (v : Volume) : Type 0 where
  pub none : NoBrokenGrant v.oplocks
  pub locks : AreNumbered v.locks v.last_lock

pub IsTidy-same : {v w : Volume} → SameBlockers v w → IsTidy v → IsTidy w
IsTidy-same same tidy = record { none = rw same.oplocks tidy.none; locks = rw (same.locks, same.last_lock) tidy.locks }

-- and a handle has at most one oplock
record AreApart (v : Volume) : Type 0 where
  one : HasOneOplockEach v
  tidy : IsTidy v

AreApart-by : {kind : Class} {v w : Volume} → ByBreaks kind v w → AreApart v → AreApart w
AreApart-by (Still v w oplocks locks pending ended left last_break last_lock) apart = record {
  one = λ handle. rw oplocks (let few = apart.one handle in omega arith);
  tidy = record { none = rw oplocks apart.tidy.none; locks = rw (locks, last_lock) apart.tidy.locks };
}
AreApart-by (Locked v handle at count exclusive) apart = record { one = apart.one; tidy = record { none = apart.tidy.none; locks = one_lock v handle at count exclusive apart.tidy.locks } }
AreApart-by {kind} (Broken v on acting key) apart = record {
  one = HasOneOplockEach-kept v (with_breaks v on kind acting key) (Keeps-breaks v on kind acting key) apart.one;
  tidy = record {
    none = broken-none kind v (chosen v on acting key) (chosen-well v on kind acting key apart.one) apart.tidy.none;
    locks = rw (ap (λ (w : Volume). w.locks) (with_breaks-rest v on kind acting key), ap (λ (w : Volume). w.last_lock) (with_breaks-rest v on kind acting key)) apart.tidy.locks;
  };
}
AreApart-by (Next u v w first second) apart = AreApart-by second (AreApart-by first apart)

-- ---- the other calls

fewer : (keep : Oplock → Bool) (oplocks : List Oplock) → NoBrokenGrant oplocks → NoBrokenGrant (filter keep oplocks)
fewer keep oplocks none = any-filter_none is_broken_grant keep oplocks none

-- what a try comes to is so
pub record TriesApart (outcome : Outcome) : Type 0 where
  pub so : IsTidy (volume_after outcome)

apart-if : (test : Bool) (one other : Outcome) → TriesApart one → TriesApart other → TriesApart (if test then one else other)
apart-if true one other holds fails = holds
apart-if false one other holds fails = fails

apart-option : {X : Type 0} (found : Option X) (some : X → Outcome) (none : Outcome) → ((x : X) → TriesApart (some x)) → TriesApart none → TriesApart (option_map_or some found none)
apart-option None some none with_some with_none = with_none
apart-option (Some x) some none with_some with_none = with_some x

apart-refused : (v : Volume) (status : Status) → IsTidy v → TriesApart (refused v status)
apart-refused v status tidy = record { so = tidy }

-- an oplock that is granted, or kept, has no break
pushed : (oplocks : List Oplock) (more : Oplock) → is_broken_grant more ≡ false → NoBrokenGrant oplocks → NoBrokenGrant (oplocks ++ more ∷ [])
pushed [] more new none = rw new refl
pushed (o ∷ oplocks) more new none =
    let parts = or_none (is_broken_grant o) (list_any is_broken_grant oplocks) none in
    rw parts.0 (pushed oplocks more new parts.1)

-- a call that ends changes neither
pub blockers-ended : (v : Volume) (turn : Option ℕ) (status : Status) → SameBlockers v (with_call_ended v turn status)
blockers-ended v None status = record { oplocks = refl; locks = refl; last_break = refl; last_lock = refl }
blockers-ended v (Some turn) status = elim (option_cases (row_of v.pending turn)) [
  | inl none ↦ rw none (record { oplocks = refl; locks = refl; last_break = refl; last_lock = refl })
  | inr some ↦ rw some.1 (record { oplocks = refl; locks = refl; last_break = refl; last_lock = refl })
]

switched-tidy : (oplocks : List Oplock) (v : Volume) → IsTidy v → IsTidy (fold with_switched v oplocks)
switched-tidy [] v tidy = tidy
switched-tidy (o ∷ oplocks) v tidy =
    switched-tidy oplocks (with_switched v o) (IsTidy-same (blockers-ended (without_oplock v o.handle) o.call OplockSwitchedToNewHandle)
    (record { none = fewer (λ (x : Oplock). not (x.handle == o.handle)) v.oplocks tidy.none; locks = tidy.locks }))

apart-granted : (v : Volume) (id key stream : ℕ) (level : Level) (turn : ℕ) → IsTidy v → TriesApart (Stay (with_granted v id key stream level turn) (Granted level))
apart-granted v id key stream level turn tidy =
    let after : IsTidy (fold with_switched v (switched v id key stream)) = switched-tidy (switched v id key stream) v tidy in
    record { so = record { none = pushed (fold with_switched v (switched v id key stream)).oplocks (as_granted id key level turn) refl after.none; locks = after.locks } }

apart-oplock : (v : Volume) (client handle : ℕ) (level : Level) (turn : ℕ) → IsTidy v → TriesApart (try_oplock v client handle level turn)
unfolding try_oplock oplock_at oplock_by oplock_on
apart-oplock v client handle level turn tidy = search (apart-if, apart-option, apart-refused, apart-granted) depth 20

apart-level : (v : Volume) (id : ℕ) (level : Level) (turn : ℕ) → IsTidy v → TriesApart (Stay (with_level_kept v id level turn) (Granted level))
apart-level v id level turn tidy = record { so = record { none = changed-none (λ o. record o { level = level; target = None; number = 0; call = Some turn }) id v.oplocks (λ o. refl) tidy.none; locks = tidy.locks } }

apart-without : (v : Volume) (id : ℕ) (reply : Reply) → IsTidy v → TriesApart (Done (without_oplock v id) reply)
apart-without v id reply tidy = record { so = record { none = fewer (λ (o : Oplock). not (o.handle == id)) v.oplocks tidy.none; locks = tidy.locks } }

apart-ack : (v : Volume) (client handle : ℕ) (level : Level) (turn : ℕ) → IsTidy v → TriesApart (try_ack v client handle level turn)
unfolding try_ack ack_at ack_keeping
apart-ack v client handle level turn tidy = search (apart-if, apart-option, apart-refused, apart-level, apart-without) depth 20

-- a close leaves all oplocks and locks but those of its handle
pub record Closes (v : Volume) (id : ℕ) (w : Volume) : Type 0 where
  pub oplocks : w.oplocks ≡ filter (λ (o : Oplock). not (o.handle == id)) v.oplocks
  pub locks : w.locks ≡ filter (λ (entry : ℕ × Lock). not (entry.1.handle == id)) v.locks
  pub last_lock : w.last_lock ≡ v.last_lock

pub closes : (v : Volume) (id : ℕ) (handle : Handle) → Closes v id (with_closed v id handle)
unfolding with_closed
closes v id handle =
    let ended : Volume = with_calls_ended closed_status (pending_by_turn (is_call_on handle) v) v in
    let gone : Volume = without_handle ended id in
    let same : SameBlockers v ended = blockers-calls_ended closed_status (pending_by_turn (is_call_on handle) v) v in
    let swept : Untouched gone (with_closed v id handle) = Untouched-next (Untouched-mark_on_close gone handle) (Untouched-swept (with_mark_on_close gone handle) handle) in
    record {
      oplocks = swept.oplocks ∙ ap (λ (oplocks : List Oplock). filter (λ (o : Oplock). not (o.handle == id)) oplocks) same.oplocks;
      locks = swept.locks ∙ ap (λ (locks : List (ℕ × Lock)). filter (λ (entry : ℕ × Lock). not (entry.1.handle == id)) locks) same.locks;
      last_lock = swept.numbers.locks ∙ same.last_lock;
    }

closed-tidy : (v : Volume) (id : ℕ) (handle : Handle) → IsTidy v → IsTidy (with_closed v id handle)
closed-tidy v id handle tidy = record {
  none = rw (closes v id handle).oplocks (fewer (λ (o : Oplock). not (o.handle == id)) v.oplocks tidy.none);
  locks = rw ((closes v id handle).locks, (closes v id handle).last_lock) (fewer_locks (λ (entry : ℕ × Lock). not (entry.1.handle == id)) v.locks v.last_lock tidy.locks);
}

apart-closed : (v : Volume) (id : ℕ) (handle : Handle) → IsTidy v → TriesApart (ends_with (with_closed v id handle) Success)
apart-closed v id handle tidy = record { so = closed-tidy v id handle tidy }

apart-close : (v : Volume) (client handle : ℕ) → IsTidy v → TriesApart (try_close v client handle)
unfolding try_close close_at
apart-close v client handle tidy = search (apart-option, apart-refused, apart-closed) depth 20

all_closed-tidy : (handles : List (ℕ × Handle)) (v : Volume) → IsTidy v → IsTidy (with_all_closed handles v)
all_closed-tidy [] v tidy = tidy
all_closed-tidy (entry ∷ handles) v tidy = all_closed-tidy handles (with_closed v entry.0 entry.1) (closed-tidy v entry.0 entry.1 tidy)

apart-leave : (v : Volume) (client : ℕ) → IsTidy v → TriesApart (try_leave v client)
unfolding try_leave with_client_gone
apart-leave v client tidy =
    let ended : Volume = with_calls_ended (λ _. Cancelled) (pending_by_turn (is_left_behind client) v) v in
    let closed : IsTidy (with_all_closed (handles_of_client v client) ended) = all_closed-tidy (handles_of_client v client) ended (IsTidy-same (blockers-calls_ended (λ _. Cancelled) (pending_by_turn (is_left_behind client) v) v) tidy) in
    record { so = record { none = closed.none; locks = closed.locks } }

apart-given_up : (v : Volume) (turn client number : ℕ) (reply : Reply) → IsTidy v → TriesApart (Done (with_end (with_oplock_given_up v turn) client number reply) (record { status = Success; body = Nothing }))
apart-given_up v turn client number reply tidy = record { so = record { none = fewer (λ (o : Oplock). not (is_granted_under turn o)) v.oplocks tidy.none; locks = tidy.locks } }

apart-cancel : (v : Volume) (client number : ℕ) → IsTidy v → TriesApart (try_cancel v client number)
unfolding try_cancel
apart-cancel v client number tidy = search (apart-option, apart-refused, apart-given_up) depth 20

apart-unlocked : (v : Volume) (id at count : ℕ) → IsTidy v → TriesApart (ends_with (without_lock v id at count) Success)
apart-unlocked v id at count tidy = record { so = record { none = tidy.none; locks = by (number_of (is_lock_on id at count) v.locks) } }
  where
    by : (found : Option ℕ) → AreNumbered (option_map_or (λ number. without_row v.locks number) found v.locks) v.last_lock
    by None = tidy.locks
    by (Some number) = fewer_locks (λ (entry : ℕ × Lock). not (entry.0 == number)) v.locks v.last_lock tidy.locks

apart-unlock : (v : Volume) (client handle at count : ℕ) → IsTidy v → TriesApart (try_unlock v client handle at count)
unfolding try_unlock unlock_at unlock_by unlock_range
apart-unlock v client handle at count tidy = search (apart-option, apart-refused, apart-unlocked) depth 20

-- ---- any try

apart-own : (v : Volume) (turn client number : ℕ) (what : What) → changes_otherwise what ≡ true → IsTidy v → TriesApart (try_what v turn client number what)
apart-own v turn client number (Ask (OplockRequest handle level)) more tidy = apart-oplock v client handle level turn tidy
apart-own v turn client number (Ask (Ack handle level)) more tidy = apart-ack v client handle level turn tidy
apart-own v turn client number (Ask (Unlock handle at count)) more tidy = apart-unlock v client handle at count tidy
apart-own v turn client number (Ask (Close handle)) more tidy = apart-close v client handle tidy
apart-own v turn client number (Ask (Cancel cancelled)) more tidy = apart-cancel v client cancelled tidy
apart-own v turn client number Leave more tidy = apart-leave v client tidy
apart-own v turn client number _ more tidy = cc

apart-what : (v : Volume) (turn client number : ℕ) (what : What) → HasOneOplockEach v → IsTidy v → TriesApart (try_what v turn client number what)
apart-what v turn client number what one tidy = elim (cases_Bool (changes_otherwise what)) [
  | inl more ↦ apart-own v turn client number what more tidy
  | inr breaks ↦ record { so = AreApart.tidy (AreApart-by (TriesByBreaks.so (what-by_breaks v turn client number what breaks)) (record { one = one; tidy = tidy })) }
]

pub apart-try : (v : Volume) (call : Call) (turn : ℕ) → HasOneOplockEach v → IsTidy v → TriesApart (try v call turn)
apart-try v call turn one tidy = apart-if (has_left v call.client) _ _ (apart-refused v InvalidHandle tidy) (apart-what v turn call.client call.number call.what one tidy)

-- ---- a turn

-- once its own call has been tried
pub own-tidy : (v : Volume) (call : Call) → HasOneOplockEach v → IsTidy v → IsTidy (own_tried v call)
own-tidy v call one tidy = IsTidy-same (blockers-answered call (turn_number v) (try v call (turn_number v))) (TriesApart.so (apart-try v call (turn_number v) one tidy))

pub taken_up-tidy : (s : Settling) (entry : ℕ × Pending) → MaySettle s.volume → IsNext s.volume entry → IsTidy s.volume → IsTidy (taken_up s entry).volume
taken_up-tidy s entry may next tidy = elim (cases_Bool (is_held entry.1)) [
  | inr comes ↦ rw comes (IsTidy-same (blockers-come s entry.1 entry.1.call.what) tidy)
  | inl held ↦ rw held (elim (cases_Bool (starves s.starved entry.1)) [
    | inl starving ↦ rw starving (record { none = tidy.none; locks = tidy.locks })
    | inr plenty ↦ rw plenty (IsTidy-same (blockers-tried entry.0 entry.1 (try s.volume entry.1.call entry.0)) (TriesApart.so (apart-try s.volume entry.1.call entry.0 may.oplocks tidy)))
  ])
]

-- ---- a run

pub IsTidy-fresh : (setup : Setup) → IsTidy (fresh setup)
IsTidy-fresh setup = record { none = refl; locks = record { one = λ number. omega arith; given = λ number later. refl } }

pub run-tidy : (setup : Setup) (history : List HistoryEntry) (r : Run) → CallsDiffer history → run setup history ≡ Some r → IsTidy r.volume
run-tidy setup history r differ is = run-keeps (λ v later. IsTidy v) (λ v entry later may differ turns tidy.
    settled-keeps IsTidy taken_up-tidy v entry.call entry.starved (own-may v entry.call may (new-call v entry later differ)) (IsTidy-same (blockers-stalled (taken_up_all (own_tried v entry.call) entry.starved).volume))
    (own-tidy v entry.call may.take_up.may.oplocks tidy)) setup history r differ (IsTidy-fresh setup) is
