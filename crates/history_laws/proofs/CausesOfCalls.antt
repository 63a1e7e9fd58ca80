-- What a request of an oplock, an acknowledgement, a close, a cancellation and a leaving make of oplocks has a cause:
-- each oplock that is there afterwards was there before, or is granted, or is kept by its acknowledgement; and each that is
-- gone was given up or switched, its call is cancelled, or its handle is closed.
use Rattle.std.proofs.Common.{◌≡◌, ℕ, Bool, true, false, not, List, [], ◌∷◌, ◌++◌, refl, ap, sym, ◌∙◌, eq-eqb, inl, inr, Option, Some, None}
use Rattle.std.specs.List.{filter, find, fold, list_any}
use Rattle.std.specs.Option.{option_map_or}
use Rattle.std.specs.Prelude.{◌==◌, ◌&&◌, ◌||◌, is_some, map, nat_lt, option_map, if◌then◌else◌}
use Rattle.std.proofs.lemmas.Bool.{cases_Bool, eqb-true, false≢true, not-false}
use Rattle.std.proofs.lemmas.List.Kept.{AllPairs-filter}
use Rattle.fsa_types.specs.OplockGrants.{as_answered, as_granted, some_breaking, some_more, some_writer}
use Rattle.fsa_types.specs.Oplocks.{has_read, in_both, is_within}
use Rattle.fsa_types.specs.Rows.{row_of}
use Rattle.fsa_types.specs.declared.reply.Interim.{Interim}
use Rattle.fsa_types.specs.declared.reply.Reply.{Reply}
use Rattle.fsa_types.specs.declared.request.Call.{Call}
use Rattle.fsa_types.specs.declared.request.Level.{Level}
use Rattle.fsa_types.specs.declared.request.Request.TheVariants as request
use Rattle.fsa_types.specs.declared.request.What.{What}
use Rattle.fsa_types.specs.declared.request.What.TheVariants.{Ask, Leave}
use Rattle.fsa_types.specs.declared.status.Status.{Status}
use Rattle.fsa_types.specs.declared.status.Status.TheVariants.{OplockSwitchedToNewHandle}
use Rattle.fsa_types.specs.declared.status.Status.TheVariants as status
use Rattle.fsa_model.specs.Close.{close_at, handles_of_client, is_left_behind, pending_by_turn, try_close, try_leave, with_all_closed, with_calls_ended, with_client_gone, with_closed}
use Rattle.fsa_model.specs.Coherence.{IsTied, key_of, stream_under}
use Rattle.fsa_model.specs.Edits.{is_call, without_oplock}
use Rattle.fsa_model.specs.Grant.{ack_at, ack_keeping, is_not_granted, is_of_key, is_oplock_on, oplock_at, oplock_by, oplock_of, oplock_on, switched, target_of, try_ack, try_oplock, with_all_switched, with_granted, with_level_kept, with_switched}
use Rattle.fsa_model.specs.Lookups.{handle_of, number_of}
use Rattle.fsa_model.specs.Outcome.{Outcome, Done, Stay, refused}
use Rattle.fsa_model.specs.Settling.{is_of}
use Rattle.fsa_model.specs.Try.{try_what}
use Rattle.fsa_model.specs.Turn.{volume_after}
use Rattle.fsa_model.specs.Volume.{Handle, Oplock, Volume}
use Rattle.fsa_model.specs.Waiting.{is_granted_under, try_cancel, with_cancelled}
use Rattle.fsa_model.proofs.CoherenceGrant.{held-all, held-granted, own-key}
use Rattle.fsa_model.proofs.CoherenceLaws.{any-in_order, any_oplock, held_in}
use Rattle.fsa_model.proofs.CountLaws.{and_left, and_right}
use Rattle.fsa_model.proofs.GrantLaws.{oplocks-call_ended}
use Rattle.fsa_model.proofs.GrantedLaws.{find-filtered}
use Rattle.fsa_model.proofs.OnceLaws.{SameBlockers, blockers-calls_ended}
use Rattle.fsa_model.proofs.RowLaws.{any-filter_none, eqb-swap, find-any, find-map, find-none, find-same, option_cases, option_map-none}
use Rattle.fsa_model.proofs.WaitLaws.{find-passes}
use Rattle.history_laws.specs.OplockChanges.{changes_own, WhyGone, Same, Granted, Kept, GivenUp, Switched, Cancelled, Closed, Left}
use Rattle.history_laws.specs.Releasing.{is_open_of}
use Rattle.history_laws.proofs.AnyLaws.{any-filter_and}
use Rattle.history_laws.proofs.BrokenGrants.{Closes, closes}
use Rattle.history_laws.proofs.SetsBroken.{HasCauses, OplocksDiffer}

-- ---- the oplock of a handle, in a list that was filtered, changed or added to

-- what a filter leaves was found before
found-before : (keep : Oplock → Bool) (oplocks : List Oplock) (handle : ℕ) (o : Oplock) → OplocksDiffer oplocks → find (is_of handle) (filter keep oplocks) ≡ Some o → find (is_of handle) oplocks ≡ Some o
found-before keep oplocks handle o differ found = elim (option_cases (find (is_of handle) oplocks)) [
  | inl none ↦ absurd (false≢true (sym (any-filter_none (is_of handle) keep oplocks (find-none (is_of handle) oplocks none)) ∙ there))
  | inr was ↦ elim (cases_Bool (keep was.0)) [
    | inl stays ↦ was.1 ∙ (sym (find-filtered (is_of handle) keep oplocks was.0 was.1 stays) ∙ found)
    | inr goes ↦ absurd (false≢true (sym (any_oplock keep oplocks handle was.0 differ was.1 ∙ goes) ∙ there))
  ]
]
  where
    there : list_any (is_of handle) (filter keep oplocks) ≡ true
    there = find-any (is_of handle) (is_of handle) (filter keep oplocks) o found (find-passes (is_of handle) (filter keep oplocks) o found)

-- what is found no more it took away
gone-by : (keep : Oplock → Bool) (oplocks : List Oplock) (handle : ℕ) (was : Oplock) → find (is_of handle) oplocks ≡ Some was → find (is_of handle) (filter keep oplocks) ≡ None → keep was ≡ false
gone-by keep oplocks handle was found gone = elim (cases_Bool (keep was)) [
  | inr goes ↦ goes
  | inl stays ↦ (let still = find-filtered (is_of handle) keep oplocks was found stays in let impossible : Some was ≡ None = sym still ∙ gone in cc)
]

-- one more oplock is found where it is the handle's and none was before
pub found-more : (oplocks : List Oplock) (new : Oplock) (handle : ℕ) → find (is_of handle) oplocks ≡ None → is_of handle new ≡ true → find (is_of handle) (oplocks ++ new ∷ []) ≡ Some new
found-more [] new handle none here = rw here refl
found-more (o ∷ oplocks) new handle none here = elim (cases_Bool (is_of handle o)) [
  | inl first ↦ (let impossible : Some o ≡ None = rw first at none in cc)
  | inr other ↦ rw other (found-more oplocks new handle (rw other at none) here)
]

found-other : (oplocks : List Oplock) (new : Oplock) (handle : ℕ) → is_of handle new ≡ false → find (is_of handle) (oplocks ++ new ∷ []) ≡ find (is_of handle) oplocks
found-other [] new handle other = rw other refl
found-other (o ∷ oplocks) new handle other = elim (cases_Bool (is_of handle o)) [
  | inl first ↦ rw first refl
  | inr later ↦ rw later (found-other oplocks new handle other)
]

-- one that is switched ends, and no other changes
switched-before : (oplocks : List Oplock) (v : Volume) (handle : ℕ) (o : Oplock) → OplocksDiffer v.oplocks → oplock_of (fold with_switched v oplocks) handle ≡ Some o → oplock_of v handle ≡ Some o
switched-before [] v handle o differ found = found
switched-before (s ∷ oplocks) v handle o differ found =
    let left : (with_switched v s).oplocks ≡ filter (λ (x : Oplock). not (x.handle == s.handle)) v.oplocks = oplocks-call_ended (without_oplock v s.handle) s.call OplockSwitchedToNewHandle in
    let step = switched-before oplocks (with_switched v s) handle o (rw left (AllPairs-filter (λ (a : Oplock) (b : Oplock). (a.handle == b.handle) ≡ false) (λ (x : Oplock). not (x.handle == s.handle)) v.oplocks differ)) found in
    found-before (λ (x : Oplock). not (x.handle == s.handle)) v.oplocks handle o differ (ap (λ (left : List Oplock). find (is_of handle) left) (sym left) ∙ step)

-- an answer changes none but the handle's
pub found-answered : (oplocks : List Oplock) (id : ℕ) (level : Level) (turn handle : ℕ) → find (is_of handle) (map (as_answered id level turn) oplocks) ≡ option_map (as_answered id level turn) (find (is_of handle) oplocks)
found-answered oplocks id level turn handle =
    find-map (is_of handle) (as_answered id level turn) oplocks
    ∙ ap (option_map (as_answered id level turn)) (find-same (λ x. is_of handle (as_answered id level turn x)) (is_of handle) oplocks
    (λ x. elim (cases_Bool (x.handle == id)) [ inl here ↦ rw here refl | inr other ↦ rw other refl ]))

-- the oplock was granted to the call that is pending under this turn
under-its_call : (under : ℕ) (was : Oplock) → is_granted_under under was ≡ true → was.call ≡ Some under
under-its_call under was is = elim (option_cases was.call) [
  | inl none ↦ absurd (false≢true (rw none at is))
  | inr at ↦ at.1 ∙ ap (λ t. Some t) (eqb-true at.0 under (rw at.1 at is))
]

-- ---- where a grant can be made

-- no break is in progress on the stream, and no oplock of the key has more
unrefused : (a b c d e : Bool) → (a || b || c || d || e) ≡ false → (a ≡ false) × (e ≡ false)
unrefused true b c d e is = cc
unrefused false true c d e is = cc
unrefused false false true d e is = cc
unrefused false false false true e is = cc
unrefused false false false false e is = (refl, is)

-- the handle of an oplock on the stream is of the stream
stream-under : (v : Volume) (stream : ℕ) (o : Oplock) → is_oplock_on v stream o ≡ true → stream_under v (Some o.handle) ≡ Some stream
stream-under v stream o on = elim (option_cases (row_of v.handles o.handle)) [
  | inl none ↦ absurd (false≢true (rw none at on))
  | inr row ↦ elim (option_cases row.0.stream) [
    | inl none ↦ absurd (false≢true (rw (row.1, none) at on))
    | inr its ↦ (let same : its.0 ≡ stream = eqb-true its.0 stream (rw (row.1, its.1) at on) in rw row.1 (its.1 ∙ ap (λ s. Some s) same))
  ]
]

-- so no break of it is in progress, and it has no more than is asked for where it is of the key
unbroken : (v : Volume) (stream handle : ℕ) (o : Oplock) → oplock_of v handle ≡ Some o → is_oplock_on v stream o ≡ true → some_breaking (is_oplock_on v stream) v.oplocks ≡ false → o.target ≡ None
unbroken v stream handle o found on none = elim (option_cases o.target) [
  | inl no_target ↦ no_target
  | inr target ↦ (let breaks : (is_oplock_on v stream o && is_some o.target) ≡ true = rw (on, target.1) refl in
      absurd (false≢true (sym none ∙ find-any (is_of handle) (λ x. is_oplock_on v stream x && is_some x.target) v.oplocks o found breaks)))
]

within : (v : Volume) (id key stream handle : ℕ) (level : Level) (o : Oplock) → oplock_of v handle ≡ Some o → is_oplock_on v stream o ≡ true → is_of_key id key o ≡ true
    → some_more (is_oplock_on v stream) id key level v.oplocks ≡ false → is_within o.level level ≡ true
within v id key stream handle level o found on of_key none = elim (cases_Bool (is_within o.level level)) [
  | inl is ↦ is
  | inr more ↦ (let has : (is_oplock_on v stream o && is_of_key id key o && not (is_within o.level level)) ≡ true = rw (on, of_key, more) refl in
      absurd (false≢true (sym none ∙ find-any (is_of handle) (λ x. is_oplock_on v stream x && is_of_key id key x && not (is_within x.level level)) v.oplocks o found has)))
]

-- ---- what closes of handles, one after the other, leave

-- the handle is one of these
abbrev pub is_among : List (ℕ × Handle) → ℕ → Bool
is_among handles id = list_any (λ entry. entry.0 == id) handles

-- a filter that all pass
pub filter-all : {X : Type 0} (p : X → Bool) (xs : List X) → ((x : X) → p x ≡ true) → filter p xs ≡ xs
filter-all p [] all = refl
filter-all p (x ∷ xs) all = rw (all x) (ap (λ rest. x ∷ rest) (filter-all p xs all))

-- a filter after a filter
pub filter-twice : {X : Type 0} (p q r : X → Bool) (xs : List X) → ((x : X) → (q x && p x) ≡ r x) → filter p (filter q xs) ≡ filter r xs
filter-twice p q r [] both = refl
filter-twice p q r (x ∷ xs) both =
    let rest = filter-twice p q r xs both in
    elim (cases_Bool (q x)) [
      | inr goes ↦ (let out : r x ≡ false = sym (both x) ∙ rw goes refl in rw (goes, out) rest)
      | inl stays ↦ elim (cases_Bool (p x)) [
        | inr goes ↦ (let out : r x ≡ false = sym (both x) ∙ rw (stays, goes) refl in rw (stays, goes, out) rest)
        | inl kept ↦ (let passes : r x ≡ true = sym (both x) ∙ rw (stays, kept) refl in rw (stays, kept, passes) (ap (λ rest. x ∷ rest) rest))
      ]
    ]

-- closes of handles take away just their oplocks
all-closed : (handles : List (ℕ × Handle)) (v : Volume) → (with_all_closed handles v).oplocks ≡ filter (λ (o : Oplock). not (is_among handles o.handle)) v.oplocks
all-closed [] v = sym (filter-all (λ (o : Oplock). true) v.oplocks (λ o. refl))
all-closed (entry ∷ handles) v =
    all-closed handles (with_closed v entry.0 entry.1)
    ∙ ap (λ (oplocks : List Oplock). filter (λ (o : Oplock). not (is_among handles o.handle)) oplocks) (Closes.oplocks (closes v entry.0 entry.1))
    ∙ filter-twice (λ (o : Oplock). not (is_among handles o.handle)) (λ (o : Oplock). not (o.handle == entry.0)) (λ (o : Oplock). not (is_among (entry ∷ handles) o.handle)) v.oplocks
    (λ o. rw (eqb-swap o.handle entry.0) (neither (entry.0 == o.handle) (is_among handles o.handle)))
  where
    neither : (a b : Bool) → (not a && not b) ≡ not (a || b)
    neither true b = refl
    neither false b = refl

client-gone : (v : Volume) (client : ℕ) → (with_client_gone v client).oplocks ≡ filter (λ (o : Oplock). not (is_among (handles_of_client v client) o.handle)) v.oplocks
unfolding with_client_gone
client-gone v client =
    all-closed (handles_of_client v client) (with_calls_ended (λ _. status.Cancelled) (pending_by_turn (is_left_behind client) v) v)
    ∙ ap (λ (oplocks : List Oplock). filter (λ (o : Oplock). not (is_among (handles_of_client v client) o.handle)) oplocks)
    (SameBlockers.oplocks (blockers-calls_ended (λ _. status.Cancelled) (pending_by_turn (is_left_behind client) v) v))

-- which are those of the client
among-open : (v : Volume) (client id : ℕ) → is_among (handles_of_client v client) id ≡ is_open_of v client id
among-open v client id =
    any-in_order (λ (entry : ℕ × Handle). entry.0 == id) (λ a b. nat_lt a.1.number b.1.number) (filter (λ (entry : ℕ × Handle). entry.1.client == client) v.handles)
    ∙ any-filter_and (λ (entry : ℕ × Handle). entry.0 == id) (λ entry. entry.1.client == client) v.handles

-- ---- one try

-- what a try that comes to this makes of oplocks has its cause
record Causes (v : Volume) (call : Call) (turn : ℕ) (outcome : Outcome) : Type 0 where
  so : HasCauses v call turn (volume_after outcome)

module _ {v : Volume} {call : Call} {turn : ℕ} where
  -- where oplocks stay, each has the cause that it was there
  cause-same : (w : Volume) → w.oplocks ≡ v.oplocks → HasCauses v call turn w
  cause-same w same = record {
    now = λ handle oplock found. Same (rw same at found);
    gone = λ handle was found gone. absurd (let impossible : Some was ≡ None = sym found ∙ (rw same at gone) in cc);
  }

  -- where a filter leaves oplocks, each that it takes away needs a cause
  cause-filter : (w : Volume) (keep : Oplock → Bool) → IsTied v → w.oplocks ≡ filter keep v.oplocks
      → ((handle : ℕ) (was : Oplock) → oplock_of v handle ≡ Some was → was.handle ≡ handle → keep was ≡ false → WhyGone v call turn w handle was) → HasCauses v call turn w
  cause-filter w keep tied left why = record {
    now = λ handle oplock found. Same (found-before keep v.oplocks handle oplock tied.oplocks_differ (rw left at found));
    gone = λ handle was found gone. why handle was found (eqb-true was.handle handle (find-passes (is_of handle) v.oplocks was found)) (gone-by keep v.oplocks handle was found (rw left at gone));
  }

  -- a definition's ways to go on
  cause-done : {w : Volume} {reply : Reply} → HasCauses v call turn w → Causes v call turn (Done w reply)
  cause-done changes = record { so = changes }

  cause-stays : {w : Volume} {interim : Interim} → HasCauses v call turn w → Causes v call turn (Stay w interim)
  cause-stays changes = record { so = changes }

  cause-refused : (status : Status) → Causes v call turn (refused v status)
  cause-refused status = cause-done (cause-same v refl)

  cause-if : (test : Bool) (one other : Outcome) → (test ≡ true → Causes v call turn one) → (test ≡ false → Causes v call turn other) → Causes v call turn (if test then one else other)
  cause-if true one other holds fails = holds refl
  cause-if false one other holds fails = fails refl

  cause-option : {X : Type 0} (found : Option X) (some : X → Outcome) (none : Outcome) → ((x : X) → found ≡ Some x → Causes v call turn (some x)) → Causes v call turn none
      → Causes v call turn (option_map_or some found none)
  cause-option None some none with_some with_none = with_none
  cause-option (Some x) some none with_some with_none = with_some x refl

  -- ---- a cancellation

  cause-cancel : (number : ℕ) → IsTied v → call.what ≡ Ask (request.Cancel number) → Causes v call turn (try_cancel v call.client number)
  unfolding try_cancel
  cause-cancel number tied is =
      cause-option (number_of (is_call call.client number) v.pending) _ _
      (λ under pends. cause-done (cause-filter (with_cancelled v call.client number under) (λ o. not (is_granted_under under o)) tied refl
      (λ handle was found of_it gone. Cancelled number under is pends (under-its_call under was (not-false _ gone))))) (cause-refused _)

  -- ---- a close, and a leaving

  cause-close : (number : ℕ) → IsTied v → call.what ≡ Ask (request.Close number) → Causes v call turn (try_close v call.client number)
  unfolding try_close close_at
  cause-close number tied is =
      cause-option (handle_of v call.client number) _ _ (λ id named. cause-option (row_of v.handles id) _ _
      (λ row living. cause-done (cause-filter (with_closed v id row) (λ (o : Oplock). not (o.handle == id)) tied (closes v id row).oplocks
      (λ handle was found of_it gone. (let closed : was.handle ≡ id = eqb-true was.handle id (not-false _ gone) in Closed number is (named ∙ ap (λ h. Some h) (sym closed ∙ of_it))))))
      (cause-refused _)) (cause-refused _)

  cause-leave : IsTied v → call.what ≡ Leave → Causes v call turn (try_leave v call.client)
  unfolding try_leave
  cause-leave tied is = cause-done (cause-filter (with_client_gone v call.client) (λ (o : Oplock). not (is_among (handles_of_client v call.client) o.handle)) tied (client-gone v call.client)
      (λ handle was found of_it gone. Left is (rw of_it at (sym (among-open v call.client was.handle) ∙ not-false _ gone))))

  -- ---- an acknowledgement

  -- what is in both levels stays
  cause-kept : (number id : ℕ) (level target : Level) → call.what ≡ Ask (request.Ack number level) → handle_of v call.client number ≡ Some id → target_of v id ≡ Some target
      → has_read (in_both level target) ≡ true → HasCauses v call turn (with_level_kept v id (in_both level target) turn)
  cause-kept number id level target is named answers reads = record {
    now = λ handle oplock found. elim (option_cases (oplock_of v handle)) [
      | inl none ↦ (let impossible : None ≡ Some oplock = rw none at (sym (answered handle) ∙ found) in cc)
      | inr was ↦ (let left : Some (as_answered id (in_both level target) turn was.0) ≡ Some oplock = rw was.1 at (sym (answered handle) ∙ found) in
          let of_it : was.0.handle ≡ handle = eqb-true was.0.handle handle (find-passes (is_of handle) v.oplocks was.0 was.1) in
          elim (cases_Bool (was.0.handle == id)) [
            | inr other ↦ (let same : Some was.0 ≡ Some oplock = rw other at left in Same (was.1 ∙ same))
            | inl here ↦ (let own : id ≡ handle = sym (eqb-true was.0.handle id here) ∙ of_it in
                let now : oplock ≡ record was.0 { level = in_both level target; target = None; number = 0; call = Some turn } = (let new = rw here at left in cc) in
                let aimed : was.0.target ≡ Some target = rw (own, was.1) at answers in
                Kept number level target was.0 is (named ∙ ap (λ h. Some h) own) was.1 aimed reads now)
          ])
    ];
    gone = λ handle was found gone. absurd (let impossible : Some (as_answered id (in_both level target) turn was) ≡ None = rw found at (sym (answered handle) ∙ gone) in cc);
  }
    where
      answered : (handle : ℕ) → oplock_of (with_level_kept v id (in_both level target) turn) handle ≡ option_map (as_answered id (in_both level target) turn) (oplock_of v handle)
      answered handle = found-answered v.oplocks id (in_both level target) turn handle

  -- or nothing is, and the oplock goes
  cause-given_up : (number id : ℕ) (level target : Level) → IsTied v → call.what ≡ Ask (request.Ack number level) → handle_of v call.client number ≡ Some id → target_of v id ≡ Some target
      → has_read (in_both level target) ≡ false → HasCauses v call turn (without_oplock v id)
  cause-given_up number id level target tied is named answers none = cause-filter (without_oplock v id) (λ (o : Oplock). not (o.handle == id)) tied refl
      (λ handle was found of_it gone. (let own : id ≡ handle = sym (eqb-true was.handle id (not-false _ gone)) ∙ of_it in
      let aimed : was.target ≡ Some target = rw (own, found) at answers in GivenUp number level target is (named ∙ ap (λ h. Some h) own) aimed none))

  cause-ack : (number : ℕ) (level : Level) → IsTied v → call.what ≡ Ask (request.Ack number level) → Causes v call turn (try_ack v call.client number level turn)
  unfolding try_ack ack_at ack_keeping
  cause-ack number level tied is =
      cause-option (handle_of v call.client number) _ _ (λ id named. cause-option (target_of v id) _ _
      (λ target answers. cause-if (has_read (in_both level target)) _ _ (λ reads. cause-stays (cause-kept number id level target is named answers reads))
      (λ none. cause-done (cause-given_up number id level target tied is named answers none))) (cause-refused _)) (cause-refused _)

  -- ---- a request of an oplock

  -- a handle of a stream is granted one: it has that, and those of its key on the stream end
  cause-granted : (number id : ℕ) (level : Level) (row : Handle) (stream : ℕ) → IsTied v → call.what ≡ Ask (request.Oplock number level) → handle_of v call.client number ≡ Some id → row_of v.handles id ≡ Some row
      → row.stream ≡ Some stream → is_not_granted v id row.key stream level ≡ false → HasCauses v call turn (with_granted v id row.key stream level turn)
  cause-granted number id level row stream tied is named living on_it granted = record {
    now = λ handle oplock found. elim (cases_Bool (id == handle)) [
      | inr other ↦ Same (switched-before (switched v id row.key stream) v handle oplock tied.oplocks_differ (sym (found-other u.oplocks new handle other) ∙ found))
      | inl here ↦ (let own : id ≡ handle = eqb-true id handle here in let same : Some new ≡ Some oplock = sym (found-own handle own) ∙ found in
          let now : oplock ≡ as_granted handle (key_of v handle) level turn = (let first : oplock ≡ new = cc in first ∙ rw (← own, living) refl) in
          Granted number stream level is (named ∙ ap (λ h. Some h) own) (rw (← own) under_it) (rw (← own, living) granted) (rw (← own, living) refl) now)
    ];
    gone = λ handle was found gone. elim (cases_Bool (id == handle)) [
      | inl here ↦ (let impossible : Some new ≡ None = sym (found-own handle (eqb-true id handle here)) ∙ gone in cc)
      | inr other ↦ (let of_it : was.handle ≡ handle = eqb-true was.handle handle (find-passes (is_of handle) v.oplocks was found) in
          let gone_before : oplock_of u handle ≡ None = sym (found-other u.oplocks new handle other) ∙ gone in
          let both : (is_oplock_on v stream was && is_of_key id row.key was) ≡ true
          = sym (any_oplock (λ o. is_oplock_on v stream o && is_of_key id row.key o) v.oplocks handle was tied.oplocks_differ found) ∙ among handle was found gone_before in
          let on = and_left (is_oplock_on v stream was) (is_of_key id row.key was) both in
          let of_key = and_right (is_oplock_on v stream was) (is_of_key id row.key was) both in
          let free = unrefused (some_breaking (is_oplock_on v stream) v.oplocks) _ _ (some_writer (is_oplock_on v stream) id row.key v.oplocks) (some_more (is_oplock_on v stream) id row.key level v.oplocks) granted in
          Switched number id stream level is named (found-own id refl ∙ rw living refl) (rw living (own-key v handle was (Some id) row.key tied found ∙ of_key)) under_it
          (rw of_it at (stream-under v stream was on)) (unbroken v stream handle was found on free.0) (within v id row.key stream handle level was found on of_key free.1))
    ];
  }
    where
      u : Volume
      u = with_all_switched v id row.key stream

      new : Oplock
      new = as_granted id row.key level turn

      under_it : stream_under v (Some id) ≡ Some stream
      under_it = rw living on_it

      found-own : (handle : ℕ) → id ≡ handle → oplock_of (with_granted v id row.key stream level turn) handle ≡ Some new
      found-own handle own =
          (let none : oplock_of u id ≡ None = option_map-none (λ (o : Oplock). (o.level, o.target)) (oplock_of u id) (held-granted v id row.key stream row tied living refl on_it) in
          found-more u.oplocks new handle (ap (λ h. oplock_of u h) (sym own) ∙ none) (eq-eqb id handle own))

      -- one that is gone was switched
      among : (handle : ℕ) (was : Oplock) → oplock_of v handle ≡ Some was → oplock_of u handle ≡ None → list_any (is_of handle) (switched v id row.key stream) ≡ true
      among handle was found gone = elim (cases_Bool (list_any (is_of handle) (switched v id row.key stream))) [
        | inl is ↦ is
        | inr isnt ↦ (let none : held_in u.oplocks handle ≡ None = rw gone refl in
            let some : held_in u.oplocks handle ≡ Some (was.level, was.target) = held-all (switched v id row.key stream) v handle ∙ rw (isnt, found) refl in cc)
      ]

  cause-oplock : (number : ℕ) (level : Level) → IsTied v → call.what ≡ Ask (request.Oplock number level) → Causes v call turn (try_oplock v call.client number level turn)
  unfolding try_oplock oplock_at oplock_by oplock_on
  cause-oplock number level tied is =
      cause-option (handle_of v call.client number) _ _ (λ id named. cause-option (row_of v.handles id) _ _ (λ row living. cause-option row.stream _ _
      (λ stream on_it. cause-if (is_not_granted v id row.key stream level) _ _ (λ refuses. cause-refused _)
      (λ granted. cause-stays (cause-granted number id level row stream tied is named living on_it granted)))
      (cause-refused _)) (cause-refused _)) (cause-refused _)

-- ---- the calls

pub causes-of_call : (v : Volume) (call : Call) (turn : ℕ) (what : What) → IsTied v → call.what ≡ what → changes_own what ≡ true
    → HasCauses v call turn (volume_after (try_what v turn call.client call.number what))
causes-of_call v call turn (Ask (request.Oplock number level)) tied is own = Causes.so (cause-oplock number level tied is)
causes-of_call v call turn (Ask (request.Ack number level)) tied is own = Causes.so (cause-ack number level tied is)
causes-of_call v call turn (Ask (request.Close number)) tied is own = Causes.so (cause-close number tied is)
causes-of_call v call turn (Ask (request.Cancel number)) tied is own = Causes.so (cause-cancel number tied is)
causes-of_call v call turn Leave tied is own = Causes.so (cause-leave tied is)
causes-of_call v call turn _ tied is own = cc
