-- In a run each pending call but an open and a wait names a handle that its client has open, and a client that has left has no
-- pending call.
use Rattle.std.proofs.Common.{◌≡◌, ℕ, ◌≤◌, Bool, true, false, not, List, [], ◌∷◌, refl, ap, sym, subst, ◌∙◌, arith, eq-eqb, inl, inr, ◌⊎◌, Some, None}
use Rattle.std.specs.List.{All, filter, find, list_any}
use Rattle.std.specs.Prelude.{◌==◌, ◌&&◌, ◌||◌, get_or, nat_lt}
use Rattle.std.proofs.lemmas.Bool.{cases_Bool, eqb-true, not-true, or_cases}
use Rattle.std.proofs.lemmas.List.Elements.{All-head, All-tail}
use Rattle.fsa_types.specs.Rows.{row_of, IsNumbered}
use Rattle.fsa_types.specs.declared.reply.Blocker.{Blocker}
use Rattle.fsa_types.specs.declared.reply.Reply.{Reply}
use Rattle.fsa_types.specs.declared.request.Call.{Call}
use Rattle.fsa_types.specs.declared.request.Request.TheVariants.{Close}
use Rattle.fsa_types.specs.declared.request.What.{What}
use Rattle.fsa_types.specs.declared.request.What.TheVariants.{Ask, Leave}
use Rattle.fsa_types.specs.declared.status.Status.TheVariants.{Cancelled}
use Rattle.fsa_model.specs.Close.{close_at, closed_status, handle_named, handles_of_client, is_call_on, is_left_behind, is_open_or_wait, names, pending_by_turn, try_close, try_leave, with_all_closed, with_calls_ended, with_client_gone, with_closed}
use Rattle.fsa_model.specs.Edits.{is_call, with_end, with_pending}
use Rattle.fsa_model.specs.Engine.{CallsDiffer, own_tried}
use Rattle.fsa_model.specs.Frame.{is_leave}
use Rattle.fsa_model.specs.History.{HistoryEntry, Run, run}
use Rattle.fsa_model.specs.Lookups.{handle_of, has_left, is_opened_by}
use Rattle.fsa_model.specs.Once.{how_many, times}
use Rattle.fsa_model.specs.Outcome.{Outcome, Done, Stay, Hold}
use Rattle.fsa_model.specs.Settle.{Settling, starves, taken_up, taken_up_all, with_tried}
use Rattle.fsa_model.specs.Settling.{HasOneOplockEach, MaySettle, MayTurn}
use Rattle.fsa_model.specs.Setup.{Setup}
use Rattle.fsa_model.specs.Try.{try}
use Rattle.fsa_model.specs.Turn.{answered, settlement, turn_number, volume_after}
use Rattle.fsa_model.specs.Volume.{Handle, Pending, Volume, fresh}
use Rattle.fsa_model.specs.Waiting.{is_held, with_stalled}
use Rattle.fsa_model.proofs.CoherenceLaws.{All-in_order}
use Rattle.fsa_model.proofs.CountLaws.{and_left, and_right, how_many-append, how_many-either, how_many-filter, how_many-filter_le, how_many-in_order, how_many-none, how_many-some, how_many-weaker, some-how_many}
use Rattle.fsa_model.proofs.GrantedLaws.{closed-handles, find-filtered}
use Rattle.fsa_model.proofs.KeepLaws.{KeepsAll, Keeps-all_closed, Keeps-closed, Keeps-ended_by_turn}
use Rattle.fsa_model.proofs.OnceLaws.{fewer-calls_ended}
use Rattle.fsa_model.proofs.PendLaws.{HandlesStay, HandlesStay-same, HandlesStay-next}
use Rattle.fsa_model.proofs.RowLaws.{IsNumbered-filter, any-filter_none, find-all, find-any, find-none, option_cases, or_right, row_of-here}
use Rattle.fsa_model.proofs.SettleLaws.{IsNext, Steps, Steps-taken_up, next-may_be_held, try-tries}
use Rattle.fsa_model.proofs.TryLaws.{Leaves, SameNumbers, Tries, TriesTo}
use Rattle.fsa_model.proofs.TurnLaws.{stalled-kept, try-keeps}
use Rattle.fsa_model.proofs.WaitLaws.{All-kept, find-passes}
use Rattle.fsa_model.proofs.WatchLaws.{SameWatching, comes_over, watching-calls_ended}
use Rattle.history_laws.specs.WaitEnds.{leaves}
use Rattle.history_laws.proofs.AnyLaws.{and_none, any-never}
use Rattle.history_laws.proofs.HeldTries.{closed-pending}
use Rattle.history_laws.proofs.LeavingLaws.{ended-gone, tried_fewer}
use Rattle.history_laws.proofs.OpensStay.{EndsAtOnce, calling_off-ends, closes_handles, may_call_off, names_open_one, what-ends_at_once, what-stays_open}
use Rattle.history_laws.proofs.TurnByTurn.{new-call, own-may, run-keeps, settled-keeps}
use Rattle.history_laws.proofs.WaitRuns.{left-stalled, left-taken_up, left-try}
use Rattle.history_laws.proofs.TreeParts.{stalled-handles}

-- the call is no open and no wait, and names no handle that its client has open
abbrev is_astray : Volume → Call → Bool
is_astray v call = not (is_open_or_wait call.what) && not (names_open_one v call.client call.what)

-- no pending call is such a one; handles are numbered in order; and who has left has no pending call
pub record CallsNamed (v : Volume) : Type 0 where
  pub numbered : IsNumbered v.handles v.last_handle
  pub named : how_many (λ e. is_astray v e.1.call) v.pending ≡ 0
  pub quiet : (client : ℕ) → has_left v client ≡ true → how_many (λ e. e.1.call.client == client) v.pending ≡ 0

-- ---- where handles stay open

abbrev StillFound : Volume → Volume → Type 0
StillFound v w = (client number id : ℕ) → handle_of v client number ≡ Some id → handle_of w client number ≡ Some id

names-later : (v w : Volume) (client : ℕ) (what : What) → StillFound v w → names_open_one v client what ≡ true → names_open_one w client what ≡ true
names-later v w client (Ask asked) found is = elim (option_cases (handle_named asked)) [
  | inl none ↦ (let impossible : false ≡ true = rw none at is in cc)
  | inr number ↦ elim (option_cases (handle_of v client number.0)) [
    | inl none ↦ (let impossible : false ≡ true = rw (number.1, none) at is in cc)
    | inr id ↦ (let later = found client number.0 id.0 id.1 in rw (number.1, later) refl)
  ]
]
names-later v w client _ found is = cc

astray-by : (v w : Volume) (call : Call) → (names_open_one v call.client call.what ≡ true → names_open_one w call.client call.what ≡ true) → is_astray w call ≡ true → is_astray v call ≡ true
astray-by v w call later is = by (is_open_or_wait call.what) (names_open_one v call.client call.what) (names_open_one w call.client call.what) later is
  where
    by : (other a b : Bool) → (a ≡ true → b ≡ true) → (not other && not b) ≡ true → (not other && not a) ≡ true
    by true a b later is = is
    by false false b later is = refl
    by false true b later is = (let there : b ≡ true = later refl in let impossible : false ≡ true = rw there at is in cc)

astray-before : (v w : Volume) → StillFound v w → (call : Call) → is_astray w call ≡ true → is_astray v call ≡ true
astray-before v w found call is = astray-by v w call (λ named. names-later v w call.client call.what found named) is

-- handles stay open, no call becomes pending, and the same clients have left
record NamesOnward (v w : Volume) : Type 0 where
  stay : HandlesStay v w
  pending : (test : Call → Bool) → how_many (λ e. test e.1.call) w.pending ≤ how_many (λ e. test e.1.call) v.pending
  left : (client : ℕ) → has_left w client ≡ has_left v client

CallsNamed-onward : (v w : Volume) → NamesOnward v w → CallsNamed v → CallsNamed w
CallsNamed-onward v w on tidy = record {
  numbered = on.stay.numbered tidy.numbered;
  named =
      (let weaker = how_many-weaker (λ (e : ℕ × Pending). is_astray w e.1.call) (λ e. is_astray v e.1.call) w.pending (λ e is. astray-before v w on.stay.found e.1.call is) in
      let fewer = on.pending (λ call. is_astray v call) in let none = tidy.named in omega arith);
  quiet = λ client gone. (let before : has_left v client ≡ true = sym (on.left client) ∙ gone in let none = tidy.quiet client before in let fewer = on.pending (λ call. call.client == client) in omega arith);
}

NamesOnward-end : (v : Volume) (client number : ℕ) (reply : Reply) → NamesOnward v (with_end v client number reply)
NamesOnward-end v client number reply = record {
  stay = HandlesStay-same refl refl;
  pending = λ test. how_many-filter_le (λ (e : ℕ × Pending). test e.1.call) (λ e. not (is_call client number e.1)) v.pending;
  left = λ client. refl;
}

-- ---- a settlement

stay-tried : (v : Volume) (turn : ℕ) (pending : Pending) (outcome : Outcome) → TriesTo Leaves v outcome → HandlesStay v (with_tried turn pending outcome)
stay-tried v turn pending (Done w reply) tries = HandlesStay-next tries.0.stay (HandlesStay-same refl refl)
stay-tried v turn pending (Stay w interim) tries = absurd tries
stay-tried v turn pending (Hold w blockers interim) tries = HandlesStay-next tries.0.stay (HandlesStay-same refl refl)

stay-taken_up : (s : Settling) (entry : ℕ × Pending) → MaySettle s.volume → IsNext s.volume entry → HandlesStay s.volume (taken_up s entry).volume
stay-taken_up s entry may next = elim (cases_Bool (is_held entry.1)) [
  | inr free ↦ rw free (let comes = comes_over s entry.1 free next.ready in
      subst (λ (w : Volume). HandlesStay s.volume w) (sym comes.is) (HandlesStay-same comes.untouched.opens comes.untouched.numbers.handles))
  | inl held ↦ rw held (elim (cases_Bool (starves s.starved entry.1)) [
    | inl starving ↦ rw starving (HandlesStay-same refl refl)
    | inr plenty ↦ rw plenty (stay-tried s.volume entry.0 entry.1 (try s.volume entry.1.call entry.0) (Tries.so (try-tries s.volume entry.1.call entry.0 may.oplocks (next-may_be_held s.volume entry may next held))))
  ])
]

pub CallsNamed-taken_up : (s : Settling) (entry : ℕ × Pending) → MaySettle s.volume → IsNext s.volume entry → CallsNamed s.volume → CallsNamed (taken_up s entry).volume
CallsNamed-taken_up s entry may next tidy = CallsNamed-onward s.volume (taken_up s entry).volume (record {
  stay = stay-taken_up s entry may next;
  pending = λ test. Steps.pending (Steps-taken_up s entry may next) (λ turn call. test call);
  left = λ client. left-taken_up client s entry may next;
}) tidy

pub CallsNamed-stalled : (v : Volume) → CallsNamed v → CallsNamed (with_stalled v)
CallsNamed-stalled v tidy = CallsNamed-onward v (with_stalled v) (record {
  stay = HandlesStay-same (stalled-handles v) (stalled-kept v).same.handles;
  pending = λ test. (stalled-kept v).kept.keeps.pending (λ e. test e.1.call);
  left = λ client. rw (left-stalled client v) refl;
}) tidy

-- ---- a handle closes

closed-fewer : (v : Volume) (id : ℕ) (handle : Handle) (test : ℕ × Pending → Bool) → how_many test (with_closed v id handle).pending ≤ how_many test v.pending
closed-fewer v id handle test = (Keeps-closed v id handle).kept.keeps.pending test

-- the calls that name it have ended
pub closed-gone : (v : Volume) (id : ℕ) (handle : Handle) → how_many (λ e. is_call_on handle e.1) (with_closed v id handle).pending ≡ 0
closed-gone v id handle = rw (closed-pending v id handle) (ended-gone closed_status (is_call_on handle) v)

-- no handle but this one has its number
abbrev pub IsOnly : List (ℕ × Handle) → ℕ × Handle → Type 0
IsOnly handles entry = list_any (λ h. h.0 == entry.0 && not (is_opened_by entry.1.client entry.1.number h.1)) handles ≡ false

pub only-numbered : (handles : List (ℕ × Handle)) (last : ℕ) (entry : ℕ × Handle) → IsNumbered handles last → row_of handles entry.0 ≡ Some entry.1 → IsOnly handles entry
only-numbered handles last entry numbered row = elim (option_cases (find other handles)) [
  | inl none ↦ find-none other handles none
  | inr some ↦ absurd (impossible some.0 some.1)
]
  where
    other : ℕ × Handle → Bool
    other h = h.0 == entry.0 && not (is_opened_by entry.1.client entry.1.number h.1)

    impossible : (h : ℕ × Handle) → find other handles ≡ Some h → ⊥
    impossible h found =
        let passes : other h ≡ true = find-passes other handles h found in
        let here : h.0 ≡ entry.0 = eqb-true h.0 entry.0 (and_left (h.0 == entry.0) (not (is_opened_by entry.1.client entry.1.number h.1)) passes) in
        let own : row_of handles h.0 ≡ Some h.1 = find-all (λ (entry : ℕ × Handle). row_of handles entry.0 ≡ Some entry.1) other handles h found (λ k d within. row_of-here handles last k d numbered within) in
        let both : Some entry.1 ≡ Some h.1 = sym row ∙ ap (λ (n : ℕ). row_of handles n) (sym here) ∙ own in
        let same : h.1 ≡ entry.1 = cc in
        let fails : not (is_opened_by entry.1.client entry.1.number h.1) ≡ true = and_right (h.0 == entry.0) (not (is_opened_by entry.1.client entry.1.number h.1)) passes in
        let impossible : false ≡ true = rw (same, eq-eqb entry.1.client entry.1.client refl, eq-eqb entry.1.number entry.1.number refl) at fails in cc

-- another handle is still found
closed-found : (v : Volume) (entry : ℕ × Handle) → IsOnly v.handles entry → (client number other : ℕ) → (client == entry.1.client && number == entry.1.number) ≡ false
    → handle_of v client number ≡ Some other → handle_of (with_closed v entry.0 entry.1) client number ≡ Some other
closed-found v entry only client number other differs is = elim (option_cases (find (λ (h : ℕ × Handle). is_opened_by client number h.1) v.handles)) [
  | inl none ↦ (let impossible : None ≡ Some other = rw none at is in cc)
  | inr some ↦ (let later = find-filtered (λ (h : ℕ × Handle). is_opened_by client number h.1) (λ h. not (h.0 == entry.0)) v.handles some.0 some.1 (stays some.0 some.1) in
      rw (closed-handles v entry.0 entry.1, later) (rw some.1 at is))
]
  where
    stays : (h : ℕ × Handle) → find (λ (h : ℕ × Handle). is_opened_by client number h.1) v.handles ≡ Some h → not (h.0 == entry.0) ≡ true
    stays h found = elim (cases_Bool (h.0 == entry.0)) [
      | inr apart ↦ rw apart refl
      | inl here ↦ absurd (
          let own : is_opened_by client number h.1 ≡ true = find-passes (λ (h : ℕ × Handle). is_opened_by client number h.1) v.handles h found in
          let by : h.1.client ≡ client = eqb-true h.1.client client (and_left (h.1.client == client) (h.1.number == number) own) in
          let numbered : h.1.number ≡ number = eqb-true h.1.number number (and_right (h.1.client == client) (h.1.number == number) own) in
          let isnt : is_opened_by entry.1.client entry.1.number h.1 ≡ false = rw (by, numbered) differs in
          let there = find-any (λ (h : ℕ × Handle). is_opened_by client number h.1) (λ h. h.0 == entry.0 && not (is_opened_by entry.1.client entry.1.number h.1)) v.handles h found (rw (here, isnt) refl) in
          let impossible : true ≡ false = sym there ∙ only in cc)
    ]

names-closed : (v : Volume) (entry : ℕ × Handle) → IsOnly v.handles entry → (client : ℕ) (what : What) → (client == entry.1.client && names what entry.1.number) ≡ false
    → names_open_one v client what ≡ true → names_open_one (with_closed v entry.0 entry.1) client what ≡ true
names-closed v entry only client (Ask asked) apart is = elim (option_cases (handle_named asked)) [
  | inl none ↦ (let impossible : false ≡ true = rw none at is in cc)
  | inr number ↦ elim (option_cases (handle_of v client number.0)) [
    | inl none ↦ (let impossible : false ≡ true = rw (number.1, none) at is in cc)
    | inr id ↦ (let differs : (client == entry.1.client && number.0 == entry.1.number) ≡ false = rw number.1 at apart in
        let later = closed-found v entry only client number.0 id.0 differs id.1 in rw (number.1, later) refl)
  ]
]
names-closed v entry only client _ apart is = cc

-- handles are numbered in order, and no pending call is astray
record InOrder (v : Volume) : Type 0 where
  numbered : IsNumbered v.handles v.last_handle
  named : how_many (λ e. is_astray v e.1.call) v.pending ≡ 0

InOrder-closed : (v : Volume) (entry : ℕ × Handle) → IsOnly v.handles entry → InOrder v → InOrder (with_closed v entry.0 entry.1)
InOrder-closed v entry only before = record {
  numbered = rw (closed-handles v entry.0 entry.1, SameNumbers.handles (KeepsAll.same (Keeps-closed v entry.0 entry.1))) (IsNumbered-filter (λ (h : ℕ × Handle). not (h.0 == entry.0)) v.handles v.last_handle before.numbered);
  named =
      (let either = how_many-either (λ (e : ℕ × Pending). is_call_on entry.1 e.1) (λ e. is_astray v e.1.call) (λ e. is_astray closed e.1.call) closed.pending (λ e is. cases e is) in
      let gone = closed-gone v entry.0 entry.1 in let fewer = closed-fewer v entry.0 entry.1 (λ e. is_astray v e.1.call) in let none = before.named in omega arith);
}
  where
    closed : Volume
    closed = with_closed v entry.0 entry.1

    cases : (e : ℕ × Pending) → is_astray closed e.1.call ≡ true → (is_call_on entry.1 e.1 ≡ true) ⊎ (is_astray v e.1.call ≡ true)
    cases e is = elim (cases_Bool (is_call_on entry.1 e.1)) [
      | inl on ↦ inl on
      | inr apart ↦ inr (astray-by v closed e.1.call (λ named. names-closed v entry only e.1.call.client e.1.call.what apart named) is)
    ]

InOrder-all_closed : (handles : List (ℕ × Handle)) (v : Volume) → All (λ entry. IsOnly v.handles entry) handles → InOrder v → InOrder (with_all_closed handles v)
InOrder-all_closed [] v only before = before
InOrder-all_closed (entry ∷ handles) v only before =
    InOrder-all_closed handles (with_closed v entry.0 entry.1)
    (λ k d within. (let rest : All (λ entry. IsOnly v.handles entry) handles = All-tail (λ (entry : ℕ × Handle). IsOnly v.handles entry) entry handles only in
    rw (closed-handles v entry.0 entry.1) (any-filter_none _ (λ (h : ℕ × Handle). not (h.0 == entry.0)) v.handles (rest k d within))))
    (InOrder-closed v entry (All-head (λ (entry : ℕ × Handle). IsOnly v.handles entry) entry handles only) before)

-- ---- a client leaves

all_closed-gone : (handles : List (ℕ × Handle)) (v : Volume) → how_many (λ e. list_any (λ h. is_call_on h.1 e.1) handles) (with_all_closed handles v).pending ≡ 0
all_closed-gone [] v = how_many-none (λ e. false) v.pending (any-never (λ e. false) v.pending (λ e. refl))
all_closed-gone (entry ∷ handles) v =
    let after : Volume = with_all_closed handles (with_closed v entry.0 entry.1) in
    let either = how_many-either (λ (e : ℕ × Pending). is_call_on entry.1 e.1) (λ e. list_any (λ h. is_call_on h.1 e.1) handles) (λ e. is_call_on entry.1 e.1 || list_any (λ h. is_call_on h.1 e.1) handles) after.pending
    (λ e is. or_cases (is_call_on entry.1 e.1) (list_any (λ h. is_call_on h.1 e.1) handles) is) in
    let first = closed-gone v entry.0 entry.1 in
    let fewer = (Keeps-all_closed handles (with_closed v entry.0 entry.1)).kept.keeps.pending (λ e. is_call_on entry.1 e.1) in
    let rest = all_closed-gone handles (with_closed v entry.0 entry.1) in omega arith

module _ (v : Volume) (client : ℕ) where
  abbrev left_ended : Volume
  left_ended = with_calls_ended (λ _. Cancelled) (pending_by_turn (is_left_behind client) v) v

  -- a pending call that names an open handle of the client ends with one of its handles
  on_one : (e : ℕ × Pending) → (e.1.call.client == client) ≡ true → names_open_one v e.1.call.client e.1.call.what ≡ true → list_any (λ h. is_call_on h.1 e.1) (handles_of_client v client) ≡ true
  on_one e its named = by e.1.call.what refl named
    where
      among : (number : ℕ) (h : ℕ × Handle) → names e.1.call.what number ≡ true → find (λ (h : ℕ × Handle). is_opened_by e.1.call.client number h.1) v.handles ≡ Some h → list_any (λ h. is_call_on h.1 e.1) (handles_of_client v client) ≡ true
      among number h names_it found =
          let own : is_opened_by e.1.call.client number h.1 ≡ true = find-passes (λ (h : ℕ × Handle). is_opened_by e.1.call.client number h.1) v.handles h found in
          let by_it : h.1.client ≡ e.1.call.client = eqb-true h.1.client e.1.call.client (and_left (h.1.client == e.1.call.client) (h.1.number == number) own) in
          let numbered : h.1.number ≡ number = eqb-true h.1.number number (and_right (h.1.client == e.1.call.client) (h.1.number == number) own) in
          let there = how_many-some (λ (h : ℕ × Handle). h.1.client == client && is_call_on h.1 e.1) v.handles
          (find-any (λ (h : ℕ × Handle). is_opened_by e.1.call.client number h.1) (λ h. h.1.client == client && is_call_on h.1 e.1) v.handles h found
          (rw (by_it, numbered, its, names_it, eq-eqb e.1.call.client e.1.call.client refl) refl)) in
          let kept = how_many-filter (λ (h : ℕ × Handle). is_call_on h.1 e.1) (λ h. h.1.client == client) v.handles in
          let ordered = how_many-in_order (λ (h : ℕ × Handle). is_call_on h.1 e.1) (λ a b. nat_lt a.1.number b.1.number) (filter (λ (h : ℕ × Handle). h.1.client == client) v.handles) in
          some-how_many (λ (h : ℕ × Handle). is_call_on h.1 e.1) (handles_of_client v client) (omega arith)

      by : (what : What) → e.1.call.what ≡ what → names_open_one v e.1.call.client what ≡ true → list_any (λ h. is_call_on h.1 e.1) (handles_of_client v client) ≡ true
      by (Ask asked) is opens = elim (option_cases (handle_named asked)) [
        | inl none ↦ (let impossible : false ≡ true = rw none at opens in cc)
        | inr number ↦ elim (option_cases (find (λ (h : ℕ × Handle). is_opened_by e.1.call.client number.0 h.1) v.handles)) [
          | inl none ↦ (let impossible : false ≡ true = rw (number.1, none) at opens in cc)
          | inr some ↦ among number.0 some.0 (rw (is, number.1) (eq-eqb number.0 number.0 refl)) some.1
        ]
      ]
      by _ is opens = cc

  closed-none : how_many (λ e. is_astray v e.1.call) v.pending ≡ 0 → how_many (λ e. e.1.call.client == client) (with_all_closed (handles_of_client v client) left_ended).pending ≡ 0
  closed-none named =
      let closed : Volume = with_all_closed (handles_of_client v client) left_ended in
      let kept = Keeps-all_closed (handles_of_client v client) left_ended in
      let behind = ended-gone (λ _. Cancelled) (is_left_behind client) v in
      let fewer_behind = kept.kept.keeps.pending (λ e. is_left_behind client e.1) in
      let on = all_closed-gone (handles_of_client v client) left_ended in
      let fewer_astray = kept.kept.keeps.pending (λ e. is_astray v e.1.call) in
      let before = fewer-calls_ended (λ _. Cancelled) (pending_by_turn (is_left_behind client) v) v (λ e. is_astray v e.1.call) in
      let either = how_many-either (λ (e : ℕ × Pending). is_left_behind client e.1) on_or_astray (λ e. e.1.call.client == client) closed.pending (λ e its. cases e its) in
      let other = how_many-either (λ (e : ℕ × Pending). list_any (λ h. is_call_on h.1 e.1) (handles_of_client v client)) (λ e. is_astray v e.1.call) on_or_astray closed.pending (λ e is. or_cases _ _ is) in
      omega arith
    where
      on_or_astray : ℕ × Pending → Bool
      on_or_astray e = list_any (λ h. is_call_on h.1 e.1) (handles_of_client v client) || is_astray v e.1.call

      cases : (e : ℕ × Pending) → (e.1.call.client == client) ≡ true → (is_left_behind client e.1 ≡ true) ⊎ (on_or_astray e ≡ true)
      cases e its = elim (cases_Bool (is_open_or_wait e.1.call.what)) [
        | inl is ↦ inl (rw (its, is) refl)
        | inr isnt ↦ inr (elim (cases_Bool (names_open_one v e.1.call.client e.1.call.what)) [
          | inl opens ↦ rw (on_one e its opens) refl
          | inr none ↦ rw (isnt, none) (or_right (list_any (λ h. is_call_on h.1 e.1) (handles_of_client v client)) true refl)
        ])
      ]

  pub leave-gone : how_many (λ e. is_astray v e.1.call) v.pending ≡ 0 → how_many (λ e. e.1.call.client == client) (with_client_gone v client).pending ≡ 0
  unfolding with_client_gone
  leave-gone named = closed-none named

-- ---- the try of a turn's own call

open-stays : (client : ℕ) (call : Call) → closes_handles call.what ≡ false → leaves client call ≡ false
open-stays client call other = by call.what other
  where
    by : (what : What) → closes_handles what ≡ false → (call.client == client && is_leave what) ≡ false
    by Leave other = absurd (let impossible : true ≡ false = other in cc)
    by (Ask asked) other = and_none (call.client == client) false refl
    by _ other = and_none (call.client == client) false refl

module _ (v : Volume) (call : Call) (turn : ℕ) (one : HasOneOplockEach v) (tidy : CallsNamed v) where
  abbrev after : Volume
  after = volume_after (try v call turn)

  fewer : (test : ℕ × Pending → Bool) → how_many test after.pending ≤ how_many test v.pending
  fewer test = tried_fewer v turn call.what (try v call turn) (try-keeps v call turn one) test

  named-stays : closes_handles call.what ≡ false → CallsNamed after
  named-stays other = CallsNamed-onward v after (record {
    stay = elim (cases_Bool (has_left v call.client)) [
      | inl gone ↦ rw gone (HandlesStay-same refl refl)
      | inr here ↦ rw here (what-stays_open v turn call.client call.number call.what one other)
    ];
    pending = λ test. fewer (λ e. test e.1.call);
    left = λ client. left-try client v call turn (open-stays client call other);
  }) tidy

  quiet-other : (client : ℕ) → leaves client call ≡ false → has_left after client ≡ true → how_many (λ e. e.1.call.client == client) after.pending ≡ 0
  quiet-other client stays gone =
      let before : has_left v client ≡ true = sym (left-try client v call turn stays) ∙ gone in
      let none = tidy.quiet client before in let less = fewer (λ e. e.1.call.client == client) in omega arith

  in_order-close : (handle : ℕ) → InOrder (volume_after (try_close v call.client handle))
  unfolding try_close close_at
  in_order-close handle = elim (option_cases (handle_of v call.client handle)) [
    | inl none ↦ rw none (record { numbered = tidy.numbered; named = tidy.named })
    | inr id ↦ rw id.1 (elim (option_cases (row_of v.handles id.0)) [
      | inl none ↦ rw none (record { numbered = tidy.numbered; named = tidy.named })
      | inr row ↦ rw row.1 (InOrder-closed v (id.0, row.0) (only-numbered v.handles v.last_handle (id.0, row.0) tidy.numbered row.1) (record { numbered = tidy.numbered; named = tidy.named }))
    ])
  ]

  in_order-leave : InOrder (volume_after (try_leave v call.client))
  unfolding try_leave with_client_gone
  in_order-leave =
      let only : All (λ entry. IsOnly (left_ended v call.client).handles entry) (handles_of_client v call.client)
      = All-in_order (λ entry. IsOnly (left_ended v call.client).handles entry) (λ a b. nat_lt a.1.number b.1.number) (filter (λ (h : ℕ × Handle). h.1.client == call.client) v.handles)
      (All-kept (λ entry. IsOnly (left_ended v call.client).handles entry) (λ h. h.1.client == call.client) v.handles
      (λ k d within passes. rw same.handles (only-numbered v.handles v.last_handle (get_or v.handles k d) tidy.numbered (row_of-here v.handles v.last_handle k d tidy.numbered within)))) in
      let closed : InOrder (with_all_closed (handles_of_client v call.client) (left_ended v call.client)) = InOrder-all_closed (handles_of_client v call.client) (left_ended v call.client) only ended in
      record { numbered = closed.numbered; named = closed.named }
    where
      same : SameWatching v (left_ended v call.client)
      same = watching-calls_ended (λ _. Cancelled) (pending_by_turn (is_left_behind call.client) v) v

      ended : InOrder (left_ended v call.client)
      ended = record {
        numbered = rw (same.handles, SameNumbers.handles (KeepsAll.same (Keeps-ended_by_turn (λ _. Cancelled) (is_left_behind call.client) v))) tidy.numbered;
        named =
            (let weaker = how_many-weaker (λ (e : ℕ × Pending). is_astray (left_ended v call.client) e.1.call) (λ e. is_astray v e.1.call) (left_ended v call.client).pending
            (λ e is. astray-before v (left_ended v call.client) (λ client number id found. rw same.handles found) e.1.call is) in
            let less = fewer-calls_ended (λ _. Cancelled) (pending_by_turn (is_left_behind call.client) v) v (λ e. is_astray v e.1.call) in
            let none = tidy.named in omega arith);
      }

  leave-none : how_many (λ e. e.1.call.client == call.client) (volume_after (try_leave v call.client)).pending ≡ 0
  unfolding try_leave
  leave-none = leave-gone v call.client tidy.named

  named-closing : (what : What) → call.what ≡ what → has_left v call.client ≡ false → closes_handles what ≡ true → CallsNamed after
  named-closing (Ask (Close handle)) is here closing =
      let ordered : InOrder after = rw (here, is) (in_order-close handle) in
      record { numbered = ordered.numbered; named = ordered.named; quiet = λ client gone. quiet-other client (rw is (and_none (call.client == client) false refl)) gone }
  named-closing Leave is here closing =
      let ordered : InOrder after = rw (here, is) in_order-leave in
      record {
        numbered = ordered.numbered;
        named = ordered.named;
        quiet = λ client gone. elim (cases_Bool (call.client == client)) [
          | inr other ↦ quiet-other client (rw other refl) gone
          | inl own ↦ (let same : client ≡ call.client = sym (eqb-true call.client client own) in rw (here, is, same) leave-none)
        ];
      }
  named-closing _ is here closing = absurd (let impossible : false ≡ true = closing in cc)

  named-tried : CallsNamed after
  named-tried = elim (cases_Bool (closes_handles call.what)) [
    | inr other ↦ named-stays other
    | inl closing ↦ elim (cases_Bool (has_left v call.client)) [
      | inl gone ↦ rw gone tidy
      | inr here ↦ named-closing call.what refl here closing
    ]
  ]

  -- a call that stays pending names an open handle, or is an open or a wait; and its client hasn't left
  ends-or_named : EndsAtOnce (try v call turn) ⊎ ((is_astray after call ≡ false) × (has_left after call.client ≡ false))
  ends-or_named = elim (cases_Bool (has_left v call.client)) [
    | inl gone ↦ rw gone (inl tt)
    | inr here ↦ elim (cases_Bool (closes_handles call.what)) [
      | inl closing ↦ inl (rw here (calling_off-ends v turn call.client call.number call.what (may call.what closing)))
      | inr other ↦ elim (cases_Bool (is_astray v call)) [
        | inl astray ↦ inl (rw here (what-ends_at_once v turn call.client call.number call.what (not-true (is_open_or_wait call.what) (and_left (not (is_open_or_wait call.what)) (not (names_open_one v call.client call.what)) astray)) (not-true (names_open_one v call.client call.what) (and_right (not (is_open_or_wait call.what)) (not (names_open_one v call.client call.what)) astray))))
        | inr named ↦ inr (not_astray other named here, left-try call.client v call turn (open-stays call.client call other) ∙ here)
      ]
    ]
  ]
    where
      may : (what : What) → closes_handles what ≡ true → may_call_off what ≡ true
      may (Ask (Close handle)) closing = refl
      may Leave closing = refl
      may _ closing = absurd (let impossible : false ≡ true = closing in cc)

      not_astray : closes_handles call.what ≡ false → is_astray v call ≡ false → has_left v call.client ≡ false → is_astray after call ≡ false
      not_astray other named here = elim (cases_Bool (is_astray after call)) [
        | inr is ↦ is
        | inl astray ↦ (let stay : HandlesStay v after = rw here (what-stays_open v turn call.client call.number call.what one other) in
            let before = astray-before v after stay.found call astray in let impossible : true ≡ false = sym before ∙ named in cc)
      ]

CallsNamed-pending : (v : Volume) (turn : ℕ) (call : Call) (blockers : List Blocker) → is_astray v call ≡ false → has_left v call.client ≡ false → CallsNamed v → CallsNamed (with_pending v turn call blockers)
CallsNamed-pending v turn call blockers named here tidy = record {
  numbered = tidy.numbered;
  named =
      (let all = how_many-append (λ (e : ℕ × Pending). is_astray v e.1.call) v.pending ((turn, record { call = call; blockers = blockers }) ∷ []) in
      let one : how_many (λ (e : ℕ × Pending). is_astray v e.1.call) ((turn, record { call = call; blockers = blockers }) ∷ []) ≡ 0 = rw named refl in
      let none = tidy.named in omega arith);
  quiet = λ client gone.
      (let all = how_many-append (λ (e : ℕ × Pending). e.1.call.client == client) v.pending ((turn, record { call = call; blockers = blockers }) ∷ []) in
      let one : how_many (λ (e : ℕ × Pending). e.1.call.client == client) ((turn, record { call = call; blockers = blockers }) ∷ []) ≡ 0 = rw (other client gone) refl in
      let none = tidy.quiet client gone in omega arith);
}
  where
    other : (client : ℕ) → has_left v client ≡ true → (call.client == client) ≡ false
    other client gone = elim (cases_Bool (call.client == client)) [
      | inr isnt ↦ isnt
      | inl is ↦ (let same : call.client ≡ client = eqb-true call.client client is in let impossible : true ≡ false = sym gone ∙ ap (has_left v) (sym same) ∙ here in cc)
    ]

CallsNamed-answered : (call : Call) (turn : ℕ) (outcome : Outcome) → EndsAtOnce outcome ⊎ ((is_astray (volume_after outcome) call ≡ false) × (has_left (volume_after outcome) call.client ≡ false)) → CallsNamed (volume_after outcome) → CallsNamed (answered call turn outcome)
CallsNamed-answered call turn (Done w reply) how tidy = CallsNamed-onward w (with_end w call.client call.number reply) (NamesOnward-end w call.client call.number reply) tidy
CallsNamed-answered call turn (Stay w interim) (inl ends) tidy = absurd ends
CallsNamed-answered call turn (Stay w interim) (inr how) tidy = CallsNamed-pending w turn call [] how.0 how.1 tidy
CallsNamed-answered call turn (Hold w blockers interim) (inl ends) tidy = absurd ends
CallsNamed-answered call turn (Hold w blockers interim) (inr how) tidy = CallsNamed-pending w turn call blockers how.0 how.1 tidy

pub CallsNamed-own : (v : Volume) (call : Call) → HasOneOplockEach v → CallsNamed v → CallsNamed (own_tried v call)
CallsNamed-own v call one tidy = CallsNamed-answered call (turn_number v) (try v call (turn_number v)) (ends-or_named v call (turn_number v) one tidy) (named-tried v call (turn_number v) one tidy)

-- ---- over a run

CallsNamed-turn : (v : Volume) (entry : HistoryEntry) (later : List HistoryEntry) → MayTurn v → times entry.call.client entry.call.number v ≡ 0 → CallsNamed v → CallsNamed (settlement v entry.call entry.starved).volume
CallsNamed-turn v entry later may new tidy =
    settled-keeps CallsNamed (λ s next may is before. CallsNamed-taken_up s next may is before) v entry.call entry.starved (own-may v entry.call may new)
    (λ before. CallsNamed-stalled (taken_up_all (own_tried v entry.call) entry.starved).volume before) (CallsNamed-own v entry.call may.take_up.may.oplocks tidy)

pub CallsNamed-fresh : (setup : Setup) → CallsNamed (fresh setup)
CallsNamed-fresh setup = record { numbered = record { rising = λ j k d less within. absurd (omega arith); given = λ k d within. absurd (omega arith) }; named = refl; quiet = λ client gone. refl }

pub run-calls_named : (setup : Setup) (history : List HistoryEntry) (r : Run) → CallsDiffer history → run setup history ≡ Some r → CallsNamed r.volume
run-calls_named setup history r differ runs =
    run-keeps (λ v later. CallsNamed v) (λ v entry later may differ turns tidy. CallsNamed-turn v entry later may (new-call v entry later differ) tidy) setup history r differ (CallsNamed-fresh setup) runs
