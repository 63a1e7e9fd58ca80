-- A pending call that asks for no oplock, and answers no break, stays as it is in the try of a call, unless that calls it off.
use Rattle.std.proofs.Common.{◌≡◌, ℕ, ◌≤◌, Bool, true, false, not, List, [], ◌∷◌, refl, arith, eq-eqb, inl, inr, Option, Some, None}
use Rattle.std.specs.List.{filter, fold, list_any, All}
use Rattle.std.specs.Option.{option_map_or}
use Rattle.std.specs.Prelude.{◌==◌, ◌&&◌, nat_lt, option_and_then, if◌then◌else◌}
use Rattle.std.proofs.lemmas.Bool.{cases_Bool, eqb-true}
use Rattle.std.proofs.lemmas.List.Elements.{All-head, All-tail}
use Rattle.fsa_types.specs.Oplocks.{Effect, Stays, Ends, Begins, Lowers}
use Rattle.fsa_types.specs.Rows.{row_of}
use Rattle.fsa_types.specs.declared.oplock.Class.{Class}
use Rattle.fsa_types.specs.declared.reply.Body.TheVariants.{Broken as IsBroken, Nothing}
use Rattle.fsa_types.specs.declared.reply.Interim.TheVariants.{Granted}
use Rattle.fsa_types.specs.declared.reply.Reply.{Reply}
use Rattle.fsa_types.specs.declared.request.Call.{Call}
use Rattle.fsa_types.specs.declared.request.Level.{Level}
use Rattle.fsa_types.specs.declared.request.Level.TheVariants.{Nil}
use Rattle.fsa_types.specs.declared.request.Request.TheVariants.{Ack, Cancel, Close, Oplock as OplockRequest, Unlock}
use Rattle.fsa_types.specs.declared.request.What.{What}
use Rattle.fsa_types.specs.declared.request.What.TheVariants.{Ask, Leave}
use Rattle.fsa_types.specs.declared.status.Status.{Status}
use Rattle.fsa_types.specs.declared.status.Status.TheVariants.{Cancelled, OplockSwitchedToNewHandle, Success}
use Rattle.fsa_model.specs.Breaks.{chosen, is_broken_before, is_chosen, with_break_begun, with_breaks, with_effect}
use Rattle.fsa_model.specs.Close.{close_at, closed_status, handles_of_client, is_call_on, is_left_behind, pending_by_turn, try_close, try_leave, with_all_closed, with_calls_ended, with_client_gone, with_closed, with_mark_on_close}
use Rattle.fsa_model.specs.Edits.{is_call, with_end, without_handle, without_lock, without_oplock}
use Rattle.fsa_model.specs.Grant.{ack_at, ack_keeping, oplock_at, oplock_by, oplock_on, switched, try_ack, try_oplock, with_granted, with_level_kept, with_switched}
use Rattle.fsa_model.specs.Locking.{try_unlock, unlock_at, unlock_by, unlock_range}
use Rattle.fsa_model.specs.Lookups.{handle_of, has_left, number_of}
use Rattle.fsa_model.specs.Once.{IsOnce, how_many, times}
use Rattle.fsa_model.specs.Outcome.{Outcome, Done, Stay, ends_with, refused}
use Rattle.fsa_model.specs.Try.{try, try_what}
use Rattle.fsa_model.specs.Turn.{volume_after}
use Rattle.fsa_model.specs.Volume.{Handle, Oplock, Pending, Volume}
use Rattle.fsa_model.specs.Waiting.{is_granted_under, try_cancel}
use Rattle.fsa_model.proofs.CoherenceLaws.{All-in_order}
use Rattle.fsa_model.proofs.CountLaws.{and_left, and_right, and_true, how_many-filter_le, how_many-in_order, how_many-none, how_many-split, how_many-weaker, none-how_many, only-one, some-how_many}
use Rattle.fsa_model.proofs.GrantLaws.{KeepsAll-all_switched}
use Rattle.fsa_model.proofs.KeepLaws.{KeepsAll, Keeps-closed, Keeps-ended_by_turn, Untouched-mark_on_close, Untouched-swept}
use Rattle.fsa_model.proofs.OnceLaws.{IsOnce-kept, is_call_of}
use Rattle.fsa_model.proofs.PendLaws.{found-under}
use Rattle.fsa_model.proofs.RowLaws.{any-weaker, option_cases}
use Rattle.fsa_model.proofs.TryLaws.{Keeps, Keeps-breaks, Keeps-effect, KeepsNumbers, Untouched, Untouched-next}
use Rattle.fsa_model.proofs.WaitLaws.{All-kept, done_to}
use Rattle.history_laws.specs.Holding.{asks_oplock, calls_off}
use Rattle.history_laws.proofs.AnyLaws.{any-kept, both_ends}
use Rattle.history_laws.proofs.ByBreaks.{ByBreaks, Still, Locked, Broken, Next, TriesByBreaks}
use Rattle.history_laws.proofs.CallsApart.{calls-apart, calls-stay, ends-stay}
use Rattle.history_laws.proofs.TriesByBreaks.{changes_otherwise, what-by_breaks}

pub closed-pending : (v : Volume) (id : ℕ) (handle : Handle) → (with_closed v id handle).pending ≡ (with_calls_ended closed_status (pending_by_turn (is_call_on handle) v) v).pending
unfolding with_closed
closed-pending v id handle =
    let gone : Volume = without_handle (with_calls_ended closed_status (pending_by_turn (is_call_on handle) v) v) id in
    Untouched.pending (Untouched-next (Untouched-mark_on_close gone handle) (Untouched-swept (with_mark_on_close gone handle) handle))

-- an oplock that is granted is the first of these
granted-first : (o : Oplock) (oplocks : List Oplock) (turn : ℕ) → o.call ≡ Some turn → 1 ≤ how_many (is_granted_under turn) (o ∷ oplocks)
granted-first o oplocks turn is = (let here : is_granted_under turn o ≡ true = rw (is, eq-eqb turn turn refl) refl in rw here (omega arith))

-- ---- what passes a test stays where no oplock is granted to it

module _ (T : ℕ × Pending → Bool) where
  abbrev Keep : Volume → Volume → Type 0
  Keep v w = list_any T v.pending ≡ true → list_any T w.pending ≡ true

  -- no call under this turn passes
  abbrev NoneUnder : ℕ → Volume → Type 0
  NoneUnder turn v = how_many (λ e. e.0 == turn && T e) v.pending ≡ 0

  -- no oplock is granted to one that passes
  abbrev pub GrantsNone : Volume → Type 0
  GrantsNone v = (turn : ℕ) → 1 ≤ how_many (is_granted_under turn) v.oplocks → NoneUnder turn v

  GrantsNone-kept : (v w : Volume) → Keeps v w → GrantsNone v → GrantsNone w
  GrantsNone-kept v w keeps none turn some =
      let fewer = keeps.granted turn in
      let none_there : NoneUnder turn v = none turn (omega arith) in
      let fewer_there = keeps.pending (λ e. e.0 == turn && T e) in
      omega arith

  -- the call under a turn ends
  keep-under : (v : Volume) (turn : ℕ) (row : Pending) (reply : Reply) → IsOnce v → NoneUnder turn v → row_of v.pending turn ≡ Some row → Keep v (with_end v row.call.client row.call.number reply)
  keep-under v turn row reply once none found = ends-stay T v row.call.client row.call.number reply apart
    where
      own : ℕ × Pending → Bool
      own = is_call_of row.call.client row.call.number

      apart : list_any (λ e. T e && own e) v.pending ≡ false
      apart =
          let few : times row.call.client row.call.number v ≤ 1 = once row.call.client row.call.number in
          let elsewhere = how_many-none (λ e. own e && not (e.0 == turn)) v.pending (only-one own (λ e. e.0 == turn) v.pending (omega arith) (some-how_many (λ e. own e && e.0 == turn) v.pending (found-under v.pending turn row found))) in
          let split = how_many-split (λ e. T e && own e) (λ e. e.0 == turn) v.pending in
          let here = how_many-weaker (λ e. (T e && own e) && e.0 == turn) (λ e. e.0 == turn && T e) v.pending (λ e all. first (T e) (own e) (e.0 == turn) all) in
          let there = how_many-weaker (λ e. (T e && own e) && not (e.0 == turn)) (λ e. own e && not (e.0 == turn)) v.pending (λ e all. second (T e) (own e) (not (e.0 == turn)) all) in
          none-how_many (λ e. T e && own e) v.pending (omega arith)
        where
          first : (a b c : Bool) → ((a && b) && c) ≡ true → (c && a) ≡ true
          first true true true all = refl
          first true true false all = all
          first true false c all = cc
          first false b c all = cc

          second : (a b c : Bool) → ((a && b) && c) ≡ true → (b && c) ≡ true
          second true b c all = all
          second false b c all = cc

  -- where there is one, as a break tells it and a switch ends it
  keep-told : (v : Volume) (turn : Option ℕ) (reply : Reply) → IsOnce v → ((t : ℕ) → turn ≡ Some t → NoneUnder t v)
      → Keep v (option_map_or (λ row. with_end v row.call.client row.call.number reply) (option_and_then (row_of v.pending) turn) v)
  keep-told v None reply once none some = some
  keep-told v (Some turn) reply once none some = elim (option_cases (row_of v.pending turn)) [
    | inl missing ↦ rw missing some
    | inr row ↦ rw row.1 (keep-under v turn row.0 reply once (none turn refl) row.1 some)
  ]

  -- what is done to each of some oplocks keeps it where what is done to one does
  keep-each : (step : Volume → Oplock → Volume) → ((v : Volume) (o : Oplock) → Keeps v (step v o)) → ((v : Volume) (o : Oplock) → IsOnce v → ((t : ℕ) → o.call ≡ Some t → NoneUnder t v) → Keep v (step v o))
      → (oplocks : List Oplock) (v : Volume) → IsOnce v → ((turn : ℕ) → 1 ≤ how_many (is_granted_under turn) oplocks → NoneUnder turn v) → Keep v (fold step v oplocks)
  keep-each step keeps keep [] v once none some = some
  keep-each step keeps keep (o ∷ oplocks) v once none some =
      keep-each step keeps keep oplocks (step v o) (IsOnce-kept v (step v o) (Keeps.times (keeps v o) once) once)
      (λ turn granted. (let none_there : NoneUnder turn v = none turn (omega arith) in let fewer = Keeps.pending (keeps v o) (λ e. e.0 == turn && T e) in omega arith))
      (keep v o once (λ t is. none t (granted-first o oplocks t is)) some)

  keep-effect : (v : Volume) (oplock : Oplock) (done : Effect) → IsOnce v → ((t : ℕ) → oplock.call ≡ Some t → NoneUnder t v) → Keep v (with_effect v oplock done)
  keep-effect v oplock Stays once none some = some
  keep-effect v oplock Ends once none some = keep-told (without_oplock v oplock.handle) oplock.call (record { status = Success; body = IsBroken Nil false }) once none some
  keep-effect v oplock (Begins level) once none some = keep-told (with_break_begun v oplock.handle level) oplock.call (record { status = Success; body = IsBroken level true }) once none some
  keep-effect v oplock (Lowers level) once none some = some

  -- ---- what changes pending calls by breaks alone

  record HoldsOn (v w : Volume) : Type 0 where
    once : IsOnce w
    none : GrantsNone w
    keep : Keep v w

  HoldsOn-by : {kind : Class} {v w : Volume} → ByBreaks kind v w → IsOnce v → GrantsNone v → HoldsOn v w
  HoldsOn-by (Still v w oplocks locks pending ended left last_break last_lock) once none = record {
    once = λ client number. rw (pending, ended) (once client number);
    none = λ turn some. rw pending (none turn (rw oplocks at some));
    keep = λ some. rw pending some;
  }
  HoldsOn-by (Locked v handle at count exclusive) once none = record { once = once; none = none; keep = λ some. some }
  HoldsOn-by {kind} (Broken v on acting key) once none =
      let keeps : Keeps v (with_breaks v on kind acting key) = Keeps-breaks v on kind acting key in
      record {
        once = IsOnce-kept v (with_breaks v on kind acting key) (keeps.times once) once;
        none = GrantsNone-kept v (with_breaks v on kind acting key) keeps none;
        keep = keep-each (λ w o. with_effect w o (done_to kind o)) (λ w o. Keeps-effect w o (done_to kind o)) (λ w o. keep-effect w o (done_to kind o)) (chosen v on acting key) v once (λ turn some.
            let ordered = how_many-in_order (is_granted_under turn) (is_broken_before v) (filter (is_chosen v on acting key) v.oplocks) in
            let kept = how_many-filter_le (is_granted_under turn) (is_chosen v on acting key) v.oplocks in
            let many : 1 ≤ how_many (is_granted_under turn) v.oplocks = omega arith in none turn many);
      }
  HoldsOn-by (Next u v w first second) once none =
      let before : HoldsOn u v = HoldsOn-by first once none in
      let after : HoldsOn v w = HoldsOn-by second before.once before.none in
      record { once = after.once; none = after.none; keep = λ some. after.keep (before.keep some) }

  -- ---- an oplock's request

  pub record TriesKeep (v : Volume) (outcome : Outcome) : Type 0 where
    pub keep : Keep v (volume_after outcome)

  keep-if : {v : Volume} (test : Bool) (one other : Outcome) → TriesKeep v one → TriesKeep v other → TriesKeep v (if test then one else other)
  keep-if true one other holds fails = holds
  keep-if false one other holds fails = fails

  keep-option : {X : Type 0} {v : Volume} (found : Option X) (some : X → Outcome) (none : Outcome) → ((x : X) → TriesKeep v (some x)) → TriesKeep v none → TriesKeep v (option_map_or some found none)
  keep-option None some none with_some with_none = with_none
  keep-option (Some x) some none with_some with_none = with_some x

  keep-refused : (v : Volume) (status : Status) → TriesKeep v (refused v status)
  keep-refused v status = record { keep = λ some. some }

  keep-granted : (v : Volume) (id key stream : ℕ) (level : Level) (turn : ℕ) → IsOnce v → GrantsNone v → TriesKeep v (Stay (with_granted v id key stream level turn) (Granted level))
  keep-granted v id key stream level turn once none = record {
    keep = keep-each with_switched (λ w o. KeepsNumbers.keeps (KeepsAll.kept (KeepsAll-all_switched (o ∷ []) w)))
        (λ w o. keep-told (without_oplock w o.handle) o.call (record { status = OplockSwitchedToNewHandle; body = Nothing })) (switched v id key stream) v once
        (λ t some. none t (let fewer : how_many (is_granted_under t) (switched v id key stream) ≤ how_many (is_granted_under t) v.oplocks = how_many-filter_le (is_granted_under t) _ v.oplocks in omega arith));
  }

  keep-oplock : (v : Volume) (client handle : ℕ) (level : Level) (turn : ℕ) → IsOnce v → GrantsNone v → TriesKeep v (try_oplock v client handle level turn)
  unfolding try_oplock oplock_at oplock_by oplock_on
  keep-oplock v client handle level turn once none = search (keep-if, keep-option, keep-refused, keep-granted) depth 20

  -- ---- acknowledgements and unlocks

  keep-level : (v : Volume) (id : ℕ) (level : Level) (turn : ℕ) → TriesKeep v (Stay (with_level_kept v id level turn) (Granted level))
  keep-level v id level turn = record { keep = λ some. some }

  keep-without : (v : Volume) (id : ℕ) (reply : Reply) → TriesKeep v (Done (without_oplock v id) reply)
  keep-without v id reply = record { keep = λ some. some }

  pub keep-ack : (v : Volume) (client handle : ℕ) (level : Level) (turn : ℕ) → TriesKeep v (try_ack v client handle level turn)
  unfolding try_ack ack_at ack_keeping
  keep-ack v client handle level turn = search (keep-if, keep-option, keep-refused, keep-level, keep-without) depth 20

  keep-unlocked : (v : Volume) (id at count : ℕ) → TriesKeep v (ends_with (without_lock v id at count) Success)
  keep-unlocked v id at count = record { keep = λ some. some }

  pub keep-unlock : (v : Volume) (client handle at count : ℕ) → TriesKeep v (try_unlock v client handle at count)
  unfolding try_unlock unlock_at unlock_by unlock_range
  keep-unlock v client handle at count = search (keep-option, keep-refused, keep-unlocked) depth 20

  -- ---- closes, leavings and cancellations: of what they don't call off

  keep-closed : (v : Volume) (id : ℕ) (handle : Handle) → IsOnce v → ((e : ℕ × Pending) → T e ≡ true → is_call_on handle e.1 ≡ false) → Keep v (with_closed v id handle)
  keep-closed v id handle once excludes some =
      rw (closed-pending v id handle) (calls-stay T closed_status (pending_by_turn (is_call_on handle) v) v (calls-apart T (is_call_on handle) (λ a b. nat_lt a.0 b.0) v once excludes) some)

  keep-all_closed : (client : ℕ) (handles : List (ℕ × Handle)) (v : Volume) → IsOnce v → All (λ entry. (entry.1.client == client) ≡ true) handles → ((e : ℕ × Pending) → T e ≡ true → (e.1.call.client == client) ≡ false)
      → Keep v (with_all_closed handles v)
  keep-all_closed client [] v once own others some = some
  keep-all_closed client (entry ∷ handles) v once own others some =
      keep-all_closed client handles (with_closed v entry.0 entry.1) (IsOnce-kept v (with_closed v entry.0 entry.1) (Keeps.times (KeepsNumbers.keeps (KeepsAll.kept (Keeps-closed v entry.0 entry.1))) once) once)
      (All-tail (λ (entry : ℕ × Handle). (entry.1.client == client) ≡ true) entry handles own) others
      (keep-closed v entry.0 entry.1 once (λ e passes. (let its : entry.1.client ≡ client = eqb-true entry.1.client client (All-head (λ (entry : ℕ × Handle). (entry.1.client == client) ≡ true) entry handles own) in
      rw (its, others e passes) refl)) some)

  pub keep-leave : (v : Volume) (client : ℕ) → IsOnce v → ((e : ℕ × Pending) → T e ≡ true → (e.1.call.client == client) ≡ false) → Keep v (volume_after (try_leave v client))
  unfolding try_leave with_client_gone
  keep-leave v client once others some =
      let ended : Volume = with_calls_ended (λ _. Cancelled) (pending_by_turn (is_left_behind client) v) v in
      keep-all_closed client (handles_of_client v client) ended (IsOnce-kept v ended (Keeps.times (KeepsNumbers.keeps (KeepsAll.kept (Keeps-ended_by_turn (λ _. Cancelled) (is_left_behind client) v))) once) once)
      (All-in_order (λ (entry : ℕ × Handle). (entry.1.client == client) ≡ true) _ (filter (λ (entry : ℕ × Handle). entry.1.client == client) v.handles)
      (All-kept (λ (entry : ℕ × Handle). (entry.1.client == client) ≡ true) (λ entry. entry.1.client == client) v.handles (λ k d within passes. passes))) others
      (calls-stay T (λ _. Cancelled) (pending_by_turn (is_left_behind client) v) v (calls-apart T (is_left_behind client) (λ a b. nat_lt a.0 b.0) v once (λ e passes. rw (others e passes) refl)) some)

  pub keep-close : (v : Volume) (client handle : ℕ) → IsOnce v
      → ((e : ℕ × Pending) → T e ≡ true → option_map_or (λ id. option_map_or (λ row. is_call_on row e.1) (row_of v.handles id) false) (handle_of v client handle) false ≡ false) → Keep v (volume_after (try_close v client handle))
  unfolding try_close close_at
  keep-close v client handle once excludes some = elim (option_cases (handle_of v client handle)) [
    | inl none ↦ rw none some
    | inr id ↦ rw id.1 (elim (option_cases (row_of v.handles id.0)) [
      | inl none ↦ rw none some
      | inr row ↦ rw row.1 (keep-closed v id.0 row.0 once (λ e passes. rw (id.1, row.1) at (excludes e passes)) some)
    ])
  ]

  pub keep-cancel : (v : Volume) (client number : ℕ) → ((e : ℕ × Pending) → T e ≡ true → is_call client number e.1 ≡ false) → Keep v (volume_after (try_cancel v client number))
  unfolding try_cancel
  keep-cancel v client number excludes some = elim (option_cases (number_of (is_call client number) v.pending)) [
    | inl none ↦ rw none some
    | inr turn ↦ rw turn.1 (any-kept T (λ e. false) (λ e. not (is_call client number e.1)) v.pending (λ e passes isnt. rw (excludes e passes) refl) (nothing v.pending) some)
  ]
    where
      nothing : (entries : List (ℕ × Pending)) → list_any (λ e. false) entries ≡ false
      nothing [] = refl
      nothing (e ∷ entries) = nothing entries

-- ---- any call

-- what the calls pass that ask for no oplock and aren't called off
abbrev stays_if : Volume → Call → (ℕ × Pending → Bool) → ℕ × Pending → Bool
stays_if v call test entry = (not (asks_oplock entry.1) && not (calls_off v call entry.1)) && test entry

module _ (v : Volume) (call : Call) (test : ℕ × Pending → Bool) where
  asks_none : (e : ℕ × Pending) → stays_if v call test e ≡ true → (not (asks_oplock e.1) && test e) ≡ true
  asks_none e all = both_ends (not (asks_oplock e.1)) (not (calls_off v call e.1)) (test e) all

  not_off : (e : ℕ × Pending) → stays_if v call test e ≡ true → calls_off v call e.1 ≡ false
  not_off e all = by (not (asks_oplock e.1)) (calls_off v call e.1) (test e) all
    where
      by : (a b c : Bool) → ((a && not b) && c) ≡ true → b ≡ false
      by true true c is = cc
      by true false c is = refl
      by false b c is = cc

  keep-what : (turn : ℕ) (what : What) → call.what ≡ what → IsOnce v → GrantsNone (stays_if v call test) v → Keep (stays_if v call test) v (volume_after (try_what v turn call.client call.number what))
  keep-what turn what is once none = elim (cases_Bool (changes_otherwise what)) [
    | inr breaks ↦ HoldsOn.keep (HoldsOn-by (stays_if v call test) (TriesByBreaks.so (what-by_breaks v turn call.client call.number what breaks)) once none)
    | inl more ↦ own what is more
  ]
    where
      own : (what : What) → call.what ≡ what → changes_otherwise what ≡ true → Keep (stays_if v call test) v (volume_after (try_what v turn call.client call.number what))
      own (Ask (OplockRequest handle level)) is more = TriesKeep.keep (keep-oplock (stays_if v call test) v call.client handle level turn once none)
      own (Ask (Ack handle level)) is more = TriesKeep.keep (keep-ack (stays_if v call test) v call.client handle level turn)
      own (Ask (Unlock handle at count)) is more = TriesKeep.keep (keep-unlock (stays_if v call test) v call.client handle at count)
      own (Ask (Close handle)) is more = keep-close (stays_if v call test) v call.client handle once (λ e passes. (rw is at (not_off e passes)))
      own (Ask (Cancel number)) is more = keep-cancel (stays_if v call test) v call.client number (λ e passes. (rw is at (not_off e passes)))
      own Leave is more = keep-leave (stays_if v call test) v call.client once (λ e passes. (rw is at (not_off e passes)))
      own _ is more = absurd (let impossible : false ≡ true = more in cc)

  pub stays-try : (turn : ℕ) → IsOnce v → GrantsNone (λ e. not (asks_oplock e.1)) v → list_any (stays_if v call test) v.pending ≡ true → list_any (λ e. not (asks_oplock e.1) && test e) (volume_after (try v call turn)).pending ≡ true
  stays-try turn once none some = any-weaker (stays_if v call test) (λ e. not (asks_oplock e.1) && test e) (volume_after (try v call turn)).pending asks_none (elim (cases_Bool (has_left v call.client)) [
    | inl gone ↦ rw gone some
    | inr here ↦ rw here (keep-what turn call.what refl once none_off some)
  ])
    where
      none_off : GrantsNone (stays_if v call test) v
      none_off t granted =
          let none_asks = none t granted in
          let weaker = how_many-weaker (λ e. e.0 == t && stays_if v call test e) (λ e. e.0 == t && not (asks_oplock e.1)) v.pending
          (λ e both. and_true (e.0 == t) (not (asks_oplock e.1)) (and_left (e.0 == t) (stays_if v call test e) both) (and_left (not (asks_oplock e.1)) (test e) (asks_none e (and_right (e.0 == t) (stays_if v call test e) both)))) in
          omega arith
