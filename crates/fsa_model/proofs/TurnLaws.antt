-- What each turn keeps, and what it leaves: no pending call is ready, and each call is pending or has ended,
-- once.
use Rattle.std.proofs.Common.{◌≡◌, ℕ, ◌+◌, ◌<◌, ◌≤◌, Bool, true, false, cond, not, List, [], ◌∷◌, ◌++◌, length, drop, get_or, length-append, append-nil, append_assoc, refl, ap, sym, subst, ◌∙◌, arith, inl, inr, ◌⊎◌, Some, None}
use Rattle.std.proofs.Math.Seq.{drop-append_seam}
use Rattle.std.specs.List.{filter, list_any}
use Rattle.std.specs.Prelude.{◌==◌, ◌&&◌, nat_lt, if◌then◌else◌}
use Rattle.std.proofs.lemmas.Bool.{cases_Bool, eqb-true, ltb-true, lt-ltb}
use Rattle.std.proofs.lemmas.List.Folds.{list_any_none}
use Rattle.fsa_types.specs.declared.request.Call.{Call}
use Rattle.fsa_types.specs.declared.request.CallId.{CallId}
use Rattle.fsa_types.specs.declared.request.Request.{Request}
use Rattle.fsa_types.specs.declared.request.Request.TheVariants.{Close, Unlock, Oplock, Ack, Cancel, Notify}
use Rattle.fsa_types.specs.declared.request.Level.{Level}
use Rattle.fsa_types.specs.declared.request.What.{What}
use Rattle.fsa_types.specs.declared.request.What.TheVariants.{Ask, Tick, WaitFor, Leave}
use Rattle.fsa_types.specs.declared.reply.Blocker.{Blocker}
use Rattle.fsa_types.specs.declared.reply.EndOf.{EndOf}
use Rattle.fsa_types.specs.declared.reply.Reply.{Reply}
use Rattle.fsa_types.specs.declared.status.Status.TheVariants.{InvalidHandle, Stalled}
use Rattle.fsa_model.specs.Close.{with_calls_ended}
use Rattle.fsa_model.specs.Edits.{is_call, with_end, with_pending}
use Rattle.fsa_model.specs.Grant.{try_oplock, try_ack}
use Rattle.fsa_model.specs.Lookups.{has_left}
use Rattle.fsa_model.specs.Once.{how_many, times, made, IsOnce}
use Rattle.fsa_model.specs.Outcome.{Outcome, Done, Stay, Hold, refused}
use Rattle.fsa_model.specs.Settle.{settled, taken_up_all}
use Rattle.fsa_model.specs.Try.{try_request, try_what, try}
use Rattle.fsa_model.specs.Turn.{Turned, turn_number, answered, ends_between, settlement, turned, turn, volume_after}
use Rattle.fsa_model.specs.Volume.{Pending, Volume}
use Rattle.fsa_model.specs.Waiting.{AreLiving, is_held, is_granted_under, is_wait, next_ready, all_wait, is_asked_before, waits_in_order, with_stalled}
pub use Rattle.fsa_model.specs.Settling.{MayTurn}
use Rattle.fsa_model.proofs.CountLaws.{and_left, how_many-append, how_many-weaker, how_many-filter_le, how_many-in_order}
use Rattle.fsa_model.proofs.GrantLaws.{StaysUnder, StaysUnder-kept, GrantsTo, Grants, Grants-refused, try_oplock-grants, try_ack-grants, Answers, Answers-refused, try_ack-ends, EndsNone, EndsNone-refused, try_oplock-ends}
use Rattle.fsa_model.proofs.KeepLaws.{KeepsAll, KeepsAll-same, KeptTo, Kept, Kept-if, Kept-refused, KeepsAll-calls_ended, try_close-kept, try_leave-kept, try_unlock-kept, try_wait-kept, try_cancel-kept, ticks-kept, try_notify-kept, Kept-obeys}
use Rattle.fsa_model.proofs.OnceLaws.{AddsEnds, AddsEnds-next, is_call_of, is_same, is_same-equal, times-with_end, length-filter_split, IsOnce-kept}
use Rattle.fsa_model.proofs.SettleLaws.{MaySettle-kept, MaySettle-ends, may_be_held, is_under, is_held_wrongly, try-tries, settled-done, some_equal}
use Rattle.fsa_model.proofs.TakenLaws.{GivesAtMost, GivesAtMost-same, GivesAtMost-ends, is_ungiven, MayTakeUp, GoesOn, taken_up_all-goes}
use Rattle.fsa_model.proofs.TryLaws.{SameNumbers, FewNumbers, FewNumbers-same, KeepsNumbers, KeepsNumbers-leaves, Leaves, Tries, TriesTo, GrantsNoneHeld, GrantsNoneHeld-kept, HasOneOplockEach-kept, is_given, Watches, Watches-next}
use Rattle.fsa_model.proofs.WaitLaws.{unbroken, HasOneOplockEach}
use Rattle.fsa_model.proofs.TryObeys.{has_own_laws, try_request-obeys}

-- ---- a try of any call

-- it keeps so much; what stays pending may be granted one oplock, under its turn; what is held can be, and is
-- held by blockers that live
abbrev pub TriedTo : Volume → ℕ → What → Outcome → Type 0
TriedTo v turn what (Done after reply) = KeepsNumbers v after × FewNumbers v after
TriedTo v turn what (Stay after interim) = StaysUnder v turn after
TriedTo v turn what (Hold after blockers interim) = KeepsNumbers v after × (SameNumbers v after × (AreLiving after blockers × (may_be_held what ≡ true)))

tried_of-tries : (v : Volume) (turn : ℕ) (what : What) (outcome : Outcome) → may_be_held what ≡ true → TriesTo Leaves v outcome → TriedTo v turn what outcome
tried_of-tries v turn what (Done after reply) held so = (KeepsNumbers-leaves so.0, so.1)
tried_of-tries v turn what (Stay after interim) held so = absurd so
tried_of-tries v turn what (Hold after blockers interim) held so = (KeepsNumbers-leaves so.0, (so.1.0, (so.1.1, held)))

tried_of-kept : (v : Volume) (turn : ℕ) (what : What) (outcome : Outcome) → HasOneOplockEach v → KeptTo v outcome → TriedTo v turn what outcome
tried_of-kept v turn what (Done after reply) one so = (so.kept, FewNumbers-same so.same)
tried_of-kept v turn what (Stay after interim) one so = StaysUnder-kept v after turn one so
tried_of-kept v turn what (Hold after blockers interim) one so = absurd so

tried_of-grants : (v : Volume) (turn : ℕ) (what : What) (outcome : Outcome) → GrantsTo v turn outcome → TriedTo v turn what outcome
tried_of-grants v turn what (Done after reply) so = (so.kept, FewNumbers-same so.same)
tried_of-grants v turn what (Stay after interim) so = so.0
tried_of-grants v turn what (Hold after blockers interim) so = absurd so

-- a request that is granted an oplock, or keeps one, and stays pending with it
abbrev pub may_be_granted : What → Bool
may_be_granted (Ask (Oplock handle level)) = true
may_be_granted (Ask (Ack handle level)) = true
may_be_granted _ = false

pub try-grants : (v : Volume) (call : Call) (turn : ℕ) → HasOneOplockEach v → may_be_granted call.what ≡ true → Grants v turn (try v call turn)
try-grants v call turn one is = go (has_left v call.client)
  where
    of_what : (what : What) → may_be_granted what ≡ true → Grants v turn (try_what v turn call.client call.number what)
    of_what (Ask (Oplock handle level)) is = try_oplock-grants v call.client handle level turn one
    of_what (Ask (Ack handle level)) is = try_ack-grants v call.client handle level turn one
    of_what _ is = cc

    go : (gone : Bool) → Grants v turn (if gone then refused v InvalidHandle else try_what v turn call.client call.number call.what)
    go true = Grants-refused v turn InvalidHandle
    go false = of_what call.what is

-- an answer is refused, or ends one break, its handle's
pub try-answers : (v : Volume) (call : Call) (turn handle : ℕ) (level : Level) → HasOneOplockEach v → call.what ≡ Ask (Ack handle level) → Answers v call.client handle (try v call turn)
try-answers v call turn handle level one is = rw is (go (has_left v call.client))
  where
    go : (gone : Bool) → Answers v call.client handle (if gone then refused v InvalidHandle else try_ack v call.client handle level turn)
    go true = Answers-refused v call.client handle InvalidHandle
    go false = try_ack-ends v call.client handle level turn one

-- a request of an oplock ends no blocker
pub try-oplock_ends : (v : Volume) (call : Call) (turn handle : ℕ) (level : Level) → call.what ≡ Ask (Oplock handle level) → EndsNone v (try v call turn)
try-oplock_ends v call turn handle level is = rw is (go (has_left v call.client))
  where
    go : (gone : Bool) → EndsNone v (if gone then refused v InvalidHandle else try_oplock v call.client handle level turn)
    go true = EndsNone-refused v InvalidHandle
    go false = try_oplock-ends v call.client handle level turn

pub try-kept : (v : Volume) (call : Call) (turn : ℕ) → HasOneOplockEach v → may_be_held call.what ≡ false → may_be_granted call.what ≡ false → Kept v (try v call turn)
try-kept v call turn one isnt no_grant = Kept-if (has_left v call.client) _ _ (λ is. Kept-refused v _) (λ no. of_what call.what isnt no_grant)
  where
    of_own : (request : Request) → has_own_laws request ≡ true → may_be_granted (Ask request) ≡ false → Kept v (try_request v turn call.client call.number request)
    of_own (Oplock handle level) own no_grant = cc
    of_own (Ack handle level) own no_grant = cc
    of_own (Close handle) own no_grant = try_close-kept v call.client handle
    of_own (Unlock handle at count) own no_grant = try_unlock-kept v call.client handle at count
    of_own (Notify handle filter tree room) own no_grant = try_notify-kept v call.client handle filter tree room
    of_own (Cancel number) own no_grant = try_cancel-kept v call.client number
    of_own _ own no_grant = cc

    of_request : (request : Request) → may_be_held (Ask request) ≡ false → may_be_granted (Ask request) ≡ false → Kept v (try_request v turn call.client call.number request)
    of_request request isnt no_grant = elim (cases_Bool (has_own_laws request)) [
      | inl own ↦ of_own request own no_grant
      | inr none ↦ Kept-obeys one isnt (try_request-obeys v turn call.client call.number request none)
    ]

    of_what : (what : What) → may_be_held what ≡ false → may_be_granted what ≡ false → Kept v (try_what v turn call.client call.number what)
    of_what (Ask request) isnt no_grant = of_request request isnt no_grant
    of_what (Tick ticks) isnt no_grant = ticks-kept v ticks
    of_what (WaitFor number) isnt no_grant = try_wait-kept v call.client number
    of_what Leave isnt no_grant = try_leave-kept v call.client

pub try-keeps : (v : Volume) (call : Call) (turn : ℕ) → HasOneOplockEach v → TriedTo v turn call.what (try v call turn)
try-keeps v call turn one = elim (cases_Bool (may_be_held call.what)) [
  | inl held ↦ tried_of-tries v turn call.what (try v call turn) held (Tries.so (try-tries v call turn one held))
  | inr isnt ↦ elim (cases_Bool (may_be_granted call.what)) [
    | inl granted ↦ tried_of-grants v turn call.what (try v call turn) (Grants.so (try-grants v call turn one granted))
    | inr no_grant ↦ tried_of-kept v turn call.what (try v call turn) one (Kept.so (try-kept v call turn one isnt no_grant))
  ]
]

-- ---- what a turn asks of the volume, and keeps

MayTakeUp-kept : (v w : Volume) → KeepsNumbers v w → MayTakeUp v → MayTakeUp w
MayTakeUp-kept v w kept may = record {
  may = MaySettle-kept v w kept.keeps may.may;
  once = IsOnce-kept v w (kept.keeps.times may.once) may.once;
  none_held = GrantsNoneHeld-kept v w kept.keeps may.none_held;
  given = record {
    oplocks = HasOneOplockEach-kept v w kept.keeps may.given.oplocks;
    ones = kept.ones may.given.oplocks may.given.living may.given.ones;
    living = λ b lives. elim (kept.new b lives) [ inl before ↦ kept.given b (may.given.living b before) | inr new ↦ new.1 ];
    blockers = (let none = may.given.blockers in let fewer = kept.keeps.pending (is_ungiven w) in
        let weaker = how_many-weaker (is_ungiven w) (is_ungiven v) v.pending (λ e some. of_later e.1.blockers some) in omega arith);
  };
}
  where
    of_later : (blockers : List Blocker) → list_any (λ b. not (is_given w b)) blockers ≡ true → list_any (λ b. not (is_given v b)) blockers ≡ true
    of_later [] some = some
    of_later (b ∷ blockers) some = elim (cases_Bool (is_given v b)) [
      | inr isnt ↦ rw isnt refl
      | inl is ↦ (let later : is_given w b ≡ true = kept.given b is in let rest : list_any (λ c. not (is_given w c)) blockers ≡ true = rw later at some in rw is (of_later blockers rest))
    ]

pub MayTurn-kept : (v w : Volume) → KeepsNumbers v w → MayTurn v → MayTurn w
MayTurn-kept v w kept may =
    let same = kept.keeps.made may.take_up.once in
    record {
      take_up = MayTakeUp-kept v w kept may.take_up;
      turns = (let none = may.turns in let fewer = kept.keeps.pending (λ e. nat_lt (made w) e.0) in
          let weaker = how_many-weaker (λ e. nat_lt (made w) e.0) (λ e. nat_lt (made v) e.0) v.pending (λ e later. of_made e.0 same later) in omega arith);
      granted = λ turn later. (let fewer = kept.keeps.granted turn in let none : how_many (is_granted_under turn) v.oplocks ≡ 0 = may.granted turn (omega arith) in omega arith);
    }
  where
    of_made : (turn : ℕ) → made w ≡ made v → nat_lt (made w) turn ≡ true → nat_lt (made v) turn ≡ true
    of_made turn same later = rw (← same) later

-- what a call that stays pending leaves: all that a turn asks but that an oplock may be granted to it
MayTakeUp-stays : (v w : Volume) (turn : ℕ) → StaysUnder v turn w → how_many (is_under turn) v.pending ≡ 0 → MayTakeUp v → MayTakeUp w
MayTakeUp-stays v w turn stays no_call may = record {
  may = record {
    oplocks = stays.oplocks;
    turns = λ other. (let few : how_many (is_under other) v.pending ≤ 1 = may.may.turns other in let fewer = stays.pending (is_under other) in omega arith);
    held = (let none = may.may.held in let fewer = stays.pending is_held_wrongly in omega arith);
  };
  once = IsOnce-kept v w (stays.times may.once) may.once;
  none_held = λ other some. none_held other some;
  given = record {
    oplocks = stays.oplocks;
    ones = stays.ones may.given.oplocks may.given.living may.given.ones;
    living = λ b lives. elim (stays.new b lives) [ inl before ↦ stays.given b (may.given.living b before) | inr new ↦ new.1 ];
    blockers = (let none = may.given.blockers in let fewer = stays.pending (is_ungiven w) in
        let weaker = how_many-weaker (is_ungiven w) (is_ungiven v) v.pending (λ e some. of_later e.1.blockers some) in omega arith);
  };
}
  where
    none_held : GrantsNoneHeld w
    none_held other some =
        let up = stays.granted other in
        let fewer = stays.pending (λ e. e.0 == other && is_held e.1) in
        elim (cases_Bool (turn == other)) [
          | inl is ↦ (let same : turn ≡ other = eqb-true turn other is in
              let none : how_many (is_under other) v.pending ≡ 0 = rw same at no_call in
              let weaker = how_many-weaker (λ (e : ℕ × Pending). e.0 == other && is_held e.1) (is_under other) v.pending (λ e both. and_left (e.0 == other) (is_held e.1) both) in omega arith)
          | inr differs ↦ (let no_more : how_many (is_granted_under other) w.oplocks ≤ how_many (is_granted_under other) v.oplocks + 0 = rw differs at up in
              let no_held : how_many (λ e. e.0 == other && is_held e.1) v.pending ≡ 0 = may.none_held other (omega arith) in omega arith)
        ]

    of_later : (blockers : List Blocker) → list_any (λ b. not (is_given w b)) blockers ≡ true → list_any (λ b. not (is_given v b)) blockers ≡ true
    of_later [] some = some
    of_later (b ∷ blockers) some = elim (cases_Bool (is_given v b)) [
      | inr isnt ↦ rw isnt refl
      | inl is ↦ (let later : is_given w b ≡ true = stays.given b is in let rest : list_any (λ c. not (is_given w c)) blockers ≡ true = rw later at some in rw is (of_later blockers rest))
    ]

-- a turn's own try leaves so much: no call is pending under a turn to come, and no oplock is granted to one, but
-- the own call, where it isn't held, may have been granted one under this turn
pub record IsBetween (v : Volume) : Type 0 where
  pub take_up : MayTakeUp v
  pub turns : how_many (λ e. nat_lt (made v) e.0) v.pending ≡ 0
  pub granted : (turn : ℕ) → made v + 1 < turn → how_many (is_granted_under turn) v.oplocks ≡ 0

IsBetween-turn : (v : Volume) → MayTurn v → IsBetween v
IsBetween-turn v may = record { take_up = may.take_up; turns = may.turns; granted = λ turn later. may.granted turn (omega arith) }

IsBetween-stays : (v w : Volume) → StaysUnder v (made v + 1) w → MayTurn v → IsBetween w
IsBetween-stays v w stays may =
    let same = stays.made may.take_up.once in
    record {
      take_up = MayTakeUp-stays v w (made v + 1) stays (let weaker = how_many-weaker (is_under (made v + 1)) (λ e. nat_lt (made v) e.0) v.pending (λ e under. (let at : e.0 ≡ made v + 1 = eqb-true e.0 (made v + 1) under in lt-ltb (made v) e.0 (omega arith))) in
          let no_later = may.turns in omega arith) may.take_up;
      turns = (let none = may.turns in let fewer = stays.pending (λ e. nat_lt (made w) e.0) in
          let weaker = how_many-weaker (λ e. nat_lt (made w) e.0) (λ e. nat_lt (made v) e.0) v.pending (λ e later. of_made e.0 same later) in omega arith);
      granted = λ turn later. (let up = stays.granted turn in let none : how_many (is_granted_under turn) v.oplocks ≡ 0 = may.granted turn (omega arith) in
          elim (cases_Bool (made v + 1 == turn)) [
            | inl is ↦ (let equal : made v + 1 ≡ turn = eqb-true (made v + 1) turn is in absurd (omega arith))
            | inr differs ↦ (let no_more : how_many (is_granted_under turn) w.oplocks ≤ how_many (is_granted_under turn) v.oplocks + 0 = rw differs at up in omega arith)
          ]);
    }
  where
    of_made : (turn : ℕ) → made w ≡ made v → nat_lt (made w) turn ≡ true → nat_lt (made v) turn ≡ true
    of_made turn same later = rw (← same) later

-- ---- the turn's own call

-- the client's call of this number is there once more, and nothing else
pub record Adds (v : Volume) (client number : ℕ) (w : Volume) : Type 0 where
  pub may : MayTurn w
  pub times : (other_client other_number : ℕ) → times other_client other_number w ≡ times other_client other_number v + cond (is_same client number other_client other_number) 1 0
  pub made : made w ≡ made v + 1
  pub seen : Watches v w
  pub gives : (more : ℕ) → GivesAtMost v (length v.ended + more) → GivesAtMost w (length w.ended + more)
  -- a call begins at most one break more: it was granted an oplock
  pub breaks : w.last_break + unbroken w ≤ v.last_break + unbroken v + 1

record AddsCall (v : Volume) (client number : ℕ) (w : Volume) : Type 0 where
  may : MayTurn w
  times : (other_client other_number : ℕ) → times other_client other_number w ≡ times other_client other_number v + cond (is_same client number other_client other_number) 1 0
  made : made w ≡ made v + 1

-- with one call more each is still there once, where it was not there before
once-adds : (v w : Volume) (client number : ℕ) → IsOnce v → times client number v ≡ 0
    → ((other_client other_number : ℕ) → times other_client other_number w ≡ times other_client other_number v + cond (is_same client number other_client other_number) 1 0) → IsOnce w
once-adds v w client number once none adds other_client other_number =
    let more = adds other_client other_number in
    let few : times other_client other_number v ≤ 1 = once other_client other_number in
    elim (cases_Bool (is_same client number other_client other_number)) [
      | inr other ↦ (let same : times other_client other_number w ≡ times other_client other_number v + 0 = rw other at more in omega arith)
      | inl one ↦ (let equal = is_same-equal client number other_client other_number one in
          let same : times other_client other_number w ≡ times other_client other_number v + 1 = rw one at more in
          let no_other : times other_client other_number v ≡ 0 = rw (← equal.0, ← equal.1) none in omega arith)
    ]

-- it ends
Adds-end : (v : Volume) (client number : ℕ) (reply : Reply) → MayTurn v → times client number v ≡ 0 → AddsCall v client number (with_end v client number reply)
Adds-end v client number reply may none = record {
  may = record {
    take_up = record {
      may = MaySettle-ends v client number reply may.take_up.may;
      once = once-adds v (with_end v client number reply) client number may.take_up.once none adds;
      none_held = λ turn some. (let fewer = how_many-filter_le (λ (e : ℕ × Pending). e.0 == turn && is_held e.1) (λ e. not (is_call client number e.1)) v.pending in
          let no_held : how_many (λ e. e.0 == turn && is_held e.1) v.pending ≡ 0 = may.take_up.none_held turn some in omega arith);
      given = record {
        living = may.take_up.given.living;
        oplocks = may.take_up.given.oplocks;
        ones = may.take_up.given.ones;
        blockers = (let no_ungiven = may.take_up.given.blockers in let fewer = how_many-filter_le (is_ungiven v) (λ e. not (is_call client number e.1)) v.pending in omega arith);
      };
    };
    turns = (let no_later = may.turns in let fewer = how_many-filter_le (λ (e : ℕ × Pending). nat_lt (made v + 1) e.0) (λ e. not (is_call client number e.1)) v.pending in
        let weaker = how_many-weaker (λ (e : ℕ × Pending). nat_lt (made v + 1) e.0) (λ e. nat_lt (made v) e.0) v.pending (λ e later. lt_less (made v) e.0 later) in
        let same = ap (λ (most : ℕ). how_many (λ e. nat_lt most e.0) (with_end v client number reply).pending) one_more in omega arith);
    granted = λ turn later. may.granted turn (let more = one_more in omega arith);
  };
  times = adds;
  made = one_more;
}
  where
    lt_less : (a b : ℕ) → nat_lt (a + 1) b ≡ true → nat_lt a b ≡ true
    lt_less a b later = (let above = ltb-true (a + 1) b later in lt-ltb a b (omega arith))

    one_more : made (with_end v client number reply) ≡ made v + 1
    one_more = (let kept = length-filter_split (is_call_of client number) v.pending in let more = length-append v.ended (record { client = client; number = number; reply = reply } ∷ []) in omega arith)

    adds : (other_client other_number : ℕ) → times other_client other_number (with_end v client number reply) ≡ times other_client other_number v + cond (is_same client number other_client other_number) 1 0
    adds other_client other_number = times-with_end v client number other_client other_number reply ∙ elim (cases_Bool (is_same client number other_client other_number)) [
      | inr other ↦ rw other (omega arith)
      | inl one ↦ (let equal = is_same-equal client number other_client other_number one in
          rw (one, ← equal.0, ← equal.1) (omega arith))
    ]

-- it is pending, held by nothing or, where it can be, by blockers that live
Adds-pending : (v : Volume) (call : Call) (blockers : List Blocker) → IsBetween v → (is_held (record { call = call; blockers = blockers }) ≡ false) ⊎ (how_many (is_granted_under (made v + 1)) v.oplocks ≡ 0)
    → times call.client call.number v ≡ 0 → is_held_wrongly (made v + 1, record { call = call; blockers = blockers }) ≡ false → list_any (λ b. not (is_given v b)) blockers ≡ false
    → AddsCall v call.client call.number (with_pending v (made v + 1) call blockers)
Adds-pending v call blockers may apart none rightly all_given = record {
  may = record {
    take_up = record {
      may = record {
        oplocks = may.take_up.may.oplocks;
        turns = turns;
        held = (let more = how_many-append is_held_wrongly v.pending (entry ∷ []) in let no_wrong = may.take_up.may.held in
            let here : how_many is_held_wrongly (v.pending ++ entry ∷ []) ≡ how_many is_held_wrongly v.pending + (0 + 0) = rw rightly at more in omega arith);
      };
      once = once-adds v (with_pending v (made v + 1) call blockers) call.client call.number may.take_up.once none adds;
      none_held = none_held;
      given = record {
        living = may.take_up.given.living;
        oplocks = may.take_up.given.oplocks;
        ones = may.take_up.given.ones;
        blockers = (let more = how_many-append (is_ungiven v) v.pending (entry ∷ []) in let no_ungiven = may.take_up.given.blockers in
            let here : how_many (is_ungiven v) (v.pending ++ entry ∷ []) ≡ how_many (is_ungiven v) v.pending + (0 + 0) = rw all_given at more in omega arith);
      };
    };
    turns = later;
    granted = λ turn later. may.granted turn (let more = one_more in omega arith);
  };
  times = adds;
  made = one_more;
}
  where
    entry : ℕ × Pending
    entry = (made v + 1, record { call = call; blockers = blockers })

    lt_less : (a b : ℕ) → nat_lt (a + 1) b ≡ true → nat_lt a b ≡ true
    lt_less a b later = (let above = ltb-true (a + 1) b later in lt-ltb a b (omega arith))

    one_more : made (with_pending v (made v + 1) call blockers) ≡ made v + 1
    one_more = (let more = length-append v.pending (entry ∷ []) in omega arith)

    adds : (other_client other_number : ℕ) → times other_client other_number (with_pending v (made v + 1) call blockers) ≡ times other_client other_number v + cond (is_same call.client call.number other_client other_number) 1 0
    adds other_client other_number = (let more = how_many-append (is_call_of other_client other_number) v.pending (entry ∷ []) in omega arith)

    turns : (turn : ℕ) → how_many (is_under turn) (v.pending ++ entry ∷ []) ≤ 1
    turns turn =
        let more = how_many-append (is_under turn) v.pending (entry ∷ []) in
        let few : how_many (is_under turn) v.pending ≤ 1 = may.take_up.may.turns turn in
        elim (cases_Bool (made v + 1 == turn)) [
          | inr other ↦ (let here : how_many (is_under turn) (v.pending ++ entry ∷ []) ≡ how_many (is_under turn) v.pending + (0 + 0) = rw other at more in omega arith)
          | inl is ↦ (let here : how_many (is_under turn) (v.pending ++ entry ∷ []) ≡ how_many (is_under turn) v.pending + (1 + 0) = rw is at more in
              let same : made v + 1 ≡ turn = eqb-true (made v + 1) turn is in
              let weaker = how_many-weaker (is_under turn) (λ e. nat_lt (made v) e.0) v.pending (λ e under. (let at : e.0 ≡ turn = eqb-true e.0 turn under in lt-ltb (made v) e.0 (omega arith))) in
              let no_later = may.turns in omega arith)
        ]

    of_own : (turn : ℕ) → (made v + 1 == turn) ≡ true → made v + 1 ≡ turn → 1 ≤ how_many (is_granted_under turn) v.oplocks
        → (is_held (record { call = call; blockers = blockers }) ≡ false) ⊎ (how_many (is_granted_under (made v + 1)) v.oplocks ≡ 0)
        → how_many (λ (e : ℕ × Pending). e.0 == turn && is_held e.1) (v.pending ++ entry ∷ []) ≡ 0
    of_own turn is same some (inr no_grant) = (let none_there : how_many (is_granted_under turn) v.oplocks ≡ 0 = rw same at no_grant in absurd (omega arith))
    of_own turn is same some (inl free) =
        let more = how_many-append (λ (e : ℕ × Pending). e.0 == turn && is_held e.1) v.pending (entry ∷ []) in
        let no_held : how_many (λ e. e.0 == turn && is_held e.1) v.pending ≡ 0 = may.take_up.none_held turn some in
        let here : how_many (λ (e : ℕ × Pending). e.0 == turn && is_held e.1) (v.pending ++ entry ∷ []) ≡ how_many (λ e. e.0 == turn && is_held e.1) v.pending + (0 + 0) = rw (is, free) at more in omega arith

    none_held : GrantsNoneHeld (with_pending v (made v + 1) call blockers)
    none_held turn some =
        let more = how_many-append (λ (e : ℕ × Pending). e.0 == turn && is_held e.1) v.pending (entry ∷ []) in
        let no_held : how_many (λ e. e.0 == turn && is_held e.1) v.pending ≡ 0 = may.take_up.none_held turn some in
        elim (cases_Bool (made v + 1 == turn)) [
          | inr other ↦ (let here : how_many (λ (e : ℕ × Pending). e.0 == turn && is_held e.1) (v.pending ++ entry ∷ []) ≡ how_many (λ e. e.0 == turn && is_held e.1) v.pending + (0 + 0) = rw other at more in omega arith)
          | inl is ↦ of_own turn is (eqb-true (made v + 1) turn is) some apart
        ]

    later : how_many (λ (e : ℕ × Pending). nat_lt (made (with_pending v (made v + 1) call blockers)) e.0) (v.pending ++ entry ∷ []) ≡ 0
    later =
        let same = ap (λ (most : ℕ). how_many (λ (e : ℕ × Pending). nat_lt most e.0) (v.pending ++ entry ∷ [])) one_more in
        let more = how_many-append (λ (e : ℕ × Pending). nat_lt (made v + 1) e.0) v.pending (entry ∷ []) in
        let weaker = how_many-weaker (λ (e : ℕ × Pending). nat_lt (made v + 1) e.0) (λ e. nat_lt (made v) e.0) v.pending (λ e later. lt_less (made v) e.0 later) in
        let no_later = may.turns in
        let self : nat_lt (made v + 1) (made v + 1) ≡ false = not_less (made v + 1) in
        let here : how_many (λ (e : ℕ × Pending). nat_lt (made v + 1) e.0) (v.pending ++ entry ∷ []) ≡ how_many (λ (e : ℕ × Pending). nat_lt (made v + 1) e.0) v.pending + (0 + 0) = rw self at more in omega arith
      where
        not_less : (a : ℕ) → nat_lt a a ≡ false
        not_less a = elim (cases_Bool (nat_lt a a)) [ inl is ↦ (let above = ltb-true a a is in absurd (omega arith)) | inr isnt ↦ isnt ]

-- the turn's own call, once it has been tried
pub Adds-answered : (v : Volume) (call : Call) (outcome : Outcome) → MayTurn v → times call.client call.number v ≡ 0 → TriedTo v (turn_number v) call.what outcome
    → Adds v call.client call.number (answered call (turn_number v) outcome)
Adds-answered v call outcome may none tried = go outcome tried
  where
    since : (w x : Volume) → Watches v x → ((client number : ℕ) → times client number w ≡ times client number v) → made w ≡ made v → w.last_break + unbroken w ≤ v.last_break + unbroken v + 1
        → ((more : ℕ) → GivesAtMost v (length v.ended + more) → GivesAtMost x (length x.ended + more)) → x.last_break + unbroken x ≤ w.last_break + unbroken w → AddsCall w call.client call.number x → Adds v call.client call.number x
    since w x seen same_times same_made first gives breaks adds = record {
      seen = seen;
      breaks = omega arith;
      may = adds.may;
      times = λ client number. (let before = same_times client number in let second = adds.times client number in omega arith);
      made = (let second = adds.made in omega arith);
      gives = gives;
    }

    pends : (w : Volume) (blockers : List Blocker) → Watches v w → ((client number : ℕ) → times client number w ≡ times client number v) → made w ≡ made v → w.last_break + unbroken w ≤ v.last_break + unbroken v + 1 → AddsEnds v.ended w.ended
        → IsBetween w → (is_held (record { call = call; blockers = blockers }) ≡ false) ⊎ (how_many (is_granted_under (made w + 1)) w.oplocks ≡ 0) → SameNumbers v w
        → is_held_wrongly (made w + 1, record { call = call; blockers = blockers }) ≡ false → list_any (λ b. not (is_given w b)) blockers ≡ false
        → Adds v call.client call.number (with_pending w (made v + 1) call blockers)
    pends w blockers seen same_times same_made first extends may_pend apart same rightly all_given =
        subst (λ (made_before : ℕ). Adds v call.client call.number (with_pending w (made_before + 1) call blockers)) same_made
        (since w (with_pending w (made w + 1) call blockers) (record { more = seen.more; changes = seen.changes; watches = seen.watches }) same_times same_made first
        (λ more up. (let later = GivesAtMost-same v w more same extends up in record { files = later.files; links = later.links; streams = later.streams; handles = later.handles; locks = later.locks })) (omega arith)
        (Adds-pending w call blockers may_pend apart (same_times call.client call.number ∙ none) rightly all_given))

    first_of : (w : Volume) → KeepsNumbers v w → w.last_break + unbroken w ≤ v.last_break + unbroken v + 1
    first_of w kept = (let fewer = kept.breaks in omega arith)

    go : (outcome : Outcome) → TriedTo v (turn_number v) call.what outcome → Adds v call.client call.number (answered call (turn_number v) outcome)
    go (Done w reply) tried =
        since w (with_end w call.client call.number reply) (record { more = tried.0.keeps.seen.more; changes = tried.0.keeps.seen.changes; watches = tried.0.keeps.seen.watches }) (tried.0.keeps.times may.take_up.once) (tried.0.keeps.made may.take_up.once) (first_of w tried.0) (λ more up. GivesAtMost-ends v w call.client call.number more reply tried.1 tried.0.keeps.ended up) (omega arith)
        (Adds-end w call.client call.number reply (MayTurn-kept v w tried.0 may) (tried.0.keeps.times may.take_up.once call.client call.number ∙ none))
    go (Stay w interim) tried = pends w [] tried.seen (tried.times may.take_up.once) (tried.made may.take_up.once) tried.breaks tried.ended (IsBetween-stays v w tried may) (inl refl) tried.same refl refl
    go (Hold w blockers interim) tried =
        let may_turn : MayTurn w = MayTurn-kept v w tried.0 may in
        pends w blockers tried.0.keeps.seen (tried.0.keeps.times may.take_up.once) (tried.0.keeps.made may.take_up.once) (first_of w tried.0) tried.0.keeps.ended (IsBetween-turn w may_turn) (inr (may_turn.granted (made w + 1) (omega arith))) tried.1.0
        (can_be (is_held (record { call = call; blockers = blockers })) tried.1.1.1)
        (list_any_none (λ b. not (is_given w b)) blockers (λ k d within. (let is : is_given w (get_or blockers k d) ≡ true = may_turn.take_up.given.living (get_or blockers k d) (tried.1.1.0.live k d within) in rw is refl)))
      where
        can_be : (b : Bool) → may_be_held call.what ≡ true → (b && not (may_be_held call.what)) ≡ false
        can_be true is = rw is refl
        can_be false is = refl

-- ---- the settlement, and the turn

-- where all wait, the waits end
pub stalled-kept : (v : Volume) → KeepsAll v (with_stalled v)
stalled-kept v = go (all_wait v)
  where
    go : (all : Bool) → KeepsAll v (if all then with_calls_ended (λ _. Stalled) (waits_in_order v) v else v)
    go false = KeepsAll-same v
    go true = KeepsAll-calls_ended (λ _. Stalled) (waits_in_order v) v (λ client number.
        let ordered = how_many-in_order (is_call_of client number) (λ a b. is_asked_before a.1 b.1) (filter (λ e. is_wait e.1.call.what) v.pending) in
        let kept = how_many-filter_le (is_call_of client number) (λ (e : ℕ × Pending). is_wait e.1.call.what) v.pending in omega arith)

-- a settlement makes no call, and loses none
pub record Settles (v w : Volume) : Type 0 where
  pub may : MayTurn w
  pub done : next_ready w ≡ None
  pub times : (client number : ℕ) → times client number w ≡ times client number v
  pub made : made w ≡ made v
  pub ended : AddsEnds v.ended w.ended
  pub seen : Watches v w
  pub gives : (more : ℕ) → GivesAtMost v (length v.ended + more) → GivesAtMost w (length w.ended + more)
  pub breaks : w.last_break + unbroken w ≤ v.last_break + unbroken v

pub settled-settles : (v : Volume) (starved : List CallId) → MayTurn v → Settles v (settled v starved).volume
settled-settles v starved may =
    let goes = taken_up_all-goes v starved may.take_up in
    let taken : Volume = (taken_up_all v starved).volume in
    let on : GoesOn v (taken_up_all v starved) = goes.1 in
    let stalled : KeepsAll taken (with_stalled taken) = stalled-kept taken in
    let kept : KeepsNumbers taken (with_stalled taken) = stalled.kept in
    record {
      may = MayTurn-kept taken (with_stalled taken) kept (record {
        take_up = record { may = on.may; once = on.once; none_held = on.none_held; given = on.given };
        turns = (let fewer = on.under (λ turn. nat_lt (made taken) turn) in let no_later = may.turns in
            let same = ap (λ (most : ℕ). how_many (λ (e : ℕ × Pending). nat_lt most e.0) v.pending) on.made in omega arith);
        granted = λ turn later. (let fewer = on.granted turn in let same = on.made in let none : how_many (is_granted_under turn) v.oplocks ≡ 0 = may.granted turn (omega arith) in omega arith);
      });
      done = settled-done v starved may.take_up.may;
      times = λ client number. kept.keeps.times on.once client number ∙ on.times client number;
      made = kept.keeps.made on.once ∙ on.made;
      ended = AddsEnds-next on.ended kept.keeps.ended;
      seen = Watches-next on.seen kept.keeps.seen;
      gives = λ more up. GivesAtMost-same taken (with_stalled taken) more stalled.same kept.keeps.ended (on.gives more up);
      breaks = (let before = on.breaks in let last = kept.breaks in omega arith);
    }

-- a turn leaves no pending call ready; its own call is there once then, and each other as often as before; and
-- the next turn has the next number
pub record Turns (v : Volume) (call : Call) (w : Volume) : Type 0 where
  pub may : MayTurn w
  pub done : next_ready w ≡ None
  pub times : (client number : ℕ) → times client number w ≡ times client number v + cond (is_same call.client call.number client number) 1 0
  pub number : turn_number w ≡ turn_number v + 1
  -- changes were only added, and a watch that goes back before them stood there as it is
  pub seen : Watches v w
  -- numbers are given to calls as they end
  pub gives : (more : ℕ) → GivesAtMost v (length v.ended + more) → GivesAtMost w (length w.ended + more)
  pub breaks : w.last_break + unbroken w ≤ v.last_break + unbroken v + 1

pub settlement-turns : (v : Volume) (call : Call) (starved : List CallId) → MayTurn v → times call.client call.number v ≡ 0 → Turns v call (settlement v call starved).volume
settlement-turns v call starved may none =
    let adds = Adds-answered v call (try v call (turn_number v)) may none (try-keeps v call (turn_number v) may.take_up.may.oplocks) in
    let settles = settled-settles (answered call (turn_number v) (try v call (turn_number v))) starved adds.may in
    record {
      may = settles.may;
      done = settles.done;
      times = λ client number. settles.times client number ∙ adds.times client number;
      seen = Watches-next adds.seen settles.seen;
      number = (let first = adds.made in let second = settles.made in omega arith);
      gives = λ more up. settles.gives more (adds.gives more up);
      breaks = (let first = adds.breaks in let second = settles.breaks in omega arith);
    }

pub turn-turns : (v : Volume) (call : Call) (starved : List CallId) (t : Turned) → MayTurn v → times call.client call.number v ≡ 0 → turn v call starved ≡ Some t → Turns v call t.volume
turn-turns v call starved t may none is = elim (cases_Bool (length (settlement v call starved).starved == 0)) [
  | inr some ↦ (let impossible : None ≡ Some t = rw some at is in cc)
  | inl all ↦ (let same : Some (turned v (try v call (turn_number v)) (answered call (turn_number v) (try v call (turn_number v))) starved (settlement v call starved).volume) ≡ Some t = rw all at is in
      subst (λ (t : Turned). Turns v call t.volume) (some_equal _ t same) (settlement-turns v call starved may none))
]

-- ---- what a turn gives out

-- the end of the turn's own call, where its try ended it
abbrev pub own_end : Call → Outcome → List EndOf
own_end call (Done v reply) = record { client = call.client; number = call.number; reply = reply } ∷ []
own_end call (Stay v interim) = []
own_end call (Hold v blockers interim) = []

-- a try only adds ends
pub tried-begins : (v : Volume) (turn : ℕ) (what : What) (outcome : Outcome) → TriedTo v turn what outcome → AddsEnds v.ended (volume_after outcome).ended
tried-begins v turn what (Done w reply) tried = tried.0.keeps.ended
tried-begins v turn what (Stay w interim) tried = tried.ended
tried-begins v turn what (Hold w blockers interim) tried = tried.0.keeps.ended

pub answered-ended : (call : Call) (turn : ℕ) (outcome : Outcome) → (answered call turn outcome).ended ≡ (volume_after outcome).ended ++ own_end call outcome
answered-ended call turn (Done w reply) = refl
answered-ended call turn (Stay w interim) = sym (append-nil w.ended)
answered-ended call turn (Hold w blockers interim) = sym (append-nil w.ended)

between : (v w : Volume) → AddsEnds v.ended w.ended → w.ended ≡ v.ended ++ ends_between v w
between v w begins = begins.is ∙ ap (λ (more : List EndOf). v.ended ++ more) (sym (ap (λ (ended : List EndOf). drop (length v.ended) ended) begins.is ∙ drop-append_seam v.ended begins.more))

-- the calls that end in a turn: those that its try ends, its own call where that ends it, and those that the
-- settlement ends, in this order; all but the own end is given out as `ended`
pub turn-ended : (v : Volume) (call : Call) (starved : List CallId) → MayTurn v → times call.client call.number v ≡ 0
    → (settlement v call starved).volume.ended
    ≡ v.ended ++ (ends_between v (volume_after (try v call (turn_number v))) ++ (own_end call (try v call (turn_number v))
    ++ ends_between (answered call (turn_number v) (try v call (turn_number v))) (settlement v call starved).volume))
turn-ended v call starved may none =
    let outcome : Outcome = try v call (turn_number v) in
    let tried = try-keeps v call (turn_number v) may.take_up.may.oplocks in
    let own : Volume = answered call (turn_number v) outcome in
    let after : Volume = (settlement v call starved).volume in
    let adds : Adds v call.client call.number own = Adds-answered v call outcome may none tried in
    let settles : Settles own after = settled-settles own starved adds.may in
    between own after settles.ended
    ∙ ap (λ (ended : List EndOf). ended ++ ends_between own after) (answered-ended call (turn_number v) outcome ∙ ap (λ (ended : List EndOf). ended ++ own_end call outcome) (between v (volume_after outcome) (tried-begins v (turn_number v) call.what outcome tried)))
    ∙ append_assoc (v.ended ++ ends_between v (volume_after outcome)) (own_end call outcome) (ends_between own after)
    ∙ append_assoc v.ended (ends_between v (volume_after outcome)) (own_end call outcome ++ ends_between own after)
