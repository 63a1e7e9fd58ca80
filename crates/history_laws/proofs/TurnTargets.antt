-- In each turn the call of an oplock is told of the break that begins, and the break leaves just what it was told.
use Rattle.std.proofs.Common.{◌≡◌, ℕ, zero, suc, ◌≤◌, Bool, true, false, not, List, [], ◌∷◌, ◌++◌, length, refl, sym, ◌∙◌, arith, inl, inr, Option, Some, None}
use Rattle.std.specs.List.{filter, fold}
use Rattle.std.specs.Option.{option_map_or}
use Rattle.std.specs.Prelude.{◌==◌, ◌&&◌, is_some, if◌then◌else◌}
use Rattle.std.proofs.lemmas.Bool.{cases_Bool}
use Rattle.fsa_types.specs.OplockGrants.{as_answered, as_granted}
use Rattle.fsa_types.specs.Oplocks.{has_read, in_both}
use Rattle.fsa_types.specs.Rows.{row_of}
use Rattle.fsa_types.specs.declared.reply.EndOf.{EndOf}
use Rattle.fsa_types.specs.declared.reply.Interim.TheVariants.{Granted}
use Rattle.fsa_types.specs.declared.request.Call.{Call}
use Rattle.fsa_types.specs.declared.request.Level.{Level}
use Rattle.fsa_types.specs.declared.request.Request.TheVariants as request
use Rattle.fsa_types.specs.declared.request.What.{What}
use Rattle.fsa_types.specs.declared.request.What.TheVariants.{Ask, Leave}
use Rattle.fsa_types.specs.declared.status.Status.TheVariants.{Cancelled, OplockNotGranted, OplockSwitchedToNewHandle}
use Rattle.fsa_model.specs.Close.{close_at, handles_of_client, is_left_behind, pending_by_turn, try_close, try_leave, with_all_closed, with_calls_ended, with_client_gone, with_closed}
use Rattle.fsa_model.specs.Edits.{is_call, is_lock_on, with_end, without_oplock}
use Rattle.fsa_model.specs.Engine.{CallsDiffer, own_tried}
use Rattle.fsa_model.specs.Grant.{ack_at, ack_keeping, is_not_granted, oplock_at, oplock_by, oplock_on, switched, target_of, try_ack, try_oplock, with_granted, with_level_kept, with_switched}
use Rattle.fsa_model.specs.History.{HistoryEntry, Run, run}
use Rattle.fsa_model.specs.Locking.{try_unlock, unlock_at, unlock_by, unlock_range}
use Rattle.fsa_model.specs.Lookups.{handle_of, has_left, number_of}
use Rattle.fsa_model.specs.Once.{IsOnce, how_many, is_end, times}
use Rattle.fsa_model.specs.Outcome.{Outcome, Done, Stay, Hold, refused}
use Rattle.fsa_model.specs.Reports.{settling_after}
use Rattle.fsa_model.specs.Settle.{Settling, repeated, settle_step, starves, taken_up, taken_up_all, with_tried}
use Rattle.fsa_model.specs.Settling.{HasOneOplockEach, MaySettle, MayTurn}
use Rattle.fsa_model.specs.Setup.{Setup}
use Rattle.fsa_model.specs.Try.{try, try_what}
use Rattle.fsa_model.specs.Turn.{answered, settlement, turn_number, volume_after}
use Rattle.fsa_model.specs.Volume.{Handle, Oplock, Pending, Volume}
use Rattle.fsa_model.specs.Waiting.{is_granted_under, is_held, next_ready, try_cancel}
use Rattle.fsa_model.proofs.CountLaws.{how_many-append, how_many-filter_le, how_many-map, how_many-weaker, and_left}
use Rattle.fsa_model.proofs.EngineLaws.{new-before, run-before}
use Rattle.fsa_model.proofs.GrantLaws.{oplocks-call_ended}
use Rattle.fsa_model.proofs.OnceLaws.{SameBlockers, blockers-calls_ended}
use Rattle.fsa_model.proofs.RowLaws.{any-push, option_cases}
use Rattle.history_laws.specs.Telling.{TellsTarget, ToldTargets, is_told_level, is_untold, tells_level}
use Rattle.history_laws.proofs.AnyLaws.{and_none, none-stronger}
use Rattle.history_laws.proofs.BackedTries.{MayBack}
use Rattle.history_laws.proofs.BrokenGrants.{Closes, closes}
use Rattle.history_laws.proofs.ByBreaks.{TriesByBreaks}
use Rattle.history_laws.proofs.GrantedCalls.{goes, one, run-may_back}
use Rattle.history_laws.proofs.TargetRuns.{AreApart, by-targets}
use Rattle.history_laws.proofs.ToldTargets.{unbroken-tells}
use Rattle.history_laws.proofs.TriesByBreaks.{changes_otherwise, what-by_breaks}
use Rattle.history_laws.proofs.TurnBlockers.{blockers-come, blockers-stalled}
use Rattle.history_laws.proofs.TurnByTurn.{differ-before, differ-front}

-- ---- no break begins

-- no more oplocks have a break in progress, whatever else they are
abbrev is_breaking_so : (Oplock → Bool) → Oplock → Bool
is_breaking_so test oplock = is_some oplock.target && test oplock

record BeginsNone (v w : Volume) : Type 0 where
  fewer : (test : Oplock → Bool) → how_many (is_breaking_so test) w.oplocks ≤ how_many (is_breaking_so test) v.oplocks

begins-same : (v w : Volume) → w.oplocks ≡ v.oplocks → BeginsNone v w
begins-same v w same = record { fewer = λ test. rw same (omega arith) }

begins-fewer : (v w : Volume) (keep : Oplock → Bool) → w.oplocks ≡ filter keep v.oplocks → BeginsNone v w
begins-fewer v w keep same = record { fewer = λ test. rw same (how_many-filter_le (is_breaking_so test) keep v.oplocks) }

begins-next : {u v w : Volume} → BeginsNone u v → BeginsNone v w → BeginsNone u w
begins-next first second = record { fewer = λ test. (let one = first.fewer test in let two = second.fewer test in omega arith) }

all_closed : (handles : List (ℕ × Handle)) (v : Volume) → BeginsNone v (with_all_closed handles v)
all_closed [] v = begins-same v v refl
all_closed (entry ∷ handles) v =
    begins-next (begins-fewer v (with_closed v entry.0 entry.1) (λ (o : Oplock). not (o.handle == entry.0)) (Closes.oplocks (closes v entry.0 entry.1))) (all_closed handles (with_closed v entry.0 entry.1))

all_switched : (oplocks : List Oplock) (v : Volume) → BeginsNone v (fold with_switched v oplocks)
all_switched [] v = begins-same v v refl
all_switched (o ∷ oplocks) v =
    begins-next (begins-fewer v (with_switched v o) (λ (x : Oplock). not (x.handle == o.handle)) (oplocks-call_ended (without_oplock v o.handle) o.call OplockSwitchedToNewHandle)) (all_switched oplocks (with_switched v o))

granted : (v : Volume) (id key stream : ℕ) (level : Level) (turn : ℕ) → BeginsNone v (with_granted v id key stream level turn)
granted v id key stream level turn =
    let switches : BeginsNone v (fold with_switched v (switched v id key stream)) = all_switched (switched v id key stream) v in
    record { fewer = λ test. (let before = switches.fewer test in let all = how_many-append (is_breaking_so test) (fold with_switched v (switched v id key stream)).oplocks (as_granted id key level turn ∷ []) in omega arith) }

kept : (v : Volume) (id : ℕ) (level : Level) (turn : ℕ) → BeginsNone v (with_level_kept v id level turn)
kept v id level turn = record {
  fewer = λ test.
      (let all = how_many-map (is_breaking_so test) (as_answered id level turn) v.oplocks in
      let weaker = how_many-weaker (λ x. is_breaking_so test (as_answered id level turn x)) (is_breaking_so test) v.oplocks
      (λ x both. elim (cases_Bool (x.handle == id)) [ inl here ↦ (let impossible : false ≡ true = rw here at both in cc) | inr apart ↦ rw apart at both ]) in omega arith);
}

-- ---- any try

record Targets (v : Volume) (outcome : Outcome) : Type 0 where
  so : TellsTarget v (volume_after outcome)

module _ (v : Volume) (one_each : HasOneOplockEach v) where
  goes-if : (test : Bool) (one other : Outcome) → Targets v one → Targets v other → Targets v (if test then one else other)
  goes-if true one other holds fails = holds
  goes-if false one other holds fails = fails

  goes-option : {X : Type 0} (found : Option X) (some : X → Outcome) (none : Outcome) → ((x : X) → Targets v (some x)) → Targets v none → Targets v (option_map_or some found none)
  goes-option None some none with_some with_none = with_none
  goes-option (Some x) some none with_some with_none = with_some x

  goes-none : (outcome : Outcome) → BeginsNone v (volume_after outcome) → Targets v outcome
  goes-none outcome none = record { so = unbroken-tells v (volume_after outcome) one_each none.fewer }

  goes-same : (outcome : Outcome) → (volume_after outcome).oplocks ≡ v.oplocks → Targets v outcome
  goes-same outcome same = goes-none outcome (begins-same v (volume_after outcome) same)

  oplock : (client handle : ℕ) (level : Level) (turn : ℕ) → Targets v (try_oplock v client handle level turn)
  unfolding try_oplock oplock_at oplock_by oplock_on
  oplock client handle level turn =
      goes-option (handle_of v client handle) _ _ (λ id. goes-option (row_of v.handles id) _ _ (λ row. goes-option row.stream _ _
      (λ stream. goes-if (is_not_granted v id row.key stream level) _ _ (goes-same (refused v OplockNotGranted) refl) (goes-none (Stay (with_granted v id row.key stream level turn) (Granted level)) (granted v id row.key stream level turn))) (goes-same _ refl)) (goes-same _ refl)) (goes-same _ refl)

  ack : (client handle : ℕ) (level : Level) (turn : ℕ) → Targets v (try_ack v client handle level turn)
  unfolding try_ack ack_at ack_keeping
  ack client handle level turn =
      goes-option (handle_of v client handle) _ _ (λ id. goes-option (target_of v id) _ _
      (λ target. goes-if (has_read (in_both level target)) _ _ (goes-none _ (kept v id (in_both level target) turn)) (goes-none _ (begins-fewer v (without_oplock v id) (λ (o : Oplock). not (o.handle == id)) refl)))
      (goes-same _ refl)) (goes-same _ refl)

  unlock : (client handle at count : ℕ) → Targets v (try_unlock v client handle at count)
  unfolding try_unlock unlock_at unlock_by unlock_range
  unlock client handle at count =
      goes-option (handle_of v client handle) _ _ (λ id. goes-option (row_of v.handles id) _ _ (λ row. goes-option row.stream _ _
      (λ stream. goes-option (number_of (is_lock_on id at count) v.locks) _ _ (λ number. goes-same _ refl) (goes-same _ refl)) (goes-same _ refl)) (goes-same _ refl)) (goes-same _ refl)

  close : (client handle : ℕ) → Targets v (try_close v client handle)
  unfolding try_close close_at
  close client handle =
      goes-option (handle_of v client handle) _ _ (λ id. goes-option (row_of v.handles id) _ _ (λ row. goes-none _ (all_closed ((id, row) ∷ []) v)) (goes-same _ refl)) (goes-same _ refl)

  cancel : (client number : ℕ) → Targets v (try_cancel v client number)
  unfolding try_cancel
  cancel client number =
      goes-option (number_of (is_call client number) v.pending) _ _
      (λ turn. goes-none _ (begins-fewer v _ (λ o. not (is_granted_under turn o)) refl)) (goes-same _ refl)

  leave : (client : ℕ) → Targets v (try_leave v client)
  unfolding try_leave with_client_gone
  leave client =
      let ended : Volume = with_calls_ended (λ _. Cancelled) (pending_by_turn (is_left_behind client) v) v in
      goes-none _ (begins-next (begins-same v ended (SameBlockers.oplocks (blockers-calls_ended (λ _. Cancelled) (pending_by_turn (is_left_behind client) v) v)))
      (begins-next (all_closed (handles_of_client v client) ended) (begins-same (with_all_closed (handles_of_client v client) ended) _ refl)))

what-targets : (v : Volume) (turn client number : ℕ) (what : What) → AreApart v → Targets v (try_what v turn client number what)
what-targets v turn client number what apart = elim (cases_Bool (changes_otherwise what)) [
  | inr breaks ↦ record { so = by-targets v _ (TriesByBreaks.so (what-by_breaks v turn client number what breaks)) apart }
  | inl more ↦ own what more
]
  where
    own : (what : What) → changes_otherwise what ≡ true → Targets v (try_what v turn client number what)
    own (Ask (request.Oplock handle level)) more = oplock v apart.one client handle level turn
    own (Ask (request.Ack handle level)) more = ack v apart.one client handle level turn
    own (Ask (request.Unlock handle at count)) more = unlock v apart.one client handle at count
    own (Ask (request.Close handle)) more = close v apart.one client handle
    own (Ask (request.Cancel cancelled)) more = cancel v apart.one client cancelled
    own Leave more = leave v apart.one client
    own _ more = cc

try-targets : (v : Volume) (call : Call) (turn : ℕ) → AreApart v → Targets v (try v call turn)
try-targets v call turn apart = goes-if v apart.one (has_left v call.client) _ _ (goes-same v apart.one _ refl) (what-targets v turn call.client call.number call.what apart)

-- ---- a turn

-- where more calls end, and oplocks stay
later-targets : (u v w : Volume) (more : List EndOf) → w.oplocks ≡ v.oplocks → w.ended ≡ v.ended ++ more → TellsTarget u v → TellsTarget u w
later-targets u v w more oplocks ended told handle turn client number held pends =
    rw (oplocks, ended) (none-stronger (is_untold handle client number v.ended) (is_untold handle client number (v.ended ++ more)) v.oplocks (λ o is. by o is) (told handle turn client number held pends))
  where
    by : (o : Oplock) → is_untold handle client number (v.ended ++ more) o ≡ true → is_untold handle client number v.ended o ≡ true
    by o is = elim (option_cases o.target) [
      | inl none ↦ rw none (rw none at is)
      | inr target ↦ elim (cases_Bool (is_told_level client number target.0 v.ended)) [
        | inr untold ↦ rw (target.1, untold) (let here : (o.handle == handle) ≡ true = and_left (o.handle == handle) _ is in rw here refl)
        | inl tells ↦ (let still = any-push (λ (end : EndOf). is_end client number end && tells_level target.0 end.reply) v.ended more tells in
            let impossible : false ≡ true = sym (and_none (o.handle == handle) false refl) ∙ rw (target.1, still) at is in cc)
      ]
    ]

same-targets : (v w : Volume) → HasOneOplockEach v → w.oplocks ≡ v.oplocks → TellsTarget v w
same-targets v w one_each same = unbroken-tells v w one_each (BeginsNone.fewer (begins-same v w same))

own-targets : (v : Volume) (call : Call) → AreApart v → TellsTarget v (own_tried v call)
own-targets v call apart = by (try v call (turn_number v)) (try-targets v call (turn_number v) apart).so
  where
    by : (outcome : Outcome) → TellsTarget v (volume_after outcome) → TellsTarget v (answered call (turn_number v) outcome)
    by (Done w reply) told = later-targets v w (with_end w call.client call.number reply) (record { client = call.client; number = call.number; reply = reply } ∷ []) refl refl told
    by (Stay w interim) told = told
    by (Hold w blockers interim) told = told

taken_up-targets : (s : Settling) (entry : ℕ × Pending) → AreApart s.volume → TellsTarget s.volume (taken_up s entry).volume
taken_up-targets s entry apart = elim (cases_Bool (is_held entry.1)) [
  | inr free ↦ same-targets s.volume (taken_up s entry).volume apart.one (rw free (SameBlockers.oplocks (blockers-come s entry.1 entry.1.call.what)))
  | inl held ↦ elim (cases_Bool (starves s.starved entry.1)) [
    | inl starving ↦ same-targets s.volume (taken_up s entry).volume apart.one (rw (held, starving) refl)
    | inr plenty ↦ rw (held, plenty) (tried (try s.volume entry.1.call entry.0) (try-targets s.volume entry.1.call entry.0 apart).so)
  ]
]
  where
    tried : (outcome : Outcome) → TellsTarget s.volume (volume_after outcome) → TellsTarget s.volume (with_tried entry.0 entry.1 outcome)
    tried (Done w reply) told = later-targets s.volume w (with_end w entry.1.call.client entry.1.call.number reply) (record { client = entry.1.call.client; number = entry.1.call.number; reply = reply } ∷ []) refl refl told
    tried (Stay w interim) told = told
    tried (Hold w blockers interim) told = told

-- the step of a settlement after so many
step-targets : (steps : ℕ) (s : Settling) → ((steps : ℕ) → AreApart (repeated settle_step steps s).volume) → TellsTarget (repeated settle_step steps s).volume (repeated settle_step (suc steps) s).volume
step-targets zero s apart = elim (option_cases (next_ready s.volume)) [
  | inl none ↦ rw none (same-targets s.volume s.volume (apart 0).one refl)
  | inr found ↦ rw found.1 (taken_up-targets s found.0 (apart 0))
]
step-targets (suc steps) s apart = elim (option_cases (next_ready s.volume)) [
  | inl none ↦ rw none (same-targets s.volume s.volume (apart 0).one refl)
  | inr found ↦ rw found.1 (step-targets steps (taken_up s found.0) (λ n. rw found.1 at (apart (suc n))))
]

-- between turns, and in a settlement
apart-back : (v : Volume) → MaySettle v → IsOnce v → MayBack v → AreApart v
apart-back v may once back = record {
  one = may.oplocks;
  grants = one v may back;
  turns = may.turns;
  calls = λ client number. (let few : times client number v ≤ 1 = once client number in omega arith);
}

-- in a turn of a history, as it begins and in its settlement
pub record ApartIn (v : Volume) (entry : HistoryEntry) : Type 0 where
  pub before : AreApart v
  pub so_far : (steps : ℕ) → AreApart (settling_after v entry.call entry.starved steps).volume

pub turn-apart : (setup : Setup) (history front later : List HistoryEntry) (entry : HistoryEntry) (r : Run) → CallsDiffer history → history ≡ front ++ entry ∷ later → run setup front ≡ Some r
    → ApartIn r.volume entry
turn-apart setup history front later entry r differ is runs = record {
  before = apart-back r.volume may.take_up.may may.take_up.once back;
  so_far = λ steps. (let come = goes r.volume entry.call entry.starved may new back steps in apart-back (settling_after r.volume entry.call entry.starved steps).volume come.0.may come.0.once come.1);
}
  where
    differ_to : CallsDiffer (front ++ entry ∷ [])
    differ_to = differ-before history front later entry is differ

    may : MayTurn r.volume
    may = (run-before setup front entry r differ_to runs).may

    new : times entry.call.client entry.call.number r.volume ≡ 0
    new = new-before setup front entry r differ_to runs

    back : MayBack r.volume
    back = run-may_back setup front r (differ-front front (entry ∷ []) differ_to) runs

pub told-targets : (setup : Setup) (history : List HistoryEntry) → CallsDiffer history → ToldTargets setup history
told-targets setup history differ front later entry r is runs =
    let apart = turn-apart setup history front later entry r differ is runs in
    record {
      tried = own-targets r.volume entry.call apart.before;
      stepped = λ steps. step-targets steps (record { volume = own_tried r.volume entry.call; starved = entry.starved; taken = [] }) apart.so_far;
      stalled = same-targets (taken_up_all (own_tried r.volume entry.call) entry.starved).volume (settlement r.volume entry.call entry.starved).volume (apart.so_far (length (own_tried r.volume entry.call).pending)).one
          (SameBlockers.oplocks (blockers-stalled (taken_up_all (own_tried r.volume entry.call) entry.starved).volume));
    }
