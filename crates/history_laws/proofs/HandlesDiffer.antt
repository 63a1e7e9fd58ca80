-- No two handles have the same client and number where no call is made twice. A try leaves a handle more only where it ends an open, and
-- that handle is of just its call. So of a call there are at most as many handles as it has ends, and it has one end at most; and a call
-- that is tried has none yet.
use Rattle.std.proofs.Common.{◌≡◌, ℕ, zero, suc, ◌+◌, ◌≤◌, ◌<◌, Bool, true, cond, List, [], ◌∷◌, ◌++◌, get_or, length, refl, sym, subst, ap, arith, inl, inr}
use Rattle.std.specs.Prelude.{All}
use Rattle.std.proofs.lemmas.Bool.{cases_Bool}
use Rattle.std.proofs.lemmas.List.Elements.{All-append, All-cons, All-nil}
use Rattle.std.proofs.lemmas.List.Folds.{list_any_at}
use Rattle.fsa_types.specs.Rows.{row_of}
use Rattle.fsa_types.specs.declared.reply.EndOf.{EndOf}
use Rattle.fsa_types.specs.declared.reply.Reply.{Reply}
use Rattle.fsa_types.specs.declared.request.Call.{Call}
use Rattle.fsa_types.specs.declared.request.CallId.{CallId}
use Rattle.fsa_types.specs.declared.request.Request.TheVariants as request
use Rattle.fsa_types.specs.declared.request.What.{What}
use Rattle.fsa_types.specs.declared.request.What.TheVariants.{Ask, Leave}
use Rattle.fsa_types.specs.declared.status.Status.TheVariants.{Cancelled}
use Rattle.fsa_model.specs.Close.{close_at, handles_of_client, is_left_behind, pending_by_turn, try_close, try_leave, with_all_closed, with_calls_ended, with_client_gone, with_closed}
use Rattle.fsa_model.specs.Edits.{with_end}
use Rattle.fsa_model.specs.Engine.{CallsDiffer, is_entry_of, own_tried}
use Rattle.fsa_model.specs.Frame.{all_unenumerated, unenumerated}
use Rattle.fsa_model.specs.History.{HistoryEntry, Run, begun, turn_on}
use Rattle.fsa_model.specs.Lookups.{handle_of, has_left, is_opened_by}
use Rattle.fsa_model.specs.Once.{IsOnce, how_many, is_end, times}
use Rattle.fsa_model.specs.Open.{Asked, try_create}
use Rattle.fsa_model.specs.Outcome.{Outcome, Done, Stay, Hold}
use Rattle.fsa_model.specs.QueryDir.{try_query_dir}
use Rattle.fsa_model.specs.Settle.{Settling, starves, taken_up, taken_up_all, with_tried}
use Rattle.fsa_model.specs.Settling.{AddsEnds, GoesOn, MaySettle, MayTurn, is_call_of}
use Rattle.fsa_model.specs.Setup.{Setup}
use Rattle.fsa_model.specs.Tries.{tried_in, tries_from, tries_of_steps, tries_of_turn}
use Rattle.fsa_model.specs.Try.{try, try_what}
use Rattle.fsa_model.specs.Turn.{answered, settlement, turn_number, volume_after}
use Rattle.fsa_model.specs.Volume.{Handle, Pending, Volume, fresh}
use Rattle.fsa_model.specs.Waiting.{is_held, next_ready, with_stalled}
use Rattle.fsa_model.proofs.CoherenceRuns.{turn_on-settled}
use Rattle.fsa_model.proofs.CountLaws.{how_many-append, how_many-filter_le, how_many-map, how_many-some}
use Rattle.fsa_model.proofs.GrantedLaws.{closed-handles}
use Rattle.fsa_model.proofs.OnceHistory.{MayTurn-fresh, run-runs}
use Rattle.fsa_model.proofs.OnceLaws.{is_same, is_same-equal, is_same-refl}
use Rattle.fsa_model.proofs.RowLaws.{option_cases}
use Rattle.fsa_model.proofs.SettleLaws.{IsNext, next_ready-is}
use Rattle.fsa_model.proofs.TakenLaws.{GoesOn-begins, GoesOn-settle_step}
use Rattle.fsa_model.proofs.TurnLaws.{Turns, settlement-turns, stalled-kept, tried-begins, try-keeps}
use Rattle.fsa_model.proofs.WatchLaws.{comes_over}
use Rattle.history_laws.specs.AsAsked.{is_opened}
use Rattle.history_laws.specs.EachVolume.{HoldsAround, HoldsOfEachVolume}
use Rattle.history_laws.specs.HandlesDiffer.{HandlesDiffer}
use Rattle.history_laws.proofs.AsAsked.{OpensIn, OpensSo, creates}
use Rattle.history_laws.proofs.KeptHandles.{what-kept}
use Rattle.history_laws.proofs.HandlesClose.{all_closed, is_spared}
use Rattle.history_laws.proofs.TreeParts.{calls_ended-handles, stalled-handles}
use Rattle.history_laws.proofs.TurnByTurn.{Differ, new-call, own-may, own-takes_up, run-keeps, settled-keeps}

-- ---- how many handles of a call there are

-- the handle was opened by the client's call of this number
abbrev is_its : ℕ → ℕ → ℕ × Handle → Bool
is_its client number entry = is_opened_by client number entry.1

abbrev opened_by : ℕ → ℕ → Volume → ℕ
opened_by client number v = how_many (is_its client number) v.handles

-- of no call there are more
abbrev OpensNone : Volume → Volume → Type 0
OpensNone v w = (client number : ℕ) → opened_by client number w ≤ opened_by client number v

-- but of this one, by one, where it has ended
abbrev OpensOwn : Volume → ℕ → ℕ → Outcome → Type 0
OpensOwn v client number (Done w reply) = (who which : ℕ) → opened_by who which w ≤ opened_by who which v + cond (is_same client number who which) 1 0
OpensOwn v client number (Stay w interim) = OpensNone v w
OpensOwn v client number (Hold w blockers interim) = OpensNone v w

-- of no call there are more handles than it has ends
abbrev OpenedByEnds : Volume → Type 0
OpenedByEnds v = (client number : ℕ) → opened_by client number v ≤ how_many (is_end client number) v.ended

-- ---- a try

-- the same handles are no more
none-same : (v w : Volume) → w.handles ≡ v.handles → OpensNone v w
none-same v w same client number = rw same (omega arith)

-- also where cursors differ
none-listed : (v w : Volume) → all_unenumerated w.handles ≡ all_unenumerated v.handles → OpensNone v w
none-listed v w same client number =
    let before = how_many-map (is_its client number) (λ (entry : ℕ × Handle). (entry.0, unenumerated entry.1)) v.handles in
    let after = how_many-map (is_its client number) (λ (entry : ℕ × Handle). (entry.0, unenumerated entry.1)) w.handles in
    let alike = ap (λ (handles : List (ℕ × Handle)). how_many (is_its client number) handles) same in
    omega arith

-- a close takes one away, and a leaving those of its client
none-closed : (v : Volume) (id : ℕ) (handle : Handle) → OpensNone v (with_closed v id handle)
none-closed v id handle client number = rw (closed-handles v id handle) (how_many-filter_le (is_its client number) _ v.handles)

none-all_closed : (handles : List (ℕ × Handle)) (v : Volume) → OpensNone v (with_all_closed handles v)
none-all_closed handles v client number = rw (all_closed handles v) (how_many-filter_le (is_its client number) (is_spared handles) v.handles)

close : (v : Volume) (client number : ℕ) → OpensNone v (volume_after (try_close v client number))
unfolding try_close close_at
close v client number = elim (option_cases (handle_of v client number)) [
  | inl unknown ↦ rw unknown (none-same v v refl)
  | inr named ↦ rw named.1 (elim (option_cases (row_of v.handles named.0)) [
    | inl gone ↦ rw gone (none-same v v refl)
    | inr there ↦ rw there.1 (none-closed v named.0 there.0)
  ])
]

leave : (v : Volume) (client : ℕ) → OpensNone v (volume_after (try_leave v client))
unfolding try_leave with_client_gone
leave v client who which =
    let ended : Volume = with_calls_ended (λ _. Cancelled) (pending_by_turn (is_left_behind client) v) v in
    let closes = none-all_closed (handles_of_client v client) ended who which in
    let kept = none-same v ended (calls_ended-handles (λ _. Cancelled) (pending_by_turn (is_left_behind client) v) v) who which in
    omega arith

-- where of no call there are more, of this one there aren't either
own-none : (v : Volume) (client number : ℕ) (outcome : Outcome) → OpensNone v (volume_after outcome) → OpensOwn v client number outcome
own-none v client number (Done w reply) none = λ who which. (let few = none who which in omega arith)
own-none v client number (Stay w interim) none = none
own-none v client number (Hold w blockers interim) none = none

own-same : (v : Volume) (client number : ℕ) (outcome : Outcome) → (volume_after outcome).handles ≡ v.handles → OpensOwn v client number outcome
own-same v client number outcome same = own-none v client number outcome (none-same v (volume_after outcome) same)

own-listed : (v : Volume) (client number : ℕ) (outcome : Outcome) → all_unenumerated (volume_after outcome).handles ≡ all_unenumerated v.handles → OpensOwn v client number outcome
own-listed v client number outcome same = own-none v client number outcome (none-listed v (volume_after outcome) same)

-- an open leaves one more where it succeeds
own-opened : (v : Volume) (call : Call) (asked : Asked) (outcome : Outcome) → OpensIn v call asked outcome → OpensOwn v call.client call.number outcome
own-opened v call asked (Done w reply) so = λ who which. elim (cases_Bool (is_opened reply.status)) [
  | inl opens ↦ (let one = so.opens opens in
      let more = how_many-append (is_its who which) v.handles ((v.last_handle + 1, one.handle) ∷ []) in
      let is : is_its who which (v.last_handle + 1, one.handle) ≡ is_same call.client call.number who which = rw (one.client, one.number) refl in
      let grown : how_many (is_its who which) (v.handles ++ (v.last_handle + 1, one.handle) ∷ []) ≡ opened_by who which v + (cond (is_same call.client call.number who which) 1 0 + 0) = rw (← is) more in
      rw one.added (omega arith))
  | inr refuses ↦ (let none = none-same v w (so.refuses refuses) who which in omega arith)
]
own-opened v call asked (Stay w interim) so = none-same v w so
own-opened v call asked (Hold w blockers interim) so = none-same v w so

-- any call
what-own : (v : Volume) (turn client number : ℕ) (what : What) → OpensOwn v client number (try_what v turn client number what)
what-own v turn client number (Ask (request.Create path wanted share disposition options attributes key)) =
    own-opened v call asked (try_create v asked) (OpensSo.so (creates v call asked refl refl))
  where
    call : Call
    call = record { client = client; number = number; what = Ask (request.Create path wanted share disposition options attributes key) }

    asked : Asked
    asked = record { client = client; number = number; path = path; wanted = wanted; share = share; disposition = disposition; options = options; attributes = attributes; key = key }
what-own v turn client number (Ask (request.Close handle)) = own-none v client number (try_close v client handle) (close v client handle)
what-own v turn client number Leave = own-none v client number (try_leave v client) (leave v client)
what-own v turn client number (Ask (request.QueryDir handle kind expression restart room)) =
    own-listed v client number (try_query_dir v client handle kind expression restart room) (what-kept v turn client number (Ask (request.QueryDir handle kind expression restart room)) refl).same
what-own v turn client number what = own-same v client number (try_what v turn client number what) (what-kept v turn client number what refl)

try-own : (v : Volume) (call : Call) (turn : ℕ) → OpensOwn v call.client call.number (try v call turn)
try-own v call turn = elim (cases_Bool (has_left v call.client)) [
  | inl left ↦ rw left (λ who which. omega arith)
  | inr here ↦ rw here (what-own v turn call.client call.number call.what)
]

-- ---- what is kept

-- ends are only added
ends-more : (client number : ℕ) {before after : List EndOf} → AddsEnds before after → how_many (is_end client number) before ≤ how_many (is_end client number) after
ends-more client number {before} {after} adds =
    let more = how_many-append (is_end client number) before adds.more in
    let is = ap (λ (ended : List EndOf). how_many (is_end client number) ended) adds.is in
    omega arith

-- where handles are no more, and ends no fewer
kept-grown : (v w : Volume) → OpensNone v w → AddsEnds v.ended w.ended → OpenedByEnds v → OpenedByEnds w
kept-grown v w none adds kept client number =
    let few = none client number in
    let before = kept client number in
    let more = ends-more client number adds in
    omega arith

-- the call's own handle comes with its end
kept-ends : (v w : Volume) (client number : ℕ) (reply : Reply) → OpensOwn v client number (Done w reply) → AddsEnds v.ended w.ended → OpenedByEnds v → OpenedByEnds (with_end w client number reply)
kept-ends v w client number reply own adds kept who which =
    let few = own who which in
    let before = kept who which in
    let more = ends-more who which adds in
    let last = how_many-append (is_end who which) w.ended (record { client = client; number = number; reply = reply } ∷ []) in
    omega arith

kept-answered : (v : Volume) (call : Call) (turn : ℕ) (outcome : Outcome) → OpensOwn v call.client call.number outcome → AddsEnds v.ended (volume_after outcome).ended → OpenedByEnds v
    → OpenedByEnds (answered call turn outcome)
kept-answered v call turn (Done w reply) own adds kept = kept-ends v w call.client call.number reply own adds kept
kept-answered v call turn (Stay w interim) own adds kept = kept-grown v w own adds kept
kept-answered v call turn (Hold w blockers interim) own adds kept = kept-grown v w own adds kept

kept-tried : (v : Volume) (turn : ℕ) (pending : Pending) (outcome : Outcome) → OpensOwn v pending.call.client pending.call.number outcome → AddsEnds v.ended (volume_after outcome).ended → OpenedByEnds v
    → OpenedByEnds (with_tried turn pending outcome)
kept-tried v turn pending (Done w reply) own adds kept = kept-ends v w pending.call.client pending.call.number reply own adds kept
kept-tried v turn pending (Stay w interim) own adds kept = kept-grown v w own adds kept
kept-tried v turn pending (Hold w blockers interim) own adds kept = kept-grown v w own adds kept

-- by what ends without a try
kept-untried : (v : Volume) (client number : ℕ) (reply : Reply) → OpenedByEnds v → OpenedByEnds (with_end v client number reply)
kept-untried v client number reply kept = kept-grown v (with_end v client number reply) (none-same v (with_end v client number reply) refl) (record { more = record { client = client; number = number; reply = reply } ∷ []; is = refl }) kept

-- a try ends calls, and takes no end away
try-adds : (v : Volume) (call : Call) (turn : ℕ) → MaySettle v → AddsEnds v.ended (volume_after (try v call turn)).ended
try-adds v call turn may = tried-begins v turn call.what (try v call turn) (try-keeps v call turn may.oplocks)

-- by the turn's own call
kept-by_own : (v : Volume) (call : Call) → MayTurn v → OpenedByEnds v → OpenedByEnds (own_tried v call)
kept-by_own v call may kept = kept-answered v call (turn_number v) (try v call (turn_number v)) (try-own v call (turn_number v)) (try-adds v call (turn_number v) may.take_up.may) kept

-- by each step of its settlement
kept-taken_up : (s : Settling) (entry : ℕ × Pending) → MaySettle s.volume → IsNext s.volume entry → OpenedByEnds s.volume → OpenedByEnds (taken_up s entry).volume
kept-taken_up s entry may next kept = elim (cases_Bool (is_held entry.1)) [
  | inr waits ↦ rw waits (let comes = comes_over s entry.1 waits next.ready in
      subst (λ (w : Volume). OpenedByEnds w) (sym comes.is)
      (kept-untried comes.seen entry.1.call.client entry.1.call.number comes.reply (λ client number. rw (comes.untouched.opens, comes.untouched.ended) (kept client number))))
  | inl held ↦ rw held (elim (cases_Bool (starves s.starved entry.1)) [
    | inl starving ↦ rw starving (kept-untried s.volume entry.1.call.client entry.1.call.number _ kept)
    | inr plenty ↦ rw plenty (kept-tried s.volume entry.0 entry.1 (try s.volume entry.1.call entry.0) (try-own s.volume entry.1.call entry.0) (try-adds s.volume entry.1.call entry.0 may) kept)
  ])
]

-- by waits that end where all wait
kept-stalled : (v : Volume) → OpenedByEnds v → OpenedByEnds (with_stalled v)
kept-stalled v kept = kept-grown v (with_stalled v) (none-same v (with_stalled v) (stalled-handles v)) (stalled-kept v).kept.keeps.ended kept

-- by a turn
kept-settled : (v : Volume) (call : Call) (starved : List CallId) → MayTurn v → times call.client call.number v ≡ 0 → OpenedByEnds v → OpenedByEnds (settlement v call starved).volume
kept-settled v call starved may new kept =
    settled-keeps OpenedByEnds kept-taken_up v call starved (own-may v call may new) (kept-stalled (taken_up_all (own_tried v call) starved).volume) (kept-by_own v call may kept)

-- ---- so handles differ

-- where two items pass a test, it counts at least two
two-pass : {X : Type 0} (p : X → Bool) (xs : List X) (i j : ℕ) (d : X) → i < j → j < length xs → p (get_or xs i d) ≡ true → p (get_or xs j d) ≡ true → 2 ≤ how_many p xs
two-pass p [] i j d less within one other = absurd (omega arith)
two-pass p (x ∷ xs) i zero d less within one other = absurd (omega arith)
two-pass p (x ∷ xs) zero (suc j) d less within one other =
    let rest = how_many-some p xs (list_any_at p xs j d (omega arith) other) in
    let here : p x ≡ true = one in
    rw here (omega arith)
two-pass p (x ∷ xs) (suc i) (suc j) d less within one other =
    let rest = two-pass p xs i j d (omega arith) (omega arith) one other in
    omega arith

-- so where of each call there is one at most, handles differ
one-differ : (v : Volume) → ((client number : ℕ) → opened_by client number v ≤ 1) → HandlesDiffer v
one-differ v few i j d less within =
    let later : ℕ × Handle = get_or v.handles j d in
    elim (cases_Bool (is_opened_by later.1.client later.1.number (get_or v.handles i d).1)) [
      | inr other ↦ other
      | inl same ↦ (
          let one = few later.1.client later.1.number in
          let two = two-pass (is_its later.1.client later.1.number) v.handles i j d less within same (is_same-refl later.1.client later.1.number) in
          absurd (omega arith))
    ]

-- where no call is there twice, of each there is one handle at most
once-few : (v : Volume) → IsOnce v → OpenedByEnds v → (client number : ℕ) → opened_by client number v ≤ 1
once-few v once kept client number =
    let one : times client number v ≤ 1 = once client number in
    let few = kept client number in
    omega arith

once-differ : (v : Volume) → IsOnce v → OpenedByEnds v → HandlesDiffer v
once-differ v once kept = one-differ v (once-few v once kept)

-- also after a try of a call that had none
own-differ : (v : Volume) (client number : ℕ) (outcome : Outcome) → OpensOwn v client number outcome → opened_by client number v ≡ 0 → ((who which : ℕ) → opened_by who which v ≤ 1)
    → HandlesDiffer (volume_after outcome)
own-differ v client number (Done w reply) own none few = one-differ w (λ who which.
    (let one = few who which in
    let more = own who which in
    elim (cases_Bool (is_same client number who which)) [
      | inl is ↦ (let equal = is_same-equal client number who which is in
          let none_yet : opened_by who which v ≡ 0 = rw (← equal.0, ← equal.1) none in
          let at_most : opened_by who which w ≤ opened_by who which v + 1 = rw is at more in
          omega arith)
      | inr other ↦ (let no_more : opened_by who which w ≤ opened_by who which v + 0 = rw other at more in omega arith)
    ]))
own-differ v client number (Stay w interim) own none few = one-differ w (λ who which. (let one = few who which in let more = own who which in omega arith))
own-differ v client number (Hold w blockers interim) own none few = one-differ w (λ who which. (let one = few who which in let more = own who which in omega arith))

-- ---- around each try

around : (v : Volume) (call : Call) (turn : ℕ) → IsOnce v → how_many (is_end call.client call.number) v.ended ≡ 0 → OpenedByEnds v → HoldsAround HandlesDiffer (record { before = v; call = call; turn = turn })
around v call turn once unended kept = record {
  before = once-differ v once kept;
  after = own-differ v call.client call.number (try v call turn) (try-own v call turn) (let few = kept call.client call.number in omega arith) (once-few v once kept);
}

-- of what is taken up
all-tried : (own : Volume) (s : Settling) (entry : ℕ × Pending) → GoesOn own s → IsNext s.volume entry → OpenedByEnds s.volume → All (HoldsAround HandlesDiffer) (tried_in s entry)
all-tried own s entry on next kept = elim (cases_Bool (is_held entry.1)) [
  | inr waits ↦ rw waits (All-nil (HoldsAround HandlesDiffer))
  | inl held ↦ rw held (elim (cases_Bool (starves s.starved entry.1)) [
    | inl starving ↦ rw starving (All-nil (HoldsAround HandlesDiffer))
    | inr plenty ↦ rw plenty (All-cons (HoldsAround HandlesDiffer) (record { before = s.volume; call = entry.1.call; turn = entry.0 }) []
        (around s.volume entry.1.call entry.0 on.once unended kept) (All-nil (HoldsAround HandlesDiffer)))
  ])
]
  where
    unended : how_many (is_end entry.1.call.client entry.1.call.number) s.volume.ended ≡ 0
    unended =
        let pends = next.is_there (is_call_of entry.1.call.client entry.1.call.number) (is_same-refl entry.1.call.client entry.1.call.number) in
        let one : times entry.1.call.client entry.1.call.number s.volume ≤ 1 = on.once entry.1.call.client entry.1.call.number in
        omega arith

all-steps : (own : Volume) (most : ℕ) (s : Settling) → GoesOn own s → OpenedByEnds s.volume → All (HoldsAround HandlesDiffer) (tries_of_steps most s)
all-steps own zero s on kept = All-nil (HoldsAround HandlesDiffer)
all-steps own (suc more) s on kept = elim (option_cases (next_ready s.volume)) [
  | inl none ↦ rw none (All-nil (HoldsAround HandlesDiffer))
  | inr some ↦ (let next : IsNext s.volume some.0 = next_ready-is s.volume some.0 some.1 in
      rw some.1 (All-append (HoldsAround HandlesDiffer) (tried_in s some.0) (tries_of_steps more (taken_up s some.0)) (all-tried own s some.0 on next kept)
      (all-steps own more (taken_up s some.0) (GoesOn-settle_step own s (taken_up s some.0) on (rw some.1 refl)).0 (kept-taken_up s some.0 on.may next kept))))
]

-- of a turn whose call is new
all-turn : (v : Volume) (call : Call) (starved : List CallId) → MayTurn v → times call.client call.number v ≡ 0 → OpenedByEnds v → All (HoldsAround HandlesDiffer) (tries_of_turn v call starved)
all-turn v call starved may new kept =
    let start : Settling = record { volume = own_tried v call; starved = starved; taken = [] } in
    All-cons (HoldsAround HandlesDiffer) (record { before = v; call = call; turn = turn_number v }) (tries_of_steps (length (own_tried v call).pending) start)
    (around v call (turn_number v) may.take_up.once (omega arith) kept)
    (all-steps (own_tried v call) (length (own_tried v call).pending) start (GoesOn-begins (own_tried v call) starved (own-takes_up v call may new)) (kept-by_own v call may kept))

-- of these turns, also where the last of them can't be done
all-from : (history : List HistoryEntry) (r : Run) → MayTurn r.volume → Differ r.volume history → OpenedByEnds r.volume → All (HoldsAround HandlesDiffer) (tries_from r history)
all-from [] r may differ kept = All-nil (HoldsAround HandlesDiffer)
all-from (entry ∷ more) r may differ kept =
    All-append (HoldsAround HandlesDiffer) (tries_of_turn r.volume entry.call entry.starved) _ (all-turn r.volume entry.call entry.starved may new kept) (elim (option_cases (turn_on r entry)) [
      | inl none ↦ rw none (All-nil (HoldsAround HandlesDiffer))
      | inr some ↦ (let same = sym (turn_on-settled r entry some.0 some.1) in
          rw some.1 (all-from more some.0 (subst (λ (w : Volume). MayTurn w) same turns.may)
          (subst (λ (w : Volume). Differ w more) same (λ client number. (let one = turns.times client number in let few = differ client number in omega arith)))
          (subst (λ (w : Volume). OpenedByEnds w) same (kept-settled r.volume entry.call entry.starved may new kept))))
    ])
  where
    new : times entry.call.client entry.call.number r.volume ≡ 0
    new = new-call r.volume entry more differ

    turns : Turns r.volume entry.call (settlement r.volume entry.call entry.starved).volume
    turns = settlement-turns r.volume entry.call entry.starved may new

-- ---- the law

-- no two handles have the same client and number
pub handles-differ : (setup : Setup) (history : List HistoryEntry) → CallsDiffer history → HoldsOfEachVolume HandlesDiffer setup history
handles-differ setup history differ = record {
  tries = all-from history (begun setup) (MayTurn-fresh setup) (λ client number. (let few : how_many (is_entry_of client number) history ≤ 1 = differ client number in omega arith)) fresh_kept;
  last = λ r is. once-differ r.volume (run-runs setup history r differ is).may.take_up.once
      (run-keeps (λ v entries. OpenedByEnds v) (λ v entry later may differ turns kept. kept-settled v entry.call entry.starved may (new-call v entry later differ) kept) setup history r differ fresh_kept is);
}
  where
    fresh_kept : OpenedByEnds (fresh setup)
    fresh_kept client number = omega arith
