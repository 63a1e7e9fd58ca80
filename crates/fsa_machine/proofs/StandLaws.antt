-- What a machine stands for, over one turn.
use Rattle.std.proofs.Common.{◌≡◌, ◌≢◌, ℕ, ◌+◌, ◌<◌, ◌≤◌, Bool, true, false, not, List, [], ◌∷◌, ◌++◌, length, Some, None, refl, ap, sym, subst, ◌∙◌, arith, length-append, cond, inl, inr, All, IsTrue, le-leb, leb-true, lt-ltb, ltb-true, eqb-true}
use Rattle.std.specs.Prelude.{◌==◌, ◌&&◌, ◌||◌, nat_le, nat_lt, map, find, option_map, slice_get, is_some, Option, Result, Ok, Err, IfOk, OnErr}
use Rattle.std.specs.List.{list_any}
use Rattle.std.proofs.lemmas.Bool.{cases_Bool}
use Rattle.std.proofs.lemmas.Bool.Decides.{nat_tests}
use Rattle.std.proofs.lemmas.List.{map-append}
use Rattle.std.proofs.lemmas.Option.{slice_get-map}
use Rattle.std.proofs.lemmas.List.Elements.{All-head, All-tail}
use Rattle.fsa_types.specs.declared.request.Call.{Call}
use Rattle.fsa_types.specs.declared.memory.NoMemory.{NoMemory}
use Rattle.fsa_types.specs.declared.reply.Out.{Out}
use Rattle.fsa_types.specs.declared.reply.Reply.{Reply}
use Rattle.fsa_types.specs.declared.reply.Why.{Why}
use Rattle.fsa_types.specs.declared.request.CallId.{CallId}
use Rattle.fsa_types.specs.declared.request.What.{What}
use Rattle.fsa_types.specs.declared.request.What.TheVariants.{WaitFor}
use Rattle.fsa_model.specs.Bounds.{most_entries}
use Rattle.fsa_model.specs.Engine.{CallsDiffer, EndsOnce, NoneReady, TakesReleased, is_entry_of}
use Rattle.fsa_model.specs.History.{GaveOut, HistoryEntry, Run, run, with_turn}
use Rattle.fsa_model.specs.LineCalls.{IsLineCall}
use Rattle.fsa_model.specs.Lookups.{is_opened_by}
use Rattle.fsa_model.specs.Once.{how_many, is_end, made, times}
use Rattle.fsa_model.specs.Outcome.{TurnOut}
use Rattle.fsa_model.specs.Schedule.{calls_of}
use Rattle.fsa_model.specs.Setup.{Setup}
use Rattle.fsa_model.specs.Turn.{Turned, turn}
use Rattle.fsa_model.specs.Volume.{Handle, Pending, Volume, fresh}
use Rattle.fsa_model.specs.Waiting.{has_ended, is_pending}
use Rattle.fsa_model.specs.Settling.{MayTurn}
use Rattle.fsa_model.proofs.CountLaws.{how_many-append, how_many-none, how_many-some}
use Rattle.fsa_model.proofs.EngineLaws.{run-ends_once, run-none_ready, run-released}
use Rattle.fsa_model.proofs.HistoryLaws.{run-push}
use Rattle.fsa_model.proofs.OnceHistory.{Runs, run-runs}
use Rattle.fsa_model.proofs.OnceLaws.{is_same-equal}
use Rattle.fsa_model.proofs.ScheduleLaws.{calls_of-push}
use Rattle.fsa_model.proofs.SettleLaws.{some_equal}
use Rattle.fsa_model.proofs.TurnLaws.{Turns, turn-turns}
use Rattle.fsa_machine.specs.Kept.{kept_entry}
use Rattle.fsa_machine.specs.declared.kept.KeptTurn.{KeptTurn}
use Rattle.fsa_machine.specs.Serves.{KnowsWaited, MayTry, SameBase, Serves, ServesOn, most_turns}
use Rattle.fsa_machine.specs.MachineView.{CallsNumbered, RunsTo, calls_of_entries, setup_in}
use Rattle.fsa_model.specs.Ended.{ended_with_list, reply_in}
use Rattle.fsa_machine.proofs.LookLaws.{some-found}
use Rattle.fsa_machine.proofs.ServeLaws.{All-each, GivesUpTo-more, Serves-fresh, few-oplocks}

-- ---- one more call of a client

one_more : (n k : ℕ) → cond (nat_lt 0 n && nat_le n k) 1 0 + cond (k + 1 == n) 1 0 ≡ cond (nat_lt 0 n && nat_le n (k + 1)) 1 0
one_more n k = elim (cases_Bool (k + 1 == n)) [
  | inl is ↦ (let same : k + 1 ≡ n = eqb-true (k + 1) n is in
      let above : nat_lt 0 n ≡ true = lt-ltb 0 n (omega arith) in
      let within : nat_le n (k + 1) ≡ true = le-leb n (k + 1) (omega arith) in
      let past : nat_le n k ≡ false = not_below same in
      rw (is, above, within, past) refl)
  | inr isnt ↦ elim (cases_Bool (nat_le n k)) [
    | inl below ↦ (let few = leb-true n k below in let within : nat_le n (k + 1) ≡ true = le-leb n (k + 1) (omega arith) in rw (isnt, below, within) (omega arith))
    | inr above ↦ (let past : nat_le n (k + 1) ≡ false = later isnt above in rw (isnt, above, past) (omega arith))
  ]
]
  where
    not_below : k + 1 ≡ n → nat_le n k ≡ false
    not_below same = grind (arith, nat_tests)

    later : (k + 1 == n) ≡ false → nat_le n k ≡ false → nat_le n (k + 1) ≡ false
    later isnt above = grind (arith, nat_tests)

next-numbered : (entries : List HistoryEntry) (entry : HistoryEntry) → CallsNumbered entries → entry.call.number ≡ calls_of entry.call.client (calls_of_entries entries) + 1 → CallsNumbered (entries ++ entry ∷ [])
next-numbered entries entry numbered next client number =
    let before = numbered client number in
    let more = how_many-append (is_entry_of client number) entries (entry ∷ []) in
    let pushed : calls_of client (calls_of_entries (entries ++ entry ∷ [])) ≡ calls_of client (calls_of_entries entries) + cond (entry.call.client == client) 1 0
    = ap (λ (calls : List Call). calls_of client calls) (map-append (λ (e : HistoryEntry). e.call) entries (entry ∷ [])) ∙ calls_of-push client (calls_of_entries entries) entry.call in
    rw pushed (elim (cases_Bool (entry.call.client == client)) [
      | inr other ↦ (let count : how_many (is_entry_of client number) (entries ++ entry ∷ []) ≡ how_many (is_entry_of client number) entries + (0 + 0) = rw other at more in
          rw other (let same : calls_of client (calls_of_entries entries) + 0 ≡ calls_of client (calls_of_entries entries) = omega arith in rw same (omega arith)))
      | inl own ↦ (let same : entry.call.client ≡ client = eqb-true entry.call.client client own in
          let is_next : entry.call.number ≡ calls_of client (calls_of_entries entries) + 1 = subst (λ (c : ℕ). entry.call.number ≡ calls_of c (calls_of_entries entries) + 1) same next in
          let step = one_more number (calls_of client (calls_of_entries entries)) in
          let count : how_many (is_entry_of client number) (entries ++ entry ∷ []) ≡ how_many (is_entry_of client number) entries + (cond (entry.call.number == number) 1 0 + 0) = rw own at more in
          let counted : how_many (is_entry_of client number) (entries ++ entry ∷ []) ≡ how_many (is_entry_of client number) entries + (cond (calls_of client (calls_of_entries entries) + 1 == number) 1 0 + 0) = subst (λ (n : ℕ). how_many (is_entry_of client number) (entries ++ entry ∷ []) ≡ how_many (is_entry_of client number) entries + (cond (n == number) 1 0 + 0)) is_next count in
          rw own (omega arith))
    ])

-- the next call isn't made
new-call : (entries : List HistoryEntry) (client number : ℕ) → CallsNumbered entries → number ≡ calls_of client (calls_of_entries entries) + 1 → how_many (is_entry_of client number) entries ≡ 0
new-call entries client number numbered next =
    let is = numbered client number in
    let past : nat_le number (calls_of client (calls_of_entries entries)) ≡ false = not_below in
    elim (cases_Bool (nat_lt 0 number)) [
      | inl above ↦ (let none : how_many (is_entry_of client number) entries ≡ 0 = rw (above, past) at is in none)
      | inr zero ↦ (let none : how_many (is_entry_of client number) entries ≡ 0 = rw zero at is in none)
    ]
  where
    not_below : nat_le number (calls_of client (calls_of_entries entries)) ≡ false
    not_below = grind (arith, nat_tests)

differ : (entries : List HistoryEntry) → CallsNumbered entries → CallsDiffer entries
differ entries numbered client number = (let is = numbered client number in elim (cases_Bool (nat_lt 0 number && nat_le number (calls_of client (calls_of_entries entries)))) [
  | inl one ↦ (let count : how_many (is_entry_of client number) entries ≡ 1 = rw one at is in omega arith)
  | inr none ↦ (let count : how_many (is_entry_of client number) entries ≡ 0 = rw none at is in omega arith)
])

-- what a run keeps
pub stands-runs : (setup : Setup) (entries : List HistoryEntry) (outs : List TurnOut) (v : Volume) → RunsTo setup entries outs v → Runs (fresh setup) entries v
stands-runs setup entries outs v stands = subst (λ (u : Volume). Runs (fresh setup) entries u) stands.is (run-runs setup entries stands.state (differ entries stands.numbered) stands.runs)

stands-times : (setup : Setup) (entries : List HistoryEntry) (outs : List TurnOut) (v : Volume) (client number : ℕ) → RunsTo setup entries outs v → times client number v ≡ how_many (is_entry_of client number) entries
stands-times setup entries outs v client number stands = (let all : times client number v ≡ 0 + how_many (is_entry_of client number) entries = Runs.times (stands-runs setup entries outs v stands) client number in omega arith)

-- ---- the try of the next call

known : (v : Volume) (client number : ℕ) (there : Bool) → times client number v ≡ cond there 1 0 → ((has_ended v client number || is_pending v client number) ≡ there) × ((has_ended v client number && is_pending v client number) ≡ false)
known v client number there is = elim (cases_Bool (has_ended v client number)) [
  | inl ended ↦ (let some = how_many-some (is_end client number) v.ended ended in elim (cases_Bool (is_pending v client number)) [
    | inl pends ↦ absurd (let more = how_many-some (λ (e : ℕ × Pending). e.1.call.client == client && e.1.call.number == number) v.pending pends in at_most_one there is (omega arith))
    | inr isnt ↦ rw (ended, isnt) (sym (some_there there is (omega arith)), refl)
  ])
  | inr not_ended ↦ (let none = how_many-none (is_end client number) v.ended not_ended in elim (cases_Bool (is_pending v client number)) [
    | inl pends ↦ (let some = how_many-some (λ (e : ℕ × Pending). e.1.call.client == client && e.1.call.number == number) v.pending pends in rw (not_ended, pends) (sym (some_there there is (omega arith)), refl))
    | inr isnt ↦ (let neither = how_many-none (λ (e : ℕ × Pending). e.1.call.client == client && e.1.call.number == number) v.pending isnt in rw (not_ended, isnt) (sym (none_there there is (omega arith)), refl))
  ])
]
  where
    at_most_one : (b : Bool) → times client number v ≡ cond b 1 0 → 2 ≤ times client number v → ⊥
    at_most_one true is two = absurd (omega arith)
    at_most_one false is two = absurd (omega arith)

    some_there : (b : Bool) → times client number v ≡ cond b 1 0 → 1 ≤ times client number v → b ≡ true
    some_there true is some = refl
    some_there false is some = absurd (omega arith)

    none_there : (b : Bool) → times client number v ≡ cond b 1 0 → times client number v ≡ 0 → b ≡ false
    none_there true is none = absurd (omega arith)
    none_there false is none = refl

knows : (v : Volume) (client number k : ℕ) (what : What) → number ≡ k + 1 → ((earlier : ℕ) → times client earlier v ≡ cond (nat_lt 0 earlier && nat_le earlier k) 1 0) → KnowsWaited v client number what
knows v client number k (WaitFor earlier) next counts =
    let all = known v client earlier (nat_lt 0 earlier && nat_le earlier k) (counts earlier) in
    let same : nat_lt earlier number ≡ nat_le earlier k = below in
    record { made = all.0 ∙ ap (λ b. nat_lt 0 earlier && b) (sym same); apart = all.1 }
  where
    below : nat_lt earlier number ≡ nat_le earlier k
    below = grind (arith, nat_tests)
knows v client number k _ next counts = tt

no-handle : (v : Volume) (client number : ℕ) → times client number v ≡ 0
    → (handles : List (ℕ × Handle)) → All (λ entry. IsTrue (has_ended v entry.1.client entry.1.number)) handles
    → option_map (λ (entry : ℕ × Handle). entry.0) (find (λ (entry : ℕ × Handle). is_opened_by client number entry.1) handles) ≡ None
no-handle v client number none [] all = refl
no-handle v client number none (entry ∷ handles) all = elim (cases_Bool (is_opened_by client number entry.1)) [
  | inr other ↦ rw other (no-handle v client number none handles (All-tail (λ (e : ℕ × Handle). IsTrue (has_ended v e.1.client e.1.number)) entry handles all))
  | inl own ↦ absurd (let same = is_same-equal entry.1.client entry.1.number client number own in
      let ended : IsTrue (has_ended v entry.1.client entry.1.number) = All-head (λ (e : ℕ × Handle). IsTrue (has_ended v e.1.client e.1.number)) entry handles all in
      let here : IsTrue (has_ended v client number) = rw (same.0, same.1) at ended in
      let some = how_many-some (is_end client number) v.ended here in omega arith)
]

-- what a turn of the next call asks
pub record AsksTurn (v : Volume) (call : Call) : Type 0 where
  pub serves : Serves v
  pub may : MayTurn v
  pub may_try : MayTry v call
  pub number : 0 < call.number
  pub new : times call.client call.number v ≡ 0

pub asks-turn : (setup : Setup) (entries : List HistoryEntry) (outs : List TurnOut) (v : Volume) (call : Call) → RunsTo setup entries outs v → IsLineCall (length v.clients) call
    → call.number ≡ calls_of call.client (calls_of_entries entries) + 1 → AsksTurn v call
asks-turn setup entries outs v call stands asked next =
    let run = stands-runs setup entries outs v stands in
    let none : times call.client call.number v ≡ 0 = stands-times setup entries outs v call.client call.number stands ∙ new-call entries call.client call.number stands.numbered next in
    let count = stands.count in
    let few : length entries ≤ 1000000 = stands.few in
    record {
      serves = stands.serves;
      may = run.may;
      may_try = record {
        points = stands.serves.points;
        asked = asked;
        new = no-handle v call.client call.number none v.handles stands.serves.handles;
        opened = All-each (λ (entry : ℕ × Handle). IsTrue (nat_lt 0 entry.1.number)) (λ (entry : ℕ × Handle). 0 < entry.1.number) (λ entry above. ltb-true 0 entry.1.number above) v.handles stands.serves.opened;
        gives = GivesUpTo-more v (length v.ended + 1) most_turns (omega arith) stands.serves.gives;
        breaks = few-oplocks v most_turns run.may.take_up.given (let most = stands.serves.breaks in omega arith);
        waited = knows v call.client call.number (calls_of call.client (calls_of_entries entries)) call.what next (λ earlier. stands-times setup entries outs v call.client earlier stands ∙ stands.numbered call.client earlier);
      };
      number = omega arith;
      new = none;
    }

-- ---- one more turn

pub RunsTo-turn : (setup : Setup) (entries after : List HistoryEntry) (outs later : List TurnOut) (v w : Volume) (call : Call) (starved : List CallId) (out : TurnOut) → RunsTo setup entries outs v
    → length entries < most_entries → call.number ≡ calls_of call.client (calls_of_entries entries) + 1 → ServesOn v w
    → turn v call starved ≡ Some (record { volume = w; out = out }) → after ≡ entries ++ record { call = call; starved = starved } ∷ [] → later ≡ outs ++ out ∷ []
    → RunsTo setup after later w
RunsTo-turn setup entries after outs later v w call starved out stands few next serves turned is given =
    let t : Turned = record { volume = w; out = out } in
    let before = stands-runs setup entries outs v stands in
    let none : times call.client call.number v ≡ 0 = stands-times setup entries outs v call.client call.number stands ∙ new-call entries call.client call.number stands.numbered next in
    let turns : Turns v call w = turn-turns v call starved t before.may none turned in
    let from : turn stands.state.volume call starved ≡ Some t = ap (λ (u : Volume). turn u call starved) stands.is ∙ turned in
    let entry : HistoryEntry = record { call = call; starved = starved } in
    let goes : run setup (entries ++ entry ∷ []) ≡ Some (with_turn stands.state t) = run-push setup entries entry stands.state t stands.runs from in
    let less : length entries < 1000000 = few in
    subst (λ (all : List HistoryEntry). RunsTo setup all later w) (sym is) (record {
      state = with_turn stands.state t;
      runs = goes;
      is = refl;
      gave = ap (λ (given : List TurnOut). given ++ out ∷ []) stands.gave ∙ sym given;
      serves = serves.serves;
      count = (let one = turns.number in let before = stands.count in let more = length-append entries (entry ∷ []) in omega arith);
      numbered = next-numbered entries entry stands.numbered next;
      few = (let more = length-append entries (entry ∷ []) in omega arith);
    })

pub same-setup : (v w : Volume) → SameBase v w → setup_in w ≡ setup_in v
same-setup v w base = rw (base.table, base.clients) refl

pub RunsTo-next : (entries after : List HistoryEntry) (outs later : List TurnOut) (v w : Volume) (call : Call) (starved : List CallId) (out : TurnOut) → RunsTo (setup_in v) entries outs v
    → length entries < most_entries → call.number ≡ calls_of call.client (calls_of_entries entries) + 1 → ServesOn v w
    → turn v call starved ≡ Some (record { volume = w; out = out }) → after ≡ entries ++ record { call = call; starved = starved } ∷ [] → later ≡ outs ++ out ∷ []
    → RunsTo (setup_in w) after later w
RunsTo-next entries after outs later v w call starved out stands few next serves turned is given =
    subst (λ (setup : Setup). RunsTo setup after later w) (sym (same-setup v w serves.base)) (RunsTo-turn (setup_in v) entries after outs later v w call starved out stands few next serves turned is given)

-- a list of entries that isn't as long as the longest is shorter
pub is-shorter : (length_kept : ℕ) (entries : List HistoryEntry) → length entries ≤ most_entries → length entries ≡ length_kept → length_kept ≢ 1000000 → length entries < most_entries
is-shorter length_kept entries few same isnt = (let most : length entries ≤ 1000000 = few in omega arith)

-- the last turn gave this out
pub RunsTo-gave : (setup : Setup) (entries : List HistoryEntry) (before : List TurnOut) (out : TurnOut) (v : Volume) → RunsTo setup entries (before ++ out ∷ []) v → GaveOut setup entries out
RunsTo-gave setup entries before out v stands = record { state = stands.state; runs = stands.runs; before = before; last = stands.gave }

pub RunsTo-begins : (setup : Setup) (v : Volume) → v ≡ fresh setup → RunsTo setup [] [] v
RunsTo-begins setup v is = subst (λ (u : Volume). RunsTo setup [] [] u) (sym is) (record {
  state = record { volume = fresh setup; outs = [] };
  runs = refl;
  is = refl;
  gave = refl;
  serves = Serves-fresh setup;
  count = refl;
  numbered = λ client number. none client number;
  few = omega arith;
})
  where
    none : (client number : ℕ) → how_many (is_entry_of client number) [] ≡ cond (nat_lt 0 number && nat_le number 0) 1 0
    none client number = elim (cases_Bool (nat_lt 0 number)) [
      | inr zero ↦ rw zero refl
      | inl above ↦ (let past : nat_le number 0 ≡ false = not_below above in rw (above, past) refl)
    ]
      where
        not_below : nat_lt 0 number ≡ true → nat_le number 0 ≡ false
        not_below above = grind (arith, nat_tests)

-- ---- what is said of the history

pub same-run : (setup : Setup) (entries : List HistoryEntry) (outs : List TurnOut) (v : Volume) (r : Run) → RunsTo setup entries outs v → run setup entries ≡ Some r → (r.volume ≡ v) × (r.outs ≡ outs)
same-run setup entries outs v r stands is =
    let same : stands.state ≡ r = some_equal stands.state r (sym stands.runs ∙ is) in
    (ap (λ (s : Run). s.volume) (sym same) ∙ stands.is, ap (λ (s : Run). s.outs) (sym same) ∙ stands.gave)

pub RunsTo-none_ready : (setup : Setup) (entries : List HistoryEntry) (outs : List TurnOut) (v : Volume) (r : Run) → RunsTo setup entries outs v → run setup entries ≡ Some r → NoneReady r.volume
RunsTo-none_ready setup entries outs v r stands is = run-none_ready setup entries r (differ entries stands.numbered) is

pub RunsTo-ends_once : (setup : Setup) (entries : List HistoryEntry) (outs : List TurnOut) (v : Volume) (r : Run) → RunsTo setup entries outs v → run setup entries ≡ Some r → EndsOnce entries r
RunsTo-ends_once setup entries outs v r stands is = run-ends_once setup entries r (differ entries stands.numbered) is

pub RunsTo-released : (setup : Setup) (entries after : List HistoryEntry) (entry : HistoryEntry) (outs : List TurnOut) (w : Volume) (r : Run) → RunsTo setup after outs w → after ≡ entries ++ entry ∷ [] → run setup entries ≡ Some r
    → TakesReleased r.volume entry.call entry.starved
RunsTo-released setup entries after entry outs w r stands is runs = run-released setup entries entry r (subst (λ (all : List HistoryEntry). CallsDiffer all) is (differ after stands.numbered)) runs

-- what a turn says of the calls that it takes up
pub released-turn : (before setup : Setup) (entries after : List HistoryEntry) (outs : List TurnOut) (w : Volume) (result : Result Out (Call × Why)) (call : Call) → RunsTo setup after outs w → setup ≡ before
    → IfOk result (λ out. after ≡ entries ++ record { call = call; starved = out.starved.items } ∷ [])
    → IfOk result (λ out. (r : Run) → run before entries ≡ Some r → TakesReleased r.volume call out.starved.items)
released-turn before setup entries after outs w (Ok out) call stands same is = λ r runs.
    RunsTo-released setup entries after (record { call = call; starved = out.starved.items }) outs w r stands is (subst (λ (s : Setup). run s entries ≡ Some r) (sym same) runs)
released-turn before setup entries after outs w (Err back) call stands same is = tt

-- the call that is kept at a place
pub call-in : (kept : List KeptTurn) (i : ℕ) (turn : KeptTurn) → slice_get kept i ≡ Some turn → slice_get (calls_of_entries (map kept_entry kept)) i ≡ Some turn.call
call-in kept i turn found =
    slice_get-map (λ (entry : HistoryEntry). entry.call) (map kept_entry kept) i ∙ ap (option_map (λ (entry : HistoryEntry). entry.call)) (slice_get-map kept_entry kept i ∙ ap (option_map kept_entry) found)

-- ---- a look at a call

-- few calls have ended
pub few-ended : (setup : Setup) (entries : List HistoryEntry) (outs : List TurnOut) (v : Volume) → RunsTo setup entries outs v → length v.ended < 4294967296
few-ended setup entries outs v stands = (let count : length v.pending + length v.ended ≡ length entries = stands.count in let few : length entries ≤ 1000000 = stands.few in omega arith)

-- a call that was made has ended exactly where it isn't pending
ended-made : (setup : Setup) (entries : List HistoryEntry) (outs : List TurnOut) (v : Volume) (client number : ℕ) → RunsTo setup entries outs v → list_any (is_entry_of client number) entries ≡ true
    → has_ended v client number ≡ not (is_pending v client number)
ended-made setup entries outs v client number stands is =
    let some = how_many-some (is_entry_of client number) entries is in
    let few = differ entries stands.numbered client number in
    let there = stands-times setup entries outs v client number stands in
    let all = known v client number true (omega arith) in
    apart (has_ended v client number) (is_pending v client number) all.0 all.1
  where
    apart : (b c : Bool) → (b || c) ≡ true → (b && c) ≡ false → b ≡ not c
    apart true true either both = cc
    apart true false either both = refl
    apart false true either both = refl
    apart false false either both = cc

pub looked-reply : (setup : Setup) (entries : List HistoryEntry) (outs : List TurnOut) (v : Volume) (client number : ℕ) (result : Result (Option Reply) NoMemory) → RunsTo setup entries outs v
    → IfOk result (λ reply. reply ≡ reply_in v.ended client number)
    → IfOk result (λ reply. (r : Run) → run setup entries ≡ Some r → reply ≡ reply_in r.volume.ended client number)
looked-reply setup entries outs v client number (Ok reply) stands is = λ r runs.
    (let same = same-run setup entries outs v r stands runs in is ∙ ap (λ (u : Volume). reply_in u.ended client number) (sym same.0))
looked-reply setup entries outs v client number (Err e) stands is = tt

pub looked-pending : (setup : Setup) (entries : List HistoryEntry) (outs : List TurnOut) (v : Volume) (client number : ℕ) (result : Result (Option Reply) NoMemory) → RunsTo setup entries outs v
    → list_any (is_entry_of client number) entries ≡ true → IfOk result (λ reply. reply ≡ reply_in v.ended client number)
    → IfOk result (λ reply. (r : Run) → run setup entries ≡ Some r → is_some reply ≡ not (is_pending r.volume client number))
looked-pending setup entries outs v client number (Ok reply) stands made is = λ r runs.
    (let same = same-run setup entries outs v r stands runs in
    ap (λ (reply : Option Reply). is_some reply) is ∙ some-found v.ended client number ∙ ended-made setup entries outs v client number stands made ∙ ap (λ (u : Volume). not (is_pending u client number)) (sym same.0))
looked-pending setup entries outs v client number (Err e) stands made is = tt

pub looked-none : (setup : Setup) (entries : List HistoryEntry) (outs : List TurnOut) (v : Volume) (client number : ℕ) (result : Result (Option Reply) NoMemory) → RunsTo setup entries outs v
    → OnErr result (ended_with_list v.ended client number ≡ true)
    → OnErr result ((r : Run) → run setup entries ≡ Some r → ended_with_list r.volume.ended client number ≡ true)
looked-none setup entries outs v client number (Ok reply) stands is = tt
looked-none setup entries outs v client number (Err e) stands is = λ r runs.
    (let same = same-run setup entries outs v r stands runs in ap (λ (u : Volume). ended_with_list u.ended client number) same.0 ∙ is)
