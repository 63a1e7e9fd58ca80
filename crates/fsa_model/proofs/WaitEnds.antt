-- After each turn of a run some client that hasn't left doesn't wait, or all have left: where all wait, the turn
-- ends all waits.
use Rattle.std.proofs.Common.{◌≡◌, ℕ, Bool, true, false, not, List, [], ◌∷◌, refl, sym, ap, subst, arith, inl, inr, Some, None}
use Rattle.std.specs.List.{list_any, list_all, enumerate_from}
use Rattle.std.specs.Prelude.{◌==◌, ◌&&◌, ◌||◌, map, if◌then◌else◌}
use Rattle.std.proofs.lemmas.Bool.{cases_Bool}
use Rattle.fsa_types.specs.declared.request.Call.{Call}
use Rattle.fsa_types.specs.declared.request.CallId.{CallId}
use Rattle.fsa_types.specs.declared.request.What.{What}
use Rattle.fsa_types.specs.declared.status.Status.{Status}
use Rattle.fsa_types.specs.declared.status.Status.TheVariants.{Stalled}
use Rattle.fsa_model.specs.Close.{with_calls_ended}
use Rattle.fsa_model.specs.Edits.{with_end}
use Rattle.fsa_model.specs.Engine.{SomeGoesOn, own_tried}
use Rattle.fsa_model.specs.History.{HistoryEntry, Run, with_turn, turn_on, steps, begun, run}
use Rattle.fsa_model.specs.Once.{how_many}
use Rattle.fsa_model.specs.Settle.{taken_up_all}
use Rattle.fsa_model.specs.Setup.{Client, Setup}
use Rattle.fsa_model.specs.Turn.{Turned, turn}
use Rattle.fsa_model.specs.Volume.{Pending, Volume, fresh}
use Rattle.fsa_model.specs.Waiting.{is_wait, waits, all_wait, waits_in_order, with_stalled}
use Rattle.fsa_model.proofs.CountLaws.{and_left, and_right, how_many-weaker, none-how_many}
use Rattle.fsa_model.proofs.EngineLaws.{turn-turned}
use Rattle.fsa_model.proofs.RowLaws.{option_cases}
use Rattle.fsa_model.proofs.SettleLaws.{some_equal, no-wait_left}

-- where some item passes one test, and none that passes it passes another, not all pass the other
not-all : {X : Type 0} (p q : X → Bool) (xs : List X) → list_any p xs ≡ true → ((x : X) → p x ≡ true → q x ≡ false) → list_all q xs ≡ false
not-all p q [] some apart = cc
not-all p q (x ∷ xs) some apart = elim (cases_Bool (p x)) [
  | inl passes ↦ rw (apart x passes) refl
  | inr fails ↦ (let rest = not-all p q xs (rw fails at some) apart in elim (cases_Bool (q x)) [ inl is ↦ rw (is, rest) refl | inr isnt ↦ rw isnt refl ])
]

-- who has left has nothing to do with calls that end
left-calls_ended : (status_of : What → Status) (calls : List (ℕ × Pending)) (v : Volume) → (with_calls_ended status_of calls v).left ≡ v.left
left-calls_ended status_of [] v = refl
left-calls_ended status_of (call ∷ calls) v = left-calls_ended status_of calls (with_end v call.1.call.client call.1.call.number _)

none-waits : (v : Volume) (client : ℕ) → how_many (λ (e : ℕ × Pending). is_wait e.1.call.what) v.pending ≡ 0 → waits v client ≡ false
none-waits v client none =
    let fewer = how_many-weaker (λ (e : ℕ × Pending). e.1.call.client == client && is_wait e.1.call.what) (λ e. is_wait e.1.call.what) v.pending (λ e both. and_right (e.1.call.client == client) (is_wait e.1.call.what) both) in
    none-how_many (λ (e : ℕ × Pending). e.1.call.client == client && is_wait e.1.call.what) v.pending (omega arith)

-- once all waits have ended
stalled-goes_on : (v : Volume) → all_wait v ≡ true → all_wait (with_calls_ended (λ _. Stalled) (waits_in_order v) v) ≡ false
stalled-goes_on v all =
    let after : Volume = with_calls_ended (λ _. Stalled) (waits_in_order v) v in
    let same : after.left ≡ v.left = left-calls_ended (λ _. Stalled) (waits_in_order v) v in
    let some : list_any (λ (client : ℕ × Bool). not client.1) (enumerate_from 0 v.left) ≡ true
    = and_left (list_any (λ (client : ℕ × Bool). not client.1) (enumerate_from 0 v.left)) (list_all (λ (client : ℕ × Bool). client.1 || waits v client.0) (enumerate_from 0 v.left)) all in
    let not_all : list_all (λ (client : ℕ × Bool). client.1 || waits after client.0) (enumerate_from 0 v.left) ≡ false
    = not-all (λ (client : ℕ × Bool). not client.1) (λ client. client.1 || waits after client.0) (enumerate_from 0 v.left) some (λ client here. goes_on after client.1 client.0 here (none-waits after client.0 (no-wait_left v))) in
    rw (same, some, not_all) refl
  where
    goes_on : (after : Volume) (gone : Bool) (client : ℕ) → not gone ≡ true → waits after client ≡ false → (gone || waits after client) ≡ false
    goes_on after true client here none = cc
    goes_on after false client here none = none

with_stalled-goes_on : (v : Volume) → all_wait (with_stalled v) ≡ false
with_stalled-goes_on v = elim (cases_Bool (all_wait v)) [
  | inl all ↦ subst (λ (w : Volume). all_wait w ≡ false) (sym (ap (λ (test : Bool). if test then with_calls_ended (λ _. Stalled) (waits_in_order v) v else v) all)) (stalled-goes_on v all)
  | inr some ↦ subst (λ (w : Volume). all_wait w ≡ false) (sym (ap (λ (test : Bool). if test then with_calls_ended (λ _. Stalled) (waits_in_order v) v else v) some)) some
]

turn-goes_on : (v : Volume) (call : Call) (starved : List CallId) (t : Turned) → turn v call starved ≡ Some t → SomeGoesOn t.volume
turn-goes_on v call starved t is = subst (λ (t : Turned). all_wait t.volume ≡ false) (turn-turned v call starved t is) (with_stalled-goes_on (taken_up_all (own_tried v call) starved).volume)

fresh-goes_on : (setup : Setup) → SomeGoesOn (fresh setup)
fresh-goes_on setup = go setup.clients
  where
    go : (clients : List Client) → (list_any (λ (client : ℕ × Bool). not client.1) (enumerate_from 0 (map (λ _. false) clients)) && list_all (λ (client : ℕ × Bool). client.1 || waits (fresh setup) client.0) (enumerate_from 0 (map (λ _. false) clients))) ≡ false
    go [] = refl
    go (client ∷ clients) = refl

steps-goes_on : (r s : Run) (history : List HistoryEntry) → SomeGoesOn r.volume → steps turn_on r history ≡ Some s → SomeGoesOn s.volume
steps-goes_on r s [] goes is = subst (λ (s : Run). SomeGoesOn s.volume) (some_equal r s is) goes
steps-goes_on r s (entry ∷ history) goes is = elim (option_cases (turn r.volume entry.call entry.starved)) [
  | inl none ↦ (let impossible : None ≡ Some s = rw none at is in cc)
  | inr some ↦ steps-goes_on (with_turn r some.0) s history (turn-goes_on r.volume entry.call entry.starved some.0 some.1) (rw some.1 at is)
]

pub run-goes_on : (setup : Setup) (history : List HistoryEntry) (r : Run) → run setup history ≡ Some r → SomeGoesOn r.volume
run-goes_on setup history r is = steps-goes_on (begun setup) r history (fresh-goes_on setup) is
