-- From a client's pass and its calls to the pass that has made them, and to the history of all.
use Rattle.std.proofs.Common.{◌≡◌, ℕ, ◌+◌, ◌-◌, ◌<◌, false, All, List, [], ◌++◌, length, refl, ap, sym, subst, ◌∙◌, arith, append-nil, slice_get, Some, IsSome}
use Rattle.fsa_types.specs.declared.request.Call.{Call}
use Rattle.fsa_model.specs.History.{HistoryEntry, Run, begun, run}
use Rattle.fsa_model.specs.Setup.{Script, Setup}
use Rattle.fsa_model.specs.Waiting.{waits}
use Rattle.fsa_model.proofs.SettleLaws.{some_equal}
use Rattle.history_laws.specs.Races.{Whole, made_by, own_calls}
use Rattle.history_lock.specs.declared.view.Part.{Part}
use Rattle.history_lock.specs.Lock.{known}
use Rattle.history_lock.specs.Turns.{Sees}
use Rattle.history_lock.proofs.Places.{all_middle, given_below}
use Rattle.shared_volume.specs.declared.shared.SharedVolume.{SharedVolume}
use Rattle.shared_volume.specs.Shared.{IsPass, entry_call, call_client as client_of_call, setup_at}
use Rattle.client_run.specs.Calls.{IsLined, calls_in}
use Rattle.client_run.specs.ClientHistory.{IsOrderly}
use Rattle.client_run.proofs.Ordering.{orderly_closed}
use Rattle.client_run.proofs.ServeLaws.{serves_new}
use Rattle.client_race.specs.declared.runner.Runner.{Runner}
use Rattle.client_race.specs.Lists.{Pointwise, Each, Faces}
use Rattle.client_race.specs.Passes.{view_of}
use Rattle.client_race.specs.Runners.{Follows, IsFresh, IsReady, runner_client, runner_plan, todo_of}
use Rattle.client_race.proofs.DeskLaws.{sees_history}
use Rattle.client_race.proofs.Facing.{some_at}

-- nobody waits before the first turn
none_at_first : (setup : Setup) (client : ℕ) (seen : List HistoryEntry) → seen ≡ [] → (r : Run) → run setup seen ≡ Some r → waits r.volume client ≡ false
none_at_first setup client seen none r is =
    let first : begun setup ≡ r = some_equal (begun setup) r (ap (run setup) (sym none) ∙ is) in
    ap (λ (z : Run). waits z.volume client) (sym first)

module _ (volume : SharedVolume) where
  -- a new runner makes just the calls that are given
  plan_is : (runner : Runner) (p : _) (line : List Call) → runner.pass ≡ p → todo_of runner ≡ line → (known p).own.mine ≡ [] → runner_plan runner ≡ line
  plan_is runner p line same todo none = ap (λ (l : List Call). l ++ todo_of runner) (ap (λ z. (known z).own.mine) same ∙ none) ∙ todo

  starts : (i : ℕ) (runner : Runner) (p : _) (line : List Call) → runner.pass ≡ p → IsFresh runner → todo_of runner ≡ line → IsPass volume p → (known p).own ≡ record { client = i; seen = []; mine = [] } → IsLined i line → IsReady volume runner
  starts i runner p line same fresh todo of own lined =
      let by : runner_client runner ≡ i = ap (λ z. (known z).own.client) same ∙ ap (λ o. o.client) own in
      let pass : IsPass volume runner.pass = subst (λ z. IsPass volume z) (sym same) of in (
        pass,
        serves_new (view_of volume runner.pass) runner.run fresh.1 fresh.0 (ap (λ z. (known z).own.mine) same ∙ ap (λ o. o.mine) own)
            (sees_history (setup_at volume) (known runner.pass) pass.5 runner.pass.own_calls)
            (none_at_first (setup_at volume) (runner_client runner) (known runner.pass).own.seen (ap (λ z. (known z).own.seen) same ∙ ap (λ o. o.seen) own))
            (subst (λ (z : ℕ × List Call). IsLined z.0 z.1) (λ k. (sym by k, sym todo k)) lined),
      )

  ends : (i : ℕ) (runner r : Runner) (p q : _) (line : List Call) → runner.pass ≡ p → todo_of runner ≡ line → (known p).own ≡ record { client = i; seen = []; mine = [] } → Follows volume runner r → r.pass ≡ q → todo_of r ≡ []
      → IsPass volume q × ((known q).own.client ≡ i) × ((known q).own.mine ≡ line) × IsOrderly (setup_at volume) i (known q).own.seen
  ends i runner r p q line same todo own follows last over =
      let made : runner_plan r ≡ (known r.pass).own.mine = ap (λ (l : List Call). (known r.pass).own.mine ++ l) over ∙ append-nil (known r.pass).own.mine in
      let by : runner_client r ≡ i = follows.1 ∙ (ap (λ z. (known z).own.client) same ∙ ap (λ o. o.client) own) in (
        subst (λ z. IsPass volume z) last follows.0.0,
        ap (λ z. (known z).own.client) (sym last) ∙ by,
        ap (λ z. (known z).own.mine) (sym last) ∙ (sym made ∙ (follows.2 ∙ plan_is runner p line same todo (ap (λ o. o.mine) own))),
        subst (λ (k : ℕ). IsOrderly (setup_at volume) k (known q).own.seen) by (subst (λ z. IsOrderly (setup_at volume) (runner_client r) (known z).own.seen) last follows.0.1.orderly),
      )

module _ {L : Type 0} (calls : L → List Call) (volume : SharedVolume) where
  pub all_start : (passes : List _) (lines : List L) (runners : List Runner) → length passes ≡ length lines → length runners ≡ length lines
      → ((i : ℕ) (p : _) → slice_get passes i ≡ Some p → IsPass volume p × ((known p).own ≡ record { client = i; seen = []; mine = [] }))
      → ((i : ℕ) (line : L) → slice_get lines i ≡ Some line → IsLined i (calls line))
      → Faces (λ pass runner. (runner.pass ≡ pass) × IsFresh runner) passes runners → Faces (λ line runner. todo_of runner ≡ calls line) lines runners → Each (IsReady volume) runners
  all_start passes lines runners one two own lined first second j runner at =
      let h = given_below runners j runner at in
      let i : ℕ = length lines - (j + 1) in
      let p = some_at passes i (omega arith) in
      let line = some_at lines i (omega arith) in
      let known_p = own i p.0 p.1 in
      let f = first i j p.0 runner (omega arith) p.1 at in
      starts volume i runner p.0 (calls line.0) f.0 f.1 (second i j line.0 runner (omega arith) line.1 at) known_p.0 known_p.1 (lined i line.0 line.1)

  pub all_end : (passes : List _) (lines : List L) (runners done : List Runner) (out : List _) → length passes ≡ length lines → length runners ≡ length lines → length done ≡ length lines
      → ((i : ℕ) (p : _) → slice_get passes i ≡ Some p → IsPass volume p × ((known p).own ≡ record { client = i; seen = []; mine = [] }))
      → Faces (λ pass runner. (runner.pass ≡ pass) × IsFresh runner) passes runners → Faces (λ line runner. todo_of runner ≡ calls line) lines runners → Pointwise (Follows volume) runners done
      → Faces (λ runner pass. (runner.pass ≡ pass) × (todo_of runner ≡ [])) done out
      → (i : ℕ) (line : L) (q : _) → slice_get lines i ≡ Some line → slice_get out i ≡ Some q
      → IsPass volume q × ((known q).own.client ≡ i) × ((known q).own.mine ≡ calls line) × IsOrderly (setup_at volume) i (known q).own.seen
  all_end passes lines runners done out one two three own first second follows last i line q at there =
      let h = given_below lines i line at in
      let j : ℕ = length lines - (i + 1) in
      let p = some_at passes i (omega arith) in
      let runner = some_at runners j (omega arith) in
      let r = some_at done j (omega arith) in
      let known_p = own i p.0 p.1 in
      let over = last j i r.0 q (omega arith) r.1 there in
      ends volume i runner.0 r.0 p.0 q (calls line) (first i j p.0 runner.0 (omega arith) p.1 runner.1).0 (second i j line runner.0 (omega arith) at runner.1) known_p.1 (follows j runner.0 r.0 runner.1 r.1) over.0 over.1

-- ---- the history of a volume that is closed

-- the calls of each client are those of its pass, which has made all of its own, none of them while it waited
pub record IsMade (script : Script) (setup : Setup) (entries : List HistoryEntry) (client : ℕ) : Type 0 where
  pub in_order : made_by client entries ≡ own_calls script client
  pub orderly : IsOrderly setup client entries

pub made-at : (script : Script) (setup : Setup) (entries : List HistoryEntry) (client : ℕ) (part : Part HistoryEntry Call) → part.mine ≡ calls_in part.client part.seen → part.client ≡ client → part.mine ≡ own_calls script client
    → IsOrderly setup client part.seen → Sees entry_call client_of_call entries part → IsMade script setup entries client
made-at script setup entries client part knows by made orderly sees =
    let all : calls_in client entries ≡ part.mine = ap (λ (c : ℕ). calls_in c entries) (sym by) ∙ sym sees.mine in
    let own : part.mine ≡ calls_in client part.seen = knows ∙ ap (λ (c : ℕ). calls_in c part.seen) by in record {
      in_order = all ∙ made;
      orderly = orderly_closed setup client part.seen entries (all ∙ own) sees.seen orderly;
    }

pub whole : (script : Script) (setup : Setup) (entries : List HistoryEntry) → setup ≡ script.setup → IsSome (run setup entries) → All (λ entry. entry.call.client < length script.setup.clients) entries
    → ((client : ℕ) → client < length script.setup.clients → IsMade script setup entries client) → Whole script entries
whole script setup entries same runs others made = record {
  runs = subst (λ (s : Setup). IsSome (run s entries)) same runs;
  in_order = λ client within. (made client within).in_order;
  free = λ front later entry is r ran.
      (let within : entry.call.client < length script.setup.clients = all_middle (λ (e : HistoryEntry). e.call.client < length script.setup.clients) front entry later (subst (λ (l : List HistoryEntry). All (λ e. e.call.client < length script.setup.clients) l) is others) in
      (made entry.call.client within).orderly.each front later entry is refl r (subst (λ (s : Setup). run s front ≡ Some r) (sym same) ran));
  no_others = others;
}
