-- A run serves its desk after each call of it.
use Rattle.std.proofs.Common.{◌≡◌, ℕ, zero, suc, ◌+◌, ◌-◌, ◌<◌, ◌≤◌, true, false, List, [], ◌∷◌, ◌++◌, length, refl, ap, sym, subst, ◌∙◌, arith, Some, None, Option, option_to_list, slice_get, append-nil, append_assoc, length-append}
use Rattle.fsa_types.specs.declared.reply.Answer.{Answer}
use Rattle.fsa_types.specs.declared.reply.Reply.{Reply}
use Rattle.fsa_types.specs.declared.request.Call.{Call}
use Rattle.fsa_types.specs.declared.request.What.{What}
use Rattle.fsa_types.specs.declared.request.What.TheVariants.{Leave}
use Rattle.fsa_model.specs.Engine.{CallsDiffer, ends_at_once}
use Rattle.fsa_model.specs.History.{HistoryEntry, Run, run}
use Rattle.fsa_model.specs.Outcome.{TurnOut}
use Rattle.fsa_model.specs.Setup.{Setup}
use Rattle.fsa_model.specs.Waiting.{is_wait, waits}
use Rattle.fsa_model.proofs.SettleLaws.{some_equal}
use Rattle.history_lock.proofs.Places.{calls_by-own, given_below, given_longer}
use Rattle.client_run.specs.declared.run.ClientRun.{ClientRun}
use Rattle.history_laws.specs.CallAnswers.{CanAsk, HasEnded}
use Rattle.client_run.specs.Calls.{HasLeft, IsLined, calls_in}
use Rattle.client_run.specs.Desks.{Asks, DeskView, DeskOnlySees, SeesHistory}
use Rattle.client_run.specs.Serving.{MakesNextCall, FitsDesk, holding, planned, todo_in}
use Rattle.client_run.specs.ClientHistory.{IsOrderly, WaitsOnlyBy}
use Rattle.client_run.proofs.Ordering.{at_front, last_same, none_added, orderly_did, orderly_more, orderly_none}
use Rattle.client_run.proofs.RunLaws.{run-front, run-last}
use Rattle.history_laws.proofs.TurnByTurn.{differ-front}
use Rattle.client_run.proofs.WaitLaws.{only_later, only_over, only_own}

-- the same with the setup and the client of a later view
abbrev moved : DeskView → DeskView → DeskView
moved v w = record v { setup = w.setup; client = w.client }

moved_is : (v w : DeskView) → w.setup ≡ v.setup → w.client ≡ v.client → v ≡ moved v w
moved_is v w setup client = λ i. record v { setup = sym setup i; client = sym client i }

-- what is waited for in a history that others made longer
waited_later : (setup : Setup) (client : ℕ) (by : Option ℕ) (seen later whole : List HistoryEntry) → whole ≡ seen ++ later → calls_in client later ≡ [] → CallsDiffer whole
    → ((r : Run) → run setup seen ≡ Some r → WaitsOnlyBy r.volume client by) → (s : Run) → run setup whole ≡ Some s → WaitsOnlyBy s.volume client by
waited_later setup client by seen later whole is none differ waited s runs =
    let longer : run setup (seen ++ later) ≡ Some s = ap (run setup) (sym is) ∙ runs in
    let first = run-front setup seen later s longer in
    only_later setup client by seen later s none (subst CallsDiffer is differ) first.0 first.1 (waited first.0 first.1) longer

-- more was seen, and no call was made
pub serves_on : (v w : DeskView) (client_run : ClientRun) → FitsDesk v client_run → DeskOnlySees v w → SeesHistory w → FitsDesk w client_run
serves_on v w client_run before sees history =
    let s : FitsDesk (moved v w) client_run = subst (λ (z : DeskView). FitsDesk z client_run) (moved_is v w sees.setup sees.client) before in
    let grown : calls_in w.client w.seen ≡ calls_in w.client v.seen = sym history.own ∙ (sees.made ∙ s.sees.own) in
    let none : calls_in w.client sees.seen.later ≡ [] = none_added w.client v.seen sees.seen.later (ap (calls_in w.client) (sym sees.seen.whole) ∙ grown) in record {
      served = s.served;
      lined = subst (λ (made : List Call). IsLined w.client (planned made client_run)) (sym sees.made) s.lined;
      sees = history;
      orderly = subst (IsOrderly w.setup w.client) (sym sees.seen.whole) (orderly_more w.setup w.client v.seen sees.seen.later none s.orderly);
      waits = λ number is. subst (λ (made : List Call). (1 ≤ number) × (number ≤ length made)) (sym sees.made) (s.waits number is);
      more = s.more;
      waited = waited_later w.setup w.client client_run.waits v.seen sees.seen.later w.seen sees.seen.whole none history.history.differ s.waited;
    }

-- the wait has ended
pub serves_over : (w : DeskView) (client_run : ClientRun) (number : ℕ) (reply : Reply) → FitsDesk w client_run → client_run.waits ≡ Some number → HasEnded w.setup w.seen w.client number reply
    → FitsDesk w (record client_run { waits = None })
serves_over w client_run number reply s waited ended = record {
  served = s.served;
  lined = s.lined;
  sees = s.sees;
  orderly = s.orderly;
  waits = λ n e. let f : None ≡ Some n = e in absurd cc;
  more = λ n e. let f : None ≡ Some n = e in absurd cc;
  waited = λ r runs. only_over w.setup w.seen r w.client number reply s.sees.history.differ runs (subst (WaitsOnlyBy r.volume w.client) waited (s.waited r runs)) (ended r runs);
}

-- the call that is next
pub next_can : (v : DeskView) (client_run : ClientRun) (call : Call) → FitsDesk v (holding call client_run) → CanAsk call.what
next_can v client_run call s = (s.lined.each (length v.made) call (at_front v.made client_run.rest.items call)).1.1

rest_is : (client_run : ClientRun) → client_run.held ≡ None → todo_in client_run ≡ client_run.rest.items
rest_is client_run held = ap (λ (h : Option Call). option_to_list h ++ client_run.rest.items) held

asked_is : (v w : DeskView) (number : ℕ) (answer : Answer) (call : Call) (client_run : ClientRun) → FitsDesk v (holding call client_run) → Asks call.what number answer v w
    → record { client = v.client; number = number; what = call.what } ≡ call
asked_is v w number answer call client_run s a =
    let own = s.lined.each (length v.made) call (at_front v.made client_run.rest.items call) in
    let same_number : number ≡ call.number = a.count ∙ sym own.1.0 in
    λ i. record { client = sym own.0 i; number = same_number i; what = call.what }

pub made_next : (v w : DeskView) (number : ℕ) (answer : Answer) (call : Call) (client_run : ClientRun) (by : Option ℕ) → client_run.held ≡ None → FitsDesk v (holding call client_run) → Asks call.what number answer v w
    → MakesNextCall v w (holding call client_run) (record client_run { waits = by })
made_next v w number answer call client_run by held s a = record {
  call = call;
  more = a.made ∙ ap (λ (c : Call). v.made ++ c ∷ []) (asked_is v w number answer call client_run s a);
  next = ap (λ (rest : List Call). call ∷ rest) (sym (rest_is client_run held));
}

-- the plan is the same
pub made_plan : (v w : DeskView) (number : ℕ) (answer : Answer) (call : Call) (client_run : ClientRun) (by : Option ℕ) → client_run.held ≡ None → FitsDesk v (holding call client_run) → Asks call.what number answer v w
    → planned w.made (record client_run { waits = by }) ≡ planned v.made (holding call client_run)
made_plan v w number answer call client_run by held s a =
    ap (λ (m : List Call). m ++ todo_in client_run) (a.made ∙ ap (λ (c : Call). v.made ++ c ∷ []) (asked_is v w number answer call client_run s a))
    ∙ (append_assoc v.made (call ∷ []) (todo_in client_run) ∙ ap (λ (rest : List Call). v.made ++ call ∷ rest) (rest_is client_run held))

leave_isnt_wait : (what : What) → what ≡ Leave → is_wait what ≡ true → ⊥
leave_isnt_wait what is wait = (let f : false ≡ true = ap is_wait (sym is) ∙ wait in cc)

-- the call was made
pub serves_did : (v w : DeskView) (number : ℕ) (answer : Answer) (call : Call) (client_run : ClientRun) (by : Option ℕ) → client_run.held ≡ None → client_run.waits ≡ None
    → FitsDesk v (holding call client_run) → Asks call.what number answer v w → SeesHistory w
    → (by ≡ None → is_wait call.what ≡ true → ends_at_once answer ≡ true) → ((n : ℕ) → by ≡ Some n → (n ≡ number) × (is_wait call.what ≡ true)) → FitsDesk w (record client_run { waits = by })
serves_did v w number answer call client_run by held free before a history ended only =
    let s : FitsDesk (moved v w) (holding call client_run) = subst (λ (z : DeskView). FitsDesk z (holding call client_run)) (moved_is v w a.setup a.client) before in
    let more : w.made ≡ v.made ++ call ∷ [] = a.made ∙ ap (λ (c : Call). v.made ++ c ∷ []) (asked_is v w number answer call client_run before a) in
    let plan = made_plan v w number answer call client_run by held before a in
    let called : a.entry.call ≡ call = a.called ∙ asked_is v w number answer call client_run before a in
    let own = s.lined.each (length v.made) call (at_front v.made client_run.rest.items call) in
    let counted : calls_in w.client a.front ++ a.entry.call ∷ [] ≡ v.made ++ call ∷ []
    = sym (calls_by-own (λ (entry : HistoryEntry). entry.call) (λ (c : Call). c.client) w.client a.front a.entry (ap (λ (c : Call). c.client) called ∙ own.0))
    ∙ (ap (calls_in w.client) (sym a.seen) ∙ (sym history.own ∙ more)) in
    let first : calls_in w.client a.front ≡ v.made = (last_same (calls_in w.client a.front) v.made a.entry.call call counted).0 in
    let none : calls_in w.client a.after.later ≡ [] = none_added w.client v.seen a.after.later (ap (calls_in w.client) (sym a.after.whole) ∙ (first ∙ s.sees.own)) in
    let differ : CallsDiffer (a.front ++ a.entry ∷ []) = subst CallsDiffer a.seen history.history.differ in
    let quiet : (r : Run) → run w.setup a.front ≡ Some r → waits r.volume w.client ≡ false
    = waited_later w.setup w.client None v.seen a.after.later a.front a.after.whole none (differ-front a.front (a.entry ∷ []) differ)
    (λ r runs. subst (WaitsOnlyBy r.volume w.client) free (s.waited r runs)) in
    let last_here : slice_get (planned v.made (holding call client_run)) (length v.made) ≡ Some call = at_front v.made client_run.rest.items call in record {
      served = s.served;
      lined = subst (IsLined w.client) (sym plan) s.lined;
      sees = history;
      orderly = subst (IsOrderly w.setup w.client) (sym a.seen) (orderly_did w.setup w.client a.front a.entry quiet
          (subst (IsOrderly w.setup w.client) (sym a.after.whole) (orderly_more w.setup w.client v.seen a.after.later none s.orderly)));
      waits = λ n e. (let is = (only n e).0 in let count = a.count in let size : length w.made ≡ length v.made + 1 = ap length a.made ∙ length-append v.made _ in (omega arith, omega arith));
      more = λ n e done. (let whole : length (planned v.made (holding call client_run)) ≡ length v.made + 1
          = ap (λ (rest : List Call). length (v.made ++ call ∷ rest)) (sym (rest_is client_run held) ∙ done) ∙ length-append v.made (call ∷ []) in
          leave_isnt_wait call.what ((s.lined.leaves (length v.made) call last_here).1 (sym whole)) (only n e).1);
      waited = λ r runs. (let last = run-last w.setup a.front a.entry r (ap (run w.setup) (sym a.seen) ∙ runs) in
          let same : r ≡ a.answers.gave.state = some_equal r a.answers.gave.state (sym runs ∙ a.answers.gave.runs) in
          let outs : last.before.outs ++ last.turned.out ∷ [] ≡ a.answers.gave.before ++ a.answers.out ∷ [] = ap (λ (z : Run). z.outs) (last.is ∙ same) ∙ a.answers.gave.last in
          let answered : last.turned.out.answer ≡ answer = ap (λ (o : TurnOut). o.answer) (last_same last.before.outs a.answers.gave.before last.turned.out a.answers.out outs).1 ∙ a.answers.is in
          only_own w.setup w.client by a.front a.entry r differ last (quiet last.before last.runs)
          (λ n e. ap (λ (c : Call). c.number) a.called ∙ sym (only n e).0)
          (λ is wait. ap ends_at_once answered ∙ ended is (ap (λ (c : Call). is_wait c.what) (sym called) ∙ wait)));
    }

-- a new run serves a desk of the client that has made no call
pub serves_new : (v : DeskView) (client_run : ClientRun) → client_run.client ≡ v.client → client_run.waits ≡ None → v.made ≡ [] → SeesHistory v
    → ((r : Run) → run v.setup v.seen ≡ Some r → waits r.volume v.client ≡ false) → IsLined v.client (todo_in client_run) → FitsDesk v client_run
serves_new v client_run by free none history quiet lined = record {
  served = by;
  lined = subst (λ (made : List Call). IsLined v.client (made ++ todo_in client_run)) (sym none) lined;
  sees = history;
  orderly = orderly_none v.setup v.client v.seen (sym history.own ∙ none);
  waits = λ n e. let f : None ≡ Some n = sym free ∙ e in absurd cc;
  more = λ n e. let f : None ≡ Some n = sym free ∙ e in absurd cc;
  waited = λ r runs. subst (WaitsOnlyBy r.volume v.client) (sym free) (quiet r runs);
}

-- ---- all calls are made exactly where the client's leaving is among them

some_at : (calls : List Call) (place : ℕ) → place < length calls → (call : Call) × (slice_get calls place ≡ Some call)
some_at [] place within = absurd (omega arith)
some_at (call ∷ calls) zero within = (call, refl)
some_at (call ∷ calls) (suc place) within = some_at calls place (omega arith)

pub done_left : (v : DeskView) (client_run : ClientRun) → FitsDesk v client_run → todo_in client_run ≡ [] → HasLeft v.made
done_left v client_run s done =
    let plan : planned v.made client_run ≡ v.made = ap (λ (rest : List Call). v.made ++ rest) done ∙ append-nil v.made in
    let some : 1 ≤ length v.made = subst (λ (calls : List Call). 1 ≤ length calls) plan s.lined.some in
    let last = some_at v.made (length v.made - 1) (omega arith) in record {
      place = length v.made - 1;
      call = last.0;
      there = last.1;
      leaves = (s.lined.leaves (length v.made - 1) last.0 (ap (λ (calls : List Call). slice_get calls (length v.made - 1)) plan ∙ last.1)).1 (let whole : length (planned v.made client_run) ≡ length v.made = ap length plan in omega arith);
    }

pub left_done : (v : DeskView) (client_run : ClientRun) → FitsDesk v client_run → HasLeft v.made → todo_in client_run ≡ []
left_done v client_run s left =
    let there : slice_get (planned v.made client_run) left.place ≡ Some left.call = given_longer v.made (todo_in client_run) left.place left.call left.there in
    let last : left.place + 1 ≡ length (planned v.made client_run) = (s.lined.leaves left.place left.call there).0 left.leaves in
    let size = length-append v.made (todo_in client_run) in let within = given_below v.made left.place left.call left.there in
    empty (todo_in client_run) (omega arith)
  where
    empty : (calls : List Call) → length calls ≡ 0 → calls ≡ []
    empty [] none = refl
    empty (call ∷ calls) none = absurd (omega arith)
