-- For which call a client waits as a history grows.
use Rattle.std.proofs.Common.{◌≡◌, ◌≢◌, ◌⊎◌, ℕ, Bool, true, false, not, List, [], ◌∷◌, ◌++◌, refl, arith, inl, inr, Some, None, Option, eq-eqb, ne_eqb}
use Rattle.std.specs.Prelude.{◌==◌, ◌&&◌, find, option_map}
use Rattle.std.proofs.lemmas.Bool.{cases_Bool}
use Rattle.fsa_types.specs.declared.request.Call.{Call}
use Rattle.fsa_types.specs.declared.reply.Reply.{Reply}
use Rattle.fsa_model.specs.Edits.{is_call}
use Rattle.fsa_model.specs.Engine.{CallsDiffer, ends_at_once}
use Rattle.fsa_model.specs.History.{HistoryEntry, Run, run}
use Rattle.fsa_model.specs.Once.{is_end}
use Rattle.fsa_model.specs.Setup.{Setup}
use Rattle.fsa_model.specs.Volume.{Pending, Volume}
use Rattle.fsa_model.specs.Waiting.{is_wait, waits}
use Rattle.fsa_model.proofs.CountLaws.{and_left, and_right, how_many-none, how_many-split, how_many-weaker, none-how_many}
use Rattle.client_run.specs.Calls.{calls_in}
use Rattle.client_run.specs.ClientHistory.{WaitsOnlyBy}
use Rattle.client_run.proofs.Ordering.{none_of}
use Rattle.client_run.proofs.RunLaws.{LastTurn, ended-not_pending, last-fewer, later-fewer, pending_that}

-- a wait of the client, but the one of this number
abbrev pub is_other_wait : ℕ → Option ℕ → Call → Bool
is_other_wait client None call = call.client == client && is_wait call.what
is_other_wait client (Some number) call = (call.client == client && is_wait call.what) && not (call.number == number)

none-pends : (v : Volume) (client : ℕ) (by : Option ℕ) → WaitsOnlyBy v client by → pending_that (is_other_wait client by) v ≡ 0
none-pends v client None only = how_many-none (λ (e : ℕ × Pending). e.1.call.client == client && is_wait e.1.call.what) v.pending only
none-pends v client (Some number) only = how_many-none (λ (e : ℕ × Pending). (e.1.call.client == client && is_wait e.1.call.what) && not (e.1.call.number == number)) v.pending only

only-by : (v : Volume) (client : ℕ) (by : Option ℕ) → pending_that (is_other_wait client by) v ≡ 0 → WaitsOnlyBy v client by
only-by v client None none = none-how_many (λ (e : ℕ × Pending). e.1.call.client == client && is_wait e.1.call.what) v.pending none
only-by v client (Some number) none = none-how_many (λ (e : ℕ × Pending). (e.1.call.client == client && is_wait e.1.call.what) && not (e.1.call.number == number)) v.pending none

other_client : (client : ℕ) (by : Option ℕ) (call : Call) → call.client ≢ client → is_other_wait client by call ≡ false
other_client client None call other = rw (ne_eqb call.client client other) refl
other_client client (Some number) call other = rw (ne_eqb call.client client other) refl

-- others' calls
pub only_later : (setup : Setup) (client : ℕ) (by : Option ℕ) (seen more : List HistoryEntry) (s : Run) → calls_in client more ≡ [] → CallsDiffer (seen ++ more)
    → (r : Run) → run setup seen ≡ Some r → WaitsOnlyBy r.volume client by → run setup (seen ++ more) ≡ Some s → WaitsOnlyBy s.volume client by
only_later setup client by seen more s none differ r runs only whole =
    let before = none-pends r.volume client by only in
    let fewer = later-fewer (is_other_wait client by) setup seen more r s differ (λ k entry at. other_client client by entry.call (none_of client more none k entry at)) runs whole in
    only-by s.volume client by (omega arith)

not_self : (number : ℕ) (b : Bool) → (b && not (number == number)) ≡ false
not_self number true = rw (eq-eqb number number refl) refl
not_self number false = refl

-- the client's own call, which is the wait that is pending now, or ended at once, or is no wait
pub only_own : (setup : Setup) (client : ℕ) (by : Option ℕ) (front : List HistoryEntry) (entry : HistoryEntry) (s : Run) → CallsDiffer (front ++ entry ∷ []) → (last : LastTurn setup front entry s)
    → waits last.before.volume client ≡ false → ((number : ℕ) → by ≡ Some number → entry.call.number ≡ number) → (by ≡ None → is_wait entry.call.what ≡ true → ends_at_once last.turned.out.answer ≡ true)
    → WaitsOnlyBy s.volume client by
only_own setup client by front entry s differ last quiet some none =
    let before = none-pends last.before.volume client None quiet in
    let weaker = how_many-weaker (λ (e : ℕ × Pending). is_other_wait client by e.1.call) (λ e. is_other_wait client None e.1.call) last.before.volume.pending (λ e. is_any by e.1.call) in
    let fewer = last-fewer (is_other_wait client by) setup front entry s differ last (adds by some none) in
    only-by s.volume client by (omega arith)
  where
    is_any : (by : Option ℕ) (call : Call) → is_other_wait client by call ≡ true → is_other_wait client None call ≡ true
    is_any None call is = is
    is_any (Some number) call is = and_left (call.client == client && is_wait call.what) (not (call.number == number)) is

    adds : (by : Option ℕ) → ((number : ℕ) → by ≡ Some number → entry.call.number ≡ number) → (by ≡ None → is_wait entry.call.what ≡ true → ends_at_once last.turned.out.answer ≡ true)
        → (is_other_wait client by entry.call ≡ false) ⊎ (ends_at_once last.turned.out.answer ≡ true)
    adds (Some number) some none = inl (rw (← some number refl) (not_self entry.call.number (entry.call.client == client && is_wait entry.call.what)))
    adds None some none = elim (cases_Bool (is_wait entry.call.what)) [
      | inl is ↦ inr (none refl is)
      | inr isnt ↦ inl (and_false (entry.call.client == client) (is_wait entry.call.what) isnt)
    ]
      where
        and_false : (b c : Bool) → c ≡ false → (b && c) ≡ false
        and_false true c is = is
        and_false false c is = refl

-- once the wait has ended the client waits no more
pub only_over : (setup : Setup) (history : List HistoryEntry) (r : Run) (client number : ℕ) (reply : Reply) → CallsDiffer history → run setup history ≡ Some r → WaitsOnlyBy r.volume client (Some number)
    → option_map (λ end. end.reply) (find (is_end client number) r.volume.ended) ≡ Some reply → WaitsOnlyBy r.volume client None
only_over setup history r client number reply differ runs only ended =
    let gone = ended-not_pending setup history r client number reply differ runs ended in
    let others = none-pends r.volume client (Some number) only in
    let split = how_many-split (λ (e : ℕ × Pending). is_other_wait client None e.1.call) (λ e. e.1.call.number == number) r.volume.pending in
    let weaker = how_many-weaker (λ (e : ℕ × Pending). is_other_wait client None e.1.call && e.1.call.number == number) (λ e. is_call client number e.1) r.volume.pending (λ e both. own e both) in
    only-by r.volume client None (omega arith)
  where
    own : (e : ℕ × Pending) → (is_other_wait client None e.1.call && e.1.call.number == number) ≡ true → is_call client number e.1 ≡ true
    own e both = (let wait = and_left (e.1.call.client == client && is_wait e.1.call.what) (e.1.call.number == number) both in
        let same = and_right (e.1.call.client == client && is_wait e.1.call.what) (e.1.call.number == number) both in
        let client_is = and_left (e.1.call.client == client) (is_wait e.1.call.what) wait in rw (client_is, same) refl)
