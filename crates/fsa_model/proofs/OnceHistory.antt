-- Over a whole history: after each turn no pending call is ready, and each call of the history is pending or
-- has ended, once.
use Rattle.std.proofs.Common.{◌≡◌, ℕ, ◌+◌, ◌≤◌, true, List, [], ◌∷◌, length, refl, subst, arith, inl, inr, Some, None}
use Rattle.std.specs.Prelude.{◌==◌, ◌&&◌}
use Rattle.fsa_types.specs.declared.request.Call.{Call}
use Rattle.fsa_types.specs.declared.request.CallId.{CallId}
use Rattle.fsa_types.specs.declared.reply.Blocker.{Blocker}
use Rattle.fsa_types.specs.declared.reply.Blocker.TheVariants as blocker
use Rattle.fsa_model.specs.Engine.{is_entry_of}
use Rattle.fsa_model.specs.History.{HistoryEntry, Run, with_turn, turn_on, steps, begun, run}
use Rattle.fsa_model.specs.Once.{how_many, times}
use Rattle.fsa_model.specs.Setup.{Setup}
use Rattle.fsa_model.specs.Turn.{turn, turn_number, try, answered, settlement}
use Rattle.fsa_model.specs.Volume.{Pending, Volume, fresh}
use Rattle.fsa_model.specs.Waiting.{blocker_lives, is_held, is_ready, next_ready}
use Rattle.fsa_model.proofs.CountLaws.{and_left, and_right, how_many-weaker}
use Rattle.fsa_model.proofs.OnceLaws.{is_same-refl}
use Rattle.fsa_model.proofs.RowLaws.{option_cases}
use Rattle.fsa_model.proofs.SettleLaws.{is_under, is_free, some_equal, none-ready}
use Rattle.fsa_model.proofs.TakenLaws.{GivesAtMost, is_let_go_under, let_go, taken-once}
use Rattle.fsa_model.proofs.TryLaws.{Watches, Watches-equal, Watches-next, is_given}
use Rattle.fsa_model.proofs.WaitLaws.{unbroken}
use Rattle.fsa_model.proofs.TurnLaws.{MayTurn, Turns, turn-turns, Adds-answered, try-keeps}

-- ---- from turn to turn

pub MayTurn-fresh : (setup : Setup) → MayTurn (fresh setup)
MayTurn-fresh setup = record {
  take_up = record {
    may = record { oplocks = λ handle. omega arith; turns = λ turn. omega arith; held = refl };
    once = λ client number. omega arith;
    none_held = λ turn some. refl;
    given = record { living = λ b lives. none_lives b lives; blockers = refl; oplocks = λ handle. omega arith; ones = λ number. omega arith };
  };
  turns = refl;
  granted = λ turn later. refl;
}
  where
    none_lives : (b : Blocker) → blocker_lives (fresh setup) b ≡ true → is_given (fresh setup) b ≡ true
    none_lives (blocker.Break number) lives = cc
    none_lives (blocker.Lock number) lives = cc

pub is_entry_of-self : (entry : HistoryEntry) → is_entry_of entry.call.client entry.call.number entry ≡ true
is_entry_of-self entry = is_same-refl entry.call.client entry.call.number

-- the volume of a run: its calls are there once each
pub record Runs (v : Volume) (history : List HistoryEntry) (w : Volume) : Type 0 where
  pub may : MayTurn w
  pub done : next_ready w ≡ None
  pub seen : Watches v w
  pub times : (client number : ℕ) → times client number w ≡ times client number v + how_many (is_entry_of client number) history
  pub gives : (more : ℕ) → GivesAtMost v (length v.ended + more) → GivesAtMost w (length w.ended + more)
  -- a break is of an oplock, and an oplock of a call
  pub breaks : w.last_break + unbroken w ≤ v.last_break + unbroken v + length history

pub steps-runs : (r s : Run) (history : List HistoryEntry) → MayTurn r.volume → next_ready r.volume ≡ None
    → ((client number : ℕ) → times client number r.volume + how_many (is_entry_of client number) history ≤ 1) → steps turn_on r history ≡ Some s → Runs r.volume history s.volume
steps-runs r s [] may done differ is = (let same : r ≡ s = some_equal r s is in
    subst (λ (s : Run). Runs r.volume [] s.volume) same (record { may = may; done = done; seen = Watches-equal refl refl; times = λ client number. omega arith; gives = λ more up. up; breaks = omega arith }))
steps-runs r s (entry ∷ history) may done differ is = elim (option_cases (turn r.volume entry.call entry.starved)) [
  | inl none ↦ (let impossible : None ≡ Some s = rw none at is in cc)
  | inr some ↦ (let turns : Turns r.volume entry.call some.0.volume = turn-turns r.volume entry.call entry.starved some.0 may new some.1 in
      let rest : Runs some.0.volume history s.volume = steps-runs (with_turn r some.0) s history turns.may turns.done
      (λ client number. (let one = turns.times client number in let few = differ client number in omega arith)) (rw some.1 at is) in
      record { may = rest.may; done = rest.done; seen = Watches-next turns.seen rest.seen; times = λ client number. (let one = turns.times client number in let more = rest.times client number in omega arith); gives = λ more up. rest.gives more (turns.gives more up); breaks = (let one = turns.breaks in let more = rest.breaks in omega arith) })
]
  where
    new : times entry.call.client entry.call.number r.volume ≡ 0
    new = (let few = differ entry.call.client entry.call.number in
        let self : is_entry_of entry.call.client entry.call.number entry ≡ true = is_same-refl entry.call.client entry.call.number in
        let one : times entry.call.client entry.call.number r.volume + (1 + how_many (is_entry_of entry.call.client entry.call.number) history) ≤ 1 = rw self at few in omega arith)

-- a history whose calls differ: each of them is pending or has ended, once, and no other is; no pending call is ready
pub run-runs : (setup : Setup) (history : List HistoryEntry) (r : Run) → ((client number : ℕ) → how_many (is_entry_of client number) history ≤ 1) → run setup history ≡ Some r
    → Runs (fresh setup) history r.volume
run-runs setup history r differ is = steps-runs (begun setup) r history (MayTurn-fresh setup) refl (λ client number. (let few : how_many (is_entry_of client number) history ≤ 1 = differ client number in omega arith)) is

-- so numbers of each kind are at most one more than the ends, and of streams twice as many
pub run-gives : (setup : Setup) (history : List HistoryEntry) (r : Run) → ((client number : ℕ) → how_many (is_entry_of client number) history ≤ 1) → run setup history ≡ Some r
    → GivesAtMost r.volume (length r.volume.ended + 1)
run-gives setup history r differ is = Runs.gives (run-runs setup history r differ is) 1 (record { files = omega arith; links = omega arith; streams = omega arith; handles = omega arith; locks = omega arith })

-- and no more breaks than turns have begun
pub run-breaks : (setup : Setup) (history : List HistoryEntry) (r : Run) → ((client number : ℕ) → how_many (is_entry_of client number) history ≤ 1) → run setup history ≡ Some r
    → r.volume.last_break ≤ length history
run-breaks setup history r differ is = (let few : r.volume.last_break + unbroken r.volume ≤ 0 + 0 + length history = Runs.breaks (run-runs setup history r differ is) in omega arith)

-- ---- which held calls are tried in a turn

-- where no call is ready none is held by blockers of which none lives
none-let_go : (v : Volume) (turn : ℕ) → next_ready v ≡ None → let_go turn v ≡ 0
none-let_go v turn done =
    let none = none-ready v done in
    let weaker = how_many-weaker (is_let_go_under turn v) (λ e. is_ready v e.1) v.pending (λ e is. ready e (and_right (is_under turn e) (is_held e.1 && is_free v e) is)) in
    omega arith
  where
    ready : (e : ℕ × Pending) → (is_held e.1 && is_free v e) ≡ true → is_ready v e.1 ≡ true
    ready e both = (let held : is_held e.1 ≡ true = and_left (is_held e.1) (is_free v e) both in let free : is_free v e ≡ true = and_right (is_held e.1) (is_free v e) both in rw (held, free) refl)

-- before a turn no living blocker is missing; in it a held call is taken up, and then once, exactly where it is
-- still pending after the try of the turn's own call, and none of its blockers lives then
pub record Takes (v : Volume) (call : Call) (starved : List CallId) : Type 0 where
  pub before : (turn : ℕ) → let_go turn v ≡ 0
  pub taken : (turn : ℕ) → how_many (λ t. t == turn) (settlement v call starved).taken ≡ let_go turn (answered call (turn_number v) (try v call (turn_number v)))

pub turn-takes : (v : Volume) (call : Call) (starved : List CallId) → MayTurn v → next_ready v ≡ None → times call.client call.number v ≡ 0 → Takes v call starved
turn-takes v call starved may done none =
    let adds = Adds-answered v call (try v call (turn_number v)) may none (try-keeps v call (turn_number v) may.take_up.may.oplocks) in
    record {
      before = λ turn. none-let_go v turn done;
      taken = λ turn. taken-once (answered call (turn_number v) (try v call (turn_number v))) starved turn adds.may.take_up;
    }
