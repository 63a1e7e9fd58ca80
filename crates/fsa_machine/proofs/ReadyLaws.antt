-- The ready call of the least turn is the first of those that are held and let go, of the waits that are over, or of
-- the Notifys to which something is due.
use Rattle.std.proofs.Common.{◌≡◌, ℕ, ◌<◌, ◌≤◌, Bool, true, false, not, min, List, refl, ap, sym, subst, ◌∙◌, arith, inl, inr, Option, Some, None, IsTrue, All}
use Rattle.std.specs.Prelude.{◌==◌, ◌&&◌, ◌||◌, option_map, if◌then◌else◌}
use Rattle.std.specs.Option.{option_map_or}
use Rattle.std.proofs.lemmas.Bool.{cases_Bool, and_parts, eq-eqb, eqb-true, ltb-true}
use Rattle.fsa_types.specs.Pending.{is_let_go}
use Rattle.fsa_types.specs.Rows.{row_of}
use Rattle.fsa_types.specs.declared.request.Call.{Call}
use Rattle.fsa_types.specs.declared.request.Request.TheVariants.{Notify}
use Rattle.fsa_types.specs.declared.request.What.{What}
use Rattle.fsa_types.specs.declared.request.What.TheVariants.{Ask, WaitFor}
use Rattle.fsa_model.specs.Edits.{is_call}
use Rattle.fsa_model.specs.Once.{IsOnce, is_end, times}
use Rattle.fsa_model.specs.Volume.{Pending, Volume}
use Rattle.fsa_model.specs.Waiting.{blocker_lives, has_come, has_ended, is_blocked, is_held, is_pending, is_ready, next_ready}
use Rattle.fsa_model.proofs.CountLaws.{how_many-none, how_many-some, none-how_many, some-how_many}
use Rattle.fsa_model.proofs.RowLaws.{option_cases, option_map-none}
use Rattle.volume_state.specs.Waits.{first_turn, is_due, is_over, lesser, waits_no_more}
use Rattle.volume_state.proofs.WaitLaws.{AreApart, IsRow, HasRow, first_row-is, first_turn-either, first_turn-is}
use Rattle.fsa_machine.specs.Serves.{HoldsRightly, Serves, awaits_made}
use Rattle.fsa_machine.specs.Step.{ready_of, report_to}
use Rattle.fsa_machine.specs.declared.store.Ready.{Ready}
use Rattle.fsa_machine.proofs.DueLaws.{first-reported, is_reported, reports_now}

-- ---- what is ready

-- a call that was made once has ended exactly where it isn't pending
ended-or_pending : (v : Volume) (client number : ℕ) → times client number v ≤ 1 → 0 < times client number v → has_ended v client number ≡ not (is_pending v client number)
ended-or_pending v client number once made = elim (cases_Bool (is_pending v client number)) [
  | inl pending ↦ (let here = how_many-some (λ (entry : ℕ × Pending). is_call client number entry.1) v.pending pending in
      rw pending (none-how_many (is_end client number) v.ended (omega arith)))
  | inr gone ↦ (let none = how_many-none (λ (entry : ℕ × Pending). is_call client number entry.1) v.pending gone in
      rw gone (some-how_many (is_end client number) v.ended (omega arith)))
]

has_come-is : (v : Volume) (client number : ℕ) (what : What) → IsOnce v → IsTrue (awaits_made v client what) → has_come v client number what ≡ (waits_no_more v.pending client what || reports_now v client number what)
has_come-is v client number (Ask (Notify handle filter tree room)) once waited = refl
has_come-is v client number (WaitFor earlier) once waited = ended-or_pending v client earlier (once client earlier) (ltb-true 0 (times client earlier v) waited) ∙ or-false (not (is_pending v client earlier))
  where
    or-false : (b : Bool) → b ≡ (b || false)
    or-false true = refl
    or-false false = refl
has_come-is v client number _ once waited = refl

-- what isn't held, and is ready
abbrev pub is_ready_unheld : Volume → Pending → Bool
is_ready_unheld v pending = is_over v.pending pending || is_reported v pending

is_ready-either : (v : Volume) (pending : Pending) → IsOnce v → IsTrue (awaits_made v pending.call.client pending.call.what)
    → is_ready v pending ≡ (is_let_go (blocker_lives v) pending || is_ready_unheld v pending)
is_ready-either v pending once waited =
    let come = has_come-is v pending.call.client pending.call.number pending.call.what once waited in
    go (is_held pending) (is_blocked (blocker_lives v) pending) (has_come v pending.call.client pending.call.number pending.call.what)
    (waits_no_more v.pending pending.call.client pending.call.what) (reports_now v pending.call.client pending.call.number pending.call.what) come
  where
    go : (held blocked come over due : Bool) → come ≡ (over || due) → (if held then not blocked else come) ≡ ((held && not blocked) || ((not held && over) || (not held && due)))
    go true true come over due same = refl
    go true false come over due same = refl
    go false blocked come over due same = same

each-ready : (v : Volume) → Serves v → (rows : List (ℕ × Pending)) → All (λ entry. IsTrue (awaits_made v entry.1.call.client entry.1.call.what)) rows
    → All (λ entry. is_ready v entry.1 ≡ (is_let_go (blocker_lives v) entry.1 || is_ready_unheld v entry.1)) rows
each-ready v serves rows waited k d within = is_ready-either v _ serves.once (waited k d within)

-- the least turns of the three kinds
abbrev pub turn_let_go : Volume → Option ℕ
turn_let_go v = first_turn (is_let_go (blocker_lives v)) v.pending

abbrev pub turn_unheld : Volume → Option ℕ
turn_unheld v = lesser (first_turn (is_over v.pending) v.pending) (first_turn (is_due v) v.pending)

unheld-turn : (v : Volume) → AreApart v.pending → HoldsRightly v → first_turn (is_ready_unheld v) v.pending ≡ turn_unheld v
unheld-turn v apart rightly =
    first_turn-either (is_ready_unheld v) (is_over v.pending) (is_reported v) v.pending (λ k d within. refl) ∙ ap (lesser (first_turn (is_over v.pending) v.pending)) (first-reported v apart rightly)

-- the ready call of the least turn
pub next_ready-turn : (v : Volume) → Serves v → AreApart v.pending → HoldsRightly v → option_map (λ entry. entry.0) (next_ready v) ≡ lesser (turn_let_go v) (turn_unheld v)
next_ready-turn v serves apart rightly =
    first_turn-either (is_ready v) (is_let_go (blocker_lives v)) (is_ready_unheld v) v.pending (each-ready v serves v.pending serves.waited) ∙ ap (lesser (turn_let_go v)) (unheld-turn v apart rightly)

some_same : {X : Type 0} (a b : X) → Some a ≡ Some b → a ≡ b
some_same a b is = cc

-- no call is ready where there is none of either kind
pub ready-none : (v : Volume) → Serves v → AreApart v.pending → HoldsRightly v → lesser (turn_let_go v) (turn_unheld v) ≡ None → next_ready v ≡ None
ready-none v serves apart rightly none = option_map-none (λ (entry : ℕ × Pending). entry.0) (next_ready v) (next_ready-turn v serves apart rightly ∙ none)

-- the turn is that of the wait where it isn't that of the call that was let go
other-turn : (let_go over : Option ℕ) (turn : ℕ) → lesser let_go over ≡ Some turn → option_map_or (λ other. other == turn) let_go false ≡ false → over ≡ Some turn
other-turn None over turn is isnt = is
other-turn (Some a) None turn is isnt = (let here : (a == turn) ≡ true = eq-eqb a turn (some_same a turn is) in cc)
other-turn (Some a) (Some b) turn is isnt =
    let least : min a b ≡ turn = some_same (min a b) turn is in
    let apart : (a ≡ turn) → ⊥ = λ same. (let here : (a == turn) ≡ true = eq-eqb a turn same in cc) in
    ap Some (omega arith)

same-turn : (let_go : Option ℕ) (turn : ℕ) → option_map_or (λ other. other == turn) let_go false ≡ true → let_go ≡ Some turn
same-turn None turn is = cc
same-turn (Some a) turn is = ap Some (eqb-true a turn is)

-- what the code sees of the ready call of the least turn, read off the row of that turn
abbrev pub ready_under : Volume → ℕ → Call → Ready
ready_under v turn call = record {
  turn = turn;
  client = call.client;
  number = call.number;
  held = option_map_or (λ other. other == turn) (turn_let_go v) false;
  report = report_to v call.client call.what;
}

pub ready-some : (v : Volume) (turn : ℕ) (call : Call) → Serves v → AreApart v.pending → HoldsRightly v → lesser (turn_let_go v) (turn_unheld v) ≡ Some turn
    → option_map (λ row. row.call) (row_of v.pending turn) ≡ Some call → option_map (ready_of v) (next_ready v) ≡ Some (ready_under v turn call)
ready-some v turn call serves apart rightly found read = elim (option_cases (next_ready v)) [
  | inl none ↦ (let impossible : None ≡ Some turn = rw none at (next_ready-turn v serves apart rightly ∙ found) in cc)
  | inr some ↦ go some.0 some.1
]
  where
    unheld : (pending : Pending) → is_ready_unheld v pending ≡ true → is_held pending ≡ false
    unheld pending is = free (is_held pending) (waits_no_more v.pending pending.call.client pending.call.what) (reports_now v pending.call.client pending.call.number pending.call.what) is
      where
        free : (held over due : Bool) → ((not held && over) || (not held && due)) ≡ true → held ≡ false
        free true over due is = cc
        free false over due is = refl

    held : (pending : Pending) → row_of v.pending turn ≡ Some pending → is_held pending ≡ option_map_or (λ other. other == turn) (turn_let_go v) false
    held pending row = elim (cases_Bool (option_map_or (λ other. other == turn) (turn_let_go v) false)) [
      | inl is ↦ (let has : HasRow v.pending turn (is_let_go (blocker_lives v)) = first_turn-is (is_let_go (blocker_lives v)) v.pending turn apart (same-turn (turn_let_go v) turn is) in
          let same : has.pending ≡ pending = some_same has.pending pending (sym has.row ∙ row) in
          subst (λ (p : Pending). is_held p ≡ true) same (and_parts _ _ has.passes).0 ∙ sym is)
      | inr isnt ↦ (let has : HasRow v.pending turn (is_ready_unheld v)
          = first_turn-is (is_ready_unheld v) v.pending turn apart (unheld-turn v apart rightly ∙ other-turn (turn_let_go v) (turn_unheld v) turn found isnt) in
          let same : has.pending ≡ pending = some_same has.pending pending (sym has.row ∙ row) in
          subst (λ (p : Pending). is_held p ≡ false) same (unheld has.pending has.passes) ∙ sym isnt)
    ]

    ready-of : (entry : ℕ × Pending) → entry.0 ≡ turn → entry.1.call ≡ call → is_held entry.1 ≡ option_map_or (λ other. other == turn) (turn_let_go v) false → ready_of v entry ≡ ready_under v turn call
    ready-of entry here asked is = rw (here, asked, is) refl

    go : (entry : ℕ × Pending) → next_ready v ≡ Some entry → option_map (ready_of v) (next_ready v) ≡ Some (ready_under v turn call)
    go entry next =
        let is : IsRow v.pending entry (is_ready v) = first_row-is (is_ready v) v.pending entry apart next in
        let here : entry.0 ≡ turn = some_same entry.0 turn (rw next at (next_ready-turn v serves apart rightly ∙ found)) in
        let row : row_of v.pending turn ≡ Some entry.1 = subst (λ (t : ℕ). row_of v.pending t ≡ Some entry.1) here is.row in
        let asked : entry.1.call ≡ call = some_same entry.1.call call (rw row at read) in
        rw next (ap Some (ready-of entry here asked (held entry.1 row)))

-- a call is pending under the turn
pub ready-there : (v : Volume) (turn : ℕ) → Serves v → AreApart v.pending → HoldsRightly v → lesser (turn_let_go v) (turn_unheld v) ≡ Some turn
    → option_map (λ row. row.call) (row_of v.pending turn) ≡ None → ⊥
ready-there v turn serves apart rightly found read = elim (option_cases (next_ready v)) [
  | inl none ↦ (let impossible : None ≡ Some turn = rw none at (next_ready-turn v serves apart rightly ∙ found) in cc)
  | inr some ↦ (let is : IsRow v.pending some.0 (is_ready v) = first_row-is (is_ready v) v.pending some.0 apart some.1 in
      let here : some.0.0 ≡ turn = some_same some.0.0 turn (rw some.1 at (next_ready-turn v serves apart rightly ∙ found)) in
      let row : row_of v.pending turn ≡ Some some.0.1 = subst (λ (t : ℕ). row_of v.pending t ≡ Some some.0.1) here is.row in
      let impossible : Some some.0.1.call ≡ None = rw row at read in cc)
]

-- what the code reads off is that
pub turns-read : (v : Volume) (let_go over due unheld turn : Option ℕ) → let_go ≡ turn_let_go v → over ≡ first_turn (is_over v.pending) v.pending → due ≡ first_turn (is_due v) v.pending → unheld ≡ lesser over due → turn ≡ lesser let_go unheld
    → lesser (turn_let_go v) (turn_unheld v) ≡ turn
turns-read v let_go over due unheld turn first second third both all = sym (rw (← first, ← second, ← third, ← both) all)
