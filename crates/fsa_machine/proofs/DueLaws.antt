-- The first Notify to which something is due is ready: it is the earliest of its handle.
use Rattle.std.proofs.Common.{◌≡◌, ℕ, zero, suc, ◌≤◌, Bool, true, false, not, min, List, [], ◌∷◌, refl, ap, sym, ◌∙◌, arith, inl, inr, Option, Some, None, All}
use Rattle.std.specs.List.{list_any}
use Rattle.std.specs.Option.{option_map_or}
use Rattle.std.specs.Prelude.{◌==◌, ◌&&◌, ◌||◌, nat_lt, if◌then◌else◌}
use Rattle.std.proofs.lemmas.Bool.{and_from, and_parts, cases_Bool, eq-eqb, eqb-false, eqb-true, le-ltb, ltb-false, or_parts}
use Rattle.std.proofs.lemmas.List.Elements.{All-head, All-tail}
use Rattle.fsa_types.specs.Rows.{row_of}
use Rattle.fsa_types.specs.declared.request.Request.TheVariants.{Notify}
use Rattle.fsa_types.specs.declared.request.What.{What}
use Rattle.fsa_types.specs.declared.request.What.TheVariants.{Ask}
use Rattle.fsa_model.specs.Settling.{is_held_wrongly}
use Rattle.fsa_model.specs.Volume.{Pending, Volume}
use Rattle.fsa_model.specs.Waiting.{has_due, is_first_notify, is_held, is_notify_of, is_notify_on}
use Rattle.fsa_model.proofs.CountLaws.{none-how_many}
use Rattle.fsa_model.proofs.RowLaws.{option_cases}
use Rattle.fsa_model.proofs.WaitLaws.{some_item}
use Rattle.volume_state.specs.Waits.{asks_for_due, first_row, first_turn, is_due, lesser}
use Rattle.volume_state.proofs.WaitLaws.{AreApart, HasRow, IsRow, first_row-is, first_turn-is, first_turn-more}
use Rattle.fsa_machine.specs.Serves.{HoldsRightly}

some_same : {X : Type 0} (a b : X) → Some a ≡ Some b → a ≡ b
some_same a b is = cc

-- ---- rows that pass

-- what no row passes, none passes that says more
any-weaker : {X : Type 0} (less more : X → Bool) (xs : List X) → ((x : X) → more x ≡ true → less x ≡ true) → list_any less xs ≡ false → list_any more xs ≡ false
any-weaker less more xs says none = elim (cases_Bool (list_any more xs)) [
  | inr isnt ↦ isnt
  | inl some ↦ (let found = some_item more xs some in let there : list_any less xs ≡ true = found.is_there less (says found.item found.passes) in cc)
]

-- so it is for each that is there
none-item : {X : Type 0} (test : X → Bool) (xs : List X) → list_any test xs ≡ false → list_any test xs ≡ true → ⊥
none-item test xs none some = cc

-- a row of this turn, or of a lesser one, that passes
abbrev pub is_at : (Pending → Bool) → ℕ → ℕ × Pending → Bool
is_at test turn entry = entry.0 == turn && test entry.1

abbrev pub is_below : (Pending → Bool) → ℕ → ℕ × Pending → Bool
is_below test turn entry = nat_lt entry.0 turn && test entry.1

-- behind a row of the turn there is no other
none-at : (test : Pending → Bool) (turn : ℕ) (x : ℕ × Pending) (rows : List (ℕ × Pending)) → x.0 ≡ turn → All (λ entry. (x.0 == entry.0) ≡ false) rows → list_any (is_at test turn) rows ≡ false
none-at test turn x [] own apart = refl
none-at test turn x (row ∷ rows) own apart =
    let differs : (x.0 == row.0) ≡ false = All-head (λ (entry : ℕ × Pending). (x.0 == entry.0) ≡ false) row rows apart in
    let other : (row.0 == turn) ≡ false = elim (cases_Bool (row.0 == turn)) [
      | inr isnt ↦ isnt
      | inl is ↦ absurd (eqb-false x.0 row.0 differs (own ∙ sym (eqb-true row.0 turn is)))
    ] in
    rw other (none-at test turn x rows own (All-tail (λ (entry : ℕ × Pending). (x.0 == entry.0) ≡ false) row rows apart))

-- the call under a turn passes where a row does
pub row-passes : (test : Pending → Bool) (turn : ℕ) (rows : List (ℕ × Pending)) → AreApart rows → option_map_or (λ row. test row) (row_of rows turn) false ≡ list_any (is_at test turn) rows
row-passes test turn [] apart = refl
row-passes test turn (x ∷ rows) apart = elim (cases_Bool (x.0 == turn)) [
  | inl own ↦ (let none = none-at test turn x rows (eqb-true x.0 turn own) (λ k d within. apart zero (suc k) d (omega arith) (omega arith)) in rw (own, none) (or-false (test x.1)))
  | inr other ↦ rw other (row-passes test turn rows (λ i j d below within. apart (suc i) (suc j) d (omega arith) (omega arith)))
]
  where
    or-false : (b : Bool) → b ≡ (b || false)
    or-false true = refl
    or-false false = refl

-- ---- the first of some rows

step : (test : Pending → Bool) (x : ℕ × Pending) (rows : List (ℕ × Pending)) → first_turn test (x ∷ rows) ≡ lesser (if test x.1 then Some x.0 else None) (first_turn test rows)
step test x rows = first_turn-more test (x ∷ rows) 0 x None (omega arith) refl

pub first_turn-none : (test : Pending → Bool) (rows : List (ℕ × Pending)) → list_any (λ entry. test entry.1) rows ≡ false → first_turn test rows ≡ None
first_turn-none test [] none = refl
first_turn-none test (x ∷ rows) none =
    let parts = or_parts (test x.1) (list_any (λ (entry : ℕ × Pending). test entry.1) rows) none in
    step test x rows ∙ rw parts.0 (first_turn-none test rows parts.1)

-- no row below it passes
not-below : (test : Pending → Bool) (turn : ℕ) (x : ℕ × Pending) → is_below test turn x ≡ false → test x.1 ≡ true → turn ≤ x.0
not-below test turn x none passes = elim (cases_Bool (nat_lt x.0 turn)) [
  | inl less ↦ absurd (let impossible : true ≡ false = rw (less, passes) at none in cc)
  | inr no_less ↦ ltb-false x.0 turn no_less
]

first_turn-above : (test : Pending → Bool) (turn : ℕ) (rows : List (ℕ × Pending)) → list_any (is_below test turn) rows ≡ false → lesser (Some turn) (first_turn test rows) ≡ Some turn
first_turn-above test turn [] none = refl
first_turn-above test turn (x ∷ rows) none =
    let parts = or_parts (is_below test turn x) (list_any (is_below test turn) rows) none in
    let rest = first_turn-above test turn rows parts.1 in
    ap (lesser (Some turn)) (step test x rows) ∙ elim (cases_Bool (test x.1)) [
      | inr fails ↦ rw fails rest
      | inl passes ↦ (let above = not-below test turn x parts.0 passes in rw passes (least turn x.0 (first_turn test rows) above rest))
    ]
  where
    least : (n m : ℕ) (first : Option ℕ) → n ≤ m → lesser (Some n) first ≡ Some n → lesser (Some n) (lesser (Some m) first) ≡ Some n
    least n m None within is = ap Some (omega arith)
    least n m (Some k) within is = (let same : min n k ≡ n = some_same (min n k) n is in ap Some (omega arith))

-- the least turn of a row that passes
pub first_turn-least : (test : Pending → Bool) (turn : ℕ) (rows : List (ℕ × Pending)) → list_any (is_below test turn) rows ≡ false → list_any (is_at test turn) rows ≡ true → first_turn test rows ≡ Some turn
first_turn-least test turn [] none some = cc
first_turn-least test turn (x ∷ rows) none some =
    let parts = or_parts (is_below test turn x) (list_any (is_below test turn) rows) none in
    step test x rows ∙ elim (cases_Bool (test x.1)) [
      | inr fails ↦ rw fails (first_turn-least test turn rows parts.1 (rest-at (x.0 == turn) (rw fails at some)))
      | inl passes ↦ elim (cases_Bool (x.0 == turn)) [
        | inl own ↦ (let same = eqb-true x.0 turn own in rw (passes, same) (first_turn-above test turn rows parts.1))
        | inr other ↦ (let more = first_turn-least test turn rows parts.1 (rw other at some) in
            let above = not-below test turn x parts.0 passes in rw (passes, more) (ap Some (omega arith)))
      ]
    ]
  where
    rest-at : (own : Bool) → ((own && false) || list_any (is_at test turn) rows) ≡ true → list_any (is_at test turn) rows ≡ true
    rest-at true is = is
    rest-at false is = is

-- and of such a turn no row below it passes, and one of it does
pub record IsFirst (test : Pending → Bool) (turn : ℕ) (rows : List (ℕ × Pending)) : Type 0 where
  pub below : list_any (is_below test turn) rows ≡ false
  pub at : list_any (is_at test turn) rows ≡ true

none-below : (test : Pending → Bool) (turn : ℕ) (rows : List (ℕ × Pending)) → lesser (Some turn) (first_turn test rows) ≡ Some turn → list_any (is_below test turn) rows ≡ false
none-below test turn [] is = refl
none-below test turn (x ∷ rows) is =
    let here : lesser (Some turn) (lesser (if test x.1 then Some x.0 else None) (first_turn test rows)) ≡ Some turn = ap (lesser (Some turn)) (sym (step test x rows)) ∙ is in
    elim (cases_Bool (test x.1)) [
      | inr fails ↦ rw (fails, and-false (nat_lt x.0 turn)) (none-below test turn rows (rw fails at here))
      | inl passes ↦ (let both = apart turn x.0 (first_turn test rows) (rw passes at here) in rw (passes, le-ltb x.0 turn both.0) (none-below test turn rows both.1))
    ]
  where
    and-false : (b : Bool) → (b && false) ≡ false
    and-false true = refl
    and-false false = refl

    apart : (n m : ℕ) (first : Option ℕ) → lesser (Some n) (lesser (Some m) first) ≡ Some n → (n ≤ m) × (lesser (Some n) first ≡ Some n)
    apart n m None is = (let same : min n m ≡ n = some_same (min n m) n is in (omega arith, refl))
    apart n m (Some k) is = (let same : min n (min m k) ≡ n = some_same (min n (min m k)) n is in (omega arith, ap Some (omega arith)))

pub first_turn-first : (test : Pending → Bool) (turn : ℕ) (rows : List (ℕ × Pending)) → AreApart rows → first_turn test rows ≡ Some turn → IsFirst test turn rows
first_turn-first test turn rows apart found =
    let has : HasRow rows turn test = first_turn-is test rows turn apart found in
    record {
      below = none-below test turn rows (ap (lesser (Some turn)) found ∙ ap Some (omega arith));
      at = sym (row-passes test turn rows apart) ∙ ap (λ (row : Option Pending). option_map_or (λ row. test row) row false) has.row ∙ has.passes;
    }

-- ---- the earliest Notify of a handle

-- what a Notify of the same handle of the same client is
same-handle : (v : Volume) (client handle : ℕ) (pending : Pending) → has_due v client handle ≡ true → is_notify_on client handle pending ≡ true → is_due v pending ≡ true
same-handle v client handle pending due on =
    let parts = and_parts (pending.call.client == client) (is_notify_of handle pending.call.what) on in
    go pending.call.what (eqb-true pending.call.client client parts.0) parts.1
  where
    go : (what : What) → pending.call.client ≡ client → is_notify_of handle what ≡ true → asks_for_due v pending.call.client what ≡ true
    go (Ask (Notify other filter tree room)) own is = rw (own, eqb-true other handle is) due
    go _ own is = (let impossible : false ≡ true = is in cc)

-- the call is not held, and reported to
abbrev pub reports_now : Volume → ℕ → ℕ → What → Bool
reports_now v client number (Ask (Notify handle filter tree room)) = has_due v client handle && is_first_notify v client number handle
reports_now v client number _ = false

abbrev pub is_reported : Volume → Pending → Bool
is_reported v pending = not (is_held pending) && reports_now v pending.call.client pending.call.number pending.call.what

reports-due : (v : Volume) (client number : ℕ) (what : What) → reports_now v client number what ≡ true → asks_for_due v client what ≡ true
reports-due v client number (Ask (Notify handle filter tree room)) is = (and_parts (has_due v client handle) (is_first_notify v client number handle) is).0
reports-due v client number _ is = (let impossible : false ≡ true = is in cc)

is_reported-due : (v : Volume) (pending : Pending) → is_reported v pending ≡ true → is_due v pending ≡ true
is_reported-due v pending is =
    reports-due v pending.call.client pending.call.number pending.call.what (and_parts (not (is_held pending)) (reports_now v pending.call.client pending.call.number pending.call.what) is).1

-- the first to which something is due is the earliest of its handle
first-notify : (v : Volume) (turn : ℕ) (pending : Pending) (handle : ℕ) → AreApart v.pending → IsFirst (is_due v) turn v.pending → row_of v.pending turn ≡ Some pending
    → has_due v pending.call.client handle ≡ true → is_notify_on pending.call.client handle pending ≡ true → is_first_notify v pending.call.client pending.call.number handle ≡ true
first-notify v turn pending handle apart first row due on =
    let below : list_any (is_below (is_notify_on pending.call.client handle) turn) v.pending ≡ false
    = any-weaker (is_below (is_due v) turn) (is_below (is_notify_on pending.call.client handle) turn) v.pending
    (λ entry both. (let parts = and_parts (nat_lt entry.0 turn) (is_notify_on pending.call.client handle entry.1) both in
    and_from (nat_lt entry.0 turn) (is_due v entry.1) parts.0 (same-handle v pending.call.client handle entry.1 due parts.1))) first.below in
    let at : list_any (is_at (is_notify_on pending.call.client handle) turn) v.pending ≡ true
    = sym (row-passes (is_notify_on pending.call.client handle) turn v.pending apart) ∙ ap (λ (row : Option Pending). option_map_or (λ row. is_notify_on pending.call.client handle row) row false) row ∙ on in
    let least = first_turn-least (is_notify_on pending.call.client handle) turn v.pending below at in
    elim (option_cases (first_row (is_notify_on pending.call.client handle) v.pending)) [
      | inl none ↦ (let impossible : None ≡ Some turn = rw none at least in cc)
      | inr some ↦ (let is : IsRow v.pending some.0 (is_notify_on pending.call.client handle) = first_row-is (is_notify_on pending.call.client handle) v.pending some.0 apart some.1 in
          let here : some.0.0 ≡ turn = some_same some.0.0 turn (rw some.1 at least) in
          let same : some.0.1 ≡ pending = some_same some.0.1 pending (sym is.row ∙ ap (λ (t : ℕ). row_of v.pending t) here ∙ row) in
          rw some.1 (eq-eqb some.0.1.call.number pending.call.number (ap (λ (p : Pending). p.call.number) same)))
    ]

-- and none of them is held
not-held : (v : Volume) (turn : ℕ) (pending : Pending) → AreApart v.pending → HoldsRightly v → row_of v.pending turn ≡ Some pending → is_held_wrongly (turn, pending) ≡ false
not-held v turn pending apart rightly row = elim (cases_Bool (is_held_wrongly (turn, pending))) [
  | inr isnt ↦ isnt
  | inl wrongly ↦ absurd (
      let at : list_any (is_at (λ p. is_held_wrongly (turn, p)) turn) v.pending ≡ true
      = sym (row-passes (λ p. is_held_wrongly (turn, p)) turn v.pending apart) ∙ ap (λ (found : Option Pending). option_map_or (λ p. is_held_wrongly (turn, p)) found false) row ∙ wrongly in
      let found = some_item (is_at (λ p. is_held_wrongly (turn, p)) turn) v.pending at in
      none-item is_held_wrongly v.pending (none-how_many is_held_wrongly v.pending rightly)
      (found.is_there is_held_wrongly (and_parts (found.item.0 == turn) (is_held_wrongly (turn, found.item.1)) found.passes).1))
]

reported-row : (v : Volume) (turn : ℕ) (pending : Pending) → AreApart v.pending → HoldsRightly v → IsFirst (is_due v) turn v.pending → row_of v.pending turn ≡ Some pending → is_due v pending ≡ true
    → is_reported v pending ≡ true
reported-row v turn pending apart rightly first row due =
    go pending.call.what refl (not-held v turn pending apart rightly row) due
  where
    go : (what : What) → pending.call.what ≡ what → is_held_wrongly (turn, pending) ≡ false → asks_for_due v pending.call.client what ≡ true → is_reported v pending ≡ true
    go (Ask (Notify handle filter tree room)) is rightly_held has =
        let free : is_held pending ≡ false = unheld (is_held pending) (rw is at rightly_held) in
        let on : is_notify_on pending.call.client handle pending ≡ true = rw (is, eq-eqb pending.call.client pending.call.client refl) (eq-eqb handle handle refl) in
        let due_there : has_due v pending.call.client handle ≡ true = has in
        rw (is, free, due_there) (first-notify v turn pending handle apart first row due_there on)
      where
        unheld : (held : Bool) → (held && true) ≡ false → held ≡ false
        unheld true is = cc
        unheld false is = refl
    go _ is rightly_held has = (let impossible : false ≡ true = has in cc)

-- so it is the first that is reported to
pub first-reported : (v : Volume) → AreApart v.pending → HoldsRightly v → first_turn (is_reported v) v.pending ≡ first_turn (is_due v) v.pending
first-reported v apart rightly = elim (option_cases (first_turn (is_due v) v.pending)) [
  | inl none ↦ first_turn-none (is_reported v) v.pending (elim (cases_Bool (list_any (λ entry. is_reported v entry.1) v.pending)) [
    | inr isnt ↦ isnt
    | inl some ↦ absurd (let found = some_item (λ (entry : ℕ × Pending). is_reported v entry.1) v.pending some in
        let due : list_any (λ entry. is_due v entry.1) v.pending ≡ true = found.is_there (λ entry. is_due v entry.1) (is_reported-due v found.item.1 found.passes) in
        none-due (is_due v) v.pending none due)
  ]) ∙ sym none
  | inr some ↦ (let first = first_turn-first (is_due v) some.0 v.pending apart some.1 in
      let has : HasRow v.pending some.0 (is_due v) = first_turn-is (is_due v) v.pending some.0 apart some.1 in
      let passes = reported-row v some.0 has.pending apart rightly first has.row has.passes in
      first_turn-least (is_reported v) some.0 v.pending
      (any-weaker (is_below (is_due v) some.0) (is_below (is_reported v) some.0) v.pending
      (λ entry both. (let parts = and_parts (nat_lt entry.0 some.0) (is_reported v entry.1) both in and_from (nat_lt entry.0 some.0) (is_due v entry.1) parts.0 (is_reported-due v entry.1 parts.1))) first.below)
      (sym (row-passes (is_reported v) some.0 v.pending apart) ∙ ap (λ (row : Option Pending). option_map_or (λ row. is_reported v row) row false) has.row ∙ passes)
      ∙ sym some.1)
]
  where
    none-due : (test : Pending → Bool) (rows : List (ℕ × Pending)) → first_turn test rows ≡ None → list_any (λ entry. test entry.1) rows ≡ true → ⊥
    none-due test [] none some = cc
    none-due test (x ∷ rows) none some =
        let here : lesser (if test x.1 then Some x.0 else None) (first_turn test rows) ≡ None = sym (step test x rows) ∙ none in
        elim (cases_Bool (test x.1)) [
          | inl passes ↦ not_none x.0 (first_turn test rows) (rw passes at here)
          | inr fails ↦ none-due test rows (rw fails at here) (rw fails at some)
        ]
      where
        not_none : (n : ℕ) (first : Option ℕ) → lesser (Some n) first ≡ None → ⊥
        not_none n None is = cc
        not_none n (Some k) is = cc
