-- What the index of turns tells of the pending calls, where their turns rise.
use Rattle.std.proofs.Common.{◌≡◌, ℕ, zero, suc, ◌<◌, ◌≤◌, ◌+◌, Bool, true, false, not, List, [], ◌∷◌, length, get_or, refl, ap, sym, subst, ◌∙◌, arith, inl, inr, Option, Some, None}
use Rattle.std.specs.List.{find, list_any, All}
use Rattle.std.specs.Option.{option_map_or}
use Rattle.std.specs.Prelude.{◌==◌, ◌&&◌, nat_lt}
use Rattle.std.proofs.lemmas.Bool.{cases_Bool, eq-eqb, eqb-true, and_parts, and_from, and_left, and_right, both_ways, false_from_ne_true, false≢true, le-ltb}
use Rattle.std.proofs.lemmas.List.Folds.{list_any_none}
use Rattle.fsa_types.specs.Rows.{IsNumbered}
use Rattle.fsa_types.specs.declared.request.What.{What}
use Rattle.fsa_types.specs.declared.request.What.TheVariants.{Ask, Tick, WaitFor, Leave}
use Rattle.fsa_model.specs.Close.{handle_named, names}
use Rattle.fsa_model.specs.Edits.{is_call}
use Rattle.fsa_model.specs.Volume.{Pending}
use Rattle.fsa_model.proofs.RowLaws.{find-none, none-all, option_cases}
use Rattle.volume_tables.specs.CallKey.{call_key_of}
use Rattle.volume_breaks.specs.CallIndex.{handle_in, is_naming, row_call_key, row_handle_key}
use Rattle.volume_breaks.proofs.OrderLemmas.{AllRise}

-- ---- keys

pub call-only : (client number : ℕ) (row : Pending) → is_call client number row ≡ true → (row_call_key row == call_key_of client number) ≡ true
call-only client number row is =
    let parts = and_parts (row.call.client == client) (row.call.number == number) is in
    eq-eqb (row_call_key row) (call_key_of client number)
    (ap (λ c. call_key_of c row.call.number) (eqb-true row.call.client client parts.0) ∙ ap (λ n. call_key_of client n) (eqb-true row.call.number number parts.1))

named-is : (named : Option ℕ) (handle : ℕ) → option_map_or (λ h. h == handle) named false ≡ true → named ≡ Some handle
named-is None handle is = absurd (false≢true is)
named-is (Some h) handle is = ap Some (eqb-true h handle is)

names-is : (what : What) (handle : ℕ) → names what handle ≡ true → handle_in what ≡ Some handle
names-is (Ask request) handle is = named-is (handle_named request) handle is
names-is (Tick ticks) handle is = absurd (false≢true is)
names-is (WaitFor number) handle is = absurd (false≢true is)
names-is Leave handle is = absurd (false≢true is)

pub naming-only : (client handle : ℕ) (row : Pending) → is_naming client handle row ≡ true → (row_handle_key row == call_key_of client handle) ≡ true
naming-only client handle row is =
    let parts = and_parts (row.call.client == client) (names row.call.what handle) is in
    let named : handle_in row.call.what ≡ Some handle = names-is row.call.what handle parts.1 in
    rw named (eq-eqb (call_key_of row.call.client handle) (call_key_of client handle) (ap (λ c. call_key_of c handle) (eqb-true row.call.client client parts.0)))

-- ---- rows whose turns rise are numbered

abbrev pub sum_of : List (ℕ × Pending) → ℕ
sum_of [] = 0
sum_of (row ∷ rows) = row.0 + sum_of rows

below-sum : (rows : List (ℕ × Pending)) → All (λ e. e.0 ≤ sum_of rows) rows
below-sum [] k d within = absurd (omega arith)
below-sum (row ∷ rows) zero d within = omega arith
below-sum (row ∷ rows) (suc k) d within = let rest : (get_or rows k d).0 ≤ sum_of rows = below-sum rows k d (omega arith) in omega (arith, rest)

pub IsNumbered-rise : (rows : List (ℕ × Pending)) → AllRise rows → IsNumbered rows (sum_of rows)
IsNumbered-rise rows rise = record { rising = rise; given = below-sum rows }

-- ---- the first of those that pass is the one of the least turn

abbrev pub is_least : (ℕ × Pending → Bool) → List (ℕ × Pending) → ℕ × Pending → Bool
is_least p rows e = p e && not (list_any (λ o. p o && nat_lt o.0 e.0) rows)

found-passes : {T : Type 0} (p : T → Bool) (rows : List T) (e : T) → find p rows ≡ Some e → p e ≡ true
found-passes p [] e found = (let impossible : None ≡ Some e = found in cc)
found-passes p (row ∷ rows) e found = elim (cases_Bool (p row)) [
  | inl passes ↦ (let is : Some row ≡ Some e = rw passes at found in let same : row ≡ e = cc in rw (← same) passes)
  | inr fails ↦ found-passes p rows e (rw fails at found)
]

least-first : (p : ℕ × Pending → Bool) (rows : List (ℕ × Pending)) (e : ℕ × Pending) → AllRise rows → find p rows ≡ Some e → list_any (λ o. p o && nat_lt o.0 e.0) rows ≡ false
least-first p [] e rise found = refl
least-first p (row ∷ rows) e rise found = elim (cases_Bool (p row)) [
  | inl passes ↦ (let is : Some row ≡ Some e = rw passes at found in
      let same : row ≡ e = cc in
      subst (λ (x : ℕ × Pending). list_any (λ o. p o && nat_lt o.0 x.0) (row ∷ rows) ≡ false) same
      (list_any_none (λ o. p o && nat_lt o.0 row.0) (row ∷ rows) (λ k d within. and_right (p (get_or (row ∷ rows) k d)) (nat_lt (get_or (row ∷ rows) k d).0 row.0) (above k d within))))
  | inr fails ↦ rw fails (least-first p rows e (λ i j d below within. rise (suc i) (suc j) d (omega arith) (omega arith)) (rw fails at found))
]
  where
    above : (k : ℕ) (d : ℕ × Pending) → k < length (row ∷ rows) → nat_lt (get_or (row ∷ rows) k d).0 row.0 ≡ false
    above zero d within = le-ltb row.0 row.0 (omega arith)
    above (suc k) d within = let more : row.0 < (get_or rows k d).0 = rise 0 (suc k) d (omega arith) (omega arith) in le-ltb (get_or rows k d).0 row.0 (omega (arith, more))

found-too : {T : Type 0} (p q : T → Bool) (rows : List T) (e : T) → ((x : T) → q x ≡ true → p x ≡ true) → find p rows ≡ Some e → q e ≡ true → find q rows ≡ Some e
found-too p q [] e also found passes = (let impossible : None ≡ Some e = found in cc)
found-too p q (row ∷ rows) e also found passes = elim (cases_Bool (p row)) [
  | inl here ↦ (let is : Some row ≡ Some e = rw here at found in
      let same : row ≡ e = cc in
      let first : q row ≡ true = rw same passes in
      rw first is)
  | inr fails ↦ (let other : q row ≡ false = false_from_ne_true (q row) (λ is. both_ways (p row) fails (also row is)) in
      rw other (found-too p q rows e also (rw fails at found) passes))
]

unfound : {T : Type 0} (q : T → Bool) (rows : List T) → All (λ x. q x ≡ false) rows → find q rows ≡ None
unfound q [] none = refl
unfound q (row ∷ rows) none = let here : q row ≡ false = none 0 row (omega arith) in rw here (unfound q rows (λ k d within. none (suc k) d (omega arith)))

pub first-rising : (p : ℕ × Pending → Bool) (rows : List (ℕ × Pending)) → AllRise rows → find p rows ≡ find (is_least p rows) rows
first-rising p rows rise = elim (option_cases (find p rows)) [
  | inl none ↦ none ∙ sym (unfound (is_least p rows) rows (λ k d within.
      and_left (p (get_or rows k d)) (not (list_any (λ o. p o && nat_lt o.0 (get_or rows k d).0) rows)) (none-all p rows (find-none p rows none) k d within)))
  | inr some ↦ some.1 ∙ sym (found-too p (is_least p rows) rows some.0 (λ x both. (and_parts (p x) (not (list_any (λ o. p o && nat_lt o.0 x.0) rows)) both).0) some.1
      (and_from (p some.0) (not (list_any (λ o. p o && nat_lt o.0 some.0.0) rows)) (found-passes p rows some.0 some.1) (ap not (least-first p rows some.0 rise some.1))))
]
