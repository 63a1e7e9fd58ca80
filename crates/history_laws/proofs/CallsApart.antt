-- Which pending calls stay where others end.
use Rattle.std.proofs.Common.{◌≡◌, ℕ, ◌≤◌, Bool, true, false, not, List, [], ◌∷◌, refl, sym, ◌∙◌, arith, inl, inr}
use Rattle.std.specs.List.{filter, list_any}
use Rattle.std.specs.Prelude.{◌&&◌, ◌||◌}
use Rattle.std.proofs.lemmas.Bool.{cases_Bool}
use Rattle.fsa_types.specs.Sorting.{in_order}
use Rattle.fsa_types.specs.declared.reply.Body.TheVariants.{Nothing}
use Rattle.fsa_types.specs.declared.reply.Reply.{Reply}
use Rattle.fsa_types.specs.declared.request.What.{What}
use Rattle.fsa_types.specs.declared.status.Status.{Status}
use Rattle.fsa_model.specs.Close.{with_calls_ended}
use Rattle.fsa_model.specs.Edits.{is_call, with_end}
use Rattle.fsa_model.specs.Once.{IsOnce, how_many, times}
use Rattle.fsa_model.specs.Volume.{Pending, Volume}
use Rattle.fsa_model.proofs.CoherenceLaws.{any-in_order}
use Rattle.fsa_model.proofs.CountLaws.{and_left, and_right, only-one, some-how_many}
use Rattle.fsa_model.proofs.OnceLaws.{is_call_of, is_same-equal, is_same-refl}
use Rattle.fsa_model.proofs.RowLaws.{any-filter_none}
use Rattle.fsa_model.proofs.SettleLaws.{IsNext}
use Rattle.fsa_model.proofs.WaitLaws.{Found, some_item}
use Rattle.history_laws.proofs.AnyLaws.{and_twice, any-filter_and, any-kept, none-stronger}

-- where a call ends, what is none of its rows stays
pub ends-stay : (T : ℕ × Pending → Bool) (v : Volume) (client number : ℕ) (reply : Reply) → list_any (λ e. T e && is_call_of client number e) v.pending ≡ false → list_any T v.pending ≡ true
    → list_any T (with_end v client number reply).pending ≡ true
ends-stay T v client number reply apart some =
    any-kept T (λ e. T e && is_call_of client number e) (λ e. not (is_call client number e.1)) v.pending
    (λ e passes isnt. by (T e) (is_call client number e.1) passes isnt) apart some
  where
    by : (a b : Bool) → a ≡ true → (a && b) ≡ false → not b ≡ true
    by true true is isnt = sym isnt
    by true false is isnt = refl
    by false b is isnt = cc

-- one of these calls
abbrev is_one_of : List (ℕ × Pending) → ℕ × Pending → Bool
is_one_of calls entry = list_any (λ c. is_call_of c.1.call.client c.1.call.number entry) calls

pub calls-stay : (T : ℕ × Pending → Bool) (status_of : What → Status) (calls : List (ℕ × Pending)) (v : Volume) → list_any (λ e. T e && is_one_of calls e) v.pending ≡ false → list_any T v.pending ≡ true
    → list_any T (with_calls_ended status_of calls v).pending ≡ true
calls-stay T status_of [] v apart some = some
calls-stay T status_of (entry ∷ calls) v apart some =
    calls-stay T status_of calls (with_end v entry.1.call.client entry.1.call.number (record { status = status_of entry.1.call.what; body = Nothing }))
    (any-filter_none (λ e. T e && is_one_of calls e) (λ e. not (is_call entry.1.call.client entry.1.call.number e.1)) v.pending (none-stronger (λ e. T e && is_one_of (entry ∷ calls) e) _ v.pending (λ e both. rest (T e) (is_call_of entry.1.call.client entry.1.call.number e) (is_one_of calls e) both) apart))
    (ends-stay T v entry.1.call.client entry.1.call.number (record { status = status_of entry.1.call.what; body = Nothing })
    (none-stronger (λ e. T e && is_one_of (entry ∷ calls) e) _ v.pending (λ e both. first (T e) (is_call_of entry.1.call.client entry.1.call.number e) (is_one_of calls e) both) apart) some)
  where
    rest : (a b c : Bool) → (a && c) ≡ true → (a && (b || c)) ≡ true
    rest true true c both = refl
    rest true false c both = both
    rest false b c both = both

    first : (a b c : Bool) → (a && b) ≡ true → (a && (b || c)) ≡ true
    first true true c both = refl
    first true false c both = cc
    first false b c both = both

-- calls that pass a test end, and none that passes another, which excludes it, is one of them
pub calls-apart : (T : ℕ × Pending → Bool) (test : Pending → Bool) (before : ℕ × Pending → ℕ × Pending → Bool) (v : Volume) → IsOnce v → ((e : ℕ × Pending) → T e ≡ true → test e.1 ≡ false)
    → list_any (λ e. T e && is_one_of (in_order before (filter (λ e. test e.1) v.pending)) e) v.pending ≡ false
calls-apart T test before v once excludes = elim (cases_Bool (list_any (λ e. T e && is_one_of ended e) v.pending)) [
  | inr none ↦ none
  | inl is ↦ absurd (impossible (some_item (λ e. T e && is_one_of ended e) v.pending is))
]
  where
    ended : List (ℕ × Pending)
    ended = in_order before (filter (λ e. test e.1) v.pending)

    impossible : Found (λ e. T e && is_one_of ended e) v.pending → ⊥
    impossible found = of_call (some_item (λ c. is_call_of c.1.call.client c.1.call.number found.item) ended (and_right (T found.item) (is_one_of ended found.item) found.passes))
      where
        fails : test found.item.1 ≡ false
        fails = excludes found.item (and_left (T found.item) (is_one_of ended found.item) found.passes)

        of_call : Found (λ c. is_call_of c.1.call.client c.1.call.number found.item) ended → ⊥
        of_call call =
            let client : ℕ = found.item.1.call.client in
            let number : ℕ = found.item.1.call.number in
            let equal = is_same-equal found.item.1.call.client found.item.1.call.number call.item.1.call.client call.item.1.call.number call.passes in
            let among : list_any (is_call_of client number) ended ≡ true = call.is_there (is_call_of client number) (rw (equal.0, equal.1) (is_same-refl call.item.1.call.client call.item.1.call.number)) in
            let kept : list_any (λ e. is_call_of client number e && test e.1) v.pending ≡ true
            = sym (any-filter_and (is_call_of client number) (λ e. test e.1) v.pending) ∙ sym (any-in_order (is_call_of client number) before (filter (λ e. test e.1) v.pending)) ∙ among in
            let few : times client number v ≤ 1 = once client number in
            let others : list_any (λ e. is_call_of client number e && not (test e.1)) v.pending ≡ false = only-one (is_call_of client number) (λ e. test e.1) v.pending (omega arith) kept in
            let there : list_any (λ e. is_call_of client number e && not (test e.1)) v.pending ≡ true = found.is_there (λ e. is_call_of client number e && not (test e.1)) (rw (is_same-refl client number, fails) refl) in
            let impossible : true ≡ false = sym there ∙ others in cc

-- where one pending call at most passes a test, and the next does, none that passes it passes what the next doesn't
pub next-apart : (p T : ℕ × Pending → Bool) (w : Volume) (entry : ℕ × Pending) → how_many p w.pending ≤ 1 → IsNext w entry → p entry ≡ true → T entry ≡ false → list_any (λ e. T e && p e) w.pending ≡ false
next-apart p T w entry one next its free =
    let there : list_any (λ e. p e && not (T e)) w.pending ≡ true = some-how_many (λ e. p e && not (T e)) w.pending (next.is_there (λ e. p e && not (T e)) (rw (its, free) refl)) in
    none-stronger (λ e. p e && not (not (T e))) (λ e. T e && p e) w.pending (λ e both. and_twice (T e) (p e) both) (only-one p (λ e. not (T e)) w.pending one there)
