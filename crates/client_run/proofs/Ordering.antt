-- A history that grows stays in order for a client whose waits have ended.
use Rattle.std.proofs.Common.{◌≡◌, ◌≢◌, ◌⊎◌, ℕ, zero, suc, Bool, false, cond, ◌+◌, List, [], ◌∷◌, ◌++◌, length, sym, refl, ap, ◌∙◌, subst, arith, length-append, slice_get, None, Some, inl, inr, ⊎_elim, eq-eqb, ne_eqb}
use mathlib.Core.Logic.{dite}
use native.Mathlib.Decide.{ℕ_discrete}
use Rattle.fsa_types.specs.declared.request.Call.{Call}
use Rattle.fsa_model.specs.History.{HistoryEntry, Run, run}
use Rattle.fsa_model.specs.Setup.{Setup}
use Rattle.fsa_model.specs.Waiting.{waits}
use Rattle.history_lock.proofs.Places.{calls_by-append}
use Rattle.history_lock.specs.History.{Begins}
use Rattle.client_run.specs.Calls.{calls_in}
use Rattle.client_run.specs.ClientHistory.{IsOrderly}

module _ {A : Type 0} where
  pub at_front : (front later : List A) (a : A) → slice_get (front ++ a ∷ later) (length front) ≡ Some a
  at_front [] later a = refl
  at_front (x ∷ xs) later a = at_front xs later a

  -- an item of two lists, one after the other, stands in the first, or is one of the second
  cut : (seen more front later : List A) (e : A) → seen ++ more ≡ front ++ e ∷ later → ((l : List A) × (seen ≡ front ++ e ∷ l)) ⊎ ((k : ℕ) × (slice_get more k ≡ Some e))
  cut [] more front later e is = inr (length front, ap (λ (z : List A). slice_get z (length front)) is ∙ at_front front later e)
  cut (x ∷ xs) more [] later e is = let same : x ≡ e = cc in inl (xs, ap (λ (z : A). z ∷ xs) same)
  cut (x ∷ xs) more (y ∷ ys) later e is = let same : x ≡ y = cc in let tail : xs ++ more ≡ ys ++ e ∷ later = cc in
      ⊎_elim (λ (t : (l : List A) × (xs ≡ ys ++ e ∷ l)). inl (t.0, (λ i. same i ∷ t.1 i))) (λ (t : (k : ℕ) × (slice_get more k ≡ Some e)). inr t) (cut xs more ys later e tail)

  -- one more item at the end
  snoc : (seen : List A) (a : A) (front later : List A) (e : A) → seen ++ a ∷ [] ≡ front ++ e ∷ later → ((l : List A) × (seen ≡ front ++ e ∷ l)) ⊎ ((seen ≡ front) × (a ≡ e))
  snoc [] a [] later e is = let same : a ≡ e = cc in inr (refl, same)
  snoc [] a (y ∷ ys) later e is = let tail : [] ≡ ys ++ e ∷ later = cc in let size : 0 ≡ length ys + suc (length later) = ap length tail ∙ length-append ys (e ∷ later) in absurd (omega arith)
  snoc (x ∷ xs) a [] later e is = let same : x ≡ e = cc in inl (xs, ap (λ (z : A). z ∷ xs) same)
  snoc (x ∷ xs) a (y ∷ ys) later e is = let same : x ≡ y = cc in let tail : xs ++ a ∷ [] ≡ ys ++ e ∷ later = cc in
      ⊎_elim (λ (t : (l : List A) × (xs ≡ ys ++ e ∷ l)). inl (t.0, (λ i. same i ∷ t.1 i))) (λ (t : (xs ≡ ys) × (a ≡ e)). inr ((λ i. same i ∷ t.0 i), t.1)) (snoc xs a ys later e tail)

  -- lists that end with one item each
  pub last_same : (xs ys : List A) (a b : A) → xs ++ a ∷ [] ≡ ys ++ b ∷ [] → (xs ≡ ys) × (a ≡ b)
  last_same xs ys a b is = ⊎_elim (λ (t : (l : List A) × (xs ≡ ys ++ b ∷ l)).
      let one : length xs + 1 ≡ length ys + 1 = sym (length-append xs (a ∷ [])) ∙ (ap length is ∙ length-append ys (b ∷ [])) in let two : length xs ≡ length ys + suc (length t.0) = ap length t.1 ∙ length-append ys (b ∷ t.0) in absurd (omega arith))
      (λ (t : (xs ≡ ys) × (a ≡ b)). t) (snoc xs a ys [] b is)

  no_more : (xs ys : List A) → xs ++ ys ≡ xs → ys ≡ []
  no_more xs [] is = refl
  no_more xs (y ∷ ys) is = let size : length xs + suc (length ys) ≡ length xs = sym (length-append xs (y ∷ ys)) ∙ ap length is in absurd (omega arith)

none_rest : (x : HistoryEntry) (xs : List HistoryEntry) (client : ℕ) → x.call.client ≢ client → ((k : ℕ) (e : HistoryEntry) → slice_get xs k ≡ Some e → e.call.client ≢ client)
    → (k : ℕ) (e : HistoryEntry) → slice_get (x ∷ xs) k ≡ Some e → e.call.client ≢ client
none_rest x xs client other rest zero e at = let same : x ≡ e = (let f : Some x ≡ Some e = at in cc) in λ q. other (ap (λ (z : HistoryEntry). z.call.client) same ∙ q)
none_rest x xs client other rest (suc k) e at = rest k e at

-- where the client has no call in these entries, none of their calls is the client's
pub none_of : (client : ℕ) (more : List HistoryEntry) → calls_in client more ≡ [] → (k : ℕ) (e : HistoryEntry) → slice_get more k ≡ Some e → e.call.client ≢ client
none_of client [] none k e at = let f : None ≡ Some e = at in absurd cc
none_of client (x ∷ xs) none k e at = dite (ℕ_discrete x.call.client client)
    (λ same. let f : x.call ∷ calls_in client xs ≡ [] = ap (λ (b : Bool). cond b (x.call ∷ calls_in client xs) (calls_in client xs)) (sym (eq-eqb x.call.client client same)) ∙ none in absurd cc)
    (λ other. let f : calls_in client xs ≡ [] = ap (λ (b : Bool). cond b (x.call ∷ calls_in client xs) (calls_in client xs)) (sym (ne_eqb x.call.client client other)) ∙ none in none_rest x xs client other (none_of client xs f) k e at)

-- where the client has made as many calls in the longer history, the rest of it has none
pub none_added : (client : ℕ) (seen later : List HistoryEntry) → calls_in client (seen ++ later) ≡ calls_in client seen → calls_in client later ≡ []
none_added client seen later same = no_more (calls_in client seen) (calls_in client later) (sym (calls_by-append (λ (entry : HistoryEntry). entry.call) (λ (call : Call). call.client) client seen later) ∙ same)

-- others' calls change nothing
pub orderly_more : (setup : Setup) (client : ℕ) (seen more : List HistoryEntry) → calls_in client more ≡ [] → IsOrderly setup client seen → IsOrderly setup client (seen ++ more)
orderly_more setup client seen more none o = record {
  each = λ front later e is by. ⊎_elim (λ (t : (l : List HistoryEntry) × (seen ≡ front ++ e ∷ l)). o.each front t.0 e t.1 by)
      (λ (t : (k : ℕ) × (slice_get more k ≡ Some e)). absurd (none_of client more none t.0 e t.1 by)) (cut seen more front later e is);
}

-- the client may make a call where none of its waits is pending
pub orderly_did : (setup : Setup) (client : ℕ) (front : List HistoryEntry) (entry : HistoryEntry) → ((r : Run) → run setup front ≡ Some r → waits r.volume client ≡ false)
    → IsOrderly setup client front → IsOrderly setup client (front ++ entry ∷ [])
orderly_did setup client front entry quiet o = record {
  each = λ f later e is by. ⊎_elim (λ (t : (l : List HistoryEntry) × (front ≡ f ++ e ∷ l)). o.each f t.0 e t.1 by)
      (λ (same : (front ≡ f) × (entry ≡ e)). λ r runs. quiet r (ap (run setup) same.0 ∙ runs)) (snoc front entry f later e is);
}

pub orderly_none : (setup : Setup) (client : ℕ) (log : List HistoryEntry) → calls_in client log ≡ [] → IsOrderly setup client log
orderly_none setup client log none = record { each = λ front later e is by. absurd (none_of client log none (length front) e (ap (λ (l : List HistoryEntry). slice_get l (length front)) is ∙ at_front front later e) by) }

-- the whole history is in order where what was seen of it is, and has all the client's calls
pub orderly_closed : (setup : Setup) (client : ℕ) (seen log : List HistoryEntry) → calls_in client log ≡ calls_in client seen → Begins seen log → IsOrderly setup client seen → IsOrderly setup client log
orderly_closed setup client seen log all b o = subst (IsOrderly setup client) (sym b.whole)
    (orderly_more setup client seen b.later (none_added client seen b.later (ap (calls_in client) (sym b.whole) ∙ all)) o)
