-- Laws of the places of calls: which call of a client stands where, and that no two have one number.
use Rattle.std.proofs.Common.{◌≡◌, ℕ, ◌+◌, ◌<◌, ◌≤◌, zero, suc, List, [], ◌∷◌, ◌++◌, length, take, drop, true, false, Some, refl, ap, sym, subst, ◌∙◌, append_assoc, append-nil, arith, eq-eqb, inl, inr, ◌⊎◌}
use Rattle.std.specs.Prelude.{◌==◌, ◌||◌, slice_get}
use Rattle.std.proofs.lemmas.Bool.{cases_Bool, eqb-true}
use Rattle.fsa_types.specs.declared.request.Call.{Call}
use Rattle.fsa_model.specs.History.{HistoryEntry}
use Rattle.fsa_model.specs.Schedule.{AreNumbered, calls_of, is_made, is_same_call}
use Rattle.history_laws.specs.Cursors.{first_from, first_of}

-- ---- the place of a client's first call

pub slice_get-drop : {X : Type 0} (xs : List X) (k i : ℕ) → slice_get (drop k xs) i ≡ slice_get xs (k + i)
slice_get-drop xs zero i = ap (slice_get xs) (let e : i ≡ 0 + i = omega arith in e)
slice_get-drop [] (suc k) i = refl
slice_get-drop (x ∷ xs) (suc k) i = slice_get-drop xs k i ∙ ap (slice_get (x ∷ xs)) (let e : suc (k + i) ≡ suc k + i = omega arith in e)

pub drop-drop : {X : Type 0} (xs : List X) (k i : ℕ) → drop i (drop k xs) ≡ drop (k + i) xs
drop-drop {X} xs zero i = ap (λ n. drop n xs) (let e : i ≡ 0 + i = omega arith in e)
drop-drop {X} [] (suc k) zero = let none : List X = [] in ap (λ n. drop n none) (let e : suc k ≡ suc k + 0 = omega arith in e)
drop-drop {X} [] (suc k) (suc i) = let none : List X = [] in ap (λ n. drop n none) (let e : suc (k + suc i) ≡ suc k + suc i = omega arith in e)
drop-drop {X} (x ∷ xs) (suc k) i = drop-drop xs k i ∙ ap (λ n. drop n (x ∷ xs)) (let e : suc (k + i) ≡ suc k + i = omega arith in e)

pub first_of-most : (client : ℕ) (calls : List Call) → first_of client calls ≤ length calls
first_of-most client [] = omega arith
first_of-most client (call ∷ more) = elim (cases_Bool (call.client == client)) [
  | inl is ↦ rw is (omega arith)
  | inr isnt ↦ (let rest : first_of client more ≤ length more = first_of-most client more in rw isnt (omega arith))
]

-- there is a call of the client there, or there is none at all
pub first_of-is : (client : ℕ) (calls : List Call) (call : Call) → slice_get calls (first_of client calls) ≡ Some call → call.client ≡ client
first_of-is client [] call at = absurd (cc)
first_of-is client (first ∷ more) call at = elim (cases_Bool (first.client == client)) [
  | inl is ↦ (let here : Some first ≡ Some call = rw is at at in let same : first ≡ call = cc in ap (λ (c : Call). c.client) (sym same) ∙ eqb-true first.client client is)
  | inr isnt ↦ first_of-is client more call (rw isnt at at)
]

-- none of those before it is the client's
pub first_of-before : (client : ℕ) (calls : List Call) (i : ℕ) (call : Call) → slice_get calls i ≡ Some call → call.client ≡ client → first_of client calls ≤ i
first_of-before client [] i call at own = absurd (cc)
first_of-before client (first ∷ more) zero call at own =
    let same : first ≡ call = cc in
    let is : (first.client == client) ≡ true = eq-eqb first.client client (ap (λ (c : Call). c.client) same ∙ own) in rw is (omega arith)
first_of-before client (first ∷ more) (suc i) call at own = elim (cases_Bool (first.client == client)) [
  | inl is ↦ rw is (omega arith)
  | inr isnt ↦ (let rest : first_of client more ≤ i = first_of-before client more i call at own in rw isnt (omega arith))
]

-- from there on it stands in front
pub first_of-again : (client : ℕ) (calls : List Call) → first_of client (drop (first_of client calls) calls) ≡ 0
first_of-again client [] = refl
first_of-again client (call ∷ more) = elim (cases_Bool (call.client == client)) [
  | inl is ↦ rw (is, is) refl
  | inr isnt ↦ rw isnt (first_of-again client more)
]

-- ---- numbers of calls

-- a call's number is one more than its client's calls before it
pub number_at : (before calls : List Call) (i : ℕ) (call : Call) → AreNumbered before calls → slice_get calls i ≡ Some call → call.number ≡ calls_of call.client (before ++ take i calls) + 1
number_at before [] i call numbered at = absurd (cc)
number_at before (first ∷ more) zero call numbered at =
    let same : first ≡ call = cc in
    subst (λ (c : Call). c.number ≡ calls_of c.client (before ++ []) + 1) same (rw (append-nil before) numbered.0)
number_at before (first ∷ more) (suc i) call numbered at =
    subst (λ (calls : List Call). call.number ≡ calls_of call.client calls + 1) (append_assoc before (first ∷ []) (take i more))
    (number_at (before ++ first ∷ []) more i call numbered.1 at)

-- a client has more calls behind one of its calls than before it
pub calls_of-rise : (client : ℕ) (calls : List Call) (i j : ℕ) (call : Call) → slice_get calls i ≡ Some call → call.client ≡ client → i < j → calls_of client (take i calls) + 1 ≤ calls_of client (take j calls)
calls_of-rise client [] i j call at own less = absurd (cc)
calls_of-rise client (first ∷ more) i zero call at own less = absurd (omega arith)
calls_of-rise client (first ∷ more) zero (suc j) call at own less =
    let same : first ≡ call = cc in
    let is : (first.client == client) ≡ true = eq-eqb first.client client (ap (λ (c : Call). c.client) same ∙ own) in rw is (omega arith)
calls_of-rise client (first ∷ more) (suc i) (suc j) call at own less =
    let rest : calls_of client (take i more) + 1 ≤ calls_of client (take j more) = calls_of-rise client more i j call at own (omega arith) in omega arith

-- and just one more behind it than before it
pub calls_of-next : (client : ℕ) (calls : List Call) (i : ℕ) (call : Call) → slice_get calls i ≡ Some call → call.client ≡ client → calls_of client (take (i + 1) calls) ≡ calls_of client (take i calls) + 1
calls_of-next client [] i call at own = absurd (cc)
calls_of-next client (first ∷ more) zero call at own =
    let same : first ≡ call = cc in
    let is : (first.client == client) ≡ true = eq-eqb first.client client (ap (λ (c : Call). c.client) same ∙ own) in
    ap (λ n. calls_of client (take n (first ∷ more))) (let e : 0 + 1 ≡ suc 0 = omega arith in e) ∙ rw is (omega arith)
calls_of-next client (first ∷ more) (suc i) call at own =
    let rest : calls_of client (take (i + 1) more) ≡ calls_of client (take i more) + 1 = calls_of-next client more i call at own in
    ap (λ n. calls_of client (take n (first ∷ more))) (let e : suc i + 1 ≡ suc (i + 1) = omega arith in e) ∙ omega (arith, rest)

-- before a client's first call there is none
calls_of-none : (client : ℕ) (calls : List Call) → calls_of client (take (first_of client calls) calls) ≡ 0
calls_of-none client [] = refl
calls_of-none client (call ∷ more) = elim (cases_Bool (call.client == client)) [
  | inl is ↦ rw is refl
  | inr isnt ↦ (let rest : calls_of client (take (first_of client more) more) ≡ 0 = calls_of-none client more in rw (isnt, isnt) (omega arith))
]

-- and none from a place on to its first call from there on
pub calls_of-first : (client place : ℕ) (calls : List Call) → calls_of client (take (first_from client place calls) calls) ≡ calls_of client (take place calls)
calls_of-first client zero calls = ap (λ n. calls_of client (take n calls)) (let e : 0 + first_of client calls ≡ first_of client calls = omega arith in e) ∙ calls_of-none client calls
calls_of-first client (suc place) [] = ap (λ n. calls_of client (take n ([]))) (let e : suc place + 0 ≡ suc (place + 0) = omega arith in e)
calls_of-first client (suc place) (call ∷ more) =
    let rest : calls_of client (take (first_from client place more) more) ≡ calls_of client (take place more) = calls_of-first client place more in
    ap (λ n. calls_of client (take n (call ∷ more))) (let e : suc place + first_of client (drop place more) ≡ suc (place + first_of client (drop place more)) = omega arith in e)
    ∙ omega (arith, rest)

-- of two places one comes first, or they are one
pub by_order : (i p : ℕ) → (i < p) ⊎ ((i ≡ p) ⊎ (p < i))
by_order zero zero = inr (inl refl)
by_order zero (suc p) = inl (omega arith)
by_order (suc i) zero = inr (inr (omega arith))
by_order (suc i) (suc p) = elim (by_order i p) [
  | inl less ↦ inl (omega arith)
  | inr rest ↦ elim rest [ inl same ↦ inr (inl (ap suc same)) | inr more ↦ inr (inr (omega arith)) ]
]

-- two calls of one client and number stand in one place
pub one_place : (calls : List Call) (i j : ℕ) (one other : Call) → AreNumbered [] calls → slice_get calls i ≡ Some one → slice_get calls j ≡ Some other
    → one.client ≡ other.client → one.number ≡ other.number → i ≡ j
one_place calls i j one other numbered at there client number =
    let first : one.number ≡ calls_of one.client (take i calls) + 1 = number_at [] calls i one numbered at in
    let second : other.number ≡ calls_of other.client (take j calls) + 1 = number_at [] calls j other numbered there in
    let counts : calls_of one.client (take j calls) ≡ calls_of other.client (take j calls) = ap (λ (c : ℕ). calls_of c (take j calls)) client in
    elim (by_order i j) [
      | inl less ↦ (let rise : calls_of one.client (take i calls) + 1 ≤ calls_of one.client (take j calls) = calls_of-rise one.client calls i j one at refl less in absurd (omega arith))
      | inr rest ↦ elim rest [
        | inl same ↦ same
        | inr more ↦ (let rise : calls_of one.client (take j calls) + 1 ≤ calls_of one.client (take i calls) = calls_of-rise one.client calls j i other there (sym client) more in absurd (omega arith))
      ]
    ]

-- ---- what was made

is_same-parts : (one other : Call) → is_same_call one other ≡ true → (one.client ≡ other.client) × (one.number ≡ other.number)
is_same-parts one other is = elim (cases_Bool (one.client == other.client)) [
  | inl client ↦ (eqb-true one.client other.client client, eqb-true one.number other.number (rw client at is))
  | inr differs ↦ (let impossible : false ≡ true = rw differs at is in cc)
]

pub is_same-at : (calls : List Call) (i j : ℕ) (one other : Call) → AreNumbered [] calls → slice_get calls i ≡ Some one → slice_get calls j ≡ Some other → is_same_call one other ≡ true → i ≡ j
is_same-at calls i j one other numbered at there same =
    let parts = is_same-parts one other same in one_place calls i j one other numbered at there parts.0 parts.1

pub is_same-self : (call : Call) → is_same_call call call ≡ true
is_same-self call = rw (eq-eqb call.client call.client refl, eq-eqb call.number call.number refl) refl

pub is_made-push : (history : List HistoryEntry) (entry : HistoryEntry) (call : Call) → is_made (history ++ entry ∷ []) call ≡ (is_made history call || is_same_call entry.call call)
is_made-push [] entry call = elim (cases_Bool (is_same_call entry.call call)) [ inl is ↦ rw is refl | inr isnt ↦ rw isnt refl ]
is_made-push (first ∷ history) entry call = elim (cases_Bool (is_same_call first.call call)) [
  | inl is ↦ rw is refl
  | inr isnt ↦ rw isnt (is_made-push history entry call)
]
