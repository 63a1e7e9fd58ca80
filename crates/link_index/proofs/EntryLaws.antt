-- What stands at a place among entries, told by what fails and passes before it and behind it.
use Rattle.std.proofs.Common.{◌≡◌, ℕ, zero, suc, ◌+◌, ◌<◌, ◌≤◌, Bool, true, false, not, List, [], ◌∷◌, length, get_or, refl, ap, sym, arith, Some, None}
use Rattle.std.specs.List.{All, AllWithin, HoldsAt, filter, find, insert, remove, slice_get}
use Rattle.std.specs.Fn.{Called, ReturnsEach, AlwaysReturns}
use denote.Param.Members.{Mut}
use Rattle.fsa_types.specs.Sorting.{put_in_order}

-- what holds up to a place holds of the rest up to there
from-start : {X : Type 0} (P : X → Type 0) (x : X) (xs : List X) (high : ℕ) → AllWithin P (x ∷ xs) 0 (suc high) → AllWithin P xs 0 high
from-start P x xs high all k d from below = all (suc k) d (omega arith) (omega arith)

-- ---- the first that passes

-- none passes
pub find-none : {X : Type 0} (p : X → Bool) (xs : List X) → All (λ x. p x ≡ false) xs → find p xs ≡ None
find-none p [] fails = refl
find-none p (x ∷ xs) fails =
    let here : p x ≡ false = fails 0 x (omega arith) in
    rw here (find-none p xs (λ k d within. fails (suc k) d (omega arith)))

-- those before this place fail, and it passes where it is there
pub find-here : {X : Type 0} (p : X → Bool) (xs : List X) (i : ℕ) → AllWithin (λ x. p x ≡ false) xs 0 i → (i < length xs → HoldsAt (λ x. p x ≡ true) xs i) → slice_get xs i ≡ find p xs
find-here p [] zero fails passes = refl
find-here p [] (suc i) fails passes = refl
find-here p (x ∷ xs) zero fails passes =
    let here : p x ≡ true = passes (omega arith) x in
    rw here refl
find-here p (x ∷ xs) (suc i) fails passes =
    let other : p x ≡ false = fails 0 x (omega arith) (omega arith) in
    rw other (find-here p xs i (from-start (λ y. p y ≡ false) x xs i fails) (λ within d. passes (omega arith) d))

-- ---- one more in order

-- it comes before none of those up to this place, and before the one that is there
pub insert-here : {X : Type 0} (before : X → X → Bool) (item : X) (xs : List X) (i : ℕ) → i ≤ length xs → AllWithin (λ x. before item x ≡ false) xs 0 i
    → (i < length xs → HoldsAt (λ x. before item x ≡ true) xs i) → insert xs i item ≡ put_in_order before item xs
insert-here before item [] zero within fails passes = refl
insert-here before item [] (suc i) within fails passes = absurd (omega arith)
insert-here before item (x ∷ xs) zero within fails passes =
    let here : before item x ≡ true = passes (omega arith) x in
    rw here refl
insert-here before item (x ∷ xs) (suc i) within fails passes =
    let other : before item x ≡ false = fails 0 x (omega arith) (omega arith) in
    rw other (ap (λ rest. x ∷ rest) (insert-here before item xs i (omega arith) (from-start (λ y. before item y ≡ false) x xs i fails) (λ inside d. passes (omega arith) d)))

-- ---- all but one

-- none is left out
pub filter-all : {X : Type 0} (p : X → Bool) (xs : List X) → All (λ x. p x ≡ false) xs → xs ≡ filter (λ x. not (p x)) xs
filter-all p [] fails = refl
filter-all p (x ∷ xs) fails =
    let here : p x ≡ false = fails 0 x (omega arith) in
    rw here (ap (λ rest. x ∷ rest) (filter-all p xs (λ k d within. fails (suc k) d (omega arith))))

-- the one at this place passes, and no other
pub remove-here : {X : Type 0} (p : X → Bool) (xs : List X) (i : ℕ) → i < length xs → AllWithin (λ x. p x ≡ false) xs 0 i → HoldsAt (λ x. p x ≡ true) xs i
    → AllWithin (λ x. p x ≡ false) xs (i + 1) (length xs) → remove xs i ≡ filter (λ x. not (p x)) xs
remove-here p [] i within before here after = absurd (omega arith)
remove-here p (x ∷ xs) zero within before here after =
    let passes : p x ≡ true = here x in
    rw passes (filter-all p xs (λ k d inside. after (suc k) d (omega arith) (omega arith)))
remove-here p (x ∷ xs) (suc i) within before here after =
    let fails : p x ≡ false = before 0 x (omega arith) (omega arith) in
    rw fails (ap (λ rest. x ∷ rest) (remove-here p xs i (omega arith) (from-start (λ y. p y ≡ false) x xs i before) (λ d. here d) (λ k d from inside. after (suc k) d (omega arith) (omega arith))))

-- ---- what is read at a place

pub slice_get-here : {X : Type 0} (xs : List X) (i : ℕ) (x : X) → i < length xs → x ≡ get_or xs i x → slice_get xs i ≡ Some x
slice_get-here [] i x within read = absurd (omega arith)
slice_get-here (y ∷ ys) zero x within read = ap Some (sym read)
slice_get-here (y ∷ ys) (suc i) x within read = slice_get-here ys i x (omega arith) read

-- ---- what a closure answers

-- a fact of the closure that each call keeps tells what each call answers
module _ {F X R : Type 0} (g : Mut F X R) (P : X → R → Type 0) (I : F → Type 0) (step : (f : F) (a : X) (r : R) (f' : F) → Called g f a r f' → I f → P a r × I f') where
  answers_each : (xs : List X) (f : F) → I f → ReturnsEach g P f xs
  answers_each [] f i = tt
  answers_each (a ∷ xs) f i = λ r f' c. let s = step f a r f' c i in (s.0, answers_each xs f' s.1)

  pub answers_by : (f : F) → I f → AlwaysReturns g P f
  answers_by f i = record { at = λ xs. answers_each xs f i }
