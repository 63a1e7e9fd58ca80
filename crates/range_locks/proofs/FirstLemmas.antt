-- Laws of the first item that passes a test: what is at its place, and the list without it.
use Rattle.std.proofs.Common.{◌≡◌, ℕ, suc, ◌+◌, ◌<◌, ◌≤◌, Bool, List, [], ◌∷◌, length, get_or, refl, ap, arith, inl, inr, Some, None}
use Rattle.std.specs.List.{find, remove, position, position_or_len}
use Rattle.std.proofs.lemmas.Bool.{cases_Bool, cases_lt, lt-ltb, le-ltb}
use Rattle.fsa_types.specs.Ranges.{without_first}

-- no item passes
pub record HasNone {A : Type 0} (p : A → Bool) (xs : List A) : Type 0 where
  pub none : find p xs ≡ None
  pub same : without_first p xs ≡ xs

-- the first item that passes is at this place
pub record HasFirst {A : Type 0} (p : A → Bool) (xs : List A) (i : ℕ) (d : A) : Type 0 where
  pub some : find p xs ≡ Some (get_or xs i d)
  pub rest : remove xs i ≡ without_first p xs

HasNone-past : {A : Type 0} (p : A → Bool) (xs : List A) → length xs ≤ position_or_len p xs → HasNone p xs
HasNone-past p [] past = record { none = refl; same = refl }
HasNone-past p (x ∷ xs) past =
    elim (cases_Bool (p x)) [
      | inl passes ↦ (let here = rw passes at past in absurd (omega arith))
      | inr fails ↦ (
          let here = rw fails at past in
          let more = HasNone-past p xs (omega arith) in
          record { none = rw fails more.none; same = rw fails (ap (λ rest. x ∷ rest) more.same) })
    ]

HasFirst-within : {A : Type 0} (p : A → Bool) (xs : List A) (d : A) → position_or_len p xs < length xs → HasFirst p xs (position_or_len p xs) d
HasFirst-within p [] d within = absurd (omega arith)
HasFirst-within p (x ∷ xs) d within =
    elim (cases_Bool (p x)) [
      | inl passes ↦ rw passes (record { some = rw passes refl; rest = rw passes refl })
      | inr fails ↦ (
          let here = rw fails at within in
          let more = HasFirst-within p xs d (omega arith) in
          let next : 1 + position_or_len p xs ≡ suc (position_or_len p xs) = omega arith in
          rw (fails, next) (record { some = rw fails more.some; rest = rw fails (ap (λ rest. x ∷ rest) more.rest) }))
    ]

pub HasNone-position : {A : Type 0} (p : A → Bool) (xs : List A) → position p xs ≡ None → HasNone p xs
HasNone-position p xs none =
    elim (cases_lt (position_or_len p xs) (length xs)) [
      | inl less ↦ (let test = lt-ltb _ _ less in let other : Some (position_or_len p xs) ≡ None = rw test at none in cc)
      | inr past ↦ HasNone-past p xs past
    ]

pub HasFirst-position : {A : Type 0} (p : A → Bool) (xs : List A) (i : ℕ) (d : A) → position p xs ≡ Some i → HasFirst p xs i d
HasFirst-position p xs i d found =
    elim (cases_lt (position_or_len p xs) (length xs)) [
      | inl less ↦ (
          let test = lt-ltb _ _ less in
          let here : Some (position_or_len p xs) ≡ Some i = rw test at found in
          let place : position_or_len p xs ≡ i = cc in
          rw (← place) (HasFirst-within p xs d less))
      | inr past ↦ (let test = le-ltb _ _ past in let other : None ≡ Some i = rw test at found in cc)
    ]
