-- Whether some item of a list passes a test.
use Rattle.std.proofs.Common.{◌≡◌, Bool, true, false, not, List, [], ◌∷◌, refl, ap, sym, ◌∙◌, inl, inr}
use Rattle.std.specs.List.{filter, list_any}
use Rattle.std.specs.Prelude.{◌&&◌, ◌||◌}
use Rattle.std.proofs.lemmas.Bool.{cases_Bool, false_from_ne_true}
use Rattle.fsa_model.proofs.CountLaws.{and_left, and_right}
use Rattle.fsa_model.proofs.RowLaws.{any-filter, any-weaker, or_right}
use Rattle.fsa_model.proofs.WaitLaws.{or_none}

pub and_none : (a b : Bool) → b ≡ false → (a && b) ≡ false
and_none true b isnt = isnt
and_none false b isnt = refl

pub and_true : (b : Bool) → b ≡ (b && true)
and_true true = refl
and_true false = refl

pub both_ends : (a b c : Bool) → ((a && b) && c) ≡ true → (a && c) ≡ true
both_ends true true c all = all
both_ends true false c all = cc
both_ends false b c all = cc

-- the other way about, and said by what isn't so
pub and_twice : (a b : Bool) → (a && b) ≡ true → (b && not (not a)) ≡ true
and_twice true b both = rw both refl
and_twice false b both = cc

-- where none passes
pub any-never : {X : Type 0} (p : X → Bool) (xs : List X) → ((x : X) → p x ≡ false) → list_any p xs ≡ false
any-never p [] never = refl
any-never p (x ∷ xs) never = rw (never x) (any-never p xs never)

-- of what a filter keeps
pub any-filter_and : {X : Type 0} (p keep : X → Bool) (xs : List X) → list_any p (filter keep xs) ≡ list_any (λ x. p x && keep x) xs
any-filter_and p keep [] = refl
any-filter_and p keep (x ∷ xs) =
    let rest = any-filter_and p keep xs in
    elim (cases_Bool (keep x)) [
      | inl kept ↦ rw kept (ap (λ b. p x || b) rest ∙ rw (← and_true (p x)) refl)
      | inr gone ↦ rw gone (rest ∙ rw (and_none (p x) false refl) refl)
    ]

-- what passes, and isn't such a one, passes another test
pub any-where : {X : Type 0} (p bad q : X → Bool) (xs : List X) → ((x : X) → p x ≡ true → bad x ≡ false → q x ≡ true) → list_any bad xs ≡ false → list_any p xs ≡ true → list_any q xs ≡ true
any-where p bad q [] so none some = some
any-where p bad q (x ∷ xs) so none some =
    let parts = or_none (bad x) (list_any bad xs) none in
    elim (cases_Bool (p x)) [
      | inl passes ↦ rw (so x passes parts.0) refl
      | inr fails ↦ or_right (q x) (list_any q xs) (any-where p bad q xs so parts.1 (rw fails at some))
    ]

-- and is kept by a filter
pub any-kept : {X : Type 0} (p bad keep : X → Bool) (xs : List X) → ((x : X) → p x ≡ true → bad x ≡ false → keep x ≡ true) → list_any bad xs ≡ false → list_any p xs ≡ true → list_any p (filter keep xs) ≡ true
any-kept p bad keep xs so none some =
    any-weaker (λ x. p x && keep x) p (filter keep xs) (λ x both. and_left (p x) (keep x) both)
    (any-filter (λ x. p x && keep x) keep xs (λ x both. and_right (p x) (keep x) both)
    (any-where p bad (λ x. p x && keep x) xs (λ x passes isnt. rw (passes, so x passes isnt) refl) none some))

-- where no item passes, none passes what is stronger
pub none-stronger : {X : Type 0} (p q : X → Bool) (xs : List X) → ((x : X) → q x ≡ true → p x ≡ true) → list_any p xs ≡ false → list_any q xs ≡ false
none-stronger p q xs weaker none = false_from_ne_true (list_any q xs) (λ some. (let impossible : true ≡ false = sym (any-weaker q p xs weaker some) ∙ none in cc))
