-- Lists whose items belong together, as items are taken from one and put to the other.
use Rattle.std.proofs.Common.{◌≡◌, ◌≢◌, ℕ, zero, suc, ◌+◌, ◌-◌, ◌<◌, List, [], ◌∷◌, ◌++◌, length, set, refl, ap, sym, ◌∙◌, subst, arith, length-append, slice_get, None, Some}
use Rattle.history_lock.proofs.Places.{each_given, given_longer, given_end, given_below}
use Rattle.client_race.specs.Lists.{Pointwise, Faces, Leads}

module _ {A : Type 0} where
  same_at : (l : List A) (i : ℕ) (a b : A) → slice_get l i ≡ Some a → slice_get l i ≡ Some b → a ≡ b
  same_at l i a b e f = let g : Some a ≡ Some b = sym e ∙ f in cc

  pub some_at : (l : List A) (i : ℕ) → i < length l → (x : A) × (slice_get l i ≡ Some x)
  some_at [] i h = absurd (omega arith)
  some_at (x ∷ xs) zero h = (x, refl)
  some_at (x ∷ xs) (suc i) h = some_at xs i (omega arith)

  -- the list that an item was taken from still leads
  pub leads_less : (l m whole : List A) (a : A) → l ≡ m ++ a ∷ [] → Leads l whole → Leads m whole
  leads_less l m whole a is leads i x at = leads i x (ap (λ (z : List A). slice_get z i) is ∙ given_longer m (a ∷ []) i x at)

  pub leads_last : (l m whole : List A) (a : A) → l ≡ m ++ a ∷ [] → Leads l whole → slice_get whole (length m) ≡ Some a
  leads_last l m whole a is leads = leads (length m) a (given_end m l a (length m) is refl)

  -- one item is written
  pub each_set : (P : ℕ → A → Type 0) (l : List A) (i : ℕ) (w : A) → (i < length l → P i w) → ((j : ℕ) (u : A) → j ≢ i → slice_get l j ≡ Some u → P j u) → (j : ℕ) (u : A) → slice_get (set l i w) j ≡ Some u → P j u
  each_set P [] i w mine others j u e = (let f : None ≡ Some u = e in cc)
  each_set P (x ∷ xs) zero w mine others zero u e = let same : w ≡ u = (let f : Some w ≡ Some u = e in cc) in subst (P 0) same (mine (omega arith))
  each_set P (x ∷ xs) zero w mine others (suc j) u e = others (suc j) u (λ q. absurd (omega arith)) e
  each_set P (x ∷ xs) (suc i) w mine others zero u e = others zero u (λ q. absurd (omega arith)) e
  each_set P (x ∷ xs) (suc i) w mine others (suc j) u e = each_set (λ k. P (suc k)) xs i w (λ h. mine (omega arith)) (λ k z ne at. others (suc k) z (λ q. ne (omega arith)) at) j u e

-- one item is taken from the end of the first list, and what belongs to it is put to the end of the second
pub faces_more : {A B : Type 0} (P : A → B → Type 0) (whole l m : List A) (a : A) (ys zs : List B) (b : B) → l ≡ m ++ a ∷ [] → Leads l whole → zs ≡ ys ++ b ∷ [] → length l + length ys ≡ length whole
    → Faces P whole ys → P a b → Faces P whole zs
faces_more {A} {B} P whole l m a ys zs b is leads put count faces new i j x y facing at there =
    let size : length l ≡ length m + 1 = ap length is ∙ length-append m (a ∷ []) in
    each_given (λ (k : ℕ) (z : B). (n : ℕ) (w : A) → n + k + 1 ≡ length whole → slice_get whole n ≡ Some w → P w z) ys zs b put
    (λ k z e n w f g. faces n k w z f g e)
    (λ n w f g. let same : n ≡ length m = omega arith in subst (λ (u : A). P u b) (same_at whole n a w (ap (slice_get whole) same ∙ leads_last l m whole a is leads) g) new)
    j y there i x facing at

pub beside_then : {A B C : Type 0} (P : A → B → Type 0) (Q : B → C → Type 0) (R : A → C → Type 0) (xs : List A) (ys : List B) (zs : List C) → length ys ≡ length zs
    → ((x : A) (y : B) (z : C) → P x y → Q y z → R x z) → Pointwise P xs ys → Pointwise Q ys zs → Pointwise R xs zs
beside_then P Q R xs ys zs size both first second i x z at there =
    let y = some_at ys i (let h = given_below zs i z there in omega arith) in both x y.0 z (first i x y.0 at y.1) (second i y.0 z y.1 there)

-- what faces, moves and faces again stands beside
pub faces_back : {A B C : Type 0} (P : A → B → Type 0) (M : B → B → Type 0) (G : B → C → Type 0) (R : A → C → Type 0) (xs : List A) (ys zs : List B) (ws : List C) → length ys ≡ length xs → length zs ≡ length xs
    → ((x : A) (y z : B) (w : C) → P x y → M y z → G z w → R x w) → Faces P xs ys → Pointwise M ys zs → Faces G zs ws → Pointwise R xs ws
faces_back P M G R xs ys zs ws size more all first moves last i x w at there =
    let h = given_below xs i x at in
    let j : ℕ = length xs - (i + 1) in
    let y = some_at ys j (omega arith) in
    let z = some_at zs j (omega arith) in
    all x y.0 z.0 w (first i j x y.0 (omega arith) at y.1) (moves j y.0 z.0 y.1 z.1) (last j i z.0 w (omega arith) z.1 there)
