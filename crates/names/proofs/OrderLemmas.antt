-- The order of lists of numbers, from the first that differ.
use Rattle.std.proofs.Common.{◌≡◌, ℕ, ◌<◌, ◌≤◌, true, List, [], ◌∷◌, ◌++◌, nat_eq, nat_cmp, refl, arith, eqb}
use Rattle.std.specs.declared.cmp.Ordering.TheVariants.{Less, Equal}
use Rattle.std.specs.Cmp.Lexicographic.{pointwise, slice_cmp}
use Rattle.std.proofs.lemmas.Bool.{false≢true, and_parts, eqb-true, lt-ltb, le-ltb}

nat_cmp-equal : (x y : ℕ) → eqb x y ≡ true → nat_cmp x y ≡ Equal
nat_cmp-equal x y same =
    let level : y ≤ x = (let e : x ≡ y = eqb-true x y same in omega arith) in
    rw (le-ltb x y level, same) refl

pub slice_cmp-units : (xs ys : List ℕ) (x y : ℕ) (left right : List ℕ) → pointwise nat_eq xs ys ≡ true → x < y
    → slice_cmp nat_cmp (xs ++ x ∷ left) (ys ++ y ∷ right) ≡ Less
slice_cmp-units [] [] x y left right same below = rw (lt-ltb x y below) refl
slice_cmp-units [] (z ∷ ys) x y left right same below = absurd (false≢true same)
slice_cmp-units (z ∷ xs) [] x y left right same below = absurd (false≢true same)
slice_cmp-units (z ∷ xs) (w ∷ ys) x y left right same below =
    let parts = and_parts (eqb z w) (pointwise nat_eq xs ys) same in
    rw (nat_cmp-equal z w parts.0) (slice_cmp-units xs ys x y left right parts.1 below)

pub slice_cmp-prefix : (xs ys : List ℕ) (y : ℕ) (more : List ℕ) → pointwise nat_eq xs ys ≡ true → slice_cmp nat_cmp xs (ys ++ y ∷ more) ≡ Less
slice_cmp-prefix [] [] y more same = refl
slice_cmp-prefix [] (z ∷ ys) y more same = refl
slice_cmp-prefix (z ∷ xs) [] y more same = absurd (false≢true same)
slice_cmp-prefix (z ∷ xs) (w ∷ ys) y more same =
    let parts = and_parts (eqb z w) (pointwise nat_eq xs ys) same in
    rw (nat_cmp-equal z w parts.0) (slice_cmp-prefix xs ys y more parts.1)
