-- Where the heads of two names differ, the names stand in the order of the heads: so the place of a name is found among
-- the heads.
use Rattle.std.proofs.Common.{◌≡◌, ℕ, zero, suc, ◌+◌, ◌*◌, ◌<◌, ◌≤◌, Bool, true, false, List, [], ◌∷◌, length, get_or, add-one, refl, ap, sym, arith, inl, inr, Option, Some, None, Err, ◌∙◌, min}
use Rattle.std.specs.Prelude.{◌&&◌, map, nat_lt, slice_get}
use Rattle.std.specs.List.Sorted.{IsBinarySearchResult}
use Rattle.std.specs.Option.{option_map, option_map_or}
use Rattle.std.specs.Cmp.{nat_cmp_is}
use Rattle.std.specs.Ordering.{ordering_then, is_lt, nat_cmp}
use Rattle.std.specs.declared.cmp.Ordering.TheVariants.{Less, Equal}
use Rattle.std.proofs.lemmas.Bool.{cases_Bool, cases_eq, cases_lt, false≢true, lt-ltb, le-ltb}
use Rattle.std.proofs.lemmas.List.{get_or-map, length-map}
use Rattle.std.proofs.lemmas.List.Sorted.{searched}
use Rattle.std.proofs.lemmas.Option.{slice_get-map}
use Rattle.fsa_types.specs.CaseTable.{up, upcased}
use Rattle.fsa_model.specs.Volume.{Link}
use Rattle.link_index.specs.Keyed.{AreInKeyOrder, IsKeyPlace, cmp_keys}
use Rattle.link_index.proofs.KeyLaws.{less-back}
use Rattle.link_index.specs.Heads.{head_digit, head_of, is_exact, link_head, units_packed, unit_at}
use Rattle.link_index.specs.Beginnings.{name_key}
use Rattle.link_index.specs.Directory.{link_numbered, links_at}
use Rattle.link_index.proofs.NameLemmas.{Links}

-- ---- units

-- a unit of a name, upcased
unit-up : (table : List (ℕ × ℕ)) (o : Option ℕ) → option_map_or (λ (unit : ℕ). unit) (option_map (up table) o) 0 ≡ option_map_or (up table) o 0
unit-up table None = refl
unit-up table (Some unit) = refl

pub unit-upcased : (table : List (ℕ × ℕ)) (units : List ℕ) (place : ℕ) → option_map_or (up table) (slice_get units place) 0 ≡ unit_at (upcased table units) place
unit-upcased table units place = sym (ap (λ o. option_map_or (λ (unit : ℕ). unit) o 0) (slice_get-map (up table) units place) ∙ unit-up table (slice_get units place))

-- the first that differs tells the order
first-unit : (k : ℕ) (xs ys : List ℕ) → ((j : ℕ) → j < k → unit_at xs j ≡ unit_at ys j) → unit_at xs k < unit_at ys k → cmp_keys xs ys ≡ Less
first-unit k [] [] same less = absurd (omega arith)
first-unit k [] (y ∷ ys) same less = refl
first-unit zero (x ∷ xs) [] same less = absurd (omega arith)
first-unit (suc k) (x ∷ xs) [] same less = absurd (omega arith)
first-unit zero (x ∷ xs) (y ∷ ys) same less = ap (λ o. ordering_then o (cmp_keys xs ys)) (sym (nat_cmp_is x y Less less))
first-unit (suc k) (x ∷ xs) (y ∷ ys) same less =
    let here : x ≡ y = same 0 (omega arith) in
    ap (λ o. ordering_then o (cmp_keys xs ys)) (sym (nat_cmp_is x y Equal here)) ∙ first-unit k xs ys (λ j below. same (suc j) (omega arith)) less

-- ---- heads

pub digit-most : (exact : Bool) (unit : ℕ) → head_digit exact unit ≤ 255
digit-most true unit = omega arith
digit-most false unit = omega arith

-- how wide they are
wide : ℕ → ℕ
wide zero = 1
wide (suc k) = wide k * 256

wide-rises : (k n : ℕ) → k ≤ n → wide k ≤ wide n
unfolding wide
wide-rises k zero within = let none : k ≡ 0 = omega arith in rw none (omega arith)
wide-rises k (suc n) within = elim (cases_lt k (suc n)) [
  | inl below ↦ (let less : wide k ≤ wide n = wide-rises k n (omega arith) in omega arith)
  | inr above ↦ (let same : k ≡ suc n = omega arith in rw same (omega arith))
]

wide-last : wide 15 ≡ 1329227995784915872903807060280344576
unfolding wide
wide-last = refl

module _ (units : List ℕ) where
  packed-wide : (k : ℕ) → units_packed units k < wide k
  unfolding units_packed wide
  packed-wide zero = omega arith
  packed-wide (suc k) =
      let less : units_packed units k < wide k = packed-wide k in
      let most : head_digit (is_exact units k) (unit_at units k) ≤ 255 = digit-most (is_exact units k) (unit_at units k) in
      omega arith

  pub packed-fits : (k : ℕ) → k < 16 → units_packed units k < 1329227995784915872903807060280344576
  packed-fits k within =
      let less : units_packed units k < wide k = packed-wide k in
      let most : wide k ≤ wide 15 = wide-rises k 15 (omega arith) in
      let last : wide 15 ≡ 1329227995784915872903807060280344576 = wide-last in
      omega arith

  pub packed-first : units_packed units 0 ≡ 0
  unfolding units_packed
  packed-first = refl

  pub exact-first : is_exact units 0 ≡ true
  unfolding is_exact
  exact-first = refl

  pub packed-next : (k : ℕ) → units_packed units (k + 1) ≡ units_packed units k * 256 + head_digit (is_exact units k) (unit_at units k)
  unfolding units_packed
  packed-next k = ap (units_packed units) (add-one k)

  pub exact-next : (k : ℕ) → is_exact units (k + 1) ≡ (is_exact units k && nat_lt (unit_at units k) 255)
  unfolding is_exact
  exact-next k = ap (is_exact units) (add-one k)

module _ (xs ys : List ℕ) where
  -- what heads that are the same tell
  record Alike (k : ℕ) : Type 0 where
    exact : is_exact xs k ≡ is_exact ys k
    units : is_exact xs k ≡ true → (j : ℕ) → j < k → unit_at xs j ≡ unit_at ys j

  alike-first : Alike 0
  unfolding is_exact
  alike-first = record { exact = refl; units = λ _ j below. absurd (omega arith) }

  same_units : (k : ℕ) → ((j : ℕ) → j < k → unit_at xs j ≡ unit_at ys j) → unit_at xs k ≡ unit_at ys k → (j : ℕ) → j < suc k → unit_at xs j ≡ unit_at ys j
  same_units k before here j below = elim (cases_lt j k) [
    | inl less ↦ before j less
    | inr more ↦ (let at : j ≡ k = omega arith in rw at here)
  ]

  alike-next : (k : ℕ) → Alike k → head_digit (is_exact xs k) (unit_at xs k) ≡ head_digit (is_exact ys k) (unit_at ys k) → Alike (suc k)
  unfolding is_exact
  alike-next k alike digits = elim (cases_Bool (is_exact xs k)) [
    | inr inexact ↦ (let also : is_exact ys k ≡ false = sym alike.exact ∙ inexact in
        record { exact = rw (inexact, also) refl; units = λ yes. absurd (false≢true (rw inexact at yes)) })
    | inl is ↦ (let also : is_exact ys k ≡ true = sym alike.exact ∙ is in
        let same : min (unit_at xs k) 255 ≡ min (unit_at ys k) 255 = rw (is, also) at digits in
        elim (cases_lt (unit_at xs k) 255) [
          | inl low ↦ (let too : unit_at ys k < 255 = omega arith in
              let here : unit_at xs k ≡ unit_at ys k = omega arith in
              record { exact = rw (is, also) (lt-ltb (unit_at xs k) 255 low ∙ sym (lt-ltb (unit_at ys k) 255 too)); units = λ _. same_units k (alike.units is) here })
          | inr high ↦ (let too : 255 ≤ unit_at ys k = omega arith in
              let no : nat_lt (unit_at xs k) 255 ≡ false = le-ltb (unit_at xs k) 255 high in
              record { exact = rw (is, also) (no ∙ sym (le-ltb (unit_at ys k) 255 too)); units = λ yes. absurd (false≢true (rw (is, no) at yes)) })
        ])
  ]

  alike-heads : (k : ℕ) → units_packed xs k ≡ units_packed ys k → Alike k
  unfolding units_packed
  alike-heads zero same = alike-first
  alike-heads (suc k) same =
      let one : head_digit (is_exact xs k) (unit_at xs k) ≤ 255 = digit-most (is_exact xs k) (unit_at xs k) in
      let two : head_digit (is_exact ys k) (unit_at ys k) ≤ 255 = digit-most (is_exact ys k) (unit_at ys k) in
      alike-next k (alike-heads k (omega (arith, same, one, two))) (omega (arith, same, one, two))

  less-digit : (k : ℕ) → Alike k → head_digit (is_exact xs k) (unit_at xs k) < head_digit (is_exact ys k) (unit_at ys k) → cmp_keys xs ys ≡ Less
  less-digit k alike less = elim (cases_Bool (is_exact xs k)) [
    | inr inexact ↦ (let also : is_exact ys k ≡ false = sym alike.exact ∙ inexact in
        let none : 0 < 0 = rw (inexact, also) at less in absurd (omega arith))
    | inl is ↦ (let also : is_exact ys k ≡ true = sym alike.exact ∙ is in
        let most : min (unit_at xs k) 255 < min (unit_at ys k) 255 = rw (is, also) at less in
        let units : unit_at xs k < unit_at ys k = omega arith in
        first-unit k xs ys (alike.units is) units)
  ]

  -- the units of the lesser head are less
  less-heads : (k : ℕ) → units_packed xs k < units_packed ys k → cmp_keys xs ys ≡ Less
  unfolding units_packed
  less-heads zero less = absurd (omega arith)
  less-heads (suc k) less = elim (cases_lt (units_packed xs k) (units_packed ys k)) [
    | inl before ↦ less-heads k before
    | inr later ↦ (
        let one : head_digit (is_exact xs k) (unit_at xs k) ≤ 255 = digit-most (is_exact xs k) (unit_at xs k) in
        let two : head_digit (is_exact ys k) (unit_at ys k) ≤ 255 = digit-most (is_exact ys k) (unit_at ys k) in
        less-digit k (alike-heads k (omega (arith, less, later, one, two))) (omega (arith, less, later, one, two)))
  ]

pub name-less : (table : List (ℕ × ℕ)) (name units : List ℕ) → head_of table name < head_of table units → cmp_keys (upcased table name) (upcased table units) ≡ Less
name-less table name units less = less-heads (upcased table name) (upcased table units) 16 less

-- ---- the place of a name among heads

-- of two names in order the heads are so too
head-rises : (table : List (ℕ × ℕ)) (a b : ℕ × Link) → cmp_keys (name_key table a) (name_key table b) ≡ Less → link_head table a ≤ link_head table b
head-rises table a b less = elim (cases_lt (link_head table b) (link_head table a)) [
  | inl more ↦ (
      let back : cmp_keys (name_key table b) (name_key table a) ≡ Less = name-less table b.1.name a.1.name more in
      absurd (false≢true (ap is_lt (sym (less-back (name_key table b) (name_key table a) back) ∙ less))))
  | inr fine ↦ fine
]

module _ (table : List (ℕ × ℕ)) (items : Links) (ordered : AreInKeyOrder (name_key table) items) where
  heads-rise : (i j : ℕ) → i ≤ j → j < length (map (link_head table) items) → get_or (map (link_head table) items) i 0 ≤ get_or (map (link_head table) items) j 0
  heads-rise i j order within = elim (cases_eq i j) [
    | inl same ↦ rw same (omega arith)
    | inr other ↦ (
        let e : ℕ × Link = (0, record { parent = 0; name = []; file = 0; deleted = false }) in
        let inside : j < length items = rw (length-map items (link_head table)) at within in
        let one : get_or (map (link_head table) items) i 0 ≡ link_head table (get_or items i e) = get_or-map (link_head table) items i e 0 (omega arith) in
        let two : get_or (map (link_head table) items) j 0 ≡ link_head table (get_or items j e) = get_or-map (link_head table) items j e 0 inside in
        let rise : link_head table (get_or items i e) ≤ link_head table (get_or items j e) = head-rises table (get_or items i e) (get_or items j e) (ordered i j e (omega arith) inside) in
        omega (arith, one, two, rise))
  ]

  module _ (name : List ℕ) where
    -- no head is that of the name
    pub place-new : (heads : List ℕ) (i : ℕ) → heads ≡ map (link_head table) items → IsBinarySearchResult (λ head. nat_cmp head (head_of table name)) heads (Err i)
        → IsKeyPlace (name_key table) items (upcased table name) (Err i)
    place-new heads i are found =
        let wanted : ℕ = head_of table name in
        let long : length (map (link_head table) items) ≡ length items = length-map items (link_head table) in
        let place = searched (map (link_head table) items) wanted (Err i) (rw are at found) heads-rise in (
          omega (arith, long, place.0),
          (λ k d from below.
              let here : get_or (map (link_head table) items) k 0 ≡ link_head table (get_or items k d) = get_or-map (link_head table) items k d 0 (omega (arith, long, place.0, below)) in
              let less : get_or (map (link_head table) items) k 0 < wanted = place.1 k below in
              name-less table (get_or items k d).1.name name (omega (arith, here, less))),
          λ k d from within.
              let here : get_or (map (link_head table) items) k 0 ≡ link_head table (get_or items k d) = get_or-map (link_head table) items k d 0 within in
              let more : wanted < get_or (map (link_head table) items) k 0 = place.2 k from (omega (arith, long, within)) in
              less-back (upcased table name) (name_key table (get_or items k d)) (name-less table name (get_or items k d).1.name (omega (arith, here, more))),
        )

pub heads-many : (table : List (ℕ × ℕ)) (rows : Links) (numbers heads : List ℕ) → heads ≡ map (link_head table) (links_at rows numbers) → length heads ≡ length numbers
heads-many table rows numbers heads are = ap length are ∙ length-map (links_at rows numbers) (link_head table) ∙ length-map numbers (link_numbered rows)
