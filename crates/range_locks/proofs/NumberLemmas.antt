-- Ranges in the order of their numbers: the first that passes a test has the least number of those that do.
use Rattle.std.proofs.Common.{◌≡◌, ℕ, suc, ◌-◌, ◌<◌, ◌≤◌, ◌++◌, true, false, Bool, cond, List, [], ◌∷◌, length, get_or, map, refl, ap, sym, ◌∙◌, arith, inl, inr, ◌⊎◌, Option, Some, None, eq-eqb}
use Rattle.std.specs.Prelude.{filter, find, position, option_map, nat_lt, not, ◌==◌, ◌&&◌}
use Rattle.std.specs.List.{All, list_any}
use Rattle.std.specs.List.Sorted.{IsNonDecreasingBy, IsPartitionPoint}
use Rattle.std.proofs.lemmas.Bool.{and_left, and_parts, and_right, cases_Bool, cases_lt, eqb-true, false≢true, le-ltb, lt-ltb, ltb-false, ltb-true, ne_eqb}
use Rattle.std.proofs.lemmas.List.Elements.{All-cons, All-head, All-tail}
use Rattle.std.proofs.lemmas.List.Kept.{AllPairs-cons}
use Rattle.std.proofs.lemmas.List.Quantifiers.{all_pairs_push, position-Some}
use Rattle.fsa_types.specs.Ranges.{without_first}
use Rattle.fsa_types.specs.declared.reply.Blocker.TheVariants.{Lock as LockOf}
use Rattle.key_index.proofs.RowLaws.{without_first-other}
use Rattle.range_locks.specs.RangeTable.{AreRisingRanges, AreSameByPlace, begins_at, first_id, is_behind, is_range_of, is_range, least_from, lesser_number, lock_blocker, with_lesser}
use Rattle.range_locks.specs.declared.range.Range.{Range}
use Rattle.range_locks.proofs.FirstLemmas.{HasFirst-position, HasNone-position}

-- ---- numbers that rise

pub numbers-rise : (xs : List Range) → AreRisingRanges xs → IsNonDecreasingBy (λ range. range.id) xs
numbers-rise xs numbered i j d le within = elim (cases_lt i j) [
  | inl less ↦ (let below : (get_or xs i d).id < (get_or xs j d).id = numbered i j d less within in omega arith)
  | inr past ↦ (let same : i ≡ j = omega arith in rw same (omega arith))
]

pub numbered-push : (xs : List Range) (y : Range) → AreRisingRanges xs → ((d : Range) → 0 < length xs → (get_or xs (length xs - 1) d).id < y.id) → AreRisingRanges (xs ++ y ∷ [])
numbered-push xs y numbered behind = all_pairs_push (λ one other. one.id < other.id) xs y numbered (λ k d within. elim (cases_lt k (length xs - 1)) [
  | inl less ↦ (
      let first : (get_or xs k d).id < (get_or xs (length xs - 1) d).id = numbered k (length xs - 1) d less (omega arith) in
      let last : (get_or xs (length xs - 1) d).id < y.id = behind d (omega arith) in
      omega arith)
  | inr past ↦ (let same : k ≡ length xs - 1 = omega arith in rw same (behind d (omega arith)))
])

numbered-rest : (x : Range) (xs : List Range) → AreRisingRanges (x ∷ xs) → AreRisingRanges xs
numbered-rest x xs numbered i j d less within = numbered (suc i) (suc j) d (omega arith) (omega arith)

-- ---- what stands in a list

abbrev Has : List Range → Range → Type 0
Has [] y = ⊥
Has (x ∷ xs) y = (x ≡ y) ⊎ Has xs y

has-above : (x : Range) (xs : List Range) (y : Range) → All (λ (other : Range). x.id < other.id) xs → Has xs y → x.id < y.id
has-above x [] y above has = absurd has
has-above x (z ∷ xs) y above has = elim has [
  | inl is ↦ rw (← is) (above 0 z (omega arith))
  | inr more ↦ has-above x xs y (λ k d within. above (suc k) d (omega arith)) more
]

has-later : (x : Range) (xs : List Range) (y : Range) → AreRisingRanges (x ∷ xs) → Has xs y → x.id < y.id
has-later x xs y numbered has = has-above x xs y (λ k d within. numbered 0 (suc k) d (omega arith) (omega arith)) has

has-filter : (p : Range → Bool) (xs : List Range) (y : Range) → Has xs y → p y ≡ true → Has (filter p xs) y
has-filter p [] y has passes = absurd has
has-filter p (x ∷ xs) y has passes = elim has [
  | inl is ↦ (let here : p x ≡ true = rw is passes in rw here (inl is))
  | inr more ↦ elim (cases_Bool (p x)) [
    | inl first ↦ rw first (inr (has-filter p xs y more passes))
    | inr fails ↦ rw fails (has-filter p xs y more passes)
  ]
]

of-filter : (p : Range → Bool) (xs : List Range) (y : Range) → Has (filter p xs) y → Has xs y
of-filter p [] y has = absurd has
of-filter p (x ∷ xs) y has = elim (cases_Bool (p x)) [
  | inl first ↦ (let here : (x ≡ y) ⊎ Has (filter p xs) y = rw first at has in elim here [
    | inl is ↦ inl is
    | inr more ↦ inr (of-filter p xs y more)
  ])
  | inr fails ↦ (let here : Has (filter p xs) y = rw fails at has in inr (of-filter p xs y here))
]

has-same : (p : Range → Bool) (one other : List Range) (y : Range) → AreSameByPlace (filter p one) (filter p other) → p y ≡ true → Has one y → Has other y
has-same p one other y same passes has =
    let inside : Has (filter (begins_at y.at) (filter p one)) y = has-filter (begins_at y.at) (filter p one) y (has-filter p one y has passes) (eq-eqb y.at y.at refl) in
    let there : Has (filter (begins_at y.at) (filter p other)) y = rw (same y.at) at inside in
    of-filter p other y (of-filter (begins_at y.at) (filter p other) y there)

-- ---- the least number

abbrev Within : Option ℕ → ℕ → Type 0
Within None n = ⊥
Within (Some least) n = least ≤ n

abbrev From : (Range → Bool) → List Range → Option ℕ → Type 0
From p xs o = (y : Range) × (Has xs y × ((p y ≡ true) × (o ≡ Some y.id)))

module _ (p : Range → Bool) where
  lesser-old : (least : Option ℕ) (id n : ℕ) → Within least n → Within (Some (lesser_number least id)) n
  lesser-old None id n within = absurd within
  lesser-old (Some least) id n within = elim (cases_Bool (nat_lt id least)) [
    | inl less ↦ (let below = ltb-true id least less in rw less (omega arith))
    | inr past ↦ rw past within
  ]

  lesser-new : (least : Option ℕ) (id : ℕ) → Within (Some (lesser_number least id)) id
  lesser-new None id = omega arith
  lesser-new (Some least) id = elim (cases_Bool (nat_lt id least)) [
    | inl less ↦ rw less (omega arith)
    | inr past ↦ (let above = ltb-false id least past in rw past above)
  ]

  lesser-is : (least : Option ℕ) (id : ℕ) → (Some (lesser_number least id) ≡ least) ⊎ (Some (lesser_number least id) ≡ Some id)
  lesser-is None id = inr refl
  lesser-is (Some least) id = elim (cases_Bool (nat_lt id least)) [
    | inl less ↦ rw less (inr refl)
    | inr past ↦ rw past (inl refl)
  ]

  least-old : (xs : List Range) (least : Option ℕ) (n : ℕ) → Within least n → Within (least_from p least xs) n
  least-old [] least n within = within
  least-old (x ∷ xs) least n within = elim (cases_Bool (p x)) [
    | inl passes ↦ rw passes (least-old xs (Some (lesser_number least x.id)) n (lesser-old least x.id n within))
    | inr fails ↦ rw fails (least-old xs least n within)
  ]

  least-all : (xs : List Range) (least : Option ℕ) (y : Range) → Has xs y → p y ≡ true → Within (least_from p least xs) y.id
  least-all [] least y has passes = absurd has
  least-all (x ∷ xs) least y has passes = elim has [
    | inl is ↦ (
        let here : p x ≡ true = rw is passes in
        rw here (least-old xs (Some (lesser_number least x.id)) y.id (rw (← is) (lesser-new least x.id))))
    | inr more ↦ least-all xs (with_lesser p least x) y more passes
  ]

  least-is : (xs : List Range) (least : Option ℕ) → (least_from p least xs ≡ least) ⊎ From p xs (least_from p least xs)
  least-is [] least = inl refl
  least-is (x ∷ xs) least = elim (cases_Bool (p x)) [
    | inl passes ↦ rw passes (elim (least-is xs (Some (lesser_number least x.id))) [
      | inl same ↦ elim (lesser-is least x.id) [
        | inl old ↦ inl (same ∙ old)
        | inr new ↦ inr (x, (inl refl, (passes, same ∙ new)))
      ]
      | inr from ↦ inr (from.0, (inr from.1.0, from.1.1))
    ])
    | inr fails ↦ rw fails (elim (least-is xs least) [
      | inl same ↦ inl same
      | inr from ↦ inr (from.0, (inr from.1.0, from.1.1))
    ])
  ]

  -- where numbers rise, the least of those that pass is the first one's
  first-least : (xs : List Range) (o : Option ℕ) → AreRisingRanges xs → ((y : Range) → Has xs y → p y ≡ true → Within o y.id) → (o ≡ None) ⊎ From p xs o → o ≡ first_id p xs
  first-least [] o numbered all from = elim from [
    | inl none ↦ none
    | inr some ↦ absurd some.1.0
  ]
  first-least (x ∷ xs) o numbered all from = elim (cases_Bool (p x)) [
    | inl passes ↦ (
        let here : Within o x.id = all x (inl refl) passes in
        rw passes (elim from [
          | inl none ↦ (let wrong : Within None x.id = rw none at here in absurd wrong)
          | inr some ↦ (
              let is : o ≡ Some some.0.id = some.1.1.1 in
              let bound : some.0.id ≤ x.id = rw is at here in
              elim some.1.0 [
                | inl same ↦ is ∙ ap (λ (range : Range). Some range.id) (sym same)
                | inr more ↦ (let above = has-later x xs some.0 numbered more in absurd (omega arith))
              ])
        ]))
    | inr fails ↦ rw fails (first-least xs o (numbered-rest x xs numbered) (λ y has passes. all y (inr has) passes) (elim from [
      | inl none ↦ inl none
      | inr some ↦ elim some.1.0 [
        | inl same ↦ (let passes : p x ≡ true = rw same some.1.1.0 in absurd (false≢true (sym fails ∙ passes)))
        | inr more ↦ inr (some.0, (more, some.1.1))
      ]
    ]))
  ]

-- ---- the least number near, behind the last one

abbrev pub behind : (Range → Bool) → Option ℕ → Range → Bool
behind p last range = p range && is_behind last range.id

pub least-near : (p : Range → Bool) (near ranges : List Range) (last : Option ℕ) → AreRisingRanges ranges → AreSameByPlace (filter p near) (filter p ranges)
    → least_from (behind p last) None near ≡ first_id (behind p last) ranges
least-near p near ranges last numbered same =
    let first : (y : Range) → behind p last y ≡ true → p y ≡ true = λ y passes. (and_parts (p y) (is_behind last y.id) passes).0 in
    let from : (least_from (behind p last) None near ≡ None) ⊎ From (behind p last) ranges (least_from (behind p last) None near) = elim (least-is (behind p last) near None) [
      | inl none ↦ inl none
      | inr some ↦ inr (some.0, (has-same p near ranges some.0 same (first some.0 some.1.1.0) some.1.0, some.1.1))
    ] in
    first-least (behind p last) ranges (least_from (behind p last) None near) numbered
    (λ y has passes. least-all (behind p last) near None y (has-same p ranges near y (λ at. sym (same at)) (first y passes) has) passes) from

-- with no last one all that pass are behind
pub behind-none : (p : Range → Bool) (x : Range) → behind p None x ≡ p x
behind-none p x = elim (cases_Bool (p x)) [
  | inl passes ↦ rw passes refl
  | inr fails ↦ rw fails refl
]

pub first-agree : (p q : Range → Bool) → ((x : Range) → p x ≡ q x) → (xs : List Range) → first_id p xs ≡ first_id q xs
first-agree p q agree [] = refl
first-agree p q agree (x ∷ xs) = rw (agree x) (elim (cases_Bool (q x)) [
  | inl passes ↦ rw passes refl
  | inr fails ↦ rw fails (first-agree p q agree xs)
])

-- ---- one after another

pub none-behind : (p : Range → Bool) (xs : List Range) → first_id p xs ≡ None → filter p xs ≡ []
none-behind p [] none = refl
none-behind p (x ∷ xs) none = elim (cases_Bool (p x)) [
  | inl passes ↦ (let wrong : Some x.id ≡ None = rw passes at none in cc)
  | inr fails ↦ (let rest : first_id p xs ≡ None = rw fails at none in rw fails (none-behind p xs rest))
]

first-has : (p : Range → Bool) (xs : List Range) (id : ℕ) → first_id p xs ≡ Some id → (y : Range) × (Has xs y × (y.id ≡ id))
first-has p [] id some = absurd (cc)
first-has p (x ∷ xs) id some = elim (cases_Bool (p x)) [
  | inl passes ↦ (let is : Some x.id ≡ Some id = rw passes at some in let same : x.id ≡ id = cc in (x, (inl refl, same)))
  | inr fails ↦ (let rest : first_id p xs ≡ Some id = rw fails at some in let more = first-has p xs id rest in (more.0, (inr more.1.0, more.1.1)))
]

filter-agree : (p q : Range → Bool) (xs : List Range) → ((y : Range) → Has xs y → p y ≡ q y) → filter p xs ≡ filter q xs
filter-agree p q [] agree = refl
filter-agree p q (x ∷ xs) agree =
    let rest = filter-agree p q xs (λ y has. agree y (inr has)) in
    rw (agree x (inl refl)) (ap (λ (some : List Range). cond (q x) (x ∷ some) some) rest)

behind-more : (last : Option ℕ) (one other : ℕ) → is_behind last one ≡ true → one < other → is_behind last other ≡ true
behind-more None one other is less = refl
behind-more (Some last) one other is less = let below = ltb-true last one is in lt-ltb last other (omega arith)

pub next-behind : (p : Range → Bool) (last : Option ℕ) (xs : List Range) (id : ℕ) → AreRisingRanges xs → first_id (behind p last) xs ≡ Some id
    → map lock_blocker (filter (behind p last) xs) ≡ LockOf id ∷ map lock_blocker (filter (behind p (Some id)) xs)
next-behind p last [] id numbered some = absurd (cc)
next-behind p last (x ∷ xs) id numbered some = elim (cases_Bool (behind p last x)) [
  | inl passes ↦ (
      let is : Some x.id ≡ Some id = rw passes at some in
      let same : x.id ≡ id = cc in
      let parts = and_parts (p x) (is_behind last x.id) passes in
      let here : behind p (Some id) x ≡ false = and_right (p x) (nat_lt id x.id) (le-ltb id x.id (omega arith)) in
      let agree : filter (behind p last) xs ≡ filter (behind p (Some id)) xs = filter-agree (behind p last) (behind p (Some id)) xs (λ y has.
      let above = has-later x xs y numbered has in
      let old : is_behind last y.id ≡ true = behind-more last x.id y.id parts.1 above in
      let new : nat_lt id y.id ≡ true = lt-ltb id y.id (omega arith) in
      rw (old, new) refl) in
      rw (passes, here) (ap (λ (n : ℕ). LockOf n ∷ map lock_blocker (filter (behind p last) xs)) same ∙ ap (λ (rest : List Range). LockOf id ∷ map lock_blocker rest) agree))
  | inr fails ↦ (
      let rest : first_id (behind p last) xs ≡ Some id = rw fails at some in
      let more = first-has (behind p last) xs id rest in
      let above = has-later x xs more.0 numbered more.1.0 in
      let here : behind p (Some id) x ≡ false = and_right (p x) (nat_lt id x.id) (le-ltb id x.id (omega (arith, more.1.1))) in
      rw (fails, here) (next-behind p last xs id (numbered-rest x xs numbered) rest))
]

-- ---- the place of the first that passes, by its number

option_or_none : {X : Type 0} (o : Option X) → (o ≡ None) ⊎ ((x : X) × (o ≡ Some x))
option_or_none None = inl refl
option_or_none (Some x) = inr (x, refl)

pub place-of-number : (p : Range → Bool) (xs : List Range) (id i : ℕ) → AreRisingRanges xs → first_id p xs ≡ Some id
    → IsPartitionPoint (λ range. range.id < id) (λ range. id ≤ range.id) xs i → position p xs ≡ Some i
place-of-number p xs id i numbered first point = elim (option_or_none (find p xs)) [
  | inl none ↦ (let wrong : None ≡ Some id = rw none at first in cc)
  | inr some ↦ elim (option_or_none (position p xs)) [
    | inl none ↦ (let other = (HasNone-position p xs none).none in cc)
    | inr place ↦ (
        let d = some.0 in
        let j = place.0 in
        let found = (HasFirst-position p xs j d place.1).some in
        let is : Some (get_or xs j d).id ≡ Some id = ap (option_map (λ (range : Range). range.id)) (sym found) ∙ first in
        let same : (get_or xs j d).id ≡ id = cc in
        let within = (position-Some p xs j d place.1).0 in
        let here : j ≡ i = elim (cases_lt i j) [
          | inl less ↦ (let low = numbered i j d less within in let high = point.1 i d (omega arith) (omega arith) in absurd (omega arith))
          | inr past ↦ elim (cases_lt j i) [
            | inl under ↦ (let low = point.0 j d (omega arith) under in absurd (omega arith))
            | inr over ↦ omega arith
          ]
        ] in
        place.1 ∙ ap Some here)
  ]
]

-- ---- the first of a handle is the first of its range

is-itself : (r : Range) → is_range r.handle r.at r.count r ≡ true
is-itself r =
    let own : (r.handle == r.handle) ≡ true = eq-eqb r.handle r.handle refl in
    let here : (r.at == r.at) ≡ true = eq-eqb r.at r.at refl in
    let long : (r.count == r.count) ≡ true = eq-eqb r.count r.count refl in
    rw (own, here, long) refl

find-own : (handle : ℕ) (xs : List Range) (r : Range) → find (is_range_of handle) xs ≡ Some r → r.handle ≡ handle
find-own handle [] r found = absurd (cc)
find-own handle (x ∷ xs) r found = elim (cases_Bool (is_range_of handle x)) [
  | inl own ↦ (let is : Some x ≡ Some r = rw own at found in let same : x ≡ r = cc in rw (← same) (eqb-true x.handle handle own))
  | inr another ↦ (let rest : find (is_range_of handle) xs ≡ Some r = rw another at found in find-own handle xs r rest)
]

pub any-first : (handle : ℕ) (xs : List Range) (r : Range) → find (is_range_of handle) xs ≡ Some r
    → (find (is_range r.handle r.at r.count) xs ≡ Some r) × (without_first (is_range r.handle r.at r.count) xs ≡ without_first (is_range_of handle) xs)
any-first handle [] r found = absurd (cc)
any-first handle (x ∷ xs) r found = elim (cases_Bool (is_range_of handle x)) [
  | inl own ↦ (
      let is : Some x ≡ Some r = rw own at found in
      let same : x ≡ r = cc in
      let itself : is_range r.handle r.at r.count x ≡ true = rw same (is-itself r) in
      rw (itself, own) (ap Some same, refl))
  | inr another ↦ (
      let rest : find (is_range_of handle) xs ≡ Some r = rw another at found in
      let more = any-first handle xs r rest in
      let own : r.handle ≡ handle = find-own handle xs r rest in
      let other : is_range r.handle r.at r.count x ≡ false = rw own (and_left ((x.handle == handle) && (x.at == r.at)) (x.count == r.count) (and_left (x.handle == handle) (x.at == r.at) another)) in
      rw (other, another) (more.0, ap (λ (rest : List Range). x ∷ rest) more.1))
]

-- ---- no range of a handle

pub none-of : (handle : ℕ) (xs : List Range) → list_any (is_range_of handle) xs ≡ false → filter (λ range. not (is_range_of handle range)) xs ≡ xs
none-of handle [] none = refl
none-of handle (x ∷ xs) none = elim (cases_Bool (is_range_of handle x)) [
  | inl own ↦ (let wrong : true ≡ false = rw own at none in absurd (false≢true (sym wrong)))
  | inr another ↦ (let rest : list_any (is_range_of handle) xs ≡ false = rw another at none in rw another (ap (λ (rest : List Range). x ∷ rest) (none-of handle xs rest)))
]

-- ---- as many

length-without : (p : Range → Bool) (xs : List Range) (z : Range) (zs : List Range) → filter p xs ≡ z ∷ zs → length xs ≡ suc (length (without_first p xs))
length-without p [] z zs some = absurd (cc)
length-without p (x ∷ xs) z zs some = elim (cases_Bool (p x)) [
  | inl passes ↦ rw passes refl
  | inr fails ↦ (let rest : filter p xs ≡ z ∷ zs = rw fails at some in rw fails (ap suc (length-without p xs z zs rest)))
]

tail-without : (p : Range → Bool) (xs : List Range) (z : Range) (zs : List Range) → filter p xs ≡ z ∷ zs → filter p (without_first p xs) ≡ zs
tail-without p [] z zs some = absurd (cc)
tail-without p (x ∷ xs) z zs some = elim (cases_Bool (p x)) [
  | inl passes ↦ (let here : x ∷ filter p xs ≡ z ∷ zs = rw passes at some in let rest : filter p xs ≡ zs = cc in rw passes rest)
  | inr fails ↦ (let rest : filter p xs ≡ z ∷ zs = rw fails at some in simp fails (tail-without p xs z zs rest))
]

pub same-length : (one other : List Range) → AreSameByPlace one other → length one ≡ length other
same-length [] [] same = refl
same-length [] (y ∷ ys) same =
    let here : (y.at == y.at) ≡ true = eq-eqb y.at y.at refl in
    let wrong : [] ≡ y ∷ filter (begins_at y.at) ys = rw here at (same y.at) in
    absurd (cc)
same-length (x ∷ xs) ys same =
    let here : (x.at == x.at) ≡ true = eq-eqb x.at x.at refl in
    let some : x ∷ filter (begins_at x.at) xs ≡ filter (begins_at x.at) ys = rw here at (same x.at) in
    let rest : AreSameByPlace xs (without_first (begins_at x.at) ys) = λ at. elim (cases_Bool (x.at == at)) [
      | inl own ↦ (let is : x.at ≡ at = eqb-true x.at at own in rw (← is) (sym (tail-without (begins_at x.at) ys x (filter (begins_at x.at) xs) (sym some))))
      | inr apart ↦ (
          let never : (e : Range) → begins_at x.at e ≡ true → begins_at at e ≡ false
          = λ e is. ne_eqb e.at at (λ equal. false≢true (sym apart ∙ eq-eqb x.at at (sym (eqb-true e.at x.at is) ∙ equal))) in
          let skipped : filter (begins_at at) xs ≡ filter (begins_at at) ys = rw apart at (same at) in
          skipped ∙ sym (without_first-other (begins_at x.at) (begins_at at) never ys))
    ] in
    ap suc (same-length xs (without_first (begins_at x.at) ys) rest) ∙ sym (length-without (begins_at x.at) ys x (filter (begins_at x.at) xs) (sym some))

-- ---- all but the first that passes

pub none-first : (p : Range → Bool) (xs : List Range) → find p xs ≡ None → without_first p xs ≡ xs
none-first p [] none = refl
none-first p (x ∷ xs) none = elim (cases_Bool (p x)) [
  | inl passes ↦ (let wrong : Some x ≡ None = rw passes at none in absurd (cc))
  | inr fails ↦ (let rest : find p xs ≡ None = rw fails at none in rw fails (ap (λ (rest : List Range). x ∷ rest) (none-first p xs rest)))
]

all-without : (p : Range → Bool) (P : Range → Type 0) (xs : List Range) → All P xs → All P (without_first p xs)
all-without p P [] all = all
all-without p P (x ∷ xs) all = elim (cases_Bool (p x)) [
  | inl passes ↦ rw passes (All-tail P x xs all)
  | inr fails ↦ rw fails (All-cons P x (without_first p xs) (All-head P x xs all) (all-without p P xs (All-tail P x xs all)))
]

pub numbered-without : (p : Range → Bool) (xs : List Range) → AreRisingRanges xs → AreRisingRanges (without_first p xs)
numbered-without p [] numbered = numbered
numbered-without p (x ∷ xs) numbered = elim (cases_Bool (p x)) [
  | inl passes ↦ rw passes (numbered-rest x xs numbered)
  | inr fails ↦ rw fails (AllPairs-cons (λ one other. one.id < other.id) x (without_first p xs)
      (all-without p (λ (other : Range). x.id < other.id) xs (λ k d within. numbered 0 (suc k) d (omega arith) (omega arith)))
      (numbered-without p xs (numbered-rest x xs numbered)))
]
