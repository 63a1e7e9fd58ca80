-- Items in the order of their keys: what the place of a key tells of them, and that it matters to nothing in what
-- order they come.
use Rattle.std.proofs.Common.{◌≡◌, ℕ, suc, ◌<◌, ◌≤◌, Bool, true, false, not, List, [], ◌∷◌, ◌++◌, length, get_or, refl, ap, sym, arith, inl, inr, None, Ok, Err, Result, ◌∙◌}
use Rattle.std.specs.Prelude.{if◌then◌else◌}
use Rattle.std.specs.List.{All, AllPairs, HoldsAt, filter, find, insert, remove, slice_get}
use Rattle.std.specs.List.Sorted.{IsBinarySearchResult, IsNonDecreasingBy, IsSearchInRange}
use Rattle.std.specs.Ordering.{ordering_index, ordering_reverse, is_lt, is_eq}
use Rattle.std.specs.declared.cmp.Ordering.{Ordering}
use Rattle.std.specs.declared.cmp.Ordering.TheVariants.{Less, Equal, Greater}
use Rattle.std.proofs.lemmas.Bool.{cases_Bool, cases_eq, cases_lt, false≢true}
use Rattle.std.proofs.lemmas.Cmp.{alike_right, nat_list_cmp_total}
use Rattle.std.proofs.lemmas.List.Elements.{All-cons, All-filter}
use Rattle.std.proofs.lemmas.List.Kept.{AllPairs-cons}
use Rattle.fsa_types.specs.Sorting.{put_in_order, in_order}
use Rattle.link_index.specs.Keyed.{AreInKeyOrder, IsKeyPlace, KeysDiffer, cmp_keys, is_key_before}
use Rattle.link_index.proofs.EntryLaws.{find-none, find-here, insert-here, filter-all, remove-here}

-- ---- two keys

pub less-back : (a b : List ℕ) → cmp_keys a b ≡ Less → cmp_keys b a ≡ Greater
less-back a b less = nat_list_cmp_total.antisymm b a ∙ ap ordering_reverse less

pub greater-back : (a b : List ℕ) → cmp_keys a b ≡ Greater → cmp_keys b a ≡ Less
greater-back a b greater = nat_list_cmp_total.antisymm b a ∙ ap ordering_reverse greater

pub equal-back : (a b : List ℕ) → cmp_keys a b ≡ Equal → cmp_keys b a ≡ Equal
equal-back a b same = nat_list_cmp_total.antisymm b a ∙ ap ordering_reverse same

-- how two keys that differ stand to each other
data Apart (a b : List ℕ) : Type 0 where
  First : cmp_keys a b ≡ Less → cmp_keys b a ≡ Greater → Apart a b
  Second : cmp_keys a b ≡ Greater → cmp_keys b a ≡ Less → Apart a b

apart : (a b : List ℕ) → is_eq (cmp_keys a b) ≡ false → Apart a b
apart a b differ = go (cmp_keys a b) refl
  where
    go : (o : Ordering) → cmp_keys a b ≡ o → Apart a b
    go Less is = First is (less-back a b is)
    go Equal is = absurd (false≢true (sym differ ∙ ap is_eq is))
    go Greater is = Second is (greater-back a b is)

less_of : (a b : List ℕ) → is_lt (cmp_keys a b) ≡ true → cmp_keys a b ≡ Less
less_of a b less = go (cmp_keys a b) refl less
  where
    go : (o : Ordering) → cmp_keys a b ≡ o → is_lt o ≡ true → cmp_keys a b ≡ Less
    go Less is yes_less = is
    go Equal is no_less = absurd (false≢true no_less)
    go Greater is no_less = absurd (false≢true no_less)

module _ {X : Type 0} (key : X → List ℕ) where
  -- ---- the search

  module _ (items : List X) (wanted : List ℕ) (ordered : AreInKeyOrder key items) where
    -- of two keys in order, the comparison with a third falls from neither to the other
    rises : (a b : List ℕ) (o : Ordering) → cmp_keys a b ≡ Less → cmp_keys b wanted ≡ o → ordering_index (cmp_keys a wanted) ≤ ordering_index o
    rises a b Less less is = let e : cmp_keys a wanted ≡ Less = nat_list_cmp_total.trans a b wanted less is in rw e (omega arith)
    rises a b Equal less is = let e : cmp_keys a wanted ≡ Less = sym (alike_right nat_list_cmp_total b wanted a is) ∙ less in rw e (omega arith)
    rises a b Greater less is = at_most (cmp_keys a wanted)
      where
        at_most : (o : Ordering) → ordering_index o ≤ 2
        at_most Less = omega arith
        at_most Equal = omega arith
        at_most Greater = omega arith

    comparisons_rise : IsNonDecreasingBy (λ e. ordering_index (cmp_keys (key e) wanted)) items
    comparisons_rise i j d le within = elim (cases_eq i j) [
      | inl same ↦ rw same (omega arith)
      | inr other ↦ rises (key (get_or items i d)) (key (get_or items j d)) (cmp_keys (key (get_or items j d)) wanted) (ordered i j d (omega arith) within) refl
    ]

    pub place-searched : (r : Result ℕ ℕ) → IsSearchInRange r (length items) → IsBinarySearchResult (λ e. cmp_keys (key e) wanted) items r → IsKeyPlace key items wanted r
    place-searched (Ok i) within equal = (
      within,
      λ k d from below. sym (alike_right nat_list_cmp_total (key (get_or items i d)) wanted (key (get_or items k d)) (equal d)) ∙ ordered k i d below within,
      equal,
      λ k d above inside. sym (alike_right nat_list_cmp_total (key (get_or items i d)) wanted (key (get_or items k d)) (equal d)) ∙ less-back (key (get_or items i d)) (key (get_or items k d)) (ordered i k d (omega arith) inside),
    )
    place-searched (Err i) within parted = let parts = parted comparisons_rise in (within, parts.0, parts.1)

  -- ---- what the place tells

  pub found-here : (items : List X) (wanted : List ℕ) (i : ℕ) → IsKeyPlace key items wanted (Ok i) → slice_get items i ≡ find (λ e. is_eq (cmp_keys (key e) wanted)) items
  found-here items wanted i place =
      find-here (λ e. is_eq (cmp_keys (key e) wanted)) items i (λ k d from below. ap is_eq (place.1 k d from below)) (λ within d. ap is_eq (place.2 d))

  pub none-there : (items : List X) (wanted : List ℕ) (i : ℕ) → IsKeyPlace key items wanted (Err i) → All (λ e. is_eq (cmp_keys (key e) wanted) ≡ false) items
  none-there items wanted i place k d within = elim (cases_lt k i) [
    | inl below ↦ ap is_eq (place.1 k d (omega arith) below)
    | inr above ↦ ap is_eq (place.2 k d above within)
  ]

  pub found-none : (items : List X) (wanted : List ℕ) (i : ℕ) → IsKeyPlace key items wanted (Err i) → find (λ e. is_eq (cmp_keys (key e) wanted)) items ≡ None
  found-none items wanted i place = find-none (λ e. is_eq (cmp_keys (key e) wanted)) items (none-there items wanted i place)

  pub without-none : (items : List X) (wanted : List ℕ) (i : ℕ) → IsKeyPlace key items wanted (Err i) → items ≡ filter (λ e. not (is_eq (cmp_keys (key e) wanted))) items
  without-none items wanted i place = filter-all (λ e. is_eq (cmp_keys (key e) wanted)) items (none-there items wanted i place)

  pub without-here : (items : List X) (wanted : List ℕ) (i : ℕ) → IsKeyPlace key items wanted (Ok i) → remove items i ≡ filter (λ e. not (is_eq (cmp_keys (key e) wanted))) items
  without-here items wanted i place =
      remove-here (λ e. is_eq (cmp_keys (key e) wanted)) items i place.0 (λ k d from below. ap is_eq (place.1 k d from below)) (λ d. ap is_eq (place.2 d))
      (λ k d above inside. ap is_eq (place.3 k d above inside))

  -- a new key isn't found
  pub new-unfound : (items : List X) (wanted : List ℕ) (i : ℕ) → All (λ e. is_eq (cmp_keys (key e) wanted) ≡ false) items → IsKeyPlace key items wanted (Ok i) → IsKeyPlace key items wanted (Err i)
  new-unfound items wanted i new place = absurd (no items i place.0 new place.2)
    where
      no : (xs : List X) (i : ℕ) → i < length xs → All (λ e. is_eq (cmp_keys (key e) wanted) ≡ false) xs → HoldsAt (λ e. cmp_keys (key e) wanted ≡ Equal) xs i → ⊥
      no [] i within new here = absurd (omega arith)
      no (x ∷ xs) i within new here = false≢true (sym (new i x within) ∙ ap is_eq (here x))

  pub with-here : (items : List X) (x : X) (i : ℕ) → IsKeyPlace key items (key x) (Err i) → insert items i x ≡ put_in_order (is_key_before key) x items
  with-here items x i place =
      insert-here (is_key_before key) x items i place.0 (λ k d from below. ap is_lt (less-back (key (get_or items k d)) (key x) (place.1 k d from below)))
      (λ within d. ap is_lt (greater-back (key (get_or items i d)) (key x) (place.2 i d (omega arith) within)))

  -- ---- put in order

  All-put : (P : X → Type 0) (x : X) (ys : List X) → P x → All P ys → All P (put_in_order (is_key_before key) x ys)
  All-put P x [] here all = All-cons P x [] here all
  All-put P x (y ∷ ys) here all = elim (cases_Bool (is_key_before key x y)) [
    | inl less ↦ rw less (All-cons P x (y ∷ ys) here all)
    | inr more ↦ rw more (All-cons P y (put_in_order (is_key_before key) x ys) (all 0 y (omega arith)) (All-put P x ys here (λ k d within. all (suc k) d (omega arith))))
  ]

  pub All-in_order : (P : X → Type 0) (xs : List X) → All P xs → All P (in_order (is_key_before key) xs)
  All-in_order P [] all = all
  All-in_order P (x ∷ xs) all = All-put P x (in_order (is_key_before key) xs) (all 0 x (omega arith)) (All-in_order P xs (λ k d within. all (suc k) d (omega arith)))

  ordered-rest : (x : X) (xs : List X) → AreInKeyOrder key (x ∷ xs) → AreInKeyOrder key xs
  ordered-rest x xs ordered i j d less within = ordered (suc i) (suc j) d (omega arith) (omega arith)

  ordered-first : (x : X) (xs : List X) → AreInKeyOrder key (x ∷ xs) → All (λ y. cmp_keys (key x) (key y) ≡ Less) xs
  ordered-first x xs ordered k d within = ordered 0 (suc k) d (omega arith) (omega arith)

  differ-rest : (x : X) (xs : List X) → KeysDiffer key (x ∷ xs) → KeysDiffer key xs
  differ-rest x xs differ i j d less within = differ (suc i) (suc j) d (omega arith) (omega arith)

  differ-first : (x : X) (xs : List X) → KeysDiffer key (x ∷ xs) → All (λ y. is_eq (cmp_keys (key x) (key y)) ≡ false) xs
  differ-first x xs differ k d within = differ 0 (suc k) d (omega arith) (omega arith)

  pub put-ordered : (x : X) (ys : List X) → All (λ y. is_eq (cmp_keys (key x) (key y)) ≡ false) ys → AreInKeyOrder key ys → AreInKeyOrder key (put_in_order (is_key_before key) x ys)
  put-ordered x [] differ ordered = λ i j d less within. absurd (omega arith)
  put-ordered x (y ∷ ys) differ ordered = go (put-ordered x ys (λ k d within. differ (suc k) d (omega arith)) (ordered-rest y ys ordered)) (apart (key x) (key y) (differ 0 y (omega arith)))
    where
      go : AreInKeyOrder key (put_in_order (is_key_before key) x ys) → Apart (key x) (key y) → AreInKeyOrder key (put_in_order (is_key_before key) x (y ∷ ys))
      go rest (First less back) =
          let here : is_key_before key x y ≡ true = ap is_lt less in
          rw here (AllPairs-cons (λ one other. cmp_keys (key one) (key other) ≡ Less) x (y ∷ ys)
          (All-cons (λ z. cmp_keys (key x) (key z) ≡ Less) y ys less (λ k d within. nat_list_cmp_total.trans (key x) (key y) (key (get_or ys k d)) less (ordered-first y ys ordered k d within))) ordered)
      go rest (Second more back) =
          let here : is_key_before key x y ≡ false = ap is_lt more in
          rw here (AllPairs-cons (λ one other. cmp_keys (key one) (key other) ≡ Less) y (put_in_order (is_key_before key) x ys)
          (All-put (λ z. cmp_keys (key y) (key z) ≡ Less) x ys back (ordered-first y ys ordered))
          rest)

  pub in_order-ordered : (xs : List X) → KeysDiffer key xs → AreInKeyOrder key (in_order (is_key_before key) xs)
  in_order-ordered [] differ = λ i j d less within. absurd (omega arith)
  in_order-ordered (x ∷ xs) differ =
      put-ordered x (in_order (is_key_before key) xs) (All-in_order (λ y. is_eq (cmp_keys (key x) (key y)) ≡ false) xs (differ-first x xs differ)) (in_order-ordered xs (differ-rest x xs differ))

  -- what is less than all stands first
  put-first : (x : X) (ys : List X) → All (λ y. cmp_keys (key x) (key y) ≡ Less) ys → put_in_order (is_key_before key) x ys ≡ x ∷ ys
  put-first x [] all = refl
  put-first x (y ∷ ys) all = let here : is_key_before key x y ≡ true = ap is_lt (all 0 y (omega arith)) in rw here refl

  -- ---- one more

  pub put-both : (x y : X) (zs : List X) → is_eq (cmp_keys (key x) (key y)) ≡ false
      → put_in_order (is_key_before key) x (put_in_order (is_key_before key) y zs) ≡ put_in_order (is_key_before key) y (put_in_order (is_key_before key) x zs)
  put-both x y [] differ = go (apart (key x) (key y) differ)
    where
      go : Apart (key x) (key y) → put_in_order (is_key_before key) x (y ∷ []) ≡ put_in_order (is_key_before key) y (x ∷ [])
      go (First less back) = let a : is_key_before key x y ≡ true = ap is_lt less in let b : is_key_before key y x ≡ false = ap is_lt back in rw (a, b) refl
      go (Second more back) = let a : is_key_before key x y ≡ false = ap is_lt more in let b : is_key_before key y x ≡ true = ap is_lt back in rw (a, b) refl
  put-both x y (z ∷ zs) differ = elim (cases_Bool (is_key_before key x z)) [
    | inl low ↦ elim (cases_Bool (is_key_before key y z)) [
      | inl also ↦ both low also (apart (key x) (key y) differ)
      | inr high ↦ (let a : is_key_before key y x ≡ false = not_before y x z high low in simp (low, high, a) refl)
    ]
    | inr high ↦ elim (cases_Bool (is_key_before key y z)) [
      | inl low ↦ (let a : is_key_before key x y ≡ false = not_before x y z high low in simp (low, high, a) refl)
      | inr also ↦ simp (high, also) (ap (λ rest. z ∷ rest) (put-both x y zs differ))
    ]
  ]
    where
      both : is_key_before key x z ≡ true → is_key_before key y z ≡ true → Apart (key x) (key y)
          → put_in_order (is_key_before key) x (put_in_order (is_key_before key) y (z ∷ zs)) ≡ put_in_order (is_key_before key) y (put_in_order (is_key_before key) x (z ∷ zs))
      both low also (First less back) = let a : is_key_before key x y ≡ true = ap is_lt less in let b : is_key_before key y x ≡ false = ap is_lt back in simp (low, also, a, b) refl
      both low also (Second more back) = let a : is_key_before key x y ≡ false = ap is_lt more in let b : is_key_before key y x ≡ true = ap is_lt back in simp (low, also, a, b) refl

      -- what doesn't come before z doesn't come before what does
      not_before : (a b c : X) → is_key_before key a c ≡ false → is_key_before key b c ≡ true → is_key_before key a b ≡ false
      not_before a b c high low = elim (cases_Bool (is_key_before key a b)) [
        | inl less ↦ absurd (false≢true (sym high ∙ ap is_lt (nat_list_cmp_total.trans (key a) (key b) (key c) (less_of (key a) (key b) less) (less_of (key b) (key c) low))))
        | inr more ↦ more
      ]

  -- an item that comes last is put in
  pub in_order-added : (xs : List X) (x : X) → All (λ y. is_eq (cmp_keys (key y) (key x)) ≡ false) xs → in_order (is_key_before key) (xs ++ x ∷ []) ≡ put_in_order (is_key_before key) x (in_order (is_key_before key) xs)
  in_order-added [] x differ = refl
  in_order-added (y ∷ xs) x differ =
      rw (in_order-added xs x (λ k d within. differ (suc k) d (omega arith))) (put-both y x (in_order (is_key_before key) xs) (differ 0 y (omega arith)))

  -- ---- some left out

  filter-put : (keep : X → Bool) (x : X) (ys : List X) → AreInKeyOrder key ys
      → filter keep (put_in_order (is_key_before key) x ys) ≡ (if keep x then put_in_order (is_key_before key) x (filter keep ys) else filter keep ys)
  filter-put keep x [] ordered = elim (cases_Bool (keep x)) [ inl stays ↦ rw stays refl | inr goes ↦ rw goes refl ]
  filter-put keep x (y ∷ ys) ordered = go (cmp_keys (key x) (key y)) refl (filter-put keep x ys (ordered-rest y ys ordered))
    where
      later : (o : Ordering) → is_lt o ≡ false → cmp_keys (key x) (key y) ≡ o → (filter keep (put_in_order (is_key_before key) x ys) ≡ (if keep x then put_in_order (is_key_before key) x (filter keep ys) else filter keep ys)) → filter keep (put_in_order (is_key_before key) x (y ∷ ys)) ≡ (if keep x then put_in_order (is_key_before key) x (filter keep (y ∷ ys)) else filter keep (y ∷ ys))
      later o high is rest =
          let here : is_key_before key x y ≡ false = ap is_lt is ∙ high in
          elim (cases_Bool (keep y)) [
            | inl stays ↦ elim (cases_Bool (keep x)) [
              | inl also ↦ simp (here, stays, also) (ap (λ (zs : List X). y ∷ zs) (rw also at rest))
              | inr goes ↦ simp (here, stays, goes) (ap (λ (zs : List X). y ∷ zs) (rw goes at rest))
            ]
            | inr goes ↦ simp (here, goes) rest
          ]

      go : (o : Ordering) → cmp_keys (key x) (key y) ≡ o → (filter keep (put_in_order (is_key_before key) x ys) ≡ (if keep x then put_in_order (is_key_before key) x (filter keep ys) else filter keep ys)) → filter keep (put_in_order (is_key_before key) x (y ∷ ys)) ≡ (if keep x then put_in_order (is_key_before key) x (filter keep (y ∷ ys)) else filter keep (y ∷ ys))
      go Less is rest =
          let here : is_key_before key x y ≡ true = ap is_lt is in
          let all : All (λ z. cmp_keys (key x) (key z) ≡ Less) (y ∷ ys) = All-cons (λ z. cmp_keys (key x) (key z) ≡ Less) y ys is (λ k d within. nat_list_cmp_total.trans (key x) (key y) (key (get_or ys k d)) is (ordered-first y ys ordered k d within)) in
          elim (cases_Bool (keep x)) [
            | inl stays ↦ rw (here, stays) (sym (put-first x (filter keep (y ∷ ys)) (All-filter keep (λ z. cmp_keys (key x) (key z) ≡ Less) (y ∷ ys) all)))
            | inr goes ↦ rw (here, goes) refl
          ]
      go Equal is rest = later Equal refl is rest
      go Greater is rest = later Greater refl is rest

  pub in_order-removed : (keep : X → Bool) (xs : List X) → KeysDiffer key xs → in_order (is_key_before key) (filter keep xs) ≡ filter keep (in_order (is_key_before key) xs)
  in_order-removed keep [] differ = refl
  in_order-removed keep (x ∷ xs) differ =
      let rest = in_order-removed keep xs (differ-rest x xs differ) in
      let put = filter-put keep x (in_order (is_key_before key) xs) (in_order-ordered xs (differ-rest x xs differ)) in
      elim (cases_Bool (keep x)) [
        | inl stays ↦ rw stays (ap (put_in_order (is_key_before key) x) rest ∙ sym (rw stays at put))
        | inr goes ↦ rw goes (rest ∙ sym (rw goes at put))
      ]

  -- ---- one found

  find-put : (p : X → Bool) (x : X) (ys : List X) → (p x ≡ true → All (λ y. p y ≡ false) ys) → find p (put_in_order (is_key_before key) x ys) ≡ find p (x ∷ ys)
  find-put p x [] alone = refl
  find-put p x (y ∷ ys) alone = elim (cases_Bool (is_key_before key x y)) [
    | inl less ↦ rw less refl
    | inr more ↦ elim (cases_Bool (p x)) [
      | inl passes ↦ (
          let fails : p y ≡ false = alone passes 0 y (omega arith) in
          let rest = find-put p x ys (λ _. λ k d within. alone passes (suc k) d (omega arith)) in
          rw (more, fails, passes) (rest ∙ rw passes refl))
      | inr fails ↦ (
          let rest = find-put p x ys (λ passes. absurd (false≢true (sym fails ∙ passes))) in
          elim (cases_Bool (p y)) [
            | inl here ↦ simp (more, here, fails) refl
            | inr other ↦ simp (more, other, fails) (rest ∙ rw fails refl)
          ])
    ]
  ]

  -- what at most one item passes is found whatever the order
  pub find-in_order : (p : X → Bool) (xs : List X) → AllPairs (λ a b. p a ≡ true → p b ≡ false) xs → find p (in_order (is_key_before key) xs) ≡ find p xs
  find-in_order p [] one = refl
  find-in_order p (x ∷ xs) one =
      let rest = find-in_order p xs (λ i j d less within. one (suc i) (suc j) d (omega arith) (omega arith)) in
      find-put p x (in_order (is_key_before key) xs) (λ passes. All-in_order (λ y. p y ≡ false) xs (λ k d within. one 0 (suc k) d (omega arith) (omega arith) passes))
      ∙ elim (cases_Bool (p x)) [ inl passes ↦ rw passes refl | inr fails ↦ rw fails rest ]

  -- and so is a key
  pub key-in_order : (xs : List X) (wanted : List ℕ) → KeysDiffer key xs → find (λ e. is_eq (cmp_keys (key e) wanted)) (in_order (is_key_before key) xs) ≡ find (λ e. is_eq (cmp_keys (key e) wanted)) xs
  key-in_order xs wanted differ = find-in_order (λ e. is_eq (cmp_keys (key e) wanted)) xs (λ i j d less within. one (key (get_or xs i d)) (key (get_or xs j d)) (differ i j d less within))
    where
      one : (a b : List ℕ) → is_eq (cmp_keys a b) ≡ false → is_eq (cmp_keys a wanted) ≡ true → is_eq (cmp_keys b wanted) ≡ false
      one a b differ same = elim (cases_Bool (is_eq (cmp_keys b wanted))) [
        | inl also ↦ absurd (false≢true (sym differ ∙ joined (cmp_keys a wanted) (cmp_keys b wanted) refl refl same also))
        | inr other ↦ other
      ]
        where
          joined : (o p : Ordering) → cmp_keys a wanted ≡ o → cmp_keys b wanted ≡ p → is_eq o ≡ true → is_eq p ≡ true → is_eq (cmp_keys a b) ≡ true
          joined Equal Equal is also e f = ap is_eq (nat_list_cmp_total.congr a wanted b is ∙ equal-back b wanted also)
          joined Less p is also e f = absurd (false≢true e)
          joined Greater p is also e f = absurd (false≢true e)
          joined Equal Less is also e f = absurd (false≢true f)
          joined Equal Greater is also e f = absurd (false≢true f)
