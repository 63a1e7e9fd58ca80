-- The links whose names begin with given units, among links in the order of names.
use Rattle.std.proofs.Common.{◌≡◌, ℕ, zero, suc, ◌-◌, ◌<◌, ◌≤◌, Bool, true, false, List, [], ◌∷◌, length, get_or, take, drop, refl, ap, sym, arith, inl, inr, ◌∙◌}
use Rattle.std.specs.Prelude.{map, nat_eq}
use Rattle.std.specs.Cmp.Lexicographic.{pointwise, texts_ties}
use Rattle.std.specs.List.{AllWithin, filter}
use Rattle.std.specs.List.Sorted.{IsPartitionPoint, IsPartitionedBy}
use Rattle.std.specs.Ordering.{is_eq, is_ge, is_gt, is_lt, nat_cmp, ordering_reverse, ordering_then}
use Rattle.std.specs.declared.cmp.Ordering.{Ordering}
use Rattle.std.specs.declared.cmp.Ordering.TheVariants.{Less, Equal, Greater}
use Rattle.std.proofs.lemmas.Bool.{cases_Bool, cases_eq, false≢true}
use Rattle.std.proofs.lemmas.Cmp.{nat_list_cmp_total, upto}
use Rattle.std.proofs.lemmas.List.{get_or-map, length-map, take-map}
use Rattle.fsa_types.specs.CaseTable.{up, upcased}
use Rattle.fsa_model.specs.Volume.{Link}
use Rattle.link_index.specs.Keyed.{AreInKeyOrder, cmp_keys}
use Rattle.link_index.specs.Beginnings.{begins_with, cmp_beginning, name_key}
use Rattle.link_index.specs.Directory.{link_numbered, links_at}
use Rattle.link_index.proofs.ChildLemmas.{filter-between, links-each, numbers-between}
use Rattle.link_index.proofs.NameLemmas.{Links}

-- ---- the first numbers of keys in order

-- of two keys in order the beginnings are so too
take-rises : (n : ℕ) (a b : List ℕ) → cmp_keys a b ≡ Less → is_gt (cmp_keys (take n a) (take n b)) ≡ false
take-rises zero a b less = refl
take-rises (suc n) [] [] less = refl
take-rises (suc n) [] (y ∷ ys) less = refl
take-rises (suc n) (x ∷ xs) [] less = absurd (false≢true (ap is_lt less))
take-rises (suc n) (x ∷ xs) (y ∷ ys) less = go (nat_cmp x y) less (take-rises n xs ys)
  where
    go : (o : Ordering) → ordering_then o (cmp_keys xs ys) ≡ Less → (cmp_keys xs ys ≡ Less → is_gt (cmp_keys (take n xs) (take n ys)) ≡ false) → is_gt (ordering_then o (cmp_keys (take n xs) (take n ys))) ≡ false
    go Less less rest = refl
    go Equal less rest = rest less
    go Greater less rest = absurd (false≢true (ap is_lt less))

gt-back : (a b : List ℕ) → is_gt (cmp_keys a b) ≡ is_lt (cmp_keys b a)
gt-back a b = ap is_gt (nat_list_cmp_total.antisymm a b) ∙ go (cmp_keys b a)
  where
    go : (o : Ordering) → is_gt (ordering_reverse o) ≡ is_lt o
    go Less = refl
    go Equal = refl
    go Greater = refl

ge-lt : (o : Ordering) → is_ge o ≡ true → is_lt o ≡ false
ge-lt Less is = absurd (false≢true is)
ge-lt Equal is = refl
ge-lt Greater is = refl

lt-ge : (o : Ordering) → is_lt o ≡ false → is_ge o ≡ true
lt-ge Less is = absurd (false≢true (sym is))
lt-ge Equal is = refl
lt-ge Greater is = refl

-- a key whose beginning is greater than one comes behind each whose beginning isn't
gt-before : (p a b : List ℕ) → is_gt (cmp_keys a b) ≡ false → is_gt (cmp_keys p b) ≡ true → is_gt (cmp_keys p a) ≡ true
gt-before p a b rise more = elim (cases_Bool (is_gt (cmp_keys p a))) [
  | inl is ↦ is
  | inr no_more ↦ absurd (false≢true (sym (upto nat_list_cmp_total p a b no_more rise) ∙ more))
]

ge-before : (p a b : List ℕ) → is_gt (cmp_keys a b) ≡ false → is_ge (cmp_keys p b) ≡ true → is_ge (cmp_keys p a) ≡ true
ge-before p a b rise most =
    let low : is_gt (cmp_keys b p) ≡ false = gt-back b p ∙ ge-lt (cmp_keys p b) most in
    lt-ge (cmp_keys p a) (sym (gt-back a p) ∙ upto nat_list_cmp_total a b p rise low)

-- ---- units and names

-- how units compare with the beginning of a name, and whether it begins so
beginning-is : (table : List (ℕ × ℕ)) (units name : List ℕ) → cmp_beginning table units name ≡ cmp_keys (upcased table units) (take (length units) (upcased table name))
beginning-is table units name = ap (cmp_keys (upcased table units)) (sym (take-map (up table) (length units) name))

begins-is : (table : List (ℕ × ℕ)) (units name : List ℕ) → begins_with table units name ≡ is_eq (cmp_beginning table units name)
begins-is table units name =
    ap (λ n. pointwise nat_eq (upcased table units) (take n (upcased table name))) (length-map units (up table))
    ∙ texts_ties (upcased table units) (take (length units) (upcased table name))
    ∙ ap is_eq (sym (beginning-is table units name))

gt-fails : (o : Ordering) → is_gt o ≡ true → is_eq o ≡ false
gt-fails Less is = refl
gt-fails Equal is = absurd (false≢true is)
gt-fails Greater is = refl

ge-passes : (o : Ordering) → is_gt o ≡ false → is_ge o ≡ true → is_eq o ≡ true
ge-passes Less low high = absurd (false≢true high)
ge-passes Equal low high = refl
ge-passes Greater low high = absurd (false≢true (sym low))

lt-fails : (o : Ordering) → is_ge o ≡ false → is_eq o ≡ false
lt-fails Less is = refl
lt-fails Equal is = absurd (false≢true (sym is))
lt-fails Greater is = refl

-- ---- numbers whose links are in the order of names

module _ (table : List (ℕ × ℕ)) (rows : Links) (numbers units : List ℕ) where
  -- how the units compare with the name of a number
  abbrev at_number : ℕ → Ordering
  at_number id = cmp_beginning table units (link_numbered rows id).1.name

  module _ (ordered : AreInKeyOrder (name_key table) (links_at rows numbers)) where
    -- of two of them the beginnings rise
    starts-rise : (i j d : ℕ) → i < j → j < length numbers
        → is_gt (cmp_keys (take (length units) (upcased table (link_numbered rows (get_or numbers i d)).1.name)) (take (length units) (upcased table (link_numbered rows (get_or numbers j d)).1.name))) ≡ false
    starts-rise i j d before within =
        let e : ℕ × Link = link_numbered rows d in
        let inside : j < length (links_at rows numbers) = rw (length-map numbers (link_numbered rows)) within in
        let less : cmp_keys (name_key table (get_or (links_at rows numbers) i e)) (name_key table (get_or (links_at rows numbers) j e)) ≡ Less = ordered i j e before inside in
        let one : get_or (links_at rows numbers) i e ≡ link_numbered rows (get_or numbers i d) = get_or-map (link_numbered rows) numbers i d e (omega arith) in
        let two : get_or (links_at rows numbers) j e ≡ link_numbered rows (get_or numbers j d) = get_or-map (link_numbered rows) numbers j d e within in
        take-rises (length units) (upcased table (link_numbered rows (get_or numbers i d)).1.name) (upcased table (link_numbered rows (get_or numbers j d)).1.name) (rw (one, two) at less)

    pub begin-parted : IsPartitionedBy (λ id. is_gt (at_number id)) numbers
    begin-parted i j d order within more = elim (cases_eq i j) [
      | inl same ↦ rw same more
      | inr other ↦ ap is_gt (beginning-is table units (link_numbered rows (get_or numbers i d)).1.name)
          ∙ gt-before (upcased table units) _ _ (starts-rise i j d (omega arith) within) (sym (ap is_gt (beginning-is table units (link_numbered rows (get_or numbers j d)).1.name)) ∙ more)
    ]

    pub end-parted : IsPartitionedBy (λ id. is_ge (at_number id)) numbers
    end-parted i j d order within more = elim (cases_eq i j) [
      | inl same ↦ rw same more
      | inr other ↦ ap is_ge (beginning-is table units (link_numbered rows (get_or numbers i d)).1.name)
          ∙ ge-before (upcased table units) _ _ (starts-rise i j d (omega arith) within) (sym (ap is_ge (beginning-is table units (link_numbered rows (get_or numbers j d)).1.name)) ∙ more)
    ]

  -- those between the two places begin so, and no others
  pub beginning-between : (b i j : ℕ) → i ≤ b → i ≤ j → (i < j → i ≡ b) → b ≤ length numbers → j ≤ length numbers
      → IsPartitionPoint (λ id. is_gt (at_number id) ≡ true) (λ id. is_gt (at_number id) ≡ false) numbers b
      → IsPartitionPoint (λ id. is_ge (at_number id) ≡ true) (λ id. is_ge (at_number id) ≡ false) numbers j
      → take (j - i) (drop i numbers) ≡ map (λ (e : ℕ × Link). e.0) (filter (λ (e : ℕ × Link). begins_with table units e.1.name) (links_at rows numbers))
  beginning-between b i j low order from inside bound begin end =
      let long : length (links_at rows numbers) ≡ length numbers = length-map numbers (link_numbered rows) in
      let Passes : Bool → ℕ × Link → Type 0 = λ w e. begins_with table units e.1.name ≡ w in
      let before : AllWithin (Passes false) (links_at rows numbers) 0 i
      = links-each rows numbers (Passes false) 0 i (omega arith) (λ k d start below. begins-is table units (link_numbered rows (get_or numbers k d)).1.name ∙ gt-fails (at_number (get_or numbers k d)) (begin.0 k d start (omega arith))) in
      let between : AllWithin (Passes true) (links_at rows numbers) i j
      = links-each rows numbers (Passes true) i j bound (λ k d start below. let at : i ≡ b = from (omega arith) in
      begins-is table units (link_numbered rows (get_or numbers k d)).1.name ∙ ge-passes (at_number (get_or numbers k d)) (begin.1 k d (omega arith) (omega arith)) (end.0 k d (omega arith) below)) in
      let behind : AllWithin (Passes false) (links_at rows numbers) j (length (links_at rows numbers))
      = rw long (links-each rows numbers (Passes false) j (length numbers) (omega arith) (λ k d start below. begins-is table units (link_numbered rows (get_or numbers k d)).1.name ∙ lt-fails (at_number (get_or numbers k d)) (end.1 k d start below))) in
      sym (numbers-between rows numbers i (j - i))
      ∙ ap (map (λ (e : ℕ × Link). e.0)) (sym (filter-between (λ (e : ℕ × Link). begins_with table units e.1.name) (links_at rows numbers) i j order (omega arith) before between behind))
