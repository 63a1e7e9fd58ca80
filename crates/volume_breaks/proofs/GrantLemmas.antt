-- What a grant and an answer leave of lists of oplocks.
use Rattle.std.proofs.Common.{◌≡◌, ℕ, zero, suc, ◌≤◌, Bool, true, false, not, List, [], ◌∷◌, refl, sym, ap, subst, arith, inl, inr, ◌⊎◌}
use Rattle.std.specs.List.{list_any, All}
use Rattle.std.specs.Prelude.{◌==◌, ◌&&◌, ◌||◌, filter, is_some}
use Rattle.std.proofs.lemmas.Bool.{cases_Bool, eq-eqb, eqb-true, both_ways}
use Rattle.std.proofs.lemmas.List.Elements.{All-filter}
use Rattle.fsa_types.proofs.OplockLemmas.{AreOplocks-as_answered, AreOplocks-filter}
use Rattle.fsa_types.specs.OplockGrants.{after_answer, after_switches, is_of_key, is_refused_among, switched_among}
use Rattle.fsa_types.specs.OplockLists.{AreOplocks, without_oplock_of}
use Rattle.fsa_types.specs.Oplocks.{Oplock, has_read, has_write, is_within}
use Rattle.fsa_types.specs.declared.request.Level.{Level}
use Rattle.fsa_model.proofs.RowLaws.{any-filter, none-all}

pub AreOplocks-after_answer : (oplocks : List Oplock) (last handle : ℕ) (level : Level) (turn : ℕ) → AreOplocks oplocks last → AreOplocks (after_answer handle level turn oplocks) last
AreOplocks-after_answer oplocks last handle level turn are = elim (cases_Bool (has_read level)) [
  | inl some ↦ rw some (AreOplocks-as_answered oplocks last handle level turn are)
  | inr none ↦ rw none (AreOplocks-filter (λ o. not (o.handle == handle)) oplocks last are)
]

-- numbers may be left out
pub AreOplocks-later : (oplocks : List Oplock) (last later : ℕ) → last ≤ later → AreOplocks oplocks last → AreOplocks oplocks later
AreOplocks-later oplocks last later more are = record {
  each = are.each;
  handles_differ = are.handles_differ;
  numbers_differ = are.numbers_differ;
  numbers_given = λ k d within. (let given = are.numbers_given k d within in omega arith);
}

-- ---- the oplocks of one stream, of all

any-on : (on p q : Oplock → Bool) (rows : List Oplock) → ((o : Oplock) → q o ≡ (on o && p o)) → list_any p (filter on rows) ≡ list_any q rows
any-on on p q [] same = refl
any-on on p q (o ∷ rows) same = elim (cases_Bool (on o)) [
  | inl its ↦ rw (its, same o, its) (ap (λ rest. p o || rest) (any-on on p q rows same))
  | inr other ↦ rw (other, same o, other) (any-on on p q rows same)
]

three : (a b c : Bool) → (a && b && c) ≡ (a && (b && c))
three true b c = refl
three false b c = refl

five : (a a' b b' c c' x y : Bool) → a ≡ a' → b ≡ b' → c ≡ c' → (a || x || y || b || c) ≡ (a' || x || y || b' || c')
five a a' b b' c c' x y first second third = rw (first, second, third) refl

-- what is asked of those on a stream alone is what is asked of all, by the test that says which are on it
pub refused-on : (on : Oplock → Bool) (handle key : ℕ) (level : Level) (others locked : Bool) (rows : List Oplock)
    → is_refused_among (λ _. true) handle key level others locked (filter on rows) ≡ is_refused_among on handle key level others locked rows
refused-on on handle key level others locked rows =
    five _ _ _ _ _ _ (not (has_write level) && locked) (has_write level && others)
    (any-on on (λ o. is_some o.target) (λ o. on o && is_some o.target) rows (λ o. refl))
    (any-on on (λ o. not (is_of_key handle key o) && has_write o.level) (λ o. on o && not (is_of_key handle key o) && has_write o.level) rows
    (λ o. three (on o) (not (is_of_key handle key o)) (has_write o.level)))
    (any-on on (λ o. is_of_key handle key o && not (is_within o.level level)) (λ o. on o && is_of_key handle key o && not (is_within o.level level)) rows
    (λ o. three (on o) (is_of_key handle key o) (not (is_within o.level level))))

-- those of a key among those on a stream
pub switched-on : (on : Oplock → Bool) (handle key : ℕ) (rows : List Oplock) → filter (is_of_key handle key) (filter on rows) ≡ switched_among on handle key rows
switched-on on handle key [] = refl
switched-on on handle key (o ∷ rows) = elim (cases_Bool (on o)) [
  | inl its ↦ elim (cases_Bool (is_of_key handle key o)) [
    | inl same ↦ rw (its, same) (ap (λ rest. o ∷ rest) (switched-on on handle key rows))
    | inr other ↦ rw (its, other) (switched-on on handle key rows)
  ]
  | inr other ↦ rw other (switched-on on handle key rows)
]

-- ---- none of a handle stays before a grant

-- no oplock is of this handle
abbrev pub NoneOf : ℕ → List Oplock → Type 0
NoneOf handle rows = All (λ (o : Oplock). (o.handle == handle) ≡ false) rows

-- some oplock is
abbrev some_of : ℕ → List Oplock → Bool
some_of handle rows = list_any (λ (o : Oplock). o.handle == handle) rows

stay-none : (handle : ℕ) (switched rows : List Oplock) → NoneOf handle rows → NoneOf handle (after_switches rows switched)
stay-none handle [] rows none = none
stay-none handle (o ∷ switched) rows none =
    stay-none handle switched (without_oplock_of o.handle rows) (All-filter (λ (x : Oplock). not (x.handle == o.handle)) (λ (x : Oplock). (x.handle == handle) ≡ false) rows none)

dropped-none : (handle : ℕ) (rows : List Oplock) → NoneOf handle (without_oplock_of handle rows)
dropped-none handle [] = λ k d within. absurd (omega arith)
dropped-none handle (o ∷ rows) = elim (cases_Bool (o.handle == handle)) [
  | inl here ↦ rw here (dropped-none handle rows)
  | inr other ↦ rw other (first (dropped-none handle rows) other)
]
  where
    first : NoneOf handle (without_oplock_of handle rows) → (o.handle == handle) ≡ false → NoneOf handle (o ∷ without_oplock_of handle rows)
    first rest other zero d within = other
    first rest other (suc k) d within = rest k d (omega arith)

gone-none : (handle : ℕ) (switched rows : List Oplock) → some_of handle switched ≡ true → NoneOf handle (after_switches rows switched)
gone-none handle [] rows some = cc
gone-none handle (o ∷ switched) rows some = elim (cases_Bool (o.handle == handle)) [
  | inl here ↦ (let same : o.handle ≡ handle = eqb-true o.handle handle here in
      stay-none handle switched (without_oplock_of o.handle rows) (subst (λ (h : ℕ). NoneOf handle (without_oplock_of h rows)) (sym same) (dropped-none handle rows)))
  | inr other ↦ gone-none handle switched (without_oplock_of o.handle rows) (rw other at some)
]

-- once all of the key of a handle on its stream have gone
pub none-left : (on : Oplock → Bool) (handle key : ℕ) (rows : List Oplock) → ((o : Oplock) → (o.handle == handle) ≡ true → on o ≡ true)
    → NoneOf handle (after_switches rows (switched_among on handle key rows))
none-left on handle key rows own = elim (cases_Bool (some_of handle (switched_among on handle key rows))) [
  | inl some ↦ gone-none handle (switched_among on handle key rows) rows some
  | inr none ↦ stay-none handle (switched_among on handle key rows) rows (none-all (λ (o : Oplock). o.handle == handle) rows (no_other none (cases_Bool (some_of handle rows))))
]
  where
    its : (o : Oplock) → (o.handle == handle) ≡ true → (on o && is_of_key handle key o) ≡ true
    its o is =
        let same : o.handle ≡ handle = eqb-true o.handle handle is in
        let here : on o ≡ true = own o is in
        rw here (rw (same, eq-eqb handle handle refl) refl)

    no_other : some_of handle (switched_among on handle key rows) ≡ false → (some_of handle rows ≡ true) ⊎ (some_of handle rows ≡ false) → some_of handle rows ≡ false
    no_other none (inr is) = is
    no_other none (inl some) =
        absurd (both_ways _ none (any-filter (λ (o : Oplock). o.handle == handle) (λ (o : Oplock). on o && is_of_key handle key o) rows its some))
