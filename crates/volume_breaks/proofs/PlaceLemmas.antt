-- Where the oplock of a handle stands in a list, of which it has at most one, and what a change of it there makes of the
-- list.
use Rattle.std.proofs.Common.{◌≡◌, ℕ, zero, suc, ◌<◌, ◌≤◌, ◌∙◌, Bool, true, false, not, List, [], ◌∷◌, length, get_or, refl, ap, sym, arith, inl, inr, eq-eqb, Option, Some, None}
use Rattle.std.specs.List.{position, position_or_len, All, AllPairs}
use Rattle.std.specs.Option.{option_map_or}
use Rattle.std.specs.Prelude.{◌==◌, filter, find, map}
use Rattle.std.proofs.Math.ListN.{set}
use Rattle.std.proofs.lemmas.Bool.{cases_lt, eqb-false, eqb-true, false≢true, lt-ltb, ne_eqb}
use Rattle.std.proofs.lemmas.List.Quantifiers.{position-Some}
use Rattle.std.proofs.lemmas.List.Sums.{fails_before_first, position_or_len_is, prefix_len-le-length}
use Rattle.fsa_model.proofs.RowLaws.{eqb-swap}
use Rattle.fsa_types.specs.OplockLists.{break_begun, lowered, number_of_break}
use Rattle.fsa_types.specs.Oplocks.{Oplock}
use Rattle.fsa_types.specs.declared.request.Level.{Level}
use Rattle.volume_breaks.specs.Oplocks.{is_handle_at}

-- no two oplocks are of one handle
abbrev pub HandlesDiffer : List Oplock → Type 0
HandlesDiffer rows = AllPairs (λ a b. (a.handle == b.handle) ≡ false) rows

differ-rest : (o : Oplock) (rows : List Oplock) → HandlesDiffer (o ∷ rows) → HandlesDiffer rows
differ-rest o rows differ i j d below within = differ (suc i) (suc j) d (omega arith) (omega arith)

-- where it is the first one's, no other is of this handle
differ-here : (o : Oplock) (rows : List Oplock) (handle : ℕ) → HandlesDiffer (o ∷ rows) → (o.handle == handle) ≡ true → All (λ other. (other.handle == handle) ≡ false) rows
differ-here o rows handle differ here k d within =
    let is : o.handle ≡ handle = eqb-true o.handle handle here in
    let apart : (o.handle == (get_or rows k d).handle) ≡ false = differ 0 (suc k) d (omega arith) (omega arith) in
    eqb-swap (get_or rows k d).handle handle ∙ rw is at apart

-- ---- the place

place-is : (rows : List Oplock) (place handle : ℕ) (d : Oplock) → HandlesDiffer rows → place < length rows → (get_or rows place d).handle ≡ handle
    → position (λ (o : Oplock). o.handle == handle) rows ≡ Some place
place-is rows place handle d differ within here =
    let at = position_or_len_is (λ (o : Oplock). o.handle == handle) rows place d (omega arith)
    (λ k below. ne_eqb (get_or rows k d).handle handle (λ same. eqb-false (get_or rows k d).handle (get_or rows place d).handle (differ k place d below within) (same ∙ sym here)))
    (λ _. eq-eqb (get_or rows place d).handle handle here) in
    rw (at, lt-ltb place (length rows) within) refl

handle-cases : (rows : List Oplock) (place handle : ℕ) (d : Oplock) → is_handle_at rows place handle ≡ true → (place < length rows) × ((get_or rows place d).handle ≡ handle)
handle-cases [] place handle d at = absurd (false≢true at)
handle-cases (o ∷ rows) zero handle d at = (omega arith, eqb-true o.handle handle at)
handle-cases (o ∷ rows) (suc place) handle d at = (let rest = handle-cases rows place handle d at in (omega (arith, rest.0), rest.1))

-- a test of a place that tells it
pub handle-place : (rows : List Oplock) (place handle : ℕ) → HandlesDiffer rows → is_handle_at rows place handle ≡ true → Some place ≡ position (λ (o : Oplock). o.handle == handle) rows
handle-place [] place handle differ at = absurd (false≢true at)
handle-place (o ∷ rows) place handle differ at =
    let there = handle-cases (o ∷ rows) place handle o at in
    sym (place-is (o ∷ rows) place handle o differ there.0 there.1)

-- where no place is its own, each oplock is of another handle
none-there : (rows : List Oplock) (handle : ℕ) → position (λ (o : Oplock). o.handle == handle) rows ≡ None → All (λ o. (o.handle == handle) ≡ false) rows
none-there rows handle none k d within =
    let test : Oplock → Bool = λ o. o.handle == handle in
    let bound : position_or_len test rows ≤ length rows = prefix_len-le-length (λ (o : Oplock). not (test o)) rows in
    elim (cases_lt (position_or_len test rows) (length rows)) [
      | inl less ↦ (let is = lt-ltb _ _ less in let other : Some (position_or_len test rows) ≡ None = rw is at none in cc)
      | inr not_less ↦ fails_before_first test rows k d (omega arith)
    ]

-- ---- what stands there

find-there : (rows : List Oplock) (handle place : ℕ) (d : Oplock) → HandlesDiffer rows → place < length rows → (get_or rows place d).handle ≡ handle
    → find (λ (o : Oplock). o.handle == handle) rows ≡ Some (get_or rows place d)
find-there [] handle place d differ within here = absurd (omega arith)
find-there (o ∷ rows) handle zero d differ within here = rw (eq-eqb o.handle handle here) refl
find-there (o ∷ rows) handle (suc place) d differ within here =
    let apart : (o.handle == (get_or rows place d).handle) ≡ false = differ 0 (suc place) d (omega arith) (omega arith) in
    let other : (o.handle == handle) ≡ false = rw here at apart in
    rw other (find-there rows handle place d (differ-rest o rows differ) (omega arith) here)

find-none : (rows : List Oplock) (handle : ℕ) → All (λ o. (o.handle == handle) ≡ false) rows → find (λ (o : Oplock). o.handle == handle) rows ≡ None
find-none [] handle none = refl
find-none (o ∷ rows) handle none =
    let other : (o.handle == handle) ≡ false = none 0 o (omega arith) in
    rw other (find-none rows handle (λ k d within. none (suc k) d (omega arith)))

-- the number of its break
pub break-there : (rows : List Oplock) (handle place : ℕ) (d : Oplock) → HandlesDiffer rows → position (λ (o : Oplock). o.handle == handle) rows ≡ Some place
    → (get_or rows place d).number ≡ number_of_break rows handle
break-there rows handle place d differ found =
    let at = position-Some (λ (o : Oplock). o.handle == handle) rows place d found in
    ap (λ (kept : Option Oplock). option_map_or (λ o. o.number) kept 0) (sym (find-there rows handle place d differ at.0 (eqb-true _ _ at.1)))

pub break-none : (rows : List Oplock) (handle : ℕ) → position (λ (o : Oplock). o.handle == handle) rows ≡ None → 0 ≡ number_of_break rows handle
break-none rows handle none = ap (λ (kept : Option Oplock). option_map_or (λ o. o.number) kept 0) (sym (find-none rows handle (none-there rows handle none)))

-- ---- it is changed there

-- a change of the oplock of one handle alone
abbrev pub IsOfHandle : ℕ → (Oplock → Oplock) → Type 0
IsOfHandle handle change = (o : Oplock) → (o.handle == handle) ≡ false → change o ≡ o

changed-none : (change : Oplock → Oplock) (rows : List Oplock) (handle : ℕ) → IsOfHandle handle change → All (λ o. (o.handle == handle) ≡ false) rows → rows ≡ map change rows
changed-none change [] handle own none = refl
changed-none change (o ∷ rows) handle own none =
    let here : o ≡ change o = sym (own o (none 0 o (omega arith))) in
    ap (λ (first : Oplock). first ∷ rows) here ∙ ap (λ rest. change o ∷ rest) (changed-none change rows handle own (λ k d within. none (suc k) d (omega arith)))

changed-at : (change : Oplock → Oplock) (rows : List Oplock) (handle place : ℕ) (d : Oplock) → IsOfHandle handle change → HandlesDiffer rows → place < length rows → (get_or rows place d).handle ≡ handle
    → set rows place (change (get_or rows place d)) ≡ map change rows
changed-at change [] handle place d own differ within here = absurd (omega arith)
changed-at change (o ∷ rows) handle zero d own differ within here =
    ap (λ rest. change o ∷ rest) (changed-none change rows handle own (differ-here o rows handle differ (eq-eqb o.handle handle here)))
changed-at change (o ∷ rows) handle (suc place) d own differ within here =
    let apart : (o.handle == (get_or rows place d).handle) ≡ false = differ 0 (suc place) d (omega arith) (omega arith) in
    let same : o ≡ change o = sym (own o (rw here at apart)) in
    ap (λ (first : Oplock). first ∷ set rows place (change (get_or rows place d))) same
    ∙ ap (λ rest. change o ∷ rest) (changed-at change rows handle place d own (differ-rest o rows differ) (omega arith) here)

begun-own : (handle : ℕ) (level : Level) (number : ℕ) → IsOfHandle handle (break_begun handle level number)
begun-own handle level number o other = rw other refl

lowered-own : (handle : ℕ) (level : Level) → IsOfHandle handle (lowered handle level)
lowered-own handle level o other = rw other refl

pub begun-there : (rows : List Oplock) (handle place : ℕ) (level : Level) (number : ℕ) (d : Oplock) → HandlesDiffer rows → position (λ (o : Oplock). o.handle == handle) rows ≡ Some place
    → set rows place (break_begun handle level number (get_or rows place d)) ≡ map (break_begun handle level number) rows
begun-there rows handle place level number d differ found =
    let at = position-Some (λ (o : Oplock). o.handle == handle) rows place d found in
    changed-at (break_begun handle level number) rows handle place d (begun-own handle level number) differ at.0 (eqb-true _ _ at.1)

pub begun-none : (rows : List Oplock) (handle : ℕ) (level : Level) (number : ℕ) → position (λ (o : Oplock). o.handle == handle) rows ≡ None → rows ≡ map (break_begun handle level number) rows
begun-none rows handle level number none = changed-none (break_begun handle level number) rows handle (begun-own handle level number) (none-there rows handle none)

pub lowered-there : (rows : List Oplock) (handle place : ℕ) (level : Level) (d : Oplock) → HandlesDiffer rows → position (λ (o : Oplock). o.handle == handle) rows ≡ Some place
    → set rows place (lowered handle level (get_or rows place d)) ≡ map (lowered handle level) rows
lowered-there rows handle place level d differ found =
    let at = position-Some (λ (o : Oplock). o.handle == handle) rows place d found in
    changed-at (lowered handle level) rows handle place d (lowered-own handle level) differ at.0 (eqb-true _ _ at.1)

pub lowered-none : (rows : List Oplock) (handle : ℕ) (level : Level) → position (λ (o : Oplock). o.handle == handle) rows ≡ None → rows ≡ map (lowered handle level) rows
lowered-none rows handle level none = changed-none (lowered handle level) rows handle (lowered-own handle level) (none-there rows handle none)

-- ---- it alone is kept

kept-none : (rows : List Oplock) (handle : ℕ) → All (λ o. (o.handle == handle) ≡ false) rows → filter (λ (o : Oplock). o.handle == handle) rows ≡ []
kept-none [] handle none = refl
kept-none (o ∷ rows) handle none =
    let other : (o.handle == handle) ≡ false = none 0 o (omega arith) in
    rw other (kept-none rows handle (λ k d within. none (suc k) d (omega arith)))

kept-at : (rows : List Oplock) (handle place : ℕ) (d : Oplock) → HandlesDiffer rows → place < length rows → (get_or rows place d).handle ≡ handle
    → get_or rows place d ∷ [] ≡ filter (λ (o : Oplock). o.handle == handle) rows
kept-at [] handle place d differ within here = absurd (omega arith)
kept-at (o ∷ rows) handle zero d differ within here =
    let own : (o.handle == handle) ≡ true = eq-eqb o.handle handle here in
    rw (own, kept-none rows handle (differ-here o rows handle differ own)) refl
kept-at (o ∷ rows) handle (suc place) d differ within here =
    let apart : (o.handle == (get_or rows place d).handle) ≡ false = differ 0 (suc place) d (omega arith) (omega arith) in
    let other : (o.handle == handle) ≡ false = rw here at apart in
    rw other (kept-at rows handle place d (differ-rest o rows differ) (omega arith) here)

pub alone-there : (rows : List Oplock) (handle place : ℕ) (d : Oplock) → HandlesDiffer rows → position (λ (o : Oplock). o.handle == handle) rows ≡ Some place
    → get_or rows place d ∷ [] ≡ filter (λ (o : Oplock). o.handle == handle) rows
alone-there rows handle place d differ found =
    let at = position-Some (λ (o : Oplock). o.handle == handle) rows place d found in
    kept-at rows handle place d differ at.0 (eqb-true _ _ at.1)

pub alone-none : (rows : List Oplock) (handle : ℕ) → position (λ (o : Oplock). o.handle == handle) rows ≡ None → [] ≡ filter (λ (o : Oplock). o.handle == handle) rows
alone-none rows handle none = sym (kept-none rows handle (none-there rows handle none))
