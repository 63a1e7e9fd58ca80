-- An entry makes no difference where earlier entries for the client name each of its rights.
use Rattle.std.proofs.Common.{◌≡◌, ℕ, ◌∙◌, sym, ap, true, false, Bool, List, [], ◌∷◌, ◌++◌, Some, None, cond, inl, inr, ◌||◌, IsTrue}
use Rattle.std.specs.List.{list_any}
use Rattle.std.proofs.lemmas.Bool.{cases_Bool, cond-true, cond-false}
use Rattle.std.proofs.lemmas.List.Elements.{filter-append}
use Rattle.fsa_types.specs.declared.request.Ace.{Ace}
use Rattle.fsa_types.specs.Access.{asked_of_list, check, entries_for, has_sid, walk_denies}
use Rattle.acl_check.specs.FirstEntry.{has_right, allows, AllowEach, NameEach}
use Rattle.acl_check.proofs.FirstEntryLemmas.{allows-first, allows-later, walk_denies-allowed, walk_denies-allows}

-- an entry whose rights are named before decides none of them
allows-named : (front back : List Ace) (entry : Ace) (right : ℕ)
    → (IsTrue (has_right entry.mask right) → IsTrue (list_any (λ (ace : Ace). has_right ace.mask right) front))
    → allows (front ++ entry ∷ back) right ≡ allows (front ++ back) right
allows-named [] back entry right named = elim (cases_Bool (has_right entry.mask right)) [
  | inl names ↦ absurd (let no : false ≡ true = named names in cc)
  | inr other ↦ allows-later entry back right other
]
allows-named (first ∷ front) back entry right named = elim (cases_Bool (has_right first.mask right)) [
  | inl names ↦ allows-first first (front ++ entry ∷ back) right names ∙ sym (allows-first first (front ++ back) right names)
  | inr other ↦
      allows-later first (front ++ entry ∷ back) right other
      ∙ allows-named front back entry right
      (λ has. sym (ap (λ b. b || list_any (λ (ace : Ace). has_right ace.mask right) front) other) ∙ named has)
      ∙ sym (allows-later first (front ++ back) right other)
]

-- entries that allow the same rights deny the same
walk_denies-same : (entries others : List Ace) (wanted : ℕ) → ((right : ℕ) → allows entries right ≡ allows others right)
    → walk_denies entries wanted ≡ walk_denies others wanted
walk_denies-same entries others wanted same = elim (cases_Bool (walk_denies entries wanted)) [
  | inl denies ↦ elim (cases_Bool (walk_denies others wanted)) [
    | inl other_denies ↦ denies ∙ sym other_denies
    | inr grants ↦ absurd (
        let each : AllowEach entries wanted = (λ right has. same right ∙ walk_denies-allows others wanted grants right has) in
        let no : true ≡ false = sym denies ∙ walk_denies-allowed entries wanted each in cc)
  ]
  | inr grants ↦
      let each : AllowEach others wanted = (λ right has. sym (same right) ∙ walk_denies-allows entries wanted grants right has) in
      grants ∙ sym (walk_denies-allowed others wanted each)
]

-- the entries for the client, with an entry whose rights are named before and without it
entries_for-named : (sids : List ℕ) (front back : List Ace) (entry : Ace) → NameEach (entries_for sids front) entry.mask
    → (right : ℕ) → allows (entries_for sids (front ++ entry ∷ back)) right ≡ allows (entries_for sids (front ++ back)) right
entries_for-named sids front back entry named right =
    let mine : Ace → Bool = (λ (ace : Ace). has_sid sids ace.sid) in
    rw (filter-append mine front (entry ∷ back), filter-append mine front back) (elim (cases_Bool (has_sid sids entry.sid)) [
      | inl own ↦
          ap (λ later. allows (entries_for sids front ++ later) right) (cond-true _ _ _ own)
          ∙ allows-named (entries_for sids front) (entries_for sids back) entry right (named right)
      | inr other ↦ ap (λ later. allows (entries_for sids front ++ later) right) (cond-false _ _ _ other)
    ])

pub check-named : (front back : List Ace) (entry : Ace) (owner : ℕ) (sids : List ℕ) (wanted : ℕ) → NameEach (entries_for sids front) entry.mask
    → check (Some (front ++ entry ∷ back)) owner sids wanted ≡ check (Some (front ++ back)) owner sids wanted
check-named front back entry owner sids wanted named =
    ap (λ b. cond b None (Some wanted))
    (walk_denies-same (entries_for sids (front ++ entry ∷ back)) (entries_for sids (front ++ back)) (asked_of_list owner sids wanted)
    (entries_for-named sids front back entry named))
