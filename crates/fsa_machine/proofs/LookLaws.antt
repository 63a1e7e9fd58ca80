-- The end of a call that is looked for.
use Rattle.std.proofs.Common.{◌≡◌, ℕ, true, List, [], ◌∷◌, refl, inl, inr, Some}
use Rattle.std.specs.Prelude.{find, is_some}
use Rattle.std.specs.List.{list_any}
use Rattle.std.proofs.lemmas.Bool.{cases_Bool}
use Rattle.fsa_types.specs.declared.reply.EndOf.{EndOf}
use Rattle.fsa_model.specs.Once.{is_end}
use Rattle.fsa_model.specs.Ended.{ended_with_list, holds_list, reply_in}

-- what is found is there
pub found_with_list : (ended : List EndOf) (client number : ℕ) (end : EndOf) → find (is_end client number) ended ≡ Some end → holds_list end.reply.body ≡ true → ended_with_list ended client number ≡ true
found_with_list [] client number end found holds = cc
found_with_list (first ∷ ended) client number end found holds = elim (cases_Bool (is_end client number first)) [
  | inl own ↦ (let same : Some first ≡ Some end = rw own at found in
      let is : first ≡ end = cc in
      let first_holds : holds_list first.reply.body ≡ true = rw is holds in rw (own, first_holds) refl)
  | inr other ↦ (let later : find (is_end client number) ended ≡ Some end = rw other at found in rw other (found_with_list ended client number end later holds))
]

-- one is found exactly where the call has ended
pub some-found : (ended : List EndOf) (client number : ℕ) → is_some (reply_in ended client number) ≡ list_any (is_end client number) ended
some-found [] client number = refl
some-found (first ∷ ended) client number = elim (cases_Bool (is_end client number first)) [
  | inl own ↦ rw own refl
  | inr other ↦ rw other (some-found ended client number)
]
