-- The fields of renames, links and marks for deletion that are written are read again.
use Rattle.std.proofs.Common.{◌≡◌, ℕ, ◌≤◌, true, Bool, List, ◌∷◌, ◌++◌, refl}
use Rattle.std.specs.Prelude.{Ok, nat_le, codes}
use Rattle.std.specs.List.{list_all}
use Rattle.fsa_types.specs.declared.request.What.TheVariants.{Ask}
use Rattle.fsa_types.specs.declared.request.Request.TheVariants.{Rename, Link, SetDisposition}
use Rattle.fsa_model.specs.Words.{most_id}
use Rattle.fsa_model.specs.FieldText.{number_text, text_text, choice_text}
use Rattle.fsa_model.specs.NameLines.{rename_fields, link_fields, naming_text, set_disposition_fields, set_disposition_text, is_naming_line}
use Rattle.fsa_model.specs.Spelled.{SpellsUnits}
use Rattle.script_read.proofs.SpellLemmas.{both, at_most, number_at-again, choice_at-last}
use Rattle.script_read.proofs.TextLemmas.{text_at-again, text_at-spelled}

pub rename_fields-again : (handle : ℕ) (path : List ℕ) (replace : Bool) → is_naming_line handle path ≡ true
    → rename_fields (naming_text handle path replace) ≡ Ok (Ask (Rename handle path replace))
unfolding rename_fields
rename_fields-again handle path replace fits =
    let parts = both (nat_le handle most_id) (list_all (λ unit. nat_le unit 65535) path) fits in
    let from_choice = choice_text (codes "replace") (codes "keep") replace in
    rw (
      number_at-again 4294967295 handle (text_text path ++ from_choice) (at_most handle most_id parts.0) refl,
      text_at-again path from_choice parts.1 refl,
      choice_at-last (codes "replace") (codes "keep") replace (refl, (refl, (refl, (refl, (refl, (refl, (refl, tt))))))) (refl, (refl, (refl, (refl, tt)))) refl refl refl,
    ) refl

pub rename_fields-spelled : (handle : ℕ) (path text : List ℕ) (replace : Bool) → SpellsUnits path text → is_naming_line handle path ≡ true
    → rename_fields (number_text handle ++ (32 ∷ 61 ∷ (text ++ choice_text (codes "replace") (codes "keep") replace))) ≡ Ok (Ask (Rename handle path replace))
unfolding rename_fields
rename_fields-spelled handle path text replace spells fits =
    let parts = both (nat_le handle most_id) (list_all (λ unit. nat_le unit 65535) path) fits in
    let from_choice = choice_text (codes "replace") (codes "keep") replace in
    rw (
      number_at-again 4294967295 handle (32 ∷ 61 ∷ (text ++ from_choice)) (at_most handle most_id parts.0) refl,
      text_at-spelled path text from_choice spells parts.1 refl,
      choice_at-last (codes "replace") (codes "keep") replace (refl, (refl, (refl, (refl, (refl, (refl, (refl, tt))))))) (refl, (refl, (refl, (refl, tt)))) refl refl refl,
    ) refl

pub link_fields-again : (handle : ℕ) (path : List ℕ) (replace : Bool) → is_naming_line handle path ≡ true
    → link_fields (naming_text handle path replace) ≡ Ok (Ask (Link handle path replace))
unfolding link_fields
link_fields-again handle path replace fits =
    let parts = both (nat_le handle most_id) (list_all (λ unit. nat_le unit 65535) path) fits in
    let from_choice = choice_text (codes "replace") (codes "keep") replace in
    rw (
      number_at-again 4294967295 handle (text_text path ++ from_choice) (at_most handle most_id parts.0) refl,
      text_at-again path from_choice parts.1 refl,
      choice_at-last (codes "replace") (codes "keep") replace (refl, (refl, (refl, (refl, (refl, (refl, (refl, tt))))))) (refl, (refl, (refl, (refl, tt)))) refl refl refl,
    ) refl

pub link_fields-spelled : (handle : ℕ) (path text : List ℕ) (replace : Bool) → SpellsUnits path text → is_naming_line handle path ≡ true
    → link_fields (number_text handle ++ (32 ∷ 61 ∷ (text ++ choice_text (codes "replace") (codes "keep") replace))) ≡ Ok (Ask (Link handle path replace))
unfolding link_fields
link_fields-spelled handle path text replace spells fits =
    let parts = both (nat_le handle most_id) (list_all (λ unit. nat_le unit 65535) path) fits in
    let from_choice = choice_text (codes "replace") (codes "keep") replace in
    rw (
      number_at-again 4294967295 handle (32 ∷ 61 ∷ (text ++ from_choice)) (at_most handle most_id parts.0) refl,
      text_at-spelled path text from_choice spells parts.1 refl,
      choice_at-last (codes "replace") (codes "keep") replace (refl, (refl, (refl, (refl, (refl, (refl, (refl, tt))))))) (refl, (refl, (refl, (refl, tt)))) refl refl refl,
    ) refl

pub set_disposition_fields-again : (handle : ℕ) (delete : Bool) → handle ≤ most_id
    → set_disposition_fields (set_disposition_text handle delete) ≡ Ok (Ask (SetDisposition handle delete))
unfolding set_disposition_fields
set_disposition_fields-again handle delete small =
    rw (
      number_at-again 4294967295 handle (choice_text (codes "yes") (codes "no") delete) small refl,
      choice_at-last (codes "yes") (codes "no") delete (refl, (refl, (refl, tt))) (refl, (refl, tt)) refl refl refl,
    ) refl
