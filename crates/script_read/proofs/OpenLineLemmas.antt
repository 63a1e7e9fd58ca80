-- The fields of opens and closes that are written are read again.
use Rattle.std.proofs.Common.{◌≡◌, ℕ, ◌≤◌, true, List, [], ◌∷◌, ◌++◌, refl}
use Rattle.std.specs.Prelude.{Ok, nat_le}
use Rattle.std.specs.List.{list_all}
use Rattle.fsa_types.specs.declared.request.What.TheVariants.{Ask}
use Rattle.fsa_types.specs.declared.request.Request.TheVariants.{Create, Close}
use Rattle.fsa_types.specs.declared.request.Disposition.{Disposition}
use Rattle.fsa_types.specs.declared.request.Disposition.TheVariants.{Supersede, OpenExisting, CreateNew, OpenIf, Overwrite, OverwriteIf}
use Rattle.fsa_model.specs.Words.{most_id}
use Rattle.fsa_model.specs.FieldText.{number_text, mask_text}
use Rattle.fsa_model.specs.OpenLines.{most_key, disposition_at, disposition_text, create_fields, create_text, is_create, close_fields}
use Rattle.fsa_model.specs.Spelled.{SpellsUnits}
use Rattle.script_read.proofs.SpellLemmas.{both, at_most, EndsWord, field_at-again, number_at-last, mask_at-again}
use Rattle.script_read.proofs.TextLemmas.{text_at-again, text_at-spelled}

disposition_at-again : (disposition : Disposition) (rest : List ℕ) → EndsWord rest
    → disposition_at (disposition_text disposition ++ rest) ≡ Ok (disposition, rest)
unfolding disposition_at
disposition_at-again Supersede rest ends =
    rw (field_at-again (115 ∷ 117 ∷ 112 ∷ 101 ∷ 114 ∷ 115 ∷ 101 ∷ 100 ∷ 101 ∷ []) rest (refl, (refl, (refl, (refl, (refl, (refl, (refl, (refl, (refl, tt))))))))) ends) refl
disposition_at-again OpenExisting rest ends =
    rw (field_at-again (111 ∷ 112 ∷ 101 ∷ 110 ∷ []) rest (refl, (refl, (refl, (refl, tt)))) ends) refl
disposition_at-again CreateNew rest ends =
    rw (field_at-again (99 ∷ 114 ∷ 101 ∷ 97 ∷ 116 ∷ 101 ∷ []) rest (refl, (refl, (refl, (refl, (refl, (refl, tt)))))) ends) refl
disposition_at-again OpenIf rest ends =
    rw (field_at-again (111 ∷ 112 ∷ 101 ∷ 110 ∷ 95 ∷ 105 ∷ 102 ∷ []) rest (refl, (refl, (refl, (refl, (refl, (refl, (refl, tt))))))) ends) refl
disposition_at-again Overwrite rest ends =
    rw (field_at-again (111 ∷ 118 ∷ 101 ∷ 114 ∷ 119 ∷ 114 ∷ 105 ∷ 116 ∷ 101 ∷ []) rest (refl, (refl, (refl, (refl, (refl, (refl, (refl, (refl, (refl, tt))))))))) ends) refl
disposition_at-again OverwriteIf rest ends =
    rw (field_at-again (111 ∷ 118 ∷ 101 ∷ 114 ∷ 119 ∷ 114 ∷ 105 ∷ 116 ∷ 101 ∷ 95 ∷ 105 ∷ 102 ∷ []) rest (refl, (refl, (refl, (refl, (refl, (refl, (refl, (refl, (refl, (refl, (refl, (refl, tt)))))))))))) ends) refl

EndsWord-disposition : (disposition : Disposition) (rest : List ℕ) → EndsWord (disposition_text disposition ++ rest)
EndsWord-disposition Supersede rest = refl
EndsWord-disposition OpenExisting rest = refl
EndsWord-disposition CreateNew rest = refl
EndsWord-disposition OpenIf rest = refl
EndsWord-disposition Overwrite rest = refl
EndsWord-disposition OverwriteIf rest = refl

pub create_fields-again : (path : List ℕ) (wanted share : ℕ) (disposition : Disposition) (options attributes key : ℕ)
    → is_create path wanted share options attributes key ≡ true
    → create_fields (create_text path wanted share disposition options attributes key) ≡ Ok (Ask (Create path wanted share disposition options attributes key))
unfolding create_fields
create_fields-again path wanted share disposition options attributes key built =
    let units = list_all (λ unit. nat_le unit 65535) path in
    let k = both _ (nat_le key most_key) built in
    let a = both _ (nat_le attributes 4294967295) k.0 in
    let o = both _ (nat_le options 4294967295) a.0 in
    let s = both _ (nat_le share 4294967295) o.0 in
    let w = both units (nat_le wanted 4294967295) s.0 in
    let from_key = number_text key in
    let from_attributes = mask_text attributes ++ from_key in
    let from_options = mask_text options ++ from_attributes in
    let from_disposition = disposition_text disposition ++ from_options in
    let from_share = mask_text share ++ from_disposition in
    rw (
      text_at-again path (mask_text wanted ++ from_share) w.0 refl,
      mask_at-again wanted from_share (at_most wanted 4294967295 w.1) refl,
      mask_at-again share from_disposition (at_most share 4294967295 s.1) (EndsWord-disposition disposition from_options),
      disposition_at-again disposition from_options refl,
      mask_at-again options from_attributes (at_most options 4294967295 o.1) refl,
      mask_at-again attributes from_key (at_most attributes 4294967295 a.1) refl,
      number_at-last most_key key (at_most key most_key k.1),
    ) refl

pub create_fields-spelled : (path text : List ℕ) (wanted share : ℕ) (disposition : Disposition) (options attributes key : ℕ)
    → SpellsUnits path text → is_create path wanted share options attributes key ≡ true
    → create_fields (32 ∷ 61 ∷ (text ++ (mask_text wanted ++ (mask_text share ++ (disposition_text disposition ++ (mask_text options ++ (mask_text attributes ++ number_text key))))))) ≡ Ok (Ask (Create path wanted share disposition options attributes key))
unfolding create_fields
create_fields-spelled path text wanted share disposition options attributes key spells built =
    let units = list_all (λ unit. nat_le unit 65535) path in
    let k = both _ (nat_le key most_key) built in
    let a = both _ (nat_le attributes 4294967295) k.0 in
    let o = both _ (nat_le options 4294967295) a.0 in
    let s = both _ (nat_le share 4294967295) o.0 in
    let w = both units (nat_le wanted 4294967295) s.0 in
    let from_key = number_text key in
    let from_attributes = mask_text attributes ++ from_key in
    let from_options = mask_text options ++ from_attributes in
    let from_disposition = disposition_text disposition ++ from_options in
    let from_share = mask_text share ++ from_disposition in
    rw (
      text_at-spelled path text (mask_text wanted ++ from_share) spells w.0 refl,
      mask_at-again wanted from_share (at_most wanted 4294967295 w.1) refl,
      mask_at-again share from_disposition (at_most share 4294967295 s.1) (EndsWord-disposition disposition from_options),
      disposition_at-again disposition from_options refl,
      mask_at-again options from_attributes (at_most options 4294967295 o.1) refl,
      mask_at-again attributes from_key (at_most attributes 4294967295 a.1) refl,
      number_at-last most_key key (at_most key most_key k.1),
    ) refl

pub close_fields-again : (handle : ℕ) → handle ≤ most_id → close_fields (number_text handle) ≡ Ok (Ask (Close handle))
unfolding close_fields
close_fields-again handle small = rw (number_at-last 4294967295 handle small) refl
