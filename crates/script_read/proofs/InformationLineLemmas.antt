-- The fields of the lines that ask for information and set it are read again as they are written.
use Rattle.std.proofs.Common.{◌≡◌, ℕ, true, ◌&&◌, List, [], ◌∷◌, ◌++◌, Option, refl}
use Rattle.std.specs.Prelude.{Ok, nat_le}
use Rattle.std.specs.Option.{option_map_or}
use Rattle.fsa_types.specs.declared.request.DaclChange.{DaclChange}
use Rattle.fsa_types.specs.declared.request.InfoKind.{InfoKind}
use Rattle.fsa_types.specs.declared.request.InfoKind.TheVariants.{Basic, Standard, Internal, Tag, Streams}
use Rattle.fsa_types.specs.declared.request.What.TheVariants.{Ask}
use Rattle.fsa_types.specs.declared.request.Request.TheVariants.{QueryInfo, SetBasic, SetSecurity}
use Rattle.fsa_model.specs.Words.{most_id, most_bytes}
use Rattle.fsa_model.specs.FieldText.{number_text, mask_text}
use Rattle.fsa_model.specs.InformationLines.{info_kind_at, info_kind_text, query_info_fields, query_info_text, is_query_info, most_time, set_basic_fields, set_basic_text, is_set_basic, owner_text, dacl_text, is_dacl, set_security_fields, set_security_text, is_set_security}
use Rattle.script_read.proofs.SpellLemmas.{both, at_most, EndsWord, field_at-again, number_at-again, number_at-last, mask_at-last}
use Rattle.script_read.proofs.DaclLemmas.{owner_at-again, EndsWord-owner, dacl_at-last, EndsWord-dacl}

info_kind_at-again : (kind : InfoKind) (rest : List ℕ) → EndsWord rest → info_kind_at (info_kind_text kind ++ rest) ≡ Ok (kind, rest)
unfolding info_kind_at
info_kind_at-again Basic rest ends = rw (field_at-again (98 ∷ 97 ∷ 115 ∷ 105 ∷ 99 ∷ []) rest (refl, (refl, (refl, (refl, (refl, tt))))) ends) refl
info_kind_at-again Standard rest ends =
    rw (field_at-again (115 ∷ 116 ∷ 97 ∷ 110 ∷ 100 ∷ 97 ∷ 114 ∷ 100 ∷ []) rest (refl, (refl, (refl, (refl, (refl, (refl, (refl, (refl, tt)))))))) ends) refl
info_kind_at-again Internal rest ends =
    rw (field_at-again (105 ∷ 110 ∷ 116 ∷ 101 ∷ 114 ∷ 110 ∷ 97 ∷ 108 ∷ []) rest (refl, (refl, (refl, (refl, (refl, (refl, (refl, (refl, tt)))))))) ends) refl
info_kind_at-again Tag rest ends = rw (field_at-again (116 ∷ 97 ∷ 103 ∷ []) rest (refl, (refl, (refl, tt))) ends) refl
info_kind_at-again Streams rest ends = rw (field_at-again (115 ∷ 116 ∷ 114 ∷ 101 ∷ 97 ∷ 109 ∷ []) rest (refl, (refl, (refl, (refl, (refl, (refl, tt)))))) ends) refl

pub query_info_fields-again : (handle : ℕ) (kind : InfoKind) (room : ℕ) → is_query_info handle room ≡ true
    → query_info_fields (query_info_text handle kind room) ≡ Ok (Ask (QueryInfo handle kind room))
unfolding query_info_fields
query_info_fields-again handle kind room fits =
    let parts = both (nat_le handle most_id) (nat_le room most_bytes) fits in
    rw (
      number_at-again 4294967295 handle (info_kind_text kind ++ number_text room) (at_most handle most_id parts.0) refl,
      info_kind_at-again kind (number_text room) refl,
      number_at-last 16384 room (at_most room most_bytes parts.1),
    ) refl

pub set_basic_fields-again : (handle creation access write change attributes : ℕ) → is_set_basic handle creation access write change attributes ≡ true
    → set_basic_fields (set_basic_text handle creation access write change attributes) ≡ Ok (Ask (SetBasic handle creation access write change attributes))
unfolding set_basic_fields
set_basic_fields-again handle creation access write change attributes fits =
    let m = both _ (nat_le attributes 4294967295) fits in
    let c = both _ (nat_le change most_time) m.0 in
    let w = both _ (nat_le write most_time) c.0 in
    let a = both _ (nat_le access most_time) w.0 in
    let b = both (nat_le handle most_id) (nat_le creation most_time) a.0 in
    let from_change = number_text change ++ mask_text attributes in
    let from_write = number_text write ++ from_change in
    let from_access = number_text access ++ from_write in
    rw (
      number_at-again 4294967295 handle (number_text creation ++ from_access) (at_most handle most_id b.0) refl,
      number_at-again most_time creation from_access (at_most creation most_time b.1) refl,
      number_at-again most_time access from_write (at_most access most_time a.1) refl,
      number_at-again most_time write from_change (at_most write most_time w.1) refl,
      number_at-again most_time change (mask_text attributes) (at_most change most_time c.1) refl,
      mask_at-last attributes (at_most attributes 4294967295 m.1),
    ) refl

pub set_security_fields-again : (handle : ℕ) (owner : Option ℕ) (dacl : DaclChange) → is_set_security handle owner dacl ≡ true
    → set_security_fields (set_security_text handle owner dacl) ≡ Ok (Ask (SetSecurity handle owner dacl))
unfolding set_security_fields
set_security_fields-again handle owner dacl fits =
    let known = option_map_or (λ sid. nat_le sid most_id) owner true in
    let outer = both (nat_le handle most_id && known) (is_dacl dacl) fits in
    let inner = both (nat_le handle most_id) known outer.0 in
    rw (
      number_at-again 4294967295 handle (owner_text owner ++ dacl_text dacl) (at_most handle most_id inner.0) (EndsWord-owner owner (dacl_text dacl)),
      owner_at-again owner (dacl_text dacl) inner.1 (EndsWord-dacl dacl),
      dacl_at-last dacl outer.1,
    ) refl
