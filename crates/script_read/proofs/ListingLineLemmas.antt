-- The fields of a listing or a watch that are written are read again.
use Rattle.std.proofs.Common.{◌≡◌, ℕ, ◌&&◌, true, Bool, List, [], ◌∷◌, ◌++◌, refl}
use Rattle.std.specs.Prelude.{Ok, nat_le, codes}
use Rattle.std.specs.List.{list_all}
use Rattle.fsa_types.specs.declared.request.DirKind.{DirKind}
use Rattle.fsa_types.specs.declared.request.DirKind.TheVariants.{Names, Dir, Full, IdFull}
use Rattle.fsa_types.specs.declared.request.What.TheVariants.{Ask}
use Rattle.fsa_types.specs.declared.request.Request.TheVariants.{QueryDir, Notify}
use Rattle.fsa_model.specs.Words.{most_id, most_mask, most_bytes}
use Rattle.fsa_model.specs.FieldText.{number_text, mask_text, text_text, choice_text}
use Rattle.fsa_model.specs.ListingLines.{dir_kind_at, dir_kind_text, query_dir_fields, listing_end_text, query_dir_text, is_query_dir_line, notify_fields, notify_text, is_notify}
use Rattle.fsa_model.specs.Spelled.{SpellsUnits}
use Rattle.script_read.proofs.SpellLemmas.{both, at_most, EndsWord, field_at-again, number_at-again, number_at-last, mask_at-again, choice_at-again}
use Rattle.script_read.proofs.TextLemmas.{text_at-again, text_at-spelled}

dir_kind_at-again : (kind : DirKind) (rest : List ℕ) → EndsWord rest → dir_kind_at (dir_kind_text kind ++ rest) ≡ Ok (kind, rest)
unfolding dir_kind_at
dir_kind_at-again Names rest ends = rw (field_at-again (110 ∷ 97 ∷ 109 ∷ 101 ∷ 115 ∷ []) rest (refl, (refl, (refl, (refl, (refl, tt))))) ends) refl
dir_kind_at-again Dir rest ends = rw (field_at-again (100 ∷ 105 ∷ 114 ∷ []) rest (refl, (refl, (refl, tt))) ends) refl
dir_kind_at-again Full rest ends = rw (field_at-again (102 ∷ 117 ∷ 108 ∷ 108 ∷ []) rest (refl, (refl, (refl, (refl, tt)))) ends) refl
dir_kind_at-again IdFull rest ends = rw (field_at-again (105 ∷ 100 ∷ 102 ∷ 117 ∷ 108 ∷ 108 ∷ []) rest (refl, (refl, (refl, (refl, (refl, (refl, tt)))))) ends) refl

pub query_dir_fields-again : (handle : ℕ) (kind : DirKind) (expression : List ℕ) (restart : Bool) (room : ℕ) → is_query_dir_line handle expression room ≡ true
    → query_dir_fields (query_dir_text handle kind expression restart room) ≡ Ok (Ask (QueryDir handle kind expression restart room))
unfolding query_dir_fields
query_dir_fields-again handle kind expression restart room fits =
    let units = list_all (λ unit. nat_le unit 65535) expression in
    let outer = both (nat_le handle most_id && units) (nat_le room most_bytes) fits in
    let inner = both (nat_le handle most_id) units outer.0 in
    let from_expression = text_text expression ++ listing_end_text restart room in
    rw (
      number_at-again 4294967295 handle (dir_kind_text kind ++ from_expression) (at_most handle most_id inner.0) refl,
      dir_kind_at-again kind from_expression refl,
      text_at-again expression (listing_end_text restart room) inner.1 refl,
      choice_at-again (codes "restart") (codes "go") restart (number_text room) (refl, (refl, (refl, (refl, (refl, (refl, (refl, tt))))))) (refl, (refl, tt)) refl refl refl refl,
      number_at-last 16384 room (at_most room most_bytes outer.1),
    ) refl

pub query_dir_fields-spelled : (handle : ℕ) (kind : DirKind) (expression text : List ℕ) (restart : Bool) (room : ℕ) → SpellsUnits expression text → is_query_dir_line handle expression room ≡ true
    → query_dir_fields (number_text handle ++ (dir_kind_text kind ++ (32 ∷ 61 ∷ (text ++ listing_end_text restart room)))) ≡ Ok (Ask (QueryDir handle kind expression restart room))
unfolding query_dir_fields
query_dir_fields-spelled handle kind expression text restart room spells fits =
    let units = list_all (λ unit. nat_le unit 65535) expression in
    let outer = both (nat_le handle most_id && units) (nat_le room most_bytes) fits in
    let inner = both (nat_le handle most_id) units outer.0 in
    let from_expression = 32 ∷ 61 ∷ (text ++ listing_end_text restart room) in
    rw (
      number_at-again 4294967295 handle (dir_kind_text kind ++ from_expression) (at_most handle most_id inner.0) refl,
      dir_kind_at-again kind from_expression refl,
      text_at-spelled expression text (listing_end_text restart room) spells inner.1 refl,
      choice_at-again (codes "restart") (codes "go") restart (number_text room) (refl, (refl, (refl, (refl, (refl, (refl, (refl, tt))))))) (refl, (refl, tt)) refl refl refl refl,
      number_at-last 16384 room (at_most room most_bytes outer.1),
    ) refl

pub notify_fields-again : (handle filter : ℕ) (tree : Bool) (room : ℕ) → is_notify handle filter room ≡ true
    → notify_fields (notify_text handle filter tree room) ≡ Ok (Ask (Notify handle filter tree room))
unfolding notify_fields
notify_fields-again handle filter tree room fits =
    let outer = both (nat_le handle most_id && nat_le filter most_mask) (nat_le room most_bytes) fits in
    let inner = both (nat_le handle most_id) (nat_le filter most_mask) outer.0 in
    let from_tree = choice_text (codes "tree") (codes "flat") tree ++ number_text room in
    rw (
      number_at-again 4294967295 handle (mask_text filter ++ from_tree) (at_most handle most_id inner.0) refl,
      mask_at-again filter from_tree (at_most filter most_mask inner.1) refl,
      choice_at-again (codes "tree") (codes "flat") tree (number_text room) (refl, (refl, (refl, (refl, tt)))) (refl, (refl, (refl, (refl, tt)))) refl refl refl refl,
      number_at-last 16384 room (at_most room most_bytes outer.1),
    ) refl
