-- The fields of the lines of reparse points and quotas are read again as they are written.
use Rattle.std.proofs.Common.{◌≡◌, ℕ, ◌≤◌, ◌&&◌, true, List, length, refl}
use Rattle.std.specs.Prelude.{Ok, nat_le}
use Rattle.std.specs.List.{list_all}
use Rattle.fsa_types.specs.declared.request.What.TheVariants.{Ask}
use Rattle.fsa_types.specs.declared.request.Request.TheVariants.{SetReparse, GetReparse, DeleteReparse, SetQuota, QueryQuota}
use Rattle.fsa_model.specs.Words.{most_id, most_mask, most_bytes}
use Rattle.fsa_model.specs.FieldText.{number_text, mask_text, string_text}
use Rattle.fsa_model.specs.ControlLines.{set_reparse_fields, set_reparse_text, is_set_reparse, get_reparse_fields, get_reparse_text, is_get_reparse, delete_reparse_fields, delete_reparse_text, is_delete_reparse, most_limit, set_quota_fields, set_quota_text, is_set_quota, query_quota_fields}
use Rattle.script_read.proofs.SpellLemmas.{both, at_most, number_at-again, number_at-last, mask_at-last}
use Rattle.script_read.proofs.TextLemmas.{string_at-last}

pub set_reparse_fields-again : (handle : ℕ) (buffer : List ℕ) → is_set_reparse handle buffer ≡ true → set_reparse_fields (set_reparse_text handle buffer) ≡ Ok (Ask (SetReparse handle buffer))
unfolding set_reparse_fields
set_reparse_fields-again handle buffer fits =
    let are_bytes = list_all (λ byte. nat_le byte 255) buffer in
    let outer = both (nat_le handle most_id && are_bytes) (nat_le (length buffer) most_bytes) fits in
    let inner = both (nat_le handle most_id) are_bytes outer.0 in
    rw (
      number_at-again 4294967295 handle (string_text buffer) (at_most handle most_id inner.0) refl,
      string_at-last buffer inner.1 (at_most (length buffer) most_bytes outer.1),
    ) refl

pub get_reparse_fields-again : (handle room : ℕ) → is_get_reparse handle room ≡ true → get_reparse_fields (get_reparse_text handle room) ≡ Ok (Ask (GetReparse handle room))
unfolding get_reparse_fields
get_reparse_fields-again handle room fits =
    let parts = both (nat_le handle most_id) (nat_le room most_bytes) fits in
    rw (
      number_at-again 4294967295 handle (number_text room) (at_most handle most_id parts.0) refl,
      number_at-last 16384 room (at_most room most_bytes parts.1),
    ) refl

pub delete_reparse_fields-again : (handle tag : ℕ) → is_delete_reparse handle tag ≡ true → delete_reparse_fields (delete_reparse_text handle tag) ≡ Ok (Ask (DeleteReparse handle tag))
unfolding delete_reparse_fields
delete_reparse_fields-again handle tag fits =
    let parts = both (nat_le handle most_id) (nat_le tag most_mask) fits in
    rw (
      number_at-again 4294967295 handle (mask_text tag) (at_most handle most_id parts.0) refl,
      mask_at-last tag (at_most tag most_mask parts.1),
    ) refl

pub set_quota_fields-again : (sid limit : ℕ) → is_set_quota sid limit ≡ true → set_quota_fields (set_quota_text sid limit) ≡ Ok (Ask (SetQuota sid limit))
unfolding set_quota_fields
set_quota_fields-again sid limit fits =
    let parts = both (nat_le sid most_id) (nat_le limit most_limit) fits in
    rw (
      number_at-again 4294967295 sid (number_text limit) (at_most sid most_id parts.0) refl,
      number_at-last most_limit limit (at_most limit most_limit parts.1),
    ) refl

pub query_quota_fields-again : (sid : ℕ) → sid ≤ most_id → query_quota_fields (number_text sid) ≡ Ok (Ask (QueryQuota sid))
unfolding query_quota_fields
query_quota_fields-again sid small = rw (number_at-last 4294967295 sid small) refl
