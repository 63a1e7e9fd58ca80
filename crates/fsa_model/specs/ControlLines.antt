-- The lines of reparse points and of quotas: what their fields say, and how they are written.
use Rattle.std.specs.Prelude.{ℕ, ◌&&◌, Bool, nat_le, List, ◌++◌, Result, length}
use Rattle.std.specs.List.{list_all}
use Rattle.fsa_types.specs.declared.request.What.{What}
use Rattle.fsa_types.specs.declared.request.What.TheVariants.{Ask}
use Rattle.fsa_types.specs.declared.request.Request.TheVariants.{SetReparse, GetReparse, DeleteReparse, SetQuota, QueryQuota}
use Rattle.fsa_model.specs.Fault.{Kind, ◌>>=◌}
use Rattle.fsa_model.specs.Words.{most_id, most_mask, most_bytes, number_at, mask_at, string_at, ended}
use Rattle.fsa_model.specs.FieldText.{number_text, mask_text, string_text}

-- ---- reparse points

-- handle; the buffer: tag, length and bytes
unfoldable pub set_reparse_fields : List ℕ → Result What Kind
set_reparse_fields bytes = do
  handle ← number_at most_id bytes
  buffer ← string_at handle.1
  ended buffer.1 (Ask (SetReparse handle.0 buffer.0))

abbrev pub set_reparse_text : ℕ → List ℕ → List ℕ
set_reparse_text handle buffer = number_text handle ++ string_text buffer

abbrev pub is_set_reparse : ℕ → List ℕ → Bool
is_set_reparse handle buffer = nat_le handle most_id && list_all (λ byte. nat_le byte 255) buffer && nat_le (length buffer) most_bytes

-- handle, room
unfoldable pub get_reparse_fields : List ℕ → Result What Kind
get_reparse_fields bytes = do
  handle ← number_at most_id bytes
  room ← number_at most_bytes handle.1
  ended room.1 (Ask (GetReparse handle.0 room.0))

abbrev pub get_reparse_text : ℕ → ℕ → List ℕ
get_reparse_text handle room = number_text handle ++ number_text room

abbrev pub is_get_reparse : ℕ → ℕ → Bool
is_get_reparse handle room = nat_le handle most_id && nat_le room most_bytes

-- handle, tag
unfoldable pub delete_reparse_fields : List ℕ → Result What Kind
delete_reparse_fields bytes = do
  handle ← number_at most_id bytes
  tag ← mask_at handle.1
  ended tag.1 (Ask (DeleteReparse handle.0 tag.0))

abbrev pub delete_reparse_text : ℕ → ℕ → List ℕ
delete_reparse_text handle tag = number_text handle ++ mask_text tag

abbrev pub is_delete_reparse : ℕ → ℕ → Bool
is_delete_reparse handle tag = nat_le handle most_id && nat_le tag most_mask

-- ---- quotas

-- limits are below 2 ^ 64
abbrev pub most_limit : ℕ
most_limit = 18446744073709551615

-- owner, limit
unfoldable pub set_quota_fields : List ℕ → Result What Kind
set_quota_fields bytes = do
  sid ← number_at most_id bytes
  limit ← number_at most_limit sid.1
  ended limit.1 (Ask (SetQuota sid.0 limit.0))

abbrev pub set_quota_text : ℕ → ℕ → List ℕ
set_quota_text sid limit = number_text sid ++ number_text limit

abbrev pub is_set_quota : ℕ → ℕ → Bool
is_set_quota sid limit = nat_le sid most_id && nat_le limit most_limit

-- owner
unfoldable pub query_quota_fields : List ℕ → Result What Kind
query_quota_fields bytes = do
  sid ← number_at most_id bytes
  ended sid.1 (Ask (QueryQuota sid.0))
