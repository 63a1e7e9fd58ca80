-- The lines that read and write bytes: what their fields say, and how they are written.
use Rattle.std.specs.Prelude.{ℕ, ◌&&◌, Bool, true, nat_le, List, ◌∷◌, ◌++◌, Option, Some, None, Result, Ok, if◌then◌else◌, length, codes}
use Rattle.std.specs.Option.{option_map_or}
use Rattle.std.specs.List.{list_all}
use Rattle.fsa_types.specs.declared.request.What.{What}
use Rattle.fsa_types.specs.declared.request.What.TheVariants.{Ask}
use Rattle.fsa_types.specs.declared.request.Request.TheVariants.{Read, Write, Flush, SetEnd}
use Rattle.fsa_model.specs.Fault.{Kind, ◌>>=◌, read_as}
use Rattle.fsa_model.specs.Numbers.{written_number}
use Rattle.fsa_model.specs.Words.{most_id, most_place, most_bytes, same, field_at, number_at, string_at, ended}
use Rattle.fsa_model.specs.FieldText.{number_text, string_text}

-- handle, place, length
unfoldable pub read_fields : List ℕ → Result What Kind
read_fields bytes = do
  handle ← number_at most_id bytes
  place ← number_at most_place handle.1
  count ← number_at most_bytes place.1
  ended count.1 (Ask (Read handle.0 place.0 count.0))

abbrev pub read_text : ℕ → ℕ → ℕ → List ℕ
read_text handle place count = number_text handle ++ (number_text place ++ number_text count)

abbrev pub is_read : ℕ → ℕ → ℕ → Bool
is_read handle place count = nat_le handle most_id && nat_le place most_place && nat_le count most_bytes

-- a place
abbrev pub written_place : List ℕ → Result ℕ Kind
written_place word = read_as (written_number 10 most_place word)

-- where a write begins: `end`, which is the end of the stream, or a place
unfoldable pub start_at : List ℕ → Result (Option ℕ × List ℕ) Kind
start_at bytes = do
  word ← field_at bytes
  start ← (if same word.0 (codes "end") then Ok None else written_place word.0 >>= (λ place. Ok (Some place)))
  Ok (start, word.1)

abbrev pub start_text : Option ℕ → List ℕ
start_text start = option_map_or number_text start (32 ∷ codes "end")

-- handle, start, bytes
unfoldable pub write_fields : List ℕ → Result What Kind
write_fields bytes = do
  handle ← number_at most_id bytes
  start ← start_at handle.1
  string ← string_at start.1
  ended string.1 (Ask (Write handle.0 start.0 string.0))

abbrev pub write_text : ℕ → Option ℕ → List ℕ → List ℕ
write_text handle start bytes = number_text handle ++ (start_text start ++ string_text bytes)

abbrev pub is_write : ℕ → Option ℕ → List ℕ → Bool
is_write handle start bytes =
    nat_le handle most_id && option_map_or (λ place. nat_le place most_place) start true && list_all (λ byte. nat_le byte 255) bytes && nat_le (length bytes) most_bytes

-- handle
unfoldable pub flush_fields : List ℕ → Result What Kind
flush_fields bytes = do
  handle ← number_at most_id bytes
  ended handle.1 (Ask (Flush handle.0))

-- handle, length
unfoldable pub set_end_fields : List ℕ → Result What Kind
set_end_fields bytes = do
  handle ← number_at most_id bytes
  length ← number_at most_place handle.1
  ended length.1 (Ask (SetEnd handle.0 length.0))

abbrev pub set_end_text : ℕ → ℕ → List ℕ
set_end_text handle length = number_text handle ++ number_text length

abbrev pub is_set_end : ℕ → ℕ → Bool
is_set_end handle length = nat_le handle most_id && nat_le length most_place
