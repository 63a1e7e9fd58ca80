-- The lines of a script, each by itself: what its bytes say, without the line feed.
use Rattle.std.specs.Prelude.{ℕ, zero, suc, ◌==◌, List, [], ◌∷◌, Result, Ok, if◌then◌else◌, length, drop, codes, nat_eq}
use Rattle.std.specs.List.{starts_with}
use Rattle.fsa_types.specs.declared.request.What.{What}
use Rattle.fsa_model.specs.Fault.{Kind, ◌>>=◌, only_if}
use Rattle.fsa_model.specs.Words.{most_id, same, word_of, after_word, field_at, number_at, mask_at, ended, is_name, onto}
use Rattle.fsa_model.specs.Requests.{what_of}

-- the first line, a line that begins the case table, a pair of that table, a client with its SIDs,
-- a request with its client's name and its number
pub data Line : Type 0 where
  Version : Line
  DefaultTable : Line
  PairTable : Line
  Pair : ℕ → ℕ → Line
  ClientLine : List ℕ → List ℕ → Line
  RequestLine : List ℕ → ℕ → What → Line

-- source and target
unfoldable pub pair_at : List ℕ → Result Line Kind
pair_at bytes = do
  source ← mask_at bytes
  target ← mask_at source.1
  ended target.1 (Pair source.0 target.0)

-- SIDs up to the end of the line, `most` at most
unfoldable pub sids_at : ℕ → List ℕ → Result (List ℕ) Kind
sids_at zero bytes = only_if (length bytes == 0) []
sids_at (suc most) bytes = if length bytes == 0 then Ok [] else number_at most_id bytes >>= λ sid. onto sid.0 (sids_at most sid.1)

-- a name, and 1 to 16 SIDs
unfoldable pub client_at : List ℕ → Result Line Kind
client_at bytes = do
  word ← field_at bytes
  name ← only_if (is_name word.0) word.0
  sid ← number_at most_id word.1
  sids ← sids_at 15 sid.1
  Ok (ClientLine name (sid.0 ∷ sids))

-- a client's name, the number of the call, a verb and its fields
unfoldable pub request_of : List ℕ → Result Line Kind
request_of bytes = do
  name ← only_if (is_name (word_of bytes)) (word_of bytes)
  number ← number_at most_id (after_word bytes)
  verb ← field_at number.1
  what ← what_of verb.0 verb.1
  Ok (RequestLine name number.0 what)

-- what a line says
unfoldable pub line_of : List ℕ → Result Line Kind
line_of bytes =
    if same bytes (codes "fsa 1") then Ok Version
    else if same bytes (codes "table default") then Ok DefaultTable
    else if same bytes (codes "table pairs") then Ok PairTable
    else if starts_with nat_eq bytes (codes "up 0x") then pair_at (drop 2 bytes)
    else if starts_with nat_eq bytes (codes "client ") then client_at (drop 6 bytes)
    else request_of bytes
