-- The limits of a script: on its bytes, on its lines, and on those that name a client.
use Rattle.std.specs.Prelude.{◌≡◌, ℕ, ◌==◌, nat_eq, nat_lt, Bool, List, length, Option, Some, None, if◌then◌else◌, codes, count_by}
use Rattle.std.specs.List.{starts_with}
pub use Rattle.fsa_model.specs.Bounds.{most_client_lines, most_line_feeds}
use Rattle.fsa_model.specs.Script.{pieces}
use Rattle.fsa_top.specs.declared.limits.Limit.{Limit}
use Rattle.fsa_top.specs.declared.limits.Limit.TheVariants.{Bytes, Lines, Clients}

-- the most bytes of a script
abbrev pub most_script_bytes : ℕ
most_script_bytes = 16777216

-- how many line feeds there are
abbrev pub line_feeds : List ℕ → ℕ
line_feeds bytes = count_by (λ byte. byte == 10) bytes

-- the line begins as those of clients do
abbrev pub is_client_line : List ℕ → Bool
is_client_line line = starts_with nat_eq line (codes "client ")

-- how many lines begin so, what follows the last line feed among them
abbrev pub client_lines : List ℕ → ℕ
client_lines bytes = count_by is_client_line (pieces bytes)

-- the first limit that these bytes pass
unfoldable pub limit_of : List ℕ → Option Limit
limit_of bytes =
    if nat_lt most_script_bytes (length bytes) then Some Bytes
    else if nat_lt most_line_feeds (line_feeds bytes) then Some Lines
    else if nat_lt most_client_lines (client_lines bytes) then Some Clients
    else None

-- the bytes that a source has pass this limit, where the source tells them
abbrev pub PassesLimit : Limit → Option (List ℕ) → Type 0
PassesLimit limit None = Unit {0}
PassesLimit limit (Some bytes) = limit_of bytes ≡ Some limit
