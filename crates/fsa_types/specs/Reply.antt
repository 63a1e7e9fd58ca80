-- How much a reply's body holds.
use Rattle.std.specs.Prelude.{ℕ, length}
use Rattle.fsa_types.specs.declared.reply.Body.{Body}
use Rattle.fsa_types.specs.declared.reply.Body.TheVariants.{Got, Packed, Stopped}

-- how many bytes it holds
abbrev pub bytes_of_body : Body → ℕ
bytes_of_body (Got bytes) = length bytes
bytes_of_body (Packed kind bytes) = length bytes
bytes_of_body (Stopped tag bytes rest) = length bytes
bytes_of_body _ = 0

-- how many units of a path it holds
abbrev pub units_of_body : Body → ℕ
units_of_body (Stopped tag bytes rest) = length rest
units_of_body _ = 0
