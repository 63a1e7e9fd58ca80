-- A client and one of its calls as one number.
use Rattle.std.specs.Prelude.{ℕ, ◌+◌, ◌*◌, ◌^◌}

-- one number for a client and one of its calls, which are below 2^32
abbrev pub call_key_of : ℕ → ℕ → ℕ
call_key_of client number = client * 2 ^ 32 + number
