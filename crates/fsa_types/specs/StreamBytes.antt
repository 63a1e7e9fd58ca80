-- The bytes of a stream: a part of them, bytes put into them, and another length, after [MS-FSA]
-- 'Server Requests a Read', 'Server Requests a Write' and 'FileEndOfFileInformation'.
use Rattle.std.specs.Prelude.{ℕ, ◌+◌, ◌-◌, List, ◌++◌, length, take, drop, replicate}

-- `count` bytes from `at` on, as many as there are
abbrev pub slice : List ℕ → ℕ → ℕ → List ℕ
slice bytes at count = take count (drop at bytes)

-- the piece put at `at`, a gap filled with zeros
abbrev pub put : List ℕ → ℕ → List ℕ → List ℕ
put bytes at piece = take at bytes ++ replicate (at - length bytes) 0 ++ piece ++ drop (at + length piece) bytes

-- the first `n` bytes, with zeros beyond the old end
abbrev pub cut : List ℕ → ℕ → List ℕ
cut bytes n = take n bytes ++ replicate (n - length bytes) 0
