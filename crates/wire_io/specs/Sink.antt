-- What a sink shows of what was put: the bytes that were written, where it tells them, and how it was
-- asked. No public standard speaks of this.
use Rattle.std.specs.Prelude.{◌≡◌, ℕ, ◌+◌, ◌<◌, ◌≤◌, List, ◌++◌, length, take, Option, Some, None, Result, Ok, Err}
use Rattle.wire_io.specs.declared.faults.Failed.{Failed}

-- a sink that counts no puts keeps each count at 0
pub record Written : Type 0 where
  pub bytes : Option (List ℕ)  -- the bytes that were written, where the sink tells them
  pub puts : ℕ  -- how many puts were made
  pub empty_puts : ℕ  -- how many of them were of an empty piece
  pub since_fault : ℕ  -- how many were made since the last that failed

-- these bytes follow what was there
abbrev pub Extends : Option (List ℕ) → Option (List ℕ) → List ℕ → Type 0
Extends None new bytes = Unit {0}
Extends (Some written) new bytes = new ≡ Some (written ++ bytes)

-- these bytes were written after what was there, in no more puts than there are bytes and none of them empty
pub record Appends (old new : Written) (bytes : List ℕ) : Type 0 where
  pub told : Extends old.bytes new.bytes bytes
  pub few : new.puts ≤ old.puts + length bytes
  pub none_empty : new.empty_puts ≤ old.empty_puts

-- a prefix of these bytes was written so
pub record AppendsFront (old new : Written) (bytes : List ℕ) : Type 0 where
  pub front : List ℕ
  pub back : List ℕ
  pub splits : bytes ≡ front ++ back
  pub told : Extends old.bytes new.bytes front
  pub few : new.puts ≤ old.puts + length bytes
  pub none_empty : new.empty_puts ≤ old.empty_puts

-- a prefix of these bytes was written so, and not all of them
pub record AppendsPart (old new : Written) (bytes : List ℕ) : Type 0 where
  pub written : AppendsFront old new bytes
  pub proper : 0 < length written.back

-- one put: the first n bytes of the piece were written; a put that failed has written a prefix of
-- the piece, and not all of a piece that isn't empty
abbrev pub Puts : Option (List ℕ) → Option (List ℕ) → Result ℕ Failed → List ℕ → Type 0
Puts old new (Ok n) piece = Extends old new (take n piece)
Puts old new (Err failed) piece = (front back : List ℕ) × (piece ≡ front ++ back) × (0 < length piece → 0 < length back) × Extends old new front

-- a put that failed is the last one
abbrev pub SinceFault : Written → Result ℕ Failed → Type 0
SinceFault new (Ok n) = Unit {0}
SinceFault new (Err failed) = new.since_fault ≡ 0

-- how one put is counted
pub record CountsPut (old new : Written) (result : Result ℕ Failed) (piece : List ℕ) : Type 0 where
  pub puts : new.puts ≤ old.puts + 1
  pub empty_puts : 0 < length piece → new.empty_puts ≤ old.empty_puts
  pub since_fault : SinceFault new result
