-- What is read of a source that tells its bytes. No public standard speaks of this.
use Rattle.std.specs.Prelude.{◌≡◌, ℕ, ◌+◌, ◌<◌, ◌≤◌, ◌⊎◌, List, [], ◌++◌, length, take, Option, Some, None, Result, Ok, Err}
use Rattle.wire_io.specs.declared.faults.Failed.{Failed}

-- these bytes were read, and the others are left
abbrev pub HasRead : Option (List ℕ) → Option (List ℕ) → List ℕ → Type 0
HasRead None left bytes = Unit {0}
HasRead (Some all) left bytes = (more : List ℕ) × (left ≡ Some more) × (all ≡ bytes ++ more)

-- nothing is left
abbrev pub IsAtEnd : Option (List ℕ) → Type 0
IsAtEnd None = Unit {0}
IsAtEnd (Some left) = left ≡ []

-- some bytes were read, at most so many
abbrev pub HasReadAtMost : ℕ → Option (List ℕ) → Option (List ℕ) → Type 0
HasReadAtMost most old new = (bytes : List ℕ) × (length bytes ≤ most) × HasRead old new bytes

-- one take: the next n bytes stand at the buffer's front, none of them only at the end or for an
-- empty buffer; a take that failed has lost no more bytes than it asked for
abbrev pub Takes : Option (List ℕ) → Option (List ℕ) → Result ℕ Failed → List ℕ → Type 0
Takes old new (Ok n) buffer = HasRead old new (take n buffer) × (n ≡ 0 → 0 < length buffer → IsAtEnd new)
Takes old new (Err failed) buffer = HasReadAtMost (length buffer) old new

-- these are all the bytes that were left, and nothing is left now
abbrev pub ReadsWhole : Option (List ℕ) → Option (List ℕ) → List ℕ → Type 0
ReadsWhole None new bytes = Unit {0}
ReadsWhole (Some all) new bytes = (all ≡ bytes) × (new ≡ Some [])

-- more than so many bytes are left
abbrev pub HasMoreThan : ℕ → Option (List ℕ) → Type 0
HasMoreThan limit None = Unit {0}
HasMoreThan limit (Some all) = limit < length all

-- how a source was asked; one that counts nothing keeps each at 0
pub record Taken : Type 0 where
  pub given : ℕ  -- how many bytes were given
  pub stops : ℕ  -- how many takes failed or met the end
  pub since : ℕ  -- how many takes were made since the last that failed or met the end

abbrev pub not_counted : Taken
not_counted = record { given = 0; stops = 0; since = 0 }

-- how one take into a buffer of this length is counted
abbrev pub CountsTake : Taken → Taken → Result ℕ Failed → ℕ → Type 0
CountsTake old new (Ok n) room =
    (new.given ≤ old.given + n) × (new.stops ≤ old.stops + 1) × (0 < n → new.stops ≤ old.stops) × (n ≡ 0 → 0 < room → new.since ≡ 0)
CountsTake old new (Err failed) room = (new.given ≤ old.given + room) × (new.stops ≤ old.stops + 1) × (new.since ≡ 0)

-- at most so many bytes were given, and no take failed or met the end, or the last one alone did
pub record TakesLittle (most : ℕ) (old new : Taken) : Type 0 where
  pub given : new.given ≤ old.given + most
  pub once : new.stops ≤ old.stops + 1
  pub last : (new.stops ≤ old.stops) ⊎ (new.since ≡ 0)
