-- What is wrong with a script: the line at fault, and the kind of its fault.
use Rattle.std.specs.Prelude.{ℕ, Bool, Option, Some, None, Result, Ok, Err, if◌then◌else◌}

-- the kinds, in the order in which they are looked for: the last line has no line feed; the bytes
-- are no line that may stand here; a client is named twice, or is unknown; a number is out of turn
pub data Kind : Type 0 where
  BadCut : Kind
  BadSyntax : Kind
  BadClient : Kind
  BadNumber : Kind

-- the line, counted from 1, and its first kind
pub record Fault : Type 0 where
  pub line : ℕ
  pub kind : Kind

infixl 10 ◌>>=◌
-- reading goes on with what was read, up to the first fault
abbrev pub ◌>>=◌ : {A B : Type 0} → Result A Kind → (A → Result B Kind) → Result B Kind
(Ok value) >>= more = more value
(Err kind) >>= more = Err kind

-- what was read, where there is anything; else it is no line
abbrev pub read_as : {A : Type 0} → Option A → Result A Kind
read_as (Some value) = Ok value
read_as None = Err BadSyntax

-- this, where the test holds; else it is no line
abbrev pub only_if : {A : Type 0} → Bool → A → Result A Kind
only_if test value = if test then Ok value else Err BadSyntax
