-- The words that the program takes, and the lines that it writes in place of a text.
use Rattle.std.specs.Prelude.{ℕ, ◌⊎◌, Bool, false, List, [], ◌∷◌, Option, None, String, string_bytes, codes, nat_eq, if◌then◌else◌}
use Rattle.std.specs.declared.alloc.Global.{Global}
use Rattle.std.specs.Cmp.Lexicographic.{pointwise}
use Rattle.fsa_model.specs.Numbers.{written_number}
use Rattle.wire_io.specs.Faults.{Rose}
use Rattle.wire_io.specs.Sink.{Written, Appends, AppendsPart}
use Rattle.fsa_top.specs.declared.limits.Limit.{Limit}
use Rattle.fsa_top.specs.declared.limits.Limit.TheVariants.{Bytes, Lines, Clients}

-- the one word `run`
abbrev pub is_run : List (String Global) → Bool
is_run [] = false
is_run (word ∷ []) = pointwise nat_eq (string_bytes word) (codes "run")
is_run (word ∷ second ∷ more) = false

-- the one word `race`
abbrev pub is_race : List (String Global) → Bool
is_race [] = false
is_race (word ∷ []) = pointwise nat_eq (string_bytes word) (codes "race")
is_race (word ∷ second ∷ more) = false

-- the seed that these bytes write: a decimal number below 2 ^ 64 without a leading zero
abbrev pub seed_written : List ℕ → Option ℕ
seed_written bytes = written_number 10 18446744073709551615 bytes

-- the seed where the words are `gen N`
abbrev pub seed_of : List (String Global) → Option ℕ
seed_of [] = None
seed_of (word ∷ []) = None
seed_of (word ∷ second ∷ []) = if pointwise nat_eq (string_bytes word) (codes "gen") then seed_written (string_bytes second) else None
seed_of (word ∷ second ∷ third ∷ more) = None

abbrev pub usage_line : List ℕ
usage_line = codes "usage: fsa run / race / gen N\n"

-- the line that names a limit
abbrev pub limit_line : Limit → List ℕ
limit_line Bytes = codes "limit bytes\n"
limit_line Lines = codes "limit lines\n"
limit_line Clients = codes "limit clients\n"

-- this line was written, or the sink failed and a part of it was
abbrev pub Says : List ℕ → Written → Written → ℕ → ℕ → Type 0
Says line written written_now faults faults_now = Appends written written_now line ⊎ (Rose faults faults_now × AppendsPart written written_now line)
