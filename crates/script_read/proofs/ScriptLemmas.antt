-- The lines of a script, one after the other.
use Rattle.std.proofs.Common.{◌≡◌, ◌∙◌, sym, ap, ℕ, ◌+◌, ◌-◌, ◌<◌, ◌≤◌, Bool, false, List, [], ◌∷◌, Some, None, length, take, drop, refl, arith}
use Rattle.std.specs.Prelude.{Ok, Err, ◌==◌}
use Rattle.std.specs.List.{count_by, position, position_or_len}
use Rattle.std.proofs.lemmas.List.{take_rest}
use Rattle.std.proofs.lemmas.List.Sums.{fails_before_first}
use Rattle.std.proofs.lemmas.List.Splits.{length-slice_split, slice_split_first, slice_split_none}
use Rattle.std.proofs.lemmas.Bool.{ne_eqb}
use Rattle.fsa_model.specs.Fault.{Kind}
use Rattle.fsa_model.specs.Script.{Reading, line_after, end_after, lines_from, pieces}
use Rattle.script_read.specs.declared.fault.ReadFault.{ReadFault}
use Rattle.script_read.specs.declared.fault.ReadFault.TheVariants as read
use Rattle.script_read.specs.ReadsAs.{FailsScript, kind_of}
use Rattle.script_read.specs.ScriptView.{FailsLine}
use Rattle.script_read.proofs.ReadLemmas.{position_or_len-from_some, position_or_len-from_none}

some_left : (bytes : List ℕ) → (length (pieces bytes) == 0) ≡ false
some_left bytes =
    let more : length (pieces bytes) ≡ count_by (λ byte. byte == 10) bytes + 1 = length-slice_split (λ byte. byte == 10) bytes in
    ne_eqb (length (pieces bytes)) 0 (λ none. omega arith)

-- a line that is taken
pub lines_from-more : (line : ℕ) (reading next : Reading) (rest text after : List ℕ) → pieces rest ≡ text ∷ pieces after
    → line_after reading text ≡ Ok next → lines_from line reading (pieces rest) ≡ lines_from (line + 1) next (pieces after)
lines_from-more line reading next rest text after splits taken = rw (splits, some_left after, taken) refl

-- a line at fault
pub lines_from-fault : (line : ℕ) (reading : Reading) (rest text after : List ℕ) (kind : Kind) → pieces rest ≡ text ∷ pieces after
    → line_after reading text ≡ Err kind → lines_from line reading (pieces rest) ≡ Err (record { line = line; kind = kind })
lines_from-fault line reading rest text after kind splits fault = rw (splits, some_left after, fault) refl

pub lines_from-bad : (line : ℕ) (reading : Reading) (rest text after : List ℕ) (fault : ReadFault) → pieces rest ≡ text ∷ pieces after
    → FailsLine line fault (line_after reading text) → FailsScript fault (lines_from line reading (pieces rest))
lines_from-bad line reading rest text after read.NoMemory splits fails = tt
lines_from-bad line reading rest text after (read.Bad fault) splits fails =
    rw fails.0 (lines_from-fault line reading rest text after (kind_of fault.kind) splits fails.1)

pub some_pieces : (bytes : List ℕ) → 1 ≤ length (pieces bytes)
some_pieces bytes =
    let more : length (pieces bytes) ≡ count_by (λ byte. byte == 10) bytes + 1 = length-slice_split (λ byte. byte == 10) bytes in
    omega arith

-- no line feed is left
pub lines_from-end : (line : ℕ) (reading : Reading) (rest : List ℕ) → pieces rest ≡ rest ∷ []
    → lines_from line reading (pieces rest) ≡ end_after line reading rest
lines_from-end line reading rest splits = rw splits refl

-- ---- the line at the front

abbrev is_feed : ℕ → Bool
is_feed byte = byte == 10

pub pieces-some : (bytes : List ℕ) (end : ℕ) → Some end ≡ position is_feed bytes → end < length bytes
    → pieces bytes ≡ take end bytes ∷ pieces (take (length bytes - (end + 1)) (drop (end + 1) bytes))
pieces-some bytes end is within =
    let first : end ≡ position_or_len is_feed bytes = position_or_len-from_some is_feed bytes end (sym is) in
    let before : position_or_len is_feed bytes < length bytes = omega arith in
    rw (take_rest bytes (end + 1), first) (slice_split_first is_feed bytes 0 before)

pub pieces-none : (bytes : List ℕ) → None ≡ position is_feed bytes → pieces bytes ≡ bytes ∷ []
pieces-none bytes is =
    let all : length bytes ≡ position_or_len is_feed bytes = position_or_len-from_none is_feed bytes (sym is) in
    slice_split_none is_feed bytes (λ k d within. fails_before_first is_feed bytes k d (omega arith))

pub length-pieces : (bytes : List ℕ) (count : ℕ) → count ≡ count_by is_feed bytes → length (pieces bytes) ≡ count + 1
length-pieces bytes count is = length-slice_split is_feed bytes ∙ ap (λ n. n + 1) (sym is)
