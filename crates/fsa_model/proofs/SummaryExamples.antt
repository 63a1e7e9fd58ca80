-- Summaries, worked by hand.
use Rattle.std.proofs.Common.{arith}
use Rattle.std.proofs.lemmas.Fmt.{decimal_digit}
use Rattle.std.specs.Prelude.{◌≡◌, true, [], ◌∷◌, ◌++◌, ◌&&◌, Bool, ℕ, List, length, map, nat_lt, codes, refl}
use Rattle.fsa_types.specs.Status.{status_code}
use Rattle.fsa_types.specs.declared.status.Status.TheVariants.{Success, EndOfFile, Stalled, NoMemory, InfoLengthMismatch, InvalidHandle}
use Rattle.fsa_model.specs.Summary.{statuses, summary_text}

abbrev rises : List ℕ → Bool
rises [] = true
rises (code ∷ []) = true
rises (code ∷ next ∷ codes) = nat_lt code next && rises (next ∷ codes)

-- all 45 of them, by rising codes
pub codes_rise : rises (map status_code statuses) ≡ true
codes_rise = refl

pub all_there : length statuses ≡ 45
all_there = refl

pub nothing_ended : summary_text 0 [] ≡ codes "turns 0" ++ 10 ∷ codes "end" ++ 10 ∷ []
nothing_ended = rw (decimal_digit 0 (omega arith)) refl

-- in whatever order calls ended
pub some_ended :
    summary_text 6 (NoMemory ∷ EndOfFile ∷ Success ∷ InvalidHandle ∷ Success ∷ InfoLengthMismatch ∷ Stalled ∷ Success ∷ [])
    ≡ codes "turns 6" ++ 10 ∷ codes "SUCCESS 3" ++ 10 ∷ codes "INFO_LENGTH_MISMATCH 1" ++ 10 ∷ codes "INVALID_HANDLE 1" ++ 10 ∷ codes "END_OF_FILE 1" ++ 10
    ∷ codes "STALLED 1" ++ 10 ∷ codes "NO_MEMORY 1" ++ 10 ∷ codes "end" ++ 10 ∷ []
some_ended = rw (decimal_digit 6 (omega arith), decimal_digit 3 (omega arith), decimal_digit 1 (omega arith)) refl
