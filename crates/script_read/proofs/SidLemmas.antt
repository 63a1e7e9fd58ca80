-- SIDs that are read one by one.
use Rattle.std.proofs.Common.{◌≡◌, ◌∙◌, sym, ap, ℕ, zero, suc, ◌-◌, ◌<◌, false, List, [], ◌∷◌, ◌++◌, length, refl, arith}
use Rattle.std.specs.Prelude.{Result, Ok, Err, ◌==◌}
use Rattle.std.proofs.lemmas.List.{length_push}
use Rattle.fsa_model.specs.Fault.{Kind, BadSyntax}
use Rattle.fsa_model.specs.Words.{onto, number_at, most_id}
use Rattle.fsa_model.specs.Lines.{sids_at}
use Rattle.script_read.specs.declared.fault.LineFault.{LineFault}
use Rattle.script_read.specs.declared.fault.LineFault.TheVariants as line
use Rattle.script_read.specs.ReadsAs.{Fails, kind_of}
use Rattle.script_read.proofs.ReadLemmas.{ahead, ahead-more, ahead-fault}

more : (most : ℕ) (bytes rest : List ℕ) (sid : ℕ) → (length bytes == 0) ≡ false → number_at most_id bytes ≡ Ok (sid, rest)
    → sids_at (suc most) bytes ≡ onto sid (sids_at most rest)
unfolding sids_at
more most bytes rest sid some is = rw (some, is) refl

over : (bytes : List ℕ) → (length bytes == 0) ≡ false → sids_at 0 bytes ≡ Err BadSyntax
unfolding sids_at
over bytes some = rw some refl

at_end : (most : ℕ) → sids_at most [] ≡ Ok []
unfolding sids_at
at_end zero = refl
at_end (suc most) = refl

fault : (most : ℕ) (bytes : List ℕ) (kind : Kind) → (length bytes == 0) ≡ false → number_at most_id bytes ≡ Err kind → sids_at (suc most) bytes ≡ Err kind
unfolding sids_at
fault most bytes kind some is = rw (some, is) refl

-- ---- the steps of the loop

pub sids-more : (front bytes rest : List ℕ) (sid : ℕ) (all : Result (List ℕ) Kind) → length front < 16 → (length bytes == 0) ≡ false
    → number_at most_id bytes ≡ Ok (sid, rest) → ahead front (sids_at (16 - length front) bytes) ≡ all
    → ahead (front ++ sid ∷ []) (sids_at (16 - length (front ++ sid ∷ [])) rest) ≡ all
sids-more front bytes rest sid all few some is so_far =
    let left : 16 - length front ≡ suc (16 - length (front ++ sid ∷ [])) = omega (arith, length_push front sid) in
    let step : sids_at (16 - length front) bytes ≡ onto sid (sids_at (16 - length (front ++ sid ∷ [])) rest) = rw left (more _ bytes rest sid some is) in
    ahead-more front sid _ _ all step so_far

pub sids-over : (front bytes : List ℕ) (all : Result (List ℕ) Kind) → length front ≡ 16 → (length bytes == 0) ≡ false
    → ahead front (sids_at (16 - length front) bytes) ≡ all → all ≡ Err BadSyntax
sids-over front bytes all full some so_far =
    let none : 16 - length front ≡ 0 = omega arith in
    let step : sids_at (16 - length front) bytes ≡ Err BadSyntax = rw none (over bytes some) in
    ahead-fault front BadSyntax _ all step so_far

pub sids-end : (front bytes : List ℕ) (all : Result (List ℕ) Kind) → bytes ≡ [] → ahead front (sids_at (16 - length front) bytes) ≡ all → all ≡ ahead front (Ok [])
sids-end front bytes all none so_far =
    let step : sids_at (16 - length front) bytes ≡ Ok [] = rw none (at_end (16 - length front)) in
    sym so_far ∙ ap (ahead front) step

pub sids-fault : (front bytes : List ℕ) (bad : LineFault) (all : Result (List ℕ) Kind) → length front < 16 → (length bytes == 0) ≡ false
    → Fails bad (number_at most_id bytes) → ahead front (sids_at (16 - length front) bytes) ≡ all → Fails bad all
sids-fault front bytes line.NoMemory all few some is so_far = tt
sids-fault front bytes (line.Bad kind) all few some is so_far =
    let left : 16 - length front ≡ suc (15 - length front) = omega arith in
    let step : sids_at (16 - length front) bytes ≡ Err (kind_of kind) = rw left (fault (15 - length front) bytes (kind_of kind) some is) in
    ahead-fault front (kind_of kind) _ all step so_far
