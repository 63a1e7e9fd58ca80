-- Entries of an access list that are read one by one.
use Rattle.std.proofs.Common.{◌≡◌, ◌∙◌, sym, ap, ℕ, zero, suc, ◌+◌, ◌-◌, ◌<◌, Bool, false, List, [], ◌∷◌, ◌++◌, length, drop, cond, inl, inr, refl, arith}
use Rattle.std.specs.Prelude.{Result, Ok, Err, ◌==◌}
use Rattle.std.specs.List.{count_by, position_or_len}
use Rattle.std.proofs.lemmas.List.{append_assoc, length_push}
use Rattle.std.proofs.lemmas.List.Recursion.{is_count_by}
use Rattle.std.proofs.lemmas.Bool.{cases_Bool}
use Rattle.fsa_types.specs.declared.request.Ace.{Ace}
use Rattle.fsa_model.specs.Fault.{Kind, BadSyntax}
use Rattle.fsa_model.specs.InformationLines.{ace_of, before_comma, after_entry, ace_onto, aces_of}
use Rattle.script_read.specs.declared.fault.LineFault.{LineFault}
use Rattle.script_read.specs.declared.fault.LineFault.TheVariants as line
use Rattle.script_read.specs.ReadsAs.{Fails, kind_of}
use Rattle.script_read.proofs.ReadLemmas.{ahead, ahead-fault}

-- ---- the entry at the front

pub aces-more : (bytes more : List ℕ) (ace : Ace) → bytes ≡ 44 ∷ more → ace_of (before_comma more) ≡ Ok ace
    → (most : ℕ) → aces_of (suc most) bytes ≡ ace_onto ace (aces_of most (after_entry more))
unfolding aces_of
aces-more bytes more ace splits is most = rw (splits, is) refl

pub aces-bad : (bytes more : List ℕ) (fault : LineFault) → bytes ≡ 44 ∷ more → Fails fault (ace_of (before_comma more))
    → (most : ℕ) → Fails fault (aces_of (suc most) bytes)
unfolding aces_of
aces-bad bytes more line.NoMemory splits fails most = tt
aces-bad bytes more (line.Bad kind) splits fails most = rw (splits, fails) refl

pub aces-other : (bytes more : List ℕ) (first : ℕ) → bytes ≡ first ∷ more → (first == 44) ≡ false
    → (most : ℕ) → aces_of (suc most) bytes ≡ Err BadSyntax
unfolding aces_of
aces-other bytes more first splits other most = rw (splits, other) refl

-- ---- commas

abbrev is_comma : ℕ → Bool
is_comma byte = byte == 44

abbrev commas : List ℕ → ℕ
commas [] = 0
commas (byte ∷ bytes) = cond (is_comma byte) (1 + commas bytes) (commas bytes)

counted : (bytes : List ℕ) → commas bytes ≡ count_by is_comma bytes
counted = is_count_by commas is_comma refl (λ byte bytes. refl)

-- there is none in an entry
commas-after : (bytes : List ℕ) → commas (after_entry bytes) ≡ commas bytes
commas-after [] = refl
commas-after (byte ∷ bytes) = elim (cases_Bool (byte == 44)) [
  | inl comma ↦
      let at : position_or_len is_comma (byte ∷ bytes) ≡ 0 = rw comma refl in
      ap (λ n. commas (drop n (byte ∷ bytes))) at
  | inr other ↦
      let at : position_or_len is_comma (byte ∷ bytes) ≡ suc (position_or_len is_comma bytes) = rw other (omega arith) in
      let step : commas (byte ∷ bytes) ≡ commas bytes = rw other refl in
      ap (λ n. commas (drop n (byte ∷ bytes))) at ∙ commas-after bytes ∙ sym step
]

pub count-more : (bytes more : List ℕ) → bytes ≡ 44 ∷ more → count_by is_comma bytes ≡ 1 + count_by is_comma (after_entry more)
count-more bytes more splits =
    let whole : commas bytes ≡ 1 + commas more = rw splits refl in
    sym (counted bytes) ∙ whole ∙ ap (λ n. 1 + n) (sym (commas-after more) ∙ counted (after_entry more))

-- ---- the steps of the loop

ahead-ace : (front : List Ace) (ace : Ace) (read : Result (List Ace) Kind) → ahead (front ++ ace ∷ []) read ≡ ahead front (ace_onto ace read)
ahead-ace front ace (Ok aces) = ap Ok (append_assoc front (ace ∷ []) aces)
ahead-ace front ace (Err kind) = refl

over : (bytes : List ℕ) → (length bytes == 0) ≡ false → aces_of 0 bytes ≡ Err BadSyntax
unfolding aces_of
over bytes some = rw some refl

at_end : (most : ℕ) → aces_of most [] ≡ Ok []
unfolding aces_of
at_end zero = refl
at_end (suc most) = refl

pub aces-step : (front : List Ace) (bytes rest : List ℕ) (ace : Ace) (all : Result (List Ace) Kind) → length front < 32
    → ((most : ℕ) → aces_of (suc most) bytes ≡ ace_onto ace (aces_of most rest)) → ahead front (aces_of (32 - length front) bytes) ≡ all
    → ahead (front ++ ace ∷ []) (aces_of (32 - length (front ++ ace ∷ [])) rest) ≡ all
aces-step front bytes rest ace all few step so_far =
    let most = 32 - length (front ++ ace ∷ []) in
    let left : 32 - length front ≡ suc most = omega (arith, length_push front ace) in
    ahead-ace front ace (aces_of most rest) ∙ ap (ahead front) (sym (step most)) ∙ ap (λ n. ahead front (aces_of n bytes)) (sym left) ∙ so_far

pub aces-over : (front : List Ace) (bytes : List ℕ) (all : Result (List Ace) Kind) → length front ≡ 32 → (length bytes == 0) ≡ false
    → ahead front (aces_of (32 - length front) bytes) ≡ all → all ≡ Err BadSyntax
aces-over front bytes all full some so_far =
    let none : 32 - length front ≡ 0 = omega arith in
    let step : aces_of (32 - length front) bytes ≡ Err BadSyntax = rw none (over bytes some) in
    ahead-fault front BadSyntax _ all step so_far

pub aces-end : (front : List Ace) (bytes : List ℕ) (all : Result (List Ace) Kind) → bytes ≡ [] → ahead front (aces_of (32 - length front) bytes) ≡ all
    → all ≡ ahead front (Ok [])
aces-end front bytes all none so_far =
    let step : aces_of (32 - length front) bytes ≡ Ok [] = rw none (at_end (32 - length front)) in
    sym so_far ∙ ap (ahead front) step

pub aces-fault : (front : List Ace) (bytes : List ℕ) (bad : LineFault) (all : Result (List Ace) Kind) → length front < 32
    → ((most : ℕ) → Fails bad (aces_of (suc most) bytes)) → ahead front (aces_of (32 - length front) bytes) ≡ all → Fails bad all
aces-fault front bytes line.NoMemory all few fails so_far = tt
aces-fault front bytes (line.Bad kind) all few fails so_far =
    let left : 32 - length front ≡ suc (31 - length front) = omega arith in
    let step : aces_of (32 - length front) bytes ≡ Err (kind_of kind) = rw left (fails (31 - length front)) in
    ahead-fault front (kind_of kind) _ all step so_far
