-- The calls of the generated script, one after another; and its paths.
use Rattle.std.proofs.Common.{◌≡◌, ◌∙◌, sym, ap, ℕ, suc, ◌+◌, ◌-◌, ◌/◌, ◌%◌, ◌<◌, ◌≤◌, Bool, true, false, List, [], ◌∷◌, ◌++◌, append-nil, append_assoc, arith}
use Rattle.std.specs.Prelude.{nat_lt, if◌then◌else◌}
use Rattle.std.proofs.lemmas.Bool.Decides.{nat_tests}
use Rattle.fsa_types.specs.declared.request.Call.{Call}
use Rattle.fsa_model.specs.Generator.{next_state, drawn, generated_path, generated_call, generated_calls}
use Rattle.fsa_model.proofs.GeneratorLaws.{spelled-small}

-- a number in one digit or in two
abbrev in_digits : ℕ → Bool → List ℕ
in_digits n one = if one then (48 + n) ∷ [] else (48 + n / 10) ∷ (48 + n % 10) ∷ []

-- paths of one digit, and of two
pub path-short : (number : ℕ) → number % 64 < 10 → generated_path number ≡ 92 ∷ 102 ∷ (48 + number % 64) ∷ []
path-short number short =
    let test : nat_lt (number % 64) 10 ≡ true = grind (arith, nat_tests) in
    ap (λ (digits : List ℕ). 92 ∷ 102 ∷ digits) (spelled-small (number % 64) (omega arith) ∙ ap (in_digits (number % 64)) test)

pub path-long : (number : ℕ) → 10 ≤ number % 64 → generated_path number ≡ 92 ∷ 102 ∷ (48 + number % 64 / 10) ∷ (48 + number % 64 % 10) ∷ []
path-long number long =
    let test : nat_lt (number % 64) 10 ≡ false = grind (arith, nat_tests) in
    ap (λ (digits : List ℕ). 92 ∷ 102 ∷ digits) (spelled-small (number % 64) (omega arith) ∙ ap (in_digits (number % 64)) test)

-- one call more
calls-step : (most place state : ℕ) (front whole : List Call) → place < most → front ++ generated_calls (most - place) place state ≡ whole
    → (front ++ generated_call place (drawn (next_state state)) ∷ []) ++ generated_calls (most - (place + 1)) (place + 1) (next_state state) ≡ whole
calls-step most place state front whole below is =
    let left : most - place ≡ suc (most - (place + 1)) = omega arith in
    append_assoc front (generated_call place (drawn (next_state state)) ∷ []) (generated_calls (most - (place + 1)) (place + 1) (next_state state))
    ∙ ap (λ (more : ℕ). front ++ generated_calls more place state) (sym left)
    ∙ is

-- the same of a call that was pushed
pub calls-push : (most place state number after : ℕ) (front items whole : List Call) (call : Call) → place < most → items ≡ front ++ call ∷ [] → call ≡ generated_call place number → number ≡ drawn after
    → after ≡ next_state state → front ++ generated_calls (most - place) place state ≡ whole → items ++ generated_calls (most - (place + 1)) (place + 1) after ≡ whole
calls-push most place state number after front items whole call below pushed made drew next is = rw (pushed, made, drew, next) (calls-step most place state front whole below is)

-- no call is left
pub calls-end : (most place state : ℕ) (front whole : List Call) → place ≡ most → front ++ generated_calls (most - place) place state ≡ whole → front ≡ whole
calls-end most place state front whole end is =
    let none : most - place ≡ 0 = omega arith in
    sym (append-nil front) ∙ ap (λ (more : ℕ). front ++ generated_calls more place state) (sym none) ∙ is
