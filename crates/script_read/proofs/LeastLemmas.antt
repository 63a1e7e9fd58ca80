-- The faulty line is the least that isn't sound.
use Rattle.std.proofs.Common.{◌≡◌, ◌∙◌, sym, ap, ℕ, suc, ◌+◌, ◌-◌, true, false, List, [], ◌∷◌, ◌++◌, length, take, inl, inr, refl, arith}
use Rattle.std.specs.Prelude.{Ok, Err, ◌==◌}
use Rattle.std.proofs.lemmas.List.{length-append}
use Rattle.std.proofs.lemmas.Bool.{cases_Bool, ne_eqb, eqb-true}
use Rattle.fsa_model.specs.Fault.{Kind, BadCut, Fault}
use Rattle.fsa_model.specs.Setup.{Script}
use Rattle.fsa_model.specs.Script.{Reading, nothing_read, takes_version, lines_from, pieces, script_of}
use Rattle.fsa_model.specs.Soundness.{with_line_feeds, BeginScript, IsLeast}
use Rattle.fsa_model.proofs.ScriptSpelt.{NoFeeds, NoFeeds-pieces}
use Rattle.script_read.proofs.ScriptLemmas.{some_pieces}
use Rattle.script_read.proofs.RunLemmas.{run, NoFeeds-take, pieces-ended, lines_from-run, lines_from-stop, fault_at, run-none, goes_on}

of_bytes : (bytes : List ℕ) → (length bytes == 0) ≡ false → script_of bytes ≡ lines_from 1 nothing_read (pieces bytes)
unfolding script_of
of_bytes bytes some = rw some refl

of_no_bytes : (bytes : List ℕ) → (length bytes == 0) ≡ true → script_of bytes ≡ Err (record { line = 1; kind = BadCut })
unfolding script_of
of_no_bytes bytes none = rw none refl

-- lines that run go on to a script
begins : (lines : List (List ℕ)) (reached : Reading) → NoFeeds lines → run nothing_read lines ≡ Ok reached → BeginScript lines
begins lines reached plain runs =
    let more = goes_on reached.stage reached.script (run-none nothing_read reached lines runs (λ e. refl)) in
    let text = with_line_feeds lines ++ more.0 in
    let split : pieces text ≡ lines ++ pieces more.0 = pieces-ended lines more.0 plain in
    let some : (length text == 0) ≡ false = some_bytes lines reached runs more.0 more.3 in (
      more.0,
      more.1,
      of_bytes text some
          ∙ ap (lines_from 1 nothing_read) split
          ∙ lines_from-run 1 nothing_read reached lines (pieces more.0) (some_pieces more.0) runs
          ∙ more.2 (1 + length lines),
    )
  where
    some_bytes : (lines : List (List ℕ)) (reached : Reading) → run nothing_read lines ≡ Ok reached → (more : List ℕ)
        → (takes_version reached.stage ≡ true → (length more == 0) ≡ false) → (length (with_line_feeds lines ++ more) == 0) ≡ false
    some_bytes [] reached runs more some =
        let same : nothing_read ≡ reached = cc in
        some (ap (λ r. takes_version r.stage) (sym same))
    some_bytes (line ∷ lines) reached runs more some =
        ne_eqb _ 0 (λ e. absurd (omega (arith, length-append ((line ++ 10 ∷ []) ++ with_line_feeds lines) more, length-append (line ++ 10 ∷ []) (with_line_feeds lines), length-append line (10 ∷ []))))

never : (script : Script) (fault : Fault) → Ok script ≡ Err fault → ⊥
never script fault e = cc

-- lines that stop are the front of no script
stops : (lines : List (List ℕ)) (kind : Kind) → NoFeeds lines → run nothing_read lines ≡ Err kind → BeginScript lines → ⊥
stops lines kind plain runs begun =
    let text = with_line_feeds lines ++ begun.0 in
    let split : pieces text ≡ lines ++ pieces begun.0 = pieces-ended lines begun.0 plain in
    let stop = lines_from-stop 1 nothing_read kind lines (pieces begun.0) (some_pieces begun.0) runs in
    elim (cases_Bool (length text == 0)) [
      | inl none ↦
          never begun.1 (record { line = 1; kind = BadCut }) (sym begun.2 ∙ of_no_bytes text none)
      | inr some ↦
          never begun.1 stop.0 (sym begun.2 ∙ of_bytes text some ∙ ap (lines_from 1 nothing_read) split ∙ stop.1)
    ]

length-no_pieces : (bytes : List ℕ) → length bytes ≡ 0 → length (pieces bytes) ≡ 1
length-no_pieces [] none = refl
length-no_pieces (byte ∷ bytes) none = absurd (omega arith)

pub least : (bytes : List ℕ) (fault : Fault) → script_of bytes ≡ Err fault → IsLeast bytes fault
least bytes fault fails =
    elim (cases_Bool (length bytes == 0)) [
      | inl none ↦
          let same : record { line = 1; kind = BadCut } ≡ fault = let e : Err (record { line = 1; kind = BadCut }) ≡ Err fault = sym (of_no_bytes bytes none) ∙ fails in cc in
          let line : fault.line ≡ 1 = ap (λ f. f.line) (sym same) in
          let empty : length bytes ≡ 0 = eqb-true (length bytes) 0 none in
          let first : fault.line - 1 ≡ 0 = omega arith in
          record {
            before = rw first (begins [] nothing_read tt refl);
            here = λ more. absurd (omega (arith, length-no_pieces bytes empty));
            within = omega (arith, some_pieces bytes);
          }
      | inr some ↦
          let found = fault_at 1 nothing_read (pieces bytes) fault (some_pieces bytes) (sym (of_bytes bytes some) ∙ fails) in
          let first : fault.line - 1 ≡ found.place = omega (arith, found.at) in
          let this : fault.line ≡ suc found.place = omega (arith, found.at) in
          record {
            before = rw first (begins (take found.place (pieces bytes)) found.reached (NoFeeds-take found.place (pieces bytes) (NoFeeds-pieces bytes)) found.runs);
            here = λ more begun.
                stops (take (suc found.place) (pieces bytes)) fault.kind (NoFeeds-take (suc found.place) (pieces bytes) (NoFeeds-pieces bytes))
                (found.stops (omega arith)) (rw this at begun);
            within = omega (arith, found.at, found.within);
          }
    ]
