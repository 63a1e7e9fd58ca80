use Rattle.std.proofs.Common.{◌≡◌, ◌∙◌, sym, ap, ◌∷◌, false, arith}
use Rattle.std.specs.Prelude.{Ok, ◌==◌}
use Rattle.std.proofs.lemmas.Bool.Decides.{nat_tests}
use Rattle.std.proofs.lemmas.Result.{err_from_is_err_and}
use Rattle.fsa_model.specs.InformationLines.{ace_of, before_comma}
use Rattle.script_read.proofs.AceLemmas.{aces-more, aces-bad, aces-other, count-more}
use Rattle.script_read.proofs.dacl.next_ace.Goals as goal

pub returns-then-first-ne44-clause-err : goal.returns-then-first-ne44-clause-err
returns-then-first-ne44-clause-err c =
    let other : (c.in-Some.first.now == 44) ≡ false = grind (arith, nat_tests) in
    aces-other c.args.bytes.now c.in-Some.more.now c.in-Some.first.now c.in-Some.ensures.cases.0 other

pub returns-in_err-ace-clause-err : goal.returns-in_err-ace-clause-err
returns-in_err-ace-clause-err c =
    let is : c.in-Some.first.now ≡ 44 = grind arith in
    let splits : c.args.bytes.now ≡ 44 ∷ c.in-Some.more.now = c.in-Some.ensures.cases.0 ∙ ap (λ first. first ∷ c.in-Some.more.now) is in
    let p = err_from_is_err_and c.from_residual.result c.from_residual.ensures.1 in
    rw (p.1, p.2) (aces-bad c.args.bytes.now c.in-Some.more.now _ splits (rw c.split_entry.ensures.entry at c.in_err-ace.ensures))

pub returns-clause-ace : goal.returns-clause-ace
returns-clause-ace c =
    let is : c.in-Some.first.now ≡ 44 = grind arith in
    let splits : c.args.bytes.now ≡ 44 ∷ c.in-Some.more.now = c.in-Some.ensures.cases.0 ∙ ap (λ first. first ∷ c.in-Some.more.now) is in
    let read : ace_of (before_comma c.in-Some.more.now) ≡ Ok c.in_ok-ace.ace = ap ace_of (sym c.split_entry.ensures.entry) ∙ c.in_ok-ace.ensures in
    rw c.split_entry.ensures.rest (aces-more c.args.bytes.now c.in-Some.more.now c.in_ok-ace.ace splits read)

pub returns-clause-count : goal.returns-clause-count
returns-clause-count c =
    let is : c.in-Some.first.now ≡ 44 = grind arith in
    let splits : c.args.bytes.now ≡ 44 ∷ c.in-Some.more.now = c.in-Some.ensures.cases.0 ∙ ap (λ first. first ∷ c.in-Some.more.now) is in
    rw c.split_entry.ensures.rest (count-more c.args.bytes.now c.in-Some.more.now splits)
