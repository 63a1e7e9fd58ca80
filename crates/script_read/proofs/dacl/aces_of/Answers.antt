use Rattle.std.proofs.Common.{◌≡◌, ◌∙◌, sym, ◌<◌, [], length, false, arith, rules}
use Rattle.std.specs.Prelude.{◌==◌}
use Rattle.std.proofs.lemmas.List.{length_push}
use Rattle.std.proofs.lemmas.Result.{err_from_is_err_and}
use Rattle.std.proofs.lemmas.Grind.{common_steps}
use Rattle.script_read.proofs.AceLemmas.{aces-step, aces-over, aces-end, aces-fault}
use Rattle.script_read.proofs.ReadLemmas.{ahead-end}
use Rattle.script_read.proofs.dacl.aces_of.Goals as goal

pub returns-then-len-eq-MOST_ACES-clause-aces : goal.returns-then-len-eq-MOST_ACES-clause-aces
returns-then-len-eq-MOST_ACES-clause-aces c =
    let some : (length c.aces.rest.now == 0) ≡ false = search rules in
    let full : length c.aces.dacl.items ≡ 32 = grind (arith, common_steps) in
    aces-over c.aces.dacl.items c.aces.rest.now _ full some c.aces.invariant.read

pub returns-in_err-ace-clause-aces : goal.returns-in_err-ace-clause-aces
returns-in_err-ace-clause-aces c =
    let few : length c.aces.dacl.items < 32 = grind (arith, common_steps) in
    let p = err_from_is_err_and c.from_residual-in_err-ace.result c.from_residual-in_err-ace.ensures.1 in
    rw (p.1, p.2) (aces-fault c.aces.dacl.items c.aces.rest.now _ _ few c.in_err-ace.ensures.err c.aces.invariant.read)

pub aces-preserved : goal.aces-preserved
aces-preserved c =
    let few : length c.aces.dacl.items < 32 = grind (arith, common_steps) in
    record {
      read = rw c.push.ensures.items (aces-step c.aces.dacl.items c.aces.rest.now _ c.in_ok-ace.ace _ few c.in_ok-ace.ensures.ace c.aces.invariant.read);
      few = rw c.push.ensures.items (omega (arith, length_push c.aces.dacl.items c.in_ok-ace.ace));
      count = rw c.push.ensures.items (omega (arith, length_push c.aces.dacl.items c.in_ok-ace.ace, c.in_ok-ace.ensures.count, c.aces.invariant.count));
      room = c.push.ensures.room ∙ c.aces.invariant.room;
    }

pub returns-clause-aces : goal.returns-clause-aces
returns-clause-aces c =
    let none : c.aces.rest.now ≡ [] = grind (arith, common_steps) in
    ahead-end _ _ (sym (aces-end c.aces.dacl.items c.aces.rest.now _ none c.aces.invariant.read))
