use Rattle.std.proofs.Common.{◌≡◌, sym, subst, ℕ, ◌%◌, ◌<◌, ◌≤◌, List, arith}
use Rattle.std.specs.Prelude.{IfOk}
use Rattle.std.proofs.lemmas.Grind.{common_steps}
use Rattle.script_read.proofs.GeneratorLemmas.{path-short, path-long}
use Rattle.script_read.proofs.generator.generated_path.Goals as goal

pub returns-then-file-lt10 : goal.returns-then-file-lt10
returns-then-file-lt10 c =
    let short : c.args.number % 64 < 10 = grind (arith, common_steps) in
    subst (λ (units : List ℕ). IfOk c.copy_of.result (λ path. path ≡ units)) (sym (path-short c.args.number short)) c.copy_of.ensures

pub returns-else-file-lt10 : goal.returns-else-file-lt10
returns-else-file-lt10 c =
    let long : 10 ≤ c.args.number % 64 = grind (arith, common_steps) in
    subst (λ (units : List ℕ). IfOk c.copy_of-else-file-lt10.result (λ path. path ≡ units)) (sym (path-long c.args.number long)) c.copy_of-else-file-lt10.ensures
