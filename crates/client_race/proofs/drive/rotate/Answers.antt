use Rattle.client_race.specs.Tasks.{Moves}
use Rattle.std.proofs.Common.{◌∙◌, length, ◌≡◌, arith}
use Rattle.client_race.proofs.Facing.{beside_then}
use Rattle.client_race.proofs.drive.rotate.Goals as goal

pub returns-then-not-step_each-clause-moves : goal.returns-then-not-step_each-clause-moves
returns-then-not-step_each-clause-moves g c = let a = c.loop.tasks.ok.0 in let b = c.step_each.new.tasks.ok.0 in let n = c.step_each.ensures.one_each in
    let m = Moves c.args.volume.now in let size : length c.loop.tasks.items ≡ length c.step_each.new.tasks.items = omega arith in
    beside_then m m m c.args.tasks.now.items c.loop.tasks.items c.step_each.new.tasks.items size (λ x y z s t. (λ h. t.0 (s.0 h), λ v h. t.1 v (s.1 v h))) c.loop.invariant.moves c.step_each.ensures.moves

pub loop-preserved : goal.loop-preserved
loop-preserved g c = let a = c.loop.tasks.ok.0 in let b = c.step_each.new.tasks.ok.0 in let n = c.step_each.ensures.one_each in
    let m = Moves c.args.volume.now in let size : length c.loop.tasks.items ≡ length c.step_each.new.tasks.items = omega arith in record {
      one_each = n ∙ c.loop.invariant.one_each;
      fit = c.step_each.ensures.fit;
      moves = beside_then m m m c.args.tasks.now.items c.loop.tasks.items c.step_each.new.tasks.items size (λ x y z s t. (λ h. t.0 (s.0 h), λ v h. t.1 v (s.1 v h))) c.loop.invariant.moves c.step_each.ensures.moves;
    }
