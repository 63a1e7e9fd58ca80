use Rattle.std.proofs.Common.{◌∙◌, length, ◌≡◌, arith}
use Rattle.client_race.specs.Runners.{Follows}
use Rattle.client_race.specs.Tasks.{IsTaskOf, Moves, GivesRunner}
use Rattle.client_race.proofs.Facing.{faces_back}
use Rattle.client_race.proofs.drive.fn.drive.scope.Goals as goal

pub returns : goal.returns
returns g c = let volume = c.captures.volume.now in let s = c.start_all-tasks in let r = c.rotate in let j = c.join_all in
    let a = c.captures.runners.ok.0 in let b = s.result.ok.0 in let d = r.new.tasks.ok.0 in let e = s.ensures.one_each in let f = r.ensures.one_each in
    let first : length s.result.items ≡ length c.captures.runners.items = omega arith in
    let second : length r.new.tasks.items ≡ length c.captures.runners.items = omega arith in (
      j.ensures.one_each ∙ (f ∙ e),
      faces_back (IsTaskOf volume) (Moves volume) GivesRunner (Follows volume) c.captures.runners.items s.result.items r.new.tasks.items j.result.items first second
          (λ x y z w stands moves gives. gives volume x (moves.1 x stands)) s.ensures.stands r.ensures.moves j.ensures.gives,
    )
