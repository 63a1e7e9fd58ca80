use Rattle.std.proofs.Common.{◌≡◌, ◌+◌, [], length, refl, ◌∙◌, arith}
use Rattle.client_race.specs.Runners.{todo_of}
use Rattle.client_race.proofs.Facing.{leads_less, faces_more}
use Rattle.client_race.proofs.racing.finished.Goals as goal

pub loop-runner-preserved : goal.loop-runner-preserved
loop-runner-preserved c = let i = c.loop-runner.invariant in let n = i.count in let one = c.in-Some.ensures.items in let a = c.loop-runner.runners.ok.0 in let b = c.loop-runner.passes.ok.0 in let d = c.args.runners.ok.0 in
    let e = c.in-Some.ensures.len in let f = c.push_reserved.ensures.len in
    let count : length c.loop-runner.runners.items + length c.loop-runner.passes.items ≡ length c.args.runners.items = omega arith in record {
      left = leads_less c.loop-runner.runners.items c.pop.new.self.items c.args.runners.items c.in-Some.runner one i.left;
      count = omega arith;
      room = c.push_reserved.ensures.capacity ∙ i.room;
      made = faces_more (λ runner pass. (runner.pass ≡ pass) × (todo_of runner ≡ [])) c.args.runners.items c.loop-runner.runners.items c.pop.new.self.items c.in-Some.runner c.loop-runner.passes.items c.push_reserved.new.self.items c.in-Some.runner.pass one i.left c.push_reserved.ensures.items count i.made (refl, c.if-not-is_done.ensures);
    }
