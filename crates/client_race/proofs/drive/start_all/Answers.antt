use Rattle.std.proofs.Common.{◌≡◌, ◌+◌, length, ◌∙◌, arith}
use Rattle.history_lock.proofs.Places.{each_given}
use Rattle.client_race.specs.Tasks.{IsTaskOf}
use Rattle.client_race.proofs.Facing.{leads_less, leads_last, faces_more}
use Rattle.client_race.proofs.drive.start_all.Goals as goal

pub start-requires-clause-ready : goal.start-requires-clause-ready
start-requires-clause-ready g c κs within = c.requires.ready (length c.pop.new.self.items) c.in-Some.runner (leads_last c.loop-runner.runners.items c.pop.new.self.items c.args.runners.items c.in-Some.runner c.in-Some.ensures.items c.loop-runner.invariant.left)

pub loop-runner-preserved : goal.loop-runner-preserved
loop-runner-preserved g c = let i = c.loop-runner.invariant in let is = c.in-Some.ensures.items in let a = c.loop-runner.runners.ok.0 in let b = c.loop-runner.tasks.ok.0 in let d = c.args.runners.ok.0 in let n = i.count in
    let count : length c.loop-runner.runners.items + length c.loop-runner.tasks.items ≡ length c.args.runners.items = omega arith in record {
      left = leads_less c.loop-runner.runners.items c.pop.new.self.items c.args.runners.items c.in-Some.runner is i.left;
      count = (let e = c.in-Some.ensures.len in let f = c.push_reserved.ensures.len in omega arith);
      room = c.push_reserved.ensures.capacity ∙ i.room;
      stands = faces_more (IsTaskOf c.args.volume.now) c.args.runners.items c.loop-runner.runners.items c.pop.new.self.items c.in-Some.runner c.loop-runner.tasks.items c.push_reserved.new.self.items c.start.result is i.left c.push_reserved.ensures.items count i.stands c.start.ensures.stands;
      fit = each_given _ _ _ _ c.push_reserved.ensures.items i.fit c.start.ensures.fit;
    }
