use Rattle.std.proofs.Common.{◌≡◌, ◌+◌, length, ◌∙◌, arith}
use Rattle.client_race.specs.Tasks.{GivesRunner}
use Rattle.client_race.proofs.Facing.{leads_less, faces_more}
use Rattle.client_race.proofs.drive.join_all.Goals as goal

pub loop-task-preserved : goal.loop-task-preserved
loop-task-preserved g c = let i = c.loop-task.invariant in let is = c.in-Some.ensures.items in let a = c.loop-task.tasks.ok.0 in let b = c.loop-task.runners.ok.0 in let d = c.args.tasks.ok.0 in let n = i.count in
    let count : length c.loop-task.tasks.items + length c.loop-task.runners.items ≡ length c.args.tasks.items = omega arith in record {
      left = leads_less c.loop-task.tasks.items c.pop.new.self.items c.args.tasks.items c.in-Some.task is i.left;
      count = (let e = c.in-Some.ensures.len in let f = c.push_reserved.ensures.len in omega arith);
      room = c.push_reserved.ensures.capacity ∙ i.room;
      gives = faces_more GivesRunner c.args.tasks.items c.loop-task.tasks.items c.pop.new.self.items c.in-Some.task c.loop-task.runners.items c.push_reserved.new.self.items c.join_one.result is i.left c.push_reserved.ensures.items count i.gives c.join_one.ensures;
    }
