use Rattle.shared_volume.specs.Shared.{OnlySees, setup_at}
use Rattle.shared_volume.proofs.SeesLaws.{sees-on, sees-refreshed}
use Rattle.shared_volume.proofs.WaitLaws.{no-list-later, status-later}
use Rattle.shared_volume.proofs.shared.SharedVolume.status_of.Goals as goal

pub returns-in-Done-clause-few : goal.returns-in-Done-clause-few
returns-in-Done-clause-few g c =
    let v = c.args.pass.now.seat.me.0 in let u = c.loop.pass.seat.me.0 in let x = c.front-entries.new.pass.seat.me.0 in let w = c.poll.new.pass.seat.me.0 in
    let done = c.in-Done.ensures.done in
    let sees : OnlySees v w = sees-on v u w c.loop.invariant.sees (sees-on u x w (sees-refreshed u x c.front-entries.ensures.refreshed) (sees-refreshed x w done.0)) in
    status-later (setup_at c.args.self.now) v w c.args.number c.in-Done.reply sees c.poll.ensures.pass.5 c.poll.new.pass.own_calls c.requires.wait done.1

pub unreachable-requires : goal.unreachable-requires
unreachable-requires g c =
    let v = c.args.pass.now.seat.me.0 in let u = c.loop.pass.seat.me.0 in let x = c.front-entries.new.pass.seat.me.0 in let w = c.poll.new.pass.seat.me.0 in
    let list = c.in-NoMemory.ensures.no_memory in
    let sees : OnlySees v w = sees-on v u w c.loop.invariant.sees (sees-on u x w (sees-refreshed u x c.front-entries.ensures.refreshed) (sees-refreshed x w list.0)) in
    no-list-later (setup_at c.args.self.now) v w c.args.number sees c.poll.ensures.pass.5 c.poll.new.pass.own_calls c.requires.wait list.1
