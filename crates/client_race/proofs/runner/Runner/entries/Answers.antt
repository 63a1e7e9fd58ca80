use Rattle.std.proofs.Common.{◌++◌, ap}
use Rattle.history_lock.specs.Lock.{known}
use Rattle.shared_volume.specs.Shared.{Known, setup_at}
use Rattle.client_run.specs.Serving.{todo_in}
use Rattle.client_run.proofs.ServeLaws.{serves_on}
use Rattle.client_race.specs.Passes.{view_of}
use Rattle.client_race.proofs.DeskLaws.{sees_history, sees_refreshed}
use Rattle.client_race.proofs.runner.Runner.entries.Goals as goal

pub returns : goal.returns
returns c =
    let volume = c.args.volume.now in
    let runner = c.args.self.now in
    let pass = c.front.new.pass in
    let refreshed = c.front.ensures.refreshed in (
      (
        c.front.ensures.pass,
        serves_on (view_of volume runner.pass) (view_of volume pass) runner.run c.requires.ready.1
            (sees_refreshed (setup_at volume) (known runner.pass) (known pass) refreshed)
            (sees_history (setup_at volume) (known pass) c.front.ensures.pass.5 pass.own_calls),
      ),
      ap (λ (z : Known). z.own.client) refreshed.view,
      ap (λ (z : Known). z.own.mine ++ todo_in runner.run) refreshed.view,
    )
