-- What a client's runner is: the calls that its pass has made, and those that it has still to make.
use Rattle.std.specs.Prelude.{◌≡◌, ℕ, List, None}
use Rattle.fsa_types.specs.declared.request.Call.{Call}
use Rattle.history_lock.specs.Lock.{known}
use Rattle.shared_volume.specs.declared.shared.SharedVolume.{SharedVolume}
use Rattle.shared_volume.specs.Shared.{IsPass}
use Rattle.client_run.specs.Serving.{FitsDesk, planned, todo_in}
use Rattle.client_race.specs.declared.runner.Runner.{Runner}
use Rattle.client_race.specs.Passes.{view_of}

abbrev pub todo_of : Runner → List Call
todo_of runner = todo_in runner.run

-- all calls of the run, those made first
abbrev pub runner_plan : Runner → List Call
runner_plan runner = planned (known runner.pass).own.mine runner.run

abbrev pub runner_client : Runner → ℕ
runner_client runner = (known runner.pass).own.client

-- it waits for no call, and has its pass's client
abbrev pub IsFresh : Runner → Type 0
IsFresh runner = (runner.run.waits ≡ None) × (runner.run.client ≡ runner_client runner)

-- its pass is one of this volume, and its run is that pass's
abbrev pub IsReady : SharedVolume → Runner → Type 0
IsReady volume runner = IsPass volume runner.pass × FitsDesk (view_of volume runner.pass) runner.run

-- the second runner is the first one, later
abbrev pub Follows : SharedVolume → Runner → Runner → Type 0
Follows volume v w = IsReady volume w × (runner_client w ≡ runner_client v) × (runner_plan w ≡ runner_plan v)
