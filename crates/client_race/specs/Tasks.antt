-- What is known of a client's runner that is under way.
use Rattle.std.specs.Prelude.{◌≡◌}
use Rattle.shared_volume.specs.declared.shared.SharedVolume.{SharedVolume}
use Rattle.client_race.specs.declared.drive.Task.{Task}
use Rattle.client_race.specs.declared.drive.Task.TheVariants.{There, Here}
use Rattle.client_race.specs.declared.runner.Runner.{Runner}
use Rattle.client_race.specs.Runners.{IsReady, Follows}

-- the task is this runner, later
abbrev pub IsTaskOf : SharedVolume → Runner → Task → Type 0
IsTaskOf volume v (There handle) = (handle.promise.volume.value ≡ volume) × (handle.promise.runner.value ≡ v)
IsTaskOf volume v (Here runner) = Follows volume v runner

-- where it's here, its pass is one of this volume
abbrev pub IsFit : SharedVolume → Task → Type 0
IsFit volume (There handle) = Unit {0}
IsFit volume (Here runner) = IsReady volume runner

-- the second task is of the same runner as the first
abbrev pub Moves : SharedVolume → Task → Task → Type 0
Moves volume u t = (IsFit volume u → IsFit volume t) × ((v : Runner) → IsTaskOf volume v u → IsTaskOf volume v t)

-- the task gives this runner
abbrev pub GivesRunner : Task → Runner → Type 0
GivesRunner t r = (volume : SharedVolume) (v : Runner) → IsTaskOf volume v t → Follows volume v r
