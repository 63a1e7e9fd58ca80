-- What the desk of a pass shows.
use Rattle.std.specs.Prelude.{Option}
use Rattle.fsa_types.specs.declared.reply.Out.{Out}
use Rattle.fsa_types.specs.declared.reply.Reply.{Reply}
use Rattle.fsa_types.specs.declared.reply.Why.{Why}
use Rattle.fsa_types.specs.declared.request.Call.{Call}
use Rattle.fsa_types.specs.declared.request.CallId.{CallId}
use Rattle.fsa_model.specs.History.{HistoryEntry}
use Rattle.fsa_model.specs.Setup.{Setup}
use Rattle.history_lock.specs.declared.machine.Machine.{Ghosts}
use Rattle.history_lock.specs.declared.pass.Pass.{Pass}
use Rattle.history_lock.specs.Lock.{known}
use Rattle.shared_volume.specs.declared.engine.Engine.{Engine}
use Rattle.shared_volume.specs.declared.shared.SharedVolume.{SharedVolume}
use Rattle.shared_volume.specs.Shared.{Known, setup_at}
use Rattle.client_run.specs.Desks.{DeskView}

-- what a pass knows, as what a desk shows
abbrev pub shown_by : Setup → Known → DeskView
shown_by setup v = record { setup = setup; client = v.own.client; made = v.own.mine; seen = v.own.seen; loads = v.loads; lost = v.lost }

abbrev pub view_of : {machine : Ghosts Engine Setup HistoryEntry Call Out Why CallId (Option Reply)} → SharedVolume → Pass Engine Setup HistoryEntry Call Out Why CallId (Option Reply) machine → DeskView
view_of volume pass = shown_by (setup_at volume) (known pass)
