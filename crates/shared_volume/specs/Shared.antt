-- What clauses read of a volume and of a pass, and what the calls make of what a pass knows.
use Rattle.std.specs.Prelude.{◌≡◌, ℕ, ◌+◌, ◌≤◌, Bool, true, false, List, [], ◌∷◌, ◌++◌, length, Option}
use Rattle.std.specs.List.{list_any}
use Rattle.fsa_types.specs.declared.reply.Answer.{Answer}
use Rattle.fsa_types.specs.declared.reply.Out.{Out}
use Rattle.fsa_types.specs.declared.reply.Reply.{Reply}
use Rattle.fsa_types.specs.declared.reply.Why.{Why}
use Rattle.fsa_types.specs.declared.request.Call.{Call}
use Rattle.fsa_types.specs.declared.request.CallId.{CallId}
use Rattle.fsa_types.specs.declared.request.What.{What}
use Rattle.fsa_types.specs.declared.request.What.TheVariants.{WaitFor}
use Rattle.fsa_types.specs.declared.status.Status.{Status}
use Rattle.fsa_model.specs.Frame.{is_leave}
use Rattle.fsa_model.specs.History.{HistoryEntry}
use Rattle.fsa_model.specs.Setup.{Setup}
use Rattle.history_laws.specs.CallAnswers.{HasEnded, LastTurnAnswered}
use Rattle.history_laws.specs.WaitEnds.{wait_may_end}
use Rattle.history_lock.specs.declared.machine.Machine.{Ghosts}
use Rattle.history_lock.specs.declared.pass.Pass.{Pass}
use Rattle.history_lock.specs.declared.view.View.{View}
use Rattle.history_lock.specs.History.{Begins}
use Rattle.history_lock.specs.Lock.{base_of, IsPassOf}
use Rattle.history_lock.specs.Passes.{Makes}
use Rattle.shared_volume.specs.declared.engine.Engine.{Engine}
use Rattle.shared_volume.specs.declared.shared.SharedVolume.{SharedVolume}
use Rattle.shared_volume.specs.Engines.{setup_in_engine}
use Rattle.shared_volume.specs.Histories.{IsMachineHistory}

-- the setup with which the volume was made
abbrev pub setup_at : SharedVolume → Setup
setup_at volume = base_of setup_in_engine volume.lock

-- what a pass knows of a volume
abbrev pub Known : Type 0
Known = View Setup HistoryEntry Call

-- it is a pass of this volume, for one of its clients, and has seen a history
abbrev pub IsPass : {machine : Ghosts Engine Setup HistoryEntry Call Out Why CallId (Option Reply)} → SharedVolume → Pass Engine Setup HistoryEntry Call Out Why CallId (Option Reply) machine → Type 0
IsPass volume pass = IsPassOf setup_in_engine IsMachineHistory volume.lock pass

abbrev pub entry_call : HistoryEntry → Call
entry_call entry = entry.call

abbrev pub call_client : Call → ℕ
call_client call = call.client

-- the client made its next call, which has this number and was answered so
pub record Submits (setup : Setup) (what : What) (number : ℕ) (answer : Answer) (v w : Known) : Type 0 where
  pub makes : Makes entry_call (record { client = v.own.client; number = number; what = what }) v w
  pub count : number ≡ length w.own.mine
  pub answers : LastTurnAnswered setup w.own.seen answer

-- no call was made, and what is seen begins with what had been seen; the two counts don't fall
pub record OnlySees (v w : Known) : Type 0 where
  pub seen : Begins v.own.seen w.own.seen
  pub loads : v.loads ≤ w.loads
  pub lost : v.lost ≤ w.lost
  pub view : w ≡ record v { own = record v.own { seen = w.own.seen }; loads = w.loads; lost = w.lost }

-- the last call that the client made is a wait, and this is its number
pub record EndsInWait (mine : List Call) (client number : ℕ) : Type 0 where
  pub before : List Call
  pub earlier : ℕ
  pub is : mine ≡ before ++ record { client = client; number = number; what = WaitFor earlier } ∷ []

-- the client's leaving is among its calls
abbrev pub has_leaving : List Call → Bool
has_leaving mine = list_any (λ call. is_leave call.what) mine

-- SUCCESS, STALLED or INVALID_PARAMETER; or INVALID_HANDLE, where the client has left
abbrev pub IsStatusOfWait : List Call → Status → Type 0
IsStatusOfWait mine status = wait_may_end (has_leaving mine) false status ≡ true

-- the client made one call more, a wait for its call of this number, which has ended in what is seen now with this status
pub record WaitsFor (setup : Setup) (number : ℕ) (status : Status) (v w : Known) : Type 0 where
  pub between : Known
  pub before : Known
  pub lost : v.lost ≤ before.lost
  pub is : before ≡ record v { lost = before.lost }
  pub makes : Makes entry_call (record { client = v.own.client; number = length v.own.mine + 1; what = WaitFor number }) before between
  pub sees : OnlySees between w
  pub reply : Reply
  pub ended : HasEnded setup w.own.seen v.own.client (length v.own.mine + 1) reply
  pub so : reply.status ≡ status
  -- SUCCESS, STALLED or INVALID_PARAMETER, where the client hasn't left
  pub few : IsStatusOfWait v.own.mine status
