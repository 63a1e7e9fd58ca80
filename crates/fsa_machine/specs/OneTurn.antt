-- What one turn over a store asks of the volume and of its call, and what it leaves.
use Rattle.std.specs.Prelude.{◌≡◌, ℕ, ◌+◌, ◌<◌, ◌≤◌, Some, Result, IfErr, IfOk, OnErr, OnOk, length}
use Rattle.fsa_types.specs.declared.memory.NoMemory.{NoMemory}
use Rattle.fsa_types.specs.declared.reply.Out.{Out}
use Rattle.fsa_types.specs.declared.request.Call.{Call}
use Rattle.fsa_model.specs.Bounds.{most_entries}
use Rattle.fsa_model.specs.Engine.{own_tried}
use Rattle.fsa_model.specs.Once.{made, times}
use Rattle.fsa_model.specs.Outcome.{out_of}
use Rattle.fsa_model.specs.Settling.{MayTurn}
use Rattle.fsa_model.specs.Turn.{turn}
use Rattle.fsa_model.specs.Volume.{Volume}
use Rattle.fsa_machine.specs.Released.{how_many_let_go}
use Rattle.fsa_machine.specs.Serves.{MayTry, Serves, ServesOn}
use Rattle.fsa_machine.specs.declared.turns.MadeTurn.{MadeTurn}

-- a turn of this call can be made: it has a number, and it and the volume are as a try and a settlement need them
pub record CanTurn (v : Volume) (call : Call) : Type 0 where
  pub serves : Serves v
  pub may_try : MayTry v call
  pub number : 0 < call.number
  pub may : MayTurn v
  pub new : times call.client call.number v ≡ 0
  pub few : made v < most_entries

-- a turn of this call was made and gave this out, or there was no memory for the call and the volume is as it was; the
-- four numbers are the spare room for ends and for pending calls, before and after, and then come the steps
pub record TurnsOrStays {A : Type 0} (given : A → Out) (v w : Volume) (ends_before ends_now pending_before pending_now : ℕ) (call : Call) (steps steps_now : ℕ) (result : Result A (Call × NoMemory)) : Type 0 where
  pub ok : IfOk result (λ made. turn v call (given made).starved.items ≡ Some (record { volume = w; out = out_of (given made) }))
  pub serves : OnOk result (ServesOn v w)
  pub longer : OnOk result (length v.ended ≤ length w.ended)
  pub ends : ends_before + length v.ended ≤ ends_now + length w.ended
  pub pending : OnOk result (pending_before ≤ pending_now + 1)
  pub pending_kept : OnErr result (pending_before ≤ pending_now)
  pub err : IfErr result (λ back. (w ≡ v) × (back.0 ≡ call))
  pub tries : steps_now ≤ steps + (1 + how_many_let_go (own_tried v call))
  pub rises : steps ≤ steps_now

-- what is given out, where that is all
abbrev pub itself : Out → Out
itself out = out

-- the first of the two that are given out alike
abbrev pub first_out : Out × Out → Out
first_out outs = outs.0

-- what a turn that was made gives out
abbrev pub given_by : MadeTurn → Out
given_by made = made.given
