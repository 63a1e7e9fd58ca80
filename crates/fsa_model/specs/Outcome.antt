-- What one try of a call comes to, and what a turn gives out.
use Rattle.std.specs.Prelude.{List}
use Rattle.fsa_types.specs.declared.status.Status.{Status}
use Rattle.fsa_types.specs.declared.request.CallId.{CallId}
use Rattle.fsa_types.specs.declared.reply.Reply.{Reply}
use Rattle.fsa_types.specs.declared.reply.Body.TheVariants.{Nothing}
use Rattle.fsa_types.specs.declared.reply.Answer.{Answer}
use Rattle.fsa_types.specs.declared.reply.EndOf.{EndOf}
use Rattle.fsa_types.specs.declared.reply.Interim.{Interim}
use Rattle.fsa_types.specs.declared.reply.Blocker.{Blocker}
use Rattle.fsa_types.specs.declared.reply.Out.{Out}
use Rattle.fsa_model.specs.Volume.{Volume}

-- the call has ended with this reply; or it is pending without blockers; or it is held until
-- the blockers are gone, and is tried again then
pub data Outcome : Type 0 where
  Done : Volume → Reply → Outcome
  Stay : Volume → Interim → Outcome
  Hold : Volume → List Blocker → Interim → Outcome

-- the call ends with this status and no body, and leaves this volume
abbrev pub ends_with : Volume → Status → Outcome
ends_with v status = Done v (record { status = status; body = Nothing })

-- the call is refused with this status, and the volume is as it was
abbrev pub refused : Volume → Status → Outcome
refused v status = ends_with v status

-- the answer to a turn's own call; the calls that ended in it besides that answer, in the order in which
-- they ended, the own call too where it was pending and ended in the settlement; and the calls that were
-- taken up and found no memory, in order
pub record TurnOut : Type 0 where
  pub answer : Answer
  pub ended : List EndOf
  pub starved : List CallId

-- what is given out, without the room of its lists
abbrev pub out_of : Out → TurnOut
out_of out = record { answer = out.answer; ended = out.ended.items; starved = out.starved.items }
