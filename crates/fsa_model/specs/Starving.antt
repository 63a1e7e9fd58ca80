-- Calls that end since they found no memory, or since all clients wait: only a settlement ends one so, and no try.
use Rattle.std.specs.List.{list_any}
use Rattle.std.specs.Prelude.{◌≡◌, ◌||◌, Bool, true, false, List, [], ◌∷◌, ◌++◌, if◌then◌else◌}
use Rattle.fsa_types.specs.declared.reply.EndOf.{EndOf}
use Rattle.fsa_types.specs.declared.request.CallId.{CallId}
use Rattle.fsa_types.specs.declared.status.Status.{Status}
use Rattle.fsa_types.specs.declared.status.Status.TheVariants.{NoMemory, Stalled}
use Rattle.fsa_model.specs.Outcome.{Outcome, Done, Stay, Hold}
use Rattle.fsa_model.specs.Volume.{Volume}

-- the status of a call that found no memory
abbrev pub is_no_memory : Status → Bool
is_no_memory NoMemory = true
is_no_memory _ = false

-- the status of a wait that ended since all clients waited
abbrev pub is_stalled : Status → Bool
is_stalled Stalled = true
is_stalled _ = false

-- either of these
abbrev pub only_settlements_give : Status → Bool
only_settlements_give status = is_no_memory status || is_stalled status

-- the calls among these that found no memory, in order
abbrev pub starved_of : List EndOf → List CallId
starved_of [] = []
starved_of (end ∷ more) =
    if is_no_memory end.reply.status then record { client = end.client; number = end.number } ∷ starved_of more else starved_of more

-- further calls have ended, and none of them with such a status
pub record EndsPlain (v w : Volume) : Type 0 where
  pub more : List EndOf
  pub is : w.ended ≡ v.ended ++ more
  pub plain : list_any (λ end. only_settlements_give end.reply.status) more ≡ false

-- so it is after a try, and its own call, where it ended, didn't either
abbrev pub EndsPlainly : Volume → Outcome → Type 0
EndsPlainly v (Done w reply) = EndsPlain v w × (only_settlements_give reply.status ≡ false)
EndsPlainly v (Stay w interim) = EndsPlain v w
EndsPlainly v (Hold w blockers interim) = EndsPlain v w

pub record TriesPlain (v : Volume) (outcome : Outcome) : Type 0 where
  pub so : EndsPlainly v outcome
