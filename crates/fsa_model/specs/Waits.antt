-- Requests that wait for the oplock breaks that they began, after [MS-FSA] 'Algorithm to Check for an
-- Oplock Break'.
use Rattle.std.specs.Prelude.{ℕ, Bool, ◌==◌, not, map, length, Option}
use Rattle.fsa_types.specs.declared.oplock.Class.{Class}
use Rattle.fsa_types.specs.declared.oplock.HandleSet.{HandleSet}
use Rattle.fsa_types.specs.declared.reply.Blocker.TheVariants.{Break}
use Rattle.fsa_types.specs.declared.reply.Interim.TheVariants.{Held}
use Rattle.fsa_model.specs.Breaks.{with_breaks, awaited}
use Rattle.fsa_model.specs.Outcome.{Outcome, Hold}
use Rattle.fsa_model.specs.Volume.{Volume}

-- a request by this handle, where it has one, and with this key, waits for some break of this class
abbrev pub waits_for : Volume → HandleSet → Class → Option ℕ → ℕ → Bool
waits_for v on class acting key = not (length (awaited v on class acting key) == 0)

-- oplocks of these handles and of other keys are broken by this class, and the call is held until the
-- breaks that it waits for have ended
abbrev pub held_by : Volume → HandleSet → Class → Option ℕ → ℕ → Outcome
held_by v on class acting key = Hold (with_breaks v on class acting key) (map Break (awaited v on class acting key)) Held
