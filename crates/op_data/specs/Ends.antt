-- How a read, a write or a new length ends.
use Rattle.std.specs.Prelude.{◌≡◌, Result, Ok, Err}
use Rattle.fsa_types.specs.declared.reply.Body.{Body}
use Rattle.fsa_types.specs.declared.status.Status.{Status}
use Rattle.fsa_types.specs.declared.status.Status.TheVariants.{Success}
use Rattle.fsa_model.specs.Outcome.{Outcome, Done, refused}
use Rattle.fsa_model.specs.Volume.{Volume}

-- it succeeds with this body, or is refused with this status, and leaves the volume so
abbrev pub Ends : Outcome → Volume → Result Body Status → Type 0
Ends outcome new (Ok body) = outcome ≡ Done new (record { status = Success; body = body })
Ends outcome new (Err status) = outcome ≡ refused new status
