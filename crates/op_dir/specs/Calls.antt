-- The calls that list and watch a directory.
use Rattle.std.specs.Prelude.{ℕ}
use Rattle.fsa_types.specs.declared.request.Request.TheVariants.{QueryDir, Notify}
use Rattle.fsa_types.specs.declared.request.What.{What}
use Rattle.fsa_types.specs.declared.request.What.TheVariants.{Ask}
use Rattle.fsa_types.specs.declared.status.Status.TheVariants.{InvalidDeviceRequest}
use Rattle.fsa_model.specs.Outcome.{Outcome, refused}
use Rattle.fsa_model.specs.QueryDir.{try_query_dir}
use Rattle.fsa_model.specs.Volume.{Volume}
use Rattle.fsa_model.specs.Watching.{try_notify}

-- it is a QueryDir
abbrev pub IsQueryDir : What → Type 0
IsQueryDir (Ask (QueryDir handle kind expression restart room)) = Unit {0}
IsQueryDir _ = ⊥

-- one try of it; of no other call anything is said
abbrev pub asked_query_dir : Volume → ℕ → What → Outcome
asked_query_dir v client (Ask (QueryDir handle kind expression restart room)) = try_query_dir v client handle kind expression restart room
asked_query_dir v client _ = refused v InvalidDeviceRequest

-- it is a Notify
abbrev pub IsNotify : What → Type 0
IsNotify (Ask (Notify handle filter tree room)) = Unit {0}
IsNotify _ = ⊥

-- one try of it; of no other call anything is said
abbrev pub asked_notify : Volume → ℕ → What → Outcome
asked_notify v client (Ask (Notify handle filter tree room)) = try_notify v client handle filter tree room
asked_notify v client _ = refused v InvalidDeviceRequest
