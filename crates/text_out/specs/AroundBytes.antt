-- The lines of a turn around the bytes that its answer gives.
use Rattle.std.specs.Prelude.{ℕ, List, [], ◌∷◌, ◌++◌, codes}
use Rattle.fsa_types.specs.Status.{status_name}
use Rattle.fsa_types.specs.declared.status.Status.{Status}
use Rattle.fsa_types.specs.declared.request.Call.{Call}
use Rattle.fsa_types.specs.declared.reply.EndOf.{EndOf}
use Rattle.fsa_model.specs.Setup.{Client}
use Rattle.fsa_model.specs.Text.{call_text, ended_lines}
use Rattle.fsa_model.specs.Verbs.{verb}

-- its answer up to the bytes
abbrev pub answer_begun : List Client → Call → Status → List ℕ
answer_begun clients call status = call_text clients call.client call.number ++ 32 ∷ status_name status ++ 32 ∷ []

-- all lines up to them
abbrev pub before_bytes : List Client → Call → Status → List ℕ
before_bytes clients call status =
    codes "> " ++ call_text clients call.client call.number ++ 32 ∷ verb call.what ++ 10 ∷ [] ++ answer_begun clients call status

-- and from behind them
abbrev pub after_bytes : List Client → List EndOf → List ℕ
after_bytes clients ended = 10 ∷ ended_lines clients ended
