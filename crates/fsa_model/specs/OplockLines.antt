-- The lines that ask for an oplock and acknowledge its break: what their fields say, and how they are written.
use Rattle.std.specs.Prelude.{ℕ, ◌&&◌, Bool, nat_le, List, ◌++◌, Result, Ok, Err, if◌then◌else◌, codes}
use Rattle.fsa_types.specs.Request.{level_fits}
use Rattle.fsa_types.specs.declared.request.Level.{Level}
use Rattle.fsa_types.specs.declared.request.Level.TheVariants.{Nil, R, RH, RW, RWH}
use Rattle.fsa_types.specs.declared.request.What.{What}
use Rattle.fsa_types.specs.declared.request.What.TheVariants.{Ask}
use Rattle.fsa_types.specs.declared.request.Request.TheVariants.{Oplock, Ack}
use Rattle.fsa_model.specs.Fault.{Kind, BadSyntax, ◌>>=◌, only_if}
use Rattle.fsa_model.specs.Words.{most_id, same, field_at, number_at, ended}
use Rattle.fsa_model.specs.FieldText.{number_text, level_text}

abbrev pub level_of_word : List ℕ → Result Level Kind
level_of_word word =
    if same word (codes "none") then Ok Nil
    else if same word (codes "r") then Ok R
    else if same word (codes "rh") then Ok RH
    else if same word (codes "rw") then Ok RW
    else if same word (codes "rwh") then Ok RWH
    else Err BadSyntax

unfoldable pub level_at : List ℕ → Result (Level × List ℕ) Kind
level_at bytes = do
  word ← field_at bytes
  level ← level_of_word word.0
  Ok (level, word.1)

-- handle, and the level that is asked for, which isn't `none`
unfoldable pub oplock_fields : List ℕ → Result What Kind
oplock_fields bytes = do
  handle ← number_at most_id bytes
  level ← level_at handle.1
  what ← only_if (level_fits level.0) (Ask (Oplock handle.0 level.0))
  ended level.1 what

-- handle, and the level that the holder keeps
unfoldable pub ack_fields : List ℕ → Result What Kind
ack_fields bytes = do
  handle ← number_at most_id bytes
  level ← level_at handle.1
  ended level.1 (Ask (Ack handle.0 level.0))

-- the fields of both
abbrev pub level_fields_text : ℕ → Level → List ℕ
level_fields_text handle level = number_text handle ++ level_text level

-- which requests of an oplock a line can say
abbrev pub is_oplock : ℕ → Level → Bool
is_oplock handle level = nat_le handle most_id && level_fits level
