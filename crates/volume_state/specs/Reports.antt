-- What a call is answered for a report of changes.
use Rattle.std.specs.Prelude.{ℕ, List, Option, Some, None}
use Rattle.fsa_types.specs.declared.reply.Body.TheVariants.{Nothing, Packed}
use Rattle.fsa_types.specs.declared.reply.PackKind.TheVariants.{Changes}
use Rattle.fsa_types.specs.declared.reply.Reply.{Reply}
use Rattle.fsa_types.specs.declared.status.Status.TheVariants.{Success, NotifyEnumDir}

-- the bytes, where they are there; else the directory is to be listed
abbrev pub reply_of : Option (List ℕ) → Reply
reply_of (Some packed) = record { status = Success; body = Packed Changes packed }
reply_of None = record { status = NotifyEnumDir; body = Nothing }
