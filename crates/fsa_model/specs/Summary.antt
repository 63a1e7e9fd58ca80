-- The summary of a history: how many turns it has, and how many calls ended with each status.
use Rattle.std.specs.Prelude.{ℕ, ◌==◌, List, [], ◌∷◌, ◌++◌, length, map, codes, decimal, if◌then◌else◌}
use Rattle.std.specs.List.{count_by, flat_map}
use Rattle.std.specs.Option.{option_map_or}
use Rattle.fsa_types.specs.Status.{status_code, status_name}
use Rattle.fsa_types.specs.declared.reply.Answer.{Answer}
use Rattle.fsa_types.specs.declared.reply.Answer.TheVariants.{Ended, Pending}
use Rattle.fsa_types.specs.declared.status.Status.{Status}
use Rattle.fsa_types.specs.declared.status.Status.TheVariants as status
use Rattle.fsa_model.specs.History.{HistoryEntry, run}
use Rattle.fsa_model.specs.Outcome.{TurnOut}
use Rattle.fsa_model.specs.Setup.{Script}

-- each status, by rising codes
abbrev pub statuses : List Status
statuses =
    status.Success ∷ status.Pending ∷ status.Reparse ∷ status.OplockBreakInProgress ∷ status.NotifyCleanup ∷ status.NotifyEnumDir
    ∷ status.OplockSwitchedToNewHandle ∷ status.OplockHandleClosed ∷ status.BufferOverflow ∷ status.NoMoreFiles ∷ status.StoppedOnSymlink
    ∷ status.InfoLengthMismatch ∷ status.InvalidHandle ∷ status.InvalidParameter ∷ status.NoSuchFile ∷ status.InvalidDeviceRequest
    ∷ status.EndOfFile ∷ status.AccessDenied ∷ status.BufferTooSmall ∷ status.ObjectNameInvalid ∷ status.ObjectNameNotFound
    ∷ status.ObjectNameCollision ∷ status.ObjectPathNotFound ∷ status.SharingViolation ∷ status.QuotaExceeded ∷ status.FileLockConflict
    ∷ status.LockNotGranted ∷ status.DeletePending ∷ status.RangeNotLocked ∷ status.DiskFull ∷ status.FileIsADirectory
    ∷ status.OplockNotGranted ∷ status.InvalidOplockProtocol ∷ status.DirectoryNotEmpty ∷ status.NotADirectory ∷ status.Cancelled
    ∷ status.CannotDelete ∷ status.InvalidLockRange ∷ status.TooManyLinks ∷ status.NotAReparsePoint ∷ status.IoReparseTagInvalid
    ∷ status.IoReparseTagMismatch ∷ status.IoReparseDataInvalid ∷ status.Stalled ∷ status.NoMemory
    ∷ []

-- the status with which the turn's own call ended
abbrev pub answer_statuses : Answer → List Status
answer_statuses (Ended reply) = reply.status ∷ []
answer_statuses (Pending interim) = []

-- the statuses with which calls ended in a turn
abbrev pub statuses_of : TurnOut → List Status
statuses_of out = answer_statuses out.answer ++ map (λ end. end.reply.status) out.ended

-- how many of these are this one
abbrev pub count_of : List Status → Status → ℕ
count_of ends this = count_by (λ end. status_code end == status_code this) ends

-- the line of a status, where calls ended with it
abbrev pub count_line : List Status → Status → List ℕ
count_line ends this = if count_of ends this == 0 then [] else status_name this ++ 32 ∷ decimal (count_of ends this) ++ 10 ∷ []

-- the summary of so many turns, in which calls ended with these statuses
abbrev pub summary_text : ℕ → List Status → List ℕ
summary_text turns ends = codes "turns " ++ decimal turns ++ 10 ∷ flat_map (count_line ends) statuses ++ codes "end" ++ 10 ∷ []

-- the summary of a history of a script
abbrev pub summary : Script → List HistoryEntry → List ℕ
summary script history = option_map_or (λ r. summary_text (length history) (flat_map statuses_of r.outs)) (run script.setup history) []
