-- The checks of an open, in their order, and that each try of an open ends as they say: by the first that fails, with its reply and nothing
-- changed; where none fails, with SUCCESS, OPLOCK_BREAK_IN_PROGRESS or SHARING_VIOLATION, or held. Comments say what has to hold, tables when it
-- fails, and how the open ends then. What a path has as its faults, components, rest and stream part, what generic rights stand for, which names
-- are the same, how a path is walked, and what an access list grants is as in `Paths`, `Access`, `Lookups`, `Walk` and `Open`. Handles and breaks
-- in the way of an open aren't spoken of here, but in `EndsAsFound`, `OplockChanges` and `WhyPending`. After [MS-FSA] 'Server Requests an Open of
-- a File', 'Creation of a New File', 'Open of an Existing File' and 'Algorithm to Check Access to an Existing File'. This project's own are the
-- order of the checks, which options and attributes there are, that a stream part excludes DIRECTORY_FILE, that a stream part or an overwrite is
-- of a file alone, that a new named stream asks for WRITE_DATA, that the root can't be deleted, and `leave`, which the standard doesn't have.
use Rattle.std.specs.Int.RustNames.{bit_or}
use Rattle.std.specs.Option.{option_map_or}
use Rattle.std.specs.Prelude.{◌≡◌, ◌==◌, ◌&&◌, ◌||◌, not, ℕ, Bool, true, false, List, [], ◌∷◌, ◌++◌, length, All, Option, Some, None, is_some, unwrap_or, if◌then◌else◌}
use Rattle.fsa_types.specs.Access.{has_any, has_other, map_generic}
use Rattle.fsa_types.specs.Masks.{APPEND_DATA, DELETE, DELETE_ON_CLOSE, DIRECTORY_FILE, HIDDEN, IO_REPARSE_TAG_SYMLINK, NON_DIRECTORY_FILE, OPEN_REPARSE_POINT, READONLY, SYSTEM, WRITE_DATA, known_attributes, known_options, known_rights, known_shares}
use Rattle.fsa_types.specs.Paths.{components, path_fault, rest_of, stream_part}
use Rattle.fsa_types.specs.Rows.{row_of}
use Rattle.fsa_types.specs.declared.reply.Body.TheVariants.{Nothing, Stopped}
use Rattle.fsa_types.specs.declared.reply.Reply.{Reply}
use Rattle.fsa_types.specs.declared.request.Call.{Call}
use Rattle.fsa_types.specs.declared.request.Disposition.{Disposition}
use Rattle.fsa_types.specs.declared.request.Disposition.TheVariants.{Supersede, OpenExisting, CreateNew, OpenIf, Overwrite, OverwriteIf}
use Rattle.fsa_types.specs.declared.request.Request.TheVariants as request
use Rattle.fsa_types.specs.declared.request.What.TheVariants.{Ask}
use Rattle.fsa_types.specs.declared.status.Status.{Status}
use Rattle.fsa_types.specs.declared.status.Status.TheVariants.{Success, OplockBreakInProgress, Reparse, StoppedOnSymlink, AccessDenied, CannotDelete, DeletePending, FileIsADirectory, InvalidHandle, InvalidParameter, NotADirectory, ObjectNameCollision, ObjectNameInvalid, ObjectNameNotFound, ObjectPathNotFound, SharingViolation}
use Rattle.fsa_model.specs.History.{HistoryEntry}
use Rattle.fsa_model.specs.Lookups.{attributes_of, child_of, has_left, is_directory, is_marked, stream_of}
use Rattle.fsa_model.specs.Open.{Asked, grants}
use Rattle.fsa_model.specs.Outcome.{Outcome, Done, Stay, Hold}
use Rattle.fsa_model.specs.Setup.{Setup}
use Rattle.fsa_model.specs.Tries.{Tried, tries_of}
use Rattle.fsa_model.specs.Try.{try}
use Rattle.fsa_model.specs.Volume.{Volume}
use Rattle.fsa_model.specs.Walk.{Walked, Reached, Barred, Diverted, last_name, point_of, walk}

-- ---- checks

-- whether it fails, and the reply then
abbrev pub Check : Type 0
Check = Bool × Reply

-- a reply of a status alone
abbrev pub with_status : Status → Reply
with_status status = record { status = status; body = Nothing }

-- the reply of the first check that fails
abbrev pub first_failing : List Check → Option Reply
first_failing [] = None
first_failing (check ∷ more) = if check.0 then Some check.1 else first_failing more

-- a reparse point stops an open, as a symbolic link or as another, and is told with what is left of the path; without one it would be
-- OBJECT_PATH_NOT_FOUND, but no check asks that
abbrev pub stopped_by : Option (ℕ × List ℕ) → List ℕ → Reply
stopped_by point rest =
    option_map_or (λ told. record { status = if told.0 == IO_REPARSE_TAG_SYMLINK then StoppedOnSymlink else Reparse; body = Stopped told.0 told.1 rest }) point
    (with_status ObjectPathNotFound)

-- ---- what is asked for

-- the right that a disposition needs to overwrite a stream
abbrev pub overwriting_right : Disposition → ℕ
overwriting_right Supersede = DELETE
overwriting_right OpenExisting = 0
overwriting_right CreateNew = 0
overwriting_right OpenIf = 0
overwriting_right Overwrite = WRITE_DATA
overwriting_right OverwriteIf = WRITE_DATA

-- it makes what is missing
abbrev pub makes_missing : Disposition → Bool
makes_missing OpenExisting = false
makes_missing Overwrite = false
makes_missing _ = true

-- it takes what is there
abbrev pub takes_existing : Disposition → Bool
takes_existing CreateNew = false
takes_existing _ = true

-- it overwrites what is there
abbrev pub is_overwriting : Disposition → Bool
is_overwriting Supersede = true
is_overwriting Overwrite = true
is_overwriting OverwriteIf = true
is_overwriting _ = false

abbrev pub has_option : Asked → ℕ → Bool
has_option asked option = has_any asked.options option

-- the path has a stream part, which may be `::$DATA`; and it is that of a named stream
abbrev pub has_stream_part : Asked → Bool
has_stream_part asked = is_some (stream_part asked.path)

abbrev pub is_for_named : Asked → Bool
is_for_named asked = option_map_or (λ name. not (length name == 0)) (stream_part asked.path) false

-- the file has HIDDEN or SYSTEM, and that one isn't asked for
abbrev pub lacks_hiding : ℕ → ℕ → Bool
lacks_hiding kept asked = (has_any kept HIDDEN && not (has_any asked HIDDEN)) || (has_any kept SYSTEM && not (has_any asked SYSTEM))

-- the file is READONLY
abbrev pub is_read_only : Volume → ℕ → Bool
is_read_only v file = has_any (attributes_of v file) READONLY

-- ---- the checks of each place

-- Before the walk: the client hasn't left; share, options and attributes have no unknown bit, and options exclude neither each other nor the
-- disposition; some right is wanted, and none that is unknown; DELETE is wanted where DELETE_ON_CLOSE is asked; the path has no fault and, with
-- DIRECTORY_FILE, no stream part, not even `::$DATA`
abbrev pub checks_of_request : Volume → Asked → List Check
checks_of_request v asked =
    (has_left v asked.client, with_status InvalidHandle)
    ∷ (has_other asked.share known_shares, with_status InvalidParameter)
    ∷ (has_other asked.options known_options, with_status InvalidParameter)
    ∷ (has_other asked.attributes known_attributes, with_status InvalidParameter)
    ∷ (has_option asked DIRECTORY_FILE && has_option asked NON_DIRECTORY_FILE, with_status InvalidParameter)
    ∷ (has_option asked DIRECTORY_FILE && is_overwriting asked.disposition, with_status InvalidParameter)
    ∷ (asked.wanted == 0, with_status AccessDenied)
    ∷ (has_other asked.wanted known_rights, with_status AccessDenied)
    ∷ (has_option asked DELETE_ON_CLOSE && not (has_any (map_generic asked.wanted) DELETE), with_status InvalidParameter)
    ∷ (is_some (path_fault asked.path), with_status ObjectNameInvalid)
    ∷ (has_stream_part asked && has_option asked DIRECTORY_FILE, with_status NotADirectory)
    ∷ []

-- A name that is missing from this directory: the disposition makes what is missing; READONLY isn't asked for with DELETE_ON_CLOSE; and
-- the directory grants APPEND_DATA for a directory and WRITE_DATA for a file
abbrev pub checks_of_missing : Volume → Asked → ℕ → List Check
checks_of_missing v asked dir =
    (not (makes_missing asked.disposition), with_status ObjectNameNotFound)
    ∷ (has_option asked DELETE_ON_CLOSE && has_any asked.attributes READONLY, with_status CannotDelete)
    ∷ (not (grants v dir asked.client (if has_option asked DIRECTORY_FILE then APPEND_DATA else WRITE_DATA)), with_status AccessDenied)
    ∷ []

-- A named stream that is missing from a file: the disposition makes what is missing; the file grants what is wanted, and WRITE_DATA; and it
-- isn't READONLY
abbrev pub checks_of_new_stream : Volume → Asked → ℕ → List Check
checks_of_new_stream v asked file =
    (not (makes_missing asked.disposition), with_status ObjectNameNotFound)
    ∷ (not (grants v file asked.client (bit_or (map_generic asked.wanted) WRITE_DATA)), with_status AccessDenied)
    ∷ (is_read_only v file, with_status AccessDenied)
    ∷ []

-- A stream that is there: a named one isn't marked, and the disposition takes it; the file grants what is wanted, and what the disposition
-- does to the stream; where it is READONLY, neither WRITE_DATA nor APPEND_DATA is wanted, nothing is overwritten, and DELETE_ON_CLOSE isn't
-- asked; an overwrite asks for each of HIDDEN and SYSTEM that the file has
abbrev pub checks_of_stream : Volume → Asked → ℕ → ℕ → List Check
checks_of_stream v asked file stream =
    (is_for_named asked && is_marked v stream, with_status DeletePending)
    ∷ (is_for_named asked && not (takes_existing asked.disposition), with_status ObjectNameCollision)
    ∷ (not (grants v file asked.client (bit_or (map_generic asked.wanted) (overwriting_right asked.disposition))), with_status AccessDenied)
    ∷ (is_read_only v file && has_any (map_generic asked.wanted) (bit_or WRITE_DATA APPEND_DATA), with_status AccessDenied)
    ∷ (is_read_only v file && is_overwriting asked.disposition, with_status AccessDenied)
    ∷ (is_read_only v file && has_option asked DELETE_ON_CLOSE, with_status CannotDelete)
    ∷ (is_overwriting asked.disposition && lacks_hiding (attributes_of v file) asked.attributes, with_status AccessDenied)
    ∷ []

-- A directory: nothing is asked that can be asked of a file alone; it grants what is wanted; and DELETE_ON_CLOSE is asked neither of the
-- root, which link 0 stands for, nor of one that is READONLY
abbrev pub checks_of_directory : Volume → Asked → ℕ → ℕ → List Check
checks_of_directory v asked link file =
    (has_option asked NON_DIRECTORY_FILE, with_status FileIsADirectory)
    ∷ (has_stream_part asked, with_status FileIsADirectory)
    ∷ (is_overwriting asked.disposition, with_status FileIsADirectory)
    ∷ (not (grants v file asked.client (map_generic asked.wanted)), with_status AccessDenied)
    ∷ (has_option asked DELETE_ON_CLOSE && (link == 0 || is_read_only v file), with_status CannotDelete)
    ∷ []

-- What is there: it has no reparse point, or OPEN_REPARSE_POINT is asked for; the disposition takes it, unless a named stream is asked for; it
-- is a directory where one is asked for; and then those of the directory, or of the stream, there or missing
abbrev pub checks_of_found : Volume → Asked → ℕ → ℕ → List Check
checks_of_found v asked link file =
    (is_some (point_of v file) && not (has_option asked OPEN_REPARSE_POINT), stopped_by (point_of v file) [])
    ∷ (not (takes_existing asked.disposition) && not (is_for_named asked), with_status ObjectNameCollision)
    ∷ (has_option asked DIRECTORY_FILE && not (is_directory v.files file), with_status NotADirectory)
    ∷ (if is_directory v.files file then checks_of_directory v asked link file
    else option_map_or (λ stream. checks_of_stream v asked file stream) (stream_of v file (unwrap_or (stream_part asked.path) [])) (checks_of_new_stream v asked file))

-- A name that is there: it isn't marked, and then those of what it names (each has a row, as the tree is sound)
abbrev pub checks_of_link : Volume → Asked → ℕ → List Check
checks_of_link v asked link =
    option_map_or (λ row. (row.deleted, with_status DeletePending) ∷ checks_of_found v asked link row.file) (row_of v.links link)
    ((true, with_status ObjectNameNotFound) ∷ [])

-- Where the path leads: to the root, which is file 1; to a name, there or missing; or it is barred on the way, with the status of the walk,
-- or stopped by a reparse point there, whatever the options
abbrev pub checks_of_walked : Volume → Asked → Walked → List Check
checks_of_walked v asked (Reached dir) =
    if length (components asked.path) == 0 then checks_of_found v asked 0 1
    else option_map_or (λ link. checks_of_link v asked link) (child_of v dir (last_name (components asked.path))) (checks_of_missing v asked dir)
checks_of_walked v asked (Barred status) = (true, with_status status) ∷ []
checks_of_walked v asked (Diverted file next) = (true, stopped_by (point_of v file) (rest_of asked.path next)) ∷ []

-- all checks of an open but those of handles and breaks, in order
abbrev pub checks_of : Volume → Asked → List Check
checks_of v asked = checks_of_request v asked ++ checks_of_walked v asked (walk v (components asked.path))

-- ---- how an open ends

-- the statuses behind these checks
abbrev pub is_behind_checks : Status → Bool
is_behind_checks Success = true
is_behind_checks OplockBreakInProgress = true
is_behind_checks SharingViolation = true
is_behind_checks _ = false

-- none of them has failed: it has ended with such a status, or is held; it isn't pending otherwise
abbrev pub IsBehindThem : Outcome → Type 0
IsBehindThem (Done next reply) = is_behind_checks reply.status ≡ true
IsBehindThem (Hold next blockers interim) = Unit {0}
IsBehindThem (Stay next interim) = ⊥

-- what an open came to, by the reply of its first failing check: where there is one, it ended with that, its status is none of those behind the
-- checks, and the volume is as it was; else it came to what there is behind them
abbrev pub EndsBy : Volume → Option Reply → Outcome → Type 0
EndsBy v (Some reply) outcome = (outcome ≡ Done v reply) × (is_behind_checks reply.status ≡ false)
EndsBy v None outcome = IsBehindThem outcome

-- a try of this call came to this; where it is an open, it ends by its checks
abbrev pub OpenEndsByChecks : Volume → Call → Outcome → Type 0
OpenEndsByChecks v call outcome =
    (path : List ℕ) (wanted share : ℕ) (disposition : Disposition) (options attributes key : ℕ)
    → call.what ≡ Ask (request.Create path wanted share disposition options attributes key)
    → EndsBy v
    (first_failing (checks_of v (record { client = call.client; number = call.number; path = path; wanted = wanted; share = share; disposition = disposition; options = options; attributes = attributes; key = key })))
    outcome

-- so it is in each try of a history
abbrev pub OpensEndByChecks : Setup → List HistoryEntry → Type 0
OpensEndByChecks setup history = All (λ (t : Tried). OpenEndsByChecks t.before t.call (try t.before t.call t.turn)) (tries_of setup history)
