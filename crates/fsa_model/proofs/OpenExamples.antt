-- Opens worked by computation: two scripts, each open with the status and the action it ends with.
use Rattle.std.specs.Prelude.{◌≡◌, ℕ, true, List, [], ◌∷◌, ◌++◌, Option, Some, None, codes, refl}
use Rattle.fsa_types.specs.CaseTable.{ascii_pairs}
use Rattle.fsa_types.specs.declared.request.Disposition.{Disposition}
use Rattle.fsa_types.specs.declared.request.Disposition.TheVariants.{Supersede, OpenExisting, CreateNew, Overwrite, OverwriteIf}
use Rattle.fsa_types.specs.declared.reply.Action.{Action}
use Rattle.fsa_types.specs.declared.reply.Action.TheVariants as action
use Rattle.fsa_types.specs.declared.reply.Body.{Body}
use Rattle.fsa_types.specs.declared.reply.Body.TheVariants.{Opened}
use Rattle.fsa_types.specs.declared.status.Status.{Status}
use Rattle.fsa_types.specs.declared.status.Status.TheVariants.{Success, AccessDenied, ObjectNameNotFound, ObjectPathNotFound, ObjectNameCollision, SharingViolation, NotADirectory, FileIsADirectory, DeletePending}
use Rattle.fsa_model.specs.Edits.{with_bytes, with_link_marked}
use Rattle.fsa_model.specs.Open.{Asked, try_create, create_at, create_walked, create_named, create_by_link, create_found, create_there, create_in_file, create_stream, create_on_stream, open_stream, open_directory, open_granted, overwrite_existing, open_existing, clashed, create_missing, make_file, make_directory, stopped}
use Rattle.fsa_model.specs.Outcome.{Outcome, Done}
use Rattle.fsa_model.specs.Turn.{volume_after}
use Rattle.fsa_model.specs.Volume.{Volume, fresh}

-- an open, or another change of the volume between two opens
pub data Step : Type 0 where
  Ask : Asked → Step
  Make : (Volume → Volume) → Step

-- the status and the action, where there is one
abbrev pub action_of : Body → Option Action
action_of (Opened found) = Some found
action_of _ = None

abbrev pub answer : Outcome → List (Status × Option Action)
answer (Done v reply) = (reply.status, action_of reply.body) ∷ []
answer _ = []

abbrev pub answers : Volume → List Step → List (Status × Option Action)
answers v [] = []
answers v (Ask asked ∷ more) = answer (try_create v asked) ++ answers (volume_after (try_create v asked)) more
answers v (Make change ∷ more) = answers (change v) more

abbrev pub begun : Volume
begun = fresh (record { table = ascii_pairs; clients = record { name = codes "a"; sids = 7 ∷ [] } ∷ record { name = codes "b"; sids = 9 ∷ [] } ∷ [] })

abbrev pub open_by : ℕ → ℕ → List ℕ → ℕ → ℕ → Disposition → ℕ → ℕ → Step
open_by client number path wanted share disposition options attributes = Ask (record {
  client = client;
  number = number;
  path = path;
  wanted = wanted;
  share = share;
  disposition = disposition;
  options = options;
  attributes = attributes;
  key = 0;
})

-- hidden files, named streams with their own sharing, superseding and READONLY
pub dispositions_and_named_streams :
    answers begun (
    open_by 0 1 (codes "\\v") 0x3 0x7 CreateNew 0x0 0x2
    ∷ Make (λ v. with_bytes v 1 0 (1 ∷ 2 ∷ []))
    ∷ open_by 0 3 (codes "\\v") 0x3 0x7 Overwrite 0x0 0x0
    ∷ open_by 0 4 (codes "\\v") 0x3 0x7 OverwriteIf 0x0 0x2
    ∷ open_by 0 6 (codes "\\v:s") 0x2 0x7 OpenExisting 0x0 0x0
    ∷ open_by 0 7 (codes "\\v:s") 0x2 0x0 Supersede 0x0 0x0
    ∷ open_by 0 8 (codes "\\v::$data") 0x1 0x3 OpenExisting 0x0 0x0
    ∷ open_by 0 9 (codes "\\v:S") 0x2 0x7 OpenExisting 0x0 0x0
    ∷ open_by 0 10 (codes "\\v") 0x3 0x7 Supersede 0x0 0x3
    ∷ open_by 0 11 (codes "\\v") 0x2 0x7 OpenExisting 0x0 0x0
    ∷ [])
    ≡ (Success, Some action.Created)
    ∷ (AccessDenied, None)
    ∷ (Success, Some action.Overwritten)
    ∷ (ObjectNameNotFound, None)
    ∷ (Success, Some action.Created)
    ∷ (Success, Some action.Opened)
    ∷ (SharingViolation, None)
    ∷ (Success, Some action.Superseded)
    ∷ (AccessDenied, None)
    ∷ []
unfolding try_create create_at create_walked create_named create_by_link create_found create_there create_in_file create_stream create_on_stream open_stream open_directory open_granted overwrite_existing open_existing clashed create_missing make_file make_directory stopped
dispositions_and_named_streams = refl

-- a file on the way of a path, and opens that ask for the other kind
pub paths_and_kinds :
    answers begun (
    open_by 0 1 (codes "\\d") 0x1 0x7 CreateNew 0x1 0x0
    ∷ open_by 1 1 (codes "\\D\\x") 0x3 0x7 CreateNew 0x0 0x0
    ∷ open_by 1 2 (codes "\\d\\x\\y") 0x3 0x7 OpenExisting 0x0 0x0
    ∷ open_by 1 3 (codes "\\d") 0x1 0x7 OpenExisting 0x40 0x0
    ∷ open_by 1 4 (codes "\\d\\x") 0x1 0x7 OpenExisting 0x1 0x0
    ∷ open_by 1 5 (codes "\\") 0x1 0x7 OpenExisting 0x1 0x0
    ∷ open_by 1 6 (codes "\\") 0x1 0x7 CreateNew 0x1 0x0
    ∷ Make (λ v. with_link_marked v 2 true)
    ∷ open_by 1 7 (codes "\\d\\x") 0x1 0x7 OpenExisting 0x0 0x0
    ∷ [])
    ≡ (Success, Some action.Created)
    ∷ (Success, Some action.Created)
    ∷ (ObjectPathNotFound, None)
    ∷ (FileIsADirectory, None)
    ∷ (NotADirectory, None)
    ∷ (Success, Some action.Opened)
    ∷ (ObjectNameCollision, None)
    ∷ (DeletePending, None)
    ∷ []
unfolding try_create create_at create_walked create_named create_by_link create_found create_there create_in_file create_stream create_on_stream open_stream open_directory open_granted overwrite_existing open_existing clashed create_missing make_file make_directory stopped
paths_and_kinds = refl
