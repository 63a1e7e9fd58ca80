-- The checks and breaks of a rename and of a link, in their order, and that each try of one comes to what they say. The first step that fails or
-- has to wait decides: a check that fails ends it, with its reply and nothing changed; breaks that it has to wait for hold it; where there is
-- neither, it succeeds. Where it isn't held it leaves all oplocks as it found them: a break by class NameChange that it needn't wait for changes
-- nothing. Comments say what has to hold, tables when it fails. Paths, walks, access lists, sets of handles and their breaks are as in `Paths`,
-- `Walk`, `Open`, `Lookups`, `Waits` and `Breaks`; what one that succeeds does to the tree stands in `TreeChanges`. After [MS-FSA] 'Server
-- Requests Setting of File Information', FileRenameInformation and FileLinkInformation. This project's own are the order of the checks, the rule
-- by which oplocks are broken and waited for, that a directory replaces nothing, that 1,024 links are the most, and `leave`.
use Rattle.std.specs.Option.{option_map_or}
use Rattle.std.specs.Prelude.{◌≡◌, ◌==◌, ◌&&◌, ◌||◌, not, ℕ, Bool, true, false, List, [], ◌∷◌, ◌++◌, length, All, Option, Some, None, is_some, nat_le, option_and_then, if◌then◌else◌}
use Rattle.fsa_types.specs.Access.{has_any}
use Rattle.fsa_types.specs.Masks.{APPEND_DATA, DELETE, WRITE_DATA}
use Rattle.fsa_types.specs.Paths.{components, path_fault, rest_of, stream_part}
use Rattle.fsa_types.specs.declared.oplock.Class.TheVariants.{NameChange}
use Rattle.fsa_types.specs.declared.oplock.HandleSet.{HandleSet}
use Rattle.fsa_types.specs.declared.oplock.HandleSet.TheVariants as set
use Rattle.fsa_types.specs.declared.reply.Reply.{Reply}
use Rattle.fsa_types.specs.declared.request.Call.{Call}
use Rattle.fsa_types.specs.declared.request.Request.TheVariants as request
use Rattle.fsa_types.specs.declared.request.What.{What}
use Rattle.fsa_types.specs.declared.request.What.TheVariants.{Ask}
use Rattle.fsa_types.specs.declared.status.Status.TheVariants.{Success, AccessDenied, DeletePending, FileIsADirectory, InvalidHandle, InvalidParameter, ObjectNameCollision, ObjectNameInvalid, TooManyLinks}
use Rattle.fsa_model.specs.Close.{named_stream}
use Rattle.fsa_model.specs.Coherence.{acting_handle, acting_key}
use Rattle.fsa_model.specs.History.{HistoryEntry}
use Rattle.fsa_model.specs.Lookups.{child_of, has_left, has_row, is_at_or_below, is_directory, is_link_marked, is_on, linked_file, links_of, parent_of}
use Rattle.fsa_model.specs.Open.{grants}
use Rattle.fsa_model.specs.Outcome.{Outcome, Done}
use Rattle.fsa_model.specs.Setup.{Setup}
use Rattle.fsa_model.specs.Tries.{Tried, tries_of}
use Rattle.fsa_model.specs.Try.{try}
use Rattle.fsa_model.specs.Volume.{Handle, Volume}
use Rattle.fsa_model.specs.Waits.{held_by, waits_for}
use Rattle.fsa_model.specs.Walk.{Walked, Reached, Barred, Diverted, last_name, point_of, walk}
use Rattle.history_laws.specs.OpenChecks.{is_read_only, stopped_by, with_status}
use Rattle.history_laws.specs.OplockChanges.{handle_numbered}

-- ---- steps

-- a check: whether it fails, and its reply then; or breaks, by class NameChange, of oplocks of other keys on these handles
pub data Step : Type 0 where
  Fails : Bool → Reply → Step
  Breaks : HandleSet → Step

-- it has succeeded, and left oplocks as they were
abbrev pub SucceedsWithoutBreaks : Volume → Outcome → Type 0
SucceedsWithoutBreaks v (Done next reply) = (reply ≡ with_status Success) × (next.oplocks ≡ v.oplocks)
SucceedsWithoutBreaks v _ = ⊥

-- what a request of these steps, by this handle (if there is one) and its key, came to, by the first of these: a check that fails ended it, with
-- the volume as it was; breaks that it has to wait for hold it; or else it has succeeded
abbrev pub EndsBySteps : Volume → Option ℕ → ℕ → List Step → Outcome → Type 0
EndsBySteps v acting key [] outcome = SucceedsWithoutBreaks v outcome
EndsBySteps v acting key (Fails fails reply ∷ more) outcome = (fails ≡ true → outcome ≡ Done v reply) × (fails ≡ false → EndsBySteps v acting key more outcome)
EndsBySteps v acting key (Breaks on ∷ more) outcome =
    (waits_for v on NameChange acting key ≡ true → outcome ≡ held_by v on NameChange acting key)
    × (waits_for v on NameChange acting key ≡ false → EndsBySteps v acting key more outcome)

-- ---- the steps of both

-- some handle of the set is open
abbrev pub is_any_there : Volume → HandleSet → Bool
is_any_there v on = has_row (is_on v on) v.handles

-- a path without a fault, that isn't the root's and has no stream part, not even `::$DATA`; then the walk: it leads to a directory, and then
-- come the steps there; or it is barred on the way, with the status of the walk; or a reparse point there stops it
abbrev pub steps_of_walked : Volume → List ℕ → (ℕ → List Step) → Walked → List Step
steps_of_walked v path there (Reached dir) = there dir
steps_of_walked v path there (Barred status) = Fails true (with_status status) ∷ []
steps_of_walked v path there (Diverted file next) = Fails true (stopped_by (point_of v file) (rest_of path next)) ∷ []

abbrev pub steps_of_path : Volume → List ℕ → (ℕ → List Step) → List Step
steps_of_path v path there =
    Fails (is_some (path_fault path) || length (components path) == 0 || is_some (stream_part path)) (with_status ObjectNameInvalid)
    ∷ steps_of_walked v path there (walk v (components path))

-- What has the new name may go: it isn't marked; a replacement is asked for; neither its file nor the handle's is a directory; its file isn't
-- READONLY, and grants DELETE; oplocks on handles opened by it are broken; and none of these is open
abbrev pub steps_of_replacing : Volume → Handle → Bool → ℕ → List Step
steps_of_replacing v handle replace replaced =
    Fails (is_link_marked v replaced) (with_status DeletePending)
    ∷ Fails (not replace) (with_status ObjectNameCollision)
    ∷ Fails (is_directory v.files (linked_file v replaced)) (with_status AccessDenied)
    ∷ Fails (is_directory v.files (linked_file v handle.link)) (with_status AccessDenied)
    ∷ Fails (is_read_only v (linked_file v replaced)) (with_status AccessDenied)
    ∷ Fails (not (grants v (linked_file v replaced) handle.client DELETE)) (with_status AccessDenied)
    ∷ Breaks (set.Link replaced)
    ∷ Fails (is_any_there v (set.Link replaced)) (with_status AccessDenied)
    ∷ []

-- ---- a rename

-- A directory: it goes neither into itself nor below itself; oplocks on handles below it are broken; and none of these is open
abbrev pub steps_of_directory : Volume → Handle → ℕ → List Step
steps_of_directory v handle dir =
    if is_directory v.files (linked_file v handle.link) then
    Fails (is_at_or_below v.links (linked_file v handle.link) dir) (with_status AccessDenied)
    ∷ Breaks (set.Below (linked_file v handle.link))
    ∷ Fails (is_any_there v (set.Below (linked_file v handle.link))) (with_status AccessDenied)
    ∷ []
    else []

-- another directory than the link's has to grant APPEND_DATA for a directory, and WRITE_DATA for a file
abbrev pub lacks_right_to_add : Volume → Handle → ℕ → Bool
lacks_right_to_add v handle dir =
    not (parent_of v handle.link == dir) && not (grants v dir handle.client (if is_directory v.files (linked_file v handle.link) then APPEND_DATA else WRITE_DATA))

-- a link in this directory that has the name, if it is another than the handle's
abbrev pub other_link : Volume → Handle → ℕ → List ℕ → Option ℕ
other_link v handle dir name = option_and_then (λ link. if link == handle.link then None else Some link) (child_of v dir name)

-- In this directory: where a directory is renamed, its steps; this directory lets it in; another link that has the name may go; and oplocks on
-- handles opened by the renamed link are broken
abbrev pub steps_of_renaming : Volume → Handle → Bool → List ℕ → ℕ → List Step
steps_of_renaming v handle replace name dir =
    steps_of_directory v handle dir
    ++ Fails (lacks_right_to_add v handle dir) (with_status AccessDenied)
    ∷ option_map_or (λ replaced. steps_of_replacing v handle replace replaced) (other_link v handle dir name) []
    ++ Breaks (set.Link handle.link)
    ∷ []

-- By this handle: it is neither the root's nor on a named stream; DELETE is granted to it; its link isn't marked; and then the path's
abbrev pub steps_of_rename : Volume → Handle → List ℕ → Bool → List Step
steps_of_rename v handle path replace =
    Fails (handle.link == 0 || is_some (named_stream v handle)) (with_status InvalidParameter)
    ∷ Fails (not (has_any handle.access DELETE)) (with_status AccessDenied)
    ∷ Fails (is_link_marked v handle.link) (with_status AccessDenied)
    ∷ steps_of_path v path (λ dir. steps_of_renaming v handle replace (last_name (components path)) dir)

-- ---- a link

-- In this directory: it grants WRITE_DATA; where the name is a link of the same file, a replacement is asked for (the link stays); another file's
-- link may go
abbrev pub steps_of_linking : Volume → Handle → Bool → List ℕ → ℕ → List Step
steps_of_linking v handle replace name dir =
    Fails (not (grants v dir handle.client WRITE_DATA)) (with_status AccessDenied)
    ∷ option_map_or
    (λ found. if linked_file v found == linked_file v handle.link then Fails (not replace) (with_status ObjectNameCollision) ∷ [] else steps_of_replacing v handle replace found)
    (child_of v dir name)
    []

-- By this handle: it is on the default stream of a file; its link isn't marked; the file has fewer than 1,024 links, marked ones counted; and
-- then the path's
abbrev pub steps_of_link : Volume → Handle → List ℕ → Bool → List Step
steps_of_link v handle path replace =
    Fails (not (is_some handle.stream)) (with_status FileIsADirectory)
    ∷ Fails (is_some (named_stream v handle)) (with_status InvalidParameter)
    ∷ Fails (is_link_marked v handle.link) (with_status AccessDenied)
    ∷ Fails (nat_le 1024 (links_of v (linked_file v handle.link)).1) (with_status TooManyLinks)
    ∷ steps_of_path v path (λ dir. steps_of_linking v handle replace (last_name (components path)) dir)

-- ---- how they end

-- the client hasn't left; and this handle is found, whose steps follow
abbrev pub steps_by : Volume → ℕ → Option Handle → (Handle → List Step) → List Step
steps_by v client found of_handle =
    Fails (has_left v client) (with_status InvalidHandle) ∷ option_map_or of_handle found (Fails true (with_status InvalidHandle) ∷ [])

-- what a rename and a link ask for: their handle, and its steps
abbrev pub steps_asked : Volume → What → Option (ℕ × (Handle → List Step))
steps_asked v (Ask (request.Rename number path replace)) = Some (number, λ handle. steps_of_rename v handle path replace)
steps_asked v (Ask (request.Link number path replace)) = Some (number, λ handle. steps_of_link v handle path replace)
steps_asked v _ = None

-- a try of this call came to this; where it is a rename or a link, that is what its steps say
abbrev pub NamingEndsBySteps : Volume → Call → Outcome → Type 0
NamingEndsBySteps v call outcome =
    (number : ℕ) (of_handle : Handle → List Step) → steps_asked v call.what ≡ Some (number, of_handle)
    → EndsBySteps v (acting_handle v call.client call.what) (acting_key v call.client call.what) (steps_by v call.client (handle_numbered v call.client number) of_handle) outcome

-- so it is in each try of a history
abbrev pub NamingsEndBySteps : Setup → List HistoryEntry → Type 0
NamingsEndBySteps setup history = All (λ (t : Tried). NamingEndsBySteps t.before t.call (try t.before t.call t.turn)) (tries_of setup history)
