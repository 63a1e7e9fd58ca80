-- What a try of an open does to oplocks is to break, by one class, those of the directory or the stream that its path names, or
-- nothing; where it is held, or ends with a status with which it ends behind its breaks alone, it has broken them, if it may
-- break any; and where it ends so, but not beside its breaks, it has to wait for none. Each definition of the open is followed
-- once; the set that its path names is known where its link's file is.
use Rattle.std.proofs.Common.{◌≡◌, ℕ, ◌+◌, Bool, true, false, ◌==◌, ◌&&◌, ◌||◌, not, List, [], ◌∷◌, length, refl, sym, ◌∙◌, Option, Some, None}
use Rattle.std.specs.Option.{option_map_or}
use Rattle.std.specs.Prelude.{if◌then◌else◌, is_some}
use Rattle.std.specs.Int.RustNames.{bit_or}
use Rattle.std.proofs.lemmas.Bool.{or_parts, not-false, not-true}
use Rattle.std.proofs.lemmas.List.Elements.{All-nil, All-cons}
use Rattle.fsa_types.specs.Access.{has_any}
use Rattle.fsa_types.specs.Masks.{APPEND_DATA, FILE_ACTION_ADDED, FILE_ACTION_ADDED_STREAM, FILE_ACTION_MODIFIED, FILE_ACTION_MODIFIED_STREAM, FILE_NOTIFY_CHANGE_DIR_NAME, FILE_NOTIFY_CHANGE_FILE_NAME, FILE_NOTIFY_CHANGE_STREAM_NAME, READONLY, WRITE_DATA}
use Rattle.fsa_types.specs.Paths.{components, path_fault, rest_of}
use Rattle.fsa_types.specs.Rows.{row_of}
use Rattle.fsa_types.specs.declared.oplock.Class.{Class}
use Rattle.fsa_types.specs.declared.oplock.Class.TheVariants.{Clash, Change, ReadOpen}
use Rattle.fsa_types.specs.declared.oplock.HandleSet.{HandleSet}
use Rattle.fsa_types.specs.declared.oplock.HandleSet.TheVariants as set
use Rattle.fsa_types.specs.declared.request.Call.{Call}
use Rattle.fsa_types.specs.declared.request.Disposition.{Disposition}
use Rattle.fsa_types.specs.declared.request.Request.TheVariants as request
use Rattle.fsa_types.specs.declared.request.What.{What}
use Rattle.fsa_types.specs.declared.request.What.TheVariants.{Ask}
use Rattle.fsa_types.specs.declared.status.Status.{Status}
use Rattle.fsa_model.specs.Breaks.{with_breaks}
use Rattle.fsa_model.specs.Changes.{with_change_noted}
use Rattle.fsa_model.specs.Coherence.{Where, set_of_file, set_of_link, set_of_path}
use Rattle.fsa_model.specs.Edits.{with_stream}
use Rattle.fsa_model.specs.Lookups.{attributes_of, child_of, clashes_on, is_directory, is_marked, stream_of}
use Rattle.fsa_model.specs.Open.{Asked, access_of, asks_for_file, clashed, completes_if_oplocked, create_at, create_by_link, create_found, create_in_file, create_missing, create_named, create_on_stream, create_stream, create_there, create_walked, deletes_on_close, grants, has_stream_part, is_invalid, is_other_kind, is_readonly, lacks_delete, make_directory, make_file, names_stream, only_makes, only_opens, open_directory, open_existing, open_granted, open_stream, open_waits, opens_point, overwrite_existing, overwrite_filters, overwrites, parent_right, replacing_right, stopped, stream_name, stream_overwrite_filters, try_create, uncovers, wants_directory, wants_file, wants_more, wants_no_right, with_directory_made, with_file_made, with_open, with_overwrite_noted, with_overwritten}
use Rattle.fsa_model.specs.Outcome.{Outcome, refused}
use Rattle.fsa_model.specs.Turn.{volume_after}
use Rattle.fsa_model.specs.Volume.{Link, Volume}
use Rattle.fsa_model.specs.Waits.{waits_for}
use Rattle.fsa_model.specs.Walk.{Walked, Reached, Barred, Diverted, last_name, point_of, walk}
use Rattle.fsa_model.proofs.CoherenceTied.{IsUntouched, IsUntouched-noted}
use Rattle.fsa_model.proofs.FaultStatuses.{stop-fails}
use Rattle.history_laws.specs.OplockChanges.{MayBreak, Opens, WherePast, breaks_by_open, class_of_open, ends_only_behind_breaks, ends_unawaited}
use Rattle.history_laws.proofs.SetsBroken.{BreaksSetsBy}

-- the open clashes with a handle of these
abbrev pub clashes : Volume → Asked → HandleSet → Bool
clashes v asked on = clashes_on v on (access_of asked) asked.share

-- the open may break no oplock: its path names no such set, or it breaks none of it
abbrev MayBreakNone : Volume → Asked → Type 0
MayBreakNone v asked = (on : HandleSet) → set_of_path v asked.path ≡ Some on → breaks_by_open (clashes v asked on) asked.disposition (access_of asked) ≡ false

-- the call's request
abbrev pub opens_so : Asked → What
opens_so asked = Ask (request.Create asked.path asked.wanted asked.share asked.disposition asked.options asked.attributes asked.key)

-- a try of the open that comes to this leaves oplocks as they are, and where it ends behind its breaks, or is held, it may break
-- none; or it breaks those of the set that its path names, and where it ends behind them, but not beside them, it waits for none
pub data BreaksNamed (v : Volume) (asked : Asked) (outcome : Outcome) : Type 0 where
  Nothing : (volume_after outcome).oplocks ≡ v.oplocks → WherePast (opens_so asked) (λ next. MayBreakNone v asked) outcome → BreaksNamed v asked outcome
  Named : (on : HandleSet) (class : Class) → set_of_path v asked.path ≡ Some on → class ≡ class_of_open (clashes v asked on) asked.disposition
      → breaks_by_open (clashes v asked on) asked.disposition (access_of asked) ≡ true → (volume_after outcome).oplocks ≡ (with_breaks v on class None asked.key).oplocks
      → Where (λ reply. ends_unawaited (opens_so asked) class reply.status) (λ (next : Volume). waits_for v on class None asked.key ≡ false) outcome → BreaksNamed v asked outcome

named-if : {v : Volume} {asked : Asked} (test : Bool) (one other : Outcome) → (test ≡ true → BreaksNamed v asked one) → (test ≡ false → BreaksNamed v asked other)
    → BreaksNamed v asked (if test then one else other)
named-if true one other holds fails = holds refl
named-if false one other holds fails = fails refl

named-option : {X : Type 0} {v : Volume} {asked : Asked} (found : Option X) (some : X → Outcome) (none : Outcome) → ((x : X) → found ≡ Some x → BreaksNamed v asked (some x))
    → (found ≡ None → BreaksNamed v asked none) → BreaksNamed v asked (option_map_or some found none)
named-option None some none with_some with_none = with_none refl
named-option (Some x) some none with_some with_none = with_some x refl

-- it is refused, by a status that comes before its breaks
refuses : {v : Volume} {asked : Asked} {status : Status} → ends_only_behind_breaks (opens_so asked) status ≡ false → BreaksNamed v asked (refused v status)
refuses other = Nothing refl (λ done. let no : false ≡ true = sym other ∙ done in cc)

-- its path names no set
nameless : (v : Volume) (asked : Asked) → set_of_path v asked.path ≡ None → MayBreakNone v asked
nameless v asked none on named = let no : None ≡ Some on = sym none ∙ named in cc

-- ---- changes noted leave oplocks

noted : (v : Volume) (link action bits : ℕ) (stream : Option ℕ) → (with_change_noted v link action bits stream).oplocks ≡ v.oplocks
noted v link action bits stream = IsUntouched.oplocks (IsUntouched-noted v link action bits stream)

overwritten : (v : Volume) (asked : Asked) (link file stream : ℕ) → (with_overwritten v asked link file stream).oplocks ≡ v.oplocks
overwritten v asked link file stream = go (names_stream asked.path)
  where
    go : (named : Bool) → (with_overwrite_noted v link stream named).oplocks ≡ v.oplocks
    go true = noted v link FILE_ACTION_MODIFIED_STREAM stream_overwrite_filters (Some stream)
    go false = noted v link FILE_ACTION_MODIFIED overwrite_filters None

-- ---- nothing breaks

stops : (v : Volume) (asked : Asked) (file : ℕ) (rest : List ℕ) → BreaksNamed v asked (stopped v file rest)
unfolding stopped
stops v asked file rest = named-option (point_of v file) _ _ (λ point is. Nothing refl (λ done. let no : false ≡ true = sym (stop-fails (ends_only_behind_breaks (opens_so asked)) point.0 refl refl) ∙ done in cc)) (λ isnt. refuses refl)

makes_directory : (v : Volume) (asked : Asked) (dir : ℕ) (name : List ℕ) → set_of_path v asked.path ≡ None → BreaksNamed v asked (make_directory v asked dir name)
unfolding make_directory
makes_directory v asked dir name none = Nothing (noted (with_open (with_directory_made v asked dir name) asked (v.last_link + 1) None) (v.last_link + 1) FILE_ACTION_ADDED FILE_NOTIFY_CHANGE_DIR_NAME None) (λ done. nameless v asked none)

makes_file : (v : Volume) (asked : Asked) (dir : ℕ) (name : List ℕ) → set_of_path v asked.path ≡ None → BreaksNamed v asked (make_file v asked dir name)
unfolding make_file
makes_file v asked dir name none =
    let both : Volume = with_open (with_stream (with_file_made v asked dir name) (v.last_file + 1) (stream_name asked.path)) asked (v.last_link + 1) (Some (v.last_stream + 2)) in
    let file : Volume = with_open (with_file_made v asked dir name) asked (v.last_link + 1) (Some (v.last_stream + 1)) in
    let named : Volume = with_change_noted both (v.last_link + 1) FILE_ACTION_ADDED FILE_NOTIFY_CHANGE_FILE_NAME None in
    named-if (names_stream asked.path) _ _
    (λ is. Nothing (noted named (v.last_link + 1) FILE_ACTION_ADDED_STREAM FILE_NOTIFY_CHANGE_STREAM_NAME (Some (v.last_stream + 2)) ∙ noted both (v.last_link + 1) FILE_ACTION_ADDED FILE_NOTIFY_CHANGE_FILE_NAME None) (λ done. nameless v asked none))
    (λ isnt. Nothing (noted file (v.last_link + 1) FILE_ACTION_ADDED FILE_NOTIFY_CHANGE_FILE_NAME None) (λ done. nameless v asked none))

misses : (v : Volume) (asked : Asked) (dir : ℕ) (name : List ℕ) → set_of_path v asked.path ≡ None → BreaksNamed v asked (create_missing v asked dir name)
unfolding create_missing
misses v asked dir name none =
    named-if (only_opens asked.disposition) _ _ (λ is. refuses refl) (λ isnt. named-if (deletes_on_close asked && has_any asked.attributes READONLY) _ _ (λ is. refuses refl) (λ isnt. named-if (not (grants v dir asked.client (parent_right asked))) _ _ (λ is. refuses refl)
    (λ isnt. named-if (wants_directory asked) _ _ (λ is. makes_directory v asked dir name none) (λ isnt. makes_file v asked dir name none))))

makes_stream : (v : Volume) (asked : Asked) (link file : ℕ) → set_of_path v asked.path ≡ None → BreaksNamed v asked (create_stream v asked link file)
unfolding create_stream
makes_stream v asked link file none =
    named-if (only_opens asked.disposition) _ _ (λ is. refuses refl) (λ isnt. named-if (not (grants v file asked.client (bit_or (access_of asked) WRITE_DATA))) _ _ (λ is. refuses refl) (λ isnt. named-if (is_readonly v file) _ _ (λ is. refuses refl) (λ isnt. Nothing
    (noted (with_open (with_stream v file (stream_name asked.path)) asked link (Some (v.last_stream + 1))) link FILE_ACTION_ADDED_STREAM FILE_NOTIFY_CHANGE_STREAM_NAME (Some (v.last_stream + 1))) (λ done. nameless v asked none))))

-- ---- the set is known

-- it clashes
clashes_so : (v : Volume) (asked : Asked) (on : HandleSet) → set_of_path v asked.path ≡ Some on → clashes v asked on ≡ true → BreaksNamed v asked (clashed v on asked.key)
unfolding clashed
clashes_so v asked on named clash =
    named-if (open_waits v on Clash asked.key) _ _ (λ is. Named on Clash named (rw clash refl) (rw clash refl) refl tt) (λ isnt. Named on Clash named (rw clash refl) (rw clash refl) refl (λ ends. isnt))

-- it is opened as it is
existing : (v : Volume) (asked : Asked) (link : ℕ) (stream : Option ℕ) (on : HandleSet) → set_of_path v asked.path ≡ Some on → clashes v asked on ≡ false → overwrites asked.disposition ≡ false
    → BreaksNamed v asked (open_existing v asked link stream on)
unfolding open_existing
existing v asked link stream on named free keeps =
    named-if (not (wants_more asked)) _ _ (λ less. Nothing refl (λ done. none less))
    (λ more. named-if (not (open_waits v on ReadOpen asked.key)) _ _ (λ is. Named on ReadOpen named class (breaks more) refl (λ ends. not-true (open_waits v on ReadOpen asked.key) is))
    (λ isnt. named-if (completes_if_oplocked asked) _ _ (λ is. Named on ReadOpen named class (breaks more) refl (λ beside. (let impossible = rw is at beside in cc))) (λ isnt. Named on ReadOpen named class (breaks more) refl tt)))
  where
    class : ReadOpen ≡ class_of_open (clashes v asked on) asked.disposition
    class = rw (free, keeps) refl

    breaks : not (wants_more asked) ≡ false → breaks_by_open (clashes v asked on) asked.disposition (access_of asked) ≡ true
    breaks more = rw (free, keeps) (not-false (wants_more asked) more)

    none : not (wants_more asked) ≡ true → MayBreakNone v asked
    none fewer other named_so =
        let both : Some other ≡ Some on = sym named_so ∙ named in let same : other ≡ on = cc in
        rw (same, free, keeps) (not-true (wants_more asked) fewer)

-- it is overwritten
overwrites_so : (v : Volume) (asked : Asked) (link file stream : ℕ) → set_of_path v asked.path ≡ Some (set.Stream stream) → clashes v asked (set.Stream stream) ≡ false
    → overwrites asked.disposition ≡ true → BreaksNamed v asked (overwrite_existing v asked link file stream)
unfolding overwrite_existing
overwrites_so v asked link file stream named free over =
    named-if (open_waits v (set.Stream stream) Change asked.key) _ _ (λ is. Named (set.Stream stream) Change named (rw (free, over) refl) (rw (free, over) refl) refl tt)
    (λ isnt. Named (set.Stream stream) Change named (rw (free, over) refl) (rw (free, over) refl)
    (overwritten (with_open (with_breaks v (set.Stream stream) Change None asked.key) asked link (Some stream)) asked link file stream) (λ ends. isnt))

-- ---- what is there

directory : (v : Volume) (asked : Asked) (link file : ℕ) → set_of_path v asked.path ≡ Some (set.Link link) → overwrites asked.disposition ≡ false → BreaksNamed v asked (open_directory v asked link file)
unfolding open_directory open_granted
directory v asked link file named keeps =
    named-if (not (grants v file asked.client (access_of asked))) _ _ (λ is. refuses refl) (λ isnt. named-if (deletes_on_close asked && (link == 0 || is_readonly v file)) _ _ (λ is. refuses refl)
    (λ isnt. named-if (clashes v asked (set.Link link)) _ _ (λ clash. clashes_so v asked (set.Link link) named clash) (λ free. existing v asked link None (set.Link link) named free keeps)))

on_stream : (v : Volume) (asked : Asked) (link file stream : ℕ) → set_of_path v asked.path ≡ Some (set.Stream stream) → BreaksNamed v asked (open_stream v asked link file stream)
unfolding open_stream
on_stream v asked link file stream named =
    named-if (clashes v asked (set.Stream stream)) _ _ (λ clash. clashes_so v asked (set.Stream stream) named clash)
    (λ free. named-if (overwrites asked.disposition) _ _ (λ over. overwrites_so v asked link file stream named free over)
    (λ keeps. existing v asked link (Some stream) (set.Stream stream) named free keeps))

stream_there : (v : Volume) (asked : Asked) (link file stream : ℕ) → set_of_path v asked.path ≡ Some (set.Stream stream) → BreaksNamed v asked (create_on_stream v asked link file stream)
unfolding create_on_stream
stream_there v asked link file stream named =
    named-if (names_stream asked.path && is_marked v stream) _ _ (λ is. refuses refl) (λ isnt. named-if (names_stream asked.path && only_makes asked.disposition) _ _ (λ is. refuses refl) (λ isnt. named-if (not (grants v file asked.client (bit_or (access_of asked) (replacing_right asked.disposition)))) _ _ (λ is. refuses refl) (λ isnt. named-if (is_readonly v file && (has_any (access_of asked) (bit_or WRITE_DATA APPEND_DATA) || overwrites asked.disposition)) _ _ (λ is. refuses refl)
    (λ isnt. named-if (is_readonly v file && deletes_on_close asked) _ _ (λ is. refuses refl) (λ isnt. named-if (overwrites asked.disposition && uncovers (attributes_of v file) asked.attributes) _ _ (λ is. refuses refl) (λ isnt. on_stream v asked link file stream named))))))

in_file : (v : Volume) (asked : Asked) (link file : ℕ) → is_directory v.files file ≡ false → set_of_path v asked.path ≡ set_of_file v asked.path link file
    → BreaksNamed v asked (create_in_file v asked link file)
unfolding create_in_file
in_file v asked link file a_file named =
    named-option (stream_of v file (stream_name asked.path)) _ _ (λ stream is. stream_there v asked link file stream (named ∙ rw (a_file, is) refl)) (λ isnt. makes_stream v asked link file (named ∙ rw (a_file, isnt) refl))

there : (v : Volume) (asked : Asked) (link file : ℕ) → set_of_path v asked.path ≡ set_of_file v asked.path link file → BreaksNamed v asked (create_there v asked link file)
unfolding create_there
there v asked link file named =
    named-if (only_makes asked.disposition && not (names_stream asked.path)) _ _ (λ is. refuses refl) (λ isnt. named-if (is_other_kind asked (is_directory v.files file)) _ _ (λ is. refuses refl)
    (λ isnt. named-if (is_directory v.files file && asks_for_file asked) _ _ (λ is. refuses refl)
    (λ fits. named-if (is_directory v.files file) _ _ (λ dir. directory v asked link file (named ∙ rw dir refl) (keeps dir fits)) (λ a_file. in_file v asked link file a_file named))))
  where
    keeps : is_directory v.files file ≡ true → (is_directory v.files file && asks_for_file asked) ≡ false → overwrites asked.disposition ≡ false
    keeps dir fits = (or_parts (wants_file asked || has_stream_part asked.path) (overwrites asked.disposition) (rw dir at fits)).1

found : (v : Volume) (asked : Asked) (link file : ℕ) → set_of_path v asked.path ≡ set_of_file v asked.path link file → BreaksNamed v asked (create_found v asked link file)
unfolding create_found
found v asked link file named = named-if (is_some (point_of v file) && not (opens_point asked)) _ _ (λ is. stops v asked file []) (λ isnt. there v asked link file named)

-- ---- the last name, and the path

by_link : (v : Volume) (asked : Asked) (link : ℕ) → set_of_path v asked.path ≡ set_of_link v asked.path link → BreaksNamed v asked (create_by_link v asked link)
unfolding create_by_link
by_link v asked link named =
    named-option (row_of v.links link) _ _ (λ (row : Link) is. named-if row.deleted _ _ (λ deleted. refuses refl) (λ living. found v asked link row.file (named ∙ rw is refl))) (λ isnt. refuses refl)

by_name : (v : Volume) (asked : Asked) (dir : ℕ) → walk v (components asked.path) ≡ Reached dir → (length (components asked.path) == 0) ≡ false
    → BreaksNamed v asked (create_named v asked dir (last_name (components asked.path)))
unfolding create_named
by_name v asked dir reached below =
    named-option (child_of v dir (last_name (components asked.path))) _ _ (λ link is. by_link v asked link (rw (reached, below, is) refl)) (λ isnt. misses v asked dir (last_name (components asked.path)) (rw (reached, below, isnt) refl))

walked-so : (v : Volume) (asked : Asked) (walked : Walked) → walk v (components asked.path) ≡ walked → BreaksNamed v asked (create_walked v asked walked)
unfolding create_walked
walked-so v asked (Reached dir) reached =
    named-if (length (components asked.path) == 0) _ _ (λ root. found v asked 0 1 (rw (reached, root) refl)) (λ below. by_name v asked dir reached below)
walked-so v asked (Barred status) reached = Nothing refl (λ done. nameless v asked (rw reached refl))
walked-so v asked (Diverted file next) reached = stops v asked file (rest_of asked.path next)

pub named-create : (v : Volume) (asked : Asked) → BreaksNamed v asked (try_create v asked)
unfolding try_create create_at
named-create v asked =
    named-if (is_invalid asked) _ _ (λ is. refuses refl) (λ isnt. named-if (wants_no_right asked) _ _ (λ is. refuses refl) (λ isnt. named-if (lacks_delete asked) _ _ (λ is. refuses refl) (λ isnt. named-if (is_some (path_fault asked.path)) _ _ (λ is. refuses refl)
    (λ isnt. named-if (has_stream_part asked.path && wants_directory asked) _ _ (λ is. refuses refl) (λ isnt. walked-so v asked (walk v (components asked.path)) refl)))))

-- ---- what a try of an open breaks

pub open-breaks : (v : Volume) (call : Call) (path : List ℕ) (wanted share : ℕ) (disposition : Disposition) (options attributes key : ℕ)
    → call.what ≡ Ask (request.Create path wanted share disposition options attributes key)
    → BreaksSetsBy v call (try_create v (record { client = call.client; number = call.number; path = path; wanted = wanted; share = share; disposition = disposition; options = options; attributes = attributes; key = key }))
open-breaks v call path wanted share disposition options attributes key is = sets (named-create v asked)
  where
    asked : Asked
    asked = record { client = call.client; number = call.number; path = path; wanted = wanted; share = share; disposition = disposition; options = options; attributes = attributes; key = key }

    sets : {outcome : Outcome} → BreaksNamed v asked outcome → BreaksSetsBy v call outcome
    sets (Nothing oplocks none) = record { class = Change; sets = []; may = All-nil (λ on. MayBreak v call Change on); oplocks = oplocks }
    sets (Named on class named of_open breaks oplocks waits) = record {
      class = class;
      sets = on ∷ [];
      may = All-cons (λ on. MayBreak v call class on) on [] (Opens path wanted share disposition options attributes key is named of_open breaks) (All-nil (λ on. MayBreak v call class on));
      oplocks = rw is oplocks;
    }
