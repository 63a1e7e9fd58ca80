-- A try of an open leaves just what its changes leave. Each definition of the open is followed once, with what is found on the way
-- to it: a file or a directory, or a stream, that it makes, and the stream that it overwrites, are the ones that its path names. The
-- handle that it opens, and the breaks that it begins, are no files, links or streams, and nothing is noted of them.
use Rattle.std.proofs.Common.{◌≡◌, ℕ, ◌+◌, Bool, true, false, ◌==◌, not, List, [], ◌∷◌, ◌++◌, length, refl, sym, ◌∙◌, append-nil, arith, inl, inr, Option, Some, None}
use Rattle.std.specs.Option.{option_map_or}
use Rattle.std.specs.Prelude.{if◌then◌else◌}
use Rattle.std.proofs.lemmas.Bool.{false≢true}
use Rattle.fsa_types.specs.Masks.{FILE_ACTION_ADDED, FILE_ACTION_ADDED_STREAM, FILE_NOTIFY_CHANGE_FILE_NAME, FILE_NOTIFY_CHANGE_STREAM_NAME}
use Rattle.fsa_types.specs.Paths.{components, rest_of}
use Rattle.fsa_types.specs.Rows.{row_of}
use Rattle.fsa_types.specs.declared.oplock.Class.{Class}
use Rattle.fsa_types.specs.declared.oplock.Class.TheVariants.{Clash, Change, ReadOpen}
use Rattle.fsa_types.specs.declared.oplock.HandleSet.{HandleSet}
use Rattle.fsa_types.specs.declared.oplock.HandleSet.TheVariants as set
use Rattle.fsa_types.specs.declared.reply.Action.TheVariants as action
use Rattle.fsa_types.specs.declared.reply.Body.TheVariants.{Nothing, Opened, Stopped}
use Rattle.fsa_types.specs.declared.request.Disposition.{Disposition}
use Rattle.fsa_types.specs.declared.request.Disposition.TheVariants.{Supersede}
use Rattle.fsa_types.specs.declared.request.Request.TheVariants as request
use Rattle.fsa_types.specs.declared.request.What.TheVariants.{Ask}
use Rattle.fsa_types.specs.declared.status.Status.{Status}
use Rattle.fsa_types.specs.declared.status.Status.TheVariants.{OplockBreakInProgress, SharingViolation, Success}
use Rattle.fsa_model.specs.Breaks.{with_breaks}
use Rattle.fsa_model.specs.Changes.{seen_from, stream_suffix, with_change_noted}
use Rattle.fsa_model.specs.Coherence.{IsTied}
use Rattle.fsa_model.specs.Edits.{with_stream}
use Rattle.fsa_model.specs.Lookups.{child_of, is_directory, stream_of}
use Rattle.fsa_model.specs.Open.{Asked, clashed, completes_if_oplocked, create_at, create_by_link, create_found, create_in_file, create_missing, create_named, create_on_stream, create_stream, create_there, create_walked, file_attributes, held, kept_attributes, make_directory, make_file, names_stream, new_file, open_directory, open_existing, open_granted, open_stream, open_waits, opened, opens, overwrite_action, overwrite_existing, stop_status, stopped, stream_name, try_create, wants_directory, wants_more, with_file_made, with_new_directory, with_new_file, with_new_file_and_stream, with_new_stream, with_open}
use Rattle.fsa_model.specs.Outcome.{Outcome, refused}
use Rattle.fsa_model.specs.Volume.{Link, Volume}
use Rattle.fsa_model.specs.Volume as volume
use Rattle.fsa_model.specs.Walk.{Walked, Reached, Barred, Diverted, last_name, point_of, walk}
use Rattle.fsa_model.proofs.RowLaws.{option_cases}
use Rattle.history_laws.specs.TreeChanges.{LeavesChanges, SameTree, TreeChange, MakesDirectory, MakesFile, MakesStream, Overwrites, changes_opening, made_in, made_under, overwritten_in, where_reached, where_success, with_tree_change, with_tree_changes}
use Rattle.history_laws.proofs.SetsByOpens.{opens_so}
use Rattle.history_laws.proofs.TreeParts.{Alike, Alike-breaks, Alike-next, Alike-same, SameTree-same, leaves-held_by, leaves-made, leaves-none, where_success-none}

-- ---- a handle more, and the notes of a file that is made with a stream

Alike-open : (v : Volume) (asked : Asked) (link : ℕ) (stream : Option ℕ) → Alike v (with_open v asked link stream)
Alike-open v asked link stream =
    record { table = refl; files = refl; links = refl; streams = refl; last_file = refl; last_link = refl; last_stream = refl; changes = refl; clock = refl }

-- what is noted of a change of the link
abbrev notes : Volume → ℕ → ℕ → ℕ → Option ℕ → List volume.Change
notes v link action bits stream =
    option_map_or (λ row. record { action = action; bits = bits; seen_from = seen_from v.links row (stream_suffix v.streams stream) } ∷ []) (row_of v.links link) []

abbrev noting : Volume → ℕ → ℕ → ℕ → Option ℕ → Volume
noting v link action bits stream = record v { changes = v.changes ++ notes v link action bits stream }

noting-is : (v : Volume) (link action bits : ℕ) (stream : Option ℕ) → with_change_noted v link action bits stream ≡ noting v link action bits stream
noting-is v link action bits stream = elim (option_cases (row_of v.links link)) [
  | inl none ↦ rw (none, append-nil v.changes) refl
  | inr some ↦ rw some.1 refl
]

-- the link is noted before its named stream is made, or after it
abbrev added : Volume → ℕ → Volume
added v link = with_change_noted v link FILE_ACTION_ADDED FILE_NOTIFY_CHANGE_FILE_NAME None

abbrev adding : Volume → ℕ → Volume
adding v link = noting v link FILE_ACTION_ADDED FILE_NOTIFY_CHANGE_FILE_NAME None

abbrev stream_added : Volume → ℕ → ℕ → Volume
stream_added v link stream = with_change_noted v link FILE_ACTION_ADDED_STREAM FILE_NOTIFY_CHANGE_STREAM_NAME (Some stream)

added-before : (v : Volume) (asked : Asked) (link file : ℕ) (name : List ℕ) (stream opened : ℕ) → stream ≡ v.last_stream + 1
    → SameTree (with_tree_change (added v link) (MakesStream link file name))
    (stream_added (added (with_open (with_stream v file name) asked link (Some opened)) link) link stream)
added-before v asked link file name stream opened next =
    rw (
      next,
      noting-is v link FILE_ACTION_ADDED FILE_NOTIFY_CHANGE_FILE_NAME None,
      noting-is (with_stream (adding v link) file name) link FILE_ACTION_ADDED_STREAM FILE_NOTIFY_CHANGE_STREAM_NAME (Some (v.last_stream + 1)),
      noting-is with_both link FILE_ACTION_ADDED FILE_NOTIFY_CHANGE_FILE_NAME None,
      noting-is (adding with_both link) link FILE_ACTION_ADDED_STREAM FILE_NOTIFY_CHANGE_STREAM_NAME (Some (v.last_stream + 1)),
    )
    (record { table = refl; files = refl; links = refl; streams = refl; last_file = refl; last_link = refl; last_stream = refl; changes = refl })
  where
    with_both : Volume
    with_both = with_open (with_stream v file name) asked link (Some opened)

-- ---- what a try of an open comes to

record OpensSo (v : Volume) (asked : Asked) (outcome : Outcome) : Type 0 where
  so : LeavesChanges v asked.client asked.number (opens_so asked) outcome

-- what it changes where it has made something, and where it has overwritten
abbrev making : Volume → Asked → List TreeChange
making v asked = where_reached asked (made_in v asked) (walk v (components asked.path))

abbrev overwriting : Volume → Asked → List TreeChange
overwriting v asked = where_reached asked (overwritten_in v asked) (walk v (components asked.path))

abbrev stream_making : Asked → ℕ → ℕ → List TreeChange
stream_making asked link file = MakesStream link file (stream_name asked.path) ∷ []

abbrev stream_overwriting : Asked → ℕ → ℕ → ℕ → List TreeChange
stream_overwriting asked link file stream = Overwrites link file stream (names_stream asked.path) (file_attributes asked.attributes) ∷ []

-- the link and its file are those that the path names, unless it is a directory
record IsFound (v : Volume) (asked : Asked) (link file : ℕ) : Type 0 where
  makes : is_directory v.files file ≡ false → stream_of v file (stream_name asked.path) ≡ None → making v asked ≡ stream_making asked link file
  overwrites : is_directory v.files file ≡ false → (stream : ℕ) → stream_of v file (stream_name asked.path) ≡ Some stream
      → overwriting v asked ≡ stream_overwriting asked link file stream

module _ {v : Volume} {asked : Asked} where
  -- it ends with no success, or is held
  open-refused : (next : Volume) (status : Status) → Alike v next → OpensSo v asked (refused next status)
  open-refused next status alike =
      record { so = leaves-none v next asked.client asked.number (opens_so asked) (record { status = status; body = Nothing }) (where_success-none status) alike }

  open-held : (on : HandleSet) (class : Class) → OpensSo v asked (held v on class asked.key)
  open-held on class = record { so = leaves-held_by v v asked.client asked.number (opens_so asked) on class None asked.key (Alike-same v) }

  -- by a test, and by what is looked up
  open-if : (test : Bool) (one other : Outcome) → (test ≡ true → OpensSo v asked one) → (test ≡ false → OpensSo v asked other) → OpensSo v asked (if test then one else other)
  open-if true one other holds fails = holds refl
  open-if false one other holds fails = fails refl

  open-unless : (test : Bool) (status : Status) (other : Outcome) → (test ≡ false → OpensSo v asked other) → OpensSo v asked (if test then refused v status else other)
  open-unless test status other goes = open-if test _ other (λ holds. open-refused v status (Alike-same v)) goes

  open-option : {X : Type 0} (found : Option X) (some : X → Outcome) (none : Outcome) → ((x : X) → found ≡ Some x → OpensSo v asked (some x))
      → (found ≡ None → OpensSo v asked none) → OpensSo v asked (option_map_or some found none)
  open-option None some none with_some with_none = with_none refl
  open-option (Some x) some none with_some with_none = with_some x refl

module _ (v : Volume) (asked : Asked) where
  -- what was there is opened; and what it has made, or overwritten, with a handle more before it
  on_there : (u : Volume) (link : ℕ) (stream : Option ℕ) (status : Status) → Alike v u → OpensSo v asked (opened u asked link stream status action.Opened)
  on_there u link stream status alike = record {
    so = leaves-none v _ asked.client asked.number (opens_so asked) (record { status = status; body = Opened action.Opened }) (where_success-none status)
        (Alike-next v u _ alike (Alike-open u asked link stream));
  }

  on_made : (w : Volume) (link : ℕ) (stream : Option ℕ) (changes : List TreeChange) → making v asked ≡ changes → SameTree (with_tree_changes (with_open v asked link stream) changes) w
      → OpensSo v asked (opens w Success action.Created)
  on_made w link stream changes are same = record {
    so = leaves-made v (with_open v asked link stream) w asked.client asked.number (opens_so asked) (record { status = Success; body = Opened action.Created }) changes are
        (Alike-open v asked link stream) same;
  }

  on_overwritten : (u w : Volume) (link : ℕ) (stream : Option ℕ) (disposition : Disposition) (changes : List TreeChange) → overwriting v asked ≡ changes → Alike v u
      → SameTree (with_tree_changes (with_open u asked link stream) changes) w → OpensSo v asked (opens w Success (overwrite_action disposition))
  on_overwritten u w link stream disposition changes are alike same = record {
    so = leaves-made v (with_open u asked link stream) w asked.client asked.number (opens_so asked) (record { status = Success; body = Opened (overwrite_action disposition) }) changes
        (told disposition ∙ are) (Alike-next v u _ alike (Alike-open u asked link stream)) same;
  }
    where
      told : (disposition : Disposition) → where_success Success (changes_opening v asked (Opened (overwrite_action disposition))) ≡ overwriting v asked
      told Supersede = refl
      told _ = refl

  -- ---- nothing is opened

  stops : (file : ℕ) (rest : List ℕ) → OpensSo v asked (stopped v file rest)
  unfolding stopped
  stops file rest =
      open-option (point_of v file) _ _
      (λ point is. record {
        so = leaves-none v v asked.client asked.number (opens_so asked) (record { status = stop_status point.0; body = Stopped point.0 point.1 rest }) (where_success-none (stop_status point.0)) (Alike-same v);
      })
      (λ none. open-refused v _ (Alike-same v))

  clashes_so : (on : HandleSet) → OpensSo v asked (clashed v on asked.key)
  unfolding clashed
  clashes_so on =
      open-if (open_waits v on Clash asked.key) _ _ (λ waits. open-held on Clash) (λ free. open-refused _ SharingViolation (Alike-breaks v on Clash None asked.key))

  -- ---- it is there

  -- it is opened as it is
  existing : (link : ℕ) (stream : Option ℕ) (on : HandleSet) → OpensSo v asked (open_existing v asked link stream on)
  unfolding open_existing
  existing link stream on =
      open-if (not (wants_more asked)) _ _ (λ less. on_there v link stream Success (Alike-same v))
      (λ more. open-if (not (open_waits v on ReadOpen asked.key)) _ _ (λ free. on_there _ link stream Success (Alike-breaks v on ReadOpen None asked.key))
      (λ waits. open-if (completes_if_oplocked asked) _ _ (λ beside. on_there _ link stream OplockBreakInProgress (Alike-breaks v on ReadOpen None asked.key))
      (λ stays. open-held on ReadOpen)))

  -- it is overwritten
  overwrites_so : (link file stream : ℕ) → overwriting v asked ≡ stream_overwriting asked link file stream → OpensSo v asked (overwrite_existing v asked link file stream)
  unfolding overwrite_existing
  overwrites_so link file stream are =
      open-if (open_waits v (set.Stream stream) Change asked.key) _ _ (λ waits. open-held (set.Stream stream) Change)
      (λ free. on_overwritten (with_breaks v (set.Stream stream) Change None asked.key) _ link (Some stream) asked.disposition (stream_overwriting asked link file stream) are
      (Alike-breaks v (set.Stream stream) Change None asked.key) (SameTree-same _))

  -- a directory, and a stream
  directory : (link file : ℕ) → OpensSo v asked (open_directory v asked link file)
  unfolding open_directory open_granted
  directory link file = search (open-if, open-unless, clashes_so, existing) depth 40

  on_stream : (link file stream : ℕ) → overwriting v asked ≡ stream_overwriting asked link file stream → OpensSo v asked (create_on_stream v asked link file stream)
  unfolding create_on_stream open_stream
  on_stream link file stream are = search (open-if, open-unless, clashes_so, existing, overwrites_so, are) depth 60 fits 4000

  -- ---- it is missing

  made_stream : (link file : ℕ) → making v asked ≡ stream_making asked link file → OpensSo v asked (create_stream v asked link file)
  unfolding create_stream
  made_stream link file are = search (open-if, open-unless, adds) depth 40
    where
      adds : OpensSo v asked (opens (with_new_stream v asked link file) Success action.Created)
      adds = on_made (with_new_stream v asked link file) link (Some (v.last_stream + 1)) (stream_making asked link file) are (SameTree-same _)

  made_directory : (dir : ℕ) (name : List ℕ) → making v asked ≡ made_under v asked dir name → wants_directory asked ≡ true → OpensSo v asked (make_directory v asked dir name)
  unfolding make_directory
  made_directory dir name are a_directory =
      on_made (with_new_directory v asked dir name) (v.last_link + 1) None (MakesDirectory dir name (new_file v asked true (kept_attributes asked.attributes)) ∷ [])
      (are ∙ rw a_directory refl) (SameTree-same _)

  made_file : (dir : ℕ) (name : List ℕ) → making v asked ≡ made_under v asked dir name → wants_directory asked ≡ false → OpensSo v asked (make_file v asked dir name)
  unfolding make_file
  made_file dir name are a_file =
      open-if (names_stream asked.path) _ _
      (λ is. record {
        so = leaves-made v v (with_new_file_and_stream v asked dir name) asked.client asked.number (opens_so asked) (record { status = Success; body = Opened action.Created })
            (file_making ∷ MakesStream (v.last_link + 1) (v.last_file + 1) (stream_name asked.path) ∷ []) (are ∙ rw (a_file, is) refl) (Alike-same v)
            (added-before (with_file_made v asked dir name) asked (v.last_link + 1) (v.last_file + 1) (stream_name asked.path) (v.last_stream + 2) (v.last_stream + 2) (two v.last_stream));
      })
      (λ isnt. on_made (with_new_file v asked dir name) (v.last_link + 1) (Some (v.last_stream + 1)) (file_making ∷ []) (are ∙ rw (a_file, isnt) refl) (SameTree-same _))
    where
      two : (n : ℕ) → n + 2 ≡ n + 1 + 1
      two n = omega arith

      file_making : TreeChange
      file_making = MakesFile dir name (new_file v asked false (file_attributes asked.attributes))

  made : (dir : ℕ) (name : List ℕ) → making v asked ≡ made_under v asked dir name → OpensSo v asked (create_missing v asked dir name)
  unfolding create_missing
  made dir name are = search (open-if, open-unless, made_directory, made_file, are) depth 40

  -- ---- what is there

  in_file : (link file : ℕ) → is_directory v.files file ≡ false → IsFound v asked link file → OpensSo v asked (create_in_file v asked link file)
  unfolding create_in_file
  in_file link file a_file its =
      open-option (stream_of v file (stream_name asked.path)) _ _ (λ stream found. on_stream link file stream (its.overwrites a_file stream found))
      (λ missing. made_stream link file (its.makes a_file missing))

  there : (link file : ℕ) → IsFound v asked link file → OpensSo v asked (create_there v asked link file)
  unfolding create_there
  there link file its = search (open-if, open-unless, directory, in_file, its) depth 40

  found : (link file : ℕ) → IsFound v asked link file → OpensSo v asked (create_found v asked link file)
  unfolding create_found
  found link file its = open-if _ _ _ (λ point. stops file []) (λ plain. there link file its)

  -- ---- the last name, and the path

  by_link : (dir link : ℕ) → walk v (components asked.path) ≡ Reached dir → child_of v dir (last_name (components asked.path)) ≡ Some link → OpensSo v asked (create_by_link v asked link)
  unfolding create_by_link
  by_link dir link reached is_child =
      open-option (row_of v.links link) _ _ (λ (row : Link) is. open-unless row.deleted _ _ (λ living. found link row.file (record {
        makes = λ a_file missing. rw (reached, is_child, is) refl;
        overwrites = λ a_file stream there. rw (reached, is_child, is, there) refl;
      }))) (λ none. open-refused v _ (Alike-same v))

  by_name : (dir : ℕ) → walk v (components asked.path) ≡ Reached dir → OpensSo v asked (create_named v asked dir (last_name (components asked.path)))
  unfolding create_named
  by_name dir reached =
      open-option (child_of v dir (last_name (components asked.path))) _ _ (λ link is_child. by_link dir link reached is_child)
      (λ none. made dir (last_name (components asked.path)) (rw (reached, none) refl))

  -- the root is a directory
  root_found : IsTied v → IsFound v asked 0 1
  root_found tied = record {
    makes = λ a_file missing. absurd (false≢true (sym a_file ∙ tied.root.is_there));
    overwrites = λ a_file stream there. absurd (false≢true (sym a_file ∙ tied.root.is_there));
  }

  walked : IsTied v → (way : Walked) → walk v (components asked.path) ≡ way → OpensSo v asked (create_walked v asked way)
  unfolding create_walked
  walked tied (Reached dir) reached = open-if (length (components asked.path) == 0) _ _ (λ root. found 0 1 (root_found tied)) (λ below. by_name dir reached)
  walked tied (Barred status) reached = open-refused v status (Alike-same v)
  walked tied (Diverted file next) reached = stops file (rest_of asked.path next)

  creates : IsTied v → OpensSo v asked (try_create v asked)
  unfolding try_create create_at
  creates tied = search (open-if, open-unless, walks) depth 40
    where
      walks : OpensSo v asked (create_walked v asked (walk v (components asked.path)))
      walks = walked tied (walk v (components asked.path)) refl

-- the try of an open leaves just what its changes leave
pub create-leaves : (v : Volume) (client number : ℕ) (path : List ℕ) (wanted share : ℕ) (disposition : Disposition) (options attributes key : ℕ) → IsTied v
    → LeavesChanges v client number (Ask (request.Create path wanted share disposition options attributes key))
    (try_create v (record { client = client; number = number; path = path; wanted = wanted; share = share; disposition = disposition; options = options; attributes = attributes; key = key }))
create-leaves v client number path wanted share disposition options attributes key tied =
    OpensSo.so
    (creates v (record { client = client; number = number; path = path; wanted = wanted; share = share; disposition = disposition; options = options; attributes = attributes; key = key }) tied)
