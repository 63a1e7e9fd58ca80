-- In each try of a history an open that succeeds leaves just the handle that was asked for, and a lock that does just the lock;
-- where they don't, and where any call is pending, no handle and no lock comes or goes. Each definition of the open is followed
-- once, with the link and the set that its path names, and so are those of the lock. What breaks of oplocks change, and changes
-- noted, are neither handles nor locks.
use Rattle.std.proofs.Common.{◌≡◌, ℕ, ◌+◌, Bool, true, false, ◌==◌, ◌&&◌, ◌||◌, not, List, [], ◌∷◌, ◌++◌, length, get_or, refl, sym, subst, ap, ◌∙◌, arith, eq-eqb, inl, inr, Option, Some, None}
use Rattle.std.specs.Option.{option_map_or}
use Rattle.std.specs.Prelude.{if◌then◌else◌, is_some}
use Rattle.std.proofs.lemmas.Bool.{cases_Bool}
use Rattle.fsa_types.specs.Access.{has_any}
use Rattle.fsa_types.specs.Masks.{FILE_ACTION_ADDED, FILE_ACTION_ADDED_STREAM, FILE_ACTION_MODIFIED, FILE_ACTION_MODIFIED_STREAM, FILE_NOTIFY_CHANGE_DIR_NAME, FILE_NOTIFY_CHANGE_FILE_NAME, FILE_NOTIFY_CHANGE_STREAM_NAME, IO_REPARSE_TAG_SYMLINK, READ_DATA, WRITE_DATA}
use Rattle.fsa_types.specs.Paths.{components, rest_of}
use Rattle.fsa_types.specs.Rows.{row_of}
use Rattle.fsa_types.specs.declared.oplock.Class.{Class}
use Rattle.fsa_types.specs.declared.oplock.Class.TheVariants.{Clash, Change, ReadOpen}
use Rattle.fsa_types.specs.declared.oplock.HandleSet.{HandleSet}
use Rattle.fsa_types.specs.declared.oplock.HandleSet.TheVariants as set
use Rattle.fsa_types.specs.declared.reply.Action.{Action}
use Rattle.fsa_types.specs.declared.reply.Action.TheVariants as action
use Rattle.fsa_types.specs.declared.reply.Blocker.{Blocker}
use Rattle.fsa_types.specs.declared.reply.Body.TheVariants.{Stopped}
use Rattle.fsa_types.specs.declared.reply.Interim.{Interim}
use Rattle.fsa_types.specs.declared.request.Call.{Call}
use Rattle.fsa_types.specs.declared.request.Disposition.{Disposition}
use Rattle.fsa_types.specs.declared.request.Level.{Level}
use Rattle.fsa_types.specs.declared.request.Request.TheVariants as request
use Rattle.fsa_types.specs.declared.request.What.TheVariants.{Ask}
use Rattle.fsa_types.specs.declared.status.Status.{Status}
use Rattle.fsa_types.specs.declared.status.Status.TheVariants.{InvalidHandle, LockNotGranted, OplockBreakInProgress, Reparse, SharingViolation, StoppedOnSymlink, Success}
use Rattle.fsa_model.specs.Breaks.{with_breaks}
use Rattle.fsa_model.specs.Changes.{with_change_noted}
use Rattle.fsa_model.specs.Coherence.{acting_handle, acting_key, key_of, set_of_file, set_of_link, set_of_path}
use Rattle.fsa_model.specs.Edits.{with_stream}
use Rattle.fsa_model.specs.Frame.{FramedTo, InFrame, OnlyOplocks}
use Rattle.fsa_model.specs.Grant.{try_oplock}
use Rattle.fsa_model.specs.History.{HistoryEntry}
use Rattle.fsa_model.specs.Locking.{lock_at, lock_blockers, lock_by, lock_free, lock_range, lock_stream, passes_top, try_lock}
use Rattle.fsa_model.specs.Lookups.{child_of, handle_of, has_left, is_directory, is_on, stream_of}
use Rattle.fsa_model.specs.Open.{Asked, access_of, clashed, completes_if_oplocked, create_at, create_by_link, create_found, create_in_file, create_missing, create_named, create_on_stream, create_stream, create_there, create_walked, deletes_on_close, is_other_kind, make_directory, make_file, names_stream, open_directory, open_existing, open_granted, open_stream, open_waits, opened, opens, overwrite_action, overwrite_existing, overwrite_filters, stopped, stream_name, stream_overwrite_filters, try_create, wants_directory, wants_more, with_directory_made, with_file_made, with_new_stream, with_open, with_overwrite_noted, with_overwritten}
use Rattle.fsa_model.specs.Outcome.{Outcome, Done, Stay, Hold, refused}
use Rattle.fsa_model.specs.Setup.{Setup}
use Rattle.fsa_model.specs.Tries.{Tried, tries_of}
use Rattle.fsa_model.specs.Try.{try}
use Rattle.fsa_model.specs.Volume.{Handle, Link, Volume}
use Rattle.fsa_model.specs.Waits.{held_by, waits_for}
use Rattle.fsa_model.specs.Walk.{Walked, Reached, Barred, Diverted, last_name, point_of, walk}
use Rattle.fsa_model.specs.Watching.{watch_of, with_watch_begun}
use Rattle.fsa_model.proofs.FaultStatuses.{BarsWithout, walk-fails}
use Rattle.fsa_model.proofs.BreakLaws.{with_breaks-rest}
use Rattle.fsa_model.proofs.CoherenceBreaks.{handles-breaks}
use Rattle.fsa_model.proofs.FrameOplocks.{try_oplock-frame}
use Rattle.fsa_model.proofs.RowLaws.{option_cases}
use Rattle.fsa_model.proofs.SoundWaits.{touched}
use Rattle.history_laws.specs.AsAsked.{LeavesAsAsked, LeavesBoth, LocksAsAsked, OpensAndLocksAsAsked, OpensAsAsked, is_opened, link_of_path, stream_named}
use Rattle.history_laws.specs.WaitEnds.{is_success}
use Rattle.history_laws.specs.WhyPending.{PendsForCause, WhyHeld, ByBreaks, ByLocks, WhyStays, Granted, Kept, Watches, Waits}
use Rattle.history_laws.proofs.WhyPending.{calls-pend_for_cause}

-- ---- what else changes is neither

-- with the same handles and locks, and the same last number of a stream
record IsAlike (v w : Volume) : Type 0 where
  handles : w.handles ≡ v.handles
  locks : w.locks ≡ v.locks
  last_stream : w.last_stream ≡ v.last_stream

alike-next : {u v w : Volume} → IsAlike u v → IsAlike v w → IsAlike u w
alike-next first second = record { handles = second.handles ∙ first.handles; locks = second.locks ∙ first.locks; last_stream = second.last_stream ∙ first.last_stream }

noted : (v : Volume) (link action bits : ℕ) (stream : Option ℕ) → IsAlike v (with_change_noted v link action bits stream)
noted v link action bits stream = elim (option_cases (row_of v.links link)) [
  | inl none ↦ rw none (record { handles = refl; locks = refl; last_stream = refl })
  | inr some ↦ rw some.1 (record { handles = refl; locks = refl; last_stream = refl })
]

overwritten : (v : Volume) (link stream : ℕ) (named : Bool) → IsAlike v (with_overwrite_noted v link stream named)
overwritten v link stream true = noted v link FILE_ACTION_MODIFIED_STREAM stream_overwrite_filters (Some stream)
overwritten v link stream false = noted v link FILE_ACTION_MODIFIED overwrite_filters None

-- ---- opens

-- the handle of an open, by this link and on this stream
abbrev handle_by : Asked → ℕ → Option ℕ → Handle
handle_by asked link stream = record {
  client = asked.client;
  number = asked.number;
  link = link;
  stream = stream;
  access = access_of asked;
  share = asked.share;
  key = asked.key;
  delete_on_close = deletes_on_close asked;
  enumeration = None;
}

-- where a try of the open has come to this, and has ended it, it leaves what was asked for, and else the handles that there were
abbrev pub OpensIn : Volume → Call → Asked → Outcome → Type 0
OpensIn v call asked (Done next reply) = OpensAsAsked v call asked.path asked.wanted asked.share asked.options asked.key reply.status next
OpensIn v call asked (Stay next interim) = next.handles ≡ v.handles
OpensIn v call asked (Hold next blockers interim) = next.handles ≡ v.handles

pub record OpensSo (v : Volume) (call : Call) (asked : Asked) (outcome : Outcome) : Type 0 where
  pub so : OpensIn v call asked outcome

-- the path names this set, and this link, by which the handles on this stream are of the set
record IsNamed (v : Volume) (asked : Asked) (link : ℕ) (stream : Option ℕ) (on : HandleSet) : Type 0 where
  named : set_of_path v asked.path ≡ Some on
  by : link_of_path v asked.path ≡ Some link
  stream_is : (made : Option ℕ) → stream ≡ stream_named (Some on) made
  is_of : is_on v on (handle_by asked link stream) ≡ true

module _ {v : Volume} {call : Call} {asked : Asked} where
  open-held : (on : HandleSet) (class : Class) → OpensSo v call asked (held_by v on class None asked.key)
  open-held on class = record { so = handles-breaks v on class None asked.key }

  -- it doesn't succeed
  open-refused : (next : Volume) (status : Status) → is_opened status ≡ false → next.handles ≡ v.handles → next.locks ≡ v.locks → OpensSo v call asked (refused next status)
  open-refused next status fails handles locks =
      record { so = record { opens = λ opened. (let no : false ≡ true = sym fails ∙ opened in cc); refuses = λ refuses. handles; locks = locks } }

  -- by a test, and by what is looked up
  open-if : (test : Bool) (one other : Outcome) → (test ≡ true → OpensSo v call asked one) → (test ≡ false → OpensSo v call asked other) → OpensSo v call asked (if test then one else other)
  open-if true one other holds fails = holds refl
  open-if false one other holds fails = fails refl

  open-unless : (test : Bool) (status : Status) (other : Outcome) → is_opened status ≡ false → (test ≡ false → OpensSo v call asked other)
      → OpensSo v call asked (if test then refused v status else other)
  open-unless test status other fails goes = open-if test _ other (λ holds. open-refused v status fails refl refl) goes

  open-option : {X : Type 0} (found : Option X) (some : X → Outcome) (none : Outcome) → ((x : X) → found ≡ Some x → OpensSo v call asked (some x))
      → (found ≡ None → OpensSo v call asked none) → OpensSo v call asked (option_map_or some found none)
  open-option None some none with_some with_none = with_none refl
  open-option (Some x) some none with_some with_none = with_some x refl

  -- behind breaks, in a volume with the handles and the locks of this one
  open-behind : (on : HandleSet) (class : Class) (out : Volume → Outcome) → ((w : Volume) → OpensSo v call asked (out (touched v w)))
      → OpensSo v call asked (out (with_breaks v on class None asked.key))
  open-behind on class out goes =
      subst (λ (w : Volume). OpensSo v call asked (out w)) (sym (with_breaks-rest v on class None asked.key)) (goes (with_breaks v on class None asked.key))

module _ (v : Volume) (call : Call) (asked : Asked) (of_client : asked.client ≡ call.client) (of_number : asked.number ≡ call.number) where
  -- it succeeds
  succeeds : (next : Volume) (status : Status) (action : Action) (link : ℕ) (stream : Option ℕ) → is_opened status ≡ true
      → next.handles ≡ v.handles ++ (v.last_handle + 1, handle_by asked link stream) ∷ [] → next.locks ≡ v.locks → link_of_path v asked.path ≡ Some link
      → stream ≡ stream_named (set_of_path v asked.path) (if wants_directory asked then None else Some next.last_stream)
      → ((on : HandleSet) → set_of_path v asked.path ≡ Some on → is_on v on (handle_by asked link stream) ≡ true) → OpensSo v call asked (opens next status action)
  succeeds next status action link stream opened handles locks by on_stream of_set = record {
    so = record {
      opens = λ opens. record {
        handle = handle_by asked link stream;
        added = handles;
        client = of_client;
        number = of_number;
        access = refl;
        share = refl;
        key = refl;
        delete_on_close = refl;
        enumeration = refl;
        link = by;
        stream = on_stream;
        on = of_set;
      };
      refuses = λ refuses. (let no : true ≡ false = sym opened ∙ refuses in cc);
      locks = locks;
    };
  }

  -- on what was there; and on what it has made, in a volume with the same handles and locks
  on_there : (next : Volume) (status : Status) (action : Action) (link : ℕ) (stream : Option ℕ) (on : HandleSet) → IsNamed v asked link stream on → is_opened status ≡ true
      → next.handles ≡ v.handles ++ (v.last_handle + 1, handle_by asked link stream) ∷ [] → next.locks ≡ v.locks → OpensSo v call asked (opens next status action)
  on_there next status action link stream on its opened handles locks =
      succeeds next status action link stream opened handles locks its.by (rw its.named (its.stream_is _))
      (λ other named. (let both : Some other ≡ Some on = sym named ∙ its.named in let same : other ≡ on = cc in rw same its.is_of))

  on_made : {next : Volume} (w : Volume) (link : ℕ) (stream : Option ℕ) → IsAlike w next → link_of_path v asked.path ≡ Some link → set_of_path v asked.path ≡ None
      → stream ≡ (if wants_directory asked then None else Some w.last_stream)
      → w.handles ≡ v.handles ++ (v.last_handle + 1, handle_by asked link stream) ∷ [] → w.locks ≡ v.locks
      → OpensSo v call asked (opens next Success action.Created)
  on_made {next} w link stream alike by none made handles locks =
      succeeds next Success action.Created link stream refl (alike.handles ∙ handles) (alike.locks ∙ locks) by (rw (none, alike.last_stream) made)
      (λ on named. (let no : None ≡ Some on = sym none ∙ named in cc))

  -- ---- nothing is opened

  stops : (file : ℕ) (rest : List ℕ) → OpensSo v call asked (stopped v file rest)
  unfolding stopped
  stops file rest =
      open-option (point_of v file) _ _ (λ point is. open-stopped (point.0 == IO_REPARSE_TAG_SYMLINK) point) (λ none. open-refused v _ refl refl refl)
    where
      open-stopped : (test : Bool) (point : ℕ × List ℕ) → OpensSo v call asked (Done v (record { status = if test then StoppedOnSymlink else Reparse; body = Stopped point.0 point.1 rest }))
      open-stopped true point = record { so = record { opens = λ opened. cc; refuses = λ refuses. refl; locks = refl } }
      open-stopped false point = record { so = record { opens = λ opened. cc; refuses = λ refuses. refl; locks = refl } }

  clashes_so : (on : HandleSet) → OpensSo v call asked (clashed v on asked.key)
  unfolding clashed
  clashes_so on =
      open-if (open_waits v on Clash asked.key) _ _ (λ waits. open-held on Clash)
      (λ free. open-behind on Clash (λ w. refused w SharingViolation) (λ w. open-refused (touched v w) SharingViolation refl refl refl))

  -- ---- it is there

  -- it is opened as it is
  existing : (link : ℕ) (stream : Option ℕ) (on : HandleSet) → IsNamed v asked link stream on → OpensSo v call asked (open_existing v asked link stream on)
  unfolding open_existing
  existing link stream on its =
      open-if (not (wants_more asked)) _ _ (λ less. on_there _ _ _ link stream on its refl refl refl)
      (λ more. open-if (not (open_waits v on ReadOpen asked.key)) _ _
      (λ free. open-behind on ReadOpen (λ w. opened w asked link stream Success action.Opened) (λ w. on_there _ _ _ link stream on its refl refl refl))
      (λ waits. open-if (completes_if_oplocked asked) _ _
      (λ beside. open-behind on ReadOpen (λ w. opened w asked link stream OplockBreakInProgress action.Opened) (λ w. on_there _ _ _ link stream on its refl refl refl))
      (λ stays. open-held on ReadOpen)))

  -- it is overwritten
  overwrites_so : (link file stream : ℕ) → IsNamed v asked link (Some stream) (set.Stream stream) → OpensSo v call asked (overwrite_existing v asked link file stream)
  unfolding overwrite_existing
  overwrites_so link file stream its =
      open-if (open_waits v (set.Stream stream) Change asked.key) _ _ (λ waits. open-held (set.Stream stream) Change)
      (λ free. open-behind (set.Stream stream) Change (λ w. opens (with_overwritten (with_open w asked link (Some stream)) asked link file stream) Success (overwrite_action asked.disposition))
      (λ w. (let alike = overwritten (with_open (touched v w) asked link (Some stream)) link stream (names_stream asked.path) in
      on_there _ _ _ link (Some stream) (set.Stream stream) its refl alike.handles alike.locks)))

  -- a directory, and a stream
  directory : (link file : ℕ) → IsNamed v asked link None (set.Link link) → OpensSo v call asked (open_directory v asked link file)
  unfolding open_directory open_granted
  directory link file its = search (open-if, open-unless, clashes_so, existing, its) depth 40

  on_stream : (link file stream : ℕ) → IsNamed v asked link (Some stream) (set.Stream stream) → OpensSo v call asked (create_on_stream v asked link file stream)
  unfolding create_on_stream open_stream
  on_stream link file stream its = search (open-if, open-unless, clashes_so, existing, overwrites_so, its) depth 60 fits 4000

  -- ---- it is missing

  made_stream : (link file : ℕ) → link_of_path v asked.path ≡ Some link → set_of_path v asked.path ≡ None → wants_directory asked ≡ false → OpensSo v call asked (create_stream v asked link file)
  unfolding create_stream
  made_stream link file by none a_file = search (open-if, open-unless, adds) depth 40
    where
      added : Volume
      added = with_open (with_stream v file (stream_name asked.path)) asked link (Some (v.last_stream + 1))

      adds : OpensSo v call asked (opens (with_new_stream v asked link file) Success action.Created)
      adds = on_made added link (Some (v.last_stream + 1)) (noted added link FILE_ACTION_ADDED_STREAM FILE_NOTIFY_CHANGE_STREAM_NAME (Some (v.last_stream + 1))) by none (rw a_file refl) refl refl

  made_directory : (dir : ℕ) (name : List ℕ) → link_of_path v asked.path ≡ Some (v.last_link + 1) → set_of_path v asked.path ≡ None → wants_directory asked ≡ true
      → OpensSo v call asked (make_directory v asked dir name)
  unfolding make_directory
  made_directory dir name by none a_directory =
      on_made added (v.last_link + 1) None (noted added (v.last_link + 1) FILE_ACTION_ADDED FILE_NOTIFY_CHANGE_DIR_NAME None) by none (rw a_directory refl) refl refl
    where
      added : Volume
      added = with_open (with_directory_made v asked dir name) asked (v.last_link + 1) None

  made_file : (dir : ℕ) (name : List ℕ) → link_of_path v asked.path ≡ Some (v.last_link + 1) → set_of_path v asked.path ≡ None → wants_directory asked ≡ false
      → OpensSo v call asked (make_file v asked dir name)
  unfolding make_file
  made_file dir name by none a_file =
      open-if (names_stream asked.path) _ _
      (λ is. on_made both (v.last_link + 1) (Some (v.last_stream + 2)) (alike-next (added both) (named _))
      by none (rw a_file (ap (λ (n : ℕ). Some n) (two v.last_stream))) refl refl)
      (λ isnt. on_made file (v.last_link + 1) (Some (v.last_stream + 1)) (added file) by none (rw a_file refl) refl refl)
    where
      two : (n : ℕ) → n + 2 ≡ n + 1 + 1
      two n = omega arith

      both : Volume
      both = with_open (with_stream (with_file_made v asked dir name) (v.last_file + 1) (stream_name asked.path)) asked (v.last_link + 1) (Some (v.last_stream + 2))

      file : Volume
      file = with_open (with_file_made v asked dir name) asked (v.last_link + 1) (Some (v.last_stream + 1))

      added : (w : Volume) → IsAlike w (with_change_noted w (v.last_link + 1) FILE_ACTION_ADDED FILE_NOTIFY_CHANGE_FILE_NAME None)
      added w = noted w (v.last_link + 1) FILE_ACTION_ADDED FILE_NOTIFY_CHANGE_FILE_NAME None

      named : (w : Volume) → IsAlike w (with_change_noted w (v.last_link + 1) FILE_ACTION_ADDED_STREAM FILE_NOTIFY_CHANGE_STREAM_NAME (Some (v.last_stream + 2)))
      named w = noted w (v.last_link + 1) FILE_ACTION_ADDED_STREAM FILE_NOTIFY_CHANGE_STREAM_NAME (Some (v.last_stream + 2))

  made : (dir : ℕ) (name : List ℕ) → link_of_path v asked.path ≡ Some (v.last_link + 1) → set_of_path v asked.path ≡ None → OpensSo v call asked (create_missing v asked dir name)
  unfolding create_missing
  made dir name by none = search (open-if, open-unless, made_directory, made_file, by, none) depth 40

  -- ---- what is there

  in_file : (link file : ℕ) → link_of_path v asked.path ≡ Some link → is_directory v.files file ≡ false → set_of_path v asked.path ≡ set_of_file v asked.path link file
      → wants_directory asked ≡ false → OpensSo v call asked (create_in_file v asked link file)
  unfolding create_in_file
  in_file link file by a_file named kind =
      open-option (stream_of v file (stream_name asked.path)) _ _
      (λ stream found. on_stream link file stream (record { named = named ∙ rw (a_file, found) refl; by = by; stream_is = λ made. refl; is_of = eq-eqb stream stream refl }))
      (λ missing. made_stream link file by (named ∙ rw (a_file, missing) refl) kind)

  of_kind : (link file : ℕ) → link_of_path v asked.path ≡ Some link → set_of_path v asked.path ≡ set_of_file v asked.path link file → is_other_kind asked (is_directory v.files file) ≡ false
      → OpensSo v call asked (if is_directory v.files file then open_directory v asked link file else create_in_file v asked link file)
  of_kind link file by named kind =
      open-if (is_directory v.files file) _ _
      (λ dir. directory link file (record { named = named ∙ rw dir refl; by = by; stream_is = λ made. refl; is_of = eq-eqb link link refl }))
      (λ a_file. in_file link file by a_file named (and_fails (wants_directory asked) (rw a_file at kind)))
    where
      and_fails : (test : Bool) → (test && true) ≡ false → test ≡ false
      and_fails true fails = fails
      and_fails false fails = refl

  there : (link file : ℕ) → link_of_path v asked.path ≡ Some link → set_of_path v asked.path ≡ set_of_file v asked.path link file → OpensSo v call asked (create_there v asked link file)
  unfolding create_there
  there link file by named = search (open-if, open-unless, of_kind, by, named) depth 40

  found : (link file : ℕ) → link_of_path v asked.path ≡ Some link → set_of_path v asked.path ≡ set_of_file v asked.path link file → OpensSo v call asked (create_found v asked link file)
  unfolding create_found
  found link file by named = open-if _ _ _ (λ point. stops file []) (λ plain. there link file by named)

  -- ---- the last name, and the path

  by_link : (link : ℕ) → link_of_path v asked.path ≡ Some link → set_of_path v asked.path ≡ set_of_link v asked.path link → OpensSo v call asked (create_by_link v asked link)
  unfolding create_by_link
  by_link link by named =
      open-option (row_of v.links link) _ _ (λ (row : Link) is. open-unless row.deleted _ _ refl (λ living. found link row.file by (named ∙ rw is refl))) (λ none. open-refused v _ refl refl refl)

  by_name : (dir : ℕ) → walk v (components asked.path) ≡ Reached dir → (length (components asked.path) == 0) ≡ false
      → OpensSo v call asked (create_named v asked dir (last_name (components asked.path)))
  unfolding create_named
  by_name dir reached below =
      open-option (child_of v dir (last_name (components asked.path))) _ _ (λ link found. by_link link (rw (reached, below, found) refl) (rw (reached, below, found) refl))
      (λ none. made dir (last_name (components asked.path)) (rw (reached, below, none) refl) (rw (reached, below, none) refl))

  walked : (way : Walked) → walk v (components asked.path) ≡ way → OpensSo v call asked (create_walked v asked way)
  unfolding create_walked
  walked (Reached dir) reached = open-if (length (components asked.path) == 0) _ _ (λ root. found 0 1 (rw (reached, root) refl) (rw (reached, root) refl)) (λ below. by_name dir reached below)
  walked (Barred status) reached =
      (let bars : BarsWithout is_opened (walk v (components asked.path)) = walk-fails is_opened refl refl v (components asked.path) 1 0 in open-refused v status (rw reached at bars) refl refl)
  walked (Diverted file next) reached = stops file (rest_of asked.path next)

  pub creates : OpensSo v call asked (try_create v asked)
  unfolding try_create create_at
  creates = search (open-if, open-unless, walks) depth 40
    where
      walks : OpensSo v call asked (create_walked v asked (walk v (components asked.path)))
      walks = walked (walk v (components asked.path)) refl

-- ---- locks

-- where a try of such a lock has come to this, and has ended it, it leaves what was asked for
abbrev LocksIn : Volume → ℕ → ℕ → ℕ → ℕ → Bool → Outcome → Type 0
LocksIn v client number at count exclusive (Done next reply) = LocksAsAsked v client number at count exclusive reply.status next
LocksIn v client number at count exclusive (Stay next interim) = Unit {0}
LocksIn v client number at count exclusive (Hold next blockers interim) = Unit {0}

record LocksSo (v : Volume) (client number at count : ℕ) (exclusive : Bool) (outcome : Outcome) : Type 0 where
  so : LocksIn v client number at count exclusive outcome

module _ {v : Volume} {client number at count : ℕ} {exclusive : Bool} where
  lock-held : (next : Volume) (blockers : List Blocker) (interim : Interim) → LocksSo v client number at count exclusive (Hold next blockers interim)
  lock-held next blockers interim = record { so = tt }

  lock-refused : (next : Volume) (status : Status) → is_success status ≡ false → next.handles ≡ v.handles → next.locks ≡ v.locks
      → LocksSo v client number at count exclusive (refused next status)
  lock-refused next status fails handles locks =
      record { so = record { locks = λ locked. (let no : false ≡ true = sym fails ∙ locked in cc); refuses = λ refuses. locks; handles = handles } }

  lock-if : (test : Bool) (one other : Outcome) → (test ≡ true → LocksSo v client number at count exclusive one) → (test ≡ false → LocksSo v client number at count exclusive other)
      → LocksSo v client number at count exclusive (if test then one else other)
  lock-if true one other holds fails = holds refl
  lock-if false one other holds fails = fails refl

  lock-option : {X : Type 0} (found : Option X) (some : X → Outcome) (none : Outcome) → ((x : X) → found ≡ Some x → LocksSo v client number at count exclusive (some x))
      → (found ≡ None → LocksSo v client number at count exclusive none) → LocksSo v client number at count exclusive (option_map_or some found none)
  lock-option None some none with_some with_none = with_none refl
  lock-option (Some x) some none with_some with_none = with_some x refl

-- it gets the next number, where it may; so behind its breaks as well
locked_free : (v w : Volume) (client number at count id stream : ℕ) (exclusive wait : Bool) → handle_of v client number ≡ Some id
    → LocksSo v client number at count exclusive (lock_free (touched v w) id stream at count exclusive wait)
unfolding lock_free
locked_free v w client number at count id stream exclusive wait named =
    lock-if (length (lock_blockers (touched v w) id stream at count exclusive) == 0) _ _
    (λ none. record { so = record { locks = λ locked. record { handle = id; named = named; added = refl }; refuses = λ refuses. cc; handles = refl } })
    (λ some. lock-if wait _ _ (λ waits. lock-held _ _ _) (λ goes. lock-refused (touched v w) LockNotGranted refl refl refl))

locked_range : (v : Volume) (client number at count id key stream : ℕ) (exclusive wait : Bool) → handle_of v client number ≡ Some id
    → LocksSo v client number at count exclusive (lock_range v id key stream at count exclusive wait)
unfolding lock_range
locked_range v client number at count id key stream exclusive wait named =
    lock-if (waits_for v (set.Stream stream) Change (Some id) key) _ _ (λ waits. lock-held _ _ _)
    (λ free. subst (λ (w : Volume). LocksSo v client number at count exclusive (lock_free w id stream at count exclusive wait)) (sym (with_breaks-rest v (set.Stream stream) Change (Some id) key))
    (locked_free v (with_breaks v (set.Stream stream) Change (Some id) key) client number at count id stream exclusive wait named))

locks_so : (v : Volume) (client number at count : ℕ) (exclusive wait : Bool) → LocksSo v client number at count exclusive (try_lock v client number at count exclusive wait)
unfolding try_lock lock_at lock_by lock_stream
locks_so v client number at count exclusive wait =
    lock-option (handle_of v client number) _ _ (λ id named. lock-option (row_of v.handles id) _ _ (λ handle row. lock-option handle.stream _ _ (λ stream on.
    lock-if (not (has_any handle.access READ_DATA || has_any handle.access WRITE_DATA)) _ _ (λ denied. none _ refl) (λ can. lock-if (passes_top at count) _ _ (λ past. none _ refl)
    (λ fits. locked_range v client number at count id handle.key stream exclusive wait named))) (λ isnt. none _ refl)) (λ gone. none _ refl)) (λ unknown. none _ refl)
  where
    none : (status : Status) → is_success status ≡ false → LocksSo v client number at count exclusive (refused v status)
    none status fails = lock-refused v status fails refl refl

-- ---- calls that are pending

-- breaks leave both
broken : (v : Volume) (on : HandleSet) (class : Class) (acting : Option ℕ) (key : ℕ) → LeavesBoth v (with_breaks v on class acting key)
broken v on class acting key = rw (with_breaks-rest v on class acting key) (refl, refl)

held-leaves : {v : Volume} {call : Call} {next : Volume} {blockers : List Blocker} {interim : Interim} → WhyHeld v call next blockers interim → LeavesBoth v next
held-leaves {v} {call} (ByBreaks class on may passes stays first waits those leaves) = rw leaves (broken v on class (acting_handle v call.client call.what) (acting_key v call.client call.what))
held-leaves {v} (ByLocks number at count handle stream exclusive is passes named on free those some leaves) = rw leaves (broken v (set.Stream stream) Change (Some handle) (key_of v handle))

-- so do a grant, which switches others, a level that is kept, and a watch that begins
granted : (v : Volume) (call : Call) (turn number : ℕ) (level : Level) (next : Volume) (interim : Interim) → call.what ≡ Ask (request.Oplock number level)
    → try v call turn ≡ Stay next interim → LeavesBoth v next
granted v call turn number level next interim is comes = elim (cases_Bool (has_left v call.client)) [
  | inl left ↦ (let no : refused v InvalidHandle ≡ Stay next interim = rw left at comes in cc)
  | inr here ↦ (let stays : try_oplock v call.client number level turn ≡ Stay next interim = rw (here, is) at comes in
      let own : Call = record { client = call.client; number = call.number; what = Ask (request.Oplock number level) } in
      let framed : FramedTo own v (Stay next interim) = subst (λ outcome. FramedTo own v outcome) stays (InFrame.so (try_oplock-frame v call.client call.number number level turn)) in
      let only : OnlyOplocks v next = framed.1 in (ap (λ (w : Volume). w.handles) only.is, ap (λ (w : Volume). w.locks) only.is))
]

begun : (v : Volume) (id filter : ℕ) (whole : Bool) → LeavesBoth v (with_watch_begun v id filter whole)
begun v id filter whole = elim (cases_Bool (is_some (watch_of v id))) [ inl is ↦ rw is (refl, refl) | inr isnt ↦ rw isnt (refl, refl) ]

stays-leaves : {v : Volume} {call : Call} {turn : ℕ} {next : Volume} {interim : Interim} → try v call turn ≡ Stay next interim
    → WhyStays v call turn next interim → LeavesBoth v next
stays-leaves {v} {call} {turn} {next} comes (Granted number handle stream level is named on free leaves has) = granted v call turn number level next _ is comes
stays-leaves comes (Kept number handle level target was is named had breaking some leaves has) = rw leaves (refl, refl)
stays-leaves {v} comes (Watches number filter room handle whole row is named living passes leaves watched none) = rw leaves (begun v handle filter whole)
stays-leaves comes (Waits number is pending unended leaves) = rw leaves (refl, refl)

-- ---- each try

opened-by : (v : Volume) (call : Call) (turn : ℕ) (path : List ℕ) (wanted share : ℕ) (disposition : Disposition) (options attributes key : ℕ)
    → call.what ≡ Ask (request.Create path wanted share disposition options attributes key)
    → OpensSo v call
    (record { client = call.client; number = call.number; path = path; wanted = wanted; share = share; disposition = disposition; options = options; attributes = attributes; key = key }) (try v call turn)
opened-by v call turn path wanted share disposition options attributes key is = elim (cases_Bool (has_left v call.client)) [
  | inl left ↦ rw left (open-refused v InvalidHandle refl refl refl)
  | inr here ↦ rw (here, is) (creates v _ asked refl refl)
]
  where
    asked : Asked
    asked = record { client = call.client; number = call.number; path = path; wanted = wanted; share = share; disposition = disposition; options = options; attributes = attributes; key = key }

locked-by : (v : Volume) (call : Call) (turn number at count : ℕ) (exclusive wait : Bool) → call.what ≡ Ask (request.Lock number at count exclusive wait)
    → LocksSo v call.client number at count exclusive (try v call turn)
locked-by v call turn number at count exclusive wait is = elim (cases_Bool (has_left v call.client)) [
  | inl left ↦ rw left (lock-refused v InvalidHandle refl refl refl)
  | inr here ↦ rw (here, is) (locks_so v call.client number at count exclusive wait)
]

leaves : (v : Volume) (call : Call) (turn : ℕ) (outcome : Outcome) → try v call turn ≡ outcome → PendsForCause v call turn outcome → LeavesAsAsked v call outcome
leaves v call turn (Done next reply) comes cause = (
  λ path wanted share disposition options attributes key is. (let ends = opened-by v call turn path wanted share disposition options attributes key is in OpensSo.so (rw comes at ends)),
  λ number at count exclusive wait is. (let ends = locked-by v call turn number at count exclusive wait is in LocksSo.so (rw comes at ends)),
)
leaves v call turn (Stay next interim) comes cause = stays-leaves comes cause
leaves v call turn (Hold next blockers interim) comes cause = held-leaves cause

-- all tries of a history
pub opens-and_locks_as_asked : (setup : Setup) (history : List HistoryEntry) → OpensAndLocksAsAsked setup history
opens-and_locks_as_asked setup history = λ k d within. (let t : Tried = get_or (tries_of setup history) k d in
    leaves t.before t.call t.turn (try t.before t.call t.turn) refl (calls-pend_for_cause setup history k d within))
