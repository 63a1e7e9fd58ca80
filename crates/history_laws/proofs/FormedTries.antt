-- Each try keeps the tree well formed: what is made, or gets a new name, has a name of a path without a fault, in a directory without a
-- reparse point; a further link isn't the 1,025th; only a stream with a name is marked, and only what is marked is removed; and a
-- reparse point is set only where nothing is.
use Rattle.fsa_model.proofs.CountLaws.{how_many-filter_le}
use Rattle.fsa_model.proofs.RowLaws.{option_cases, row_of-all}
use Rattle.fsa_model.proofs.SoundLaws.{next-unlinked}
use Rattle.fsa_model.specs.Changes.{with_change_noted}
use Rattle.fsa_model.specs.Close.{close_at, closed_status, handles_of_client, is_call_on, is_left_behind, is_link_of_parent, is_link_over, is_stream_over, name_bit, named_stream, pending_by_turn, try_close, try_leave, with_all_closed, with_calls_ended, with_client_gone, with_closed, with_link_swept, with_mark_on_close, with_stream_swept, with_swept}
use Rattle.fsa_model.specs.Coherence.{IsTied}
use Rattle.fsa_model.specs.Edits.{with_end, without_handle, without_link}
use Rattle.fsa_model.specs.Link.{has_all_links, link_at, link_by, link_file, most_links, try_link}
use Rattle.fsa_model.specs.Lookups.{bytes_of, child_of, file_of_link, handle_of, has_child, has_left, has_row, is_directory, is_link_marked, is_marked, is_named_stream, is_open_on, linked_file, links_of, stream_of}
use Rattle.fsa_model.specs.Once.{how_many}
use Rattle.fsa_model.specs.Open.{Asked, clashed, completes_if_oplocked, create_at, create_found, create_there, create_walked, has_stream_part, held, names_stream, open_directory, open_existing, open_granted, open_waits, opened, stop_status, stopped, stream_name, try_create, wants_directory, wants_more, only_makes, is_other_kind, asks_for_file, create_in_file, is_invalid, wants_no_right, lacks_delete, opens_point}
use Rattle.fsa_model.specs.Outcome.{Outcome, ends_with, refused, Done, Stay, Hold}
use Rattle.fsa_model.specs.Rename.{naming_by, rename_at, rename_by, rename_link, replaced_link, try_rename}
use Rattle.fsa_model.specs.ReparsePoints.{has_other_tag, is_no_tag, may_set_point, set_buffer, set_point, set_reparse_at, set_reparse_by, try_set_reparse}
use Rattle.fsa_model.specs.Replacement.{Naming, is_no_name, new_name}
use Rattle.fsa_model.specs.Sound.{IsSoundTree}
use Rattle.fsa_model.specs.Try.{try, try_what}
use Rattle.fsa_model.specs.Turn.{volume_after}
use Rattle.fsa_model.specs.Volume.{File, Handle, Link, Pending, Stream, Volume, fresh}
use Rattle.fsa_model.specs.Walk.{Barred, Diverted, Reached, Walked, last_name, point_of, walk}
use Rattle.fsa_types.specs.Access.{has_any}
use Rattle.fsa_types.specs.FixedBuffers.{read_reparse}
use Rattle.fsa_types.specs.Masks.{DELETE, FILE_ACTION_REMOVED}
use Rattle.fsa_types.specs.Paths.{components, path_fault, rest_of}
use Rattle.fsa_types.specs.Rows.{row_of, without_row}
use Rattle.fsa_types.specs.declared.oplock.Class.{Class}
use Rattle.fsa_types.specs.declared.oplock.Class.TheVariants.{Clash, ReadOpen}
use Rattle.fsa_types.specs.declared.oplock.HandleSet.{HandleSet}
use Rattle.fsa_types.specs.declared.reply.Body.{Body}
use Rattle.fsa_types.specs.declared.reply.Body.TheVariants.{Nothing, Opened}
use Rattle.fsa_types.specs.declared.request.Call.{Call}
use Rattle.fsa_types.specs.declared.request.What.{What}
use Rattle.fsa_types.specs.declared.request.What.TheVariants.{Ask, Leave}
use Rattle.fsa_types.specs.declared.status.Status.{Status}
use Rattle.fsa_types.specs.declared.status.Status.TheVariants.{AccessDenied, Cancelled, DirectoryNotEmpty, FileIsADirectory, InvalidHandle, InvalidParameter, ObjectNameInvalid, OplockBreakInProgress, SharingViolation, Success, TooManyLinks, IoReparseDataInvalid, IoReparseTagInvalid, IoReparseTagMismatch, ObjectNameCollision, NotADirectory}
use Rattle.history_laws.proofs.FitLists.{by-if, by-option, fit-by_handle, fit-if, fit-of, fit-of_file, fit-option, fit-where}
use Rattle.history_laws.proofs.FormedKinds.{Formed, FormedFitsAll, IsNamed, NoPoint, formed-changes, formed-link_marked, formed-noted, formed-same, formed-stream_marked, formed-without_link, named-marked, named-named, FormedFits, formed-change}
use Rattle.history_laws.proofs.FormedNames.{name-good, stream-good, walk-pointless}
use Rattle.history_laws.proofs.OpensStay.{closes_handles}
use Rattle.history_laws.proofs.OverKinds.{noted-files, noted-links}
use Rattle.history_laws.proofs.SetsByOpens.{opens_so}
use Rattle.history_laws.proofs.TreeParts.{where_success-fails, where_success-none}
use Rattle.history_laws.proofs.TreeTries.{what-leaves}
use Rattle.history_laws.specs.TreeChanges.{LeavesChanges, MarksLink, MarksStream, MovesLink, RemovesLink, RemovesStream, SetsChangeTime, added_link, changes_asked, changes_linking, changes_marking, changes_of, changes_opening, changes_renaming, filter_of_name, is_under, made_in, made_under, named_stream_of, overwritten_in, removed_where, stream_made, where_reached, with_tree_change, with_tree_changes}
use Rattle.history_laws.specs.WaitEnds.{is_success}
use Rattle.history_laws.specs.WellFormed.{IsLinkName, IsStreamName}
use Rattle.std.proofs.Common.{Bool, List, None, Option, Some, [], arith, false, inl, inr, length, not, refl, subst, sym, true, ℕ, ◌&&◌, ◌++◌, ◌==◌, ◌||◌, ◌∷◌, ◌≡◌}
use Rattle.std.proofs.lemmas.Bool.{and_parts, both_ways, cases_Bool, leb-false, or_parts}
use Rattle.std.proofs.lemmas.List.Elements.{All-cons, All-filter, All-nil}
use Rattle.std.specs.Option.{option_map_or}
use Rattle.std.specs.Prelude.{if◌then◌else◌, filter, is_some, ◌<◌, ◌≤◌}
use Rattle.fsa_types.specs.declared.request.Request.TheVariants as request
use Rattle.fsa_types.specs.declared.reply.Action.TheVariants as action
use Rattle.fsa_model.specs.Volume as volume
use Rattle.fsa_model.specs.Setup.{Setup}

-- what no change asks for fits
formed-nothing : (v : Volume) → FormedFitsAll v []
formed-nothing v = tt

-- ---- how the parts end

module _ (v : Volume) (client number : ℕ) (what : What) where
  -- what the outcome changes fits
  abbrev FormedBy : Outcome → Type 0
  FormedBy outcome = FormedFitsAll v (changes_of v client number what outcome)

  -- it ends with another status
  not_made : (u : Volume) (status : Status) → is_success status ≡ false → FormedBy (refused u status)
  not_made u status fails = rw (where_success-fails status (changes_asked v client number what Nothing) fails) tt

  fits-if : (test : Bool) (one other : Outcome) → (test ≡ true → FormedBy one) → (test ≡ false → FormedBy other) → FormedBy (if test then one else other)
  fits-if test one other first second = by-if FormedBy test one other first second

  fits-option : {T : Type 0} (found : Option T) (some : T → Outcome) (none : Outcome) → ((item : T) → found ≡ Some item → FormedBy (some item)) → FormedBy none
      → FormedBy (option_map_or some found none)
  fits-option found some none there missing = by-option FormedBy found some none there (λ is. missing)

-- ---- opens

-- what is made fits
made-fits : (v : Volume) (asked : Asked) (dir : ℕ) (name : List ℕ) → IsSoundTree v → IsLinkName name → NoPoint v dir → IsStreamName (stream_name asked.path)
    → FormedFitsAll v (made_in v asked dir name)
made-fits v asked dir name sound named free good =
    fit-option FormedFitsAll v (child_of v dir name) _ (made_under v asked dir name) (λ link found. (good, tt))
    (fit-if FormedFitsAll v (wants_directory asked) _ _ ((named, free, next-unlinked v sound, refl, refl), tt) ((named, free, next-unlinked v sound, refl), stream _))
  where
    stream : (w : Volume) → FormedFitsAll w (stream_made v asked)
    stream w = fit-if FormedFitsAll w (names_stream asked.path) _ [] (good, tt) tt

overwritten-fits : (v : Volume) (asked : Asked) (walked : Walked) → FormedFitsAll v (where_reached asked (overwritten_in v asked) walked)
overwritten-fits v asked (Reached dir) = fit-option FormedFitsAll v (child_of v dir (last_name (components asked.path))) _ []
    (λ link found. fit-option FormedFitsAll v (stream_of v (linked_file v link) (stream_name asked.path)) _ [] (λ stream there. (tt, tt)) tt) tt
overwritten-fits v asked (Barred status) = tt
overwritten-fits v asked (Diverted file next) = tt

opening-fits : (v : Volume) (asked : Asked) (body : Body) → FormedFitsAll v (where_reached asked (made_in v asked) (walk v (components asked.path))) → FormedFitsAll v (changes_opening v asked body)
opening-fits v asked (Opened action.Created) made = made
opening-fits v asked (Opened action.Superseded) made = overwritten-fits v asked (walk v (components asked.path))
opening-fits v asked (Opened action.Overwritten) made = overwritten-fits v asked (walk v (components asked.path))
opening-fits v asked _ made = tt

-- what an open comes to changes what fits
record Opening (v : Volume) (asked : Asked) (outcome : Outcome) : Type 0 where
  so : FormedFitsAll v (changes_of v asked.client asked.number (opens_so asked) outcome)

module _ {v : Volume} {asked : Asked} where
  open-if : (test : Bool) (one other : Outcome) → (test ≡ true → Opening v asked one) → (test ≡ false → Opening v asked other) → Opening v asked (if test then one else other)
  open-if test one other holds fails = by-if (Opening v asked) test one other holds fails

  refuses : (u : Volume) (status : Status) → Opening v asked (refused u status)
  refuses u status = record { so = rw (where_success-none status) tt }

  open-unless : (test : Bool) (status : Status) (other : Outcome) → (test ≡ false → Opening v asked other) → Opening v asked (if test then refused v status else other)
  open-unless test status other goes = open-if test _ other (λ holds. refuses v status) goes

  open-option : {X : Type 0} (found : Option X) (some : X → Outcome) (none : Outcome) → ((x : X) → found ≡ Some x → Opening v asked (some x)) → Opening v asked none
      → Opening v asked (option_map_or some found none)
  open-option found some none with_some with_none = by-option (Opening v asked) found some none with_some (λ is. with_none)

  on_there : (u : Volume) (link : ℕ) (stream : Option ℕ) (status : Status) → Opening v asked (opened u asked link stream status action.Opened)
  on_there u link stream status = record { so = rw (where_success-none status) tt }

  waits_so : (on : HandleSet) (kind : Class) → Opening v asked (held v on kind asked.key)
  waits_so on kind = record { so = tt }

module _ (v : Volume) (asked : Asked) where
  stops : (file : ℕ) (rest : List ℕ) → Opening v asked (stopped v file rest)
  unfolding stopped
  stops file rest = open-option (point_of v file) _ _ (λ point is. record { so = rw (where_success-none (stop_status point.0)) tt }) (refuses v _)

  clashes_so : (on : HandleSet) → Opening v asked (clashed v on asked.key)
  unfolding clashed
  clashes_so on = open-if (open_waits v on Clash asked.key) _ _ (λ waits. waits_so on Clash) (λ free. refuses _ SharingViolation)

  -- a directory is opened as it is
  existing : (link : ℕ) (stream : Option ℕ) (on : HandleSet) → Opening v asked (open_existing v asked link stream on)
  unfolding open_existing
  existing link stream on =
      open-if (not (wants_more asked)) _ _ (λ less. on_there v link stream Success)
      (λ more. open-if (not (open_waits v on ReadOpen asked.key)) _ _ (λ free. on_there _ link stream Success)
      (λ waits. open-if (completes_if_oplocked asked) _ _ (λ beside. on_there _ link stream OplockBreakInProgress) (λ stays. waits_so on ReadOpen)))

  directory : (link file : ℕ) → Opening v asked (open_directory v asked link file)
  unfolding open_directory open_granted
  directory link file = search (open-if, open-unless, clashes_so, existing) depth 40

  there : (link file : ℕ) → is_directory v.files file ≡ true → Opening v asked (create_there v asked link file)
  unfolding create_there
  there link file is =
      open-unless (only_makes asked.disposition && not (names_stream asked.path)) ObjectNameCollision _
      (λ other. open-unless (is_other_kind asked (is_directory v.files file)) NotADirectory _
      (λ kind. open-unless (is_directory v.files file && asks_for_file asked) FileIsADirectory _
      (λ plain. open-if (is_directory v.files file) (open_directory v asked link file) (create_in_file v asked link file) (λ a_directory. directory link file)
      (λ isnt. absurd (both_ways (is_directory v.files file) isnt is)))))

  root : IsSoundTree v → Opening v asked (create_found v asked 0 1)
  unfolding create_found
  root sound = open-if (is_some (point_of v 1) && not (opens_point asked)) _ _ (λ point. stops 1 []) (λ plain. there 0 1 sound.tree.root_is_directory)

  -- where what it would make fits, so does what it changes
  any-opening : FormedFitsAll v (where_reached asked (made_in v asked) (walk v (components asked.path))) → (outcome : Outcome) → Opening v asked outcome
  any-opening made (Done w reply) = record { so = fit-where FormedFitsAll formed-nothing v reply.status (changes_opening v asked reply.body) (opening-fits v asked reply.body made) }
  any-opening made (Stay w interim) = record { so = tt }
  any-opening made (Hold w blockers interim) = record { so = tt }

  walked : (way : Walked) → walk v (components asked.path) ≡ way → IsSoundTree v → Formed v → path_fault asked.path ≡ None → Opening v asked (create_walked v asked way)
  unfolding create_walked
  walked (Reached dir) reached sound formed good =
      open-if (length (components asked.path) == 0) _ _ (λ is. root sound)
      (λ below. any-opening
      (subst (λ (way : Walked). FormedFitsAll v (where_reached asked (made_in v asked) way)) (sym reached)
      (made-fits v asked dir (last_name (components asked.path)) sound (name-good asked.path good below) (walk-pointless v (components asked.path) dir sound formed reached) (stream-good asked.path good))) _)
  walked (Barred status) reached sound formed good = refuses v status
  walked (Diverted file next) reached sound formed good = stops file (rest_of asked.path next)

none-of : {T : Type 0} (o : Option T) → is_some o ≡ false → o ≡ None
none-of None none = refl
none-of (Some x) none = cc

creates : (v : Volume) (asked : Asked) → IsSoundTree v → Formed v → Opening v asked (try_create v asked)
unfolding try_create create_at
creates v asked sound formed =
    open-unless (is_invalid asked) InvalidParameter _
    (λ valid. open-unless (wants_no_right asked) AccessDenied _
    (λ right. open-unless (lacks_delete asked) InvalidParameter _
    (λ delete. open-unless (is_some (path_fault asked.path)) ObjectNameInvalid _
    (λ good. open-unless (has_stream_part asked.path && wants_directory asked) NotADirectory _
    (λ kind. walked v asked (walk v (components asked.path)) refl sound formed (none-of (path_fault asked.path) good))))))

-- ---- what a removal leaves

pointless-removed : (v : Volume) (link dir : ℕ) → NoPoint v dir → NoPoint (with_tree_change v (RemovesLink link)) dir
pointless-removed v link dir free = out (with_change_noted v link FILE_ACTION_REMOVED (filter_of_name v link) None) (rw (noted-files v link FILE_ACTION_REMOVED (filter_of_name v link) None) free)
  where
    out : (w : Volume) → NoPoint w dir → NoPoint (without_link w link) dir
    out w there = elim (option_cases (row_of w.links link)) [
      | inl none ↦ rw none there
      | inr some ↦ rw some.1 (elim (cases_Bool (has_row (λ l. l.file == some.0.file) (without_row w.links link))) [
        | inl linked ↦ rw linked there
        | inr last ↦ rw last (All-filter (λ (entry : ℕ × File). not (entry.0 == some.0.file)) (λ (entry : ℕ × File). is_some entry.1.point ≡ true → (entry.0 == dir) ≡ false) w.files there)
      ])
    ]

few-removed : (v : Volume) (link file : ℕ) → how_many (λ link. link.1.file == file) v.links < 1024 → how_many (λ link. link.1.file == file) (with_tree_change v (RemovesLink link)).links < 1024
few-removed v link file few = out (with_change_noted v link FILE_ACTION_REMOVED (filter_of_name v link) None) (rw (noted-links v link FILE_ACTION_REMOVED (filter_of_name v link) None) few)
  where
    fewer : (links : List (ℕ × Link)) → how_many (λ (l : ℕ × Link). l.1.file == file) links < 1024 → how_many (λ (l : ℕ × Link). l.1.file == file) (without_row links link) < 1024
    fewer links less = (let most = how_many-filter_le (λ (l : ℕ × Link). l.1.file == file) (λ (l : ℕ × Link). not (l.0 == link)) links in omega (arith, less, most))

    out : (w : Volume) → how_many (λ (l : ℕ × Link). l.1.file == file) w.links < 1024 → how_many (λ (l : ℕ × Link). l.1.file == file) (without_link w link).links < 1024
    out w less = elim (option_cases (row_of w.links link)) [
      | inl none ↦ rw none less
      | inr some ↦ rw some.1 (elim (cases_Bool (has_row (λ l. l.file == some.0.file) (without_row w.links link))) [
        | inl linked ↦ rw linked (fewer w.links less)
        | inr last ↦ rw last (fewer w.links less)
      ])
    ]

-- ---- new names

-- a path that is a name gives one that a link may have
new-name : (path : List ℕ) → is_no_name path ≡ false → IsLinkName (last_name (components path))
new-name path good =
    let parts = or_parts (is_some (path_fault path) || length (components path) == 0) (has_stream_part path) good in
    let both = or_parts (is_some (path_fault path)) (length (components path) == 0) parts.0 in
    name-good path (none-of (path_fault path) both.0) both.1

renaming-fits : (v : Volume) (naming : Naming) (walked : Walked) → walk v (components naming.path) ≡ walked → IsSoundTree v → Formed v → is_no_name naming.path ≡ false
    → FormedFitsAll v (changes_renaming v naming walked)
renaming-fits v naming (Reached dir) reached sound formed good = fit-if FormedFitsAll v (is_under v naming.link dir (new_name naming)) [] _ tt (moved (replaced_link v naming dir))
  where
    free : NoPoint v dir
    free = walk-pointless v (components naming.path) dir sound formed reached

    moved : (replaced : Option ℕ) → FormedFitsAll v (removed_where replaced ++ MovesLink naming.link dir (new_name naming) ∷ SetsChangeTime naming.file ∷ [])
    moved None = ((new-name naming.path good, free), (tt, tt))
    moved (Some replaced) = (tt, ((new-name naming.path good, pointless-removed v replaced dir free), (tt, tt)))
renaming-fits v naming (Barred status) reached sound formed good = tt
renaming-fits v naming (Diverted file next) reached sound formed good = tt

linking-fits : (v : Volume) (naming : Naming) (walked : Walked) → walk v (components naming.path) ≡ walked → IsSoundTree v → Formed v → is_no_name naming.path ≡ false
    → how_many (λ link. link.1.file == naming.file) v.links < 1024 → FormedFitsAll v (changes_linking v naming walked)
linking-fits v naming (Reached dir) reached sound formed good few =
    fit-option FormedFitsAll v (child_of v dir (new_name naming)) _ (added_link naming dir)
    (λ replaced found. fit-if FormedFitsAll v (linked_file v replaced == naming.file) [] (RemovesLink replaced ∷ added_link naming dir) tt
    (tt, ((new-name naming.path good, pointless-removed v replaced dir free, few-removed v replaced naming.file few), (tt, tt))))
    ((new-name naming.path good, free, few), (tt, tt))
  where
    free : NoPoint v dir
    free = walk-pointless v (components naming.path) dir sound formed reached
linking-fits v naming (Barred status) reached sound formed good few = tt
linking-fits v naming (Diverted file next) reached sound formed good few = tt

renamed-so : (v : Volume) (client number handle : ℕ) (path : List ℕ) (replace : Bool) → IsSoundTree v → Formed v
    → FormedFitsAll v (changes_of v client number (Ask (request.Rename handle path replace)) (try_rename v client handle path replace))
unfolding try_rename rename_at rename_by rename_link
renamed-so v client number handle path replace sound formed = elim (cases_Bool (is_no_name path)) [
  | inr good ↦ fit-of FormedFitsAll formed-nothing v client number what (try_rename v client handle path replace)
      (λ body. fit-by_handle FormedFitsAll formed-nothing v client handle _ (λ id row is. renaming-fits v (naming_by v id row path replace) (walk v (components path)) refl sound formed good))
  | inl bad ↦ fits-option v client number what (handle_of v client handle) _ _
      (λ id open_it. fits-option v client number what (row_of v.handles id) _ _
      (λ row living. fits-if v client number what (row.link == 0 || is_some (named_stream v row)) _ _ (λ nameless. not_made v client number what v InvalidParameter refl)
      (λ named. fits-if v client number what (not (has_any row.access DELETE)) _ _ (λ lacks. not_made v client number what v AccessDenied refl)
      (λ has. fits-if v client number what (is_link_marked v row.link) _ _ (λ marked. not_made v client number what v AccessDenied refl)
      (λ kept. fits-if v client number what (is_no_name path) _ _ (λ is. not_made v client number what v ObjectNameInvalid refl)
      (λ good. absurd (both_ways (is_no_name path) good bad))))))
      (not_made v client number what v InvalidHandle refl))
      (not_made v client number what v InvalidHandle refl)
]
  where
    what : What
    what = Ask (request.Rename handle path replace)

-- how many links there are of a file
many-filter : {X : Type 0} (p : X → Bool) (xs : List X) → how_many p xs ≡ length (filter p xs)
many-filter p [] = refl
many-filter p (x ∷ xs) = elim (cases_Bool (p x)) [
  | inl passes ↦ rw passes (let rest = many-filter p xs in omega (arith, rest))
  | inr fails ↦ rw fails (let rest = many-filter p xs in omega (arith, rest))
]

few-links : (v : Volume) (file : ℕ) → has_all_links v file ≡ false → how_many (λ link. link.1.file == file) v.links < 1024
few-links v file fewer =
    (let less : (links_of v file).1 < 1024 = leb-false most_links (links_of v file).1 fewer in
    let same = many-filter (λ (link : ℕ × Link). link.1.file == file) v.links in omega (arith, less, same))

linked-so : (v : Volume) (client number handle : ℕ) (path : List ℕ) (replace : Bool) → IsSoundTree v → Formed v
    → FormedFitsAll v (changes_of v client number (Ask (request.Link handle path replace)) (try_link v client handle path replace))
unfolding try_link link_at link_by link_file
linked-so v client number handle path replace sound formed =
    fits-option v client number what (handle_of v client handle) _ _
    (λ id open_it. fits-option v client number what (row_of v.handles id) _ _
    (λ row living. fits-if v client number what (not (is_some row.stream)) _ _ (λ directory. not_made v client number what v FileIsADirectory refl)
    (λ some. fits-if v client number what (is_some (named_stream v row)) _ _ (λ named. not_made v client number what v InvalidParameter refl)
    (λ default. fits-if v client number what (is_link_marked v row.link) _ _ (λ marked. not_made v client number what v AccessDenied refl)
    (λ kept. fits-if v client number what (has_all_links v (linked_file v row.link)) _ _ (λ all. not_made v client number what v TooManyLinks refl)
    (λ fewer. fits-if v client number what (is_no_name path) _ _ (λ bad. not_made v client number what v ObjectNameInvalid refl)
    (λ good. fit-of FormedFitsAll formed-nothing v client number what _
    (λ body. rw (open_it, living) (linking-fits v (naming_by v id row path replace) (walk v (components path)) refl sound formed good (few-links v (linked_file v row.link) fewer)))))))))
    (not_made v client number what v InvalidHandle refl))
    (not_made v client number what v InvalidHandle refl)
  where
    what : What
    what = Ask (request.Link handle path replace)

-- ---- reparse points

-- the file of a link that is no parent's isn't the root, and has nothing in it
pointed-file : (v : Volume) (link file : ℕ) → IsSoundTree v → (link == 0) ≡ false → file_of_link v.links link ≡ Some file → is_link_of_parent v link ≡ false
    → ((file == 1) ≡ false) × (has_child v.links file ≡ false)
pointed-file v link file sound other is childless = elim (option_cases (row_of v.links link)) [
  | inl none ↦ (let impossible : None ≡ Some file = rw (other, none) at is in cc)
  | inr some ↦ (let there : Some some.0.file ≡ Some file = rw (other, some.1) at is in
      let same : some.0.file ≡ file = cc in
      let not_root : (some.0.file == 1) ≡ false = row_of-all (λ (row : Link). (row.file == 1) ≡ false) v.links link some.0 some.1 sound.tree.root_has_no_link in
      let empty : has_child v.links some.0.file ≡ false = rw some.1 at childless in
      subst (λ (n : ℕ). ((n == 1) ≡ false) × (has_child v.links n ≡ false)) same (not_root, empty))
]

reparsed-so : (v : Volume) (client number handle : ℕ) (bytes : List ℕ) → IsSoundTree v
    → FormedFitsAll v (changes_of v client number (Ask (request.SetReparse handle bytes)) (try_set_reparse v client handle bytes))
unfolding try_set_reparse set_reparse_at set_reparse_by set_buffer set_point
reparsed-so v client number handle bytes sound =
    fits-option v client number what (handle_of v client handle) _ _
    (λ id open_it. fits-option v client number what (row_of v.handles id) _ _
    (λ row living. fits-if v client number what (not (may_set_point row)) _ _ (λ lacks. not_made v client number what v AccessDenied refl)
    (λ may. fits-if v client number what (row.link == 0) _ _ (λ root_it. not_made v client number what v InvalidParameter refl)
    (λ other. fits-option v client number what (file_of_link v.links row.link) _ _
    (λ file its. fits-option v client number what (read_reparse bytes) _ _
    (λ point reads. fits-if v client number what (is_no_tag point.0) _ _ (λ bad. not_made v client number what v IoReparseTagInvalid refl)
    (λ tag. fits-if v client number what (is_link_of_parent v row.link) _ _ (λ parent. not_made v client number what v DirectoryNotEmpty refl)
    (λ childless. fits-if v client number what (has_other_tag v file point.0) _ _ (λ differs. not_made v client number what v IoReparseTagMismatch refl)
    (λ same. rw (open_it, living, its, reads) (pointed-file v row.link file sound other its childless, tt)))))
    (not_made v client number what v IoReparseDataInvalid refl))
    (not_made v client number what v InvalidHandle refl))))
    (not_made v client number what v InvalidHandle refl))
    (not_made v client number what v InvalidHandle refl)
  where
    what : What
    what = Ask (request.SetReparse handle bytes)

-- ---- the other calls

-- the stream of a handle that is marked has a name
named-of : (v : Volume) (handle : Handle) (stream : ℕ) → Formed v → named_stream_of v handle ≡ Some stream → IsNamed v stream
named-of v handle stream formed is = elim (option_cases handle.stream) [
  | inl none ↦ (let impossible : None ≡ Some stream = rw none at is in cc)
  | inr some ↦ (let by_name : (if is_named_stream v some.0 then Some some.0 else None) ≡ Some stream = rw some.1 at is in
      elim (cases_Bool (is_named_stream v some.0)) [
        | inl named ↦ (let there : Some some.0 ≡ Some stream = rw named at by_name in let same : some.0 ≡ stream = cc in subst (IsNamed v) same (named-named v some.0 formed named))
        | inr default ↦ (let impossible : None ≡ Some stream = rw default at by_name in cc)
      ])
]

marking-fits : (v : Volume) (handle : Handle) (delete : Bool) → Formed v → FormedFitsAll v (changes_marking v handle delete)
marking-fits v handle delete formed = fit-option FormedFitsAll v (named_stream_of v handle) _ (MarksLink handle.link delete ∷ []) (λ stream named. (marks delete stream named, tt)) (tt, tt)
  where
    marks : (delete : Bool) (stream : ℕ) → named_stream_of v handle ≡ Some stream → FormedFits v (MarksStream stream delete)
    marks true stream named = named-of v handle stream formed named
    marks false stream named = tt

-- a request whose changes ask for more
abbrev asks_more : What → Bool
asks_more (Ask (request.Create path wanted share disposition options attributes key)) = true
asks_more (Ask (request.Close handle)) = true
asks_more (Ask (request.SetReparse handle bytes)) = true
asks_more (Ask (request.Rename handle path replace)) = true
asks_more (Ask (request.Link handle path replace)) = true
asks_more Leave = true
asks_more _ = false

easily-formed : (v : Volume) (client number : ℕ) (what : What) (body : Body) → asks_more what ≡ false → Formed v → FormedFitsAll v (changes_asked v client number what body)
easily-formed v client number (Ask (request.Write handle at bytes)) body asks formed = fit-by_handle FormedFitsAll formed-nothing v client handle _
    (λ id row is. fit-option FormedFitsAll v row.stream _ [] (λ stream there. fit-if FormedFitsAll v (length bytes == 0) [] _ tt (tt, tt)) tt)
easily-formed v client number (Ask (request.SetEnd handle end)) body asks formed = fit-by_handle FormedFitsAll formed-nothing v client handle _
    (λ id row is. fit-option FormedFitsAll v row.stream _ [] (λ stream there. fit-if FormedFitsAll v (length (bytes_of v stream) == end) [] _ tt (tt, tt)) tt)
easily-formed v client number (Ask (request.SetDisposition handle delete)) body asks formed =
    fit-by_handle FormedFitsAll formed-nothing v client handle _ (λ id row is. marking-fits v row delete formed)
easily-formed v client number (Ask (request.SetBasic handle creation access write change attributes)) body asks formed =
    fit-by_handle FormedFitsAll formed-nothing v client handle _ (λ id row is. fit-of_file FormedFitsAll formed-nothing v row _ (λ file. (tt, tt)))
easily-formed v client number (Ask (request.SetSecurity handle owner dacl)) body asks formed =
    fit-by_handle FormedFitsAll formed-nothing v client handle _ (λ id row is. fit-of_file FormedFitsAll formed-nothing v row _ (λ file. (tt, tt)))
easily-formed v client number (Ask (request.DeleteReparse handle tag)) body asks formed =
    fit-by_handle FormedFitsAll formed-nothing v client handle _ (λ id row is. fit-of_file FormedFitsAll formed-nothing v row _ (λ file. (tt, tt)))
easily-formed v client number (Ask (request.Create path wanted share disposition options attributes key)) body asks formed = (let impossible : true ≡ false = asks in cc)
easily-formed v client number (Ask (request.Close handle)) body asks formed = (let impossible : true ≡ false = asks in cc)
easily-formed v client number (Ask (request.SetReparse handle bytes)) body asks formed = (let impossible : true ≡ false = asks in cc)
easily-formed v client number (Ask (request.Rename handle path replace)) body asks formed = (let impossible : true ≡ false = asks in cc)
easily-formed v client number (Ask (request.Link handle path replace)) body asks formed = (let impossible : true ≡ false = asks in cc)
easily-formed v client number Leave body asks formed = (let impossible : true ≡ false = asks in cc)
easily-formed v client number what body asks formed = tt

what-formed : (v : Volume) (turn client number : ℕ) (what : What) → closes_handles what ≡ false → IsSoundTree v → Formed v
    → FormedFitsAll v (changes_of v client number what (try_what v turn client number what))
what-formed v turn client number (Ask (request.Create path wanted share disposition options attributes key)) closes sound formed =
    Opening.so
    (creates v (record { client = client; number = number; path = path; wanted = wanted; share = share; disposition = disposition; options = options; attributes = attributes; key = key }) sound formed)
what-formed v turn client number (Ask (request.SetReparse handle bytes)) closes sound formed = reparsed-so v client number handle bytes sound
what-formed v turn client number (Ask (request.Rename handle path replace)) closes sound formed = renamed-so v client number handle path replace sound formed
what-formed v turn client number (Ask (request.Link handle path replace)) closes sound formed = linked-so v client number handle path replace sound formed
what-formed v turn client number (Ask (request.Close handle)) closes sound formed = (let impossible : true ≡ false = closes in cc)
what-formed v turn client number Leave closes sound formed = (let impossible : true ≡ false = closes in cc)
what-formed v turn client number what closes sound formed =
    fit-of FormedFitsAll formed-nothing v client number what (try_what v turn client number what) (λ body. easily-formed v client number what body refl formed)

-- ---- closes

formed-calls_ended : (status_of : What → Status) (calls : List (ℕ × Pending)) (v : Volume) → Formed v → Formed (with_calls_ended status_of calls v)
formed-calls_ended status_of [] v formed = formed
formed-calls_ended status_of (entry ∷ more) v formed =
    (let first : Volume = with_end v entry.1.call.client entry.1.call.number (record { status = status_of entry.1.call.what; body = Nothing }) in
    formed-calls_ended status_of more first (formed-same v first refl refl refl refl formed))

-- with DELETE_ON_CLOSE a named stream is marked, or a link
formed-marked_on_close : (v : Volume) (handle : Handle) → Formed v → Formed (with_mark_on_close v handle)
formed-marked_on_close v handle formed = elim (cases_Bool handle.delete_on_close) [
  | inr keeps ↦ rw keeps formed
  | inl deletes ↦ rw deletes (elim (option_cases (named_stream v handle)) [
    | inl none ↦ rw none (elim (cases_Bool (is_link_of_parent v handle.link)) [
      | inl parent ↦ rw parent formed
      | inr childless ↦ rw childless (formed-link_marked v handle.link true formed)
    ])
    | inr some ↦ rw some.1 (formed-stream_marked v some.0 true (λ is. named-of v handle some.0 formed some.1) formed)
  ])
]

-- a stream is removed that was marked, and so has a name
formed-stream_swept : (v : Volume) (link stream : ℕ) → Formed v → Formed (with_stream_swept v link stream)
formed-stream_swept v link stream formed = elim (cases_Bool (is_stream_over v stream)) [
  | inr stays ↦ rw stays formed
  | inl over ↦ (let marked : is_marked v stream ≡ true = (and_parts (is_marked v stream) (not (has_row (is_open_on stream) v.handles)) over).0 in
      rw over (formed-change v (RemovesStream link stream) (named-marked v stream formed marked) formed))
]

formed-link_swept : (v : Volume) (link : ℕ) → Formed v → Formed (with_link_swept v link)
formed-link_swept v link formed = elim (cases_Bool (is_link_over v link)) [
  | inr stays ↦ rw stays formed
  | inl over ↦ rw over (formed-without_link (with_change_noted v link FILE_ACTION_REMOVED (name_bit v link) None) link (formed-noted v link FILE_ACTION_REMOVED (name_bit v link) None formed))
]

formed-swept : (v : Volume) (handle : Handle) → Formed v → Formed (with_swept v handle)
formed-swept v handle formed = elim (option_cases handle.stream) [
  | inl none ↦ rw none (formed-link_swept v handle.link formed)
  | inr some ↦ rw some.1 (formed-link_swept (with_stream_swept v handle.link some.0) handle.link (formed-stream_swept v handle.link some.0 formed))
]

formed-closed : (v : Volume) (id : ℕ) (handle : Handle) → Formed v → Formed (with_closed v id handle)
unfolding with_closed
formed-closed v id handle formed =
    let ended : Volume = with_calls_ended closed_status (pending_by_turn (is_call_on handle) v) v in
    formed-swept (with_mark_on_close (without_handle ended id) handle) handle
    (formed-marked_on_close (without_handle ended id) handle
    (formed-same ended (without_handle ended id) refl refl refl refl (formed-calls_ended closed_status (pending_by_turn (is_call_on handle) v) v formed)))

formed-all_closed : (handles : List (ℕ × Handle)) (v : Volume) → Formed v → Formed (with_all_closed handles v)
formed-all_closed [] v formed = formed
formed-all_closed (entry ∷ more) v formed = formed-all_closed more (with_closed v entry.0 entry.1) (formed-closed v entry.0 entry.1 formed)

close-formed : (v : Volume) (client handle : ℕ) → Formed v → Formed (volume_after (try_close v client handle))
unfolding try_close close_at
close-formed v client handle formed = of_id (handle_of v client handle)
  where
    of_row : (id : ℕ) (row : Option Handle) → Formed (volume_after (option_map_or (λ held. ends_with (with_closed v id held) Success) row (refused v InvalidHandle)))
    of_row id None = formed
    of_row id (Some row) = formed-closed v id row formed

    of_id : (id : Option ℕ) → Formed (volume_after (option_map_or (λ held. close_at v held) id (refused v InvalidHandle)))
    of_id None = formed
    of_id (Some id) = of_row id (row_of v.handles id)

leave-formed : (v : Volume) (client : ℕ) → Formed v → Formed (volume_after (try_leave v client))
unfolding try_leave with_client_gone
leave-formed v client formed =
    let ended : Volume = with_calls_ended (λ _. Cancelled) (pending_by_turn (is_left_behind client) v) v in
    formed-same (with_all_closed (handles_of_client v client) ended) _ refl refl refl refl
    (formed-all_closed (handles_of_client v client) ended (formed-calls_ended (λ _. Cancelled) (pending_by_turn (is_left_behind client) v) v formed))

-- ---- any try

other-formed : (v : Volume) (turn client number : ℕ) (what : What) → closes_handles what ≡ false → IsTied v → IsSoundTree v → Formed v → Formed (volume_after (try_what v turn client number what))
other-formed v turn client number what closes tied sound formed =
    after (try_what v turn client number what) (what-leaves v turn client number what tied) (what-formed v turn client number what closes sound formed)
  where
    after : (outcome : Outcome) → LeavesChanges v client number what outcome → FormedFitsAll v (changes_of v client number what outcome) → Formed (volume_after outcome)
    after outcome same fits =
        formed-same (with_tree_changes v (changes_of v client number what outcome)) (volume_after outcome) same.files same.links same.streams same.last_stream
        (formed-changes (changes_of v client number what outcome) v fits formed)

pub try-formed : (v : Volume) (call : Call) (turn : ℕ) → IsTied v → IsSoundTree v → Formed v → Formed (volume_after (try v call turn))
try-formed v call turn tied sound formed = elim (cases_Bool (has_left v call.client)) [
  | inl left ↦ rw left formed
  | inr here ↦ rw here (by_what call.what)
]
  where
    by_what : (what : What) → Formed (volume_after (try_what v turn call.client call.number what))
    by_what (Ask (request.Close handle)) = close-formed v call.client handle formed
    by_what Leave = leave-formed v call.client formed
    by_what what = other-formed v turn call.client call.number what refl tied sound formed

-- a fresh volume has the root alone
pub formed-fresh : (setup : Setup) → Formed (fresh setup)
formed-fresh setup = record {
  well = record {
    link_names = All-nil _;
    stream_names = All-nil _;
    default_streams = All-cons (λ (entry : ℕ × File). entry.1.directory ≡ false → has_row (λ (stream : Stream). stream.file == entry.0 && length stream.name == 0) [] ≡ true) (1, volume.root) []
        (λ is. absurd (let impossible : true ≡ false = is in cc)) (All-nil _);
    few_links = All-cons (λ (entry : ℕ × File). how_many (λ (link : ℕ × Link). link.1.file == entry.0) [] ≤ 1024) (1, volume.root) [] (omega arith) (All-nil _);
    points = All-cons (λ (entry : ℕ × File). is_some entry.1.point ≡ true → ((entry.0 == 1) ≡ false) × (has_child [] entry.0 ≡ false)) (1, volume.root) []
        (λ is. absurd (let impossible : false ≡ true = is in cc)) (All-nil _);
  };
  unmarked = All-nil _;
  numbered = record { rising = λ j k d less within. absurd (omega arith); given = λ k d within. absurd (omega arith) };
}
