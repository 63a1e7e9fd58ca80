-- No try leaves anything over: the changes that its call asks for fit, and what has a handle has one still, unless the call closes
-- handles. Links, streams and handles stay numbered.
use Rattle.std.proofs.Common.{◌≡◌, ℕ, ◌+◌, Bool, true, false, ◌==◌, not, List, [], ◌∷◌, ◌++◌, length, refl, ◌∙◌, inl, inr, Option, Some, None}
use Rattle.std.specs.Option.{option_map_or}
use Rattle.std.specs.Prelude.{All, is_some, if◌then◌else◌}
use Rattle.std.proofs.lemmas.Bool.{cases_Bool}
use Rattle.fsa_types.specs.FixedBuffers.{read_reparse}
use Rattle.fsa_types.specs.Masks.{FILE_ACTION_ADDED, FILE_ACTION_REMOVED, FILE_NOTIFY_CHANGE_FILE_NAME}
use Rattle.fsa_types.specs.Paths.{components}
use Rattle.fsa_types.specs.Rows.{IsNumbered, lives, row_of, without_row}
use Rattle.fsa_types.specs.declared.reply.Action.TheVariants as action
use Rattle.fsa_types.specs.declared.reply.Body.{Body}
use Rattle.fsa_types.specs.declared.reply.Body.TheVariants.{Opened}
use Rattle.fsa_types.specs.declared.request.Request.TheVariants as request
use Rattle.fsa_types.specs.declared.request.What.{What}
use Rattle.fsa_types.specs.declared.request.What.TheVariants.{Ask, Leave}
use Rattle.fsa_types.specs.declared.status.Status.TheVariants.{FileIsADirectory, InvalidHandle}
use Rattle.fsa_model.specs.Changes.{with_change_noted}
use Rattle.fsa_model.specs.Edits.{with_file, with_link, with_stream, without_link}
use Rattle.fsa_model.specs.Link.{link_at, link_by, try_link}
use Rattle.fsa_model.specs.Lookups.{bytes_of, child_of, handle_of, has_row, is_named, is_named_stream, linked_file, stream_of}
use Rattle.fsa_model.specs.Open.{Asked, file_attributes, names_stream, new_file, stream_name, wants_directory}
use Rattle.fsa_model.specs.Outcome.{Outcome, refused}
use Rattle.fsa_model.specs.Rename.{naming_by, replaced_link}
use Rattle.fsa_model.specs.Replacement.{Naming, new_name}
use Rattle.fsa_model.specs.Volume.{File, Handle, Volume}
use Rattle.fsa_model.specs.Walk.{Walked, Reached, Barred, Diverted, last_name, walk}
use Rattle.fsa_model.proofs.CoherenceComes.{number_of-row}
use Rattle.fsa_model.proofs.RowLaws.{eqb-swap, lives-last, option_cases, row_of-all}
use Rattle.history_laws.specs.TreeChanges.{TreeChange, MovesLink, MarksLink, MarksStream, SetsChangeTime, added_link, added_over, changes_asked, changes_linking, changes_marking, changes_of, changes_opening, changes_renaming, filter_of_name, is_under, made_in, made_under, named_stream_of, overwritten_in, removed_where, stream_made, where_reached, with_tree_change, with_tree_changes}
use Rattle.history_laws.proofs.FitLists.{fit-by_handle, fit-if, fit-of, fit-of_file, fit-option}
use Rattle.history_laws.proofs.OpensStay.{closes_handles}
use Rattle.history_laws.proofs.OverChanges.{Over, lives-without}
use Rattle.history_laws.proofs.OverKinds.{Fits, noted-files, noted-links, over-change}

-- a request for a link
abbrev pub is_link_request : What → Bool
is_link_request (Ask (request.Link handle path replace)) = true
is_link_request _ = false

-- ---- lists of changes

module _ (by on : ℕ → Bool) where
  -- each fits the volume that those before it leave
  abbrev pub FitAll : Volume → List TreeChange → Type 0
  FitAll v [] = Unit {0}
  FitAll v (change ∷ more) = Fits by on v change × FitAll (with_tree_change v change) more

  -- where nothing changes, nothing has to fit
  pub nothing-fits : (v : Volume) → FitAll v []
  nothing-fits v = tt

  pub over-changes : (changes : List TreeChange) (v : Volume) → FitAll v changes → Over by on v → Over by on (with_tree_changes v changes)
  over-changes [] v fits over = over
  over-changes (change ∷ more) v fits over = over-changes more (with_tree_change v change) fits.1 (over-change by on v change fits.0 over)

  -- ---- opens

  linked-lives : (v : Volume) (dir link : ℕ) (name : List ℕ) → IsNumbered v.links v.last_link → All (λ entry. lives v.files entry.1.file ≡ true) v.links → child_of v dir name ≡ Some link
      → lives v.files (linked_file v link) ≡ true
  linked-lives v dir link name numbered all found =
      (let it = number_of-row (is_named v.table dir name) v.links link numbered.rising found in
      rw it.1 (row_of-all (λ row. lives v.files row.file ≡ true) v.links link it.0 it.1 all))

  fit-made : (v : Volume) (asked : Asked) (dir : ℕ) (name : List ℕ) → FitAll v (made_under v asked dir name)
  fit-made v asked dir name = fit-if FitAll v (wants_directory asked) _ _ (tt, tt) (tt, stream (with_stream (with_link (with_file v file) dir name (v.last_file + 1)) (v.last_file + 1) []) (lives-last v.files (v.last_file + 1) file))
    where
      file : File
      file = new_file v asked false (file_attributes asked.attributes)

      stream : (w : Volume) → lives w.files (v.last_file + 1) ≡ true
          → FitAll (with_change_noted w (v.last_link + 1) FILE_ACTION_ADDED FILE_NOTIFY_CHANGE_FILE_NAME None) (stream_made v asked)
      stream w there = fit-if FitAll _ (names_stream asked.path) _ _ (rw (noted-files w (v.last_link + 1) FILE_ACTION_ADDED FILE_NOTIFY_CHANGE_FILE_NAME None) there, tt) tt

  fit-reached : (v : Volume) (asked : Asked) (changes : ℕ → List ℕ → List TreeChange) (walked : Walked) → ((dir : ℕ) (name : List ℕ) → FitAll v (changes dir name)) → FitAll v (where_reached asked changes walked)
  fit-reached v asked changes (Reached dir) each = each dir (last_name (components asked.path))
  fit-reached v asked changes (Barred status) each = tt
  fit-reached v asked changes (Diverted file next) each = tt

  fit-overwritten : (v : Volume) (asked : Asked) (dir : ℕ) (name : List ℕ) → FitAll v (overwritten_in v asked dir name)
  fit-overwritten v asked dir name = fit-option FitAll v (child_of v dir name) _ [] (λ link found. fit-option FitAll v (stream_of v (linked_file v link) (stream_name asked.path)) _ [] (λ stream there. (tt, tt)) tt) tt

  fit-opening : (v : Volume) (asked : Asked) (body : Body) → IsNumbered v.links v.last_link → All (λ entry. lives v.files entry.1.file ≡ true) v.links → FitAll v (changes_opening v asked body)
  fit-opening v asked (Opened action.Created) numbered all = fit-reached v asked (made_in v asked) (walk v (components asked.path))
      (λ dir name. fit-option FitAll v (child_of v dir name) _ _ (λ link found. (linked-lives v dir link name numbered all found, tt)) (fit-made v asked dir name))
  fit-opening v asked (Opened action.Superseded) numbered all = fit-reached v asked (overwritten_in v asked) (walk v (components asked.path)) (fit-overwritten v asked)
  fit-opening v asked (Opened action.Overwritten) numbered all = fit-reached v asked (overwritten_in v asked) (walk v (components asked.path)) (fit-overwritten v asked)
  fit-opening v asked _ numbered all = tt

  -- ---- new names

  fit-renaming : (v : Volume) (naming : Naming) (walked : Walked) → IsNumbered v.links v.last_link → FitAll v (changes_renaming v naming walked)
  fit-renaming v naming (Reached dir) numbered = fit-if FitAll v (is_under v naming.link dir (new_name naming)) [] _ tt (moved (replaced_link v naming dir))
    where
      moved : (replaced : Option ℕ) → FitAll v (removed_where replaced ++ MovesLink naming.link dir (new_name naming) ∷ SetsChangeTime naming.file ∷ [])
      moved None = (tt, (tt, tt))
      moved (Some replaced) = (numbered, (tt, (tt, tt)))
  fit-renaming v naming (Barred status) numbered = tt
  fit-renaming v naming (Diverted file next) numbered = tt

  -- what another link's removal leaves
  lives-removed : (v : Volume) (link file : ℕ) → (linked_file v link == file) ≡ false → lives v.files file ≡ true → lives (without_link v link).files file ≡ true
  lives-removed v link file other there = elim (option_cases (row_of v.links link)) [
    | inl none ↦ rw none there
    | inr some ↦ rw some.1 (elim (cases_Bool (has_row (λ l. l.file == some.0.file) (without_row v.links link))) [
      | inl linked ↦ rw linked there
      | inr unlinked ↦ (let apart : (some.0.file == file) ≡ false = rw some.1 at other in
          rw unlinked (lives-without v.files some.0.file file (eqb-swap file some.0.file ∙ apart) there))
    ])
  ]

  fit-linking : (v : Volume) (naming : Naming) (walked : Walked) → IsNumbered v.links v.last_link → lives v.files naming.file ≡ true → FitAll v (changes_linking v naming walked)
  fit-linking v naming (Reached dir) numbered there = fit-option FitAll v (child_of v dir (new_name naming)) _ (added_link naming dir) (λ replaced found. over replaced) (there, (tt, tt))
    where
      over : (replaced : ℕ) → FitAll v (added_over v naming dir replaced)
      over replaced = elim (cases_Bool (linked_file v replaced == naming.file)) [
        | inl own ↦ rw own tt
        | inr other ↦ rw other (
          numbered,
          (
            lives-removed noted replaced naming.file (rw (noted-links v replaced FILE_ACTION_REMOVED (filter_of_name v replaced) None) other)
                (rw (noted-files v replaced FILE_ACTION_REMOVED (filter_of_name v replaced) None) there),
            (tt, tt),
          ),
        )
      ]
        where
          noted : Volume
          noted = with_change_noted v replaced FILE_ACTION_REMOVED (filter_of_name v replaced) None
  fit-linking v naming (Barred status) numbered there = tt
  fit-linking v naming (Diverted file next) numbered there = tt

  -- ---- by a handle

  fit-marking : (v : Volume) (handle : Handle) (delete : Bool) → by handle.link ≡ true → ((s : ℕ) → handle.stream ≡ Some s → on s ≡ true) → FitAll v (changes_marking v handle delete)
  fit-marking v handle delete link_held stream_held = fit-option FitAll v (named_stream_of v handle) _ _ (λ stream named. (stream_fits delete stream named, tt)) (link_fits delete, tt)
    where
      named-is : (s : ℕ) → named_stream_of v handle ≡ Some s → handle.stream ≡ Some s
      named-is s is = elim (option_cases handle.stream) [
        | inl none ↦ (let impossible : None ≡ Some s = rw none at is in cc)
        | inr some ↦ (let by_name : (if is_named_stream v some.0 then Some some.0 else None) ≡ Some s = rw some.1 at is in
            elim (cases_Bool (is_named_stream v some.0)) [
              | inl named ↦ some.1 ∙ rw named at by_name
              | inr default ↦ (let impossible : None ≡ Some s = rw default at by_name in cc)
            ])
      ]

      stream_fits : (delete : Bool) (stream : ℕ) → named_stream_of v handle ≡ Some stream → Fits by on v (MarksStream stream delete)
      stream_fits true stream named = stream_held stream (named-is stream named)
      stream_fits false stream named = tt

      link_fits : (delete : Bool) → Fits by on v (MarksLink handle.link delete)
      link_fits true = link_held
      link_fits false = tt

  -- ---- a call that closes nothing

  -- by and on a handle that is open
  abbrev pub IsHeld : Volume → Type 0
  IsHeld v = (id : ℕ) (handle : Handle) → row_of v.handles id ≡ Some handle → (by handle.link ≡ true) × ((s : ℕ) → handle.stream ≡ Some s → on s ≡ true)

  pub fit-asked : (v : Volume) (client number : ℕ) (what : What) (body : Body) → closes_handles what ≡ false → is_link_request what ≡ false → IsNumbered v.links v.last_link
      → All (λ entry. lives v.files entry.1.file ≡ true) v.links → IsHeld v → FitAll v (changes_asked v client number what body)
  fit-asked v client number (Ask (request.Create path wanted share disposition options attributes key)) body closes links numbered all held =
      fit-opening v
      (record { client = client; number = number; path = path; wanted = wanted; share = share; disposition = disposition; options = options; attributes = attributes; key = key })
      body numbered all
  fit-asked v client number (Ask (request.Close handle)) body closes links numbered all held = (let impossible : true ≡ false = closes in cc)
  fit-asked v client number (Ask (request.Write handle at bytes)) body closes links numbered all held =
      fit-by_handle FitAll nothing-fits v client handle _ (λ id row is. fit-option FitAll v row.stream _ [] (λ stream there. fit-if FitAll v (length bytes == 0) [] _ tt (tt, tt)) tt)
  fit-asked v client number (Ask (request.SetEnd handle end)) body closes links numbered all held =
      fit-by_handle FitAll nothing-fits v client handle _ (λ id row is. fit-option FitAll v row.stream _ [] (λ stream there. fit-if FitAll v (length (bytes_of v stream) == end) [] _ tt (tt, tt)) tt)
  fit-asked v client number (Ask (request.SetDisposition handle delete)) body closes links numbered all held =
      fit-by_handle FitAll nothing-fits v client handle _ (λ id row is. fit-marking v row delete (held id row is).0 (held id row is).1)
  fit-asked v client number (Ask (request.Rename handle path replace)) body closes links numbered all held =
      fit-by_handle FitAll nothing-fits v client handle _ (λ id row is. fit-renaming v (naming_by v id row path replace) (walk v (components path)) numbered)
  fit-asked v client number (Ask (request.Link handle path replace)) body closes links numbered all held = (let impossible : true ≡ false = links in cc)
  fit-asked v client number (Ask (request.SetBasic handle creation access write change attributes)) body closes links numbered all held =
      fit-by_handle FitAll nothing-fits v client handle _ (λ id row is. fit-of_file FitAll nothing-fits v row _ (λ file. (tt, tt)))
  fit-asked v client number (Ask (request.SetSecurity handle owner dacl)) body closes links numbered all held = fit-by_handle FitAll nothing-fits v client handle _ (λ id row is. fit-of_file FitAll nothing-fits v row _ (λ file. (tt, tt)))
  fit-asked v client number (Ask (request.SetReparse handle bytes)) body closes links numbered all held =
      fit-by_handle FitAll nothing-fits v client handle _ (λ id row is. fit-of_file FitAll nothing-fits v row _ (λ file. fit-option FitAll v (read_reparse bytes) _ [] (λ point there. (tt, tt)) tt))
  fit-asked v client number (Ask (request.DeleteReparse handle tag)) body closes links numbered all held = fit-by_handle FitAll nothing-fits v client handle _ (λ id row is. fit-of_file FitAll nothing-fits v row _ (λ file. (tt, tt)))
  fit-asked v client number Leave body closes links numbered all held = (let impossible : true ≡ false = closes in cc)
  fit-asked v client number what body closes links numbered all held = tt

  -- a link, whose handle has a stream and so a link that is there
  pub fit-link : (v : Volume) (client number handle : ℕ) (path : List ℕ) (replace : Bool) → IsNumbered v.links v.last_link → ((id : ℕ) (row : Handle) → row_of v.handles id ≡ Some row → is_some row.stream ≡ true → lives v.files (linked_file v row.link) ≡ true)
      → FitAll v (changes_of v client number (Ask (request.Link handle path replace)) (try_link v client handle path replace))
  unfolding try_link link_at link_by
  fit-link v client number handle path replace numbered there = of_id (handle_of v client handle) refl
    where
      what : What
      what = Ask (request.Link handle path replace)

      of_stream : (id : ℕ) (row : Handle) → handle_of v client handle ≡ Some id → row_of v.handles id ≡ Some row → (test : Bool) → is_some row.stream ≡ test → (other : Outcome)
          → FitAll v (changes_of v client number what (if not test then refused v FileIsADirectory else other))
      of_stream id row found is false none other = tt
      of_stream id row found is true some other = fit-of FitAll nothing-fits v client number what other (λ body. rw (found, is) (fit-linking v (naming_by v id row path replace) (walk v (components path)) numbered (there id row is some)))

      of_row : (id : ℕ) → handle_of v client handle ≡ Some id → (row : Option Handle) → row_of v.handles id ≡ row
          → FitAll v (changes_of v client number what (option_map_or (λ held. link_by v id held path replace) row (refused v InvalidHandle)))
      of_row id found None none = tt
      of_row id found (Some row) is = of_stream id row found is (is_some row.stream) refl _

      of_id : (id : Option ℕ) → handle_of v client handle ≡ id → FitAll v (changes_of v client number what (option_map_or (λ held. link_at v held path replace) id (refused v InvalidHandle)))
      of_id None none = tt
      of_id (Some id) found = of_row id found (row_of v.handles id) refl
