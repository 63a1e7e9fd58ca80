-- Whatever a try notes is seen from every directory from its first up to the root, as these were before the try.
use Rattle.std.proofs.Common.{◌++◌, ◌+◌, ◌∙◌, ◌∷◌, ◌≡◌, List, None, [], false, inl, inr, length, not, refl, subst, sym, true, ℕ}
use Rattle.std.specs.Prelude.{◌&&◌, ◌==◌}
use Rattle.std.proofs.lemmas.Bool.{and_parts, cases_Bool, not-true}
use Rattle.std.proofs.lemmas.List.Sums.{fold-append}
use Rattle.fsa_types.specs.FixedBuffers.{read_reparse}
use Rattle.fsa_types.specs.Paths.{components}
use Rattle.fsa_types.specs.declared.reply.Action.TheVariants as action
use Rattle.fsa_types.specs.declared.reply.Body.{Body}
use Rattle.fsa_types.specs.declared.reply.Body.TheVariants as body
use Rattle.fsa_types.specs.declared.request.Call.{Call}
use Rattle.fsa_types.specs.declared.request.Request.TheVariants as request
use Rattle.fsa_types.specs.declared.request.What.{What}
use Rattle.fsa_types.specs.declared.request.What.TheVariants.{Ask, Leave}
use Rattle.fsa_model.specs.Close.{handles_of_client, is_link_of_parent}
use Rattle.fsa_model.specs.Edits.{without_handle}
use Rattle.fsa_model.specs.Frame.{asks_create}
use Rattle.fsa_model.specs.Lookups.{bytes_of, child_of, has_left, has_row, is_link_marked, is_marked, is_open_by, is_open_on, linked_file, stream_of}
use Rattle.fsa_model.specs.Open.{Asked, file_attributes, kept_attributes, names_stream, new_file, stream_name, wants_directory}
use Rattle.fsa_model.specs.Rename.{naming_by, replaced_link}
use Rattle.fsa_model.specs.Replacement.{Naming, new_name}
use Rattle.fsa_model.specs.Sound.{IsSoundTree}
use Rattle.fsa_model.specs.Try.{try, try_what}
use Rattle.fsa_model.specs.Volume.{File, Handle, Volume}
use Rattle.fsa_model.specs.Walk.{Barred, Diverted, Reached, Walked, last_name, walk}
use Rattle.fsa_model.proofs.RowLaws.{option_cases}
use Rattle.fsa_model.proofs.SoundLaws.{IsSoundTree-without_handle}
use Rattle.history_laws.specs.TreeChanges.{MakesDirectory, MakesFile, MakesStream, MarksLink, MarksStream, Overwrites, RemovesLink, RemovesStream, TreeChange, added_link, changes_asked, changes_closing, changes_closing_all, changes_linking, changes_of, changes_opening, changes_renaming, is_under, made_in, made_under, marks_on_close, named_stream_of, overwritten_in, removed_link, sweeps, sweeps_stream, where_reached, with_tree_change, with_tree_changes}
use Rattle.history_laws.proofs.FitLists.{fit-by_handle, fit-if, fit-of, fit-of_file, fit-option}
use Rattle.history_laws.proofs.OpensStay.{closes_handles}
use Rattle.history_laws.proofs.SeenUp.{AllTakeAway, AllTakeAway-append, IsOrdered, NotesUp, UpFits, Within, Within-same, all-ordered, takes_away, up-change, up-changes, up-next, up-none, within-changes, within-made}
use Rattle.history_laws.proofs.SoundCloses.{childless-empty, marked-empty}
use Rattle.history_laws.proofs.SoundKinds.{SoundFits, SoundFitsAll, SoundFitsAll-append, TakesEntries, sound-change, sound-changes}
use Rattle.history_laws.proofs.SoundTries.{what-fits}
use Rattle.history_laws.proofs.SoundWalks.{walk-takes}
use Rattle.history_laws.proofs.TreeParts.{Alike, Alike-changes}

-- what these changes note is seen up to the root
abbrev SeenBy : Volume → List TreeChange → Type 0
SeenBy v changes = NotesUp v v (with_tree_changes v changes)

nothing-seen : (v : Volume) → SeenBy v []
nothing-seen v = up-none v v v refl

-- one change alone
one-seen : (v : Volume) (change : TreeChange) → IsSoundTree v → UpFits v change → SeenBy v (change ∷ [])
one-seen v change sound fits = up-change v v sound (Within-same v) change fits

-- ---- an open

under-seen : (v : Volume) (asked : Asked) (dir : ℕ) (name : List ℕ) → IsSoundTree v → TakesEntries v dir → child_of v dir name ≡ None → SeenBy v (made_under v asked dir name)
under-seen v asked dir name sound takes free = elim (cases_Bool (wants_directory asked)) [
  | inl directory ↦ rw directory (one-seen v (MakesDirectory dir name (new_file v asked true (kept_attributes asked.attributes))) sound takes)
  | inr plain ↦ (let file : File = new_file v asked false (file_attributes asked.attributes) in
      let first : NotesUp v v (with_tree_change v (MakesFile dir name file)) = one-seen v (MakesFile dir name file) sound takes in
      elim (cases_Bool (names_stream asked.path)) [
        | inr unnamed ↦ rw (plain, unnamed) first
        | inl named ↦ rw (plain, named) (up-next v v (with_tree_change v (MakesFile dir name file)) _ first
            (up-change v (with_tree_change v (MakesFile dir name file)) (sound-change v (MakesFile dir name file) (takes, free, refl) sound) (within-made v dir name file sound refl)
            (MakesStream (v.last_link + 1) (v.last_file + 1) (stream_name asked.path)) tt))
      ])
]

making-seen : (v : Volume) (asked : Asked) (dir : ℕ) (name : List ℕ) → IsSoundTree v → TakesEntries v dir → SeenBy v (made_in v asked dir name)
making-seen v asked dir name sound takes = elim (option_cases (child_of v dir name)) [
  | inl none ↦ rw none (under-seen v asked dir name sound takes none)
  | inr link ↦ rw link.1 (one-seen v (MakesStream link.0 (linked_file v link.0) (stream_name asked.path)) sound tt)
]

overwriting-seen : (v : Volume) (asked : Asked) (dir : ℕ) (name : List ℕ) → IsSoundTree v → SeenBy v (overwritten_in v asked dir name)
overwriting-seen v asked dir name sound =
    fit-option SeenBy v (child_of v dir name) _ [] (λ link there. fit-option SeenBy v (stream_of v (linked_file v link) (stream_name asked.path)) _ []
    (λ stream is. one-seen v (Overwrites link (linked_file v link) stream (names_stream asked.path) (file_attributes asked.attributes)) sound tt) (nothing-seen v)) (nothing-seen v)

-- what the walk came to
reached-seen : (v : Volume) (asked : Asked) (changes : ℕ → List ℕ → List TreeChange) (walked : Walked) → ((dir : ℕ) (name : List ℕ) → walked ≡ Reached dir → SeenBy v (changes dir name))
    → SeenBy v (where_reached asked changes walked)
reached-seen v asked changes (Reached dir) seen = seen dir (last_name (components asked.path)) refl
reached-seen v asked changes (Barred status) seen = nothing-seen v
reached-seen v asked changes (Diverted file next) seen = nothing-seen v

opening-seen : (v : Volume) (asked : Asked) (body : Body) → IsSoundTree v → SeenBy v (changes_opening v asked body)
opening-seen v asked (body.Opened action.Created) sound =
    reached-seen v asked (made_in v asked) (walk v (components asked.path)) (λ dir name reached. making-seen v asked dir name sound (walk-takes v (components asked.path) dir sound reached))
opening-seen v asked (body.Opened action.Superseded) sound =
    reached-seen v asked (overwritten_in v asked) (walk v (components asked.path)) (λ dir name reached. overwriting-seen v asked dir name sound)
opening-seen v asked (body.Opened action.Overwritten) sound =
    reached-seen v asked (overwritten_in v asked) (walk v (components asked.path)) (λ dir name reached. overwriting-seen v asked dir name sound)
opening-seen v asked (body.Opened action.Opened) sound = nothing-seen v
opening-seen v asked body.Nothing sound = nothing-seen v
opening-seen v asked (body.Got bytes) sound = nothing-seen v
opening-seen v asked (body.Count count) sound = nothing-seen v
opening-seen v asked (body.Packed kind bytes) sound = nothing-seen v
opening-seen v asked (body.Broken level ack) sound = nothing-seen v
opening-seen v asked (body.Left level) sound = nothing-seen v
opening-seen v asked (body.Stopped tag bytes rest) sound = nothing-seen v
opening-seen v asked (body.Quota charge limit) sound = nothing-seen v

-- ---- closes

-- what a close changes fits, and takes away or marks
record Closing (v : Volume) (changes : List TreeChange) : Type 0 where
  fits : SoundFitsAll v changes
  takes : AllTakeAway changes

closing-none : (v : Volume) → Closing v []
closing-none v = record { fits = tt; takes = tt }

closing-one : (v : Volume) (change : TreeChange) → SoundFits v change → takes_away change ≡ true → Closing v (change ∷ [])
closing-one v change fits takes = record { fits = (fits, tt); takes = (takes, tt) }

closing-both : (v : Volume) (one two : List TreeChange) → Closing v one → Closing (with_tree_changes v one) two → Closing v (one ++ two)
closing-both v one two first second = record {
  fits = SoundFitsAll-append one two v first.fits second.fits;
  takes = AllTakeAway-append one two first.takes second.takes;
}

closing-marks : (v : Volume) (handle : Handle) → Closing v (marks_on_close v handle)
closing-marks v handle = elim (cases_Bool handle.delete_on_close) [
  | inr keeps ↦ rw keeps (closing-none v)
  | inl deletes ↦ rw deletes (elim (option_cases (named_stream_of v handle)) [
    | inr some ↦ rw some.1 (closing-one v (MarksStream some.0 true) tt refl)
    | inl none ↦ rw none (elim (cases_Bool (is_link_of_parent v handle.link)) [
      | inl parent ↦ rw parent (closing-none v)
      | inr childless ↦ rw childless (closing-one v (MarksLink handle.link true) (childless-empty v handle.link childless) refl)
    ])
  ])
]

closing-stream : (v : Volume) (handle : Handle) → Closing v (sweeps_stream v handle)
closing-stream v handle = elim (option_cases handle.stream) [
  | inl none ↦ rw none (closing-none v)
  | inr some ↦ rw some.1 (elim (cases_Bool (is_marked v some.0 && not (has_row (is_open_on some.0) v.handles))) [
    | inr stays ↦ rw stays (closing-none v)
    | inl over ↦ rw over (closing-one v (RemovesStream handle.link some.0)
        (not-true (has_row (is_open_on some.0) v.handles) (and_parts (is_marked v some.0) (not (has_row (is_open_on some.0) v.handles)) over).1) refl)
  ])
]

closing-link : (v : Volume) (link : ℕ) → IsSoundTree v → Closing v (removed_link v link)
closing-link v link sound = elim (cases_Bool (is_link_marked v link && not (has_row (is_open_by link) v.handles))) [
  | inr stays ↦ rw stays (closing-none v)
  | inl over ↦ (let parts = and_parts (is_link_marked v link) (not (has_row (is_open_by link) v.handles)) over in
      rw over (closing-one v (RemovesLink link) (marked-empty v link sound parts.0, not-true (has_row (is_open_by link) v.handles) parts.1) refl))
]

closing : (v : Volume) (handle : Handle) → IsSoundTree v → Closing v (changes_closing v handle)
closing v handle sound =
    let marked : Volume = with_tree_changes v (marks_on_close v handle) in
    let swept : Volume = with_tree_changes marked (sweeps_stream marked handle) in
    let marks : Closing v (marks_on_close v handle) = closing-marks v handle in
    let sound_marked : IsSoundTree marked = sound-changes (marks_on_close v handle) v marks.fits sound in
    let stream : Closing marked (sweeps_stream marked handle) = closing-stream marked handle in
    closing-both v (marks_on_close v handle) (sweeps marked handle) marks
    (closing-both marked (sweeps_stream marked handle) (removed_link swept handle.link) stream
    (closing-link swept handle.link (sound-changes (sweeps_stream marked handle) marked stream.fits sound_marked)))

-- changes of a volume without a handle note what they note of it with the handle
seen-with : (b v : Volume) (id : ℕ) (changes : List TreeChange) → NotesUp b (without_handle v id) (with_tree_changes (without_handle v id) changes) → NotesUp b v (with_tree_changes v changes)
seen-with b v id changes seen = record {
  notes = seen.notes;
  adds = alike.changes ∙ seen.adds;
  seen = seen.seen;
}
  where
    alike : Alike (with_tree_changes (without_handle v id) changes) (with_tree_changes v changes)
    alike = Alike-changes changes (without_handle v id) v
        (record { table = refl; files = refl; links = refl; streams = refl; last_file = refl; last_link = refl; last_stream = refl; changes = refl; clock = refl })

-- several handles, one after the other
all-seen : (entries : List (ℕ × Handle)) (b v : Volume) → IsSoundTree v → Within b v → NotesUp b v (with_tree_changes v (changes_closing_all v entries))
all-seen [] b v sound within = up-none b v v refl
all-seen (entry ∷ entries) b v sound within =
    let gone : Volume = without_handle v entry.0 in
    let first : List TreeChange = changes_closing gone entry.1 in
    let next : Volume = with_tree_changes gone first in
    let more : List TreeChange = changes_closing_all next entries in
    let sound_gone : IsSoundTree gone = IsSoundTree-without_handle v entry.0 sound in
    let closes : Closing gone first = closing gone entry.1 sound_gone in
    seen-with b v entry.0 (first ++ more)
    (subst (λ w. NotesUp b gone w) (sym (fold-append with_tree_change gone first more))
    (up-next b gone next (with_tree_changes next more)
    (up-changes first b gone sound_gone within closes.fits (all-ordered first closes.takes))
    (all-seen entries b next (sound-changes first gone closes.fits sound_gone) (within-changes first b gone closes.takes within))))

closing-seen : (v : Volume) (id : ℕ) (handle : Handle) → IsSoundTree v → SeenBy v (changes_closing (without_handle v id) handle)
closing-seen v id handle sound =
    let gone : Volume = without_handle v id in
    let first : List TreeChange = changes_closing gone handle in
    let sound_gone : IsSoundTree gone = IsSoundTree-without_handle v id sound in
    let closes : Closing gone first = closing gone handle sound_gone in
    seen-with v v id first (up-changes first v gone sound_gone (Within-same v) closes.fits (all-ordered first closes.takes))

-- ---- the order of changes

abbrev Ordered : Volume → List TreeChange → Type 0
Ordered v changes = IsOrdered changes

nothing-ordered : (v : Volume) → Ordered v []
nothing-ordered v = tt

renaming-ordered : (v : Volume) (naming : Naming) (walked : Walked) → Ordered v (changes_renaming v naming walked)
renaming-ordered v naming (Reached dir) = fit-if Ordered v (is_under v naming.link dir (new_name naming)) [] _ tt (elim (option_cases (replaced_link v naming dir)) [
  | inl none ↦ rw none (inr refl)
  | inr some ↦ rw some.1 (inl (refl, inr refl))
])
renaming-ordered v naming (Barred status) = tt
renaming-ordered v naming (Diverted file next) = tt

linking-ordered : (v : Volume) (naming : Naming) (walked : Walked) → Ordered v (changes_linking v naming walked)
linking-ordered v naming (Reached dir) =
    fit-option Ordered v (child_of v dir (new_name naming)) _ (added_link naming dir) (λ replaced there. fit-if Ordered v (linked_file v replaced == naming.file) [] _ tt (inl (refl, inr refl))) (inr refl)
linking-ordered v naming (Barred status) = tt
linking-ordered v naming (Diverted file next) = tt

asked-ordered : (v : Volume) (client number : ℕ) (what : What) (body : Body) → closes_handles what ≡ false → asks_create what ≡ false → Ordered v (changes_asked v client number what body)
asked-ordered v client number (Ask (request.Write handle at bytes)) body closes opens =
    fit-by_handle Ordered nothing-ordered v client handle _ (λ id row is. fit-option Ordered v row.stream _ [] (λ stream there. fit-if Ordered v (length bytes == 0) [] _ tt (inr refl)) tt)
asked-ordered v client number (Ask (request.SetEnd handle end)) body closes opens =
    fit-by_handle Ordered nothing-ordered v client handle _
    (λ id row is. fit-option Ordered v row.stream _ [] (λ stream there. fit-if Ordered v (length (bytes_of v stream) == end) [] _ tt (inr refl)) tt)
asked-ordered v client number (Ask (request.SetDisposition handle delete)) body closes opens =
    fit-by_handle Ordered nothing-ordered v client handle _ (λ id row is. fit-option Ordered v (named_stream_of v row) _ _ (λ stream there. inr refl) (inr refl))
asked-ordered v client number (Ask (request.Rename handle path replace)) body closes opens =
    fit-by_handle Ordered nothing-ordered v client handle _ (λ id row is. renaming-ordered v (naming_by v id row path replace) (walk v (components path)))
asked-ordered v client number (Ask (request.Link handle path replace)) body closes opens =
    fit-by_handle Ordered nothing-ordered v client handle _ (λ id row is. linking-ordered v (naming_by v id row path replace) (walk v (components path)))
asked-ordered v client number (Ask (request.SetBasic handle creation access write change attributes)) body closes opens =
    fit-by_handle Ordered nothing-ordered v client handle _ (λ id row is. fit-of_file Ordered nothing-ordered v row _ (λ file. inr refl))
asked-ordered v client number (Ask (request.SetSecurity handle owner dacl)) body closes opens =
    fit-by_handle Ordered nothing-ordered v client handle _ (λ id row is. fit-of_file Ordered nothing-ordered v row _ (λ file. inr refl))
asked-ordered v client number (Ask (request.SetReparse handle bytes)) body closes opens =
    fit-by_handle Ordered nothing-ordered v client handle _
    (λ id row is. fit-of_file Ordered nothing-ordered v row _ (λ file. fit-option Ordered v (read_reparse bytes) _ [] (λ point there. inr refl) tt))
asked-ordered v client number (Ask (request.DeleteReparse handle tag)) body closes opens =
    fit-by_handle Ordered nothing-ordered v client handle _ (λ id row is. fit-of_file Ordered nothing-ordered v row _ (λ file. inr refl))
asked-ordered v client number (Ask (request.Create path wanted share disposition options attributes key)) body closes opens = (let impossible : true ≡ false = opens in cc)
asked-ordered v client number (Ask (request.Close handle)) body closes opens = (let impossible : true ≡ false = closes in cc)
asked-ordered v client number Leave body closes opens = (let impossible : true ≡ false = closes in cc)
asked-ordered v client number what body closes opens = tt

-- ---- the tries

what-seen : (v : Volume) (turn client number : ℕ) (what : What) → IsSoundTree v → SeenBy v (changes_of v client number what (try_what v turn client number what))
what-seen v turn client number (Ask (request.Create path wanted share disposition options attributes key)) sound =
    let what : What = Ask (request.Create path wanted share disposition options attributes key) in
    fit-of SeenBy nothing-seen v client number what (try_what v turn client number what) (λ body.
    opening-seen v (record { client = client; number = number; path = path; wanted = wanted; share = share; disposition = disposition; options = options; attributes = attributes; key = key }) body sound)
what-seen v turn client number (Ask (request.Close handle)) sound =
    let what : What = Ask (request.Close handle) in
    fit-of SeenBy nothing-seen v client number what (try_what v turn client number what) (λ body.
    fit-by_handle SeenBy nothing-seen v client handle _ (λ id row is. closing-seen v id row sound))
what-seen v turn client number Leave sound =
    fit-of SeenBy nothing-seen v client number Leave (try_what v turn client number Leave) (λ body. all-seen (handles_of_client v client) v v sound (Within-same v))
what-seen v turn client number what sound =
    up-changes (changes_of v client number what (try_what v turn client number what)) v v sound (Within-same v) (what-fits v turn client number what refl refl sound)
    (fit-of Ordered nothing-ordered v client number what (try_what v turn client number what) (λ body. asked-ordered v client number what body refl refl))

-- a client that has left changes nothing
pub try-seen : (v : Volume) (call : Call) (turn : ℕ) → IsSoundTree v → NotesUp v v (with_tree_changes v (changes_of v call.client call.number call.what (try v call turn)))
try-seen v call turn sound = elim (cases_Bool (has_left v call.client)) [
  | inl left ↦ rw left (nothing-seen v)
  | inr here ↦ rw here (what-seen v turn call.client call.number call.what sound)
]
