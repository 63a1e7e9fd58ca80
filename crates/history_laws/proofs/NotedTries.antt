-- Each try of a history notes what it changes: by the changes that its call asks for.
use Rattle.std.proofs.Common.{◌≡◌, ℕ, List, get_or, refl, sym, subst, ◌∙◌, None}
use Rattle.std.specs.Prelude.{All}
use Rattle.std.proofs.lemmas.List.{append_cancel_left}
use Rattle.fsa_types.specs.Paths.{components}
use Rattle.fsa_types.specs.Rows.{IsNumbered}
use Rattle.fsa_types.specs.declared.reply.Body.{Body}
use Rattle.fsa_types.specs.declared.request.Request.TheVariants as request
use Rattle.fsa_types.specs.declared.request.What.{What}
use Rattle.fsa_types.specs.declared.request.What.TheVariants.{Ask, Leave}
use Rattle.fsa_types.specs.declared.status.Status.{Status}
use Rattle.fsa_types.specs.declared.status.Status.TheVariants.{Success}
use Rattle.fsa_model.specs.Coherence.{IsTied}
use Rattle.fsa_model.specs.History.{HistoryEntry}
use Rattle.fsa_model.specs.Outcome.{Outcome, Done, Stay, Hold}
use Rattle.fsa_model.specs.Rename.{naming_by}
use Rattle.fsa_model.specs.Setup.{Setup}
use Rattle.fsa_model.specs.Tries.{Tried, left_by, tries_of}
use Rattle.fsa_model.specs.Try.{try}
use Rattle.fsa_model.specs.Volume.{Change, Volume}
use Rattle.fsa_model.specs.Walk.{walk}
use Rattle.history_laws.specs.TreeChanges.{SameTree, TreeChange, changes_asked, changes_of, where_success, with_tree_changes}
use Rattle.history_laws.specs.TreeNotes.{ChangesAreNoted, IsSeenUp, NotesChanges}
use Rattle.history_laws.proofs.KeptOwn.{changes-keep}
use Rattle.history_laws.proofs.NotedChanges.{by_handle-noted, marking-noted, nothing-noted, of_file-noted, opening-noted, resizing-noted, setting-basics, setting-point, setting-security, with_point-noted, writing-noted}
use Rattle.history_laws.proofs.NotedCloses.{closing-noted, closing_all-noted}
use Rattle.history_laws.proofs.NotedNames.{linking-noted, renaming-noted}
use Rattle.history_laws.proofs.NotedRows.{IsSeenSame, notes-then}
use Rattle.history_laws.proofs.SeenTries.{try-seen}
use Rattle.history_laws.proofs.SeenUp.{NotesUp}
use Rattle.history_laws.proofs.TreeRuns.{Holds, run-holds}
use Rattle.history_laws.proofs.TreeTries.{try-leaves}

-- what a call asks for
asked-noted : (v : Volume) (client number : ℕ) (what : What) (body : Body) → IsTied v → IsNumbered v.handles v.last_handle → NotesChanges v (with_tree_changes v (changes_asked v client number what body))
asked-noted v client number (Ask (request.Create path wanted share disposition options attributes key)) body tied numbered =
    opening-noted v (record { client = client; number = number; path = path; wanted = wanted; share = share; disposition = disposition; options = options; attributes = attributes; key = key }) body tied
asked-noted v client number (Ask (request.Close handle)) body tied numbered = by_handle-noted v client handle _ (λ id row is. closing-noted v id row tied is)
asked-noted v client number (Ask (request.Write handle at bytes)) body tied numbered = by_handle-noted v client handle _ (λ id row is. writing-noted v id row at bytes tied is)
asked-noted v client number (Ask (request.SetEnd handle end)) body tied numbered = by_handle-noted v client handle _ (λ id row is. resizing-noted v id row end tied is)
asked-noted v client number (Ask (request.SetDisposition handle delete)) body tied numbered = by_handle-noted v client handle _ (λ id row is. marking-noted v id row delete)
asked-noted v client number (Ask (request.Rename handle path replace)) body tied numbered =
    by_handle-noted v client handle _ (λ id row is. renaming-noted v (naming_by v id row path replace) (walk v (components path)) tied)
asked-noted v client number (Ask (request.Link handle path replace)) body tied numbered =
    by_handle-noted v client handle _ (λ id row is. linking-noted v (naming_by v id row path replace) (walk v (components path)) tied)
asked-noted v client number (Ask (request.SetBasic handle creation access write change attributes)) body tied numbered =
    by_handle-noted v client handle _ (λ id row is. of_file-noted v row _ (λ file of. setting-basics v row.link file (record { creation = creation; access = access; write = write; change = change; attributes = attributes }) of))
asked-noted v client number (Ask (request.SetSecurity handle owner dacl)) body tied numbered =
    by_handle-noted v client handle _ (λ id row is. of_file-noted v row _ (λ file of. setting-security v row.link file owner dacl of))
asked-noted v client number (Ask (request.SetReparse handle bytes)) body tied numbered =
    by_handle-noted v client handle _ (λ id row is. of_file-noted v row _ (λ file of. with_point-noted v row bytes file of))
asked-noted v client number (Ask (request.DeleteReparse handle tag)) body tied numbered =
    by_handle-noted v client handle _ (λ id row is. of_file-noted v row _ (λ file of. setting-point v row.link file None of))
asked-noted v client number Leave body tied numbered = closing_all-noted v client tied numbered
asked-noted v client number what body tied numbered = nothing-noted v

where-noted : (v : Volume) (status : Status) (changes : List TreeChange) → NotesChanges v (with_tree_changes v changes) → NotesChanges v (with_tree_changes v (where_success status changes))
where-noted v Success changes noted = noted
where-noted v _ changes noted = nothing-noted v

changes-noted : (v : Volume) (client number : ℕ) (what : What) (outcome : Outcome) → IsTied v → IsNumbered v.handles v.last_handle → NotesChanges v (with_tree_changes v (changes_of v client number what outcome))
changes-noted v client number what (Done w reply) tied numbered = where-noted v reply.status (changes_asked v client number what reply.body) (asked-noted v client number what reply.body tied numbered)
changes-noted v client number what (Stay w interim) tied numbered = nothing-noted v
changes-noted v client number what (Hold w blockers interim) tied numbered = nothing-noted v

-- of a volume that the changes are the same in
same-seen : (v w : Volume) → SameTree v w → IsSeenSame v w
same-seen v w same = record {
  links = λ link. rw same.links refl;
  streams = λ stream. rw same.streams refl;
  files = λ file. rw same.files refl;
  changes = same.changes;
}

pub run-changes_noted : (setup : Setup) (history : List HistoryEntry) → ChangesAreNoted setup history
run-changes_noted setup history = λ k d within. (let t : Tried = get_or (tries_of setup history) k d in
    let holds : Holds t.before = ((run-holds setup history).tries k d within).before in
    let changes : List TreeChange = changes_of t.before t.call.client t.call.number t.call.what (try t.before t.call t.turn) in
    let leaves : SameTree (with_tree_changes t.before changes) (left_by t) = try-leaves t.before t.call t.turn holds.tied in
    let noted : NotesChanges t.before (left_by t) = notes-then t.before (with_tree_changes t.before changes) (left_by t)
    (changes-noted t.before t.call.client t.call.number t.call.what (try t.before t.call t.turn) holds.tied holds.tidy.handles)
    (same-seen (with_tree_changes t.before changes) (left_by t) leaves) in
    let up : NotesUp t.before t.before (with_tree_changes t.before changes) = try-seen t.before t.call t.turn holds.sound in
    let same : up.notes ≡ noted.notes = append_cancel_left t.before.changes up.notes noted.notes (sym up.adds ∙ sym leaves.changes ∙ noted.adds) in
    record {
      noted = noted;
      seen = subst (λ (notes : List Change). All (IsSeenUp t.before) notes) same up.seen;
      keeps = changes-keep t.before (left_by t) changes holds.sound.links_numbered holds.sound.streams_numbered leaves;
    })
