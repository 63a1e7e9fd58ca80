-- Each try keeps the tree sound.
use Rattle.std.proofs.Common.{◌≡◌, ℕ, Bool, suc, true, false, List, [], ◌∷◌, subst, arith, inl, inr, refl}
use Rattle.std.specs.Prelude.{◌==◌, All, IsTrue, length}
use Rattle.std.proofs.lemmas.List.Elements.{All-cons, All-nil}
use Rattle.fsa_types.specs.declared.request.Request.TheVariants as request
use Rattle.fsa_types.specs.declared.request.What.{What}
use Rattle.fsa_types.specs.declared.reply.Body.{Body}
use Rattle.fsa_types.specs.declared.request.What.TheVariants.{Ask, Leave}
use Rattle.fsa_types.specs.FixedBuffers.{read_reparse}
use Rattle.fsa_types.specs.Rows.{IsNumbered}
use Rattle.fsa_model.specs.Coherence.{IsTied}
use Rattle.fsa_model.specs.Frame.{all_unenumerated, asks_create, unenumerated}
use Rattle.fsa_model.specs.Outcome.{Outcome}
use Rattle.fsa_model.specs.Sound.{IsSoundTree, has_its_stream, is_of_living}
use Rattle.fsa_model.specs.Try.{try_what, try}
use Rattle.fsa_model.specs.Turn.{volume_after}
use Rattle.fsa_model.specs.Volume.{Handle, Volume}
use Rattle.history_laws.specs.HandlesClose.{KeepsHandles}
use Rattle.history_laws.specs.TreeChanges.{changes_asked, LeavesChanges, changes_of, with_tree_changes}
use Rattle.history_laws.proofs.FitLists.{fit-by_handle, fit-if, fit-of, fit-of_file, fit-option}
use Rattle.history_laws.proofs.KeptHandles.{what-kept}
use Rattle.history_laws.proofs.OpensStay.{closes_handles, what-stays_open}
use Rattle.history_laws.proofs.SoundCloses.{close-sound, leave-sound, set_disposition-fits}
use Rattle.history_laws.proofs.SoundKinds.{SoundFitsAll, nothing-fits, sound-changes}
use Rattle.history_laws.proofs.TidyTries.{one-each}
use Rattle.history_laws.proofs.TreeCloses.{changes-handles}
use Rattle.history_laws.proofs.TreeTries.{what-leaves}
use Rattle.history_laws.proofs.SoundOpens.{create-sound}
use Rattle.history_laws.proofs.SoundNames.{rename-fits, link-fits}
use Rattle.fsa_types.specs.declared.request.Call.{Call}
use Rattle.fsa_model.specs.Lookups.{has_left, bytes_of}
use Rattle.std.proofs.lemmas.Bool.{cases_Bool}

-- ---- handles that are as they were, but for how far a directory is listed

listed : (P : Handle → Type 0) → ((handle : Handle) → P handle → P (unenumerated handle)) → (handles : List (ℕ × Handle)) → All (λ entry. P entry.1) handles
    → All (λ entry. P entry.1) (all_unenumerated handles)
listed P same [] all = All-nil (λ (entry : ℕ × Handle). P entry.1)
listed P same (entry ∷ handles) all =
    All-cons (λ (entry : ℕ × Handle). P entry.1) (entry.0, unenumerated entry.1) (all_unenumerated handles) (same entry.1 (all 0 entry (omega arith)))
    (listed P same handles (λ k d within. all (suc k) d (omega arith)))

unlisted : (P : Handle → Type 0) → ((handle : Handle) → P (unenumerated handle) → P handle) → (handles : List (ℕ × Handle)) → All (λ entry. P entry.1) (all_unenumerated handles)
    → All (λ entry. P entry.1) handles
unlisted P same [] all = All-nil (λ (entry : ℕ × Handle). P entry.1)
unlisted P same (entry ∷ handles) all =
    All-cons (λ (entry : ℕ × Handle). P entry.1) entry handles (same entry.1 (all 0 (entry.0, unenumerated entry.1) (omega arith)))
    (unlisted P same handles (λ k d within. all (suc k) d (omega arith)))

-- what is true of all of these, and doesn't speak of that, is true of all of those
relisted : (P : Handle → Type 0) → ((handle : Handle) → P handle → P (unenumerated handle)) → ((handle : Handle) → P (unenumerated handle) → P handle) → (handles now : List (ℕ × Handle))
    → all_unenumerated now ≡ all_unenumerated handles → All (λ entry. P entry.1) handles → All (λ entry. P entry.1) now
relisted P on off handles now same all = unlisted P off now (rw same (listed P on handles all))

-- ---- what the other calls ask for fits

-- a request whose changes ask for something
abbrev asks_much : What → Bool
asks_much (Ask (request.Create path wanted share disposition options attributes key)) = true
asks_much (Ask (request.Close handle)) = true
asks_much (Ask (request.SetDisposition handle delete)) = true
asks_much (Ask (request.Rename handle path replace)) = true
asks_much (Ask (request.Link handle path replace)) = true
asks_much Leave = true
asks_much _ = false

easily-fits : (v : Volume) (client number : ℕ) (what : What) (body : Body) → asks_much what ≡ false → SoundFitsAll v (changes_asked v client number what body)
easily-fits v client number (Ask (request.Write handle at bytes)) body asks =
    fit-by_handle SoundFitsAll nothing-fits v client handle _ (λ id row is. fit-option SoundFitsAll v row.stream _ [] (λ stream there. fit-if SoundFitsAll v (length bytes == 0) [] _ tt (tt, tt)) tt)
easily-fits v client number (Ask (request.SetEnd handle end)) body asks =
    fit-by_handle SoundFitsAll nothing-fits v client handle _ (λ id row is. fit-option SoundFitsAll v row.stream _ [] (λ stream there. fit-if SoundFitsAll v (length (bytes_of v stream) == end) [] _ tt (tt, tt)) tt)
easily-fits v client number (Ask (request.SetBasic handle creation access write change attributes)) body asks =
    fit-by_handle SoundFitsAll nothing-fits v client handle _ (λ id row is. fit-of_file SoundFitsAll nothing-fits v row _ (λ file. (tt, tt)))
easily-fits v client number (Ask (request.SetSecurity handle owner dacl)) body asks = fit-by_handle SoundFitsAll nothing-fits v client handle _ (λ id row is. fit-of_file SoundFitsAll nothing-fits v row _ (λ file. (tt, tt)))
easily-fits v client number (Ask (request.SetReparse handle bytes)) body asks =
    fit-by_handle SoundFitsAll nothing-fits v client handle _ (λ id row is. fit-of_file SoundFitsAll nothing-fits v row _ (λ file. fit-option SoundFitsAll v (read_reparse bytes) _ [] (λ point there. (tt, tt)) tt))
easily-fits v client number (Ask (request.DeleteReparse handle tag)) body asks = fit-by_handle SoundFitsAll nothing-fits v client handle _ (λ id row is. fit-of_file SoundFitsAll nothing-fits v row _ (λ file. (tt, tt)))
easily-fits v client number (Ask (request.Create path wanted share disposition options attributes key)) body asks = (let impossible : true ≡ false = asks in cc)
easily-fits v client number (Ask (request.Close handle)) body asks = (let impossible : true ≡ false = asks in cc)
easily-fits v client number (Ask (request.SetDisposition handle delete)) body asks = (let impossible : true ≡ false = asks in cc)
easily-fits v client number (Ask (request.Rename handle path replace)) body asks = (let impossible : true ≡ false = asks in cc)
easily-fits v client number (Ask (request.Link handle path replace)) body asks = (let impossible : true ≡ false = asks in cc)
easily-fits v client number Leave body asks = (let impossible : true ≡ false = asks in cc)
easily-fits v client number what body asks = tt

-- ---- a try that neither opens nor closes

-- what is true of all handles, and doesn't speak of that, stays so
keeps-all : (client : ℕ) (what : What) (v w : Volume) (P : Handle → Type 0) → ((handle : Handle) → P handle → P (unenumerated handle)) → ((handle : Handle) → P (unenumerated handle) → P handle)
    → asks_create what ≡ false → KeepsHandles client what v w → All (λ entry. P entry.1) v.handles → All (λ entry. P entry.1) w.handles
keeps-all client (Ask (request.Create path wanted share disposition options attributes key)) v w P on off opens kept all = (let impossible : true ≡ false = opens in cc)
keeps-all client (Ask (request.QueryDir handle kind expression restart room)) v w P on off opens kept all = relisted P on off v.handles w.handles kept.same all
keeps-all client what v w P on off opens kept all = rw kept all

other-sound : (v : Volume) (turn client number : ℕ) (what : What) → closes_handles what ≡ false → asks_create what ≡ false → IsTied v → IsSoundTree v
    → SoundFitsAll v (changes_of v client number what (try_what v turn client number what)) → IsSoundTree (volume_after (try_what v turn client number what))
other-sound v turn client number what closes opens tied sound fits =
    after (try_what v turn client number what) (what-leaves v turn client number what tied) (sound-changes (changes_of v client number what (try_what v turn client number what)) v fits sound)
    (what-kept v turn client number what closes)
    ((what-stays_open v turn client number what (one-each v.oplocks tied.oplocks_differ) closes).numbered sound.handles_numbered)
  where
    after : (outcome : Outcome) → LeavesChanges v client number what outcome → IsSoundTree (with_tree_changes v (changes_of v client number what outcome))
        → KeepsHandles client what v (volume_after outcome) → IsNumbered (volume_after outcome).handles (volume_after outcome).last_handle → IsSoundTree (volume_after outcome)
    after outcome same next kept numbered = record {
      tree = rw (same.table, same.files, same.links, same.streams) next.tree;
      are_of_living = rw (same.links, same.streams)
          (keeps-all client what v (volume_after outcome) (λ handle. IsTrue (is_of_living u.links u.streams handle)) (λ handle is. is) (λ handle is. is) opens kept
          (subst (λ handles. All (λ (entry : ℕ × Handle). IsTrue (is_of_living u.links u.streams entry.1)) handles) (changes-handles (changes_of v client number what outcome) v) next.are_of_living));
      have_streams = rw (same.files, same.links)
          (keeps-all client what v (volume_after outcome) (λ handle. IsTrue (has_its_stream u.files u.links handle)) (λ handle is. is) (λ handle is. is) opens kept
          (subst (λ handles. All (λ (entry : ℕ × Handle). IsTrue (has_its_stream u.files u.links entry.1)) handles) (changes-handles (changes_of v client number what outcome) v) next.have_streams));
      files_numbered = rw (same.files, same.last_file) next.files_numbered;
      links_numbered = rw (same.links, same.last_link) next.links_numbered;
      streams_numbered = rw (same.streams, same.last_stream) next.streams_numbered;
      handles_numbered = numbered;
    }
      where
        u : Volume
        u = with_tree_changes v (changes_of v client number what outcome)

-- ---- any try

-- what a request changes fits
pub what-fits : (v : Volume) (turn client number : ℕ) (what : What) → closes_handles what ≡ false → asks_create what ≡ false → IsSoundTree v
    → SoundFitsAll v (changes_of v client number what (try_what v turn client number what))
what-fits v turn client number (Ask (request.SetDisposition handle delete)) closes opens sound = set_disposition-fits v client number handle delete sound
what-fits v turn client number (Ask (request.Rename handle path replace)) closes opens sound = rename-fits v client number handle path replace sound
what-fits v turn client number (Ask (request.Link handle path replace)) closes opens sound = link-fits v client number handle path replace sound
what-fits v turn client number (Ask (request.Create path wanted share disposition options attributes key)) closes opens sound = (let impossible : true ≡ false = opens in cc)
what-fits v turn client number (Ask (request.Close handle)) closes opens sound = (let impossible : true ≡ false = closes in cc)
what-fits v turn client number Leave closes opens sound = (let impossible : true ≡ false = closes in cc)
what-fits v turn client number what closes opens sound = fit-of SoundFitsAll nothing-fits v client number what (try_what v turn client number what) (λ body. easily-fits v client number what body refl)

pub try-sound : (v : Volume) (call : Call) (turn : ℕ) → IsTied v → IsSoundTree v → IsSoundTree (volume_after (try v call turn))
try-sound v call turn tied sound = elim (cases_Bool (has_left v call.client)) [
  | inl left ↦ rw left sound
  | inr here ↦ rw here (by_what call.what)
]
  where
    by_what : (what : What) → IsSoundTree (volume_after (try_what v turn call.client call.number what))
    by_what (Ask (request.Create path wanted share disposition options attributes key)) = create-sound v call.client call.number path wanted share disposition options attributes key sound
    by_what (Ask (request.Close handle)) = close-sound v call.client handle sound
    by_what Leave = leave-sound v call.client sound
    by_what what = other-sound v turn call.client call.number what refl refl tied sound (what-fits v turn call.client call.number what refl refl sound)
