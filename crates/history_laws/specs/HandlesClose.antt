-- That in a try a handle goes only by its own close or by its client's leaving, and goes where that succeeds; of opens see `AsAsked`. After
-- [MS-FSA] 'Server Requests Closing an Open'.
use Rattle.std.specs.Prelude.{◌≡◌, ◌==◌, ℕ, true, false, not, List, filter, All, Some}
use Rattle.std.specs.Option.{option_map_or}
use Rattle.fsa_types.specs.Rows.{row_of, without_row}
use Rattle.fsa_types.specs.declared.request.Request.TheVariants as request
use Rattle.fsa_types.specs.declared.request.What.{What}
use Rattle.fsa_types.specs.declared.request.What.TheVariants.{Ask, Leave}
use Rattle.fsa_types.specs.declared.status.Status.{Status}
use Rattle.fsa_model.specs.Frame.{all_unenumerated}
use Rattle.fsa_model.specs.History.{HistoryEntry}
use Rattle.fsa_model.specs.Lookups.{handle_of}
use Rattle.fsa_model.specs.Outcome.{Outcome, Done}
use Rattle.fsa_model.specs.Setup.{Setup}
use Rattle.fsa_model.specs.Tries.{Tried, tries_of}
use Rattle.fsa_model.specs.Try.{try}
use Rattle.fsa_model.specs.Turn.{volume_after}
use Rattle.fsa_model.specs.Volume.{Volume}
use Rattle.history_laws.specs.WaitEnds.{is_success}

-- a close of the client's handle of this number takes just that handle, where it succeeds
pub record ClosesOne (v : Volume) (client number : ℕ) (status : Status) (next : Volume) : Type 0 where
  pub closes : is_success status ≡ true → (handle : ℕ) × (handle_of v client number ≡ Some handle) × (next.handles ≡ without_row v.handles handle)
  pub refuses : is_success status ≡ false → next.handles ≡ v.handles

-- a leaving takes just the handles of its client
pub record ClosesOwn (v : Volume) (client : ℕ) (status : Status) (next : Volume) : Type 0 where
  pub closes : is_success status ≡ true → next.handles ≡ filter (λ entry. not (entry.1.client == client)) v.handles
  pub refuses : is_success status ≡ false → next.handles ≡ v.handles

-- a QueryDir may change of its own handle which entries are listed, and how far, and leaves all others as they were; when it may, isn't
-- said here
pub record ListsOne (v : Volume) (client number : ℕ) (next : Volume) : Type 0 where
  pub same : all_unenumerated next.handles ≡ all_unenumerated v.handles
  pub others : (handle : ℕ) → option_map_or (λ own. own == handle) (handle_of v client number) false ≡ false → row_of next.handles handle ≡ row_of v.handles handle

-- any other call but an open, a wait, a tick or a cancellation too, and a close or a leaving that doesn't end, leaves all handles as
-- they were; but a QueryDir only as `ListsOne` says. What handles an open leaves is said in `AsAsked`
abbrev pub KeepsHandles : ℕ → What → Volume → Volume → Type 0
KeepsHandles client (Ask (request.Create path wanted share disposition options attributes key)) v next = Unit {0}
KeepsHandles client (Ask (request.QueryDir handle kind expression restart room)) v next = ListsOne v client handle next
KeepsHandles client what v next = next.handles ≡ v.handles

-- after a try of a client's call that asks this and came to this
abbrev pub HandlesAfter : Volume → ℕ → What → Outcome → Type 0
HandlesAfter v client (Ask (request.Close number)) (Done next reply) = ClosesOne v client number reply.status next
HandlesAfter v client Leave (Done next reply) = ClosesOwn v client reply.status next
HandlesAfter v client what outcome = KeepsHandles client what v (volume_after outcome)

-- so it is after each try of a history
abbrev pub HandlesGoWhenClosed : Setup → List HistoryEntry → Type 0
HandlesGoWhenClosed setup history = All (λ (t : Tried). HandlesAfter t.before t.call.client t.call.what (try t.before t.call t.turn)) (tries_of setup history)
