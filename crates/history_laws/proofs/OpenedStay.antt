-- What was opened by a link, or is open on a stream, stays open in a try of any call but a close and a leaving: an open adds a
-- handle, and a query of a directory moves the cursor of one; no other leaves other handles than there were.
use Rattle.std.proofs.Common.{◌≡◌, ℕ, Bool, true, false, refl, sym, ap, ◌∙◌, inl, inr}
use Rattle.std.proofs.lemmas.Bool.{cases_Bool}
use Rattle.fsa_types.specs.declared.request.Call.{Call}
use Rattle.fsa_types.specs.declared.request.Request.TheVariants as request
use Rattle.fsa_types.specs.declared.request.What.{What}
use Rattle.fsa_types.specs.declared.request.What.TheVariants.{Ask, Leave}
use Rattle.fsa_model.specs.Frame.{all_unenumerated, unenumerated}
use Rattle.fsa_model.specs.Lookups.{has_row, is_open_by, is_open_on}
use Rattle.fsa_model.specs.Open.{Asked}
use Rattle.fsa_model.specs.Outcome.{Outcome, Done, Stay, Hold}
use Rattle.fsa_model.specs.Try.{try_what}
use Rattle.fsa_model.specs.Turn.{volume_after}
use Rattle.fsa_model.specs.Volume.{Handle, Volume}
use Rattle.fsa_model.proofs.RowLaws.{any-map, any-push}
use Rattle.history_laws.specs.AsAsked.{is_opened}
use Rattle.history_laws.proofs.AsAsked.{OpensIn, OpensSo, creates}
use Rattle.history_laws.proofs.KeptHandles.{what-kept}
use Rattle.history_laws.proofs.OpensStay.{closes_handles}

-- whatever was opened by a link, or is open on a stream, still is
pub record KeepsOpen (v w : Volume) : Type 0 where
  pub by : (link : ℕ) → has_row (is_open_by link) v.handles ≡ true → has_row (is_open_by link) w.handles ≡ true
  pub on : (stream : ℕ) → has_row (is_open_on stream) v.handles ≡ true → has_row (is_open_on stream) w.handles ≡ true

-- the handles are the same
still : (v w : Volume) → w.handles ≡ v.handles → KeepsOpen v w
still v w same = record { by = λ link is. rw same is; on = λ stream is. rw same is }

-- or the same but for cursors, of which neither is asked
listed : (v w : Volume) → all_unenumerated w.handles ≡ all_unenumerated v.handles → KeepsOpen v w
listed v w same = record { by = λ link is. alike (is_open_by link) ∙ is; on = λ stream is. alike (is_open_on stream) ∙ is }
  where
    alike : (test : Handle → Bool) → has_row (λ row. test (unenumerated row)) w.handles ≡ has_row (λ row. test (unenumerated row)) v.handles
    alike test =
        sym (any-map (λ (entry : ℕ × Handle). test entry.1) (λ (entry : ℕ × Handle). (entry.0, unenumerated entry.1)) w.handles) ∙ ap (has_row test) same
        ∙ any-map (λ (entry : ℕ × Handle). test entry.1) (λ (entry : ℕ × Handle). (entry.0, unenumerated entry.1)) v.handles

-- an open adds a handle where it succeeds, and leaves them where it doesn't
opened : (v : Volume) (call : Call) (asked : Asked) (outcome : Outcome) → OpensIn v call asked outcome → KeepsOpen v (volume_after outcome)
opened v call asked (Done next reply) so = elim (cases_Bool (is_opened reply.status)) [
  | inl opens ↦ (let added = (so.opens opens).added in record {
    by = λ link is. rw added (any-push (λ entry. is_open_by link entry.1) v.handles _ is);
    on = λ stream is. rw added (any-push (λ entry. is_open_on stream entry.1) v.handles _ is);
  })
  | inr refuses ↦ still v next (so.refuses refuses)
]
opened v call asked (Stay next interim) so = still v next so
opened v call asked (Hold next blockers interim) so = still v next so

-- its try keeps open what was opened by a link, or is open on a stream
pub what-keeps_open : (v : Volume) (turn client number : ℕ) (what : What) → closes_handles what ≡ false → KeepsOpen v (volume_after (try_what v turn client number what))
what-keeps_open v turn client number (Ask (request.Create path wanted share disposition options attributes key)) other =
    opened v call asked _ (OpensSo.so (creates v call asked refl refl))
  where
    call : Call
    call = record { client = client; number = number; what = Ask (request.Create path wanted share disposition options attributes key) }

    asked : Asked
    asked = record { client = client; number = number; path = path; wanted = wanted; share = share; disposition = disposition; options = options; attributes = attributes; key = key }
what-keeps_open v turn client number (Ask (request.QueryDir handle kind expression restart room)) other =
    listed v _ (what-kept v turn client number (Ask (request.QueryDir handle kind expression restart room)) refl).same
what-keeps_open v turn client number (Ask (request.Close handle)) other = cc
what-keeps_open v turn client number Leave other = cc
what-keeps_open v turn client number what other = still v _ (what-kept v turn client number what refl)
