-- Clients and requests that are taken after what was read.
use Rattle.std.proofs.Common.{◌≡◌, ◌∙◌, sym, ap, ℕ, ◌+◌, ◌<◌, ◌^◌, true, false, List, [], ◌∷◌, ◌++◌, Some, None, length, map, inl, inr, refl, arith}
use Rattle.std.specs.Prelude.{Ok, Err, is_some}
use Rattle.std.specs.List.{position}
use Rattle.std.proofs.lemmas.List.{length_push, map-append, get_or_append_left, get_or_push}
use Rattle.std.proofs.lemmas.Bool.{cases_eq}
use Rattle.fsa_types.specs.declared.setup.Client.{Client as GivenClient}
use Rattle.fsa_types.specs.declared.request.What.{What}
use Rattle.fsa_model.specs.Fault.{BadClient}
use Rattle.fsa_model.specs.Setup.{client_of}
use Rattle.fsa_model.specs.Words.{same}
use Rattle.fsa_model.specs.Script.{Reading, place_of, takes_clients, takes_requests, with_client, take_client, take_request, take_call}
use Rattle.script_read.specs.declared.reading.Reading.{Reading as ReadReading}
use Rattle.script_read.specs.declared.stage.Stage.TheVariants as stage
use Rattle.script_read.specs.ReadingView.{IsKept}
use Rattle.script_read.proofs.NameLemmas.{position-map}

pub place_of-kept : (r : ReadReading) (name : List ℕ) → IsKept r → place_of (map client_of r.clients.items) name ≡ position (λ known. same name known) r.names
place_of-kept r name kept =
    position-map client_of (λ client. same name client.name) r.clients.items
    ∙ sym (position-map (λ client. client.name) (λ known. same name known) r.clients.items)
    ∙ ap (position (λ known. same name known)) (sym kept.names)

pub take_client-repeated : (reading : Reading) (name sids : List ℕ) → takes_clients reading.stage ≡ true
    → is_some (place_of reading.script.setup.clients name) ≡ true → take_client reading name sids ≡ Err BadClient
unfolding take_client
take_client-repeated reading name sids takes there = rw (takes, there) refl

pub take_client-new : (reading : Reading) (name sids : List ℕ) → takes_clients reading.stage ≡ true
    → is_some (place_of reading.script.setup.clients name) ≡ false → take_client reading name sids ≡ Ok (with_client reading name sids)
unfolding take_client
take_client-new reading name sids takes absent = rw (takes, absent) refl

pub take_request-unknown : (reading : Reading) (name : List ℕ) (number : ℕ) (what : What) → takes_requests reading.stage ≡ true
    → place_of reading.script.setup.clients name ≡ None
    → take_request reading name number what ≡ Err BadClient
unfolding take_request
take_request-unknown reading name number what takes absent = rw (takes, absent) refl

pub take_request-known : (reading : Reading) (name : List ℕ) (client number : ℕ) (what : What) → takes_requests reading.stage ≡ true
    → place_of reading.script.setup.clients name ≡ Some client
    → take_request reading name number what ≡ take_call reading client number what
unfolding take_request
take_request-known reading name client number what takes there = rw (takes, there) refl

-- one client more
pub IsKept-client : (r new : ReadReading) (client : GivenClient) → IsKept r → new.names ≡ r.names ++ client.name ∷ []
    → new.clients.items ≡ r.clients.items ++ client ∷ [] → new.last_numbers.items ≡ r.last_numbers.items ++ 0 ∷ []
    → new.calls.items ≡ r.calls.items → new.stage ≡ stage.Clients → length new.clients.items < 2 ^ 32 → IsKept new
IsKept-client r new client kept names clients lasts calls stage few =
    let counted : length r.last_numbers.items ≡ length r.clients.items = kept.counted in
    let more : length new.clients.items ≡ length r.clients.items + 1 = rw clients (length_push r.clients.items client) in
    record {
      names = names ∙ rw (kept.names, clients, map-append) refl;
      counted = rw lasts (length_push r.last_numbers.items 0 ∙ (let e : length r.last_numbers.items + 1 ≡ length new.clients.items = omega arith in e));
      numbers = λ place within.
          rw (lasts, calls)
          (elim (cases_eq place (length r.clients.items)) [
            | inl last ↦
                rw (get_or_push r.last_numbers.items 0 0 place (counted ∙ sym last), kept.callers place (omega arith)) refl
            | inr other ↦
                let old : place < length r.clients.items = omega arith in
                rw (get_or_append_left r.last_numbers.items (0 ∷ []) 0 place (omega arith)) (kept.numbers place old)
          ]);
      callers = λ place past. rw calls (kept.callers place (omega arith));
      paired = rw stage (λ e. cc);
      few = few;
    }
