-- What was made in a history was made in each longer one.
use Rattle.std.proofs.Common.{◌≡◌, Bool, true, false, List, [], ◌∷◌, ◌++◌, refl, inl, inr}
use Rattle.std.specs.List.{list_any}
use Rattle.std.proofs.lemmas.Bool.{cases_Bool}
use Rattle.fsa_types.specs.declared.request.CallId.{CallId}
use Rattle.fsa_model.specs.Engine.{is_entry_of}
use Rattle.fsa_model.specs.History.{HistoryEntry}
use Rattle.shared_volume.specs.Histories.{AllowsAsk}

any-front : {X : Type 0} (p : X → Bool) (xs ys : List X) → list_any p xs ≡ true → list_any p (xs ++ ys) ≡ true
any-front p [] ys some = absurd (let f : false ≡ true = some in cc)
any-front p (x ∷ xs) ys some = elim (cases_Bool (p x)) [
  | inl is ↦ rw is refl
  | inr isnt ↦ rw isnt (any-front p xs ys (rw isnt at some))
]

pub asked_later : (front later : List HistoryEntry) (call : CallId) → AllowsAsk front call → AllowsAsk (front ++ later) call
asked_later front later call made = any-front (is_entry_of call.client call.number) front later made
