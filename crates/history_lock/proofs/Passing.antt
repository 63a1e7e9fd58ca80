-- What whole calls make of what a pass knows.
use Rattle.std.proofs.Common.{◌≡◌, ℕ, ◌+◌, ◌^◌, ◌<◌, List, [], ◌∷◌, ◌++◌, length, sym, refl, ap, ◌∙◌, subst, arith, length-append}
use Rattle.history_lock.specs.declared.view.Part.{Part}
use Rattle.history_lock.specs.declared.view.View.{View}
use Rattle.history_lock.specs.History.{Begins, calls_by}
use Rattle.history_lock.specs.Turns.{holding, with_seen, with_made, at_rest, both_parts, Sees}
use Rattle.history_lock.specs.Passes.{Refreshed, OnlyLoaded}
use Rattle.history_lock.proofs.Places.{begins_further, calls_by-own, length-calls_by}

module _ {B E C : Type 0} where
  -- a pass that has loaded the count has loaded
  pub refreshes : (v w : View B E C) (log : List E) → w ≡ with_seen v log → Begins v.own.seen log → Refreshed v w
  refreshes v w log is front = let same : w.own.seen ≡ log = ap (λ (z : View B E C). z.own.seen) is in record {
    seen = subst (λ (l : List E). Begins v.own.seen l) (sym same) front;
    view = is ∙ ap (with_seen v) (sym same);
  }

  -- a pass that has loaded the count once more has still only loaded it
  pub waits_on : (v u w : View B E C) → OnlyLoaded v u → Refreshed u w → OnlyLoaded v w
  waits_on v u w old new = record {
    seen = begins_further v.own.seen u.own.seen w.own.seen old.seen new.seen;
    loads = (let more : w.loads ≡ u.loads + 1 = ap (λ (z : View B E C). z.loads) new.view in let few = old.loads in omega arith);
    view = new.view ∙ (ap (λ (z : View B E C). with_seen z w.own.seen) old.view ∙ ap (λ (k : ℕ). record v { own = record v.own { seen = w.own.seen }; loads = k }) (sym (ap (λ (z : View B E C). z.loads) new.view)));
  }

  -- a pass that took others in has changed in nothing but what it keeps
  pub kept_view : (first v w u : View B E C) → v ≡ record first { kept = v.kept } → w ≡ both_parts v u → w ≡ record first { kept = w.kept }
  kept_view first v w u old is = is ∙ (ap (λ (z : View B E C). record z { kept = v.kept ++ u.own ∷ u.kept }) old ∙ ap (λ (k : List (Part E C)). record first { kept = k }) (sym (ap (λ (z : View B E C). z.kept) is)))

module _ {B E C : Type 0} (call_of : E → C) (client_of : C → ℕ) where
  -- the calls that a pass has made are all that it has seen of its client
  abbrev pub OwnCalls : View B E C → Type 0
  OwnCalls w = w.own.mine ≡ calls_by call_of client_of w.own.client w.own.seen

  pub own_seen : (v w : View B E C) (log : List E) → w ≡ with_seen v log → Sees call_of client_of log v.own → OwnCalls w
  own_seen v w log is sees = subst OwnCalls (sym is) sees.mine

  -- after an entry of its own, a pass at rest knows one call more, which is all that there is of its client
  pub own_made : (v t w : View B E C) (log longer : List E) (entry : E) → t ≡ holding v log → w ≡ at_rest (with_made t longer (calls_by call_of client_of t.own.client longer)) → longer ≡ log ++ entry ∷ []
      → client_of (call_of entry) ≡ v.own.client → Sees call_of client_of log v.own → length longer < 2 ^ 31
      → OwnCalls w × (length v.own.mine + 1 ≡ length w.own.mine) × (length v.own.mine + 1 < 2 ^ 31) × (w.own.mine ≡ v.own.mine ++ call_of entry ∷ [])
  own_made v t w log longer entry held is more by sees few =
      let whole : w ≡ at_rest (with_made (holding v log) longer (calls_by call_of client_of v.own.client longer)) = is ∙ ap (λ (z : View B E C). at_rest (with_made z longer (calls_by call_of client_of z.own.client longer))) held in
      let own : OwnCalls w = subst OwnCalls (sym whole) refl in
      let mine : w.own.mine ≡ calls_by call_of client_of v.own.client longer = ap (λ (z : View B E C). z.own.mine) whole in
      let grown : w.own.mine ≡ v.own.mine ++ call_of entry ∷ [] =
      mine ∙ (ap (calls_by call_of client_of v.own.client) more ∙ (calls_by-own call_of client_of v.own.client log entry by ∙ ap (λ (l : List C). l ++ call_of entry ∷ []) (sym sees.mine))) in
      let size : length w.own.mine ≡ length v.own.mine + 1 = ap length grown ∙ length-append v.own.mine (call_of entry ∷ []) in
      let most = length-calls_by call_of client_of v.own.client longer in
      let count : length w.own.mine ≡ length (calls_by call_of client_of v.own.client longer) = ap length mine in
      (own, sym size, omega arith, grown)
