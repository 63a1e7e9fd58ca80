-- What is known once all passes are joined into the first, and the count was loaded.
use Rattle.std.proofs.Common.{◌≡◌, ℕ, zero, suc, ◌<◌, Bool, true, if◌then◌else◌, List, [], ◌∷◌, length, slice_get, Some, sym, refl, ap, ◌∙◌, subst, arith}
use mathlib.Core.Option.{some}
use lib.ListN.{get_elem?}
use Rattle.history_lock.specs.declared.view.Part.{Part}
use Rattle.history_lock.specs.declared.view.View.{View}
use Rattle.history_lock.specs.History.{calls_by}
use Rattle.history_lock.specs.Turns.{parts_of, with_seen, Sees}
use Rattle.history_lock.proofs.Turning.{own_part, parts_swap, parts_stay}

-- The view v has taken in all passes but the first, and w is v once the history was seen
pub record Gathered {X B E C : Type 0} (call_of : E → C) (client_of : C → ℕ) (view_of : X → View B E C) (n : ℕ) (items : List X) (v w : View B E C) : Type 0 where
  pub first : X
  pub others : List X
  pub log : List E
  pub whole : items ≡ first ∷ others
  pub count : length items ≡ n
  pub live : (view_of first).live ≡ true
  pub view : v ≡ record (view_of first) { kept = v.kept }
  pub loaded : w ≡ with_seen v log
  pub clients : (i : ℕ) (p : X) → slice_get items i ≡ Some p → (view_of p).own.client ≡ i
  pub kept : (i : ℕ) (p : X) → slice_get others i ≡ Some p → (k : ℕ) × (get_elem? v.kept k ≡ some (view_of p).own)
  pub sees : (k : ℕ) (p : Part E C) → get_elem? (parts_of v) k ≡ some p → Sees call_of client_of log p

module _ {A : Type 0} where
  given_some : (l : List A) (i : ℕ) → i < length l → (a : A) × (slice_get l i ≡ Some a)
  given_some [] i below = absurd (omega arith)
  given_some (x ∷ xs) zero below = (x, refl)
  given_some (x ∷ xs) (suc i) below = given_some xs i (omega arith)

module _ {B E C : Type 0} where
  kept_part : (v : View B E C) (k : ℕ) (p : Part E C) → v.live ≡ true → get_elem? v.kept k ≡ some p → get_elem? (parts_of v) (suc k) ≡ some p
  kept_part v k p live there = ap (λ (b : Bool). get_elem? (if b then v.own ∷ v.kept else []) (suc k)) live ∙ there

module _ {X B E C : Type 0} (call_of : E → C) (client_of : C → ℕ) (view_of : X → View B E C) (n : ℕ) (items : List X) (v w : View B E C) (h : Gathered call_of client_of view_of n items v w) where
  is_live : v.live ≡ true
  is_live = ap (λ (z : View B E C). z.live) h.view ∙ h.live

  -- each pass has a part, at some place
  part_at : (i : ℕ) (p : X) → slice_get items i ≡ Some p → (k : ℕ) × (get_elem? (parts_of v) k ≡ some (view_of p).own)
  part_at zero p at =
      let found : Some h.first ≡ Some p = sym (ap (λ (l : List X). slice_get l 0) h.whole) ∙ at in
      let same : h.first ≡ p = cc in
      (0, own_part v is_live ∙ ap some (ap (λ (z : View B E C). z.own) h.view ∙ ap (λ (z : X). (view_of z).own) same))
  part_at (suc i) p at =
      let t = h.kept i p (sym (ap (λ (l : List X). slice_get l (suc i)) h.whole) ∙ at) in (suc t.0, kept_part v t.0 (view_of p).own is_live t.1)

  pub each_sees : (i : ℕ) (p : X) → slice_get items i ≡ Some p → Sees call_of client_of w.own.seen (view_of p).own
  each_sees i p at = let t = part_at i p at in subst (λ (l : List E). Sees call_of client_of l (view_of p).own) (sym (ap (λ (z : View B E C). z.own.seen) h.loaded)) (h.sees t.0 (view_of p).own t.1)

  pub all_here : (client : ℕ) → client < n → (k : ℕ) × (p : Part E C) × (get_elem? (parts_of w) k ≡ some p) × (p.client ≡ client)
  all_here client below =
      let pass = given_some items client (let c = h.count in omega arith) in
      let t = part_at client pass.0 pass.1 in
      let stays = parts_stay v.live v.own (record v.own { seen = h.log }) v.kept refl t.0 (view_of pass.0).own t.1 in
      (t.0, stays.0, ap (λ (z : View B E C). get_elem? (parts_of z) t.0) h.loaded ∙ stays.1, stays.2 ∙ h.clients client pass.0 pass.1)

  pub all_made : (k : ℕ) (p : Part E C) → get_elem? (parts_of w) k ≡ some p → p.mine ≡ calls_by call_of client_of p.client w.own.seen
  all_made = subst (λ (z : View B E C). (k : ℕ) (p : Part E C) → get_elem? (parts_of z) k ≡ some p → p.mine ≡ calls_by call_of client_of p.client z.own.seen) (sym h.loaded)
      (parts_swap v.live v.own (record v.own { seen = h.log }) v.kept (λ k p. p.mine ≡ calls_by call_of client_of p.client h.log) (λ k p there. (h.sees k p there).mine) (λ same. same))
