-- Ends that are given out one by one.
use Rattle.std.proofs.Common.{◌≡◌, ℕ, ◌+◌, ◌-◌, ◌≤◌, suc, List, [], ◌∷◌, ◌++◌, length, drop, refl, ap, sym, subst, ◌∙◌, arith, Some, None, inl, inr, append_assoc, append-nil}
use Rattle.std.specs.Prelude.{slice_get}
use Rattle.std.proofs.lemmas.List.Elements.{All-head, All-tail}
use Rattle.std.proofs.lemmas.Option.{slice_get_within, get_or_from_slice_get, slice_get_cases}
use Rattle.std.proofs.lemmas.List.{drop_all, length-append}
use Rattle.std.proofs.Math.Seq.{drop-cons}
use Rattle.fsa_types.specs.BoundedList.{Bounded}
use Rattle.fsa_types.specs.declared.reply.EndOf.{EndOf}
use Rattle.fsa_model.specs.Frame.{IsBare}
use Rattle.fsa_machine.specs.Step.{AreBare}

pub drop-at : {X : Type 0} (xs : List X) (i : ℕ) (x : X) → slice_get xs i ≡ Some x → drop i xs ≡ x ∷ drop (i + 1) xs
drop-at xs i x is =
    let next : i + 1 ≡ suc i = omega arith in
    drop-cons xs i x (slice_get_within xs i x is)
    ∙ ap (λ y. y ∷ drop (suc i) xs) (get_or_from_slice_get xs i x x is)
    ∙ ap (λ n. x ∷ drop n xs) (sym next)

-- the ends from `from` up to `place` have been given out
pub record Tells (all : List EndOf) (from place : ℕ) (before now : Bounded EndOf) : Type 0 where
  pub told : now.items ++ drop place all ≡ before.items ++ drop from all
  pub within : place ≤ length all
  pub left : length now.items + (length all - place) ≤ now.room
  pub room : now.room ≡ before.room
  pub bare : AreBare (drop place all)

pub Tells-step : (all : List EndOf) (from place : ℕ) (before now after : Bounded EndOf) (end : EndOf) → Tells all from place before now → slice_get all place ≡ Some end
    → after.items ≡ now.items ++ end ∷ [] → after.room ≡ now.room → Tells all from (place + 1) before after
Tells-step all from place before now after end tells found items room =
    let inside = slice_get_within all place end found in
    let cut = drop-at all place end found in
    record {
      told = rw items (append_assoc now.items (end ∷ []) (drop (place + 1) all) ∙ ap (λ (rest : List EndOf). now.items ++ rest) (sym cut) ∙ tells.told);
      within = omega arith;
      left = rw (items, room) (let one = length-append now.items (end ∷ []) in let left = tells.left in omega arith);
      room = room ∙ tells.room;
      bare = All-tail (λ (e : EndOf). IsBare e.reply.body) end (drop (place + 1) all) (subst (λ (rest : List EndOf). AreBare rest) cut tells.bare);
    }

pub Tells-bare : (all : List EndOf) (from place : ℕ) (before now : Bounded EndOf) (end : EndOf) → Tells all from place before now → slice_get all place ≡ Some end → IsBare end.reply.body
Tells-bare all from place before now end tells found =
    let cut = drop-at all place end found in
    All-head (λ (e : EndOf). IsBare e.reply.body) end (drop (place + 1) all) (subst (λ (rest : List EndOf). AreBare rest) cut tells.bare)

pub Tells-done : (all : List EndOf) (from place : ℕ) (before now : Bounded EndOf) → Tells all from place before now → length all ≤ place → now.items ≡ before.items ++ drop from all
Tells-done all from place before now tells past =
    sym (append-nil now.items) ∙ ap (λ (rest : List EndOf). now.items ++ rest) (sym (drop_all place all past)) ∙ tells.told

pub past-end : {X : Type 0} (xs : List X) (i : ℕ) → slice_get xs i ≡ None → length xs ≤ i
past-end {X} xs i none = elim (slice_get_cases xs i).1 [
  | inl inside ↦ (let impossible : None ≡ Some inside.0 = sym none ∙ inside.2 in cc)
  | inr past ↦ past.0
]

pub none-in : {X : Type 0} (xs : List X) → length xs ≡ 0 → xs ≡ []
none-in [] none = refl
none-in (x ∷ xs) none = absurd (omega arith)
