-- Watches to which nothing is due: what a change leaves so, and what a report does.
use Rattle.std.proofs.Common.{◌≡◌, ℕ, zero, suc, ◌-◌, Bool, false, List, [], ◌∷◌, ◌++◌, length, drop, refl, ap, arith, inl, inr, Option, Some}
use Rattle.std.specs.Prelude.{map, filter, slice_get}
use Rattle.std.specs.Option.{option_map_or}
use Rattle.std.proofs.lemmas.Bool.{cases_Bool}
use Rattle.std.proofs.lemmas.List.{length-append}
use Rattle.fsa_model.specs.Volume.{Change}
use Rattle.fsa_model.specs.Watching.{is_asked_by, told_from}
use Rattle.notify_queue.specs.Due.{asks_for_last, due_of, row_of_watch}
use Rattle.notify_queue.specs.declared.watch.Watch.{Watch}

map-none : {X Y : Type 0} (f : X → Y) (xs : List X) → map f xs ≡ [] → xs ≡ []
map-none f [] none = refl
map-none f (x ∷ xs) none = cc

quiet-asks : (changes : List Change) (watch : Watch) → due_of changes watch ≡ [] → filter (is_asked_by (row_of_watch watch) watch.dir) (drop watch.from changes) ≡ []
quiet-asks changes watch quiet = map-none (told_from watch.dir) (filter (is_asked_by (row_of_watch watch) watch.dir) (drop watch.from changes)) quiet

asks-quiet : (changes : List Change) (watch : Watch) → filter (is_asked_by (row_of_watch watch) watch.dir) (drop watch.from changes) ≡ [] → due_of changes watch ≡ []
asks-quiet changes watch none = ap (map (told_from watch.dir)) none

-- ---- behind the last change

none-behind : {X : Type 0} (xs : List X) → drop (length xs) xs ≡ []
none-behind [] = refl
none-behind (x ∷ xs) = none-behind xs

pub quiet-end : (changes : List Change) (watch : Watch) → due_of changes (record watch { from = length changes }) ≡ []
quiet-end changes watch = asks-quiet changes (record watch { from = length changes }) (ap (filter (is_asked_by (row_of_watch watch) watch.dir)) (none-behind changes))

-- ---- one more change

drop-none : {X : Type 0} (place : ℕ) → drop {A = X} place [] ≡ []
drop-none zero = refl
drop-none (suc place) = refl

only-fails : {X : Type 0} (p : X → Bool) (x : X) → p x ≡ false → filter p (x ∷ []) ≡ []
only-fails p x fails = rw fails refl

none-more : {X : Type 0} (p : X → Bool) (xs : List X) (x : X) (place : ℕ) → p x ≡ false → filter p (drop place xs) ≡ [] → filter p (drop place (xs ++ x ∷ [])) ≡ []
none-more p [] x zero fails none = only-fails p x fails
none-more p [] x (suc place) fails none = ap (filter p) (drop-none place)
none-more p (y ∷ ys) x zero fails none =
    elim (cases_Bool (p y)) [
      | inl passes ↦ (let never : y ∷ filter p ys ≡ [] = rw passes at none in cc)
      | inr other ↦ rw other (none-more p ys x zero fails (rw other at none))
    ]
none-more p (y ∷ ys) x (suc place) fails none = none-more p ys x place fails none

get-last : {X : Type 0} (xs : List X) (x : X) → slice_get (xs ++ x ∷ []) (length xs) ≡ Some x
get-last [] x = refl
get-last (y ∷ ys) x = get-last ys x

last-place : (changes : List Change) (change : Change) → length (changes ++ change ∷ []) - 1 ≡ length changes
last-place changes change = omega (arith, length-append changes (change ∷ []))

last-asked : (watch : Watch) (changes : List Change) (change : Change) → asks_for_last watch (changes ++ change ∷ []) ≡ is_asked_by (row_of_watch watch) watch.dir change
last-asked watch changes change =
    let found : slice_get (changes ++ change ∷ []) (length (changes ++ change ∷ []) - 1) ≡ Some change = rw (last-place changes change) (get-last changes change) in
    ap (λ (last : Option Change). option_map_or (is_asked_by (row_of_watch watch) watch.dir) last false) found

-- nothing is due to a watch yet that doesn't ask for it
pub quiet-more : (changes : List Change) (change : Change) (watch : Watch) → due_of changes watch ≡ [] → asks_for_last watch (changes ++ change ∷ []) ≡ false → due_of (changes ++ change ∷ []) watch ≡ []
quiet-more changes change watch quiet other =
    asks-quiet (changes ++ change ∷ []) watch
    (none-more (is_asked_by (row_of_watch watch) watch.dir) changes change watch.from (rw (last-asked watch changes change) at other) (quiet-asks changes watch quiet))
