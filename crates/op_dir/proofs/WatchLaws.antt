-- Nothing is due to a watch that begins: the Notify that makes it waits.
use Rattle.std.proofs.Common.{◌≡◌, ℕ, Bool, true, false, [], ◌∷◌, length, refl, inl, inr, Some, None}
use Rattle.std.specs.Prelude.{◌==◌}
use Rattle.std.proofs.Math.Seq.{drop-length}
use Rattle.std.proofs.lemmas.Bool.{eq-eqb}
use Rattle.std.proofs.lemmas.List.Folds.{find-append}
use Rattle.fsa_types.specs.declared.reply.Interim.TheVariants as interim
use Rattle.fsa_model.specs.Edits.{with_watch}
use Rattle.fsa_model.specs.Outcome.{Stay}
use Rattle.fsa_model.specs.Volume.{Volume, Watch}
use Rattle.fsa_model.specs.Watching.{dir_of, is_something_due, notify_due, watch_of, with_watch_begun}
use Rattle.fsa_model.proofs.RowLaws.{option_cases}

-- the watch that was put in is the handle's
watch_of-with_watch : (v : Volume) (id filter : ℕ) (tree : Bool) (from : ℕ) → watch_of v id ≡ None
    → watch_of (with_watch v id filter tree from) id ≡ Some (record { handle = id; filter = filter; tree = tree; from = from })
watch_of-with_watch v id filter tree from none =
    let own : (id == id) ≡ true = eq-eqb id id refl in
    rw (find-append (λ (watch : Watch). watch.handle == id) v.watches (record { handle = id; filter = filter; tree = tree; from = from } ∷ []), none, own) refl

-- nothing was noted since
none_due-with_watch : (v : Volume) (id filter : ℕ) (tree : Bool) → watch_of v id ≡ None
    → is_something_due (with_watch v id filter tree (length v.changes)) id ≡ false
none_due-with_watch v id filter tree none =
    rw (watch_of-with_watch v id filter tree (length v.changes) none) (elim (option_cases (dir_of v id)) [
      | inl nowhere ↦ rw nowhere refl
      | inr dir ↦ rw (dir.1, drop-length v.changes) refl
    ])

pub waits_with_new_watch : (v : Volume) (id filter : ℕ) (tree : Bool) (room : ℕ) → watch_of v id ≡ None
    → notify_due (with_watch_begun v id filter tree) id room ≡ Stay (with_watch v id filter tree (length v.changes)) interim.Watch
waits_with_new_watch v id filter tree room none = rw (none, none_due-with_watch v id filter tree none) refl
