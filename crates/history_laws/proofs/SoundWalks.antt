-- In a sound volume a walk reaches only directories that may get an entry: the root, and what links that aren't marked lead to.
use Rattle.std.proofs.Common.{◌≡◌, ℕ, ◌+◌, ◌==◌, true, false, List, [], ◌∷◌, length, refl, subst, ◌∙◌, inl, inr, Some}
use Rattle.std.specs.Prelude.{◌&&◌, is_some}
use Rattle.std.proofs.lemmas.Bool.{cases_Bool}
use Rattle.std.proofs.lemmas.List.Folds.{list_any_none}
use Rattle.fsa_types.specs.Rows.{row_of}
use Rattle.fsa_model.specs.Lookups.{child_of, has_row, is_directory}
use Rattle.fsa_model.specs.Sound.{IsSoundTree, LeadsUp}
use Rattle.fsa_model.specs.Volume.{Link, Volume}
use Rattle.fsa_model.specs.Walk.{Walked, Reached, Barred, Diverted, by_link, into, point_of, then_walk, through, walk, walk_from}
use Rattle.fsa_model.proofs.RowLaws.{option_cases, row_of-all}
use Rattle.fsa_model.proofs.SoundLaws.{LeadsUp-file, one-mark}
use Rattle.history_laws.proofs.SoundKinds.{TakesEntries}

root-takes : (v : Volume) → IsSoundTree v → TakesEntries v 1
root-takes v sound = record {
  directory = sound.tree.root_is_directory;
  leads = record { steps = 0; leads = refl };
  unmarked = list_any_none (λ e. e.1.file == 1 && e.1.deleted) v.links (λ k d within. rw (sound.tree.root_has_no_link k d within) refl);
}

-- ---- a component

link-takes : (v : Volume) (link : ℕ) (row : Link) → IsSoundTree v → row_of v.links link ≡ Some row → row.deleted ≡ false → is_directory v.files row.file ≡ true
    → TakesEntries v row.file
link-takes v link row sound found living directory = record {
  directory = directory;
  leads = row_of-all (λ (l : Link). LeadsUp v.links l.file) v.links link row found (LeadsUp-file v sound);
  unmarked = row_of-all (λ (l : Link). is_directory v.files l.file ≡ true → has_row (λ m. m.file == l.file && m.deleted) v.links ≡ l.deleted) v.links link row found (one-mark v sound) directory ∙ living;
}

-- what a component comes to, by the tests that it passes
through-reached : (v : Volume) (file next dir : ℕ) → through v file next ≡ Reached dir → (file ≡ dir) × (is_directory v.files file ≡ true)
through-reached v file next dir reached = elim (cases_Bool (is_some (point_of v file))) [
  | inl point ↦ (let no : Diverted file next ≡ Reached dir = rw point at reached in cc)
  | inr plain ↦ elim (cases_Bool (is_directory v.files file)) [
    | inl is ↦ (let there : Reached file ≡ Reached dir = rw (plain, is) at reached in let same : file ≡ dir = cc in (same, is))
    | inr isnt ↦ (let no = rw (plain, isnt) at reached in cc)
  ]
]

into-takes : (v : Volume) (dir : ℕ) (name : List ℕ) (next found : ℕ) → IsSoundTree v → into v dir name next ≡ Reached found → TakesEntries v found
into-takes v dir name next found sound reached = elim (option_cases (child_of v dir name)) [
  | inl none ↦ (let no = rw none at reached in cc)
  | inr link ↦ (let by : by_link v link.0 next ≡ Reached found = rw link.1 at reached in elim (option_cases (row_of v.links link.0)) [
    | inl gone ↦ (let no = rw gone at by in cc)
    | inr row ↦ elim (cases_Bool row.0.deleted) [
      | inl marked ↦ (let no = rw (row.1, marked) at by in cc)
      | inr living ↦ (let on : through v row.0.file next ≡ Reached found = rw (row.1, living) at by in
          let there = through-reached v row.0.file next found on in
          subst (TakesEntries v) there.0 (link-takes v link.0 row.0 sound row.1 living there.1))
    ]
  ])
]

-- ---- a walk

then-reached : (go_on : ℕ → Walked) (walked : Walked) (dir : ℕ) → then_walk go_on walked ≡ Reached dir → (between : ℕ) × ((walked ≡ Reached between) × (go_on between ≡ Reached dir))
then-reached go_on (Reached between) dir reached = (between, (refl, reached))
then-reached go_on (Barred status) dir reached = cc
then-reached go_on (Diverted file next) dir reached = cc

from-takes : (v : Volume) (names : List (List ℕ)) (start place dir : ℕ) → IsSoundTree v → TakesEntries v start → walk_from v start place names ≡ Reached dir → TakesEntries v dir
from-takes v [] start place dir sound takes reached = let same : start ≡ dir = cc in subst (TakesEntries v) same takes
from-takes v (name ∷ names) start place dir sound takes reached = elim (cases_Bool (length names == 0)) [
  | inl last ↦ (let there : Reached start ≡ Reached dir = rw last at reached in let same : start ≡ dir = cc in subst (TakesEntries v) same takes)
  | inr inner ↦ (let on = then-reached (λ next. walk_from v next (place + 1) names) (into v start name (place + 1)) dir (rw inner at reached) in
      from-takes v names on.0 (place + 1) dir sound (into-takes v start name (place + 1) on.0 sound on.1.0) on.1.1)
]

-- a walk reaches a directory that may get an entry
pub walk-takes : (v : Volume) (names : List (List ℕ)) (dir : ℕ) → IsSoundTree v → walk v names ≡ Reached dir → TakesEntries v dir
walk-takes v names dir sound reached = from-takes v names 1 0 dir sound (root-takes v sound) reached
