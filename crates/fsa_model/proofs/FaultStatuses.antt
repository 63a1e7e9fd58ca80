-- With which statuses a request can end for a fault: that of a walk, a reparse point's, and that of a link that can't be replaced.
use Rattle.std.proofs.Common.{◌≡◌, ℕ, ◌+◌, Bool, true, false, not, List, [], ◌∷◌, length, refl, inl, inr, Option, Some, None}
use Rattle.std.specs.Option.{option_map_or}
use Rattle.std.specs.Prelude.{⊤, ◌==◌, is_some, if◌then◌else◌}
use Rattle.std.proofs.lemmas.Bool.{cases_Bool, not-true}
use Rattle.fsa_types.specs.Masks.{IO_REPARSE_TAG_SYMLINK}
use Rattle.fsa_types.specs.Rows.{row_of}
use Rattle.fsa_types.specs.declared.status.Status.{Status}
use Rattle.fsa_types.specs.declared.status.Status.TheVariants.{AccessDenied, DeletePending, ObjectNameCollision, ObjectPathNotFound, Reparse, StoppedOnSymlink}
use Rattle.fsa_model.specs.Lookups.{child_of, is_directory}
use Rattle.fsa_model.specs.Open.{stop_status}
use Rattle.fsa_model.specs.Replacement.{Naming, replace_fault}
use Rattle.fsa_model.specs.Volume.{Volume}
use Rattle.fsa_model.specs.Walk.{Walked, Reached, Barred, Diverted, by_link, into, point_of, then_walk, through, walk_from}
use Rattle.fsa_model.proofs.RowLaws.{option_cases}

-- a fault, where there is one, is such a status
pub record Gives (such : Status → Bool) (fault : Option Status) : Type 0 where
  pub so : option_map_or such fault true ≡ true

module _ {such : Status → Bool} where
  pub gives-none : Gives such None
  gives-none = record { so = refl }

  pub gives-some : {status : Status} → such status ≡ true → Gives such (Some status)
  gives-some is = record { so = is }

  pub gives-if : (test : Bool) (one other : Option Status) → Gives such one → Gives such other → Gives such (if test then one else other)
  gives-if true one other holds fails = holds
  gives-if false one other holds fails = fails

pub ruleset giving = (gives-if, gives-none, gives-some, refl)

-- a link that can't be replaced ends it with one of three
pub replace-fails : (past : Status → Bool) (v : Volume) (naming : Naming) (link : ℕ) (status : Status)
    → past DeletePending ≡ false → past ObjectNameCollision ≡ false → past AccessDenied ≡ false → replace_fault v naming link ≡ Some status → past status ≡ false
replace-fails past v naming link status marked taken denied is =
    let not_marked : not (past DeletePending) ≡ true = rw marked refl in
    let not_taken : not (past ObjectNameCollision) ≡ true = rw taken refl in
    let not_denied : not (past AccessDenied) ≡ true = rw denied refl in
    let gives : Gives (λ why. not (past why)) (replace_fault v naming link) = search (gives-if, gives-none, gives-some, not_marked, not_taken, not_denied) depth 20 in
    not-true (past status) (rw is at gives.so)

-- a reparse point ends it with one of two
pub stop-fails : (past : Status → Bool) (tag : ℕ) → past StoppedOnSymlink ≡ false → past Reparse ≡ false → past (stop_status tag) ≡ false
stop-fails past tag symlink other = elim (cases_Bool (tag == IO_REPARSE_TAG_SYMLINK)) [ inl is ↦ rw is symlink | inr isnt ↦ rw isnt other ]

-- what bars a walk is no such status
abbrev pub BarsWithout : (Status → Bool) → Walked → Type 0
BarsWithout past (Barred status) = past status ≡ false
BarsWithout past _ = ⊤

-- a walk is barred with one of two
module _ (past : Status → Bool) (absent : past ObjectPathNotFound ≡ false) (marked : past DeletePending ≡ false) where
  through-fails : (v : Volume) (file next : ℕ) → BarsWithout past (through v file next)
  through-fails v file next = elim (cases_Bool (is_some (point_of v file))) [
    | inl point ↦ rw point tt
    | inr none ↦ elim (cases_Bool (is_directory v.files file)) [ inl is ↦ rw (none, is) tt | inr isnt ↦ rw (none, isnt) absent ]
  ]

  by_link-fails : (v : Volume) (link next : ℕ) → BarsWithout past (by_link v link next)
  by_link-fails v link next = elim (option_cases (row_of v.links link)) [
    | inl none ↦ rw none absent
    | inr some ↦ elim (cases_Bool some.0.deleted) [ inl is ↦ rw (some.1, is) marked | inr isnt ↦ rw (some.1, isnt) (through-fails v some.0.file next) ]
  ]

  into-fails : (v : Volume) (dir : ℕ) (name : List ℕ) (next : ℕ) → BarsWithout past (into v dir name next)
  into-fails v dir name next = elim (option_cases (child_of v dir name)) [ inl none ↦ rw none absent | inr some ↦ rw some.1 (by_link-fails v some.0 next) ]

  then_walk-fails : (go_on : ℕ → Walked) (walked : Walked) → ((dir : ℕ) → BarsWithout past (go_on dir)) → BarsWithout past walked → BarsWithout past (then_walk go_on walked)
  then_walk-fails go_on (Reached dir) on before = on dir
  then_walk-fails go_on (Barred status) on before = before
  then_walk-fails go_on (Diverted file next) on before = tt

  pub walk-fails : (v : Volume) (names : List (List ℕ)) (dir place : ℕ) → BarsWithout past (walk_from v dir place names)
  walk-fails v [] dir place = tt
  walk-fails v (name ∷ names) dir place = elim (cases_Bool (length names == 0)) [
    | inl last ↦ rw last tt
    | inr inner ↦ rw inner (then_walk-fails (λ next. walk_from v next (place + 1) names) (into v dir name (place + 1)) (λ next. walk-fails v names next (place + 1)) (into-fails v dir name (place + 1)))
  ]
