-- What stays of a volume where a link is taken out whose name another link is to get.
use Rattle.std.proofs.Common.{◌≡◌, ℕ, Bool, true, false, not, List, get_or, refl, ap, ◌∙◌, inl, inr, ◌⊎◌, Some}
use Rattle.std.specs.List.{find, All}
use Rattle.std.specs.Prelude.{◌==◌, ◌&&◌, option_map, IfSome}
use Rattle.std.proofs.lemmas.Bool.{eqb-true, both_ways, cases_Bool, and_parts}
use Rattle.std.proofs.lemmas.List.Elements.{All-filter, filter_passes}
use Rattle.fsa_types.specs.CaseTable.{same_name}
use Rattle.fsa_types.specs.Rows.{lives, row_of, without_row, IsNumbered}
use Rattle.fsa_model.specs.Edits.{without_link}
use Rattle.fsa_model.specs.Lookups.{child_of, has_child, has_row, is_directory, is_named, linked_file}
use Rattle.fsa_model.specs.Sound.{IsSoundTree, LeadsUp}
use Rattle.fsa_model.specs.Volume.{Link, Volume}
use Rattle.fsa_model.proofs.MoveLaws.{named-only, number-found}
use Rattle.fsa_model.proofs.RowLaws.{any-filter, any-filter_none, eqb-swap, find-any, find-filter, none-all, option_cases}
use Rattle.fsa_model.proofs.SoundLaws.{leads_to-without, lives-without, without_link-last, without_link-other}
use Rattle.fsa_model.proofs.WaitLaws.{find-passes}

-- ---- the links and the files that there still are

pub links_without : (v : Volume) (target : ℕ) (row : Link) → row_of v.links target ≡ Some row → (without_link v target).links ≡ without_row v.links target
links_without v target row found = elim (cases_Bool (has_row (λ l. l.file == row.file) (without_row v.links target))) [
  | inl linked ↦ ap (λ (w : Volume). w.links) (without_link-other v target row found linked)
  | inr unlinked ↦ ap (λ (w : Volume). w.links) (without_link-last v target row found unlinked)
]

pub table_without : (v : Volume) (target : ℕ) (row : Link) → row_of v.links target ≡ Some row → (without_link v target).table ≡ v.table
table_without v target row found = elim (cases_Bool (has_row (λ l. l.file == row.file) (without_row v.links target))) [
  | inl linked ↦ ap (λ (w : Volume). w.table) (without_link-other v target row found linked)
  | inr unlinked ↦ ap (λ (w : Volume). w.table) (without_link-last v target row found unlinked)
]

files_without : (v : Volume) (target : ℕ) (row : Link) → row_of v.links target ≡ Some row → ((without_link v target).files ≡ v.files) ⊎ ((without_link v target).files ≡ without_row v.files row.file)
files_without v target row found = elim (cases_Bool (has_row (λ l. l.file == row.file) (without_row v.links target))) [
  | inl linked ↦ inl (ap (λ (w : Volume). w.files) (without_link-other v target row found linked))
  | inr unlinked ↦ inr (ap (λ (w : Volume). w.files) (without_link-last v target row found unlinked))
]

-- what is no directory isn't one after either
pub no_directory-without : (v : Volume) (target file : ℕ) → is_directory v.files file ≡ false → is_directory (without_link v target).files file ≡ false
no_directory-without v target file plain = elim (option_cases (row_of v.links target)) [
  | inl none ↦ rw none plain
  | inr some ↦ elim (files_without v target some.0 some.1) [
    | inl same ↦ ap (λ files. is_directory files file) same ∙ plain
    | inr fewer ↦ ap (λ files. is_directory files file) fewer ∙ any-filter_none (λ e. e.0 == file && e.1.directory) (λ e. not (e.0 == some.0.file)) v.files plain
  ]
]

-- another file lives
pub files-without : (v : Volume) (target file : ℕ) → lives v.files file ≡ true → (linked_file v target == file) ≡ false → lives (without_link v target).files file ≡ true
files-without v target file living other = elim (option_cases (row_of v.links target)) [
  | inl none ↦ rw none living
  | inr some ↦ elim (files_without v target some.0 some.1) [
    | inl same ↦ ap (λ files. lives files file) same ∙ living
    | inr fewer ↦ ap (λ files. lives files file) fewer ∙ lives-without v.files file some.0.file living (eqb-swap file some.0.file ∙ rw some.1 at other)
  ]
]

-- the row of another number
row_of-others : (links : List (ℕ × Link)) (target other : ℕ) → (other == target) ≡ false → row_of (without_row links target) other ≡ row_of links other
row_of-others links target other differs =
    ap (λ o. option_map (λ (e : ℕ × Link). e.1) o) (find-filter (λ e. e.0 == other) (λ e. not (e.0 == target)) links (λ k d within here. rw (eqb-true (get_or links k d).0 other here, differs) refl))

pub others-without : (v : Volume) (target other : ℕ) → (other == target) ≡ false → row_of (without_link v target).links other ≡ row_of v.links other
others-without v target other differs = elim (option_cases (row_of v.links target)) [
  | inl none ↦ rw none refl
  | inr some ↦ ap (λ links. row_of links other) (links_without v target some.0 some.1) ∙ row_of-others v.links target other differs
]

-- ---- the directory that the link was in

-- the directory that a named link is in has a child
has_named : (v : Volume) (dir : ℕ) (name : List ℕ) (target : ℕ) → child_of v dir name ≡ Some target → has_child v.links dir ≡ true
has_named v dir name target found =
    let one = number-found (find (λ (e : ℕ × Link). is_named v.table dir name e.1) v.links) target found in
    let passes = find-passes (λ (e : ℕ × Link). is_named v.table dir name e.1) v.links one.0 one.1.0 in
    find-any (λ (e : ℕ × Link). is_named v.table dir name e.1) (λ e. e.1.parent == dir) v.links one.0 one.1.0
    (and_parts (one.0.1.parent == dir) (same_name v.table one.0.1.name name) passes).0

-- so it isn't the file of that link, which is empty
pub directory-without : (v : Volume) (target dir : ℕ) (name : List ℕ) → IfSome (row_of v.links target) (λ row. has_child v.links row.file ≡ false)
    → child_of v dir name ≡ Some target → is_directory v.files dir ≡ true → is_directory (without_link v target).files dir ≡ true
directory-without v target dir name empty named directory = elim (option_cases (row_of v.links target)) [
  | inl none ↦ rw none directory
  | inr some ↦ (let childless : has_child v.links some.0.file ≡ false = rw some.1 at empty in
      let differ : (dir == some.0.file) ≡ false = elim (cases_Bool (dir == some.0.file)) [
        | inl same ↦ absurd (both_ways (has_child v.links some.0.file) childless (rw (← eqb-true dir some.0.file same) (has_named v dir name target named)))
        | inr other ↦ other
      ] in
      elim (files_without v target some.0 some.1) [
        | inl same ↦ ap (λ files. is_directory files dir) same ∙ directory
        | inr fewer ↦ ap (λ files. is_directory files dir) fewer
            ∙ any-filter (λ e. e.0 == dir && e.1.directory) (λ e. not (e.0 == some.0.file)) v.files (λ e both. rw (eqb-true e.0 dir (and_parts (e.0 == dir) e.1.directory both).0, differ) refl) directory
      ])
]

pub leads-without : (v : Volume) (target dir : ℕ) (name : List ℕ) → IsNumbered v.links v.last_link → IfSome (row_of v.links target) (λ row. has_child v.links row.file ≡ false)
    → child_of v dir name ≡ Some target → LeadsUp v.links dir → LeadsUp (without_link v target).links dir
leads-without v target dir name numbered empty named up = elim (option_cases (row_of v.links target)) [
  | inl none ↦ rw none up
  | inr some ↦ rw (links_without v target some.0 some.1) (record {
    steps = up.steps;
    leads = leads_to-without up.steps v.links v.last_link target some.0 1 dir numbered some.1 (rw some.1 at empty) (has_named v dir name target named) up.leads;
  })
]

pub unmarked-without : (v : Volume) (target dir : ℕ) → has_row (λ l. l.file == dir && l.deleted) v.links ≡ false
    → has_row (λ l. l.file == dir && l.deleted) (without_link v target).links ≡ false
unmarked-without v target dir unmarked = elim (option_cases (row_of v.links target)) [
  | inl none ↦ rw none unmarked
  | inr some ↦ ap (λ links. has_row (λ l. l.file == dir && l.deleted) links) (links_without v target some.0 some.1)
      ∙ any-filter_none (λ e. e.1.file == dir && e.1.deleted) (λ e. not (e.0 == target)) v.links unmarked
]

-- no link that is left has the name
pub unnamed-without : (v : Volume) (target dir : ℕ) (name : List ℕ) (row : Link) → IsSoundTree v → row_of v.links target ≡ Some row → child_of v dir name ≡ Some target
    → All (λ e. is_named v.table dir name e.1 ≡ false) (without_row v.links target)
unnamed-without v target dir name row sound found named k d within =
    let kept : ℕ × Link → Bool = λ e. not (e.0 == target) in
    let only : All (λ e. (not (e.0 == target) && is_named v.table dir name e.1) ≡ false) v.links
    = none-all (λ e. not (e.0 == target) && is_named v.table dir name e.1) v.links (named-only v dir name target sound named) in
    let is_kept : not ((get_or (without_row v.links target) k d).0 == target) ≡ true = filter_passes kept v.links k d within in
    let none = All-filter kept (λ (e : ℕ × Link). (not (e.0 == target) && is_named v.table dir name e.1) ≡ false) v.links only k d within in
    rw is_kept at none
