-- What is true of a row that was put in, and of one that was found.
use Rattle.std.proofs.Common.{◌≡◌, ℕ, suc, ◌+◌, ◌≤◌, Bool, true, false, List, [], ◌∷◌, ◌++◌, length, refl, ap, sym, ◌∙◌, arith, add-one, inl, inr, Option, Some, None, length-append}
use Rattle.std.specs.List.{find, list_any, All}
use Rattle.std.specs.Borrow.{Bor}
use Rattle.std.specs.Option.{option_copied}
use Rattle.std.specs.Prelude.{◌==◌, ◌&&◌, IsSome, IfSome, IfNone}
use Rattle.std.proofs.lemmas.Bool.{cases_Bool, ne_eqb, eq-eqb, eqb-true, and_parts, and_left, and_from}
use Rattle.std.proofs.lemmas.List.Folds.{find-append, list_any_none}
use Rattle.fsa_types.specs.Rows.{row_of, lives}
use Rattle.fsa_types.proofs.RowLemmas.{AreRising, AreRising-rest, AreRising-first}
use Rattle.fsa_types.specs.CaseTable.{same_name}
use Rattle.fsa_model.specs.Changes.{ancestors, stream_suffix, units_noted, dirs_noted}
use Rattle.fsa_model.specs.Edits.{with_link, with_stream}
use Rattle.fsa_model.specs.Lookups.{link_of_file, is_directory, number_of, is_stream_named}
use Rattle.fsa_model.specs.Sound.{IsSound, LeadsUp, is_stream_of_link, is_link_of_directory}
use Rattle.fsa_model.specs.Volume.{File, Link, Stream, Volume}
use Rattle.fsa_model.proofs.MoveLaws.{is_at_or_below-all}
use Rattle.fsa_model.proofs.RowLaws.{found-all, lives-found, find-any, find-no, any-last, no-next, option_cases, or_right, or-false}
use Rattle.volume_state.specs.Living.{is_link_to}
use Rattle.volume_state.specs.Paths.{units_above, dirs_above, units_noted_in, dirs_in}
use Rattle.volume_state.proofs.PathLaws.{path_units-ancestors, length-ancestors, ancestors-push}

-- the row that was put in is found
pub row_of-push : {R : Type 0} (rows : List (ℕ × R)) (last : ℕ) (row : R) → All (λ entry. entry.0 ≤ last) rows → row_of (rows ++ (last + 1, row) ∷ []) (last + 1) ≡ Some row
row_of-push {R} rows last row given =
    rw (
      find-append (λ (entry : ℕ × R). entry.0 == last + 1) rows ((last + 1, row) ∷ []),
      find-no (λ (entry : ℕ × R). entry.0 == last + 1) rows (list_any_none (λ (entry : ℕ × R). entry.0 == last + 1) rows (no-next rows last given)),
      eq-eqb (last + 1) (last + 1) refl,
    )
    refl

pub is_link_to-push : (links : List (ℕ × Link)) (last : ℕ) (row : Link) → is_link_to (links ++ (last + 1, row) ∷ []) (last + 1) row.file ≡ true
is_link_to-push links last row =
    any-last (λ (l : ℕ × Link). l.0 == last + 1 && l.1.file == row.file) links (last + 1, row) (and_from (last + 1 == last + 1) (row.file == row.file) (eq-eqb (last + 1) (last + 1) refl) (eq-eqb row.file row.file refl))

-- no link is the root's
pub no_link_of_root : (links : List (ℕ × Link)) → All (λ entry. (entry.1.file == 1) ≡ false) links → link_of_file links 1 ≡ None
no_link_of_root links none = find-no (λ (entry : ℕ × Link). entry.1.file == 1) links (list_any_none (λ (entry : ℕ × Link). entry.1.file == 1) links none)

-- from where a new link is seen, what it is called there is as long as was told for its parent
pub ancestors-new : (v : Volume) (parent : ℕ) (row : Link) (name : List ℕ) → IsSound v → LeadsUp v.links parent → (row.file == 1) ≡ false
    → ancestors (length (v.links ++ (v.last_link + 1, row) ∷ []) + 1) (v.links ++ (v.last_link + 1, row) ∷ []) parent name ≡ ancestors (length v.links + 1) v.links parent name
ancestors-new v parent row name sound up not_root =
    let old = no_link_of_root v.links sound.tree.root_has_no_link in
    let new : link_of_file (v.links ++ (v.last_link + 1, row) ∷ []) 1 ≡ None
    = rw (find-append (λ (entry : ℕ × Link). entry.1.file == 1) v.links ((v.last_link + 1, row) ∷ []), old, not_root) refl in
    let leads = is_at_or_below-all v.links 1 parent up.steps up.leads in
    rw (length-append v.links ((v.last_link + 1, row) ∷ []), add-one (length v.links + 1), add-one (length v.links))
    (ancestors-push (length v.links) (suc (length v.links)) (length v.links) v.links ((v.last_link + 1, row) ∷ []) parent name old new (omega arith) (omega arith) leads)

pub units_noted-new : (v : Volume) (parent : ℕ) (name : List ℕ) (file : ℕ) (stream : Option ℕ) → IsSound v → LeadsUp v.links parent → (file == 1) ≡ false
    → units_noted (with_link v parent name file) (v.last_link + 1) stream ≡ units_noted_in v parent (length name + length (stream_suffix v.streams stream))
units_noted-new v parent name file stream sound up not_root =
    let row : Link = record { parent = parent; name = name; file = file; deleted = false } in
    rw (
      row_of-push v.links v.last_link row sound.links_numbered.given,
      ancestors-new v parent row (name ++ stream_suffix v.streams stream) sound up not_root,
      add-one (length v.links),
      path_units-ancestors (length v.links) v.links parent (name ++ stream_suffix v.streams stream),
      length-append name (stream_suffix v.streams stream),
    )
    refl

pub dirs_noted-new : (v : Volume) (parent : ℕ) (name : List ℕ) (file : ℕ) (stream : Option ℕ) → IsSound v → LeadsUp v.links parent → (file == 1) ≡ false
    → dirs_noted (with_link v parent name file) (v.last_link + 1) stream ≡ dirs_in v parent
dirs_noted-new v parent name file stream sound up not_root =
    let row : Link = record { parent = parent; name = name; file = file; deleted = false } in
    rw (
      row_of-push v.links v.last_link row sound.links_numbered.given,
      ancestors-new v parent row (name ++ stream_suffix v.streams stream) sound up not_root,
      add-one (length v.links),
      length-ancestors (length v.links) v.links parent (name ++ stream_suffix v.streams stream),
    )
    refl

-- what is true of a value that is there is true of it otherwise said
pub IfSome-map : {X : Type 0} (P Q : X → Type 0) (o : Option X) → ((x : X) → P x → Q x) → IfSome o P → IfSome o Q
IfSome-map P Q None also given = tt
IfSome-map P Q (Some x) also given = also x given

pub IfNone-map : {X : Type 0} (P Q : Type 0) (o : Option X) → (P → Q) → IfNone o P → IfNone o Q
IfNone-map P Q None also given = also given
IfNone-map P Q (Some x) also given = tt

-- what a search finds passes
pub find-passes : {X : Type 0} (p : X → Bool) (xs : List X) (x : X) → find p xs ≡ Some x → p x ≡ true
find-passes p [] x found = (let impossible : None ≡ Some x = found in cc)
find-passes p (y ∷ xs) x found =
    elim (cases_Bool (p y)) [
      | inl passes ↦ (let is : Some y ≡ Some x = rw passes at found in let same : y ≡ x = cc in rw (← same) passes)
      | inr fails ↦ find-passes p xs x (rw fails at found)
    ]

-- a row that lives is lent
pub lent-lives : {R : Type 0} (rows : List (ℕ × R)) (id : ℕ) (lent : Option (Bor R)) → option_copied lent ≡ row_of rows id → lives rows id ≡ true → IsSome lent
lent-lives rows id None is living = absurd (lives-found rows id living (sym is))
lent-lives rows id (Some row) is living = refl

-- a number that is found lives
pub number-lives : {R : Type 0} (test : R → Bool) (rows : List (ℕ × R)) → IfSome (number_of test rows) (λ id. lives rows id ≡ true)
number-lives {R} test rows =
    elim (option_cases (find (λ (entry : ℕ × R). test entry.1) rows)) [
      | inl none ↦ rw none tt
      | inr some ↦ rw some.1 (find-any (λ (entry : ℕ × R). test entry.1) (λ (entry : ℕ × R). entry.0 == some.0.0) rows some.0 some.1 (eq-eqb some.0.0 some.0.0 refl))
    ]

-- a row that fails, put in, isn't found
pub number_of-push : {R : Type 0} (test : R → Bool) (rows : List (ℕ × R)) (entry : ℕ × R) → test entry.1 ≡ false → number_of test (rows ++ entry ∷ []) ≡ number_of test rows
number_of-push {R} test rows entry fails =
    elim (option_cases (find (λ (e : ℕ × R). test e.1) rows)) [
      | inl none ↦ rw (find-append (λ (e : ℕ × R). test e.1) rows (entry ∷ []), none, fails) refl
      | inr some ↦ rw (find-append (λ (e : ℕ × R). test e.1) rows (entry ∷ []), some.1) refl
    ]

-- some row of this number passes where the row of this number does
pub only-row : {R : Type 0} (test : R → Bool) (rows : List (ℕ × R)) (id : ℕ) → AreRising rows
    → IfSome (row_of rows id) (λ row. list_any (λ entry. entry.0 == id && test entry.1) rows ≡ test row)
only-row test [] id rising = tt
only-row {R} test (entry ∷ rows) id rising =
    elim (cases_Bool (entry.0 == id)) [
      | inl here ↦ (let is : entry.0 ≡ id = eqb-true _ _ here in
          let later : list_any (λ (e : ℕ × R). e.0 == id && test e.1) rows ≡ false
          = list_any_none (λ (e : ℕ × R). e.0 == id && test e.1) rows (λ k d within.
          let above = AreRising-first entry rows rising k d within in and_left _ _ (ne_eqb _ id (λ e. absurd (omega arith)))) in
          rw (here, later) (or-false (test entry.1)))
      | inr other ↦ rw other (only-row test rows id (AreRising-rest entry rows rising))
    ]

-- the link that is found is one of its file
pub linked : (links : List (ℕ × Link)) (id : ℕ) → IfSome (row_of links id) (λ row. is_link_to links id row.file ≡ true)
linked links id =
    elim (option_cases (find (λ (entry : ℕ × Link). entry.0 == id) links)) [
      | inl none ↦ rw none tt
      | inr some ↦ rw some.1 (find-any (λ (entry : ℕ × Link). entry.0 == id) (λ (l : ℕ × Link). l.0 == id && l.1.file == some.0.1.file) links some.0 some.1
          (and_from (some.0.0 == id) (some.0.1.file == some.0.1.file) (find-passes (λ (entry : ℕ × Link). entry.0 == id) links some.0 some.1) (eq-eqb some.0.1.file some.0.1.file refl)))
    ]

-- the stream that is found is one of each link of the file
pub found-of_link : (table : List (ℕ × ℕ)) (links : List (ℕ × Link)) (streams : List (ℕ × Stream)) (file : ℕ) (name : List ℕ)
    → IfSome (number_of (is_stream_named table file name) streams) (λ id. (link : ℕ) → is_link_to links link file ≡ true → is_stream_of_link links streams link id ≡ true)
found-of_link table links streams file name =
    elim (option_cases (find (λ (entry : ℕ × Stream). is_stream_named table file name entry.1) streams)) [
      | inl none ↦ rw none tt
      | inr some ↦ rw some.1 (λ link is_linked.
          let passes = find-passes (λ (entry : ℕ × Stream). is_stream_named table file name entry.1) streams some.0 some.1 in
          let same : some.0.1.file ≡ file = eqb-true _ _ (and_parts (some.0.1.file == file) (same_name table some.0.1.name name) passes).0 in
          find-any (λ (entry : ℕ × Stream). is_stream_named table file name entry.1) (λ (s : ℕ × Stream). s.0 == some.0.0 && is_link_to links link s.1.file) streams some.0 some.1
          (and_from (some.0.0 == some.0.0) (is_link_to links link some.0.1.file) (eq-eqb some.0.0 some.0.0 refl) (ap (λ f. is_link_to links link f) same ∙ is_linked)))
    ]

-- what a note of a link notes
pub units_noted-found : (v : Volume) (link : ℕ) (row : Link) (stream : Option ℕ) → row_of v.links link ≡ Some row
    → units_noted v link stream ≡ length row.name + length (stream_suffix v.streams stream) + units_above (length v.links) v.links row.parent
units_noted-found v link row stream found =
    rw (
      found,
      add-one (length v.links),
      path_units-ancestors (length v.links) v.links row.parent (row.name ++ stream_suffix v.streams stream),
      length-append row.name (stream_suffix v.streams stream),
    )
    refl

pub dirs_noted-found : (v : Volume) (link : ℕ) (row : Link) (stream : Option ℕ) → row_of v.links link ≡ Some row
    → dirs_noted v link stream ≡ 1 + dirs_above (length v.links) v.links row.parent
dirs_noted-found v link row stream found =
    rw (found, add-one (length v.links), length-ancestors (length v.links) v.links row.parent (row.name ++ stream_suffix v.streams stream)) refl

-- a note of a stream that was put in
pub units_noted-stream : (v : Volume) (file : ℕ) (name : List ℕ) (link : ℕ) → IsSound v
    → units_noted (with_stream v file name) link (Some (v.last_stream + 1)) ≤ units_noted v link None + 1 + length name
units_noted-stream v file name link sound =
    let stream : Stream = record { file = file; name = name; bytes = []; deleted = false } in
    let suffix : stream_suffix (v.streams ++ (v.last_stream + 1, stream) ∷ []) (Some (v.last_stream + 1)) ≡ 58 ∷ name
    = rw (row_of-push v.streams v.last_stream stream sound.streams_numbered.given) refl in
    elim (option_cases (row_of v.links link)) [
      | inl none ↦ rw none (omega arith)
      | inr some ↦ (
          let new = units_noted-found (with_stream v file name) link some.0 (Some (v.last_stream + 1)) some.1 in
          let old = units_noted-found v link some.0 None some.1 in
          let long : length (stream_suffix (v.streams ++ (v.last_stream + 1, stream) ∷ []) (Some (v.last_stream + 1))) ≡ suc (length name) = ap (λ (units : List ℕ). length units) suffix in
          omega arith)
    ]

pub dirs_noted-stream : (v : Volume) (file : ℕ) (name : List ℕ) (link : ℕ) → dirs_noted (with_stream v file name) link (Some (v.last_stream + 1)) ≡ dirs_noted v link None
dirs_noted-stream v file name link =
    elim (option_cases (row_of v.links link)) [
      | inl none ↦ rw none refl
      | inr some ↦ dirs_noted-found (with_stream v file name) link some.0 (Some (v.last_stream + 1)) some.1 ∙ sym (dirs_noted-found v link some.0 None some.1)
    ]

-- a directory's link that is found is a directory's, and its number isn't 0
pub linked-directory : (files : List (ℕ × File)) (links : List (ℕ × Link)) (id : ℕ)
    → IfSome (row_of links id) (λ row. is_directory files row.file ≡ true → is_link_of_directory files links id ≡ true)
linked-directory files links id =
    elim (option_cases (find (λ (entry : ℕ × Link). entry.0 == id) links)) [
      | inl none ↦ rw none tt
      | inr some ↦ rw some.1 (λ directory. or_right (id == 0) _
          (find-any (λ (entry : ℕ × Link). entry.0 == id) (λ (l : ℕ × Link). l.0 == id && is_directory files l.1.file) links some.0 some.1
          (and_from (some.0.0 == id) (is_directory files some.0.1.file) (find-passes (λ (entry : ℕ × Link). entry.0 == id) links some.0 some.1) directory)))
    ]

pub row_of-0 : (links : List (ℕ × Link)) → All (λ entry. (entry.0 == 0) ≡ false) links → row_of links 0 ≡ None
row_of-0 links none = rw (find-no (λ (entry : ℕ × Link). entry.0 == 0) links (list_any_none (λ (entry : ℕ × Link). entry.0 == 0) links none)) refl

pub found-number : (links : List (ℕ × Link)) (id : ℕ) → All (λ entry. (entry.0 == 0) ≡ false) links → IfSome (row_of links id) (λ row. (id == 0) ≡ false)
found-number links id none =
    elim (cases_Bool (id == 0)) [
      | inl root ↦ (let is : id ≡ 0 = eqb-true _ _ root in let found : row_of links id ≡ None = ap (λ i. row_of links i) is ∙ row_of-0 links none in rw found tt)
      | inr other ↦ found-all (λ row. (id == 0) ≡ false) links id (λ k d within. other)
    ]
