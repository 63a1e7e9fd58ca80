-- Where rows go, a note of a link takes no more than it took.
use Rattle.std.proofs.Common.{◌≡◌, ℕ, zero, suc, ◌<◌, ◌≤◌, Bool, true, false, not, List, [], ◌∷◌, length, get_or, refl, ap, sym, subst, ◌∙◌, arith, inl, inr, ◌⊎◌, Option, Some, None}
use Rattle.std.specs.List.{All, AllPairs, filter, find}
use Rattle.std.specs.Prelude.{◌==◌, ◌&&◌, IfSome}
use Rattle.std.proofs.lemmas.Bool.{cases_Bool, eqb-true, ne_eqb, and_left, and_right}
use Rattle.std.proofs.lemmas.List.Folds.{list_any_none}
use Rattle.fsa_types.specs.Rows.{row_of, without_row, IsNumbered}
use Rattle.fsa_types.proofs.RowLemmas.{length-filter_le}
use Rattle.fsa_model.specs.Changes.{stream_suffix, units_noted, dirs_noted}
use Rattle.fsa_model.specs.Edits.{without_link, without_stream}
use Rattle.fsa_model.specs.Lookups.{child_of, has_child, has_row, is_directory, is_named, link_of_file, number_of}
use Rattle.fsa_model.specs.Sound.{IsSound}
use Rattle.fsa_model.specs.Volume.{File, Link, Stream, Volume}
use Rattle.fsa_model.proofs.ReplacementLaws.{directory-without, files-without, leads-without, links_without, no_directory-without, others-without, table_without, unmarked-without, unnamed-without}
use Rattle.fsa_model.proofs.RowLaws.{any-filter_none, find-all, find-no, lives-found, number-none, option_cases, row_of-all}
use Rattle.fsa_model.proofs.SoundLaws.{tree_of, without_link-last, without_link-other}
use Rattle.volume_state.specs.Living.{StaysWithout}
use Rattle.volume_state.specs.Paths.{units_above, dirs_above}
use Rattle.volume_state.proofs.OpenLaws.{number-lives, units_noted-found, dirs_noted-found}

-- where at most one item passes, a filter keeps what is found, or nothing is found
find-thin : {X : Type 0} (p q : X → Bool) (xs : List X) → AllPairs (λ a b. (p a && p b) ≡ false) xs → (find p (filter q xs) ≡ None) ⊎ (find p (filter q xs) ≡ find p xs)
find-thin p q [] one = inl refl
find-thin p q (x ∷ xs) one =
    elim (cases_Bool (p x)) [
      | inl here ↦ elim (cases_Bool (q x)) [
        | inl kept ↦ inr (rw (kept, here) refl)
        | inr gone ↦ (let later : All (λ y. p y ≡ false) xs = λ k d within. let pair = one 0 (suc k) d (omega arith) (omega arith) in rw here at pair in
            let none : find p (filter q xs) ≡ None = find-no p (filter q xs) (any-filter_none p q xs (list_any_none p xs later)) in
            inl (rw (gone, none) refl))
      ]
      | inr other ↦ (let rest = find-thin p q xs (λ j k d below within. one (suc j) (suc k) d (omega arith) (omega arith)) in
          elim (cases_Bool (q x)) [ inl kept ↦ rw (kept, other) rest | inr gone ↦ rw (gone, other) rest ])
    ]

-- at most one row has a number
row-once : {R : Type 0} (rows : List (ℕ × R)) (last id : ℕ) → IsNumbered rows last → AllPairs (λ a b. (a.0 == id && b.0 == id) ≡ false) rows
row-once rows last id numbered j k d below within =
    let rises : (get_or rows j d).0 < (get_or rows k d).0 = numbered.rising j k d below within in
    elim (cases_Bool ((get_or rows j d).0 == id)) [
      | inr other ↦ and_left ((get_or rows j d).0 == id) ((get_or rows k d).0 == id) other
      | inl here ↦ (let is : (get_or rows j d).0 ≡ id = eqb-true _ _ here in
          and_right ((get_or rows j d).0 == id) ((get_or rows k d).0 == id) (ne_eqb _ id (λ e. absurd (omega arith))))
    ]

-- at most one link is a directory's
link-once : (files : List (ℕ × File)) (links : List (ℕ × Link)) (dir : ℕ) → AllPairs (λ a b. (is_directory files b.1.file && a.1.file == b.1.file) ≡ false) links
    → is_directory files dir ≡ true → AllPairs (λ a b. (a.1.file == dir && b.1.file == dir) ≡ false) links
link-once files links dir once directory j k d below within =
    elim (cases_Bool ((get_or links k d).1.file == dir)) [
      | inr other ↦ and_right ((get_or links j d).1.file == dir) ((get_or links k d).1.file == dir) other
      | inl here ↦ (let is : (get_or links k d).1.file ≡ dir = eqb-true _ _ here in
          let told = once j k d below within in
          let pair : (is_directory files dir && (get_or links j d).1.file == dir) ≡ false = rw is at told in
          and_left ((get_or links j d).1.file == dir) ((get_or links k d).1.file == dir) (rw directory at pair))
    ]

-- what is looked up in the second volume is what is looked up in the first, or nothing
record IsThinner (v w : Volume) : Type 0 where
  links : (other : ℕ) → (row_of w.links other ≡ None) ⊎ (row_of w.links other ≡ row_of v.links other)
  streams : (stream : ℕ) → (row_of w.streams stream ≡ None) ⊎ (row_of w.streams stream ≡ row_of v.streams stream)
  up : (dir : ℕ) → is_directory v.files dir ≡ true → (link_of_file w.links dir ≡ None) ⊎ (link_of_file w.links dir ≡ link_of_file v.links dir)
  few : length w.links ≤ length v.links

-- so it is where links go
row-thin : {R : Type 0} (keep : ℕ × R → Bool) (rows : List (ℕ × R)) (last id : ℕ) → IsNumbered rows last
    → (row_of (filter keep rows) id ≡ None) ⊎ (row_of (filter keep rows) id ≡ row_of rows id)
row-thin {R} keep rows last id numbered =
    elim (find-thin (λ (entry : ℕ × R). entry.0 == id) keep rows (row-once rows last id numbered)) [
      | inl none ↦ inl (rw none refl)
      | inr same ↦ inr (rw same refl)
    ]

link-thin : (v : Volume) → IsSound v → (keep : ℕ × Link → Bool) (dir : ℕ) → is_directory v.files dir ≡ true
    → (link_of_file (filter keep v.links) dir ≡ None) ⊎ (link_of_file (filter keep v.links) dir ≡ link_of_file v.links dir)
link-thin v sound keep dir directory =
    find-thin (λ (entry : ℕ × Link). entry.1.file == dir) keep v.links (link-once v.files v.links dir sound.tree.directories_have_one_link directory)

IsThinner-without_link : (v : Volume) (link : ℕ) → IsSound v → IsThinner v (without_link v link)
IsThinner-without_link v link sound =
    let keep : ℕ × Link → Bool = λ entry. not (entry.0 == link) in
    elim (option_cases (row_of v.links link)) [
      | inl none ↦ rw none (record { links = λ other. inr refl; streams = λ stream. inr refl; up = λ dir directory. inr refl; few = omega arith })
      | inr some ↦ elim (cases_Bool (has_row (λ l. l.file == some.0.file) (without_row v.links link))) [
        | inl linked ↦ subst (IsThinner v) (sym (without_link-other v link some.0 some.1 linked)) (record {
          links = λ other. row-thin keep v.links v.last_link other sound.links_numbered;
          streams = λ stream. inr refl;
          up = link-thin v sound keep;
          few = length-filter_le keep v.links;
        })
        | inr unlinked ↦ subst (IsThinner v) (sym (without_link-last v link some.0 some.1 unlinked)) (record {
          links = λ other. row-thin keep v.links v.last_link other sound.links_numbered;
          streams = λ stream. row-thin (λ entry. not (entry.1.file == some.0.file)) v.streams v.last_stream stream sound.streams_numbered;
          up = link-thin v sound keep;
          few = length-filter_le keep v.links;
        })
      ]
    ]

IsThinner-without_stream : (v : Volume) (stream : ℕ) → IsSound v → IsThinner v (without_stream v stream)
IsThinner-without_stream v stream sound = record {
  links = λ other. inr refl;
  streams = λ other. row-thin (λ entry. not (entry.0 == stream)) v.streams v.last_stream other sound.streams_numbered;
  up = λ dir directory. inr refl;
  few = omega arith;
}

-- no more stands above
units_above-thin : (i j : ℕ) (files : List (ℕ × File)) (old new : List (ℕ × Link)) → All (λ entry. is_directory files entry.1.parent ≡ true) old
    → ((dir : ℕ) → is_directory files dir ≡ true → (link_of_file new dir ≡ None) ⊎ (link_of_file new dir ≡ link_of_file old dir))
    → i ≤ j → (dir : ℕ) → is_directory files dir ≡ true → units_above i new dir ≤ units_above j old dir
units_above-thin zero j files old new parents thin fewer dir directory = omega arith
units_above-thin (suc i) zero files old new parents thin fewer dir directory = absurd (omega arith)
units_above-thin (suc i) (suc j) files old new parents thin fewer dir directory =
    elim (thin dir directory) [
      | inl none ↦ rw none (omega arith)
      | inr same ↦ elim (option_cases (link_of_file old dir)) [
        | inl none ↦ rw (same, none) (omega arith)
        | inr some ↦ (let above : is_directory files some.0.1.parent ≡ true = find-all (λ entry. is_directory files entry.1.parent ≡ true) (λ entry. entry.1.file == dir) old some.0 some.1 parents in
            let up = units_above-thin i j files old new parents thin (omega arith) some.0.1.parent above in
            rw (same, some.1) (omega arith))
      ]
    ]

dirs_above-thin : (i j : ℕ) (files : List (ℕ × File)) (old new : List (ℕ × Link)) → All (λ entry. is_directory files entry.1.parent ≡ true) old
    → ((dir : ℕ) → is_directory files dir ≡ true → (link_of_file new dir ≡ None) ⊎ (link_of_file new dir ≡ link_of_file old dir))
    → i ≤ j → (dir : ℕ) → is_directory files dir ≡ true → dirs_above i new dir ≤ dirs_above j old dir
dirs_above-thin zero j files old new parents thin fewer dir directory = omega arith
dirs_above-thin (suc i) zero files old new parents thin fewer dir directory = absurd (omega arith)
dirs_above-thin (suc i) (suc j) files old new parents thin fewer dir directory =
    elim (thin dir directory) [
      | inl none ↦ rw none (omega arith)
      | inr same ↦ elim (option_cases (link_of_file old dir)) [
        | inl none ↦ rw (same, none) (omega arith)
        | inr some ↦ (let above : is_directory files some.0.1.parent ≡ true = find-all (λ entry. is_directory files entry.1.parent ≡ true) (λ entry. entry.1.file == dir) old some.0 some.1 parents in
            let up = dirs_above-thin i j files old new parents thin (omega arith) some.0.1.parent above in
            rw (same, some.1) (omega arith))
      ]
    ]

-- no stream's name is longer
suffix-thin : (old new : List (ℕ × Stream)) → ((stream : ℕ) → (row_of new stream ≡ None) ⊎ (row_of new stream ≡ row_of old stream))
    → (of : Option ℕ) → length (stream_suffix new of) ≤ length (stream_suffix old of)
suffix-thin old new thin None = omega arith
suffix-thin old new thin (Some stream) = elim (thin stream) [
  | inl none ↦ rw none (omega arith)
  | inr same ↦ rw same (omega arith)
]

-- so no note takes more
units_noted-thin : (v w : Volume) → IsSound v → IsThinner v w → (other : ℕ) (of : Option ℕ) → units_noted w other of ≤ units_noted v other of
units_noted-thin v w sound thin other of =
    elim (thin.links other) [
      | inl none ↦ rw none (omega arith)
      | inr same ↦ elim (option_cases (row_of v.links other)) [
        | inl none ↦ rw (same, none) (omega arith)
        | inr some ↦ (let new = units_noted-found w other some.0 of (same ∙ some.1) in
            let old = units_noted-found v other some.0 of some.1 in
            let suffix = suffix-thin v.streams w.streams thin.streams of in
            let directory = row_of-all (λ row. is_directory v.files row.parent ≡ true) v.links other some.0 some.1 sound.tree.parents_are_directories in
            let above = units_above-thin (length w.links) (length v.links) v.files v.links w.links sound.tree.parents_are_directories thin.up thin.few some.0.parent directory in
            omega arith)
      ]
    ]

dirs_noted-thin : (v w : Volume) → IsSound v → IsThinner v w → (other : ℕ) (of : Option ℕ) → dirs_noted w other of ≤ dirs_noted v other of
dirs_noted-thin v w sound thin other of =
    elim (thin.links other) [
      | inl none ↦ rw none (omega arith)
      | inr same ↦ elim (option_cases (row_of v.links other)) [
        | inl none ↦ rw (same, none) (omega arith)
        | inr some ↦ (let new = dirs_noted-found w other some.0 of (same ∙ some.1) in
            let old = dirs_noted-found v other some.0 of some.1 in
            let directory = row_of-all (λ row. is_directory v.files row.parent ≡ true) v.links other some.0 some.1 sound.tree.parents_are_directories in
            let above = dirs_above-thin (length w.links) (length v.links) v.files v.links w.links sound.tree.parents_are_directories thin.up thin.few some.0.parent directory in
            omega arith)
      ]
    ]

pub units_noted-without_link : (v : Volume) (link : ℕ) → IsSound v → (w : Volume) → w ≡ without_link v link
    → (other : ℕ) (of : Option ℕ) → units_noted w other of ≤ units_noted v other of
units_noted-without_link v link sound w is = units_noted-thin v w sound (subst (IsThinner v) (sym is) (IsThinner-without_link v link sound))

pub dirs_noted-without_link : (v : Volume) (link : ℕ) → IsSound v → (w : Volume) → w ≡ without_link v link
    → (other : ℕ) (of : Option ℕ) → dirs_noted w other of ≤ dirs_noted v other of
dirs_noted-without_link v link sound w is = dirs_noted-thin v w sound (subst (IsThinner v) (sym is) (IsThinner-without_link v link sound))

pub units_noted-without_stream : (v : Volume) (stream : ℕ) → IsSound v → (w : Volume) → w ≡ without_stream v stream
    → (other : ℕ) (of : Option ℕ) → units_noted w other of ≤ units_noted v other of
units_noted-without_stream v stream sound w is = units_noted-thin v w sound (subst (IsThinner v) (sym is) (IsThinner-without_stream v stream sound))

pub dirs_noted-without_stream : (v : Volume) (stream : ℕ) → IsSound v → (w : Volume) → w ≡ without_stream v stream
    → (other : ℕ) (of : Option ℕ) → dirs_noted w other of ≤ dirs_noted v other of
dirs_noted-without_stream v stream sound w is = dirs_noted-thin v w sound (subst (IsThinner v) (sym is) (IsThinner-without_stream v stream sound))

-- ---- a link that goes

-- the name is free
free-without_link : (v : Volume) (link dir : ℕ) (name : List ℕ) → IsSound v → child_of v dir name ≡ Some link → child_of (without_link v link) dir name ≡ None
free-without_link v link dir name sound named =
    elim (option_cases (row_of v.links link)) [
      | inl none ↦ (let living = number-lives (is_named v.table dir name) v.links in
          absurd (lives-found v.links link (rw named at living) none))
      | inr some ↦ ap (λ links. number_of (is_named (without_link v link).table dir name) links) (links_without v link some.0 some.1)
          ∙ ap (λ table. number_of (is_named table dir name) (without_row v.links link)) (table_without v link some.0 some.1)
          ∙ number-none (is_named v.table dir name) (without_row v.links link) (unnamed-without v link dir name some.0 (tree_of v sound) some.1 named)
    ]

-- what stays where a link that is empty goes
pub StaysWithout-without_link : (v : Volume) (link : ℕ) → IsSound v → IfSome (row_of v.links link) (λ row. has_child v.links row.file ≡ false)
    → (w : Volume) → w ≡ without_link v link → StaysWithout v w link
StaysWithout-without_link v link sound empty w is =
    let thin : IsThinner v (without_link v link) = IsThinner-without_link v link sound in
    subst (λ w. StaysWithout v w link) (sym is) (record {
      others = others-without v link;
      files = files-without v link;
      no_directory = no_directory-without v link;
      holds = λ dir name named holds. record {
        directory = directory-without v link dir name empty named holds.directory;
        leads = leads-without v link dir name sound.links_numbered empty named holds.leads;
        unmarked = unmarked-without v link dir holds.unmarked;
      };
      free = λ dir name named. free-without_link v link dir name sound named;
      units = λ dir units directory. (let above = units_above-thin (length (without_link v link).links) (length v.links) v.files v.links (without_link v link).links
          sound.tree.parents_are_directories thin.up thin.few dir directory in omega arith);
      dirs = λ dir directory. (let above = dirs_above-thin (length (without_link v link).links) (length v.links) v.files v.links (without_link v link).links
          sound.tree.parents_are_directories thin.up thin.few dir directory in omega arith);
    })
