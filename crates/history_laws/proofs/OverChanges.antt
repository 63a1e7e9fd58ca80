-- Nothing is left over by a change of the tree, where a mark is set only on what has a handle, and a stream or a link is made only of
-- a file that is there. Which links and streams have handles is any choice here, so that a close can be followed through its parts.
use Rattle.std.proofs.Common.{◌≡◌, ℕ, suc, ◌+◌, Bool, true, false, ◌==◌, not, List, [], ◌∷◌, ◌++◌, get_or, refl, sym, ap, subst, ◌∙◌, arith, inl, inr, Option, Some, eq-eqb}
use Rattle.std.specs.List.{list_any}
use Rattle.std.specs.Prelude.{All, filter}
use Rattle.std.proofs.lemmas.Bool.{cases_Bool, eqb-true}
use Rattle.std.proofs.lemmas.List.Elements.{All-filter, All-map, All-push, filter_passes}
use Rattle.fsa_types.specs.Rows.{IsNumbered, lives, row_of, with_row_changed, without_row}
use Rattle.fsa_model.specs.Changes.{with_change_noted}
use Rattle.fsa_model.specs.Edits.{with_file, with_link, with_stream, without_file_unless_linked, without_link}
use Rattle.fsa_model.specs.Lookups.{has_row}
use Rattle.fsa_model.specs.Volume.{File, Link, Stream, Volume}
use Rattle.fsa_model.proofs.RowLaws.{any-last, any-map, any-push, any-same, change_at, change_at-number, change_at-same, lives-last, none-all, option_cases, row_of-here}

-- ---- what is kept

-- a link that is marked passes the first test, and a stream that is marked the second; the rest is of the tree alone
pub record Over (by on : ℕ → Bool) (v : Volume) : Type 0 where
  pub marked_links : All (λ entry. entry.1.deleted ≡ true → by entry.0 ≡ true) v.links
  pub marked_streams : All (λ entry. entry.1.deleted ≡ true → on entry.0 ≡ true) v.streams
  pub files : All (λ entry. (entry.0 == 1) ≡ false → has_row (λ link. link.file == entry.0) v.links ≡ true) v.files
  pub links : All (λ entry. lives v.files entry.1.file ≡ true) v.links
  pub streams : All (λ entry. lives v.files entry.1.file ≡ true) v.streams

-- of another volume with the same files, links and streams
pub Over-same : (by on : ℕ → Bool) (v w : Volume) → w.files ≡ v.files → w.links ≡ v.links → w.streams ≡ v.streams → Over by on v → Over by on w
Over-same by on v w files links streams over = record {
  marked_links = rw links over.marked_links;
  marked_streams = rw streams over.marked_streams;
  files = rw (files, links) over.files;
  links = rw (files, links) over.links;
  streams = rw (files, streams) over.streams;
}

pub Over-noted : (by on : ℕ → Bool) (v : Volume) (link action bits : ℕ) (stream : Option ℕ) → Over by on v → Over by on (with_change_noted v link action bits stream)
Over-noted by on v link action bits stream over = elim (option_cases (row_of v.links link)) [
  | inl none ↦ rw none over
  | inr some ↦ rw some.1 (record { marked_links = over.marked_links; marked_streams = over.marked_streams; files = over.files; links = over.links; streams = over.streams })
]

-- ---- one row changed

lives-changed : {R : Type 0} (change : R → R) (rows : List (ℕ × R)) (id at : ℕ) → lives (with_row_changed change rows id) at ≡ lives rows at
lives-changed change rows id at =
    any-map (λ entry. entry.0 == at) (change_at change id) rows
    ∙ any-same (λ entry. (change_at change id entry).0 == at) (λ entry. entry.0 == at) rows (λ entry. ap (λ n. n == at) (change_at-number change id entry))

-- a file changed
pub Over-file_changed : (by on : ℕ → Bool) (v : Volume) (change : File → File) (id : ℕ) → Over by on v → Over by on (record v { files = with_row_changed change v.files id })
Over-file_changed by on v change id over = record {
  marked_links = over.marked_links;
  marked_streams = over.marked_streams;
  files = All-map (λ (entry : ℕ × File). (entry.0 == 1) ≡ false → has_row (λ link. link.file == entry.0) v.links ≡ true) (change_at change id) v.files
      (λ k d within. subst (λ (n : ℕ). (n == 1) ≡ false → has_row (λ link. link.file == n) v.links ≡ true) (sym (change_at-number change id (get_or v.files k d))) (over.files k d within));
  links = λ k d within. lives-changed change v.files id (get_or v.links k d).1.file ∙ over.links k d within;
  streams = λ k d within. lives-changed change v.files id (get_or v.streams k d).1.file ∙ over.streams k d within;
}

-- a link changed that keeps its file, and is marked only where it passes
pub Over-link_changed : (by on : ℕ → Bool) (v : Volume) (change : Link → Link) (id : ℕ) → ((row : Link) → (change row).file ≡ row.file)
    → All (λ entry. (change_at change id entry).1.deleted ≡ true → by entry.0 ≡ true) v.links → Over by on v → Over by on (record v { links = with_row_changed change v.links id })
Over-link_changed by on v change id keeps marked over = record {
  marked_links = All-map (λ (entry : ℕ × Link). entry.1.deleted ≡ true → by entry.0 ≡ true) (change_at change id) v.links
      (λ k d within. subst (λ (n : ℕ). (change_at change id (get_or v.links k d)).1.deleted ≡ true → by n ≡ true) (sym (change_at-number change id (get_or v.links k d))) (marked k d within));
  marked_streams = over.marked_streams;
  files = λ k d within other. linked-changed (get_or v.files k d).0 ∙ over.files k d within other;
  links = All-map (λ (entry : ℕ × Link). lives v.files entry.1.file ≡ true) (change_at change id) v.links
      (λ k d within. subst (λ (file : ℕ). lives v.files file ≡ true) (sym (change_at-same change id (λ (row : Link). row.file) keeps (get_or v.links k d))) (over.links k d within));
  streams = over.streams;
}
  where
    linked-changed : (file : ℕ) → has_row (λ link. link.file == file) (with_row_changed change v.links id) ≡ has_row (λ link. link.file == file) v.links
    linked-changed file =
        any-map (λ (entry : ℕ × Link). entry.1.file == file) (change_at change id) v.links
        ∙ any-same (λ (entry : ℕ × Link). (change_at change id entry).1.file == file) (λ entry. entry.1.file == file) v.links
        (λ entry. change_at-same change id (λ (row : Link). row.file == file) (λ row. ap (λ (f : ℕ). f == file) (keeps row)) entry)

-- a stream changed that keeps its file, and is marked only where it passes
pub Over-stream_changed : (by on : ℕ → Bool) (v : Volume) (change : Stream → Stream) (id : ℕ) → ((row : Stream) → (change row).file ≡ row.file)
    → All (λ entry. (change_at change id entry).1.deleted ≡ true → on entry.0 ≡ true) v.streams → Over by on v → Over by on (record v { streams = with_row_changed change v.streams id })
Over-stream_changed by on v change id keeps marked over = record {
  marked_links = over.marked_links;
  marked_streams = All-map (λ (entry : ℕ × Stream). entry.1.deleted ≡ true → on entry.0 ≡ true) (change_at change id) v.streams
      (λ k d within. subst (λ (n : ℕ). (change_at change id (get_or v.streams k d)).1.deleted ≡ true → on n ≡ true) (sym (change_at-number change id (get_or v.streams k d))) (marked k d within));
  files = over.files;
  links = over.links;
  streams = All-map (λ (entry : ℕ × Stream). lives v.files entry.1.file ≡ true) (change_at change id) v.streams
      (λ k d within. subst (λ (file : ℕ). lives v.files file ≡ true) (sym (change_at-same change id (λ (row : Stream). row.file) keeps (get_or v.streams k d))) (over.streams k d within));
}

-- ---- one row more

-- a link more, of a file that is there; the files may be more than those that have links so far by this one
pub Over-link_more : (by on : ℕ → Bool) (v : Volume) (dir : ℕ) (name : List ℕ) (file : ℕ) → lives v.files file ≡ true → Over by on v → Over by on (with_link v dir name file)
Over-link_more by on v dir name file there over = record {
  marked_links = All-push (λ (entry : ℕ × Link). entry.1.deleted ≡ true → by entry.0 ≡ true) v.links (v.last_link + 1, record { parent = dir; name = name; file = file; deleted = false }) over.marked_links (λ is. cc);
  marked_streams = over.marked_streams;
  files = λ k d within other. any-push (λ (entry : ℕ × Link). entry.1.file == (get_or v.files k d).0) v.links _ (over.files k d within other);
  links = All-push (λ (entry : ℕ × Link). lives v.files entry.1.file ≡ true) v.links (v.last_link + 1, record { parent = dir; name = name; file = file; deleted = false }) over.links there;
  streams = over.streams;
}

-- a stream more, of a file that is there
pub Over-stream_more : (by on : ℕ → Bool) (v : Volume) (file : ℕ) (name : List ℕ) → lives v.files file ≡ true → Over by on v → Over by on (with_stream v file name)
Over-stream_more by on v file name there over = record {
  marked_links = over.marked_links;
  marked_streams = All-push (λ (entry : ℕ × Stream). entry.1.deleted ≡ true → on entry.0 ≡ true) v.streams (v.last_stream + 1, record { file = file; name = name; bytes = []; deleted = false }) over.marked_streams (λ is. cc);
  files = over.files;
  links = over.links;
  streams = All-push (λ (entry : ℕ × Stream). lives v.files entry.1.file ≡ true) v.streams (v.last_stream + 1, record { file = file; name = name; bytes = []; deleted = false }) over.streams there;
}

-- a file more, with its link
lives-more : {R : Type 0} (rows more : List (ℕ × R)) (at : ℕ) → lives rows at ≡ true → lives (rows ++ more) at ≡ true
lives-more rows more at there = any-push (λ entry. entry.0 == at) rows more there

pub Over-file_more : (by on : ℕ → Bool) (v : Volume) (dir : ℕ) (name : List ℕ) (file : File) → Over by on v → Over by on (with_link (with_file v file) dir name (v.last_file + 1))
Over-file_more by on v dir name file over = record {
  marked_links = All-push (λ (entry : ℕ × Link). entry.1.deleted ≡ true → by entry.0 ≡ true) v.links new over.marked_links (λ is. cc);
  marked_streams = over.marked_streams;
  files = All-push (λ (entry : ℕ × File). (entry.0 == 1) ≡ false → has_row (λ link. link.file == entry.0) (v.links ++ new ∷ []) ≡ true) v.files (v.last_file + 1, file)
      (λ k d within other. any-push (λ (entry : ℕ × Link). entry.1.file == (get_or v.files k d).0) v.links (new ∷ []) (over.files k d within other))
      (λ other. any-last (λ (entry : ℕ × Link). entry.1.file == v.last_file + 1) v.links new (eq-eqb (v.last_file + 1) (v.last_file + 1) refl));
  links = All-push (λ (entry : ℕ × Link). lives (v.files ++ (v.last_file + 1, file) ∷ []) entry.1.file ≡ true) v.links new
      (λ k d within. lives-more v.files _ (get_or v.links k d).1.file (over.links k d within)) (lives-last v.files (v.last_file + 1) file);
  streams = λ k d within. lives-more v.files _ (get_or v.streams k d).1.file (over.streams k d within);
}
  where
    new : ℕ × Link
    new = (v.last_link + 1, record { parent = dir; name = name; file = v.last_file + 1; deleted = false })

-- ---- one row fewer

pub not-true : (b : Bool) → not b ≡ true → b ≡ false
not-true true is = cc
not-true false is = refl

any-filter_all : {X : Type 0} (p q : X → Bool) (xs : List X) → All (λ x. p x ≡ true → q x ≡ true) xs → list_any p xs ≡ true → list_any p (filter q xs) ≡ true
any-filter_all p q [] keeps some = cc
any-filter_all p q (x ∷ xs) keeps some = elim (cases_Bool (p x)) [
  | inl passes ↦ rw (keeps 0 x (omega arith) passes, passes) refl
  | inr fails ↦ (let rest : list_any p xs ≡ true = rw fails at some in
      let later : list_any p (filter q xs) ≡ true = any-filter_all p q xs (λ k d within. keeps (suc k) d (omega arith)) rest in
      elim (cases_Bool (q x)) [
        | inl stays ↦ rw (stays, fails) later
        | inr goes ↦ rw goes later
      ])
]

pub lives-without : {R : Type 0} (rows : List (ℕ × R)) (id at : ℕ) → (at == id) ≡ false → lives rows at ≡ true → lives (without_row rows id) at ≡ true
lives-without rows id at other there =
    any-filter_all (λ entry. entry.0 == at) (λ entry. not (entry.0 == id)) rows
    (λ k d within is. rw (eqb-true (get_or rows k d).0 at is, other) refl) there

-- a stream fewer
pub Over-without_stream : (by on : ℕ → Bool) (v : Volume) (stream : ℕ) → Over by on v → Over by on (record v { streams = without_row v.streams stream })
Over-without_stream by on v stream over = record {
  marked_links = over.marked_links;
  marked_streams = All-filter (λ (entry : ℕ × Stream). not (entry.0 == stream)) (λ entry. entry.1.deleted ≡ true → on entry.0 ≡ true) v.streams over.marked_streams;
  files = over.files;
  links = over.links;
  streams = All-filter (λ (entry : ℕ × Stream). not (entry.0 == stream)) (λ entry. lives v.files entry.1.file ≡ true) v.streams over.streams;
}

-- a link of another file isn't the one that goes
other-stays : (links : List (ℕ × Link)) (last link : ℕ) (row : Link) → IsNumbered links last → row_of links link ≡ Some row → (file : ℕ) → (file == row.file) ≡ false
    → All (λ entry. (entry.1.file == file) ≡ true → not (entry.0 == link) ≡ true) links
other-stays links last link row numbered is file other k d within of_file = elim (cases_Bool ((get_or links k d).0 == link)) [
  | inr differs ↦ rw differs refl
  | inl same ↦ (let here : row_of links (get_or links k d).0 ≡ Some (get_or links k d).1 = row_of-here links last k d numbered within in
      let there : Some row ≡ Some (get_or links k d).1 = sym is ∙ rw (eqb-true (get_or links k d).0 link same) at here in there_is there)
]
  where
    there_is : Some row ≡ Some (get_or links k d).1 → not ((get_or links k d).0 == link) ≡ true
    there_is equal = (let same_row : row ≡ (get_or links k d).1 = cc in
        let of_row : (row.file == file) ≡ true = rw same_row of_file in
        let same_file : row.file ≡ file = eqb-true row.file file of_row in
        absurd (let impossible : true ≡ false = sym (eq-eqb file row.file (sym same_file)) ∙ other in cc))

-- a link fewer, and with its last one its file and the file's streams
pub Over-without_link : (by on : ℕ → Bool) (v : Volume) (link : ℕ) → IsNumbered v.links v.last_link → Over by on v → Over by on (without_link v link)
Over-without_link by on v link numbered over = elim (option_cases (row_of v.links link)) [
  | inl none ↦ rw none over
  | inr some ↦ rw some.1 (by_rest some.0 some.1)
]
  where
    still_linked : (row : Link) → row_of v.links link ≡ Some row → has_row (λ l. l.file == row.file) (without_row v.links link) ≡ true → (file : ℕ)
        → has_row (λ l. l.file == file) v.links ≡ true → has_row (λ l. l.file == file) (without_row v.links link) ≡ true
    still_linked row is linked file some = elim (cases_Bool (file == row.file)) [
      | inl same ↦ rw (eqb-true file row.file same) linked
      | inr other ↦ any-filter_all (λ (entry : ℕ × Link). entry.1.file == file) (λ entry. not (entry.0 == link)) v.links (other-stays v.links v.last_link link row numbered is file other) some
    ]

    kept_streams : (row : Link) → All (λ entry. lives (without_row v.files row.file) entry.1.file ≡ true) (filter (λ (entry : ℕ × Stream). not (entry.1.file == row.file)) v.streams)
    kept_streams row k d within = lives-without v.files row.file _
        (not-true _ (filter_passes (λ (entry : ℕ × Stream). not (entry.1.file == row.file)) v.streams k d within))
        (All-filter (λ (entry : ℕ × Stream). not (entry.1.file == row.file)) (λ entry. lives v.files entry.1.file ≡ true) v.streams over.streams k d within)

    kept_files : (row : Link) → row_of v.links link ≡ Some row → All (λ entry. (entry.0 == 1) ≡ false → has_row (λ l. l.file == entry.0) (without_row v.links link) ≡ true) (without_row v.files row.file)
    kept_files row is k d within other =
        any-filter_all (λ (entry : ℕ × Link). entry.1.file == (get_or (without_row v.files row.file) k d).0) (λ entry. not (entry.0 == link)) v.links
        (other-stays v.links v.last_link link row numbered is (get_or (without_row v.files row.file) k d).0
        (not-true _ (filter_passes (λ (entry : ℕ × File). not (entry.0 == row.file)) v.files k d within)))
        (All-filter (λ (entry : ℕ × File). not (entry.0 == row.file)) (λ entry. (entry.0 == 1) ≡ false → has_row (λ l. l.file == entry.0) v.links ≡ true) v.files over.files k d within other)

    by_rest : (row : Link) → row_of v.links link ≡ Some row → Over by on (without_file_unless_linked (record v { links = without_row v.links link }) row.file)
    by_rest row is = elim (cases_Bool (has_row (λ l. l.file == row.file) (without_row v.links link))) [
      | inl linked ↦ rw linked (record {
        marked_links = All-filter (λ (entry : ℕ × Link). not (entry.0 == link)) (λ entry. entry.1.deleted ≡ true → by entry.0 ≡ true) v.links over.marked_links;
        marked_streams = over.marked_streams;
        files = λ k d within other. still_linked row is linked (get_or v.files k d).0 (over.files k d within other);
        links = All-filter (λ (entry : ℕ × Link). not (entry.0 == link)) (λ entry. lives v.files entry.1.file ≡ true) v.links over.links;
        streams = over.streams;
      })
      | inr unlinked ↦ rw unlinked (record {
        marked_links = All-filter (λ (entry : ℕ × Link). not (entry.0 == link)) (λ entry. entry.1.deleted ≡ true → by entry.0 ≡ true) v.links over.marked_links;
        marked_streams = All-filter (λ (entry : ℕ × Stream). not (entry.1.file == row.file)) (λ entry. entry.1.deleted ≡ true → on entry.0 ≡ true) v.streams over.marked_streams;
        files = kept_files row is;
        links = λ k d within. lives-without v.files row.file (get_or (without_row v.links link) k d).1.file (none-all (λ (entry : ℕ × Link). entry.1.file == row.file) (without_row v.links link) unlinked k d within)
            (All-filter (λ (entry : ℕ × Link). not (entry.0 == link)) (λ entry. lives v.files entry.1.file ≡ true) v.links over.links k d within);
        streams = kept_streams row;
      })
    ]
