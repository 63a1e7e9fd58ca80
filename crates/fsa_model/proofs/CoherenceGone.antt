-- What coherence rests on is kept where a handle goes, and where a stream or a link goes of which there
-- is no handle.
use Rattle.std.proofs.Common.{◌≡◌, ℕ, Bool, true, false, ◌==◌, ◌&&◌, not, List, [], ◌∷◌, get_or, refl, sym, ◌∙◌, arith, Some, inl, inr}
use Rattle.std.specs.Prelude.{filter, All}
use Rattle.std.proofs.lemmas.Bool.{cases_Bool, eqb-true, false≢true, and_parts, not_from_false}
use Rattle.std.proofs.lemmas.List.Elements.{All-filter}
use Rattle.std.proofs.lemmas.List.Elements.{filter_passes}
use Rattle.std.proofs.lemmas.List.Kept.{AllPairs-filter}
use Rattle.fsa_types.specs.Rows.{row_of, without_row}
use Rattle.fsa_model.specs.Coherence.{has_living_stream, IsTied}
use Rattle.fsa_model.specs.Edits.{without_handle, without_file, without_file_unless_linked, without_stream, without_link}
use Rattle.fsa_model.specs.Lookups.{has_row, is_open_on, is_open_by}
use Rattle.fsa_model.specs.Sound.{has_its_key}
use Rattle.fsa_model.specs.Volume.{Link, Handle, Oplock, Volume}
use Rattle.fsa_model.proofs.CoherenceEdits.{row_of-kept, All-living}
use Rattle.fsa_model.proofs.RowLaws.{option_cases, IsNumbered-filter, none-all, row_of-all, any-filter, eqb-swap}

pub IsTied-without_handle : (v : Volume) (handle : ℕ) → IsTied v → IsTied (without_handle v handle)
IsTied-without_handle v handle tied = record {
  oplocks_differ = AllPairs-filter (λ a b. (a.handle == b.handle) ≡ false) of_others v.oplocks tied.oplocks_differ;
  oplocks_have_keys = λ k d within. keyed (get_or (filter of_others v.oplocks) k d)
      (All-filter of_others (λ o. has_its_key v.handles o ≡ true) v.oplocks tied.oplocks_have_keys k d within)
      (filter_passes of_others v.oplocks k d within);
  streams_live = All-filter (λ entry. not (entry.0 == handle)) (λ entry. has_living_stream v.links v.streams entry.1 ≡ true) v.handles tied.streams_live;
  links_numbered = tied.links_numbered;
  streams_numbered = tied.streams_numbered;
  root = tied.root;
}
  where
    of_others : Oplock → Bool
    of_others o = not (o.handle == handle)

    keyed : (o : Oplock) → has_its_key v.handles o ≡ true → of_others o ≡ true → has_its_key (without_row v.handles handle) o ≡ true
    keyed o has other = elim (option_cases (row_of v.handles o.handle)) [
      | inl none ↦ absurd (false≢true (rw none at has))
      | inr some ↦ rw (row_of-kept (λ entry. not (entry.0 == handle)) v.handles o.handle some.0 some.1 other) (rw some.1 at has)
    ]

-- a handle of the list has a stream and a link that aren't those of which there is no handle
other_stream : (handles : List (ℕ × Handle)) (gone : ℕ) → has_row (is_open_on gone) handles ≡ false
    → All (λ entry. (stream : ℕ) → entry.1.stream ≡ Some stream → (stream == gone) ≡ false) handles
other_stream handles gone none k d within stream has =
    let closed : is_open_on gone (get_or handles k d).1 ≡ false = none-all (λ entry. is_open_on gone entry.1) handles none k d within in
    (rw has at closed)

pub IsTied-without_stream : (v : Volume) (stream : ℕ) → has_row (is_open_on stream) v.handles ≡ false → IsTied v → IsTied (without_stream v stream)
IsTied-without_stream v gone none tied = record {
  oplocks_differ = tied.oplocks_differ;
  oplocks_have_keys = tied.oplocks_have_keys;
  streams_live = All-living v.links v.links v.streams (without_row v.streams gone) v.handles tied.streams_live (λ k d within stream has lives. record {
    a_link = lives.a_link;
    a_stream = lives.a_stream;
    of_link = lives.of_link;
    of_stream = row_of-kept (λ entry. not (entry.0 == gone)) v.streams stream lives.a_stream lives.of_stream
        (not_from_false _ (other_stream v.handles gone none k d within stream has));
    one_file = lives.one_file;
  });
  links_numbered = tied.links_numbered;
  streams_numbered = IsNumbered-filter (λ entry. not (entry.0 == gone)) v.streams v.last_stream tied.streams_numbered;
  root = tied.root;
}

pub IsTied-without_row : (v : Volume) (link : ℕ) → has_row (is_open_by link) v.handles ≡ false → IsTied v → IsTied (record v { links = without_row v.links link })
IsTied-without_row v gone none tied = record {
  oplocks_differ = tied.oplocks_differ;
  oplocks_have_keys = tied.oplocks_have_keys;
  streams_live = All-living v.links (without_row v.links gone) v.streams v.streams v.handles tied.streams_live (λ k d within stream has lives. record {
    a_link = lives.a_link;
    a_stream = lives.a_stream;
    of_link = row_of-kept (λ entry. not (entry.0 == gone)) v.links (get_or v.handles k d).1.link lives.a_link lives.of_link
        (not_from_false _ (none-all (λ entry. is_open_by gone entry.1) v.handles none k d within));
    of_stream = lives.of_stream;
    one_file = lives.one_file;
  });
  links_numbered = IsNumbered-filter (λ entry. not (entry.0 == gone)) v.links v.last_link tied.links_numbered;
  streams_numbered = tied.streams_numbered;
  root = record {
    is_there = tied.root.is_there;
    has_no_link = All-filter (λ entry. not (entry.0 == gone)) (λ entry. (entry.1.file == 1) ≡ false) v.links tied.root.has_no_link;
    given = tied.root.given;
  };
}

-- a link that lives is of another file than one without links
pub other_file : (links : List (ℕ × Link)) (id file : ℕ) (row : Link) → row_of links id ≡ Some row → has_row (λ link. link.file == file) links ≡ false
    → (row.file == file) ≡ false
other_file [] id file row found none = cc
other_file (x ∷ links) id file row found none = elim (cases_Bool (x.0 == id)) [
  | inl here ↦ (let is : Some x.1 ≡ Some row = rw here at found in let same : x.1 ≡ row = cc in
      rw (← same) (none-all (λ entry. entry.1.file == file) (x ∷ links) none 0 x (omega arith)))
  | inr other ↦ elim (cases_Bool (x.1.file == file)) [
    | inl of_it ↦ absurd (false≢true (sym none ∙ rw of_it refl))
    | inr of_another ↦ other_file links id file row (rw other at found) (rw of_another at none)
  ]
]

IsTied-without_file : (v : Volume) (file : ℕ) → (file == 1) ≡ false → has_row (λ link. link.file == file) v.links ≡ false → IsTied v → IsTied (without_file v file)
IsTied-without_file v file not_root none tied = record {
  oplocks_differ = tied.oplocks_differ;
  oplocks_have_keys = tied.oplocks_have_keys;
  streams_live = All-living v.links v.links v.streams (filter (λ entry. not (entry.1.file == file)) v.streams) v.handles tied.streams_live (λ k d within stream has lives. record {
    a_link = lives.a_link;
    a_stream = lives.a_stream;
    of_link = lives.of_link;
    of_stream = row_of-kept (λ entry. not (entry.1.file == file)) v.streams stream lives.a_stream lives.of_stream
        (rw (← lives.one_file) (not_from_false _ (other_file v.links (get_or v.handles k d).1.link file lives.a_link lives.of_link none)));
    one_file = lives.one_file;
  });
  links_numbered = tied.links_numbered;
  streams_numbered = IsNumbered-filter (λ entry. not (entry.1.file == file)) v.streams v.last_stream tied.streams_numbered;
  root = record {
    is_there = any-filter (λ e. e.0 == 1 && e.1.directory) (λ e. not (e.0 == file)) v.files (λ e here.
        let is : e.0 ≡ 1 = eqb-true e.0 1 (and_parts _ _ here).0 in
        not_from_false _ (rw is (eqb-swap 1 file ∙ not_root))) tied.root.is_there;
    has_no_link = tied.root.has_no_link;
    given = tied.root.given;
  };
}

IsTied-unless_linked : (v : Volume) (file : ℕ) → (file == 1) ≡ false → IsTied v → IsTied (without_file_unless_linked v file)
IsTied-unless_linked v file not_root tied = elim (cases_Bool (has_row (λ link. link.file == file) v.links)) [
  | inl linked ↦ rw linked tied
  | inr none ↦ rw none (IsTied-without_file v file not_root none tied)
]

pub IsTied-without_link : (v : Volume) (link : ℕ) → has_row (is_open_by link) v.handles ≡ false → IsTied v → IsTied (without_link v link)
IsTied-without_link v link none tied = elim (option_cases (row_of v.links link)) [
  | inl missing ↦ rw missing tied
  | inr some ↦ rw some.1 (IsTied-unless_linked (record v { links = without_row v.links link }) some.0.file (row_of-all (λ l. (l.file == 1) ≡ false) v.links link some.0 some.1 tied.root.has_no_link) (IsTied-without_row v link none tied))
]
