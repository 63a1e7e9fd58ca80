-- What coherence rests on is kept by each edit of links, streams and handles.
use Rattle.std.proofs.Common.{◌≡◌, ℕ, ◌+◌, ◌≤◌, Bool, true, false, ◌==◌, ◌&&◌, List, [], ◌∷◌, ◌++◌, get_or, refl, ap, sym, ◌∙◌, arith, Some, None, inl, inr, eq-eqb}
use Rattle.std.specs.Option.{option_map_or}
use Rattle.std.specs.Prelude.{filter, option_map, All, if◌then◌else◌}
use Rattle.std.proofs.lemmas.Bool.{cases_Bool, eqb-true, false≢true}
use Rattle.std.proofs.lemmas.List.Elements.{All-push, All-map}
use Rattle.fsa_types.specs.Rows.{row_of, with_row_changed}
use Rattle.fsa_model.specs.Coherence.{is_under_link, has_living_stream, IsTied}
use Rattle.fsa_model.specs.Edits.{with_file, with_link, with_stream, with_handle}
use Rattle.fsa_model.specs.Sound.{has_its_key}
use Rattle.fsa_model.specs.Volume.{File, Link, Stream, Handle, Oplock, Volume}
use Rattle.fsa_model.proofs.CoherenceTied.{IsUntouched}
use Rattle.fsa_model.proofs.RowLaws.{option_cases, IsNumbered-push, IsNumbered-change, any-push, any-map, any-same, change_at, change_at-same, change_at-number}

-- ---- rows

-- the row of a number: where others stand behind it, where it is kept, and where a row is changed
pub row_of-more : {R : Type 0} (rows more : List (ℕ × R)) (id : ℕ) (row : R) → row_of rows id ≡ Some row → row_of (rows ++ more) id ≡ Some row
row_of-more [] more id row found = cc
row_of-more (x ∷ rows) more id row found = elim (cases_Bool (x.0 == id)) [
  | inl here ↦ rw here (rw here at found)
  | inr other ↦ rw other (row_of-more rows more id row (rw other at found))
]

pub row_of-kept : {R : Type 0} (keep : ℕ × R → Bool) (rows : List (ℕ × R)) (id : ℕ) (row : R) → row_of rows id ≡ Some row → keep (id, row) ≡ true
    → row_of (filter keep rows) id ≡ Some row
row_of-kept keep [] id row found kept = cc
row_of-kept {R} keep (x ∷ rows) id row found kept = elim (cases_Bool (x.0 == id)) [
  | inl here ↦ (let is : Some x.1 ≡ Some row = rw here at found in let same : x.1 ≡ row = cc in
      let so : x.0 ≡ id = eqb-true x.0 id here in
      let stays : keep x ≡ true = ap (λ (n : ℕ). keep (n, x.1)) so ∙ ap (λ (r : R). keep (id, r)) same ∙ kept in
      rw (stays, here, same) refl)
  | inr other ↦ (let rest = row_of-kept keep rows id row (rw other at found) kept in elim (cases_Bool (keep x)) [
    | inl stays ↦ rw (stays, other) rest
    | inr goes ↦ rw goes rest
  ])
]

pub row_of-filter_none : {R : Type 0} (keep : ℕ × R → Bool) (rows : List (ℕ × R)) (id : ℕ) → row_of rows id ≡ None → row_of (filter keep rows) id ≡ None
row_of-filter_none keep [] id none = none
row_of-filter_none keep (x ∷ rows) id none = elim (cases_Bool (x.0 == id)) [
  | inl here ↦ (let impossible : Some x.1 ≡ None = rw here at none in cc)
  | inr other ↦ (let rest = row_of-filter_none keep rows id (rw other at none) in elim (cases_Bool (keep x)) [
    | inl stays ↦ rw (stays, other) rest
    | inr goes ↦ rw goes rest
  ])
]

pub row_of-changed : {R : Type 0} (change : R → R) (rows : List (ℕ × R)) (at id : ℕ)
    → row_of (with_row_changed change rows at) id ≡ option_map (λ row. if id == at then change row else row) (row_of rows id)
row_of-changed change [] at id = refl
row_of-changed change (x ∷ rows) at id = elim (cases_Bool (x.0 == id)) [
  | inl here ↦ (let so : x.0 ≡ id = eqb-true x.0 id here in elim (cases_Bool (x.0 == at)) [
    | inl changed ↦ (let it_is : (id == at) ≡ true = rw so at changed in rw (changed, here, it_is) refl)
    | inr kept ↦ (let it_is : (id == at) ≡ false = rw so at kept in rw (kept, here, it_is) refl)
  ])
  | inr other ↦ elim (cases_Bool (x.0 == at)) [
    | inl changed ↦ rw (other, changed, other) (row_of-changed change rows at id)
    | inr kept ↦ rw (other, kept, other) (row_of-changed change rows at id)
  ]
]

-- ---- a handle whose stream and link live

-- its stream and its link, which are of one file
pub record Lives (links : List (ℕ × Link)) (streams : List (ℕ × Stream)) (link stream : ℕ) : Type 0 where
  pub a_link : Link
  pub a_stream : Stream
  pub of_link : row_of links link ≡ Some a_link
  pub of_stream : row_of streams stream ≡ Some a_stream
  pub one_file : a_link.file ≡ a_stream.file

pub Lives-from : (links : List (ℕ × Link)) (streams : List (ℕ × Stream)) (handle : Handle) (stream : ℕ) → handle.stream ≡ Some stream
    → has_living_stream links streams handle ≡ true → Lives links streams handle.link stream
Lives-from links streams handle stream has living =
    let of_it : option_map_or (is_under_link links handle.link) (row_of streams stream) false ≡ true = rw has at living in
    elim (option_cases (row_of streams stream)) [
      | inl none ↦ absurd (false≢true (rw none at of_it))
      | inr s ↦ (let under : is_under_link links handle.link s.0 ≡ true = rw s.1 at of_it in
          elim (option_cases (row_of links handle.link)) [
            | inl none ↦ absurd (false≢true (rw none at under))
            | inr l ↦ record { a_link = l.0; a_stream = s.0; of_link = l.1; of_stream = s.1; one_file = eqb-true l.0.file s.0.file (rw l.1 at under) }
          ])
    ]

pub has_living_stream-from : (links : List (ℕ × Link)) (streams : List (ℕ × Stream)) (handle : Handle)
    → ((stream : ℕ) → handle.stream ≡ Some stream → Lives links streams handle.link stream) → has_living_stream links streams handle ≡ true
has_living_stream-from links streams handle lives = elim (option_cases handle.stream) [
  | inl none ↦ rw none refl
  | inr some ↦ (let it : Lives links streams handle.link some.0 = lives some.0 some.1 in
      rw (some.1, it.of_stream, it.of_link) (eq-eqb it.a_link.file it.a_stream.file it.one_file))
]

-- where each handle's stream and link still live, they are tied
pub All-living : (links links' : List (ℕ × Link)) (streams streams' : List (ℕ × Stream)) (handles : List (ℕ × Handle))
    → All (λ entry. has_living_stream links streams entry.1 ≡ true) handles
    → All (λ entry. (stream : ℕ) → entry.1.stream ≡ Some stream → Lives links streams entry.1.link stream → Lives links' streams' entry.1.link stream) handles
    → All (λ entry. has_living_stream links' streams' entry.1 ≡ true) handles
All-living links links' streams streams' handles living still k d within =
    has_living_stream-from links' streams' (get_or handles k d).1 (λ stream has.
    still k d within stream has (Lives-from links streams (get_or handles k d).1 stream has (living k d within)))

-- ---- more rows

pub IsTied-with_file : (v : Volume) (file : File) → IsTied v → IsTied (with_file v file)
IsTied-with_file v file tied = record {
  oplocks_differ = tied.oplocks_differ;
  oplocks_have_keys = tied.oplocks_have_keys;
  streams_live = tied.streams_live;
  links_numbered = tied.links_numbered;
  streams_numbered = tied.streams_numbered;
  root = record {
    is_there = any-push _ v.files _ tied.root.is_there;
    has_no_link = tied.root.has_no_link;
    given = let one : 1 ≤ v.last_file = tied.root.given in omega arith;
  };
}

pub IsTied-with_link : (v : Volume) (parent : ℕ) (name : List ℕ) (file : ℕ) → (file == 1) ≡ false → IsTied v → IsTied (with_link v parent name file)
IsTied-with_link v parent name file not_root tied =
    let row : Link = record { parent = parent; name = name; file = file; deleted = false } in record {
      oplocks_differ = tied.oplocks_differ;
      oplocks_have_keys = tied.oplocks_have_keys;
      streams_live = All-living v.links (with_link v parent name file).links v.streams v.streams v.handles tied.streams_live (λ k d within stream has lives. record {
        a_link = lives.a_link;
        a_stream = lives.a_stream;
        of_link = row_of-more v.links _ _ lives.a_link lives.of_link;
        of_stream = lives.of_stream;
        one_file = lives.one_file;
      });
      links_numbered = IsNumbered-push v.links v.last_link row tied.links_numbered;
      streams_numbered = tied.streams_numbered;
      root = record {
        is_there = tied.root.is_there;
        has_no_link = All-push (λ entry. (entry.1.file == 1) ≡ false) v.links (v.last_link + 1, row) tied.root.has_no_link not_root;
        given = tied.root.given;
      };
    }

pub IsTied-with_stream : (v : Volume) (file : ℕ) (name : List ℕ) → IsTied v → IsTied (with_stream v file name)
IsTied-with_stream v file name tied =
    let row : Stream = record { file = file; name = name; bytes = []; deleted = false } in record {
      oplocks_differ = tied.oplocks_differ;
      oplocks_have_keys = tied.oplocks_have_keys;
      streams_live = All-living v.links v.links v.streams (with_stream v file name).streams v.handles tied.streams_live (λ k d within stream has lives. record {
        a_link = lives.a_link;
        a_stream = lives.a_stream;
        of_link = lives.of_link;
        of_stream = row_of-more v.streams _ _ lives.a_stream lives.of_stream;
        one_file = lives.one_file;
      });
      links_numbered = tied.links_numbered;
      streams_numbered = IsNumbered-push v.streams v.last_stream row tied.streams_numbered;
      root = tied.root;
    }

-- the oplock's handle has its key also among more handles
has_its_key-more : (handles more : List (ℕ × Handle)) (oplock : Oplock) → has_its_key handles oplock ≡ true → has_its_key (handles ++ more) oplock ≡ true
has_its_key-more handles more oplock keyed = elim (option_cases (row_of handles oplock.handle)) [
  | inl none ↦ absurd (false≢true (rw none at keyed))
  | inr some ↦ rw (row_of-more handles more oplock.handle some.0 some.1) (rw some.1 at keyed)
]

pub IsTied-with_handle : (v : Volume) (handle : Handle) → has_living_stream v.links v.streams handle ≡ true → IsTied v → IsTied (with_handle v handle)
IsTied-with_handle v handle living tied = record {
  oplocks_differ = tied.oplocks_differ;
  oplocks_have_keys = λ k d within. has_its_key-more v.handles _ (get_or v.oplocks k d) (tied.oplocks_have_keys k d within);
  streams_live = All-push (λ entry. has_living_stream v.links v.streams entry.1 ≡ true) v.handles (v.last_handle + 1, handle) tied.streams_live living;
  links_numbered = tied.links_numbered;
  streams_numbered = tied.streams_numbered;
  root = tied.root;
}

-- ---- rows changed

pub IsTied-stream_changed : (v : Volume) (change : Stream → Stream) (at : ℕ) → ((row : Stream) → (change row).file ≡ row.file) → IsTied v
    → IsTied (record v { streams = with_row_changed change v.streams at })
IsTied-stream_changed v change at same tied = record {
  oplocks_differ = tied.oplocks_differ;
  oplocks_have_keys = tied.oplocks_have_keys;
  streams_live = All-living v.links v.links v.streams (with_row_changed change v.streams at) v.handles tied.streams_live (λ k d within stream has lives. record {
    a_link = lives.a_link;
    a_stream = if stream == at then change lives.a_stream else lives.a_stream;
    of_link = lives.of_link;
    of_stream = row_of-changed change v.streams at stream ∙ rw lives.of_stream refl;
    one_file = lives.one_file ∙ elim (cases_Bool (stream == at)) [ inl here ↦ rw here (sym (same lives.a_stream)) | inr other ↦ rw other refl ];
  });
  links_numbered = tied.links_numbered;
  streams_numbered = IsNumbered-change change v.streams v.last_stream at tied.streams_numbered;
  root = tied.root;
}

pub IsTied-link_changed : (v : Volume) (change : Link → Link) (at : ℕ) → ((row : Link) → (change row).file ≡ row.file) → IsTied v
    → IsTied (record v { links = with_row_changed change v.links at })
IsTied-link_changed v change at same tied = record {
  oplocks_differ = tied.oplocks_differ;
  oplocks_have_keys = tied.oplocks_have_keys;
  streams_live = All-living v.links (with_row_changed change v.links at) v.streams v.streams v.handles tied.streams_live (λ k d within stream has lives.
      let link : ℕ = (get_or v.handles k d).1.link in record {
        a_link = if link == at then change lives.a_link else lives.a_link;
        a_stream = lives.a_stream;
        of_link = row_of-changed change v.links at link ∙ rw lives.of_link refl;
        of_stream = lives.of_stream;
        one_file = elim (cases_Bool (link == at)) [ inl here ↦ rw here (same lives.a_link ∙ lives.one_file) | inr other ↦ rw other lives.one_file ];
      });
  links_numbered = IsNumbered-change change v.links v.last_link at tied.links_numbered;
  streams_numbered = tied.streams_numbered;
  root = record {
    is_there = tied.root.is_there;
    has_no_link = All-map (λ entry. (entry.1.file == 1) ≡ false) (change_at change at) v.links (λ k d within.
        ap (λ file. file == 1) (change_at-same change at (λ row. row.file) same (get_or v.links k d)) ∙ tied.root.has_no_link k d within);
    given = tied.root.given;
  };
}

-- a file changed that stays what it is
pub IsUntouched-file_changed : (v : Volume) (change : File → File) (file : ℕ) → ((row : File) → (change row).directory ≡ row.directory)
    → IsUntouched v (record v { files = with_row_changed change v.files file })
IsUntouched-file_changed v change file same = record {
  oplocks = refl;
  handles = refl;
  links = refl;
  streams = refl;
  last_link = refl;
  last_stream = refl;
  root = λ root. record {
    is_there = any-map (λ e. e.0 == 1 && e.1.directory) (change_at change file) v.files
        ∙ any-same (λ e. (change_at change file e).0 == 1 && (change_at change file e).1.directory) (λ e. e.0 == 1 && e.1.directory) v.files
        (λ e. rw (change_at-number change file e, change_at-same change file (λ row. row.directory) same e) refl)
        ∙ root.is_there;
    has_no_link = root.has_no_link;
    given = root.given;
  };
}
