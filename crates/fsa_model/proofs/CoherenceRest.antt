-- Ways that the verbs to come take: breaks that leave reads counted on, links that come, move and go,
-- and an enumeration that goes on.
use Rattle.std.proofs.Common.{◌≡◌, ℕ, Bool, true, false, ◌==◌, List, [], get_or, refl, ap, sym, ◌∙◌, Option, Some, None, inl, inr}
use Rattle.std.specs.Option.{option_map_or}
use Rattle.std.specs.Prelude.{option_map, if◌then◌else◌}
use Rattle.std.proofs.lemmas.Bool.{cases_Bool, false≢true}
use Rattle.std.proofs.lemmas.List.Elements.{All-map}
use Rattle.fsa_types.specs.declared.oplock.Class.{Class}
use Rattle.fsa_types.specs.declared.oplock.Class.TheVariants.{Change}
use Rattle.fsa_types.specs.declared.oplock.HandleSet.{HandleSet}
use Rattle.fsa_types.specs.Rows.{row_of, with_row_changed}
use Rattle.fsa_model.specs.Breaks.{with_breaks}
use Rattle.fsa_model.specs.Coherence.{bytes_under, has_living_stream, IsTied}
use Rattle.fsa_model.specs.Edits.{with_link, with_link_moved, with_link_marked, with_cursor, with_limit, with_watch}
use Rattle.fsa_model.specs.Lookups.{bytes_of}
use Rattle.fsa_model.specs.Sound.{has_its_key}
use Rattle.fsa_model.specs.Volume.{Handle, Cursor, Oplock, Volume}
use Rattle.fsa_model.proofs.CoherenceBreaks.{handles-breaks, streams-breaks}
use Rattle.fsa_model.proofs.CoherenceClose.{Left}
use Rattle.fsa_model.proofs.CoherenceEdits.{row_of-changed, IsTied-with_link, IsTied-link_changed}
use Rattle.fsa_model.proofs.CoherenceEnds.{counts-kept}
use Rattle.fsa_model.proofs.CoherenceFalls.{Falls, Falls-breaks, Falls-opens, FallsTo-same}
use Rattle.fsa_model.proofs.CoherenceLaws.{held_in}
use Rattle.fsa_model.proofs.CoherenceSteps.{KeepsBytes}
use Rattle.fsa_model.proofs.CoherenceTied.{IsTied-breaks, IsUntouched}
use Rattle.fsa_model.proofs.RowLaws.{option_cases, change_at, change_at-same}

-- ---- names

-- the breaks of a clash, of a change of names and of a read
pub Left-breaks : (v : Volume) (on : HandleSet) (kind : Class) (acting : Option ℕ) (key : ℕ) → (kind ≡ Change → ⊥) → IsTied v → Left v (with_breaks v on kind acting key)
Left-breaks v on kind acting key no_change tied = record {
  falls = Falls-breaks v on kind acting key tied;
  tied = IsTied-breaks v on kind acting key tied;
  leaves = record {
    handles = λ handle row living. rw (handles-breaks v on kind acting key) at living;
    bytes = λ handle row stream living has. ap (λ streams. option_map_or (λ row. row.bytes) (row_of streams stream) []) (streams-breaks v on kind acting key);
  };
  counts = λ handle counts. inl (counts-kept v on kind acting key handle tied no_change counts);
}

-- a link more, of another file than the root
pub Left-with_link : (v : Volume) (parent : ℕ) (name : List ℕ) (file : ℕ) → (file == 1) ≡ false → IsTied v → Left v (with_link v parent name file)
Left-with_link v parent name file not_root tied = record {
  falls = Falls-opens v (with_link v parent name file) refl refl;
  tied = IsTied-with_link v parent name file not_root tied;
  leaves = record { handles = λ handle row living. living; bytes = λ handle row stream living has. refl };
  counts = λ handle counts. inl counts;
}

-- a link that moves, and one that is marked or not
pub Left-link_moved : (v : Volume) (link parent : ℕ) (name : List ℕ) → IsTied v → Left v (with_link_moved v link parent name)
Left-link_moved v link parent name tied = record {
  falls = Falls-opens v (with_link_moved v link parent name) refl refl;
  tied = IsTied-link_changed v (λ row. record row { parent = parent; name = name }) link (λ row. refl) tied;
  leaves = record { handles = λ handle row living. living; bytes = λ handle row stream living has. refl };
  counts = λ handle counts. inl counts;
}

pub Left-link_set : (v : Volume) (link : ℕ) (deleted : Bool) → IsTied v → Left v (with_link_marked v link deleted)
Left-link_set v link deleted tied = record {
  falls = Falls-opens v (with_link_marked v link deleted) refl refl;
  tied = IsTied-link_changed v (λ row. record row { deleted = deleted }) link (λ row. refl) tied;
  leaves = record { handles = λ handle row living. living; bytes = λ handle row stream living has. refl };
  counts = λ handle counts. inl counts;
}

-- ---- watches and limits

pub IsUntouched-with_watch : (v : Volume) (handle filter : ℕ) (tree : Bool) (from : ℕ) → IsUntouched v (with_watch v handle filter tree from)
IsUntouched-with_watch v handle filter whole from = record { oplocks = refl; handles = refl; links = refl; streams = refl; last_link = refl; last_stream = refl; root = λ root. root }

pub IsUntouched-with_limit : (v : Volume) (sid limit : ℕ) → IsUntouched v (with_limit v sid limit)
IsUntouched-with_limit v sid limit = record { oplocks = refl; handles = refl; links = refl; streams = refl; last_link = refl; last_stream = refl; root = λ root. root }

-- ---- an enumeration

-- the row of a handle, with the enumeration where it is the one that goes on
abbrev row_moved : ℕ → List ℕ → Cursor → ℕ → Handle → Handle
row_moved at expression cursor handle row = if handle == at then record row { enumeration = Some (expression, cursor) } else row

row_moved-same : {X : Type 0} (of : Handle → X) (at : ℕ) (expression : List ℕ) (cursor : Cursor) (handle : ℕ) (row : Handle)
    → ((r : Handle) → of (record r { enumeration = Some (expression, cursor) }) ≡ of r) → of (row_moved at expression cursor handle row) ≡ of row
row_moved-same of at expression cursor handle row same = elim (cases_Bool (handle == at)) [ inl here ↦ rw here (same row) | inr other ↦ rw other refl ]

pub IsTied-with_cursor : (v : Volume) (handle : ℕ) (expression : List ℕ) (cursor : Cursor) → IsTied v → IsTied (with_cursor v handle expression cursor)
IsTied-with_cursor v handle expression cursor tied = record {
  oplocks_differ = tied.oplocks_differ;
  oplocks_have_keys = λ k d within. keyed (get_or v.oplocks k d) (tied.oplocks_have_keys k d within);
  streams_live = All-map (λ entry. has_living_stream v.links v.streams entry.1 ≡ true) (change_at moved handle) v.handles
      (λ k d within. change_at-same moved handle (has_living_stream v.links v.streams) (λ row. refl) (get_or v.handles k d) ∙ tied.streams_live k d within);
  links_numbered = tied.links_numbered;
  streams_numbered = tied.streams_numbered;
  root = tied.root;
}
  where
    moved : Handle → Handle
    moved row = record row { enumeration = Some (expression, cursor) }

    keyed : (oplock : Oplock) → has_its_key v.handles oplock ≡ true → has_its_key (with_row_changed moved v.handles handle) oplock ≡ true
    keyed oplock has = ap (λ found. option_map_or (λ (row : Handle). row.key == oplock.key) found false) (row_of-changed moved v.handles handle oplock.handle)
        ∙ elim (option_cases (row_of v.handles oplock.handle)) [
          | inl none ↦ absurd (false≢true (rw none at has))
          | inr some ↦ rw some.1 (ap (λ key. key == oplock.key) (row_moved-same (λ row. row.key) handle expression cursor oplock.handle some.0 (λ row. refl)) ∙ (rw some.1 at has))
        ]

-- it changes no bytes, and ends no counting
pub KeepsBytes-with_cursor : (v : Volume) (acting : Option ℕ) (key handle : ℕ) (expression : List ℕ) (cursor : Cursor) → KeepsBytes v acting key (with_cursor v handle expression cursor)
KeepsBytes-with_cursor v acting key handle expression cursor = record {
  reads_stay = λ of before after other. same of;
  writers_are_done = λ stream differ. absurd (differ refl);
}
  where
    same : (of : ℕ) → bytes_under (with_cursor v handle expression cursor) of ≡ bytes_under v of
    same of = ap (λ found. option_map_or (λ (row : Handle). option_map_or (bytes_of v) row.stream []) found []) (row_of-changed (λ (row : Handle). record row { enumeration = Some (expression, cursor) }) v.handles handle of)
        ∙ elim (option_cases (row_of v.handles of)) [
          | inl none ↦ rw none refl
          | inr some ↦ rw some.1 (ap (λ stream. option_map_or (bytes_of v) stream []) (row_moved-same (λ row. row.stream) handle expression cursor of some.0 (λ row. refl)))
        ]

pub Falls-with_cursor : (v : Volume) (handle : ℕ) (expression : List ℕ) (cursor : Cursor) → Falls v (with_cursor v handle expression cursor)
Falls-with_cursor v at expression cursor = record {
  held = λ handle. FallsTo-same (held_in v.oplocks handle);
  rows = λ handle row living reads. elim (option_cases (row_of v.handles handle)) [
    | inl none ↦ (let impossible : None ≡ Some row = rw none at (sym (moved handle) ∙ living) in cc)
    | inr some ↦ (let same : Some (row_moved at expression cursor handle some.0) ≡ Some row = rw some.1 at (sym (moved handle) ∙ living) in
        let is : row_moved at expression cursor handle some.0 ≡ row = cc in
        record {
          before = some.0;
          living = some.1;
          stream = sym (row_moved-same (λ (r : Handle). r.stream) at expression cursor handle some.0 (λ r. refl)) ∙ ap (λ (r : Handle). r.stream) is;
          key = sym (row_moved-same (λ (r : Handle). r.key) at expression cursor handle some.0 (λ r. refl)) ∙ ap (λ (r : Handle). r.key) is;
        })
  ];
}
  where
    moved : (handle : ℕ) → row_of (with_cursor v at expression cursor).handles handle ≡ option_map (row_moved at expression cursor handle) (row_of v.handles handle)
    moved handle = row_of-changed (λ (row : Handle). record row { enumeration = Some (expression, cursor) }) v.handles at handle
