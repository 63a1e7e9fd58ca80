-- What an open makes, and that it comes to what is there: files, links, empty streams and a handle.
use Rattle.std.proofs.Common.{◌≡◌, ℕ, suc, ◌+◌, ◌<◌, ◌≤◌, Bool, true, false, ◌==◌, List, [], ◌∷◌, ◌++◌, refl, ap, sym, ◌∙◌, arith, Option, Some, None, inl, inr, eq-eqb}
use Rattle.std.specs.Option.{option_map_or}
use Rattle.std.specs.Prelude.{All}
use Rattle.std.proofs.lemmas.Bool.{cases_Bool, ne_eqb}
use Rattle.fsa_types.specs.declared.oplock.Class.{Class}
use Rattle.fsa_types.specs.declared.oplock.Class.TheVariants.{Change}
use Rattle.fsa_types.specs.declared.oplock.HandleSet.{HandleSet}
use Rattle.fsa_types.specs.Rows.{row_of}
use Rattle.fsa_types.proofs.RowLemmas.{AreRising, AreRising-rest, AreRising-first}
use Rattle.fsa_model.specs.Breaks.{with_breaks}
use Rattle.fsa_model.specs.Changes.{with_change_noted}
use Rattle.fsa_model.specs.Coherence.{counts_on_reads, IsTied}
use Rattle.fsa_model.specs.Edits.{with_file, with_link, with_stream, with_handle}
use Rattle.fsa_model.specs.Lookups.{number_of}
use Rattle.fsa_model.specs.Open.{Asked, deletes_on_close, access_of, stream_name, with_open, new_file, kept_attributes, file_attributes, with_directory_made, with_file_made}
use Rattle.fsa_model.specs.Volume.{File, Stream, Handle, Volume}
use Rattle.fsa_model.proofs.CoherenceBreaks.{handles-breaks, streams-breaks}
use Rattle.fsa_model.proofs.CoherenceData.{Comes-alike}
use Rattle.fsa_model.proofs.CoherenceEdits.{row_of-more, Lives, has_living_stream-from, IsTied-with_file, IsTied-with_link, IsTied-with_stream, IsTied-with_handle}
use Rattle.fsa_model.proofs.CoherenceEnds.{counts-kept, counts-same}
use Rattle.fsa_model.proofs.CoherenceFalls.{Falls, Falls-breaks, Falls-comes, Falls-next, Falls-opens, Falls-same, Falls-untouched}
use Rattle.fsa_model.proofs.CoherenceSteps.{Comes}
use Rattle.fsa_model.proofs.CoherenceTied.{IsUntouched-same, IsUntouched-noted, IsTied-alike, IsTied-breaks, IsUntouched}

-- ---- rows

-- the row of the number that a test finds passes it
pub number_of-row : {R : Type 0} (test : R → Bool) (rows : List (ℕ × R)) (id : ℕ) → AreRising rows → number_of test rows ≡ Some id
    → (row : R) × (row_of rows id ≡ Some row) × (test row ≡ true)
number_of-row test [] id rising found = cc
number_of-row test (x ∷ rows) id rising found = elim (cases_Bool (test x.1)) [
  | inl passes ↦ (let is : Some x.0 ≡ Some id = rw passes at found in let same : x.0 ≡ id = cc in
      (x.1, rw (eq-eqb x.0 id same) refl, passes))
  | inr fails ↦ (let later : number_of test rows ≡ Some id = rw fails at found in
      let it = number_of-row test rows id (AreRising-rest x rows rising) later in
      let above : x.0 < id = number-above test rows x.0 id (AreRising-first x rows rising) later in
      (it.0, rw (ne_eqb x.0 id (λ e. absurd (omega arith))) it.1, it.2))
]
  where
    number-above : {R : Type 0} (test : R → Bool) (rows : List (ℕ × R)) (below id : ℕ) → All (λ y. below < y.0) rows → number_of test rows ≡ Some id → below < id
    number-above test [] below id above found = cc
    number-above test (x ∷ rows) below id above found = elim (cases_Bool (test x.1)) [
      | inl passes ↦ (let is : Some x.0 ≡ Some id = rw passes at found in let same : x.0 ≡ id = cc in let here : below < x.0 = above 0 x (omega arith) in omega arith)
      | inr fails ↦ number-above test rows below id (λ k d within. above (suc k) d (omega arith)) (rw fails at found)
    ]

-- the row with the next number
pub row_of-new : {R : Type 0} (rows : List (ℕ × R)) (last id : ℕ) (row : R) → All (λ e. e.0 ≤ last) rows → id ≡ last + 1 → row_of (rows ++ (last + 1, row) ∷ []) id ≡ Some row
row_of-new [] last id row given is = rw (eq-eqb (last + 1) id (sym is)) refl
row_of-new (x ∷ rows) last id row given is =
    let bound : x.0 ≤ last = given 0 x (omega arith) in
    rw (ne_eqb x.0 id (λ e. absurd (omega arith))) (row_of-new rows last id row (λ k d within. given (suc k) d (omega arith)) is)

-- a stream more, without bytes
pub bytes-more : (streams : List (ℕ × Stream)) (id at : ℕ) (row : Stream) → row.bytes ≡ []
    → option_map_or (λ r. r.bytes) (row_of (streams ++ (id, row) ∷ []) at) [] ≡ option_map_or (λ r. r.bytes) (row_of streams at) []
bytes-more [] id at row none = elim (cases_Bool (id == at)) [
  | inl here ↦ rw here none
  | inr other ↦ rw other refl
]
bytes-more (x ∷ streams) id at row none = elim (cases_Bool (x.0 == at)) [
  | inl here ↦ rw here refl
  | inr other ↦ rw other (bytes-more streams id at row none)
]

-- ---- what comes

pub Comes-next : (u v w : Volume) → Comes u v → Comes v w → Comes u w
Comes-next u v w first second = record {
  handles = λ handle row living. second.handles handle row (first.handles handle row living);
  bytes = λ stream. second.bytes stream ∙ first.bytes stream;
}

pub Comes-with_file : (v : Volume) (file : File) → Comes v (with_file v file)
Comes-with_file v file = record { handles = λ handle row living. living; bytes = λ stream. refl }

pub Comes-with_link : (v : Volume) (parent : ℕ) (name : List ℕ) (file : ℕ) → Comes v (with_link v parent name file)
Comes-with_link v parent name file = record { handles = λ handle row living. living; bytes = λ stream. refl }

pub Comes-with_stream : (v : Volume) (file : ℕ) (name : List ℕ) → Comes v (with_stream v file name)
Comes-with_stream v file name = record { handles = λ handle row living. living; bytes = λ stream. bytes-more v.streams (v.last_stream + 1) stream _ refl }

pub Comes-with_handle : (v : Volume) (handle : Handle) → Comes v (with_handle v handle)
Comes-with_handle v handle = record { handles = λ id row living. row_of-more v.handles _ id row living; bytes = λ stream. refl }

-- a volume that came, on which coherence rests, and in which all count that did
pub record Came (v w : Volume) : Type 0 where
  pub tied : IsTied w
  pub comes : Comes v w
  pub counts : (handle : ℕ) → counts_on_reads v handle ≡ true → counts_on_reads w handle ≡ true
  pub falls : Falls v w

pub Came-same : (v : Volume) → IsTied v → Came v v
Came-same v tied = record { tied = tied; comes = Comes-alike v v (IsUntouched-same v); counts = λ handle counts. counts; falls = Falls-same v }

pub Came-breaks : (v : Volume) (on : HandleSet) (kind : Class) (key : ℕ) → (kind ≡ Change → ⊥) → IsTied v → Came v (with_breaks v on kind None key)
Came-breaks v on kind key no_change tied = record {
  falls = Falls-breaks v on kind None key tied;
  counts = λ handle counts. counts-kept v on kind None key handle tied no_change counts;
  tied = IsTied-breaks v on kind None key tied;
  comes = record {
    handles = λ handle row living. rw (handles-breaks v on kind None key) living;
    bytes = λ stream. ap (λ streams. option_map_or (λ row. row.bytes) (row_of streams stream) []) (streams-breaks v on kind None key);
  };
}

pub Came-noted : (v w : Volume) (link action bits : ℕ) (stream : Option ℕ) → Came v w → Came v (with_change_noted w link action bits stream)
Came-noted v w link action bits stream came = record {
  falls = Falls-next v w _ came.falls (Falls-untouched w _ (IsUntouched-noted w link action bits stream));
  tied = IsTied-alike _ _ (IsUntouched-noted w link action bits stream) came.tied;
  comes = Comes-next _ _ _ came.comes (Comes-alike _ _ (IsUntouched-noted w link action bits stream));
  counts = λ handle counts. counts-same w (with_change_noted w link action bits stream) handle (IsUntouched.oplocks (IsUntouched-noted w link action bits stream)) ∙ came.counts handle counts;
}

-- the handle: its link and stream live
abbrev pub row_opened : Asked → ℕ → Option ℕ → Handle
row_opened asked link stream = record {
  client = asked.client;
  number = asked.number;
  link = link;
  stream = stream;
  access = access_of asked;
  share = asked.share;
  key = asked.key;
  delete_on_close = deletes_on_close asked;
  enumeration = None;
}

pub Came-open : (v w : Volume) (asked : Asked) (link : ℕ) (stream : Option ℕ) → ((s : ℕ) → stream ≡ Some s → Lives w.links w.streams link s) → Came v w → Came v (with_open w asked link stream)
Came-open v w asked link stream lives came = record {
  falls = Falls-next v w (with_open w asked link stream) came.falls
      (Falls-comes w (with_open w asked link stream) came.tied refl (Comes.handles (Comes-with_handle w (row_opened asked link stream))));
  tied = IsTied-with_handle w (row_opened asked link stream) (has_living_stream-from w.links w.streams (row_opened asked link stream) lives) came.tied;
  comes = Comes-next _ _ _ came.comes (Comes-with_handle w (row_opened asked link stream));
  counts = came.counts;
}

-- ---- what is made

-- the next file isn't the root
pub not_the_root : (v : Volume) → IsTied v → (v.last_file + 1 == 1) ≡ false
not_the_root v tied = (let given : 1 ≤ v.last_file = tied.root.given in ne_eqb (v.last_file + 1) 1 (λ e. absurd (omega arith)))

pub Came-directory : (v : Volume) (asked : Asked) (dir : ℕ) (name : List ℕ) → IsTied v → Came v (with_directory_made v asked dir name)
Came-directory v asked dir name tied =
    let file : File = new_file v asked true (kept_attributes asked.attributes) in record {
      tied = IsTied-with_link (with_file v file) dir name (v.last_file + 1) (not_the_root v tied) (IsTied-with_file v file tied);
      comes = Comes-next _ _ _ (Comes-with_file v file) (Comes-with_link (with_file v file) dir name (v.last_file + 1));
      falls = Falls-opens v (with_directory_made v asked dir name) refl refl;
      counts = λ handle counts. counts;
    }

pub Came-file : (v : Volume) (asked : Asked) (dir : ℕ) (name : List ℕ) → IsTied v → Came v (with_file_made v asked dir name)
Came-file v asked dir name tied =
    let file : File = new_file v asked false (file_attributes asked.attributes) in
    let linked : Volume = with_link (with_file v file) dir name (v.last_file + 1) in record {
      tied = IsTied-with_stream linked (v.last_file + 1) []
          (IsTied-with_link (with_file v file) dir name (v.last_file + 1) (not_the_root v tied) (IsTied-with_file v file tied));
      comes = Comes-next _ _ _ (Comes-next _ _ _ (Comes-with_file v file) (Comes-with_link (with_file v file) dir name (v.last_file + 1))) (Comes-with_stream linked (v.last_file + 1) []);
      falls = Falls-opens v (with_file_made v asked dir name) refl refl;
      counts = λ handle counts. counts;
    }

pub Came-stream : (v w : Volume) (file : ℕ) (name : List ℕ) → Came v w → Came v (with_stream w file name)
Came-stream v w file name came = record { tied = IsTied-with_stream w file name came.tied; comes = Comes-next _ _ _ came.comes (Comes-with_stream w file name); counts = came.counts; falls = Falls-next v w (with_stream w file name) came.falls (Falls-opens w (with_stream w file name) refl refl) }

-- the link and the stream of a file just made
pub Lives-new : (v : Volume) (asked : Asked) (dir : ℕ) (name : List ℕ) → IsTied v → (s : ℕ) → Some (v.last_stream + 1) ≡ Some s
    → Lives (with_file_made v asked dir name).links (with_file_made v asked dir name).streams (v.last_link + 1) s
Lives-new v asked dir name tied s is = record {
  a_link = record { parent = dir; name = name; file = v.last_file + 1; deleted = false };
  a_stream = record { file = v.last_file + 1; name = []; bytes = []; deleted = false };
  of_link = row_of-new v.links v.last_link (v.last_link + 1) _ tied.links_numbered.given refl;
  of_stream = row_of-new v.streams v.last_stream s _ tied.streams_numbered.given (let same : v.last_stream + 1 ≡ s = cc in sym same);
  one_file = refl;
}

pub Lives-named : (v : Volume) (asked : Asked) (dir : ℕ) (name : List ℕ) → IsTied v → (s : ℕ) → Some (v.last_stream + 2) ≡ Some s
    → Lives (with_stream (with_file_made v asked dir name) (v.last_file + 1) (stream_name asked.path)).links
    (with_stream (with_file_made v asked dir name) (v.last_file + 1) (stream_name asked.path)).streams (v.last_link + 1) s
Lives-named v asked dir name tied s is =
    let made : Came v (with_file_made v asked dir name) = Came-file v asked dir name tied in
    let same : v.last_stream + 2 ≡ s = cc in record {
      a_link = record { parent = dir; name = name; file = v.last_file + 1; deleted = false };
      a_stream = record { file = v.last_file + 1; name = stream_name asked.path; bytes = []; deleted = false };
      of_link = row_of-new v.links v.last_link (v.last_link + 1) _ tied.links_numbered.given refl;
      of_stream = row_of-new (with_file_made v asked dir name).streams (v.last_stream + 1) s _ made.tied.streams_numbered.given (omega arith);
      one_file = refl;
    }
