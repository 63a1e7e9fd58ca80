-- An open is coherent.
use Rattle.std.proofs.Common.{◌≡◌, ℕ, ◌+◌, Bool, true, false, ◌==◌, ◌&&◌, ◌||◌, not, List, [], length, refl, ap, sym, ◌∙◌, Option, Some, None, inl, inr}
use Rattle.std.specs.Int.RustNames.{bit_or}
use Rattle.std.specs.Prelude.{is_some}
use Rattle.std.proofs.lemmas.Bool.{eqb-true, false≢true, and_parts}
use Rattle.fsa_types.specs.Access.{has_any}
use Rattle.fsa_types.specs.declared.oplock.Class.{Class}
use Rattle.fsa_types.specs.declared.oplock.Class.TheVariants.{Clash, Change, ReadOpen}
use Rattle.fsa_types.specs.declared.oplock.HandleSet.{HandleSet}
use Rattle.fsa_types.specs.declared.oplock.HandleSet.TheVariants as set
use Rattle.fsa_types.specs.declared.reply.Action.{Action}
use Rattle.fsa_types.specs.declared.status.Status.{Status}
use Rattle.fsa_types.specs.Paths.{path_fault, components, rest_of}
use Rattle.fsa_types.specs.Rows.{row_of, with_row_changed}
use Rattle.fsa_types.specs.StreamBytes.{cut}
use Rattle.fsa_model.specs.Breaks.{with_breaks}
use Rattle.fsa_model.specs.Coherence.{IsTied}
use Rattle.fsa_model.specs.Edits.{with_stream}
use Rattle.fsa_model.specs.Grant.{oplock_of}
use Rattle.fsa_model.specs.Lookups.{child_of, stream_of, is_stream_named, is_directory, clashes_on, attributes_of, is_marked}
use Rattle.fsa_model.specs.Open.{open_waits, Asked, wants_directory, deletes_on_close, opens_point, overwrites, only_opens, only_makes, access_of, is_invalid, wants_no_right, lacks_delete, has_stream_part, stream_name, names_stream, grants, is_readonly, uncovers, stopped, with_open, opens, opened, with_directory_made, with_file_made, make_directory, make_file, parent_right, create_missing, clashed, wants_more, completes_if_oplocked, open_existing, with_overwrite_noted, with_overwritten, overwrite_existing, open_granted, open_directory, replacing_right, open_stream, create_on_stream, create_stream, create_in_file, is_other_kind, asks_for_file, create_there, create_found, create_by_link, create_named, create_walked, create_at, try_create}
use Rattle.fsa_model.specs.Volume as volume
use Rattle.fsa_model.specs.Volume.{File, Link, Stream, Handle, Oplock, Volume}
use Rattle.fsa_model.specs.Walk.{Walked, Reached, Barred, Diverted, point_of, walk, last_name}
use Rattle.fsa_model.proofs.CoherenceBreaks.{handles-breaks, links-breaks, streams-breaks}
use Rattle.fsa_model.proofs.CoherenceComes.{number_of-row, row_of-new, Came, Came-same, Came-breaks, Came-noted, Came-open, Came-directory, Came-file, Came-stream, Lives-new, Lives-named}
use Rattle.fsa_model.proofs.CoherenceData.{broken-as, Behaves, Behaves-if, Behaves-option, Behaves-done, Behaves-refused, Behaves-held, Changes-stream, IsUntouched-basic}
use Rattle.fsa_model.proofs.CoherenceEdits.{row_of-more, Lives, IsTied-stream_changed}
use Rattle.fsa_model.proofs.CoherenceEnds.{ends-gone_on, counts-same, Gone, HasTold, Awaits}
use Rattle.fsa_model.proofs.CoherenceFalls.{Falls-breaks, Falls-comes, Falls-next}
use Rattle.fsa_model.proofs.CoherenceSteps.{KeepsBytes-comes, Changes, KeepsBytes-changes, oplock-lives, counting-lives}
use Rattle.fsa_model.proofs.CoherenceTied.{IsUntouched-same, IsUntouched-noted, IsTied-alike, IsTied-breaks, IsUntouched}
use Rattle.fsa_model.proofs.RowLaws.{option_cases}

-- an open that came
Behaves-opens : (v w : Volume) (key : ℕ) (why : Status) (done : Action) → IsTied v → Came v w → Behaves v None key (opens w why done)
Behaves-opens v w key why done tied came = record {
  tied = came.tied;
  falls = came.falls;
  coherent = KeepsBytes-comes v w None key tied came.comes;
  ends = λ handle before after. absurd (false≢true (sym after ∙ came.counts handle before));
}

-- a reparse point in the way
Behaves-stopped : (v : Volume) (key file : ℕ) (rest : List ℕ) → IsTied v → Behaves v None key (stopped v file rest)
unfolding stopped
Behaves-stopped v key file rest tied =
    Behaves-option (point_of v file) _ _ (λ point is. Behaves-done v _ _ _ tied (IsUntouched-same v)) (Behaves-refused v _ _ _ tied)

-- ---- the last name is missing

Behaves-make_directory : (v : Volume) (asked : Asked) (key dir : ℕ) (name : List ℕ) → IsTied v → Behaves v None key (make_directory v asked dir name)
unfolding make_directory
Behaves-make_directory v asked key dir name tied =
    Behaves-opens v _ key _ _ tied (Came-noted v _ _ 1 0x2 None (Came-open v (with_directory_made v asked dir name) asked (v.last_link + 1) None (λ s is. cc) (Came-directory v asked dir name tied)))

Behaves-make_file : (v : Volume) (asked : Asked) (key dir : ℕ) (name : List ℕ) → IsTied v → Behaves v None key (make_file v asked dir name)
unfolding make_file
Behaves-make_file v asked key dir name tied =
    Behaves-if (names_stream asked.path) _ _
    (λ named. Behaves-opens v _ key _ _ tied (Came-noted v _ _ 6 0x200 (Some (v.last_stream + 2)) (Came-noted v _ _ 1 0x1 None
    (Came-open v (with_stream (with_file_made v asked dir name) (v.last_file + 1) (stream_name asked.path)) asked (v.last_link + 1) (Some (v.last_stream + 2)) (Lives-named v asked dir name tied)
    (Came-stream v (with_file_made v asked dir name) (v.last_file + 1) (stream_name asked.path) (Came-file v asked dir name tied))))))
    (λ unnamed. Behaves-opens v _ key _ _ tied (Came-noted v _ _ 1 0x1 None
    (Came-open v (with_file_made v asked dir name) asked (v.last_link + 1) (Some (v.last_stream + 1)) (Lives-new v asked dir name tied) (Came-file v asked dir name tied))))

Behaves-create_missing : (v : Volume) (asked : Asked) (key dir : ℕ) (name : List ℕ) → IsTied v → Behaves v None key (create_missing v asked dir name)
unfolding create_missing
Behaves-create_missing v asked key dir name tied =
    Behaves-if (only_opens asked.disposition) _ _ (λ is. Behaves-refused v _ _ _ tied)
    (λ isnt. Behaves-if (deletes_on_close asked && has_any asked.attributes 0x1) _ _ (λ is. Behaves-refused v _ _ _ tied)
    (λ isnt. Behaves-if (not (grants v dir asked.client (parent_right asked))) _ _ (λ is. Behaves-refused v _ _ _ tied)
    (λ isnt. Behaves-if (wants_directory asked) _ _ (λ is. Behaves-make_directory v asked key dir name tied)
    (λ isnt. Behaves-make_file v asked key dir name tied))))

-- ---- it is there

Behaves-clashed : (v : Volume) (on : HandleSet) (key : ℕ) → IsTied v → Behaves v None key (clashed v on key)
unfolding clashed
Behaves-clashed v on key tied =
    Behaves-if (open_waits v on Clash key) _ _ (λ is. Behaves-held v on Clash None key tied)
    (λ isnt. (let came : Came v (with_breaks v on Clash None key) = Came-breaks v on Clash key (λ is. cc) tied in record {
      tied = came.tied;
      falls = came.falls;
      coherent = KeepsBytes-comes v (with_breaks v on Clash None key) None key tied came.comes;
      ends = λ handle before after. absurd (false≢true (sym after ∙ came.counts handle before));
    }))

-- breaks leave links and streams
Lives-breaks : (v : Volume) (on : HandleSet) (kind : Class) (key link s : ℕ) → Lives v.links v.streams link s
    → Lives (with_breaks v on kind None key).links (with_breaks v on kind None key).streams link s
Lives-breaks v on kind key link s lives = rw (links-breaks v on kind None key, streams-breaks v on kind None key) lives

Behaves-opened : (v w : Volume) (asked : Asked) (link : ℕ) (stream : Option ℕ) (why : Status) (done : Action) → IsTied v → Came v w
    → ((s : ℕ) → stream ≡ Some s → Lives w.links w.streams link s) → Behaves v None asked.key (opened w asked link stream why done)
Behaves-opened v w asked link stream why done tied came lives = Behaves-opens v (with_open w asked link stream) asked.key why done tied (Came-open v w asked link stream lives came)

Behaves-open_existing : (v : Volume) (asked : Asked) (link : ℕ) (stream : Option ℕ) (on : HandleSet) → IsTied v
    → ((s : ℕ) → stream ≡ Some s → Lives v.links v.streams link s) → Behaves v None asked.key (open_existing v asked link stream on)
unfolding open_existing
Behaves-open_existing v asked link stream on tied lives =
    Behaves-if (not (wants_more asked)) _ _ (λ is. Behaves-opened v v asked link stream _ _ tied (Came-same v tied) lives)
    (λ isnt. Behaves-if (not (open_waits v on ReadOpen asked.key)) _ _
    (λ is. Behaves-opened v _ asked link stream _ _ tied (Came-breaks v on ReadOpen asked.key (λ is. cc) tied) (λ s of_it. Lives-breaks v on ReadOpen asked.key link s (lives s of_it)))
    (λ isnt. Behaves-if (completes_if_oplocked asked) _ _
    (λ is. Behaves-opened v _ asked link stream _ _ tied (Came-breaks v on ReadOpen asked.key (λ is. cc) tied) (λ s of_it. Lives-breaks v on ReadOpen asked.key link s (lives s of_it)))
    (λ isnt. Behaves-held v on ReadOpen None asked.key tied)))

IsUntouched-overwrite_noted : (v : Volume) (link stream : ℕ) (named : Bool) → IsUntouched v (with_overwrite_noted v link stream named)
IsUntouched-overwrite_noted v link stream true = IsUntouched-noted v link 8 0xC00 (Some stream)
IsUntouched-overwrite_noted v link stream false = IsUntouched-noted v link 3 0x1C None

some_none : {X : Type 0} {o : Option X} {x : X} → o ≡ Some x → o ≡ None → ⊥
some_none some none = (let so = sym some ∙ none in cc)

-- once the breaks have been: a handle more, and then the stream cut
Changes-overwritten : (u : Volume) (asked : Asked) (link file stream : ℕ) → IsTied u
    → Changes u (with_overwritten (with_open u asked link (Some stream)) asked link file stream) stream
Changes-overwritten u asked link file stream tied =
    let o : Volume = with_open u asked link (Some stream) in
    let n : Volume = with_overwrite_noted o link stream (names_stream asked.path) in
    let cut_here : volume.Stream → volume.Stream = λ row. record row { bytes = cut row.bytes 0 } in
    let c : Volume = record n { streams = with_row_changed cut_here n.streams stream } in
    let w : Volume = with_overwritten o asked link file stream in
    let later : Changes o w stream = Changes-stream o n w cut_here stream (IsUntouched-overwrite_noted o link stream (names_stream asked.path))
    (IsUntouched-basic c _ _ _ _ _ _) in
    record {
      oplocks = later.oplocks;
      handles = λ handle row living. later.handles handle row (row_of-more u.handles _ handle row living);
      new = λ handle row living. elim (later.new handle row living) [
        | inl opened ↦ elim (option_cases (row_of u.handles handle)) [
          | inl none ↦ inr (elim (option_cases (oplock_of u handle)) [
            | inl nothing ↦ nothing
            | inr some ↦ (let it = oplock-lives u handle some.0 tied some.1 in absurd (some_none it.1 none))
          ])
          | inr old ↦ (let more : row_of o.handles handle ≡ Some old.0 = row_of-more u.handles _ handle old.0 old.1 in
              let same : Some old.0 ≡ Some row = sym more ∙ opened in inl (old.1 ∙ same))
        ]
        | inr none ↦ inr none
      ];
      others = later.others;
    }

Behaves-overwrite_existing : (v : Volume) (asked : Asked) (link file stream : ℕ) → IsTied v → Lives v.links v.streams link stream
    → Behaves v None asked.key (overwrite_existing v asked link file stream)
unfolding overwrite_existing
Behaves-overwrite_existing v asked link file stream tied lives =
    Behaves-if (open_waits v (set.Stream stream) Change asked.key) _ _ (λ is. Behaves-held v (set.Stream stream) Change None asked.key tied)
    (λ isnt. (let u : Volume = with_breaks v (set.Stream stream) Change None asked.key in
    let broken : IsTied u = IsTied-breaks v (set.Stream stream) Change None asked.key tied in
    let o : Volume = with_open u asked link (Some stream) in
    let came : Came u o = Came-open u u asked link (Some stream) (λ s of_it. let same : stream ≡ s = cc in rw (← same) (Lives-breaks v (set.Stream stream) Change asked.key link stream lives)) (Came-same u broken) in
    let n : Volume = with_overwrite_noted o link stream (names_stream asked.path) in
    let cut_here : volume.Stream → volume.Stream = λ row. record row { bytes = cut row.bytes 0 } in
    let c : Volume = record n { streams = with_row_changed cut_here n.streams stream } in
    record {
      tied = IsTied-alike c _ (IsUntouched-basic c _ _ _ _ _ _) (IsTied-stream_changed n cut_here stream (λ row. refl)
          (IsTied-alike o n (IsUntouched-overwrite_noted o link stream (names_stream asked.path)) came.tied));
      coherent = KeepsBytes-changes v _ None asked.key stream tied isnt (Changes-overwritten u asked link file stream broken);
      falls = Falls-next v u (with_overwritten o asked link file stream) (Falls-breaks v (set.Stream stream) Change None asked.key tied)
          (Falls-comes u (with_overwritten o asked link file stream) broken (Changes.oplocks (Changes-overwritten u asked link file stream broken)) (Changes.handles (Changes-overwritten u asked link file stream broken)));
      ends = λ handle before after. elim (ends-gone_on v (set.Stream stream) Change None asked.key tied isnt handle before
          (sym (counts-same u (with_overwritten o asked link file stream) handle (Changes.oplocks (Changes-overwritten u asked link file stream broken))) ∙ after)) [
            | Gone none ↦ absurd (some_none (counting-lives v handle tied before).1 (ap (λ (rows : List (ℕ × Handle)). row_of rows handle) (sym (handles-breaks v (set.Stream stream) Change None asked.key)) ∙ none))
            | HasTold oplock broken_by told ↦ HasTold oplock (broken-as v u (with_overwritten o asked link file stream) None asked.key handle oplock (Changes.oplocks (Changes-overwritten u asked link file stream broken)) broken_by) told
            | Awaits oplock broken_by awaits ↦ cc
          ];
    }))

-- the link of a file, or the root, which is a directory
abbrev HasLink : Volume → ℕ → ℕ → Type 0
HasLink v link file = is_directory v.files file ≡ false → (row : Link) × (row_of v.links link ≡ Some row) × (row.file ≡ file)

Behaves-open_granted : (v : Volume) (asked : Asked) (link : ℕ) → IsTied v → Behaves v None asked.key (open_granted v asked link)
unfolding open_granted
Behaves-open_granted v asked link tied =
    Behaves-if (clashes_on v (set.Link link) (access_of asked) asked.share) _ _ (λ is. Behaves-clashed v (set.Link link) asked.key tied)
    (λ isnt. Behaves-open_existing v asked link None (set.Link link) tied (λ s is. cc))

Behaves-open_directory : (v : Volume) (asked : Asked) (link file : ℕ) → IsTied v → Behaves v None asked.key (open_directory v asked link file)
unfolding open_directory
Behaves-open_directory v asked link file tied =
    Behaves-if (not (grants v file asked.client (access_of asked))) _ _ (λ is. Behaves-refused v _ _ _ tied)
    (λ isnt. Behaves-if (deletes_on_close asked && (link == 0 || is_readonly v file)) _ _ (λ is. Behaves-refused v _ _ _ tied)
    (λ isnt. Behaves-open_granted v asked link tied))

Behaves-open_stream : (v : Volume) (asked : Asked) (link file stream : ℕ) → IsTied v → Lives v.links v.streams link stream
    → Behaves v None asked.key (open_stream v asked link file stream)
unfolding open_stream
Behaves-open_stream v asked link file stream tied lives =
    Behaves-if (clashes_on v (set.Stream stream) (access_of asked) asked.share) _ _ (λ is. Behaves-clashed v (set.Stream stream) asked.key tied)
    (λ isnt. Behaves-if (overwrites asked.disposition) _ _ (λ is. Behaves-overwrite_existing v asked link file stream tied lives)
    (λ isnt. Behaves-open_existing v asked link (Some stream) (set.Stream stream) tied (λ s of_it. let same : stream ≡ s = cc in rw (← same) lives)))

Behaves-create_on_stream : (v : Volume) (asked : Asked) (link file stream : ℕ) → IsTied v → Lives v.links v.streams link stream
    → Behaves v None asked.key (create_on_stream v asked link file stream)
unfolding create_on_stream
Behaves-create_on_stream v asked link file stream tied lives =
    Behaves-if (names_stream asked.path && is_marked v stream) _ _ (λ is. Behaves-refused v _ _ _ tied)
    (λ isnt. Behaves-if (names_stream asked.path && only_makes asked.disposition) _ _ (λ is. Behaves-refused v _ _ _ tied)
    (λ isnt. Behaves-if (not (grants v file asked.client (bit_or (access_of asked) (replacing_right asked.disposition)))) _ _ (λ is. Behaves-refused v _ _ _ tied)
    (λ isnt. Behaves-if (is_readonly v file && (has_any (access_of asked) 0x6 || overwrites asked.disposition)) _ _ (λ is. Behaves-refused v _ _ _ tied)
    (λ isnt. Behaves-if (is_readonly v file && deletes_on_close asked) _ _ (λ is. Behaves-refused v _ _ _ tied)
    (λ isnt. Behaves-if (overwrites asked.disposition && uncovers (attributes_of v file) asked.attributes) _ _ (λ is. Behaves-refused v _ _ _ tied)
    (λ isnt. Behaves-open_stream v asked link file stream tied lives))))))

Behaves-create_stream : (v : Volume) (asked : Asked) (link file : ℕ) (row : Link) → IsTied v → row_of v.links link ≡ Some row → row.file ≡ file
    → Behaves v None asked.key (create_stream v asked link file)
unfolding create_stream
Behaves-create_stream v asked link file row tied found of_it =
    Behaves-if (only_opens asked.disposition) _ _ (λ is. Behaves-refused v _ _ _ tied)
    (λ isnt. Behaves-if (not (grants v file asked.client (bit_or (access_of asked) 0x2))) _ _ (λ is. Behaves-refused v _ _ _ tied)
    (λ isnt. Behaves-if (is_readonly v file) _ _ (λ is. Behaves-refused v _ _ _ tied)
    (λ isnt. Behaves-opens v _ asked.key _ _ tied (Came-noted v _ _ 6 0x200 (Some (v.last_stream + 1))
    (Came-open v (with_stream v file (stream_name asked.path)) asked link (Some (v.last_stream + 1)) (λ s is. let same : v.last_stream + 1 ≡ s = cc in record {
      a_link = row;
      a_stream = record { file = file; name = stream_name asked.path; bytes = []; deleted = false };
      of_link = found;
      of_stream = row_of-new v.streams v.last_stream s _ tied.streams_numbered.given (sym same);
      one_file = of_it;
    }) (Came-stream v v file (stream_name asked.path) (Came-same v tied)))))))

Behaves-create_in_file : (v : Volume) (asked : Asked) (link file : ℕ) (row : Link) → IsTied v → row_of v.links link ≡ Some row → row.file ≡ file
    → Behaves v None asked.key (create_in_file v asked link file)
unfolding create_in_file
Behaves-create_in_file v asked link file row tied found of_it =
    Behaves-option (stream_of v file (stream_name asked.path)) _ _
    (λ stream is. (let it = number_of-row (is_stream_named v.table file (stream_name asked.path)) v.streams stream tied.streams_numbered.rising is in
    Behaves-create_on_stream v asked link file stream tied (record {
      a_link = row;
      a_stream = it.0;
      of_link = found;
      of_stream = it.1;
      one_file = of_it ∙ sym (eqb-true it.0.file file (and_parts _ _ it.2).0);
    })))
    (Behaves-create_stream v asked link file row tied found of_it)

Behaves-create_there : (v : Volume) (asked : Asked) (link file : ℕ) → IsTied v → HasLink v link file → Behaves v None asked.key (create_there v asked link file)
unfolding create_there
Behaves-create_there v asked link file tied has =
    Behaves-if (only_makes asked.disposition && not (names_stream asked.path)) _ _ (λ is. Behaves-refused v _ _ _ tied)
    (λ isnt. Behaves-if (is_other_kind asked (is_directory v.files file)) _ _ (λ is. Behaves-refused v _ _ _ tied)
    (λ isnt. Behaves-if (is_directory v.files file && asks_for_file asked) _ _ (λ is. Behaves-refused v _ _ _ tied)
    (λ isnt. Behaves-if (is_directory v.files file) _ _ (λ is. Behaves-open_directory v asked link file tied)
    (λ a_file. (let it = has a_file in Behaves-create_in_file v asked link file it.0 tied it.1 it.2)))))

Behaves-create_found : (v : Volume) (asked : Asked) (link file : ℕ) → IsTied v → HasLink v link file → Behaves v None asked.key (create_found v asked link file)
unfolding create_found
Behaves-create_found v asked link file tied has =
    Behaves-if (is_some (point_of v file) && not (opens_point asked)) _ _ (λ is. Behaves-stopped v asked.key file [] tied)
    (λ isnt. Behaves-create_there v asked link file tied has)

Behaves-create_by_link : (v : Volume) (asked : Asked) (link : ℕ) → IsTied v → Behaves v None asked.key (create_by_link v asked link)
unfolding create_by_link
Behaves-create_by_link v asked link tied =
    Behaves-option (row_of v.links link) _ _
    (λ row found. Behaves-if row.deleted _ _ (λ is. Behaves-refused v _ _ _ tied) (λ isnt. Behaves-create_found v asked link row.file tied (λ a_file. (row, found, refl))))
    (Behaves-refused v _ _ _ tied)

Behaves-create_named : (v : Volume) (asked : Asked) (dir : ℕ) (name : List ℕ) → IsTied v → Behaves v None asked.key (create_named v asked dir name)
unfolding create_named
Behaves-create_named v asked dir name tied =
    Behaves-option (child_of v dir name) _ _ (λ link is. Behaves-create_by_link v asked link tied) (Behaves-create_missing v asked asked.key dir name tied)

Behaves-create_walked : (v : Volume) (asked : Asked) (walked : Walked) → IsTied v → Behaves v None asked.key (create_walked v asked walked)
unfolding create_walked
Behaves-create_walked v asked (Reached dir) tied =
    Behaves-if (length (components asked.path) == 0) _ _
    (λ is. Behaves-create_found v asked 0 1 tied (λ a_file. absurd (false≢true (sym a_file ∙ tied.root.is_there))))
    (λ isnt. Behaves-create_named v asked dir (last_name (components asked.path)) tied)
Behaves-create_walked v asked (Barred why) tied = Behaves-refused v _ _ _ tied
Behaves-create_walked v asked (Diverted file next) tied = Behaves-stopped v asked.key file (rest_of asked.path next) tied

Behaves-create_at : (v : Volume) (asked : Asked) → IsTied v → Behaves v None asked.key (create_at v asked)
unfolding create_at
Behaves-create_at v asked tied =
    Behaves-if (has_stream_part asked.path && wants_directory asked) _ _ (λ is. Behaves-refused v _ _ _ tied)
    (λ isnt. Behaves-create_walked v asked (walk v (components asked.path)) tied)

pub Behaves-create : (v : Volume) (asked : Asked) → IsTied v → Behaves v None asked.key (try_create v asked)
unfolding try_create
Behaves-create v asked tied =
    Behaves-if (is_invalid asked) _ _ (λ is. Behaves-refused v _ _ _ tied)
    (λ isnt. Behaves-if (wants_no_right asked) _ _ (λ is. Behaves-refused v _ _ _ tied)
    (λ isnt. Behaves-if (lacks_delete asked) _ _ (λ is. Behaves-refused v _ _ _ tied)
    (λ isnt. Behaves-if (is_some (path_fault asked.path)) _ _ (λ is. Behaves-refused v _ _ _ tied)
    (λ isnt. Behaves-create_at v asked tied))))
