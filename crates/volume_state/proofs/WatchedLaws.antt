-- What is known of the watches: what each change of a volume leaves of it, and what it tells of pending calls.
use Rattle.std.proofs.Common.{◌≡◌, ℕ, suc, Bool, true, false, not, List, [], ◌∷◌, ◌++◌, length, get_or, refl, ap, sym, subst, ◌∙◌, arith, inl, inr, ◌⊎◌, Option, Some, None, All}
use Rattle.std.specs.Prelude.{◌==◌, ◌&&◌, ◌||◌, find, filter, fold, map, is_some, option_map, IfSome}
use Rattle.std.specs.List.{list_any}
use Rattle.std.specs.Borrow.{Bor}
use Rattle.std.specs.Option.{option_copied, option_map_or}
use Rattle.std.proofs.lemmas.Bool.{cases_Bool, and_from, and_parts, eq-eqb, eqb-true, false≢true}
use Rattle.std.proofs.lemmas.List.Elements.{All-cons, All-filter, All-map, All-push}
use Rattle.fsa_types.specs.Rows.{lives, row_of, with_row_changed, without_row}
use Rattle.fsa_types.specs.OplockLists.{effect_on}
use Rattle.fsa_types.specs.Oplocks.{Effect, Stays, Ends, Begins, Lowers}
use Rattle.fsa_types.specs.declared.oplock.Class.{Class}
use Rattle.fsa_types.specs.declared.oplock.HandleSet.{HandleSet}
use Rattle.fsa_types.specs.declared.request.Level.{Level}
use Rattle.fsa_types.specs.declared.request.Level.TheVariants.{Nil}
use Rattle.fsa_types.specs.declared.request.Request.TheVariants.{Notify}
use Rattle.fsa_types.specs.declared.request.Call.{Call}
use Rattle.fsa_types.specs.declared.request.What.{What}
use Rattle.fsa_types.specs.declared.request.What.TheVariants.{Ask}
use Rattle.fsa_types.specs.declared.reply.Blocker.{Blocker}
use Rattle.fsa_types.specs.declared.status.Status.TheVariants.{OplockSwitchedToNewHandle}
use Rattle.fsa_model.specs.Breaks.{chosen, with_breaks, with_effect, with_oplocks, with_told, with_told_by}
use Rattle.fsa_model.specs.Close.{names}
use Rattle.fsa_model.specs.Edits.{is_call, without_oplock}
use Rattle.fsa_model.specs.Grant.{switched, with_call_ended, with_granted, with_switched}
use Rattle.fsa_model.specs.Lookups.{file_of_link, has_row}
use Rattle.fsa_model.specs.Sound.{is_of_living, is_stream_of_link}
use Rattle.fsa_model.specs.Volume.{Change, Handle, Link, Oplock, Pending, Stream, Volume, Watch}
use Rattle.fsa_model.specs.Waiting.{is_notify_of, is_notify_on}
use Rattle.fsa_model.specs.Watching.{begun_at, dir_of, due, watch_of}
use Rattle.fsa_model.proofs.RowLaws.{any-weaker, change_at, change_at-same, find-all, find-map, find-none, found-all, lives-found, none-all, option_cases, option_map-none, or_right}
use Rattle.notify_queue.specs.Due.{asks_for_last, due_of}
use Rattle.notify_queue.proofs.QuietLaws.{quiet-end, quiet-more}
use Rattle.volume_breaks.specs.CallIndex.{is_first_naming, is_naming}
use Rattle.volume_state.proofs.HandleLaws.{no-least}
use Rattle.volume_state.proofs.OpenLaws.{find-passes}
use Rattle.volume_state.specs.Watches.{AreWatched, IsOfHandle, IsWatched, asked_by, asking, row_begun, row_noted, watch_of_row}
use Rattle.volume_state.specs.declared.watch_row.WatchRow.{WatchRow}

-- ---- the watches that the rows are of

map-map_same : {X Y : Type 0} (view : X → Y) (change : X → X) (xs : List X) → ((x : X) → view (change x) ≡ view x) → map view (map change xs) ≡ map view xs
map-map_same view change [] same = refl
map-map_same view change (x ∷ xs) same = rw (same x) (ap (λ rest. view x ∷ rest) (map-map_same view change xs same))

noted-watch : (changes : List Change) (pending : List (ℕ × Pending)) (row : WatchRow) → watch_of_row (row_noted changes pending row) ≡ watch_of_row row
noted-watch changes pending row =
    elim (cases_Bool (row.due || not (asks_for_last (asking row) changes))) [ inl stays ↦ rw stays refl | inr is ↦ rw is refl ]

pub watches-noted : (changes : List Change) (pending : List (ℕ × Pending)) (rows : List WatchRow) → map watch_of_row (map (row_noted changes pending) rows) ≡ map watch_of_row rows
watches-noted changes pending rows = map-map_same watch_of_row (row_noted changes pending) rows (noted-watch changes pending)

asked-watch : (client : ℕ) (what : What) (row : WatchRow) → watch_of_row (asked_by client what row) ≡ watch_of_row row
asked-watch client what row =
    elim (cases_Bool (not (row.client == client) || not (is_notify_of row.number what))) [ inl stays ↦ rw stays refl | inr is ↦ rw is refl ]

pub watches-asked : (client : ℕ) (what : What) (rows : List WatchRow) → map watch_of_row (map (asked_by client what) rows) ≡ map watch_of_row rows
watches-asked client what rows = map-map_same watch_of_row (asked_by client what) rows (asked-watch client what)

pub watches-begun : (handle place : ℕ) (rows : List WatchRow) → map watch_of_row (map (row_begun handle place) rows) ≡ map (begun_at handle place) (map watch_of_row rows)
watches-begun handle place [] = refl
watches-begun handle place (row ∷ rows) = elim (cases_Bool (row.handle == handle)) [
  | inl here ↦ rw here (ap (λ (rest : List Watch). record (watch_of_row row) { from = place } ∷ rest) (watches-begun handle place rows))
  | inr other ↦ rw other (ap (λ (rest : List Watch). watch_of_row row ∷ rest) (watches-begun handle place rows))
]

pub watches-dropped : (handle : ℕ) (rows : List WatchRow) → map watch_of_row (filter (λ row. not (row.handle == handle)) rows) ≡ filter (λ watch. not (watch.handle == handle)) (map watch_of_row rows)
watches-dropped handle [] = refl
watches-dropped handle (row ∷ rows) = elim (cases_Bool (row.handle == handle)) [
  | inl here ↦ rw here (watches-dropped handle rows)
  | inr other ↦ rw other (ap (λ (rest : List Watch). watch_of_row row ∷ rest) (watches-dropped handle rows))
]

pub watches-added : (rows : List WatchRow) (row : WatchRow) → map watch_of_row (rows ++ row ∷ []) ≡ map watch_of_row rows ++ watch_of_row row ∷ []
watches-added [] row = refl
watches-added (first ∷ rows) row = ap (λ (rest : List Watch). watch_of_row first ∷ rest) (watches-added rows row)

pub watches-found : (rows : List WatchRow) (handle : ℕ) → find (λ watch. watch.handle == handle) (map watch_of_row rows) ≡ option_map watch_of_row (find (λ row. row.handle == handle) rows)
watches-found rows handle = find-map (λ (watch : Watch). watch.handle == handle) watch_of_row rows

-- ---- what is known of them, where handles or links change

-- a handle that is there still is so with its link, its client and its number
abbrev KeepHandles : List (ℕ × Handle) → List (ℕ × Handle) → ℕ → Type 0
KeepHandles old new id = (handle : Handle) → row_of old id ≡ Some handle
    → (kept : Handle) × (row_of new id ≡ Some kept) × (kept.client ≡ handle.client) × (kept.number ≡ handle.number) × (kept.link ≡ handle.link)

of-handles : (old new : List (ℕ × Handle)) (links : List (ℕ × Link)) (row : WatchRow) → KeepHandles old new row.handle → IsOfHandle old links row → IsOfHandle new links row
of-handles old new links row keep is =
    let kept = keep is.handle is.found in
    record {
      handle = kept.0;
      found = kept.1;
      client = kept.2 ∙ is.client;
      number = kept.3 ∙ is.number;
      dir = rw kept.4 is.dir;
    }

watched-handles : (old new : List (ℕ × Handle)) (links : List (ℕ × Link)) (changes : List Change) (pending : List (ℕ × Pending)) (rows : List WatchRow)
    → All (λ row. KeepHandles old new row.handle) rows → AreWatched old links changes pending rows → AreWatched new links changes pending rows
watched-handles old new links changes pending rows keep are = λ k d within.
    let is = are k d within in
    record { of_handle = of-handles old new links (get_or rows k d) (keep k d within) is.of_handle; quiet = is.quiet; unasked = is.unasked }

row_of-more : {R : Type 0} (rows more : List (ℕ × R)) (id : ℕ) (row : R) → row_of rows id ≡ Some row → row_of (rows ++ more) id ≡ Some row
row_of-more [] more id row found = cc
row_of-more (x ∷ rows) more id row found = elim (cases_Bool (x.0 == id)) [
  | inl here ↦ rw here (rw here at found)
  | inr other ↦ rw other (row_of-more rows more id row (rw other at found))
]

pub watched-handle_added : (handles more : List (ℕ × Handle)) (links : List (ℕ × Link)) (changes : List Change) (pending : List (ℕ × Pending)) (rows : List WatchRow)
    → AreWatched handles links changes pending rows → AreWatched (handles ++ more) links changes pending rows
watched-handle_added handles more links changes pending rows are =
    watched-handles handles (handles ++ more) links changes pending rows
    (λ k d within. λ handle found. (handle, row_of-more handles more (get_or rows k d).handle handle found, refl, refl, refl)) are

row_of-changed : {R : Type 0} (change : R → R) (rows : List (ℕ × R)) (at id : ℕ) (row : R) → row_of rows id ≡ Some row
    → (row_of (with_row_changed change rows at) id ≡ Some row) ⊎ (row_of (with_row_changed change rows at) id ≡ Some (change row))
row_of-changed change [] at id row found = cc
row_of-changed {R} change (x ∷ rows) at id row found = elim (cases_Bool (x.0 == id)) [
  | inl here ↦ (let is : Some x.1 ≡ Some row = rw here at found in
      let same : x.1 ≡ row = cc in
      elim (cases_Bool (x.0 == at)) [
        | inl changed ↦ inr (rw (changed, here) (ap (λ (r : R). Some (change r)) same))
        | inr kept ↦ inl (rw (kept, here) (ap (λ (r : R). Some r) same))
      ])
  | inr other ↦ (let rest = row_of-changed change rows at id row (rw other at found) in
      elim (cases_Bool (x.0 == at)) [
        | inl changed ↦ rw (changed, other) rest
        | inr kept ↦ rw (kept, other) rest
      ])
]

pub watched-handle_changed : (change : Handle → Handle) (handles : List (ℕ × Handle)) (at : ℕ) (links : List (ℕ × Link)) (changes : List Change) (pending : List (ℕ × Pending)) (rows : List WatchRow)
    → ((handle : Handle) → ((change handle).client ≡ handle.client) × ((change handle).number ≡ handle.number) × ((change handle).link ≡ handle.link))
    → AreWatched handles links changes pending rows → AreWatched (with_row_changed change handles at) links changes pending rows
watched-handle_changed change handles at links changes pending rows same are =
    watched-handles handles (with_row_changed change handles at) links changes pending rows
    (λ k d within. λ handle found. elim (row_of-changed change handles at (get_or rows k d).handle handle found) [
      | inl kept ↦ (handle, kept, refl, refl, refl)
      | inr changed ↦ (change handle, changed, (same handle).0, (same handle).1, (same handle).2)
    ]) are

row_of-others : {R : Type 0} (rows : List (ℕ × R)) (gone id : ℕ) → (id == gone) ≡ false → row_of (without_row rows gone) id ≡ row_of rows id
row_of-others [] gone id other = refl
row_of-others (x ∷ rows) gone id other = elim (cases_Bool (x.0 == gone)) [
  | inl goes ↦ (let is = eqb-true x.0 gone goes in
      let isnt : (x.0 == id) ≡ false = elim (cases_Bool (x.0 == id)) [
        | inl same ↦ (let both : id ≡ gone = sym (eqb-true x.0 id same) ∙ is in absurd (false≢true (sym other ∙ eq-eqb id gone both)))
        | inr differs ↦ differs
      ] in
      rw (goes, isnt) (row_of-others rows gone id other))
  | inr stays ↦ elim (cases_Bool (x.0 == id)) [
    | inl here ↦ rw (stays, here) refl
    | inr apart ↦ rw (stays, apart) (row_of-others rows gone id other)
  ]
]

-- those of other handles than the one that goes
pub watched-without_handle : (handles : List (ℕ × Handle)) (gone : ℕ) (links : List (ℕ × Link)) (changes : List Change) (pending : List (ℕ × Pending)) (rows : List WatchRow)
    → AreWatched handles links changes pending rows → AreWatched (without_row handles gone) links changes pending (filter (λ row. not (row.handle == gone)) rows)
watched-without_handle handles gone links changes pending [] are = λ k d within. absurd (omega arith)
watched-without_handle handles gone links changes pending (row ∷ rows) are =
    let rest = watched-without_handle handles gone links changes pending rows (λ k d within. are (suc k) d (omega arith)) in
    let is : IsWatched handles links changes pending row = are 0 row (omega arith) in
    elim (cases_Bool (row.handle == gone)) [
      | inl goes ↦ rw goes rest
      | inr stays ↦ rw stays (
          All-cons (IsWatched (without_row handles gone) links changes pending) row (filter (λ (r : WatchRow). not (r.handle == gone)) rows)
          (record {
            of_handle = of-handles handles (without_row handles gone) links row (λ handle found. (handle, row_of-others handles gone row.handle stays ∙ found, refl, refl, refl)) is.of_handle;
            quiet = is.quiet;
            unasked = is.unasked;
          }) rest)
    ]

-- a link that is there still has its file
abbrev KeepFiles : List (ℕ × Link) → List (ℕ × Link) → Handle → Type 0
KeepFiles old new handle = (dir : ℕ) → file_of_link old handle.link ≡ Some dir → file_of_link new handle.link ≡ Some dir

watched-links : (handles : List (ℕ × Handle)) (old new : List (ℕ × Link)) (changes : List Change) (pending : List (ℕ × Pending)) (rows : List WatchRow)
    → ((id : ℕ) (handle : Handle) → row_of handles id ≡ Some handle → KeepFiles old new handle) → AreWatched handles old changes pending rows → AreWatched handles new changes pending rows
watched-links handles old new changes pending rows keep are = λ k d within.
    let is = are k d within in
    let of = is.of_handle in
    record {
      of_handle = record { handle = of.handle; found = of.found; client = of.client; number = of.number; dir = keep (get_or rows k d).handle of.handle of.found (get_or rows k d).dir of.dir };
      quiet = is.quiet;
      unasked = is.unasked;
    }

file-kept : (old new : List (ℕ × Link)) (link dir : ℕ) → ((row : Link) → row_of old link ≡ Some row → option_map (λ (kept : Link). kept.file) (row_of new link) ≡ Some row.file)
    → file_of_link old link ≡ Some dir → file_of_link new link ≡ Some dir
file-kept old new link dir keep found = elim (cases_Bool (link == 0)) [
  | inl root ↦ rw root (rw root at found)
  | inr other ↦ (let by_link : option_map (λ (row : Link). row.file) (row_of old link) ≡ Some dir = rw other at found in
      elim (option_cases (row_of old link)) [
        | inl none ↦ (let impossible : None ≡ Some dir = rw none at by_link in cc)
        | inr some ↦ (let is : Some some.0.file ≡ Some dir = rw some.1 at by_link in rw other (keep some.0 some.1 ∙ is))
      ])
]

pub watched-link_added : (handles : List (ℕ × Handle)) (links more : List (ℕ × Link)) (changes : List Change) (pending : List (ℕ × Pending)) (rows : List WatchRow)
    → AreWatched handles links changes pending rows → AreWatched handles (links ++ more) changes pending rows
watched-link_added handles links more changes pending rows are =
    watched-links handles links (links ++ more) changes pending rows
    (λ id handle living dir found. file-kept links (links ++ more) handle.link dir (λ row is. rw (row_of-more links more handle.link row is) refl) found) are

pub watched-link_changed : (change : Link → Link) (handles : List (ℕ × Handle)) (links : List (ℕ × Link)) (at : ℕ) (changes : List Change) (pending : List (ℕ × Pending)) (rows : List WatchRow)
    → ((link : Link) → (change link).file ≡ link.file) → AreWatched handles links changes pending rows → AreWatched handles (with_row_changed change links at) changes pending rows
watched-link_changed change handles links at changes pending rows same are =
    watched-links handles links (with_row_changed change links at) changes pending rows
    (λ id handle living dir found. file-kept links (with_row_changed change links at) handle.link dir (λ row is. elim (row_of-changed change links at handle.link row is) [
      | inl kept ↦ rw kept refl
      | inr changed ↦ rw changed (ap (λ (file : ℕ). Some file) (same row))
    ]) found) are

found-fails : {R : Type 0} (test : R → Bool) (rows : List (ℕ × R)) (id : ℕ) (row : R) → has_row test rows ≡ false → row_of rows id ≡ Some row → test row ≡ false
found-fails test [] id row none found = cc
found-fails test (x ∷ rows) id row none found = elim (cases_Bool (test x.1)) [
  | inl passes ↦ (let impossible : true ≡ false = rw passes at none in absurd (false≢true (sym impossible)))
  | inr fails ↦ elim (cases_Bool (x.0 == id)) [
    | inl here ↦ (let is : Some x.1 ≡ Some row = rw here at found in let same : x.1 ≡ row = cc in subst (λ r. test r ≡ false) same fails)
    | inr other ↦ found-fails test rows id row (rw fails at none) (rw other at found)
  ]
]

pub watched-without_link : (handles : List (ℕ × Handle)) (links : List (ℕ × Link)) (gone : ℕ) (changes : List Change) (pending : List (ℕ × Pending)) (rows : List WatchRow)
    → has_row (λ handle. handle.link == gone) handles ≡ false → AreWatched handles links changes pending rows → AreWatched handles (without_row links gone) changes pending rows
watched-without_link handles links gone changes pending rows unopened are =
    watched-links handles links (without_row links gone) changes pending rows
    (λ id handle living dir found. file-kept links (without_row links gone) handle.link dir
    (λ row is. rw (row_of-others links gone handle.link (found-fails (λ (h : Handle). h.link == gone) handles id handle unopened living), is) refl) found) are

-- ---- where pending calls change

-- where no Notify was pending on a handle, none is
abbrev pub FewerAsk : List (ℕ × Pending) → List (ℕ × Pending) → Type 0
FewerAsk old new = (client number : ℕ) → All (λ entry. is_notify_on client number entry.1 ≡ false) old → All (λ entry. is_notify_on client number entry.1 ≡ false) new

pub watched-fewer : (handles : List (ℕ × Handle)) (links : List (ℕ × Link)) (changes : List Change) (old new : List (ℕ × Pending)) (rows : List WatchRow)
    → FewerAsk old new → AreWatched handles links changes old rows → AreWatched handles links changes new rows
watched-fewer handles links changes old new rows fewer are = λ k d within.
    let is = are k d within in
    record { of_handle = is.of_handle; quiet = is.quiet; unasked = λ none. fewer (get_or rows k d).client (get_or rows k d).number (is.unasked none) }

pub fewer-filter : (keep : ℕ × Pending → Bool) (pending : List (ℕ × Pending)) → FewerAsk pending (filter keep pending)
fewer-filter keep pending = λ client number none. All-filter keep (λ entry. is_notify_on client number entry.1 ≡ false) pending none

pub fewer-blockers : (pending : List (ℕ × Pending)) (turn : ℕ) (blockers : List Blocker) → FewerAsk pending (with_row_changed (λ row. record row { blockers = blockers }) pending turn)
fewer-blockers pending turn blockers = λ client number none.
    All-map (λ entry. is_notify_on client number entry.1 ≡ false) (change_at (λ (row : Pending). record row { blockers = blockers }) turn) pending
    (λ k d within. change_at-same (λ (row : Pending). record row { blockers = blockers }) turn (is_notify_on client number) (λ row. refl) (get_or pending k d) ∙ none k d within)

fewer-told : (v : Volume) (turn : Option ℕ) (level : Level) (ack : Bool) → FewerAsk v.pending (with_told v turn level ack).pending
fewer-told v None level ack = λ client number none. none
fewer-told v (Some turn) level ack = elim (option_cases (row_of v.pending turn)) [
  | inl missing ↦ rw missing (λ client number none. none)
  | inr some ↦ rw some.1 (fewer-filter (λ entry. not (is_call some.0.call.client some.0.call.number entry.1)) v.pending)
]

fewer-told_by : (v : Volume) (turn : Option ℕ) (done : Effect) → FewerAsk v.pending (with_told_by v turn done).pending
fewer-told_by v turn Stays = λ client number none. none
fewer-told_by v turn Ends = fewer-told v turn Nil false
fewer-told_by v turn (Begins level) = fewer-told v turn level true
fewer-told_by v turn (Lowers level) = λ client number none. none

fewer-broken : (kind : Class) (v : Volume) (oplocks : List Oplock) → FewerAsk v.pending (fold (λ w oplock. with_effect w oplock (effect_on kind oplock)) v oplocks).pending
fewer-broken kind v [] = λ client number none. none
fewer-broken kind v (oplock ∷ oplocks) = λ client number none.
    fewer-broken kind (with_effect v oplock (effect_on kind oplock)) oplocks client number
    (fewer-told_by (with_oplocks v _) oplock.call (effect_on kind oplock) client number none)

pub fewer-breaks : (v : Volume) (on : HandleSet) (kind : Class) (acting : Option ℕ) (key : ℕ) → FewerAsk v.pending (with_breaks v on kind acting key).pending
fewer-breaks v on kind acting key = fewer-broken kind v (chosen v on acting key)

fewer-switched : (v : Volume) (oplocks : List Oplock) → FewerAsk v.pending (fold with_switched v oplocks).pending
fewer-switched v [] = λ client number none. none
fewer-switched v (oplock ∷ oplocks) = λ client number none.
    fewer-switched (with_switched v oplock) oplocks client number (fewer-one (without_oplock v oplock.handle) oplock.call client number none)
  where
    fewer-one : (w : Volume) (turn : Option ℕ) → FewerAsk w.pending (with_call_ended w turn OplockSwitchedToNewHandle).pending
    fewer-one w None = λ client number none. none
    fewer-one w (Some turn) = elim (option_cases (row_of w.pending turn)) [
      | inl missing ↦ rw missing (λ client number none. none)
      | inr some ↦ rw some.1 (fewer-filter (λ entry. not (is_call some.0.call.client some.0.call.number entry.1)) w.pending)
    ]

pub fewer-granted : (v : Volume) (handle key stream : ℕ) (level : Level) (turn : ℕ) → FewerAsk v.pending (with_granted v handle key stream level turn).pending
fewer-granted v handle key stream level turn = fewer-switched v (switched v handle key stream)

-- a call more is pending
pub watched-asked : (handles : List (ℕ × Handle)) (links : List (ℕ × Link)) (changes : List Change) (pending : List (ℕ × Pending)) (rows : List WatchRow) (turn : ℕ) (call : Pending)
    → AreWatched handles links changes pending rows → AreWatched handles links changes (pending ++ (turn, call) ∷ []) (map (asked_by call.call.client call.call.what) rows)
watched-asked handles links changes pending rows turn call are =
    All-map (IsWatched handles links changes (pending ++ (turn, call) ∷ [])) (asked_by call.call.client call.call.what) rows (λ k d within. one (get_or rows k d) (are k d within))
  where
    swapped : (a b : ℕ) → (a == b) ≡ false → (b == a) ≡ false
    swapped a b differ = elim (cases_Bool (b == a)) [
      | inl same ↦ absurd (false≢true (sym differ ∙ eq-eqb a b (sym (eqb-true b a same))))
      | inr other ↦ other
    ]

    either : (row : WatchRow) → (not (row.client == call.call.client) || not (is_notify_of row.number call.call.what)) ≡ true → is_notify_on row.client row.number call ≡ false
    either row stays = elim (cases_Bool (row.client == call.call.client)) [
      | inl same ↦ (let isnt : not (is_notify_of row.number call.call.what) ≡ true = rw same at stays in
          elim (cases_Bool (is_notify_of row.number call.call.what)) [
            | inl is ↦ (let impossible : false ≡ true = rw is at isnt in absurd (false≢true impossible))
            | inr fails ↦ elim (cases_Bool (call.call.client == row.client)) [ inl here ↦ rw (here, fails) refl | inr there ↦ rw there refl ]
          ])
      | inr differ ↦ rw (swapped row.client call.call.client differ) refl
    ]

    one : (row : WatchRow) → IsWatched handles links changes pending row → IsWatched handles links changes (pending ++ (turn, call) ∷ []) (asked_by call.call.client call.call.what row)
    one row is = elim (cases_Bool (not (row.client == call.call.client) || not (is_notify_of row.number call.call.what))) [
      | inl stays ↦ rw stays (record {
        of_handle = is.of_handle;
        quiet = is.quiet;
        unasked = λ none. All-push (λ entry. is_notify_on row.client row.number entry.1 ≡ false) pending (turn, call) (is.unasked none) (either row stays);
      })
      | inr asks ↦ rw asks (record {
        of_handle = record { handle = is.of_handle.handle; found = is.of_handle.found; client = is.of_handle.client; number = is.of_handle.number; dir = is.of_handle.dir };
        quiet = is.quiet;
        unasked = λ none. absurd (false≢true (sym none));
      })
    ]

-- ---- where a change is noted, a report begins anew, and a watch comes

pub watched-noted : (handles : List (ℕ × Handle)) (links : List (ℕ × Link)) (changes : List Change) (change : Change) (pending : List (ℕ × Pending)) (rows : List WatchRow)
    → AreWatched handles links changes pending rows → AreWatched handles links (changes ++ change ∷ []) pending (map (row_noted (changes ++ change ∷ []) pending) rows)
watched-noted handles links changes change pending rows are =
    All-map (IsWatched handles links (changes ++ change ∷ []) pending) (row_noted (changes ++ change ∷ []) pending) rows (λ k d within. one (get_or rows k d) (are k d within))
  where
    one : (row : WatchRow) → IsWatched handles links changes pending row → IsWatched handles links (changes ++ change ∷ []) pending (row_noted (changes ++ change ∷ []) pending row)
    one row is = elim (cases_Bool (row.due || not (asks_for_last (asking row) (changes ++ change ∷ [])))) [
      | inl stays ↦ rw stays (record {
        of_handle = is.of_handle;
        quiet = λ none.
            let isnt : not (asks_for_last (asking row) (changes ++ change ∷ [])) ≡ true = rw none at stays in
            quiet-more changes change (asking row) (is.quiet none) (elim (cases_Bool (asks_for_last (asking row) (changes ++ change ∷ []))) [
              | inl asks ↦ (let impossible : false ≡ true = rw asks at isnt in absurd (false≢true impossible))
              | inr fails ↦ fails
            ]);
        unasked = is.unasked;
      })
      | inr asks ↦ rw asks (record {
        of_handle = record { handle = is.of_handle.handle; found = is.of_handle.found; client = is.of_handle.client; number = is.of_handle.number; dir = is.of_handle.dir };
        quiet = λ none. absurd (false≢true (sym none));
        unasked = λ none. none-all (λ (entry : ℕ × Pending). is_notify_on row.client row.number entry.1) pending none;
      })
    ]

pub watched-begun : (handles : List (ℕ × Handle)) (links : List (ℕ × Link)) (changes : List Change) (pending : List (ℕ × Pending)) (rows : List WatchRow) (handle : ℕ)
    → AreWatched handles links changes pending rows → AreWatched handles links changes pending (map (row_begun handle (length changes)) rows)
watched-begun handles links changes pending rows handle are =
    All-map (IsWatched handles links changes pending) (row_begun handle (length changes)) rows (λ k d within. one (get_or rows k d) (are k d within))
  where
    one : (row : WatchRow) → IsWatched handles links changes pending row → IsWatched handles links changes pending (row_begun handle (length changes) row)
    one row is = elim (cases_Bool (row.handle == handle)) [
      | inl here ↦ rw here (record {
        of_handle = record { handle = is.of_handle.handle; found = is.of_handle.found; client = is.of_handle.client; number = is.of_handle.number; dir = is.of_handle.dir };
        quiet = λ none. quiet-end changes (asking row);
        unasked = is.unasked;
      })
      | inr other ↦ rw other is
    ]

pub watched-added : (handles : List (ℕ × Handle)) (links : List (ℕ × Link)) (changes : List Change) (pending : List (ℕ × Pending)) (rows : List WatchRow) (row : WatchRow)
    → IsOfHandle handles links row → (row.from ≡ length changes) → row.asked ≡ true → AreWatched handles links changes pending rows → AreWatched handles links changes pending (rows ++ row ∷ [])
watched-added handles links changes pending rows row of from asked are =
    All-push (IsWatched handles links changes pending) rows row are (record {
      of_handle = of;
      quiet = λ none. subst (λ place. due_of changes (record (asking row) { from = place }) ≡ []) (sym from) (quiet-end changes (asking row));
      unasked = λ none. absurd (false≢true (sym none ∙ asked));
    })

-- ---- what is found

-- a handle's link is there, or it is the root's
pub linked-found : (links : List (ℕ × Link)) (streams : List (ℕ × Stream)) (handles : List (ℕ × Handle)) (id : ℕ) → All (λ entry. is_of_living links streams entry.1 ≡ true) handles
    → IfSome (row_of handles id) (λ handle. (handle.link == 0 || lives links handle.link) ≡ true)
linked-found links streams handles id living =
    found-all (λ (handle : Handle). (handle.link == 0 || lives links handle.link) ≡ true) handles id
    (λ k d within.
    let handle : Handle = (get_or handles k d).1 in
    (and_parts (handle.link == 0 || lives links handle.link) (option_map_or (λ stream. is_stream_of_link links streams handle.link stream) handle.stream true) (living k d within)).0)

-- there is a row exactly where there is a watch
pub has-watch : (rows : List WatchRow) (handle : ℕ) (row : Option (Bor WatchRow)) → option_copied row ≡ find (λ r. r.handle == handle) rows
    → is_some row ≡ is_some (find (λ watch. watch.handle == handle) (map watch_of_row rows))
has-watch rows handle None found = rw (watches-found rows handle, ← found) refl
has-watch rows handle (Some row) found = rw (watches-found rows handle, ← found) refl

-- what is not due is nothing, whatever is looked at
pub unwatched : (v : Volume) (rows : List WatchRow) (handle : ℕ) → v.watches ≡ map watch_of_row rows → find (λ row. row.handle == handle) rows ≡ None → due v handle ≡ []
unwatched v rows handle are none =
    let watch : watch_of v handle ≡ None = rw are (watches-found rows handle ∙ ap (option_map watch_of_row) none) in rw watch refl

-- what is due to a handle, by its row
pub due-of-row : (v : Volume) (rows : List WatchRow) (id : ℕ) (row : WatchRow) (handle : Handle) → v.watches ≡ map watch_of_row rows → find (λ r. r.handle == id) rows ≡ Some row
    → row_of v.handles id ≡ Some handle → file_of_link v.links handle.link ≡ Some row.dir → due v id ≡ due_of v.changes (asking row)
due-of-row v rows id row handle are found living dir =
    let watch : watch_of v id ≡ Some (watch_of_row row) = rw are (watches-found rows id ∙ ap (option_map watch_of_row) found) in
    let home : dir_of v id ≡ Some row.dir = rw living dir in
    rw (watch, home) refl

pub quiet-row : (v : Volume) (rows : List WatchRow) (handle : ℕ) (row : WatchRow) → v.watches ≡ map watch_of_row rows → AreWatched v.handles v.links v.changes v.pending rows
    → find (λ r. r.handle == handle) rows ≡ Some row → row.due ≡ false → due v handle ≡ []
quiet-row v rows handle row are watched found quiet =
    let is : IsWatched v.handles v.links v.changes v.pending row = find-all (IsWatched v.handles v.links v.changes v.pending) (λ r. r.handle == handle) rows row found watched in
    let own : row.handle ≡ handle = eqb-true row.handle handle (find-passes (λ (r : WatchRow). r.handle == handle) rows row found) in
    let of = is.of_handle in
    due-of-row v rows handle row of.handle are found (subst (λ id. row_of v.handles id ≡ Some of.handle) own of.found) of.dir ∙ is.quiet quiet

-- by its directory, where that is found
pub due-in : (v : Volume) (rows : List WatchRow) (handle dir : ℕ) (row : WatchRow) → v.watches ≡ map watch_of_row rows → find (λ r. r.handle == handle) rows ≡ Some row → dir_of v handle ≡ Some dir
    → due_of v.changes (record (asking row) { dir = dir }) ≡ due v handle
due-in v rows handle dir row are found home =
    let watch : watch_of v handle ≡ Some (watch_of_row row) = rw are (watches-found rows handle ∙ ap (option_map watch_of_row) found) in rw (watch, home) refl

pub homeless : (v : Volume) (handle : ℕ) → dir_of v handle ≡ None → due v handle ≡ []
homeless v handle none = elim (option_cases (watch_of v handle)) [ inl no_watch ↦ rw no_watch refl | inr some ↦ rw (some.1, none) refl ]

some-none : (n : ℕ) → Some n ≡ None → ⊥
some-none n is = cc

-- a link that is there, or is the root's, has a file
pub linked-home : (links : List (ℕ × Link)) (link : ℕ) → (link == 0 || lives links link) ≡ true → file_of_link links link ≡ None → ⊥
linked-home links link living none = elim (cases_Bool (link == 0)) [
  | inl root ↦ some-none 1 (rw root at none)
  | inr other ↦ lives-found links link (rw other at living) (option_map-none (λ (row : Link). row.file) (row_of links link) (rw other at none))
]

-- ---- whether a Notify is pending on a handle

-- a Notify on a handle names it
notify-names : (handle : ℕ) (what : What) → is_notify_of handle what ≡ true → names what handle ≡ true
notify-names handle (Ask (Notify other filter tree room)) is = is
notify-names handle _ is = cc

-- where no call is the first that names the handle, none is a Notify on it
pub notify-unnamed : (pending : List (ℕ × Pending)) (client handle : ℕ) → None ≡ option_map (λ entry. entry.0) (find (is_first_naming pending client handle) pending)
    → false ≡ list_any (λ entry. is_notify_on client handle entry.1) pending
notify-unnamed pending client handle none =
    let first : find (is_first_naming pending client handle) pending ≡ None = option_map-none (λ (entry : ℕ × Pending). entry.0) (find (is_first_naming pending client handle) pending) (sym none) in
    let unnamed : list_any (λ (entry : ℕ × Pending). is_naming client handle entry.1) pending ≡ false
    = no-least (λ (entry : ℕ × Pending). is_naming client handle entry.1) (λ entry. entry.0) pending (none-all (is_first_naming pending client handle) pending (find-none (is_first_naming pending client handle) pending first)) in
    elim (cases_Bool (list_any (λ (entry : ℕ × Pending). is_notify_on client handle entry.1) pending)) [
      | inl some ↦ absurd (false≢true (sym unnamed ∙ any-weaker (λ (entry : ℕ × Pending). is_notify_on client handle entry.1) (λ (entry : ℕ × Pending). is_naming client handle entry.1) pending
          (λ entry is.
          let parts = and_parts (entry.1.call.client == client) (is_notify_of handle entry.1.call.what) is in
          and_from (entry.1.call.client == client) (names entry.1.call.what handle) parts.0 (notify-names handle entry.1.call.what parts.1))
          some))
      | inr isnt ↦ sym isnt
    ]

-- a call that is found under its turn is one of those that are pending
pub notify-under : (pending : List (ℕ × Pending)) (turn client handle : ℕ) (call : Call) → Some call ≡ option_map (λ (row : Pending). row.call) (row_of pending turn)
    → ((call.client == client) && is_notify_of handle call.what) ≡ true → list_any (λ entry. is_notify_on client handle entry.1) pending ≡ true
notify-under [] turn client handle call found is = cc
notify-under (entry ∷ pending) turn client handle call found is = elim (cases_Bool (entry.0 == turn)) [
  | inl here ↦ (let same : Some call ≡ Some entry.1.call = rw here at found in
      let own : call ≡ entry.1.call = cc in
      let passes : is_notify_on client handle entry.1 ≡ true = rw own at is in
      rw passes refl)
  | inr other ↦ (let rest = notify-under pending turn client handle call (rw other at found) is in
      or_right (is_notify_on client handle entry.1) (list_any (λ entry. is_notify_on client handle entry.1) pending) rest)
]
