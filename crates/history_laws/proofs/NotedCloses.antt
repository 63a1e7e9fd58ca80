-- That what a close and a leaving change is noted: a stream that is removed, by the link of its handle, which is there still, since a
-- link goes only once it has no handle; and a link that is removed.
use Rattle.std.proofs.Common.{◌≡◌, ℕ, suc, ◌<◌, Bool, true, false, ◌==◌, not, List, [], ◌∷◌, ◌++◌, append-nil, get_or, refl, sym, subst, ap, ◌∙◌, arith, inl, inr, Some, None}
use Rattle.std.specs.Prelude.{◌&&◌, All, filter, if◌then◌else◌, nat_lt}
use Rattle.std.proofs.lemmas.Bool.{and_parts, cases_Bool, eqb-true, ne_eqb, not-true}
use Rattle.std.proofs.lemmas.List.Elements.{All-cons, All-filter}
use Rattle.std.proofs.lemmas.List.Kept.{AllPairs-filter}
use Rattle.std.proofs.lemmas.List.Sums.{fold-append}
use Rattle.fsa_types.specs.Masks.{FILE_ACTION_REMOVED, FILE_ACTION_REMOVED_STREAM, FILE_NOTIFY_CHANGE_STREAM_NAME}
use Rattle.fsa_types.specs.Rows.{IsNumbered, row_of, with_row_changed, without_row}
use Rattle.fsa_types.specs.Sorting.{in_order, put_in_order}
use Rattle.fsa_types.proofs.RowLemmas.{AreRising, AreRising-first, AreRising-rest}
use Rattle.fsa_model.specs.Changes.{with_change_noted}
use Rattle.fsa_model.specs.Close.{handles_of_client, is_link_of_parent}
use Rattle.fsa_model.specs.Coherence.{IsTied, has_living_stream}
use Rattle.fsa_model.specs.Edits.{with_link_marked, with_stream_marked, without_handle, without_stream}
use Rattle.fsa_model.specs.Lookups.{has_row, is_link_marked, is_marked, is_open_by, is_open_on}
use Rattle.fsa_model.specs.Volume.{Change, Handle, Link, Stream, Volume}
use Rattle.fsa_model.proofs.CoherenceClose.{handles-noted}
use Rattle.fsa_model.proofs.CoherenceEdits.{IsTied-link_changed, IsTied-stream_changed, Lives, Lives-from}
use Rattle.fsa_model.proofs.CoherenceGone.{IsTied-without_handle, IsTied-without_link, IsTied-without_stream}
use Rattle.fsa_model.proofs.CoherenceLaws.{All-in_order}
use Rattle.fsa_model.proofs.CoherenceTied.{IsTied-alike, IsUntouched-noted}
use Rattle.fsa_model.proofs.RowLaws.{eqb-swap, option_cases, row_of-all, row_of-here}
use Rattle.history_laws.specs.TreeChanges.{TreeChange, RemovesLink, RemovesStream, changes_closing, changes_closing_all, filter_of_name, marks_on_close, named_stream_of, removed_link, sweeps, sweeps_stream, with_tree_change, with_tree_changes}
use Rattle.history_laws.specs.TreeNotes.{IsNoted, NotesChanges, StaysThere, entry_of, has_filter}
use Rattle.history_laws.proofs.NotedNames.{ByLink, GoneNoted, NotesLosses, OnlyLeft, SameRest, StaysStream, WasThere, all-there, entry-of, losses-alike, losses-next, losses-none, losses-noted, removed-left, removed-losses, removed-rest, row_of-earlier, was-there}
use Rattle.history_laws.proofs.NotedRows.{files-same, note_of, note_of-stream, noted-is, row_of-changed_none, row_of-changed_some, row_of-without, seen-changed}
use Rattle.history_laws.proofs.TreeParts.{Alike, Alike-changes}

-- ---- a step of a close

-- what goes is noted, each link that is left is where it was, and what coherence rests on is kept
record Closes (v next : Volume) : Type 0 where
  tied : IsTied next
  handles : next.handles ≡ v.handles
  left : OnlyLeft v next
  losses : NotesLosses v next

closes-none : (v : Volume) → IsTied v → Closes v v
closes-none v tied = record { tied = tied; handles = refl; left = λ link entry there. there; losses = losses-none v }

closes-next : (u v w : Volume) → Closes u v → (IsTied v → Closes v w) → Closes u w
closes-next u v w one more = (let two : Closes v w = more one.tied in record {
  tied = two.tied;
  handles = two.handles ∙ one.handles;
  left = λ link entry there. one.left link entry (two.left link entry there);
  losses = losses-next u v w one.left one.losses two.losses;
})

-- two lists of changes, the second made after the first
closes-both : (v : Volume) (first second : List TreeChange) → Closes v (with_tree_changes v first)
    → (IsTied (with_tree_changes v first) → Closes (with_tree_changes v first) (with_tree_changes (with_tree_changes v first) second))
    → Closes v (with_tree_changes v (first ++ second))
closes-both v first second one more =
    subst (λ next. Closes v next) (sym (fold-append with_tree_change v first second))
    (closes-next v (with_tree_changes v first) (with_tree_changes (with_tree_changes v first) second) one more)

-- ---- marks

-- links are where they were
record Marks (v next : Volume) : Type 0 where
  closes : Closes v next
  entries : (link : ℕ) → entry_of next link ≡ entry_of v link

marks-none : (v : Volume) → IsTied v → Marks v v
marks-none v tied = record { closes = closes-none v tied; entries = λ link. refl }

link_marked : (v : Volume) (link : ℕ) → IsTied v → Marks v (with_link_marked v link true)
link_marked v link tied = record {
  closes = record {
    tied = IsTied-link_changed v (λ row. record row { deleted = true }) link (λ row. refl) tied;
    handles = refl;
    left = λ other entry there. sym (entries other) ∙ there;
    losses = record {
      notes = [];
      adds = sym (append-nil v.changes);
      links = λ other. StaysThere (seen-changed (λ (row : Link). record row { deleted = true }) (λ row. (row.parent, row.name)) v.links link other (λ row. refl));
      files = λ file none. none;
      files_stay = files-same v (with_link_marked v link true) refl;
      streams = λ stream now found. was-there v stream now found;
      gone = λ stream row found none. all-there v (with_link_marked v link true) [] refl stream row found none;
    };
  };
  entries = entries;
}
  where
    entries : (other : ℕ) → entry_of (with_link_marked v link true) other ≡ entry_of v other
    entries other = seen-changed (λ (row : Link). record row { deleted = true }) (λ row. (row.parent, row.name, row.file)) v.links link other (λ row. refl)

stream_marked : (v : Volume) (stream : ℕ) → IsTied v → Marks v (with_stream_marked v stream true)
stream_marked v stream tied = record {
  closes = record {
    tied = IsTied-stream_changed v mark stream (λ row. refl) tied;
    handles = refl;
    left = λ link entry there. there;
    losses = record {
      notes = [];
      adds = sym (append-nil v.changes);
      links = λ link. StaysThere refl;
      files = λ file none. none;
      files_stay = files-same v (with_stream_marked v stream true) refl;
      streams = was;
      gone = λ other row found none. (let there = row_of-changed_some mark v.streams stream other row found in
          let impossible : None ≡ Some (if other == stream then mark row else row) = sym none ∙ there in cc);
    };
  };
  entries = λ link. refl;
}
  where
    mark : Stream → Stream
    mark row = record row { deleted = true }

    marked : (row : Stream) (is : Bool) → StaysStream row (if is then mark row else row)
    marked row true = record { file = refl; name = refl; bytes = refl }
    marked row false = record { file = refl; name = refl; bytes = refl }

    was : (other : ℕ) (now : Stream) → row_of (with_row_changed mark v.streams stream) other ≡ Some now → WasThere v other now
    was other now found = elim (option_cases (row_of v.streams other)) [
      | inl none ↦ (let impossible : None ≡ Some now = sym (row_of-changed_none mark v.streams stream other none) ∙ found in cc)
      | inr some ↦ (let same : Some (if other == stream then mark some.0 else some.0) ≡ Some now = sym (row_of-changed_some mark v.streams stream other some.0 some.1) ∙ found in
          let is : (if other == stream then mark some.0 else some.0) ≡ now = cc in
          record { row = some.0; found = some.1; stays = subst (λ own. StaysStream some.0 own) is (marked some.0 (other == stream)) })
    ]

marks-closes : (v : Volume) (handle : Handle) → IsTied v → Marks v (with_tree_changes v (marks_on_close v handle))
marks-closes v handle tied = elim (cases_Bool (not handle.delete_on_close)) [
  | inl stays ↦ rw stays (marks-none v tied)
  | inr deletes ↦ rw deletes (elim (option_cases (named_stream_of v handle)) [
    | inl none ↦ rw none (elim (cases_Bool (is_link_of_parent v handle.link)) [
      | inl is ↦ rw is (marks-none v tied)
      | inr isnt ↦ rw isnt (link_marked v handle.link tied)
    ])
    | inr some ↦ rw some.1 (stream_marked v some.0 tied)
  ])
]

-- ---- a stream that is removed

-- where the stream is there, the link is, and of its file
record UnderLink (v : Volume) (link : ℕ) (row : Stream) : Type 0 where
  parent : ℕ
  name : List ℕ
  of_link : entry_of v link ≡ Some (parent, name, row.file)

abbrev IsUnder : Volume → ℕ → ℕ → Type 0
IsUnder v link stream = (row : Stream) → row_of v.streams stream ≡ Some row → UnderLink v link row

-- so it is of a handle
under-handle : (v : Volume) (id : ℕ) (handle : Handle) → IsTied v → row_of v.handles id ≡ Some handle → (stream : ℕ) → handle.stream ≡ Some stream
    → IsUnder v handle.link stream
under-handle v id handle tied found stream has row there =
    let lives : Lives v.links v.streams handle.link stream = Lives-from v.links v.streams handle stream has
    (row_of-all (λ (h : Handle). has_living_stream v.links v.streams h ≡ true) v.handles id handle found tied.streams_live) in
    let same : Some lives.a_stream ≡ Some row = sym lives.of_stream ∙ there in
    let is : lives.a_stream ≡ row = cc in
    let file : lives.a_link.file ≡ row.file = lives.one_file ∙ ap (λ (own : Stream). own.file) is in
    record { parent = lives.a_link.parent; name = lives.a_link.name; of_link = rw (lives.of_link, file) refl }

-- and with marks too
under-marked : (v next : Volume) (link stream : ℕ) → Marks v next → IsUnder v link stream → IsUnder next link stream
under-marked v next link stream marks under row there =
    let was : WasThere v stream row = NotesLosses.streams (Closes.losses marks.closes) stream row there in
    let before : UnderLink v link was.row = under was.row was.found in
    let same : entry_of v link ≡ Some (before.parent, before.name, row.file)
    = subst (λ file. entry_of v link ≡ Some (before.parent, before.name, file)) (sym was.stays.file) before.of_link in
    record { parent = before.parent; name = before.name; of_link = marks.entries link ∙ same }

abbrev stream_gone : Volume → Link → ℕ → Volume
stream_gone v by stream = record v {
  streams = without_row v.streams stream;
  changes = v.changes ++ note_of v by FILE_ACTION_REMOVED_STREAM FILE_NOTIFY_CHANGE_STREAM_NAME (Some stream) ∷ [];
}

stream-losses : (v : Volume) (link stream : ℕ) (by : Link) (row : Stream) → row_of v.links link ≡ Some by → row_of v.streams stream ≡ Some row
    → by.file ≡ row.file → NotesLosses v (stream_gone v by stream)
stream-losses v link stream by row found there one_file = record {
  notes = note_of v by FILE_ACTION_REMOVED_STREAM FILE_NOTIFY_CHANGE_STREAM_NAME (Some stream) ∷ [];
  adds = refl;
  links = λ other. StaysThere refl;
  files = λ file none. none;
  files_stay = files-same v (stream_gone v by stream) refl;
  streams = λ other now left. was-there v other now (row_of-earlier v.streams stream other now left);
  gone = λ other gone before none. elim (cases_Bool (other == stream)) [
    | inl here ↦ (let at : other ≡ stream = eqb-true other stream here in
        let same : Some row ≡ Some gone = sym there ∙ (rw (← at) before) in
        let is : row ≡ gone = cc in
        subst (λ own. GoneNoted v (stream_gone v by stream) notes own) is (ByLink link by.parent by.name (rw (found, one_file) refl) noted))
    | inr apart ↦ (let stays : row_of (without_row v.streams stream) other ≡ Some gone = rw (row_of-without v.streams stream other, apart) before in
        let impossible : Some gone ≡ None = sym stays ∙ none in cc)
  ];
}
  where
    notes : List Change
    notes = note_of v by FILE_ACTION_REMOVED_STREAM FILE_NOTIFY_CHANGE_STREAM_NAME (Some stream) ∷ []

    noted : IsNoted notes FILE_ACTION_REMOVED_STREAM (has_filter FILE_NOTIFY_CHANGE_STREAM_NAME) by.parent (by.name ++ 58 ∷ row.name)
    noted = note_of-stream v by FILE_ACTION_REMOVED_STREAM FILE_NOTIFY_CHANGE_STREAM_NAME stream row (has_filter FILE_NOTIFY_CHANGE_STREAM_NAME) there refl

stream-closes : (v : Volume) (link stream : ℕ) → IsUnder v link stream → (is_marked v stream && not (has_row (is_open_on stream) v.handles)) ≡ true → IsTied v
    → Closes v (with_tree_change v (RemovesStream link stream))
stream-closes v link stream under over tied = elim (option_cases (row_of v.streams stream)) [
  | inl none ↦ (let impossible : false ≡ true = rw none at over in cc)
  | inr row ↦ with_row row.0 row.1 (under row.0 row.1)
]
  where
    noted : Volume
    noted = with_change_noted v link FILE_ACTION_REMOVED_STREAM FILE_NOTIFY_CHANGE_STREAM_NAME (Some stream)

    closed : has_row (is_open_on stream) noted.handles ≡ false
    closed =
        ap (λ handles. has_row (is_open_on stream) handles) (handles-noted v link FILE_ACTION_REMOVED_STREAM FILE_NOTIFY_CHANGE_STREAM_NAME (Some stream))
        ∙ not-true (has_row (is_open_on stream) v.handles) (and_parts (is_marked v stream) (not (has_row (is_open_on stream) v.handles)) over).1

    with_row : (row : Stream) → row_of v.streams stream ≡ Some row → UnderLink v link row → Closes v (without_stream noted stream)
    with_row row there its =
        let some : (by : Link) × (row_of v.links link ≡ Some by) × ((by.parent, by.name, by.file) ≡ (its.parent, its.name, row.file))
        = entry-of v link (its.parent, its.name, row.file) its.of_link in
        let file : some.0.file ≡ row.file = ap (λ (e : ℕ × List ℕ × ℕ). e.2) some.2 in
        let is : without_stream noted stream ≡ stream_gone v some.0 stream
        = ap (λ first. without_stream first stream) (noted-is v link FILE_ACTION_REMOVED_STREAM FILE_NOTIFY_CHANGE_STREAM_NAME (Some stream) some.0 some.1) in
        record {
          tied = IsTied-without_stream noted stream closed
              (IsTied-alike v noted (IsUntouched-noted v link FILE_ACTION_REMOVED_STREAM FILE_NOTIFY_CHANGE_STREAM_NAME (Some stream)) tied);
          handles = handles-noted v link FILE_ACTION_REMOVED_STREAM FILE_NOTIFY_CHANGE_STREAM_NAME (Some stream);
          left = subst (λ next. OnlyLeft v next) (sym is) (λ other entry left. left);
          losses = subst (λ next. NotesLosses v next) (sym is) (stream-losses v link stream some.0 row some.1 there file);
        }

-- ---- a link that is removed

link-closes : (v : Volume) (link : ℕ) → (is_link_marked v link && not (has_row (is_open_by link) v.handles)) ≡ true → IsTied v
    → Closes v (with_tree_change v (RemovesLink link))
link-closes v link over tied = record {
  tied = IsTied-without_link noted link closed (IsTied-alike v noted (IsUntouched-noted v link FILE_ACTION_REMOVED (filter_of_name v link) None) tied);
  handles = SameRest.handles (removed-rest v link);
  left = removed-left v link;
  losses = removed-losses v link tied.streams_numbered.rising;
}
  where
    noted : Volume
    noted = with_change_noted v link FILE_ACTION_REMOVED (filter_of_name v link) None

    closed : has_row (is_open_by link) noted.handles ≡ false
    closed =
        ap (λ handles. has_row (is_open_by link) handles) (handles-noted v link FILE_ACTION_REMOVED (filter_of_name v link) None)
        ∙ not-true (has_row (is_open_by link) v.handles) (and_parts (is_link_marked v link) (not (has_row (is_open_by link) v.handles)) over).1

-- ---- a handle that is closed

-- it's gone already; what it leaves marked and without a handle goes
streams-closes : (v : Volume) (handle : Handle) → ((stream : ℕ) → handle.stream ≡ Some stream → IsUnder v handle.link stream) → IsTied v
    → Closes v (with_tree_changes v (sweeps_stream v handle))
streams-closes v handle under tied = elim (option_cases handle.stream) [
  | inl none ↦ rw none (closes-none v tied)
  | inr some ↦ rw some.1 (elim (cases_Bool (is_marked v some.0 && not (has_row (is_open_on some.0) v.handles))) [
    | inl over ↦ rw over (stream-closes v handle.link some.0 (under some.0 some.1) over tied)
    | inr stays ↦ rw stays (closes-none v tied)
  ])
]

links-closes : (v : Volume) (link : ℕ) → IsTied v → Closes v (with_tree_changes v (removed_link v link))
links-closes v link tied = elim (cases_Bool (is_link_marked v link && not (has_row (is_open_by link) v.handles))) [
  | inl over ↦ rw over (link-closes v link over tied)
  | inr stays ↦ rw stays (closes-none v tied)
]

sweeps-closes : (v : Volume) (handle : Handle) → ((stream : ℕ) → handle.stream ≡ Some stream → IsUnder v handle.link stream) → IsTied v
    → Closes v (with_tree_changes v (sweeps v handle))
sweeps-closes v handle under tied =
    closes-both v (sweeps_stream v handle) (removed_link (with_tree_changes v (sweeps_stream v handle)) handle.link) (streams-closes v handle under tied)
    (λ next. links-closes (with_tree_changes v (sweeps_stream v handle)) handle.link next)

handle-closes : (v : Volume) (handle : Handle) → ((stream : ℕ) → handle.stream ≡ Some stream → IsUnder v handle.link stream) → IsTied v
    → Closes v (with_tree_changes v (changes_closing v handle))
handle-closes v handle under tied =
    let marked : Volume = with_tree_changes v (marks_on_close v handle) in
    let marks : Marks v marked = marks-closes v handle tied in
    closes-both v (marks_on_close v handle) (sweeps marked handle) marks.closes
    (λ next. sweeps-closes marked handle (λ stream has. under-marked v marked handle.link stream marks (under stream has)) next)

-- of a volume with the handle
closed-closes : (v : Volume) (id : ℕ) (handle : Handle) → IsTied v → row_of v.handles id ≡ Some handle
    → Closes (without_handle v id) (with_tree_changes (without_handle v id) (changes_closing (without_handle v id) handle))
closed-closes v id handle tied found =
    handle-closes (without_handle v id) handle (λ stream has row there. (let its : UnderLink v handle.link row = under-handle v id handle tied found stream has row there in
    record { parent = its.parent; name = its.name; of_link = its.of_link })) (IsTied-without_handle v id tied)

alike-with : (v : Volume) (id : ℕ) → Alike (without_handle v id) v
alike-with v id = record { table = refl; files = refl; links = refl; streams = refl; last_file = refl; last_link = refl; last_stream = refl; changes = refl; clock = refl }

losses-with : (v : Volume) (id : ℕ) (changes : List TreeChange) → NotesLosses (without_handle v id) (with_tree_changes (without_handle v id) changes)
    → NotesLosses v (with_tree_changes v changes)
losses-with v id changes losses =
    losses-alike (without_handle v id) (with_tree_changes (without_handle v id) changes) v (with_tree_changes v changes) (alike-with v id)
    (Alike-changes changes (without_handle v id) v (alike-with v id)) losses

pub closing-noted : (v : Volume) (id : ℕ) (handle : Handle) → IsTied v → row_of v.handles id ≡ Some handle
    → NotesChanges v (with_tree_changes v (changes_closing (without_handle v id) handle))
closing-noted v id handle tied found =
    losses-noted v _ (losses-with v id (changes_closing (without_handle v id) handle) (Closes.losses (closed-closes v id handle tied found)))

-- ---- several handles, one after the other

-- no two have the same number
abbrev AreApart : List (ℕ × Handle) → Type 0
AreApart [] = Unit {0}
AreApart (entry ∷ more) = All (λ other. (other.0 == entry.0) ≡ false) more × AreApart more

apart-rising : (rows : List (ℕ × Handle)) → AreRising rows → AreApart rows
apart-rising [] rising = tt
apart-rising (entry ∷ rows) rising = (
  λ k d within. (let less = AreRising-first entry rows rising k d within in ne_eqb (get_or rows k d).0 entry.0 (λ same. absurd (omega arith))),
  apart-rising rows (AreRising-rest entry rows rising),
)

put-all : (P : ℕ × Handle → Type 0) (before : ℕ × Handle → ℕ × Handle → Bool) (item : ℕ × Handle) (items : List (ℕ × Handle)) → P item → All P items
    → All P (put_in_order before item items)
put-all P before item [] it all = All-cons P item [] it all
put-all P before item (first ∷ items) it all = elim (cases_Bool (before item first)) [
  | inl here ↦ rw here (All-cons P item (first ∷ items) it all)
  | inr later ↦ rw later (All-cons P first (put_in_order before item items) (all 0 first (omega arith))
      (put-all P before item items it (λ k d within. all (suc k) d (omega arith))))
]

apart-put : (before : ℕ × Handle → ℕ × Handle → Bool) (item : ℕ × Handle) (items : List (ℕ × Handle)) → All (λ other. (other.0 == item.0) ≡ false) items
    → AreApart items → AreApart (put_in_order before item items)
apart-put before item [] others apart = (others, tt)
apart-put before item (first ∷ items) others apart = elim (cases_Bool (before item first)) [
  | inl here ↦ rw here (others, apart)
  | inr later ↦ rw later (
    put-all (λ other. (other.0 == first.0) ≡ false) before item items (eqb-swap item.0 first.0 ∙ others 0 first (omega arith)) apart.0,
    apart-put before item items (λ k d within. others (suc k) d (omega arith)) apart.1,
  )
]

apart-in_order : (before : ℕ × Handle → ℕ × Handle → Bool) (items : List (ℕ × Handle)) → AreApart items → AreApart (in_order before items)
apart-in_order before [] apart = tt
apart-in_order before (item ∷ items) apart =
    apart-put before item (in_order before items) (All-in_order (λ (other : ℕ × Handle). (other.0 == item.0) ≡ false) before items apart.0)
    (apart-in_order before items apart.1)

all-losses : (entries : List (ℕ × Handle)) (v : Volume) → All (λ entry. row_of v.handles entry.0 ≡ Some entry.1) entries → AreApart entries → IsTied v
    → NotesLosses v (with_tree_changes v (changes_closing_all v entries))
all-losses [] v there apart tied = losses-none v
all-losses (entry ∷ entries) v there apart tied =
    let gone : Volume = without_handle v entry.0 in
    let first : List TreeChange = changes_closing gone entry.1 in
    let next : Volume = with_tree_changes gone first in
    let more : List TreeChange = changes_closing_all next entries in
    let closes : Closes gone next = closed-closes v entry.0 entry.1 tied (there 0 entry (omega arith)) in
    let later : All (λ (e : ℕ × Handle). row_of next.handles e.0 ≡ Some e.1) entries = λ k d within.
    rw (closes.handles, row_of-without v.handles entry.0 (get_or entries k d).0, apart.0 k d within) (there (suc k) d (omega arith)) in
    losses-with v entry.0 (first ++ more)
    (subst (λ w. NotesLosses gone w) (sym (fold-append with_tree_change gone first more))
    (losses-next gone next (with_tree_changes next more) closes.left closes.losses (all-losses entries next later apart.1 closes.tied)))

-- a client's handles, where handles are numbered: two of one number would both be gone with the first close, and then a link could go
-- before a stream does that is closed by it later
pub closing_all-noted : (v : Volume) (client : ℕ) → IsTied v → IsNumbered v.handles v.last_handle
    → NotesChanges v (with_tree_changes v (changes_closing_all v (handles_of_client v client)))
closing_all-noted v client tied numbered =
    losses-noted v _ (all-losses (handles_of_client v client) v
    (All-in_order (λ (entry : ℕ × Handle). row_of v.handles entry.0 ≡ Some entry.1) earlier own
    (All-filter of_client (λ (entry : ℕ × Handle). row_of v.handles entry.0 ≡ Some entry.1) v.handles
    (λ k d within. row_of-here v.handles v.last_handle k d numbered within)))
    (apart-in_order earlier own (apart-rising own (AllPairs-filter (λ a b. a.0 < b.0) of_client v.handles numbered.rising))) tied)
  where
    of_client : ℕ × Handle → Bool
    of_client entry = entry.1.client == client

    earlier : ℕ × Handle → ℕ × Handle → Bool
    earlier a b = nat_lt a.1.number b.1.number

    own : List (ℕ × Handle)
    own = filter of_client v.handles
