-- A close leaves nothing over: what was marked by handles that are gone goes with the last of them. What a close keeps besides is
-- that links, streams and handles are numbered; so also closes one after the other, as of a client that leaves.
use Rattle.std.proofs.Common.{◌≡◌, ℕ, suc, Bool, true, false, ◌==◌, ◌&&◌, ◌||◌, not, List, [], ◌∷◌, get_or, refl, sym, ap, subst, ◌∙◌, arith, inl, inr, Option, Some, None, eq-eqb}
use Rattle.std.specs.Prelude.{All, if◌then◌else◌}
use Rattle.std.proofs.lemmas.Bool.{cases_Bool, eqb-true}
use Rattle.std.proofs.lemmas.List.Elements.{All-filter, filter_passes}
use Rattle.fsa_types.specs.Masks.{FILE_ACTION_REMOVED, FILE_ACTION_REMOVED_STREAM, FILE_NOTIFY_CHANGE_STREAM_NAME}
use Rattle.fsa_types.specs.Rows.{IsNumbered, row_of, without_row}
use Rattle.fsa_types.specs.declared.request.What.{What}
use Rattle.fsa_types.specs.declared.reply.Body.TheVariants.{Nothing}
use Rattle.fsa_types.specs.declared.status.Status.{Status}
use Rattle.fsa_model.specs.Changes.{with_change_noted}
use Rattle.fsa_model.specs.Close.{closed_status, is_call_on, is_link_of_parent, is_link_over, is_stream_over, name_bit, named_stream, pending_by_turn, with_all_closed, with_calls_ended, with_closed, with_link_swept, with_mark_on_close, with_stream_swept, with_swept}
use Rattle.fsa_model.specs.Edits.{with_end, without_file, without_file_unless_linked, without_handle, without_link}
use Rattle.fsa_model.specs.Lookups.{has_row, is_link_marked, is_marked, is_named_stream, is_open_by, is_open_on}
use Rattle.fsa_model.specs.Volume.{Handle, Link, Pending, Stream, Volume}
use Rattle.fsa_model.proofs.RowLaws.{IsNumbered-change, IsNumbered-filter, find-none, none-all, option_cases, option_map-none, or-false, or_right, row_of-here}
use Rattle.fsa_model.proofs.CoherenceClose.{handles-noted}
use Rattle.fsa_model.proofs.GrantedLaws.{closed-handles}
use Rattle.history_laws.specs.LeftOver.{NothingIsLeftOver}
use Rattle.history_laws.proofs.OverChanges.{Over, Over-same, Over-without_link, Over-without_stream}
use Rattle.history_laws.proofs.OverKinds.{over-link_marked, over-stream_marked}
use Rattle.history_laws.proofs.TreeCloses.{without_link-handles}
use Rattle.history_laws.proofs.TreeParts.{calls_ended-handles}

-- ---- what is kept

-- nothing is left over, and links, streams and handles are numbered
pub record Tidy (v : Volume) : Type 0 where
  pub over : NothingIsLeftOver v
  pub links : IsNumbered v.links v.last_link
  pub streams : IsNumbered v.streams v.last_stream
  pub handles : IsNumbered v.handles v.last_handle

-- the same, but that what is marked passes these tests
pub record TidyBut (by on : ℕ → Bool) (v : Volume) : Type 0 where
  pub over : Over by on v
  pub links : IsNumbered v.links v.last_link
  pub streams : IsNumbered v.streams v.last_stream
  pub handles : IsNumbered v.handles v.last_handle

-- of another volume with the same
pub TidyBut-same : (by on : ℕ → Bool) (v w : Volume) → w.files ≡ v.files → w.links ≡ v.links → w.streams ≡ v.streams → w.handles ≡ v.handles
    → w.last_link ≡ v.last_link → w.last_stream ≡ v.last_stream → w.last_handle ≡ v.last_handle → TidyBut by on v → TidyBut by on w
TidyBut-same by on v w files links streams handles last_link last_stream last_handle tidy = record {
  over = Over-same by on v w files links streams tidy.over;
  links = rw (links, last_link) tidy.links;
  streams = rw (streams, last_stream) tidy.streams;
  handles = rw (handles, last_handle) tidy.handles;
}

TidyBut-noted : (by on : ℕ → Bool) (v : Volume) (link action bits : ℕ) (stream : Option ℕ) → TidyBut by on v → TidyBut by on (with_change_noted v link action bits stream)
TidyBut-noted by on v link action bits stream tidy = elim (option_cases (row_of v.links link)) [
  | inl none ↦ rw none tidy
  | inr some ↦ rw some.1 (TidyBut-same by on v _ refl refl refl refl refl refl refl tidy)
]

pub TidyBut-calls_ended : (by on : ℕ → Bool) (status_of : What → Status) (calls : List (ℕ × Pending)) (v : Volume) → TidyBut by on v → TidyBut by on (with_calls_ended status_of calls v)
TidyBut-calls_ended by on status_of [] v tidy = tidy
TidyBut-calls_ended by on status_of (entry ∷ more) v tidy =
    (let first : Volume = with_end v entry.1.call.client entry.1.call.number (record { status = status_of entry.1.call.what; body = Nothing }) in
    TidyBut-calls_ended by on status_of more first (TidyBut-same by on v first refl refl refl refl refl refl refl tidy))

-- ---- what is removed when it has no handle left

-- the stream that is swept has a handle, where it stays and is marked
TidyBut-stream_swept : (by : ℕ → Bool) (v : Volume) (link stream : ℕ) → TidyBut by (λ s. has_row (is_open_on s) v.handles || (stream == s)) v
    → TidyBut by (λ s. has_row (is_open_on s) v.handles) (with_stream_swept v link stream)
TidyBut-stream_swept by v link stream tidy = elim (cases_Bool (is_stream_over v stream)) [
  | inl over ↦ rw over (record {
    over = strict (with_change_noted v link FILE_ACTION_REMOVED_STREAM FILE_NOTIFY_CHANGE_STREAM_NAME (Some stream)) noted.over;
    links = noted.links;
    streams = IsNumbered-filter (λ (entry : ℕ × Stream). not (entry.0 == stream)) (with_change_noted v link FILE_ACTION_REMOVED_STREAM FILE_NOTIFY_CHANGE_STREAM_NAME (Some stream)).streams _ noted.streams;
    handles = noted.handles;
  })
  | inr stays ↦ rw stays (record { over = kept stays; links = tidy.links; streams = tidy.streams; handles = tidy.handles })
]
  where
    on : ℕ → Bool
    on s = has_row (is_open_on s) v.handles || (stream == s)

    noted : TidyBut by on (with_change_noted v link FILE_ACTION_REMOVED_STREAM FILE_NOTIFY_CHANGE_STREAM_NAME (Some stream))
    noted = TidyBut-noted by on v link FILE_ACTION_REMOVED_STREAM FILE_NOTIFY_CHANGE_STREAM_NAME (Some stream) tidy

    other : (s : ℕ) → not (s == stream) ≡ true → on s ≡ true → has_row (is_open_on s) v.handles ≡ true
    other s differs passes = elim (cases_Bool (stream == s)) [
      | inl same ↦ (let equal : (s == stream) ≡ true = eq-eqb s stream (sym (eqb-true stream s same)) in let impossible : false ≡ true = rw equal at differs in cc)
      | inr apart ↦ (let there : (has_row (is_open_on s) v.handles || false) ≡ true = rw apart at passes in sym (or-false (has_row (is_open_on s) v.handles)) ∙ there)
    ]

    strict : (w : Volume) → Over by on w → Over by (λ s. has_row (is_open_on s) v.handles) (record w { streams = without_row w.streams stream })
    strict w over = (let gone : Over by on (record w { streams = without_row w.streams stream }) = Over-without_stream by on w stream over in record {
      marked_links = gone.marked_links;
      marked_streams = λ k d within marked. other _ (filter_passes (λ (entry : ℕ × Stream). not (entry.0 == stream)) w.streams k d within) (gone.marked_streams k d within marked);
      files = gone.files;
      links = gone.links;
      streams = gone.streams;
    })

    kept : is_stream_over v stream ≡ false → Over by (λ s. has_row (is_open_on s) v.handles) v
    kept stays = record {
      marked_links = tidy.over.marked_links;
      marked_streams = λ k d within marked. elim (cases_Bool ((get_or v.streams k d).0 == stream)) [
        | inl here ↦ (let same : (get_or v.streams k d).0 ≡ stream = eqb-true (get_or v.streams k d).0 stream here in
            let row : row_of v.streams (get_or v.streams k d).0 ≡ Some (get_or v.streams k d).1 = row_of-here v.streams v.last_stream k d tidy.streams within in
            let row_here : row_of v.streams stream ≡ Some (get_or v.streams k d).1 = rw same at row in
            let is_it : is_marked v stream ≡ true = rw row_here marked in
            let none : (true && not (has_row (is_open_on stream) v.handles)) ≡ false = rw is_it at stays in
            rw same (elim (cases_Bool (has_row (is_open_on stream) v.handles)) [
              | inl held ↦ held
              | inr unheld ↦ (let impossible : true ≡ false = rw unheld at none in cc)
            ]))
        | inr apart ↦ other (get_or v.streams k d).0 (rw apart refl) (tidy.over.marked_streams k d within marked)
      ];
      files = tidy.over.files;
      links = tidy.over.links;
      streams = tidy.over.streams;
    }

-- the link that is swept has a handle, where it stays and is marked
TidyBut-link_swept : (on : ℕ → Bool) (v : Volume) (link : ℕ) → TidyBut (λ l. has_row (is_open_by l) v.handles || (link == l)) on v
    → TidyBut (λ l. has_row (is_open_by l) v.handles) on (with_link_swept v link)
TidyBut-link_swept on v link tidy = elim (cases_Bool (is_link_over v link)) [
  | inl over ↦ rw over (removed (with_change_noted v link FILE_ACTION_REMOVED (name_bit v link) None) noted)
  | inr stays ↦ rw stays (record { over = kept stays; links = tidy.links; streams = tidy.streams; handles = tidy.handles })
]
  where
    by : ℕ → Bool
    by l = has_row (is_open_by l) v.handles || (link == l)

    noted : TidyBut by on (with_change_noted v link FILE_ACTION_REMOVED (name_bit v link) None)
    noted = TidyBut-noted by on v link FILE_ACTION_REMOVED (name_bit v link) None tidy

    other : (l : ℕ) → not (l == link) ≡ true → by l ≡ true → has_row (is_open_by l) v.handles ≡ true
    other l differs passes = elim (cases_Bool (link == l)) [
      | inl same ↦ (let equal : (l == link) ≡ true = eq-eqb l link (sym (eqb-true link l same)) in let impossible : false ≡ true = rw equal at differs in cc)
      | inr apart ↦ (let there : (has_row (is_open_by l) v.handles || false) ≡ true = rw apart at passes in sym (or-false (has_row (is_open_by l) v.handles)) ∙ there)
    ]

    strict : (w : Volume) → Over by on w → All (λ entry. not (entry.0 == link) ≡ true) w.links → Over (λ l. has_row (is_open_by l) v.handles) on w
    strict w over gone = record {
      marked_links = λ k d within marked. other (get_or w.links k d).0 (gone k d within) (over.marked_links k d within marked);
      marked_streams = over.marked_streams;
      files = over.files;
      links = over.links;
      streams = over.streams;
    }

    removed : (w : Volume) → TidyBut by on w → TidyBut (λ l. has_row (is_open_by l) v.handles) on (without_link w link)
    removed w there = elim (option_cases (row_of w.links link)) [
      | inl none ↦ rw none (record { over = strict w there.over (none-there w none); links = there.links; streams = there.streams; handles = there.handles })
      | inr some ↦ (let gone : Over by on (without_link w link) = Over-without_link by on w link there.links there.over in
          rw some.1 (by_rest w some.0 there (rw some.1 at gone)))
    ]
      where
        none-there : (w : Volume) → row_of w.links link ≡ None → All (λ entry. not (entry.0 == link) ≡ true) w.links
        none-there w none k d within = rw (none-all (λ (entry : ℕ × Link). entry.0 == link) w.links (find-none (λ (entry : ℕ × Link). entry.0 == link) w.links (option_map-none (λ (entry : ℕ × Link). entry.1) _ none)) k d within) refl

        by_rest : (w : Volume) (row : Link) → TidyBut by on w → Over by on (without_file_unless_linked (record w { links = without_row w.links link }) row.file)
            → TidyBut (λ l. has_row (is_open_by l) v.handles) on (without_file_unless_linked (record w { links = without_row w.links link }) row.file)
        by_rest w row there gone = elim (cases_Bool (has_row (λ l. l.file == row.file) (without_row w.links link))) [
          | inl linked ↦ (let over : Over by on (record w { links = without_row w.links link }) = rw linked at gone in
              rw linked (record {
                over = strict (record w { links = without_row w.links link }) over (filter_passes (λ (entry : ℕ × Link). not (entry.0 == link)) w.links);
                links = IsNumbered-filter (λ (entry : ℕ × Link). not (entry.0 == link)) w.links w.last_link there.links;
                streams = there.streams;
                handles = there.handles;
              }))
          | inr unlinked ↦ (let over : Over by on (without_file (record w { links = without_row w.links link }) row.file) = rw unlinked at gone in
              rw unlinked (record {
                over = strict (without_file (record w { links = without_row w.links link }) row.file) over (filter_passes (λ (entry : ℕ × Link). not (entry.0 == link)) w.links);
                links = IsNumbered-filter (λ (entry : ℕ × Link). not (entry.0 == link)) w.links w.last_link there.links;
                streams = IsNumbered-filter (λ (entry : ℕ × Stream). not (entry.1.file == row.file)) w.streams w.last_stream there.streams;
                handles = there.handles;
              }))
        ]

    kept : is_link_over v link ≡ false → Over (λ l. has_row (is_open_by l) v.handles) on v
    kept stays = record {
      marked_links = λ k d within marked. elim (cases_Bool ((get_or v.links k d).0 == link)) [
        | inl here ↦ (let same : (get_or v.links k d).0 ≡ link = eqb-true (get_or v.links k d).0 link here in
            let row : row_of v.links (get_or v.links k d).0 ≡ Some (get_or v.links k d).1 = row_of-here v.links v.last_link k d tidy.links within in
            let row_here : row_of v.links link ≡ Some (get_or v.links k d).1 = rw same at row in
            let is_it : is_link_marked v link ≡ true = rw row_here marked in
            let none : (true && not (has_row (is_open_by link) v.handles)) ≡ false = rw is_it at stays in
            rw same (elim (cases_Bool (has_row (is_open_by link) v.handles)) [
              | inl held ↦ held
              | inr unheld ↦ (let impossible : true ≡ false = rw unheld at none in cc)
            ]))
        | inr apart ↦ other (get_or v.links k d).0 (rw apart refl) (tidy.over.marked_links k d within marked)
      ];
      marked_streams = tidy.over.marked_streams;
      files = tidy.over.files;
      links = tidy.over.links;
      streams = tidy.over.streams;
    }

-- ---- a handle's close

TidyBut-weaker : (by on by_now on_now : ℕ → Bool) (v : Volume) → ((l : ℕ) → by l ≡ true → by_now l ≡ true) → ((s : ℕ) → on s ≡ true → on_now s ≡ true)
    → TidyBut by on v → TidyBut by_now on_now v
TidyBut-weaker by on by_now on_now v links streams tidy = record {
  over = record {
    marked_links = λ k d within marked. links (get_or v.links k d).0 (tidy.over.marked_links k d within marked);
    marked_streams = λ k d within marked. streams (get_or v.streams k d).0 (tidy.over.marked_streams k d within marked);
    files = tidy.over.files;
    links = tidy.over.links;
    streams = tidy.over.streams;
  };
  links = tidy.links;
  streams = tidy.streams;
  handles = tidy.handles;
}

-- with DELETE_ON_CLOSE what was opened by the handle, or is open on its stream, may be marked
TidyBut-marked : (by on : ℕ → Bool) (v : Volume) (handle : Handle) → by handle.link ≡ true → ((s : ℕ) → handle.stream ≡ Some s → on s ≡ true)
    → TidyBut by on v → TidyBut by on (with_mark_on_close v handle)
TidyBut-marked by on v handle link_held stream_held tidy = elim (cases_Bool handle.delete_on_close) [
  | inr without ↦ rw without tidy
  | inl deletes ↦ rw deletes (elim (option_cases (named_stream v handle)) [
    | inl none ↦ rw none (elim (cases_Bool (is_link_of_parent v handle.link)) [
      | inl parent ↦ rw parent tidy
      | inr childless ↦ rw childless (record {
        over = over-link_marked by on v handle.link true (λ is. link_held) tidy.over;
        links = IsNumbered-change (λ (row : Link). record row { deleted = true }) v.links v.last_link handle.link tidy.links;
        streams = tidy.streams;
        handles = tidy.handles;
      })
    ])
    | inr some ↦ rw some.1 (record {
      over = over-stream_marked by on v some.0 true (λ is. stream_held some.0 (named-is some.0 some.1)) tidy.over;
      links = tidy.links;
      streams = IsNumbered-change (λ (row : Stream). record row { deleted = true }) v.streams v.last_stream some.0 tidy.streams;
      handles = tidy.handles;
    })
  ])
]
  where
    named-is : (s : ℕ) → named_stream v handle ≡ Some s → handle.stream ≡ Some s
    named-is s is = elim (option_cases handle.stream) [
      | inl none ↦ (let impossible : None ≡ Some s = rw none at is in cc)
      | inr some ↦ (let by_name : (if is_named_stream v some.0 then Some some.0 else None) ≡ Some s = rw some.1 at is in
          elim (cases_Bool (is_named_stream v some.0)) [
            | inl named ↦ some.1 ∙ rw named at by_name
            | inr default ↦ (let impossible : None ≡ Some s = rw default at by_name in cc)
          ])
    ]

-- a handle that passes a test is among the others, or is this one
open-split : (test : Handle → Bool) (handles : List (ℕ × Handle)) (id : ℕ) (handle : Handle) → All (λ entry. (entry.0 == id) ≡ true → entry.1 ≡ handle) handles
    → has_row test handles ≡ true → (has_row test (without_row handles id) || test handle) ≡ true
open-split test [] id handle same some = cc
open-split test (x ∷ xs) id handle same some = elim (cases_Bool (x.0 == id)) [
  | inl here ↦ (let is : x.1 ≡ handle = same 0 x (omega arith) here in
      rw here (elim (cases_Bool (test x.1)) [
        | inl passes ↦ or_right (has_row test (without_row xs id)) (test handle) (sym (ap test is) ∙ passes)
        | inr fails ↦ open-split test xs id handle (λ k d within. same (suc k) d (omega arith)) (rw fails at some)
      ]))
  | inr apart ↦ rw apart (elim (cases_Bool (test x.1)) [
    | inl passes ↦ rw passes refl
    | inr fails ↦ rw fails (open-split test xs id handle (λ k d within. same (suc k) d (omega arith)) (rw fails at some))
  ])
]

mark-handles : (v : Volume) (handle : Handle) → (with_mark_on_close v handle).handles ≡ v.handles
mark-handles v handle = elim (cases_Bool handle.delete_on_close) [
  | inr without ↦ rw without refl
  | inl deletes ↦ rw deletes (elim (option_cases (named_stream v handle)) [
    | inl none ↦ rw none (elim (cases_Bool (is_link_of_parent v handle.link)) [ inl parent ↦ rw parent refl | inr childless ↦ rw childless refl ])
    | inr some ↦ rw some.1 refl
  ])
]

stream_swept-handles : (v : Volume) (link stream : ℕ) → (with_stream_swept v link stream).handles ≡ v.handles
stream_swept-handles v link stream = elim (cases_Bool (is_stream_over v stream)) [
  | inl over ↦ rw over (handles-noted v link FILE_ACTION_REMOVED_STREAM FILE_NOTIFY_CHANGE_STREAM_NAME (Some stream))
  | inr stays ↦ rw stays refl
]

link_swept-handles : (v : Volume) (link : ℕ) → (with_link_swept v link).handles ≡ v.handles
link_swept-handles v link = elim (cases_Bool (is_link_over v link)) [
  | inl over ↦ rw over (without_link-handles (with_change_noted v link FILE_ACTION_REMOVED (name_bit v link) None) link ∙ handles-noted v link FILE_ACTION_REMOVED (name_bit v link) None)
  | inr stays ↦ rw stays refl
]

swept-handles : (v : Volume) (handle : Handle) → (with_swept v handle).handles ≡ v.handles
swept-handles v handle = elim (option_cases handle.stream) [
  | inl none ↦ rw none (link_swept-handles v handle.link)
  | inr some ↦ rw some.1 (link_swept-handles (with_stream_swept v handle.link some.0) handle.link ∙ stream_swept-handles v handle.link some.0)
]

-- both sweeps, where what is marked has a handle left or was opened by this one
TidyBut-swept : (v : Volume) (handle : Handle) → TidyBut (λ l. has_row (is_open_by l) v.handles || (handle.link == l)) (λ s. has_row (is_open_on s) v.handles || is_open_on s handle) v
    → TidyBut (λ l. has_row (is_open_by l) v.handles) (λ s. has_row (is_open_on s) v.handles) (with_swept v handle)
TidyBut-swept v handle tidy = elim (option_cases handle.stream) [
  | inl none ↦ rw none (TidyBut-link_swept on v handle.link
      (TidyBut-weaker by (λ s. has_row (is_open_on s) v.handles || is_open_on s handle) by on v (λ l is. is)
      (λ s is. (let there : (has_row (is_open_on s) v.handles || false) ≡ true = rw none at is in sym (or-false (has_row (is_open_on s) v.handles)) ∙ there)) tidy))
  | inr some ↦ rw some.1 (swept some.0 (TidyBut-stream_swept by v handle.link some.0 (rw some.1 at tidy)))
]
  where
    by : ℕ → Bool
    by l = has_row (is_open_by l) v.handles || (handle.link == l)

    on : ℕ → Bool
    on s = has_row (is_open_on s) v.handles

    swept : (stream : ℕ) → TidyBut by on (with_stream_swept v handle.link stream)
        → TidyBut (λ l. has_row (is_open_by l) v.handles) on (with_link_swept (with_stream_swept v handle.link stream) handle.link)
    swept stream there =
        let same : (with_stream_swept v handle.link stream).handles ≡ v.handles = stream_swept-handles v handle.link stream in
        subst (λ handles. TidyBut (λ l. has_row (is_open_by l) handles) on (with_link_swept (with_stream_swept v handle.link stream) handle.link)) same
        (TidyBut-link_swept on (with_stream_swept v handle.link stream) handle.link
        (subst (λ handles. TidyBut (λ l. has_row (is_open_by l) handles || (handle.link == l)) on (with_stream_swept v handle.link stream)) (sym same) there))

-- handles of one number are the same
abbrev pub AreOne : ℕ → Handle → List (ℕ × Handle) → Type 0
AreOne id handle handles = All (λ entry. (entry.0 == id) ≡ true → entry.1 ≡ handle) handles

-- nothing is left over by a close
pub closed-tidy : (v : Volume) (id : ℕ) (handle : Handle) → AreOne id handle v.handles → Tidy v → Tidy (with_closed v id handle)
unfolding with_closed
closed-tidy v id handle one tidy = whole (without_handle ended id) (ap (λ handles. without_row handles id) same) gone
  where
    by : ℕ → Bool
    by l = has_row (is_open_by l) (without_row v.handles id) || (handle.link == l)

    on : ℕ → Bool
    on s = has_row (is_open_on s) (without_row v.handles id) || is_open_on s handle

    start : TidyBut by on v
    start = record {
      over = record {
        marked_links = λ k d within marked. open-split (is_open_by (get_or v.links k d).0) v.handles id handle one (tidy.over.marked_links k d within marked);
        marked_streams = λ k d within marked. open-split (is_open_on (get_or v.streams k d).0) v.handles id handle one (tidy.over.marked_streams k d within marked);
        files = tidy.over.files;
        links = tidy.over.links;
        streams = tidy.over.streams;
      };
      links = tidy.links;
      streams = tidy.streams;
      handles = tidy.handles;
    }

    ended : Volume
    ended = with_calls_ended closed_status (pending_by_turn (is_call_on handle) v) v

    same : ended.handles ≡ v.handles
    same = calls_ended-handles closed_status (pending_by_turn (is_call_on handle) v) v

    after : TidyBut by on ended
    after = TidyBut-calls_ended by on closed_status (pending_by_turn (is_call_on handle) v) v start

    gone : TidyBut by on (without_handle ended id)
    gone = record {
      over = Over-same by on ended (without_handle ended id) refl refl refl after.over;
      links = after.links;
      streams = after.streams;
      handles = IsNumbered-filter (λ (entry : ℕ × Handle). not (entry.0 == id)) ended.handles ended.last_handle after.handles;
    }

    on_stream : (s : ℕ) → handle.stream ≡ Some s → on s ≡ true
    on_stream s is = or_right (has_row (is_open_on s) (without_row v.handles id)) (is_open_on s handle) (rw is (eq-eqb s s refl))

    ends : (w : Volume) → TidyBut (λ l. has_row (is_open_by l) w.handles) (λ s. has_row (is_open_on s) w.handles) (with_swept w handle) → Tidy (with_swept w handle)
    ends w it = (let same_now : (with_swept w handle).handles ≡ w.handles = swept-handles w handle in record {
      over = record {
        marked_links = λ k d within marked. rw same_now (it.over.marked_links k d within marked);
        marked_streams = λ k d within marked. rw same_now (it.over.marked_streams k d within marked);
        files = it.over.files;
        links = it.over.links;
        streams = it.over.streams;
      };
      links = it.links;
      streams = it.streams;
      handles = it.handles;
    })

    whole : (u : Volume) → u.handles ≡ without_row v.handles id → TidyBut by on u → Tidy (with_swept (with_mark_on_close u handle) handle)
    whole u left there =
        let marked : TidyBut by on (with_mark_on_close u handle)
        = TidyBut-marked by on u handle (or_right (has_row (is_open_by handle.link) (without_row v.handles id)) (handle.link == handle.link) (eq-eqb handle.link handle.link refl)) on_stream there in
        let handles : (with_mark_on_close u handle).handles ≡ without_row v.handles id = mark-handles u handle ∙ left in
        ends (with_mark_on_close u handle) (TidyBut-swept (with_mark_on_close u handle) handle
        (subst (λ rows. TidyBut (λ l. has_row (is_open_by l) rows || (handle.link == l)) (λ s. has_row (is_open_on s) rows || is_open_on s handle) (with_mark_on_close u handle)) (sym handles) marked))

-- nor by closes one after the other
pub all_closed-tidy : (handles : List (ℕ × Handle)) (v : Volume) → All (λ entry. AreOne entry.0 entry.1 v.handles) handles → Tidy v → Tidy (with_all_closed handles v)
all_closed-tidy [] v one tidy = tidy
all_closed-tidy (entry ∷ more) v one tidy =
    all_closed-tidy more (with_closed v entry.0 entry.1)
    (λ k d within. subst (λ rows. AreOne (get_or more k d).0 (get_or more k d).1 rows) (sym (closed-handles v entry.0 entry.1))
    (All-filter (λ (e : ℕ × Handle). not (e.0 == entry.0)) (λ e. (e.0 == (get_or more k d).0) ≡ true → e.1 ≡ (get_or more k d).1) v.handles (one (suc k) d (omega arith))))
    (closed-tidy v entry.0 entry.1 (one 0 entry (omega arith)) tidy)
