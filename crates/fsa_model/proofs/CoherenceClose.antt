-- A close and a leaving are coherent: handles go, and streams and links without handles.
use Rattle.std.proofs.Common.{◌≡◌, ℕ, Bool, true, false, ◌==◌, not, List, [], ◌∷◌, refl, ap, sym, ◌∙◌, Option, Some, None, inl, inr, ◌⊎◌}
use Rattle.std.specs.Option.{option_map_or}
use Rattle.std.specs.Prelude.{filter, find}
use Rattle.std.proofs.lemmas.Bool.{cases_Bool, eqb-true, false≢true, and_parts, not_from_false, not-true}
use Rattle.fsa_types.specs.declared.reply.Body.TheVariants.{Nothing}
use Rattle.fsa_types.specs.declared.request.What.{What}
use Rattle.fsa_types.specs.declared.status.Status.{Status}
use Rattle.fsa_types.specs.declared.status.Status.TheVariants.{Cancelled}
use Rattle.fsa_types.specs.Rows.{row_of, without_row, with_row_changed}
use Rattle.fsa_model.specs.Changes.{with_change_noted}
use Rattle.fsa_model.specs.Close.{is_call_on, closed_status, is_left_behind, pending_by_turn, with_calls_ended, named_stream, is_link_of_parent, with_mark_on_close, is_stream_over, with_stream_swept, is_link_over, name_bit, with_link_swept, with_swept, with_closed, close_at, try_close, handles_of_client, with_all_closed, with_client_gone, try_leave}
use Rattle.fsa_model.specs.Coherence.{caches_reads, counts_on_reads, has_living_stream, IsTied}
use Rattle.fsa_model.specs.Edits.{with_end, with_link_marked, with_stream_marked, without_handle, without_file, without_link, without_stream}
use Rattle.fsa_model.specs.Lookups.{handle_of, has_row, is_open_on, is_open_by}
use Rattle.fsa_model.specs.Outcome.{Outcome}
use Rattle.fsa_model.specs.Turn.{volume_after}
use Rattle.fsa_model.specs.Volume.{Stream, Handle, Oplock, Pending, Volume}
use Rattle.fsa_model.proofs.CoherenceData.{Behaves, Behaves-option, Behaves-refused}
use Rattle.fsa_model.proofs.CoherenceEdits.{row_of-kept, row_of-filter_none, row_of-changed, Lives, Lives-from, IsTied-stream_changed, IsTied-link_changed}
use Rattle.fsa_model.proofs.CoherenceEnds.{counts-same, Gone}
use Rattle.fsa_model.proofs.CoherenceFalls.{Falls, Falls-next, Falls-opens, Falls-same, Falls-untouched, Falls-without_handle}
use Rattle.fsa_model.proofs.CoherenceGone.{IsTied-without_handle, IsTied-without_row, IsTied-without_stream, IsTied-without_link, other_file}
use Rattle.fsa_model.proofs.CoherenceSteps.{Leaves, Leaves-next, KeepsBytes-leaves}
use Rattle.fsa_model.proofs.CoherenceTied.{IsUntouched-noted, IsUntouched-with_end, IsTied-alike, IsUntouched}
use Rattle.fsa_model.proofs.RowLaws.{option_cases, row_of-all, none-all}

-- handles, streams and links went, coherence rests on what is left, and all handles count that did and are left
pub record Left (v w : Volume) : Type 0 where
  pub tied : IsTied w
  pub leaves : Leaves v w
  pub counts : (handle : ℕ) → counts_on_reads v handle ≡ true → (counts_on_reads w handle ≡ true) ⊎ (row_of w.handles handle ≡ None)
  pub falls : Falls v w

pub Left-same : (v : Volume) → IsTied v → Left v v
Left-same v tied = record {
  falls = Falls-same v;
  tied = tied;
  leaves = record { handles = λ handle row living. living; bytes = λ handle row stream living has. refl };
  counts = λ handle counts. inl counts;
}

pub Left-next : (u v w : Volume) → Left u v → (IsTied v → Left v w) → Left u w
Left-next u v w first second = (let next : Left v w = second first.tied in record {
  tied = next.tied;
  falls = Falls-next u v w first.falls next.falls;
  leaves = Leaves-next u v w first.leaves next.leaves;
  counts = λ handle counts. elim (first.counts handle counts) [
    | inl still ↦ next.counts handle still
    | inr gone ↦ inr (elim (option_cases (row_of w.handles handle)) [
      | inl none ↦ none
      | inr some ↦ (let there : row_of v.handles handle ≡ Some some.0 = next.leaves.handles handle some.0 some.1 in
          let impossible : Some some.0 ≡ None = sym there ∙ gone in cc)
    ])
  ];
})

pub Left-alike : (v w : Volume) → IsUntouched v w → IsTied v → Left v w
Left-alike v w alike tied = record {
  falls = Falls-untouched v w alike;
  counts = λ handle counts. inl (counts-same v w handle alike.oplocks ∙ counts);
  tied = IsTied-alike v w alike tied;
  leaves = record { handles = λ handle row living. rw alike.handles at living; bytes = λ handle row stream living has. rw alike.streams refl };
}

-- ---- calls end

Left-calls : (status_of : What → Status) (calls : List (ℕ × Pending)) (v : Volume) → IsTied v → Left v (with_calls_ended status_of calls v)
Left-calls status_of [] v tied = Left-same v tied
Left-calls status_of (call ∷ calls) v tied =
    let w : Volume = with_end v call.1.call.client call.1.call.number (record { status = status_of call.1.call.what; body = Nothing }) in
    Left-next v w _ (Left-alike v w (IsUntouched-with_end v _ _ _) tied) (λ next. Left-calls status_of calls w next)

-- ---- the handle goes

row_of-gone : {R : Type 0} (rows : List (ℕ × R)) (id : ℕ) → row_of (without_row rows id) id ≡ None
row_of-gone [] id = refl
row_of-gone (x ∷ rows) id = elim (cases_Bool (x.0 == id)) [
  | inl here ↦ rw here (row_of-gone rows id)
  | inr other ↦ rw (other, other) (row_of-gone rows id)
]

row_of-before : {R : Type 0} (rows : List (ℕ × R)) (gone id : ℕ) (row : R) → row_of (without_row rows gone) id ≡ Some row → row_of rows id ≡ Some row
row_of-before rows gone id row found = elim (cases_Bool (id == gone)) [
  | inl here ↦ (let same : id ≡ gone = eqb-true id gone here in
      let nothing : row_of (without_row rows gone) id ≡ None = rw same (row_of-gone rows gone) in
      let impossible : Some row ≡ None = sym found ∙ nothing in cc)
  | inr other ↦ elim (option_cases (row_of rows id)) [
    | inl none ↦ (let impossible : Some row ≡ None = sym found ∙ row_of-filter_none (λ entry. not (entry.0 == gone)) rows id none in cc)
    | inr some ↦ some.1 ∙ sym (row_of-kept (λ entry. not (entry.0 == gone)) rows id some.0 some.1 (not_from_false _ other)) ∙ found
  ]
]

oplock-kept : (oplocks : List Oplock) (handle gone : ℕ) → (handle == gone) ≡ false
    → find (λ o. o.handle == handle) (filter (λ o. not (o.handle == gone)) oplocks) ≡ find (λ o. o.handle == handle) oplocks
oplock-kept [] handle gone other = refl
oplock-kept (o ∷ oplocks) handle gone other = elim (cases_Bool (o.handle == handle)) [
  | inl here ↦ (let is : o.handle ≡ handle = eqb-true o.handle handle here in
      let stays : (o.handle == gone) ≡ false = rw is other in rw (stays, here) refl)
  | inr elsewhere ↦ elim (cases_Bool (o.handle == gone)) [
    | inl goes ↦ rw (goes, elsewhere) (oplock-kept oplocks handle gone other)
    | inr stays ↦ rw (stays, elsewhere) (oplock-kept oplocks handle gone other)
  ]
]

Left-without_handle : (v : Volume) (id : ℕ) → IsTied v → Left v (without_handle v id)
Left-without_handle v id tied = record {
  falls = Falls-without_handle v id (λ handle row living. row_of-before v.handles id handle row living);
  counts = λ handle counts. elim (cases_Bool (handle == id)) [
    | inl here ↦ (let same : handle ≡ id = eqb-true handle id here in inr (rw same (row_of-gone v.handles id)))
    | inr other ↦ inl (ap (λ found. option_map_or caches_reads found false) (oplock-kept v.oplocks handle id other) ∙ counts)
  ];
  tied = IsTied-without_handle v id tied;
  leaves = record { handles = λ handle row living. row_of-before v.handles id handle row living; bytes = λ handle row stream living has. refl };
}

-- ---- what is deleted with it is marked

pub bytes-marked : (streams : List (ℕ × Stream)) (at id : ℕ) (deleted : Bool)
    → option_map_or (λ row. row.bytes) (row_of (with_row_changed (λ (row : Stream). record row { deleted = deleted }) streams at) id) [] ≡ option_map_or (λ row. row.bytes) (row_of streams id) []
bytes-marked streams at id deleted =
    ap (λ found. option_map_or (λ (row : Stream). row.bytes) found []) (row_of-changed (λ (row : Stream). record row { deleted = deleted }) streams at id)
    ∙ elim (option_cases (row_of streams id)) [
      | inl none ↦ rw none refl
      | inr some ↦ rw some.1 (elim (cases_Bool (id == at)) [ inl here ↦ rw here refl | inr other ↦ rw other refl ])
    ]

Left-stream_marked : (v : Volume) (stream : ℕ) → IsTied v → Left v (with_stream_marked v stream true)
Left-stream_marked v stream tied = record {
  falls = Falls-opens v (with_stream_marked v stream true) refl refl;
  counts = λ handle counts. inl counts;
  tied = IsTied-stream_changed v (λ row. record row { deleted = true }) stream (λ row. refl) tied;
  leaves = record { handles = λ handle row living. living; bytes = λ handle row of_it living has. bytes-marked v.streams stream of_it true };
}

Left-link_marked : (v : Volume) (link : ℕ) → IsTied v → Left v (with_link_marked v link true)
Left-link_marked v link tied = record {
  falls = Falls-opens v (with_link_marked v link true) refl refl;
  counts = λ handle counts. inl counts;
  tied = IsTied-link_changed v (λ row. record row { deleted = true }) link (λ row. refl) tied;
  leaves = record { handles = λ handle row living. living; bytes = λ handle row stream living has. refl };
}

Left-mark_on_close : (v : Volume) (handle : Handle) → IsTied v → Left v (with_mark_on_close v handle)
Left-mark_on_close v handle tied = elim (cases_Bool (not handle.delete_on_close)) [
  | inl stays ↦ rw stays (Left-same v tied)
  | inr deletes ↦ rw deletes (elim (option_cases (named_stream v handle)) [
    | inl none ↦ rw none (elim (cases_Bool (is_link_of_parent v handle.link)) [
      | inl is ↦ rw is (Left-same v tied)
      | inr isnt ↦ rw isnt (Left-link_marked v handle.link tied)
    ])
    | inr some ↦ rw some.1 (Left-stream_marked v some.0 tied)
  ])
]

-- ---- what is marked and has no handle goes

pub Left-noted : (v : Volume) (link action bits : ℕ) (stream : Option ℕ) → IsTied v → Left v (with_change_noted v link action bits stream)
Left-noted v link action bits stream tied = Left-alike v _ (IsUntouched-noted v link action bits stream) tied

Left-without_stream : (v : Volume) (gone : ℕ) → has_row (is_open_on gone) v.handles ≡ false → IsTied v → Left v (without_stream v gone)
Left-without_stream v gone none tied = record {
  falls = Falls-opens v (without_stream v gone) refl refl;
  counts = λ handle counts. inl counts;
  tied = IsTied-without_stream v gone none tied;
  leaves = record {
    handles = λ handle row living. living;
    bytes = λ handle row stream living has.
        let closed : is_open_on gone row ≡ false = row_of-all (λ (r : Handle). is_open_on gone r ≡ false) v.handles handle row living (none-all (λ entry. is_open_on gone entry.1) v.handles none) in
        let other : (stream == gone) ≡ false = rw has at closed in
        elim (option_cases (row_of v.streams stream)) [
          | inl nothing ↦ rw (nothing, row_of-filter_none (λ entry. not (entry.0 == gone)) v.streams stream nothing) refl
          | inr some ↦ rw (some.1, row_of-kept (λ entry. not (entry.0 == gone)) v.streams stream some.0 some.1 (not_from_false _ other)) refl
        ];
  };
}

-- noting doesn't touch the handles
pub handles-noted : (v : Volume) (link action bits : ℕ) (stream : Option ℕ) → (with_change_noted v link action bits stream).handles ≡ v.handles
handles-noted v link action bits stream = IsUntouched.handles (IsUntouched-noted v link action bits stream)

Left-stream_swept : (v : Volume) (link stream : ℕ) → IsTied v → Left v (with_stream_swept v link stream)
Left-stream_swept v link stream tied = elim (cases_Bool (is_stream_over v stream)) [
  | inl over ↦ (let n : Volume = with_change_noted v link 7 0x200 (Some stream) in
      let none : has_row (is_open_on stream) v.handles ≡ false = not-true _ (and_parts _ _ over).1 in
      let none_noted : has_row (is_open_on stream) n.handles ≡ false = ap (λ handles. has_row (is_open_on stream) handles) (handles-noted v link 7 0x200 (Some stream)) ∙ none in
      rw over (Left-next v n (without_stream n stream) (Left-noted v link 7 0x200 (Some stream) tied) (λ next. Left-without_stream n stream none_noted next)))
  | inr stays ↦ rw stays (Left-same v tied)
]

-- the bytes under handles, where a link without handles goes, and with it its file
Leaves-without_file : (v : Volume) (file : ℕ) → has_row (λ link. link.file == file) v.links ≡ false → IsTied v → Leaves v (without_file v file)
Leaves-without_file v file none tied = record {
  handles = λ handle row living. living;
  bytes = λ handle row stream living has.
      let lives : Lives v.links v.streams row.link stream = Lives-from v.links v.streams row stream has
      (row_of-all (λ (r : Handle). has_living_stream v.links v.streams r ≡ true) v.handles handle row living tied.streams_live) in
      let other : (lives.a_stream.file == file) ≡ false = rw (← lives.one_file) (other_file v.links row.link file lives.a_link lives.of_link none) in
      rw (lives.of_stream, row_of-kept (λ entry. not (entry.1.file == file)) v.streams stream lives.a_stream lives.of_stream (not_from_false _ other)) refl;
}

Leaves-without_link : (v : Volume) (link : ℕ) → IsTied (record v { links = without_row v.links link }) → Leaves v (without_link v link)
Leaves-without_link v link tied = elim (option_cases (row_of v.links link)) [
  | inl none ↦ rw none same
  | inr some ↦ rw some.1 (elim (cases_Bool (has_row (λ l. l.file == some.0.file) (without_row v.links link))) [
    | inl linked ↦ rw linked (record { handles = λ handle row living. living; bytes = λ handle row stream living has. refl })
    | inr unlinked ↦ rw unlinked (let gone : Leaves (record v { links = without_row v.links link }) (without_file (record v { links = without_row v.links link }) some.0.file)
        = Leaves-without_file (record v { links = without_row v.links link }) some.0.file unlinked tied in
        record { handles = gone.handles; bytes = gone.bytes })
  ])
]
  where
    same : Leaves v v
    same = record { handles = λ handle row living. living; bytes = λ handle row stream living has. refl }

oplocks-without_link : (v : Volume) (link : ℕ) → (without_link v link).oplocks ≡ v.oplocks
oplocks-without_link v link = elim (option_cases (row_of v.links link)) [
  | inl none ↦ rw none refl
  | inr some ↦ rw some.1 (elim (cases_Bool (has_row (λ l. l.file == some.0.file) (without_row v.links link))) [ inl linked ↦ rw linked refl | inr unlinked ↦ rw unlinked refl ])
]

handles-without_link : (v : Volume) (link : ℕ) → (without_link v link).handles ≡ v.handles
handles-without_link v link = elim (option_cases (row_of v.links link)) [
  | inl none ↦ rw none refl
  | inr some ↦ rw some.1 (elim (cases_Bool (has_row (λ l. l.file == some.0.file) (without_row v.links link))) [ inl linked ↦ rw linked refl | inr unlinked ↦ rw unlinked refl ])
]

pub Left-without_link : (v : Volume) (link : ℕ) → has_row (is_open_by link) v.handles ≡ false → IsTied v → Left v (without_link v link)
Left-without_link v link none tied = record {
  falls = Falls-opens v (without_link v link) (handles-without_link v link) (oplocks-without_link v link);
  counts = λ handle counts. inl (counts-same v (without_link v link) handle (oplocks-without_link v link) ∙ counts);
  tied = IsTied-without_link v link none tied;
  leaves = Leaves-without_link v link (IsTied-without_row v link none tied);
}

Left-link_swept : (v : Volume) (link : ℕ) → IsTied v → Left v (with_link_swept v link)
Left-link_swept v link tied = elim (cases_Bool (is_link_over v link)) [
  | inl over ↦ (let n : Volume = with_change_noted v link 2 (name_bit v link) None in
      let none : has_row (is_open_by link) v.handles ≡ false = not-true _ (and_parts _ _ over).1 in
      let none_noted : has_row (is_open_by link) n.handles ≡ false = ap (λ handles. has_row (is_open_by link) handles) (handles-noted v link 2 (name_bit v link) None) ∙ none in
      rw over (Left-next v n (without_link n link) (Left-noted v link 2 (name_bit v link) None tied) (λ next. Left-without_link n link none_noted next)))
  | inr stays ↦ rw stays (Left-same v tied)
]

Left-swept : (v : Volume) (handle : Handle) → IsTied v → Left v (with_swept v handle)
Left-swept v handle tied = elim (option_cases handle.stream) [
  | inl none ↦ rw none (Left-link_swept v handle.link tied)
  | inr some ↦ rw some.1 (Left-next v (with_stream_swept v handle.link some.0) _ (Left-stream_swept v handle.link some.0 tied) (λ next. Left-link_swept _ handle.link next))
]

Left-closed : (v : Volume) (id : ℕ) (handle : Handle) → IsTied v → Left v (with_closed v id handle)
unfolding with_closed
Left-closed v id handle tied =
    let ended : Volume = with_calls_ended closed_status (pending_by_turn (is_call_on handle) v) v in
    let gone : Volume = without_handle ended id in
    let marked : Volume = with_mark_on_close gone handle in
    Left-next v marked _ (Left-next v gone marked (Left-next v ended gone (Left-calls closed_status (pending_by_turn (is_call_on handle) v) v tied)
    (λ next. Left-without_handle ended id next)) (λ next. Left-mark_on_close gone handle next)) (λ next. Left-swept marked handle next)

-- ---- the calls

pub Behaves-left : (v w : Volume) (acting : Option ℕ) (key : ℕ) (outcome : Outcome) → volume_after outcome ≡ w → Left v w → Behaves v acting key outcome
Behaves-left v w acting key outcome is left = record {
  tied = rw is left.tied;
  falls = rw is left.falls;
  coherent = rw is (KeepsBytes-leaves v w acting key left.tied left.leaves);
  ends = λ handle before after. elim (left.counts handle before) [
    | inl still ↦ absurd (false≢true (sym (rw is at after) ∙ still))
    | inr gone ↦ Gone (rw is gone)
  ];
}

Behaves-close_at : (v : Volume) (acting : Option ℕ) (key id : ℕ) → IsTied v → Behaves v acting key (close_at v id)
unfolding close_at
Behaves-close_at v acting key id tied =
    Behaves-option (row_of v.handles id) _ _ (λ handle is. Behaves-left v (with_closed v id handle) acting key _ refl (Left-closed v id handle tied)) (Behaves-refused v _ _ _ tied)

pub Behaves-close : (v : Volume) (acting : Option ℕ) (key client handle : ℕ) → IsTied v → Behaves v acting key (try_close v client handle)
unfolding try_close
Behaves-close v acting key client handle tied =
    Behaves-option (handle_of v client handle) _ _ (λ id is. Behaves-close_at v acting key id tied) (Behaves-refused v _ _ _ tied)

Left-all_closed : (handles : List (ℕ × Handle)) (v : Volume) → IsTied v → Left v (with_all_closed handles v)
Left-all_closed [] v tied = Left-same v tied
Left-all_closed (handle ∷ handles) v tied =
    Left-next v (with_closed v handle.0 handle.1) _ (Left-closed v handle.0 handle.1 tied) (λ next. Left-all_closed handles (with_closed v handle.0 handle.1) next)

Left-gone : (v : Volume) (client : ℕ) → IsTied v → Left v (with_client_gone v client)
unfolding with_client_gone
Left-gone v client tied =
    let ended : Volume = with_calls_ended (λ _. Cancelled) (pending_by_turn (is_left_behind client) v) v in
    let closed : Volume = with_all_closed (handles_of_client v client) ended in
    Left-next v closed _ (Left-next v ended closed (Left-calls (λ _. Cancelled) (pending_by_turn (is_left_behind client) v) v tied)
    (λ next. Left-all_closed (handles_of_client v client) ended next))
    (λ next. Left-alike closed _ (record { oplocks = refl; handles = refl; links = refl; streams = refl; last_link = refl; last_stream = refl; root = λ root. root }) next)

pub Behaves-leave : (v : Volume) (acting : Option ℕ) (key client : ℕ) → IsTied v → Behaves v acting key (try_leave v client)
unfolding try_leave
Behaves-leave v acting key client tied = Behaves-left v (with_client_gone v client) acting key _ refl (Left-gone v client tied)
