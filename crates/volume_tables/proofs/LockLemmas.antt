-- The locks on a stream, as handles and locks are added and taken out.
use Rattle.std.proofs.Common.{◌≡◌, ℕ, suc, ◌+◌, ◌<◌, ◌≤◌, Bool, true, false, not, List, [], ◌∷◌, ◌++◌, get_or, refl, ap, sym, ◌∙◌, arith, inl, inr, Option, Some, None, eq-eqb}
use Rattle.std.specs.List.{filter, All, find, list_any}
use Rattle.std.specs.Option.{option_map_or}
use Rattle.std.specs.Prelude.{◌==◌, map, is_some, IfSome, IfNone, if◌then◌else◌}
use Rattle.std.proofs.lemmas.Bool.{cases_Bool, eqb-true, both_ways, ne_eqb, and_parts, not-true}
use Rattle.std.proofs.lemmas.List.{append-nil, map-append}
use Rattle.std.proofs.lemmas.List.Elements.{filter-append, All-push, All-filter, filter_passes}
use Rattle.fsa_types.specs.Ranges.{without_first}
use Rattle.fsa_types.specs.Rows.{row_of, lives, without_row, with_row_changed, IsNumbered}
use Rattle.fsa_types.proofs.RowLemmas.{AreRising, AreRising-rest, AreRising-first, without_row-above}
use Rattle.fsa_model.specs.Edits.{is_lock_on}
use Rattle.fsa_model.specs.Lookups.{is_open_on, number_of}
use Rattle.fsa_model.specs.Volume.{Handle, Lock}
use Rattle.fsa_model.proofs.RowLaws.{any-filter, any-map, any-push, any-same, change_at, change_at-number, find-all, option_cases, option_map-none, eqb-swap}
use Rattle.range_locks.specs.RangeTable.{Ranges, first_id, is_range_of, is_range}
use Rattle.range_locks.specs.declared.range.Range.{Range}
use Rattle.volume_tables.specs.Ranges.{ranges_in, room_at, AreSetIn}
use Rattle.volume_tables.specs.HandleTable.{stream_of_handle, is_on_stream, range_of_lock, ranges_on, AreTabled, HaveRoom}
use Rattle.volume_tables.specs.Rooms.{IsOneTaken}
use Rattle.volume_tables.proofs.PlaceLemmas.{row_of-append, row_of-gone, row_of-without}

-- handles that stay as they are leave the locks on a stream as they were
ranges_on-same : (old new : List (ℕ × Handle)) (locks : List (ℕ × Lock)) (stream : ℕ) → All (λ entry. row_of new entry.1.handle ≡ row_of old entry.1.handle) locks
    → ranges_on new locks stream ≡ ranges_on old locks stream
ranges_on-same old new [] stream same = refl
ranges_on-same old new (entry ∷ locks) stream same =
    let here : row_of new entry.1.handle ≡ row_of old entry.1.handle = same 0 entry (omega arith) in
    let rest = ranges_on-same old new locks stream (λ k d within. same (suc k) d (omega arith)) in
    elim (cases_Bool (is_on_stream old stream entry.1)) [
      | inl on ↦ (let still : is_on_stream new stream entry.1 ≡ true = rw here on in rw (on, still) (ap (λ ranges. range_of_lock entry ∷ ranges) rest))
      | inr off ↦ (let still : is_on_stream new stream entry.1 ≡ false = rw here off in rw (off, still) rest)
    ]

-- and so do handles of which something else than the stream is changed
is_on_stream-changed : (change : Handle → Handle) (handles : List (ℕ × Handle)) (id stream : ℕ) (lock : Lock) → ((row : Handle) → (change row).stream ≡ row.stream)
    → is_on_stream (with_row_changed change handles id) stream lock ≡ is_on_stream handles stream lock
is_on_stream-changed change [] id stream lock same = refl
is_on_stream-changed change (entry ∷ handles) id stream lock same =
    let rest = is_on_stream-changed change handles id stream lock same in
    elim (cases_Bool (entry.0 == id)) [
      | inl changed ↦ elim (cases_Bool (entry.0 == lock.handle)) [
        | inl own ↦ rw (changed, own) (ap (λ (on : Option ℕ). option_map_or (λ s. s == stream) on false) (same entry.1))
        | inr other ↦ rw (changed, other) rest
      ]
      | inr kept ↦ elim (cases_Bool (entry.0 == lock.handle)) [
        | inl own ↦ rw (kept, own) refl
        | inr other ↦ rw (kept, other) rest
      ]
    ]

ranges_on-changed : (change : Handle → Handle) (handles : List (ℕ × Handle)) (id : ℕ) (locks : List (ℕ × Lock)) (stream : ℕ) → ((row : Handle) → (change row).stream ≡ row.stream)
    → ranges_on (with_row_changed change handles id) locks stream ≡ ranges_on handles locks stream
ranges_on-changed change handles id [] stream same = refl
ranges_on-changed change handles id (entry ∷ locks) stream same =
    let here = is_on_stream-changed change handles id stream entry.1 same in
    let rest = ranges_on-changed change handles id locks stream same in
    elim (cases_Bool (is_on_stream handles stream entry.1)) [
      | inl on ↦ (let still : is_on_stream (with_row_changed change handles id) stream entry.1 ≡ true = here ∙ on in rw (on, still) (ap (λ ranges. range_of_lock entry ∷ ranges) rest))
      | inr off ↦ (let still : is_on_stream (with_row_changed change handles id) stream entry.1 ≡ false = here ∙ off in rw (off, still) rest)
    ]

lives-changed : {R : Type 0} (change : R → R) (rows : List (ℕ × R)) (id other : ℕ) → lives (with_row_changed change rows id) other ≡ lives rows other
lives-changed change rows id other =
    any-map (λ e. e.0 == other) (change_at change id) rows ∙ any-same (λ e. (change_at change id e).0 == other) (λ e. e.0 == other) rows (λ e. rw (change_at-number change id e) refl)

pub AreTabled-changed : (change : Handle → Handle) (handles : List (ℕ × Handle)) (locks : List (ℕ × Lock)) (tables : List (ℕ × Ranges)) (id : ℕ) → ((row : Handle) → (change row).stream ≡ row.stream)
    → AreTabled handles locks tables → AreTabled (with_row_changed change handles id) locks tables
AreTabled-changed change handles locks tables id same is = record {
  live = λ k d within. lives-changed change handles id (get_or locks k d).1.handle ∙ is.live k d within;
  ranges = λ stream. is.ranges stream ∙ sym (ranges_on-changed change handles id locks stream same);
}

-- a handle more, which has no lock
pub AreTabled-handle : (handles : List (ℕ × Handle)) (locks : List (ℕ × Lock)) (tables : List (ℕ × Ranges)) (more : ℕ × Handle) → AreTabled handles locks tables
    → AreTabled (handles ++ more ∷ []) locks tables
AreTabled-handle handles locks tables more is = record {
  live = λ k d within. any-push _ handles _ (is.live k d within);
  ranges = λ stream.
      is.ranges stream ∙ sym (ranges_on-same handles (handles ++ more ∷ []) locks stream (λ k d within. row_of-append handles (more ∷ []) _ (is.live k d within)));
}

-- the locks that a handle doesn't hold, once it is gone
without-handle : (handles : List (ℕ × Handle)) (locks : List (ℕ × Lock)) (gone stream : ℕ)
    → ranges_on (without_row handles gone) (filter (λ entry. not (entry.1.handle == gone)) locks) stream ≡ filter (λ range. not (is_range_of gone range)) (ranges_on handles locks stream)
without-handle handles [] gone stream = refl
without-handle handles (entry ∷ locks) gone stream =
    let rest = without-handle handles locks gone stream in
    elim (cases_Bool (entry.1.handle == gone)) [
      | inl own ↦ elim (cases_Bool (is_on_stream handles stream entry.1)) [
        | inl on ↦ rw (own, on, own) rest
        | inr off ↦ rw (own, off) rest
      ]
      | inr other ↦ (let same = row_of-without handles gone entry.1.handle other in
          elim (cases_Bool (is_on_stream handles stream entry.1)) [
            | inl on ↦ (let still : is_on_stream (without_row handles gone) stream entry.1 ≡ true = rw same on in
                rw (other, on, still, other) (ap (λ ranges. range_of_lock entry ∷ ranges) rest))
            | inr off ↦ (let still : is_on_stream (without_row handles gone) stream entry.1 ≡ false = rw same off in rw (other, off, still) rest)
          ])
    ]

-- a handle on another stream, or on none, has no lock on this one
none-of : (handles : List (ℕ × Handle)) (locks : List (ℕ × Lock)) (handle stream : ℕ) → option_map_or (λ row. is_open_on stream row) (row_of handles handle) false ≡ false
    → filter (λ range. not (is_range_of handle range)) (ranges_on handles locks stream) ≡ ranges_on handles locks stream
none-of handles [] handle stream off = refl
none-of handles (entry ∷ locks) handle stream off =
    let rest = none-of handles locks handle stream off in
    elim (cases_Bool (is_on_stream handles stream entry.1)) [
      | inl on ↦ elim (cases_Bool (entry.1.handle == handle)) [
        | inl own ↦ (let same : entry.1.handle ≡ handle = eqb-true _ _ own in
            let elsewhere : is_on_stream handles stream entry.1 ≡ false = rw same off in
            absurd (both_ways (is_on_stream handles stream entry.1) elsewhere on))
        | inr other ↦ rw (on, other) (ap (λ ranges. range_of_lock entry ∷ ranges) rest)
      ]
      | inr other ↦ rw other rest
    ]

-- whether a handle is on a stream, by the stream of the handle
is_on-stream_of : (handles : List (ℕ × Handle)) (handle stream : ℕ)
    → option_map_or (λ row. is_open_on stream row) (row_of handles handle) false ≡ option_map_or (λ s. s == stream) (stream_of_handle handles handle) false
is_on-stream_of handles handle stream =
    elim (option_cases (row_of handles handle)) [
      | inl none ↦ rw none refl
      | inr some ↦ rw some.1 refl
    ]

-- where a handle's stream has no range of it, no lock is its
pub none-locked : (handles : List (ℕ × Handle)) (locks : List (ℕ × Lock)) (gone own : ℕ) → stream_of_handle handles gone ≡ Some own → list_any (is_range_of gone) (ranges_on handles locks own) ≡ false
    → filter (λ entry. not (entry.1.handle == gone)) locks ≡ locks
none-locked handles [] gone own is none = refl
none-locked handles (entry ∷ locks) gone own is none = elim (cases_Bool (entry.1.handle == gone)) [
  | inl held ↦ (
      let same : entry.1.handle ≡ gone = eqb-true _ _ held in
      let on : is_on_stream handles own entry.1 ≡ true = rw same (is_on-stream_of handles gone own ∙ rw is (eq-eqb own own refl)) in
      let impossible : true ≡ false = rw (on, held) at none in
      cc)
  | inr other ↦ (
      let rest : list_any (is_range_of gone) (ranges_on handles locks own) ≡ false
      = elim (cases_Bool (is_on_stream handles own entry.1)) [
        | inl on ↦ rw (on, other) at none
        | inr off ↦ rw off at none
      ] in
      rw other (ap (λ kept. entry ∷ kept) (none-locked handles locks gone own is rest)))
]

-- the same of each handle, where a stream is told
pub none-held : (handles : List (ℕ × Handle)) (locks : List (ℕ × Lock)) (tables : List (ℕ × Ranges)) (stream : Option ℕ) (gone : ℕ) → AreTabled handles locks tables → stream ≡ stream_of_handle handles gone
    → option_map_or (λ own. list_any (is_range_of gone) (ranges_in tables own)) stream true ≡ false → filter (λ entry. not (entry.1.handle == gone)) locks ≡ locks
none-held handles locks tables None gone is own none = (let impossible : true ≡ false = none in cc)
none-held handles locks tables (Some s) gone is own none = none-locked handles locks gone s (sym own) (rw (is.ranges s) at none)

apart-none : {X : Type 0} (p : X → Bool) (xs : List X) → filter p (filter (λ x. not (p x)) xs) ≡ []
apart-none p [] = refl
apart-none p (x ∷ xs) = elim (cases_Bool (p x)) [
  | inl passes ↦ rw passes (apart-none p xs)
  | inr fails ↦ rw (fails, fails) (apart-none p xs)
]

pub none-own : (handles : List (ℕ × Handle)) (locks : List (ℕ × Lock)) (tables : List (ℕ × Ranges)) (stream : Option ℕ) (handle : ℕ) → AreTabled handles locks tables → stream ≡ stream_of_handle handles handle
    → option_map_or (λ own. list_any (is_range_of handle) (ranges_in tables own)) stream true ≡ false → filter (λ entry. entry.1.handle == handle) locks ≡ []
none-own handles locks tables stream handle is own none =
    ap (filter (λ (entry : ℕ × Lock). entry.1.handle == handle)) (sym (none-held handles locks tables stream handle is own none)) ∙ apart-none (λ (entry : ℕ × Lock). entry.1.handle == handle) locks

-- of the stream of a handle that is gone, or of another stream, its locks are taken out
gone-ranges : (handles : List (ℕ × Handle)) (locks : List (ℕ × Lock)) (old new : List (ℕ × Ranges)) (gone stream : ℕ) → AreTabled handles locks old
    → ((own : ℕ) → stream_of_handle handles gone ≡ Some own → AreSetIn old new own (filter (λ range. not (is_range_of gone range)) (ranges_in old own)))
    → (stream_of_handle handles gone ≡ None → new ≡ old)
    → ranges_in new stream ≡ filter (λ range. not (is_range_of gone range)) (ranges_on handles locks stream)
gone-ranges handles locks old new gone stream is set kept =
    elim (option_cases (stream_of_handle handles gone)) [
      | inl none ↦ (
          let off : option_map_or (λ row. is_open_on stream row) (row_of handles gone) false ≡ false = is_on-stream_of handles gone stream ∙ rw none refl in
          rw (kept none) (is.ranges stream ∙ sym (none-of handles locks gone stream off)))
      | inr own ↦ elim (cases_Bool (stream == own.0)) [
        | inl here ↦ (
            let same : stream ≡ own.0 = eqb-true _ _ here in
            rw same ((set own.0 own.1).here ∙ ap (filter (λ range. not (is_range_of gone range))) (is.ranges own.0)))
        | inr differ ↦ (
            let off : option_map_or (λ row. is_open_on stream row) (row_of handles gone) false ≡ false
            = is_on-stream_of handles gone stream ∙ rw own.1 (eqb-swap own.0 stream ∙ differ) in
            (set own.0 own.1).others stream differ ∙ is.ranges stream ∙ sym (none-of handles locks gone stream off))
      ]
    ]

-- a handle is gone with its locks
pub AreTabled-gone : (handles : List (ℕ × Handle)) (locks : List (ℕ × Lock)) (old new : List (ℕ × Ranges)) (gone : ℕ) → AreTabled handles locks old
    → ((own : ℕ) → stream_of_handle handles gone ≡ Some own → AreSetIn old new own (filter (λ range. not (is_range_of gone range)) (ranges_in old own)))
    → (stream_of_handle handles gone ≡ None → new ≡ old)
    → AreTabled (without_row handles gone) (filter (λ entry. not (entry.1.handle == gone)) locks) new
AreTabled-gone handles locks old new gone is set kept = record {
  live = λ k d within. any-filter (λ row. row.0 == (get_or (filter (λ entry. not (entry.1.handle == gone)) locks) k d).1.handle) (λ row. not (row.0 == gone)) handles
      (λ row here. rw (eqb-true row.0 _ here, not-true _ (filter_passes (λ entry. not (entry.1.handle == gone)) locks k d within)) refl)
      (All-filter (λ entry. not (entry.1.handle == gone)) (λ entry. lives handles entry.1.handle ≡ true) locks is.live k d within);
  ranges = λ stream. gone-ranges handles locks old new gone stream is set kept ∙ sym (without-handle handles locks gone stream);
}

-- a handle with a stream lives
pub lives-stream : (handles : List (ℕ × Handle)) (handle stream : ℕ) → stream_of_handle handles handle ≡ Some stream → lives handles handle ≡ true
lives-stream handles handle stream some =
    elim (cases_Bool (lives handles handle)) [
      | inl living ↦ living
      | inr gone ↦ (let none : row_of handles handle ≡ None = row_of-gone handles handle gone in
          let impossible : None ≡ Some stream = rw none at some in cc)
    ]

pub lives-some : (handles : List (ℕ × Handle)) (handle : ℕ) → is_some (stream_of_handle handles handle) ≡ true → lives handles handle ≡ true
lives-some handles handle some =
    elim (option_cases (stream_of_handle handles handle)) [
      | inl none ↦ (let impossible : false ≡ true = rw none at some in cc)
      | inr own ↦ lives-stream handles handle own.0 own.1
    ]

-- a lock more on the stream of its handle
pub AreTabled-lock : (handles : List (ℕ × Handle)) (locks : List (ℕ × Lock)) (old new : List (ℕ × Ranges)) (stream : ℕ) (more : ℕ × Lock) → AreTabled handles locks old
    → stream_of_handle handles more.1.handle ≡ Some stream → AreSetIn old new stream (ranges_in old stream ++ range_of_lock more ∷ [])
    → AreTabled handles (locks ++ more ∷ []) new
AreTabled-lock handles locks old new stream more is own set = record {
  live = All-push (λ entry. lives handles entry.1.handle ≡ true) locks more is.live (lives-stream handles more.1.handle stream own);
  ranges = λ other.
      let pushed : ranges_on handles (locks ++ more ∷ []) other ≡ ranges_on handles locks other ++ map range_of_lock (filter (λ entry. is_on_stream handles other entry.1) (more ∷ []))
      = ap (map range_of_lock) (filter-append (λ entry. is_on_stream handles other entry.1) locks (more ∷ []))
      ∙ map-append range_of_lock (filter (λ entry. is_on_stream handles other entry.1) locks) (filter (λ entry. is_on_stream handles other entry.1) (more ∷ [])) in
      let where_it_is : is_on_stream handles other more.1 ≡ (stream == other) = is_on-stream_of handles more.1.handle other ∙ rw own refl in
      elim (cases_Bool (other == stream)) [
        | inl here ↦ (
            let same : other ≡ stream = eqb-true _ _ here in
            let on : is_on_stream handles other more.1 ≡ true = where_it_is ∙ rw same (eq-eqb stream stream refl) in
            rw (pushed, on) (rw same (set.here ∙ ap (λ ranges. ranges ++ range_of_lock more ∷ []) (is.ranges stream))))
        | inr differ ↦ (
            let off : is_on_stream handles other more.1 ≡ false = where_it_is ∙ eqb-swap stream other ∙ differ in
            rw (pushed, off) (set.others other differ ∙ is.ranges other ∙ sym (append-nil (ranges_on handles locks other))))
      ];
}

-- a number that is found behind a lock is above its number
number-above : (entry : ℕ × Lock) (locks : List (ℕ × Lock)) (handle at count number : ℕ) → AreRising (entry ∷ locks) → number_of (is_lock_on handle at count) locks ≡ Some number → entry.0 < number
number-above entry locks handle at count number rising found =
    elim (option_cases (find (λ e. is_lock_on handle at count e.1) locks)) [
      | inl none ↦ (let impossible : None ≡ Some number = rw none at found in cc)
      | inr some ↦ (
          let is : Some some.0.0 ≡ Some number = rw some.1 at found in
          let same : some.0.0 ≡ number = cc in
          rw (← same) (find-all (λ e. entry.0 < e.0) (λ e. is_lock_on handle at count e.1) locks some.0 some.1 (AreRising-first entry locks rising)))
    ]

-- the first lock of a handle on a range goes by its number, and the first such range of its stream
without-lock : (handles : List (ℕ × Handle)) (locks : List (ℕ × Lock)) (handle at count number stream : ℕ) → AreRising locks → number_of (is_lock_on handle at count) locks ≡ Some number
    → ranges_on handles (without_row locks number) stream
    ≡ (if option_map_or (λ row. is_open_on stream row) (row_of handles handle) false then without_first (is_range handle at count) (ranges_on handles locks stream)
    else ranges_on handles locks stream)
without-lock handles [] handle at count number stream rising found = (let impossible : None ≡ Some number = found in cc)
without-lock handles (entry ∷ locks) handle at count number stream rising found =
    elim (cases_Bool (is_lock_on handle at count entry.1)) [
      | inl first ↦ (
          let is : Some entry.0 ≡ Some number = rw first at found in
          let same : entry.0 ≡ number = cc in
          let rest : without_row locks number ≡ locks = without_row-above locks number (λ k d within. rw (← same) (AreRising-first entry locks rising k d within)) in
          let own : entry.1.handle ≡ handle = eqb-true _ _ (and_parts _ _ (and_parts _ _ first).0).0 in
          let gone : (entry.0 == number) ≡ true = rw same (eq-eqb number number refl) in
          elim (cases_Bool (is_on_stream handles stream entry.1)) [
            | inl on ↦ (let here : option_map_or (λ row. is_open_on stream row) (row_of handles handle) false ≡ true = rw (← own) on in
                rw (gone, here, on, first, rest) refl)
            | inr off ↦ (let elsewhere : option_map_or (λ row. is_open_on stream row) (row_of handles handle) false ≡ false = rw (← own) off in
                rw (gone, elsewhere, off, rest) refl)
          ])
      | inr later ↦ (
          let found_later : number_of (is_lock_on handle at count) locks ≡ Some number = rw later at found in
          let rest = without-lock handles locks handle at count number stream (AreRising-rest entry locks rising) found_later in
          let above : entry.0 < number = number-above entry locks handle at count number rising found_later in
          let kept : (entry.0 == number) ≡ false = ne_eqb entry.0 number (λ e. absurd (omega arith)) in
          elim (cases_Bool (option_map_or (λ row. is_open_on stream row) (row_of handles handle) false)) [
            | inl here ↦ elim (cases_Bool (is_on_stream handles stream entry.1)) [
              | inl on ↦ rw (kept, here, on, later) (ap (λ ranges. range_of_lock entry ∷ ranges) (rw here at rest))
              | inr off ↦ rw (kept, here, off) (rw here at rest)
            ]
            | inr elsewhere ↦ elim (cases_Bool (is_on_stream handles stream entry.1)) [
              | inl on ↦ rw (kept, elsewhere, on) (ap (λ ranges. range_of_lock entry ∷ ranges) (rw elsewhere at rest))
              | inr off ↦ rw (kept, elsewhere, off) (rw elsewhere at rest)
            ]
          ])
    ]

-- a lock goes from the list and from its stream's table
pub AreTabled-unlock : (handles : List (ℕ × Handle)) (locks : List (ℕ × Lock)) (last : ℕ) (old new : List (ℕ × Ranges)) (handle at count number : ℕ)
    → AreTabled handles locks old → IsNumbered locks last → number_of (is_lock_on handle at count) locks ≡ Some number
    → ((own : ℕ) → stream_of_handle handles handle ≡ Some own → AreSetIn old new own (without_first (is_range handle at count) (ranges_in old own)))
    → (stream_of_handle handles handle ≡ None → new ≡ old)
    → AreTabled handles (without_row locks number) new
AreTabled-unlock handles locks last old new handle at count number is numbered found set kept = record {
  live = All-filter (λ entry. not (entry.0 == number)) (λ entry. lives handles entry.1.handle ≡ true) locks is.live;
  ranges = λ stream.
      let without = without-lock handles locks handle at count number stream numbered.rising found in
      elim (option_cases (stream_of_handle handles handle)) [
        | inl none ↦ (
            let off : option_map_or (λ row. is_open_on stream row) (row_of handles handle) false ≡ false = is_on-stream_of handles handle stream ∙ rw none refl in
            rw (kept none) (is.ranges stream ∙ sym (rw off at without)))
        | inr own ↦ elim (cases_Bool (stream == own.0)) [
          | inl here ↦ (
              let same : stream ≡ own.0 = eqb-true _ _ here in
              let on : option_map_or (λ row. is_open_on stream row) (row_of handles handle) false ≡ true
              = is_on-stream_of handles handle stream ∙ rw own.1 (eqb-swap own.0 stream ∙ here) in
              rw same ((set own.0 own.1).here ∙ ap (without_first (is_range handle at count)) (is.ranges own.0) ∙ sym (rw (on, same) at without)))
          | inr differ ↦ (
              let off : option_map_or (λ row. is_open_on stream row) (row_of handles handle) false ≡ false
              = is_on-stream_of handles handle stream ∙ rw own.1 (eqb-swap own.0 stream ∙ differ) in
              (set own.0 own.1).others stream differ ∙ is.ranges stream ∙ sym (rw off at without))
        ]
      ];
}

-- the first lock of a handle on a range stands first among those of the handle's stream
pub number-on : (handles : List (ℕ × Handle)) (locks : List (ℕ × Lock)) (handle at count own : ℕ) → stream_of_handle handles handle ≡ Some own
    → first_id (is_range handle at count) (ranges_on handles locks own) ≡ number_of (is_lock_on handle at count) locks
number-on handles [] handle at count own is = refl
number-on handles (entry ∷ locks) handle at count own is =
    let rest = number-on handles locks handle at count own is in
    elim (cases_Bool (is_lock_on handle at count entry.1)) [
      | inl first ↦ (
          let same : entry.1.handle ≡ handle = eqb-true _ _ (and_parts _ _ (and_parts _ _ first).0).0 in
          let on : is_on_stream handles own entry.1 ≡ true = rw same (is_on-stream_of handles handle own ∙ rw is (eq-eqb own own refl)) in
          rw (on, first) refl)
      | inr later ↦ elim (cases_Bool (is_on_stream handles own entry.1)) [
        | inl on ↦ rw (on, later) rest
        | inr off ↦ rw (off, later) rest
      ]
    ]

-- and where no stream is told it is looked for among all
pub number-held : (handles : List (ℕ × Handle)) (locks : List (ℕ × Lock)) (tables : List (ℕ × Ranges)) (stream : Option ℕ) (handle at count : ℕ) → AreTabled handles locks tables
    → stream ≡ stream_of_handle handles handle
    → option_map_or (λ own. first_id (is_range handle at count) (ranges_in tables own)) stream (number_of (is_lock_on handle at count) locks) ≡ number_of (is_lock_on handle at count) locks
number-held handles locks tables None handle at count is own = refl
number-held handles locks tables (Some s) handle at count is own = ap (first_id (is_range handle at count)) (is.ranges s) ∙ number-on handles locks handle at count s (sym own)

-- nothing is taken out where none passes
without_first-none : {X : Type 0} (p : X → Bool) (xs : List X) → find p xs ≡ None → without_first p xs ≡ xs
without_first-none p [] none = refl
without_first-none p (x ∷ xs) none = elim (cases_Bool (p x)) [
  | inl passes ↦ (let found : Some x ≡ None = rw passes at none in cc)
  | inr fails ↦ rw fails (ap (λ rest. x ∷ rest) (without_first-none p xs (rw fails at none)))
]

-- where the handle has no such lock its stream keeps its ranges
pub AreTabled-kept : (handles : List (ℕ × Handle)) (locks : List (ℕ × Lock)) (old new : List (ℕ × Ranges)) (stream : Option ℕ) (handle at count : ℕ) → AreTabled handles locks old
    → option_map_or (λ own. first_id (is_range handle at count) (ranges_in old own)) stream (number_of (is_lock_on handle at count) locks) ≡ None
    → IfSome stream (λ own. AreSetIn old new own (without_first (is_range handle at count) (ranges_in old own)))
    → IfNone stream (new ≡ old)
    → AreTabled handles locks new
AreTabled-kept handles locks old new None handle at count is none set kept = rw kept is
AreTabled-kept handles locks old new (Some own) handle at count is none set kept = record {
  live = is.live;
  ranges = λ stream. elim (cases_Bool (stream == own)) [
    | inl here ↦ (
        let same : stream ≡ own = eqb-true _ _ here in
        let whole = without_first-none (is_range handle at count) (ranges_in old own) (option_map-none (λ (range : Range). range.id) (find (is_range handle at count) (ranges_in old own)) none) in
        rw same (set.here ∙ whole ∙ is.ranges own))
    | inr differ ↦ set.others stream differ ∙ is.ranges stream
  ];
}

-- no less room keeps what was promised
pub HaveRoom-kept : (rooms : List (ℕ × ℕ)) (old new : List (ℕ × Ranges)) (old_room new_room : ℕ) → HaveRoom rooms old old_room
    → ((stream : ℕ) → room_at old stream ≤ room_at new stream) → old_room ≤ new_room → HaveRoom rooms new new_room
HaveRoom-kept rooms old new old_room new_room is more more_of_all = record {
  of_all = let all = is.of_all in omega arith;
  of_each = λ stream. (let each = is.of_each stream in let kept = more stream in omega arith);
}

-- and so does room for one less, where one is taken
pub HaveRoom-taken : (rooms new_rooms : List (ℕ × ℕ)) (old new : List (ℕ × Ranges)) (old_room new_room stream : ℕ) → HaveRoom rooms old old_room
    → IsOneTaken rooms new_rooms stream → room_at old stream ≤ room_at new stream + 1
    → ((other : ℕ) → (other == stream) ≡ false → room_at new other ≡ room_at old other) → old_room ≤ new_room + 1 → HaveRoom new_rooms new new_room
HaveRoom-taken rooms new_rooms old new old_room new_room stream is taken left others left_of_all = record {
  of_all = let all = is.of_all in let less = taken.all in omega arith;
  of_each = λ other. elim (cases_Bool (other == stream)) [
    | inl here ↦ (let same : other ≡ stream = eqb-true _ _ here in
        let each = is.of_each stream in let less = taken.here in
        rw same (omega arith))
    | inr differ ↦ (let each = is.of_each other in let rooms_kept = taken.others other differ in let kept = others other differ in omega arith)
  ];
}
