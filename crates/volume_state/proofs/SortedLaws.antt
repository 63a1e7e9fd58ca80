-- The oplocks of each stream stand in its table, where handles come, go or change.
use Rattle.std.proofs.Common.{◌≡◌, ℕ, suc, ◌*◌, ◌^◌, ◌≤◌, ◌<◌, ◌⊎◌, Bool, true, false, List, [], ◌∷◌, ◌++◌, get_or, refl, ap, sym, subst, ◌∙◌, arith, inl, inr, Option, Some, None, IsSome}
use Rattle.std.specs.List.{All, list_any}
use Rattle.std.specs.Option.{option_map_or}
use Rattle.std.specs.Prelude.{◌==◌, ◌&&◌, ◌||◌, filter, option_and_then, option_map}
use Rattle.std.proofs.lemmas.Bool.{and_parts, cases_Bool}
use Rattle.std.proofs.lemmas.List.Elements.{All-cons}
use Rattle.fsa_types.specs.OplockLists.{without_oplock_of}
use Rattle.fsa_types.specs.Oplocks.{Oplock}
use Rattle.fsa_types.specs.Rows.{lives, row_of, with_row_changed, without_row}
use Rattle.fsa_model.specs.Sound.{IsSound, is_of_living, is_stream_of_link}
use Rattle.fsa_model.specs.Volume.{Handle, Volume}
use Rattle.fsa_model.proofs.CoherenceEdits.{row_of-changed}
use Rattle.fsa_model.proofs.RowLaws.{any-weaker, found-all, lives-given, option_cases}
use Rattle.oplock_state.specs.Homes.{HomesFit, home_of_stream, is_home_to}
use Rattle.oplock_state.specs.State.{State}
use Rattle.oplock_state.specs.Tables.{AreSorted}
use Rattle.volume_breaks.proofs.GrantLemmas.{NoneOf}
use Rattle.volume_tables.proofs.LockLemmas.{lives-some}
use Rattle.volume_tables.proofs.PlaceLemmas.{row_of-append, row_of-without}
use Rattle.volume_tables.specs.HandleTable.{stream_of_handle}

filter-same : (p q : Oplock → Bool) (rows : List Oplock) → All (λ o. p o ≡ q o) rows → filter p rows ≡ filter q rows
filter-same p q [] same = refl
filter-same p q (o ∷ rows) same =
    let here : p o ≡ q o = same 0 o (omega arith) in
    let rest : filter p rows ≡ filter q rows = filter-same p q rows (λ k d within. same (suc k) d (omega arith)) in
    elim (cases_Bool (q o)) [
      | inl passes ↦ rw (here, passes) (ap (λ (more : List Oplock). o ∷ more) rest)
      | inr fails ↦ rw (here, fails) rest
    ]

-- other handles, of which those of the oplocks have the streams that they had
pub sorted-moved : (old new : List (ℕ × Handle)) (rows : List Oplock) (tables : List (ℕ × State)) → All (λ (o : Oplock). stream_of_handle new o.handle ≡ stream_of_handle old o.handle) rows
    → AreSorted old rows tables → AreSorted new rows tables
sorted-moved old new rows tables same sorted = record {
  each = λ home. sorted.each home ∙ filter-same (is_home_to old home) (is_home_to new home) rows
      (λ k d within. ap (λ (stream : Option ℕ). option_map_or (λ (own : ℕ). own == home) (option_map home_of_stream stream) false) (sym (same k d within)));
  homes = λ k d within. subst (λ (stream : Option ℕ). IsSome (option_map home_of_stream stream)) (sym (same k d within)) (sorted.homes k d within);
}

pub sorted-none : (handles : List (ℕ × Handle)) → AreSorted handles [] []
sorted-none handles = record { each = λ home. refl; homes = λ k d within. absurd (omega arith) }

-- a handle with a home has a stream
at-home : (stream : Option ℕ) → IsSome (option_map home_of_stream stream) → IsSome stream
at-home None some = some
at-home (Some stream) some = some

-- a handle more
pub sorted-added : (handles more : List (ℕ × Handle)) (rows : List Oplock) (tables : List (ℕ × State)) → AreSorted handles rows tables → AreSorted (handles ++ more) rows tables
sorted-added handles more rows tables sorted =
    sorted-moved handles (handles ++ more) rows tables
    (λ k d within. ap (option_and_then (λ (row : Handle). row.stream)) (row_of-append handles more (get_or rows k d).handle (lives-some handles (get_or rows k d).handle (at-home (stream_of_handle handles (get_or rows k d).handle) (sorted.homes k d within)))))
    sorted

none-without : (handle : ℕ) (rows : List Oplock) → NoneOf handle (without_oplock_of handle rows)
none-without handle [] = λ k d within. absurd (omega arith)
none-without handle (o ∷ rows) = elim (cases_Bool (o.handle == handle)) [
  | inl here ↦ rw here (none-without handle rows)
  | inr other ↦ rw other (All-cons (λ (x : Oplock). (x.handle == handle) ≡ false) o (without_oplock_of handle rows) other (none-without handle rows))
]

-- a handle less, whose oplock is gone
pub sorted-removed : (handles : List (ℕ × Handle)) (handle : ℕ) (rows : List Oplock) (tables : List (ℕ × State)) → AreSorted handles (without_oplock_of handle rows) tables
    → AreSorted (without_row handles handle) (without_oplock_of handle rows) tables
sorted-removed handles handle rows tables sorted =
    sorted-moved handles (without_row handles handle) (without_oplock_of handle rows) tables
    (λ k d within. ap (option_and_then (λ (row : Handle). row.stream)) (row_of-without handles handle (get_or (without_oplock_of handle rows) k d).handle (none-without handle rows k d within)))
    sorted

-- a handle changes, and its stream stays
pub sorted-changed : (handles : List (ℕ × Handle)) (change : Handle → Handle) (handle : ℕ) (rows : List Oplock) (tables : List (ℕ × State)) → ((row : Handle) → (change row).stream ≡ row.stream)
    → AreSorted handles rows tables → AreSorted (with_row_changed change handles handle) rows tables
sorted-changed handles change handle rows tables stays sorted =
    sorted-moved handles (with_row_changed change handles handle) rows tables (λ k d within. same (get_or rows k d).handle) sorted
  where
    same : (other : ℕ) → stream_of_handle (with_row_changed change handles handle) other ≡ stream_of_handle handles other
    same other = ap (option_and_then (λ (row : Handle). row.stream)) (row_of-changed change handles handle other) ∙ elim (option_cases (row_of handles other)) [
      | inl none ↦ rw none refl
      | inr some ↦ rw some.1 (elim (cases_Bool (other == handle)) [
        | inl here ↦ rw here (ap (λ (stream : Option ℕ). stream) (stays some.0))
        | inr kept ↦ rw kept refl
      ])
    ]

-- ---- the homes of streams

-- the streams of a sound volume have few numbers, so that their homes are of 64 bits
pub homes-fit : (v : Volume) → IsSound v → HomesFit v.handles
homes-fit v sound handle home found = elim (option_cases (row_of v.handles handle)) [
  | inl none ↦ (let impossible : None ≡ Some home = rw none at found in cc)
  | inr row ↦ by_stream row.0 (option_cases row.0.stream)
      (rw row.1 at (found-all (λ (r : Handle). is_of_living v.links v.streams r ≡ true) v.handles handle sound.opens.are_of_living)) (rw row.1 at found)
]
  where
    by_stream : (row : Handle) → (row.stream ≡ None) ⊎ ((stream : ℕ) × (row.stream ≡ Some stream)) → is_of_living v.links v.streams row ≡ true → option_map home_of_stream row.stream ≡ Some home → home < 2 ^ 64
    by_stream row (inl none) living its = (let impossible : None ≡ Some home = rw none at its in cc)
    by_stream row (inr stream) living its =
        let of_link : option_map_or (λ s. is_stream_of_link v.links v.streams row.link s) row.stream true ≡ true
        = (and_parts (row.link == 0 || lives v.links row.link) (option_map_or (λ s. is_stream_of_link v.links v.streams row.link s) row.stream true) living).1 in
        let is_there : is_stream_of_link v.links v.streams row.link stream.0 ≡ true = rw stream.1 at of_link in
        let lives_still : lives v.streams stream.0 ≡ true
        = any-weaker (λ s. s.0 == stream.0 && list_any (λ l. l.0 == row.link && l.1.file == s.1.file) v.links) (λ s. s.0 == stream.0) v.streams
        (λ s both. (and_parts (s.0 == stream.0) (list_any (λ l. l.0 == row.link && l.1.file == s.1.file) v.links) both).0) is_there in
        let given : stream.0 ≤ v.last_stream = lives-given v.streams v.last_stream stream.0 sound.streams_numbered.given lives_still in
        let few = sound.bounded.streams in
        let is : Some (home_of_stream stream.0) ≡ Some home = rw stream.1 at its in
        let same : 2 * stream.0 ≡ home = ap (λ (h : Option ℕ). option_map_or (λ (n : ℕ). n) h 0) is in
        omega arith
