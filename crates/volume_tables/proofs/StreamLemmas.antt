-- What a change of one stream, beside its room, is to the streams; and their numbers as the rows have them.
use Rattle.std.proofs.Common.{◌≡◌, ℕ, suc, true, false, Bool, not, ◌+◌, ◌<◌, ◌≤◌, ◌==◌, List, Option, [], ◌∷◌, refl, ap, sym, ◌∙◌, arith, inl, inr, Some, None, eq-eqb}
use Rattle.std.specs.Prelude.{filter, fold, map, option_map, sum_by}
use Rattle.std.specs.List.{All, cons_option}
use Rattle.std.specs.Option.{option_map_or}
use Rattle.std.proofs.lemmas.Bool.{and_parts, cases_Bool, eqb-true, ne_eqb}
use Rattle.std.proofs.lemmas.List.Elements.{All-filter, All-map}
use Rattle.std.proofs.lemmas.List.Sums.{sum_by-cons}
use Rattle.fsa_types.specs.CaseTable.{same_name}
use Rattle.fsa_types.specs.Rows.{row_of, with_row_changed, without_row, IsNumbered}
use Rattle.fsa_types.proofs.RowLemmas.{AreRising, AreRising-first, AreRising-rest, map-change, map-unseen, row_of-map, with_row_changed-none, without_row-above}
use Rattle.fsa_model.specs.Lookups.{is_stream_named}
use Rattle.fsa_model.specs.Volume.{Stream}
use Rattle.fsa_model.proofs.RowLaws.{AllPairs-map}
use Rattle.key_index.specs.Index.{entries_under}
use Rattle.key_index.specs.RowsByKey.{IsIndexOf, pairs, rows_of_entries, rows_with}
use Rattle.key_index.proofs.RowLaws.{index-rows}
use Rattle.volume_rows.specs.Streams.{StreamRowView, streams_in}
use Rattle.volume_tables.specs.StreamTable.{stream_file_key}

-- a change of the row of a number, where the row is found, as a table tells it
abbrev pub ChangesOne : List (ℕ × StreamRowView) → ℕ → Type 0
ChangesOne rows id = (change : StreamRowView → StreamRowView) → option_map_or (λ row. with_row_changed (λ _. change row) rows id) (row_of rows id) rows ≡ with_row_changed change rows id

pub streams_in-changed : (rows : List (ℕ × StreamRowView)) (id : ℕ) (before after : StreamRowView) (change : Stream → Stream) → ChangesOne rows id
    → row_of rows id ≡ Some before → after.stream ≡ change before.stream
    → streams_in (with_row_changed (λ _. after) rows id) ≡ with_row_changed change (streams_in rows) id
streams_in-changed rows id before after change one found same =
    let whole : StreamRowView → StreamRowView = λ row. record { stream = change row.stream; room = after.room } in
    let told : with_row_changed (λ _. whole before) rows id ≡ with_row_changed whole rows id = rw found at (one whole) in
    let is : after ≡ whole before = ap (λ (s : Stream). record { stream = s; room = after.room }) same in
    ap (λ (w : StreamRowView). streams_in (with_row_changed (λ _. w) rows id)) is ∙ ap streams_in told ∙ map-change (λ kept. kept.stream) whole change rows id (λ row. refl)

pub streams_in-kept : (rows : List (ℕ × StreamRowView)) (id : ℕ) (before after : StreamRowView) → ChangesOne rows id
    → row_of rows id ≡ Some before → after.stream ≡ before.stream → streams_in (with_row_changed (λ _. after) rows id) ≡ streams_in rows
streams_in-kept rows id before after one found same =
    let whole : StreamRowView → StreamRowView = λ row. record { stream = row.stream; room = after.room } in
    let told : with_row_changed (λ _. whole before) rows id ≡ with_row_changed whole rows id = rw found at (one whole) in
    let is : after ≡ whole before = ap (λ (s : Stream). record { stream = s; room = after.room }) same in
    ap (λ (w : StreamRowView). streams_in (with_row_changed (λ _. w) rows id)) is ∙ ap streams_in told ∙ map-unseen (λ kept. kept.stream) whole rows id (λ row. refl)

-- where there is no such stream, there is none to change
pub streams_in-none : (rows : List (ℕ × StreamRowView)) (id : ℕ) (change : Stream → Stream) → row_of rows id ≡ None → streams_in rows ≡ with_row_changed change (streams_in rows) id
streams_in-none rows id change none =
    sym (with_row_changed-none (streams_in rows) id change (row_of-map (λ kept. kept.stream) rows id ∙ ap (option_map (λ (kept : StreamRowView). kept.stream)) none))

-- the row that was changed is found
pub row_of-changed : {R : Type 0} (rows : List (ℕ × R)) (id : ℕ) (before after : R) → row_of rows id ≡ Some before → row_of (with_row_changed (λ _. after) rows id) id ≡ Some after
row_of-changed [] id before after found = cc
row_of-changed (x ∷ xs) id before after found = elim (cases_Bool (x.0 == id)) [
  | inl here ↦ rw (here, here) refl
  | inr other ↦ rw (other, other) (row_of-changed xs id before after (rw other at found))
]

-- the row of another number stays where one is changed
pub row_of-other : {R : Type 0} (change : R → R) (rows : List (ℕ × R)) (id other : ℕ) → (other == id) ≡ false → row_of (with_row_changed change rows id) other ≡ row_of rows other
row_of-other change [] id other differ = refl
row_of-other change (x ∷ xs) id other differ =
    elim (cases_Bool (x.0 == other)) [
      | inl here ↦ (let is : x.0 ≡ other = eqb-true _ _ here in let kept : (x.0 == id) ≡ false = ap (λ i. i == id) is ∙ differ in rw (kept, here) refl)
      | inr on ↦ elim (cases_Bool (x.0 == id)) [
        | inl changed ↦ rw (changed, on) (row_of-other change xs id other differ)
        | inr kept ↦ rw (kept, on) (row_of-other change xs id other differ)
      ]
    ]

-- rows as they are seen have the same numbers
pub IsNumbered-seen : {R S : Type 0} (view : R → S) (rows : List (ℕ × R)) (last : ℕ) → IsNumbered rows last → IsNumbered {R = S} (map (λ e. (e.0, view e.1)) rows) last
IsNumbered-seen {R} {S} view rows last numbered =
    let see : ℕ × R → ℕ × S = λ e. (e.0, view e.1) in
    record {
      rising = AllPairs-map (λ a b. a.0 < b.0) see rows numbered.rising;
      given = All-map (λ e. e.0 ≤ last) see rows numbered.given;
    }

-- a stream of a name of a file is one of the file
pub named-only : (table : List (ℕ × ℕ)) (file : ℕ) (units : List ℕ) (row : Stream) → is_stream_named table file units row ≡ true → (stream_file_key row == file) ≡ true
named-only table file units row is = (and_parts (row.file == file) (same_name table row.name units) is).0

-- ---- the streams of a file, by their index

-- a sum over the rows of some numbers, each looked up
sum-found : (f : Stream → ℕ) (id : ℕ) (found : Option Stream) (rest : List (ℕ × Stream))
    → option_map_or f found 0 + sum_by (λ (row : ℕ × Stream). f row.1) rest ≡ sum_by (λ (row : ℕ × Stream). f row.1) (cons_option (option_map (λ (row : Stream). (id, row)) found) rest)
sum-found f id None rest = omega arith
sum-found f id (Some row) rest = sym (sum_by-cons (λ (row : ℕ × Stream). f row.1) (id, row) rest)

sum-rows : (f : Stream → ℕ) (rows : List (ℕ × Stream)) (entries : List (ℕ × ℕ)) → sum_by (λ (entry : ℕ × ℕ). option_map_or f (row_of rows entry.1) 0) entries ≡ sum_by (λ (row : ℕ × Stream). f row.1) (rows_of_entries rows entries)
sum-rows f rows [] = refl
sum-rows f rows (e ∷ entries) =
    sum_by-cons (λ (entry : ℕ × ℕ). option_map_or f (row_of rows entry.1) 0) e entries
    ∙ ap (λ n. option_map_or f (row_of rows e.1) 0 + n) (sum-rows f rows entries)
    ∙ sum-found f e.1 (row_of rows e.1) (rows_of_entries rows entries)

-- one over the streams of a file
pub sum-by_file : (f : Stream → ℕ) (rows : List (ℕ × Stream)) (last : ℕ) (entries : List (ℕ × ℕ)) (file : ℕ) → IsNumbered rows last → IsIndexOf stream_file_key rows entries
    → sum_by (λ (entry : ℕ × ℕ). option_map_or f (row_of rows entry.1) 0) (entries_under entries file) ≡ sum_by (λ (row : ℕ × Stream). f row.1) (filter (λ row. row.1.file == file) rows)
sum-by_file f rows last entries file numbered index =
    sum-rows f rows (entries_under entries file) ∙ ap (sum_by (λ (row : ℕ × Stream). f row.1)) (index-rows stream_file_key rows last entries file numbered index)

pub sum-filter_le : {X : Type 0} (f : X → ℕ) (p : X → Bool) (xs : List X) → sum_by f (filter p xs) ≤ sum_by f xs
sum-filter_le f p [] = omega arith
sum-filter_le f p (x ∷ xs) =
    let whole = sum_by-cons f x xs in
    let part = sum_by-cons f x (filter p xs) in
    let rest = sum-filter_le f p xs in
    elim (cases_Bool (p x)) [
      | inl kept ↦ rw kept (omega arith)
      | inr gone ↦ rw gone (omega arith)
    ]

-- rows of greater numbers go, and the first stays
goes-behind : {R : Type 0} (x : ℕ × R) (rows : List (ℕ × R)) (entries : List (ℕ × ℕ)) → All (λ entry. x.0 < entry.1) entries
    → fold (λ (some : List (ℕ × R)) (entry : ℕ × ℕ). without_row some entry.1) (x ∷ rows) entries ≡ x ∷ fold (λ (some : List (ℕ × R)) (entry : ℕ × ℕ). without_row some entry.1) rows entries
goes-behind x rows [] above = refl
goes-behind x rows (e ∷ entries) above =
    let more : x.0 < e.1 = above 0 e (omega arith) in
    let other : (x.0 == e.1) ≡ false = ne_eqb x.0 e.1 (λ same. absurd (omega arith)) in
    rw other (goes-behind x (without_row rows e.1) entries (λ k d within. above (suc k) d (omega arith)))

-- the rows of a key go one after the other
pub key-goes : {R S : Type 0} (view : R → S) (key : S → ℕ) (k : ℕ) (rows : List (ℕ × R)) → AreRising rows
    → fold (λ (some : List (ℕ × R)) (entry : ℕ × ℕ). without_row some entry.1) rows (pairs key (rows_with key (map (λ e. (e.0, view e.1)) rows) k)) ≡ filter (λ e. not (key (view e.1) == k)) rows
key-goes view key k [] rising = refl
key-goes {R} {S} view key k (x ∷ rows) rising =
    let rest = key-goes view key k rows (AreRising-rest x rows rising) in
    let above : All (λ (y : ℕ × R). x.0 < y.0) rows = AreRising-first x rows rising in
    elim (cases_Bool (key (view x.1) == k)) [
      | inl here ↦ (let itself : (x.0 == x.0) ≡ true = eq-eqb x.0 x.0 refl in
          let gone : without_row (x ∷ rows) x.0 ≡ rows = rw itself (without_row-above rows x.0 above) in
          let seen : List (ℕ × S) = map (λ (e : ℕ × R). (e.0, view e.1)) rows in
          rw here (ap (λ (some : List (ℕ × R)). fold (λ (some : List (ℕ × R)) (entry : ℕ × ℕ). without_row some entry.1) some (pairs key (rows_with key seen k))) gone ∙ rest))
      | inr other ↦ (let seen : List (ℕ × S) = map (λ (e : ℕ × R). (e.0, view e.1)) rows in
          let later : All (λ (entry : ℕ × ℕ). x.0 < entry.1) (pairs key (rows_with key seen k)) =
          All-map (λ (entry : ℕ × ℕ). x.0 < entry.1) (λ (row : ℕ × S). (key row.1, row.0)) (rows_with key seen k)
          (All-filter (λ (row : ℕ × S). key row.1 == k) (λ (row : ℕ × S). x.0 < row.0) seen (All-map (λ (row : ℕ × S). x.0 < row.0) (λ (e : ℕ × R). (e.0, view e.1)) rows above)) in
          rw other (goes-behind x rows (pairs key (rows_with key seen k)) later ∙ ap (λ (some : List (ℕ × R)). x ∷ some) rest))
    ]
