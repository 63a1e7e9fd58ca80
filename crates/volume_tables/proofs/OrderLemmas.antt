-- The first in order of the rows of some numbers, as they are looked at from the last to the first.
use Rattle.std.proofs.Common.{◌≡◌, ◌∙◌, ℕ, ◌+◌, ◌-◌, ◌<◌, ◌≤◌, Bool, true, false, List, [], ◌∷◌, Option, Some, None, drop, get_or, length, refl, sym, ap, inl, inr, arith}
use Rattle.std.specs.Prelude.{◌==◌, filter, option_map, slice_get}
use Rattle.std.specs.List.{cons_option}
use Rattle.std.specs.Option.{option_map_or}
use Rattle.std.specs.Ordering.{is_lt}
use Rattle.std.proofs.lemmas.Bool.{and_parts, cases_Bool}
use Rattle.std.proofs.lemmas.List.{drop_more}
use Rattle.fsa_types.specs.CaseTable.{cmp_name}
use Rattle.fsa_types.specs.Rows.{row_of, IsNumbered}
use Rattle.fsa_types.specs.Sorting.{in_order, put_in_order}
use Rattle.fsa_model.specs.QueryInfo.{is_stream_before}
use Rattle.fsa_model.specs.Volume.{Stream}
use Rattle.key_index.specs.Index.{entries_under}
use Rattle.key_index.specs.RowsByKey.{IsIndexOf, rows_of_entries}
use Rattle.volume_tables.specs.StreamOrder.{first_with, is_stream_after, stream_number_after}
use Rattle.volume_tables.specs.StreamTable.{stream_file_key}
use Rattle.volume_tables.proofs.IndexLaws.{list-by_key}

-- the first of a list that an item was put into
first-put : {T : Type 0} (before : T → T → Bool) (test : T → Bool) (item : T) (items : List T) → test item ≡ true
    → slice_get (put_in_order before item items) 0 ≡ first_with before test item (slice_get items 0)
first-put before test item [] passes = rw passes refl
first-put before test item (first ∷ items) passes = elim (cases_Bool (before item first)) [
  | inl earlier ↦ rw (passes, earlier) refl
  | inr later ↦ rw (passes, later) refl
]

fails-first : {T : Type 0} (before : T → T → Bool) (test : T → Bool) (item : T) (items : List T) → test item ≡ false
    → slice_get items 0 ≡ first_with before test item (slice_get items 0)
fails-first before test item [] fails = rw fails refl
fails-first before test item (first ∷ items) fails = rw fails refl

first-more : {T : Type 0} (before : T → T → Bool) (test : T → Bool) (item : T) (items : List T)
    → slice_get (in_order before (filter test (item ∷ items))) 0 ≡ first_with before test item (slice_get (in_order before (filter test items)) 0)
first-more before test item items = elim (cases_Bool (test item)) [
  | inl passes ↦ rw passes (first-put before test item (in_order before (filter test items)) passes)
  | inr fails ↦ rw fails (fails-first before test item (in_order before (filter test items)) fails)
]

module _ {R : Type 0} (before : ℕ × R → ℕ × R → Bool) (test : ℕ × R → Bool) where
  -- the first of the rows of these numbers, each looked up
  abbrev first_looked_up : List (ℕ × R) → List (ℕ × ℕ) → Option (ℕ × R)
  first_looked_up rows entries = slice_get (in_order before (filter test (rows_of_entries rows entries))) 0

  first-looked : (id : ℕ) (found : Option R) (some : List (ℕ × R))
      → option_map_or (λ (row : R). first_with before test (id, row) (slice_get (in_order before (filter test some)) 0)) found (slice_get (in_order before (filter test some)) 0)
      ≡ slice_get (in_order before (filter test (cons_option (option_map (λ (row : R). (id, row)) found) some))) 0
  first-looked id None some = refl
  first-looked id (Some row) some = sym (first-more before test (id, row) some)

  -- as the numbers are looked at from the last to the first
  pub first-earlier : (rows : List (ℕ × R)) (entries : List (ℕ × ℕ)) (place : ℕ) (default : ℕ × ℕ) → 0 < place → place ≤ length entries
      → option_map_or (λ (row : R). first_with before test ((get_or entries (place - 1) default).1, row) (first_looked_up rows (drop place entries))) (row_of rows (get_or entries (place - 1) default).1) (first_looked_up rows (drop place entries))
      ≡ first_looked_up rows (drop (place - 1) entries)
  first-earlier rows entries place default above within =
      let entry : ℕ × ℕ = get_or entries (place - 1) default in
      let next : place - 1 + 1 ≡ place = omega (arith, above) in
      let starts : drop (place - 1) entries ≡ entry ∷ drop place entries = drop_more entries (place - 1) default (omega (arith, above, within)) ∙ ap (λ n. entry ∷ drop n entries) next in
      first-looked entry.1 (row_of rows entry.1) (rows_of_entries rows (drop place entries)) ∙ sym (ap (first_looked_up rows) starts)

-- a stream that comes after a name is one of the file
after-only : (table : List (ℕ × ℕ)) (file : ℕ) (units : List ℕ) (row : Stream) → is_stream_after table file units row ≡ true → (stream_file_key row == file) ≡ true
after-only table file units row is = (and_parts (row.file == file) (is_lt (cmp_name table units row.name)) is).0

-- the first of all streams that come after a name is that of the streams of the file
pub after-by_file : (table : List (ℕ × ℕ)) (file : ℕ) (units : List ℕ) (rows : List (ℕ × Stream)) (last : ℕ) (entries : List (ℕ × ℕ)) → IsNumbered rows last → IsIndexOf stream_file_key rows entries
    → stream_number_after table file units rows ≡ stream_number_after table file units (rows_of_entries rows (entries_under entries file))
after-by_file table file units rows last entries numbered index =
    ap (λ (some : List (ℕ × Stream)). option_map (λ (entry : ℕ × Stream). entry.0) (slice_get (in_order (is_stream_before table) some) 0))
    (list-by_key stream_file_key file (is_stream_after table file units) (after-only table file units) rows last entries numbered index)
