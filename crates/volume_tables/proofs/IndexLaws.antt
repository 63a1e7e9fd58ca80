-- What is asked of all rows, where those that pass have one key, is asked of the rows of that key alone.
use Rattle.std.proofs.Common.{◌≡◌, ℕ, true, false, Bool, List, Option, [], ◌∷◌, ◌∙◌, get_or, length, refl, ap, sym, inl, inr, Some, None}
use Rattle.std.specs.Prelude.{filter, find, not, option_map, ◌==◌, ◌&&◌, ◌||◌}
use Rattle.std.specs.List.{All, list_any}
use Rattle.std.specs.Option.{option_map_or}
use Rattle.std.proofs.lemmas.Bool.{cases_Bool, and_parts, false≢true}
use Rattle.fsa_types.specs.Oplocks.{is_same_key}
use Rattle.fsa_types.specs.Rows.{IsNumbered, with_row_changed}
use Rattle.fsa_model.specs.Lookups.{is_one_of, is_open_on, number_of}
use Rattle.fsa_model.specs.Volume.{Handle, Link}
use Rattle.fsa_model.proofs.RowLaws.{change_at, change_at-same}
use Rattle.std.proofs.lemmas.List.Elements.{All-map}
use Rattle.fsa_types.specs.declared.oplock.HandleSet.TheVariants as set
use Rattle.key_index.specs.Index.{entries_under}
use Rattle.key_index.specs.RowsByKey.{IsIndexOf, row_passes, rows_of_entries}
use Rattle.key_index.proofs.RowLaws.{index-any, index-changed, index-counted, index-found, index-listed}
use Rattle.volume_tables.specs.HandleIndex.{AreIndexed, FitsKey, IndexedHandles, opening_key, stream_key, link_key}

module _ {R : Type 0} (key : R → ℕ) (k : ℕ) (p : R → Bool) (only : (row : R) → p row ≡ true → (key row == k) ≡ true) where
  also : (row : R) → (key row == k && p row) ≡ p row
  also row = elim (cases_Bool (p row)) [
    | inl passes ↦ (let here : (key row == k) ≡ true = only row passes in rw (here, passes) refl)
    | inr fails ↦ elim (cases_Bool (key row == k)) [
      | inl here ↦ rw here refl
      | inr other ↦ rw (other, fails) refl
    ]
  ]

  find-also : (rows : List (ℕ × R)) → find (λ row. key row.1 == k && p row.1) rows ≡ find (λ row. p row.1) rows
  find-also [] = refl
  find-also (x ∷ rows) = elim (cases_Bool (p x.1)) [
    | inl passes ↦ rw (also x.1, passes) refl
    | inr fails ↦ rw (also x.1, fails) (find-also rows)
  ]

  any-also : (rows : List (ℕ × R)) → list_any (λ row. key row.1 == k && p row.1) rows ≡ list_any (λ row. p row.1) rows
  any-also [] = refl
  any-also (x ∷ rows) = rw (also x.1) (ap (λ rest. p x.1 || rest) (any-also rows))

  filter-also : (rows : List (ℕ × R)) → filter (λ row. key row.1 == k && p row.1) rows ≡ filter (λ row. p row.1) rows
  filter-also [] = refl
  filter-also (x ∷ rows) = elim (cases_Bool (p x.1)) [
    | inl passes ↦ rw (also x.1, passes) (ap (λ (rest : List (ℕ × R)). x ∷ rest) (filter-also rows))
    | inr fails ↦ rw (also x.1, fails) (filter-also rows)
  ]

  module _ (rows : List (ℕ × R)) (last : ℕ) (entries : List (ℕ × ℕ)) (numbered : IsNumbered rows last) (index : IsIndexOf key rows entries) where
    pub number-by_key : number_of p rows ≡ option_map (λ (entry : ℕ × ℕ). entry.1) (find (row_passes rows (λ row. p row.1)) (entries_under entries k))
    number-by_key = ap (option_map (λ (row : ℕ × R). row.0)) (sym (find-also rows)) ∙ index-found key rows last entries k (λ row. p row.1) numbered index

    pub any-by_key : list_any (λ row. p row.1) rows ≡ list_any (row_passes rows (λ row. p row.1)) (entries_under entries k)
    any-by_key = sym (any-also rows) ∙ index-any key rows last entries k (λ row. p row.1) numbered index

    pub count-by_key : length (filter (λ row. p row.1) rows) ≡ length (filter (row_passes rows (λ row. p row.1)) (entries_under entries k))
    count-by_key = ap length (sym (filter-also rows)) ∙ index-counted key rows last entries k (λ row. p row.1) numbered index

    pub list-by_key : filter (λ row. p row.1) rows ≡ filter (λ row. p row.1) (rows_of_entries rows (entries_under entries k))
    list-by_key = sym (filter-also rows) ∙ index-listed key rows last entries k (λ row. p row.1) numbered index

-- the same of a test that looks at the number too
module _ {R : Type 0} (key : R → ℕ) (k : ℕ) (test : ℕ × R → Bool) (only : (row : ℕ × R) → test row ≡ true → (key row.1 == k) ≡ true) where
  also-entry : (row : ℕ × R) → (key row.1 == k && test row) ≡ test row
  also-entry row = elim (cases_Bool (test row)) [
    | inl passes ↦ (let here : (key row.1 == k) ≡ true = only row passes in rw (here, passes) refl)
    | inr fails ↦ elim (cases_Bool (key row.1 == k)) [
      | inl here ↦ rw here refl
      | inr other ↦ rw (other, fails) refl
    ]
  ]

  any-entry : (rows : List (ℕ × R)) → list_any (λ row. key row.1 == k && test row) rows ≡ list_any test rows
  any-entry [] = refl
  any-entry (x ∷ rows) = rw (also-entry x) (ap (λ rest. test x || rest) (any-entry rows))

  pub any-by_entry : (rows : List (ℕ × R)) (last : ℕ) (entries : List (ℕ × ℕ)) → IsNumbered rows last → IsIndexOf key rows entries → list_any test rows ≡ list_any (row_passes rows test) (entries_under entries k)
  any-by_entry rows last entries numbered index = sym (any-entry rows) ∙ index-any key rows last entries k test numbered index

-- ---- keys of handles

stream-at : (stream : ℕ) (own : Option ℕ) → option_map_or (λ s. s == stream) own false ≡ true → (option_map_or (λ (s : ℕ). s) own 0 == stream) ≡ true
stream-at stream None is = absurd (false≢true is)
stream-at stream (Some s) is = is

pub stream-only : (links : List (ℕ × Link)) (stream : ℕ) (row : Handle) → is_one_of links (set.Stream stream) row ≡ true → (stream_key row == stream) ≡ true
stream-only links stream row is = stream-at stream row.stream is

pub other-only : (stream handle key : ℕ) (entry : ℕ × Handle) → (is_open_on stream entry.1 && not (is_same_key entry.0 entry.1.key (Some handle) key)) ≡ true → (stream_key entry.1 == stream) ≡ true
other-only stream handle key entry is = stream-at stream entry.1.stream (and_parts (is_open_on stream entry.1) (not (is_same_key entry.0 entry.1.key (Some handle) key)) is).0

pub link-only : (links : List (ℕ × Link)) (link : ℕ) (row : Handle) → is_one_of links (set.Link link) row ≡ true → (link_key row == link) ≡ true
link-only links link row is = is

-- a row changes but for its keys
fit-changed : (change : Handle → Handle) (rows : List (ℕ × Handle)) (id : ℕ) → ((row : Handle) → (change row).client ≡ row.client) → ((row : Handle) → (change row).number ≡ row.number)
    → All (λ entry. FitsKey entry.1) rows → All (λ entry. FitsKey entry.1) (with_row_changed change rows id)
fit-changed change rows id client number fit =
    All-map (λ (entry : ℕ × Handle). FitsKey entry.1) (change_at change id) rows (λ i d within.
    let entry : ℕ × Handle = get_or rows i d in
    let same_client : (change_at change id entry).1.client ≡ entry.1.client = change_at-same change id (λ row. row.client) client entry in
    let same_number : (change_at change id entry).1.number ≡ entry.1.number = change_at-same change id (λ row. row.number) number entry in
    let fits = fit i d within in
    (rw same_client fits.0, rw same_number fits.1))

pub AreIndexed-changed : (change : Handle → Handle) (rows : List (ℕ × Handle)) (id : ℕ) (index : IndexedHandles) → ((row : Handle) → (change row).client ≡ row.client)
    → ((row : Handle) → (change row).number ≡ row.number) → ((row : Handle) → stream_key (change row) ≡ stream_key row) → ((row : Handle) → link_key (change row) ≡ link_key row)
    → AreIndexed rows index → AreIndexed (with_row_changed change rows id) index
AreIndexed-changed change rows id index client number streams links is = record {
  fit = fit-changed change rows id client number is.fit;
  calls = index-changed opening_key change rows index.calls id (λ row. rw (client row, number row) refl) is.calls;
  streams = index-changed stream_key change rows index.streams id streams is.streams;
  links = index-changed link_key change rows index.links id links is.links;
}
