-- The places from which watches are due lie between the base of the changes and their end.
use Rattle.std.proofs.Common.{◌≡◌, ℕ, zero, suc, ◌<◌, ◌≤◌, not, List, [], ◌∷◌, ◌++◌, length, get_or, refl, arith, inl, inr, Some, All}
use Rattle.std.specs.Prelude.{◌==◌, ◌||◌, filter, find, map, min}
use Rattle.std.proofs.lemmas.Bool.{cases_Bool}
use Rattle.std.proofs.lemmas.List.{length-append}
use Rattle.std.proofs.lemmas.List.Elements.{All-filter, All-map, All-push}
use Rattle.fsa_types.specs.declared.request.What.{What}
use Rattle.fsa_model.specs.Volume.{Change, Pending}
use Rattle.fsa_model.specs.Waiting.{is_notify_of}
use Rattle.fsa_model.proofs.RowLaws.{find-all}
use Rattle.notify_queue.specs.Due.{asks_for_last}
use Rattle.volume_state.specs.Watches.{AreKept, asked_by, asking, least_place, row_begun, row_noted, watch_of_row}
use Rattle.volume_state.specs.declared.watch_row.WatchRow.{WatchRow}

-- a row is due from a place between these
abbrev Lies : ℕ → ℕ → WatchRow → Type 0
Lies base end row = (base ≤ row.from) × (row.from ≤ end)

lies-same : (base end next : ℕ) (row changed : WatchRow) → end ≤ next → changed.from ≡ row.from → Lies base end row → Lies base next changed
lies-same base end next row changed more same lies = (omega (arith, same, lies.0), omega (arith, same, lies.1))

pub kept-asked : (base end : ℕ) (rows : List WatchRow) (client : ℕ) (what : What) → AreKept base end rows → AreKept base end (map (asked_by client what) rows)
kept-asked base end rows client what kept = record {
  within = kept.within;
  lie = All-map (Lies base end) (asked_by client what) rows (λ k d within. lies-same base end end (get_or rows k d) (asked_by client what (get_or rows k d)) (omega arith) (from (get_or rows k d)) (kept.lie k d within));
}
  where
    from : (row : WatchRow) → (asked_by client what row).from ≡ row.from
    from row = elim (cases_Bool (not (row.client == client) || not (is_notify_of row.number what))) [ inl stays ↦ rw stays refl | inr is ↦ rw is refl ]

pub kept-noted : (base : ℕ) (changes : List Change) (change : Change) (rows : List WatchRow) (noted : List Change) (pending : List (ℕ × Pending)) → AreKept base (length changes) rows
    → AreKept base (length (changes ++ change ∷ [])) (map (row_noted noted pending) rows)
kept-noted base changes change rows noted pending kept =
    let more = length-append changes (change ∷ []) in
    let were = kept.within in
    record {
      within = omega arith;
      lie = All-map (Lies base (length (changes ++ change ∷ []))) (row_noted noted pending) rows
          (λ k d within. lies-same base (length changes) (length (changes ++ change ∷ [])) (get_or rows k d) (row_noted noted pending (get_or rows k d)) (omega arith) (from (get_or rows k d)) (kept.lie k d within));
    }
  where
    from : (row : WatchRow) → (row_noted noted pending row).from ≡ row.from
    from row = elim (cases_Bool (row.due || not (asks_for_last (asking row) noted))) [ inl stays ↦ rw stays refl | inr is ↦ rw is refl ]

pub kept-begun : (base end : ℕ) (rows : List WatchRow) (handle : ℕ) → AreKept base end rows → AreKept base end (map (row_begun handle end) rows)
kept-begun base end rows handle kept = record {
  within = kept.within;
  lie = All-map (Lies base end) (row_begun handle end) rows (λ k d within. one (get_or rows k d) (kept.lie k d within));
}
  where
    one : (row : WatchRow) → Lies base end row → Lies base end (row_begun handle end row)
    one row lies = (let within = kept.within in elim (cases_Bool (row.handle == handle)) [ inl here ↦ rw here (kept.within, omega arith) | inr other ↦ rw other lies ])

pub kept-dropped : (base end : ℕ) (rows : List WatchRow) (handle : ℕ) → AreKept base end rows → AreKept base end (filter (λ row. not (row.handle == handle)) rows)
kept-dropped base end rows handle kept = record { within = kept.within; lie = All-filter (λ (row : WatchRow). not (row.handle == handle)) (Lies base end) rows kept.lie }

pub kept-added : (base end : ℕ) (rows : List WatchRow) (row : WatchRow) → row.from ≡ end → AreKept base end rows → AreKept base end (rows ++ row ∷ [])
kept-added base end rows row from kept = record {
  within = kept.within;
  lie = All-push (Lies base end) rows row kept.lie (let within = kept.within in (omega arith, omega arith));
}

-- ---- the least of them

least-most : (rows : List WatchRow) (end : ℕ) → least_place (map watch_of_row rows) end ≤ end
least-most [] end = omega arith
least-most (row ∷ rows) end = omega (arith, least-most rows end)

least-least : (base end : ℕ) (rows : List WatchRow) → base ≤ end → All (Lies base end) rows → base ≤ least_place (map watch_of_row rows) end
least-least base end [] within lie = within
least-least base end (row ∷ rows) within lie =
    let first = lie 0 row (omega arith) in
    omega (arith, first.0, least-least base end rows within (λ k d w. lie (suc k) d (omega arith)))

least-each : (rows : List WatchRow) (end : ℕ) → All (λ row. least_place (map watch_of_row rows) end ≤ row.from) rows
least-each [] end k d within = absurd (omega arith)
least-each (row ∷ rows) end zero d within = omega arith
least-each (row ∷ rows) end (suc k) d within = omega (arith, least-each rows end k d (omega arith))

pub kept-trimmed : (base end : ℕ) (rows : List WatchRow) → AreKept base end rows → AreKept (least_place (map watch_of_row rows) end) end rows
kept-trimmed base end rows kept = record {
  within = least-most rows end;
  lie = λ k d within. (least-each rows end k d within, (kept.lie k d within).1);
}

-- a base may be moved there
pub may-trim : (base end : ℕ) (rows : List WatchRow) → AreKept base end rows → (base ≤ least_place (map watch_of_row rows) end) × (least_place (map watch_of_row rows) end ≤ end)
may-trim base end rows kept = (least-least base end rows kept.within kept.lie, least-most rows end)

pub all-within : (base end : ℕ) (rows : List WatchRow) → AreKept base end rows → All (λ row. row.from ≤ end) rows
all-within base end rows kept = λ k d within. (kept.lie k d within).1

-- ---- what follows

pub last-kept : (base : ℕ) (changes : List Change) (change : Change) → base ≤ length changes → base < length (changes ++ change ∷ [])
last-kept base changes change within = let more = length-append changes (change ∷ []) in omega arith

pub found-kept : (base end : ℕ) (rows : List WatchRow) (handle : ℕ) (row : WatchRow) → AreKept base end rows → find (λ r. r.handle == handle) rows ≡ Some row → base ≤ row.from
found-kept base end rows handle row kept found = (find-all (Lies base end) (λ r. r.handle == handle) rows row found kept.lie).0

pub least-step : (rows : List WatchRow) (row : WatchRow) (end least next : ℕ) → next ≡ min row.from least
    → min next (least_place (map watch_of_row rows) end) ≡ min least (least_place (map watch_of_row (row ∷ rows)) end)
least-step rows row end least next is = omega (arith, is)

pub least-first : (rows : List WatchRow) (end : ℕ) → min end (least_place (map watch_of_row rows) end) ≡ least_place (map watch_of_row rows) end
least-first rows end = omega (arith, least-most rows end)

pub least-end : (end least : ℕ) → least ≤ end → min least (least_place (map watch_of_row []) end) ≡ least
least-end end least most = omega arith
