-- The least turn of a Notify to which something is due, by the watches.
use Rattle.std.proofs.Common.{◌≡◌, ℕ, zero, suc, ◌+◌, ◌<◌, ◌≤◌, Bool, true, false, List, [], ◌∷◌, length, drop, get_or, refl, ap, sym, subst, ◌∙◌, arith, inl, inr, Option, Some, None, All}
use Rattle.std.specs.Prelude.{◌==◌, ◌&&◌, find, filter, map, nat_lt, option_map, slice_get, slice_index_or}
use Rattle.std.specs.List.{list_any}
use Rattle.std.proofs.lemmas.List.{drop_all}
use Rattle.std.proofs.lemmas.Bool.{cases_Bool, and_parts, eq-eqb, eqb-true, false≢true}
use Rattle.fsa_types.specs.Rows.{row_of, IsNumbered}
use Rattle.fsa_types.specs.Sorting.{in_order}
use Rattle.fsa_types.specs.declared.request.Request.TheVariants.{Notify}
use Rattle.fsa_types.specs.declared.request.What.{What}
use Rattle.fsa_types.specs.declared.request.What.TheVariants.{Ask}
use Rattle.fsa_model.specs.Lookups.{handle_of, is_opened_by}
use Rattle.fsa_model.specs.Volume.{Pending, Volume}
use Rattle.fsa_model.specs.Waiting.{has_due, is_notify_of, is_notify_on}
use Rattle.fsa_model.specs.Watching.{due, is_something_due, watch_of}
use Rattle.fsa_model.proofs.RowLaws.{find-all, find-any, option_cases}
use Rattle.notify_queue.specs.Due.{due_of}
use Rattle.volume_breaks.proofs.BreakLemmas.{drop-item}
use Rattle.volume_state.specs.Waits.{asks_for_due, first_turn, is_due, lesser}
use Rattle.volume_state.specs.Watches.{AreWatched, IsWatched, asking, is_due_on, watch_of_row}
use Rattle.volume_state.specs.declared.watch_row.WatchRow.{WatchRow}
use Rattle.volume_state.proofs.HandleLaws.{number-passes}
use Rattle.volume_state.proofs.OpenLaws.{find-passes}
use Rattle.volume_state.proofs.WaitLaws.{first_turn-either}
use Rattle.volume_state.proofs.WatchedLaws.{due-of-row, watches-found}

-- ---- the least of several kinds

lesser-none : (a : Option ℕ) → lesser a None ≡ a
lesser-none None = refl
lesser-none (Some a) = refl

lesser-apart : (a b c : Option ℕ) → lesser (lesser a b) c ≡ lesser a (lesser b c)
lesser-apart None b c = refl
lesser-apart (Some a) None c = refl
lesser-apart (Some a) (Some b) None = refl
lesser-apart (Some a) (Some b) (Some c) = ap Some (omega arith)

filter-same : {X : Type 0} (p q : X → Bool) (xs : List X) → All (λ x. p x ≡ q x) xs → filter p xs ≡ filter q xs
filter-same p q [] same = refl
filter-same {X} p q (x ∷ xs) same =
    let here : p x ≡ q x = same 0 x (omega arith) in
    let rest : filter p xs ≡ filter q xs = filter-same p q xs (λ k d within. same (suc k) d (omega arith)) in
    elim (cases_Bool (q x)) [
      | inl passes ↦ rw (here, passes) (ap (λ (ys : List X). x ∷ ys) rest)
      | inr fails ↦ rw (here, fails) rest
    ]

pub first_turn-same : (p q : Pending → Bool) (rows : List (ℕ × Pending)) → All (λ entry. p entry.1 ≡ q entry.1) rows → first_turn p rows ≡ first_turn q rows
first_turn-same p q rows same =
    ap (λ (kept : List (ℕ × Pending)). option_map (λ (entry : ℕ × Pending). entry.0) (slice_get (in_order (λ (a : ℕ × Pending) (b : ℕ × Pending). nat_lt a.0 b.0) kept) 0))
    (filter-same (λ (entry : ℕ × Pending). p entry.1) (λ (entry : ℕ × Pending). q entry.1) rows same)

filter-never : {X : Type 0} (xs : List X) → filter (λ _. false) xs ≡ []
filter-never [] = refl
filter-never (x ∷ xs) = filter-never xs

first_turn-never : (rows : List (ℕ × Pending)) → first_turn (λ _. false) rows ≡ None
first_turn-never rows =
    ap (λ (kept : List (ℕ × Pending)). option_map (λ (entry : ℕ × Pending). entry.0) (slice_get (in_order (λ (a : ℕ × Pending) (b : ℕ × Pending). nat_lt a.0 b.0) kept) 0))
    (filter-never rows)

-- where no call passes, the first is what was found before
pub first_turn-lost : (first : Option ℕ) (test : Pending → Bool) (rows : List (ℕ × Pending)) → ((call : Pending) → test call ≡ false) → first ≡ lesser first (first_turn test rows)
first_turn-lost first test rows fails =
    sym (ap (lesser first) (first_turn-same test (λ _. false) rows (λ k d within. fails (get_or rows k d).1) ∙ first_turn-never rows) ∙ lesser-none first)

-- ---- row by row

-- where a row may report, the first is that of its handle; else none is
abbrev pub may_report : Volume → WatchRow → Bool
may_report v row = (row.due && row.asked) && has_due v row.client row.number

pub on-found : (v : Volume) (row : WatchRow) (first : Option ℕ) (pending : List (ℕ × Pending)) → may_report v row ≡ true
    → lesser first (first_turn (is_notify_on row.client row.number) pending) ≡ lesser first (first_turn (is_due_on v row) pending)
on-found v row first pending may =
    ap (lesser first) (first_turn-same (is_notify_on row.client row.number) (is_due_on v row) pending
    (λ k d within. both (row.due && row.asked) (has_due v row.client row.number) (is_notify_on row.client row.number (get_or pending k d).1) may))
  where
    both : (a b c : Bool) → (a && b) ≡ true → c ≡ (a && (b && c))
    both true true c may = refl
    both true false c may = absurd (false≢true may)
    both false b c may = absurd (false≢true may)

pub on-lost : (v : Volume) (row : WatchRow) (first : Option ℕ) (pending : List (ℕ × Pending)) → may_report v row ≡ false → first ≡ lesser first (first_turn (is_due_on v row) pending)
on-lost v row first pending may =
    first_turn-lost first (is_due_on v row) pending (λ call. neither (row.due && row.asked) (has_due v row.client row.number) (is_notify_on row.client row.number call) may)
  where
    neither : (a b c : Bool) → (a && b) ≡ false → (a && (b && c)) ≡ false
    neither true true c may = absurd (false≢true (sym may))
    neither true false c may = refl
    neither false b c may = refl

get-any : {X : Type 0} (xs : List X) (i : ℕ) (d e : X) → i < length xs → get_or xs i d ≡ get_or xs i e
get-any [] i d e within = absurd (omega arith)
get-any (x ∷ xs) zero d e within = refl
get-any (x ∷ xs) (suc i) d e within = get-any xs i d e (omega arith)

pub among-more : (v : Volume) (rows : List WatchRow) (pending : List (ℕ × Pending)) (i : ℕ) (d : WatchRow) (first next : Option ℕ) → i < length rows
    → next ≡ lesser first (first_turn (is_due_on v (slice_index_or rows i d)) pending)
    → lesser next (first_turn (λ call. list_any (λ r. is_due_on v r call) (drop (i + 1) rows)) pending) ≡ lesser first (first_turn (λ call. list_any (λ r. is_due_on v r call) (drop i rows)) pending)
among-more v rows pending i d first next within is =
    let row : WatchRow = slice_index_or rows i d in
    ap (λ (found : Option ℕ). lesser found (first_turn (λ call. list_any (λ r. is_due_on v r call) (drop (i + 1) rows)) pending)) is
    ∙ lesser-apart first (first_turn (is_due_on v row) pending) (first_turn (λ call. list_any (λ r. is_due_on v r call) (drop (i + 1) rows)) pending)
    ∙ ap (lesser first) (sym (first_turn-either (λ call. list_any (λ r. is_due_on v r call) (row ∷ drop (i + 1) rows)) (is_due_on v row) (λ call. list_any (λ r. is_due_on v r call) (drop (i + 1) rows)) pending (λ k e w. refl)))
    ∙ ap (λ (rest : List WatchRow). lesser first (first_turn (λ call. list_any (λ r. is_due_on v r call) rest) pending)) (sym (drop-item rows i row within (get-any rows i d row within)))

pub among-end : (v : Volume) (rows : List WatchRow) (pending : List (ℕ × Pending)) (i : ℕ) (first : Option ℕ) → length rows ≤ i
    → lesser first (first_turn (λ call. list_any (λ r. is_due_on v r call) (drop i rows)) pending) ≡ first
among-end v rows pending i first past =
    ap (λ (rest : List WatchRow). lesser first (first_turn (λ call. list_any (λ r. is_due_on v r call) rest) pending)) (drop_all i rows past)
    ∙ ap (lesser first) (first_turn-never pending) ∙ lesser-none first

-- ---- what is due to a pending call is due by a row

-- a Notify to which something is due by a row is one to which something is due
due-by : (v : Volume) (row : WatchRow) (call : Pending) → is_due_on v row call ≡ true → is_due v call ≡ true
due-by v row call on =
    let parts = and_parts (row.due && row.asked) (has_due v row.client row.number && is_notify_on row.client row.number call) on in
    let more = and_parts (has_due v row.client row.number) (is_notify_on row.client row.number call) parts.1 in
    let last = and_parts (call.call.client == row.client) (is_notify_of row.number call.call.what) more.1 in
    let client : call.call.client ≡ row.client = eqb-true call.call.client row.client last.0 in
    go call.call.what client last.1 more.0
  where
    go : (what : What) → call.call.client ≡ row.client → is_notify_of row.number what ≡ true → has_due v row.client row.number ≡ true → asks_for_due v call.call.client what ≡ true
    go (Ask (Notify handle filter tree room)) own is has = rw (own, eqb-true handle row.number is) has
    go _ own is has = (let impossible : false ≡ true = is in cc)

-- a handle has a row where something is due to it, which says so; and the handle was opened by the row's call
has-row : (v : Volume) (rows : List WatchRow) (id : ℕ) → v.watches ≡ map watch_of_row rows → AreWatched v.handles v.links v.changes v.pending rows → is_something_due v id ≡ true
    → (row : WatchRow) × (find (λ r. r.handle == id) rows ≡ Some row) × (row.due ≡ true)
has-row v rows id are watched some =
    elim (option_cases (find (λ (r : WatchRow). r.handle == id) rows)) [
      | inl none ↦ (let watch : watch_of v id ≡ None = rw are (watches-found rows id ∙ ap (option_map watch_of_row) none) in
          let impossible : false ≡ true = rw watch at some in absurd (false≢true impossible))
      | inr found ↦ (let row : WatchRow = found.0 in
          let is : IsWatched v.handles v.links v.changes v.pending row = find-all (IsWatched v.handles v.links v.changes v.pending) (λ r. r.handle == id) rows row found.1 watched in
          let own : row.handle ≡ id = eqb-true row.handle id (find-passes (λ (r : WatchRow). r.handle == id) rows row found.1) in
          let of = is.of_handle in
          let all : due v id ≡ due_of v.changes (asking row) = due-of-row v rows id row of.handle are found.1 (subst (λ (n : ℕ). row_of v.handles n ≡ Some of.handle) own of.found) of.dir in
          elim (cases_Bool row.due) [
            | inl due_is ↦ (row, found.1, due_is)
            | inr isnt ↦ (let nothing : due v id ≡ [] = all ∙ is.quiet isnt in
                let impossible : false ≡ true = rw nothing at some in absurd (false≢true impossible))
          ])
    ]

-- a pending Notify to which something is due is so by a row
by-row : (v : Volume) (rows : List WatchRow) (k : ℕ) (entry : ℕ × Pending) → v.watches ≡ map watch_of_row rows → AreWatched v.handles v.links v.changes v.pending rows
    → IsNumbered v.handles v.last_handle → k < length v.pending → get_or v.pending k entry ≡ entry → is_due v entry.1 ≡ true → list_any (λ row. is_due_on v row entry.1) rows ≡ true
by-row v rows k entry are watched numbered within read is = go entry.1.call.what refl is
  where
    go : (what : What) → entry.1.call.what ≡ what → asks_for_due v entry.1.call.client what ≡ true → list_any (λ row. is_due_on v row entry.1) rows ≡ true
    go (Ask (Notify handle filter_bits tree room)) asked has =
        elim (option_cases (handle_of v entry.1.call.client handle)) [
          | inl none ↦ (let impossible : false ≡ true = rw none at has in absurd (false≢true impossible))
          | inr some ↦ (let id : ℕ = some.0 in
              let due_is : is_something_due v id ≡ true = rw some.1 at has in
              let found = has-row v rows id are watched due_is in
              let row : WatchRow = found.0 in
              let known : IsWatched v.handles v.links v.changes v.pending row = find-all (IsWatched v.handles v.links v.changes v.pending) (λ r. r.handle == id) rows row found.1 watched in
              let own : row.handle ≡ id = eqb-true row.handle id (find-passes (λ (r : WatchRow). r.handle == id) rows row found.1) in
              let of = known.of_handle in
              let living : row_of v.handles id ≡ Some of.handle = subst (λ (n : ℕ). row_of v.handles n ≡ Some of.handle) own of.found in
              let opened : is_opened_by entry.1.call.client handle of.handle ≡ true
              = rw (some.1, living) at (number-passes (is_opened_by entry.1.call.client handle) (is_opened_by entry.1.call.client handle) v.handles v.last_handle numbered (λ r passes. passes)) in
              let parts = and_parts (of.handle.client == entry.1.call.client) (of.handle.number == handle) opened in
              let client : entry.1.call.client ≡ row.client = sym (eqb-true of.handle.client entry.1.call.client parts.0) ∙ of.client in
              let number : handle ≡ row.number = sym (eqb-true of.handle.number handle parts.1) ∙ of.number in
              let on : is_notify_on row.client row.number entry.1 ≡ true = rw (asked, eq-eqb entry.1.call.client row.client client) (eq-eqb handle row.number number) in
              let has_row : has_due v row.client row.number ≡ true = rw (← client, ← number) has in
              let asked_is : row.asked ≡ true = elim (cases_Bool row.asked) [
                | inl yes_asked ↦ yes_asked
                | inr isnt ↦ (let never : is_notify_on row.client row.number entry.1 ≡ false = rw read at (known.unasked isnt k entry within) in absurd (false≢true (sym never ∙ on)))
              ] in
              find-any (λ (r : WatchRow). r.handle == id) (λ r. is_due_on v r entry.1) rows row found.1 (rw (found.2, asked_is, has_row, on) refl))
        ]
    go _ asked has = (let impossible : false ≡ true = has in cc)

same-bools : (a b : Bool) → (a ≡ true → b ≡ true) → (b ≡ true → a ≡ true) → a ≡ b
same-bools true b there back = sym (there refl)
same-bools false true there back = back refl
same-bools false false there back = refl

any-due : (v : Volume) (rows : List WatchRow) (call : Pending) → list_any (λ row. is_due_on v row call) rows ≡ true → is_due v call ≡ true
any-due v [] call some = absurd (false≢true some)
any-due v (row ∷ rows) call some = elim (cases_Bool (is_due_on v row call)) [
  | inl on ↦ due-by v row call on
  | inr other ↦ any-due v rows call (rw other at some)
]

-- the least turn of a Notify to which something is due is the least by the rows
pub due-by-rows : (v : Volume) (rows : List WatchRow) → v.watches ≡ map watch_of_row rows → AreWatched v.handles v.links v.changes v.pending rows → IsNumbered v.handles v.last_handle
    → first_turn (λ call. list_any (λ row. is_due_on v row call) rows) v.pending ≡ first_turn (is_due v) v.pending
due-by-rows v rows are watched numbered =
    first_turn-same (λ call. list_any (λ row. is_due_on v row call) rows) (is_due v) v.pending
    (λ k d within.
    let entry : ℕ × Pending = get_or v.pending k d in
    same-bools (list_any (λ row. is_due_on v row entry.1) rows) (is_due v entry.1) (any-due v rows entry.1)
    (by-row v rows k entry are watched numbered within (get-again v.pending k d within)))
  where
    get-again : {X : Type 0} (xs : List X) (k : ℕ) (d : X) → k < length xs → get_or xs k (get_or xs k d) ≡ get_or xs k d
    get-again [] k d within = absurd (omega arith)
    get-again (x ∷ xs) zero d within = refl
    get-again (x ∷ xs) (suc k) d within = get-again xs k d (omega arith)
