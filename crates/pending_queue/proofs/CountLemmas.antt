-- Calls with how many of their blockers live: as a count is put in, lowered or taken out, and what the counts are of.
use Rattle.std.proofs.Common.{◌≡◌, ℕ, zero, suc, Bool, true, false, not, ◌+◌, ◌-◌, ◌<◌, List, [], ◌∷◌, ◌++◌, length, get_or, refl, ap, sym, subst, ◌∙◌, arith, inl, inr, eq-eqb, append_assoc, Option, Some, None}
use Rattle.std.specs.List.{list_any, position, All, AllPairs}
use Rattle.std.specs.Option.{option_map_or}
use Rattle.std.specs.Prelude.{◌==◌, ◌||◌, filter, remove, IfNone}
use Rattle.std.proofs.Math.ListN.{set}
use Rattle.std.proofs.lemmas.Bool.{cases_Bool, cases_lt, ne_eqb, eqb-true, eqb-false, false≢true, lt-ltb}
use Rattle.std.proofs.lemmas.List.{map-append, length-append, length-map, get_or-map}
use Rattle.std.proofs.lemmas.List.Sums.{position_or_len_is}
use Rattle.std.proofs.lemmas.List.Kept.{AllPairs-filter}
use Rattle.std.proofs.lemmas.List.Quantifiers.{all_pairs_push}
use Rattle.std.proofs.lemmas.List.Folds.{list_any_at, list_any-append}
use Rattle.fsa_types.specs.Rows.{lives, row_of, with_row_changed, without_row}
use Rattle.fsa_types.specs.declared.reply.Blocker.{Blocker}
use Rattle.fsa_types.proofs.RowLemmas.{IsAt-position, fails-none, row_of-none}
use Rattle.pending_queue.specs.Lists.{AreCounted, AreInOrder, IsBehind, NoneBeside, counted, discounted, is_at, ready_turns, sorted, turns_of, with_count, with_turn_among}
use Rattle.pending_queue.specs.PendingQueue.{blockers_under, calls_added, held_of, is_same, with_blocker_ended, with_call_held}
use Rattle.pending_queue.proofs.QueueLemmas.{blockers-append, blockers-ended, blockers-gone, blockers-kept, held-ended, held-held, held-lives, held-removed, put, put-own, put-others}

-- ---- rows under numbers that differ

abbrev pub AllDiffer : {R : Type 0} → List (ℕ × R) → Type 0
AllDiffer rows = AllPairs (λ a b. (a.0 == b.0) ≡ false) rows

other_way : (a b : ℕ) → (a == b) ≡ false → (b == a) ≡ false
other_way a b differ = ne_eqb b a (λ same. eqb-false a b differ (sym same))

differ-rest : {R : Type 0} (row : ℕ × R) (rows : List (ℕ × R)) → AllDiffer (row ∷ rows) → AllDiffer rows
differ-rest row rows differ i j d below within = differ (suc i) (suc j) d (omega arith) (omega arith)

-- the first row's number is no other's
differ-first : {R : Type 0} (row : ℕ × R) (rows : List (ℕ × R)) → AllDiffer (row ∷ rows) → All (λ e. (row.0 == e.0) ≡ false) rows
differ-first row rows differ k d within = differ 0 (suc k) d (omega arith) (omega arith)

differ-here : {R : Type 0} (row : ℕ × R) (rows : List (ℕ × R)) (id : ℕ) → AllDiffer (row ∷ rows) → (row.0 == id) ≡ true → All (λ e. (e.0 == id) ≡ false) rows
differ-here row rows id differ here k d within =
    let is : row.0 ≡ id = eqb-true row.0 id here in
    other_way id (get_or rows k d).0 (rw is at (differ-first row rows differ k d within))

-- the place of a row
pub place-is : {R : Type 0} (rows : List (ℕ × R)) (place id : ℕ) (d : ℕ × R) → AllDiffer rows → place < length rows → (get_or rows place d).0 ≡ id → position (λ e. e.0 == id) rows ≡ Some place
place-is rows place id d differ within here =
    let at = position_or_len_is (λ e. e.0 == id) rows place d (omega arith)
    (λ k below. ne_eqb (get_or rows k d).0 id (λ same. eqb-false (get_or rows k d).0 (get_or rows place d).0 (differ k place d below within) (same ∙ sym here)))
    (λ _. eq-eqb (get_or rows place d).0 id here) in
    rw (at, lt-ltb place (length rows) within) refl

-- a test of a place that tells it
is_at-cases : (calls : List (ℕ × ℕ)) (place turn : ℕ) → is_at calls place turn ≡ true → (place < length calls) × ((get_or calls place (0, 0)).0 ≡ turn)
is_at-cases [] place turn at = absurd (false≢true at)
is_at-cases (c ∷ cs) zero turn at = (omega arith, eqb-true c.0 turn at)
is_at-cases (c ∷ cs) (suc place) turn at = (let rest = is_at-cases cs place turn at in (omega (arith, rest.0), rest.1))

pub is_at-place : (calls : List (ℕ × ℕ)) (place turn : ℕ) → AllDiffer calls → is_at calls place turn ≡ true → Some place ≡ position (λ e. e.0 == turn) calls
is_at-place calls place turn differ at =
    let there = is_at-cases calls place turn at in
    sym (place-is calls place turn (0, 0) differ there.0 there.1)

-- a row that isn't there
pub lives-none : {R : Type 0} (rows : List (ℕ × R)) (id : ℕ) → All (λ e. (e.0 == id) ≡ false) rows → lives rows id ≡ false
lives-none [] id none = refl
lives-none (row ∷ rows) id none =
    let other : (row.0 == id) ≡ false = none 0 row (omega arith) in
    rw other (lives-none rows id (λ k d within. none (suc k) d (omega arith)))

pub none-lives : {R : Type 0} (rows : List (ℕ × R)) (id : ℕ) → lives rows id ≡ false → All (λ e. (e.0 == id) ≡ false) rows
none-lives rows id none k d within =
    elim (cases_Bool ((get_or rows k d).0 == id)) [
      | inl passes ↦ absurd (false≢true (sym none ∙ list_any_at (λ e. e.0 == id) rows k d within passes))
      | inr fails ↦ fails
    ]

pub row-none : {R : Type 0} (rows : List (ℕ × R)) (id : ℕ) → All (λ e. (e.0 == id) ≡ false) rows → row_of rows id ≡ None
row-none [] id none = refl
row-none (row ∷ rows) id none =
    let other : (row.0 == id) ≡ false = none 0 row (omega arith) in
    rw other (row-none rows id (λ k d within. none (suc k) d (omega arith)))

pub without-none : {R : Type 0} (rows : List (ℕ × R)) (id : ℕ) → All (λ e. (e.0 == id) ≡ false) rows → without_row rows id ≡ rows
without-none [] id none = refl
without-none (row ∷ rows) id none =
    let other : (row.0 == id) ≡ false = none 0 row (omega arith) in
    rw other (ap (λ rest. row ∷ rest) (without-none rows id (λ k d within. none (suc k) d (omega arith))))

pub changed-none : {R : Type 0} (change : R → R) (rows : List (ℕ × R)) (id : ℕ) → All (λ e. (e.0 == id) ≡ false) rows → with_row_changed change rows id ≡ rows
changed-none change [] id none = refl
changed-none change (row ∷ rows) id none =
    let other : (row.0 == id) ≡ false = none 0 row (omega arith) in
    rw other (ap (λ rest. row ∷ rest) (changed-none change rows id (λ k d within. none (suc k) d (omega arith))))

pub place-none : {R : Type 0} (rows : List (ℕ × R)) (id : ℕ) (place : Option ℕ) → place ≡ position (λ e. e.0 == id) rows → IfNone place (lives rows id ≡ false)
place-none rows id None is = lives-none rows id (fails-none rows id (sym is))
place-none rows id (Some place) is = tt

-- a row at its place
pub lives-at : {R : Type 0} (rows : List (ℕ × R)) (id place : ℕ) (d : ℕ × R) → place < length rows → (get_or rows place d).0 ≡ id → lives rows id ≡ true
lives-at rows id place d within here = list_any_at (λ e. e.0 == id) rows place d within (eq-eqb (get_or rows place d).0 id here)

pub changed-at : {R : Type 0} (change : R → R) (rows : List (ℕ × R)) (id place : ℕ) (d : ℕ × R) → AllDiffer rows → place < length rows → (get_or rows place d).0 ≡ id
    → set rows place (id, change (get_or rows place d).1) ≡ with_row_changed change rows id
changed-at change [] id place d differ within here = absurd (omega arith)
changed-at change (row ∷ rows) id zero d differ within here =
    let same : (row.0 == id) ≡ true = eq-eqb row.0 id here in
    rw same (rw (changed-none change rows id (differ-here row rows id differ same)) (ap (λ n. (n, change row.1) ∷ rows) (sym here)))
changed-at change (row ∷ rows) id (suc place) d differ within here =
    let apart = differ-first row rows differ place d (omega arith) in
    let other : (row.0 == id) ≡ false = rw here at apart in
    rw other (ap (λ rest. row ∷ rest) (changed-at change rows id place d (differ-rest row rows differ) (omega arith) here))

pub row-at : {R : Type 0} (rows : List (ℕ × R)) (id place : ℕ) (d : ℕ × R) → AllDiffer rows → place < length rows → (get_or rows place d).0 ≡ id → row_of rows id ≡ Some (get_or rows place d).1
row-at [] id place d differ within here = absurd (omega arith)
row-at (row ∷ rows) id zero d differ within here = rw (eq-eqb row.0 id here) refl
row-at (row ∷ rows) id (suc place) d differ within here =
    let apart = differ-first row rows differ place d (omega arith) in
    let other : (row.0 == id) ≡ false = rw here at apart in
    rw other (row-at rows id place d (differ-rest row rows differ) (omega arith) here)

pub removed-at : {R : Type 0} (rows : List (ℕ × R)) (id place : ℕ) (d : ℕ × R) → AllDiffer rows → place < length rows → (get_or rows place d).0 ≡ id → remove rows place ≡ without_row rows id
removed-at [] id place d differ within here = absurd (omega arith)
removed-at (row ∷ rows) id zero d differ within here =
    let same : (row.0 == id) ≡ true = eq-eqb row.0 id here in
    rw same (sym (without-none rows id (differ-here row rows id differ same)))
removed-at (row ∷ rows) id (suc place) d differ within here =
    let apart = differ-first row rows differ place d (omega arith) in
    let other : (row.0 == id) ≡ false = rw here at apart in
    rw other (ap (λ rest. row ∷ rest) (removed-at rows id place d (differ-rest row rows differ) (omega arith) here))

-- ---- turns

pub turns-counted : (turns : List ℕ) (waited : List (ℕ × Blocker)) → turns_of (counted turns waited) ≡ turns
turns-counted [] waited = refl
turns-counted (t ∷ ts) waited = ap (λ rest. t ∷ rest) (turns-counted ts waited)

pub turns-changed : (change : ℕ → ℕ) (calls : List (ℕ × ℕ)) (turn : ℕ) → turns_of (with_row_changed change calls turn) ≡ turns_of calls
turns-changed change [] turn = refl
turns-changed change (c ∷ cs) turn =
    elim (cases_Bool (c.0 == turn)) [
      | inl here ↦ rw here (ap (λ rest. c.0 ∷ rest) (turns-changed change cs turn))
      | inr other ↦ rw other (ap (λ rest. c.0 ∷ rest) (turns-changed change cs turn))
    ]

pub turns-lives : (calls : List (ℕ × ℕ)) (turn : ℕ) → list_any (λ other. other == turn) (turns_of calls) ≡ lives calls turn
turns-lives [] turn = refl
turns-lives (c ∷ cs) turn = ap (λ rest. c.0 == turn || rest) (turns-lives cs turn)

pub turns-put : (calls : List (ℕ × ℕ)) (turn count : ℕ) → turns_of (with_count calls turn count) ≡ with_turn_among (turns_of calls) turn
turns-put calls turn count =
    elim (cases_Bool (lives calls turn)) [
      | inl there ↦ rw (turns-lives calls turn, there) (turns-changed (λ _. count) calls turn)
      | inr none ↦ rw (turns-lives calls turn, none) (map-append (λ (c : ℕ × ℕ). c.0) calls ((turn, count) ∷ []))
    ]

pub turns-removed : (calls : List (ℕ × ℕ)) (turn : ℕ) → turns_of (without_row calls turn) ≡ filter (λ other. not (other == turn)) (turns_of calls)
turns-removed [] turn = refl
turns-removed (c ∷ cs) turn =
    elim (cases_Bool (c.0 == turn)) [
      | inl here ↦ rw here (turns-removed cs turn)
      | inr other ↦ rw other (ap (λ rest. c.0 ∷ rest) (turns-removed cs turn))
    ]

-- what holds of each two turns holds where the turns are the same
pairs-turns : (P : ℕ → ℕ → Type 0) (calls other : List (ℕ × ℕ)) → turns_of other ≡ turns_of calls → AllPairs (λ a b. P a.0 b.0) calls → AllPairs (λ a b. P a.0 b.0) other
pairs-turns P calls other same each i j d below within =
    let turn : ℕ × ℕ → ℕ = λ call. call.0 in
    let here = length-map other turn in
    let there = length-map calls turn in
    let as_many = ap length same in
    let few : j < length calls = omega arith in
    let first : (get_or other i d).0 ≡ (get_or calls i d).0 = sym (get_or-map turn other i d 0 (omega arith)) ∙ ap (λ its. get_or its i 0) same ∙ get_or-map turn calls i d 0 (omega arith) in
    let second : (get_or other j d).0 ≡ (get_or calls j d).0 = sym (get_or-map turn other j d 0 within) ∙ ap (λ its. get_or its j 0) same ∙ get_or-map turn calls j d 0 few in
    rw (first, second) (each i j d below few)

-- they differ where the turns are the same as those of calls that do
pub differ-turns : (calls other : List (ℕ × ℕ)) → turns_of other ≡ turns_of calls → AllDiffer calls → AllDiffer other
differ-turns calls other same differ = pairs-turns (λ a b. (a == b) ≡ false) calls other same differ

pub differ-put : (calls : List (ℕ × ℕ)) (turn count : ℕ) → AllDiffer calls → AllDiffer (with_count calls turn count)
differ-put calls turn count differ =
    elim (cases_Bool (lives calls turn)) [
      | inl there ↦ rw there (differ-turns calls (with_row_changed (λ _. count) calls turn) (turns-changed (λ _. count) calls turn) differ)
      | inr none ↦ rw none (all_pairs_push (λ a b. (a.0 == b.0) ≡ false) calls (turn, count) differ (none-lives calls turn none))
    ]

pub differ-removed : (calls : List (ℕ × ℕ)) (turn : ℕ) → AllDiffer calls → AllDiffer (without_row calls turn)
differ-removed calls turn differ = AllPairs-filter (λ a b. (a.0 == b.0) ≡ false) (λ e. not (e.0 == turn)) calls differ

-- ---- turns that rise

all-behind : (calls : List (ℕ × ℕ)) (turn : ℕ) → AllPairs (λ a b. a.0 < b.0) calls → IsBehind calls turn → All (λ e. e.0 < turn) calls
all-behind calls turn rise behind k d within =
    elim (cases_lt (suc k) (length calls)) [
      | inl more ↦ (
          let below : (get_or calls k d).0 < (get_or calls (length calls - 1) d).0 = rise k (length calls - 1) d (omega arith) (omega arith) in
          let last : (get_or calls (length calls - 1) d).0 < turn = behind (length calls - 1) d (omega arith) in
          omega arith)
      | inr past ↦ behind k d (omega arith)
    ]

pub rise-put : (calls : List (ℕ × ℕ)) (turn count : ℕ) → AllPairs (λ a b. a.0 < b.0) calls → (lives calls turn ≡ false → IsBehind calls turn) → AllPairs (λ a b. a.0 < b.0) (with_count calls turn count)
rise-put calls turn count rise behind =
    elim (cases_Bool (lives calls turn)) [
      | inl there ↦ rw there (pairs-turns (λ a b. a < b) calls (with_row_changed (λ _. count) calls turn) (turns-changed (λ _. count) calls turn) rise)
      | inr none ↦ rw none (all_pairs_push (λ a b. a.0 < b.0) calls (turn, count) rise (all-behind calls turn rise (behind none)))
    ]

pub in-order-removed : (rising : Bool) (calls : List (ℕ × ℕ)) (turn : ℕ) → AreInOrder rising calls → AreInOrder rising (without_row calls turn)
in-order-removed rising calls turn are is = AllPairs-filter (λ a b. a.0 < b.0) (λ e. not (e.0 == turn)) calls (are is)

-- how many calls there are with one put in
length-changed : (calls : List (ℕ × ℕ)) (turn count : ℕ) → length (with_row_changed (λ _. count) calls turn) ≡ length calls
length-changed [] turn count = refl
length-changed (c ∷ cs) turn count = ap suc (length-changed cs turn count)

pub length-there : (calls : List (ℕ × ℕ)) (turn count : ℕ) → lives calls turn ≡ true → length calls ≡ length (with_count calls turn count)
length-there calls turn count there = rw there (sym (length-changed calls turn count))

pub length-put : (calls : List (ℕ × ℕ)) (waited : List (ℕ × Blocker)) (turn count : ℕ) → length (with_count calls turn count) ≡ length calls + calls_added (held_of (turns_of calls) waited) turn
length-put calls waited turn count =
    let there_too = held-lives (turns_of calls) waited turn ∙ turns-lives calls turn in
    elim (cases_Bool (lives calls turn)) [
      | inl there ↦ rw (there_too, there) (length-changed calls turn count ∙ omega arith)
      | inr none ↦ rw (there_too, none) (length-append calls ((turn, count) ∷ []))
    ]

-- ---- what the counts are of

counted-changed : (turns : List ℕ) (waited : List (ℕ × Blocker)) (turn : ℕ) (blockers : List Blocker)
    → with_row_changed (λ _. length blockers) (counted turns waited) turn ≡ counted turns (put waited turn blockers)
counted-changed [] waited turn blockers = refl
counted-changed (t ∷ ts) waited turn blockers =
    let rest = counted-changed ts waited turn blockers in
    elim (cases_Bool (t == turn)) [
      | inl own ↦ (let is : t ≡ turn = eqb-true t turn own in
          let its : blockers_under (put waited turn blockers) t ≡ blockers = rw is (put-own waited turn blockers) in
          rw (own, its, rest) refl)
      | inr kept ↦ rw (kept, put-others waited turn blockers t kept, rest) refl
    ]

counted-others : (turns : List ℕ) (waited : List (ℕ × Blocker)) (turn : ℕ) (blockers : List Blocker) → list_any (λ other. other == turn) turns ≡ false
    → counted turns (put waited turn blockers) ≡ counted turns waited
counted-others [] waited turn blockers none = refl
counted-others (t ∷ ts) waited turn blockers none =
    elim (cases_Bool (t == turn)) [
      | inl own ↦ (let never : true ≡ false = rw own at none in absurd (false≢true (sym never)))
      | inr kept ↦ (let rest : list_any (λ other. other == turn) ts ≡ false = rw kept at none in
          rw (put-others waited turn blockers t kept, counted-others ts waited turn blockers rest) refl)
    ]

-- blockers are put under a turn
pub counted-put : (turns : List ℕ) (waited : List (ℕ × Blocker)) (turn : ℕ) (blockers : List Blocker)
    → with_count (counted turns waited) turn (length blockers) ≡ counted (with_turn_among turns turn) (put waited turn blockers)
counted-put turns waited turn blockers =
    let there_too : lives (counted turns waited) turn ≡ list_any (λ other. other == turn) turns = sym (turns-lives (counted turns waited) turn) ∙ ap (λ its. list_any (λ other. other == turn) its) (turns-counted turns waited) in
    elim (cases_Bool (list_any (λ other. other == turn) turns)) [
      | inl there ↦ rw (there_too, there) (counted-changed turns waited turn blockers)
      | inr none ↦ rw (there_too, none) (sym (
          map-append (λ t. (t, length (blockers_under (put waited turn blockers) t))) turns (turn ∷ [])
          ∙ ap (λ front. front ++ (turn, length (blockers_under (put waited turn blockers) turn)) ∷ []) (counted-others turns waited turn blockers none)
          ∙ ap (λ its. counted turns waited ++ (turn, length its) ∷ []) (put-own waited turn blockers)))
    ]

-- all under a turn go
pub counted-removed : (turns : List ℕ) (waited : List (ℕ × Blocker)) (turn : ℕ)
    → without_row (counted turns waited) turn ≡ counted (filter (λ other. not (other == turn)) turns) (filter (λ e. not (e.0 == turn)) waited)
counted-removed [] waited turn = refl
counted-removed (t ∷ ts) waited turn =
    elim (cases_Bool (t == turn)) [
      | inl own ↦ rw own (counted-removed ts waited turn)
      | inr kept ↦ rw (kept, blockers-kept waited turn t kept, counted-removed ts waited turn) refl
    ]

pub row-counted : (turns : List ℕ) (waited : List (ℕ × Blocker)) (turn count : ℕ) → row_of (counted turns waited) turn ≡ Some count → count ≡ length (blockers_under waited turn)
row-counted [] waited turn count found = cc
row-counted (t ∷ ts) waited turn count found =
    elim (cases_Bool (t == turn)) [
      | inl own ↦ (let is : t ≡ turn = eqb-true t turn own in
          let here : Some (length (blockers_under waited t)) ≡ Some count = rw own at found in
          let same : length (blockers_under waited t) ≡ count = cc in
          sym (rw is at same))
      | inr other ↦ row-counted ts waited turn count (rw other at found)
    ]

-- none stands under a turn of which there are none
pub none-under : (waited : List (ℕ × Blocker)) (turn : ℕ) → length (blockers_under waited turn) ≡ 0 → filter (λ e. not (e.0 == turn)) waited ≡ waited
none-under [] turn none = refl
none-under (e ∷ es) turn none =
    elim (cases_Bool (e.0 == turn)) [
      | inl own ↦ (let some : suc (length (blockers_under es turn)) ≡ 0 = rw own at none in absurd (omega arith))
      | inr other ↦ rw other (ap (λ rest. e ∷ rest) (none-under es turn (rw other at none)))
    ]

-- one entry goes
counted-less : (turns : List ℕ) (before after : List (ℕ × Blocker)) (entry : ℕ × Blocker)
    → with_row_changed (λ count. count - 1) (counted turns (before ++ entry ∷ after)) entry.0 ≡ counted turns (before ++ after)
counted-less [] before after entry = refl
counted-less (t ∷ ts) before after entry =
    let rest = counted-less ts before after entry in
    let with_it = ap length (blockers-append before (entry ∷ after) t) ∙ length-append (blockers_under before t) (blockers_under (entry ∷ after) t) in
    let without_it = ap length (blockers-append before after t) ∙ length-append (blockers_under before t) (blockers_under after t) in
    elim (cases_Bool (t == entry.0)) [
      | inl own ↦ (let its : (entry.0 == t) ≡ true = eq-eqb entry.0 t (sym (eqb-true t entry.0 own)) in
          let more : length (blockers_under (before ++ entry ∷ after) t) ≡ length (blockers_under before t) + suc (length (blockers_under after t)) = rw its at with_it in
          let less : length (blockers_under (before ++ entry ∷ after) t) - 1 ≡ length (blockers_under (before ++ after) t) = omega arith in
          rw (own, less, rest) refl)
      | inr other ↦ (let not_its : (entry.0 == t) ≡ false = other_way t entry.0 other in
          let more : length (blockers_under (before ++ entry ∷ after) t) ≡ length (blockers_under before t) + length (blockers_under after t) = rw not_its at with_it in
          let same : length (blockers_under (before ++ entry ∷ after) t) ≡ length (blockers_under (before ++ after) t) = more ∙ sym without_it in
          rw (other, same, rest) refl)
    ]

-- one blocker goes, of whatever call
ended-among : (turns : List ℕ) (before waited : List (ℕ × Blocker)) (blocker : Blocker)
    → discounted blocker waited (counted turns (before ++ waited)) ≡ counted turns (before ++ filter (λ e. not (is_same blocker e.1)) waited)
ended-among turns before [] blocker = refl
ended-among turns before (e ∷ es) blocker =
    elim (cases_Bool (is_same blocker e.1)) [
      | inl gone ↦ rw (gone, counted-less turns before es e) (ended-among turns before es blocker)
      | inr kept ↦ (let next = ended-among turns (before ++ e ∷ []) es blocker in
          let more : (before ++ e ∷ []) ++ es ≡ before ++ e ∷ es = append_assoc before (e ∷ []) es in
          let left : (before ++ e ∷ []) ++ filter (λ o. not (is_same blocker o.1)) es ≡ before ++ e ∷ filter (λ o. not (is_same blocker o.1)) es = append_assoc before (e ∷ []) (filter (λ o. not (is_same blocker o.1)) es) in
          rw kept (rw (more, left) at next))
    ]

pub counted-ended : (turns : List ℕ) (waited : List (ℕ × Blocker)) (blocker : Blocker)
    → discounted blocker waited (counted turns waited) ≡ counted turns (filter (λ e. not (is_same blocker e.1)) waited)
counted-ended turns waited blocker = ended-among turns [] waited blocker

-- ---- what a queue keeps

pub turns-discounted : (blocker : Blocker) (waited : List (ℕ × Blocker)) (calls : List (ℕ × ℕ)) → turns_of (discounted blocker waited calls) ≡ turns_of calls
turns-discounted blocker [] calls = refl
turns-discounted blocker (e ∷ es) calls =
    elim (cases_Bool (is_same blocker e.1)) [
      | inl gone ↦ rw gone (turns-discounted blocker es (with_row_changed (λ count. count - 1) calls e.0) ∙ turns-changed (λ count. count - 1) calls e.0)
      | inr kept ↦ rw kept (turns-discounted blocker es calls)
    ]

pub in-order-ended : (rising : Bool) (blocker : Blocker) (waited : List (ℕ × Blocker)) (calls : List (ℕ × ℕ)) → AreInOrder rising calls → AreInOrder rising (discounted blocker waited calls)
in-order-ended rising blocker waited calls are is = pairs-turns (λ a b. a < b) calls (discounted blocker waited calls) (turns-discounted blocker waited calls) (are is)

-- no blocker stands beside the calls
beside-ended : (calls : List (ℕ × ℕ)) (waited : List (ℕ × Blocker)) (blocker : Blocker) → NoneBeside calls waited → NoneBeside (discounted blocker waited calls) (filter (λ e. not (is_same blocker e.1)) waited)
beside-ended calls waited blocker beside turn none =
    let same : lives (discounted blocker waited calls) turn ≡ lives calls turn
    = sym (turns-lives (discounted blocker waited calls) turn) ∙ ap (λ its. list_any (λ other. other == turn) its) (turns-discounted blocker waited calls) ∙ turns-lives calls turn in
    blockers-ended waited blocker turn ∙ ap (λ its. filter (λ other. not (is_same blocker other)) its) (beside turn (sym same ∙ none))

neither : (a b : Bool) → (a || (b || false)) ≡ false → (a ≡ false) × (b ≡ false)
neither true b is = (is, cc)
neither false true is = (refl, is)
neither false false is = (refl, refl)

lives-put : (calls : List (ℕ × ℕ)) (turn count other : ℕ) → lives (with_count calls turn count) other ≡ false → ((other == turn) ≡ false) × (lives calls other ≡ false)
lives-put calls turn count other none =
    let turns : list_any (λ t. t == other) (with_turn_among (turns_of calls) turn) ≡ false
    = ap (λ its. list_any (λ t. t == other) its) (sym (turns-put calls turn count)) ∙ turns-lives (with_count calls turn count) other ∙ none in
    elim (cases_Bool (list_any (λ t. t == turn) (turns_of calls))) [
      | inl there ↦ (let its : list_any (λ t. t == other) (turns_of calls) ≡ false = rw there at turns in
          (ne_eqb other turn (λ same. false≢true (sym its ∙ subst (λ (t : ℕ). list_any (λ u. u == t) (turns_of calls) ≡ true) (sym same) there)), sym (turns-lives calls other) ∙ its))
      | inr isnt ↦ (let its : list_any (λ t. t == other) (turns_of calls ++ turn ∷ []) ≡ false = rw isnt at turns in
          let parts = neither (list_any (λ t. t == other) (turns_of calls)) (turn == other) (sym (list_any-append (λ t. t == other) (turns_of calls) (turn ∷ [])) ∙ its) in
          (other_way turn other parts.1, sym (turns-lives calls other) ∙ parts.0))
    ]

beside-put : (calls : List (ℕ × ℕ)) (waited : List (ℕ × Blocker)) (turn count : ℕ) (blockers : List Blocker) → NoneBeside calls waited → NoneBeside (with_count calls turn count) (put waited turn blockers)
beside-put calls waited turn count blockers beside other none =
    let parts = lives-put calls turn count other none in
    put-others waited turn blockers other parts.0 ∙ beside other parts.1

lives-left : (calls : List (ℕ × ℕ)) (turn other : ℕ) → (other == turn) ≡ false → lives (without_row calls turn) other ≡ lives calls other
lives-left [] turn other apart = refl
lives-left (c ∷ cs) turn other apart = elim (cases_Bool (c.0 == turn)) [
  | inl gone ↦ (let is : c.0 ≡ turn = eqb-true c.0 turn gone in
      let not_its : (c.0 == other) ≡ false = rw is (other_way other turn apart) in
      rw (gone, not_its) (lives-left cs turn other apart))
  | inr kept ↦ rw kept (ap (λ rest. c.0 == other || rest) (lives-left cs turn other apart))
]

beside-removed : (calls : List (ℕ × ℕ)) (waited : List (ℕ × Blocker)) (turn : ℕ) → NoneBeside calls waited → NoneBeside (without_row calls turn) (filter (λ e. not (e.0 == turn)) waited)
beside-removed calls waited turn beside other none = elim (cases_Bool (other == turn)) [
  | inl own ↦ (let is : other ≡ turn = eqb-true other turn own in rw is (blockers-gone waited turn))
  | inr apart ↦ blockers-kept waited turn other apart ∙ beside other (sym (lives-left calls turn other apart) ∙ none)
]

pub AreCounted-ended : (calls : List (ℕ × ℕ)) (waited : List (ℕ × Blocker)) (ready : List ℕ) (blocker : Blocker) → AreCounted calls waited ready
    → AreCounted (discounted blocker waited calls) (filter (λ e. not (is_same blocker e.1)) waited) (sorted (ready_turns (discounted blocker waited calls)))
AreCounted-ended calls waited ready blocker are =
    let turns = turns-discounted blocker waited calls in
    record {
      differ = differ-turns calls (discounted blocker waited calls) turns are.differ;
      counts = ap (discounted blocker waited) are.counts ∙ counted-ended (turns_of calls) waited blocker ∙ ap (λ its. counted its (filter (λ e. not (is_same blocker e.1)) waited)) (sym turns);
      are_ready = refl;
      beside = beside-ended calls waited blocker are.beside;
    }

pub AreCounted-put : (calls : List (ℕ × ℕ)) (waited : List (ℕ × Blocker)) (ready : List ℕ) (turn : ℕ) (blockers : List Blocker) → AreCounted calls waited ready
    → AreCounted (with_count calls turn (length blockers)) (put waited turn blockers) (sorted (ready_turns (with_count calls turn (length blockers))))
AreCounted-put calls waited ready turn blockers are =
    let count = length blockers in
    record {
      differ = differ-put calls turn count are.differ;
      counts = ap (λ its. with_count its turn count) are.counts ∙ counted-put (turns_of calls) waited turn blockers ∙ ap (λ its. counted its (put waited turn blockers)) (sym (turns-put calls turn count));
      are_ready = refl;
      beside = beside-put calls waited turn count blockers are.beside;
    }

pub AreCounted-removed : (calls : List (ℕ × ℕ)) (waited : List (ℕ × Blocker)) (ready : List ℕ) (turn : ℕ) → AreCounted calls waited ready
    → AreCounted (without_row calls turn) (filter (λ e. not (e.0 == turn)) waited) (sorted (ready_turns (without_row calls turn)))
AreCounted-removed calls waited ready turn are = record {
  differ = differ-removed calls turn are.differ;
  counts = ap (λ its. without_row its turn) are.counts ∙ counted-removed (turns_of calls) waited turn ∙ ap (λ its. counted its (filter (λ e. not (e.0 == turn)) waited)) (sym (turns-removed calls turn));
  are_ready = refl;
  beside = beside-removed calls waited turn are.beside;
}

-- what is seen of the queue then
pub seen-ended : (calls : List (ℕ × ℕ)) (waited : List (ℕ × Blocker)) (blocker : Blocker)
    → held_of (turns_of (discounted blocker waited calls)) (filter (λ e. not (is_same blocker e.1)) waited) ≡ with_blocker_ended (held_of (turns_of calls) waited) blocker
seen-ended calls waited blocker = ap (λ its. held_of its (filter (λ e. not (is_same blocker e.1)) waited)) (turns-discounted blocker waited calls) ∙ held-ended (turns_of calls) waited blocker

pub seen-put : (calls : List (ℕ × ℕ)) (waited : List (ℕ × Blocker)) (turn : ℕ) (blockers : List Blocker)
    → held_of (turns_of (with_count calls turn (length blockers))) (put waited turn blockers) ≡ with_call_held (held_of (turns_of calls) waited) turn blockers
seen-put calls waited turn blockers = ap (λ its. held_of its (put waited turn blockers)) (turns-put calls turn (length blockers)) ∙ held-held (turns_of calls) waited turn blockers

pub seen-removed : (calls : List (ℕ × ℕ)) (waited : List (ℕ × Blocker)) (turn : ℕ)
    → held_of (turns_of (without_row calls turn)) (filter (λ e. not (e.0 == turn)) waited) ≡ without_row (held_of (turns_of calls) waited) turn
seen-removed calls waited turn = ap (λ its. held_of its (filter (λ e. not (e.0 == turn)) waited)) (turns-removed calls turn) ∙ held-removed (turns_of calls) waited turn

pub seen-lives : (calls : List (ℕ × ℕ)) (waited : List (ℕ × Blocker)) (turn : ℕ) → lives (held_of (turns_of calls) waited) turn ≡ lives calls turn
seen-lives calls waited turn = held-lives (turns_of calls) waited turn ∙ turns-lives calls turn

-- a call that isn't held
row-lives : {R : Type 0} (rows : List (ℕ × R)) (id : ℕ) → row_of rows id ≡ None → lives rows id ≡ false
row-lives [] id none = refl
row-lives (row ∷ rows) id none =
    elim (cases_Bool (row.0 == id)) [
      | inl here ↦ (let never : Some row.1 ≡ None = rw here at none in cc)
      | inr other ↦ rw other (row-lives rows id (rw other at none))
    ]

row-lives-some : {R : Type 0} (rows : List (ℕ × R)) (id : ℕ) (row : R) → row_of rows id ≡ Some row → lives rows id ≡ true
row-lives-some [] id found some = cc
row-lives-some (row ∷ rows) id found some =
    elim (cases_Bool (row.0 == id)) [
      | inl here ↦ rw here refl
      | inr other ↦ rw other (row-lives-some rows id found (rw other at some))
    ]

pub seen-none : (calls : List (ℕ × ℕ)) (waited : List (ℕ × Blocker)) (turn : ℕ) → row_of calls turn ≡ None → lives (held_of (turns_of calls) waited) turn ≡ false
seen-none calls waited turn none = seen-lives calls waited turn ∙ row-lives calls turn none

pub unremoved : (calls : List (ℕ × ℕ)) (turn : ℕ) → row_of calls turn ≡ None → without_row calls turn ≡ calls
unremoved calls turn none = without-none calls turn (none-lives calls turn (row-lives calls turn none))

pub seen-some : (calls : List (ℕ × ℕ)) (waited : List (ℕ × Blocker)) (turn count : ℕ) → row_of calls turn ≡ Some count → lives (held_of (turns_of calls) waited) turn ≡ true
seen-some calls waited turn count some = seen-lives calls waited turn ∙ row-lives-some calls turn count some

pub seen-unremoved : (calls : List (ℕ × ℕ)) (waited : List (ℕ × Blocker)) (turn : ℕ) → row_of calls turn ≡ None
    → held_of (turns_of calls) waited ≡ without_row (held_of (turns_of calls) waited) turn
seen-unremoved calls waited turn none = sym (without-none (held_of (turns_of calls) waited) turn (none-lives (held_of (turns_of calls) waited) turn (seen-none calls waited turn none)))

-- how many blockers a call has
pub count-is : (calls : List (ℕ × ℕ)) (waited : List (ℕ × Blocker)) (ready : List ℕ) (turn count : ℕ) → AreCounted calls waited ready → row_of calls turn ≡ Some count
    → count ≡ length (blockers_under waited turn)
count-is calls waited ready turn count are found = row-counted (turns_of calls) waited turn count (ap (λ its. row_of its turn) (sym are.counts) ∙ found)

-- or 0, where it isn't held
pub counts-all : (calls : List (ℕ × ℕ)) (waited : List (ℕ × Blocker)) (ready : List ℕ) (turn count : ℕ) → AreCounted calls waited ready → count ≡ option_map_or (λ count. count) (row_of calls turn) 0
    → count ≡ length (blockers_under waited turn)
counts-all calls waited ready turn count are is = is ∙ go (row_of calls turn) refl
  where
    go : (kept : Option ℕ) → row_of calls turn ≡ kept → option_map_or (λ count. count) kept 0 ≡ length (blockers_under waited turn)
    go None none = ap length (sym (are.beside turn (row-lives calls turn none)))
    go (Some count) some = count-is calls waited ready turn count are some

-- how many stand there at a place
pub count-none : (calls : List (ℕ × ℕ)) (turn : ℕ) → position (λ e. e.0 == turn) calls ≡ None → 0 ≡ option_map_or (λ count. count) (row_of calls turn) 0
count-none calls turn none = ap (λ (kept : Option ℕ). option_map_or (λ count. count) kept 0) (sym (row_of-none calls turn none))

pub count-at : (calls : List (ℕ × ℕ)) (turn place : ℕ) (d : ℕ × ℕ) → AllDiffer calls → position (λ e. e.0 == turn) calls ≡ Some place
    → (get_or calls place d).1 ≡ option_map_or (λ count. count) (row_of calls turn) 0
count-at calls turn place d differ found =
    let at = IsAt-position calls turn place d found in
    ap (λ (kept : Option ℕ). option_map_or (λ count. count) kept 0) (sym (row-at calls turn place d differ at.within (at.here d)))
