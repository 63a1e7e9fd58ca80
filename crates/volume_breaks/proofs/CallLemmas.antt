-- Pending calls under their turns: as a call comes, waits for something else, or goes.
use Rattle.std.proofs.Common.{◌≡◌, ℕ, zero, suc, ◌<◌, Bool, true, false, not, List, [], ◌∷◌, ◌++◌, length, get_or, refl, ap, sym, ◌∙◌, arith, inl, inr, Some, None}
use Rattle.std.specs.List.{filter, list_any, All, AllPairs}
use Rattle.std.specs.Option.{option_map_or}
use Rattle.std.specs.Prelude.{◌==◌, ◌&&◌, ◌||◌, if◌then◌else◌}
use Rattle.std.proofs.Math.ListN.{set}
use Rattle.std.proofs.lemmas.Bool.{cases_Bool, eq-eqb, eqb-true, and_parts, and_from, both_ways}
use Rattle.std.proofs.lemmas.List.Kept.{AllPairs-filter}
use Rattle.std.proofs.lemmas.List.Quantifiers.{all_pairs_push}
use Rattle.fsa_types.specs.Pending.{is_held}
use Rattle.fsa_types.specs.Rows.{lives, with_row_changed, without_row}
use Rattle.fsa_types.specs.declared.reply.Blocker.{Blocker}
use Rattle.fsa_types.specs.declared.request.Call.{Call}
use Rattle.fsa_model.specs.Edits.{is_call}
use Rattle.fsa_model.specs.Lookups.{number_of}
use Rattle.fsa_model.specs.Volume.{Pending}
use Rattle.fsa_model.proofs.RowLaws.{AllPairs-map, any-weaker, change_at, change_at-same, change_at-number, eqb-swap, none-all, number_of-none, option_cases}
use Rattle.pending_queue.specs.PendingQueue.{held_among, with_call_held}
use Rattle.pending_queue.proofs.HeldLaws.{IsHeldUnder, among-held, among-waits, among-held_anew, among-removed}
use Rattle.volume_breaks.specs.Calls.{AreCalls, is_held_under}

-- no two rows have one number
abbrev pub AllDiffer : {R : Type 0} → List (ℕ × R) → Type 0
AllDiffer rows = AllPairs (λ a b. (a.0 == b.0) ≡ false) rows

differ-rest : {R : Type 0} (row : ℕ × R) (rows : List (ℕ × R)) → AllDiffer (row ∷ rows) → AllDiffer rows
differ-rest row rows differ i j d below within = differ (suc i) (suc j) d (omega arith) (omega arith)

-- the first row's number is no other's
differ-first : {R : Type 0} (row : ℕ × R) (rows : List (ℕ × R)) → AllDiffer (row ∷ rows) → All (λ e. (row.0 == e.0) ≡ false) rows
differ-first row rows differ k d within = differ 0 (suc k) d (omega arith) (omega arith)

-- where it is the first row's, no other row has this number
differ-here : {R : Type 0} (row : ℕ × R) (rows : List (ℕ × R)) (id : ℕ) → AllDiffer (row ∷ rows) → (row.0 == id) ≡ true → All (λ e. (e.0 == id) ≡ false) rows
differ-here row rows id differ here k d within =
    let is : row.0 ≡ id = eqb-true row.0 id here in
    eqb-swap (get_or rows k d).0 id ∙ rw is at (differ-first row rows differ k d within)

-- ---- a row is changed at its place

changed-none : {R : Type 0} (change : R → R) (rows : List (ℕ × R)) (id : ℕ) → All (λ e. (e.0 == id) ≡ false) rows → with_row_changed change rows id ≡ rows
changed-none change [] id none = refl
changed-none change (row ∷ rows) id none =
    let other : (row.0 == id) ≡ false = none 0 row (omega arith) in
    rw other (ap (λ rest. row ∷ rest) (changed-none change rows id (λ k d within. none (suc k) d (omega arith))))

pub changed-at : {R : Type 0} (change : R → R) (rows : List (ℕ × R)) (id place : ℕ) (d : ℕ × R) → AllDiffer rows → place < length rows → (get_or rows place d).0 ≡ id
    → set rows place (id, change (get_or rows place d).1) ≡ with_row_changed change rows id
changed-at change [] id place d differ within here = absurd (omega arith)
changed-at change (row ∷ rows) id zero d differ within here =
    let same : (row.0 == id) ≡ true = eq-eqb row.0 id here in
    rw same (rw (changed-none change rows id (differ-here row rows id differ same)) (ap (λ n. (n, change row.1) ∷ rows) (sym here)))
changed-at change (row ∷ rows) id (suc place) d differ within here =
    let apart = differ-first row rows differ place d (omega arith) in
    let other : (row.0 == id) ≡ false = rw here at apart in
    rw other (ap (λ rest. row ∷ rest) (changed-at change rows id place d (differ-rest row rows differ) (omega arith) here))

pub unchanged : {R : Type 0} (change : R → R) (rows : List (ℕ × R)) (id : ℕ) → All (λ e. (e.0 == id) ≡ false) rows → rows ≡ with_row_changed change rows id
unchanged change rows id none = sym (changed-none change rows id none)

-- ---- a call goes

number-there : {R : Type 0} (test : R → Bool) (rows : List (ℕ × R)) (number : ℕ) → number_of test rows ≡ Some number → list_any (λ e. e.0 == number) rows ≡ true
number-there test [] number found = cc
number-there test (row ∷ rows) number found = elim (cases_Bool (test row.1)) [
  | inl passes ↦ (let is : Some row.0 ≡ Some number = rw passes at found in
      let same : row.0 ≡ number = cc in
      rw (eq-eqb row.0 number same) refl)
  | inr fails ↦ (let rest = number-there test rows number (rw fails at found) in either (row.0 == number) _ rest)
]
  where
    either : (a b : Bool) → b ≡ true → (a || b) ≡ true
    either true b is = refl
    either false b is = is

-- a row apart from all others isn't one that is among them
apart-there : {R : Type 0} (id number : ℕ) (rows : List (ℕ × R)) → All (λ e. (id == e.0) ≡ false) rows → list_any (λ e. e.0 == number) rows ≡ true → (id == number) ≡ false
apart-there id number [] apart there = cc
apart-there id number (row ∷ rows) apart there = elim (cases_Bool (row.0 == number)) [
  | inl here ↦ (let is : row.0 ≡ number = eqb-true row.0 number here in
      let other : (id == row.0) ≡ false = apart 0 row (omega arith) in rw is at other)
  | inr elsewhere ↦ apart-there id number rows (λ k d within. apart (suc k) d (omega arith)) (rw elsewhere at there)
]

kept-all : {T : Type 0} (test : T → Bool) (items : List T) → All (λ item. test item ≡ false) items → filter (λ item. not (test item)) items ≡ items
kept-all test [] none = refl
kept-all test (item ∷ items) none =
    let here : test item ≡ false = none 0 item (omega arith) in
    rw here (ap (λ rest. item ∷ rest) (kept-all test items (λ k d within. none (suc k) d (omega arith))))

-- the call that was found is the only one
call-apart : (client number : ℕ) (row other : Pending) → is_call client number row ≡ true → is_call other.call.client other.call.number row ≡ false → is_call client number other ≡ false
call-apart client number row other is apart = elim (cases_Bool (is_call client number other)) [
  | inr fails ↦ fails
  | inl same ↦ (let mine = and_parts _ _ is in
      let its = and_parts _ _ same in
      let client_is : row.call.client ≡ client = eqb-true _ _ mine.0 in
      let number_is : row.call.number ≡ number = eqb-true _ _ mine.1 in
      let other_client : other.call.client ≡ client = eqb-true _ _ its.0 in
      let other_number : other.call.number ≡ number = eqb-true _ _ its.1 in
      let both : is_call other.call.client other.call.number row ≡ true
      = and_from (row.call.client == other.call.client) (row.call.number == other.call.number) (eq-eqb _ _ (omega arith)) (eq-eqb _ _ (omega arith)) in
      absurd (both_ways (is_call other.call.client other.call.number row) apart both))
]

pub call-gone : (pending : List (ℕ × Pending)) (client number turn : ℕ) → AreCalls pending → number_of (is_call client number) pending ≡ Some turn
    → filter (λ e. not (is_call client number e.1)) pending ≡ without_row pending turn
call-gone [] client number turn are found = refl
call-gone (row ∷ rows) client number turn are found = elim (cases_Bool (is_call client number row.1)) [
  | inl is ↦ (let first : Some row.0 ≡ Some turn = rw is at found in
      let same : row.0 ≡ turn = cc in
      let here : (row.0 == turn) ≡ true = eq-eqb row.0 turn same in
      let others : All (λ e. is_call client number e.1 ≡ false) rows
      = λ k d within. call-apart client number row.1 (get_or rows k d).1 is (are.differ 0 (suc k) d (omega arith) (omega arith)) in
      rw (is, here) (kept-all (λ e. is_call client number e.1) rows others
      ∙ sym (kept-all (λ (e : ℕ × Pending). e.0 == turn) rows (differ-here row rows turn are.turns_differ here))))
  | inr fails ↦ (let found_later : number_of (is_call client number) rows ≡ Some turn = rw fails at found in
      let there = number-there (is_call client number) rows turn found_later in
      let other : (row.0 == turn) ≡ false = apart-there row.0 turn rows (differ-first row rows are.turns_differ) there in
      let rest : AreCalls rows = record {
        differ = λ i j d below within. are.differ (suc i) (suc j) d (omega arith) (omega arith);
        turns_differ = differ-rest row rows are.turns_differ;
      } in
      rw (fails, other) (ap (λ more. row ∷ more) (call-gone rows client number turn rest found_later)))
]

pub call-unfound : (pending : List (ℕ × Pending)) (client number : ℕ) → number_of (is_call client number) pending ≡ None → filter (λ e. not (is_call client number e.1)) pending ≡ pending
call-unfound pending client number none = kept-all (λ e. is_call client number e.1) pending (number_of-none (is_call client number) pending none)

pub AreCalls-filter : (test : ℕ × Pending → Bool) (pending : List (ℕ × Pending)) → AreCalls pending → AreCalls (filter test pending)
AreCalls-filter test pending are = record {
  differ = AllPairs-filter (λ a b. is_call b.1.call.client b.1.call.number a.1 ≡ false) test pending are.differ;
  turns_differ = AllPairs-filter (λ a b. (a.0 == b.0) ≡ false) test pending are.turns_differ;
}

-- ---- a call comes

pub AreCalls-push : (pending : List (ℕ × Pending)) (turn : ℕ) (row : Pending) → AreCalls pending → lives pending turn ≡ false
    → list_any (λ (e : ℕ × Pending). is_call row.call.client row.call.number e.1) pending ≡ false → AreCalls (pending ++ (turn, row) ∷ [])
AreCalls-push pending turn row are new_turn new_call = record {
  differ = all_pairs_push (λ a b. is_call b.1.call.client b.1.call.number a.1 ≡ false) pending (turn, row) are.differ (none-all _ pending new_call);
  turns_differ = all_pairs_push (λ a b. (a.0 == b.0) ≡ false) pending (turn, row) are.turns_differ (none-all _ pending new_turn);
}

pub held-push : (alive : Blocker → Bool) (pending : List (ℕ × Pending)) (turn : ℕ) (call : Call) (blockers : List Blocker) → lives pending turn ≡ false → All (λ b. alive b ≡ true) blockers
    → (if length blockers == 0 then held_among alive pending else with_call_held (held_among alive pending) turn blockers)
    ≡ held_among alive (pending ++ (turn, record { call = call; blockers = blockers }) ∷ [])
held-push alive pending turn call blockers new living =
    elim (cases_Bool (length blockers == 0)) [
      | inl none ↦ rw none (sym (among-waits alive pending turn (record { call = call; blockers = blockers }) (rw none refl)))
      | inr some ↦ rw some (sym (among-held alive pending turn (record { call = call; blockers = blockers }) new (rw some refl) living))
    ]

-- ---- a call waits for something else

pub AreCalls-changed : (pending : List (ℕ × Pending)) (turn : ℕ) (blockers : List Blocker) → AreCalls pending → AreCalls (with_row_changed (λ row. record row { blockers = blockers }) pending turn)
AreCalls-changed pending turn blockers are =
    let change : Pending → Pending = λ row. record row { blockers = blockers } in
    let at : ℕ × Pending → ℕ × Pending = change_at change turn in
    let call_of : (e : ℕ × Pending) → (at e).1.call ≡ e.1.call = change_at-same change turn (λ row. row.call) (λ row. refl) in
    record {
      differ = AllPairs-map (λ a b. is_call b.1.call.client b.1.call.number a.1 ≡ false) at pending
          (λ i j d below within. rw (call_of (get_or pending i d), call_of (get_or pending j d)) (are.differ i j d below within));
      turns_differ = AllPairs-map (λ a b. (a.0 == b.0) ≡ false) at pending
          (λ i j d below within. rw (change_at-number change turn (get_or pending i d), change_at-number change turn (get_or pending j d)) (are.turns_differ i j d below within));
    }

held-under : (pending : List (ℕ × Pending)) (turn : ℕ) → AllDiffer pending → is_held_under pending turn ≡ true → IsHeldUnder pending turn
held-under [] turn differ held = λ k d within. absurd (omega arith)
held-under (row ∷ rows) turn differ held = elim (cases_Bool (row.0 == turn && is_held row.1)) [
  | inl both ↦ here (and_parts _ _ both)
  | inr fails ↦ later (held-under rows turn (differ-rest row rows differ)) (rw fails at held)
]
  where
    here : ((row.0 == turn) ≡ true) × (is_held row.1 ≡ true) → IsHeldUnder (row ∷ rows) turn
    here both zero d within is = both.1
    here both (suc k) d within is =
        absurd (both_ways ((get_or rows k d).0 == turn) (differ-here row rows turn differ both.0 k d (omega arith)) is)

    later : (is_held_under rows turn ≡ true → IsHeldUnder rows turn) → is_held_under rows turn ≡ true → IsHeldUnder (row ∷ rows) turn
    later rest more zero d within is =
        let there = any-weaker (λ (e : ℕ × Pending). e.0 == turn && is_held e.1) (λ e. e.0 == turn) rows (λ e both. (and_parts _ _ both).0) more in
        absurd (both_ways (row.0 == turn) (apart-there row.0 turn rows (differ-first row rows differ) there) is)
    later rest more (suc k) d within is = rest more k d (omega arith) is

pub held-lives : (pending : List (ℕ × Pending)) (turn : ℕ) → is_held_under pending turn ≡ true → lives pending turn ≡ true
held-lives pending turn held = any-weaker (λ (e : ℕ × Pending). e.0 == turn && is_held e.1) (λ e. e.0 == turn) pending (λ e both. (and_parts _ _ both).0) held

pub held-changed : (alive : Blocker → Bool) (pending : List (ℕ × Pending)) (turn : ℕ) (blockers : List Blocker) → AreCalls pending → is_held_under pending turn ≡ true
    → (length blockers == 0) ≡ false → All (λ b. alive b ≡ true) blockers
    → with_call_held (held_among alive pending) turn blockers ≡ held_among alive (with_row_changed (λ row. record row { blockers = blockers }) pending turn)
held-changed alive pending turn blockers are held some living =
    sym (among-held_anew alive pending turn blockers (held-lives pending turn held) (held-under pending turn are.turns_differ held) some living)

-- ---- a call ends

-- the calls without the one that was found
pub held-end : (alive : Blocker → Bool) (pending : List (ℕ × Pending)) (client number : ℕ) → AreCalls pending
    → option_map_or (λ turn. without_row (held_among alive pending) turn) (number_of (is_call client number) pending) (held_among alive pending)
    ≡ held_among alive (filter (λ e. not (is_call client number e.1)) pending)
held-end alive pending client number are = elim (option_cases (number_of (is_call client number) pending)) [
  | inl none ↦ rw (none, call-unfound pending client number none) refl
  | inr some ↦ rw (some.1, call-gone pending client number some.0 are some.1) (sym (among-removed alive pending some.0))
]
