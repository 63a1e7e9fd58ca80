-- Whether some pending call waits for another, and where the row of a turn stands.
use Rattle.std.proofs.Common.{◌≡◌, ℕ, zero, suc, ◌<◌, ◌∙◌, Bool, true, false, List, [], ◌∷◌, ◌++◌, length, get_or, refl, ap, sym, arith, inl, inr, Some, None}
use Rattle.std.specs.List.{filter, position, remove}
use Rattle.std.specs.Prelude.{◌==◌, ◌||◌, ◌&&◌, option_map}
use Rattle.std.proofs.lemmas.Bool.{cases_Bool, eqb-true, false≢true}
use Rattle.std.proofs.lemmas.List.Folds.{list_any-append}
use Rattle.fsa_types.proofs.RowLemmas.{IsAt-position, row_of-none}
use Rattle.fsa_types.specs.Rows.{row_of, with_row_changed, without_row}
use Rattle.fsa_types.specs.declared.reply.Blocker.{Blocker}
use Rattle.fsa_model.specs.Volume.{Pending}
use Rattle.fsa_model.specs.Waiting.{is_wait}
use Rattle.pending_queue.proofs.CountLemmas.{place-is, removed-at, row-at}
use Rattle.pending_queue.specs.Lists.{is_at}
use Rattle.volume_breaks.specs.Calls.{has_wait}
use Rattle.volume_breaks.proofs.CallLemmas.{AllDiffer}

-- ---- as a call comes, changes or goes

or_false : (b : Bool) → (b || false) ≡ b
or_false true = refl
or_false false = refl

pub has_wait-push : (pending : List (ℕ × Pending)) (turn : ℕ) (row : Pending) → (has_wait pending || is_wait row.call.what) ≡ has_wait (pending ++ (turn, row) ∷ [])
has_wait-push pending turn row =
    sym (list_any-append (λ (e : ℕ × Pending). is_wait e.1.call.what) pending ((turn, row) ∷ []) ∙ ap (λ rest. has_wait pending || rest) (or_false (is_wait row.call.what)))

none-left : (test : ℕ × Pending → Bool) (pending : List (ℕ × Pending)) → has_wait pending ≡ false → has_wait (filter test pending) ≡ false
none-left test [] none = refl
none-left test (row ∷ rows) none =
    let parts = both (is_wait row.1.call.what) (has_wait rows) none in
    elim (cases_Bool (test row)) [
      | inl kept ↦ rw (kept, parts.0) (none-left test rows parts.1)
      | inr gone ↦ rw gone (none-left test rows parts.1)
    ]
  where
    both : (a b : Bool) → (a || b) ≡ false → (a ≡ false) × (b ≡ false)
    both true b is = (is, cc)
    both false b is = (refl, is)

-- what is found is asked again only where there was one
pub has_wait-filter : (waiting : Bool) (test : ℕ × Pending → Bool) (pending : List (ℕ × Pending)) → waiting ≡ has_wait pending → (waiting && has_wait (filter test pending)) ≡ has_wait (filter test pending)
has_wait-filter true test pending is = refl
has_wait-filter false test pending is = sym (none-left test pending (sym is))

pub has_wait-changed : (pending : List (ℕ × Pending)) (turn : ℕ) (blockers : List Blocker) → has_wait pending ≡ has_wait (with_row_changed (λ row. record row { blockers = blockers }) pending turn)
has_wait-changed [] turn blockers = refl
has_wait-changed (row ∷ rows) turn blockers = elim (cases_Bool (row.0 == turn)) [
  | inl own ↦ rw own (ap (λ rest. is_wait row.1.call.what || rest) (has_wait-changed rows turn blockers))
  | inr other ↦ rw other (ap (λ rest. is_wait row.1.call.what || rest) (has_wait-changed rows turn blockers))
]

-- ---- the row of a turn

is_at-cases : (rows : List (ℕ × Pending)) (place turn : ℕ) (d : ℕ × Pending) → is_at rows place turn ≡ true → (place < length rows) × ((get_or rows place d).0 ≡ turn)
is_at-cases [] place turn d at = absurd (false≢true at)
is_at-cases (row ∷ rows) zero turn d at = (omega arith, eqb-true row.0 turn at)
is_at-cases (row ∷ rows) (suc place) turn d at = (let rest = is_at-cases rows place turn d at in (omega (arith, rest.0), rest.1))

pub is_at-place : (rows : List (ℕ × Pending)) (place turn : ℕ) → AllDiffer rows → is_at rows place turn ≡ true → Some place ≡ position (λ e. e.0 == turn) rows
is_at-place [] place turn differ at = absurd (false≢true at)
is_at-place (row ∷ rows) place turn differ at =
    let there = is_at-cases (row ∷ rows) place turn row at in
    sym (place-is (row ∷ rows) place turn row differ there.0 there.1)

-- the row at its place
pub row-there : (rows : List (ℕ × Pending)) (place turn : ℕ) (d : ℕ × Pending) → AllDiffer rows → position (λ e. e.0 == turn) rows ≡ Some place
    → Some (get_or rows place d).1 ≡ row_of rows turn
row-there rows place turn d differ found =
    let at = IsAt-position rows turn place d found in
    sym (row-at rows turn place d differ at.within (at.here d))

-- the list without the row at its place is the one without the row of its turn
pub removed-there : (rows : List (ℕ × Pending)) (place turn : ℕ) → AllDiffer rows → position (λ e. e.0 == turn) rows ≡ Some place → remove rows place ≡ without_row rows turn
removed-there [] place turn differ found = cc
removed-there (row ∷ rows) place turn differ found =
    let at = IsAt-position (row ∷ rows) turn place row found in
    removed-at (row ∷ rows) turn place row differ at.within (at.here row)

-- the call of the row at its place
pub call-at : (rows : List (ℕ × Pending)) (place turn : ℕ) (d : ℕ × Pending) → AllDiffer rows → position (λ e. e.0 == turn) rows ≡ Some place
    → Some (get_or rows place d).1.call ≡ option_map (λ row. row.call) (row_of rows turn)
call-at rows place turn d differ found =
    let at = IsAt-position rows turn place d found in
    ap (option_map (λ (row : Pending). row.call)) (sym (row-at rows turn place d differ at.within (at.here d)))

pub call-none : (rows : List (ℕ × Pending)) (turn : ℕ) → position (λ e. e.0 == turn) rows ≡ None → None ≡ option_map (λ row. row.call) (row_of rows turn)
call-none rows turn none = ap (option_map (λ (row : Pending). row.call)) (sym (row_of-none rows turn none))
