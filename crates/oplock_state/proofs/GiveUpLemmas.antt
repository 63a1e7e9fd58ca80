-- The oplocks that are granted to the call of one turn, given up one after the other.
use Rattle.std.proofs.Common.{◌≡◌, ℕ, suc, ◌+◌, ◌<◌, false, not, List, [], ◌∷◌, ◌++◌, length, take, get_or, refl, ap, sym, ◌∙◌, arith, inl, inr}
use Rattle.std.specs.List.{All, AllPairs}
use Rattle.std.specs.Prelude.{◌==◌, filter, fold}
use Rattle.std.proofs.lemmas.Bool.{cases_Bool, eq-eqb}
use Rattle.std.proofs.lemmas.List.{append_assoc, take_more}
use Rattle.std.proofs.lemmas.List.Elements.{All-push, filter-append}
use Rattle.std.proofs.lemmas.List.Sums.{fold-append}
use Rattle.fsa_types.specs.OplockLists.{without_oplock_of}
use Rattle.fsa_types.specs.Oplocks.{Oplock}
use Rattle.fsa_model.specs.Waiting.{is_granted_under}
use Rattle.fsa_model.proofs.RowLaws.{eqb-swap}
use Rattle.oplock_state.specs.Tables.{given_up}
use Rattle.oplock_state.proofs.SortLemmas.{local-without}
use Rattle.volume_breaks.proofs.GrantLemmas.{NoneOf}

abbrev stays_under : ℕ → List Oplock → List Oplock
stays_under turn rows = filter (λ (o : Oplock). not (is_granted_under turn o)) rows

-- an oplock between those that stay and those that are to come
without-between : (done rest : List Oplock) (o : Oplock) → NoneOf o.handle done → NoneOf o.handle rest → without_oplock_of o.handle (done ++ o ∷ rest) ≡ done ++ rest
without-between done rest o before behind =
    let gone : without_oplock_of o.handle (o ∷ rest) ≡ without_oplock_of o.handle rest = rw (eq-eqb o.handle o.handle refl) refl in
    filter-append (λ (x : Oplock). not (x.handle == o.handle)) done (o ∷ rest)
    ∙ ap (λ (start : List Oplock). start ++ without_oplock_of o.handle (o ∷ rest)) ((local-without o.handle).stays done before)
    ∙ ap (λ (end : List Oplock). done ++ end) (gone ∙ (local-without o.handle).stays rest behind)

given-behind : (turn : ℕ) (done rest : List Oplock) → All (λ (o : Oplock). NoneOf o.handle done) rest → AllPairs (λ (a b : Oplock). (a.handle == b.handle) ≡ false) rest
    → fold (given_up turn) (done ++ rest) rest ≡ done ++ stays_under turn rest
given-behind turn done [] before differ = refl
given-behind turn done (o ∷ rest) before differ =
    let behind : NoneOf o.handle rest = λ k d within. eqb-swap (get_or rest k d).handle o.handle ∙ differ 0 (suc k) d (omega arith) (omega arith) in
    let differ_behind : AllPairs (λ (a b : Oplock). (a.handle == b.handle) ≡ false) rest = λ i j d below within. differ (suc i) (suc j) d (omega arith) (omega arith) in
    elim (cases_Bool (is_granted_under turn o)) [
      | inl granted ↦ (
          let step : given_up turn (done ++ o ∷ rest) o ≡ done ++ rest = rw granted (without-between done rest o (before 0 o (omega arith)) behind) in
          let tail : stays_under turn (o ∷ rest) ≡ stays_under turn rest = rw granted refl in
          ap (λ (start : List Oplock). fold (given_up turn) start rest) step
          ∙ given-behind turn done rest (λ k d within. before (suc k) d (omega arith)) differ_behind
          ∙ ap (λ (end : List Oplock). done ++ end) (sym tail))
      | inr kept ↦ (
          let step : given_up turn (done ++ o ∷ rest) o ≡ (done ++ o ∷ []) ++ rest = rw kept (sym (append_assoc done (o ∷ []) rest)) in
          let tail : stays_under turn (o ∷ rest) ≡ o ∷ stays_under turn rest = rw kept refl in
          ap (λ (start : List Oplock). fold (given_up turn) start rest) step
          ∙ given-behind turn (done ++ o ∷ []) rest
          (λ k d within. All-push (λ (x : Oplock). (x.handle == (get_or rest k d).handle) ≡ false) done o (before (suc k) d (omega arith)) (differ 0 (suc k) d (omega arith) (omega arith)))
          differ_behind
          ∙ append_assoc done (o ∷ []) (stays_under turn rest)
          ∙ ap (λ (end : List Oplock). done ++ end) (sym tail))
    ]

-- where no two are of one handle, those are left that aren't granted under the turn
pub given-all : (turn : ℕ) (rows : List Oplock) → AllPairs (λ (a b : Oplock). (a.handle == b.handle) ≡ false) rows → fold (given_up turn) rows rows ≡ stays_under turn rows
given-all turn rows differ = given-behind turn [] rows (λ k d within i e inside. absurd (omega arith)) differ

-- one more is looked at
pub given-more : (turn : ℕ) (rows : List Oplock) (place : ℕ) (oplock : Oplock) → place < length rows → oplock ≡ get_or rows place oplock
    → fold (given_up turn) rows (take (place + 1) rows) ≡ given_up turn (fold (given_up turn) rows (take place rows)) oplock
given-more turn rows place oplock within read =
    ap (λ (first : List Oplock). fold (given_up turn) rows first) (take_more rows place oplock within ∙ ap (λ (o : Oplock). take place rows ++ o ∷ []) (sym read))
    ∙ fold-append (given_up turn) rows (take place rows) (oplock ∷ [])
