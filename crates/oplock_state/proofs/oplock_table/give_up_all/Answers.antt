use Rattle.std.proofs.Common.{◌≡◌, ◌∙◌, ◌<◌, ℕ, List, ap, arith, get_or, length, subst, sym, take}
use Rattle.std.specs.Prelude.{fold}
use Rattle.std.proofs.lemmas.List.{take_all}
use Rattle.fsa_types.specs.Oplocks.{Oplock}
use Rattle.oplock_state.specs.Tables.{AreSorted, given_up}
use Rattle.oplock_state.proofs.GiveUpLemmas.{given-all, given-more}
use Rattle.oplock_state.proofs.oplock_table.give_up_all.Goals as goal

pub loop-oplock-preserved : goal.loop-oplock-preserved
loop-oplock-preserved c =
    let rows : List Oplock = c.args.list.now.rows in
    let place : ℕ = c.loop-oplock.oplock-index in
    let within : place < length rows = rw c.as_slice-oplock-items.ensures at c.loop-oplock-test.true in
    let read : c.oplock-item.result ≡ get_or rows place c.oplock-item.result = rw c.as_slice-oplock-items.ensures at c.oplock-item.is in
    record {
      sorted = subst (λ (left : List Oplock). AreSorted c.args.handles.now.rows left c.give_up_one.new.tables) (sym (given-more c.args.turn rows place c.oplock-item.result within read))
          (c.give_up_one.ensures.sorted (fold (given_up c.args.turn) rows (take place rows)) c.loop-oplock.invariant.sorted);
      fit = λ rooms last fit. c.give_up_one.ensures.fit rooms last (c.loop-oplock.invariant.fit rooms last fit);
    }

pub returns-clause-sorted : goal.returns-clause-sorted
returns-clause-sorted c =
    let rows : List Oplock = c.args.list.now.rows in
    let place : ℕ = c.loop-oplock.oplock-index in
    let end = c.loop-oplock-test.false in
    let count = ap (λ (items : List Oplock). length items) c.as_slice-oplock-items.ensures in
    let whole : take place rows ≡ rows = take_all place rows (omega arith) in
    subst (λ (left : List Oplock). AreSorted c.args.handles.now.rows left c.loop-oplock.tables)
    (ap (λ (seen : List Oplock). fold (given_up c.args.turn) rows seen) whole ∙ given-all c.args.turn rows c.requires.differ)
    c.loop-oplock.invariant.sorted
