use Rattle.std.proofs.Common.{Bool, List, ℕ, [], ◌∷◌, ◌++◌, ◌+◌, None, Some, ◌≡◌, ◌∙◌, ap, map, sym, length, arith}
use Rattle.std.specs.Prelude.{filter}
use Rattle.std.proofs.lemmas.List.{append_assoc, length_push}
use Rattle.fsa_types.specs.declared.reply.Blocker.{Blocker}
use Rattle.fsa_types.specs.declared.reply.Blocker.TheVariants.{Lock as LockOf}
use Rattle.range_locks.specs.RangeTable.{conflicts, first_id, lock_blocker}
use Rattle.range_locks.specs.declared.range.Range.{Range}
use Rattle.range_locks.proofs.ListedLemmas.{all_listed, as_many, none_left}
use Rattle.range_locks.proofs.NumberLemmas.{behind, least-near, next-behind, none-behind}
use Rattle.range_locks.proofs.table.listed_by_number.Goals as goal

pub returns-in_default : goal.returns-in_default
returns-in_default c ranges numbered same =
    let test : Range → Bool = conflicts c.args.want c.args.handle c.args.at c.args.count in
    let near = c.args.near.now in
    let none : first_id (behind test c.loop.last) ranges ≡ None = sym (least-near test near ranges c.loop.last numbered same) ∙ sym c.least_behind.ensures ∙ c.in_default.is in
    none_left c.loop.list (map lock_blocker (filter (behind test c.loop.last) ranges)) (map lock_blocker (filter test ranges)) (c.loop.invariant.listed ranges numbered same)
    (ap (map lock_blocker) (none-behind (behind test c.loop.last) ranges none)) (c.loop.invariant.room ∙ c.requires ∙ as_many test near ranges same)

pub returns : goal.returns
returns c ranges numbered same =
    let test : Range → Bool = conflicts c.args.want c.args.handle c.args.at c.args.count in
    let near = c.args.near.now in
    let many : c.args.found ≡ length (map lock_blocker (filter test ranges)) = c.requires ∙ as_many test near ranges same in
    let end : c.loop.counter ≡ c.args.found = omega (arith, c.loop-test.false, c.loop.auto.counter-end) in
    all_listed c.loop.list (map lock_blocker (filter (behind test c.loop.last) ranges)) (map lock_blocker (filter test ranges)) (c.loop.invariant.listed ranges numbered same)
    (c.loop.invariant.many ∙ end ∙ many) (c.loop.invariant.room ∙ many)

pub loop-preserved : goal.loop-preserved
loop-preserved c =
    let test : Range → Bool = conflicts c.args.want c.args.handle c.args.at c.args.count in
    record {
      many = ap length c.push.ensures.items ∙ length_push c.loop.list.items (LockOf c.in-Some.id) ∙ ap (λ (n : ℕ). n + 1) c.loop.invariant.many;
      room = c.push.ensures.room ∙ c.loop.invariant.room;
      listed = λ ranges numbered same.
          let first : first_id (behind test c.loop.last) ranges ≡ Some c.in-Some.id = sym (least-near test c.args.near.now ranges c.loop.last numbered same) ∙ sym c.least_behind.ensures ∙ c.in-Some.is in
          let rest : List Blocker = map lock_blocker (filter (behind test (Some c.in-Some.id)) ranges) in
          ap (λ (its : List Blocker). its ++ rest) c.push.ensures.items ∙ append_assoc c.loop.list.items (LockOf c.in-Some.id ∷ []) rest
          ∙ ap (λ (its : List Blocker). c.loop.list.items ++ its) (sym (next-behind test c.loop.last ranges c.in-Some.id numbered first)) ∙ c.loop.invariant.listed ranges numbered same;
    }
