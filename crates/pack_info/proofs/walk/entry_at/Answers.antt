use Rattle.std.proofs.Common.{arith, rules, false, sym, subst}
use Rattle.std.specs.Prelude.{IsTrue}
use Rattle.pack_info.proofs.WalkLaws.{read_as, tail_of, too_few, begins_with}
use Rattle.pack_info.specs.declared.reading.Head.{Head}
use Rattle.pack_info.specs.Entries.{BeginsWithEntry, IsTail}
use Rattle.pack_info.specs.Reading.{HeadFits}
use Rattle.pack_info.proofs.walk.entry_at.Goals as goal

pub returns-then-bytes-size_of_head-clause-only : goal.returns-then-bytes-size_of_head-clause-only
returns-then-bytes-size_of_head-clause-only c = λ e rest. too_few c.args.kind c.args.bytes.now e rest (omega (arith, c.if-bytes-size_of_head.true, c.size_of_head.ensures))

pub returns-then-not-has_constants-clause-only : goal.returns-then-not-has_constants-clause-only
returns-then-not-has_constants-clause-only c =
    let fits : HeadFits c.head_at-head.result.0 = c.head_at-head.ensures.fits in
    λ e rest b.
    let r = read_as c.args.kind c.head_at-head.result.0 c.args.bytes.now c.head_at-head.result.1.now e rest c.head_at-head.ensures.plain fits c.head_at-head.ensures.read b in
    let h : IsTrue false = c.if-not-has_constants.ensures.1 r.constants in
    absurd (search rules)

pub returns-in_default-clause-only : goal.returns-in_default-clause-only
returns-in_default-clause-only c =
    let fits : HeadFits c.head_at-head.result.0 = c.head_at-head.ensures.fits in
    λ e rest b. c.in_default.ensures.only e.name rest (subst (λ (h : Head). IsTail c.args.kind h.next h.len c.head_at-head.result.1.now e.name rest) (sym c.head.view_is)
    (tail_of c.args.kind c.head_at-head.result.0 c.args.bytes.now c.head_at-head.result.1.now e rest c.head_at-head.ensures.plain fits c.head_at-head.ensures.read b))

pub returns-clause-found : goal.returns-clause-found
returns-clause-found c =
    let fits : HeadFits c.head_at-head.result.0 = c.head_at-head.ensures.fits in
    let z = c.if-not-has_constants.ensures.0 (search rules) in
    let t : IsTail c.args.kind c.head_at-head.result.0.next c.head_at-head.result.0.len c.head_at-head.result.1.now c.in-Some.name.now c.in-Some.rest.now
    = subst (λ (h : Head). IsTail c.args.kind h.next h.len c.head_at-head.result.1.now c.in-Some.name.now c.in-Some.rest.now) c.head.view_is c.in-Some.ensures.found in
    subst (λ (h : Head). BeginsWithEntry c.args.kind c.args.bytes.now (record { numbers = h.numbers; name = c.in-Some.name.now }) c.in-Some.rest.now) (sym c.head.view_is)
    (begins_with c.args.kind c.head_at-head.result.0 c.args.bytes.now c.head_at-head.result.1.now c.in-Some.name.now c.in-Some.rest.now c.head_at-head.ensures.plain fits z.0 z.1 z.2 c.head_at-head.ensures.read t)
