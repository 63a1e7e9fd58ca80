use Rattle.std.proofs.Common.{◌≡◌, ◌∙◌, ◌<◌, ◌≤◌, ℕ, List, sym, arith}
use Rattle.std.specs.Prelude.{◌&&◌, nat_lt}
use Rattle.fsa_types.specs.CaseTable.{upcased}
use Rattle.link_index.specs.Heads.{head_digit, is_exact, units_packed, unit_at}
use Rattle.link_index.proofs.HeadLemmas.{digit-most, exact-first, exact-next, packed-first, packed-fits, packed-next}
use Rattle.link_index.proofs.head.head_of.Goals as goal

pub loop-place-init : goal.loop-place-init
loop-place-init c =
    let units : List ℕ = upcased c.args.upcase.now c.args.units.now in
    record { packed = sym (packed-first units); exact = sym (exact-first units) }

pub overflow_mul-head : goal.overflow_mul-head
overflow_mul-head c =
    let units : List ℕ = upcased c.args.upcase.now c.args.units.now in
    let fits : units_packed units c.loop-place.place < 1329227995784915872903807060280344576 = packed-fits units c.loop-place.place (omega (arith, c.loop-place-test.true)) in
    omega (arith, c.loop-place.invariant.packed, fits)

pub overflow_add-head : goal.overflow_add-head
overflow_add-head c =
    let units : List ℕ = upcased c.args.upcase.now c.args.units.now in
    let fits : units_packed units c.loop-place.place < 1329227995784915872903807060280344576 = packed-fits units c.loop-place.place (omega (arith, c.loop-place-test.true)) in
    let most : head_digit c.loop-place.exact c.unit_at-unit.result ≤ 255 = digit-most c.loop-place.exact c.unit_at-unit.result in
    omega (arith, c.loop-place.invariant.packed, c.head_digit.ensures, fits, most)

pub loop-place-preserved : goal.loop-place-preserved
loop-place-preserved c =
    let units : List ℕ = upcased c.args.upcase.now c.args.units.now in
    let last : head_digit c.loop-place.exact c.unit_at-unit.result ≡ head_digit (is_exact units c.loop-place.place) (unit_at units c.loop-place.place)
    = (λ i. head_digit (c.loop-place.invariant.exact i) (c.unit_at-unit.ensures i)) in
    let next = packed-next units c.loop-place.place in
    record {
      packed = omega (arith, c.loop-place.invariant.packed, c.head_digit.ensures, last, next);
      exact = c.stays_exact-exact.ensures ∙ (λ i. c.loop-place.invariant.exact i && nat_lt (c.unit_at-unit.ensures i) 255) ∙ sym (exact-next units c.loop-place.place);
    }
