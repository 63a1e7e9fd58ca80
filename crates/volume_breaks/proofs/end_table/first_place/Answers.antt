use Rattle.std.proofs.Common.{◌≡◌, ◌≤◌, ◌<◌, ◌-◌, ℕ, suc, length, refl, subst, arith, Some}
use Rattle.std.specs.Prelude.{slice_get, slice_index_or}
use Rattle.std.proofs.lemmas.Option.{slice_get_read}
use Rattle.pending_queue.specs.Waits.{end_of, slot}
use Rattle.volume_breaks.proofs.EndLemmas.{Seeks, Seeks-back, Seeks-start, Seeks-step}
use Rattle.volume_breaks.proofs.end_table.first_place.Goals as goal

pub loop-end-init : goal.loop-end-init
loop-end-init c =
    let heads = c.args.heads.now in
    let end : c.end_of-end.result ≡ end_of heads (slot (length heads) c.args.number) (length c.args.ends.now) = rw c.slot_of.ensures at c.end_of-end.ensures in
    Seeks-start heads c.args.links.now c.args.ends.now c.args.client c.args.number c.end_of-end.result c.requires end

pub loop-end-smaller : goal.loop-end-smaller
loop-end-smaller c =
    let place : ℕ = c.loop-end.end - 1 in
    let at : c.loop-end.end ≡ suc place = omega arith in
    let seeks = subst (λ (end : ℕ). Seeks (length c.args.heads.now) c.args.client c.args.number c.args.ends.now c.loop-end.found end) at c.loop-end.invariant in
    let back = Seeks-back c.args.heads.now c.args.links.now c.args.ends.now c.args.client c.args.number place c.loop-end.found (slice_index_or c.args.links.now place 0) c.requires seeks refl in
    omega arith

pub loop-end-preserved : goal.loop-end-preserved
loop-end-preserved c =
    let ends = c.args.ends.now in
    let place : ℕ = c.loop-end.end - 1 in
    let at : c.loop-end.end ≡ suc place = omega arith in
    let seeks = subst (λ (end : ℕ). Seeks (length c.args.heads.now) c.args.client c.args.number ends c.loop-end.found end) at c.loop-end.invariant in
    let within : c.loop-end.end ≤ length ends = c.loop-end.invariant.within in
    let inside : place < length ends = omega arith in
    let there : slice_get ends place ≡ Some c.index-ends-place.result = slice_get_read ends (length ends) place c.index-ends-place.result refl inside c.index-ends-place.is in
    Seeks-step c.args.heads.now c.args.links.now ends c.args.client c.args.number place c.loop-end.found c.found_at-found.result c.index-ends-place.result (slice_index_or c.args.links.now place 0) c.requires seeks there refl c.found_at-found.ensures
