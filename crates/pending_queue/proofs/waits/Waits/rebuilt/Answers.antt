use Rattle.std.proofs.Common.{◌≡◌, ◌∙◌, ap, arith, length, sym}
use Rattle.pending_queue.specs.Waits.{living_entries}
use Rattle.pending_queue.proofs.WaitLemmas.{entries-many}
use Rattle.pending_queue.proofs.waits.Waits.rebuilt.Goals as goal

pub put_living-requires : goal.put_living-requires
put_living-requires c =
    let i = c.self.inside in
    let as_many : length (living_entries c.deref-2.result.now) ≡ c.count_living-living.result =
    ap (λ its. length (living_entries its)) c.deref-2.ensures.value ∙ entries-many i.waits.items ∙ sym (rw c.deref.ensures.value at c.count_living-living.ensures) in
    record { room = omega (arith, c.in-Some.ensures, c.in_ok-fresh.ensures.room) }

pub returns-clause-room : goal.returns-clause-room
returns-clause-room c =
    let i = c.self.inside in
    let as_many : length (living_entries c.deref-2.result.now) ≡ c.count_living-living.result =
    ap (λ its. length (living_entries its)) c.deref-2.ensures.value ∙ entries-many i.waits.items ∙ sym (rw c.deref.ensures.value at c.count_living-living.ensures) in
    omega (arith, c.in-Some.ensures, c.in_ok-fresh.ensures.room)
