use Rattle.std.proofs.Common.{List, ℕ, ap, ◌∙◌, arith, length-drop}
use Rattle.std.specs.Prelude.{nat_le}
use Rattle.notify_queue.specs.Due.{due_of, size_from}
use Rattle.notify_queue.proofs.DueLaws.{due-is, size_from-is, units_in-drop}
use Rattle.notify_queue.proofs.watch.fits.Goals as goal

pub fits_among-requires-clause-few : goal.fits_among-requires-clause-few
fits_among-requires-clause-few c =
    let few = c.pieces-pieces.ensures.pieces.few in
    let apart = c.pieces-pieces.ensures.pieces.apart in
    rw c.from_place-entries.ensures
    (omega (arith, length-drop c.args.watch.now.from c.pieces-pieces.result.entries.now, units_in-drop c.args.watch.now.from c.pieces-pieces.result.entries.now, few, apart))

pub returns : goal.returns
returns c =
    c.fits_among.ensures
    ∙ ap (λ (size : ℕ). nat_le size c.args.room)
    (ap (λ (due : List (ℕ × List ℕ)). size_from 0 due) (due-is c.args.log.now.changes c.args.watch.now c.pieces-pieces.result.units.now c.pieces-pieces.result.dirs.now c.pieces-pieces.result.entries.now c.from_place-entries.result.now c.pieces-pieces.ensures.changes c.from_place-entries.ensures)
    ∙ size_from-is (due_of c.args.log.now.changes c.args.watch.now))
