use Rattle.std.proofs.Common.{◌≡◌, List, ap, sym, ◌∙◌, suc, arith}
use Rattle.notify_queue.specs.Due.{due_among, size_from}
use Rattle.notify_queue.specs.declared.part.LogEntry.{LogEntry}
use Rattle.notify_queue.proofs.DueLaws.{fits-not, size-step}
use Rattle.notify_queue.proofs.watch.fits_among.Goals as goal

pub returns-then-size-room : goal.returns-then-size-room
returns-then-size-room c =
    let step = size-step c.args.watch.now c.args.units.now c.args.dirs.now c.in-Some.entry.now c.in-Some.more.now c.entries.size in
    let all : size_from c.size_with-size.result (due_among c.args.watch.now c.args.units.now c.args.dirs.now c.in-Some.more.now) ≡ size_from 0 (due_among c.args.watch.now c.args.units.now c.args.dirs.now c.args.entries.now)
    = rw c.size_with-size.ensures.size
    (step ∙ ap (λ (entries : List LogEntry). size_from c.entries.size (due_among c.args.watch.now c.args.units.now c.args.dirs.now entries)) (sym c.in-Some.ensures.cases.0) ∙ c.entries.invariant.all) in
    sym (rw (← all) (fits-not c.args.room c.size_with-size.result (due_among c.args.watch.now c.args.units.now c.args.dirs.now c.in-Some.more.now) c.if-size-room.true))

pub entries-preserved : goal.entries-preserved
entries-preserved c =
    let step = size-step c.args.watch.now c.args.units.now c.args.dirs.now c.in-Some.entry.now c.in-Some.more.now c.entries.size in
    let few = rw c.in-Some.ensures.cases.0 at c.entries.invariant.few in
    let lie = rw c.in-Some.ensures.cases.0 at c.entries.invariant.lie in
    let bound = c.size_with-size.ensures.bound in
    record {
      all = rw c.size_with-size.ensures.size
          (step ∙ ap (λ (entries : List LogEntry). size_from c.entries.size (due_among c.args.watch.now c.args.units.now c.args.dirs.now entries)) (sym c.in-Some.ensures.cases.0) ∙ c.entries.invariant.all);
      lie = λ k d within. lie (suc k) d (omega arith);
      few = omega arith;
      fits = omega (arith, c.if-size-room.false);
    }
