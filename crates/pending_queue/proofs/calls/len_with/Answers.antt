use Rattle.std.proofs.Common.{sym, ◌∙◌, arith}
use Rattle.fsa_types.proofs.RowLemmas.{IsAt-position}
use Rattle.pending_queue.proofs.CountLemmas.{length-there, lives-at}
use Rattle.pending_queue.proofs.calls.len_with.Goals as goal

pub returns-in-Some : goal.returns-in-Some
returns-in-Some c count =
    let rows = c.args.calls.now in
    let at = IsAt-position rows c.args.turn c.in-Some.field-0 (0, 0) (sym c.find_call.ensures.place ∙ c.in-Some.is) in
    let there = lives-at rows c.args.turn c.in-Some.field-0 (0, 0) at.within (at.here (0, 0)) in
    let same = length-there rows c.args.turn count there in
    omega arith
