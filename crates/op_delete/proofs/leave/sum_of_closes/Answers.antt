use Rattle.std.proofs.Common.{sym}
use Rattle.op_delete.proofs.LeaveLaws.{IsSummed-first, IsSummed-last, IsSummed-more, fewer-later, none-summed}
use Rattle.op_delete.proofs.leave.sum_of_closes.Goals as goal

pub returns-in_default-clause-changes : goal.returns-in_default-clause-changes
returns-in_default-clause-changes c = (none-summed c.args.volume.now.content c.args.client c.in_default.ensures.none).0

pub returns-in_default-clause-units : goal.returns-in_default-clause-units
returns-in_default-clause-units c = (none-summed c.args.volume.now.content c.args.client c.in_default.ensures.none).1

pub returns-in_default-clause-dirs : goal.returns-in_default-clause-dirs
returns-in_default-clause-dirs c = (none-summed c.args.volume.now.content c.args.client c.in_default.ensures.none).2

pub handles-init : goal.handles-init
handles-init c =
    IsSummed-first c.args.volume.now.content c.args.client c.in-Some.first c.in_ok-sum.sum c.in-Some.ensures.numbers c.in-Some.ensures.differ c.in-Some.ensures.first c.in-Some.ensures.lives
    c.in_ok-sum.ensures

pub handles-smaller : goal.handles-smaller
handles-smaller c =
    fewer-later c.args.volume.now.content c.args.client c.in-Some-next_handle_of.id c.handles.sum c.in_ok-sum-2.sum c.in-Some-next_handle_of.ensures.numbers c.in-Some-next_handle_of.ensures.differ
    (sym c.in-Some-next_handle_of.ensures.found) c.in-Some-next_handle_of.ensures.lives c.in_ok-sum-2.ensures

pub handles-preserved : goal.handles-preserved
handles-preserved c =
    IsSummed-more c.args.volume.now.content c.args.client c.in-Some-next_handle_of.id c.handles.sum c.in_ok-sum-2.sum c.handles.invariant c.in-Some-next_handle_of.ensures.numbers
    c.in-Some-next_handle_of.ensures.differ (sym c.in-Some-next_handle_of.ensures.found) c.in-Some-next_handle_of.ensures.lives c.in_ok-sum-2.ensures

pub returns-clause-changes : goal.returns-clause-changes
returns-clause-changes c = (IsSummed-last c.args.volume.now.content c.args.client c.handles.sum c.handles.invariant c.in_default-next_handle_of.ensures.none).0

pub returns-clause-units : goal.returns-clause-units
returns-clause-units c = (IsSummed-last c.args.volume.now.content c.args.client c.handles.sum c.handles.invariant c.in_default-next_handle_of.ensures.none).1

pub returns-clause-dirs : goal.returns-clause-dirs
returns-clause-dirs c = (IsSummed-last c.args.volume.now.content c.args.client c.handles.sum c.handles.invariant c.in_default-next_handle_of.ensures.none).2
