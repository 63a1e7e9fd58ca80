use Rattle.std.proofs.Common.{◌∙◌, sym}
use Rattle.volume_state.proofs.DueLaws.{on-found, on-lost}
use Rattle.volume_state.proofs.due.next_on.Goals as goal

pub returns-then-may_report : goal.returns-then-may_report
returns-then-may_report c =
    c.next_notify.ensures ∙ on-found c.args.volume.now.content c.args.row.now c.args.first c.args.pending.now (sym c.may_report.ensures ∙ c.if-may_report.true)

pub returns : goal.returns
returns c = on-lost c.args.volume.now.content c.args.row.now c.args.first c.args.pending.now (sym c.may_report.ensures ∙ c.if-may_report.false)
