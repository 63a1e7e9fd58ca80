use Rattle.fsa_machine.proofs.ReportLaws.{report-bytes, report-units}
use Rattle.fsa_machine.proofs.settle.report_in.Goals as goal

pub copy_report-kept-requires-clause-bytes : goal.copy_report-kept-requires-clause-bytes
copy_report-kept-requires-clause-bytes g c =
    rw c.in-Ok.ensures.reply (report-bytes (g.S.Store.content c.args.store.now) c.args.asked.handle c.args.asked.room c.args.size c.requires.size)

pub copy_report-kept-requires-clause-units : goal.copy_report-kept-requires-clause-units
copy_report-kept-requires-clause-units g c = rw c.in-Ok.ensures.reply (report-units (g.S.Store.content c.args.store.now) c.args.asked.handle c.args.asked.room)
