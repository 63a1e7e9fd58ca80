use Rattle.history_laws.proofs.WholeLaws.{Scheduled-goes_on}
use Rattle.history_laws.proofs.order.each_schedule_goes_on_to_its_end.Goals as goal

pub returns : goal.returns
returns c = record { goes_on = Scheduled-goes_on }
