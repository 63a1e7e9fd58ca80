use Rattle.history_laws.proofs.OrderLaws.{Scheduled-stands, calls-begun, calls-go}
use Rattle.history_laws.proofs.order.calls_are_made_in_order.Goals as goal

pub returns : goal.returns
returns c = record { begun = calls-begun; goes = calls-go; all = Scheduled-stands }
