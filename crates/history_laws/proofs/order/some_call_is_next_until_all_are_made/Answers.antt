use Rattle.history_laws.proofs.OrderLaws.{next-all}
use Rattle.history_laws.proofs.order.some_call_is_next_until_all_are_made.Goals as goal

pub returns : goal.returns
returns c = record { all = next-all }
