use Rattle.history_laws.proofs.OrderLaws.{next-least, next-none}
use Rattle.history_laws.proofs.order.the_least_cursor_is_next.Goals as goal

pub returns : goal.returns
returns c = record { next = next-least; none = next-none }
