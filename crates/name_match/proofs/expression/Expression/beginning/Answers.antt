use Rattle.name_match.proofs.BeginningLaws.{matched-begins}
use Rattle.name_match.proofs.expression.Expression.beginning.Goals as goal

pub returns-clause-begins : goal.returns-clause-begins
returns-clause-begins c table name =
    rw (← c.self.view_is, c.literal_count-count.ensures.count, c.deref.ensures.value, c.deref-2.ensures.value) (matched-begins table c.self.inside.units.items name)
