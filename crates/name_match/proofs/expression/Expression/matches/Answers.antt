use Rattle.std.proofs.Common.{sym}
use Rattle.std.proofs.lemmas.List.{take_rest}
use Rattle.name_match.proofs.MatchLaws.{planned-serves, matches-star, matches-literal, matches-suffix}
use Rattle.name_match.proofs.expression.Expression.matches.Goals as goal

pub returns-in-Every : goal.returns-in-Every
returns-in-Every c =
    let served = planned-serves c.self.inside.plan c.self.inside.units.items c.self.invariant.planned in
    let star = rw c.in-Every.is at served in
    rw (← c.self.view_is) (sym (matches-star c.args.table.now c.self.inside.units.items c.args.units.now star))

pub returns-in-Literal : goal.returns-in-Literal
returns-in-Literal c =
    let served = planned-serves c.self.inside.plan c.self.inside.units.items c.self.invariant.planned in
    let literal = rw c.in-Literal.is at served in
    rw (← c.self.view_is, c.same_name.ensures, c.deref.ensures.value) (sym (matches-literal c.args.table.now c.self.inside.units.items c.args.units.now literal))

pub returns-in-Suffix : goal.returns-in-Suffix
returns-in-Suffix c =
    let served = planned-serves c.self.inside.plan c.self.inside.units.items c.self.invariant.planned in
    let star = rw c.in-Suffix.is at served in
    rw (← c.self.view_is, c.has_ending.ensures, take_rest, c.deref-in-Suffix.ensures.value)
    (sym (matches-suffix c.args.table.now c.self.inside.units.items c.args.units.now star))
