use Rattle.std.proofs.Common.{rules, arith, ap, ◌∙◌, sym, ◌∷◌, Some}
use Rattle.atomic_table.specs.Table.{rest}
use Rattle.history_lock.proofs.Turning.{takes_turn}
use Rattle.history_lock.proofs.moves.take.Goals as goal

pub compare_exchange-found-requires : goal.compare_exchange-found-requires
compare_exchange-found-requires g c = (search rules, search rules, takes_turn _ _ _ _ _ _ _ _ _ _ _ c.requires.resting.0 c.requires.resting.1 c.requires.resting.2 (omega arith))

pub exchange-requires : goal.exchange-requires
exchange-requires g c = let t = c.compare_exchange-found.ensures.2.0 c.if-found-eq0.true in (search rules, (Some t.0, t.1 ∙ ap (λ l. (0, Some t.0) ∷ rest l) (sym t.1)))
