use Rattle.std.proofs.Common.{rules, ap, ◌∙◌, sym}
use Rattle.history_lock.proofs.Turning.{frees}
use Rattle.history_lock.proofs.moves.release.Goals as goal

pub store-requires : goal.store-requires
store-requires g c = let e = c.put.ensures.there in let v = ap (λ m. m.0) e in
    (search rules, search rules, frees _ _ _ _ _ _ _ _ _ _ c.args.machine (ap (λ m. m.1) e) (ap (λ w. w.holds) v ∙ c.requires.holds.1) (c.requires.list ∙ ap (λ w. w.hand) (sym v)) (ap (λ w. w.base) v ∙ c.requires.base))
