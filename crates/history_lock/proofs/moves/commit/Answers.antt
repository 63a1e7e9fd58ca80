use Rattle.std.proofs.Common.{rules, ap, ◌∙◌, sym, ◌++◌, ◌∷◌, []}
use Rattle.history_lock.proofs.Turning.{commits, frees}
use Rattle.history_lock.proofs.moves.commit.Goals as goal

pub fetch_add-requires : goal.fetch_add-requires
fetch_add-requires g c = let e = c.put.ensures.there in let v = ap (λ m. m.0) e in let made = c.requires.made in (
  search rules,
  search rules,
  commits _ _ _ _ _ _ _ _ _ _ c.args.machine made.0 (ap (λ m. m.1) e) (ap (λ w. w.holds) v ∙ c.requires.holds.1)
      (made.1 ∙ ap (λ w. w.hand ++ made.0 ∷ []) (sym v)) (made.2 ∙ ap (λ w. w.own.client) (sym v)) made.3 (ap (λ w. w.base) v ∙ c.requires.base) c.requires.stands,
)

pub store-requires : goal.store-requires
store-requires g c = let e = c.put.ensures.there in let v = ap (λ m. m.0) e in let there = ap (λ m. m.1) e in let w = c.fetch_add.ensures.2.1 c.args.machine there in
    (search rules, search rules, frees _ _ _ _ _ _ _ _ _ _ c.args.machine (c.fetch_add.ensures.2.0 ∙ there) (ap (λ w. w.holds) w ∙ (ap (λ w. w.holds) v ∙ c.requires.holds.1)) (ap (λ w. w.hand) (sym w)) (ap (λ w. w.base) w ∙ (ap (λ w. w.base) v ∙ c.requires.base)))
