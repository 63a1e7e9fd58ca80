use Rattle.std.proofs.Common.{rules, ⊎_elim, ◌++◌, ◌∷◌, [], slice_get, length, refl, sym, ap, ◌∙◌}
use Rattle.history_lock.proofs.Places.{given_end, given_longer, given_none, kept_more}
use Rattle.history_lock.proofs.Passing.{kept_view}
use Rattle.history_lock.proofs.Joining.{glues}
use Rattle.history_lock.proofs.close.gather.Goals as goal

pub join_seat-requires : goal.join_seat-requires
join_seat-requires g c = let i = c.loop-pass.invariant in let v = c.loop-pass.seat.me.0 in let u = c.seat_of.result.me.0 in let same = c.seat_of.ensures.same in let rests = c.seat_of.ensures.rests in
    let theirs = i.left (length c.pop.new.self.items) c.in-Some.pass (given_end _ _ _ _ c.in-Some.ensures.items refl) in (
      search rules,
      ap (λ s. s.table_id) same ∙ theirs.0,
      rests.0,
      search rules,
      glues _ _ _ _ _ _ _ _ v _ u (ap (λ w. w.live) i.view ∙ c.requires.rests.1) (ap (λ w. w.holds) i.view ∙ c.requires.rests.2) (ap (λ s. s.me.0.live) same ∙ theirs.1) rests.1,
    )

pub loop-pass-preserved : goal.loop-pass-preserved
loop-pass-preserved g c = let i = c.loop-pass.invariant in let e = c.join_seat.ensures in let items = c.in-Some.ensures.items in let v = c.loop-pass.seat.me.0 in record {
  place = (e.0 ∙ i.place.0, e.1 ∙ i.place.1, ap (λ m. m.1) e.2 ∙ i.place.2);
  view = kept_view c.args.seat.now.me.0 v c.join_seat.new.seat.me.0 c.seat_of.result.me.0 i.view (ap (λ m. m.0) e.2);
  left = λ k p at. i.left k p (ap (λ l. slice_get l k) items ∙ given_longer c.pop.new.self.items (c.in-Some.pass ∷ []) k p at);
  kept = λ k p at. kept_more (λ z. z.seat.me.0.own) c.loop-pass.passes.items c.pop.new.self.items c.in-Some.pass v.kept c.in-Some.pass.seat.me.0.kept c.join_seat.new.seat.me.0.kept items
      (ap (λ m. m.0.kept) e.2 ∙ ap (λ s. v.kept ++ s.me.0.own ∷ s.me.0.kept) c.seat_of.ensures.same) k p (i.kept k p at);
}

pub returns-clause-kept : goal.returns-clause-kept
returns-clause-kept g c k p at = ⊎_elim (λ here. absurd (given_none c.loop-pass.passes.items k p (sym c.loop-pass.passes.ok.0 ∙ c.in_default.ensures.cases.0) here)) (λ t. t) (c.loop-pass.invariant.kept k p at)
