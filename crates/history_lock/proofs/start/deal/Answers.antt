use Rattle.std.proofs.Common.{rules, arith, ◌≡◌, ℕ, ◌+◌, [], ◌∷◌, length, ap, ◌∙◌}
use Rattle.history_lock.specs.Turns.{newcomer, left_part, right_part}
use Rattle.history_lock.proofs.Places.{each_given}
use Rattle.history_lock.proofs.Joining.{cuts}
use Rattle.history_lock.proofs.start.deal.Goals as goal

pub split_seat-seat-requires : goal.split_seat-seat-requires
split_seat-seat-requires g c = let v = c.loop-client.first.me.0 in let is = c.loop-client.invariant.view in let a = ap (λ w. w.served) is in let b = ap (λ w. w.clients) is in
    (search rules, search rules, cuts _ _ _ _ _ _ _ _ v (ap (λ w. w.live) is) (ap (λ w. w.own.client) is) (omega arith))

pub loop-client-preserved : goal.loop-client-preserved
loop-client-preserved g c = let i = c.loop-client.invariant in let e = c.split_seat-seat.ensures in let n = c.new_pass.ensures in let whole = c.loop-client.passes.ok.0 in let count : c.loop-client.client ≡ length c.loop-client.passes.items + 1 = omega arith in record {
  place = e.0 ∙ i.place;
  view = ap (λ m. m.0) e.2 ∙ ap left_part i.view;
  out = ap (λ m. m.1) e.2 ∙ i.out;
  dealt = omega arith;
  room = c.push_reserved.ensures.capacity ∙ i.room;
  passes = each_given _ _ _ _ c.push_reserved.ensures.items i.passes (ap (λ s. s.table_id) n ∙ (e.3 ∙ i.place), ap (λ s. s.me.0) n ∙ (ap (λ m. m.0) e.4 ∙ (ap right_part i.view ∙ ap (λ (k : ℕ). newcomer (g.M.Machine.base c.args.top.now.key.first.value ∷ []) c.args.clients k 0) count)));
}
