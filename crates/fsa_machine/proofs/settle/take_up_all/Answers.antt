use Rattle.std.proofs.Common.{List, refl, sym, subst, ◌∙◌, arith}
use Rattle.fsa_types.specs.declared.request.CallId.{CallId}
use Rattle.fsa_model.specs.Settling.{Reaches}
use Rattle.fsa_model.proofs.LoopLaws.{Reaches-begins}
use Rattle.fsa_machine.proofs.ServeLaws.{SameBase-same}
use Rattle.fsa_machine.proofs.StepLaws.{onward, told-on, told-none}
use Rattle.fsa_machine.proofs.settle.take_up_all.Goals as goal

pub turns-init : goal.turns-init
turns-init g c = record {
  reaches = subst (λ (ids : List CallId). Reaches (g.S.Store.content c.args.store.now) ids (g.S.Store.content c.args.store.now)) (sym c.requires.none) (Reaches-begins (g.S.Store.content c.args.store.now) c.requires.may);
  serves = record { serves = c.requires.serves; base = SameBase-same (g.S.Store.content c.args.store.now) };
  ends = omega arith;
  pending_kept = omega arith;
  told = told-none (g.S.Store.content c.args.store.now) c.args.ended.now.items;
  told_room = refl;
  named_room = refl;
  tries = omega arith;
  rises = omega arith;
  named = rw c.requires.none (omega (arith, c.requires.named));
}

pub turns-smaller : goal.turns-smaller
turns-smaller g c = (let on = onward _ _ _ _ _ c.turns.invariant.reaches c.turns.invariant.serves c.take_up.ensures.step c.take_up.ensures.serves in on.falls)

pub turns-preserved : goal.turns-preserved
turns-preserved g c =
    let on = onward _ _ _ _ _ c.turns.invariant.reaches c.turns.invariant.serves c.take_up.ensures.step c.take_up.ensures.serves in
    record {
      reaches = on.reaches;
      serves = on.serves;
      ends = omega (arith, c.turns.invariant.ends, c.take_up.ensures.ends);
      pending_kept = omega (arith, c.turns.invariant.pending_kept, c.take_up.ensures.pending_kept);
      told = told-on _ _ _ _ _ _ _ _ on c.turns.invariant.told c.take_up.ensures.told;
      named_room = c.take_up.ensures.named_room ∙ c.turns.invariant.named_room;
      told_room = c.take_up.ensures.told_room ∙ c.turns.invariant.told_room;
      tries = omega (arith, c.turns.invariant.tries, c.take_up.ensures.tries);
      rises = omega (arith, c.turns.invariant.rises, c.take_up.ensures.rises);
      named = omega (arith, on.named, c.turns.invariant.named, c.take_up.ensures.named_room);
    }

pub next_ready-requires : goal.next_ready-requires
next_ready-requires g c = record { serves = c.turns.invariant.serves.serves; rightly = c.turns.invariant.reaches.on.may.held }
