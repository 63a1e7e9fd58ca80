use Rattle.std.proofs.Common.{◌+◌, ℕ, List, [], ◌∷◌, All, ap, sym, subst, ◌∙◌}
use Rattle.std.proofs.lemmas.List.Elements.{All-append, All-cons, All-nil}
use Rattle.fsa_machine.specs.Spare.{HasLists}
use Rattle.fsa_machine.specs.declared.turns.TurnRoom.{TurnRoom}
use Rattle.fsa_machine.proofs.spare.bare_rooms.Goals as goal

pub loop-turn-preserved : goal.loop-turn-preserved
loop-turn-preserved c = record {
  len = c.in-Ok.ensures.len ∙ ap (λ (n : ℕ). n + 1) c.loop-turn.invariant.len;
  lists = subst (λ (rooms : List TurnRoom). All (HasLists c.args.calls) rooms) (sym c.in-Ok.ensures.items)
      (All-append (HasLists c.args.calls) c.loop-turn.rooms.items (c.in_ok-room.room ∷ []) c.loop-turn.invariant.lists
      (All-cons (HasLists c.args.calls) c.in_ok-room.room [] c.in_ok-room.ensures (All-nil (HasLists c.args.calls))));
}
