use Rattle.std.proofs.Common.{sym, subst, ◌∙◌}
use Rattle.fsa_model.specs.Volume.{Volume}
use Rattle.fsa_machine.specs.Serves.{ServesOn}
use Rattle.fsa_machine.proofs.ServeLaws.{SameBase-next}
use Rattle.fsa_model.proofs.LoopLaws.{Reaches-done}
use Rattle.fsa_machine.proofs.StallLaws.{settle-longer, settle-told, stalled-serves}
use Rattle.fsa_machine.proofs.settle.settle.Goals as goal

pub returns-clause-content : goal.returns-clause-content
returns-clause-content g c = c.stall.ensures.content ∙ sym (Reaches-done _ _ _ c.take_up_all.ensures.reaches c.take_up_all.ensures.done).0

pub returns-clause-all : goal.returns-clause-all
returns-clause-all g c = (Reaches-done _ _ _ c.take_up_all.ensures.reaches c.take_up_all.ensures.done).1

pub returns-clause-told : goal.returns-clause-told
returns-clause-told g c = settle-told _ _ _ _ _ _ _ c.take_up_all.ensures.reaches c.stall.ensures.content c.take_up_all.ensures.told c.stall.ensures.told

pub returns-clause-longer : goal.returns-clause-longer
returns-clause-longer g c = settle-longer _ _ _ _ c.take_up_all.ensures.reaches c.stall.ensures.content

pub returns-clause-serves : goal.returns-clause-serves
returns-clause-serves g c =
    let one = c.take_up_all.ensures.serves in
    let two = stalled-serves (g.S.Store.content c.take_up_all.new.store) one.serves in
    subst (λ (w : Volume). ServesOn (g.S.Store.content c.args.store.now) w) (sym c.stall.ensures.content) (record { serves = two.serves; base = SameBase-next one.base two.base })
