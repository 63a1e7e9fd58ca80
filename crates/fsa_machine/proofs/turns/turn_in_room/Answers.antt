use Rattle.std.proofs.Common.{◌≡◌, List, length, ap, sym, ◌∙◌, lt-ltb, arith, rules}
use Rattle.std.proofs.lemmas.Grind.{common_steps}
use Rattle.fsa_types.specs.declared.reply.EndOf.{EndOf}
use Rattle.fsa_model.specs.Engine.{own_tried}
use Rattle.fsa_model.specs.Turn.{try, turn_number, volume_after}
use Rattle.fsa_model.specs.Volume.{Volume}
use Rattle.fsa_machine.specs.Released.{how_many_let_go}
use Rattle.fsa_machine.proofs.ServeLaws.{SameBase-next}
use Rattle.fsa_machine.proofs.StallLaws.{given-few, own-answered, told-length}
use Rattle.fsa_machine.proofs.turns.turn_in_room.Goals as goal

pub settle-requires-clause-serves : goal.settle-requires-clause-serves
settle-requires-clause-serves g c = (let own = own-answered (g.S.Store.content c.args.store.now) (g.S.Store.content c.answer_own.new.store) c.args.call c.requires.can.serves c.requires.can.may_try (lt-ltb 0 c.args.call.number c.requires.can.number) c.requires.can.may c.requires.can.new c.in_ok-answer.ensures.content in own.serves.serves)

pub settle-requires-clause-may : goal.settle-requires-clause-may
settle-requires-clause-may g c = (let own = own-answered (g.S.Store.content c.args.store.now) (g.S.Store.content c.answer_own.new.store) c.args.call c.requires.can.serves c.requires.can.may_try (lt-ltb 0 c.args.call.number c.requires.can.number) c.requires.can.may c.requires.can.new c.in_ok-answer.ensures.content in own.may)

pub settle-requires-clause-few : goal.settle-requires-clause-few
settle-requires-clause-few g c = (let own = own-answered (g.S.Store.content c.args.store.now) (g.S.Store.content c.answer_own.new.store) c.args.call c.requires.can.serves c.requires.can.may_try (lt-ltb 0 c.args.call.number c.requires.can.number) c.requires.can.may c.requires.can.new c.in_ok-answer.ensures.content in omega (arith, own.made, c.requires.can.few))

pub settle-requires-clause-ends : goal.settle-requires-clause-ends
settle-requires-clause-ends g c = (let own = own-answered (g.S.Store.content c.args.store.now) (g.S.Store.content c.answer_own.new.store) c.args.call c.requires.can.serves c.requires.can.may_try (lt-ltb 0 c.args.call.number c.requires.can.number) c.requires.can.may c.requires.can.new c.in_ok-answer.ensures.content in omega (arith, own.made, c.requires.ends, c.in_ok-answer.ensures.ends))

pub settle-requires-clause-told : goal.settle-requires-clause-told
settle-requires-clause-told g c = (let own = own-answered (g.S.Store.content c.args.store.now) (g.S.Store.content c.answer_own.new.store) c.args.call c.requires.can.serves c.requires.can.may_try (lt-ltb 0 c.args.call.number c.requires.can.number) c.requires.can.may c.requires.can.new c.in_ok-answer.ensures.content in
    let told = told-length (g.S.Store.content c.args.store.now) (volume_after (try (g.S.Store.content c.args.store.now) c.args.call (turn_number (g.S.Store.content c.args.store.now)))) c.args.ended.now.items c.answer_own.new.ended.items c.in_ok-answer.ensures.told in
    let none = ap (λ (ends : List EndOf). length ends) c.requires.none in
    omega (arith, own.made, own.begins, own.goes, c.in_ok-answer.ensures.told_room, c.requires.told))

pub settle-requires-clause-named : goal.settle-requires-clause-named
settle-requires-clause-named g c = (let own = own-answered (g.S.Store.content c.args.store.now) (g.S.Store.content c.answer_own.new.store) c.args.call c.requires.can.serves c.requires.can.may_try (lt-ltb 0 c.args.call.number c.requires.can.number) c.requires.can.may c.requires.can.new c.in_ok-answer.ensures.content in omega (arith, own.made, own.begins, own.goes, c.requires.lists.lists.starved))

pub settle-requires-clause-waits : goal.settle-requires-clause-waits
settle-requires-clause-waits g c = (let own = own-answered (g.S.Store.content c.args.store.now) (g.S.Store.content c.answer_own.new.store) c.args.call c.requires.can.serves c.requires.can.may_try (lt-ltb 0 c.args.call.number c.requires.can.number) c.requires.can.may c.requires.can.new c.in_ok-answer.ensures.content in omega (arith, own.made, own.begins, own.goes, c.requires.lists.lists.waits))

pub returns-clause-turned : goal.returns-clause-turned
returns-clause-turned g c = record {
  ok = grind (arith, common_steps);
  serves = (let own = own-answered (g.S.Store.content c.args.store.now) (g.S.Store.content c.answer_own.new.store) c.args.call c.requires.can.serves c.requires.can.may_try (lt-ltb 0 c.args.call.number c.requires.can.number) c.requires.can.may c.requires.can.new c.in_ok-answer.ensures.content in record { serves = c.settle.ensures.serves.serves; base = SameBase-next own.serves.base c.settle.ensures.serves.base });
  longer = (let own = own-answered (g.S.Store.content c.args.store.now) (g.S.Store.content c.answer_own.new.store) c.args.call c.requires.can.serves c.requires.can.may_try (lt-ltb 0 c.args.call.number c.requires.can.number) c.requires.can.may c.requires.can.new c.in_ok-answer.ensures.content in omega (arith, own.begins, own.goes, c.settle.ensures.longer));
  ends = omega (arith, c.answer_own.ensures.ends, c.settle.ensures.ends);
  pending = omega (arith, c.in_ok-answer.ensures.pending, c.settle.ensures.pending_kept);
  pending_kept = search rules;
  err = search rules;
  tries = (let own : how_many_let_go (g.S.Store.content c.answer_own.new.store) ≡ how_many_let_go (own_tried (g.S.Store.content c.args.store.now) c.args.call) = ap (λ (v : Volume). how_many_let_go v) c.in_ok-answer.ensures.content in
      omega (arith, own, c.answer_own.ensures.tries, c.settle.ensures.tries));
  rises = omega (arith, c.answer_own.ensures.rises, c.settle.ensures.rises);
}

pub give-out-requires : goal.give-out-requires
give-out-requires g c = record {
  lists = record {
    no_given = c.requires.lists.lists.no_given;
    given = (let own = own-answered (g.S.Store.content c.args.store.now) (g.S.Store.content c.answer_own.new.store) c.args.call c.requires.can.serves c.requires.can.may_try (lt-ltb 0 c.args.call.number c.requires.can.number) c.requires.can.may c.requires.can.new c.in_ok-answer.ensures.content in
        let few = given-few _ _ _ c.args.call _ _ _ _ c.requires.can.may c.requires.can.new c.in_ok-answer.ensures.content own c.settle.ensures.content c.settle.ensures.longer c.requires.none c.in_ok-answer.ensures.told c.settle.ensures.told in
        omega (arith, few, c.requires.lists.lists.given));
    no_kept = c.requires.lists.lists.no_kept;
    kept = c.requires.lists.lists.kept;
    starved = rw c.settle.ensures.named_room c.settle.ensures.few_named;
    no_kept_starved = c.requires.lists.lists.no_kept_starved;
    kept_starved = (c.requires.lists.lists.kept_starved ∙ sym c.settle.ensures.named_room);
  };
}
