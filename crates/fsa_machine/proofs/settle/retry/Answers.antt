use Rattle.std.proofs.Common.{List, length, drop, ap, arith, length-append, length-drop}
use Rattle.fsa_types.specs.declared.reply.EndOf.{EndOf}
use Rattle.fsa_machine.proofs.StepLaws.{may-retry, ready-pending, retries, never-stays, told-own}
use Rattle.fsa_machine.proofs.settle.retry.Goals as goal

pub unreachable-requires : goal.unreachable-requires
unreachable-requires g c = never-stays _ _ _ _ _ c.requires.may c.requires.next c.requires.held c.requires.call c.in-Stay.ensures.gives

pub tell-requires-clause-few : goal.tell-requires-clause-few
tell-requires-clause-few g c = (let r = retries _ _ _ _ c.requires.serves c.requires.may c.requires.next c.requires.held c.requires.call c.in-Hold.ensures.gives in omega (arith, r.few, c.requires.few))

pub tell-requires-clause-within : goal.tell-requires-clause-within
tell-requires-clause-within g c = (let r = retries _ _ _ _ c.requires.serves c.requires.may c.requires.next c.requires.held c.requires.call c.in-Hold.ensures.gives in omega (arith, r.begins, c.ends-from.ensures))

pub tell-requires-clause-room : goal.tell-requires-clause-room
tell-requires-clause-room g c = (let r = retries _ _ _ _ c.requires.serves c.requires.may c.requires.next c.requires.held c.requires.call c.in-Hold.ensures.gives in omega (arith, r.begins, r.few, c.ends-from.ensures, c.requires.told))

pub tell-requires-in-Done-clause-few : goal.tell-requires-in-Done-clause-few
tell-requires-in-Done-clause-few g c = (let r = retries _ _ _ _ c.requires.serves c.requires.may c.requires.next c.requires.held c.requires.call c.in-Done.ensures.gives in omega (arith, r.few, c.requires.few))

pub tell-requires-in-Done-clause-within : goal.tell-requires-in-Done-clause-within
tell-requires-in-Done-clause-within g c = (let r = retries _ _ _ _ c.requires.serves c.requires.may c.requires.next c.requires.held c.requires.call c.in-Done.ensures.gives in omega (arith, r.begins, c.ends-from.ensures))

pub tell-requires-in-Done-clause-room : goal.tell-requires-in-Done-clause-room
tell-requires-in-Done-clause-room g c = (let r = retries _ _ _ _ c.requires.serves c.requires.may c.requires.next c.requires.held c.requires.call c.in-Done.ensures.gives in omega (arith, r.begins, r.few, c.ends-from.ensures, c.requires.told))

pub end-requires : goal.end-requires
end-requires g c = record { room = (let r = retries _ _ _ _ c.requires.serves c.requires.may c.requires.next c.requires.held c.requires.call c.in-Done.ensures.gives in omega (arith, r.few, c.requires.ends, c.in-Done.ensures.ends)) }

pub push_end-requires-clause-room : goal.push_end-requires-clause-room
push_end-requires-clause-room g c = (let r = retries _ _ _ _ c.requires.serves c.requires.may c.requires.next c.requires.held c.requires.call c.in-Done.ensures.gives in
    let told = ap (λ (ends : List EndOf). length ends) c.tell-in-Done.ensures.items in
    let more = length-append c.args.ended.now.items (drop c.ends-from.result (g.S.Store.content c.try_call.new.self).ended) in
    let left = length-drop c.ends-from.result (g.S.Store.content c.try_call.new.self).ended in
    omega (arith, r.begins, r.few, c.ends-from.ensures, c.requires.told, c.tell-in-Done.ensures.room))

pub returns-in-Done-clause-told : goal.returns-in-Done-clause-told
returns-in-Done-clause-told g c = λ _.
    (let r = retries _ _ _ _ c.requires.serves c.requires.may c.requires.next c.requires.held c.requires.call c.in-Done.ensures.gives in
    told-own (g.S.Store.content c.args.store.now) (g.S.Store.content c.try_call.new.self) (g.S.Store.content c.end.new.self) c.args.ready.client c.args.ready.number c.in-Done.reply c.args.ended.now.items c.tell-in-Done.new.ended.items c.push_end.new.self.items r.begins
    (rw (← c.copy_twice-kept.ensures.kept) c.end.ensures.content) (rw (← c.ends-from.ensures) c.tell-in-Done.ensures.items) (rw (← c.copy_twice-kept.ensures.given) c.push_end.ensures.items))

pub try_call-requires : goal.try_call-requires
try_call-requires g c = record {
  may = may-retry _ _ _ c.requires.serves c.requires.may c.requires.next c.requires.held c.requires.call c.requires.few;
  end_room = (let some = ready-pending (g.S.Store.content c.args.store.now) c.args.ready c.requires.next in omega (arith, c.requires.ends));
}

pub tell-requires-clause-bare : goal.tell-requires-clause-bare
tell-requires-clause-bare g c = (let r = retries _ _ _ _ c.requires.serves c.requires.may c.requires.next c.requires.held c.requires.call c.in-Hold.ensures.gives in rw c.ends-from.ensures r.replies.bare)

pub tell-requires-in-Done-clause-bare : goal.tell-requires-in-Done-clause-bare
tell-requires-in-Done-clause-bare g c = (let r = retries _ _ _ _ c.requires.serves c.requires.may c.requires.next c.requires.held c.requires.call c.in-Done.ensures.gives in rw c.ends-from.ensures r.replies.bare)

pub hold_anew-requires-clause-may : goal.hold_anew-requires-clause-may
hold_anew-requires-clause-may g c = (let r = retries _ _ _ _ c.requires.serves c.requires.may c.requires.next c.requires.held c.requires.call c.in-Hold.ensures.gives in r.anew)

pub copy_twice-kept-requires-clause-fits : goal.copy_twice-kept-requires-clause-fits
copy_twice-kept-requires-clause-fits g c = (let r = retries _ _ _ _ c.requires.serves c.requires.may c.requires.next c.requires.held c.requires.call c.in-Done.ensures.gives in r.replies.within)

pub returns-in-Hold-clause-serves : goal.returns-in-Hold-clause-serves
returns-in-Hold-clause-serves g c = λ _. (let r = retries _ _ _ _ c.requires.serves c.requires.may c.requires.next c.requires.held c.requires.call c.in-Hold.ensures.gives in rw c.hold_anew.ensures.content r.serves)

pub returns-in-Done-clause-serves : goal.returns-in-Done-clause-serves
returns-in-Done-clause-serves g c = λ _. (let r = retries _ _ _ _ c.requires.serves c.requires.may c.requires.next c.requires.held c.requires.call c.in-Done.ensures.gives in rw (c.end.ensures.content, c.copy_twice-kept.ensures.kept) r.serves)
