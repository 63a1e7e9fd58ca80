use Rattle.std.proofs.Common.{List, length, ap, ◌+◌, arith}
use Rattle.fsa_types.specs.declared.reply.Blocker.{Blocker}
use Rattle.fsa_machine.proofs.StallLaws.{own-tries}
use Rattle.fsa_machine.proofs.own_call.answer_own.Goals as goal

pub own_ends-requires-clause-few : goal.own_ends-requires-clause-few
own_ends-requires-clause-few g c = (let own = own-tries (g.S.Store.content c.args.store.now) c.args.call (c.pending_calls.result + c.ends-from.result + 1) _ c.requires.serves c.requires.may_try c.requires.may c.requires.new c.in-Done.ensures.gives (omega (arith, c.pending_calls.ensures, c.ends-from.ensures)) in omega (arith, own.begins, own.few, c.ends-from.ensures, c.requires.few))

pub own_ends-requires-clause-within : goal.own_ends-requires-clause-within
own_ends-requires-clause-within g c = (let own = own-tries (g.S.Store.content c.args.store.now) c.args.call (c.pending_calls.result + c.ends-from.result + 1) _ c.requires.serves c.requires.may_try c.requires.may c.requires.new c.in-Done.ensures.gives (omega (arith, c.pending_calls.ensures, c.ends-from.ensures)) in omega (arith, own.begins, own.few, c.ends-from.ensures, c.requires.few))

pub own_ends-requires-clause-told : goal.own_ends-requires-clause-told
own_ends-requires-clause-told g c = (let own = own-tries (g.S.Store.content c.args.store.now) c.args.call (c.pending_calls.result + c.ends-from.result + 1) _ c.requires.serves c.requires.may_try c.requires.may c.requires.new c.in-Done.ensures.gives (omega (arith, c.pending_calls.ensures, c.ends-from.ensures)) in omega (arith, own.begins, own.few, c.ends-from.ensures, c.requires.told))

pub own_ends-requires-clause-ends : goal.own_ends-requires-clause-ends
own_ends-requires-clause-ends g c = (let own = own-tries (g.S.Store.content c.args.store.now) c.args.call (c.pending_calls.result + c.ends-from.result + 1) _ c.requires.serves c.requires.may_try c.requires.may c.requires.new c.in-Done.ensures.gives (omega (arith, c.pending_calls.ensures, c.ends-from.ensures)) in omega (arith, own.begins, own.few, c.ends-from.ensures, c.requires.ends, c.in-Done.ensures.ends))

pub own_ends-requires-clause-bare : goal.own_ends-requires-clause-bare
own_ends-requires-clause-bare g c = (let own = own-tries (g.S.Store.content c.args.store.now) c.args.call (c.pending_calls.result + c.ends-from.result + 1) _ c.requires.serves c.requires.may_try c.requires.may c.requires.new c.in-Done.ensures.gives (omega (arith, c.pending_calls.ensures, c.ends-from.ensures)) in rw c.ends-from.ensures own.replies.bare)

pub own_ends-requires-clause-fits : goal.own_ends-requires-clause-fits
own_ends-requires-clause-fits g c = (let own = own-tries (g.S.Store.content c.args.store.now) c.args.call (c.pending_calls.result + c.ends-from.result + 1) _ c.requires.serves c.requires.may_try c.requires.may c.requires.new c.in-Done.ensures.gives (omega (arith, c.pending_calls.ensures, c.ends-from.ensures)) in own.replies.within)

pub own_pends-requires-clause-few : goal.own_pends-requires-clause-few
own_pends-requires-clause-few g c = (let own = own-tries (g.S.Store.content c.args.store.now) c.args.call (c.pending_calls.result + c.ends-from.result + 1) _ c.requires.serves c.requires.may_try c.requires.may c.requires.new c.in-Stay.ensures.gives (omega (arith, c.pending_calls.ensures, c.ends-from.ensures)) in omega (arith, own.begins, own.few, c.ends-from.ensures, c.requires.few))

pub own_pends-requires-clause-within : goal.own_pends-requires-clause-within
own_pends-requires-clause-within g c = (let own = own-tries (g.S.Store.content c.args.store.now) c.args.call (c.pending_calls.result + c.ends-from.result + 1) _ c.requires.serves c.requires.may_try c.requires.may c.requires.new c.in-Stay.ensures.gives (omega (arith, c.pending_calls.ensures, c.ends-from.ensures)) in omega (arith, own.begins, own.few, c.ends-from.ensures, c.requires.few))

pub own_pends-requires-clause-told : goal.own_pends-requires-clause-told
own_pends-requires-clause-told g c = (let own = own-tries (g.S.Store.content c.args.store.now) c.args.call (c.pending_calls.result + c.ends-from.result + 1) _ c.requires.serves c.requires.may_try c.requires.may c.requires.new c.in-Stay.ensures.gives (omega (arith, c.pending_calls.ensures, c.ends-from.ensures)) in omega (arith, own.begins, own.few, c.ends-from.ensures, c.requires.told))

pub own_pends-requires-clause-bare : goal.own_pends-requires-clause-bare
own_pends-requires-clause-bare g c = (let own = own-tries (g.S.Store.content c.args.store.now) c.args.call (c.pending_calls.result + c.ends-from.result + 1) _ c.requires.serves c.requires.may_try c.requires.may c.requires.new c.in-Stay.ensures.gives (omega (arith, c.pending_calls.ensures, c.ends-from.ensures)) in rw c.ends-from.ensures own.replies.bare)

pub own_pends-requires-clause-may : goal.own_pends-requires-clause-may
own_pends-requires-clause-may g c = (let own = own-tries (g.S.Store.content c.args.store.now) c.args.call (c.pending_calls.result + c.ends-from.result + 1) _ c.requires.serves c.requires.may_try c.requires.may c.requires.new c.in-Stay.ensures.gives (omega (arith, c.pending_calls.ensures, c.ends-from.ensures)) in rw c.requires.none own.pends)

pub own_pends-requires-clause-blockers : goal.own_pends-requires-clause-blockers
own_pends-requires-clause-blockers g c = (let empty = ap (λ (items : List Blocker). length items) c.requires.none in omega arith)

pub own_pends-requires-in-Hold-clause-few : goal.own_pends-requires-in-Hold-clause-few
own_pends-requires-in-Hold-clause-few g c = (let own = own-tries (g.S.Store.content c.args.store.now) c.args.call (c.pending_calls.result + c.ends-from.result + 1) _ c.requires.serves c.requires.may_try c.requires.may c.requires.new c.in-Hold.ensures.gives (omega (arith, c.pending_calls.ensures, c.ends-from.ensures)) in omega (arith, own.begins, own.few, c.ends-from.ensures, c.requires.few))

pub own_pends-requires-in-Hold-clause-within : goal.own_pends-requires-in-Hold-clause-within
own_pends-requires-in-Hold-clause-within g c = (let own = own-tries (g.S.Store.content c.args.store.now) c.args.call (c.pending_calls.result + c.ends-from.result + 1) _ c.requires.serves c.requires.may_try c.requires.may c.requires.new c.in-Hold.ensures.gives (omega (arith, c.pending_calls.ensures, c.ends-from.ensures)) in omega (arith, own.begins, own.few, c.ends-from.ensures, c.requires.few))

pub own_pends-requires-in-Hold-clause-told : goal.own_pends-requires-in-Hold-clause-told
own_pends-requires-in-Hold-clause-told g c = (let own = own-tries (g.S.Store.content c.args.store.now) c.args.call (c.pending_calls.result + c.ends-from.result + 1) _ c.requires.serves c.requires.may_try c.requires.may c.requires.new c.in-Hold.ensures.gives (omega (arith, c.pending_calls.ensures, c.ends-from.ensures)) in omega (arith, own.begins, own.few, c.ends-from.ensures, c.requires.told))

pub own_pends-requires-in-Hold-clause-bare : goal.own_pends-requires-in-Hold-clause-bare
own_pends-requires-in-Hold-clause-bare g c = (let own = own-tries (g.S.Store.content c.args.store.now) c.args.call (c.pending_calls.result + c.ends-from.result + 1) _ c.requires.serves c.requires.may_try c.requires.may c.requires.new c.in-Hold.ensures.gives (omega (arith, c.pending_calls.ensures, c.ends-from.ensures)) in rw c.ends-from.ensures own.replies.bare)

pub own_pends-requires-in-Hold-clause-may : goal.own_pends-requires-in-Hold-clause-may
own_pends-requires-in-Hold-clause-may g c = (let own = own-tries (g.S.Store.content c.args.store.now) c.args.call (c.pending_calls.result + c.ends-from.result + 1) _ c.requires.serves c.requires.may_try c.requires.may c.requires.new c.in-Hold.ensures.gives (omega (arith, c.pending_calls.ensures, c.ends-from.ensures)) in own.pends)
