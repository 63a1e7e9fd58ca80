use Rattle.std.proofs.Common.{sym, arith}
use Rattle.std.proofs.lemmas.Option.{slice_get_within}
use Rattle.fsa_machine.proofs.TellLaws.{Tells-step, Tells-bare, Tells-done, past-end}
use Rattle.fsa_machine.proofs.ends.tell.Goals as goal

pub bare_twice-given-requires : goal.bare_twice-given-requires
bare_twice-given-requires g c = record { bare = Tells-bare _ _ _ _ _ c.in-Some.end.now c.ends.invariant (sym c.in-Some.ensures) }

pub push-requires-clause-room : goal.push-requires-clause-room
push-requires-clause-room g c = (let inside = slice_get_within (g.S.Store.content c.args.store.now).ended c.ends.place c.in-Some.end.now (sym c.in-Some.ensures) in let left = c.ends.invariant.left in omega arith)

pub overflow_add-place : goal.overflow_add-place
overflow_add-place g c = (let inside = slice_get_within (g.S.Store.content c.args.store.now).ended c.ends.place c.in-Some.end.now (sym c.in-Some.ensures) in omega (arith, c.requires.few))

pub ends-smaller : goal.ends-smaller
ends-smaller g c = (let inside = slice_get_within (g.S.Store.content c.args.store.now).ended c.ends.place c.in-Some.end.now (sym c.in-Some.ensures) in omega arith)

pub ends-preserved : goal.ends-preserved
ends-preserved g c = Tells-step _ _ _ _ _ _ c.in-Some.end.now c.ends.invariant (sym c.in-Some.ensures) (rw (← c.bare_twice-given.ensures.given) c.push.ensures.items) c.push.ensures.room

pub returns-clause-items : goal.returns-clause-items
returns-clause-items g c = Tells-done _ _ c.ends.place _ _ c.ends.invariant (past-end (g.S.Store.content c.args.store.now).ended c.ends.place (sym c.in_default.ensures))
