use Rattle.history_lock.proofs.Joining.{ends_some, ends_none}
use Rattle.history_lock.proofs.close.finish.Goals as goal

pub unreachable-requires : goal.unreachable-requires
unreachable-requires g c = let m = g.M.Machine in let s = c.args.seat in
    ends_none m.base m.list m.call_of m.client_of m.stands _ _ _ s.me.0 _ _ c.close_with-closed.ensures.values.2 c.requires.rests.0 c.requires.rests.1 c.requires.all c.requires.made _ c.take-slot.ensures.value c.in_default.is

pub returns-clause-base : goal.returns-clause-base
returns-clause-base g c = let m = g.M.Machine in let s = c.args.seat in
    (ends_some m.base m.list m.call_of m.client_of m.stands _ _ _ s.me.0 _ _ c.close_with-closed.ensures.values.2 c.requires.rests.0 c.requires.rests.1 c.requires.all c.requires.made _ c.in-Some.machine c.take-slot.ensures.value c.in-Some.is).0

pub returns-clause-seen : goal.returns-clause-seen
returns-clause-seen g c = let m = g.M.Machine in let s = c.args.seat in
    (ends_some m.base m.list m.call_of m.client_of m.stands _ _ _ s.me.0 _ _ c.close_with-closed.ensures.values.2 c.requires.rests.0 c.requires.rests.1 c.requires.all c.requires.made _ c.in-Some.machine c.take-slot.ensures.value c.in-Some.is).1

pub returns-clause-no_others : goal.returns-clause-no_others
returns-clause-no_others g c = let m = g.M.Machine in let s = c.args.seat in
    (ends_some m.base m.list m.call_of m.client_of m.stands _ _ _ s.me.0 _ _ c.close_with-closed.ensures.values.2 c.requires.rests.0 c.requires.rests.1 c.requires.all c.requires.made _ c.in-Some.machine c.take-slot.ensures.value c.in-Some.is).2
