use Rattle.std.proofs.Common.{refl, ◌∙◌, sym}
use Rattle.volume_breaks.proofs.CallLemmas.{call-gone, call-unfound}
use Rattle.volume_breaks.proofs.pending_calls.PendingCalls.end.Goals as goal

pub returns-in-Some-clause-items : goal.returns-in-Some-clause-items
returns-in-Some-clause-items c =
    rw (call-gone c.args.self.now.items c.args.client c.args.number c.in-Some.turn c.find_turn.ensures.calls (sym c.find_turn.ensures.found ∙ c.in-Some.is)) c.end_under.ensures.items

pub returns-in_default-clause-items : goal.returns-in_default-clause-items
returns-in_default-clause-items c =
    rw (call-unfound c.args.self.now.items c.args.client c.args.number (sym c.find_turn.ensures.found ∙ c.in_default.is)) refl
