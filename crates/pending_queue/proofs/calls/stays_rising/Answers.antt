use Rattle.std.proofs.Common.{◌≡◌, ◌∙◌, Some, rules, sym, true}
use Rattle.std.specs.List.{position}
use Rattle.std.specs.Prelude.{◌==◌}
use Rattle.std.proofs.lemmas.Bool.{false≢true}
use Rattle.fsa_types.specs.Rows.{lives}
use Rattle.fsa_types.proofs.RowLemmas.{IsAt-position}
use Rattle.pending_queue.proofs.CountLemmas.{lives-at, rise-put}
use Rattle.pending_queue.proofs.calls.stays_rising.Goals as goal

pub returns-then-is_behind : goal.returns-then-is_behind
returns-then-is_behind c count is =
    let rose : c.args.rising ≡ true = search rules in
    rise-put c.args.calls.now c.args.turn count (c.requires.rising rose) (λ _. c.is_behind.ensures c.if-is_behind.true)

pub returns-in-Some : goal.returns-in-Some
returns-in-Some c count is =
    let calls = c.args.calls.now in
    let found : position (λ e. e.0 == c.args.turn) calls ≡ Some c.in-Some.field-0 = sym c.find_call.ensures.place ∙ c.in-Some.is in
    let at = IsAt-position calls c.args.turn c.in-Some.field-0 (0, 0) found in
    let there : lives calls c.args.turn ≡ true = lives-at calls c.args.turn c.in-Some.field-0 (0, 0) at.within (at.here (0, 0)) in
    let rose : c.args.rising ≡ true = search rules in
    rise-put calls c.args.turn count (c.requires.rising rose) (λ none. absurd (false≢true (sym none ∙ there)))
