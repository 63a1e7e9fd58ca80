use Rattle.std.proofs.Common.{ℕ, Bool, ◌∙◌, ap, sym, Option, Some}
use Rattle.std.specs.Prelude.{◌==◌, false, option_map}
use Rattle.std.specs.Option.{option_map_or}
use Rattle.fsa_machine.specs.Step.{ready_of}
use Rattle.fsa_machine.specs.declared.store.Report.{Report}
use Rattle.fsa_machine.proofs.ReadyLaws.{ready-none, ready-some, ready-there, turn_let_go, turns-read}
use Rattle.fsa_machine.proofs.stored.next_ready.Goals as goal

pub returns-in_default : goal.returns-in_default
returns-in_default c =
    let v = c.args.volume.now.content in
    let found = turns-read v _ _ _ _ _ c.next_held-let_go.ensures c.next_over-over.ensures.found c.next_due-due.ensures c.lesser-unheld.ensures c.in_default.ensures in
    sym (ap (option_map (ready_of v)) (ready-none v c.requires.serves c.next_over-over.ensures.sound.turns_differ c.requires.rightly found))

pub returns-in_default-pending : goal.returns-in_default-pending
returns-in_default-pending c =
    let v = c.args.volume.now.content in
    let found = turns-read v _ _ _ _ _ c.next_held-let_go.ensures c.next_over-over.ensures.found c.next_due-due.ensures c.lesser-unheld.ensures c.in-Some.ensures in
    absurd (ready-there v c.in-Some.turn c.requires.serves c.next_over-over.ensures.sound.turns_differ c.requires.rightly found (sym c.in_default-pending.ensures.row))

pub returns : goal.returns
returns c =
    let v = c.args.volume.now.content in
    let found = turns-read v _ _ _ _ _ c.next_held-let_go.ensures c.next_over-over.ensures.found c.next_due-due.ensures c.lesser-unheld.ensures c.in-Some.ensures in
    let held = c.is_turn.ensures ∙ ap (λ (let_go : Option ℕ). option_map_or (λ other. other == c.in-Some.turn) let_go false) c.next_held-let_go.ensures in
    ap (λ (held : Bool). Some (record { turn = c.in-Some.turn; client = c.in-Some-pending.call.now.client; number = c.in-Some-pending.call.now.number; held = held; report = c.report_to.result })) held
    ∙ ap (λ (report : Option Report). Some (record { turn = c.in-Some.turn; client = c.in-Some-pending.call.now.client; number = c.in-Some-pending.call.now.number; held = option_map_or (λ other. other == c.in-Some.turn) (turn_let_go v) false; report = report })) c.report_to.ensures
    ∙ sym (ready-some v c.in-Some.turn c.in-Some-pending.call.now c.requires.serves c.next_over-over.ensures.sound.turns_differ c.requires.rightly found (sym c.in-Some-pending.ensures.row))
