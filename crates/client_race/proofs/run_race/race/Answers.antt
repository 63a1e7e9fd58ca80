use Rattle.std.proofs.Common.{◌<◌, All, IsSome, length, arith, subst}
use Rattle.fsa_model.specs.History.{run}
use Rattle.shared_volume.specs.Shared.{setup_at}
use Rattle.shared_volume.proofs.HistoryLaws.{numbered-differ}
use Rattle.script_read.specs.ScriptView.{contents}
use Rattle.client_race.proofs.Facing.{some_at}
use Rattle.client_race.proofs.RaceLaws.{made-at, whole}
use Rattle.client_race.proofs.run_race.race.Goals as goal

pub returns-clause-whole : goal.returns-clause-whole
returns-clause-whole g c =
    let e = c.in_ok-volume.ensures in
    whole (contents c.args.script.now) (setup_at c.in_ok-volume.volume) c.close.result.entries e.setup
    (subst (λ s. IsSome (run s c.close.result.entries)) c.close.ensures.setup c.close.ensures.history.runs)
    (subst (λ s. All (λ entry. entry.call.client < length s.clients) c.close.result.entries) e.setup c.close.ensures.no_others)
    (λ client within.
    let a = c.in_ok-volume.passes.ok.0 in let b = e.one_each in
    let p = some_at c.in_ok-volume.passes.items client (omega arith) in
    made-at (contents c.args.script.now) (setup_at c.in_ok-volume.volume) c.close.result.entries client p.0.seat.me.0.own p.0.own_calls (e.passes client p.0 p.1).1 (e.made client p.0 p.1) (e.orderly client p.0 p.1) (c.close.ensures.each client p.0 p.1))

pub returns-clause-differ : goal.returns-clause-differ
returns-clause-differ g c = numbered-differ c.close.result.entries c.close.ensures.history.numbered
