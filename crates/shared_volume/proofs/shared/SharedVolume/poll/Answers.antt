use Rattle.std.proofs.Common.{◌≡◌, ◌≤◌, true, length, ap, sym, subst, ◌∙◌}
use Rattle.std.specs.List.{list_any}
use Rattle.fsa_model.specs.Engine.{is_entry_of}
use Rattle.shared_volume.proofs.HistoryLaws.{made-call, length-mine}
use Rattle.shared_volume.proofs.shared.SharedVolume.poll.Goals as goal

pub try_look-requires-clause-may : goal.try_look-requires-clause-may
try_look-requires-clause-may c = let pass = c.args.pass.now in let v = pass.seat.me.0 in
    subst (λ client. list_any (is_entry_of client c.args.number) v.own.seen ≡ true) (sym c.client.ensures)
    (made-call v.own.seen v.own.client c.args.number c.requires.pass.5.numbered c.requires.made.0 (subst (λ count. c.args.number ≤ count) (ap length pass.own_calls ∙ length-mine v.own.client v.own.seen) c.requires.made.1))
