use Rattle.std.proofs.Common.{◌≡◌, true, map, sym, subst}
use Rattle.std.specs.List.{list_any}
use Rattle.fsa_model.specs.Engine.{is_entry_of}
use Rattle.fsa_machine.specs.Kept.{kept_entry, out_kept}
use Rattle.fsa_machine.specs.MachineView.{MachineView, setup_in}
use Rattle.fsa_machine.proofs.StandLaws.{few-ended, looked-none, looked-pending, looked-reply}
use Rattle.fsa_machine.proofs.machine.StoreMachine.reply_of.Goals as goal

pub reply_from-requires : goal.reply_from-requires
reply_from-requires g c = record { few = few-ended (setup_in (g.S.Store.content c.self.inside.store)) (map kept_entry c.self.inside.kept.items) (map out_kept c.self.inside.kept.items) (g.S.Store.content c.self.inside.store) c.self.invariant.0 }

pub returns-clause-reply : goal.returns-clause-reply
returns-clause-reply g c = rw (← c.self.view_is) (looked-reply (setup_in (g.S.Store.content c.self.inside.store)) (map kept_entry c.self.inside.kept.items) (map out_kept c.self.inside.kept.items) (g.S.Store.content c.self.inside.store) c.args.client c.args.number c.reply_from.result c.self.invariant.0 c.reply_from.ensures.reply)

pub returns-clause-pending : goal.returns-clause-pending
returns-clause-pending g c = rw (← c.self.view_is) (looked-pending (setup_in (g.S.Store.content c.self.inside.store)) (map kept_entry c.self.inside.kept.items) (map out_kept c.self.inside.kept.items) (g.S.Store.content c.self.inside.store) c.args.client c.args.number c.reply_from.result c.self.invariant.0
    (subst (λ (seen : MachineView). list_any (is_entry_of c.args.client c.args.number) seen.entries ≡ true) (sym c.self.view_is) c.requires.made) c.reply_from.ensures.reply)

pub returns-clause-no_memory : goal.returns-clause-no_memory
returns-clause-no_memory g c = rw (← c.self.view_is) (looked-none (setup_in (g.S.Store.content c.self.inside.store)) (map kept_entry c.self.inside.kept.items) (map out_kept c.self.inside.kept.items) (g.S.Store.content c.self.inside.store) c.args.client c.args.number c.reply_from.result c.self.invariant.0 c.reply_from.ensures.no_memory)
