use Rattle.std.proofs.Common.{refl, arith}
use Rattle.fsa_machine.proofs.SpareLaws.{still-spare}
use Rattle.fsa_machine.proofs.TrimLaws.{refused-stays}
use Rattle.fsa_machine.proofs.trimming.keep_trimmed.Goals as goal

pub returns-clause-turn : goal.returns-clause-turn
returns-clause-turn g c = rw c.trim.ensures.content c.keep_turn-turned.ensures.turn

pub returns-clause-serves : goal.returns-clause-serves
returns-clause-serves g c = rw c.trim.ensures.content c.keep_turn-turned.ensures.serves

pub returns-clause-spare : goal.returns-clause-spare
returns-clause-spare g c = still-spare _ _ _ _ _ _ _ _ _ _ _ _ c.keep_turn-turned.ensures.spare c.trim.ensures.content c.trim.ensures.ends c.trim.ensures.pending refl (omega arith) refl

pub returns-clause-err : goal.returns-clause-err
returns-clause-err g c =
    refused-stays c.keep_turn-turned.result c.args.call (g.S.Store.content c.args.store.now) (g.S.Store.content c.keep_turn-turned.new.store) (g.S.Store.content c.trim.new.self)
    (g.S.Store.log_base c.args.store.now) (g.S.Store.log_base c.trim.new.self) c.args.kept.now.items c.keep_turn-turned.new.kept.items c.args.spare.now c.keep_turn-turned.new.spare
    c.keep_turn-turned.ensures.err c.trim.ensures.content c.requires.trimmed c.trim.ensures.trimmed
