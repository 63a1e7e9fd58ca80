use Rattle.std.proofs.Common.{List, length, map, ap, sym, ◌∙◌}
use Rattle.std.proofs.lemmas.List.{length-map}
use Rattle.fsa_machine.specs.Kept.{kept_entry, out_kept}
use Rattle.fsa_machine.specs.declared.kept.KeptTurn.{KeptTurn}
use Rattle.fsa_machine.proofs.ReleasedLaws.{tries-released}
use Rattle.fsa_machine.proofs.StandLaws.{asks-turn, is-shorter, RunsTo-next}
use Rattle.fsa_machine.proofs.machine.turn_of.Goals as goal

pub keep_trimmed-requires-clause-may_try : goal.keep_trimmed-requires-clause-may_try
keep_trimmed-requires-clause-may_try g c = (let asks = asks-turn _ _ _ _ c.args.call c.requires.stands c.requires.asked c.requires.number in asks.may_try)

pub keep_trimmed-requires-clause-may : goal.keep_trimmed-requires-clause-may
keep_trimmed-requires-clause-may g c = (let asks = asks-turn _ _ _ _ c.args.call c.requires.stands c.requires.asked c.requires.number in asks.may)

pub keep_trimmed-requires-clause-new : goal.keep_trimmed-requires-clause-new
keep_trimmed-requires-clause-new g c = (let asks = asks-turn _ _ _ _ c.args.call c.requires.stands c.requires.asked c.requires.number in asks.new)

pub returns-in-Ok-clause-stands : goal.returns-in-Ok-clause-stands
returns-in-Ok-clause-stands g c =
    RunsTo-next (map kept_entry c.args.kept.now.items) (map kept_entry c.keep_trimmed.new.kept.items) (map out_kept c.args.kept.now.items) (map out_kept c.keep_trimmed.new.kept.items) (g.S.Store.content c.args.store.now) (g.S.Store.content c.keep_trimmed.new.store) c.args.call c.in-Ok.out.starved.items _
    c.requires.stands (is-shorter (length c.as_slice.result.now) (map kept_entry c.args.kept.now.items) c.requires.stands.few (length-map c.args.kept.now.items kept_entry ∙ sym (ap (λ (items : List KeptTurn). length items) c.as_slice.ensures.value)) c.if-as_slice-eq-MOST_ENTRIES.false) c.requires.number c.in-Ok.ensures.serves c.in-Ok.ensures.turn c.in-Ok.ensures.entries c.in-Ok.ensures.outs

pub returns-in-Ok-clause-tries : goal.returns-in-Ok-clause-tries
returns-in-Ok-clause-tries g c = tries-released _ _ _ _ c.args.call _ _ c.requires.stands c.requires.asked c.requires.number c.keep_trimmed.ensures.tries

pub returns-in-Err-clause-tries : goal.returns-in-Err-clause-tries
returns-in-Err-clause-tries g c = tries-released _ _ _ _ c.args.call _ _ c.requires.stands c.requires.asked c.requires.number c.keep_trimmed.ensures.tries
