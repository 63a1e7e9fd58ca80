use Rattle.std.proofs.Common.{◌∙◌, sym, ap, ◌<◌, length, take, get_or, arith}
use Rattle.std.specs.Option.{option_map}
use Rattle.std.proofs.lemmas.List.{get_or_default}
use Rattle.fsa_types.proofs.CaseTableLemmas.{AreMarks-set, fault_from-more, fault_from-here, fault_from-all}
use Rattle.fsa_types.proofs.case.check_pairs.Goals as goal

pub returns-then-is_at_fault-clause-err : goal.returns-then-is_at_fault-clause-err
returns-then-is_at_fault-clause-err c =
    let pair = get_or c.args.pairs.now c.loop-place.place (0, 0) in
    let within : c.loop-place.place < length c.args.pairs.now = omega arith in
    let fault =
    c.is_at_fault.ensures (take c.loop-place.place c.args.pairs.now) (rw c.deref.ensures.value c.loop-place.invariant.sources)
    (rw c.deref-in-loop-place.ensures.value c.loop-place.invariant.targets) in
    ap (option_map (λ entry. entry.0))
    (sym c.loop-place.invariant.sound
    ∙ fault_from-here c.args.pairs.now c.loop-place.place pair within (get_or_default _ _ _ _ within) (sym fault ∙ c.if-is_at_fault.true))

pub loop-place-preserved : goal.loop-place-preserved
loop-place-preserved c =
    let pair = get_or c.args.pairs.now c.loop-place.place (0, 0) in
    let within : c.loop-place.place < length c.args.pairs.now = omega arith in
    let fault =
    c.is_at_fault.ensures (take c.loop-place.place c.args.pairs.now) (rw c.deref.ensures.value c.loop-place.invariant.sources)
    (rw c.deref-in-loop-place.ensures.value c.loop-place.invariant.targets) in
    record {
      sources = AreMarks-set (λ p. p.0) _ _ pair _ within (get_or_default _ _ _ _ within) (omega arith) c.loop-place.invariant.sources;
      targets = AreMarks-set (λ p. p.1) _ _ pair _ within (get_or_default _ _ _ _ within) (omega arith) c.loop-place.invariant.targets;
      sound =
          fault_from-more c.args.pairs.now c.loop-place.place pair within (get_or_default _ _ _ _ within) (sym fault ∙ c.if-is_at_fault.false)
          ∙ c.loop-place.invariant.sound;
    }

pub returns-clause-ok : goal.returns-clause-ok
returns-clause-ok c =
    ap (option_map (λ entry. entry.0)) (sym c.loop-place.invariant.sound ∙ fault_from-all c.args.pairs.now c.loop-place.place (omega arith))
