use Rattle.std.proofs.Common.{◌≡◌, List, ◌∙◌, ◌+◌, ◌++◌, ◌<◌, length, sym, ap, subst, arith, drop, get_or}
use Rattle.std.specs.Prelude.{fold}
use Rattle.std.proofs.lemmas.List.{append-nil, drop_all}
use Rattle.fsa_types.proofs.OplockLemmas.{IsCopy-effect}
use Rattle.fsa_types.specs.OplockLists.{OplockState, IsCopy, IsSoundOplock, after_effect, effect_on}
use Rattle.fsa_types.specs.Oplocks.{Oplock}
use Rattle.volume_breaks.proofs.BreakLemmas.{fold-more, fold-all}
use Rattle.volume_breaks.proofs.ToldLemmas.{told-more}
use Rattle.volume_breaks.specs.Oplocks.{OplocksView, state_of}
use Rattle.volume_breaks.specs.Told.{told_all}
use Rattle.volume_breaks.proofs.telling.break_oplocks.Goals as goal

pub break_one-requires-clause-room : goal.break_one-requires-clause-room
break_one-requires-clause-room c =
    let same = ap (λ (held : OplocksView). length held.chosen) c.loop-place.invariant.others in
    let quiet = ap (λ (held : OplocksView). length held.chosen) c.tell_nobody.ensures in
    let count = c.chosen_len-place-end.ensures in
    let few = c.loop-place.invariant.few in
    omega arith

pub break_one-requires-clause-sound : goal.break_one-requires-clause-sound
break_one-requires-clause-sound c =
    let chosen : List Oplock = c.args.oplocks.now.chosen in
    let same : c.loop-place.oplocks.chosen ≡ chosen = ap (λ (held : OplocksView). held.chosen) c.loop-place.invariant.others in
    let quiet = ap (λ (held : OplocksView). length held.chosen) c.tell_nobody.ensures in
    let count = c.chosen_len-place-end.ensures in
    let read : c.chosen_at-oplock.result ≡ get_or chosen c.loop-place.place c.chosen_at-oplock.result = rw same at c.chosen_at-oplock.ensures in
    subst IsSoundOplock (sym read) (c.requires.sound c.loop-place.place c.chosen_at-oplock.result (omega arith))

pub break_one-requires-clause-copy : goal.break_one-requires-clause-copy
break_one-requires-clause-copy c =
    let chosen : List Oplock = c.args.oplocks.now.chosen in
    let same : c.loop-place.oplocks.chosen ≡ chosen = ap (λ (held : OplocksView). held.chosen) c.loop-place.invariant.others in
    let quiet = ap (λ (held : OplocksView). length held.chosen) c.tell_nobody.ensures in
    let count = c.chosen_len-place-end.ensures in
    let read : c.chosen_at-oplock.result ≡ get_or chosen c.loop-place.place c.chosen_at-oplock.result = rw same at c.chosen_at-oplock.ensures in
    subst (IsCopy c.loop-place.oplocks.rows) (sym read) (c.loop-place.invariant.copies c.loop-place.place c.chosen_at-oplock.result (omega arith))

pub loop-place-preserved : goal.loop-place-preserved
loop-place-preserved c =
    let chosen : List Oplock = c.args.oplocks.now.chosen in
    let step : OplockState → Oplock → OplockState = λ now o. after_effect (effect_on c.args.class o) o.handle now in
    let same : c.loop-place.oplocks.chosen ≡ chosen = ap (λ (held : OplocksView). held.chosen) c.loop-place.invariant.others in
    let quiet = ap (λ (held : OplocksView). length held.chosen) c.tell_nobody.ensures in
    let count = c.chosen_len-place-end.ensures in
    let within : c.loop-place.place < length chosen = omega arith in
    let read : c.chosen_at-oplock.result ≡ get_or chosen c.loop-place.place c.chosen_at-oplock.result = rw same at c.chosen_at-oplock.ensures in
    record {
      oplocks = ap (λ now. fold step now (drop (c.loop-place.place + 1) chosen)) c.break_one.ensures.oplocks
          ∙ sym (fold-more step (state_of c.loop-place.oplocks) chosen c.loop-place.place c.chosen_at-oplock.result within read)
          ∙ c.loop-place.invariant.oplocks;
      others = c.break_one.ensures.others
          ∙ ap (λ (held : OplocksView). record held { rows = c.break_one.new.oplocks.rows; last = c.break_one.new.oplocks.last; told = c.break_one.new.oplocks.told }) c.loop-place.invariant.others;
      copies = λ k d within.
          subst (λ (held : OplockState). IsCopy held.oplocks (get_or chosen k d)) (sym c.break_one.ensures.oplocks)
          (IsCopy-effect (effect_on c.args.class c.chosen_at-oplock.result) c.chosen_at-oplock.result.handle (state_of c.loop-place.oplocks) (get_or chosen k d) (c.loop-place.invariant.copies k d within));
      numbers = (let one = c.break_one.ensures.numbers in let before = c.loop-place.invariant.numbers in omega arith);
      told = told-more c.args.class c.loop-place.oplocks.told c.break_one.new.oplocks.told chosen c.loop-place.place c.chosen_at-oplock.result within read c.break_one.ensures.told
          ∙ c.loop-place.invariant.told;
      few = (let one = c.break_one.ensures.few in let before = c.loop-place.invariant.few in omega arith);
    }

pub returns-clause-oplocks : goal.returns-clause-oplocks
returns-clause-oplocks c =
    let step : OplockState → Oplock → OplockState = λ now o. after_effect (effect_on c.args.class o) o.handle now in
    let quiet = ap (λ (held : OplocksView). length held.chosen) c.tell_nobody.ensures in
    let count = c.chosen_len-place-end.ensures in
    sym (fold-all step (state_of c.loop-place.oplocks) c.args.oplocks.now.chosen c.loop-place.place (omega arith)) ∙ c.loop-place.invariant.oplocks

pub returns-clause-told : goal.returns-clause-told
returns-clause-told c =
    let quiet = ap (λ (held : OplocksView). length held.chosen) c.tell_nobody.ensures in
    let count = c.chosen_len-place-end.ensures in
    sym (ap (λ (rest : List Oplock). c.loop-place.oplocks.told ++ told_all c.args.class rest) (drop_all c.loop-place.place c.args.oplocks.now.chosen (omega arith))
    ∙ append-nil c.loop-place.oplocks.told)
    ∙ c.loop-place.invariant.told
