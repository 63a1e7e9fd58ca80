use Rattle.std.proofs.Common.{◌≡◌, List, ◌∙◌, ◌+◌, ◌<◌, length, sym, ap, arith, drop, get_or}
use Rattle.std.specs.Prelude.{fold}
use Rattle.fsa_types.specs.OplockLists.{without_oplock_of}
use Rattle.fsa_types.specs.Oplocks.{Oplock}
use Rattle.volume_breaks.proofs.BreakLemmas.{fold-more, fold-all}
use Rattle.volume_breaks.specs.Oplocks.{OplocksView}
use Rattle.volume_breaks.proofs.granting.drop_chosen.Goals as goal

pub loop-place-preserved : goal.loop-place-preserved
loop-place-preserved c =
    let chosen : List Oplock = c.args.oplocks.now.chosen in
    let oplock : Oplock = c.chosen_at-oplock.result in
    let step : List Oplock → Oplock → List Oplock = λ now o. without_oplock_of o.handle now in
    let same : c.loop-place.oplocks.chosen ≡ chosen = ap (λ (held : OplocksView). held.chosen) c.loop-place.invariant.others in
    let count = c.chosen_len-place-end.ensures in
    let within : c.loop-place.place < length chosen = omega arith in
    let read : oplock ≡ get_or chosen c.loop-place.place oplock = rw same at c.chosen_at-oplock.ensures in
    let whole = c.drop_one.ensures in
    let rows : c.drop_one.new.oplocks.rows ≡ without_oplock_of oplock.handle c.loop-place.oplocks.rows = ap (λ (held : OplocksView). held.rows) whole in
    record {
      rows = ap (λ (oplocks : List Oplock). fold step oplocks (drop (c.loop-place.place + 1) chosen)) rows
          ∙ sym (fold-more step c.loop-place.oplocks.rows chosen c.loop-place.place oplock within read)
          ∙ c.loop-place.invariant.rows;
      others = whole
          ∙ ap (λ (held : OplocksView). record held { rows = without_oplock_of oplock.handle c.loop-place.oplocks.rows }) c.loop-place.invariant.others
          ∙ ap (λ (oplocks : List Oplock). record c.args.oplocks.now { rows = oplocks }) (sym rows);
    }

pub returns : goal.returns
returns c =
    let step : List Oplock → Oplock → List Oplock = λ now o. without_oplock_of o.handle now in
    let count = c.chosen_len-place-end.ensures in
    let all = sym (fold-all step c.loop-place.oplocks.rows c.args.oplocks.now.chosen c.loop-place.place (omega arith)) ∙ c.loop-place.invariant.rows in
    c.loop-place.invariant.others ∙ ap (λ (oplocks : List Oplock). record c.args.oplocks.now { rows = oplocks }) all
