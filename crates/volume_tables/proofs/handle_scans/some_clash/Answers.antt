use Rattle.std.proofs.Common.{◌<◌, ◌≤◌, arith, length, sym, ◌∙◌}
use Rattle.std.specs.Prelude.{Bool, ◌&&◌}
use Rattle.fsa_types.specs.Sharing.{clash}
use Rattle.fsa_model.specs.Lookups.{is_one_of}
use Rattle.fsa_model.specs.Volume.{Handle}
use Rattle.volume_tables.proofs.EntryLemmas.{any-end, any-next}
use Rattle.volume_tables.proofs.handle_scans.some_clash.Goals as goal

pub returns-then-clashes_in : goal.returns-then-clashes_in
returns-then-clashes_in c =
    let test : Handle → Bool = λ handle. is_one_of c.args.links.now.rows c.args.on handle && clash c.args.access c.args.share handle.access handle.share in
    let within : c.loop-place.place < length c.args.table.now.rows = omega (arith, c.len-place-end.ensures.count, c.loop-place-test.true) in
    sym (rw (sym c.clashes_in.ensures ∙ c.if-clashes_in.true) at (any-next test c.args.table.now.rows c.loop-place.place within)) ∙ c.loop-place.invariant

pub loop-place-preserved : goal.loop-place-preserved
loop-place-preserved c =
    let test : Handle → Bool = λ handle. is_one_of c.args.links.now.rows c.args.on handle && clash c.args.access c.args.share handle.access handle.share in
    let within : c.loop-place.place < length c.args.table.now.rows = omega (arith, c.len-place-end.ensures.count, c.loop-place-test.true) in
    sym (rw (sym c.clashes_in.ensures ∙ c.if-clashes_in.false) at (any-next test c.args.table.now.rows c.loop-place.place within)) ∙ c.loop-place.invariant

pub returns : goal.returns
returns c =
    let test : Handle → Bool = λ handle. is_one_of c.args.links.now.rows c.args.on handle && clash c.args.access c.args.share handle.access handle.share in
    let past : length c.args.table.now.rows ≤ c.loop-place.place = omega (arith, c.len-place-end.ensures.count, c.loop-place-test.false) in
    sym (any-end test c.args.table.now.rows c.loop-place.place past) ∙ c.loop-place.invariant
