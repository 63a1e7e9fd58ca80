use Rattle.std.proofs.Common.{◌≡◌, ◌∙◌, ap, sym, Option, Some}
use Rattle.std.specs.Option.{option_map_or}
use Rattle.fsa_types.specs.OplockGrants.{after_answer}
use Rattle.fsa_types.specs.declared.request.Level.{Level}
use Rattle.oplock_state.specs.Tables.{Tabled}
use Rattle.volume_state.proofs.oplocks.answer.Goals as goal

pub returns-clause-rows : goal.returns-clause-rows
returns-clause-rows c =
    let old : Tabled = c.args.oplocks.now in
    let same : c.answer.result ≡ Some c.args.kept = c.answer.ensures.kept ∙ sym c.requires.kept in
    c.answer.ensures.rows
    ∙ ap (λ (kept : Option Level). record old { rows = option_map_or (λ level. after_answer c.args.handle level c.args.turn old.rows) kept old.rows; tables = c.answer.new.self.tables }) same
