use Rattle.std.proofs.Common.{◌∙◌, List, ap, refl, subst, sym}
use Rattle.std.specs.Prelude.{option_map}
use Rattle.fsa_types.specs.OplockGrants.{after_answer, target_among}
use Rattle.fsa_types.specs.Oplocks.{Oplock, in_both}
use Rattle.fsa_types.specs.declared.request.Level.{Level}
use Rattle.oplock_state.specs.Tables.{AreSorted, IsStep, last_at, rows_at}
use Rattle.oplock_state.proofs.SortLemmas.{kept-rows, local-answer, sorted-local, target-at, target-homeless}
use Rattle.oplock_state.proofs.oplock_table.OplockTable.answer.Goals as goal

pub returns-in_default-clause-kept : goal.returns-in_default-clause-kept
returns-in_default-clause-kept c =
    let none = target-homeless c.args.handles.now.rows c.args.self.now.rows c.args.handle (sym c.home_of_handle.ensures ∙ c.in_default.is) c.requires.sorted.homes in
    rw none refl

pub returns-in_default-ack-clause-kept : goal.returns-in_default-ack-clause-kept
returns-in_default-ack-clause-kept c =
    let i = c.self.inside in
    let handles = c.args.handles.now.rows in
    let sorted : AreSorted handles i.list.rows i.tables = rw (← c.self.view_is) at c.requires.sorted in
    let found = sym c.home_of_handle.ensures ∙ c.in-Some.is in
    let same = target-at handles i.list.rows i.tables c.args.handle c.in-Some.home found sorted in
    rw (← c.self.view_is) (sym c.in_default-ack.is ∙ c.ack.ensures.kept ∙ ap (option_map (λ (target : Level). in_both c.args.level target)) same)

pub returns-clause-kept : goal.returns-clause-kept
returns-clause-kept c =
    let i = c.self.inside in
    let handles = c.args.handles.now.rows in
    let sorted : AreSorted handles i.list.rows i.tables = rw (← c.self.view_is) at c.requires.sorted in
    let found = sym c.home_of_handle.ensures ∙ c.in-Some.is in
    let same = target-at handles i.list.rows i.tables c.args.handle c.in-Some.home found sorted in
    rw (← c.self.view_is) (sym c.in-Some-ack.is ∙ c.ack.ensures.kept ∙ ap (option_map (λ (target : Level). in_both c.args.level target)) same)

pub returns-clause-sorted : goal.returns-clause-sorted
returns-clause-sorted c =
    let i = c.self.inside in
    let handles = c.args.handles.now.rows in
    let sorted : AreSorted handles i.list.rows i.tables = rw (← c.self.view_is) at c.requires.sorted in
    let found = sym c.home_of_handle.ensures ∙ c.in-Some.is in
    let home = c.in-Some.home in
    let kept = c.in-Some-ack.kept in
    let rows = kept-rows c.args.level kept (λ level. after_answer c.args.handle level c.args.turn (rows_at i.tables home)) (rows_at i.tables home) (target_among c.args.handle (rows_at i.tables home))
    (sym c.in-Some-ack.is ∙ c.ack.ensures.kept) in
    let step = subst (λ (left : List Oplock). IsStep i.tables c.ack.new.self home left (last_at i.tables home) 0) rows c.ack.ensures.step in
    rw c.answer.ensures
    (sorted-local handles i.list.rows i.tables c.ack.new.self c.args.handle home (last_at i.tables home) 0 (after_answer c.args.handle kept c.args.turn) (local-answer c.args.handle kept c.args.turn) found sorted step)
