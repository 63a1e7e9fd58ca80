use Rattle.std.proofs.Common.{ℕ, List, ◌∙◌, length, ap, sym, arith}
use Rattle.std.specs.Prelude.{filter, fold}
use Rattle.fsa_types.specs.OplockLists.{OplockState, after_breaks}
use Rattle.fsa_model.specs.Volume.{Oplock, Volume}
use Rattle.volume_breaks.specs.Breaks.{with_held, with_holder_told}
use Rattle.volume_breaks.specs.Told.{has_call, told_all}
use Rattle.volume_breaks.specs.declared.telling.Told.{Told}
use Rattle.volume_breaks.proofs.ToldLemmas.{breaks-apart, told-count}
use Rattle.volume_state.proofs.oplocks.break_chosen.Goals as goal

pub end_told-requires : goal.end_told-requires
end_told-requires c =
    let count = told-count c.args.class c.args.oplocks.now.chosen in
    let told = ap (λ (told : List Told). length (filter has_call told)) (c.told.ensures ∙ c.begin.ensures.told) in
    let room = c.requires.room in
    omega arith

pub returns-clause-done : goal.returns-clause-done
returns-clause-done c = λ v.
    let was : Volume = with_held v c.args.oplocks.now.rows c.args.oplocks.now.last c.args.pending.now.items c.args.ended.now.items in
    let broken : Volume = with_held v c.begin.new.self.rows c.begin.new.self.last c.args.pending.now.items c.args.ended.now.items in
    let after : OplockState = after_breaks c.args.class (record { oplocks = c.args.oplocks.now.rows; last_break = c.args.oplocks.now.last }) c.args.oplocks.now.chosen in
    let all : List Told = told_all c.args.class c.args.oplocks.now.chosen in
    c.end_told.ensures.done broken
    ∙ ap (λ (told : List Told). fold with_holder_told broken told) (c.told.ensures ∙ c.begin.ensures.told)
    ∙ ap (λ (rows : List Oplock). fold with_holder_told (with_held v rows c.begin.new.self.last c.args.pending.now.items c.args.ended.now.items) all) c.begin.ensures.rows
    ∙ ap (λ (last : ℕ). fold with_holder_told (with_held v after.oplocks last c.args.pending.now.items c.args.ended.now.items) all) c.begin.ensures.last
    ∙ sym (breaks-apart c.args.class c.args.oplocks.now.chosen was)

pub returns-clause-left : goal.returns-clause-left
returns-clause-left c =
    let count = told-count c.args.class c.args.oplocks.now.chosen in
    let told = ap (λ (told : List Told). length (filter has_call told)) (c.told.ensures ∙ c.begin.ensures.told) in
    let left = c.end_told.ensures.left in
    omega arith
