use Rattle.std.proofs.Common.{◌≡◌, ◌-◌, ◌∷◌, [], List, ap, ◌∙◌}
use Rattle.std.specs.Prelude.{filter, ◌==◌}
use Rattle.fsa_types.specs.OplockLists.{after_breaks}
use Rattle.fsa_types.specs.Oplocks.{Oplock}
use Rattle.oplock_state.proofs.stream_tables.begin_one.Goals as goal

alone : (c : goal.After-begin_alone) → filter (λ (o : Oplock). o.handle == c.oplock.inside.handle) c.args.table.now.rows ≡ c.args.oplock ∷ []
alone c =
    let same : c.oplock.inside.handle ≡ c.args.oplock.handle = ap (λ (o : Oplock). o.handle) c.oplock.view_is in
    rw same c.requires.there

pub returns-clause-rows : goal.returns-clause-rows
returns-clause-rows c =
    c.begin_alone.ensures.rows
    ∙ ap (λ (t : List Oplock). (after_breaks c.args.class (record { oplocks = c.args.table.now.rows; last_break = c.args.first - 1 }) t).oplocks) (alone c)

pub returns-clause-last : goal.returns-clause-last
returns-clause-last c =
    c.begin_alone.ensures.last
    ∙ ap (λ (t : List Oplock). (after_breaks c.args.class (record { oplocks = c.args.table.now.rows; last_break = c.args.first - 1 }) t).last_break) (alone c)
