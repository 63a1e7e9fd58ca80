use Rattle.std.proofs.Common.{◌≡◌}
use Rattle.std.proofs.lemmas.Bool.{eqb-true}
use Rattle.oplock_state.specs.Tables.{is_oplock_of_stream}
use Rattle.oplock_state.proofs.SortLemmas.{own-stream}
use Rattle.volume_breaks.proofs.GrantLemmas.{none-left}
use Rattle.oplock_state.proofs.oplock_table.grant_in_list.Goals as goal

pub grant-requires-clause-new : goal.grant-requires-clause-new
grant-requires-clause-new c =
    let handles = c.args.tree.now.handles in
    rw (c.drop_chosen.ensures, c.choose_switched.ensures) (
    none-left (is_oplock_of_stream handles c.args.stream) c.args.asked.now.handle c.args.asked.now.key c.args.list.now.rows
    (λ o is. (let same : o.handle ≡ c.args.asked.now.handle = eqb-true _ _ is in rw same (own-stream handles c.args.asked.now.handle c.args.stream c.requires.home))))
