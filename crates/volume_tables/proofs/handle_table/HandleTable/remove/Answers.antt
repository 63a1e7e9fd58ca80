use Rattle.std.proofs.Common.{◌∙◌, sym, arith}
use Rattle.volume_tables.proofs.LockLemmas.{AreTabled-gone, HaveRoom-kept, none-held}
use Rattle.volume_tables.proofs.handle_table.HandleTable.remove.Goals as goal

pub remove_locks_of-requires : goal.remove_locks_of-requires
remove_locks_of-requires c none =
    let i = c.self.inside in
    none-held i.table.rows i.locks.rows i.ranges c.stream_of-stream.result c.args.id c.self.invariant.0 c.stream_of-stream.ensures (sym c.remove_ranges_of-some.ensures.some ∙ none)

pub invariant_of-self : goal.invariant_of-self
invariant_of-self c =
    let i = c.self.inside in
    let new = c.remove_ranges_of-some.new.ranges in
    let stream = c.stream_of-stream.ensures in (
      rw (c.remove_row.ensures.rows, c.remove_locks_of.ensures.rows) (
          AreTabled-gone i.table.rows i.locks.rows i.ranges new c.args.id c.self.invariant.0
          (λ own is. rw (stream ∙ is) at c.remove_ranges_of-some.ensures.own) (λ none. rw (stream ∙ none) at c.remove_ranges_of-some.ensures.none)),
      HaveRoom-kept i.rooms i.ranges new i.locks.room c.remove_locks_of.new.locks.room c.self.invariant.1 c.remove_ranges_of-some.ensures.room c.remove_locks_of.ensures.room,
      c.remove_row.ensures.indexed c.self.invariant.2,
      (let promised = c.self.invariant.3 in let kept = c.remove_row.ensures.room in let same = c.remove_row.ensures.promised in omega arith),
      c.remove_row.ensures.shared,
      (let promised = c.self.invariant.5 in let kept = c.remove_row.ensures.kept in let same = c.remove_row.ensures.promised in omega arith),
    )
