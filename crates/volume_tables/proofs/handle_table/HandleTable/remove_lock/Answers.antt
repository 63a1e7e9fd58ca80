use Rattle.std.proofs.Common.{sym, ◌∙◌, refl, arith}
use Rattle.volume_tables.proofs.LockLemmas.{AreTabled-kept, AreTabled-unlock, HaveRoom-kept, number-held}
use Rattle.volume_tables.proofs.handle_table.HandleTable.remove_lock.Goals as goal

pub invariant_of-self : goal.invariant_of-self
invariant_of-self c =
    let i = c.self.inside in
    let new = c.remove_range.new.ranges in
    let told = rw c.as_slice-locks.ensures.rows at c.remove_range.ensures.number in (
      AreTabled-kept i.table.rows i.locks.rows i.ranges new c.stream_of-stream.result c.args.handle c.args.at c.args.count c.self.invariant.0 (sym told ∙ c.in_default.is)
          c.remove_range.ensures.own c.remove_range.ensures.none,
      HaveRoom-kept i.rooms i.ranges new i.locks.room i.locks.room c.self.invariant.1 c.remove_range.ensures.room (omega arith),
      c.self.invariant.2,
      c.self.invariant.3,
      c.self.invariant.4,
      c.self.invariant.5,
    )

pub returns-in_default-clause-locks : goal.returns-in_default-clause-locks
returns-in_default-clause-locks c =
    let i = c.self.inside in
    let told = rw c.as_slice-locks.ensures.rows at c.remove_range.ensures.number in
    let held = number-held i.table.rows i.locks.rows i.ranges c.stream_of-stream.result c.args.handle c.args.at c.args.count c.self.invariant.0 c.stream_of-stream.ensures in
    let none = sym held ∙ sym told ∙ c.in_default.is in
    rw (← c.self.view_is, none) refl

pub returns-in_default-clause-number : goal.returns-in_default-clause-number
returns-in_default-clause-number c =
    let i = c.self.inside in
    let told = rw c.as_slice-locks.ensures.rows at c.remove_range.ensures.number in
    let held = number-held i.table.rows i.locks.rows i.ranges c.stream_of-stream.result c.args.handle c.args.at c.args.count c.self.invariant.0 c.stream_of-stream.ensures in
    rw (← c.self.view_is) (sym (sym held ∙ sym told ∙ c.in_default.is))

pub invariant_of-self-2 : goal.invariant_of-self-2
invariant_of-self-2 c =
    let i = c.self.inside in
    let new = c.remove_range.new.ranges in
    let stream = c.stream_of-stream.ensures in
    let told = rw c.as_slice-locks.ensures.rows at c.remove_range.ensures.number in
    let held = number-held i.table.rows i.locks.rows i.ranges c.stream_of-stream.result c.args.handle c.args.at c.args.count c.self.invariant.0 stream in
    let found = sym held ∙ sym told ∙ c.in-Some.is in
    let numbered = c.as_slice-locks.ensures.numbered in (
      rw c.remove.ensures.rows (
          AreTabled-unlock i.table.rows i.locks.rows i.locks.last i.ranges new c.args.handle c.args.at c.args.count c.in-Some.id c.self.invariant.0 numbered found
          (λ own is. rw (stream ∙ is) at c.remove_range.ensures.own) (λ none. rw (stream ∙ none) at c.remove_range.ensures.none)),
      HaveRoom-kept i.rooms i.ranges new i.locks.room c.remove.new.self.room c.self.invariant.1 c.remove_range.ensures.room c.remove.ensures.room,
      c.self.invariant.2,
      c.self.invariant.3,
      c.self.invariant.4,
      c.self.invariant.5,
    )

pub returns-clause-locks : goal.returns-clause-locks
returns-clause-locks c =
    let i = c.self.inside in
    let told = rw c.as_slice-locks.ensures.rows at c.remove_range.ensures.number in
    let held = number-held i.table.rows i.locks.rows i.ranges c.stream_of-stream.result c.args.handle c.args.at c.args.count c.self.invariant.0 c.stream_of-stream.ensures in
    let found = sym held ∙ sym told ∙ c.in-Some.is in
    rw (← c.self.view_is, found, c.remove.ensures.rows, c.remove.ensures.last) refl

pub returns-clause-number : goal.returns-clause-number
returns-clause-number c =
    let i = c.self.inside in
    let told = rw c.as_slice-locks.ensures.rows at c.remove_range.ensures.number in
    let held = number-held i.table.rows i.locks.rows i.ranges c.stream_of-stream.result c.args.handle c.args.at c.args.count c.self.invariant.0 c.stream_of-stream.ensures in
    rw (← c.self.view_is) (sym (sym held ∙ sym told ∙ c.in-Some.is))
