use Rattle.std.proofs.Common.{ℕ, ◌≡◌, ◌+◌, ◌∙◌, ap, drop, length, length-append, length-drop, arith}
use Rattle.wire_io.specs.MemorySource.{SourceState}
use Rattle.wire_io.proofs.MemoryLaws.{HasRead-copied, drop-at_end}
use Rattle.wire_io.proofs.memory_source.MemorySourceSource.take.Goals as goal

pub returns-clause-bytes : goal.returns-clause-bytes
returns-clause-bytes c =
    let source = c.self.inside in
    let left : c.count_take.new.self.left ≡ drop (source.place + c.min-count.result) source.bytes.items = ap (λ (s : SourceState). s.left) c.count_take.ensures in (
      rw (left, ← c.self.view_is) (HasRead-copied source.bytes.items source.place c.min-count.result c.copy_from_slice.new.self _ (cc (c.copy_from_slice.ensures.after, c.deref-2.ensures.value)) (omega arith)),
      λ none wide. left ∙ drop-at_end source.bytes.items source.place c.min-count.result (length c.args.buf.now) source.piece (omega arith) c.self.invariant.1 (omega (arith, length-append {A = ℕ}, length-drop {A = ℕ}, c.copy_from_slice.ensures.len)) none,
    )
