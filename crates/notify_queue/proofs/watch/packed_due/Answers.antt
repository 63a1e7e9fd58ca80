use Rattle.std.specs.Prelude.{map}
use Rattle.fsa_types.specs.declared.reply.PackKind.TheVariants.{Changes}
use Rattle.fsa_types.specs.Packing.{packed}
use Rattle.notify_queue.specs.Due.{due_of, rows_of}
use Rattle.pack_info.proofs.PackLaws.{small_writable}
use Rattle.notify_queue.proofs.watch.packed_due.Goals as goal

pub pack_changes-requires : goal.pack_changes-requires
pack_changes-requires c =
    rw (c.deref.ensures.value, c.in_ok-rows.ensures)
    (small_writable Changes (map (packed Changes) (rows_of (due_of c.args.log.now.changes c.args.watch.now))) c.requires)
