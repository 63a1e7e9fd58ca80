use Rattle.fsa_types.specs.declared.reply.PackKind.TheVariants.{Streams}
use Rattle.pack_info.proofs.PackLaws.{fitting_is}
use Rattle.pack_info.proofs.pack.pack_streams.Goals as goal

pub returns-clause-count : goal.returns-clause-count
returns-clause-count c = fitting_is Streams c.args.rows.now c.args.room c.in_ok-made.count c.in_ok-made.ensures.count
