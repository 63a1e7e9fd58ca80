use Rattle.op_control.proofs.BufferLaws.{few_bytes}
use Rattle.op_control.proofs.set_reparse.set_buffer.Goals as goal

pub set_point-requires : goal.set_point-requires
set_point-requires c = record { few = few_bytes c.args.bytes.now c.in-Some.content.now c.in-Some.tag c.in-Some.ensures.found c.requires.few }
