use Rattle.std.proofs.Common.{arith}
use Rattle.pack_info.proofs.ReadLaws.{read_4}
use Rattle.pack_info.proofs.reading.u32_at.Goals as goal

pub returns-clause-read : goal.returns-clause-read
returns-clause-read c = rw c.split_at.ensures.back (read_4 c.args.bytes.now c.read_u32-number.result c.requires (λ i. omega (arith, c.type_inv.bytes i)) c.read_u32-number.ensures)
