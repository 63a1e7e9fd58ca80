use Rattle.std.proofs.Common.{arith}
use Rattle.pack_info.proofs.ReadLaws.{read_2}
use Rattle.pack_info.proofs.reading.u16_at.Goals as goal

pub returns-clause-read : goal.returns-clause-read
returns-clause-read c = rw c.split_at.ensures.back (read_2 c.args.bytes.now c.read_u16-number.result c.requires (λ i. omega (arith, c.type_inv.bytes i)) c.read_u16-number.ensures)
