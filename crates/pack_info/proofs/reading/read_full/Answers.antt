use Rattle.std.proofs.Common.{refl}
use Rattle.pack_info.specs.Reading.{raw_head}
use Rattle.pack_info.proofs.reading.read_full.Goals as goal

pub returns-clause-read : goal.returns-clause-read
unfolding raw_head
returns-clause-read c = rw (c.read_dir-head.ensures.read, c.u32_at-attributes_size.ensures.read) refl
