use Rattle.std.proofs.Common.{refl}
use Rattle.pack_info.specs.Reading.{raw_head}
use Rattle.pack_info.proofs.reading.read_streams.Goals as goal

pub returns-clause-read : goal.returns-clause-read
unfolding raw_head
returns-clause-read c = rw (c.u32_at-next.ensures.read, c.u32_at-len.ensures.read, c.u64_at-length.ensures.read, c.u64_at-room.ensures.read, c.head_of-head.ensures) refl
