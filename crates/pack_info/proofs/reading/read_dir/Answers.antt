use Rattle.std.proofs.Common.{refl}
use Rattle.pack_info.specs.Reading.{raw_head}
use Rattle.pack_info.proofs.reading.read_dir.Goals as goal

pub returns-clause-read : goal.returns-clause-read
unfolding raw_head
returns-clause-read c = rw (c.u32_at-next.ensures.read, c.u32_at-index.ensures.read, c.u64_at-creation.ensures.read, c.u64_at-access.ensures.read, c.u64_at-write.ensures.read, c.u64_at-change.ensures.read, c.u64_at-length.ensures.read, c.u64_at-room.ensures.read, c.u32_at-attributes.ensures.read, c.u32_at-len.ensures.read) refl
