use Rattle.std.proofs.Common.{◌≡◌, ◌++◌, refl, arith}
use Rattle.fsa_types.specs.LittleEndian.{little_endian}
use Rattle.pack_info.proofs.ReadLaws.{Reads, one_length, too_few_bytes, is_reparse, reparse_short, reparse_other, reparse_read}
use Rattle.pack_info.proofs.fixed.read_reparse.Goals as goal

pub returns-then-bytes-lt8-clause-reads : goal.returns-then-bytes-lt8-clause-reads
returns-then-bytes-lt8-clause-reads c = reparse_short c.args.bytes.now c.if-bytes-lt8.true

pub returns-then-bytes-lt8-clause-only : goal.returns-then-bytes-lt8-clause-only
returns-then-bytes-lt8-clause-only c = λ tag reserved content le is. too_few_bytes c.args.bytes.now tag reserved content c.if-bytes-lt8.true is

pub returns-then-len-content-clause-reads : goal.returns-then-len-content-clause-reads
returns-then-len-content-clause-reads c =
    let read : Reads c.args.bytes.now c.u32_at-tag.result.0 c.u16_at-len.result.0 c.u16_at-reserved.result.0 c.u16_at-reserved.result.1.now
    = record { tag_fits = c.u32_at-tag.ensures.fits; len_fits = c.u16_at-len.ensures.fits; long = omega (arith, c.if-bytes-lt8.false); spelled = rw (c.u32_at-tag.ensures.read, c.u16_at-len.ensures.read, c.u16_at-reserved.ensures.read) refl } in
    reparse_other c.args.bytes.now c.u32_at-tag.result.0 c.u16_at-len.result.0 c.u16_at-reserved.result.0 c.u16_at-reserved.result.1.now read c.if-len-content.true

pub returns-then-len-content-clause-only : goal.returns-then-len-content-clause-only
returns-then-len-content-clause-only c =
    let read : c.args.bytes.now ≡ little_endian 4 c.u32_at-tag.result.0 ++ (little_endian 2 c.u16_at-len.result.0 ++ (little_endian 2 c.u16_at-reserved.result.0 ++ c.u16_at-reserved.result.1.now)) = rw (c.u32_at-tag.ensures.read, c.u16_at-len.ensures.read, c.u16_at-reserved.ensures.read) refl in
    λ tag reserved content le is. c.if-len-content.true (one_length c.args.bytes.now c.u32_at-tag.result.0 c.u16_at-len.result.0 c.u16_at-reserved.result.0 tag reserved c.u16_at-reserved.result.1.now content c.u16_at-len.ensures.fits read le is)

pub returns-clause-reads : goal.returns-clause-reads
returns-clause-reads c =
    let read : Reads c.args.bytes.now c.u32_at-tag.result.0 c.u16_at-len.result.0 c.u16_at-reserved.result.0 c.u16_at-reserved.result.1.now
    = record { tag_fits = c.u32_at-tag.ensures.fits; len_fits = c.u16_at-len.ensures.fits; long = omega (arith, c.if-bytes-lt8.false); spelled = rw (c.u32_at-tag.ensures.read, c.u16_at-len.ensures.read, c.u16_at-reserved.ensures.read) refl } in
    reparse_read c.args.bytes.now c.u32_at-tag.result.0 c.u16_at-len.result.0 c.u16_at-reserved.result.0 c.u16_at-reserved.result.1.now read c.if-len-content.false

pub returns-clause-found : goal.returns-clause-found
returns-clause-found c =
    let read : c.args.bytes.now ≡ little_endian 4 c.u32_at-tag.result.0 ++ (little_endian 2 c.u16_at-len.result.0 ++ (little_endian 2 c.u16_at-reserved.result.0 ++ c.u16_at-reserved.result.1.now)) = rw (c.u32_at-tag.ensures.read, c.u16_at-len.ensures.read, c.u16_at-reserved.ensures.read) refl in
    (c.u16_at-reserved.result.0, is_reparse c.args.bytes.now c.u32_at-tag.result.0 c.u16_at-len.result.0 c.u16_at-reserved.result.0 c.u16_at-reserved.result.1.now read c.if-len-content.false)
