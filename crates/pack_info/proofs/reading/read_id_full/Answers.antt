use Rattle.std.proofs.Common.{◌≡◌, ◌++◌, refl, sym, subst}
use Rattle.fsa_types.specs.declared.reply.PackKind.TheVariants.{IdFull}
use Rattle.pack_info.specs.declared.reading.Head.{Head}
use Rattle.pack_info.specs.Reading.{raw_head}
use Rattle.pack_info.proofs.reading.read_id_full.Goals as goal

pub returns-clause-read : goal.returns-clause-read
unfolding raw_head
returns-clause-read c = subst (λ (h : Head). c.args.bytes.now ≡ raw_head IdFull (record {
  next = h.next;
  index = h.index;
  attributes_size = c.u32_at-attributes_size.result.0;
  reserved = c.u32_at-reserved.result.0;
  len = h.len;
  numbers = record {
    action = h.numbers.action;
    creation = h.numbers.creation;
    access = h.numbers.access;
    write = h.numbers.write;
    change = h.numbers.change;
    length = h.numbers.length;
    room = h.numbers.room;
    attributes = h.numbers.attributes;
    file = c.u64_at-file.result.0;
  };
}) ++ c.u64_at-file.result.1.now) (sym c.head.view_is)
    (rw (c.read_dir-head.ensures.read, c.u32_at-attributes_size.ensures.read, c.u32_at-reserved.ensures.read, c.u64_at-file.ensures.read) refl)
