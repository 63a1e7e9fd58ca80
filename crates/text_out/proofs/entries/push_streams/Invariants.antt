use Rattle.std.proofs.Common.{◌≡◌, ◌++◌, length}
use Rattle.fsa_types.specs.declared.reply.PackKind.TheVariants.{Streams}
use Rattle.fsa_model.specs.PackedText.{packed_text}
use Rattle.pack_info.specs.Walks.{left_of}
use Rattle.text_out.proofs.entries.push_streams.Given as goal

abbrev pub invariant-entries : goal.invariant-entries
invariant-entries l = record {
  kind : l.walk.kind ≡ Streams;
  lines : l.draft.lines ++ packed_text Streams (left_of l.walk) ≡ l.fn.draft.lines ++ packed_text Streams l.bytes;
  before : l.draft.before ≡ l.fn.draft.before;
}

abbrev pub decreases-entries : goal.decreases-entries
decreases-entries l = length (left_of l.walk)
