use Rattle.std.proofs.Common.{◌≡◌, ◌++◌, length}
use Rattle.fsa_types.specs.PackedRows.{pack_kind}
use Rattle.fsa_model.specs.PackedText.{packed_text}
use Rattle.pack_info.specs.Walks.{left_of}
use Rattle.text_out.proofs.entries.push_listing.Given as goal

abbrev pub invariant-entries : goal.invariant-entries
invariant-entries l = record {
  kind : l.walk.kind ≡ pack_kind l.kind;
  lines : l.draft.lines ++ packed_text (pack_kind l.kind) (left_of l.walk) ≡ l.fn.draft.lines ++ packed_text (pack_kind l.kind) l.bytes;
  before : l.draft.before ≡ l.fn.draft.before;
}

abbrev pub decreases-entries : goal.decreases-entries
decreases-entries l = length (left_of l.walk)
