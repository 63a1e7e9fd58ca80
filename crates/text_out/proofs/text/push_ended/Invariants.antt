use Rattle.std.proofs.Common.{◌≡◌, ◌++◌, drop, map}
use Rattle.fsa_model.specs.Setup.{client_of}
use Rattle.fsa_model.specs.Text.{ended_lines}
use Rattle.text_out.proofs.text.push_ended.Given as goal

abbrev pub invariant-loop-end : goal.invariant-loop-end
invariant-loop-end l = record {
  lines :
      l.draft.lines ++ ended_lines (map client_of l.clients.items) (drop l.end-index l.ended)
      ≡ l.fn.draft.lines ++ ended_lines (map client_of l.clients.items) l.ended;
  before : l.draft.before ≡ l.fn.draft.before;
}
