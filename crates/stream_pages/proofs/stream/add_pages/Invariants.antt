use Rattle.std.proofs.Common.{◌≡◌, ℕ, ◌≤◌, ◌<◌}
use Rattle.stream_pages.specs.Pages.{HasPage, KeepsPages, byte_at}
use Rattle.stream_pages.proofs.stream.add_pages.Given as goal

abbrev pub invariant-loop-number : goal.invariant-loop-number
invariant-loop-number l = record {
  bytes : (at : ℕ) → byte_at l.pages at ≡ byte_at l.fn.pages at;
  there : (number : ℕ) → l.first ≤ number → number < l.number → HasPage l.pages number;
  kept : KeepsPages l.fn.pages l.pages;
}
