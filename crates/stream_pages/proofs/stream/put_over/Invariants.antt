use Rattle.std.proofs.Common.{◌≡◌, ℕ, ◌-◌, ◌≤◌, length, take}
use Rattle.stream_pages.specs.Pages.{KeepsPages, byte_at, overlaid}
use Rattle.stream_pages.proofs.stream.put_over.Given as goal

abbrev pub invariant-parts : goal.invariant-parts
invariant-parts l = record {
  within : l.done ≤ length l.piece;
  bytes : (place : ℕ) → byte_at l.pages place ≡ overlaid (byte_at l.fn.pages) l.at (take l.done l.piece) place;
  kept : KeepsPages l.fn.pages l.pages;
}

abbrev pub decreases-parts : goal.decreases-parts
decreases-parts l = length l.piece - l.done
