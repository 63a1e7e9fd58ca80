use Rattle.std.proofs.Common.{◌≡◌, ◌+◌, ◌≤◌, ◌++◌, length, drop}
use Rattle.std.specs.Prelude.{All, fold}
use Rattle.fsa_types.specs.OplockLists.{IsCopy, after_breaks, after_effect, effect_on}
use Rattle.volume_breaks.specs.Oplocks.{state_of}
use Rattle.volume_breaks.specs.Told.{told_all}
use Rattle.volume_breaks.proofs.telling.break_oplocks.Given as goal

-- what those from this place on do to the list as it is now is what all of them do to it as it was, and so with
-- whom they tell
abbrev pub invariant-loop-place : goal.invariant-loop-place
invariant-loop-place l = record {
  oplocks : fold (λ now oplock. after_effect (effect_on l.class oplock) oplock.handle now) (state_of l.oplocks) (drop l.place l.fn.oplocks.chosen)
      ≡ after_breaks l.class (state_of l.fn.oplocks) l.fn.oplocks.chosen;
  others : l.oplocks ≡ record l.fn.oplocks { rows = l.oplocks.rows; last = l.oplocks.last; told = l.oplocks.told };
  copies : All (IsCopy l.oplocks.rows) l.fn.oplocks.chosen;
  numbers : l.oplocks.last ≤ l.fn.oplocks.last + l.place;
  told : l.oplocks.told ++ told_all l.class (drop l.place l.fn.oplocks.chosen) ≡ told_all l.class l.fn.oplocks.chosen;
  few : length l.oplocks.told ≤ l.place;
}
