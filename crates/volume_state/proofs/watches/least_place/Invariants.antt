use Rattle.std.proofs.Common.{◌≡◌, ◌≤◌, length}
use Rattle.std.specs.Prelude.{map, min}
use Rattle.volume_state.specs.Watches.{least_place, watch_of_row}
use Rattle.volume_state.proofs.watches.least_place.Given as goal

abbrev pub invariant-rows : goal.invariant-rows
invariant-rows l = record {
  least : min l.least (least_place (map watch_of_row l.rest) l.end) ≡ least_place (map watch_of_row l.rows) l.end;
  most : l.least ≤ l.end;
}

abbrev pub decreases-rows : goal.decreases-rows
decreases-rows l = length l.rest
