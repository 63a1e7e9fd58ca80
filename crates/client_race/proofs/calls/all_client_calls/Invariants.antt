use Rattle.std.proofs.Common.{◌≡◌, ℕ, slice_get, Some, vec_len}
use Rattle.script_read.specs.ScriptView.{contents}
use Rattle.history_laws.specs.Races.{own_calls}
use Rattle.client_race.proofs.calls.all_client_calls.Given as goal

abbrev pub invariant-loop-client : goal.invariant-loop-client
invariant-loop-client l = record {
  count : vec_len l.all ≡ l.client;
  each : (i : ℕ) (calls : _) → slice_get l.all.items i ≡ Some calls → calls.items ≡ own_calls (contents l.script) i;
}
