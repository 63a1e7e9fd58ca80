-- What a try leaves room for.
use Rattle.std.specs.Prelude.{◌≤◌, ℕ, length}
use Rattle.volume_state.specs.declared.tried.Tried.{Tried}
use Rattle.volume_state.specs.declared.tried.Tried.TheVariants as tried

-- where the call stays or is held there is room for so many more pending calls and blockers that it can become
-- pending with what it waits for
abbrev pub HasPendRoom : Tried → ℕ → ℕ → Type 0
HasPendRoom (tried.Hold blockers interim) calls blockers_room = (1 ≤ calls) × (length blockers.items ≤ blockers_room)
HasPendRoom (tried.Stay interim) calls blockers_room = 1 ≤ calls
HasPendRoom _ calls blockers_room = Unit {0}
