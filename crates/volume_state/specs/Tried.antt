-- What a try of a call gave, against what it is defined to come to.
use Rattle.std.specs.Prelude.{◌≡◌, ◌≤◌, length}
use Rattle.fsa_model.specs.Volume.{Volume}
use Rattle.fsa_model.specs.Outcome.{Outcome, Done, Stay, Hold}
use Rattle.volume_state.specs.Room.{KeepsEnds}
use Rattle.volume_state.specs.VolumeView.{Spare, VolumeView}
use Rattle.volume_state.specs.declared.tried.Tried.{Tried}
use Rattle.volume_state.specs.declared.tried.Tried.TheVariants as tried

-- a try that answered this, and left the volume new, did what the definition says; where there was
-- no memory, nothing has changed
abbrev pub Gives : Outcome → Volume → Volume → Tried → Type 0
Gives outcome old new (tried.Done reply) = outcome ≡ Done new reply
Gives outcome old new (tried.Stay interim) = outcome ≡ Stay new interim
Gives outcome old new (tried.Hold blockers interim) = outcome ≡ Hold new blockers.items interim
Gives outcome old new tried.NoMemory = new ≡ old

-- where the call stays or is held there is room to make it pending with what it waits for
abbrev pub HasHoldRoom : Tried → Spare → Type 0
HasHoldRoom (tried.Hold blockers interim) spare = (1 ≤ spare.pending) × (length blockers.items ≤ spare.blockers)
HasHoldRoom (tried.Stay interim) spare = 1 ≤ spare.pending
HasHoldRoom _ spare = Unit {0}

-- what every try leaves: it did what the definition says, its call can be made pending where it stays, and no room for
-- ends or pending calls is used but what calls that ended took
pub record Leaves (outcome : Outcome) (old new : VolumeView) (tried : Tried) : Type 0 where
  pub gives : Gives outcome old.content new.content tried
  pub room : HasHoldRoom tried new.spare
  pub ends : KeepsEnds old new

-- it didn't find that there was no memory
abbrev pub HasAnswer : Tried → Type 0
HasAnswer tried.NoMemory = ⊥
HasAnswer _ = Unit {0}
