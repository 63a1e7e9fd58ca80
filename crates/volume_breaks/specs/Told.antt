-- Whom the breaks of oplocks tell, in order.
use Rattle.std.specs.Prelude.{Bool, List, [], ◌∷◌, ◌++◌, is_some}
use Rattle.std.specs.Option.{option_map_or}
use Rattle.fsa_types.specs.OplockLists.{effect_on, told_by}
use Rattle.fsa_types.specs.Oplocks.{Effect, Oplock}
use Rattle.fsa_types.specs.declared.oplock.Class.{Class}
use Rattle.volume_breaks.specs.declared.telling.Told.{Told}

-- what the holder of this oplock is told
abbrev pub told_by_effect : Oplock → Effect → List Told
told_by_effect oplock done = option_map_or (λ told. record { handle = oplock.handle; level = told.0; ack = told.1; call = oplock.call } ∷ []) (told_by done) []

-- what a class of requests tells the holder of an oplock
abbrev pub told_of : Class → Oplock → List Told
told_of class oplock = told_by_effect oplock (effect_on class oplock)

-- whom it tells, of the oplocks that it breaks
abbrev pub told_all : Class → List Oplock → List Told
told_all kind [] = []
told_all kind (oplock ∷ broken) = told_of kind oplock ++ told_all kind broken

-- a call was pending as granted
abbrev pub has_call : Told → Bool
has_call told = is_some told.call
