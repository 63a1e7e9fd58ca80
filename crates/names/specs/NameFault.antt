-- What the calls of this crate answer, in the words of the faults of paths.
use Rattle.std.specs.Prelude.{◌≡◌, Option, Some, None, Result, Ok, Err}
use Rattle.fsa_types.specs.Paths.{PathFault}
use Rattle.fsa_types.specs.Paths as path
use Rattle.names.specs.declared.fault.NameFault.{NameFault}
use Rattle.names.specs.declared.fault.NameFault.TheVariants.{Empty, TooLong, BadUnit, BadStream}

abbrev pub path_fault_of : NameFault → PathFault
path_fault_of Empty = path.Empty
path_fault_of TooLong = path.TooLong
path_fault_of (BadUnit place) = path.BadUnit place
path_fault_of BadStream = path.BadStream

-- a check that answers `Ok` found no fault, and one that answers `Err` found this one
abbrev pub FindsFault : {T : Type 0} → Option PathFault → Result T NameFault → Type 0
FindsFault found (Ok value) = found ≡ None
FindsFault found (Err fault) = found ≡ Some (path_fault_of fault)
