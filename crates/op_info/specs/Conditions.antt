-- The list that is put.
use Rattle.std.specs.Prelude.{List, Option, Some, None}
use Rattle.fsa_types.specs.declared.request.Ace.{Ace}
use Rattle.fsa_types.specs.declared.request.DaclChange.{DaclChange}
use Rattle.fsa_types.specs.declared.request.DaclChange.TheVariants.{Put}
use Rattle.fsa_model.specs.Security.{mapped}

-- the entries of the list that is put, generic rights replaced by what they stand for
abbrev pub list_put : DaclChange → Option (List Ace)
list_put (Put dacl) = Some (mapped dacl.items)
list_put _ = None
