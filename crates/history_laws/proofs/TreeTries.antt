-- Each try of a history leaves just what the changes leave that its call asks for.
use Rattle.std.proofs.Common.{ℕ, refl, inl, inr}
use Rattle.std.proofs.lemmas.Bool.{cases_Bool}
use Rattle.fsa_types.specs.declared.request.Call.{Call}
use Rattle.fsa_types.specs.declared.request.Request.TheVariants as request
use Rattle.fsa_types.specs.declared.request.What.{What}
use Rattle.fsa_types.specs.declared.request.What.TheVariants.{Ask, Leave}
use Rattle.fsa_types.specs.declared.status.Status.TheVariants.{InvalidHandle}
use Rattle.fsa_model.specs.Coherence.{IsTied}
use Rattle.fsa_model.specs.Lookups.{has_left}
use Rattle.fsa_model.specs.Try.{try, try_what}
use Rattle.fsa_model.specs.Volume.{Volume}
use Rattle.history_laws.specs.TreeChanges.{LeavesChanges}
use Rattle.history_laws.proofs.TreeCloses.{close-leaves, leave-leaves}
use Rattle.history_laws.proofs.TreeNames.{link-leaves, rename-leaves}
use Rattle.history_laws.proofs.TreeOpens.{create-leaves}
use Rattle.history_laws.proofs.TreeParts.{leaves-refused}
use Rattle.history_laws.proofs.TreeQuiet.{quiet-leaves}
use Rattle.history_laws.proofs.TreeSets.{delete_reparse-leaves, set_basic-leaves, set_disposition-leaves, set_end-leaves, set_reparse-leaves, set_security-leaves, write-leaves}

pub what-leaves : (v : Volume) (turn client number : ℕ) (what : What) → IsTied v → LeavesChanges v client number what (try_what v turn client number what)
what-leaves v turn client number (Ask (request.Create path wanted share disposition options attributes key)) tied = create-leaves v client number path wanted share disposition options attributes key tied
what-leaves v turn client number (Ask (request.Close handle)) tied = close-leaves v client number handle
what-leaves v turn client number (Ask (request.Write handle at bytes)) tied = write-leaves v client number handle at bytes
what-leaves v turn client number (Ask (request.SetEnd handle end)) tied = set_end-leaves v client number handle end
what-leaves v turn client number (Ask (request.SetDisposition handle delete)) tied = set_disposition-leaves v client number handle delete
what-leaves v turn client number (Ask (request.Rename handle path replace)) tied = rename-leaves v client number handle path replace
what-leaves v turn client number (Ask (request.Link handle path replace)) tied = link-leaves v client number handle path replace
what-leaves v turn client number (Ask (request.SetBasic handle creation access write change attributes)) tied = set_basic-leaves v client number handle creation access write change attributes
what-leaves v turn client number (Ask (request.SetSecurity handle owner dacl)) tied = set_security-leaves v client number handle owner dacl
what-leaves v turn client number (Ask (request.SetReparse handle bytes)) tied = set_reparse-leaves v client number handle bytes
what-leaves v turn client number (Ask (request.DeleteReparse handle tag)) tied = delete_reparse-leaves v client number handle tag
what-leaves v turn client number Leave tied = leave-leaves v client number
what-leaves v turn client number what tied = quiet-leaves v turn client number what refl

-- a client that has left is refused
pub try-leaves : (v : Volume) (call : Call) (turn : ℕ) → IsTied v → LeavesChanges v call.client call.number call.what (try v call turn)
try-leaves v call turn tied = elim (cases_Bool (has_left v call.client)) [
  | inl left ↦ rw left (leaves-refused v call.client call.number call.what InvalidHandle refl)
  | inr here ↦ rw here (what-leaves v turn call.client call.number call.what tied)
]
