-- The calls that a script makes.
use Rattle.std.specs.Prelude.{ℕ, ◌<◌, Bool, true, List, [], ◌∷◌, length, nat_le, IsTrue}
use Rattle.fsa_types.specs.Request.{what_fits}
use Rattle.fsa_types.specs.declared.request.Call.{Call}
use Rattle.fsa_types.specs.declared.request.What.{What}
use Rattle.fsa_types.specs.declared.request.What.TheVariants.{Tick}
use Rattle.fsa_model.specs.Setup.{Client}

-- the clock goes on by less than 2 ^ 32
abbrev pub ticks_fit : What → Bool
ticks_fit (Tick ticks) = nat_le ticks 4294967295
ticks_fit _ = true

-- a call of one of so many clients, within the bounds of requests
pub record IsLineCall (clients : ℕ) (call : Call) : Type 0 where
  pub fits : IsTrue (what_fits call.what)
  pub ticks : IsTrue (ticks_fit call.what)
  pub client : call.client < clients

-- each call is such a one
abbrev pub AreLineCalls : ℕ → List Call → Type 0
AreLineCalls clients [] = Unit {0}
AreLineCalls clients (call ∷ more) = IsLineCall clients call × AreLineCalls clients more

-- each client has a SID
abbrev pub HaveSids : List Client → Type 0
HaveSids [] = Unit {0}
HaveSids (client ∷ more) = (0 < length client.sids) × HaveSids more
