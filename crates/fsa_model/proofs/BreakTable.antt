-- A table of oplocks, worked by hand from the rules and shown by computation: each level, without a break and with
-- each break that can be in progress, against each class of requests, and what each answer leaves. In each list
-- the classes stand in this order: the clash of an open, a change of a name, an open or a read, a change of the
-- bytes; and the levels that an answer keeps in this one: none, R, RH, RW, RWH.
use Rattle.std.specs.Prelude.{◌≡◌, ℕ, Bool, true, false, List, [], ◌∷◌, ◌==◌, length, map, not, Some, None, codes, refl}
use Rattle.fsa_types.specs.CaseTable.{ascii_pairs}
use Rattle.fsa_types.specs.declared.oplock.Class.{Class}
use Rattle.fsa_types.specs.declared.oplock.Class.TheVariants.{Clash, NameChange, ReadOpen, Change}
use Rattle.fsa_types.specs.declared.oplock.HandleSet.TheVariants as set
use Rattle.fsa_types.specs.declared.reply.Body.{Body}
use Rattle.fsa_types.specs.declared.reply.Body.TheVariants.{Nothing, Broken, Left}
use Rattle.fsa_types.specs.declared.reply.Interim.TheVariants.{Granted}
use Rattle.fsa_types.specs.declared.reply.Reply.{Reply}
use Rattle.fsa_types.specs.declared.request.Level.{Level}
use Rattle.fsa_types.specs.declared.request.Level.TheVariants.{Nil, R, RH, RW, RWH}
use Rattle.fsa_types.specs.declared.request.Request.TheVariants.{Oplock as OplockOf}
use Rattle.fsa_types.specs.declared.request.What.TheVariants.{Ask}
use Rattle.fsa_types.specs.declared.status.Status.TheVariants.{Success, InvalidOplockProtocol}
use Rattle.fsa_model.specs.Breaks.{awaited, with_breaks}
use Rattle.fsa_model.specs.Grant.{try_ack, ack_at, ack_keeping}
use Rattle.fsa_model.specs.Outcome.{Outcome, Done, Stay}
use Rattle.fsa_model.specs.Volume.{Handle, Oplock, Pending, Volume, fresh}

-- ---- what is there

-- a handle of client 0 and one of client 1 on one stream, without keys
abbrev opened : ℕ → Handle
opened client = record { client = client; number = 1; link = 1; stream = Some 1; access = 0x3; share = 0x7; key = 0; delete_on_close = false; enumeration = None }

-- the first has an oplock of this level: its call 2 is pending under turn 5; or break 3 of it is in progress
abbrev granted : Level → Oplock
granted level = record { handle = 1; key = 0; level = level; target = None; number = 0; call = Some 5 }

abbrev breaking : Level → Level → Oplock
breaking level target = record { handle = 1; key = 0; level = level; target = Some target; number = 3; call = None }

abbrev asked : Level → Pending
asked level = record { call = record { client = 0; number = 2; what = Ask (OplockOf 1 level) }; blockers = [] }

abbrev there : List Oplock → List (ℕ × Pending) → Volume
there oplocks pending = record (fresh (record { table = ascii_pairs; clients = record { name = codes "a"; sids = 7 ∷ [] } ∷ record { name = codes "b"; sids = 9 ∷ [] } ∷ [] })) {
  streams = (1, record { file = 2; name = []; bytes = []; deleted = false }) ∷ [];
  links = (1, record { parent = 1; name = codes "f"; file = 2; deleted = false }) ∷ [];
  handles = (1, opened 0) ∷ (2, opened 1) ∷ [];
  oplocks = oplocks;
  pending = pending;
  last_link = 1;
  last_stream = 1;
  last_handle = 2;
  last_break = 3;
}

-- without an oplock; with one of this level; while its break to this target is in progress
abbrev without : Volume
without = there [] []

abbrev with_level : Level → Volume
with_level level = there (granted level ∷ []) ((5, asked level) ∷ [])

abbrev with_break : Level → Level → Volume
with_break level target = there (breaking level target ∷ []) []

-- ---- what is asked

-- what a class of requests by the second handle does: the oplocks that it leaves, what their holders are told, and
-- whether it waits
record Met : Type 0 where
  left : List Oplock
  told : List Body
  waits : Bool

abbrev meets : Volume → Class → Met
meets v class = record {
  left = (with_breaks v (set.Stream 1) class (Some 2) 0).oplocks;
  told = map (λ end. end.reply.body) (with_breaks v (set.Stream 1) class (Some 2) 0).ended;
  waits = not (length (awaited v (set.Stream 1) class (Some 2) 0) == 0);
}

abbrev four : Volume → List Met
four v = map (meets v) (Clash ∷ NameChange ∷ ReadOpen ∷ Change ∷ [])

-- what an answer of the first handle comes to: the oplocks that it leaves, and its reply, or the level with which it
-- is pending
record Answered : Type 0 where
  left : List Oplock
  reply : List Reply
  pends : List Level

abbrev answered : Outcome → Answered
answered (Done v reply) = record { left = v.oplocks; reply = reply ∷ []; pends = [] }
answered (Stay v (Granted level)) = record { left = v.oplocks; reply = []; pends = level ∷ [] }
answered _ = record { left = []; reply = []; pends = [] }

abbrev five : Volume → List Answered
five v = map (λ level. answered (try_ack v 0 1 level 9)) (Nil ∷ R ∷ RH ∷ RW ∷ RWH ∷ [])

-- ---- how each may come out

-- nothing happens
abbrev passes : List Oplock → Met
passes left = record { left = left; told = []; waits = false }

-- the oplock ends, and its holder is told so
abbrev ends : Met
ends = record { left = []; told = Broken Nil false ∷ []; waits = false }

-- break 4 begins, and its holder is told so and has to answer
abbrev begins : Level → Level → Bool → Met
begins level target waits = record { left = record { handle = 1; key = 0; level = level; target = Some target; number = 4; call = None } ∷ []; told = Broken target true ∷ []; waits = waits }

-- the break in progress goes on to this target, and nobody is told
abbrev goes_on : Level → Level → Bool → Met
goes_on level target waits = record { left = breaking level target ∷ []; told = []; waits = waits }

-- there is no break to answer
abbrev refuses : List Oplock → Answered
refuses left = record { left = left; reply = record { status = InvalidOplockProtocol; body = Nothing } ∷ []; pends = [] }

-- nothing stays
abbrev leaves_none : Answered
leaves_none = record { left = []; reply = record { status = Success; body = Left Nil } ∷ []; pends = [] }

-- this stays, and the answer is pending as granted under its own turn
abbrev keeps : Level → Answered
keeps level = record { left = record { handle = 1; key = 0; level = level; target = None; number = 0; call = Some 9 } ∷ []; reply = []; pends = level ∷ [] }

-- ---- no oplock

pub no_oplock : four without ≡ passes [] ∷ passes [] ∷ passes [] ∷ passes [] ∷ []
no_oplock = refl

pub no_oplock-answered : five without ≡ refuses [] ∷ refuses [] ∷ refuses [] ∷ refuses [] ∷ refuses [] ∷ []
unfolding try_ack ack_at ack_keeping
no_oplock-answered = refl

-- ---- no break in progress

-- reads are kept by all but a change, which tells without asking
pub level_r : four (with_level R) ≡ passes (granted R ∷ []) ∷ passes (granted R ∷ []) ∷ passes (granted R ∷ []) ∷ ends ∷ []
level_r = refl

pub level_r-answered : five (with_level R) ≡ refuses (granted R ∷ []) ∷ refuses (granted R ∷ []) ∷ refuses (granted R ∷ []) ∷ refuses (granted R ∷ []) ∷ refuses (granted R ∷ []) ∷ []
unfolding try_ack ack_at ack_keeping
level_r-answered = refl

-- clashes and new names wait for handles to be given up; a change tells, and doesn't wait
pub level_rh : four (with_level RH) ≡ begins RH R true ∷ begins RH R true ∷ passes (granted RH ∷ []) ∷ begins RH Nil false ∷ []
level_rh = refl

pub level_rh-answered : five (with_level RH) ≡ refuses (granted RH ∷ []) ∷ refuses (granted RH ∷ []) ∷ refuses (granted RH ∷ []) ∷ refuses (granted RH ∷ []) ∷ refuses (granted RH ∷ []) ∷ []
unfolding try_ack ack_at ack_keeping
level_rh-answered = refl

-- writes are given up before others read or change
pub level_rw : four (with_level RW) ≡ passes (granted RW ∷ []) ∷ passes (granted RW ∷ []) ∷ begins RW R true ∷ begins RW Nil true ∷ []
level_rw = refl

pub level_rw-answered : five (with_level RW) ≡ refuses (granted RW ∷ []) ∷ refuses (granted RW ∷ []) ∷ refuses (granted RW ∷ []) ∷ refuses (granted RW ∷ []) ∷ refuses (granted RW ∷ []) ∷ []
unfolding try_ack ack_at ack_keeping
level_rw-answered = refl

-- each gives up what its class doesn't leave, and waits
pub level_rwh : four (with_level RWH) ≡ begins RWH RW true ∷ begins RWH RW true ∷ begins RWH RH true ∷ begins RWH Nil true ∷ []
level_rwh = refl

pub level_rwh-answered : five (with_level RWH) ≡ refuses (granted RWH ∷ []) ∷ refuses (granted RWH ∷ []) ∷ refuses (granted RWH ∷ []) ∷ refuses (granted RWH ∷ []) ∷ refuses (granted RWH ∷ []) ∷ []
unfolding try_ack ack_at ack_keeping
level_rwh-answered = refl

-- ---- a break in progress

pub rh_to_r : four (with_break RH R) ≡ goes_on RH R true ∷ goes_on RH R true ∷ goes_on RH R false ∷ goes_on RH Nil true ∷ []
rh_to_r = refl

pub rh_to_r-answered : five (with_break RH R) ≡ leaves_none ∷ keeps R ∷ keeps R ∷ keeps R ∷ keeps R ∷ []
unfolding try_ack ack_at ack_keeping
rh_to_r-answered = refl

pub rh_to_none : four (with_break RH Nil) ≡ goes_on RH Nil true ∷ goes_on RH Nil true ∷ goes_on RH Nil false ∷ goes_on RH Nil false ∷ []
rh_to_none = refl

pub rh_to_none-answered : five (with_break RH Nil) ≡ leaves_none ∷ leaves_none ∷ leaves_none ∷ leaves_none ∷ leaves_none ∷ []
unfolding try_ack ack_at ack_keeping
rh_to_none-answered = refl

pub rw_to_r : four (with_break RW R) ≡ goes_on RW R false ∷ goes_on RW R false ∷ goes_on RW R true ∷ goes_on RW Nil true ∷ []
rw_to_r = refl

pub rw_to_r-answered : five (with_break RW R) ≡ leaves_none ∷ keeps R ∷ keeps R ∷ keeps R ∷ keeps R ∷ []
unfolding try_ack ack_at ack_keeping
rw_to_r-answered = refl

pub rw_to_none : four (with_break RW Nil) ≡ goes_on RW Nil false ∷ goes_on RW Nil false ∷ goes_on RW Nil true ∷ goes_on RW Nil true ∷ []
rw_to_none = refl

pub rw_to_none-answered : five (with_break RW Nil) ≡ leaves_none ∷ leaves_none ∷ leaves_none ∷ leaves_none ∷ leaves_none ∷ []
unfolding try_ack ack_at ack_keeping
rw_to_none-answered = refl

pub rwh_to_rw : four (with_break RWH RW) ≡ goes_on RWH RW true ∷ goes_on RWH RW true ∷ goes_on RWH R true ∷ goes_on RWH Nil true ∷ []
rwh_to_rw = refl

pub rwh_to_rw-answered : five (with_break RWH RW) ≡ leaves_none ∷ keeps R ∷ keeps R ∷ keeps RW ∷ keeps RW ∷ []
unfolding try_ack ack_at ack_keeping
rwh_to_rw-answered = refl

pub rwh_to_rh : four (with_break RWH RH) ≡ goes_on RWH R true ∷ goes_on RWH R true ∷ goes_on RWH RH true ∷ goes_on RWH Nil true ∷ []
rwh_to_rh = refl

pub rwh_to_rh-answered : five (with_break RWH RH) ≡ leaves_none ∷ keeps R ∷ keeps RH ∷ keeps R ∷ keeps RH ∷ []
unfolding try_ack ack_at ack_keeping
rwh_to_rh-answered = refl

pub rwh_to_r : four (with_break RWH R) ≡ goes_on RWH R true ∷ goes_on RWH R true ∷ goes_on RWH R true ∷ goes_on RWH Nil true ∷ []
rwh_to_r = refl

pub rwh_to_r-answered : five (with_break RWH R) ≡ leaves_none ∷ keeps R ∷ keeps R ∷ keeps R ∷ keeps R ∷ []
unfolding try_ack ack_at ack_keeping
rwh_to_r-answered = refl

pub rwh_to_none : four (with_break RWH Nil) ≡ goes_on RWH Nil true ∷ goes_on RWH Nil true ∷ goes_on RWH Nil true ∷ goes_on RWH Nil true ∷ []
rwh_to_none = refl

pub rwh_to_none-answered : five (with_break RWH Nil) ≡ leaves_none ∷ leaves_none ∷ leaves_none ∷ leaves_none ∷ leaves_none ∷ []
unfolding try_ack ack_at ack_keeping
rwh_to_none-answered = refl
