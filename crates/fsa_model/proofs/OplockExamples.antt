-- Oplocks, worked by hand from the rules and shown by computation over whole runs: what is granted, what a break
-- tells and holds, what an answer and a switch end, and what a cancellation gives up.
use Rattle.std.specs.Prelude.{◌≡◌, ℕ, true, List, [], ◌∷◌, map, Option, Some, option_map, codes, refl}
use Rattle.fsa_types.specs.CaseTable.{ascii_pairs}
use Rattle.fsa_types.specs.declared.request.Call.{Call}
use Rattle.fsa_types.specs.declared.request.Disposition.TheVariants.{CreateNew, OpenExisting}
use Rattle.fsa_types.specs.declared.request.Level.TheVariants.{Nil, R, RH, RW, RWH}
use Rattle.fsa_types.specs.declared.request.Request.{Request}
use Rattle.fsa_types.specs.declared.request.Request.TheVariants.{Create, Close, Read, Write, Oplock, Ack, Cancel}
use Rattle.fsa_types.specs.declared.request.What.TheVariants.{Ask}
use Rattle.fsa_types.specs.declared.reply.Action.TheVariants as action
use Rattle.fsa_types.specs.declared.reply.Answer.{Answer}
use Rattle.fsa_types.specs.declared.reply.Answer.TheVariants as answer
use Rattle.fsa_types.specs.declared.reply.Body.{Body}
use Rattle.fsa_types.specs.declared.reply.Body.TheVariants as body
use Rattle.fsa_types.specs.declared.reply.EndOf.{EndOf}
use Rattle.fsa_types.specs.declared.reply.Interim.{Interim}
use Rattle.fsa_types.specs.declared.reply.Interim.TheVariants.{Held, Granted}
use Rattle.fsa_types.specs.declared.status.Status.{Status}
use Rattle.fsa_types.specs.declared.status.Status.TheVariants.{Success, SharingViolation, InvalidOplockProtocol, OplockSwitchedToNewHandle, OplockBreakInProgress, EndOfFile, Cancelled}
use Rattle.fsa_model.specs.Close.{try_close, close_at, with_closed}
use Rattle.fsa_model.specs.Grant.{oplock_on, oplock_by, oplock_at, try_oplock, ack_keeping, ack_at, try_ack}
use Rattle.fsa_model.specs.History.{run}
use Rattle.fsa_model.specs.Open.{try_create, create_at, create_walked, create_named, create_by_link, create_found, create_there, create_in_file, create_stream, create_on_stream, open_stream, open_granted, open_existing, clashed, create_missing, make_file}
use Rattle.fsa_model.specs.Outcome.{TurnOut}
use Rattle.fsa_model.specs.Read.{try_read, read_at, read_by, read_stream, read_range, read_unlocked, read_bytes}
use Rattle.fsa_model.specs.Schedule.{plain_entry}
use Rattle.fsa_model.specs.Setup.{Setup}
use Rattle.fsa_model.specs.Waiting.{try_cancel}
use Rattle.fsa_model.specs.Write.{try_write, write_at, write_by, write_stream, write_at_place, write_range, write_unlocked, write_grown, write_bytes}

-- ---- what is asked, and what is answered

-- the clients `a`, `b` and `c` with the SIDs 7, 9 and 8
abbrev pub setup : Setup
setup = record {
  table = ascii_pairs;
  clients = record { name = codes "a"; sids = 7 ∷ [] } ∷ record { name = codes "b"; sids = 9 ∷ [] } ∷ record { name = codes "c"; sids = 8 ∷ [] } ∷ [];
}

abbrev pub asks : ℕ → ℕ → Request → Call
asks client number request = record { client = client; number = number; what = Ask request }

-- what each turn gives out
abbrev outs : List Call → Option (List TurnOut)
outs calls = option_map (λ r. r.outs) (run setup (map plain_entry calls))

abbrev out : Answer → List EndOf → TurnOut
out answer ended = record { answer = answer; ended = ended; starved = [] }

abbrev ended : Status → Body → Answer
ended status body = answer.Ended (record { status = status; body = body })

abbrev pending : Interim → Answer
pending interim = answer.Pending interim

abbrev ends : ℕ → ℕ → Status → Body → EndOf
ends client number status body = record { client = client; number = number; reply = record { status = status; body = body } }

-- ---- the rows

-- a clashing open is held for the break, and refused after the answer; a second answer is none
pub open_held_by_oplock_then_sharing_violation :
    outs (asks 0 1 (Create (codes "\\o") 0x3 0x0 CreateNew 0x0 0x0 1)
    ∷ asks 0 2 (Oplock 1 RWH)
    ∷ asks 1 1 (Create (codes "\\o") 0x1 0x7 OpenExisting 0x0 0x0 0)
    ∷ asks 0 3 (Ack 1 R)
    ∷ asks 0 4 (Ack 1 R)
    ∷ [])
    ≡ Some (
    out (ended Success (body.Opened action.Created)) []
    ∷ out (pending (Granted RWH)) []
    ∷ out (pending Held) (ends 0 2 Success (body.Broken RW true) ∷ [])
    ∷ out (pending (Granted R)) (ends 1 1 SharingViolation body.Nothing ∷ [])
    ∷ out (ended InvalidOplockProtocol body.Nothing) []
    ∷ []
    )
unfolding try_create create_at create_walked create_named create_by_link create_found create_there create_in_file create_stream create_on_stream open_stream open_granted open_existing clashed create_missing make_file try_oplock oplock_at oplock_by oplock_on try_ack ack_at ack_keeping
open_held_by_oplock_then_sharing_violation = refl

-- a write waits for a break that a clashing open began and that was told to keep reads
pub write_waits_for_handle_break :
    outs (asks 0 1 (Create (codes "\\w") 0x1 0x3 CreateNew 0x0 0x0 0)
    ∷ asks 1 1 (Create (codes "\\w") 0x2 0x7 OpenExisting 0x0 0x0 0)
    ∷ asks 0 2 (Oplock 1 RH)
    ∷ asks 2 1 (Create (codes "\\w") 0x10000 0x7 OpenExisting 0x0 0x0 0)
    ∷ asks 1 2 (Write 1 (Some 0) (0x41 ∷ []))
    ∷ asks 0 3 (Ack 1 R)
    ∷ [])
    ≡ Some (
    out (ended Success (body.Opened action.Created)) []
    ∷ out (ended Success (body.Opened action.Opened)) []
    ∷ out (pending (Granted RH)) []
    ∷ out (pending Held) (ends 0 2 Success (body.Broken R true) ∷ [])
    ∷ out (pending Held) []
    ∷ out (ended Success (body.Left Nil)) (ends 2 1 SharingViolation body.Nothing ∷ ends 1 2 Success (body.Count 1) ∷ [])
    ∷ []
    )
unfolding try_create create_at create_walked create_named create_by_link create_found create_there create_in_file create_stream create_on_stream open_stream open_granted open_existing clashed create_missing make_file try_oplock oplock_at oplock_by oplock_on try_ack ack_at ack_keeping try_write write_at write_by write_stream write_at_place write_range write_unlocked write_grown write_bytes
write_waits_for_handle_break = refl

-- a second handle of the same key takes the oplock over; an open that completes while it breaks; a read held until the close
pub oplock_moves_to_handle_of_same_key :
    outs (asks 0 1 (Create (codes "\\k") 0x3 0x7 CreateNew 0x0 0x0 5)
    ∷ asks 0 2 (Oplock 1 RW)
    ∷ asks 0 3 (Create (codes "\\k") 0x1 0x7 OpenExisting 0x0 0x0 5)
    ∷ asks 0 4 (Oplock 3 RWH)
    ∷ asks 1 1 (Create (codes "\\k") 0x1 0x7 OpenExisting 0x100 0x0 0)
    ∷ asks 1 2 (Read 1 0 1)
    ∷ asks 0 5 (Close 3)
    ∷ [])
    ≡ Some (
    out (ended Success (body.Opened action.Created)) []
    ∷ out (pending (Granted RW)) []
    ∷ out (ended Success (body.Opened action.Opened)) []
    ∷ out (pending (Granted RWH)) (ends 0 2 OplockSwitchedToNewHandle body.Nothing ∷ [])
    ∷ out (ended OplockBreakInProgress (body.Opened action.Opened)) (ends 0 4 Success (body.Broken RH true) ∷ [])
    ∷ out (pending Held) []
    ∷ out (ended Success body.Nothing) (ends 1 2 EndOfFile body.Nothing ∷ [])
    ∷ []
    )
unfolding try_create create_at create_walked create_named create_by_link create_found create_there create_in_file create_stream create_on_stream open_stream open_granted open_existing clashed create_missing make_file try_oplock oplock_at oplock_by oplock_on try_read read_at read_by read_stream read_range read_unlocked read_bytes try_close close_at with_closed
oplock_moves_to_handle_of_same_key = refl

-- an answer that keeps reading is pending, and cancelling it gives the oplock up
pub ack_kept_then_cancelled :
    outs (asks 0 1 (Create (codes "\\o") 0x3 0x0 CreateNew 0x0 0x0 1)
    ∷ asks 0 2 (Oplock 1 RWH)
    ∷ asks 1 1 (Create (codes "\\o") 0x1 0x7 OpenExisting 0x0 0x0 0)
    ∷ asks 0 3 (Ack 1 R)
    ∷ asks 0 4 (Cancel 3)
    ∷ [])
    ≡ Some (
    out (ended Success (body.Opened action.Created)) []
    ∷ out (pending (Granted RWH)) []
    ∷ out (pending Held) (ends 0 2 Success (body.Broken RW true) ∷ [])
    ∷ out (pending (Granted R)) (ends 1 1 SharingViolation body.Nothing ∷ [])
    ∷ out (ended Success body.Nothing) (ends 0 3 Cancelled body.Nothing ∷ [])
    ∷ []
    )
unfolding try_create create_at create_walked create_named create_by_link create_found create_there create_in_file create_stream create_on_stream open_stream open_granted open_existing clashed create_missing make_file try_oplock oplock_at oplock_by oplock_on try_ack ack_at ack_keeping try_cancel
ack_kept_then_cancelled = refl

-- and no oplock is left then
pub cancelled_gives_up :
    option_map (λ r. r.volume.oplocks) (run setup (map plain_entry (asks 0 1 (Create (codes "\\o") 0x3 0x0 CreateNew 0x0 0x0 1)
    ∷ asks 0 2 (Oplock 1 RWH)
    ∷ asks 1 1 (Create (codes "\\o") 0x1 0x7 OpenExisting 0x0 0x0 0)
    ∷ asks 0 3 (Ack 1 R)
    ∷ asks 0 4 (Cancel 3)
    ∷ [])))
    ≡ Some []
unfolding try_create create_at create_walked create_named create_by_link create_found create_there create_in_file create_stream create_on_stream open_stream open_granted open_existing clashed create_missing make_file try_oplock oplock_at oplock_by oplock_on try_ack ack_at ack_keeping try_cancel
cancelled_gives_up = refl
