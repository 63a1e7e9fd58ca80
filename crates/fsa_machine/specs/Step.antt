-- What the code sees of a pending call, the room that it takes for copies of a reply, and ends that hold nothing.
use Rattle.std.specs.Prelude.{ℕ, ◌≤◌, List, [], ◌∷◌, All, Option, None, option_map}
use Rattle.fsa_types.specs.declared.reply.Body.TheVariants.{Nothing}
use Rattle.fsa_types.specs.declared.reply.EndOf.{EndOf}
use Rattle.fsa_types.specs.declared.request.Request.TheVariants.{Notify}
use Rattle.fsa_types.specs.declared.request.What.{What}
use Rattle.fsa_types.specs.declared.request.What.TheVariants.{Ask}
use Rattle.fsa_model.specs.Frame.{IsBare, most_reply_bytes, most_reply_units}
use Rattle.fsa_types.specs.declared.status.Status.TheVariants.{NoMemory}
use Rattle.fsa_model.specs.Edits.{with_end}
use Rattle.fsa_model.specs.Lookups.{handle_of}
use Rattle.fsa_model.specs.Settling.{TakesNext}
use Rattle.fsa_model.specs.Volume.{Pending, Volume}
use Rattle.fsa_model.specs.Waiting.{is_held}
use Rattle.fsa_machine.specs.declared.replies.ReplyRooms.{ReplyRooms}
use Rattle.fsa_machine.specs.declared.store.Ready.{Ready}
use Rattle.fsa_machine.specs.declared.store.Report.{Report}

-- what is reported to a Notify, where its handle is there
abbrev pub report_to : Volume → ℕ → What → Option Report
report_to v client (Ask (Notify handle filter tree room)) = option_map (λ id. record { handle = id; room = room }) (handle_of v client handle)
report_to v client _ = None

-- what the code sees of a call that is ready
abbrev pub ready_of : Volume → ℕ × Pending → Ready
ready_of v entry = record {
  turn = entry.0;
  client = entry.1.call.client;
  number = entry.1.call.number;
  held = is_held entry.1;
  report = report_to v entry.1.call.client entry.1.call.what;
}

-- the ready call may find no memory: it ends so then, and nothing else changes
abbrev pub Starves : Volume → Ready → Type 0
Starves v ready =
    TakesNext v (record { client = ready.client; number = ready.number } ∷ []) (with_end v ready.client ready.number (record { status = NoMemory; body = Nothing }))

-- there is room for two copies of a reply to this
pub record HasReplyRoom (what : What) (rooms : ReplyRooms) : Type 0 where
  pub kept_bytes : most_reply_bytes what ≤ rooms.kept.bytes
  pub kept_units : most_reply_units what ≤ rooms.kept.units
  pub given_bytes : most_reply_bytes what ≤ rooms.given.bytes
  pub given_units : most_reply_units what ≤ rooms.given.units

-- there is room for two copies of a report of so many bytes
pub record HasReportRoom (size : ℕ) (rooms : ReplyRooms) : Type 0 where
  pub kept : size ≤ rooms.kept.bytes
  pub given : size ≤ rooms.given.bytes

-- the replies of these ends have neither bytes nor units
abbrev pub AreBare : List EndOf → Type 0
AreBare ends = All (λ end. IsBare end.reply.body) ends
