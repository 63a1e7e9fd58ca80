-- The printed text of a history.
use Rattle.std.specs.Prelude.{ℕ, List, [], ◌∷◌, ◌++◌, length, slice_get, codes, decimal, false, true, nat_eq, ◌==◌, Bool}
use Rattle.std.specs.List.{slice_split, list_any}
use Rattle.std.specs.Cmp.Lexicographic.{pointwise}
use Rattle.std.specs.Option.{option_map_or}
use Rattle.fsa_types.specs.Status.{status_name}
use Rattle.fsa_types.specs.declared.request.Call.{Call}
use Rattle.fsa_types.specs.declared.reply.Action.{Action}
use Rattle.fsa_types.specs.declared.reply.Action.TheVariants.{Superseded, Opened as WasOpened, Created, Overwritten}
use Rattle.fsa_types.specs.declared.reply.Body.{Body}
use Rattle.fsa_types.specs.declared.reply.Body.TheVariants.{Nothing, Opened, Got, Count, Packed, Broken, Left, Stopped, Quota}
use Rattle.fsa_types.specs.declared.reply.Reply.{Reply}
use Rattle.fsa_types.specs.declared.reply.Interim.{Interim}
use Rattle.fsa_types.specs.declared.reply.Interim.TheVariants.{Held, LockWait, Watch, Granted, Waiting}
use Rattle.fsa_types.specs.declared.reply.Answer.{Answer}
use Rattle.fsa_types.specs.declared.reply.Answer.TheVariants.{Ended, Pending}
use Rattle.fsa_types.specs.declared.reply.EndOf.{EndOf}
use Rattle.fsa_model.specs.Setup.{Client, Script}
use Rattle.fsa_model.specs.FieldText.{mask_text, text_text}
pub use Rattle.fsa_model.specs.FieldText.{bytes_text, hex_digits, level_word}
use Rattle.fsa_model.specs.PackedText.{packed_text}
use Rattle.fsa_model.specs.Verbs.{verb}
use Rattle.fsa_model.specs.Outcome.{TurnOut}
use Rattle.fsa_model.specs.History.{HistoryEntry, run}

abbrev pub action_text : Action → List ℕ
action_text Superseded = codes " superseded"
action_text WasOpened = codes " opened"
action_text Created = codes " created"
action_text Overwritten = codes " overwritten"

-- an acknowledgement is wanted
abbrev pub wanted_text : Bool → List ℕ
wanted_text true = codes " ack"
wanted_text false = []

-- what follows the status
abbrev pub body_text : Body → List ℕ
body_text Nothing = []
body_text (Opened action) = action_text action
body_text (Got bytes) = 32 ∷ bytes_text bytes
body_text (Count count) = 32 ∷ decimal count
body_text (Broken level ack) = codes " broken " ++ level_word level ++ wanted_text ack
body_text (Left level) = 32 ∷ level_word level
body_text (Stopped tag bytes rest) = mask_text tag ++ 32 ∷ bytes_text bytes ++ text_text rest
body_text (Quota charge limit) = 32 ∷ decimal charge ++ 32 ∷ decimal limit
body_text (Packed kind bytes) = 32 ∷ bytes_text bytes ++ packed_text kind bytes

abbrev pub interim_text : Interim → List ℕ
interim_text Held = codes " held"
interim_text LockWait = codes " lock"
interim_text Watch = codes " watch"
interim_text (Granted level) = codes " granted " ++ level_word level
interim_text Waiting = codes " waiting"

-- the client's name
abbrev pub name_of : List Client → ℕ → List ℕ
name_of clients client = option_map_or (λ c. c.name) (slice_get clients client) []

-- a call's client and number
abbrev pub call_text : List Client → ℕ → ℕ → List ℕ
call_text clients client number = name_of clients client ++ 32 ∷ decimal number

-- the line of a call that has ended
abbrev pub end_line : List Client → ℕ → ℕ → Reply → List ℕ
end_line clients client number reply =
    call_text clients client number ++ 32 ∷ status_name reply.status ++ body_text reply.body ++ 10 ∷ []

-- the line that answers the turn's own call
abbrev pub answer_line : List Client → Call → Answer → List ℕ
answer_line clients call (Ended reply) = end_line clients call.client call.number reply
answer_line clients call (Pending interim) = call_text clients call.client call.number ++ codes " PENDING" ++ interim_text interim ++ 10 ∷ []

-- the lines of the calls that ended besides
abbrev pub ended_lines : List Client → List EndOf → List ℕ
ended_lines clients [] = []
ended_lines clients (end ∷ more) = end_line clients end.client end.number end.reply ++ ended_lines clients more

-- the lines of one turn
abbrev pub turn_text : List Client → Call → TurnOut → List ℕ
turn_text clients call out =
    codes "> " ++ call_text clients call.client call.number ++ 32 ∷ verb call.what ++ 10 ∷ []
    ++ answer_line clients call out.answer
    ++ ended_lines clients out.ended

-- the lines of these turns, each with what it gave out
abbrev pub turns_text : List Client → List HistoryEntry → List TurnOut → List ℕ
turns_text clients [] outs = []
turns_text clients (entry ∷ more) [] = []
turns_text clients (entry ∷ more) (out ∷ outs) = turn_text clients entry.call out ++ turns_text clients more outs

-- the last line: the number of turns
abbrev pub last_line : ℕ → List ℕ
last_line turns = codes "end " ++ decimal turns ++ 10 ∷ []

-- the lines of the history's turns
abbrev pub shown_turns : Script → List HistoryEntry → List ℕ
shown_turns script history = option_map_or (λ r. turns_text script.setup.clients history r.outs) (run script.setup history) []

-- the whole text of the history
abbrev pub text : Script → List HistoryEntry → List ℕ
text script history = shown_turns script history ++ last_line (length history)

-- the third word of a line is NO_MEMORY: a call ended for want of memory
abbrev pub line_shows_no_memory : List ℕ → Bool
line_shows_no_memory line =
    option_map_or (λ word. pointwise nat_eq word (codes "NO_MEMORY")) (slice_get (slice_split (λ byte. byte == 32) line) 2) false

-- some line of a text shows NO_MEMORY
abbrev pub shows_no_memory : List ℕ → Bool
shows_no_memory bytes = list_any line_shows_no_memory (slice_split (λ byte. byte == 10) bytes)
