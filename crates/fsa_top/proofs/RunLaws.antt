-- Laws of a run: one more turn, and its end; what was written is a part of the text of a schedule with all calls.
use Rattle.std.proofs.Common.{◌≡◌, ℕ, ◌+◌, ◌<◌, ◌≤◌, Result, Ok, Err, OnErr, OnOk, List, [], ◌∷◌, ◌++◌, length, length-append, length-set, get_or, not, map, take, ◌⊎◌, Some, None, All, ap, sym, subst, ◌∙◌, append_assoc, arith, inl, inr}
use Rattle.std.specs.Prelude.{option_and_then, slice_get, slice_index_or, slice_set}
use Rattle.std.proofs.lemmas.List.Elements.{All-cons, All-nil}
use Rattle.std.proofs.lemmas.Option.{slice_get-get_or}
use Rattle.fsa_types.specs.declared.request.Call.{Call}
use Rattle.fsa_types.specs.declared.setup.Client.{Client as GivenClient}
use Rattle.fsa_model.specs.Bounds.{most_entries}
use Rattle.fsa_model.specs.History.{HistoryEntry, Run, begun, run, turn_on, with_turn}
use Rattle.fsa_model.specs.LineCalls.{HaveSids, IsLineCall}
use Rattle.fsa_model.specs.Outcome.{TurnOut}
use Rattle.fsa_model.specs.Schedule.{HasAllCalls, Scheduled, all_calls, calls_of, leave_after, next, next_in, is_made}
use Rattle.fsa_model.specs.Setup.{Script, Setup, client_of}
use Rattle.fsa_model.specs.Text.{last_line, shown_turns, text, turn_text}
use Rattle.fsa_model.specs.Turn.{Turned, turn}
use Rattle.fsa_model.specs.Waiting.{waits}
use Rattle.fsa_model.proofs.CountLaws.{how_many-length}
use Rattle.fsa_model.proofs.HistoryLaws.{shown_turns-push, steps-push}
use Rattle.fsa_model.proofs.RowLaws.{option_cases}
use Rattle.fsa_model.proofs.ScheduleLaws.{Scheduled-none, Scheduled-push}
use Rattle.fsa_model.proofs.ScriptLaws.{all_calls-numbered}
use Rattle.fsa_model.proofs.SettleLaws.{some_equal}
use Rattle.history_laws.specs.Cursors.{StandAt, first_from, first_of}
use Rattle.history_laws.specs.Named.{IsReadScript}
use Rattle.history_laws.specs.GoesOn.{GoesOnTo, how_many_left}
use Rattle.history_laws.proofs.CursorLaws.{first_from-is}
use Rattle.history_laws.proofs.NextLaws.{AreLineCalls-all, AreLineCalls-at}
use Rattle.history_laws.proofs.OrderLaws.{call_within, calls-begun, calls-go, next-all, next-least, next-none, next_at_cursor}
use Rattle.history_laws.proofs.PlaceLaws.{is_same-at, is_same-self, number_at}
use Rattle.history_laws.proofs.PlainText.{text-plain}
use Rattle.history_laws.proofs.SameText.{same_text}
use Rattle.history_laws.proofs.WholeLaws.{Scheduled-goes_on, left_falls, some_run}
use Rattle.fsa_machine.specs.MachineView.{MachineView}
use Rattle.wire_io.specs.Sink.{Written, Appends, AppendsPart}
use Rattle.wire_io.proofs.SinkLaws.{AppendsPart-longer, AppendsPart-whole}
use Rattle.text_out.specs.Writes.{AddsText, Finishes, Gathers, GivesUp}
use Rattle.text_out.proofs.GatherLaws.{Gathers-all, Gathers-append, Gathers-more, Gathers-more_part, Gathers-none, Gathers-part}
use Rattle.text_out.specs.declared.write.TextFault.{TextFault}
use Rattle.text_out.specs.declared.write.TextFault.TheVariants.{Failed, NoMemory}
use Rattle.fsa_top.specs.Order.{AreNextPlaces, IsLeastCursor, IsWithinLimits}
use Rattle.fsa_top.proofs.RaceLaws.{scheduled-throughout}
use Rattle.fsa_top.specs.Runs.{IsHistory, WritesPart, WritesText}
use Rattle.fsa_top.specs.Progress.{IsNextAt, TurnWasMade, MakesTurn, WroteTurns, Progress}
use Rattle.fsa_top.specs.declared.order.Order.{Order}
use Rattle.fsa_top.proofs.OrderLaws.{length-all_calls}

pub OnErr-any : {T E : Type 0} (r : Result T E) (P : Type 0) → P → OnErr r P
OnErr-any (Ok x) P p = tt
OnErr-any (Err e) P p = p

-- clients that have SIDs, as they are given
pub HaveSids-given : (clients : List GivenClient) → HaveSids (map client_of clients) → All (λ client. 0 < length client.sids.items) clients
HaveSids-given [] have = All-nil (λ (client : GivenClient). 0 < length client.sids.items)
HaveSids-given (client ∷ clients) have = All-cons (λ (client : GivenClient). 0 < length client.sids.items) client clients have.0 (HaveSids-given clients have.1)

-- ---- the turn of a longer history

-- the run before the last turn, and that turn
record LastTurn (setup : Setup) (history : List HistoryEntry) (entry : HistoryEntry) (state : Run) : Type 0 where
  before : Run
  turned : Turned
  runs : run setup history ≡ Some before
  turns : turn before.volume entry.call entry.starved ≡ Some turned
  is : with_turn before turned ≡ state

last_turn : (setup : Setup) (history : List HistoryEntry) (entry : HistoryEntry) (state : Run) → run setup (history ++ entry ∷ []) ≡ Some state → LastTurn setup history entry state
last_turn setup history entry state is = of (option_cases (run setup history)) (sym (steps-push turn_on (begun setup) history entry) ∙ is)
  where
    of : (run setup history ≡ None) ⊎ ((r : Run) × (run setup history ≡ Some r)) → option_and_then (λ (after : Run). turn_on after entry) (run setup history) ≡ Some state → LastTurn setup history entry state
    of (inl none) goes = absurd (let impossible : None ≡ Some state = rw none at goes in cc)
    of (inr some) goes = elim (option_cases (turn some.0.volume entry.call entry.starved)) [
      | inl none ↦ absurd (let impossible : None ≡ Some state = rw (some.1, none) at goes in cc)
      | inr turned ↦ record { before = some.0; turned = turned.0; runs = some.1; turns = turned.1; is = some_equal _ state (rw (some.1, turned.1) at goes) }
    ]

last_same : {X : Type 0} (xs ys : List X) (x y : X) → xs ++ x ∷ [] ≡ ys ++ y ∷ [] → x ≡ y
last_same [] [] x y same = cc
last_same [] (first ∷ ys) x y same = absurd (let long : length ([] ++ x ∷ []) ≡ length (first ∷ ys ++ y ∷ []) = ap length same in let more : length (ys ++ y ∷ []) ≡ length ys + 1 = length-append ys (y ∷ []) in omega arith)
last_same (first ∷ xs) [] x y same = absurd (let long : length (first ∷ xs ++ x ∷ []) ≡ length ([] ++ y ∷ []) = ap length same in let more : length (xs ++ x ∷ []) ≡ length xs + 1 = length-append xs (x ∷ []) in omega arith)
last_same (first ∷ xs) (other ∷ ys) x y same = last_same xs ys x y (let rest : xs ++ x ∷ [] ≡ ys ++ y ∷ [] = cc in rest)

-- the machine's turn is a turn of the script's history
record MakesNext (script : Script) (old : MachineView) (call : Call) (out : TurnOut) : Type 0 where
  before : Run
  turned : Turned
  runs : run script.setup old.entries ≡ Some before
  turns : turn before.volume call out.starved ≡ Some turned
  out_is : turned.out ≡ out

makes_next : (script : Script) (old new : MachineView) (call : Call) (out : TurnOut) → old.setup ≡ script.setup → TurnWasMade old new call out → MakesNext script old call out
makes_next script old new call out setup made =
    let runs : run script.setup (old.entries ++ record { call = call; starved = out.starved } ∷ []) ≡ Some made.gave.state
    = ap (λ (s : Setup). run s (old.entries ++ record { call = call; starved = out.starved } ∷ [])) (sym (made.setup ∙ setup)) ∙ ap (run new.setup) (sym made.entries) ∙ made.gave.runs in
    let last : LastTurn script.setup old.entries (record { call = call; starved = out.starved }) made.gave.state = last_turn script.setup old.entries (record { call = call; starved = out.starved }) made.gave.state runs in
    record {
      before = last.before;
      turned = last.turned;
      runs = last.runs;
      turns = last.turns;
      out_is = last_same last.before.outs made.gave.before last.turned.out out (ap (λ (r : Run). r.outs) last.is ∙ made.gave.last);
    }

next_is : (script : Script) (history : List HistoryEntry) (call : Call) (before : Run) → run script.setup history ≡ Some before → next script history ≡ Some call → next_in (all_calls script) history before.volume ≡ Some call
next_is script history call before runs is = sym (ap (option_and_then (λ (r : Run). next_in (all_calls script) history r.volume)) runs) ∙ is

-- ---- one more turn

pub scheduled-turn : (script : Script) (old new : MachineView) (call : Call) (out : TurnOut) → old.setup ≡ script.setup → Scheduled script old.entries → next script old.entries ≡ Some call → TurnWasMade old new call out
    → Scheduled script new.entries
scheduled-turn script old new call out setup scheduled is made =
    let turns : MakesNext script old call out = makes_next script old new call out setup made in
    subst (Scheduled script) (sym made.entries)
    (Scheduled-push script old.entries (record { call = call; starved = out.starved }) turns.before turns.turned scheduled turns.runs (next_is script old.entries call turns.before turns.runs is) turns.turns)

shown-turn : (script : Script) (old new : MachineView) (call : Call) (out : TurnOut) → old.setup ≡ script.setup → TurnWasMade old new call out
    → shown_turns script new.entries ≡ shown_turns script old.entries ++ turn_text old.setup.clients call out
shown-turn script old new call out setup made =
    let turns : MakesNext script old call out = makes_next script old new call out setup made in
    ap (shown_turns script) made.entries
    ∙ shown_turns-push script old.entries (record { call = call; starved = out.starved }) turns.before turns.turned turns.runs turns.turns
    ∙ ap (λ (o : TurnOut). shown_turns script old.entries ++ turn_text script.setup.clients call o) turns.out_is
    ∙ ap (λ (s : Setup). shown_turns script old.entries ++ turn_text s.clients call out) (sym setup)

pub WroteTurns-turn : (script : Script) (old new : MachineView) (call : Call) (out : TurnOut) (first mid now : Written) (gathered gathered_now : List ℕ) → old.setup ≡ script.setup → next script old.entries ≡ Some call → TurnWasMade old new call out
    → Gathers mid now gathered gathered_now (turn_text old.setup.clients call out) → WroteTurns script old.entries first mid gathered → WroteTurns script new.entries first now gathered_now
WroteTurns-turn script old new call out first mid now gathered gathered_now setup is made wrote shows = record {
  scheduled = scheduled-turn script old new call out setup shows.scheduled is made;
  wrote = subst (Gathers first now [] gathered_now) (sym (shown-turn script old new call out setup made)) (Gathers-append first mid now [] gathered gathered_now _ _ shows.wrote wrote);
}

-- fewer calls are left
pub left-turn : (script : Script) (old new : MachineView) (call : Call) (out : TurnOut) → old.setup ≡ script.setup → next script old.entries ≡ Some call → TurnWasMade old new call out
    → how_many_left script new.entries < how_many_left script old.entries
left-turn script old new call out setup is made =
    let turns : MakesNext script old call out = makes_next script old new call out setup made in
    subst (λ (history : List HistoryEntry). how_many_left script history < how_many_left script old.entries) (sym made.entries)
    (left_falls script old.entries (record { call = call; starved = out.starved }) turns.before.volume (next_is script old.entries call turns.before turns.runs is))

-- ---- the next call

-- it stands at its client's cursor
pub at_cursor : (script : Script) (seen : MachineView) (order : Order) (place : ℕ) (call : Call) → Progress script seen order → next script seen.entries ≡ Some call → slice_get (all_calls script) place ≡ Some call
    → slice_index_or order.places.items call.client 0 ≡ place
at_cursor script seen order place call stands is at =
    let r = some_run script seen.entries stands.scheduled in
    let there : slice_get (all_calls script) (slice_index_or order.places.items call.client 0) ≡ Some call
    = next_at_cursor script seen.entries order.places.items r.0.volume call stands.is_read stands.cursors stands.long (next_is script seen.entries call r.0 r.1 is) in
    is_same-at (all_calls script) (slice_index_or order.places.items call.client 0) place call call (all_calls-numbered script stands.is_read.numbered) there at (is_same-self call)

-- a turn of it may be made
pub next-asked : (script : Script) (seen : MachineView) (order : Order) (place : ℕ) (call : Call) → Progress script seen order → next script seen.entries ≡ Some call → slice_get (all_calls script) place ≡ Some call
    → IsLineCall (length seen.setup.clients) call × (call.number ≡ calls_of call.client (map (λ entry. entry.call) seen.entries) + 1)
next-asked script seen order place call stands is at =
    let fits : IsLineCall (length script.setup.clients) call = AreLineCalls-at (length script.setup.clients) (all_calls script) place call (AreLineCalls-all script stands.is_read.fit) at in
    let number : call.number ≡ calls_of call.client (take place (all_calls script)) + 1 = number_at [] (all_calls script) place call (all_calls-numbered script stands.is_read.numbered) at in
    let inside : call.client < length script.setup.clients = call_within script place call stands.is_read at in
    let counts : calls_of call.client (map (λ (entry : HistoryEntry). entry.call) seen.entries) ≡ calls_of call.client (take (slice_index_or order.places.items call.client 0) (all_calls script)) = stands.cursors.counts call.client (omega (arith, inside, stands.long)) in
    let here : calls_of call.client (take (slice_index_or order.places.items call.client 0) (all_calls script)) ≡ calls_of call.client (take place (all_calls script)) = ap (λ (p : ℕ). calls_of call.client (take p (all_calls script))) (at_cursor script seen order place call stands is at) in (
      subst (λ (s : Setup). IsLineCall (length s.clients) call) (sym stands.setup) fits,
      omega (arith, number, counts, here),
    )

-- after its turn
pub Progress-turn : (script : Script) (old new : MachineView) (order later : Order) (place : ℕ) (call : Call) (out : TurnOut) → Progress script old order → next script old.entries ≡ Some call → slice_get (all_calls script) place ≡ Some call
    → TurnWasMade old new call out → later.following ≡ order.following → later.places.items ≡ slice_set order.places.items call.client (first_from call.client (place + 1) (all_calls script)) → Progress script new later
Progress-turn script old new order later place call out stands is at made following places =
    let cursor : slice_index_or order.places.items call.client 0 ≡ place = at_cursor script old order place call stands is at in
    let goes : StandAt (all_calls script) (old.entries ++ record { call = call; starved = out.starved } ∷ []) (slice_set order.places.items call.client (first_from call.client (slice_index_or order.places.items call.client 0 + 1) (all_calls script)))
    = calls-go script old.entries order.places.items (record { call = call; starved = out.starved }) stands.is_read stands.cursors stands.long (ap (slice_get (all_calls script)) cursor ∙ at) in
    record {
      is_read = stands.is_read;
      within = stands.within;
      setup = made.setup ∙ stands.setup;
      scheduled = scheduled-turn script old new call out stands.setup stands.scheduled is made;
      few = (let falls = left-turn script old new call out stands.setup is made in
          let long : length new.entries ≡ length old.entries + 1 = ap (λ (h : List HistoryEntry). length h) made.entries ∙ length-append old.entries (record { call = call; starved = out.starved } ∷ []) in
          omega (arith, falls, long, stands.few));
      follows = subst (λ (f : List ℕ). AreNextPlaces script f) (sym (ap (λ f. f.items) following)) stands.follows;
      long = ap length places ∙ length-set order.places.items call.client _ ∙ stands.long;
      cursors = subst (λ (history : List HistoryEntry). StandAt (all_calls script) history later.places.items) (sym made.entries)
          (subst (StandAt (all_calls script) (old.entries ++ record { call = call; starved = out.starved } ∷ []))
          (ap (λ (p : ℕ). slice_set order.places.items call.client (first_from call.client (p + 1) (all_calls script))) cursor ∙ sym places) goes);
    }

-- ---- before the first turn

pub Progress-begun : (script : Script) (seen : MachineView) (order : Order) → IsReadScript script → IsWithinLimits script → seen.setup ≡ script.setup → seen.entries ≡ [] → AreNextPlaces script order.following.items
    → length order.places.items ≡ length script.setup.clients → ((client : ℕ) → client < length order.places.items → slice_index_or order.places.items client 0 ≡ first_of client (all_calls script)) → Progress script seen order
Progress-begun script seen order is_read within setup none follows long first = record {
  is_read = is_read;
  within = within;
  setup = setup;
  scheduled = subst (Scheduled script) (sym none) (Scheduled-none script);
  few = (let all = how_many-length (λ (c : Call). not (is_made [] c)) (all_calls script) in
      subst (λ (h : List HistoryEntry). length h + how_many_left script h ≤ length (all_calls script)) (sym none) (omega (arith, all)));
  follows = follows;
  long = long;
  cursors = subst (λ (history : List HistoryEntry). StandAt (all_calls script) history order.places.items) (sym none) (calls-begun script order.places.items is_read long first);
}

pub WroteTurns-begun : (script : Script) (history : List HistoryEntry) (written : Written) (gathered : List ℕ) → history ≡ [] → gathered ≡ [] → WroteTurns script history written written gathered
WroteTurns-begun script history written gathered none empty =
    subst (WroteTurns script history written written) (sym empty)
    (subst (λ (h : List HistoryEntry). WroteTurns script h written written []) (sym none) (record { scheduled = Scheduled-none script; wrote = Gathers-none written [] }))

-- ---- what was written so far

-- a turn was made, and its lines were added so
pub MakesTurn-made : (old new : MachineView) (call : Call) (out : TurnOut) (before now : Written) (gathered gathered_now : List ℕ) (result : Result (Unit {0}) TextFault) → TurnWasMade old new call out
    → AddsText before now gathered gathered_now (turn_text old.setup.clients call out) result → MakesTurn old new call before now gathered gathered_now result
MakesTurn-made old new call out before now gathered gathered_now (Ok done) made wrote = (out, made, wrote)
MakesTurn-made old new call out before now gathered gathered_now (Err Failed) made wrote = inl (out, made, wrote.0)
MakesTurn-made old new call out before now gathered gathered_now (Err NoMemory) made wrote = wrote.0

-- none was made, and what was gathered was put
pub MakesTurn-none : (old new : MachineView) (call : Call) (before now : Written) (gathered gathered_now : List ℕ) (fault : TextFault) → GivesUp before now gathered gathered_now fault → MakesTurn old new call before now gathered gathered_now (Err fault)
MakesTurn-none old new call before now gathered gathered_now Failed put = inr put.0
MakesTurn-none old new call before now gathered gathered_now NoMemory put = put.0

some_last : (rest : List ℕ) (turns : ℕ) → 0 < length (rest ++ last_line turns)
some_last rest turns = omega (arith, length-append rest (last_line turns))

-- the text is what was shown, and more
text_split : (script : Script) (whole : List HistoryEntry) (shown rest : List ℕ) → shown_turns script whole ≡ shown ++ rest → text script whole ≡ shown ++ (rest ++ last_line (length whole))
text_split script whole shown rest is = ap (λ (lines : List ℕ). lines ++ last_line (length whole)) is ∙ append_assoc shown rest (last_line (length whole))

whole_part : (script : Script) (history whole : List HistoryEntry) (first now : Written) → (goes : GoesOnTo script history whole)
    → AppendsPart first now (shown_turns script history ++ (goes.shows.0 ++ last_line (length whole))) → WritesPart script first now
whole_part script history whole first now goes part =
    (whole, goes.scheduled, goes.all, scheduled-throughout script whole goes.scheduled, subst (AppendsPart first now) (sym (text_split script whole (shown_turns script history) goes.shows.0 goes.shows.1)) part)

-- what was gathered was put
WroteTurns-put : (script : Script) (history : List HistoryEntry) (first mid now : Written) (gathered : List ℕ) → IsReadScript script → WroteTurns script history first mid gathered → Appends mid now gathered → WritesPart script first now
WroteTurns-put script history first mid now gathered is_read shows put =
    let goes = Scheduled-goes_on script history is_read shows.scheduled in
    whole_part script history goes.0 first now goes.1
    (AppendsPart-whole first now (shown_turns script history) (goes.1.shows.0 ++ last_line (length goes.0)) (some_last goes.1.shows.0 (length goes.0))
    (Gathers-all first mid now [] gathered (shown_turns script history) shows.wrote put))

-- or a part of it
WroteTurns-part : (script : Script) (history : List HistoryEntry) (first mid now : Written) (gathered : List ℕ) → IsReadScript script → WroteTurns script history first mid gathered → AppendsPart mid now gathered → WritesPart script first now
WroteTurns-part script history first mid now gathered is_read shows part =
    let goes = Scheduled-goes_on script history is_read shows.scheduled in
    whole_part script history goes.0 first now goes.1
    (AppendsPart-longer first now (shown_turns script history) (goes.1.shows.0 ++ last_line (length goes.0)) (Gathers-part first mid now [] gathered (shown_turns script history) shows.wrote part))

-- so it is with a part of that and of the lines of the next turn
WroteTurns-front : (script : Script) (old new : MachineView) (call : Call) (out : TurnOut) (first mid now : Written) (gathered : List ℕ) → IsReadScript script → old.setup ≡ script.setup → next script old.entries ≡ Some call → TurnWasMade old new call out
    → AppendsPart mid now (gathered ++ turn_text old.setup.clients call out) → WroteTurns script old.entries first mid gathered → WritesPart script first now
WroteTurns-front script old new call out first mid now gathered is_read setup is made front shows =
    let goes = Scheduled-goes_on script new.entries is_read (scheduled-turn script old new call out setup shows.scheduled is made) in
    whole_part script new.entries goes.0 first now goes.1
    (AppendsPart-longer first now (shown_turns script new.entries) (goes.1.shows.0 ++ last_line (length goes.0))
    (subst (AppendsPart first now) (sym (shown-turn script old new call out setup made)) (Gathers-more_part first mid now [] gathered _ _ shows.wrote front)))

-- a turn that wasn't made, or whose lines weren't added
pub MakesTurn-part : (script : Script) (old new : MachineView) (call : Call) (first mid now : Written) (gathered gathered_now : List ℕ) (fault : TextFault) → IsReadScript script → old.setup ≡ script.setup → next script old.entries ≡ Some call
    → MakesTurn old new call mid now gathered gathered_now (Err fault) → WroteTurns script old.entries first mid gathered → WritesPart script first now
MakesTurn-part script old new call first mid now gathered gathered_now Failed is_read setup is makes shows = elim makes [
  | inl some ↦ WroteTurns-front script old new call some.0 first mid now gathered is_read setup is some.1 some.2 shows
  | inr part ↦ WroteTurns-part script old.entries first mid now gathered is_read shows part
]
MakesTurn-part script old new call first mid now gathered gathered_now NoMemory is_read setup is makes shows = WroteTurns-put script old.entries first mid now gathered is_read shows makes

-- ---- the end

-- a part of what is gathered and of the last line was written, behind the lines of all turns but these; or what is
-- gathered was
WroteTurns-last_part : (script : Script) (history : List HistoryEntry) (first mid now : Written) (gathered gathered_now : List ℕ) (fault : TextFault) → HasAllCalls script history → WroteTurns script history first mid gathered → Finishes mid now gathered gathered_now (last_line (length history)) (Err fault)
    → WritesPart script first now
WroteTurns-last_part script history first mid now gathered gathered_now Failed all shows last =
    (history, shows.scheduled, all, scheduled-throughout script history shows.scheduled, Gathers-more_part first mid now [] gathered _ _ shows.wrote last.0)
WroteTurns-last_part script history first mid now gathered gathered_now NoMemory all shows last =
    (history, shows.scheduled, all, scheduled-throughout script history shows.scheduled, AppendsPart-whole first now (shown_turns script history) (last_line (length history)) (omega arith) (Gathers-all first mid now [] gathered _ shows.wrote last.0))

-- a schedule that has all calls is the one history with its text
pub history-one : (script : Script) (history : List HistoryEntry) → IsReadScript script → Scheduled script history → HasAllCalls script history → IsHistory script history
history-one script history is_read scheduled all = record {
  scheduled = scheduled;
  whole = all;
  only = λ other others whole same. same_text script history other is_read scheduled all others whole same;
  throughout = scheduled-throughout script history scheduled;
  plainly = λ none. text-plain script history is_read scheduled all none;
}

-- all of it and the last line were
WroteTurns-whole : (script : Script) (history : List HistoryEntry) (first mid now : Written) (gathered : List ℕ) → IsReadScript script → HasAllCalls script history → WroteTurns script history first mid gathered → Appends mid now (gathered ++ last_line (length history))
    → WritesText script first now
WroteTurns-whole script history first mid now gathered is_read all shows last = (history, history-one script history is_read shows.scheduled all, Gathers-more first mid now [] gathered _ _ shows.wrote last)

pub WroteTurns-finished : (script : Script) (history : List HistoryEntry) (first mid now : Written) (gathered gathered_now : List ℕ) (result : Result (Unit {0}) TextFault) → IsReadScript script → HasAllCalls script history → WroteTurns script history first mid gathered
    → Finishes mid now gathered gathered_now (last_line (length history)) result → OnOk result (WritesText script first now) × OnErr result (WritesPart script first now)
WroteTurns-finished script history first mid now gathered gathered_now (Ok done) is_read all shows last = (WroteTurns-whole script history first mid now gathered is_read all shows last.0, tt)
WroteTurns-finished script history first mid now gathered gathered_now (Err fault) is_read all shows last = (tt, WroteTurns-last_part script history first mid now gathered gathered_now fault all shows last)

-- where no call is next
pub Progress-all : (script : Script) (seen : MachineView) (order : Order) → Progress script seen order → next script seen.entries ≡ None → HasAllCalls script seen.entries
Progress-all script seen order stands none = next-all script seen.entries stands.is_read stands.scheduled none

-- ---- where the next call stands

abbrev pub LeastOf : MachineView → Order → ℕ → Type 0
LeastOf seen order place =
    (r : Run) → run seen.setup seen.entries ≡ Some r → IsLeastCursor (λ client. waits r.volume client) order.places.items (length order.places.items) (length order.following.items + length order.places.items) place

all_long : (script : Script) (seen : MachineView) (order : Order) → Progress script seen order → length order.following.items + length order.places.items ≡ length (all_calls script)
all_long script seen order stands =
    let long : length (all_calls script) ≡ length script.lines + length script.setup.clients = length-all_calls script in
    omega (arith, long, stands.long, stands.follows.long)

run_here : (script : Script) (seen : MachineView) (r : Run) → seen.setup ≡ script.setup → run script.setup seen.entries ≡ Some r → run seen.setup seen.entries ≡ Some r
run_here script seen r same runs = ap (λ (s : Setup). run s seen.entries) same ∙ runs

-- at the least cursor
pub next_here : (script : Script) (seen : MachineView) (order : Order) (place : ℕ) → Progress script seen order → LeastOf seen order place → place < length order.following.items + length order.places.items → IsNextAt script seen.entries place
next_here script seen order place stands least inside =
    let r = some_run script seen.entries stands.scheduled in
    of r.0 r.1 (least r.0 (run_here script seen r.0 stands.setup r.1))
  where
    calls : List Call
    calls = all_calls script

    of : (r : Run) → run script.setup seen.entries ≡ Some r → IsLeastCursor (λ client. waits r.volume client) order.places.items (length order.places.items) (length order.following.items + length order.places.items) place
        → IsNextAt script seen.entries place
    of r runs so = elim so.is [
      | inl none ↦ absurd (omega (arith, none, inside))
      | inr some ↦ (
          let call : Call = get_or calls place (leave_after script.lines 0) in
          let there : slice_get calls place ≡ Some call = slice_get-get_or calls place (leave_after script.lines 0) (omega (arith, inside, all_long script seen order stands)) in
          let first : first_from some.0 place calls ≡ place = subst (λ (p : ℕ). first_from some.0 p calls ≡ p) some.3 (stands.cursors.own some.0 some.1) in
          let own : call.client ≡ some.0 = first_from-is some.0 place calls call (ap (slice_get calls) first ∙ there) in
          let cursor : slice_index_or order.places.items call.client 0 ≡ place = ap (λ (c : ℕ). slice_index_or order.places.items c 0) own ∙ some.3 in
          record {
            call = call;
            at = there;
            is = ap (option_and_then (λ (s : Run). next_in calls seen.entries s.volume)) runs
                ∙ next-least script seen.entries order.places.items r.volume call stands.is_read stands.cursors stands.long (ap (slice_get calls) cursor ∙ there) (ap (waits r.volume) own ∙ some.2)
                (λ client within free. let few : place ≤ slice_index_or order.places.items client 0 = so.least client within free in omega (arith, few, cursor));
          })
    ]

-- and where that is behind all calls none is next
pub next_nowhere : (script : Script) (seen : MachineView) (order : Order) (place : ℕ) → Progress script seen order → LeastOf seen order place → length order.following.items + length order.places.items ≤ place → next script seen.entries ≡ None
next_nowhere script seen order place stands least past =
    let r = some_run script seen.entries stands.scheduled in
    let so : IsLeastCursor (λ client. waits r.0.volume client) order.places.items (length order.places.items) (length order.following.items + length order.places.items) place = least r.0 (run_here script seen r.0 stands.setup r.1) in
    ap (option_and_then (λ (s : Run). next_in (all_calls script) seen.entries s.volume)) r.1
    ∙ next-none script seen.entries order.places.items r.0.volume stands.is_read stands.cursors stands.long
    (λ client within free. let few : place ≤ slice_index_or order.places.items client 0 = so.least client within free in omega (arith, few, past, all_long script seen order stands))

-- so few turns are made
pub Progress-few : (script : Script) (seen : MachineView) (order : Order) → Progress script seen order → length seen.entries ≤ 40064
Progress-few script seen order progress = (let long = length-all_calls script in omega (arith, long, progress.few, progress.within.lines, progress.within.clients))

-- and fewer before the next one
pub Progress-room : (script : Script) (seen : MachineView) (order : Order) → Progress script seen order → length seen.entries < most_entries
Progress-room script seen order progress = (let few = Progress-few script seen order progress in omega (arith, few))
