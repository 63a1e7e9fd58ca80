-- What a run reads and writes: the bytes of a script, and the text of a history that is scheduled for it,
-- which no other such history has.
use Rattle.std.specs.Prelude.{◌≡◌, ℕ, true, false, List, [], ◌∷◌, ◌++◌, Option, Some, None, Ok, Err, codes, decimal}
use Rattle.fsa_model.specs.Coherence.{CachingIsCoherent}
use Rattle.fsa_model.specs.Engine.{CallsDiffer, EndsOnce, HeldAreBlocked, HoldsByLiving, NoneReady, SomeGoesOn, TakesReleased}
use Rattle.fsa_model.specs.Fault.{Fault}
use Rattle.fsa_model.specs.Setup.{Script, Setup}
use Rattle.fsa_model.specs.History.{HistoryEntry, Run, run}
use Rattle.fsa_model.specs.Reports.{settling_after}
use Rattle.fsa_model.specs.Schedule.{HasAllCalls, Scheduled, plain}
use Rattle.fsa_model.specs.Script.{script_of}
use Rattle.fsa_model.specs.Sound.{IsSoundTree}
use Rattle.fsa_model.specs.Text.{shows_no_memory, text}
use Rattle.fsa_model.specs.Waiting.{is_wait}
use Rattle.fsa_model.specs.Watched.{WatchesReport}
use Rattle.history_laws.specs.AsAsked.{OpensAndLocksAsAsked}
use Rattle.history_laws.specs.AsMade.{PendsAsMade}
use Rattle.history_laws.specs.AsTried.{CallsPendAsTried}
use Rattle.history_laws.specs.Awaited.{NothingIsMissed}
use Rattle.history_laws.specs.CallChecks.{CallsEndByChecks}
use Rattle.history_laws.specs.EachVolume.{HoldsOfEachVolume}
use Rattle.history_laws.specs.EndsAsFound.{CallsEndAsFound}
use Rattle.history_laws.specs.GrantedEnds.{GrantedCallsEndForCause}
use Rattle.history_laws.specs.Granting.{GrantedCallsPend}
use Rattle.history_laws.specs.HandlesClose.{HandlesGoWhenClosed}
use Rattle.history_laws.specs.HandlesDiffer.{HandlesDiffer}
use Rattle.history_laws.specs.Holding.{CalledOffEnd, PendingStay}
use Rattle.history_laws.specs.LeftOver.{NothingIsLeftOver}
use Rattle.history_laws.specs.NamingSteps.{NamingsEndBySteps}
use Rattle.history_laws.specs.OpenChecks.{OpensEndByChecks}
use Rattle.history_laws.specs.OpensTell.{OpensTellWhatTheyDid}
use Rattle.history_laws.specs.OplockChanges.{OplocksChangeForCause}
use Rattle.history_laws.specs.Releasing.{HoldersRelease, OthersReleaseNone}
use Rattle.history_laws.specs.Races.{AllComeAfterWaits, Begun, Whole}
use Rattle.history_laws.specs.ReportsInOrder.{ReportsGoToEarliest}
use Rattle.history_laws.specs.Telling.{LeftAsTold, ToldOfOplocks, ToldTargets}
use Rattle.history_laws.specs.TreeChanges.{TreeChangesAsAsked}
use Rattle.history_laws.specs.TreeNotes.{ChangesAreNoted}
use Rattle.history_laws.specs.WaitEnds.{SettlesWaits, StallsExactly, cancels_in, ends_otherwise, is_wait_end, leaves_in}
use Rattle.history_laws.specs.WellFormed.{IsWellFormed}
use Rattle.history_laws.specs.WhyPending.{CallsPendForCause}
use Rattle.wire_io.specs.Source.{ReadsWhole}
use Rattle.wire_io.specs.Sink.{Written, Appends, AppendsFront, AppendsPart}
use Rattle.fsa_top.specs.declared.limits.Limit.{Limit}
use Rattle.fsa_top.specs.Limits.{PassesLimit, limit_of}
use Rattle.fsa_top.specs.Words.{Says, limit_line}

-- after each of its turns each call has ended or is pending as often as it was made
abbrev pub EndsEachCallOnce : Setup → List HistoryEntry → Type 0
EndsEachCallOnce setup history = (front later : List HistoryEntry) (r : Run) → history ≡ front ++ later → run setup front ≡ Some r → EndsOnce front r

-- after each of its turns no pending call is ready
abbrev pub LeavesNoneReady : Setup → List HistoryEntry → Type 0
LeavesNoneReady setup history = (front later : List HistoryEntry) (r : Run) → history ≡ front ++ later → run setup front ≡ Some r → NoneReady r.volume

-- after each of its turns some client that hasn't left doesn't wait, or all have left
abbrev pub KeepsSomeGoing : Setup → List HistoryEntry → Type 0
KeepsSomeGoing setup history = (front later : List HistoryEntry) (r : Run) → history ≡ front ++ later → run setup front ≡ Some r → SomeGoesOn r.volume

-- after each of its turns a wait that has ended has SUCCESS, STALLED or INVALID_PARAMETER; INVALID_HANDLE only where its
-- client had left before it, and CANCELLED only where its client has cancelled it, or left, in the turns since; and no body
abbrev pub EndsWaitsInFewWays : Setup → List HistoryEntry → Type 0
EndsWaitsInFewWays setup history =
    (front between later : List HistoryEntry) (wait : HistoryEntry) (r : Run) → history ≡ (front ++ wait ∷ between) ++ later → run setup (front ++ wait ∷ between) ≡ Some r → is_wait wait.call.what ≡ true
    → ends_otherwise (is_wait_end (leaves_in wait.call.client front) (cancels_in wait.call.client wait.call.number between)) wait.call.client wait.call.number r.volume ≡ false

-- after each of its turns every held call has a blocker that lives
abbrev pub KeepsHeldBlocked : Setup → List HistoryEntry → Type 0
KeepsHeldBlocked setup history = (front later : List HistoryEntry) (r : Run) → history ≡ front ++ later → run setup front ≡ Some r → HeldAreBlocked r.volume

-- whatever call is tried at the beginning of one of its turns, or at any step of that turn's settlement: where it is held, it
-- is by some blockers, and all of them live in what the try leaves
abbrev pub HoldsByLivingOnes : Setup → List HistoryEntry → Type 0
HoldsByLivingOnes setup history =
    (front later : List HistoryEntry) (entry : HistoryEntry) (r : Run) (steps : ℕ) → history ≡ front ++ entry ∷ later → run setup front ≡ Some r
    → HoldsByLiving r.volume × HoldsByLiving (settling_after r.volume entry.call entry.starved steps).volume

-- in each of its turns just the held calls are taken up whose last blocker ended in the try of the turn's own call
abbrev pub TakesUpReleased : Setup → List HistoryEntry → Type 0
TakesUpReleased setup history =
    (front later : List HistoryEntry) (entry : HistoryEntry) (r : Run) → history ≡ front ++ entry ∷ later → run setup front ≡ Some r → TakesReleased r.volume entry.call entry.starved

-- what holds throughout a history: no call is made twice. Each stands after the end of every wait that its client had made
-- and, where that end is SUCCESS, after the end of the call that was waited for; a wait ends in few ways, in a settlement with
-- SUCCESS or STALLED alone, and just waits end STALLED, exactly where every client that hasn't left waits. After each turn
-- each call that was made has ended once or is pending, and none is ready: no call has ended for which a wait is pending, and
-- nothing is due to the watch of a handle by which a Notify is pending; some client that hasn't left doesn't wait, or all have
-- left. An open ends SUCCESS only where it clashes with no handle, SHARING_VIOLATION only where it clashes with one, and
-- OPLOCK_BREAK_IN_PROGRESS only beside breaks that it would wait for; a read, a write, a lock, a request for an oplock, an
-- acknowledgement and a wait end with each status only where what it says is found. An open that succeeds leaves just the
-- handle that was asked for, a lock just the lock, and neither leaves one otherwise. What is pending is the very call that was
-- made. After its try a call is pending for a cause alone: held by just the breaks of one set of handles for which its rule has
-- it wait or, where it is a lock, by just the locks in conflict with it, all of which live then and are kept for it; or as the
-- call of an oplock, as a Notify to whose handle's watch nothing is due, or as a wait for a pending call. A held call stays
-- pending until it is taken up, unless its client calls it off, and after each turn one of its blockers lives. A Notify or a
-- wait stays so too until it is called off or taken up; waits end also where every client that hasn't left waits; and what a
-- turn's call calls off, held or not, has just one end once that call has been tried, with the status of its rule. While an
-- oplock is there and no break of it is in progress, its call is pending, and no other call that asks for an oplock or answers
-- a break is. Such a call ends only where it is told of a break, called off or switched. It is told of a break only what some
-- break of its own oplock tells; then a break of that is in progress, where an acknowledgement is asked, or the oplock is gone;
-- and where a break has come to be in progress, just what it leaves was told. An oplock changes for a cause alone: a call of
-- another handle and key (0 is no key) breaks it, its handle acknowledges, it is granted or switched, its call is cancelled, or
-- its handle closes. A call breaks only what its kind names, and doesn't end with SUCCESS while it has to wait for that. A turn
-- takes up just those held calls that its own call released. A break or a lock ends exactly by its holder's own call, an
-- acknowledgement, an unlock, a close or a leaving, and in the turn of any other call none ends and no held call is taken up.
-- Caching by oplocks is coherent. An open succeeds only where it is allowed, and tells what it did; a handle goes just by a close of its
-- own, or a leaving of its client, that succeeds; no two handles have the same client and number; a try changes and notes of files, links
-- and streams just what its call asks for, and that only where it ends SUCCESS; what is marked for deletion has a handle; the tree stays
-- sound, with what handles are of in it, and well formed: names are ones that a path can have, what is no directory has its default
-- stream, a file has at most 1,024 links, and what has a reparse point isn't the root and has nothing in it. Names, named streams and
-- bytes that change are noted, and of each file but the root its owner, access list, reparse point, attributes, and times but that of the
-- last change; and each watch reports exactly the matching changes since its last report, to its handle's earliest pending Notify, or to
-- one just made where none is pending
pub record HoldsThroughout (setup : Setup) (history : List HistoryEntry) : Type 0 where
  pub makes_no_call_twice : CallsDiffer history
  pub calls_come_after_waits : AllComeAfterWaits setup history
  pub waits_end_in_few_ways : EndsWaitsInFewWays setup history
  pub waits_stall_exactly : StallsExactly setup history
  pub settled_waits_succeed_or_stall : SettlesWaits setup history
  pub each_call_ends_once : EndsEachCallOnce setup history
  pub no_call_is_left_ready : LeavesNoneReady setup history
  pub no_awaited_end_or_change_is_missed : NothingIsMissed setup history
  pub some_client_goes_on : KeepsSomeGoing setup history
  pub calls_are_held_by_living_blockers : HoldsByLivingOnes setup history
  pub calls_pend_for_a_cause : CallsPendForCause setup history
  pub calls_end_as_they_find : CallsEndAsFound setup history
  pub opens_and_locks_leave_what_was_asked : OpensAndLocksAsAsked setup history
  pub pending_calls_are_as_made : PendsAsMade setup history
  pub calls_pend_as_they_were_tried : CallsPendAsTried setup history
  pub pending_calls_stay : PendingStay setup history
  pub called_off_calls_end : CalledOffEnd setup history
  pub granted_calls_pend_while_unbroken : GrantedCallsPend setup history
  pub granted_calls_end_for_a_cause : GrantedCallsEndForCause setup history
  pub holders_are_told_of_their_oplocks : ToldOfOplocks setup history
  pub breaks_leave_just_what_was_told : ToldTargets setup history
  pub oplocks_are_left_as_told : LeftAsTold setup history
  pub oplocks_change_for_a_cause : OplocksChangeForCause setup history
  pub a_held_call_has_a_living_blocker : KeepsHeldBlocked setup history
  pub released_calls_are_tried_once : TakesUpReleased setup history
  pub only_holders_release_held_calls : HoldersRelease setup history
  pub other_calls_release_none : OthersReleaseNone setup history
  pub caching_is_coherent : CachingIsCoherent setup history
  pub calls_end_as_their_checks_say : CallsEndByChecks setup history
  pub opens_end_as_their_checks_say : OpensEndByChecks setup history
  pub renames_and_links_end_as_their_steps_say : NamingsEndBySteps setup history
  pub opens_tell_what_they_did : OpensTellWhatTheyDid setup history
  pub handles_go_when_closed : HandlesGoWhenClosed setup history
  pub two_handles_differ : HoldsOfEachVolume HandlesDiffer setup history
  pub the_tree_changes_as_asked : TreeChangesAsAsked setup history
  pub nothing_is_left_over : HoldsOfEachVolume NothingIsLeftOver setup history
  pub the_tree_stays_sound : HoldsOfEachVolume IsSoundTree setup history
  pub the_tree_stays_well_formed : HoldsOfEachVolume IsWellFormed setup history
  pub what_changes_is_noted : ChangesAreNoted setup history
  pub watches_report_exactly : WatchesReport setup history
  pub the_earliest_notify_is_reported : ReportsGoToEarliest setup history

-- a history of a script on one thread: each turn's call was the next one, it has all calls, no other such history has its
-- text, what holds throughout a history holds, and where no line of its text shows NO_MEMORY no call found no memory
pub record IsHistory (script : Script) (history : List HistoryEntry) : Type 0 where
  pub scheduled : Scheduled script history
  pub whole : HasAllCalls script history
  pub only : (other : List HistoryEntry) → Scheduled script other → HasAllCalls script other → text script other ≡ text script history → other ≡ history
  pub throughout : HoldsThroughout script.setup history
  pub plainly : shows_no_memory (text script history) ≡ false → history ≡ plain script

-- the line that names the first faulty line
abbrev pub bad_line : ℕ → List ℕ
bad_line line = codes "bad line " ++ decimal line ++ 10 ∷ []

-- a part of the text of a scheduled history that has all calls of the script was written; of it too what holds throughout
-- a history holds
abbrev pub WritesPart : Script → Written → Written → Type 0
WritesPart script written written_now =
    (history : List HistoryEntry) × Scheduled script history × HasAllCalls script history × HoldsThroughout script.setup history × AppendsPart written written_now (text script history)

-- the text of the script's history was written
abbrev pub WritesText : Script → Written → Written → Type 0
WritesText script written written_now = (history : List HistoryEntry) × IsHistory script history × Appends written written_now (text script history)

-- a history of the script whose clients ran side by side: it is whole for the script, no other that is has its text, and
-- what holds throughout a history holds
pub record IsRaced (script : Script) (history : List HistoryEntry) : Type 0 where
  pub whole : Whole script history
  pub only : (other : List HistoryEntry) → Whole script other → text script other ≡ text script history → other ≡ history
  pub throughout : HoldsThroughout script.setup history

-- the text of such a history was written
abbrev pub WritesWhole : Script → Written → Written → Type 0
WritesWhole script written written_now = (history : List HistoryEntry) × IsRaced script history × Appends written written_now (text script history)

-- a part of the text of a history that is whole for the script was written; of it too what holds throughout a history
-- holds
abbrev pub WritesWholePart : Script → Written → Written → Type 0
WritesWholePart script written written_now =
    (history : List HistoryEntry) × Whole script history × HoldsThroughout script.setup history × AppendsPart written written_now (text script history)

-- a beginning of the text of a history was written, or nothing, or all of it, in which each client has made the first of
-- its calls
abbrev pub WritesBegun : Script → Written → Written → Type 0
WritesBegun script written written_now = (history : List HistoryEntry) × Begun script history × AppendsFront written written_now (text script history)

-- the bytes are no script, and the line that names the first faulty line was written, or a part of it where the sink failed
abbrev pub NamesFault : List ℕ → Written → Written → ℕ → ℕ → Type 0
NamesFault bytes written written_now faults faults_now =
    (fault : Fault) × (script_of bytes ≡ Err fault) × Says (bad_line fault.line) written written_now faults faults_now

-- the bytes pass a limit, and the line that names it was written, or a part of it where the sink failed
abbrev pub NamesLimit : List ℕ → Written → Written → ℕ → ℕ → Type 0
NamesLimit bytes written written_now faults faults_now =
    (limit : Limit) × (limit_of bytes ≡ Some limit) × Says (limit_line limit) written written_now faults faults_now

-- the source was read to its end, and its bytes pass no limit
abbrev pub ReadsWithin : Option (List ℕ) → Option (List ℕ) → List ℕ → Type 0
ReadsWithin left left_now bytes = ReadsWhole left left_now bytes × (limit_of bytes ≡ None)

-- the source was read to its end within the limits, and its bytes are this script
abbrev pub ReadsScript : Option (List ℕ) → Option (List ℕ) → Script → Type 0
ReadsScript left left_now script = (bytes : List ℕ) × ReadsWithin left left_now bytes × (script_of bytes ≡ Ok script)

-- the source was read to its end within the limits, its bytes are a script, and this was written of it
abbrev pub Ran : (Script → Written → Written → Type 0) → Option (List ℕ) → Option (List ℕ) → Written → Written → Type 0
Ran writes left left_now written written_now = (script : Script) × ReadsScript left left_now script × writes script written written_now

-- the source was read to its end within the limits, its bytes are no script, and the line that names the first faulty line
-- was written
abbrev pub FoundBad : Option (List ℕ) → Option (List ℕ) → Written → Written → ℕ → ℕ → Type 0
FoundBad left left_now written written_now faults faults_now =
    (bytes : List ℕ) × ReadsWithin left left_now bytes × NamesFault bytes written written_now faults faults_now

-- the bytes of the source pass a limit, and the line that names it was written, or a part of it where the sink failed
abbrev pub FoundLimit : Option (List ℕ) → Written → Written → ℕ → ℕ → Type 0
FoundLimit left written written_now faults faults_now =
    (limit : Limit) × PassesLimit limit left × Says (limit_line limit) written written_now faults faults_now

-- this script was read from bytes that pass no limit
abbrev pub IsOfBytes : Script → Type 0
IsOfBytes script = (bytes : List ℕ) × (limit_of bytes ≡ None) × (script_of bytes ≡ Ok script)

-- the bytes are a script
abbrev pub IsScript : List ℕ → Type 0
IsScript bytes = (script : Script) × (script_of bytes ≡ Ok script)

-- the bytes are no script
abbrev pub IsNoScript : List ℕ → Type 0
IsNoScript bytes = (fault : Fault) × (script_of bytes ≡ Err fault)
