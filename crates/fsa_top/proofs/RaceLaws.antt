-- What holds throughout a history that makes no call twice, and none while its client waits.
use Rattle.std.proofs.Common.{◌≡◌, Err, OnErr, Result, List, [], ◌∷◌, ◌++◌, subst}
use Rattle.fsa_model.specs.Engine.{CallsDiffer}
use Rattle.fsa_model.specs.History.{HistoryEntry}
use Rattle.fsa_model.specs.Schedule.{Scheduled}
use Rattle.fsa_model.specs.Setup.{Script, Setup}
use Rattle.fsa_model.specs.Text.{text}
use Rattle.fsa_model.proofs.CoherenceRuns.{run-coherent}
use Rattle.fsa_model.proofs.EngineLaws.{Scheduled-differ, run-ends_once, run-none_ready, run-released}
use Rattle.fsa_model.proofs.HeldLaws.{run-blocked, run-holds, run-settling_holds}
use Rattle.fsa_model.proofs.NoticeEnds.{run-watches_report}
use Rattle.fsa_model.proofs.WaitEnds.{run-goes_on}
use Rattle.history_laws.specs.Races.{NoneMadeWaiting, Whole}
use Rattle.history_laws.proofs.AsAsked.{opens-and_locks_as_asked}
use Rattle.history_laws.proofs.AsToldCalls.{left-as_told}
use Rattle.history_laws.proofs.AsTried.{calls-pend_as_tried}
use Rattle.history_laws.proofs.CallChecks.{calls-end_as_their_checks_say}
use Rattle.history_laws.proofs.CalledOff.{called_off-end}
use Rattle.history_laws.proofs.EndsAsFound.{calls-end_as_found}
use Rattle.history_laws.proofs.GrantedCalls.{granted_calls-pend}
use Rattle.history_laws.proofs.GrantedEnds.{granted_calls-end_for_cause}
use Rattle.history_laws.proofs.MadeCalls.{pends-as_made}
use Rattle.history_laws.proofs.NamingSteps.{namings-end_as_their_steps_say}
use Rattle.history_laws.proofs.NoneMissed.{nothing-missed}
use Rattle.history_laws.proofs.NotedTries.{run-changes_noted}
use Rattle.history_laws.proofs.OpenChecks.{opens-end_as_their_checks_say}
use Rattle.history_laws.proofs.OpensTell.{opens-tell_what_they_did}
use Rattle.history_laws.proofs.OplockChanges.{oplocks-change_for_cause}
use Rattle.history_laws.proofs.PendingStay.{pending-stay}
use Rattle.history_laws.proofs.HandlesClose.{handles-go_when_closed}
use Rattle.history_laws.proofs.HandlesDiffer.{handles-differ}
use Rattle.history_laws.proofs.HoldersRelease.{holders-release, others-release_none}
use Rattle.history_laws.proofs.ScheduledCalls.{Scheduled-free}
use Rattle.history_laws.proofs.WaitedFor.{free-over}
use Rattle.history_laws.proofs.SettledWaits.{waits-settle}
use Rattle.history_laws.proofs.Stalling.{waits-stall}
use Rattle.history_laws.proofs.ToldCalls.{told-of_oplocks}
use Rattle.history_laws.proofs.ReportsInOrder.{run-reports_to_earliest}
use Rattle.history_laws.proofs.TreeRuns.{run-changes_as_asked, run-leaves_nothing_over, run-tree_stays_sound, run-tree_stays_well_formed}
use Rattle.history_laws.proofs.TurnByTurn.{differ-before, differ-front}
use Rattle.history_laws.proofs.TurnTargets.{told-targets}
use Rattle.history_laws.proofs.WaitRuns.{waits-end}
use Rattle.history_laws.proofs.WhyPending.{calls-pend_for_cause}
use Rattle.text_out.specs.declared.write.TextFault.{TextFault}
use Rattle.wire_io.specs.Sink.{AppendsPart, Written}
use Rattle.fsa_top.specs.Runs.{EndsEachCallOnce, EndsWaitsInFewWays, HoldsByLivingOnes, HoldsThroughout, KeepsHeldBlocked, LeavesNoneReady, TakesUpReleased, WritesWholePart}

ends_each_once : (setup : Setup) (history : List HistoryEntry) → CallsDiffer history → EndsEachCallOnce setup history
ends_each_once setup history differ front later r is runs = run-ends_once setup front r (differ-front front later (subst CallsDiffer is differ)) runs

leaves_none_ready : (setup : Setup) (history : List HistoryEntry) → CallsDiffer history → LeavesNoneReady setup history
leaves_none_ready setup history differ front later r is runs = run-none_ready setup front r (differ-front front later (subst CallsDiffer is differ)) runs

ends_waits_in_few_ways : (setup : Setup) (history : List HistoryEntry) → CallsDiffer history → EndsWaitsInFewWays setup history
ends_waits_in_few_ways setup history differ front between later wait r is runs waits =
    waits-end setup front between wait r (differ-front (front ++ wait ∷ between) later (subst CallsDiffer is differ)) runs waits

keeps_held_blocked : (setup : Setup) (history : List HistoryEntry) → CallsDiffer history → KeepsHeldBlocked setup history
keeps_held_blocked setup history differ front later r is runs = run-blocked setup front r (differ-front front later (subst CallsDiffer is differ)) runs

holds_by_living_ones : (setup : Setup) (history : List HistoryEntry) → CallsDiffer history → HoldsByLivingOnes setup history
holds_by_living_ones setup history differ front later entry r steps is runs =
    let differ_to : CallsDiffer (front ++ entry ∷ []) = differ-before history front later entry is differ in
    (run-holds setup front r (differ-front front (entry ∷ []) differ_to) runs, run-settling_holds setup front entry r steps differ_to runs)

takes_up_released : (setup : Setup) (history : List HistoryEntry) → CallsDiffer history → TakesUpReleased setup history
takes_up_released setup history differ front later entry r is runs = run-released setup front entry r (differ-before history front later entry is differ) runs

-- all that holds
pub throughout : (script : Script) (history : List HistoryEntry) → NoneMadeWaiting script history → CallsDiffer history → HoldsThroughout script.setup history
throughout script history free differ = record {
  makes_no_call_twice = differ;
  calls_come_after_waits = free-over script history free differ;
  waits_end_in_few_ways = ends_waits_in_few_ways script.setup history differ;
  waits_stall_exactly = waits-stall script.setup history;
  settled_waits_succeed_or_stall = waits-settle script.setup history differ;
  each_call_ends_once = ends_each_once script.setup history differ;
  no_call_is_left_ready = leaves_none_ready script.setup history differ;
  no_awaited_end_or_change_is_missed = nothing-missed script.setup history differ;
  some_client_goes_on = λ front later r is runs. run-goes_on script.setup front r runs;
  calls_are_held_by_living_blockers = holds_by_living_ones script.setup history differ;
  calls_pend_for_a_cause = calls-pend_for_cause script.setup history;
  calls_end_as_they_find = calls-end_as_found script.setup history;
  opens_and_locks_leave_what_was_asked = opens-and_locks_as_asked script.setup history;
  pending_calls_are_as_made = pends-as_made script.setup history differ;
  calls_pend_as_they_were_tried = calls-pend_as_tried script.setup history differ;
  pending_calls_stay = pending-stay script.setup history differ;
  called_off_calls_end = called_off-end script.setup history differ;
  granted_calls_pend_while_unbroken = granted_calls-pend script.setup history differ;
  granted_calls_end_for_a_cause = granted_calls-end_for_cause script.setup history differ;
  oplocks_change_for_a_cause = oplocks-change_for_cause script.setup history;
  holders_are_told_of_their_oplocks = told-of_oplocks script.setup history;
  breaks_leave_just_what_was_told = told-targets script.setup history differ;
  oplocks_are_left_as_told = left-as_told script.setup history differ;
  a_held_call_has_a_living_blocker = keeps_held_blocked script.setup history differ;
  released_calls_are_tried_once = takes_up_released script.setup history differ;
  only_holders_release_held_calls = holders-release script.setup history differ;
  other_calls_release_none = others-release_none script.setup history differ;
  caching_is_coherent = run-coherent script.setup history;
  calls_end_as_their_checks_say = calls-end_as_their_checks_say script.setup history;
  opens_end_as_their_checks_say = opens-end_as_their_checks_say script.setup history;
  renames_and_links_end_as_their_steps_say = namings-end_as_their_steps_say script.setup history;
  opens_tell_what_they_did = opens-tell_what_they_did script.setup history;
  handles_go_when_closed = handles-go_when_closed script.setup history;
  two_handles_differ = handles-differ script.setup history differ;
  the_tree_changes_as_asked = run-changes_as_asked script.setup history;
  nothing_is_left_over = run-leaves_nothing_over script.setup history;
  the_tree_stays_sound = run-tree_stays_sound script.setup history;
  the_tree_stays_well_formed = run-tree_stays_well_formed script.setup history;
  what_changes_is_noted = run-changes_noted script.setup history;
  watches_report_exactly = run-watches_report script.setup history;
  the_earliest_notify_is_reported = run-reports_to_earliest script.setup history differ;
}

pub scheduled-throughout : (script : Script) (history : List HistoryEntry) → Scheduled script history → HoldsThroughout script.setup history
scheduled-throughout script history scheduled = throughout script history (Scheduled-free script history scheduled) (Scheduled-differ script history scheduled)

-- where the text of such a whole history wasn't all written, a part of it was
pub whole-part : (script : Script) (history : List HistoryEntry) (written written_now : Written) (result : Result (Unit {0}) TextFault) (fault : TextFault) → Whole script history → CallsDiffer history → result ≡ Err fault
    → OnErr result (AppendsPart written written_now (text script history)) → WritesWholePart script written written_now
whole-part script history written written_now result fault whole differ failed part =
    (history, whole, throughout script history whole.free differ, (let there : AppendsPart written written_now (text script history) = rw failed at part in there))
