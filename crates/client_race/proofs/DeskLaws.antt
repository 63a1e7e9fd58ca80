-- What a pass's calls make of what it knows, as a desk's.
use Rattle.std.proofs.Common.{◌≡◌, ℕ, ◌+◌, ◌<◌, ◌≤◌, List, [], ◌∷◌, ◌++◌, length, refl, ap, sym, ◌∙◌, arith, append-nil, length-append}
use Rattle.std.proofs.lemmas.Bool.{eqb-true}
use Rattle.fsa_types.specs.declared.reply.Answer.{Answer}
use Rattle.fsa_types.specs.declared.reply.Poll.{Poll}
use Rattle.fsa_types.specs.declared.reply.Poll.TheVariants.{Done, Pending, Busy as Unknown, NoMemory as NoReply}
use Rattle.fsa_types.specs.declared.reply.Submitted.{Submitted}
use Rattle.fsa_types.specs.declared.reply.Submitted.TheVariants.{Did, Busy, Refused}
use Rattle.fsa_types.specs.declared.reply.Why.{Why}
use Rattle.fsa_types.specs.declared.reply.Why.TheVariants.{NoMemory, HistoryFull}
use Rattle.fsa_types.specs.declared.request.What.{What}
use Rattle.fsa_model.specs.Bounds.{most_entries}
use Rattle.fsa_model.specs.History.{HistoryEntry}
use Rattle.fsa_model.specs.Setup.{Setup}
use Rattle.history_lock.specs.Passes.{Refreshed}
use Rattle.history_lock.specs.Turns.{beaten}
use Rattle.shared_volume.specs.Histories.{IsMachineHistory as IsNumberedHistory, MayRefuse}
use Rattle.shared_volume.specs.Shared.{Known, Submits}
use Rattle.history_laws.specs.CallAnswers.{EndedWithList, HasEnded, IfBusy, IfDid, IfDone, IfRefused, OnBusy, OnNoMemory, OnPending, Pends}
use Rattle.shared_volume.proofs.HistoryLaws.{numbered-differ}
use Rattle.client_run.specs.Calls.{calls_in}
use Rattle.client_run.specs.Desks.{Asks, DeskOnlySees, SeesHistory}
use Rattle.client_run.specs.ClientHistory.{IsRunOfDistinctCalls}
use Rattle.client_race.specs.Passes.{shown_by}

pub asks : (setup : Setup) (what : What) (number : ℕ) (answer : Answer) (v w : Known) → Submits setup what number answer v w → Asks what number answer (shown_by setup v) (shown_by setup w)
asks setup what number answer v w s =
    let m = s.makes in
    let mine : w.own.mine ≡ v.own.mine ++ record { client = v.own.client; number = number; what = what } ∷ [] = ap (λ (z : Known). z.own.mine) m.view in
    let loads : w.loads ≡ v.loads = ap (λ (z : Known). z.loads) m.view in
    let lost : w.lost ≡ v.lost = ap (λ (z : Known). z.lost) m.view in record {
      setup = refl;
      client = ap (λ (z : Known). z.own.client) m.view;
      count = s.count ∙ (ap length mine ∙ length-append v.own.mine (record { client = v.own.client; number = number; what = what } ∷ []));
      made = mine;
      front = m.front;
      entry = m.entry;
      seen = m.seen;
      after = m.after;
      called = m.called;
      answers = s.answers;
      loads = omega arith;
      lost = omega arith;
    }

pub sees_refreshed : (setup : Setup) (v w : Known) → Refreshed v w → DeskOnlySees (shown_by setup v) (shown_by setup w)
sees_refreshed setup v w r =
    let loads : w.loads ≡ v.loads + 1 = ap (λ (z : Known). z.loads) r.view in
    let lost : w.lost ≡ v.lost = ap (λ (z : Known). z.lost) r.view in record {
      setup = refl;
      client = ap (λ (z : Known). z.own.client) r.view;
      made = ap (λ (z : Known). z.own.mine) r.view;
      seen = r.seen;
      loads = omega arith;
      lost = omega arith;
    }

pub loads_rose : (v w : Known) → Refreshed v w → v.loads + 1 ≤ w.loads
loads_rose v w r = (let loads : w.loads ≡ v.loads + 1 = ap (λ (z : Known). z.loads) r.view in omega arith)

pub sees_beaten : (setup : Setup) (v w : Known) → w ≡ beaten v → DeskOnlySees (shown_by setup v) (shown_by setup w)
sees_beaten setup v w is =
    let seen : w.own.seen ≡ v.own.seen = ap (λ (z : Known). z.own.seen) is in
    let loads : w.loads ≡ v.loads = ap (λ (z : Known). z.loads) is in
    let lost : w.lost ≡ v.lost + 1 = ap (λ (z : Known). z.lost) is in record {
      setup = refl;
      client = ap (λ (z : Known). z.own.client) is;
      made = ap (λ (z : Known). z.own.mine) is;
      seen = record { later = []; whole = seen ∙ sym (append-nil v.own.seen) };
      loads = omega arith;
      lost = omega arith;
    }

pub lost_rose : (v w : Known) → w ≡ beaten v → v.lost + 1 ≤ w.lost
lost_rose v w is = (let lost : w.lost ≡ v.lost + 1 = ap (λ (z : Known). z.lost) is in omega arith)

-- only a history of 1,000,000 entries is full
pub full_at : (seen : List HistoryEntry) (why : Why) → MayRefuse seen why → why ≡ HistoryFull → length seen ≡ most_entries
full_at seen HistoryFull may is = eqb-true (length seen) 1000000 (sym may)
full_at seen NoMemory may is = cc

-- calls that are numbered differ
pub differ : (setup : Setup) (entries : List HistoryEntry) → IsNumberedHistory setup entries → IsRunOfDistinctCalls setup entries
differ setup entries history = record { runs = history.runs; differ = numbered-differ entries history.numbered }

pub sees_history : (setup : Setup) (v : Known) → IsNumberedHistory setup v.own.seen → v.own.mine ≡ calls_in v.own.client v.own.seen → SeesHistory (shown_by setup v)
sees_history setup v history own = record { history = differ setup v.own.seen history; own = own }

-- ---- answer by answer

pub did_asks : (setup : Setup) (what : What) (v w : Known) (result : Submitted) → IfDid result (λ number answer. Submits setup what number answer v w)
    → IfDid result (λ number answer. Asks what number answer (shown_by setup v) (shown_by setup w))
did_asks setup what v w (Did number answer) did = asks setup what number answer v w did
did_asks setup what v w (Busy back) did = tt
did_asks setup what v w (Refused back why) did = tt

pub busy_sees : (setup : Setup) (what : What) (clients : ℕ) (v w : Known) (result : Submitted) → IfBusy result (λ back. (back ≡ what) × (w ≡ beaten v) × (1 < clients))
    → IfBusy result (λ back. (back ≡ what) × DeskOnlySees (shown_by setup v) (shown_by setup w) × (v.lost + 1 ≤ w.lost))
busy_sees setup what clients v w (Did number answer) busy = tt
busy_sees setup what clients v w (Busy back) busy = (busy.0, sees_beaten setup v w busy.1, lost_rose v w busy.1)
busy_sees setup what clients v w (Refused back why) busy = tt

pub refused_sees : (setup : Setup) (what : What) (v w : Known) (result : Submitted) → IfRefused result (λ back why. (back ≡ what) × Refreshed v w × MayRefuse w.own.seen why)
    → IfRefused result (λ back why. (back ≡ what) × DeskOnlySees (shown_by setup v) (shown_by setup w) × (why ≡ HistoryFull → length w.own.seen ≡ most_entries))
refused_sees setup what v w (Did number answer) refused = tt
refused_sees setup what v w (Busy back) refused = tt
refused_sees setup what v w (Refused back why) refused = (refused.0, sees_refreshed setup v w refused.1, full_at w.own.seen why refused.2)

-- what a poll answers
pub record Polled (setup : Setup) (clients number : ℕ) (v w : Known) (result : Poll) : Type 0 where
  pub done : IfDone result (λ reply. Refreshed v w × HasEnded setup w.own.seen w.own.client number reply)
  pub pending : OnPending result (Refreshed v w × Pends setup w.own.seen w.own.client number)
  pub busy : OnBusy result ((w ≡ beaten v) × (1 < clients))
  pub no_memory : OnNoMemory result (Refreshed v w × EndedWithList setup w.own.seen w.own.client number)

pub polled_sees : (setup : Setup) (clients number : ℕ) (v w : Known) (result : Poll) → Polled setup clients number v w result → DeskOnlySees (shown_by setup v) (shown_by setup w)
polled_sees setup clients number v w (Done reply) p = sees_refreshed setup v w p.done.0
polled_sees setup clients number v w Pending p = sees_refreshed setup v w p.pending.0
polled_sees setup clients number v w Unknown p = sees_beaten setup v w p.busy.0
polled_sees setup clients number v w NoReply p = sees_refreshed setup v w p.no_memory.0

pub polled_done : (setup : Setup) (clients number : ℕ) (v w : Known) (result : Poll) → Polled setup clients number v w result → IfDone result (λ reply. HasEnded setup w.own.seen w.own.client number reply)
polled_done setup clients number v w (Done reply) p = p.done.1
polled_done setup clients number v w Pending p = tt
polled_done setup clients number v w Unknown p = tt
polled_done setup clients number v w NoReply p = tt

pub polled_pending : (setup : Setup) (clients number : ℕ) (v w : Known) (result : Poll) → Polled setup clients number v w result → OnPending result (Pends setup w.own.seen w.own.client number × (v.loads + 1 ≤ w.loads))
polled_pending setup clients number v w (Done reply) p = tt
polled_pending setup clients number v w Pending p = (p.pending.1, loads_rose v w p.pending.0)
polled_pending setup clients number v w Unknown p = tt
polled_pending setup clients number v w NoReply p = tt

pub polled_busy : (setup : Setup) (clients number : ℕ) (v w : Known) (result : Poll) → Polled setup clients number v w result → OnBusy result (v.lost + 1 ≤ w.lost)
polled_busy setup clients number v w (Done reply) p = tt
polled_busy setup clients number v w Pending p = tt
polled_busy setup clients number v w Unknown p = lost_rose v w p.busy.0
polled_busy setup clients number v w NoReply p = tt

pub polled_no_memory : (setup : Setup) (clients number : ℕ) (v w : Known) (result : Poll) → Polled setup clients number v w result → OnNoMemory result (EndedWithList setup w.own.seen w.own.client number)
polled_no_memory setup clients number v w (Done reply) p = tt
polled_no_memory setup clients number v w Pending p = tt
polled_no_memory setup clients number v w Unknown p = tt
polled_no_memory setup clients number v w NoReply p = p.no_memory.1
