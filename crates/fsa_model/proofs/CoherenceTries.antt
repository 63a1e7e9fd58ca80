-- Each try keeps what coherence rests on and is coherent.
use Rattle.std.proofs.Common.{◌≡◌, ℕ, Bool, true, false, List, refl, sym, subst, ◌∙◌, arith, Option, Some, None, inl, inr}
use Rattle.std.proofs.lemmas.Bool.{cases_Bool, false≢true}
use Rattle.std.proofs.lemmas.List.Elements.{All-nil}
use Rattle.fsa_types.specs.declared.oplock.Class.TheVariants.{Change}
use Rattle.fsa_types.specs.declared.reply.Blocker.{Blocker}
use Rattle.fsa_types.specs.declared.request.Call.{Call}
use Rattle.fsa_types.specs.declared.request.Level.{Level}
use Rattle.fsa_types.specs.declared.request.Level.TheVariants.{Nil, R, RH, RW, RWH}
use Rattle.fsa_types.specs.declared.request.Request.{Request}
use Rattle.fsa_types.specs.declared.request.Request.TheVariants as request
use Rattle.fsa_types.specs.declared.request.What.{What}
use Rattle.fsa_types.specs.declared.request.What.TheVariants.{Ask, Tick, WaitFor, Leave}
use Rattle.fsa_types.specs.declared.status.Status.TheVariants.{InvalidHandle}
use Rattle.fsa_types.specs.OplockLists.{told_by}
use Rattle.fsa_types.specs.Oplocks.{effect}
use Rattle.fsa_model.specs.Breaks.{is_told}
use Rattle.fsa_model.specs.Coherence.{Closed, Told, Awaited, WhyEnded, ReadsWhereNoneWrites, ClashesWhereNoneKeeps, IsCoherent, IsTied, acting_handle, acting_key, gives_bytes, is_clash, Where, NoOtherWrites, NoOtherKeeps, set_of_path, WritersAlone}
use Rattle.fsa_model.specs.Lookups.{has_left}
use Rattle.fsa_model.specs.Outcome.{Outcome, refused}
use Rattle.fsa_model.specs.Setup.{Setup}
use Rattle.fsa_model.specs.Try.{try_request, try_what, try}
use Rattle.fsa_model.specs.Turn.{volume_after}
use Rattle.fsa_model.specs.Volume.{Volume, fresh}
use Rattle.fsa_model.specs.Waiting.{has_ended, is_pending, try_wait}
use Rattle.fsa_model.proofs.CoherenceAnswers.{read-coherent, create-coherent}
use Rattle.fsa_model.proofs.CoherenceClose.{Behaves-close, Behaves-leave}
use Rattle.fsa_model.proofs.CoherenceData.{Behaves, Behaves-if, Behaves-done, Behaves-refused, Behaves-read, Behaves-write, Behaves-set_security}
use Rattle.fsa_model.proofs.CoherenceEnds.{WhyBroken, Gone, HasTold, Awaits}
use Rattle.fsa_model.proofs.CoherenceFalls.{alone-falls, counts-falls}
use Rattle.fsa_model.proofs.CoherenceInformation.{Behaves-set_basic, Behaves-set_reparse, Behaves-get_reparse, Behaves-delete_reparse, Behaves-set_quota, Behaves-query_quota, Behaves-query_info, Behaves-query_dir, Behaves-notify}
use Rattle.fsa_model.proofs.CoherenceLink.{Behaves-link}
use Rattle.fsa_model.proofs.CoherenceNames.{Behaves-rename, Behaves-set_disposition}
use Rattle.fsa_model.proofs.CoherenceOpen.{Behaves-create}
use Rattle.fsa_model.proofs.CoherenceOplock.{Coheres, Coheres-refused, Coheres-oplock, Coheres-ack, Coheres-cancel}
use Rattle.fsa_model.proofs.CoherenceRanges.{Behaves-set_end, Behaves-lock, Behaves-unlock, Behaves-flush}
use Rattle.fsa_model.proofs.CoherenceTied.{IsUntouched-same}

-- ---- why counting ends

-- who is told by a change is told that nothing is left
told-nothing : (level : Level) (target : Option Level) → is_told (effect Change level target) ≡ true → (ack : Bool) × (told_by (effect Change level target) ≡ Some (Nil, ack))
told-nothing level (Some target) told = cc
told-nothing Nil None told = cc
told-nothing R None told = (false, refl)
told-nothing RH None told = (true, refl)
told-nothing RW None told = (true, refl)
told-nothing RWH None told = (true, refl)

why-ended : (v : Volume) (client : ℕ) (what : What) (next : Volume) (blockers : List Blocker) (handle : ℕ)
    → WhyBroken v (acting_handle v client what) (acting_key v client what) next blockers handle → WhyEnded v client what next blockers handle
why-ended v client what next blockers handle (Gone none) = Closed none
why-ended v client what next blockers handle (HasTold oplock broken told) = (let it = told-nothing oplock.level oplock.target told in Told oplock it.0 broken it.1)
why-ended v client what next blockers handle (Awaits oplock broken awaits) = Awaited oplock broken awaits

-- a try that behaves is coherent: what ends by it is closed or broken
Coheres-behaves : (v : Volume) (client : ℕ) (what : What) (outcome : Outcome) → Behaves v (acting_handle v client what) (acting_key v client what) outcome → Coheres v client what outcome
Coheres-behaves v client what outcome it = record { tied = it.tied; keeps = it.coherent; ended = λ handle before after. why-ended v client what _ _ handle (it.ends handle before after); begins = λ handle before after. absurd (false≢true (sym before ∙ counts-falls v (volume_after outcome) handle it.falls after)); alone = alone-falls v (volume_after outcome) it.falls }

-- ---- each request

Coheres-request : (v : Volume) (turn client number : ℕ) (asked : Request) → IsTied v → Coheres v client (Ask asked) (try_request v turn client number asked)
Coheres-request v turn client number (request.Create path wanted share disposition options attributes key) tied = Coheres-behaves v client _ _ (Behaves-create v _ tied)
Coheres-request v turn client number (request.Close handle) tied = Coheres-behaves v client _ _ (Behaves-close v _ _ client handle tied)
Coheres-request v turn client number (request.Read handle at count) tied = Coheres-behaves v client _ _ (Behaves-read v client handle at count tied)
Coheres-request v turn client number (request.Write handle at bytes) tied = Coheres-behaves v client _ _ (Behaves-write v client handle at bytes tied)
Coheres-request v turn client number (request.Flush handle) tied = Coheres-behaves v client _ _ (Behaves-flush v _ _ client handle tied)
Coheres-request v turn client number (request.Lock handle at count exclusive wait) tied = Coheres-behaves v client _ _ (Behaves-lock v client handle at count exclusive wait tied)
Coheres-request v turn client number (request.Unlock handle at count) tied = Coheres-behaves v client _ _ (Behaves-unlock v _ _ client handle at count tied)
Coheres-request v turn client number (request.QueryDir handle kind expression restart room) tied = Coheres-behaves v client _ _ (Behaves-query_dir v _ _ client handle kind expression restart room tied)
Coheres-request v turn client number (request.Notify handle filter tree room) tied = Coheres-behaves v client _ _ (Behaves-notify v _ _ client handle filter tree room tied)
Coheres-request v turn client number (request.QueryInfo handle kind room) tied = Coheres-behaves v client _ _ (Behaves-query_info v _ _ client handle kind room tied)
Coheres-request v turn client number (request.SetBasic handle creation access write change attributes) tied = Coheres-behaves v client _ _ (Behaves-set_basic v _ _ client handle _ tied)
Coheres-request v turn client number (request.SetEnd handle length) tied = Coheres-behaves v client _ _ (Behaves-set_end v client handle length tied)
Coheres-request v turn client number (request.SetDisposition handle delete) tied = Coheres-behaves v client _ _ (Behaves-set_disposition v _ _ client handle delete tied)
Coheres-request v turn client number (request.Rename handle path replace) tied = Coheres-behaves v client _ _ (Behaves-rename v _ _ client handle path replace tied)
Coheres-request v turn client number (request.Link handle path replace) tied = Coheres-behaves v client _ _ (Behaves-link v _ _ client handle path replace tied)
Coheres-request v turn client number (request.SetSecurity handle owner dacl) tied = Coheres-behaves v client _ _ (Behaves-set_security v _ _ client handle owner dacl tied)
Coheres-request v turn client number (request.SetReparse handle bytes) tied = Coheres-behaves v client _ _ (Behaves-set_reparse v _ _ client handle bytes tied)
Coheres-request v turn client number (request.GetReparse handle room) tied = Coheres-behaves v client _ _ (Behaves-get_reparse v _ _ client handle room tied)
Coheres-request v turn client number (request.DeleteReparse handle tag) tied = Coheres-behaves v client _ _ (Behaves-delete_reparse v _ _ client handle tag tied)
Coheres-request v turn client number (request.SetQuota sid limit) tied = Coheres-behaves v client _ _ (Behaves-set_quota v _ _ client sid limit tied)
Coheres-request v turn client number (request.QueryQuota sid) tied = Coheres-behaves v client _ _ (Behaves-query_quota v _ _ sid tied)
Coheres-request v turn client number (request.Oplock handle level) tied = Coheres-oplock v client handle level turn tied
Coheres-request v turn client number (request.Ack handle level) tied = Coheres-ack v client handle level turn tied
Coheres-request v turn client number (request.Cancel other) tied = Coheres-cancel v client other tied

Behaves-wait : (v : Volume) (acting : Option ℕ) (key client number : ℕ) → IsTied v → Behaves v acting key (try_wait v client number)
unfolding try_wait
Behaves-wait v acting key client number tied =
    Behaves-if (has_ended v client number) _ _ (λ is. Behaves-done v _ _ _ tied (IsUntouched-same v))
    (λ no. Behaves-if (is_pending v client number) _ _ (λ is. Behaves-done v _ _ _ tied (IsUntouched-same v)) (λ isnt. Behaves-refused v _ _ _ tied))

Coheres-what : (v : Volume) (turn client number : ℕ) (what : What) → IsTied v → Coheres v client what (try_what v turn client number what)
Coheres-what v turn client number (Ask asked) tied = Coheres-request v turn client number asked tied
Coheres-what v turn client number (Tick ticks) tied =
    Coheres-behaves v client _ _ (Behaves-done v _ _ _ tied (record { oplocks = refl; handles = refl; links = refl; streams = refl; last_link = refl; last_stream = refl; root = λ root. root }))
Coheres-what v turn client number (WaitFor other) tied = Coheres-behaves v client _ _ (Behaves-wait v _ _ client other tied)
Coheres-what v turn client number Leave tied = Coheres-behaves v client _ _ (Behaves-leave v _ _ client tied)

-- ---- what reads and opens answer

reads-what : (v : Volume) (turn client number : ℕ) (what : What) → IsTied v → ReadsWhereNoneWrites v client what (try_what v turn client number what)
reads-what v turn client number what tied handle at count is =
    subst (λ (w : What). Where (λ reply. gives_bytes reply.body) (NoOtherWrites v (acting_handle v client w) (acting_key v client w)) (try_what v turn client number w)) (sym is)
    (read-coherent v client handle at count tied)

clashes-what : (v : Volume) (turn client number : ℕ) (what : What) → IsTied v → ClashesWhereNoneKeeps v what (try_what v turn client number what)
clashes-what v turn client number what tied path wanted share disposition options attributes key is =
    subst (λ (w : What). Where (λ reply. is_clash reply.status) (NoOtherKeeps (set_of_path v path) key) (try_what v turn client number w)) (sym is)
    (create-coherent v _ tied)

-- ---- one try, of any call

pub IsCoherent-try : (v : Volume) (call : Call) (turn : ℕ) → IsTied v → IsCoherent v call.client call.what (try v call turn)
IsCoherent-try v call turn tied = elim (cases_Bool (has_left v call.client)) [
  | inl left ↦ rw left (all (refused v InvalidHandle) (Coheres-refused v call.client call.what InvalidHandle tied) (λ handle at count is gives. cc) (λ path wanted share disposition options attributes key is clashes. cc))
  | inr here ↦ rw here (all (try_what v turn call.client call.number call.what) (Coheres-what v turn call.client call.number call.what tied)
      (reads-what v turn call.client call.number call.what tied) (clashes-what v turn call.client call.number call.what tied))
]
  where
    all : (outcome : Outcome) → Coheres v call.client call.what outcome → ReadsWhereNoneWrites v call.client call.what outcome → ClashesWhereNoneKeeps v call.what outcome
        → IsCoherent v call.client call.what outcome
    all outcome it reads clashes = record {
      tied = it.tied;
      bytes = it.keeps.reads_stay;
      ends = it.ended;
      begins = it.begins;
      alone = it.alone;
      changes = it.keeps.writers_are_done;
      reads = reads;
      clashes = clashes;
    }

-- where a run begins
pub IsTied-fresh : (setup : Setup) → IsTied (fresh setup)
IsTied-fresh setup = record {
  oplocks_differ = λ j k d below within. absurd (omega arith);
  oplocks_have_keys = All-nil _;
  streams_live = All-nil _;
  links_numbered = record { rising = λ j k d below within. absurd (omega arith); given = All-nil _ };
  streams_numbered = record { rising = λ j k d below within. absurd (omega arith); given = All-nil _ };
  root = record { is_there = refl; has_no_link = All-nil _; given = omega arith };
}

pub WritersAlone-fresh : (setup : Setup) → WritersAlone (fresh setup)
WritersAlone-fresh setup handle other apart writes = cc
