-- Which ends a try adds: one law for each way in which a definition goes on, and one for each edit.
use Rattle.std.proofs.Common.{◌≡◌, ℕ, Bool, true, false, List, [], ◌∷◌, ◌++◌, append-nil, append_assoc, refl, ap, sym, ◌∙◌, inl, inr, Option, Some, None}
use Rattle.std.specs.List.{list_any}
use Rattle.std.specs.Option.{option_map_or}
use Rattle.std.specs.Prelude.{◌||◌, if◌then◌else◌}
use Rattle.std.proofs.lemmas.List.Folds.{list_any-append}
use Rattle.fsa_types.specs.Oplocks.{Effect, Stays, Ends, Begins, Lowers, effect}
use Rattle.fsa_types.specs.Rows.{row_of}
use Rattle.fsa_types.specs.declared.oplock.Class.{Class}
use Rattle.fsa_types.specs.declared.oplock.HandleSet.{HandleSet}
use Rattle.fsa_types.specs.declared.reply.EndOf.{EndOf}
use Rattle.fsa_types.specs.declared.reply.Reply.{Reply}
use Rattle.fsa_types.specs.declared.request.CallId.{CallId}
use Rattle.fsa_types.specs.declared.request.Level.{Level}
use Rattle.fsa_types.specs.declared.request.Level.TheVariants.{Nil}
use Rattle.fsa_types.specs.declared.status.Status.{Status}
use Rattle.fsa_model.specs.Breaks.{with_told, with_break_begun, with_effect, with_breaks, chosen}
use Rattle.fsa_model.specs.Changes.{with_change_noted}
use Rattle.fsa_model.specs.Edits.{with_end, without_oplock}
use Rattle.fsa_model.specs.Outcome.{Outcome, Done, Stay, Hold, ends_with, refused}
use Rattle.fsa_model.specs.Volume.{Oplock, Volume}
use Rattle.fsa_model.specs.Waits.{waits_for, held_by}
use Rattle.fsa_model.proofs.BreakLaws.{broken}
use Rattle.fsa_model.proofs.RowLaws.{option_cases}
use Rattle.fsa_model.proofs.WaitLaws.{or_none}
use Rattle.fsa_model.specs.Starving.{is_no_memory, is_stalled, only_settlements_give, starved_of, EndsPlain, EndsPlainly, TriesPlain}

-- ---- lists of ends

pub starved_of-append : (front back : List EndOf) → starved_of (front ++ back) ≡ starved_of front ++ starved_of back
starved_of-append [] back = refl
starved_of-append (end ∷ front) back =
    elim (is_no_memory end.reply.status) as (λ found. (if found then record { client = end.client; number = end.number } ∷ starved_of (front ++ back) else starved_of (front ++ back))
    ≡ (if found then record { client = end.client; number = end.number } ∷ starved_of front else starved_of front) ++ starved_of back) [
      | true ↦ ap (λ (ids : List CallId). record { client = end.client; number = end.number } ∷ ids) (starved_of-append front back)
      | false ↦ starved_of-append front back
    ]

-- where none ended with a status that only settlements give none found no memory
pub starved_of-plain : (ends : List EndOf) → list_any (λ end. only_settlements_give end.reply.status) ends ≡ false → starved_of ends ≡ []
starved_of-plain [] plain = refl
starved_of-plain (end ∷ ends) plain =
    let parts = or_none (only_settlements_give end.reply.status) (list_any (λ end. only_settlements_give end.reply.status) ends) plain in
    rw ((or_none (is_no_memory end.reply.status) (is_stalled end.reply.status) parts.0).0) (starved_of-plain ends parts.1)

-- ---- what is added

-- nothing
pub EndsPlain-same : {v w : Volume} → w.ended ≡ v.ended → EndsPlain v w
EndsPlain-same {v} same = record { more = []; is = same ∙ sym (append-nil v.ended); plain = refl }

pub EndsPlain-next : {u v w : Volume} → EndsPlain u v → EndsPlain v w → EndsPlain u w
EndsPlain-next {u} first second = record {
  more = first.more ++ second.more;
  is = second.is ∙ ap (λ (ended : List EndOf). ended ++ second.more) first.is ∙ append_assoc u.ended first.more second.more;
  plain = list_any-append (λ (end : EndOf). only_settlements_give end.reply.status) first.more second.more ∙ ap (λ b. b || list_any (λ (end : EndOf). only_settlements_give end.reply.status) second.more) first.plain ∙ second.plain;
}

-- one end
pub EndsPlain-end : {v w : Volume} (client number : ℕ) (reply : Reply) → EndsPlain v w → only_settlements_give reply.status ≡ false → EndsPlain v (with_end w client number reply)
EndsPlain-end {v} {w} client number reply before plain =
    EndsPlain-next before (record { more = record { client = client; number = number; reply = reply } ∷ []; is = refl; plain = rw plain refl })

pub EndsPlain-if : {v : Volume} (test : Bool) (one other : Volume) → EndsPlain v one → EndsPlain v other → EndsPlain v (if test then one else other)
EndsPlain-if true one other holds fails = holds
EndsPlain-if false one other holds fails = fails

pub EndsPlain-option : {X : Type 0} {v : Volume} (found : Option X) (some : X → Volume) (none : Volume) → ((x : X) → EndsPlain v (some x)) → EndsPlain v none
    → EndsPlain v (option_map_or some found none)
EndsPlain-option None some none with_some with_none = with_none
EndsPlain-option (Some x) some none with_some with_none = with_some x

-- a change noted
pub EndsPlain-noted : (v : Volume) (link action bits : ℕ) (stream : Option ℕ) → EndsPlain v (with_change_noted v link action bits stream)
EndsPlain-noted v link action bits stream = elim (option_cases (row_of v.links link)) [
  | inl none ↦ rw none (EndsPlain-same refl)
  | inr some ↦ rw some.1 (EndsPlain-same refl)
]

-- ---- breaks

EndsPlain-told : (v : Volume) (turn : Option ℕ) (level : Level) (ack : Bool) → EndsPlain v (with_told v turn level ack)
EndsPlain-told v None level ack = EndsPlain-same refl
EndsPlain-told v (Some turn) level ack = elim (option_cases (row_of v.pending turn)) [
  | inl none ↦ rw none (EndsPlain-same refl)
  | inr some ↦ rw some.1 (EndsPlain-end some.0.call.client some.0.call.number _ (EndsPlain-same refl) refl)
]

EndsPlain-effect : (v : Volume) (oplock : Oplock) (done : Effect) → EndsPlain v (with_effect v oplock done)
EndsPlain-effect v oplock Stays = EndsPlain-same refl
EndsPlain-effect v oplock Ends = EndsPlain-next {v = without_oplock v oplock.handle} (EndsPlain-same refl) (EndsPlain-told (without_oplock v oplock.handle) oplock.call Nil false)
EndsPlain-effect v oplock (Begins level) =
    EndsPlain-next {v = with_break_begun v oplock.handle level} (EndsPlain-same refl) (EndsPlain-told (with_break_begun v oplock.handle level) oplock.call level true)
EndsPlain-effect v oplock (Lowers level) = EndsPlain-same refl

EndsPlain-broken : (kind : Class) (v : Volume) (oplocks : List Oplock) → EndsPlain v (broken kind v oplocks)
EndsPlain-broken kind v [] = EndsPlain-same refl
EndsPlain-broken kind v (o ∷ oplocks) =
    EndsPlain-next (EndsPlain-effect v o (effect kind o.level o.target)) (EndsPlain-broken kind (with_effect v o (effect kind o.level o.target)) oplocks)

pub EndsPlain-breaks : (v : Volume) (on : HandleSet) (kind : Class) (acting : Option ℕ) (key : ℕ) → EndsPlain v (with_breaks v on kind acting key)
EndsPlain-breaks v on kind acting key = EndsPlain-broken kind v (chosen v on acting key)

-- ---- how a try goes on

-- it changes nothing and replies
pub TriesPlain-replies : (v : Volume) (reply : Reply) → only_settlements_give reply.status ≡ false → TriesPlain v (Done v reply)
TriesPlain-replies v reply plain = record { so = (EndsPlain-same refl, plain) }

pub TriesPlain-refused : (v : Volume) (status : Status) → only_settlements_give status ≡ false → TriesPlain v (refused v status)
TriesPlain-refused v status plain = record { so = (EndsPlain-same refl, plain) }

pub TriesPlain-done : (v w : Volume) (reply : Reply) → EndsPlain v w → only_settlements_give reply.status ≡ false → TriesPlain v (Done w reply)
TriesPlain-done v w reply ends plain = record { so = (ends, plain) }

pub TriesPlain-ends : (v w : Volume) (status : Status) → EndsPlain v w → only_settlements_give status ≡ false → TriesPlain v (ends_with w status)
TriesPlain-ends v w status ends plain = record { so = (ends, plain) }

pub TriesPlain-if : {v : Volume} (test : Bool) (one other : Outcome) → (test ≡ true → TriesPlain v one) → (test ≡ false → TriesPlain v other) → TriesPlain v (if test then one else other)
TriesPlain-if true one other holds fails = holds refl
TriesPlain-if false one other holds fails = fails refl

pub TriesPlain-option : {X : Type 0} {v : Volume} (found : Option X) (some : X → Outcome) (none : Outcome)
    → ((x : X) → found ≡ Some x → TriesPlain v (some x)) → TriesPlain v none → TriesPlain v (option_map_or some found none)
TriesPlain-option None some none with_some with_none = with_none
TriesPlain-option (Some x) some none with_some with_none = with_some x refl

ends-after : (u v : Volume) (outcome : Outcome) → EndsPlain u v → EndsPlainly v outcome → EndsPlainly u outcome
ends-after u v (Done w reply) before so = (EndsPlain-next before so.0, so.1)
ends-after u v (Stay w interim) before so = EndsPlain-next before so
ends-after u v (Hold w blockers interim) before so = EndsPlain-next before so

-- it goes on after breaks
pub TriesPlain-after_breaks : (v : Volume) (on : HandleSet) (kind : Class) (acting : Option ℕ) (key : ℕ) (outcome : Outcome)
    → TriesPlain (with_breaks v on kind acting key) outcome → TriesPlain v outcome
TriesPlain-after_breaks v on kind acting key outcome tries = record { so = ends-after v (with_breaks v on kind acting key) outcome (EndsPlain-breaks v on kind acting key) tries.so }

-- it is held by breaks
pub TriesPlain-held_by : (v : Volume) (on : HandleSet) (kind : Class) (acting : Option ℕ) (key : ℕ) → TriesPlain v (held_by v on kind acting key)
TriesPlain-held_by v on kind acting key = record { so = EndsPlain-breaks v on kind acting key }

-- it is held by breaks or goes on after them
pub TriesPlain-breaks : (v : Volume) (on : HandleSet) (kind : Class) (acting : Option ℕ) (key : ℕ) (outcome : Outcome)
    → TriesPlain (with_breaks v on kind acting key) outcome → TriesPlain v (if waits_for v on kind acting key then held_by v on kind acting key else outcome)
TriesPlain-breaks v on kind acting key outcome tries =
    TriesPlain-if (waits_for v on kind acting key) _ _ (λ is. TriesPlain-held_by v on kind acting key) (λ no. TriesPlain-after_breaks v on kind acting key outcome tries)
