-- How the wait ends that is the last call of its client.
use Rattle.std.proofs.Common.{◌≡◌, ℕ, ◌+◌, Bool, true, false, not, List, [], ◌∷◌, ◌++◌, refl, ap, sym, subst, ◌∙◌, inl, inr, Option, Some, None, IsSome}
use Rattle.std.specs.List.{list_any}
use Rattle.std.specs.Prelude.{◌==◌, ◌&&◌, ◌||◌, find}
use Rattle.std.proofs.lemmas.Bool.{cases_Bool}
use Rattle.fsa_types.specs.declared.reply.EndOf.{EndOf}
use Rattle.fsa_types.specs.declared.reply.Body.{Body}
use Rattle.fsa_types.specs.declared.reply.Body.TheVariants.{Got, Packed, Stopped}
use Rattle.fsa_types.specs.declared.reply.Reply.{Reply}
use Rattle.fsa_types.specs.declared.request.Call.{Call}
use Rattle.fsa_types.specs.declared.request.What.TheVariants.{WaitFor}
use Rattle.fsa_model.specs.Engine.{CallsDiffer}
use Rattle.fsa_model.specs.Frame.{is_leave}
use Rattle.fsa_model.specs.History.{HistoryEntry, Run, run}
use Rattle.fsa_model.specs.Once.{is_end}
use Rattle.fsa_model.specs.Setup.{Setup}
use Rattle.fsa_model.specs.Waiting.{is_wait}
use Rattle.fsa_model.proofs.CountLaws.{and_left, and_right}
use Rattle.fsa_model.proofs.RowLaws.{any-weaker, find-any, option_cases}
use Rattle.fsa_model.proofs.WaitLaws.{find-passes}
use Rattle.fsa_model.specs.Ended.{holds_list, reply_in}
use Rattle.history_laws.specs.CallAnswers.{EndedWithList, HasEnded}
use Rattle.history_laws.specs.WaitEnds.{cancels_in, ends_otherwise, gives_nothing, is_wait_end, leaves_in, wait_may_end}
use Rattle.history_laws.proofs.WaitRuns.{waits-end}
use Rattle.history_lock.specs.History.{calls_by}
use Rattle.shared_volume.specs.Histories.{IsMachineHistory}
use Rattle.shared_volume.proofs.HistoryLaws.{numbered-differ}
use Rattle.shared_volume.specs.Shared.{EndsInWait, IsStatusOfWait, Known, OnlySees, entry_call, call_client, has_leaving}

-- ---- the last call of a client in a history

abbrev mine_in : ℕ → List HistoryEntry → List Call
mine_in client entries = calls_by entry_call call_client client entries

record HasLast (client : ℕ) (entries : List HistoryEntry) (calls : List Call) (call : Call) : Type 0 where
  front : List HistoryEntry
  entry : HistoryEntry
  later : List HistoryEntry
  is : entries ≡ front ++ entry ∷ later
  called : entry.call ≡ call
  before : mine_in client front ≡ calls
  none : mine_in client later ≡ []

has_last : (client : ℕ) (entries : List HistoryEntry) (calls : List Call) (call : Call) → mine_in client entries ≡ calls ++ call ∷ [] → HasLast client entries calls call
has_last client [] [] call is = absurd (let impossible : [] ≡ call ∷ [] = is in cc)
has_last client [] (one ∷ calls) call is = absurd (let impossible : [] ≡ one ∷ (calls ++ call ∷ []) = is in cc)
has_last client (entry ∷ entries) calls call is = elim (cases_Bool (entry.call.client == client)) [
  | inr other ↦ (let rest = has_last client entries calls call (rw other at is) in record {
    front = entry ∷ rest.front;
    entry = rest.entry;
    later = rest.later;
    is = ap (λ (l : List HistoryEntry). entry ∷ l) rest.is;
    called = rest.called;
    before = rw other rest.before;
    none = rest.none;
  })
  | inl own ↦ by (λ calls is. has_last client entries calls call is) calls (rw own at is) own
]
  where
    by : ((calls : List Call) → mine_in client entries ≡ calls ++ call ∷ [] → HasLast client entries calls call)
        → (calls : List Call) → entry.call ∷ mine_in client entries ≡ calls ++ call ∷ [] → (entry.call.client == client) ≡ true → HasLast client (entry ∷ entries) calls call
    by more [] is own = record { front = []; entry = entry; later = entries; is = refl; called = (let f : entry.call ∷ mine_in client entries ≡ call ∷ [] = is in cc); before = refl; none = (let f : entry.call ∷ mine_in client entries ≡ call ∷ [] = is in cc) }
    by more (one ∷ calls) is own = (let first : entry.call ≡ one = (let f : entry.call ∷ mine_in client entries ≡ one ∷ (calls ++ call ∷ []) = is in cc) in
        let rest = more calls (let f : entry.call ∷ mine_in client entries ≡ one ∷ (calls ++ call ∷ []) = is in cc) in record {
          front = entry ∷ rest.front;
          entry = rest.entry;
          later = rest.later;
          is = ap (λ (l : List HistoryEntry). entry ∷ l) rest.is;
          called = rest.called;
          before = rw own (ap (λ (l : List Call). entry.call ∷ l) rest.before ∙ ap (λ (c : Call). c ∷ calls) first);
          none = rest.none;
        })

no_cancel_by : (client number : ℕ) (later : List HistoryEntry) → mine_in client later ≡ [] → cancels_in client number later ≡ false
no_cancel_by client number [] none = refl
no_cancel_by client number (entry ∷ later) none = elim (cases_Bool (entry.call.client == client)) [
  | inl own ↦ absurd (let impossible : entry.call ∷ mine_in client later ≡ [] = rw own at none in cc)
  | inr other ↦ rw other (no_cancel_by client number later (rw other at none))
]

leaves_by : (client : ℕ) (front : List HistoryEntry) → leaves_in client front ≡ has_leaving (mine_in client front)
leaves_by client [] = refl
leaves_by client (entry ∷ front) = elim (cases_Bool (entry.call.client == client)) [
  | inl own ↦ rw own (ap (λ (b : Bool). is_leave entry.call.what || b) (leaves_by client front))
  | inr other ↦ rw other (leaves_by client front)
]

pub leaving-push : (calls : List Call) (call : Call) → is_leave call.what ≡ false → has_leaving (calls ++ call ∷ []) ≡ has_leaving calls
leaving-push [] call stays = rw stays refl
leaving-push (one ∷ calls) call stays = ap (λ (b : Bool). is_leave one.what || b) (leaving-push calls call stays)

-- ---- how it ends

-- what is known of a wait that is its client's last call: it has ended in no other way
pub waits-so : (setup : Setup) (seen : List HistoryEntry) (mine : List Call) (client number : ℕ) (r : Run) → IsMachineHistory setup seen → mine ≡ mine_in client seen → EndsInWait mine client number → run setup seen ≡ Some r
    → ends_otherwise (is_wait_end (has_leaving mine) false) client number r.volume ≡ false
waits-so setup seen mine client number r history own last runs =
    let call : Call = record { client = client; number = number; what = WaitFor last.earlier } in
    let at : HasLast client seen last.before call = has_last client seen last.before call (sym own ∙ last.is) in
    let by : at.entry.call.client ≡ client = ap (λ (c : Call). c.client) at.called in
    let no : at.entry.call.number ≡ number = ap (λ (c : Call). c.number) at.called in
    let law = waits-end setup at.front at.later at.entry r (subst CallsDiffer at.is (numbered-differ seen history.numbered)) (ap (run setup) (sym at.is) ∙ runs) (ap (λ (c : Call). is_wait c.what) at.called) in
    let left : leaves_in client at.front ≡ has_leaving mine = leaves_by client at.front ∙ ap has_leaving at.before ∙ sym (leaving-push last.before call refl) ∙ ap has_leaving (sym last.is) in
    let law_here : ends_otherwise (is_wait_end (leaves_in client at.front) (cancels_in client number at.later)) client number r.volume ≡ false = rw (by, no) at law in
    rw (left, no_cancel_by client number at.later at.none) at law_here

some_run : (setup : Setup) (seen : List HistoryEntry) → IsMachineHistory setup seen → (r : Run) × (run setup seen ≡ Some r)
some_run setup seen history = elim (option_cases (run setup seen)) [
  | inl none ↦ absurd (let never : IsSome {T = Run} None = subst (λ (o : Option Run). IsSome o) none history.runs in cc)
  | inr some ↦ some
]

pub status-of_wait : (setup : Setup) (seen : List HistoryEntry) (mine : List Call) (client number : ℕ) (reply : Reply) → IsMachineHistory setup seen → mine ≡ mine_in client seen → EndsInWait mine client number → HasEnded setup seen client number reply
    → IsStatusOfWait mine reply.status
status-of_wait setup seen mine client number reply history own last ended =
    let r = some_run setup seen history in
    let law = waits-so setup seen mine client number r.0 history own last r.1 in
    by r.0.volume.ended law (ended r.0 r.1)
  where
    by : (ends : List EndOf) → list_any (λ end. is_end client number end && not (is_wait_end (has_leaving mine) false end.reply)) ends ≡ false → reply_in ends client number ≡ Some reply → IsStatusOfWait mine reply.status
    by ends none is = elim (option_cases (find (is_end client number) ends)) [
      | inl missing ↦ (let impossible : None ≡ Some reply = rw missing at is in cc)
      | inr some ↦ (let found : Some some.0.reply ≡ Some reply = rw some.1 at is in let same : some.0.reply ≡ reply = cc in
          elim (cases_Bool (is_wait_end (has_leaving mine) false reply)) [
            | inl fine ↦ and_left (wait_may_end (has_leaving mine) false reply.status) (gives_nothing reply.body) fine
            | inr other ↦ absurd (let there = find-any (is_end client number) (λ end. is_end client number end && not (is_wait_end (has_leaving mine) false end.reply)) ends some.0 some.1
                (rw (find-passes (is_end client number) ends some.0 some.1, same, other) refl) in let impossible : true ≡ false = sym there ∙ none in cc)
          ])
    ]

pub no-list_of_wait : (setup : Setup) (seen : List HistoryEntry) (mine : List Call) (client number : ℕ) → IsMachineHistory setup seen → mine ≡ mine_in client seen → EndsInWait mine client number → EndedWithList setup seen client number → ⊥
no-list_of_wait setup seen mine client number history own last list =
    let r = some_run setup seen history in
    let law = waits-so setup seen mine client number r.0 history own last r.1 in
    let there = any-weaker (λ (end : EndOf). is_end client number end && holds_list end.reply.body) (λ end. is_end client number end && not (is_wait_end (has_leaving mine) false end.reply)) r.0.volume.ended
    (λ end both. (let its : is_end client number end ≡ true = and_left (is_end client number end) _ both in rw its (otherwise end.reply.status end.reply.body (and_right (is_end client number end) _ both)))) (list r.0 r.1) in
    (let impossible : true ≡ false = sym there ∙ law in cc)
  where
    never : (b : Bool) → not (b && false) ≡ true
    never true = refl
    never false = refl

    otherwise : (status : _) (body : Body) → holds_list body ≡ true → not (wait_may_end (has_leaving mine) false status && gives_nothing body) ≡ true
    otherwise status (Got bytes) holds = never (wait_may_end (has_leaving mine) false status)
    otherwise status (Packed kind bytes) holds = never (wait_may_end (has_leaving mine) false status)
    otherwise status (Stopped tag bytes rest) holds = never (wait_may_end (has_leaving mine) false status)
    otherwise status _ holds = absurd (let impossible : false ≡ true = holds in cc)

-- ---- what a pass knows later, while it makes no call

later-wait : (v w : Known) (number : ℕ) → OnlySees v w → EndsInWait v.own.mine v.own.client number → EndsInWait w.own.mine w.own.client number
later-wait v w number sees last =
    let client : w.own.client ≡ v.own.client = ap (λ (z : Known). z.own.client) sees.view in
    let mine : w.own.mine ≡ v.own.mine = ap (λ (z : Known). z.own.mine) sees.view in
    record { before = last.before; earlier = last.earlier; is = rw (client, mine) last.is }

pub status-later : (setup : Setup) (v w : Known) (number : ℕ) (reply : Reply) → OnlySees v w → IsMachineHistory setup w.own.seen → w.own.mine ≡ mine_in w.own.client w.own.seen → EndsInWait v.own.mine v.own.client number
    → HasEnded setup w.own.seen w.own.client number reply → IsStatusOfWait v.own.mine reply.status
status-later setup v w number reply sees history own last ended =
    let mine : w.own.mine ≡ v.own.mine = ap (λ (z : Known). z.own.mine) sees.view in
    let few : IsStatusOfWait w.own.mine reply.status = status-of_wait setup w.own.seen w.own.mine w.own.client number reply history own (later-wait v w number sees last) ended in
    subst (λ (calls : List Call). IsStatusOfWait calls reply.status) mine few

pub no-list-later : (setup : Setup) (v w : Known) (number : ℕ) → OnlySees v w → IsMachineHistory setup w.own.seen → w.own.mine ≡ mine_in w.own.client w.own.seen → EndsInWait v.own.mine v.own.client number
    → EndedWithList setup w.own.seen w.own.client number → ⊥
no-list-later setup v w number sees history own last list = no-list_of_wait setup w.own.seen w.own.mine w.own.client number history own (later-wait v w number sees last) list
