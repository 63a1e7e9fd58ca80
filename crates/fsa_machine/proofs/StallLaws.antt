-- Waits that end one by one, since all clients wait.
use Rattle.std.proofs.Common.{◌≡◌, ℕ, ◌+◌, ◌<◌, ◌≤◌, Bool, true, false, List, [], ◌∷◌, ◌++◌, length, map, filter, drop, refl, ap, sym, subst, ◌∙◌, arith, drop-cons, suc, get_or, length-drop, ◌-◌, inl, inr, length-append, append_assoc}
use Rattle.std.proofs.lemmas.Bool.{cases_Bool}
use Rattle.std.proofs.lemmas.List.{length-map}
use Rattle.fsa_types.specs.Sorting.{put_in_order, in_order}
use Rattle.fsa_types.specs.declared.request.CallId.{CallId}
use Rattle.fsa_types.specs.declared.reply.Body.TheVariants.{Nothing}
use Rattle.fsa_types.specs.declared.reply.EndOf.{EndOf}
use Rattle.fsa_types.specs.declared.reply.Reply.{Reply}
use Rattle.fsa_types.specs.declared.status.Status.TheVariants.{Stalled}
use Rattle.fsa_model.specs.Close.{with_calls_ended}
use Rattle.fsa_model.specs.Turn.{answered, ends_between, turn_number, volume_after}
use Rattle.fsa_model.specs.Volume.{Pending, Volume}
use Rattle.fsa_model.specs.Waiting.{is_wait, is_asked_before, all_wait, waits_in_order, with_stalled}
use Rattle.fsa_model.proofs.OnceLaws.{AddsEnds-same, AddsEnds-next, AddsEnds-length, ended-calls_ended}
use Rattle.fsa_model.proofs.LoopLaws.{Reaches-keeping}
use Rattle.fsa_model.proofs.TurnLaws.{Adds, Adds-answered, Turns, settlement-turns, try-keeps, tried-begins}
use Rattle.fsa_model.specs.Settle.{settled}
use Rattle.fsa_model.specs.Outcome.{Outcome, Done, Stay, Hold}
use Rattle.fsa_model.specs.Try.{try}
use Rattle.fsa_types.specs.declared.request.Call.{Call}
use Rattle.std.proofs.lemmas.List.{drop_all}
use Rattle.volume_state.specs.Waits.{id_of}
use Rattle.std.specs.Prelude.{IsTrue, nat_lt}
use Rattle.std.proofs.lemmas.Bool.{eqb-true, lt-ltb}
use Rattle.std.proofs.lemmas.List.Elements.{All-nil}
use Rattle.fsa_types.specs.Rows.{lives}
use Rattle.fsa_types.specs.declared.reply.Blocker.{Blocker}
use Rattle.fsa_types.specs.declared.request.What.{What}
use Rattle.fsa_types.specs.declared.request.What.TheVariants.{WaitFor}
use Rattle.fsa_model.specs.Edits.{with_end}
use Rattle.fsa_model.specs.Once.{IsOnce, how_many, made, times}
use Rattle.fsa_model.specs.Waiting.{blocker_lives, is_pending}
use Rattle.fsa_model.specs.Settling.{AddsEnds, MayTakeUp, MayTurn, Reaches, is_call_of, is_under, may_be_held}
use Rattle.fsa_model.proofs.CountLaws.{how_many-filter_le, how_many-in_order, how_many-weaker, none-how_many}
use Rattle.fsa_model.proofs.OnceLaws.{IsOnce-kept, is_same-refl, pending-with_end, times-pending_ends}
use Rattle.fsa_model.proofs.TurnLaws.{TriedTo}
use Rattle.fsa_machine.specs.Serves.{MayPend, MayTry, Serves, ServesOn, awaits_made, is_line_call}
use Rattle.fsa_machine.proofs.ServeLaws.{Comes, ComesTo, ServesWithin-more, asked-line, try-comes, SameBase-same, Serves-ends, Serves-over, Serves-pends}
use Rattle.fsa_machine.proofs.StepLaws.{Replies, own_ends, replies, told-end, told-none, ends-joined}

-- these are still to end; the others have been given out
pub record Stalls (v w : Volume) (left : List CallId) (before now : List EndOf) : Type 0 where
  pub calls : List (ℕ × Pending)
  pub ids : left ≡ map id_of calls
  pub goes : with_calls_ended (λ _. Stalled) calls w ≡ with_calls_ended (λ _. Stalled) (waits_in_order v) v
  pub extends : AddsEnds v.ended w.ended
  pub told : now ≡ before ++ ends_between v w

pub Stalls-begins : (v : Volume) (left : List CallId) (before : List EndOf) → left ≡ map id_of (waits_in_order v) → Stalls v v left before before
Stalls-begins v left before is = record { calls = waits_in_order v; ids = is; goes = refl; extends = AddsEnds-same v.ended; told = told-none v before }

pub Stalls-step : (v w x : Volume) (id : CallId) (left more : List CallId) (before now after : List EndOf) → Stalls v w left before now → left ≡ id ∷ more
    → x ≡ with_end w id.client id.number (record { status = Stalled; body = Nothing }) → after ≡ now ++ record { client = id.client; number = id.number; reply = record { status = Stalled; body = Nothing } } ∷ []
    → Stalls v x more before after
Stalls-step v w x id left more before now after stalls cut is told = go stalls.calls (sym cut ∙ stalls.ids) stalls.goes
  where
    go : (calls : List (ℕ × Pending)) → id ∷ more ≡ map id_of calls → with_calls_ended (λ _. Stalled) calls w ≡ with_calls_ended (λ _. Stalled) (waits_in_order v) v → Stalls v x more before after
    go [] ids goes = (let impossible : id ∷ more ≡ [] = ids in cc)
    go (entry ∷ calls) ids goes =
        let same : id ≡ id_of entry = cc in
        let rest : more ≡ map id_of calls = cc in
        let own : x ≡ with_end w (id_of entry).client (id_of entry).number (record { status = Stalled; body = Nothing }) = is ∙ ap (λ (i : CallId). with_end w i.client i.number (record { status = Stalled; body = Nothing })) same in
        let longer : AddsEnds w.ended x.ended = record { more = record { client = id.client; number = id.number; reply = record { status = Stalled; body = Nothing } } ∷ []; is = ap (λ (u : Volume). u.ended) is } in
        record {
          calls = calls;
          ids = rest;
          goes = ap (λ (u : Volume). with_calls_ended (λ _. Stalled) calls u) own ∙ goes;
          extends = AddsEnds-next stalls.extends longer;
          told = told-end w x id.client id.number (record { status = Stalled; body = Nothing }) now after is told ∙ ap (λ (ends : List EndOf). ends ++ ends_between w x) stalls.told
              ∙ append_assoc before (ends_between v w) (ends_between w x) ∙ ap (λ (ends : List EndOf). before ++ ends) (ends-joined v w x stalls.extends longer);
        }

pub Stalls-done : (v w : Volume) (left : List CallId) (before now : List EndOf) → Stalls v w left before now → left ≡ [] → w ≡ with_calls_ended (λ _. Stalled) (waits_in_order v) v
Stalls-done v w left before now stalls none = go stalls.calls (sym none ∙ stalls.ids) stalls.goes
  where
    go : (calls : List (ℕ × Pending)) → [] ≡ map id_of calls → with_calls_ended (λ _. Stalled) calls w ≡ with_calls_ended (λ _. Stalled) (waits_in_order v) v → w ≡ with_calls_ended (λ _. Stalled) (waits_in_order v) v
    go [] ids goes = goes
    go (entry ∷ calls) ids goes = cc

length-put : {X : Type 0} (before : X → X → Bool) (item : X) (items : List X) → length (put_in_order before item items) ≡ length items + 1
length-put before item [] = refl
length-put before item (first ∷ items) = elim (cases_Bool (before item first)) [
  | inl is ↦ rw is (omega arith)
  | inr isnt ↦ rw isnt (let more = length-put before item items in omega arith)
]

length-ordered : {X : Type 0} (before : X → X → Bool) (items : List X) → length (in_order before items) ≡ length items
length-ordered before [] = refl
length-ordered before (item ∷ items) = (let one = length-put before item (in_order before items) in let more = length-ordered before items in omega arith)

length-kept : {X : Type 0} (keep : X → Bool) (items : List X) → length (filter keep items) ≤ length items
length-kept keep [] = omega arith
length-kept keep (item ∷ items) = elim (cases_Bool (keep item)) [
  | inl is ↦ rw is (let more = length-kept keep items in omega arith)
  | inr isnt ↦ rw isnt (let more = length-kept keep items in omega arith)
]

-- no more wait than are pending
pub few-waits : (v : Volume) (ids : List CallId) → ids ≡ map id_of (waits_in_order v) → length ids ≤ length v.pending
few-waits v ids is =
    let same = ap (λ (xs : List CallId). length xs) is in
    let mapped = length-map (waits_in_order v) id_of in
    let ordered = length-ordered (λ (a : ℕ × Pending) (b : ℕ × Pending). is_asked_before a.1 b.1) (filter (λ (entry : ℕ × Pending). is_wait entry.1.call.what) v.pending) in
    let kept = length-kept (λ (entry : ℕ × Pending). is_wait entry.1.call.what) v.pending in
    omega arith

-- where a list is cut
pub drop-index : {X : Type 0} (xs ys : List X) (i : ℕ) (d : X) → i < length xs → xs ≡ ys → drop i ys ≡ get_or xs i d ∷ drop (i + 1) ys
drop-index {X} xs ys i d within same =
    let next : suc i ≡ i + 1 = omega arith in
    subst (λ (zs : List X). drop i zs ≡ get_or xs i d ∷ drop (i + 1) zs) same (drop-cons xs i d within ∙ ap (λ n. get_or xs i d ∷ drop n xs) next)

pub drop-past : {X : Type 0} (xs ys : List X) (i : ℕ) → length xs ≤ i → xs ≡ ys → drop i ys ≡ []
drop-past {X} xs ys i past same = subst (λ (zs : List X). drop i zs ≡ []) same (drop_all i xs past)

-- ---- the settlement

stalled-extends : (w : Volume) → AddsEnds w.ended (with_stalled w).ended
stalled-extends w = elim (cases_Bool (all_wait w)) [
  | inl all ↦ rw all (ended-calls_ended (λ _. Stalled) (waits_in_order w) w)
  | inr some ↦ rw some (AddsEnds-same w.ended)
]

pub settle-told : (v w x : Volume) (names : List CallId) (before told now : List EndOf) → Reaches v names w → x ≡ with_stalled w → told ≡ before ++ ends_between v w → now ≡ told ++ ends_between w x → now ≡ before ++ ends_between v x
settle-told v w x names before told now reaches is told_is now_is =
    let keeping = Reaches-keeping v w names reaches in
    let longer : AddsEnds w.ended x.ended = subst (λ (u : Volume). AddsEnds w.ended u.ended) (sym is) (stalled-extends w) in
    now_is ∙ ap (λ (ends : List EndOf). ends ++ ends_between w x) told_is ∙ append_assoc before (ends_between v w) (ends_between w x)
    ∙ ap (λ (ends : List EndOf). before ++ ends) (ends-joined v w x keeping.ended longer)

-- no end goes
pub settle-longer : (v w x : Volume) (names : List CallId) → Reaches v names w → x ≡ with_stalled w → length v.ended ≤ length x.ended
settle-longer v w x names reaches is =
    let keeping = Reaches-keeping v w names reaches in
    let first = AddsEnds-length keeping.ended in
    let second = AddsEnds-length (stalled-extends w) in
    let all = ap (λ (u : Volume). length u.ended) is in
    omega arith

-- ---- calls that end where all wait

-- the first of them is pending, and once it has ended the rest are
ends-next : (entry : ℕ × Pending) (calls : List (ℕ × Pending)) (v w : Volume) → w ≡ with_end v entry.1.call.client entry.1.call.number (record { status = Stalled; body = Nothing }) → IsOnce v
    → ((client number : ℕ) → how_many (is_call_of client number) (entry ∷ calls) ≤ how_many (is_call_of client number) v.pending)
    → ((client number : ℕ) → times client number w ≡ times client number v) × ((client number : ℕ) → how_many (is_call_of client number) calls ≤ how_many (is_call_of client number) w.pending)
ends-next entry calls v w is once pend = (same, rest)
  where
    pends : 1 ≤ how_many (is_call_of entry.1.call.client entry.1.call.number) v.pending
    pends = (let few = pend entry.1.call.client entry.1.call.number in
        let self : is_call_of entry.1.call.client entry.1.call.number entry ≡ true = is_same-refl entry.1.call.client entry.1.call.number in
        let some : 1 + how_many (is_call_of entry.1.call.client entry.1.call.number) calls ≤ how_many (is_call_of entry.1.call.client entry.1.call.number) v.pending = rw self at few in omega arith)

    same : (client number : ℕ) → times client number w ≡ times client number v
    same client number = ap (λ (u : Volume). times client number u) is ∙ times-pending_ends v entry.1.call.client entry.1.call.number (record { status = Stalled; body = Nothing }) once pends client number

    rest : (client number : ℕ) → how_many (is_call_of client number) calls ≤ how_many (is_call_of client number) w.pending
    rest client number =
        let one = ap (λ (u : Volume). how_many (is_call_of client number) u.pending) is ∙ pending-with_end v entry.1.call.client entry.1.call.number client number (record { status = Stalled; body = Nothing }) in
        let all = pend client number in
        let few : times client number v ≤ 1 = once client number in
        elim (cases_Bool (is_call_of client number entry)) [
          | inl here ↦ (let more : 1 + how_many (is_call_of client number) calls ≤ how_many (is_call_of client number) v.pending = rw here at all in omega arith)
          | inr other ↦ (let more : 0 + how_many (is_call_of client number) calls ≤ how_many (is_call_of client number) v.pending = rw other at all in
              let kept : how_many (is_call_of client number) w.pending ≡ how_many (is_call_of client number) v.pending = rw other at one in omega arith)
        ]

stalled-all : (calls : List (ℕ × Pending)) (v : Volume) → Serves v → ((client number : ℕ) → how_many (is_call_of client number) calls ≤ how_many (is_call_of client number) v.pending)
    → ServesOn v (with_calls_ended (λ _. Stalled) calls v)
stalled-all [] v serves pend = record { serves = serves; base = SameBase-same v }
stalled-all (entry ∷ calls) v serves pend =
    let after : Volume = with_end v entry.1.call.client entry.1.call.number (record { status = Stalled; body = Nothing }) in
    let next = ends-next entry calls v after refl serves.once pend in
    let one : Serves after = Serves-over v entry.1.call.client entry.1.call.number (record { status = Stalled; body = Nothing }) serves (IsOnce-kept v after next.0 serves.once) (λ c n. (let equal = next.0 c n in omega arith)) in
    let rest : ServesOn after (with_calls_ended (λ _. Stalled) calls after) = stalled-all calls after one next.1 in
    record { serves = rest.serves; base = record { table = rest.base.table; clients = rest.base.clients } }

pub stalled-serves : (v : Volume) → Serves v → ServesOn v (with_stalled v)
stalled-serves v serves = elim (cases_Bool (all_wait v)) [
  | inr some ↦ rw some (record { serves = serves; base = SameBase-same v })
  | inl all ↦ rw all (stalled-all (waits_in_order v) v serves (λ client number.
      let ordered = how_many-in_order (is_call_of client number) (λ (a : ℕ × Pending) (b : ℕ × Pending). is_asked_before a.1 b.1) (filter (λ (e : ℕ × Pending). is_wait e.1.call.what) v.pending) in
      let kept = how_many-filter_le (is_call_of client number) (λ (e : ℕ × Pending). is_wait e.1.call.what) v.pending in omega arith))
]

-- ---- the turn's own call

-- where it stays or is held it may become pending
abbrev pub PendsOwn : Call → ℕ → Outcome → Type 0
PendsOwn call turn (Done w reply) = Unit {0}
PendsOwn call turn (Stay w interim) = MayPend w turn call []
PendsOwn call turn (Hold w blockers interim) = MayPend w turn call blockers

-- no call is pending that isn't counted
not-pending : (v : Volume) (client number : ℕ) → times client number v ≡ 0 → is_pending v client number ≡ false
not-pending v client number none = none-how_many (is_call_of client number) v.pending (omega arith)

not-under : (v w : Volume) → ((test : ℕ × Pending → Bool) → how_many test w.pending ≤ how_many test v.pending) → how_many (λ e. nat_lt (made v) e.0) v.pending ≡ 0 → lives w.pending (made v + 1) ≡ false
not-under v w fewer none = none-how_many (is_under (made v + 1)) w.pending
    (let few = fewer (is_under (made v + 1)) in
    let weaker = how_many-weaker (is_under (made v + 1)) (λ e. nat_lt (made v) e.0) v.pending (λ e under. (let at : e.0 ≡ made v + 1 = eqb-true e.0 (made v + 1) under in lt-ltb (made v) e.0 (omega arith))) in omega arith)

pends-own : (v : Volume) (call : Call) (outcome : Outcome) → Serves v → MayTurn v → call.client < length v.clients → times call.client call.number v ≡ 0
    → TriedTo v (made v + 1) call.what outcome → Comes call v outcome → PendsOwn call (made v + 1) outcome
pends-own v call (Done w reply) serves may client new tried comes = tt
pends-own v call (Stay w interim) serves may client new tried comes = record {
  client = rw comes.base.clients client;
  new = not-pending w call.client call.number (comes.times call.client call.number ∙ new);
  free = not-under v w comes.pending may.turns;
  living = All-nil (λ (b : Blocker). blocker_lives w b ≡ true);
}
pends-own v call (Hold w blockers interim) serves may client new tried comes = record {
  client = rw comes.base.clients client;
  new = not-pending w call.client call.number (comes.times call.client call.number ∙ new);
  free = not-under v w tried.0.keeps.pending may.turns;
  living = comes.living.live;
}

awaits-held : (v : Volume) (client : ℕ) (what : What) → may_be_held what ≡ true → IsTrue (awaits_made v client what)
awaits-held v client (WaitFor earlier) held = cc
awaits-held v client _ held = refl

answered-serves : (v : Volume) (call : Call) (outcome : Outcome) → Serves v → IsTrue (is_line_call (length v.clients) call) → IsTrue (nat_lt 0 call.number) → Comes call v outcome → TriedTo v (made v + 1) call.what outcome
    → IsOnce (answered call (made v + 1) outcome) → ((client number : ℕ) → times client number v ≤ times client number (answered call (made v + 1) outcome)) → ServesOn v (answered call (made v + 1) outcome)
answered-serves v call (Done w reply) serves asked numbered comes tried once more = record {
  serves = Serves-ends v w call reply serves numbered comes.0 once more;
  base = record { table = comes.0.base.table; clients = comes.0.base.clients };
}
answered-serves v call (Stay w interim) serves asked numbered comes tried once more = record {
  serves = Serves-pends w call (made v + 1) [] (ServesWithin-more w (made v + 1) (made w + 1) (let same = comes.made in omega arith) comes.serves) (rw comes.base.clients asked) numbered comes.awaited once;
  base = record { table = comes.base.table; clients = comes.base.clients };
}
answered-serves v call (Hold w blockers interim) serves asked numbered comes tried once more = record {
  serves = Serves-pends w call (made v + 1) blockers (ServesWithin-more w (made w) (made w + 1) (omega arith) comes.serves) (rw comes.base.clients asked) numbered (awaits-held w call.client call.what tried.1.1.1) once;
  base = record { table = comes.base.table; clients = comes.base.clients };
}

pub record OwnTries (v : Volume) (call : Call) (turn : ℕ) (outcome : Outcome) : Type 0 where
  pub begins : length v.ended ≤ length (volume_after outcome).ended
  pub few : length (volume_after outcome).ended + own_ends outcome ≤ made v + 1
  pub made : made (answered call turn outcome) ≡ made v + 1
  pub replies : Replies call v outcome
  pub pends : PendsOwn call turn outcome

pub own-tries : (v : Volume) (call : Call) (turn : ℕ) (outcome : Outcome) → Serves v → MayTry v call → MayTurn v → times call.client call.number v ≡ 0 → try v call turn ≡ outcome → turn ≡ turn_number v → OwnTries v call turn outcome
own-tries v call turn outcome serves may_try may new tried number =
    subst (λ (o : Outcome). OwnTries v call turn o) tried (subst (λ (t : ℕ). OwnTries v call t (try v call t)) (sym number) (record {
      begins = AddsEnds-length (tried-begins v (turn_number v) call.what (try v call (turn_number v)) keeps);
      few = few_of (try v call (turn_number v)) adds.made;
      made = adds.made;
      replies = replies v call (turn_number v) (try v call (turn_number v)) serves refl;
      pends = pends-own v call (try v call (turn_number v)) serves may may_try.asked.client new keeps (ComesTo.so (try-comes v call (turn_number v) serves may.take_up.may.oplocks (asked-line (length v.clients) call may_try.asked)));
    }))
  where
    keeps : TriedTo v (turn_number v) call.what (try v call (turn_number v))
    keeps = try-keeps v call (turn_number v) may.take_up.may.oplocks

    adds : Adds v call.client call.number (answered call (turn_number v) (try v call (turn_number v)))
    adds = Adds-answered v call (try v call (turn_number v)) may new keeps

    few_of : (outcome : Outcome) → made (answered call (turn_number v) outcome) ≡ made v + 1 → length (volume_after outcome).ended + own_ends outcome ≤ made v + 1
    few_of (Done w reply) same = (let one = length-append w.ended (record { client = call.client; number = call.number; reply = reply } ∷ []) in omega arith)
    few_of (Stay w interim) same = omega arith
    few_of (Hold w blockers interim) same = omega arith

pub room-step : (now after : List EndOf) (end : EndOf) (waits room later index : ℕ) → length now + waits ≤ room + index → after ≡ now ++ end ∷ [] → later ≡ room → length after + waits ≤ later + (index + 1)
room-step now after end waits room later index fits is same = (let one = length-append now (end ∷ []) in rw is (omega arith))

-- one end more uses the room of one
pub ends-step : (v w x : Volume) (client number : ℕ) (reply : Reply) (before now after : ℕ) → before + length v.ended ≤ now + length w.ended → x ≡ with_end w client number reply → now ≤ after + 1 → before + length v.ended ≤ after + length x.ended
ends-step v w x client number reply before now after left is used =
    (let one = length-append w.ended (record { client = client; number = number; reply = reply } ∷ []) in
    let more = ap (λ (u : Volume). length u.ended) is in omega arith)

-- what the settlement of the turn begins with
pub record OwnAnswered (v : Volume) (outcome : Outcome) (w : Volume) : Type 0 where
  pub may : MayTakeUp w
  pub made : made w ≡ made v + 1
  pub begins : length v.ended ≤ length (volume_after outcome).ended
  pub goes : length (volume_after outcome).ended ≤ length w.ended
  pub serves : ServesOn v w

pub own-answered : (v w : Volume) (call : Call) → Serves v → MayTry v call → IsTrue (nat_lt 0 call.number) → MayTurn v → times call.client call.number v ≡ 0 → w ≡ answered call (turn_number v) (try v call (turn_number v)) → OwnAnswered v (try v call (turn_number v)) w
own-answered v w call serves may_try numbered may new is =
    let adds = Adds-answered v call (try v call (turn_number v)) may new (try-keeps v call (turn_number v) may.take_up.may.oplocks) in
    let own = own-tries v call (turn_number v) (try v call (turn_number v)) serves may_try may new refl refl in
    let asked : IsTrue (is_line_call (length v.clients) call) = asked-line (length v.clients) call may_try.asked in
    subst (λ (u : Volume). OwnAnswered v (try v call (turn_number v)) u) (sym is) (record {
      may = adds.may.take_up;
      made = adds.made;
      begins = own.begins;
      goes = longer (try v call (turn_number v));
      serves = answered-serves v call (try v call (turn_number v)) serves asked numbered (ComesTo.so (try-comes v call (turn_number v) serves may.take_up.may.oplocks asked)) (try-keeps v call (turn_number v) may.take_up.may.oplocks) adds.may.take_up.once (λ c n. (let more = adds.times c n in omega arith));
    })
  where
    longer : (outcome : Outcome) → length (volume_after outcome).ended ≤ length (answered call (turn_number v) outcome).ended
    longer (Done x reply) = (let one = length-append x.ended (record { client = call.client; number = call.number; reply = reply } ∷ []) in omega arith)
    longer (Stay x interim) = omega arith
    longer (Hold x blockers interim) = omega arith

-- so many ends have been given out
pub told-length : (v mid : Volume) (before told : List EndOf) → told ≡ before ++ ends_between v mid → length told ≡ length before + (length mid.ended - length v.ended)
told-length v mid before told is =
    (let all = length-append before (ends_between v mid) in let left = length-drop (length v.ended) mid.ended in rw is (omega arith))

-- a turn gives out no more ends than calls were pending, and its own
pub given-few : (v w x : Volume) (call : Call) (starved : List CallId) (before told given : List EndOf) → MayTurn v → times call.client call.number v ≡ 0
    → w ≡ answered call (turn_number v) (try v call (turn_number v)) → OwnAnswered v (try v call (turn_number v)) w → x ≡ (settled w starved).volume → length w.ended ≤ length x.ended
    → before ≡ [] → told ≡ before ++ ends_between v (volume_after (try v call (turn_number v))) → given ≡ told ++ ends_between w x → length given ≤ length v.pending + 1
given-few v w x call starved before told given may new is own after longer none begins goes =
    let turns : Turns v call x = subst (λ (y : Volume). Turns v call y) (sym (after ∙ ap (λ (y : Volume). (settled y starved).volume) is)) (settlement-turns v call starved may new) in
    let nothing = ap (λ (ends : List EndOf). length ends) none in
    let first = told-length v (volume_after (try v call (turn_number v))) before told begins in
    let second = told-length w x told given goes in
    omega (arith, turns.number, own.begins, own.goes, longer, nothing, first, second)
