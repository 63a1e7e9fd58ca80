-- Each pending call that asks for an oplock or answers a break has an oplock that is granted under its turn. Breaks keep it so,
-- and switches: they tell the calls of the oplocks that they change.
use Rattle.std.proofs.Common.{◌≡◌, ℕ, ◌+◌, ◌≤◌, Bool, true, false, not, List, [], ◌∷◌, refl, arith, eq-eqb, inl, inr, Option, Some, None}
use Rattle.std.specs.List.{filter, find, fold}
use Rattle.std.specs.Option.{option_map_or}
use Rattle.std.specs.Prelude.{◌==◌, ◌&&◌, option_and_then}
use Rattle.std.proofs.lemmas.Bool.{cases_Bool, eqb-true}
use Rattle.fsa_types.specs.Oplocks.{Effect, Stays, Ends, Begins, Lowers}
use Rattle.fsa_types.specs.Rows.{row_of}
use Rattle.fsa_types.specs.declared.oplock.Class.{Class}
use Rattle.fsa_types.specs.declared.reply.Body.TheVariants.{Broken as IsBroken, Nothing}
use Rattle.fsa_types.specs.declared.reply.Reply.{Reply}
use Rattle.fsa_types.specs.declared.request.Call.{Call}
use Rattle.fsa_types.specs.declared.request.Level.TheVariants.{Nil}
use Rattle.fsa_types.specs.declared.status.Status.TheVariants.{OplockSwitchedToNewHandle, Success}
use Rattle.fsa_model.specs.Breaks.{chosen, is_broken_before, is_chosen, with_break_begun, with_breaks, with_effect}
use Rattle.fsa_model.specs.Edits.{is_call, with_end, without_oplock}
use Rattle.fsa_model.specs.Grant.{switched, with_all_switched, with_switched}
use Rattle.fsa_model.specs.Once.{how_many}
use Rattle.fsa_model.specs.Settling.{HasOneOplockEach, is_of, is_under}
use Rattle.fsa_model.specs.Volume.{Oplock, Pending, Volume}
use Rattle.fsa_model.specs.Waiting.{is_granted_under}
use Rattle.fsa_model.proofs.BreakLaws.{told-oplocks}
use Rattle.fsa_model.proofs.CountLaws.{and_left, how_many-filter, how_many-filter_le, how_many-in_order, how_many-map, how_many-none, how_many-same, how_many-split, how_many-weaker, only-one, some-how_many}
use Rattle.fsa_model.proofs.GrantLaws.{KeepsAll-switched, oplocks-call_ended}
use Rattle.fsa_model.proofs.KeepLaws.{KeepsAll}
use Rattle.fsa_model.proofs.OnceLaws.{is_call_of}
use Rattle.fsa_model.proofs.PendLaws.{found-under}
use Rattle.fsa_model.proofs.RowLaws.{find-none, option_cases, option_map-none}
use Rattle.fsa_model.proofs.TryLaws.{HasOneOplockEach-kept, Keeps, Keeps-breaks, Keeps-effect, KeepsNumbers, granted_elsewhere, swapped}
use Rattle.fsa_model.proofs.WaitLaws.{begun, changed, done_to, lowered}
use Rattle.history_laws.specs.Holding.{asks_oplock}
use Rattle.history_laws.proofs.AnyLaws.{and_twice}
use Rattle.history_laws.proofs.ByBreaks.{ByBreaks, Still, Locked, Broken, Next}

-- a call that asks for an oplock or answers a break is pending under this turn
abbrev pub is_asking_under : ℕ → ℕ × Pending → Bool
is_asking_under turn entry = entry.0 == turn && asks_oplock entry.1

-- for each there is an oplock that is granted under its turn
abbrev pub AreBacked : Volume → Type 0
AreBacked v = (turn : ℕ) → how_many (is_asking_under turn) v.pending ≤ how_many (is_granted_under turn) v.oplocks

-- at most one call is pending under a turn
abbrev pub TurnsDiffer : Volume → Type 0
TurnsDiffer v = (turn : ℕ) → how_many (is_under turn) v.pending ≤ 1

-- these are pending under that turn
pub asking-under : (turn : ℕ) (entries : List (ℕ × Pending)) → how_many (is_asking_under turn) entries ≤ how_many (is_under turn) entries
asking-under turn entries = how_many-weaker (is_asking_under turn) (is_under turn) entries (λ e both. and_left (e.0 == turn) (asks_oplock e.1) both)

-- where no more calls are pending
pub backed-fewer : (v w : Volume) → w.oplocks ≡ v.oplocks → ((test : ℕ → Call → Bool) → how_many (λ e. test e.0 e.1.call) w.pending ≤ how_many (λ e. test e.0 e.1.call) v.pending) → AreBacked v → AreBacked w
backed-fewer v w oplocks pending backed turn =
    rw oplocks (let before = backed turn in let fewer = pending (λ t call. t == turn && asks_oplock (record { call = call; blockers = [] })) in omega arith)

-- ---- a call ends

-- the call under a turn ends
pub ended-under : (entries : List (ℕ × Pending)) (client number turn : ℕ) → how_many (is_under turn) entries ≤ 1 → 1 ≤ how_many (λ e. is_call_of client number e && e.0 == turn) entries
    → how_many (is_under turn) (filter (λ e. not (is_call client number e.1)) entries) ≡ 0
ended-under entries client number turn one there =
    let own = how_many-same (λ e. is_call_of client number e && e.0 == turn) (λ e. is_under turn e && is_call_of client number e) entries (λ e. swapped (is_call_of client number e) (e.0 == turn)) in
    let none = how_many-none (λ e. is_under turn e && not (is_call_of client number e)) entries (only-one (is_under turn) (is_call_of client number) entries one (some-how_many (λ e. is_under turn e && is_call_of client number e) entries (omega arith))) in
    let kept = how_many-filter (is_under turn) (λ e. not (is_call client number e.1)) entries in
    let other = how_many-same (λ e. not (is_call client number e.1) && is_under turn e) (λ e. is_under turn e && not (is_call_of client number e)) entries (λ e. swapped (not (is_call client number e.1)) (e.0 == turn)) in
    omega arith

-- the call of an oplock ends, as a break tells it and a switch ends it; of the other turns none lacks its oplock
told-backed : (v : Volume) (call : Option ℕ) (reply : Reply) → TurnsDiffer v
    → ((turn : ℕ) → option_map_or (λ own. own == turn) call false ≡ false → how_many (is_asking_under turn) v.pending ≤ how_many (is_granted_under turn) v.oplocks)
    → AreBacked (option_map_or (λ row. with_end v row.call.client row.call.number reply) (option_and_then (row_of v.pending) call) v)
told-backed v None reply turns others turn = others turn refl
told-backed v (Some own) reply turns others turn = elim (option_cases (row_of v.pending own)) [
  | inl missing ↦ rw missing (elim (cases_Bool (own == turn)) [
    | inr other ↦ others turn other
    | inl same ↦ (let is : own ≡ turn = eqb-true own turn same in
        let none = how_many-none (is_under turn) v.pending (find-none (is_under turn) v.pending (option_map-none _ (find (is_under turn) v.pending) (rw is at missing))) in
        let fewer = asking-under turn v.pending in omega arith)
  ])
  | inr row ↦ rw row.1 (elim (cases_Bool (own == turn)) [
    | inr other ↦ (let few = others turn other in let fewer = how_many-filter_le (is_asking_under turn) (λ e. not (is_call row.0.call.client row.0.call.number e.1)) v.pending in omega arith)
    | inl same ↦ (let is : own ≡ turn = eqb-true own turn same in
        let none = ended-under v.pending row.0.call.client row.0.call.number turn (turns turn) (found-under v.pending turn row.0 (rw is at row.1)) in
        let fewer = asking-under turn (filter (λ e. not (is_call row.0.call.client row.0.call.number e.1)) v.pending) in omega arith)
  ])
]

-- ---- an oplock breaks or goes

-- an oplock of this handle that is granted under this turn
abbrev pub is_own : ℕ → ℕ → Oplock → Bool
is_own turn handle oplock = is_granted_under turn oplock && is_of handle oplock

-- no oplock of its handle is granted under another turn
abbrev IsAlone : Oplock → Volume → Type 0
IsAlone o v = (turn : ℕ) → is_granted_under turn o ≡ false → how_many (is_own turn o.handle) v.oplocks ≡ 0

-- the oplocks of other handles stay
pub backed-without : (v : Volume) (handle turn : ℕ) → how_many (is_own turn handle) v.oplocks ≡ 0 → AreBacked v → how_many (is_asking_under turn) v.pending ≤ how_many (is_granted_under turn) (without_oplock v handle).oplocks
backed-without v handle turn none backed =
    let before : how_many (is_asking_under turn) v.pending ≤ how_many (is_granted_under turn) v.oplocks = backed turn in
    let split = how_many-split (is_granted_under turn) (is_of handle) v.oplocks in
    let kept = how_many-filter (is_granted_under turn) (λ x. not (is_of handle x)) v.oplocks in
    let same = how_many-same (λ x. not (is_of handle x) && is_granted_under turn x) (granted_elsewhere turn handle) v.oplocks (λ x. swapped (not (is_of handle x)) (is_granted_under turn x)) in
    omega arith

-- what the effect of a break leaves
effect-backed : (v : Volume) (o : Oplock) (done : Effect) → TurnsDiffer v → IsAlone o v → AreBacked v → AreBacked (with_effect v o done)
effect-backed v o Stays turns alone backed = backed
effect-backed v o Ends turns alone backed =
    told-backed (without_oplock v o.handle) o.call (record { status = Success; body = IsBroken Nil false }) turns (λ turn other. backed-without v o.handle turn (alone turn other) backed)
effect-backed v o (Begins level) turns alone backed =
    told-backed (with_break_begun v o.handle level) o.call (record { status = Success; body = IsBroken level true }) turns
    (λ turn other. (let left = backed-without v o.handle turn (alone turn other) backed in
    let kept = how_many-filter (is_granted_under turn) (λ x. not (is_of o.handle x)) v.oplocks in
    let all = how_many-map (is_granted_under turn) (changed (begun (v.last_break + 1) level) o.handle) v.oplocks in
    let weaker = how_many-weaker (λ x. not (is_of o.handle x) && is_granted_under turn x) (λ x. is_granted_under turn (changed (begun (v.last_break + 1) level) o.handle x)) v.oplocks
    (λ x both. elim (cases_Bool (x.handle == o.handle)) [
      | inl here ↦ (let impossible : false ≡ true = rw here at both in cc)
      | inr apart ↦ rw apart (rw apart at both)
    ]) in omega arith))
effect-backed v o (Lowers level) turns alone backed = λ turn.
    let before : how_many (is_asking_under turn) v.pending ≤ how_many (is_granted_under turn) v.oplocks = backed turn in
    let all = how_many-map (is_granted_under turn) (changed (lowered level) o.handle) v.oplocks in
    let same = how_many-same (λ x. is_granted_under turn (changed (lowered level) o.handle x)) (is_granted_under turn) v.oplocks (λ x. elim (cases_Bool (x.handle == o.handle)) [ inl here ↦ rw here refl | inr apart ↦ rw apart refl ]) in
    omega arith

-- what a switch leaves
switched-backed : (v : Volume) (o : Oplock) → TurnsDiffer v → IsAlone o v → AreBacked v → AreBacked (with_switched v o)
switched-backed v o turns alone backed =
    told-backed (without_oplock v o.handle) o.call (record { status = OplockSwitchedToNewHandle; body = Nothing }) turns (λ turn other. backed-without v o.handle turn (alone turn other) backed)

-- ---- several of them

-- of the handles of these oplocks none is granted under another turn
abbrev AreAlone : List Oplock → Volume → Type 0
AreAlone oplocks v = (turn handle : ℕ) → 1 ≤ how_many (λ o. is_of handle o && not (is_granted_under turn o)) oplocks → how_many (is_own turn handle) v.oplocks ≡ 0

-- no more oplocks of a handle are granted under a turn
abbrev GrantsNoMore : Volume → Volume → Type 0
GrantsNoMore v w = (turn handle : ℕ) → how_many (is_own turn handle) w.oplocks ≤ how_many (is_own turn handle) v.oplocks

-- what is done to each of some oplocks keeps it where what is done to one does
each-backed : (step : Volume → Oplock → Volume) → ((v : Volume) (o : Oplock) → Keeps v (step v o)) → ((v : Volume) (o : Oplock) → GrantsNoMore v (step v o))
    → ((v : Volume) (o : Oplock) → TurnsDiffer v → IsAlone o v → AreBacked v → AreBacked (step v o))
    → (oplocks : List Oplock) (v : Volume) → TurnsDiffer v → AreAlone oplocks v → AreBacked v → AreBacked (fold step v oplocks)
each-backed step keeps no_more goes [] v turns alone backed = backed
each-backed step keeps no_more goes (o ∷ oplocks) v turns alone backed =
    each-backed step keeps no_more goes oplocks (step v o) (λ turn. (let few = turns turn in let fewer = Keeps.pending (keeps v o) (is_under turn) in omega arith))
    (λ turn handle some. (let none : how_many (is_own turn handle) v.oplocks ≡ 0 = alone turn handle (omega arith) in let fewer = no_more v o turn handle in omega arith))
    (goes v o turns (λ turn other. alone turn o.handle (first turn other)) backed)
  where
    first : (turn : ℕ) → is_granted_under turn o ≡ false → 1 ≤ how_many (λ x. is_of o.handle x && not (is_granted_under turn x)) (o ∷ oplocks)
    first turn other = rw (eq-eqb o.handle o.handle refl, other) (omega arith)

-- a handle has at most one
pub alone : (v : Volume) (oplocks : List Oplock) → HasOneOplockEach v → ((test : Oplock → Bool) → how_many test oplocks ≤ how_many test v.oplocks) → AreAlone oplocks v
alone v oplocks one among turn handle some =
    let few = among (λ o. is_of handle o && not (is_granted_under turn o)) in
    let none = how_many-none (λ o. is_of handle o && not (not (is_granted_under turn o))) v.oplocks
    (only-one (is_of handle) (λ o. not (is_granted_under turn o)) v.oplocks (one handle) (some-how_many (λ o. is_of handle o && not (is_granted_under turn o)) v.oplocks (omega arith))) in
    let weaker = how_many-weaker (is_own turn handle) (λ o. is_of handle o && not (not (is_granted_under turn o))) v.oplocks (λ o both. and_twice (is_granted_under turn o) (is_of handle o) both) in
    omega arith

-- the effect of a break grants none
effect-no_more : (v : Volume) (o : Oplock) (done : Effect) → GrantsNoMore v (with_effect v o done)
effect-no_more v o Stays turn handle = omega arith
effect-no_more v o Ends turn handle =
    rw (told-oplocks (without_oplock v o.handle) o.call Nil false) (how_many-filter_le (is_own turn handle) (λ x. not (is_of o.handle x)) v.oplocks)
effect-no_more v o (Begins level) turn handle =
    rw (told-oplocks (with_break_begun v o.handle level) o.call level true)
    (let all = how_many-map (is_own turn handle) (changed (begun (v.last_break + 1) level) o.handle) v.oplocks in
    let weaker = how_many-weaker (λ x. is_own turn handle (changed (begun (v.last_break + 1) level) o.handle x)) (is_own turn handle) v.oplocks
    (λ x both. elim (cases_Bool (x.handle == o.handle)) [ inl here ↦ (let impossible : false ≡ true = rw here at both in cc) | inr apart ↦ rw apart at both ]) in omega arith)
effect-no_more v o (Lowers level) turn handle =
    let all = how_many-map (is_own turn handle) (changed (lowered level) o.handle) v.oplocks in
    let same = how_many-same (λ x. is_own turn handle (changed (lowered level) o.handle x)) (is_own turn handle) v.oplocks
    (λ x. elim (cases_Bool (x.handle == o.handle)) [ inl here ↦ rw here refl | inr apart ↦ rw apart refl ]) in omega arith

-- those of a key are switched
pub all_switched-backed : (v : Volume) (handle key stream : ℕ) → HasOneOplockEach v → TurnsDiffer v → AreBacked v → AreBacked (with_all_switched v handle key stream)
all_switched-backed v handle key stream one turns backed =
    each-backed with_switched (λ w o. KeepsNumbers.keeps (KeepsAll.kept (KeepsAll-switched w o)))
    (λ w o turn handle. rw (oplocks-call_ended (without_oplock w o.handle) o.call OplockSwitchedToNewHandle) (how_many-filter_le (is_own turn handle) (λ x. not (is_of o.handle x)) w.oplocks))
    switched-backed (switched v handle key stream) v turns (alone v (switched v handle key stream) one (λ test. how_many-filter_le test _ v.oplocks)) backed

-- ---- what changes oplocks and pending calls by breaks alone

-- so it is, and a handle has at most one oplock, and a turn at most one pending call
pub record IsBacked (v : Volume) : Type 0 where
  pub one : HasOneOplockEach v
  pub turns : TurnsDiffer v
  pub backed : AreBacked v

-- breaks keep all of this
pub backed-by : {kind : Class} {v w : Volume} → ByBreaks kind v w → IsBacked v → IsBacked w
backed-by (Still v w oplocks locks pending ended left last_break last_lock) so = record {
  one = λ handle. rw oplocks (so.one handle);
  turns = λ turn. rw pending (so.turns turn);
  backed = λ turn. rw (oplocks, pending) (so.backed turn);
}
backed-by (Locked v handle at count exclusive) so = record { one = so.one; turns = so.turns; backed = so.backed }
backed-by {kind} (Broken v on acting key) so =
    let keeps : Keeps v (with_breaks v on kind acting key) = Keeps-breaks v on kind acting key in
    record {
      one = HasOneOplockEach-kept v (with_breaks v on kind acting key) keeps so.one;
      turns = λ turn. (let few = so.turns turn in let fewer = keeps.pending (is_under turn) in omega arith);
      backed = each-backed (λ w o. with_effect w o (done_to kind o)) (λ w o. Keeps-effect w o (done_to kind o)) (λ w o. effect-no_more w o (done_to kind o)) (λ w o. effect-backed w o (done_to kind o))
          (chosen v on acting key) v so.turns (alone v (chosen v on acting key) so.one (λ test.
          (let ordered = how_many-in_order test (is_broken_before v) (filter (is_chosen v on acting key) v.oplocks) in let kept = how_many-filter_le test (is_chosen v on acting key) v.oplocks in omega arith))) so.backed;
    }
backed-by (Next u v w first second) so = backed-by second (backed-by first so)
