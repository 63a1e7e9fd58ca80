-- Who has left in a run, and that nobody who has left waits.
use Rattle.std.proofs.Common.{◌≡◌, ℕ, ◌<◌, ◌≤◌, zero, suc, List, [], ◌∷◌, length, length-set, Bool, true, false, not, Some, None, refl, ap, sym, subst, ◌∙◌, arith, eq-eqb, inl, inr, ◌⊎◌}
use Rattle.std.specs.Prelude.{◌==◌, ◌&&◌, nat_lt, nat_le, filter, slice_set, slice_index_or, IsTrue}
use Rattle.std.specs.List.{list_any, All}
use Rattle.std.proofs.lemmas.Bool.{cases_Bool, eqb-true}
use Rattle.std.proofs.lemmas.List.{get_or-set_same, get_or-set_other}
use Rattle.fsa_types.specs.Request.{what_fits}
use Rattle.fsa_types.specs.declared.request.Call.{Call}
use Rattle.fsa_types.specs.declared.request.CallId.{CallId}
use Rattle.fsa_types.specs.declared.request.Request.TheVariants.{Notify}
use Rattle.fsa_types.specs.declared.request.What.{What}
use Rattle.fsa_types.specs.declared.request.What.TheVariants.{Ask, Leave, WaitFor}
use Rattle.fsa_types.specs.declared.status.Status.{Status}
use Rattle.fsa_types.specs.declared.reply.Body.TheVariants.{Nothing}
use Rattle.fsa_types.specs.declared.reply.Reply.{Reply}
use Rattle.fsa_types.specs.declared.status.Status.TheVariants.{Cancelled, InvalidHandle, Stalled, Success}
use Rattle.fsa_model.specs.Close.{handles_of_client, is_left_behind, is_open_or_wait, pending_by_turn, with_all_closed, with_calls_ended, with_client_gone, try_leave}
use Rattle.fsa_model.specs.Edits.{is_call, with_end}
use Rattle.fsa_model.specs.Frame.{FramedTo, InFrame, KeepsFrame, PointsFit, is_leave}
use Rattle.fsa_model.specs.Lookups.{handle_of, has_left}
use Rattle.fsa_model.specs.Once.{how_many, times}
use Rattle.fsa_model.specs.Outcome.{Outcome, Done, Stay, Hold, refused}
use Rattle.fsa_model.specs.Settle.{Settling, come_over, settle_step, settled, starves, taken_up, taken_up_all, with_tried}
use Rattle.fsa_model.specs.Turn.{Turned, answered, settlement, try, turn, turn_number, volume_after}
use Rattle.fsa_model.specs.Sound.{PointFits}
use Rattle.fsa_model.specs.Volume.{File, Pending, Volume}
use Rattle.fsa_model.specs.Waiting.{all_wait, is_held, is_wait, next_ready, waits_in_order, with_stalled}
use Rattle.fsa_model.specs.Watching.{due_size}
use Rattle.fsa_model.proofs.CountLaws.{and_left, and_right, how_many-append, how_many-filter, how_many-filter_le, how_many-in_order, how_many-length, how_many-none, how_many-some, how_many-weaker}
use Rattle.fsa_model.proofs.EngineLaws.{turn-turned}
use Rattle.fsa_model.proofs.KeepLaws.{Keeps-all_closed}
use Rattle.fsa_model.proofs.OnceLaws.{fewer-calls_ended, gone-calls_ended, is_call_of, is_same-refl}
use Rattle.fsa_model.proofs.RowLaws.{option_cases}
use Rattle.fsa_model.proofs.SettleLaws.{IsNext, MaySettle, Steps, Steps-settle_step, how_many_free, is_free, may_be_held, next-may_be_held, next_ready-is, repeated-ends, some_equal}
use Rattle.fsa_model.proofs.TakenLaws.{GoesOn, GoesOn-begins, GoesOn-settle_step, MayTakeUp}
use Rattle.fsa_model.proofs.TryFrame.{try-frame}
use Rattle.fsa_model.proofs.TurnLaws.{MayTurn, TriedTo, try-keeps, Adds-answered}
use Rattle.fsa_model.proofs.WaitLaws.{Found, HasOneOplockEach, some_item}

-- ---- what is kept

-- a call that isn't within the bounds of requests
abbrev pub is_unfit : ℕ × Pending → Bool
is_unfit entry = not (what_fits entry.1.call.what)

-- this client waits for one of its calls
abbrev pub is_wait_by : ℕ → ℕ × Pending → Bool
is_wait_by client entry = entry.1.call.client == client && is_wait entry.1.call.what

-- reparse points fit a reply, pending calls are within bounds, and nobody who has left waits
pub record IsServed (v : Volume) : Type 0 where
  pub points : PointsFit v
  pub fit : how_many is_unfit v.pending ≡ 0
  pub quiet : (client : ℕ) → has_left v client ≡ true → how_many (is_wait_by client) v.pending ≡ 0

-- the same have left, reparse points fit, and no call becomes pending
record Serves (v w : Volume) : Type 0 where
  left : w.left ≡ v.left
  points : PointsFit w
  pending : (test : ℕ → Call → Bool) → how_many (λ e. test e.0 e.1.call) w.pending ≤ how_many (λ e. test e.0 e.1.call) v.pending

Serves-same : (v : Volume) → PointsFit v → Serves v v
Serves-same v points = record { left = refl; points = points; pending = λ test. omega arith }

Serves-next : {u v w : Volume} → Serves u v → Serves v w → Serves u w
Serves-next first second = record {
  left = second.left ∙ first.left;
  points = second.points;
  pending = λ test. (let one = first.pending test in let two = second.pending test in omega arith);
}

Serves-fit : (v w : Volume) → Serves v w → how_many is_unfit v.pending ≡ 0 → how_many is_unfit w.pending ≡ 0
Serves-fit v w serves fit = (let fewer = serves.pending (λ turn call. not (what_fits call.what)) in omega arith)

IsServed-serves : (v w : Volume) → Serves v w → IsServed v → IsServed w
IsServed-serves v w serves served = record {
  points = serves.points;
  fit = Serves-fit v w serves served.fit;
  quiet = λ client gone. (let before : has_left v client ≡ true = ap (λ (left : List Bool). slice_index_or left client false) (sym serves.left) ∙ gone in
      let none = served.quiet client before in let fewer = serves.pending (λ turn call. call.client == client && is_wait call.what) in omega arith);
}

-- ---- a step of a settlement

-- a leaving is never held
pub leave_isnt_held : (what : What) → may_be_held what ≡ true → is_leave what ≡ false
leave_isnt_held Leave held = cc
leave_isnt_held _ held = refl

-- a call that isn't held comes over
come_same : (s : Settling) (pending : Pending) (what : What) → ((come_over s pending what).volume.left ≡ s.volume.left) × ((come_over s pending what).volume.files ≡ s.volume.files)
come_same s pending (Ask (Notify handle filter tree room)) = elim (option_cases (handle_of s.volume pending.call.client handle)) [
  | inl none ↦ rw none (refl, refl)
  | inr some ↦ rw some.1 (elim (cases_Bool (starves s.starved pending && nat_le (due_size s.volume some.0) room)) [ inl is ↦ rw is (refl, refl) | inr isnt ↦ rw isnt (refl, refl) ])
]
come_same s pending _ = (refl, refl)

abbrev SameLeft : Volume → Volume → Type 0
SameLeft v w = (w.left ≡ v.left) × PointsFit w

of_frame : (call : Call) (v w : Volume) → KeepsFrame call v w → is_leave call.what ≡ false → IsTrue (what_fits call.what) → PointsFit v → SameLeft v w
of_frame call v w frame isnt fits points = (
  elim frame.left [
    | inl same ↦ same
    | inr leaves ↦ absurd (let impossible : true ≡ false = sym leaves.0 ∙ isnt in cc)
  ],
  frame.points fits points,
)

tried_same : (v : Volume) (turn : ℕ) (pending : Pending) (outcome : Outcome) → FramedTo pending.call v outcome → is_leave pending.call.what ≡ false → IsTrue (what_fits pending.call.what) → PointsFit v
    → SameLeft v (with_tried turn pending outcome)
tried_same v turn pending (Done w reply) framed isnt fits points = of_frame pending.call v w framed.0 isnt fits points
tried_same v turn pending (Stay w interim) framed isnt fits points = of_frame pending.call v w framed.0 isnt fits points
tried_same v turn pending (Hold w blockers interim) framed isnt fits points = of_frame pending.call v w framed.0 isnt fits points

next_fits : (v : Volume) (entry : ℕ × Pending) → IsNext v entry → how_many is_unfit v.pending ≡ 0 → what_fits entry.1.call.what ≡ true
next_fits v entry next fit = elim (cases_Bool (what_fits entry.1.call.what)) [
  | inl is ↦ is
  | inr isnt ↦ (let some = next.is_there is_unfit (rw isnt refl) in absurd (omega arith))
]

taken_up_same : (s : Settling) (entry : ℕ × Pending) → MaySettle s.volume → IsNext s.volume entry → PointsFit s.volume → how_many is_unfit s.volume.pending ≡ 0 → SameLeft s.volume (taken_up s entry).volume
taken_up_same s entry may next points fit = elim (cases_Bool (is_held entry.1)) [
  | inr comes ↦ (let same = come_same s entry.1 entry.1.call.what in
      rw comes (same.0, subst (λ (files : List (ℕ × File)). All (λ (e : ℕ × File). PointFits e.1) files) (sym same.1) points))
  | inl held ↦ elim (cases_Bool (starves s.starved entry.1)) [
    | inl starving ↦ rw (held, starving) (refl, points)
    | inr plenty ↦ rw (held, plenty) (tried_same s.volume entry.0 entry.1 (try s.volume entry.1.call entry.0) (InFrame.so (try-frame s.volume entry.1.call entry.0 points))
        (leave_isnt_held entry.1.call.what (next-may_be_held s.volume entry may next held)) (next_fits s.volume entry next fit) points)
  ]
]

Serves-step : (s t : Settling) → MaySettle s.volume → PointsFit s.volume → how_many is_unfit s.volume.pending ≡ 0 → settle_step s ≡ Some t → Serves s.volume t.volume
Serves-step s t may points fit stepped = elim (option_cases (next_ready s.volume)) [
  | inl none ↦ (let impossible : None ≡ Some t = rw none at stepped in cc)
  | inr some ↦ (let same : taken_up s some.0 ≡ t = some_equal (taken_up s some.0) t (rw some.1 at stepped) in
      let goes = taken_up_same s some.0 may (next_ready-is s.volume some.0 some.1) points fit in
      let steps : Steps s.volume t.volume = Steps-settle_step s t may stepped in
      record {
        left = ap (λ (u : Settling). u.volume.left) (sym same) ∙ goes.0;
        points = subst (λ (u : Settling). PointsFit u.volume) same goes.1;
        pending = λ test. steps.pending test;
      })
]

-- ---- a settlement

files_calls_ended : (status_of : What → Status) (calls : List (ℕ × Pending)) (v : Volume)
    → ((with_calls_ended status_of calls v).left ≡ v.left) × ((with_calls_ended status_of calls v).files ≡ v.files)
files_calls_ended status_of [] v = (refl, refl)
files_calls_ended status_of (call ∷ calls) v = files_calls_ended status_of calls (with_end v call.1.call.client call.1.call.number _)

Serves-calls_ended : (status_of : What → Status) (calls : List (ℕ × Pending)) (v : Volume) → PointsFit v → Serves v (with_calls_ended status_of calls v)
Serves-calls_ended status_of calls v points =
    let same = files_calls_ended status_of calls v in record {
      left = same.0;
      points = subst (λ (files : List (ℕ × File)). All (λ (e : ℕ × File). PointFits e.1) files) (sym same.1) points;
      pending = λ test. fewer-calls_ended status_of calls v (λ e. test e.0 e.1.call);
    }

Serves-stalled : (v : Volume) → PointsFit v → Serves v (with_stalled v)
Serves-stalled v points = elim (cases_Bool (all_wait v)) [
  | inl all ↦ rw all (Serves-calls_ended (λ _. Stalled) (waits_in_order v) v points)
  | inr some ↦ rw some (Serves-same v points)
]

Serves-settled : (v : Volume) (starved : List CallId) → MayTakeUp v → PointsFit v → how_many is_unfit v.pending ≡ 0 → Serves v (settled v starved).volume
Serves-settled v starved may points fit =
    Serves-next go.1.1 (Serves-stalled (taken_up_all v starved).volume (Serves.points go.1.1))
  where
    Goes : Settling → Type 0
    Goes s = GoesOn v s × Serves v s.volume

    step : (s t : Settling) → Goes s → settle_step s ≡ Some t → Goes t × (how_many_free t.volume < how_many_free s.volume)
    step s t on stepped =
        let next = GoesOn-settle_step v s t on.0 stepped in
        ((next.0, Serves-next on.1 (Serves-step s t on.0.may on.1.points (Serves-fit v s.volume on.1 fit) stepped)), next.1)

    go : (settle_step (taken_up_all v starved) ≡ None) × Goes (taken_up_all v starved)
    go = repeated-ends settle_step Goes (λ s. how_many_free s.volume) step (length v.pending) (record { volume = v; starved = starved; taken = [] })
        (GoesOn-begins v starved may, Serves-same v points) (how_many-length (is_free v) v.pending)

-- ---- calls that end by a test

-- none of them is pending then
pub ended-gone : (status_of : What → Status) (test : Pending → Bool) (v : Volume) → how_many (λ e. test e.1) (with_calls_ended status_of (pending_by_turn test v) v).pending ≡ 0
ended-gone status_of test v = elim (cases_Bool (list_any (λ e. test e.1) after.pending)) [
  | inr none ↦ how_many-none (λ e. test e.1) after.pending none
  | inl some ↦ absurd (impossible (some_item (λ e. test e.1) after.pending some))
]
  where
    after : Volume
    after = with_calls_ended status_of (pending_by_turn test v) v

    impossible : Found (λ e. test e.1) after.pending → ⊥
    impossible some =
        let client : ℕ = some.item.1.call.client in
        let number : ℕ = some.item.1.call.number in
        let here : list_any (λ e. test e.1 && is_call_of client number e) after.pending ≡ true
        = some.is_there (λ e. test e.1 && is_call_of client number e) (rw (some.passes, is_same-refl client number) refl) in
        let still = how_many-some (λ e. test e.1 && is_call_of client number e) after.pending here in
        let before = fewer-calls_ended status_of (pending_by_turn test v) v (λ e. test e.1 && is_call_of client number e) in
        let kept = how_many-filter (is_call_of client number) (λ e. test e.1) v.pending in
        let ordered = how_many-in_order (is_call_of client number) (λ a b. nat_lt a.0 b.0) (filter (λ e. test e.1) v.pending) in
        let gone = gone-calls_ended status_of (pending_by_turn test v) v client number (omega arith) in
        let weaker = how_many-weaker (λ e. test e.1 && is_call_of client number e) (is_call_of client number) after.pending (λ e both. and_right (test e.1) (is_call_of client number e) both) in
        omega arith

-- ---- who leaves waits no more

waits_are_ended : (what : What) → is_wait what ≡ true → is_open_or_wait what ≡ true
waits_are_ended (WaitFor number) is = refl
waits_are_ended _ is = cc

gone_waits : (v : Volume) (client : ℕ) → how_many (is_wait_by client) (with_client_gone v client).pending ≡ 0
unfolding with_client_gone
gone_waits v client =
    let ended : Volume = with_calls_ended (λ _. Cancelled) (pending_by_turn (is_left_behind client) v) v in
    let fewer = (Keeps-all_closed (handles_of_client v client) ended).kept.keeps.pending (is_wait_by client) in
    let none = ended-gone (λ _. Cancelled) (is_left_behind client) v in
    let weaker = how_many-weaker (is_wait_by client) (λ e. is_left_behind client e.1) ended.pending (λ e waits. rw (and_left (e.1.call.client == client) (is_wait e.1.call.what) waits, waits_are_ended e.1.call.what (and_right (e.1.call.client == client) (is_wait e.1.call.what) waits)) refl) in
    omega arith

-- ---- the try of a turn's own call

pub tried_fewer : (v : Volume) (turn : ℕ) (what : What) (outcome : Outcome) → TriedTo v turn what outcome → (test : ℕ × Pending → Bool) → how_many test (volume_after outcome).pending ≤ how_many test v.pending
tried_fewer v turn what (Done w reply) tried test = tried.0.keeps.pending test
tried_fewer v turn what (Stay w interim) tried test = tried.pending test
tried_fewer v turn what (Hold w blockers interim) tried test = tried.0.keeps.pending test

frame_of : (call : Call) (v : Volume) (outcome : Outcome) → FramedTo call v outcome → KeepsFrame call v (volume_after outcome)
frame_of call v (Done w reply) framed = framed.0
frame_of call v (Stay w interim) framed = framed.0
frame_of call v (Hold w blockers interim) framed = framed.0

-- once the call has ended or is pending
pub answered_left : (call : Call) (turn : ℕ) (outcome : Outcome) → (answered call turn outcome).left ≡ (volume_after outcome).left
answered_left call turn (Done w reply) = refl
answered_left call turn (Stay w interim) = refl
answered_left call turn (Hold w blockers interim) = refl

answered_files : (call : Call) (turn : ℕ) (outcome : Outcome) → (answered call turn outcome).files ≡ (volume_after outcome).files
answered_files call turn (Done w reply) = refl
answered_files call turn (Stay w interim) = refl
answered_files call turn (Hold w blockers interim) = refl

-- a call that doesn't pass the test adds nothing to those that do
answered_fewer : (call : Call) (turn : ℕ) (outcome : Outcome) (test : Call → Bool) → test call ≡ false
    → how_many (λ (e : ℕ × Pending). test e.1.call) (answered call turn outcome).pending ≤ how_many (λ (e : ℕ × Pending). test e.1.call) (volume_after outcome).pending
answered_fewer call turn (Done w reply) test fails = how_many-filter_le (λ (e : ℕ × Pending). test e.1.call) (λ e. not (is_call call.client call.number e.1)) w.pending
answered_fewer call turn (Stay w interim) test fails =
    let one = how_many-append (λ (e : ℕ × Pending). test e.1.call) w.pending ((turn, record { call = call; blockers = [] }) ∷ []) in
    let none : how_many (λ (e : ℕ × Pending). test e.1.call) ((turn, record { call = call; blockers = [] }) ∷ []) ≡ 0 = rw fails refl in omega arith
answered_fewer call turn (Hold w blockers interim) test fails =
    let one = how_many-append (λ (e : ℕ × Pending). test e.1.call) w.pending ((turn, record { call = call; blockers = blockers }) ∷ []) in
    let none : how_many (λ (e : ℕ × Pending). test e.1.call) ((turn, record { call = call; blockers = blockers }) ∷ []) ≡ 0 = rw fails refl in omega arith

pub own_fewer : (v : Volume) (call : Call) (turn : ℕ) (test : Call → Bool) → HasOneOplockEach v → test call ≡ false
    → how_many (λ (e : ℕ × Pending). test e.1.call) (answered call turn (try v call turn)).pending ≤ how_many (λ (e : ℕ × Pending). test e.1.call) v.pending
own_fewer v call turn test one fails =
    let tried = tried_fewer v turn call.what (try v call turn) (try-keeps v call turn one) (λ e. test e.1.call) in
    let more = answered_fewer call turn (try v call turn) test fails in omega arith

-- a call of a client that has left is refused
gone_tried : (v : Volume) (call : Call) (turn : ℕ) → has_left v call.client ≡ true → try v call turn ≡ refused v InvalidHandle
gone_tried v call turn gone = rw gone refl

-- a client that leaves
leave_is : (what : What) → is_leave what ≡ true → what ≡ Leave
leave_is Leave is = refl
leave_is _ is = cc

leave_tried : (v : Volume) (call : Call) (turn : ℕ) → has_left v call.client ≡ false → is_leave call.what ≡ true
    → try v call turn ≡ Done (with_client_gone v call.client) (record { status = Success; body = Nothing })
unfolding try_leave
leave_tried v call turn here is = rw (here, leave_is call.what is) refl

-- who has left is a client
within_left : (left : List Bool) (client : ℕ) → slice_index_or left client false ≡ true → client < length left
within_left [] zero gone = absurd (cc)
within_left [] (suc client) gone = absurd (cc)
within_left (one ∷ left) zero gone = omega arith
within_left (one ∷ left) (suc client) gone = let rest : client < length left = within_left left client gone in omega arith

-- who had left has left then
own_left : (v : Volume) (call : Call) (turn : ℕ) → PointsFit v
    → (length (answered call turn (try v call turn)).left ≡ length v.left) × ((client : ℕ) → has_left v client ≡ true → has_left (answered call turn (try v call turn)) client ≡ true)
own_left v call turn points =
    let frame : KeepsFrame call v (volume_after (try v call turn)) = frame_of call v (try v call turn) (InFrame.so (try-frame v call turn points)) in
    rw (answered_left call turn (try v call turn)) (go (volume_after (try v call turn)).left frame.left)
  where
    go : (left : List Bool) → (left ≡ v.left) ⊎ ((is_leave call.what ≡ true) × (left ≡ slice_set v.left call.client true))
        → (length left ≡ length v.left) × ((client : ℕ) → slice_index_or v.left client false ≡ true → slice_index_or left client false ≡ true)
    go left (inl same) = (ap length same, λ client gone. ap (λ (l : List Bool). slice_index_or l client false) same ∙ gone)
    go left (inr leaves) = (
      ap length leaves.1 ∙ length-set v.left call.client true,
      λ client gone. ap (λ (l : List Bool). slice_index_or l client false) leaves.1 ∙ stays client gone,
    )
      where
        stays : (client : ℕ) → slice_index_or v.left client false ≡ true → slice_index_or (slice_set v.left call.client true) client false ≡ true
        stays client gone = elim (cases_Bool (client == call.client)) [
          | inr isnt ↦ get_or-set_other v.left call.client client true false (λ e. absurd (let is : (client == call.client) ≡ true = eq-eqb client call.client e in let never : true ≡ false = sym is ∙ isnt in cc)) ∙ gone
          | inl is ↦ (let same : client ≡ call.client = eqb-true client call.client is in
              let inside : call.client < length v.left = subst (λ (c : ℕ). c < length v.left) same (within_left v.left client gone) in
              ap (λ (c : ℕ). slice_index_or (slice_set v.left call.client true) c false) same ∙ get_or-set_same v.left call.client true false inside)
        ]

gone_left : (v : Volume) (client : ℕ) → client < length (with_client_gone v client).left → has_left (with_client_gone v client) client ≡ true
unfolding with_client_gone
gone_left v client inside =
    let closed : Volume = with_all_closed (handles_of_client v client) (with_calls_ended (λ _. Cancelled) (pending_by_turn (is_left_behind client) v) v) in
    let long : length (slice_set closed.left client true) ≡ length closed.left = length-set closed.left client true in
    get_or-set_same closed.left client true false (omega (arith, inside))

-- and a client that leaves
own_leaves : (v : Volume) (call : Call) (turn : ℕ) → PointsFit v → is_leave call.what ≡ true → call.client < length v.left → has_left (answered call turn (try v call turn)) call.client ≡ true
own_leaves v call turn points is inside = elim (cases_Bool (has_left v call.client)) [
  | inl gone ↦ (own_left v call turn points).1 call.client gone
  | inr here ↦ (let tried = leave_tried v call turn here is in
      let long : length (with_client_gone v call.client).left ≡ length v.left
      = ap (λ (o : Outcome). length (answered call turn o).left) (sym tried) ∙ (own_left v call turn points).0 in
      ap (λ (o : Outcome). has_left (answered call turn o) call.client) tried ∙ gone_left v call.client (omega arith))
]

Serves-end : (v : Volume) (client number : ℕ) (reply : Reply) → PointsFit v → Serves v (with_end v client number reply)
Serves-end v client number reply points = record {
  left = refl;
  points = points;
  pending = λ test. how_many-filter_le (λ (e : ℕ × Pending). test e.0 e.1.call) (λ e. not (is_call client number e.1)) v.pending;
}

-- who has left after a try had left before it, but for a client that leaves in it
left_before : (v : Volume) (call : Call) (turn client : ℕ) → PointsFit v → has_left (answered call turn (try v call turn)) client ≡ true
    → (has_left v client ≡ true) ⊎ ((is_leave call.what ≡ true) × (client ≡ call.client))
left_before v call turn client points gone =
    let frame : KeepsFrame call v (volume_after (try v call turn)) = frame_of call v (try v call turn) (InFrame.so (try-frame v call turn points)) in
    let now : slice_index_or (volume_after (try v call turn)).left client false ≡ true = ap (λ (left : List Bool). slice_index_or left client false) (sym (answered_left call turn (try v call turn))) ∙ gone in
    elim frame.left [
      | inl same ↦ inl (ap (λ (left : List Bool). slice_index_or left client false) (sym same) ∙ now)
      | inr leaves ↦ elim (cases_Bool (client == call.client)) [
        | inl is ↦ inr (leaves.0, eqb-true client call.client is)
        | inr isnt ↦ inl (sym (get_or-set_other v.left call.client client true false (λ e. differ client call.client e isnt)) ∙ ap (λ (left : List Bool). slice_index_or left client false) (sym leaves.1) ∙ now)
      ]
    ]
  where
    differ : (a b : ℕ) → a ≡ b → (a == b) ≡ false → ⊥
    differ a b e isnt = (let is : (a == b) ≡ true = eq-eqb a b e in let never : true ≡ false = sym is ∙ isnt in cc)

leave_isnt_wait : (what : What) → is_leave what ≡ true → is_wait what ≡ false
leave_isnt_wait Leave is = refl
leave_isnt_wait _ is = cc

-- after the try of its own call
own-served : (v : Volume) (call : Call) (turn : ℕ) → HasOneOplockEach v → what_fits call.what ≡ true → IsServed v → IsServed (answered call turn (try v call turn))
own-served v call turn one fits served = elim (cases_Bool (has_left v call.client)) [
  | inl gone ↦ subst (λ (o : Outcome). IsServed (answered call turn o)) (sym (gone_tried v call turn gone))
      (IsServed-serves v _ (Serves-end v call.client call.number (record { status = InvalidHandle; body = Nothing }) served.points) served)
  | inr here ↦ record {
    points = subst (λ (files : List (ℕ × File)). All (λ (e : ℕ × File). PointFits e.1) files) (sym (answered_files call turn (try v call turn)))
        (KeepsFrame.points (frame_of call v (try v call turn) (InFrame.so (try-frame v call turn served.points))) fits served.points);
    fit = (let none = served.fit in let fewer = own_fewer v call turn (λ c. not (what_fits c.what)) one (rw fits refl) in omega arith);
    quiet = λ client gone. elim (left_before v call turn client served.points gone) [
      | inl before ↦ quiet_before here client before
      | inr leaves ↦ quiet_gone here client leaves.0 leaves.1
    ];
  }
]
  where
    quiet_before : has_left v call.client ≡ false → (client : ℕ) → has_left v client ≡ true → how_many (is_wait_by client) (answered call turn (try v call turn)).pending ≡ 0
    quiet_before here client before =
        let none = served.quiet client before in
        let fewer = own_fewer v call turn (λ c. c.client == client && is_wait c.what) one (elim (cases_Bool (call.client == client)) [
          | inr isnt ↦ rw isnt refl
          | inl is ↦ absurd (let same : call.client ≡ client = eqb-true call.client client is in
              let both : true ≡ false = sym before ∙ ap (has_left v) (sym same) ∙ here in cc)
        ]) in omega arith

    quiet_gone : has_left v call.client ≡ false → (client : ℕ) → is_leave call.what ≡ true → client ≡ call.client → how_many (is_wait_by client) (answered call turn (try v call turn)).pending ≡ 0
    quiet_gone here client leaves same =
        subst (λ (o : Outcome). how_many (is_wait_by client) (answered call turn o).pending ≡ 0) (sym (leave_tried v call turn here leaves))
        (let none : how_many (is_wait_by client) (with_client_gone v call.client).pending ≡ 0 = subst (λ (c : ℕ). how_many (is_wait_by c) (with_client_gone v call.client).pending ≡ 0) (sym same) (gone_waits v call.client) in
        let fewer = how_many-filter_le (is_wait_by client) (λ e. not (is_call call.client call.number e.1)) (with_client_gone v call.client).pending in omega arith)

-- ---- a turn

-- a turn keeps this, who had left has left, and so has the client of its own call where that leaves
pub record TurnsLeft (v : Volume) (call : Call) (w : Volume) : Type 0 where
  pub served : IsServed w
  pub long : length w.left ≡ length v.left
  pub stay : (client : ℕ) → has_left v client ≡ true → has_left w client ≡ true
  pub leaves : is_leave call.what ≡ true → call.client < length v.left → has_left w call.client ≡ true

pub turn-left : (v : Volume) (call : Call) (starved : List CallId) (t : Turned) → MayTurn v → times call.client call.number v ≡ 0 → what_fits call.what ≡ true → IsServed v → turn v call starved ≡ Some t
    → TurnsLeft v call t.volume
turn-left v call starved t may none fits served is =
    subst (λ (t : Turned). TurnsLeft v call t.volume) (turn-turned v call starved t is) record {
      served = IsServed-serves own (settlement v call starved).volume settles own_served;
      long = ap length settles.left ∙ (own_left v call (turn_number v) served.points).0;
      stay = λ client gone. ap (λ (left : List Bool). slice_index_or left client false) settles.left ∙ (own_left v call (turn_number v) served.points).1 client gone;
      leaves = λ leaving inside. ap (λ (left : List Bool). slice_index_or left call.client false) settles.left ∙ own_leaves v call (turn_number v) served.points leaving inside;
    }
  where
    own : Volume
    own = answered call (turn_number v) (try v call (turn_number v))

    own_served : IsServed own
    own_served = own-served v call (turn_number v) may.take_up.may.oplocks fits served

    settles : Serves own (settlement v call starved).volume
    settles = Serves-settled own starved (Adds-answered v call (try v call (turn_number v)) may none (try-keeps v call (turn_number v) may.take_up.may.oplocks)).may.take_up own_served.points own_served.fit
