-- Caching is coherent over each history: all its tries are coherent, nothing between two of them changes bytes or
-- oplocks, and over a stretch in which a handle counts its bytes change only by its own key.
use Rattle.std.proofs.Common.{◌≡◌, ℕ, zero, suc, true, List, [], ◌∷◌, ◌++◌, length, refl, sym, ap, subst, ◌∙◌, arith, Some, None, inl, inr}
use Rattle.std.specs.Option.{option_map_or}
use Rattle.std.specs.Prelude.{◌&&◌, nat_le, filter, All}
use Rattle.std.proofs.lemmas.Bool.{cases_Bool}
use Rattle.std.proofs.lemmas.List.Elements.{All-append, All-cons, All-nil}
use Rattle.fsa_types.specs.declared.reply.Body.TheVariants.{Nothing}
use Rattle.fsa_types.specs.declared.request.Call.{Call}
use Rattle.fsa_types.specs.declared.request.CallId.{CallId}
use Rattle.fsa_types.specs.declared.request.Request.TheVariants.{Notify}
use Rattle.fsa_types.specs.declared.request.What.{What}
use Rattle.fsa_types.specs.declared.request.What.TheVariants.{Ask}
use Rattle.fsa_types.specs.declared.status.Status.{Status}
use Rattle.fsa_types.specs.declared.status.Status.TheVariants.{Stalled}
use Rattle.fsa_types.specs.Rows.{row_of}
use Rattle.fsa_model.specs.Close.{with_calls_ended}
use Rattle.fsa_model.specs.Coherence.{CachingIsCoherent, CountsAlong, IsAlike, IsCoherentTry, IsTied, LeadTo, Stretch, bytes_under, is_by_own_key, WritersAlone}
use Rattle.fsa_model.specs.Edits.{with_end}
use Rattle.fsa_model.specs.Engine.{own_tried}
use Rattle.fsa_model.specs.History.{HistoryEntry, Run, begun, steps, turn_on, with_turn}
use Rattle.fsa_model.specs.Lookups.{bytes_of, handle_of}
use Rattle.fsa_model.specs.Outcome.{Outcome, Done, Stay, Hold}
use Rattle.fsa_model.specs.Settle.{Settling, come_over, repeated, reported, settle_step, starves, taken_up, taken_up_all, with_tried}
use Rattle.fsa_model.specs.Setup.{Setup}
use Rattle.fsa_model.specs.Tries.{Tried, left_by, tried_in, tries_from, tries_of, tries_of_steps, tries_of_turn}
use Rattle.fsa_model.specs.Try.{try}
use Rattle.fsa_model.specs.Turn.{Turned, answered, settlement, turn, turn_number, volume_after}
use Rattle.fsa_model.specs.Volume.{Handle, Pending, Volume}
use Rattle.fsa_model.specs.Waiting.{all_wait, is_held, next_ready, waits_in_order, with_stalled}
use Rattle.fsa_model.specs.Watching.{due_size}
use Rattle.fsa_model.proofs.CoherenceData.{IsUntouched-next}
use Rattle.fsa_model.proofs.CoherenceFalls.{Falls-untouched, alone-falls}
use Rattle.fsa_model.proofs.CoherenceTied.{IsUntouched, IsUntouched-same, IsUntouched-with_end, IsTied-alike}
use Rattle.fsa_model.proofs.CoherenceTries.{IsCoherent-try, IsTied-fresh, WritersAlone-fresh}
use Rattle.fsa_model.proofs.EngineLaws.{turn-turned}
use Rattle.fsa_model.proofs.RowLaws.{option_cases}
use Rattle.fsa_model.proofs.SettleLaws.{some_equal}

-- ---- stretches, one after another

alike : (v w : Volume) → IsUntouched v w → IsAlike v w
alike v w untouched = record { handles = untouched.handles; oplocks = untouched.oplocks; streams = untouched.streams }

alike-same : (v : Volume) → IsAlike v v
alike-same v = record { handles = refl; oplocks = refl; streams = refl }

alike-next : (u v w : Volume) → IsAlike u v → IsAlike v w → IsAlike u w
alike-next u v w first second = record { handles = second.handles ∙ first.handles; oplocks = second.oplocks ∙ first.oplocks; streams = second.streams ∙ first.streams }

Stretch-after : (tries : List Tried) (u v w : Volume) → IsAlike u v → Stretch tries v w → Stretch tries u w
Stretch-after [] u v w same stretch = alike-next u v w same stretch
Stretch-after (t ∷ more) u v w same stretch = (alike-next u v t.before same stretch.0, stretch.1)

Stretch-then : (tries : List Tried) (u v w : Volume) → Stretch tries u v → IsAlike v w → Stretch tries u w
Stretch-then [] u v w stretch same = alike-next u v w stretch same
Stretch-then (t ∷ more) u v w stretch same = (stretch.0, Stretch-then more (left_by t) v w stretch.1 same)

Stretch-next : (first second : List Tried) (u v w : Volume) → Stretch first u v → Stretch second v w → Stretch (first ++ second) u w
Stretch-next [] second u v w one two = Stretch-after second u v w one two
Stretch-next (t ∷ more) second u v w one two = (one.0, Stretch-next more second (left_by t) v w one.1 two)

-- ---- tries that lead from one volume to another

-- what every try keeps
record Holds (v : Volume) : Type 0 where
  tied : IsTied v
  alone : WritersAlone v

-- it is kept, and each of them is coherent
record LeadsTo (tries : List Tried) (v w : Volume) : Type 0 where
  keeps : Holds v → Holds w
  all : Holds v → All IsCoherentTry tries
  stretch : Stretch tries v w

Holds-untouched : (v w : Volume) → IsUntouched v w → Holds v → Holds w
Holds-untouched v w untouched holds = record { tied = IsTied-alike v w untouched holds.tied; alone = alone-falls v w (Falls-untouched v w untouched) holds.alone }

LeadsTo-none : (v w : Volume) → IsUntouched v w → LeadsTo [] v w
LeadsTo-none v w untouched = record { keeps = Holds-untouched v w untouched; all = λ holds. All-nil IsCoherentTry; stretch = alike v w untouched }

LeadsTo-try : (v : Volume) (call : Call) (turn : ℕ) → LeadsTo (record { before = v; call = call; turn = turn } ∷ []) v (volume_after (try v call turn))
LeadsTo-try v call turn = record {
  keeps = λ holds. record { tied = (IsCoherent-try v call turn holds.tied).tied; alone = (IsCoherent-try v call turn holds.tied).alone holds.alone };
  all = λ holds. All-cons IsCoherentTry (record { before = v; call = call; turn = turn }) [] (record { tied = holds.tied; alone = holds.alone; coherent = IsCoherent-try v call turn holds.tied }) (All-nil IsCoherentTry);
  stretch = (alike-same v, alike-same (volume_after (try v call turn)));
}

LeadsTo-next : (first second : List Tried) (u v w : Volume) → LeadsTo first u v → LeadsTo second v w → LeadsTo (first ++ second) u w
LeadsTo-next first second u v w one two = record {
  keeps = λ holds. two.keeps (one.keeps holds);
  all = λ holds. All-append IsCoherentTry first second (one.all holds) (two.all (one.keeps holds));
  stretch = Stretch-next first second u v w one.stretch two.stretch;
}

LeadsTo-then : (tries : List Tried) (u v w : Volume) → LeadsTo tries u v → IsUntouched v w → LeadsTo tries u w
LeadsTo-then tries u v w one untouched = record {
  keeps = λ holds. Holds-untouched v w untouched (one.keeps holds);
  all = one.all;
  stretch = Stretch-then tries u v w one.stretch (alike v w untouched);
}

-- ---- what a turn does besides its tries

untouched-pending : (v : Volume) (pending : List (ℕ × Pending)) → IsUntouched v (record v { pending = pending })
untouched-pending v pending = record { oplocks = refl; handles = refl; links = refl; streams = refl; last_link = refl; last_stream = refl; root = λ root. root }

untouched-tried : (turn : ℕ) (pending : Pending) (outcome : Outcome) → IsUntouched (volume_after outcome) (with_tried turn pending outcome)
untouched-tried turn pending (Done v reply) = IsUntouched-with_end v _ _ _
untouched-tried turn pending (Stay v interim) = untouched-pending v _
untouched-tried turn pending (Hold v blockers interim) = untouched-pending v _

untouched-answered : (call : Call) (turn : ℕ) (outcome : Outcome) → IsUntouched (volume_after outcome) (answered call turn outcome)
untouched-answered call turn (Done v reply) = IsUntouched-with_end v _ _ _
untouched-answered call turn (Stay v interim) = untouched-pending v _
untouched-answered call turn (Hold v blockers interim) = untouched-pending v _

untouched-reported : (s : Settling) (pending : Pending) (id room : ℕ) → IsUntouched s.volume (reported s pending id room).volume
untouched-reported s pending id room = elim (cases_Bool (starves s.starved pending && nat_le (due_size s.volume id) room)) [
  | inl starving ↦ rw starving (IsUntouched-with_end s.volume _ _ _)
  | inr reports ↦ rw reports (record { oplocks = refl; handles = refl; links = refl; streams = refl; last_link = refl; last_stream = refl; root = λ root. root })
]

untouched-come : (s : Settling) (pending : Pending) (what : What) → IsUntouched s.volume (come_over s pending what).volume
untouched-come s pending (Ask (Notify handle filter tree room)) = elim (option_cases (handle_of s.volume pending.call.client handle)) [
  | inl none ↦ rw none (IsUntouched-same s.volume)
  | inr some ↦ rw some.1 (untouched-reported s pending some.0 room)
]
untouched-come s pending _ = IsUntouched-with_end s.volume _ _ _

untouched-calls_ended : (status_of : What → Status) (calls : List (ℕ × Pending)) (v : Volume) → IsUntouched v (with_calls_ended status_of calls v)
untouched-calls_ended status_of [] v = IsUntouched-same v
untouched-calls_ended status_of (entry ∷ calls) v =
    (let first : Volume = with_end v entry.1.call.client entry.1.call.number (record { status = status_of entry.1.call.what; body = Nothing }) in
    IsUntouched-next v first (with_calls_ended status_of calls first) (IsUntouched-with_end v entry.1.call.client entry.1.call.number _) (untouched-calls_ended status_of calls first))

untouched-stalled : (v : Volume) → IsUntouched v (with_stalled v)
untouched-stalled v = elim (cases_Bool (all_wait v)) [
  | inl all ↦ rw all (untouched-calls_ended (λ _. Stalled) (waits_in_order v) v)
  | inr some ↦ rw some (IsUntouched-same v)
]

-- ---- the tries of a turn

LeadsTo-taken_up : (s : Settling) (entry : ℕ × Pending) → LeadsTo (tried_in s entry) s.volume (taken_up s entry).volume
LeadsTo-taken_up s entry = elim (cases_Bool (is_held entry.1)) [
  | inr waits ↦ rw waits (LeadsTo-none s.volume _ (untouched-come s entry.1 entry.1.call.what))
  | inl held ↦ rw held (elim (cases_Bool (starves s.starved entry.1)) [
    | inl starving ↦ rw starving (LeadsTo-none s.volume _ (IsUntouched-with_end s.volume _ _ _))
    | inr plenty ↦ rw plenty (LeadsTo-then (record { before = s.volume; call = entry.1.call; turn = entry.0 } ∷ []) s.volume (volume_after (try s.volume entry.1.call entry.0))
        (with_tried entry.0 entry.1 (try s.volume entry.1.call entry.0)) (LeadsTo-try s.volume entry.1.call entry.0) (untouched-tried entry.0 entry.1 (try s.volume entry.1.call entry.0)))
  ])
]

LeadsTo-steps : (most : ℕ) (s : Settling) → LeadsTo (tries_of_steps most s) s.volume (repeated settle_step most s).volume
LeadsTo-steps zero s = LeadsTo-none s.volume s.volume (IsUntouched-same s.volume)
LeadsTo-steps (suc more) s = elim (option_cases (next_ready s.volume)) [
  | inl none ↦ rw none (LeadsTo-none s.volume s.volume (IsUntouched-same s.volume))
  | inr some ↦ rw some.1 (LeadsTo-next (tried_in s some.0) (tries_of_steps more (taken_up s some.0)) s.volume (taken_up s some.0).volume _ (LeadsTo-taken_up s some.0) (LeadsTo-steps more (taken_up s some.0)))
]

LeadsTo-turn : (v : Volume) (call : Call) (starved : List CallId) → LeadsTo (tries_of_turn v call starved) v (settlement v call starved).volume
LeadsTo-turn v call starved =
    let own : Volume = own_tried v call in
    let start : Settling = record { volume = own; starved = starved; taken = [] } in
    let taken : Volume = (taken_up_all own starved).volume in
    LeadsTo-next (record { before = v; call = call; turn = turn_number v } ∷ []) (tries_of_steps (length own.pending) start) v own (settlement v call starved).volume
    (LeadsTo-then (record { before = v; call = call; turn = turn_number v } ∷ []) v (volume_after (try v call (turn_number v))) own (LeadsTo-try v call (turn_number v))
    (untouched-answered call (turn_number v) (try v call (turn_number v))))
    (LeadsTo-then (tries_of_steps (length own.pending) start) own taken (with_stalled taken) (LeadsTo-steps (length own.pending) start) (untouched-stalled taken))

-- ---- the tries of a run

pub turn_on-settled : (r : Run) (entry : HistoryEntry) (next : Run) → turn_on r entry ≡ Some next → next.volume ≡ (settlement r.volume entry.call entry.starved).volume
turn_on-settled r entry next is = elim (option_cases (turn r.volume entry.call entry.starved)) [
  | inl none ↦ (let impossible : None ≡ Some next = rw none at is in cc)
  | inr some ↦ (let so : Some (with_turn r some.0) ≡ Some next = rw some.1 at is in
      ap (λ (x : Run). x.volume) (sym (some_equal (with_turn r some.0) next so)) ∙ ap (λ (t : Turned). t.volume) (sym (turn-turned r.volume entry.call entry.starved some.0 some.1)))
]

LeadsTo-from : (history : List HistoryEntry) (r after : Run) → steps turn_on r history ≡ Some after → LeadsTo (tries_from r history) r.volume after.volume
LeadsTo-from [] r after is = subst (λ (x : Run). LeadsTo [] r.volume x.volume) (some_equal r after is) (LeadsTo-none r.volume r.volume (IsUntouched-same r.volume))
LeadsTo-from (entry ∷ more) r after is = elim (option_cases (turn_on r entry)) [
  | inl none ↦ (let impossible : None ≡ Some after = rw none at is in cc)
  | inr some ↦ rw some.1 (LeadsTo-next (tries_of_turn r.volume entry.call entry.starved) (tries_from some.0 more) r.volume some.0.volume after.volume
      (subst (λ (w : Volume). LeadsTo (tries_of_turn r.volume entry.call entry.starved) r.volume w) (sym (turn_on-settled r entry some.0 some.1)) (LeadsTo-turn r.volume entry.call entry.starved))
      (LeadsTo-from more some.0 after (rw some.1 at is)))
]

-- all tries of these turns are coherent, also where there is no such turn
all-from : (history : List HistoryEntry) (r : Run) → Holds r.volume → All IsCoherentTry (tries_from r history)
all-from [] r holds = All-nil IsCoherentTry
all-from (entry ∷ more) r holds =
    let here : LeadsTo (tries_of_turn r.volume entry.call entry.starved) r.volume (settlement r.volume entry.call entry.starved).volume = LeadsTo-turn r.volume entry.call entry.starved in
    All-append IsCoherentTry (tries_of_turn r.volume entry.call entry.starved) _ (here.all holds) (elim (option_cases (turn_on r entry)) [
      | inl none ↦ rw none (All-nil IsCoherentTry)
      | inr some ↦ rw some.1 (all-from more some.0 (subst (λ (w : Volume). Holds w) (sym (turn_on-settled r entry some.0 some.1)) (here.keeps holds)))
    ])

-- ---- a stretch in which a handle counts

-- a part of a list
All-begins : {X : Type 0} (P : X → Type 0) (xs more : List X) → All P (xs ++ more) → All P xs
All-begins P [] more all = All-nil P
All-begins P (x ∷ xs) more all = All-cons P x xs (all 0 x (omega arith)) (All-begins P xs more (λ k d within. all (suc k) d (omega arith)))

All-part : {X : Type 0} (P : X → Type 0) (first part last : List X) → All P (first ++ part ++ last) → All P part
All-part P [] part last all = All-begins P part last all
All-part P (x ∷ first) part last all = All-part P first part last (λ k d within. all (suc k) d (omega arith))

bytes-alike : (v w : Volume) (handle : ℕ) → IsAlike v w → bytes_under w handle ≡ bytes_under v handle
bytes-alike v w handle same =
    ap (λ (handles : List (ℕ × Handle)). option_map_or (λ row. option_map_or (bytes_of w) row.stream []) (row_of handles handle) []) same.handles
    ∙ ap (λ streams. option_map_or (λ row. option_map_or (λ stream. option_map_or (λ s. s.bytes) (row_of streams stream) []) row.stream []) (row_of v.handles handle) []) same.streams

leads : (handle : ℕ) (tries : List Tried) (v w : Volume) → All IsCoherentTry tries → Stretch tries v w → CountsAlong handle tries
    → LeadTo handle (bytes_under v handle) (filter (is_by_own_key handle) tries) (bytes_under w handle)
leads handle [] v w all stretch counts = bytes-alike v w handle stretch
leads handle (t ∷ more) v w all stretch counts =
    let rest : LeadTo handle (bytes_under (left_by t) handle) (filter (is_by_own_key handle) more) (bytes_under w handle)
    = leads handle more (left_by t) w (λ k d within. all (suc k) d (omega arith)) stretch.1 (λ k d within. counts (suc k) d (omega arith)) in
    let here : bytes_under t.before handle ≡ bytes_under v handle = bytes-alike v t.before handle stretch.0 in
    elim (cases_Bool (is_by_own_key handle t)) [
      | inl own ↦ rw own (here, rest)
      | inr other ↦ (let it : IsCoherentTry t = all 0 t (omega arith) in
          let both : (_ ≡ true) × (_ ≡ true) = counts 0 t (omega arith) in
          let stays : bytes_under (left_by t) handle ≡ bytes_under v handle = it.coherent.bytes handle both.0 both.1 other ∙ here in
          rw other (subst (λ (from : List ℕ). LeadTo handle from (filter (is_by_own_key handle) more) (bytes_under w handle)) stays rest))
    ]

pub run-coherent : (setup : Setup) (history : List HistoryEntry) → CachingIsCoherent setup history
run-coherent setup history =
    let all : All IsCoherentTry (tries_of setup history) = all-from history (begun setup) (record { tied = IsTied-fresh setup; alone = WritersAlone-fresh setup }) in
    record {
      tries = all;
      between = λ r is. LeadsTo.stretch (LeadsTo-from history (begun setup) r is);
      stretches = λ handle first part last v w parts stretch counts.
          leads handle part v w (All-part IsCoherentTry first part last (subst (λ (tries : List Tried). All IsCoherentTry tries) parts all)) stretch counts;
    }
