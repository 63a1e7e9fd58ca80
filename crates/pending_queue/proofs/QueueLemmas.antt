-- What a change of the turns and of the blockers under turns leaves of the calls that are held.
use Rattle.std.proofs.Common.{◌≡◌, ℕ, true, false, not, ◌<◌, List, [], ◌∷◌, ◌++◌, length, refl, ap, sym, ◌∙◌, arith, inl, inr, eq-eqb}
use Rattle.std.specs.List.{list_any, AllPairs}
use Rattle.std.specs.Prelude.{◌==◌, ◌||◌, map, filter, slice_get}
use Rattle.std.proofs.lemmas.Bool.{cases_Bool, ne_eqb, eqb-true, eqb-false, false≢true}
use Rattle.std.proofs.lemmas.List.{map-append, append-nil, length-map, get_or-map}
use Rattle.std.proofs.lemmas.List.Elements.{filter-append}
use Rattle.fsa_types.specs.Rows.{lives, without_row, with_row_changed}
use Rattle.fsa_types.specs.declared.reply.Blocker.{Blocker}
use Rattle.pending_queue.specs.Lists.{AreCounted, counted, least, ready_turns, turns_of, with_turn_among}
use Rattle.pending_queue.specs.PendingQueue.{blockers_under, held_of, is_same, with_call_held, with_blocker_ended, next_unblocked}
use Rattle.pending_queue.proofs.LeastLemmas.{in_order-first, sorted-first}

-- ---- the blockers of one turn

other_way : (a b : ℕ) → (a == b) ≡ false → (b == a) ≡ false
other_way a b differ = ne_eqb b a (λ same. eqb-false a b differ (sym same))

-- those of another turn stay where one turn's are taken out, and its own go
pub blockers-kept : (waited : List (ℕ × Blocker)) (turn other : ℕ) → (other == turn) ≡ false
    → blockers_under (filter (λ e. not (e.0 == turn)) waited) other ≡ blockers_under waited other
blockers-kept [] turn other differ = refl
blockers-kept (e ∷ es) turn other differ =
    elim (cases_Bool (e.0 == turn)) [
      | inl own ↦ (let is : e.0 ≡ turn = eqb-true e.0 turn own in
          let not_its : (e.0 == other) ≡ false = ne_eqb e.0 other (λ same. eqb-false other turn differ (sym same ∙ is)) in
          rw (own, not_its) (blockers-kept es turn other differ))
      | inr kept ↦ elim (cases_Bool (e.0 == other)) [
        | inl its ↦ rw (kept, its) (ap (λ rest. e.1 ∷ rest) (blockers-kept es turn other differ))
        | inr not_its ↦ rw (kept, not_its) (blockers-kept es turn other differ)
      ]
    ]

pub blockers-gone : (waited : List (ℕ × Blocker)) (turn : ℕ) → blockers_under (filter (λ e. not (e.0 == turn)) waited) turn ≡ []
blockers-gone [] turn = refl
blockers-gone (e ∷ es) turn =
    elim (cases_Bool (e.0 == turn)) [
      | inl own ↦ rw own (blockers-gone es turn)
      | inr kept ↦ rw (kept, kept) (blockers-gone es turn)
    ]

-- those that are put under one turn are its own, and no other's
pub blockers-own : (blockers : List Blocker) (turn : ℕ) → blockers_under (map (λ blocker. (turn, blocker)) blockers) turn ≡ blockers
blockers-own [] turn = refl
blockers-own (b ∷ bs) turn = rw (eq-eqb turn turn refl) (ap (λ rest. b ∷ rest) (blockers-own bs turn))

blockers-others : (blockers : List Blocker) (turn other : ℕ) → (other == turn) ≡ false → blockers_under (map (λ blocker. (turn, blocker)) blockers) other ≡ []
blockers-others [] turn other differ = refl
blockers-others (b ∷ bs) turn other differ = rw (other_way other turn differ) (blockers-others bs turn other differ)

pub blockers-append : (some more : List (ℕ × Blocker)) (turn : ℕ) → blockers_under (some ++ more) turn ≡ blockers_under some turn ++ blockers_under more turn
blockers-append some more turn =
    ap (map (λ (e : ℕ × Blocker). e.1)) (filter-append (λ (e : ℕ × Blocker). e.0 == turn) some more)
    ∙ map-append (λ (e : ℕ × Blocker). e.1) (filter (λ e. e.0 == turn) some) (filter (λ e. e.0 == turn) more)

-- these blockers in place of those of this turn
abbrev pub put : List (ℕ × Blocker) → ℕ → List Blocker → List (ℕ × Blocker)
put waited turn blockers = filter (λ e. not (e.0 == turn)) waited ++ map (λ blocker. (turn, blocker)) blockers

pub put-own : (waited : List (ℕ × Blocker)) (turn : ℕ) (blockers : List Blocker) → blockers_under (put waited turn blockers) turn ≡ blockers
put-own waited turn blockers = blockers-append (filter (λ e. not (e.0 == turn)) waited) (map (λ blocker. (turn, blocker)) blockers) turn
    ∙ ap (λ front. front ++ blockers_under (map (λ blocker. (turn, blocker)) blockers) turn) (blockers-gone waited turn) ∙ blockers-own blockers turn

pub put-others : (waited : List (ℕ × Blocker)) (turn : ℕ) (blockers : List Blocker) (other : ℕ) → (other == turn) ≡ false
    → blockers_under (put waited turn blockers) other ≡ blockers_under waited other
put-others waited turn blockers other differ = blockers-append (filter (λ e. not (e.0 == turn)) waited) (map (λ blocker. (turn, blocker)) blockers) other
    ∙ ap (λ back. blockers_under (filter (λ e. not (e.0 == turn)) waited) other ++ back) (blockers-others blockers turn other differ)
    ∙ append-nil (blockers_under (filter (λ e. not (e.0 == turn)) waited) other) ∙ blockers-kept waited turn other differ

-- one blocker taken out
pub blockers-ended : (waited : List (ℕ × Blocker)) (blocker : Blocker) (turn : ℕ)
    → blockers_under (filter (λ e. not (is_same blocker e.1)) waited) turn ≡ filter (λ other. not (is_same blocker other)) (blockers_under waited turn)
blockers-ended [] blocker turn = refl
blockers-ended (e ∷ es) blocker turn =
    elim (cases_Bool (is_same blocker e.1)) [
      | inl gone ↦ elim (cases_Bool (e.0 == turn)) [
        | inl own ↦ rw (gone, own, gone) (blockers-ended es blocker turn)
        | inr other ↦ rw (gone, other) (blockers-ended es blocker turn)
      ]
      | inr kept ↦ elim (cases_Bool (e.0 == turn)) [
        | inl own ↦ rw (kept, own, kept) (ap (λ rest. e.1 ∷ rest) (blockers-ended es blocker turn))
        | inr other ↦ rw (kept, other) (blockers-ended es blocker turn)
      ]
    ]

-- ---- the calls that are held

pub held-lives : (turns : List ℕ) (waited : List (ℕ × Blocker)) (turn : ℕ) → lives (held_of turns waited) turn ≡ list_any (λ other. other == turn) turns
held-lives [] waited turn = refl
held-lives (t ∷ ts) waited turn = ap (λ rest. t == turn || rest) (held-lives ts waited turn)

pub held-ended : (turns : List ℕ) (waited : List (ℕ × Blocker)) (blocker : Blocker)
    → held_of turns (filter (λ e. not (is_same blocker e.1)) waited) ≡ with_blocker_ended (held_of turns waited) blocker
held-ended [] waited blocker = refl
held-ended (t ∷ ts) waited blocker = rw (blockers-ended waited blocker t, held-ended ts waited blocker) refl

pub held-removed : (turns : List ℕ) (waited : List (ℕ × Blocker)) (turn : ℕ)
    → held_of (filter (λ other. not (other == turn)) turns) (filter (λ e. not (e.0 == turn)) waited) ≡ without_row (held_of turns waited) turn
held-removed [] waited turn = refl
held-removed (t ∷ ts) waited turn =
    elim (cases_Bool (t == turn)) [
      | inl own ↦ rw own (held-removed ts waited turn)
      | inr kept ↦ rw (kept, blockers-kept waited turn t kept, held-removed ts waited turn) refl
    ]

held-changed : (turns : List ℕ) (waited : List (ℕ × Blocker)) (turn : ℕ) (blockers : List Blocker)
    → held_of turns (put waited turn blockers) ≡ with_row_changed (λ _. blockers) (held_of turns waited) turn
held-changed [] waited turn blockers = refl
held-changed (t ∷ ts) waited turn blockers =
    elim (cases_Bool (t == turn)) [
      | inl own ↦ (let is : t ≡ turn = eqb-true t turn own in
          let its : blockers_under (put waited turn blockers) t ≡ blockers = rw is (put-own waited turn blockers) in
          rw (own, its, held-changed ts waited turn blockers) refl)
      | inr kept ↦ rw (kept, put-others waited turn blockers t kept, held-changed ts waited turn blockers) refl
    ]

held-others : (turns : List ℕ) (waited : List (ℕ × Blocker)) (turn : ℕ) (blockers : List Blocker) → list_any (λ other. other == turn) turns ≡ false
    → held_of turns (put waited turn blockers) ≡ held_of turns waited
held-others [] waited turn blockers none = refl
held-others (t ∷ ts) waited turn blockers none =
    elim (cases_Bool (t == turn)) [
      | inl own ↦ (let never : true ≡ false = rw own at none in absurd (false≢true (sym never)))
      | inr kept ↦ (let rest : list_any (λ other. other == turn) ts ≡ false = rw kept at none in
          rw (put-others waited turn blockers t kept, held-others ts waited turn blockers rest) refl)
    ]

pub held-held : (turns : List ℕ) (waited : List (ℕ × Blocker)) (turn : ℕ) (blockers : List Blocker)
    → held_of (with_turn_among turns turn) (put waited turn blockers) ≡ with_call_held (held_of turns waited) turn blockers
held-held turns waited turn blockers =
    elim (cases_Bool (list_any (λ other. other == turn) turns)) [
      | inl there ↦ rw (held-lives turns waited turn, there) (held-changed turns waited turn blockers)
      | inr none ↦ rw (held-lives turns waited turn, none) (
          map-append (λ t. (t, blockers_under (put waited turn blockers) t)) turns (turn ∷ [])
          ∙ ap (λ front. front ++ (turn, blockers_under (put waited turn blockers) turn) ∷ []) (held-others turns waited turn blockers none)
          ∙ ap (λ its. held_of turns waited ++ (turn, its) ∷ []) (put-own waited turn blockers))
    ]

-- ---- the calls none of whose blockers lives

ready-held : (turns : List ℕ) (waited : List (ℕ × Blocker)) → map (λ e. e.0) (filter (λ e. length e.1 == 0) (held_of turns waited)) ≡ ready_turns (counted turns waited)
ready-held [] waited = refl
ready-held (t ∷ ts) waited =
    elim (cases_Bool (length (blockers_under waited t) == 0)) [
      | inl free ↦ rw free (ap (λ rest. t ∷ rest) (ready-held ts waited))
      | inr blocked ↦ rw blocked (ready-held ts waited)
    ]

pub next_unblocked-first : (calls : List (ℕ × ℕ)) (waited : List (ℕ × Blocker)) (ready : List ℕ) → AreCounted calls waited ready → next_unblocked (held_of (turns_of calls) waited) ≡ slice_get ready 0
next_unblocked-first calls waited ready are = in_order-first (filter (λ e. length e.1 == 0) (held_of (turns_of calls) waited))
    ∙ ap least (ready-held (turns_of calls) waited) ∙ ap (λ its. least (ready_turns its)) (sym are.counts) ∙ sym (sorted-first (ready_turns calls)) ∙ ap (λ its. slice_get its 0) (sym are.are_ready)

-- ---- no two turns are the same

pub differ-held_of : (calls : List (ℕ × ℕ)) (waited : List (ℕ × Blocker)) → AllPairs (λ a b. (a.0 == b.0) ≡ false) calls → AllPairs (λ a b. (a.0 == b.0) ≡ false) (held_of (turns_of calls) waited)
differ-held_of calls waited differ i j d below within =
    let view : ℕ → ℕ × List Blocker = λ turn. (turn, blockers_under waited turn) in
    let turn : ℕ × ℕ → ℕ = λ call. call.0 in
    let many = length-map (turns_of calls) view in
    let calls_many = length-map calls turn in
    let few : j < length calls = omega arith in
    rw (get_or-map view (turns_of calls) i 0 d (omega arith), get_or-map view (turns_of calls) j 0 d (omega arith), get_or-map turn calls i (0, 0) 0 (omega arith), get_or-map turn calls j (0, 0) 0 (omega arith))
    (differ i j (0, 0) below few)
