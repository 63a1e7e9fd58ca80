-- Where breaks of an oplock begin, its call is told, and later ones of the same class leave just what was told.
use Rattle.std.proofs.Common.{◌≡◌, ℕ, ◌+◌, ◌≤◌, Bool, true, false, not, List, [], ◌∷◌, ◌++◌, refl, sym, subst, ◌∙◌, arith, inl, inr, Option, Some, None}
use Rattle.std.specs.List.{find, list_any}
use Rattle.std.specs.Option.{option_map_or}
use Rattle.std.specs.Prelude.{◌==◌, ◌&&◌, is_some, map}
use Rattle.std.proofs.lemmas.Bool.{cases_Bool, eqb-true}
use Rattle.fsa_types.specs.Oplocks.{Effect, Stays, Ends, Begins, Lowers, in_both, is_within, keep}
use Rattle.fsa_types.specs.Rows.{row_of}
use Rattle.fsa_types.specs.declared.oplock.Class.{Class}
use Rattle.fsa_types.specs.declared.oplock.Class.TheVariants.{Clash, NameChange, ReadOpen, Change}
use Rattle.fsa_types.specs.declared.reply.EndOf.{EndOf}
use Rattle.fsa_types.specs.declared.request.Level.{Level}
use Rattle.fsa_types.specs.declared.request.Level.TheVariants.{Nil, R, RH, RW, RWH}
use Rattle.fsa_types.proofs.OplockLemmas.{within-same}
use Rattle.fsa_model.specs.Breaks.{with_break_begun, with_effect, with_told}
use Rattle.fsa_model.specs.Edits.{is_call, with_end, without_oplock}
use Rattle.fsa_model.specs.Once.{how_many, is_end}
use Rattle.fsa_model.specs.Settling.{AddsEnds, HasOneOplockEach, is_of, is_under}
use Rattle.fsa_model.specs.Volume.{Oplock, Pending, Volume}
use Rattle.fsa_model.specs.Waiting.{is_granted_under}
use Rattle.fsa_model.proofs.BreakLaws.{told-oplocks}
use Rattle.fsa_model.proofs.CountLaws.{and_left, and_right, how_many-append, how_many-none, how_many-some, how_many-weaker, none-how_many, only-one, some-how_many}
use Rattle.fsa_model.proofs.OnceLaws.{is_call_of}
use Rattle.fsa_model.proofs.PendLaws.{found-under}
use Rattle.fsa_model.proofs.RowLaws.{any-filter, any-filter_none, any-map, any-push, any-weaker, eqb-swap, find-any, find-none, option_cases}
use Rattle.fsa_model.proofs.TryLaws.{Keeps, Keeps-effect}
use Rattle.fsa_model.proofs.WaitLaws.{begun, changed, find-passes, lowered}
use Rattle.history_laws.specs.Telling.{TellsTarget, is_held_under, is_told_level, is_untold, telling, tells_level}
use Rattle.history_laws.proofs.AnyLaws.{and_none, any-filter_and, any-never, none-stronger}
use Rattle.history_laws.proofs.BackedBreaks.{TurnsDiffer}
use Rattle.history_laws.proofs.CallsApart.{ends-stay}

-- ---- where no break begins

-- no more oplocks have a break in progress than had
pub unbroken-tells : (v w : Volume) → HasOneOplockEach v → ((test : Oplock → Bool) → how_many (λ (o : Oplock). is_some o.target && test o) w.oplocks ≤ how_many (λ (o : Oplock). is_some o.target && test o) v.oplocks) → TellsTarget v w
unbroken-tells v w one fewer handle turn client number held pends =
    let others = how_many-none (λ o. is_of handle o && not (not (is_some o.target) && is_granted_under turn o)) v.oplocks (only-one (is_of handle) (λ o. not (is_some o.target) && is_granted_under turn o) v.oplocks (one handle) held) in
    let broken = how_many-weaker (λ (o : Oplock). is_some o.target && is_of handle o) (λ o. is_of handle o && not (not (is_some o.target) && is_granted_under turn o)) v.oplocks
    (λ o both. rw (and_left (is_some o.target) (is_of handle o) both, and_right (is_some o.target) (is_of handle o) both) refl) in
    let few = fewer (is_of handle) in
    let untold = how_many-weaker (is_untold handle client number w.ended) (λ o. is_some o.target && is_of handle o) w.oplocks (λ o is. by o is) in
    none-how_many (is_untold handle client number w.ended) w.oplocks (omega arith)
  where
    by : (o : Oplock) → is_untold handle client number w.ended o ≡ true → (is_some o.target && is_of handle o) ≡ true
    by o is = elim (option_cases o.target) [
      | inl none ↦ (let impossible : false ≡ true = sym (and_none (is_of handle o) false refl) ∙ rw none at is in cc)
      | inr target ↦ rw target.1 (and_left (is_of handle o) (option_map_or (λ target. not (is_told_level client number target w.ended)) o.target false) is)
    ]

-- ---- what is told

-- what is in both of two levels is within the second
within-second : (a b : Level) → is_within (in_both a b) b ≡ true
within-second Nil Nil = refl
within-second Nil R = refl
within-second Nil RH = refl
within-second Nil RW = refl
within-second Nil RWH = refl
within-second R Nil = refl
within-second R R = refl
within-second R RH = refl
within-second R RW = refl
within-second R RWH = refl
within-second RH Nil = refl
within-second RH R = refl
within-second RH RH = refl
within-second RH RW = refl
within-second RH RWH = refl
within-second RW Nil = refl
within-second RW R = refl
within-second RW RH = refl
within-second RW RW = refl
within-second RW RWH = refl
within-second RWH Nil = refl
within-second RWH R = refl
within-second RWH RH = refl
within-second RWH RW = refl
within-second RWH RWH = refl

-- and it is just the first where that is within the second
both-within : (a b : Level) → is_within a b ≡ true → in_both a b ≡ a
both-within Nil Nil within = refl
both-within Nil R within = refl
both-within Nil RH within = refl
both-within Nil RW within = refl
both-within Nil RWH within = refl
both-within R Nil within = cc
both-within R R within = refl
both-within R RH within = refl
both-within R RW within = refl
both-within R RWH within = refl
both-within RH Nil within = cc
both-within RH R within = cc
both-within RH RH within = refl
both-within RH RW within = cc
both-within RH RWH within = refl
both-within RW Nil within = cc
both-within RW R within = cc
both-within RW RH within = cc
both-within RW RW within = refl
both-within RW RWH within = refl
both-within RWH Nil within = cc
both-within RWH R within = cc
both-within RWH RH within = cc
both-within RWH RW within = cc
both-within RWH RWH within = refl

-- what a class leaves of a level is within what the class leaves at most
pub within-kept : (kind : Class) (level : Level) → is_within (in_both level (keep kind)) (keep kind) ≡ true
within-kept Clash level = within-second level RW
within-kept NameChange level = within-second level RW
within-kept ReadOpen level = within-second level RH
within-kept Change level = within-second level Nil

-- and of a level within that it takes nothing
pub kept-same : (kind : Class) (level : Level) → is_within level (keep kind) ≡ true → in_both level (keep kind) ≡ level
kept-same Clash level within = both-within level RW within
kept-same NameChange level within = both-within level RW within
kept-same ReadOpen level within = both-within level RH within
kept-same Change level within = both-within level Nil within

-- where a pending call has this turn, it is what is found under the turn
pub record IsUnder (turn client number : ℕ) (u : Volume) : Type 0 where
  pub entry : ℕ × Pending
  pub found : find (λ (e : ℕ × Pending). e.0 == turn) u.pending ≡ Some entry
  pub its : is_call client number entry.1 ≡ true

pub under-turn : (turn client number : ℕ) (u : Volume) → TurnsDiffer u → list_any (λ (e : ℕ × Pending). e.0 == turn && is_call client number e.1) u.pending ≡ true → IsUnder turn client number u
under-turn turn client number u turns pends = elim (option_cases (find (λ (e : ℕ × Pending). e.0 == turn) u.pending)) [
  | inl missing ↦ absurd (
      let none = how_many-none (is_under turn) u.pending (find-none (is_under turn) u.pending missing) in
      let there = how_many-some (λ (e : ℕ × Pending). e.0 == turn && is_call client number e.1) u.pending pends in
      let weaker = how_many-weaker (λ (e : ℕ × Pending). e.0 == turn && is_call client number e.1) (is_under turn) u.pending (λ e both. and_left (e.0 == turn) (is_call client number e.1) both) in omega arith)
  | inr entry ↦ elim (cases_Bool (is_call client number entry.0.1)) [
    | inl is ↦ record { entry = entry.0; found = entry.1; its = is }
    | inr isnt ↦ (
        let there = find-any (is_under turn) (λ x. is_under turn x && not (is_call client number x.1)) u.pending entry.0 entry.1 (rw (find-passes (is_under turn) u.pending entry.0 entry.1, isnt) refl) in
        let none = only-one (is_under turn) (λ x. is_call client number x.1) u.pending (turns turn) pends in
        let impossible : true ≡ false = sym there ∙ none in cc)
  ]
]

module _ (handle turn client number : ℕ) where
  -- the call was told just this level, of which breaks of the class take nothing
  abbrev pub is_fixed : Class → List EndOf → Level → Bool
  is_fixed kind ended target = is_told_level client number target ended && is_within target (keep kind)

  -- the handle's oplock has no break in progress, or one of which the call wasn't told, or of which the class leaves less
  abbrev pub is_bad : Class → List EndOf → Oplock → Bool
  is_bad kind ended oplock = is_of handle oplock && option_map_or (λ target. not (is_fixed kind ended target)) oplock.target true

  -- what is told stays so
  bad-later : (kind : Class) (ended more : List EndOf) (o : Oplock) → is_bad kind (ended ++ more) o ≡ true → is_bad kind ended o ≡ true
  bad-later kind ended more o is = elim (option_cases o.target) [
    | inl none ↦ rw none (rw none at is)
    | inr target ↦ elim (cases_Bool (is_fixed kind ended target.0)) [
      | inl fixed ↦ (let still = any-push (λ end. is_end client number end && tells_level target.0 end.reply) ended more (and_left (is_told_level client number target.0 ended) (is_within target.0 (keep kind)) fixed) in
          let within = and_right (is_told_level client number target.0 ended) (is_within target.0 (keep kind)) fixed in
          let impossible : false ≡ true = sym (and_none (is_of handle o) false refl) ∙ rw (target.1, still, within) at is in cc)
      | inr loose ↦ rw (target.1, loose) (and_yes (is_of handle o) (and_left (is_of handle o) (option_map_or (λ target. not (is_fixed kind (ended ++ more) target)) o.target true) is))
    ]
  ]
    where
      and_yes : (a : Bool) → a ≡ true → (a && true) ≡ true
      and_yes a is = rw is refl

  pub bad-before : (kind : Class) (before after : List EndOf) → AddsEnds before after → (o : Oplock) → is_bad kind after o ≡ true → is_bad kind before o ≡ true
  bad-before kind before after adds o is = bad-later kind before adds.more o (rw adds.is at is)

  -- the handle's oplock has no break in progress, and its call is pending
  pub record IsUnbroken (w : Volume) : Type 0 where
    pub held : list_any (is_held_under handle turn) w.oplocks ≡ true
    pub pends : list_any (λ (e : ℕ × Pending). e.0 == turn && is_call client number e.1) w.pending ≡ true

  -- each oplock of the handle has a break in progress, of which the call was told, and of which breaks of the class take nothing
  -- more
  abbrev pub IsTold : Class → Volume → Type 0
  IsTold kind w = list_any (is_bad kind w.ended) w.oplocks ≡ false

  -- ---- an oplock of another handle breaks

  module _ (w : Volume) (o : Oplock) (other : is_of handle o ≡ false) where
    apart : (x : Oplock) → is_of handle x ≡ true → (x.handle == o.handle) ≡ false
    apart x here = (let same : x.handle ≡ handle = eqb-true x.handle handle here in rw same (eqb-swap handle o.handle ∙ other))

    changed-bad : (kind : Class) (change : Oplock → Oplock) (ended : List EndOf) (x : Oplock) → ((x : Oplock) → (change x).handle ≡ x.handle) → is_bad kind ended (changed change o.handle x) ≡ true → is_bad kind ended x ≡ true
    changed-bad kind change ended x keeps is = elim (cases_Bool (x.handle == o.handle)) [
      | inr differs ↦ rw differs at is
      | inl here ↦ (let same : x.handle ≡ o.handle = eqb-true x.handle o.handle here in
          let its : is_of handle (change x) ≡ true = and_left (is_of handle (change x)) (option_map_or (λ target. not (is_fixed kind ended target)) (change x).target true) (rw here at is) in
          let impossible : false ≡ true = sym other ∙ rw (keeps x, same) at its in cc)
    ]

    -- oplocks that are changed elsewhere
    still-good : (kind : Class) (change : Oplock → Oplock) → ((x : Oplock) → (change x).handle ≡ x.handle) → (ended : List EndOf) → AddsEnds w.ended ended → IsTold kind w → list_any (is_bad kind ended) (map (changed change o.handle) w.oplocks) ≡ false
    still-good kind change keeps ended adds told =
        any-map (is_bad kind ended) (changed change o.handle) w.oplocks
        ∙ none-stronger (is_bad kind w.ended) (λ x. is_bad kind ended (changed change o.handle x)) w.oplocks (λ x bad. bad-before kind w.ended ended adds x (changed-bad kind change ended x keeps bad)) told

    pub effect-told : (kind : Class) (done : Effect) → IsTold kind w → IsTold kind (with_effect w o done)
    effect-told kind Stays told = told
    effect-told kind Ends told =
        let adds = Keeps.ended (Keeps-effect w o Ends) in
        rw (told-oplocks (without_oplock w o.handle) o.call Nil false)
        (any-filter_none (is_bad kind (with_effect w o Ends).ended) (λ (x : Oplock). not (x.handle == o.handle)) w.oplocks
        (none-stronger (is_bad kind w.ended) (is_bad kind (with_effect w o Ends).ended) w.oplocks (λ x bad. bad-before kind w.ended (with_effect w o Ends).ended adds x bad) told))
    effect-told kind (Begins level) told =
        rw (told-oplocks (with_break_begun w o.handle level) o.call level true)
        (still-good kind (begun (w.last_break + 1) level) (λ x. refl) (with_effect w o (Begins level)).ended (Keeps.ended (Keeps-effect w o (Begins level))) told)
    effect-told kind (Lowers level) told = still-good kind (lowered level) (λ x. refl) (with_effect w o (Lowers level)).ended (Keeps.ended (Keeps-effect w o (Lowers level))) told

    -- the handle's own stays
    still-held : (change : Oplock → Oplock) → list_any (is_held_under handle turn) w.oplocks ≡ true → list_any (is_held_under handle turn) (map (changed change o.handle) w.oplocks) ≡ true
    still-held change held =
        any-map (is_held_under handle turn) (changed change o.handle) w.oplocks
        ∙ any-weaker (is_held_under handle turn) (λ x. is_held_under handle turn (changed change o.handle x)) w.oplocks
        (λ x is. (let differs = apart x (and_left (is_of handle x) (not (is_some x.target) && is_granted_under turn x) is) in rw differs is)) held

    effect-held : (done : Effect) → list_any (is_held_under handle turn) w.oplocks ≡ true → list_any (is_held_under handle turn) (with_effect w o done).oplocks ≡ true
    effect-held Stays held = held
    effect-held Ends held = rw (told-oplocks (without_oplock w o.handle) o.call Nil false)
        (any-filter (is_held_under handle turn) (λ (x : Oplock). not (x.handle == o.handle)) w.oplocks
        (λ x is. (let differs = apart x (and_left (is_of handle x) (not (is_some x.target) && is_granted_under turn x) is) in rw differs refl)) held)
    effect-held (Begins level) held = rw (told-oplocks (with_break_begun w o.handle level) o.call level true) (still-held (begun (w.last_break + 1) level) held)
    effect-held (Lowers level) held = still-held (lowered level) held

    -- and its call, where no other oplock is granted to that
    told-pends : (u : Volume) (call : Option ℕ) (level : Level) (ack : Bool) → option_map_or (λ call. call == turn) call false ≡ false → ((c n : ℕ) → how_many (is_call_of c n) u.pending ≤ 1)
        → list_any (λ (e : ℕ × Pending). e.0 == turn && is_call client number e.1) u.pending ≡ true → list_any (λ (e : ℕ × Pending). e.0 == turn && is_call client number e.1) (with_told u call level ack).pending ≡ true
    told-pends u None level ack apart calls pends = pends
    told-pends u (Some at) level ack apart calls pends = elim (option_cases (row_of u.pending at)) [
      | inl none ↦ rw none pends
      | inr row ↦ rw row.1 (ends-stay (λ (e : ℕ × Pending). e.0 == turn && is_call client number e.1) u row.0.call.client row.0.call.number (telling level ack)
          (none-stronger (λ e. is_call_of row.0.call.client row.0.call.number e && not (e.0 == at)) (λ e. (e.0 == turn && is_call client number e.1) && is_call_of row.0.call.client row.0.call.number e) u.pending
          (λ e both. (let under : e.0 ≡ turn = eqb-true e.0 turn (and_left (e.0 == turn) (is_call client number e.1) (and_left (e.0 == turn && is_call client number e.1) (is_call_of row.0.call.client row.0.call.number e) both)) in
          let elsewhere : (e.0 == at) ≡ false = rw under (eqb-swap turn at ∙ apart) in
          rw (and_right (e.0 == turn && is_call client number e.1) (is_call_of row.0.call.client row.0.call.number e) both, elsewhere) refl))
          (only-one (is_call_of row.0.call.client row.0.call.number) (λ e. e.0 == at) u.pending (calls row.0.call.client row.0.call.number)
          (some-how_many (λ e. is_call_of row.0.call.client row.0.call.number e && e.0 == at) u.pending (found-under u.pending at row.0 row.1)))) pends)
    ]

    pub effect-unbroken : (done : Effect) → is_granted_under turn o ≡ false → ((c n : ℕ) → how_many (is_call_of c n) w.pending ≤ 1) → IsUnbroken w → IsUnbroken (with_effect w o done)
    effect-unbroken done free calls so = record { held = effect-held done so.held; pends = by done }
      where
        by : (done : Effect) → list_any (λ (e : ℕ × Pending). e.0 == turn && is_call client number e.1) (with_effect w o done).pending ≡ true
        by Stays = so.pends
        by Ends = told-pends (without_oplock w o.handle) o.call Nil false free calls so.pends
        by (Begins level) = told-pends (with_break_begun w o.handle level) o.call level true free calls so.pends
        by (Lowers level) = so.pends

  -- ---- the handle's own breaks

  -- a break in progress goes on, of which the call was told, and of which the class leaves just that
  pub lowers-told : (kind : Class) (w : Volume) (o : Oplock) (target : Level) → is_of handle o ≡ true → is_fixed kind w.ended target ≡ true → IsTold kind w → IsTold kind (with_effect w o (Lowers (in_both target (keep kind))))
  lowers-told kind w o target here fixed told =
      any-map (is_bad kind w.ended) (changed (lowered (in_both target (keep kind))) o.handle) w.oplocks
      ∙ none-stronger (is_bad kind w.ended) (λ x. is_bad kind w.ended (changed (lowered (in_both target (keep kind))) o.handle x)) w.oplocks
      (λ x bad. elim (cases_Bool (x.handle == o.handle)) [
        | inr differs ↦ rw differs at bad
        | inl same ↦ (let impossible : false ≡ true = sym (and_none (is_of handle x) false refl) ∙ rw (same, still) at bad in cc)
      ]) told
    where
      still : is_fixed kind w.ended (in_both target (keep kind)) ≡ true
      still = subst (λ (level : Level). is_fixed kind w.ended level ≡ true) (sym (kept-same kind target (and_right (is_told_level client number target w.ended) (is_within target (keep kind)) fixed))) fixed

  -- it ends with the break, and none is left
  pub ends-told : (kind : Class) (w : Volume) (o : Oplock) → is_of handle o ≡ true → IsTold kind (with_effect w o Ends)
  ends-told kind w o here =
      rw (told-oplocks (without_oplock w o.handle) o.call Nil false)
      (any-filter_and (is_bad kind (with_effect w o Ends).ended) (λ (x : Oplock). not (x.handle == o.handle)) w.oplocks
      ∙ any-never (λ x. is_bad kind (with_effect w o Ends).ended x && not (x.handle == o.handle)) w.oplocks
      (λ x. elim (cases_Bool (x.handle == o.handle)) [
        | inl same ↦ rw same (and_none (is_bad kind (with_effect w o Ends).ended x) false refl)
        | inr differs ↦ (let isnt : is_of handle x ≡ false = rw (← eqb-true o.handle handle here) differs in rw isnt refl)
      ]))

  -- the call that is pending under the turn is told
  begins-tells : (u : Volume) (level : Level) → TurnsDiffer u → list_any (λ (e : ℕ × Pending). e.0 == turn && is_call client number e.1) u.pending ≡ true
      → is_told_level client number level (with_told u (Some turn) level true).ended ≡ true
  begins-tells u level turns pends = (let under = under-turn turn client number u turns pends in rw under.found (of_entry under.entry under.its))
    where
      of_entry : (e : ℕ × Pending) → is_call client number e.1 ≡ true → is_told_level client number level (with_end u e.1.call.client e.1.call.number (telling level true)).ended ≡ true
      of_entry e is =
          let all = how_many-append (λ (end : EndOf). is_end client number end && tells_level level end.reply) u.ended (record { client = e.1.call.client; number = e.1.call.number; reply = telling level true } ∷ []) in
          let one : how_many (λ (end : EndOf). is_end client number end && tells_level level end.reply) (record { client = e.1.call.client; number = e.1.call.number; reply = telling level true } ∷ []) ≡ 1 = rw (is, within-same level) refl in
          some-how_many (λ (end : EndOf). is_end client number end && tells_level level end.reply) (with_end u e.1.call.client e.1.call.number (telling level true)).ended (omega arith)

  -- a break of the class begins
  pub begins-told : (kind : Class) (w : Volume) (o : Oplock) (level : Level) → is_within level (keep kind) ≡ true → is_of handle o ≡ true → o.call ≡ Some turn → TurnsDiffer w → IsUnbroken w → IsTold kind (with_effect w o (Begins level))
  begins-told kind w o level within here call turns so =
      rw (told-oplocks (with_break_begun w o.handle level) o.call level true)
      (any-map (is_bad kind (with_effect w o (Begins level)).ended) (changed (begun (w.last_break + 1) level) o.handle) w.oplocks
      ∙ any-never (λ x. is_bad kind (with_effect w o (Begins level)).ended (changed (begun (w.last_break + 1) level) o.handle x)) w.oplocks
      (λ x. elim (cases_Bool (x.handle == o.handle)) [
        | inl same ↦ rw (same, tells, within) (and_none (x.handle == handle) false refl)
        | inr differs ↦ (let isnt : is_of handle x ≡ false = rw (← eqb-true o.handle handle here) differs in rw (differs, isnt) refl)
      ]))
    where
      tells : is_told_level client number level (with_effect w o (Begins level)).ended ≡ true
      tells = rw call (begins-tells (with_break_begun w o.handle level) level turns so.pends)
