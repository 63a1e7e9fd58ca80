-- What a grant of an oplock, a switch and an acknowledgement leave of what calls wait for, and of the oplocks.
use Rattle.std.proofs.Common.{◌≡◌, ℕ, ◌+◌, ◌≤◌, Bool, true, false, cond, not, List, [], ◌∷◌, ◌++◌, refl, ap, sym, ◌∙◌, arith, inl, inr, ◌⊎◌, Option, Some, None}
use Rattle.std.specs.List.{find, list_any}
use Rattle.std.specs.Option.{option_map_or}
use Rattle.std.specs.Prelude.{◌==◌, ◌&&◌, ◌||◌, fold, is_some, if◌then◌else◌}
use Rattle.std.proofs.lemmas.Bool.{cases_Bool, eq-eqb, eqb-true}
use Rattle.fsa_types.specs.Oplocks.{has_read, in_both}
use Rattle.fsa_types.specs.Rows.{row_of}
use Rattle.fsa_types.specs.declared.request.Level.{Level}
use Rattle.fsa_types.specs.declared.reply.Blocker.{Blocker}
use Rattle.fsa_types.specs.declared.reply.Blocker.TheVariants as blocker
use Rattle.fsa_types.specs.declared.status.Status.{Status}
use Rattle.fsa_types.specs.declared.status.Status.TheVariants.{InvalidHandle, InvalidParameter, OplockNotGranted, InvalidOplockProtocol, OplockSwitchedToNewHandle}
use Rattle.fsa_model.specs.Edits.{without_oplock}
use Rattle.fsa_model.specs.Grant.{target_of, is_oplock_on, is_of_key, is_breaking_on, is_not_granted, with_call_ended, with_switched, switched, with_all_switched, with_oplock, with_granted, with_level_kept, oplock_on, oplock_by, oplock_at, try_oplock, ack_keeping, ack_at, try_ack}
use Rattle.fsa_model.specs.Lookups.{handle_of, is_open_on}
use Rattle.fsa_model.specs.Once.{how_many, times, made, IsOnce}
use Rattle.fsa_model.specs.Outcome.{Outcome, Done, Stay, Hold, refused}
use Rattle.fsa_model.specs.Turn.{volume_after}
use Rattle.fsa_model.specs.Volume.{Handle, Oplock, Pending, Volume}
use Rattle.fsa_model.specs.Waiting.{blocker_lives, is_breaking, is_granted_under}
use Rattle.fsa_model.proofs.BreakLaws.{break_of}
use Rattle.fsa_model.proofs.CountLaws.{and_left, and_right, and_true, none-how_many, how_many-same, how_many-append, how_many-filter, how_many-filter_le, how_many-map, how_many-none, how_many-some, how_many-split, how_many-weaker, some-how_many}
use Rattle.fsa_model.proofs.KeepLaws.{KeepsAll, KeepsAll-old, KeepsAll-same, KeepsAll-next, KeepsAll-ends}
use Rattle.fsa_model.proofs.OnceLaws.{AddsEnds, AddsEnds-same}
use Rattle.fsa_model.proofs.RowLaws.{option_cases, any-filter, any-map, any-weaker, find-any}
use Rattle.fsa_model.proofs.TryLaws.{Watches, Watches-equal, SameNumbers, Keeps, KeepsNumbers, KeepsOnes, HasOneOplockEach-kept, is_given, same-handles, pending-found, swapped}
use Rattle.fsa_model.proofs.WaitLaws.{changed, find-passes, is_of, is_unbroken, unbroken, HasOneBreakEach, HasOneOplockEach, any-of_filter}

-- ---- what a call leaves that stays pending under this turn

-- as much as any try, but that one oplock more may be granted, to this turn alone
pub record StaysUnder (v : Volume) (turn : ℕ) (w : Volume) : Type 0 where
  pub oplocks : HasOneOplockEach w
  pub granted : (other : ℕ) → how_many (is_granted_under other) w.oplocks ≤ how_many (is_granted_under other) v.oplocks + cond (turn == other) 1 0
  pub pending : (test : ℕ × Pending → Bool) → how_many test w.pending ≤ how_many test v.pending
  pub times : IsOnce v → (client number : ℕ) → times client number w ≡ times client number v
  pub made : IsOnce v → made w ≡ made v
  pub ended : AddsEnds v.ended w.ended
  pub new : (b : Blocker) → blocker_lives w b ≡ true → (blocker_lives v b ≡ true) ⊎ ((is_given v b ≡ false) × (is_given w b ≡ true))
  pub given : (b : Blocker) → is_given v b ≡ true → is_given w b ≡ true
  -- one break more may begin later
  pub breaks : w.last_break + unbroken w ≤ v.last_break + unbroken v + 1
  pub ones : KeepsOnes v w
  pub same : SameNumbers v w
  pub seen : Watches v w

pub StaysUnder-kept : (v w : Volume) (turn : ℕ) → HasOneOplockEach v → KeepsAll v w → StaysUnder v turn w
StaysUnder-kept v w turn one kept = record {
  oplocks = HasOneOplockEach-kept v w kept.kept.keeps one;
  granted = λ other. (let fewer = kept.kept.keeps.granted other in omega arith);
  pending = kept.kept.keeps.pending;
  times = kept.kept.keeps.times;
  made = kept.kept.keeps.made;
  ended = kept.kept.keeps.ended;
  new = kept.kept.new;
  given = kept.kept.given;
  breaks = (let fewer = kept.kept.breaks in omega arith);
  ones = kept.kept.ones;
  same = kept.same;
  seen = kept.kept.keeps.seen;
}

-- ---- a switch

pub KeepsAll-call_ended : (v : Volume) (turn : Option ℕ) (status : Status) → KeepsAll v (with_call_ended v turn status)
KeepsAll-call_ended v None status = KeepsAll-same v
KeepsAll-call_ended v (Some turn) status = elim (option_cases (row_of v.pending turn)) [
  | inl none ↦ rw none (KeepsAll-same v)
  | inr some ↦ rw some.1 (KeepsAll-ends v some.0.call.client some.0.call.number _ (pending-found v.pending turn some.0 some.1))
]

pub oplocks-call_ended : (v : Volume) (turn : Option ℕ) (status : Status) → (with_call_ended v turn status).oplocks ≡ v.oplocks
oplocks-call_ended v None status = refl
oplocks-call_ended v (Some turn) status = elim (option_cases (row_of v.pending turn)) [ inl none ↦ rw none refl | inr some ↦ rw some.1 refl ]

locks-call_ended : (v : Volume) (turn : Option ℕ) (status : Status) → (with_call_ended v turn status).locks ≡ v.locks
locks-call_ended v None status = refl
locks-call_ended v (Some turn) status = elim (option_cases (row_of v.pending turn)) [ inl none ↦ rw none refl | inr some ↦ rw some.1 refl ]

last-call_ended : (v : Volume) (turn : Option ℕ) (status : Status) → (with_call_ended v turn status).last_break ≡ v.last_break
last-call_ended v None status = refl
last-call_ended v (Some turn) status = elim (option_cases (row_of v.pending turn)) [ inl none ↦ rw none refl | inr some ↦ rw some.1 refl ]

-- an oplock ends
pub KeepsAll-without_oplock : (v : Volume) (handle : ℕ) → KeepsAll v (without_oplock v handle)
KeepsAll-without_oplock v handle =
    KeepsAll-old v (without_oplock v handle) (record { files = refl; links = refl; streams = refl; handles = refl; locks = refl }) (record {
      granted = λ other. how_many-filter_le (is_granted_under other) (λ (o : Oplock). not (o.handle == handle)) v.oplocks;
      oplocks = λ other. how_many-filter_le (is_of other) (λ (o : Oplock). not (o.handle == handle)) v.oplocks;
      pending = λ test. omega arith;
      times = λ once client number. refl;
      made = λ once. refl;
      ended = AddsEnds-same v.ended;
      seen = Watches-equal refl refl;
    })
    (λ b lives. old b lives) (λ b is. is) (let fewer = how_many-filter_le is_unbroken (λ (o : Oplock). not (o.handle == handle)) v.oplocks in omega arith)
    (λ number. how_many-filter_le (is_breaking number) (λ (o : Oplock). not (o.handle == handle)) v.oplocks)
  where
    old : (b : Blocker) → blocker_lives (without_oplock v handle) b ≡ true → blocker_lives v b ≡ true
    old (blocker.Break number) is = any-of_filter (is_breaking number) (λ (o : Oplock). not (o.handle == handle)) v.oplocks is
    old (blocker.Lock number) is = is

pub KeepsAll-switched : (v : Volume) (oplock : Oplock) → KeepsAll v (with_switched v oplock)
KeepsAll-switched v oplock = KeepsAll-next (KeepsAll-without_oplock v oplock.handle) (KeepsAll-call_ended (without_oplock v oplock.handle) oplock.call OplockSwitchedToNewHandle)

abbrev pub all_switched : Volume → List Oplock → Volume
all_switched v oplocks = fold with_switched v oplocks

pub KeepsAll-all_switched : (oplocks : List Oplock) (v : Volume) → KeepsAll v (all_switched v oplocks)
KeepsAll-all_switched [] v = KeepsAll-same v
KeepsAll-all_switched (o ∷ oplocks) v = KeepsAll-next (KeepsAll-switched v o) (KeepsAll-all_switched oplocks (with_switched v o))

neither : {X : Type 0} (p : X → Bool) (xs : List X) → how_many (λ x. not (p x) && p x) xs ≡ 0
neither p [] = refl
neither p (x ∷ xs) =
    let rest = neither p xs in
    elim (cases_Bool (p x)) [ inl passes ↦ rw passes (omega arith) | inr fails ↦ rw fails (omega arith) ]

-- no oplock of its handle is left
gone-one : (handle : ℕ) (v : Volume) (o : Oplock) → (o.handle == handle) ≡ true → how_many (is_of handle) (with_switched v o).oplocks ≡ 0
gone-one handle v o here =
    let same : o.handle ≡ handle = eqb-true o.handle handle here in
    let left = ap (λ (oplocks : List Oplock). how_many (is_of handle) oplocks) (oplocks-call_ended (without_oplock v o.handle) o.call OplockSwitchedToNewHandle) in
    left ∙ how_many-filter (is_of handle) (λ (x : Oplock). not (x.handle == o.handle)) v.oplocks ∙ rw same (neither (is_of handle) v.oplocks)

gone-switched : (handle : ℕ) (oplocks : List Oplock) (v : Volume) → list_any (is_of handle) oplocks ≡ true → how_many (is_of handle) (all_switched v oplocks).oplocks ≡ 0
gone-switched handle [] v some = cc
gone-switched handle (o ∷ oplocks) v some = elim (cases_Bool (o.handle == handle)) [
  | inl here ↦ (let fewer = Keeps.oplocks (KeepsNumbers.keeps (KeepsAll.kept (KeepsAll-all_switched oplocks (with_switched v o)))) handle in
      let none = gone-one handle v o here in omega arith)
  | inr other ↦ gone-switched handle oplocks (with_switched v o) (rw other at some)
]

-- the handle is on this stream
abbrev pub is_handle_on : Volume → ℕ → ℕ → Bool
is_handle_on v stream handle = option_map_or (is_open_on stream) (row_of v.handles handle) false

-- the handle that is granted an oplock has none before
none-left : (v : Volume) (handle key stream : ℕ) → is_handle_on v stream handle ≡ true → how_many (is_of handle) (with_all_switched v handle key stream).oplocks ≡ 0
none-left v handle key stream on =
    let own = how_many-filter (is_of handle) (λ (o : Oplock). is_oplock_on v stream o && is_of_key handle key o) v.oplocks in
    let all = how_many-weaker (is_of handle) (λ (o : Oplock). (is_oplock_on v stream o && is_of_key handle key o) && is_of handle o) v.oplocks (λ o is.
    (let same : o.handle ≡ handle = eqb-true o.handle handle is in its o same is)) in
    let fewer = Keeps.oplocks (KeepsNumbers.keeps (KeepsAll.kept (KeepsAll-all_switched (switched v handle key stream) v))) handle in
    elim (cases_Bool (list_any (is_of handle) (switched v handle key stream))) [
      | inl some ↦ gone-switched handle (switched v handle key stream) v some
      | inr none ↦ (let zero_there = how_many-none (is_of handle) (switched v handle key stream) none in omega arith)
    ]
  where
    its : (o : Oplock) → o.handle ≡ handle → (o.handle == handle) ≡ true → ((is_oplock_on v stream o && is_of_key handle key o) && is_of handle o) ≡ true
    its o same is = rw (same, on, eq-eqb handle handle refl) refl

-- a switch ends no break where none is in progress on the stream
lives-switched : (q : Oplock → Bool) (oplocks : List Oplock) (v : Volume) → ((o x : Oplock) → list_any (λ y. y.handle == o.handle) oplocks ≡ true → q x ≡ true → (x.handle == o.handle) ≡ false)
    → list_any q v.oplocks ≡ true → list_any q (all_switched v oplocks).oplocks ≡ true
lives-switched q [] v apart some = some
lives-switched q (o ∷ oplocks) v apart some =
    lives-switched q oplocks (with_switched v o) (λ other x there passes. apart other x (or_true (o.handle == other.handle) _ there) passes)
    (rw (oplocks-call_ended (without_oplock v o.handle) o.call OplockSwitchedToNewHandle)
    (any-filter q (λ (x : Oplock). not (x.handle == o.handle)) v.oplocks (λ x passes. (let differs : (x.handle == o.handle) ≡ false = apart o x (rw (eq-eqb o.handle o.handle refl) refl) passes in rw differs refl)) some))
  where
    or_true : (a b : Bool) → b ≡ true → (a || b) ≡ true
    or_true true b is = refl
    or_true false b is = is

-- nor does one come to live
old-call_ended : (v w : Volume) (turn : Option ℕ) (status : Status) (b : Blocker) → (blocker_lives v b ≡ true → blocker_lives w b ≡ true) → blocker_lives (with_call_ended v turn status) b ≡ true → blocker_lives w b ≡ true
old-call_ended v w turn status (blocker.Break number) old is = old (rw (oplocks-call_ended v turn status) at is)
old-call_ended v w turn status (blocker.Lock number) old is = old (rw (locks-call_ended v turn status) at is)

old-without_oplock : (v : Volume) (handle : ℕ) (b : Blocker) → blocker_lives (without_oplock v handle) b ≡ true → blocker_lives v b ≡ true
old-without_oplock v handle (blocker.Break number) is = any-of_filter (is_breaking number) (λ (o : Oplock). not (o.handle == handle)) v.oplocks is
old-without_oplock v handle (blocker.Lock number) is = is

pub old-switched : (oplocks : List Oplock) (v : Volume) (b : Blocker) → blocker_lives (all_switched v oplocks) b ≡ true → blocker_lives v b ≡ true
old-switched [] v b lives = lives
old-switched (o ∷ oplocks) v b lives =
    old-call_ended (without_oplock v o.handle) v o.call OplockSwitchedToNewHandle b (λ is. old-without_oplock v o.handle b is) (old-switched oplocks (with_switched v o) b lives)

locks-switched : (oplocks : List Oplock) (v : Volume) → (all_switched v oplocks).locks ≡ v.locks
locks-switched [] v = refl
locks-switched (o ∷ oplocks) v = locks-switched oplocks (with_switched v o) ∙ locks-call_ended (without_oplock v o.handle) o.call OplockSwitchedToNewHandle

-- the handle of an oplock that is switched is on the stream
switched-on : (v : Volume) (handle key stream other : ℕ) → list_any (is_of other) (switched v handle key stream) ≡ true → is_handle_on v stream other ≡ true
switched-on v handle key stream other there = elim (cases_Bool (is_handle_on v stream other)) [
  | inl is ↦ is
  | inr isnt ↦ (let many = how_many-some (is_of other) (switched v handle key stream) there in
      let kept = how_many-filter (is_of other) (λ (o : Oplock). is_oplock_on v stream o && is_of_key handle key o) v.oplocks in
      let none = neither (is_of other) v.oplocks in
      let weaker = how_many-weaker (λ (o : Oplock). (is_oplock_on v stream o && is_of_key handle key o) && is_of other o) (λ o. not (is_of other o) && is_of other o) v.oplocks (λ o passes. absurd (never o isnt passes)) in
      absurd (omega arith))
]
  where
    never : (o : Oplock) → is_handle_on v stream other ≡ false → ((is_oplock_on v stream o && is_of_key handle key o) && is_of other o) ≡ true → ⊥
    never o isnt passes =
        let here : is_of other o ≡ true = and_right (is_oplock_on v stream o && is_of_key handle key o) (is_of other o) passes in
        let same : o.handle ≡ other = eqb-true o.handle other here in
        let on : is_oplock_on v stream o ≡ true = and_left (is_oplock_on v stream o) (is_of_key handle key o) (and_left (is_oplock_on v stream o && is_of_key handle key o) (is_of other o) passes) in
        let impossible : false ≡ true = rw (same, isnt) at on in
        cc

-- a switch ends no blocker, where no break is in progress on the stream
pub lives-all_switched : (v : Volume) (handle key stream : ℕ) (b : Blocker) → is_breaking_on v stream ≡ false → blocker_lives v b ≡ true → blocker_lives (with_all_switched v handle key stream) b ≡ true
lives-all_switched v handle key stream (blocker.Lock number) none lives = rw (locks-switched (switched v handle key stream) v) lives
lives-all_switched v handle key stream (blocker.Break number) none lives =
    any-weaker elsewhere (is_breaking number) (with_all_switched v handle key stream).oplocks (λ x both. and_left (is_breaking number x) _ both)
    (lives-switched elsewhere (switched v handle key stream) v (λ o x there passes. apart o x there passes (cases_Bool (x.handle == o.handle)))
    (some-how_many elsewhere v.oplocks (let many = how_many-some (is_breaking number) v.oplocks lives in
    let split = how_many-split (is_breaking number) (is_oplock_on v stream) v.oplocks in
    let weaker = how_many-weaker (λ o. is_breaking number o && is_oplock_on v stream o) (λ o. is_oplock_on v stream o && is_some o.target) v.oplocks (λ o both. turned (is_some o.target) (o.number == number) (is_oplock_on v stream o) both) in
    let zero_there = how_many-none (λ o. is_oplock_on v stream o && is_some o.target) v.oplocks none in omega arith)))
  where
    elsewhere : Oplock → Bool
    elsewhere x = is_breaking number x && not (is_oplock_on v stream x)

    turned : (a b c : Bool) → ((a && b) && c) ≡ true → (c && a) ≡ true
    turned true true true is = refl
    turned true true false is = is
    turned true false c is = cc
    turned false b c is = cc

    apart : (o x : Oplock) → list_any (λ y. y.handle == o.handle) (switched v handle key stream) ≡ true → elsewhere x ≡ true → ((x.handle == o.handle) ≡ true) ⊎ ((x.handle == o.handle) ≡ false) → (x.handle == o.handle) ≡ false
    apart o x there passes (inr differs) = differs
    apart o x there passes (inl is) =
        let same : x.handle ≡ o.handle = eqb-true x.handle o.handle is in
        let on : is_handle_on v stream o.handle ≡ true = switched-on v handle key stream o.handle there in
        let off : not (is_oplock_on v stream x) ≡ true = and_right (is_breaking number x) (not (is_oplock_on v stream x)) passes in
        let impossible : false ≡ true = rw (same, on) at off in
        cc

-- ---- a grant

abbrev pub granted_oplock : ℕ → ℕ → Level → ℕ → Oplock
granted_oplock handle key level turn = record { handle = handle; key = key; level = level; target = None; number = 0; call = Some turn }

any-append : {X : Type 0} (p : X → Bool) (xs : List X) (x : X) → p x ≡ false → list_any p (xs ++ x ∷ []) ≡ true → list_any p xs ≡ true
any-append p xs x fails some =
    let more = how_many-append p xs (x ∷ []) in
    let many = how_many-some p (xs ++ x ∷ []) some in
    let here : how_many p (xs ++ x ∷ []) ≡ how_many p xs + (0 + 0) = rw fails at more in
    some-how_many p xs (omega arith)

any-before : {X : Type 0} (p : X → Bool) (xs ys : List X) → list_any p xs ≡ true → list_any p (xs ++ ys) ≡ true
any-before p xs ys some = (let many = how_many-some p xs some in let more = how_many-append p xs ys in some-how_many p (xs ++ ys) (omega arith))

-- one oplock more, of a handle that has none
pub StaysUnder-oplock : (v w : Volume) (handle key : ℕ) (level : Level) (turn : ℕ) → HasOneOplockEach v → KeepsAll v w → ((b : Blocker) → blocker_lives w b ≡ true → blocker_lives v b ≡ true) → how_many (is_of handle) w.oplocks ≡ 0
    → StaysUnder v turn (with_oplock w handle key level turn)
StaysUnder-oplock v w handle key level turn one keeps keeps_old none = record {
  oplocks = λ other. oplocks other;
  granted = λ other. (let more = how_many-append (is_granted_under other) w.oplocks (granted_oplock handle key level turn ∷ []) in let fewer = keeps.kept.keeps.granted other in omega arith);
  pending = keeps.kept.keeps.pending;
  times = keeps.kept.keeps.times;
  made = keeps.kept.keeps.made;
  ended = keeps.kept.keeps.ended;
  new = λ b lives. inl (old b lives);
  given = keeps.kept.given;
  ones = λ own all_given each number. (let few : how_many (is_breaking number) w.oplocks ≤ 1 = keeps.kept.ones own all_given each number in let more = how_many-append (is_breaking number) w.oplocks (granted_oplock handle key level turn ∷ []) in omega arith);
  breaks = (let more = how_many-append is_unbroken w.oplocks (granted_oplock handle key level turn ∷ []) in let fewer = keeps.kept.breaks in omega arith);
  same = record { files = keeps.same.files; links = keeps.same.links; streams = keeps.same.streams; handles = keeps.same.handles; locks = keeps.same.locks };
  seen = record { more = keeps.kept.keeps.seen.more; changes = keeps.kept.keeps.seen.changes; watches = keeps.kept.keeps.seen.watches };
}
  where
    oplocks : HasOneOplockEach (with_oplock w handle key level turn)
    oplocks other =
        let more = how_many-append (is_of other) w.oplocks (granted_oplock handle key level turn ∷ []) in
        let few : how_many (is_of other) v.oplocks ≤ 1 = one other in
        let fewer = keeps.kept.keeps.oplocks other in
        elim (cases_Bool (handle == other)) [
          | inr differs ↦ (let here : how_many (is_of other) (w.oplocks ++ granted_oplock handle key level turn ∷ []) ≡ how_many (is_of other) w.oplocks + (0 + 0) = rw differs at more in omega arith)
          | inl is ↦ (let same : handle ≡ other = eqb-true handle other is in
              let here : how_many (is_of other) (w.oplocks ++ granted_oplock handle key level turn ∷ []) ≡ how_many (is_of other) w.oplocks + (1 + 0) = rw is at more in
              let gone : how_many (is_of other) w.oplocks ≡ 0 = rw same at none in omega arith)
        ]

    before : (b : Blocker) → blocker_lives w b ≡ true → blocker_lives v b ≡ true
    before b lives = keeps_old b lives

    old : (b : Blocker) → blocker_lives (with_oplock w handle key level turn) b ≡ true → blocker_lives v b ≡ true
    old (blocker.Break number) lives = before (blocker.Break number) (any-append (is_breaking number) w.oplocks (granted_oplock handle key level turn) refl lives)
    old (blocker.Lock number) lives = before (blocker.Lock number) lives

pub StaysUnder-granted : (v : Volume) (handle key stream : ℕ) (level : Level) (turn : ℕ) → HasOneOplockEach v → is_handle_on v stream handle ≡ true → StaysUnder v turn (with_granted v handle key stream level turn)
StaysUnder-granted v handle key stream level turn one on =
    StaysUnder-oplock v (with_all_switched v handle key stream) handle key level turn one (KeepsAll-all_switched (switched v handle key stream) v)
    (λ b lives. old-switched (switched v handle key stream) v b lives) (none-left v handle key stream on)

-- a grant ends no blocker
pub lives-granted : (v : Volume) (handle key stream : ℕ) (level : Level) (turn : ℕ) (b : Blocker) → is_breaking_on v stream ≡ false → blocker_lives v b ≡ true → blocker_lives (with_granted v handle key stream level turn) b ≡ true
lives-granted v handle key stream level turn (blocker.Lock number) none lives = lives-all_switched v handle key stream (blocker.Lock number) none lives
lives-granted v handle key stream level turn (blocker.Break number) none lives =
    any-before (is_breaking number) (with_all_switched v handle key stream).oplocks (granted_oplock handle key level turn ∷ []) (lives-all_switched v handle key stream (blocker.Break number) none lives)

-- exactly one oplock is then granted under its turn
granted-one : (v : Volume) (handle key stream : ℕ) (level : Level) (turn : ℕ) → how_many (is_granted_under turn) v.oplocks ≡ 0 → how_many (is_granted_under turn) (with_granted v handle key stream level turn).oplocks ≡ 1
granted-one v handle key stream level turn none =
    let more = how_many-append (is_granted_under turn) (with_all_switched v handle key stream).oplocks (granted_oplock handle key level turn ∷ []) in
    let fewer = Keeps.granted (KeepsNumbers.keeps (KeepsAll.kept (KeepsAll-all_switched (switched v handle key stream) v))) turn in
    let here : how_many (is_granted_under turn) ((with_all_switched v handle key stream).oplocks ++ granted_oplock handle key level turn ∷ []) ≡ how_many (is_granted_under turn) (with_all_switched v handle key stream).oplocks + (1 + 0) = rw (eq-eqb turn turn refl) at more in
    omega arith

-- ---- an acknowledgement

abbrev pub acknowledged_oplock : Level → ℕ → Oplock → Oplock
acknowledged_oplock level turn oplock = record oplock { level = level; target = None; number = 0; call = Some turn }

-- of the breaks all but those on the handle are in progress
abbrev pub breaks_elsewhere : ℕ → ℕ → Oplock → Bool
breaks_elsewhere handle number oplock = is_breaking number oplock && not (is_of handle oplock)

kept-elsewhere : (v : Volume) (handle : ℕ) (level : Level) (turn number : ℕ) → how_many (is_breaking number) (with_level_kept v handle level turn).oplocks ≡ how_many (breaks_elsewhere handle number) v.oplocks
kept-elsewhere v handle level turn number =
    how_many-map (is_breaking number) (changed (acknowledged_oplock level turn) handle) v.oplocks
    ∙ how_many-same (λ o. is_breaking number (changed (acknowledged_oplock level turn) handle o)) (breaks_elsewhere handle number) v.oplocks
    (λ o. elim (cases_Bool (o.handle == handle)) [ inl here ↦ rw here (never (is_breaking number o)) | inr other ↦ rw other (always (is_breaking number o)) ])
  where
    never : (b : Bool) → false ≡ (b && false)
    never true = refl
    never false = refl

    always : (b : Bool) → b ≡ (b && true)
    always true = refl
    always false = refl

pub StaysUnder-level_kept : (v : Volume) (handle : ℕ) (level : Level) (turn : ℕ) → HasOneOplockEach v → StaysUnder v turn (with_level_kept v handle level turn)
StaysUnder-level_kept v handle level turn one = record {
  oplocks = λ other. (let few : how_many (is_of other) v.oplocks ≤ 1 = one other in let same = same-handles (acknowledged_oplock level turn) handle other v.oplocks (λ o. refl) in omega arith);
  granted = λ other. granted other;
  pending = λ test. omega arith;
  times = λ once client number. refl;
  made = λ once. refl;
  ended = AddsEnds-same v.ended;
  new = λ b lives. inl (old b lives);
  given = λ b is. is;
  ones = λ own all_given each number. (let few : how_many (is_breaking number) v.oplocks ≤ 1 = each number in let left = kept-elsewhere v handle level turn number in
      let weaker = how_many-weaker (breaks_elsewhere handle number) (is_breaking number) v.oplocks (λ o both. and_left (is_breaking number o) (not (is_of handle o)) both) in omega arith);
  breaks = (let mapped = how_many-map is_unbroken (changed (acknowledged_oplock level turn) handle) v.oplocks in
      let split = how_many-split (λ o. is_unbroken (changed (acknowledged_oplock level turn) handle o)) (is_of handle) v.oplocks in
      let own = how_many-weaker (λ o. is_unbroken (changed (acknowledged_oplock level turn) handle o) && is_of handle o) (is_of handle) v.oplocks (λ o both. and_right (is_unbroken (changed (acknowledged_oplock level turn) handle o)) (is_of handle o) both) in
      let few : how_many (is_of handle) v.oplocks ≤ 1 = one handle in
      let others = how_many-weaker (λ o. is_unbroken (changed (acknowledged_oplock level turn) handle o) && not (is_of handle o)) is_unbroken v.oplocks (λ o both. elim (cases_Bool (o.handle == handle)) [
        | inl here ↦ (let impossible : false ≡ true = rw here at both in cc)
        | inr other ↦ and_left (is_unbroken o) true (rw other at both)
      ]) in
      omega arith);
  same = record { files = refl; links = refl; streams = refl; handles = refl; locks = refl };
  seen = Watches-equal refl refl;
}
  where
    old : (b : Blocker) → blocker_lives (with_level_kept v handle level turn) b ≡ true → blocker_lives v b ≡ true
    old (blocker.Lock number) lives = lives
    old (blocker.Break number) lives =
        any-weaker (λ o. is_breaking number (changed (acknowledged_oplock level turn) handle o)) (is_breaking number) v.oplocks
        (λ o is. elim (cases_Bool (o.handle == handle)) [ inl here ↦ (let impossible : false ≡ true = rw here at is in cc) | inr other ↦ rw other at is ])
        (sym (any-map (is_breaking number) (changed (acknowledged_oplock level turn) handle) v.oplocks) ∙ lives)

    granted : (other : ℕ) → how_many (is_granted_under other) (with_level_kept v handle level turn).oplocks ≤ how_many (is_granted_under other) v.oplocks + cond (turn == other) 1 0
    granted other =
        let mapped = how_many-map (is_granted_under other) (changed (acknowledged_oplock level turn) handle) v.oplocks in
        elim (cases_Bool (turn == other)) [
          | inr differs ↦ (let weaker = how_many-weaker (λ o. is_granted_under other (changed (acknowledged_oplock level turn) handle o)) (is_granted_under other) v.oplocks
              (λ o is. elim (cases_Bool (o.handle == handle)) [ inl here ↦ (let impossible : (turn == other) ≡ true = rw here at is in cc) | inr elsewhere ↦ rw elsewhere at is ]) in omega arith)
          | inl same ↦ (let split = how_many-split (λ o. is_granted_under other (changed (acknowledged_oplock level turn) handle o)) (is_of handle) v.oplocks in
              let own = how_many-weaker (λ o. is_granted_under other (changed (acknowledged_oplock level turn) handle o) && is_of handle o) (is_of handle) v.oplocks (λ o both. and_right (is_granted_under other (changed (acknowledged_oplock level turn) handle o)) (is_of handle o) both) in
              let few : how_many (is_of handle) v.oplocks ≤ 1 = one handle in
              let others = how_many-weaker (λ o. is_granted_under other (changed (acknowledged_oplock level turn) handle o) && not (is_of handle o)) (is_granted_under other) v.oplocks (λ o both. elim (cases_Bool (o.handle == handle)) [
                | inl here ↦ (let passes : not (is_of handle o) ≡ true = and_right (is_granted_under other (changed (acknowledged_oplock level turn) handle o)) (not (is_of handle o)) both in let impossible : false ≡ true = rw here at passes in cc)
                | inr elsewhere ↦ and_left (is_granted_under other o) true (rw elsewhere at both)
              ]) in
              rw same (omega arith))
        ]

-- a handle that has a target has an oplock
has-oplock : (v : Volume) (handle : ℕ) (target : Level) → target_of v handle ≡ Some target → list_any (is_of handle) v.oplocks ≡ true
has-oplock v handle target is = elim (option_cases (find (λ o. o.handle == handle) v.oplocks)) [
  | inl none ↦ (let impossible : None ≡ Some target = rw none at is in cc)
  | inr some ↦ find-any (is_of handle) (is_of handle) v.oplocks some.0 some.1 (find-passes (is_of handle) v.oplocks some.0 some.1)
]

kept-one : (v : Volume) (handle : ℕ) (level : Level) (turn : ℕ) → HasOneOplockEach v → list_any (is_of handle) v.oplocks ≡ true → how_many (is_granted_under turn) v.oplocks ≡ 0
    → how_many (is_granted_under turn) (with_level_kept v handle level turn).oplocks ≡ 1
kept-one v handle level turn one there none =
    let stays : StaysUnder v turn (with_level_kept v handle level turn) = StaysUnder-level_kept v handle level turn one in
    let up : how_many (is_granted_under turn) (with_level_kept v handle level turn).oplocks ≤ how_many (is_granted_under turn) v.oplocks + cond (turn == turn) 1 0 = stays.granted turn in
    let most : how_many (is_granted_under turn) (with_level_kept v handle level turn).oplocks ≤ how_many (is_granted_under turn) v.oplocks + 1 = rw (eq-eqb turn turn refl) at up in
    let some : list_any (is_granted_under turn) (with_level_kept v handle level turn).oplocks ≡ true = any-map (is_granted_under turn) (changed (acknowledged_oplock level turn) handle) v.oplocks
    ∙ any-weaker (is_of handle) (λ o. is_granted_under turn (changed (acknowledged_oplock level turn) handle o)) v.oplocks (λ o here. rw (here, eq-eqb turn turn refl) refl) there in
    let many = how_many-some (is_granted_under turn) (with_level_kept v handle level turn).oplocks some in
    omega arith

gone-elsewhere : (v : Volume) (handle number : ℕ) → how_many (is_breaking number) (without_oplock v handle).oplocks ≡ how_many (breaks_elsewhere handle number) v.oplocks
gone-elsewhere v handle number =
    how_many-filter (is_breaking number) (λ (o : Oplock). not (o.handle == handle)) v.oplocks
    ∙ how_many-same (λ (o : Oplock). not (o.handle == handle) && is_breaking number o) (breaks_elsewhere handle number) v.oplocks (λ o. swapped (not (o.handle == handle)) (is_breaking number o))

-- the handle's break ends, and every other blocker lives on
pub record EndsBreak (v : Volume) (handle : ℕ) (w : Volume) : Type 0 where
  pub lived : blocker_lives v (blocker.Break (break_of v handle)) ≡ true
  pub gone : HasOneBreakEach v → blocker_lives w (blocker.Break (break_of v handle)) ≡ false
  pub others : (b : Blocker) → blocker_lives v b ≡ true → (b ≡ blocker.Break (break_of v handle)) ⊎ (blocker_lives w b ≡ true)

EndsBreak-elsewhere : (v w : Volume) (handle : ℕ) (target : Level) → HasOneOplockEach v → target_of v handle ≡ Some target → w.locks ≡ v.locks
    → ((number : ℕ) → how_many (is_breaking number) w.oplocks ≡ how_many (breaks_elsewhere handle number) v.oplocks) → EndsBreak v handle w
EndsBreak-elsewhere v w handle target one is locks elsewhere = elim (option_cases (find (λ o. o.handle == handle) v.oplocks)) [
  | inl none ↦ (let impossible : None ≡ Some target = rw none at is in cc)
  | inr some ↦ go some.0 some.1 (rw some.1 at is)
]
  where
    go : (o : Oplock) → find (λ o. o.handle == handle) v.oplocks ≡ Some o → o.target ≡ Some target → EndsBreak v handle w
    go o found has = record { lived = rw found lived; gone = λ ones. rw found (gone ones); others = λ b lives. others b lives }
      where
        its : is_of handle o ≡ true
        its = find-passes (is_of handle) v.oplocks o found

        breaks : is_breaking o.number o ≡ true
        breaks = rw (has, eq-eqb o.number o.number refl) refl

        lived : list_any (is_breaking o.number) v.oplocks ≡ true
        lived = find-any (is_of handle) (is_breaking o.number) v.oplocks o found breaks

        own : 1 ≤ how_many (λ x. is_breaking o.number x && is_of handle x) v.oplocks
        own = how_many-some (λ x. is_breaking o.number x && is_of handle x) v.oplocks (find-any (is_of handle) (λ x. is_breaking o.number x && is_of handle x) v.oplocks o found (and_true (is_breaking o.number o) (is_of handle o) breaks its))

        gone : HasOneBreakEach v → list_any (is_breaking o.number) w.oplocks ≡ false
        gone ones =
            let few : how_many (is_breaking o.number) v.oplocks ≤ 1 = ones o.number in
            let split = how_many-split (is_breaking o.number) (is_of handle) v.oplocks in
            let many = own in
            let left = elsewhere o.number in
            none-how_many (is_breaking o.number) w.oplocks (omega arith)

        -- where its break is of this number, this is its break
        number_of_own : (number : ℕ) → 1 ≤ how_many (λ x. is_breaking number x && is_of handle x) v.oplocks → number ≡ o.number
        number_of_own number many = elim (cases_Bool (is_breaking number o)) [
          | inl same ↦ (let equal : o.number ≡ number = eqb-true o.number number (and_right (is_some o.target) (o.number == number) same) in sym equal)
          | inr differs ↦ (let there = how_many-some (λ x. is_of handle x && not (is_breaking number x)) v.oplocks (find-any (is_of handle) (λ x. is_of handle x && not (is_breaking number x)) v.oplocks o found (rw (its, differs) refl)) in
              let split = how_many-split (is_of handle) (is_breaking number) v.oplocks in
              let turned = how_many-same (λ x. is_breaking number x && is_of handle x) (λ x. is_of handle x && is_breaking number x) v.oplocks (λ x. swapped (is_breaking number x) (is_of handle x)) in
              let few : how_many (is_of handle) v.oplocks ≤ 1 = one handle in
              absurd (omega arith))
        ]

        others : (b : Blocker) → blocker_lives v b ≡ true → (b ≡ blocker.Break (break_of v handle)) ⊎ (blocker_lives w b ≡ true)
        others (blocker.Lock number) lives = inr (rw locks lives)
        others (blocker.Break number) lives = elim (cases_Bool (list_any (is_breaking number) w.oplocks)) [
          | inl still ↦ inr still
          | inr ended ↦ (let none = how_many-none (is_breaking number) w.oplocks ended in
              let left = elsewhere number in
              let many = how_many-some (is_breaking number) v.oplocks lives in
              let split = how_many-split (is_breaking number) (is_of handle) v.oplocks in
              let same : number ≡ o.number = number_of_own number (omega arith) in
              inl (rw found (ap (λ (n : ℕ). blocker.Break n) same)))
        ]

-- an answer that keeps a level ends one break, its handle's, and so does one that keeps none
pub EndsBreak-level_kept : (v : Volume) (handle : ℕ) (level target : Level) (turn : ℕ) → HasOneOplockEach v → target_of v handle ≡ Some target → EndsBreak v handle (with_level_kept v handle level turn)
EndsBreak-level_kept v handle level target turn one is = EndsBreak-elsewhere v (with_level_kept v handle level turn) handle target one is refl (λ number. kept-elsewhere v handle level turn number)

pub EndsBreak-without_oplock : (v : Volume) (handle : ℕ) (target : Level) → HasOneOplockEach v → target_of v handle ≡ Some target → EndsBreak v handle (without_oplock v handle)
EndsBreak-without_oplock v handle target one is = EndsBreak-elsewhere v (without_oplock v handle) handle target one is refl (λ number. gone-elsewhere v handle number)

-- ---- how such a try ends

-- it ends its call and grants nothing, or its call stays pending under this turn, and exactly one oplock is granted to it
abbrev pub GrantsTo : Volume → ℕ → Outcome → Type 0
GrantsTo v turn (Done after reply) = KeepsAll v after
GrantsTo v turn (Stay after interim) = StaysUnder v turn after × (how_many (is_granted_under turn) v.oplocks ≡ 0 → how_many (is_granted_under turn) after.oplocks ≡ 1)
GrantsTo v turn (Hold after blockers interim) = ⊥

pub record Grants (v : Volume) (turn : ℕ) (outcome : Outcome) : Type 0 where
  pub so : GrantsTo v turn outcome

pub Grants-refused : (v : Volume) (turn : ℕ) (status : Status) → Grants v turn (refused v status)
Grants-refused v turn status = record { so = KeepsAll-same v }

Grants-if : {v : Volume} {turn : ℕ} (test : Bool) (one other : Outcome) → (test ≡ true → Grants v turn one) → (test ≡ false → Grants v turn other) → Grants v turn (if test then one else other)
Grants-if true one other holds fails = holds refl
Grants-if false one other holds fails = fails refl

Grants-option : {X : Type 0} {v : Volume} {turn : ℕ} (found : Option X) (some : X → Outcome) (none : Outcome)
    → ((x : X) → found ≡ Some x → Grants v turn (some x)) → Grants v turn none → Grants v turn (option_map_or some found none)
Grants-option None some none with_some with_none = with_none
Grants-option (Some x) some none with_some with_none = with_some x refl

oplock_on-grants : (v : Volume) (handle key stream : ℕ) (level : Level) (turn : ℕ) → HasOneOplockEach v → is_handle_on v stream handle ≡ true → Grants v turn (oplock_on v handle key stream level turn)
unfolding oplock_on
oplock_on-grants v handle key stream level turn one on =
    Grants-if (is_not_granted v handle key stream level) _ _ (λ is. Grants-refused v turn OplockNotGranted)
    (λ no. record { so = (StaysUnder-granted v handle key stream level turn one on, λ none. granted-one v handle key stream level turn none) })

oplock_by-grants : (v : Volume) (id : ℕ) (handle : Handle) (level : Level) (turn : ℕ) → HasOneOplockEach v → row_of v.handles id ≡ Some handle → Grants v turn (oplock_by v id handle level turn)
unfolding oplock_by
oplock_by-grants v id handle level turn one found =
    Grants-option handle.stream (λ stream. oplock_on v id handle.key stream level turn) _
    (λ stream is. oplock_on-grants v id handle.key stream level turn one (rw (found, is, eq-eqb stream stream refl) refl)) (Grants-refused v turn InvalidParameter)

oplock_at-grants : (v : Volume) (id : ℕ) (level : Level) (turn : ℕ) → HasOneOplockEach v → Grants v turn (oplock_at v id level turn)
unfolding oplock_at
oplock_at-grants v id level turn one =
    Grants-option (row_of v.handles id) (λ handle. oplock_by v id handle level turn) _ (λ handle found. oplock_by-grants v id handle level turn one found) (Grants-refused v turn InvalidHandle)

pub try_oplock-grants : (v : Volume) (client handle : ℕ) (level : Level) (turn : ℕ) → HasOneOplockEach v → Grants v turn (try_oplock v client handle level turn)
unfolding try_oplock
try_oplock-grants v client handle level turn one =
    Grants-option (handle_of v client handle) (λ id. oplock_at v id level turn) _ (λ id found. oplock_at-grants v id level turn one) (Grants-refused v turn InvalidHandle)

ack_keeping-grants : (v : Volume) (handle : ℕ) (level : Level) (turn : ℕ) → HasOneOplockEach v → list_any (is_of handle) v.oplocks ≡ true → Grants v turn (ack_keeping v handle level turn)
unfolding ack_keeping
ack_keeping-grants v handle level turn one there =
    Grants-if (has_read level) _ _ (λ is. record { so = (StaysUnder-level_kept v handle level turn one, λ none. kept-one v handle level turn one there none) })
    (λ no. record { so = KeepsAll-without_oplock v handle })

ack_at-grants : (v : Volume) (id : ℕ) (level : Level) (turn : ℕ) → HasOneOplockEach v → Grants v turn (ack_at v id level turn)
unfolding ack_at
ack_at-grants v id level turn one =
    Grants-option (target_of v id) (λ target. ack_keeping v id (in_both level target) turn) _ (λ target is. ack_keeping-grants v id (in_both level target) turn one (has-oplock v id target is))
    (Grants-refused v turn InvalidOplockProtocol)

pub try_ack-grants : (v : Volume) (client handle : ℕ) (level : Level) (turn : ℕ) → HasOneOplockEach v → Grants v turn (try_ack v client handle level turn)
unfolding try_ack
try_ack-grants v client handle level turn one =
    Grants-option (handle_of v client handle) (λ id. ack_at v id level turn) _ (λ id found. ack_at-grants v id level turn one) (Grants-refused v turn InvalidHandle)

-- ---- which blockers such a try ends

not_breaking : (a b c d e : Bool) → (a || b || c || d || e) ≡ false → a ≡ false
not_breaking true b c d e is = is
not_breaking false b c d e is = refl

-- a request of an oplock ends none, whether it is granted or not
pub record EndsNone (v : Volume) (outcome : Outcome) : Type 0 where
  pub so : (b : Blocker) → blocker_lives v b ≡ true → blocker_lives (volume_after outcome) b ≡ true

EndsNone-if : {v : Volume} (test : Bool) (one other : Outcome) → (test ≡ true → EndsNone v one) → (test ≡ false → EndsNone v other) → EndsNone v (if test then one else other)
EndsNone-if true one other holds fails = holds refl
EndsNone-if false one other holds fails = fails refl

EndsNone-option : {X : Type 0} {v : Volume} (found : Option X) (some : X → Outcome) (none : Outcome)
    → ((x : X) → found ≡ Some x → EndsNone v (some x)) → EndsNone v none → EndsNone v (option_map_or some found none)
EndsNone-option None some none with_some with_none = with_none
EndsNone-option (Some x) some none with_some with_none = with_some x refl

pub EndsNone-refused : (v : Volume) (status : Status) → EndsNone v (refused v status)
EndsNone-refused v status = record { so = λ b lives. lives }

pub try_oplock-ends : (v : Volume) (client handle : ℕ) (level : Level) (turn : ℕ) → EndsNone v (try_oplock v client handle level turn)
unfolding try_oplock oplock_at oplock_by oplock_on
try_oplock-ends v client handle level turn =
    EndsNone-option (handle_of v client handle) (λ id. oplock_at v id level turn) _ (λ id found.
    EndsNone-option (row_of v.handles id) (λ row. oplock_by v id row level turn) _ (λ row is.
    EndsNone-option row.stream (λ stream. oplock_on v id row.key stream level turn) _ (λ stream at.
    EndsNone-if (is_not_granted v id row.key stream level) _ _ (λ is. EndsNone-refused v OplockNotGranted)
    (λ no. record { so = λ b lives. lives-granted v id row.key stream level turn b (not_breaking (is_breaking_on v stream) _ _ _ _ no) lives }))
    (EndsNone-refused v InvalidParameter)) (EndsNone-refused v InvalidHandle)) (EndsNone-refused v InvalidHandle)

-- an answer ends one break, that of its handle
pub record AnswersOne (v : Volume) (client handle : ℕ) (w : Volume) : Type 0 where
  pub id : ℕ
  pub found : handle_of v client handle ≡ Some id
  pub ends : EndsBreak v id w

-- or it is refused and changes nothing
pub record Answers (v : Volume) (client handle : ℕ) (outcome : Outcome) : Type 0 where
  pub so : (volume_after outcome ≡ v) ⊎ AnswersOne v client handle (volume_after outcome)

Answers-if : {v : Volume} {client handle : ℕ} (test : Bool) (one other : Outcome) → (test ≡ true → Answers v client handle one) → (test ≡ false → Answers v client handle other) → Answers v client handle (if test then one else other)
Answers-if true one other holds fails = holds refl
Answers-if false one other holds fails = fails refl

Answers-option : {X : Type 0} {v : Volume} {client handle : ℕ} (found : Option X) (some : X → Outcome) (none : Outcome)
    → ((x : X) → found ≡ Some x → Answers v client handle (some x)) → Answers v client handle none → Answers v client handle (option_map_or some found none)
Answers-option None some none with_some with_none = with_none
Answers-option (Some x) some none with_some with_none = with_some x refl

pub Answers-refused : (v : Volume) (client handle : ℕ) (status : Status) → Answers v client handle (refused v status)
Answers-refused v client handle status = record { so = inl refl }

pub try_ack-ends : (v : Volume) (client handle : ℕ) (level : Level) (turn : ℕ) → HasOneOplockEach v → Answers v client handle (try_ack v client handle level turn)
unfolding try_ack ack_at ack_keeping
try_ack-ends v client handle level turn one =
    Answers-option (handle_of v client handle) (λ id. ack_at v id level turn) _ (λ id found.
    Answers-option (target_of v id) (λ target. ack_keeping v id (in_both level target) turn) _ (λ target is.
    Answers-if (has_read (in_both level target)) _ _
    (λ keeps. record { so = inr (record { id = id; found = found; ends = EndsBreak-level_kept v id (in_both level target) target turn one is }) })
    (λ none. record { so = inr (record { id = id; found = found; ends = EndsBreak-without_oplock v id target one is }) }))
    (Answers-refused v client handle InvalidOplockProtocol)) (Answers-refused v client handle InvalidHandle)
