-- What a try leaves of what calls wait for: one law for each way in which a definition goes on.
use Rattle.std.proofs.Common.{◌≡◌, ℕ, ◌+◌, ◌≤◌, Bool, true, false, not, List, [], ◌∷◌, length, refl, ap, sym, ◌∙◌, arith, inl, inr, ◌⊎◌, Option, Some, None}
use Rattle.std.specs.List.{filter, find, list_any}
use Rattle.std.specs.Option.{option_map_or}
use Rattle.std.specs.Prelude.{◌==◌, ◌&&◌, map, is_some, if◌then◌else◌, ◌++◌, nat_lt}
use Rattle.std.proofs.lemmas.Bool.{cases_Bool, eq-eqb, eqb-true, leb-true, le-leb, lt-leb, ltb-true, lt-ltb}
use Rattle.std.proofs.lemmas.List.{length-map, length-append, append-nil, append_assoc}
use Rattle.fsa_types.specs.Rows.{row_of}
use Rattle.fsa_types.specs.Oplocks.{Effect, Stays, Ends, Begins, Lowers, effect}
use Rattle.fsa_types.specs.declared.oplock.Class.{Class}
use Rattle.fsa_types.specs.declared.oplock.HandleSet.{HandleSet}
use Rattle.fsa_types.specs.declared.request.Level.{Level}
use Rattle.fsa_types.specs.declared.request.Level.TheVariants.{Nil}
use Rattle.fsa_types.specs.declared.reply.Blocker.{Blocker}
use Rattle.fsa_types.specs.declared.reply.Blocker.TheVariants as blocker
use Rattle.fsa_types.specs.declared.reply.Interim.{Interim}
use Rattle.fsa_types.specs.declared.reply.Interim.TheVariants.{Held}
use Rattle.fsa_types.specs.declared.reply.Reply.{Reply}
use Rattle.fsa_types.specs.declared.status.Status.{Status}
use Rattle.fsa_types.specs.declared.status.Status.TheVariants.{Success}
use Rattle.fsa_types.specs.declared.reply.Body.TheVariants.{Broken}
use Rattle.fsa_model.specs.Breaks.{with_told, with_break_begun, with_effect, with_breaks, is_broken_before, is_chosen, chosen, awaited}
use Rattle.fsa_model.specs.Changes.{seen_from, stream_suffix, with_change_noted}
use Rattle.fsa_model.specs.Edits.{is_call, with_end, without_oplock}
use Rattle.fsa_model.specs.Once.{how_many, times, made, IsOnce}
use Rattle.fsa_model.specs.Outcome.{Outcome, Done, Stay, Hold, refused}
use Rattle.fsa_model.specs.Volume.{Oplock, Pending, Volume, Change}
use Rattle.fsa_model.specs.Waiting.{blocker_lives, is_breaking, is_granted_under, is_held}
pub use Rattle.fsa_model.specs.Waiting.{AreLiving}
use Rattle.fsa_model.specs.Waits.{waits_for, held_by}
pub use Rattle.fsa_model.specs.Settling.{Watches, is_given, GrantsNoneHeld}
use Rattle.fsa_model.proofs.BreakLaws.{broken, told-oplocks, with_breaks-rest}
use Rattle.fsa_model.proofs.CountLaws.{and_left, and_right, how_many-filter, how_many-filter_le, how_many-in_order, how_many-none, how_many-split, how_many-weaker, only-one, how_many-map, how_many-same, how_many-some, some-how_many, and_true}
use Rattle.fsa_model.proofs.OnceLaws.{AddsEnds, AddsEnds-same, AddsEnds-next, AddsEnds-equal, is_call_of, times-pending_ends, made-with_end, IsOnce-kept, is_same-refl}
use Rattle.fsa_model.proofs.PendLaws.{HandlesStay, HandlesStay-same, HandlesStay-next, NoneLapsed, NoneLapsed-ends_under, NoneLapsed-same, OneGrantEach, found-under, lapsed}
use Rattle.fsa_model.proofs.RowLaws.{option_cases, find-any}
use Rattle.fsa_model.proofs.WaitLaws.{is_of, lacks_break, lowered, begun, goes_on_badly, done_to, new-effect, last-effect, badly-rest, chosen-well, or_none, IsNew, HasOneBreakEach, HasOneOplockEach, with_breaks-lives, with_breaks-spends, unbroken, with_breaks-new, with_breaks-last, awaited-live, find-passes}

-- ---- what one volume keeps of another

pub Watches-noted : (v w : Volume) (more : List Change) → w.changes ≡ v.changes ++ more → w.watches ≡ v.watches → Watches v w
Watches-noted v w more changes watches = record {
  more = more;
  changes = changes;
  watches = λ test. rw watches (how_many-weaker (λ watch. test watch && nat_lt watch.from (length v.changes)) test v.watches (λ watch both. and_left (test watch) (nat_lt watch.from (length v.changes)) both));
}

pub Watches-equal : {v w : Volume} → w.changes ≡ v.changes → w.watches ≡ v.watches → Watches v w
Watches-equal {v} {w} changes watches = Watches-noted v w [] (changes ∙ sym (append-nil v.changes)) watches

pub Watches-next : {u v w : Volume} → Watches u v → Watches v w → Watches u w
Watches-next {u} {v} {w} first second = record {
  more = first.more ++ second.more;
  changes = second.changes ∙ ap (λ (changes : List Change). changes ++ second.more) first.changes ∙ append_assoc u.changes first.more second.more;
  watches = λ test.
      (let one = first.watches test in
      let two = second.watches (λ watch. test watch && nat_lt watch.from (length u.changes)) in
      let longer = length-append u.changes first.more in
      let same = ap (λ (changes : List Change). length changes) first.changes in
      let both = how_many-weaker (λ watch. test watch && nat_lt watch.from (length u.changes)) (λ watch. (test watch && nat_lt watch.from (length u.changes)) && nat_lt watch.from (length v.changes)) w.watches
      (λ watch is. and_true (test watch && nat_lt watch.from (length u.changes)) (nat_lt watch.from (length v.changes)) is
      (let less = ltb-true watch.from (length u.changes) (and_right (test watch) (nat_lt watch.from (length u.changes)) is) in lt-ltb watch.from (length v.changes) (omega arith))) in
      omega arith);
}

-- no handle gets an oplock, no call becomes pending, and each call is as often there
pub record Keeps (v w : Volume) : Type 0 where
  pub oplocks : (handle : ℕ) → how_many (is_of handle) w.oplocks ≤ how_many (is_of handle) v.oplocks
  pub granted : (turn : ℕ) → how_many (is_granted_under turn) w.oplocks ≤ how_many (is_granted_under turn) v.oplocks
  pub pending : (test : ℕ × Pending → Bool) → how_many test w.pending ≤ how_many test v.pending
  pub times : IsOnce v → (client number : ℕ) → times client number w ≡ times client number v
  pub made : IsOnce v → made w ≡ made v
  pub ended : AddsEnds v.ended w.ended
  pub seen : Watches v w

-- each break in progress still has its own number, where each living blocker's number has been given
abbrev pub KeepsOnes : Volume → Volume → Type 0
KeepsOnes v w = HasOneOplockEach v → ((b : Blocker) → blocker_lives v b ≡ true → is_given v b ≡ true) → HasOneBreakEach v → HasOneBreakEach w

-- and no blocker ends, none that lives is new but under a new number, and each held call stays
pub record Leaves (v w : Volume) : Type 0 where
  pub keeps : Keeps v w
  pub lives : (b : Blocker) → blocker_lives v b ≡ true → blocker_lives w b ≡ true
  pub new : (b : Blocker) → blocker_lives w b ≡ true → (blocker_lives v b ≡ true) ⊎ ((is_given v b ≡ false) × (is_given w b ≡ true))
  pub given : (b : Blocker) → is_given v b ≡ true → is_given w b ≡ true
  pub held : IsOnce v → GrantsNoneHeld v → (test : ℕ × Pending → Bool) → how_many (λ entry. is_held entry.1 && test entry) w.pending ≡ how_many (λ entry. is_held entry.1 && test entry) v.pending
  pub breaks : w.last_break + unbroken w ≤ v.last_break + unbroken v
  pub ones : KeepsOnes v w
  pub stay : HandlesStay v w
  -- and an oplock without a break stays granted to a pending call
  pub pends : IsOnce v → OneGrantEach v → NoneLapsed v → NoneLapsed w

-- no file, link, stream, handle or lock has been given a number
pub record SameNumbers (v w : Volume) : Type 0 where
  pub files : w.last_file ≡ v.last_file
  pub links : w.last_link ≡ v.last_link
  pub streams : w.last_stream ≡ v.last_stream
  pub handles : w.last_handle ≡ v.last_handle
  pub locks : w.last_lock ≡ v.last_lock

-- as many as one call may have been given
pub record FewNumbers (v w : Volume) : Type 0 where
  pub files : w.last_file ≤ v.last_file + 1
  pub links : w.last_link ≤ v.last_link + 1
  pub streams : w.last_stream ≤ v.last_stream + 2
  pub handles : w.last_handle ≤ v.last_handle + 1
  pub locks : w.last_lock ≤ v.last_lock + 1

-- nothing that is waited for is touched
pub record SameWaits (v w : Volume) : Type 0 where
  pub oplocks : w.oplocks ≡ v.oplocks
  pub locks : w.locks ≡ v.locks
  pub pending : w.pending ≡ v.pending
  pub ended : w.ended ≡ v.ended
  pub last_break : w.last_break ≡ v.last_break
  pub last_lock : w.last_lock ≡ v.last_lock
  pub seen : Watches v w
  pub stay : HandlesStay v w

-- nor is a number given
pub record Untouched (v w : Volume) : Type 0 where
  pub oplocks : w.oplocks ≡ v.oplocks
  pub locks : w.locks ≡ v.locks
  pub pending : w.pending ≡ v.pending
  pub ended : w.ended ≡ v.ended
  pub last_break : w.last_break ≡ v.last_break
  pub seen : Watches v w
  pub opens : w.handles ≡ v.handles
  pub numbers : SameNumbers v w

pub SameNumbers-same : (v : Volume) → SameNumbers v v
SameNumbers-same v = record { files = refl; links = refl; streams = refl; handles = refl; locks = refl }

pub SameNumbers-next : {u v w : Volume} → SameNumbers u v → SameNumbers v w → SameNumbers u w
SameNumbers-next first second = record {
  files = second.files ∙ first.files;
  links = second.links ∙ first.links;
  streams = second.streams ∙ first.streams;
  handles = second.handles ∙ first.handles;
  locks = second.locks ∙ first.locks;
}

pub FewNumbers-same : {v w : Volume} → SameNumbers v w → FewNumbers v w
FewNumbers-same same = record {
  files = let is = same.files in omega arith;
  links = let is = same.links in omega arith;
  streams = let is = same.streams in omega arith;
  handles = let is = same.handles in omega arith;
  locks = let is = same.locks in omega arith;
}

pub FewNumbers-after : {u v w : Volume} → SameNumbers u v → FewNumbers v w → FewNumbers u w
FewNumbers-after same few = record {
  files = let is = same.files in let more = few.files in omega arith;
  links = let is = same.links in let more = few.links in omega arith;
  streams = let is = same.streams in let more = few.streams in omega arith;
  handles = let is = same.handles in let more = few.handles in omega arith;
  locks = let is = same.locks in let more = few.locks in omega arith;
}

pub FewNumbers-before : {u v w : Volume} → FewNumbers u v → SameNumbers v w → FewNumbers u w
FewNumbers-before few same = record {
  files = let is = same.files in let more = few.files in omega arith;
  links = let is = same.links in let more = few.links in omega arith;
  streams = let is = same.streams in let more = few.streams in omega arith;
  handles = let is = same.handles in let more = few.handles in omega arith;
  locks = let is = same.locks in let more = few.locks in omega arith;
}

pub Keeps-same : (v : Volume) → Keeps v v
Keeps-same v = record { oplocks = λ handle. omega arith; granted = λ turn. omega arith; pending = λ test. omega arith; times = λ once client number. refl; made = λ once. refl; ended = AddsEnds-same v.ended; seen = Watches-equal refl refl }

pub Keeps-next : {u v w : Volume} → Keeps u v → Keeps v w → Keeps u w
Keeps-next {u} {v} {w} first second = record {
  oplocks = λ handle. let one = first.oplocks handle in let two = second.oplocks handle in omega arith;
  granted = λ turn. let one = first.granted turn in let two = second.granted turn in omega arith;
  pending = λ test. let one = first.pending test in let two = second.pending test in omega arith;
  times = λ once client number. second.times (IsOnce-kept u v (first.times once) once) client number ∙ first.times once client number;
  made = λ once. second.made (IsOnce-kept u v (first.times once) once) ∙ first.made once;
  ended = AddsEnds-next first.ended second.ended;
  seen = Watches-next first.seen second.seen;
}

pub HasOneOplockEach-kept : (v w : Volume) → Keeps v w → HasOneOplockEach v → HasOneOplockEach w
HasOneOplockEach-kept v w keeps one handle = (let few : how_many (is_of handle) v.oplocks ≤ 1 = one handle in let fewer = keeps.oplocks handle in omega arith)

pub GrantsNoneHeld-kept : (v w : Volume) → Keeps v w → GrantsNoneHeld v → GrantsNoneHeld w
GrantsNoneHeld-kept v w keeps none turn some =
    let fewer = keeps.granted turn in
    let no_held : how_many (λ entry. entry.0 == turn && is_held entry.1) v.pending ≡ 0 = none turn (omega arith) in
    let fewer_held = keeps.pending (λ entry. entry.0 == turn && is_held entry.1) in
    omega arith

-- any try keeps so much, and no blocker comes to live but under a new number
pub record KeepsNumbers (v w : Volume) : Type 0 where
  pub keeps : Keeps v w
  pub new : (b : Blocker) → blocker_lives w b ≡ true → (blocker_lives v b ≡ true) ⊎ ((is_given v b ≡ false) × (is_given w b ≡ true))
  pub given : (b : Blocker) → is_given v b ≡ true → is_given w b ≡ true
  pub breaks : w.last_break + unbroken w ≤ v.last_break + unbroken v
  pub ones : KeepsOnes v w

pub KeepsNumbers-leaves : {v w : Volume} → Leaves v w → KeepsNumbers v w
KeepsNumbers-leaves leaves = record { keeps = leaves.keeps; new = leaves.new; given = leaves.given; breaks = leaves.breaks; ones = leaves.ones }

-- where no blocker comes to live
pub KeepsNumbers-old : (v w : Volume) → Keeps v w → ((b : Blocker) → blocker_lives w b ≡ true → blocker_lives v b ≡ true) → ((b : Blocker) → is_given v b ≡ true → is_given w b ≡ true)
    → w.last_break + unbroken w ≤ v.last_break + unbroken v → ((number : ℕ) → how_many (is_breaking number) w.oplocks ≤ how_many (is_breaking number) v.oplocks) → KeepsNumbers v w
KeepsNumbers-old v w keeps old given breaks fewer = record {
  keeps = keeps;
  new = λ b lives. inl (old b lives);
  given = given;
  breaks = breaks;
  ones = λ one all_given each number. (let few : how_many (is_breaking number) v.oplocks ≤ 1 = each number in let most = fewer number in omega arith);
}

pub KeepsNumbers-same : (v : Volume) → KeepsNumbers v v
KeepsNumbers-same v = KeepsNumbers-old v v (Keeps-same v) (λ b lives. lives) (λ b is. is) (omega arith) (λ number. omega arith)

pub KeepsNumbers-next : {u v w : Volume} → KeepsNumbers u v → KeepsNumbers v w → KeepsNumbers u w
KeepsNumbers-next {u} {v} {w} first second = record {
  keeps = Keeps-next first.keeps second.keeps;
  new = λ b lives. elim (second.new b lives) [
    | inl before ↦ elim (first.new b before) [ inl old ↦ inl old | inr new ↦ inr (new.0, second.given b new.1) ]
    | inr new ↦ inr (not_given b (cases_Bool (is_given u b)) new.0, new.1)
  ];
  breaks = let one = first.breaks in let two = second.breaks in omega arith;
  given = λ b is. second.given b (first.given b is);
  ones = λ one all_given each. second.ones (HasOneOplockEach-kept u v first.keeps one)
      (λ b lives. elim (first.new b lives) [ inl before ↦ first.given b (all_given b before) | inr new ↦ new.1 ]) (first.ones one all_given each);
}
  where
    not_given : (b : Blocker) → (is_given u b ≡ true) ⊎ (is_given u b ≡ false) → is_given v b ≡ false → is_given u b ≡ false
    not_given b (inl is) isnt = (let later : is_given v b ≡ true = first.given b is in cc)
    not_given b (inr no_number) isnt = no_number

pub Leaves-same : (v : Volume) → Leaves v v
Leaves-same v = record { keeps = Keeps-same v; lives = λ b lives. lives; new = λ b lives. inl lives; given = λ b is. is; held = λ once none test. refl; breaks = omega arith; ones = λ one all_given each. each; stay = HandlesStay-same refl refl; pends = λ once one_grant none. none }

pub OneGrantEach-kept : (v w : Volume) → Keeps v w → OneGrantEach v → OneGrantEach w
OneGrantEach-kept v w keeps one turn = (let few : how_many (is_granted_under turn) v.oplocks ≤ 1 = one turn in let fewer = keeps.granted turn in omega arith)

pub Leaves-next : {u v w : Volume} → Leaves u v → Leaves v w → Leaves u w
Leaves-next {u} {v} {w} first second =
    let numbers : KeepsNumbers u w = KeepsNumbers-next (KeepsNumbers-leaves first) (KeepsNumbers-leaves second) in
    record {
      keeps = numbers.keeps;
      lives = λ b lives. second.lives b (first.lives b lives);
      new = numbers.new;
      given = numbers.given;
      breaks = numbers.breaks;
      ones = numbers.ones;
      held = λ once none test. second.held (IsOnce-kept u v (first.keeps.times once) once) (GrantsNoneHeld-kept u v first.keeps none) test ∙ first.held once none test;
      stay = HandlesStay-next first.stay second.stay;
      pends = λ once one none. second.pends (IsOnce-kept u v (first.keeps.times once) once) (OneGrantEach-kept u v first.keeps one) (first.pends once one none);
    }

pub Untouched-same : (v : Volume) → Untouched v v
Untouched-same v = record { oplocks = refl; locks = refl; pending = refl; ended = refl; last_break = refl; seen = Watches-equal refl refl; opens = refl; numbers = SameNumbers-same v }

pub Untouched-next : {u v w : Volume} → Untouched u v → Untouched v w → Untouched u w
Untouched-next first second = record {
  oplocks = second.oplocks ∙ first.oplocks;
  locks = second.locks ∙ first.locks;
  pending = second.pending ∙ first.pending;
  ended = second.ended ∙ first.ended;
  last_break = second.last_break ∙ first.last_break;
  seen = Watches-next first.seen second.seen;
  opens = second.opens ∙ first.opens;
  numbers = SameNumbers-next first.numbers second.numbers;
}

pub Untouched-noted : (v : Volume) (link action bits : ℕ) (stream : Option ℕ) → Untouched v (with_change_noted v link action bits stream)
Untouched-noted v link action bits stream = elim (option_cases (row_of v.links link)) [
  | inl none ↦ rw none (Untouched-same v)
  | inr some ↦ rw some.1 (record { oplocks = refl; locks = refl; pending = refl; ended = refl; last_break = refl; seen = Watches-noted v _ (record { action = action; bits = bits; seen_from = seen_from v.links some.0 (stream_suffix v.streams stream) } ∷ []) refl refl; opens = refl; numbers = record { files = refl; links = refl; streams = refl; handles = refl; locks = refl } })
]

pub Keeps-same_waits : (v w : Volume) → SameWaits v w → Keeps v w
Keeps-same_waits v w un = record {
  oplocks = λ handle. rw un.oplocks (omega arith);
  granted = λ turn. rw un.oplocks (omega arith);
  pending = λ test. rw un.pending (omega arith);
  times = λ once client number. rw (un.pending, un.ended) refl;
  made = λ once. rw (un.pending, un.ended) refl;
  ended = AddsEnds-equal un.ended;
  seen = un.seen;
}

lives-same_waits : (v w : Volume) (b : Blocker) → SameWaits v w → blocker_lives v b ≡ true → blocker_lives w b ≡ true
lives-same_waits v w (blocker.Break number) un lives = rw un.oplocks lives
lives-same_waits v w (blocker.Lock number) un lives = rw un.locks lives

new-same_waits : (v w : Volume) (b : Blocker) → SameWaits v w → blocker_lives w b ≡ true → blocker_lives v b ≡ true
new-same_waits v w (blocker.Break number) un lives = rw un.oplocks at lives
new-same_waits v w (blocker.Lock number) un lives = rw un.locks at lives

given-same_waits : (v w : Volume) (b : Blocker) → SameWaits v w → is_given v b ≡ true → is_given w b ≡ true
given-same_waits v w (blocker.Break number) un is = rw un.last_break is
given-same_waits v w (blocker.Lock number) un is = rw un.last_lock is

pub Leaves-same_waits : (v w : Volume) → SameWaits v w → Leaves v w
Leaves-same_waits v w un = record {
  keeps = Keeps-same_waits v w un;
  lives = λ b lives. lives-same_waits v w b un lives;
  new = λ b lives. inl (new-same_waits v w b un lives);
  given = λ b is. given-same_waits v w b un is;
  breaks = rw (un.oplocks, un.last_break) (omega arith);
  ones = λ one all_given each number. (let few : how_many (is_breaking number) v.oplocks ≤ 1 = each number in rw un.oplocks few);
  held = λ once none test. rw un.pending refl;
  stay = un.stay;
  pends = λ once one none. NoneLapsed-same v w un.oplocks un.pending un.stay.found none;
}

pub SameWaits-untouched : {v w : Volume} → Untouched v w → SameWaits v w
SameWaits-untouched un = record { oplocks = un.oplocks; locks = un.locks; pending = un.pending; ended = un.ended; last_break = un.last_break; seen = un.seen; stay = HandlesStay-same un.opens un.numbers.handles; last_lock = un.numbers.locks }

pub Leaves-untouched : (v w : Volume) → Untouched v w → Leaves v w
Leaves-untouched v w un = Leaves-same_waits v w (SameWaits-untouched un)

pub KeepsNumbers-untouched : (v w : Volume) → Untouched v w → KeepsNumbers v w
KeepsNumbers-untouched v w un = KeepsNumbers-leaves (Leaves-untouched v w un)

-- ---- a call that is pending ends

pub Keeps-ends : (v : Volume) (client number : ℕ) (reply : Reply) → 1 ≤ how_many (is_call_of client number) v.pending → Keeps v (with_end v client number reply)
Keeps-ends v client number reply pends = record {
  granted = λ turn. omega arith;
  oplocks = λ handle. omega arith;
  pending = λ test. how_many-filter_le test (λ entry. not (is_call client number entry.1)) v.pending;
  times = λ once other_client other_number. times-pending_ends v client number reply once pends other_client other_number;
  made = λ once. made-with_end v client number reply once pends;
  ended = record { more = record { client = client; number = number; reply = reply } ∷ []; is = refl };
  seen = Watches-equal refl refl;
}

pub KeepsNumbers-ends : (v : Volume) (client number : ℕ) (reply : Reply) → 1 ≤ how_many (is_call_of client number) v.pending → KeepsNumbers v (with_end v client number reply)
KeepsNumbers-ends v client number reply pends = KeepsNumbers-old v (with_end v client number reply) (Keeps-ends v client number reply pends) (λ b lives. lives) (λ b is. is) (omega arith) (λ other. omega arith)

-- a call that is found under its turn is pending
pub pending-found : (rows : List (ℕ × Pending)) (turn : ℕ) (row : Pending) → row_of rows turn ≡ Some row → 1 ≤ how_many (is_call_of row.call.client row.call.number) rows
pending-found rows turn row found = elim (option_cases (find (λ entry. entry.0 == turn) rows)) [
  | inl none ↦ (let impossible : None ≡ Some row = rw none at found in cc)
  | inr some ↦ (let is : Some some.0.1 ≡ Some row = rw some.1 at found in let same : some.0.1 ≡ row = cc in
      how_many-some (is_call_of row.call.client row.call.number) rows
      (find-any (λ (entry : ℕ × Pending). entry.0 == turn) (is_call_of row.call.client row.call.number) rows some.0 some.1 (rw same (is_same-refl row.call.client row.call.number))))
]

pub Keeps-told : (v : Volume) (turn : Option ℕ) (level : Level) (ack : Bool) → Keeps v (with_told v turn level ack)
Keeps-told v None level ack = Keeps-same v
Keeps-told v (Some turn) level ack = elim (option_cases (row_of v.pending turn)) [
  | inl none ↦ rw none (Keeps-same v)
  | inr some ↦ rw some.1 (Keeps-ends v some.0.call.client some.0.call.number _ (pending-found v.pending turn some.0 some.1))
]

-- ---- breaks

abbrev changed : (Oplock → Oplock) → ℕ → Oplock → Oplock
changed change handle oplock = if oplock.handle == handle then change oplock else oplock

pub same-handles : (change : Oplock → Oplock) (at handle : ℕ) (oplocks : List Oplock) → ((o : Oplock) → (change o).handle ≡ o.handle)
    → how_many (is_of handle) (map (changed change at) oplocks) ≡ how_many (is_of handle) oplocks
same-handles change at handle oplocks same =
    how_many-map (is_of handle) (changed change at) oplocks
    ∙ how_many-same (λ o. is_of handle (changed change at o)) (is_of handle) oplocks
    (λ o. elim (cases_Bool (o.handle == at)) [ inl here ↦ rw (here, same o) refl | inr other ↦ rw other refl ])

Keeps-changed : (v : Volume) (change : Oplock → Oplock) (at last : ℕ) → ((o : Oplock) → (change o).handle ≡ o.handle)
    → ((turn : ℕ) (o : Oplock) → is_granted_under turn (change o) ≡ true → is_granted_under turn o ≡ true)
    → Keeps v (record v { oplocks = map (changed change at) v.oplocks; last_break = last })
Keeps-changed v change at last same grants = record {
  granted = λ turn. (let mapped = how_many-map (is_granted_under turn) (changed change at) v.oplocks in
      let weaker = how_many-weaker (λ o. is_granted_under turn (changed change at o)) (is_granted_under turn) v.oplocks
      (λ o is. elim (cases_Bool (o.handle == at)) [ inl here ↦ grants turn o (rw here at is) | inr other ↦ rw other at is ]) in omega arith);
  oplocks = λ handle. let as_many = same-handles change at handle v.oplocks same in omega arith;
  pending = λ test. omega arith;
  times = λ once client number. refl;
  made = λ once. refl;
  ended = AddsEnds-same v.ended;
  seen = Watches-equal refl refl;
}

pub Keeps-effect : (v : Volume) (oplock : Oplock) (done : Effect) → Keeps v (with_effect v oplock done)
Keeps-effect v oplock Stays = Keeps-same v
Keeps-effect v oplock Ends = Keeps-next {v = without_oplock v oplock.handle} (record {
  granted = λ turn. how_many-filter_le (is_granted_under turn) (λ (o : Oplock). not (o.handle == oplock.handle)) v.oplocks;
  oplocks = λ handle. how_many-filter_le (is_of handle) (λ (o : Oplock). not (o.handle == oplock.handle)) v.oplocks;
  pending = λ test. omega arith;
  times = λ once client number. refl;
  made = λ once. refl;
  ended = AddsEnds-same v.ended;
  seen = Watches-equal refl refl;
}) (Keeps-told (without_oplock v oplock.handle) oplock.call Nil false)
Keeps-effect v oplock (Begins level) =
    Keeps-next {v = with_break_begun v oplock.handle level} (Keeps-changed v (λ o. record o { target = Some level; number = v.last_break + 1; call = None }) oplock.handle (v.last_break + 1) (λ o. refl) (λ turn o is. cc))
    (Keeps-told (with_break_begun v oplock.handle level) oplock.call level true)
Keeps-effect v oplock (Lowers level) = Keeps-changed v (λ o. record o { target = Some level }) oplock.handle v.last_break (λ o. refl) (λ turn o is. is)

Keeps-broken : (kind : Class) (v : Volume) (oplocks : List Oplock) → Keeps v (broken kind v oplocks)
Keeps-broken kind v [] = Keeps-same v
Keeps-broken kind v (o ∷ oplocks) =
    Keeps-next {v = with_effect v o (effect kind o.level o.target)} (Keeps-effect v o (effect kind o.level o.target)) (Keeps-broken kind (with_effect v o (effect kind o.level o.target)) oplocks)

pub Keeps-breaks : (v : Volume) (on : HandleSet) (kind : Class) (acting : Option ℕ) (key : ℕ) → Keeps v (with_breaks v on kind acting key)
Keeps-breaks v on kind acting key = Keeps-broken kind v (chosen v on acting key)

lives-breaks : (v : Volume) (on : HandleSet) (kind : Class) (acting : Option ℕ) (key : ℕ) (b : Blocker) → HasOneOplockEach v
    → blocker_lives v b ≡ true → blocker_lives (with_breaks v on kind acting key) b ≡ true
lives-breaks v on kind acting key (blocker.Break number) one lives = with_breaks-lives v on kind acting key one number lives
lives-breaks v on kind acting key (blocker.Lock number) one lives = rw (ap (λ (w : Volume). w.locks) (with_breaks-rest v on kind acting key)) lives

new-breaks : (v : Volume) (on : HandleSet) (kind : Class) (acting : Option ℕ) (key : ℕ) (b : Blocker) → HasOneOplockEach v → blocker_lives (with_breaks v on kind acting key) b ≡ true
    → (blocker_lives v b ≡ true) ⊎ ((is_given v b ≡ false) × (is_given (with_breaks v on kind acting key) b ≡ true))
new-breaks v on kind acting key (blocker.Break number) one lives = elim (with_breaks-new v on kind acting key one number lives) [
  | inl old ↦ inl old
  | inr new ↦ inr (lt-leb number v.last_break new.0, le-leb number (with_breaks v on kind acting key).last_break new.1)
]
new-breaks v on kind acting key (blocker.Lock number) one lives = inl (rw (ap (λ (w : Volume). w.locks) (with_breaks-rest v on kind acting key)) at lives)

given-breaks : (v : Volume) (on : HandleSet) (kind : Class) (acting : Option ℕ) (key : ℕ) (b : Blocker) → is_given v b ≡ true → is_given (with_breaks v on kind acting key) b ≡ true
given-breaks v on kind acting key (blocker.Break number) is =
    let last = with_breaks-last v on kind acting key in
    let few : number ≤ v.last_break = leb-true number v.last_break is in
    le-leb number (with_breaks v on kind acting key).last_break (omega arith)
given-breaks v on kind acting key (blocker.Lock number) is = rw (ap (λ (w : Volume). w.last_lock) (with_breaks-rest v on kind acting key)) is

pub swapped : (a b : Bool) → (a && b) ≡ (b && a)
swapped true true = refl
swapped true false = refl
swapped false true = refl
swapped false false = refl

-- the end of a call that isn't held leaves each held call
pub held-ends : (v : Volume) (client number : ℕ) (reply : Reply) → IsOnce v → list_any (λ e. is_call_of client number e && not (is_held e.1)) v.pending ≡ true
    → (test : ℕ × Pending → Bool) → how_many (λ e. is_held e.1 && test e) (with_end v client number reply).pending ≡ how_many (λ e. is_held e.1 && test e) v.pending
held-ends v client number reply once some test =
    let few : times client number v ≤ 1 = once client number in
    let held : ℕ × Pending → Bool = λ e. is_held e.1 && test e in
    let kept = how_many-filter held (λ e. not (is_call client number e.1)) v.pending in
    let split = how_many-split held (is_call_of client number) v.pending in
    let same = how_many-same (λ e. not (is_call client number e.1) && held e) (λ e. held e && not (is_call_of client number e)) v.pending (λ e. swapped (not (is_call client number e.1)) (held e)) in
    let none = how_many-none (λ e. is_call_of client number e && not (not (is_held e.1))) v.pending (only-one (is_call_of client number) (λ e. not (is_held e.1)) v.pending (omega arith) some) in
    let weaker = how_many-weaker (λ e. held e && is_call_of client number e) (λ e. is_call_of client number e && not (not (is_held e.1))) v.pending (λ e all. both (is_held e.1) (test e) (is_call_of client number e) all) in
    omega arith
  where
    both : (a b c : Bool) → ((a && b) && c) ≡ true → (c && not (not a)) ≡ true
    both true true true is = refl
    both true true false is = is
    both true false c is = cc
    both false b c is = cc

-- who is told isn't held, so each held call stays
held-told : (v : Volume) (turn : Option ℕ) (level : Level) (ack : Bool) → IsOnce v → ((t : ℕ) → turn ≡ Some t → how_many (λ entry. entry.0 == t && is_held entry.1) v.pending ≡ 0)
    → (test : ℕ × Pending → Bool) → how_many (λ entry. is_held entry.1 && test entry) (with_told v turn level ack).pending ≡ how_many (λ entry. is_held entry.1 && test entry) v.pending
held-told v None level ack once none test = refl
held-told v (Some turn) level ack once none test = elim (option_cases (row_of v.pending turn)) [
  | inl missing ↦ rw missing refl
  | inr some ↦ rw some.1 (held-ends v some.0.call.client some.0.call.number (record { status = Success; body = Broken level ack }) once (not_held some.0 some.1) test)
]
  where
    not_held : (row : Pending) → row_of v.pending turn ≡ Some row → list_any (λ e. is_call_of row.call.client row.call.number e && not (is_held e.1)) v.pending ≡ true
    not_held row found = elim (option_cases (find (λ entry. entry.0 == turn) v.pending)) [
      | inl missing ↦ (let impossible : None ≡ Some row = rw missing at found in cc)
      | inr some ↦ (let is : Some some.0.1 ≡ Some row = rw some.1 at found in let same : some.0.1 ≡ row = cc in
          find-any (λ (entry : ℕ × Pending). entry.0 == turn) (λ e. is_call_of row.call.client row.call.number e && not (is_held e.1)) v.pending some.0 some.1
          (rw (waits some.0 some.1, same, is_same-refl row.call.client row.call.number) refl))
    ]
      where
        waits : (entry : ℕ × Pending) → find (λ entry. entry.0 == turn) v.pending ≡ Some entry → is_held entry.1 ≡ false
        waits entry found = elim (cases_Bool (is_held entry.1)) [
          | inr isnt ↦ isnt
          | inl is ↦ (let here : list_any (λ e. e.0 == turn && is_held e.1) v.pending ≡ true
              = find-any (λ (entry : ℕ × Pending). entry.0 == turn) (λ e. e.0 == turn && is_held e.1) v.pending entry found (rw (find-passes (λ (entry : ℕ × Pending). entry.0 == turn) v.pending entry found, is) refl) in
              let many = how_many-some (λ (e : ℕ × Pending). e.0 == turn && is_held e.1) v.pending here in
              let no_held : how_many (λ entry. entry.0 == turn && is_held entry.1) v.pending ≡ 0 = none turn refl in absurd (omega arith))
        ]

held-effect : (v : Volume) (oplock : Oplock) (done : Effect) → IsOnce v → ((t : ℕ) → oplock.call ≡ Some t → how_many (λ entry. entry.0 == t && is_held entry.1) v.pending ≡ 0)
    → (test : ℕ × Pending → Bool) → how_many (λ entry. is_held entry.1 && test entry) (with_effect v oplock done).pending ≡ how_many (λ entry. is_held entry.1 && test entry) v.pending
held-effect v oplock Stays once none test = refl
held-effect v oplock Ends once none test = held-told (without_oplock v oplock.handle) oplock.call Nil false once none test
held-effect v oplock (Begins level) once none test = held-told (with_break_begun v oplock.handle level) oplock.call level true once none test
held-effect v oplock (Lowers level) once none test = refl

held-broken : (kind : Class) (v : Volume) (oplocks : List Oplock) → IsOnce v
    → ((turn : ℕ) → 1 ≤ how_many (is_granted_under turn) oplocks → how_many (λ entry. entry.0 == turn && is_held entry.1) v.pending ≡ 0)
    → (test : ℕ × Pending → Bool) → how_many (λ entry. is_held entry.1 && test entry) (broken kind v oplocks).pending ≡ how_many (λ entry. is_held entry.1 && test entry) v.pending
held-broken kind v [] once none test = refl
held-broken kind v (o ∷ oplocks) once none test =
    let next : Volume = with_effect v o (effect kind o.level o.target) in
    let keeps : Keeps v next = Keeps-effect v o (effect kind o.level o.target) in
    held-broken kind next oplocks (IsOnce-kept v next (keeps.times once) once)
    (λ turn some. let no_held : how_many (λ entry. entry.0 == turn && is_held entry.1) v.pending ≡ 0 = none turn (omega arith) in
    let fewer = keeps.pending (λ entry. entry.0 == turn && is_held entry.1) in omega arith) test
    ∙ held-effect v o (effect kind o.level o.target) once (λ t is. none t (of_first t is)) test
  where
    of_first : (t : ℕ) → o.call ≡ Some t → 1 ≤ how_many (is_granted_under t) (o ∷ oplocks)
    of_first t is = (let here : is_granted_under t o ≡ true = rw (is, eq-eqb t t refl) refl in rw here (omega arith))

-- an oplock without a break stays granted to a pending call, whatever breaks
NoneLapsed-told : (v : Volume) (turn : Option ℕ) (level : Level) (ack : Bool) → IsOnce v → ((t : ℕ) → turn ≡ Some t → how_many (is_granted_under t) v.oplocks ≡ 0) → NoneLapsed v → NoneLapsed (with_told v turn level ack)
NoneLapsed-told v None level ack once ended none = none
NoneLapsed-told v (Some turn) level ack once ended none = elim (option_cases (row_of v.pending turn)) [
  | inl missing ↦ rw missing none
  | inr some ↦ rw some.1 (NoneLapsed-ends_under v some.0.call.client some.0.call.number turn (record { status = Success; body = Broken level ack }) once (found-under v.pending turn some.0 some.1) (ended turn refl) none)
]

-- no oplock of another handle is granted under this turn
abbrev pub granted_elsewhere : ℕ → ℕ → Oplock → Bool
granted_elsewhere turn handle oplock = is_granted_under turn oplock && not (is_of handle oplock)

alone-changed : (change : Oplock → Oplock) (at turn handle : ℕ) (oplocks : List Oplock) → ((o : Oplock) → (change o).handle ≡ o.handle)
    → ((o : Oplock) → is_granted_under turn (change o) ≡ true → is_granted_under turn o ≡ true)
    → how_many (granted_elsewhere turn handle) (map (changed change at) oplocks) ≤ how_many (granted_elsewhere turn handle) oplocks
alone-changed change at turn handle oplocks same grants =
    let mapped = how_many-map (granted_elsewhere turn handle) (changed change at) oplocks in
    let weaker = how_many-weaker (λ o. granted_elsewhere turn handle (changed change at o)) (granted_elsewhere turn handle) oplocks (λ o both. of_changed o both) in
    omega arith
  where
    of_changed : (o : Oplock) → granted_elsewhere turn handle (changed change at o) ≡ true → granted_elsewhere turn handle o ≡ true
    of_changed o both = elim (cases_Bool (o.handle == at)) [
      | inr other ↦ rw other at both
      | inl here ↦ (let its : (is_granted_under turn (change o) && not ((change o).handle == handle)) ≡ true = rw here at both in
          let there : not (o.handle == handle) ≡ true = rw (same o) at (and_right (is_granted_under turn (change o)) (not ((change o).handle == handle)) its) in
          and_true (is_granted_under turn o) (not (o.handle == handle)) (grants o (and_left (is_granted_under turn (change o)) (not ((change o).handle == handle)) its)) there)
    ]

alone-effect : (v : Volume) (oplock : Oplock) (done : Effect) (turn handle : ℕ) → how_many (granted_elsewhere turn handle) (with_effect v oplock done).oplocks ≤ how_many (granted_elsewhere turn handle) v.oplocks
alone-effect v oplock Stays turn handle = omega arith
alone-effect v oplock Ends turn handle =
    let same = ap (λ (oplocks : List Oplock). how_many (granted_elsewhere turn handle) oplocks) (told-oplocks (without_oplock v oplock.handle) oplock.call Nil false) in
    let fewer = how_many-filter_le (granted_elsewhere turn handle) (λ (o : Oplock). not (o.handle == oplock.handle)) v.oplocks in
    omega arith
alone-effect v oplock (Begins level) turn handle =
    let same = ap (λ (oplocks : List Oplock). how_many (granted_elsewhere turn handle) oplocks) (told-oplocks (with_break_begun v oplock.handle level) oplock.call level true) in
    let fewer = alone-changed (λ o. record o { target = Some level; number = v.last_break + 1; call = None }) oplock.handle turn handle v.oplocks (λ o. refl) (λ o is. cc) in
    omega arith
alone-effect v oplock (Lowers level) turn handle = alone-changed (λ o. record o { target = Some level }) oplock.handle turn handle v.oplocks (λ o. refl) (λ o is. is)

NoneLapsed-effect : (v : Volume) (oplock : Oplock) (done : Effect) → IsOnce v → ((t : ℕ) → oplock.call ≡ Some t → how_many (granted_elsewhere t oplock.handle) v.oplocks ≡ 0) → NoneLapsed v → NoneLapsed (with_effect v oplock done)
NoneLapsed-effect v oplock Stays once alone none = none
NoneLapsed-effect v oplock (Lowers level) once alone none =
    let mapped = how_many-map (lapsed v) (changed (λ o. record o { target = Some level }) oplock.handle) v.oplocks in
    let weaker = how_many-weaker (λ o. lapsed v (changed (λ o. record o { target = Some level }) oplock.handle o)) (lapsed v) v.oplocks
    (λ o is. elim (cases_Bool (o.handle == oplock.handle)) [ inl here ↦ (let impossible : false ≡ true = rw here at is in cc) | inr other ↦ rw other at is ]) in
    omega arith
NoneLapsed-effect v oplock Ends once alone none =
    NoneLapsed-told (without_oplock v oplock.handle) oplock.call Nil false once
    (λ t is. (let kept = how_many-filter (is_granted_under t) (λ (o : Oplock). not (o.handle == oplock.handle)) v.oplocks in
    let same = how_many-same (λ (o : Oplock). not (o.handle == oplock.handle) && is_granted_under t o) (granted_elsewhere t oplock.handle) v.oplocks (λ o. swapped (not (o.handle == oplock.handle)) (is_granted_under t o)) in
    let zero_there = alone t is in omega arith))
    (let fewer = how_many-filter_le (lapsed v) (λ (o : Oplock). not (o.handle == oplock.handle)) v.oplocks in omega arith)
NoneLapsed-effect v oplock (Begins level) once alone none =
    NoneLapsed-told (with_break_begun v oplock.handle level) oplock.call level true once
    (λ t is. (let mapped = how_many-map (is_granted_under t) (changed change oplock.handle) v.oplocks in
    let weaker = how_many-weaker (λ o. is_granted_under t (changed change oplock.handle o)) (granted_elsewhere t oplock.handle) v.oplocks
    (λ o passes. elim (cases_Bool (o.handle == oplock.handle)) [ inl here ↦ (let impossible : false ≡ true = rw here at passes in cc) | inr other ↦ (let granted : is_granted_under t o ≡ true = rw other at passes in rw (other, granted) refl) ]) in
    let zero_there = alone t is in omega arith))
    (let mapped = how_many-map (lapsed v) (changed change oplock.handle) v.oplocks in
    let weaker = how_many-weaker (λ o. lapsed v (changed change oplock.handle o)) (lapsed v) v.oplocks
    (λ o is. elim (cases_Bool (o.handle == oplock.handle)) [ inl here ↦ (let impossible : false ≡ true = rw here at is in cc) | inr other ↦ rw other at is ]) in
    omega arith)
  where
    change : Oplock → Oplock
    change o = record o { target = Some level; number = v.last_break + 1; call = None }

NoneLapsed-broken : (kind : Class) (v : Volume) (oplocks : List Oplock) → IsOnce v
    → ((turn handle : ℕ) → 1 ≤ how_many (λ o. is_granted_under turn o && is_of handle o) oplocks → how_many (granted_elsewhere turn handle) v.oplocks ≡ 0)
    → NoneLapsed v → NoneLapsed (broken kind v oplocks)
NoneLapsed-broken kind v [] once alone none = none
NoneLapsed-broken kind v (o ∷ oplocks) once alone none =
    let next : Volume = with_effect v o (effect kind o.level o.target) in
    let keeps : Keeps v next = Keeps-effect v o (effect kind o.level o.target) in
    NoneLapsed-broken kind next oplocks (IsOnce-kept v next (keeps.times once) once)
    (λ turn handle some. let zero_there : how_many (granted_elsewhere turn handle) v.oplocks ≡ 0 = alone turn handle (omega arith) in
    let fewer = alone-effect v o (effect kind o.level o.target) turn handle in omega arith)
    (NoneLapsed-effect v o (effect kind o.level o.target) once (λ t is. alone t o.handle (of_first t is)) none)
  where
    of_first : (t : ℕ) → o.call ≡ Some t → 1 ≤ how_many (λ x. is_granted_under t x && is_of o.handle x) (o ∷ oplocks)
    of_first t is = (let here : is_granted_under t o ≡ true = rw (is, eq-eqb t t refl) refl in rw (here, eq-eqb o.handle o.handle refl) (omega arith))

NoneLapsed-breaks : (v : Volume) (on : HandleSet) (kind : Class) (acting : Option ℕ) (key : ℕ) → IsOnce v → OneGrantEach v → NoneLapsed v → NoneLapsed (with_breaks v on kind acting key)
NoneLapsed-breaks v on kind acting key once one none =
    NoneLapsed-broken kind v (chosen v on acting key) once (λ turn handle some.
    let ordered = how_many-in_order (λ o. is_granted_under turn o && is_of handle o) (is_broken_before v) (filter (is_chosen v on acting key) v.oplocks) in
    let kept = how_many-filter_le (λ o. is_granted_under turn o && is_of handle o) (is_chosen v on acting key) v.oplocks in
    how_many-none (granted_elsewhere turn handle) v.oplocks (only-one (is_granted_under turn) (is_of handle) v.oplocks (one turn) (some-how_many (λ o. is_granted_under turn o && is_of handle o) v.oplocks (omega arith)))) none

-- a break that goes on keeps its number
fewer-lowered : (at number : ℕ) (level : Level) (xs : List Oplock) → list_any (lacks_break at) xs ≡ false → how_many (is_breaking number) (map (changed (lowered level) at) xs) ≤ how_many (is_breaking number) xs
fewer-lowered at number level [] none = omega arith
fewer-lowered at number level (x ∷ xs) none =
    let parts = or_none (lacks_break at x) (list_any (lacks_break at) xs) none in
    let rest = fewer-lowered at number level xs parts.1 in
    elim (cases_Bool (x.handle == at)) [
      | inr other ↦ rw other (omega arith)
      | inl here ↦ (let lacks : not (is_some x.target) ≡ false = rw here at parts.0 in let has : is_some x.target ≡ true = twice (is_some x.target) lacks in rw (here, has) (omega arith))
    ]
  where
    twice : (b : Bool) → not b ≡ false → b ≡ true
    twice true is = refl
    twice false is = cc

-- so does an effect; a break that begins has a number that none has
ones-effect : (w : Volume) (oplock : Oplock) (done : Effect) → HasOneOplockEach w → ((number : ℕ) → list_any (is_breaking number) w.oplocks ≡ true → number ≤ w.last_break) → goes_on_badly w oplock done ≡ false
    → HasOneBreakEach w → HasOneBreakEach (with_effect w oplock done)
ones-effect w oplock Stays one given well each number = each number
ones-effect w oplock Ends one given well each number =
    let few : how_many (is_breaking number) w.oplocks ≤ 1 = each number in
    let same = ap (λ (oplocks : List Oplock). how_many (is_breaking number) oplocks) (told-oplocks (without_oplock w oplock.handle) oplock.call Nil false) in
    let fewer = how_many-filter_le (is_breaking number) (λ (o : Oplock). not (o.handle == oplock.handle)) w.oplocks in
    omega arith
ones-effect w oplock (Lowers level) one given well each number =
    let few : how_many (is_breaking number) w.oplocks ≤ 1 = each number in
    let fewer = fewer-lowered oplock.handle number level w.oplocks well in
    omega arith
ones-effect w oplock (Begins level) one given well each number =
    let few : how_many (is_breaking number) w.oplocks ≤ 1 = each number in
    let same = ap (λ (oplocks : List Oplock). how_many (is_breaking number) oplocks) (told-oplocks (with_break_begun w oplock.handle level) oplock.call level true) in
    let mapped = how_many-map (is_breaking number) (changed (begun (w.last_break + 1) level) oplock.handle) w.oplocks in
    elim (cases_Bool (w.last_break + 1 == number)) [
      | inr older ↦ (let weaker = how_many-weaker (λ o. is_breaking number (changed (begun (w.last_break + 1) level) oplock.handle o)) (is_breaking number) w.oplocks
          (λ o is. elim (cases_Bool (o.handle == oplock.handle)) [ inl here ↦ (let impossible : (w.last_break + 1 == number) ≡ true = rw here at is in cc) | inr other ↦ rw other at is ]) in omega arith)
      | inl new ↦ (let is_new : w.last_break + 1 ≡ number = eqb-true (w.last_break + 1) number new in
          let none : how_many (is_breaking number) w.oplocks ≡ 0 = no_such is_new (cases_Bool (list_any (is_breaking number) w.oplocks)) in
          let own : how_many (is_of oplock.handle) w.oplocks ≤ 1 = one oplock.handle in
          let split = how_many-split (λ o. is_breaking number (changed (begun (w.last_break + 1) level) oplock.handle o)) (is_of oplock.handle) w.oplocks in
          let here = how_many-weaker (λ o. is_breaking number (changed (begun (w.last_break + 1) level) oplock.handle o) && is_of oplock.handle o) (is_of oplock.handle) w.oplocks (λ o both. and_right (is_breaking number (changed (begun (w.last_break + 1) level) oplock.handle o)) (is_of oplock.handle o) both) in
          let elsewhere = how_many-weaker (λ o. is_breaking number (changed (begun (w.last_break + 1) level) oplock.handle o) && not (is_of oplock.handle o)) (is_breaking number) w.oplocks
          (λ o both. elim (cases_Bool (o.handle == oplock.handle)) [
            | inl its ↦ (let passes : not (is_of oplock.handle o) ≡ true = and_right (is_breaking number (changed (begun (w.last_break + 1) level) oplock.handle o)) (not (is_of oplock.handle o)) both in let impossible : false ≡ true = rw its at passes in cc)
            | inr other ↦ and_left (is_breaking number o) true (rw other at both)
          ]) in
          omega arith)
    ]
  where
    no_such : w.last_break + 1 ≡ number → (list_any (is_breaking number) w.oplocks ≡ true) ⊎ (list_any (is_breaking number) w.oplocks ≡ false) → how_many (is_breaking number) w.oplocks ≡ 0
    no_such is_new (inr none) = how_many-none (is_breaking number) w.oplocks none
    no_such is_new (inl some) = (let low = given number some in absurd (omega arith))

ones-broken : (kind : Class) (w : Volume) (oplocks : List Oplock) → HasOneOplockEach w → ((number : ℕ) → list_any (is_breaking number) w.oplocks ≡ true → number ≤ w.last_break)
    → list_any (λ x. goes_on_badly w x (done_to kind x)) oplocks ≡ false → HasOneBreakEach w → HasOneBreakEach (broken kind w oplocks)
ones-broken kind w [] one given well each = each
ones-broken kind w (o ∷ oplocks) one given well each =
    let parts = or_none (goes_on_badly w o (done_to kind o)) (list_any (λ x. goes_on_badly w x (done_to kind x)) oplocks) well in
    let next : Volume = with_effect w o (done_to kind o) in
    ones-broken kind next oplocks (HasOneOplockEach-kept w next (Keeps-effect w o (done_to kind o)) one)
    (λ number breaks. later number (last-effect w o (done_to kind o)) (new-effect number w o (done_to kind o) parts.0 breaks))
    (badly-rest kind w o oplocks parts.1) (ones-effect w o (done_to kind o) one given parts.0 each)
  where
    later : (number : ℕ) → w.last_break ≤ (with_effect w o (done_to kind o)).last_break → IsNew w (with_effect w o (done_to kind o)) number → number ≤ (with_effect w o (done_to kind o)).last_break
    later number up (inl old) = (let low = given number old in omega arith)
    later number up (inr new) = new.1

pub Leaves-breaks : (v : Volume) (on : HandleSet) (kind : Class) (acting : Option ℕ) (key : ℕ) → HasOneOplockEach v → Leaves v (with_breaks v on kind acting key)
Leaves-breaks v on kind acting key one = record {
  keeps = Keeps-breaks v on kind acting key;
  lives = λ b lives. lives-breaks v on kind acting key b one lives;
  new = λ b lives. new-breaks v on kind acting key b one lives;
  given = λ b is. given-breaks v on kind acting key b is;
  breaks = with_breaks-spends v on kind acting key one;
  ones = λ own all_given each. ones-broken kind v (chosen v on acting key) own (λ number lives. leb-true number v.last_break (all_given (blocker.Break number) lives)) (chosen-well v on kind acting key own) each;
  held = λ once none test. held-broken kind v (chosen v on acting key) once (λ turn some.
      let ordered = how_many-in_order (is_granted_under turn) (is_broken_before v) (filter (is_chosen v on acting key) v.oplocks) in
      let kept = how_many-filter_le (is_granted_under turn) (is_chosen v on acting key) v.oplocks in
      let many : 1 ≤ how_many (is_granted_under turn) v.oplocks = omega arith in none turn many) test;
  stay = HandlesStay-same (ap (λ (w : Volume). w.handles) (with_breaks-rest v on kind acting key)) (ap (λ (w : Volume). w.last_handle) (with_breaks-rest v on kind acting key));
  pends = λ once one_grant none. NoneLapsed-breaks v on kind acting key once one_grant none;
}

pub SameNumbers-breaks : (v : Volume) (on : HandleSet) (kind : Class) (acting : Option ℕ) (key : ℕ) → SameNumbers v (with_breaks v on kind acting key)
SameNumbers-breaks v on kind acting key = record {
  files = ap (λ (w : Volume). w.last_file) (with_breaks-rest v on kind acting key);
  links = ap (λ (w : Volume). w.last_link) (with_breaks-rest v on kind acting key);
  streams = ap (λ (w : Volume). w.last_stream) (with_breaks-rest v on kind acting key);
  handles = ap (λ (w : Volume). w.last_handle) (with_breaks-rest v on kind acting key);
  locks = ap (λ (w : Volume). w.last_lock) (with_breaks-rest v on kind acting key);
}

-- ---- how a try ends

-- a try ends its call or holds it by blockers that live, and leaves such a volume
abbrev pub TriesTo : (Volume → Volume → Type 0) → Volume → Outcome → Type 0
TriesTo R v (Done after reply) = R v after × FewNumbers v after
TriesTo R v (Stay after interim) = ⊥
TriesTo R v (Hold after blockers interim) = R v after × (SameNumbers v after × AreLiving after blockers)

pub record Tries (R : Volume → Volume → Type 0) (v : Volume) (outcome : Outcome) : Type 0 where
  pub so : TriesTo R v outcome

pub Tries-done : {R : Volume → Volume → Type 0} {v : Volume} (w : Volume) (reply : Reply) → R v w → FewNumbers v w → Tries R v (Done w reply)
Tries-done w reply leaves few = record { so = (leaves, few) }

-- where nothing is touched that is waited for
pub Tries-untouched : {v : Volume} (w : Volume) (reply : Reply) → Untouched v w → Tries Leaves v (Done w reply)
Tries-untouched {v} w reply un = Tries-done w reply (Leaves-untouched v w un) (FewNumbers-same un.numbers)

pub Tries-held : {R : Volume → Volume → Type 0} {v : Volume} (w : Volume) (blockers : List Blocker) (interim : Interim) → R v w → SameNumbers v w → AreLiving w blockers → Tries R v (Hold w blockers interim)
Tries-held w blockers interim leaves same living = record { so = (leaves, (same, living)) }

pub Tries-if : {R : Volume → Volume → Type 0} {v : Volume} (test : Bool) (one other : Outcome) → (test ≡ true → Tries R v one) → (test ≡ false → Tries R v other)
    → Tries R v (if test then one else other)
Tries-if true one other holds fails = holds refl
Tries-if false one other holds fails = fails refl

pub Tries-option : {X : Type 0} {R : Volume → Volume → Type 0} {v : Volume} (found : Option X) (some : X → Outcome) (none : Outcome)
    → ((x : X) → found ≡ Some x → Tries R v (some x)) → Tries R v none → Tries R v (option_map_or some found none)
Tries-option None some none with_some with_none = with_none
Tries-option (Some x) some none with_some with_none = with_some x refl

tries_after : {v w : Volume} (outcome : Outcome) → Leaves v w → SameNumbers v w → TriesTo Leaves w outcome → TriesTo Leaves v outcome
tries_after (Done after reply) first same so = (Leaves-next first so.0, FewNumbers-after same so.1)
tries_after (Stay after interim) first same so = so
tries_after (Hold after blockers interim) first same so = (Leaves-next first so.0, (SameNumbers-next same so.1.0, so.1.1))

-- the try of what goes on from another volume
pub Tries-after : {v : Volume} (w : Volume) (outcome : Outcome) → Leaves v w → SameNumbers v w → Tries Leaves w outcome → Tries Leaves v outcome
Tries-after w outcome first same tries = record { so = tries_after outcome first same tries.so }

pub Tries-refused : (v : Volume) (status : Status) → Tries Leaves v (refused v status)
Tries-refused v status = record { so = (Leaves-same v, FewNumbers-same (SameNumbers-same v)) }

-- what waits for breaks is held by them
pub Tries-held_by : (v : Volume) (on : HandleSet) (kind : Class) (acting : Option ℕ) (key : ℕ) → HasOneOplockEach v → waits_for v on kind acting key ≡ true
    → Tries Leaves v (held_by v on kind acting key)
Tries-held_by v on kind acting key one waits =
    Tries-held (with_breaks v on kind acting key) (map blocker.Break (awaited v on kind acting key)) Held (Leaves-breaks v on kind acting key one) (SameNumbers-breaks v on kind acting key)
    (record { some = rw (length-map (awaited v on kind acting key) blocker.Break) (not_none (length (awaited v on kind acting key) == 0) waits); live = awaited-live v on kind acting key one })
  where
    not_none : (b : Bool) → not b ≡ true → b ≡ false
    not_none true is = sym is
    not_none false is = refl

-- what goes on after them, or is held by them
pub Tries-breaks : (v : Volume) (on : HandleSet) (kind : Class) (acting : Option ℕ) (key : ℕ) (outcome : Outcome) → HasOneOplockEach v
    → (HasOneOplockEach (with_breaks v on kind acting key) → Tries Leaves (with_breaks v on kind acting key) outcome)
    → Tries Leaves v (if waits_for v on kind acting key then held_by v on kind acting key else outcome)
Tries-breaks v on kind acting key outcome one goes =
    let leaves : Leaves v (with_breaks v on kind acting key) = Leaves-breaks v on kind acting key one in
    Tries-if (waits_for v on kind acting key) _ _ (λ is. Tries-held_by v on kind acting key one is)
    (λ no. Tries-after (with_breaks v on kind acting key) outcome leaves (SameNumbers-breaks v on kind acting key) (goes (HasOneOplockEach-kept v (with_breaks v on kind acting key) leaves.keeps one)))
