-- What the settlement of a turn asks of the volume and keeps, and how far its loop has come.
use Rattle.std.specs.Prelude.{◌≡◌, ◌⊎◌, ℕ, ◌+◌, ◌*◌, ◌<◌, ◌≤◌, ◌==◌, ◌&&◌, Bool, true, false, not, nat_le, nat_lt, All, AllPairs, List, [], ◌∷◌, ◌++◌, length, Some, is_some}
use Rattle.std.specs.List.{list_any}
use Rattle.fsa_types.specs.declared.reply.Blocker.{Blocker}
use Rattle.fsa_types.specs.declared.reply.Blocker.TheVariants as blocker
use Rattle.fsa_types.specs.declared.reply.EndOf.{EndOf}
use Rattle.fsa_types.specs.declared.request.CallId.{CallId}
use Rattle.fsa_types.specs.declared.request.Request.TheVariants.{Create, Read, Write, SetEnd, Lock, Rename, Link, SetDisposition, Notify}
use Rattle.fsa_types.specs.declared.request.What.{What}
use Rattle.fsa_types.specs.declared.request.What.TheVariants.{Ask}
use Rattle.fsa_model.specs.Edits.{is_call}
use Rattle.fsa_model.specs.Once.{IsOnce, how_many, made, times}
use Rattle.fsa_model.specs.Settle.{Settling, repeated, settle_step, taken_up, taken_up_all}
use Rattle.fsa_model.specs.Volume.{Change, Oplock, Pending, Volume, Watch}
use Rattle.fsa_model.specs.Waiting.{blocker_lives, is_blocked, is_breaking, is_granted_under, is_held, next_ready}

-- ---- oplocks and blockers

-- an oplock of this handle
abbrev pub is_of : ℕ → Oplock → Bool
is_of handle oplock = oplock.handle == handle

-- a handle has at most one oplock
abbrev pub HasOneOplockEach : Volume → Type 0
HasOneOplockEach v = (handle : ℕ) → how_many (is_of handle) v.oplocks ≤ 1

-- each break in progress has its own number
abbrev pub HasOneBreakEach : Volume → Type 0
HasOneBreakEach v = (number : ℕ) → how_many (is_breaking number) v.oplocks ≤ 1

-- how many oplocks have no break in progress
abbrev pub is_unbroken : Oplock → Bool
is_unbroken oplock = not (is_some oplock.target)

abbrev pub unbroken : Volume → ℕ
unbroken v = how_many is_unbroken v.oplocks

-- the blocker's number has been given
abbrev pub is_given : Volume → Blocker → Bool
is_given v (blocker.Break number) = nat_le number v.last_break
is_given v (blocker.Lock number) = nat_le number v.last_lock

-- a call that an oplock is granted to isn't held
abbrev pub GrantsNoneHeld : Volume → Type 0
GrantsNoneHeld v = (turn : ℕ) → 1 ≤ how_many (is_granted_under turn) v.oplocks → how_many (λ entry. entry.0 == turn && is_held entry.1) v.pending ≡ 0

-- ---- what a settlement asks

-- a request that breaks or locks can hold
abbrev pub may_be_held : What → Bool
may_be_held (Ask (Create path wanted share disposition options attributes key)) = true
may_be_held (Ask (Read handle at count)) = true
may_be_held (Ask (Write handle at bytes)) = true
may_be_held (Ask (SetEnd handle length)) = true
may_be_held (Ask (Lock handle at count exclusive wait)) = true
may_be_held (Ask (Rename handle path replace)) = true
may_be_held (Ask (Link handle path replace)) = true
may_be_held (Ask (SetDisposition handle delete)) = true
may_be_held _ = false

-- a call that is pending under this turn
abbrev pub is_under : ℕ → ℕ × Pending → Bool
is_under turn entry = entry.0 == turn

-- a call that is held and can't be
abbrev pub is_held_wrongly : ℕ × Pending → Bool
is_held_wrongly entry = is_held entry.1 && not (may_be_held entry.1.call.what)

-- a handle has at most one oplock, a turn at most one pending call, and only what can be held is
pub record MaySettle (v : Volume) : Type 0 where
  pub oplocks : HasOneOplockEach v
  pub turns : (turn : ℕ) → how_many (is_under turn) v.pending ≤ 1
  pub held : how_many is_held_wrongly v.pending ≡ 0

-- some blocker of the call has a number that isn't given
abbrev pub is_ungiven : Volume → ℕ × Pending → Bool
is_ungiven v entry = list_any (λ b. not (is_given v b)) entry.1.blockers

-- what lives, and what is waited for, has a number that was given
pub record HasGiven (v : Volume) : Type 0 where
  pub living : (b : Blocker) → blocker_lives v b ≡ true → is_given v b ≡ true
  pub blockers : how_many (is_ungiven v) v.pending ≡ 0
  -- a handle has at most one oplock, and each break in progress its own number
  pub oplocks : HasOneOplockEach v
  pub ones : HasOneBreakEach v

-- what a settlement asks of the volume that it begins with
pub record MayTakeUp (v : Volume) : Type 0 where
  pub may : MaySettle v
  pub once : IsOnce v
  pub none_held : GrantsNoneHeld v
  pub given : HasGiven v

-- ---- what a turn asks

-- what a turn asks of the volume that it begins with
pub record MayTurn (v : Volume) : Type 0 where
  pub take_up : MayTakeUp v
  -- no call is pending under a turn that is still to come, and no oplock is granted to one
  pub turns : how_many (λ e. nat_lt (made v) e.0) v.pending ≡ 0
  pub granted : (turn : ℕ) → made v < turn → how_many (is_granted_under turn) v.oplocks ≡ 0

-- ---- what a settlement keeps

-- the first ends begin the second
pub record AddsEnds (before after : List EndOf) : Type 0 where
  pub more : List EndOf
  pub is : after ≡ before ++ more

-- changes were only added, and a watch that goes back before them stood there as it is
pub record Watches (v w : Volume) : Type 0 where
  pub more : List Change
  pub changes : w.changes ≡ v.changes ++ more
  pub watches : (test : Watch → Bool) → how_many (λ watch. test watch && nat_lt watch.from (length v.changes)) w.watches ≤ how_many test v.watches

-- at most so many numbers of each kind have been given, and twice as many of streams
pub record GivesAtMost (v : Volume) (most : ℕ) : Type 0 where
  pub files : v.last_file ≤ most
  pub links : v.last_link ≤ most
  pub streams : v.last_stream ≤ most * 2
  pub handles : v.last_handle ≤ most
  pub locks : v.last_lock ≤ most

-- no living blocker holds it
abbrev pub is_free : Volume → ℕ × Pending → Bool
is_free v entry = not (is_blocked (blocker_lives v) entry.1)

-- the calls that aren't held by a living blocker
abbrev pub how_many_free : Volume → ℕ
how_many_free v = how_many (is_free v) v.pending

-- how many held calls are pending under this turn that no living blocker holds
abbrev pub is_let_go_under : ℕ → Volume → ℕ × Pending → Bool
is_let_go_under turn v entry = is_under turn entry && (is_held entry.1 && is_free v entry)

abbrev pub let_go : ℕ → Volume → ℕ
let_go turn v = how_many (is_let_go_under turn v) v.pending

-- how far a settlement that began with this volume has come
pub record GoesOn (v : Volume) (s : Settling) : Type 0 where
  pub may : MaySettle s.volume
  pub once : IsOnce s.volume
  pub none_held : GrantsNoneHeld s.volume
  pub given : HasGiven s.volume
  -- each call is as often there as at the beginning
  pub times : (client number : ℕ) → times client number s.volume ≡ times client number v
  pub made : made s.volume ≡ made v
  -- no call is pending under another turn, and no oplock is granted
  pub under : (test : ℕ → Bool) → how_many (λ e. test e.0) s.volume.pending ≤ how_many (λ e. test e.0) v.pending
  pub granted : (turn : ℕ) → how_many (is_granted_under turn) s.volume.oplocks ≤ how_many (is_granted_under turn) v.oplocks
  pub ended : AddsEnds v.ended s.volume.ended
  pub seen : Watches v s.volume
  pub gives : (more : ℕ) → GivesAtMost v (length v.ended + more) → GivesAtMost s.volume (length s.volume.ended + more)
  pub breaks : s.volume.last_break + unbroken s.volume ≤ v.last_break + unbroken v
  -- the held calls that no living blocker held then were taken up once, or are still to be
  pub taken : (turn : ℕ) → how_many (λ t. t == turn) s.taken + let_go turn s.volume ≡ let_go turn v
  -- in order of turns
  pub in_order : AllPairs (λ a b. a < b) s.taken
  pub below : (turn : ℕ) → 1 ≤ let_go turn s.volume → All (λ t. t < turn) s.taken

-- ---- how far its loop has come

-- the settlement from here on
abbrev pub taken_up_from : Settling → Settling
taken_up_from s = repeated settle_step (length s.volume.pending) s

-- the call that is taken up leaves this volume, and these calls starve in it, none or itself
pub record TakesUp (v : Volume) (entry : ℕ × Pending) (more : List CallId) (w : Volume) : Type 0 where
  pub is : w ≡ (taken_up (record { volume = v; starved = more; taken = [] }) entry).volume
  pub all : (taken_up (record { volume = v; starved = more; taken = [] }) entry).starved ≡ []

-- the next call is taken up
pub record TakesNext (v : Volume) (more : List CallId) (w : Volume) : Type 0 where
  pub entry : ℕ × Pending
  pub found : next_ready v ≡ Some entry
  pub takes : TakesUp v entry more w

-- the client's call of this number
abbrev pub is_call_of : ℕ → ℕ → ℕ × Pending → Bool
is_call_of client number entry = is_call client number entry.1

-- a Notify
abbrev pub asks_report : What → Bool
asks_report (Ask (Notify handle filter tree room)) = true
asks_report _ = false

-- the call is pending: it is held, and no living blocker holds it; or it is a Notify
abbrev pub IsLetGo : Volume → ℕ → ℕ → Type 0
IsLetGo v client number = ((turn : ℕ) × (1 ≤ how_many (λ e. is_call_of client number e && is_let_go_under turn v e) v.pending))
    ⊎ (1 ≤ how_many (λ e. is_call_of client number e && asks_report e.1.call.what) v.pending)

-- so is each of these calls
abbrev pub AreLetGo : Volume → List CallId → Type 0
AreLetGo v [] = Unit {0}
AreLetGo v (id ∷ more) = IsLetGo v id.client id.number × AreLetGo v more

-- from the first volume on the loop has come to the last one, and these calls have starved: whatever calls are
-- still to starve, the settlement goes on from here
pub record Reaches (v : Volume) (names : List CallId) (w : Volume) : Type 0 where
  pub taken : List ℕ
  pub on : GoesOn v (record { volume = w; starved = []; taken = taken })
  pub goes : (rest : List CallId) → AreLetGo w rest → taken_up_from (record { volume = w; starved = rest; taken = taken }) ≡ taken_up_all v (names ++ rest)
