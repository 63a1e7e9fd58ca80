-- A try of a call that is never held keeps what a settlement asks of the volume: no handle gets an oplock, no
-- call becomes pending, and each call is as often there.
use Rattle.std.proofs.Common.{length, sym, append-nil, ◌&&◌, ◌≡◌, ℕ, ◌+◌, ◌≤◌, Bool, true, false, not, List, [], ◌∷◌, refl, ap, arith, inl, inr, Option, Some, None, ◌∙◌}
use Rattle.std.specs.List.{filter}
use Rattle.std.specs.Option.{option_map_or}
use Rattle.std.specs.Prelude.{◌==◌, nat_lt, find, is_some, if◌then◌else◌}
use Rattle.fsa_types.specs.Access.{has_any}
use Rattle.fsa_types.specs.Rows.{row_of, lives, without_row}
use Rattle.fsa_types.specs.declared.reply.Blocker.{Blocker}
use Rattle.fsa_types.specs.declared.reply.Blocker.TheVariants as blocker
use Rattle.fsa_types.specs.declared.reply.Body.TheVariants.{Nothing}
use Rattle.fsa_types.specs.declared.reply.Interim.{Interim}
use Rattle.fsa_types.specs.declared.reply.Reply.{Reply}
use Rattle.fsa_types.specs.declared.request.What.{What}
use Rattle.fsa_types.specs.declared.status.Status.{Status}
use Rattle.fsa_types.specs.declared.status.Status.TheVariants.{Success, InvalidHandle, InvalidParameter, AccessDenied, RangeNotLocked, Cancelled, DeletePending}
use Rattle.fsa_model.specs.Close.{is_call_on, closed_status, is_left_behind, pending_by_turn, with_calls_ended, named_stream, is_link_of_parent, with_mark_on_close, is_stream_over, with_stream_swept, is_link_over, name_bit, with_link_swept, with_swept, with_closed, close_at, try_close, handles_of_client, with_all_closed, with_client_gone, try_leave}
use Rattle.fsa_model.specs.Edits.{with_end, with_left, with_stream_marked, without_file_unless_linked, without_handle, without_link, without_lock, is_call, is_lock_on, with_ticks}
use Rattle.fsa_model.specs.Locking.{unlock_range, unlock_by, unlock_at, try_unlock}
use Rattle.fsa_model.specs.Lookups.{handle_of, has_row, is_link_marked, number_of}
use Rattle.fsa_model.specs.Once.{how_many}
use Rattle.fsa_model.specs.Outcome.{Outcome, Done, Stay, Hold, refused, ends_with}
use Rattle.fsa_model.specs.Volume.{Handle, Link, Lock, Oplock, Pending, Watch, Volume}
use Rattle.fsa_model.specs.Waiting.{blocker_lives, is_breaking, has_ended, is_pending, try_wait, is_granted_under, with_oplock_given_up, with_cancelled, try_cancel}
use Rattle.fsa_model.proofs.CountLaws.{and_left, how_many-weaker, how_many-filter_le, how_many-in_order, how_many-some}
use Rattle.fsa_model.proofs.OnceLaws.{AddsEnds-same, ended-calls_ended, SameBlockers, is_call_of, fewer-calls_ended, times-calls_ended, made-calls_ended, blockers-calls_ended}
use Rattle.fsa_model.proofs.RowLaws.{option_cases, find-any}
use Rattle.fsa_model.proofs.TryLaws.{Watches-equal, SameNumbers, SameNumbers-same, SameNumbers-next, Keeps, KeepsNumbers, KeepsNumbers-old, KeepsNumbers-same, KeepsNumbers-next, KeepsNumbers-untouched, KeepsNumbers-ends, is_given, Untouched, Untouched-same, Untouched-next, Untouched-noted, Leaves, KeepsNumbers-leaves, Tries, TriesTo}
use Rattle.fsa_model.proofs.WatchLaws.{Untouched-seen, Watches-begun, watching-calls_ended}
use Rattle.fsa_model.specs.Watching.{watch_of, report, with_watch_seen, with_watch_begun, is_something_due, notify_due, is_notify_filter, notify_by, notify_at, try_notify}
use Rattle.std.proofs.lemmas.Bool.{cases_Bool}
use Rattle.fsa_model.proofs.WaitLaws.{is_unbroken, unbroken, is_of, find-passes, any-of_filter, HasOneOplockEach}
use Rattle.fsa_model.proofs.ObeyLaws.{Obeys, SparesTo, may_be_held}
use Rattle.fsa_types.specs.declared.request.Call.{Call}

-- ---- what such a try keeps

-- and it gives no number
pub record KeepsAll (v w : Volume) : Type 0 where
  pub kept : KeepsNumbers v w
  pub same : SameNumbers v w

pub KeepsAll-old : (v w : Volume) → SameNumbers v w → Keeps v w → ((b : Blocker) → blocker_lives w b ≡ true → blocker_lives v b ≡ true) → ((b : Blocker) → is_given v b ≡ true → is_given w b ≡ true)
    → w.last_break + unbroken w ≤ v.last_break + unbroken v → ((number : ℕ) → how_many (is_breaking number) w.oplocks ≤ how_many (is_breaking number) v.oplocks) → KeepsAll v w
KeepsAll-old v w same keeps old given breaks fewer = record { kept = KeepsNumbers-old v w keeps old given breaks fewer; same = same }

pub KeepsAll-same : (v : Volume) → KeepsAll v v
KeepsAll-same v = record { kept = KeepsNumbers-same v; same = SameNumbers-same v }

pub KeepsAll-next : {u v w : Volume} → KeepsAll u v → KeepsAll v w → KeepsAll u w
KeepsAll-next first second = record { kept = KeepsNumbers-next first.kept second.kept; same = SameNumbers-next first.same second.same }

KeepsAll-untouched : (v w : Volume) → Untouched v w → KeepsAll v w
KeepsAll-untouched v w un = record { kept = KeepsNumbers-untouched v w un; same = un.numbers }

pub KeepsAll-ends : (v : Volume) (client number : ℕ) (reply : Reply) → 1 ≤ how_many (is_call_of client number) v.pending → KeepsAll v (with_end v client number reply)
KeepsAll-ends v client number reply pends = record { kept = KeepsNumbers-ends v client number reply pends; same = record { files = refl; links = refl; streams = refl; handles = refl; locks = refl } }

-- ---- how a try ends

-- it ends its call, or the call stays pending and waits for no blocker
abbrev pub KeptTo : Volume → Outcome → Type 0
KeptTo v (Done after reply) = KeepsAll v after
KeptTo v (Stay after interim) = KeepsAll v after
KeptTo v (Hold after blockers interim) = ⊥

pub record Kept (v : Volume) (outcome : Outcome) : Type 0 where
  pub so : KeptTo v outcome

pub Kept-done : {v : Volume} (w : Volume) (reply : Reply) → KeepsAll v w → Kept v (Done w reply)
Kept-done w reply keeps = record { so = keeps }

pub Kept-refused : (v : Volume) (status : Status) → Kept v (refused v status)
Kept-refused v status = record { so = KeepsAll-same v }

Kept-stay : {v : Volume} (w : Volume) (interim : Interim) → KeepsAll v w → Kept v (Stay w interim)
Kept-stay w interim keeps = record { so = keeps }

pub Kept-if : {v : Volume} (test : Bool) (one other : Outcome) → (test ≡ true → Kept v one) → (test ≡ false → Kept v other) → Kept v (if test then one else other)
Kept-if true one other holds fails = holds refl
Kept-if false one other holds fails = fails refl

Kept-option : {X : Type 0} {v : Volume} (found : Option X) (some : X → Outcome) (none : Outcome)
    → ((x : X) → found ≡ Some x → Kept v (some x)) → Kept v none → Kept v (option_map_or some found none)
Kept-option None some none with_some with_none = with_none
Kept-option (Some x) some none with_some with_none = with_some x refl

kept_to-obeys : (what : What) (v : Volume) (outcome : Outcome) → may_be_held what ≡ false → TriesTo Leaves v outcome → SparesTo what v outcome → KeptTo v outcome
kept_to-obeys what v (Done w reply) never tries spares = record { kept = KeepsNumbers-leaves tries.0; same = spares never }
kept_to-obeys what v (Stay w interim) never tries spares = absurd tries
kept_to-obeys what v (Hold w blockers interim) never tries spares = (let impossible : true ≡ false = sym spares ∙ never in cc)

-- what is never held and keeps what every try keeps
pub Kept-obeys : {call : Call} {v : Volume} {outcome : Outcome} → HasOneOplockEach v → may_be_held call.what ≡ false → Obeys call v outcome → Kept v outcome
Kept-obeys {call} {v} {outcome} one never obeys = record { so = kept_to-obeys call.what v outcome never (Tries.so (obeys.tries one)) obeys.spares }

-- ---- closes, and clients that leave

Keeps-calls_ended : (status_of : What → Status) (calls : List (ℕ × Pending)) (v : Volume)
    → ((client number : ℕ) → how_many (is_call_of client number) calls ≤ how_many (is_call_of client number) v.pending) → Keeps v (with_calls_ended status_of calls v)
Keeps-calls_ended status_of calls v pend = record {
  granted = λ turn. (let same = ap (λ (oplocks : List Oplock). how_many (is_granted_under turn) oplocks) (SameBlockers.oplocks (blockers-calls_ended status_of calls v)) in omega arith);
  oplocks = λ handle. (let same = ap (λ (oplocks : List Oplock). how_many (is_of handle) oplocks) (SameBlockers.oplocks (blockers-calls_ended status_of calls v)) in omega arith);
  pending = λ test. fewer-calls_ended status_of calls v test;
  times = λ once client number. times-calls_ended status_of calls v once pend client number;
  made = λ once. made-calls_ended status_of calls v once pend;
  ended = ended-calls_ended status_of calls v;
  seen = (let same = watching-calls_ended status_of calls v in Watches-equal same.changes same.watches);
}

lives-calls_ended : (v w : Volume) (b : Blocker) → SameBlockers v w → blocker_lives w b ≡ true → blocker_lives v b ≡ true
lives-calls_ended v w (blocker.Break number) same lives = rw same.oplocks at lives
lives-calls_ended v w (blocker.Lock number) same lives = rw same.locks at lives

given-calls_ended : (v w : Volume) (b : Blocker) → SameBlockers v w → is_given v b ≡ true → is_given w b ≡ true
given-calls_ended v w (blocker.Break number) same is = rw same.last_break is
given-calls_ended v w (blocker.Lock number) same is = rw same.last_lock is

numbers-calls_ended : (status_of : What → Status) (calls : List (ℕ × Pending)) (v : Volume) → SameNumbers v (with_calls_ended status_of calls v)
numbers-calls_ended status_of [] v = SameNumbers-same v
numbers-calls_ended status_of (entry ∷ calls) v =
    (let rest = numbers-calls_ended status_of calls (with_end v entry.1.call.client entry.1.call.number (record { status = status_of entry.1.call.what; body = Nothing })) in
    record { files = rest.files; links = rest.links; streams = rest.streams; handles = rest.handles; locks = rest.locks })

pub KeepsAll-calls_ended : (status_of : What → Status) (calls : List (ℕ × Pending)) (v : Volume)
    → ((client number : ℕ) → how_many (is_call_of client number) calls ≤ how_many (is_call_of client number) v.pending) → KeepsAll v (with_calls_ended status_of calls v)
KeepsAll-calls_ended status_of calls v pend =
    let same = blockers-calls_ended status_of calls v in
    KeepsAll-old v (with_calls_ended status_of calls v) (numbers-calls_ended status_of calls v) (Keeps-calls_ended status_of calls v pend)
    (λ b lives. lives-calls_ended v (with_calls_ended status_of calls v) b same lives) (λ b is. given-calls_ended v (with_calls_ended status_of calls v) b same is)
    (let is = ap (λ (oplocks : List Oplock). how_many is_unbroken oplocks) same.oplocks in let last = same.last_break in omega arith)
    (λ number. (let is = ap (λ (oplocks : List Oplock). how_many (is_breaking number) oplocks) same.oplocks in omega arith))

pub Keeps-ended_by_turn : (status_of : What → Status) (test : Pending → Bool) (v : Volume) → KeepsAll v (with_calls_ended status_of (pending_by_turn test v) v)
Keeps-ended_by_turn status_of test v = KeepsAll-calls_ended status_of (pending_by_turn test v) v (λ client number.
    let ordered = how_many-in_order (is_call_of client number) (λ a b. nat_lt a.0 b.0) (filter (λ e. test e.1) v.pending) in
    let kept = how_many-filter_le (is_call_of client number) (λ e. test e.1) v.pending in omega arith)

Keeps-without_handle : (v : Volume) (id : ℕ) → Keeps v (without_handle v id)
Keeps-without_handle v id = record {
  granted = λ turn. how_many-filter_le (is_granted_under turn) (λ (o : Oplock). not (o.handle == id)) v.oplocks;
  oplocks = λ handle. how_many-filter_le (is_of handle) (λ (o : Oplock). not (o.handle == id)) v.oplocks;
  pending = λ test. omega arith;
  times = λ once client number. refl;
  made = λ once. refl;
  ended = AddsEnds-same v.ended;
  seen = record {
    more = [];
    changes = sym (append-nil v.changes);
    watches = λ test.
        (let kept = how_many-filter_le (λ (watch : Watch). test watch && nat_lt watch.from (length v.changes)) (λ watch. not (watch.handle == id)) v.watches in
        let weaker = how_many-weaker (λ (watch : Watch). test watch && nat_lt watch.from (length v.changes)) test v.watches (λ watch both. and_left (test watch) (nat_lt watch.from (length v.changes)) both) in omega arith);
  };
}

-- fewer oplocks and locks
lives-fewer : (v w : Volume) (keep : Oplock → Bool) (keep_lock : ℕ × Lock → Bool) (b : Blocker) → w.oplocks ≡ filter keep v.oplocks → w.locks ≡ filter keep_lock v.locks
    → blocker_lives w b ≡ true → blocker_lives v b ≡ true
lives-fewer v w keep keep_lock (blocker.Break number) oplocks locks lives = any-of_filter (is_breaking number) keep v.oplocks (rw oplocks at lives)
lives-fewer v w keep keep_lock (blocker.Lock number) oplocks locks lives = any-of_filter (λ (entry : ℕ × Lock). entry.0 == number) keep_lock v.locks (rw locks at lives)

KeepsAll-without_handle : (v : Volume) (id : ℕ) → KeepsAll v (without_handle v id)
KeepsAll-without_handle v id =
    KeepsAll-old v (without_handle v id) (record { files = refl; links = refl; streams = refl; handles = refl; locks = refl }) (Keeps-without_handle v id)
    (λ b lives. lives-fewer v (without_handle v id) (λ o. not (o.handle == id)) (λ entry. not (entry.1.handle == id)) b refl refl lives) (λ b is. is)
    (let fewer = how_many-filter_le is_unbroken (λ (o : Oplock). not (o.handle == id)) v.oplocks in omega arith)
    (λ number. how_many-filter_le (is_breaking number) (λ (o : Oplock). not (o.handle == id)) v.oplocks)

Untouched-if : {v : Volume} (test : Bool) (one other : Volume) → Untouched v one → Untouched v other → Untouched v (if test then one else other)
Untouched-if true one other holds fails = holds
Untouched-if false one other holds fails = fails

Untouched-option : {X : Type 0} {v : Volume} (found : Option X) (some : X → Volume) (none : Volume) → ((x : X) → Untouched v (some x)) → Untouched v none
    → Untouched v (option_map_or some found none)
Untouched-option None some none with_some with_none = with_none
Untouched-option (Some x) some none with_some with_none = with_some x

pub Untouched-mark_on_close : (v : Volume) (handle : Handle) → Untouched v (with_mark_on_close v handle)
Untouched-mark_on_close v handle =
    Untouched-if (not handle.delete_on_close) v _ (Untouched-same v)
    (Untouched-option (named_stream v handle) (λ stream. with_stream_marked v stream true) _ (λ stream. record { oplocks = refl; locks = refl; pending = refl; ended = refl; last_break = refl; seen = Watches-equal refl refl; opens = refl; numbers = record { files = refl; links = refl; streams = refl; handles = refl; locks = refl } })
    (Untouched-if (is_link_of_parent v handle.link) v _ (Untouched-same v) (record { oplocks = refl; locks = refl; pending = refl; ended = refl; last_break = refl; seen = Watches-equal refl refl; opens = refl; numbers = record { files = refl; links = refl; streams = refl; handles = refl; locks = refl } })))

Untouched-stream_swept : (v : Volume) (link stream : ℕ) → Untouched v (with_stream_swept v link stream)
Untouched-stream_swept v link stream =
    Untouched-if (is_stream_over v stream) _ v
    (Untouched-next (Untouched-noted v link 7 0x200 (Some stream)) (record { oplocks = refl; locks = refl; pending = refl; ended = refl; last_break = refl; seen = Watches-equal refl refl; opens = refl; numbers = record { files = refl; links = refl; streams = refl; handles = refl; locks = refl } })) (Untouched-same v)

Untouched-without_link : (v : Volume) (link : ℕ) → Untouched v (without_link v link)
Untouched-without_link v link =
    Untouched-option (row_of v.links link) (λ (row : Link). without_file_unless_linked (record v { links = without_row v.links link }) row.file) v
    (λ (row : Link). Untouched-if (has_row (λ (other : Link). other.file == row.file) (without_row v.links link)) _ _ (record { oplocks = refl; locks = refl; pending = refl; ended = refl; last_break = refl; seen = Watches-equal refl refl; opens = refl; numbers = record { files = refl; links = refl; streams = refl; handles = refl; locks = refl } })
    (record { oplocks = refl; locks = refl; pending = refl; ended = refl; last_break = refl; seen = Watches-equal refl refl; opens = refl; numbers = record { files = refl; links = refl; streams = refl; handles = refl; locks = refl } }))
    (Untouched-same v)

Untouched-link_swept : (v : Volume) (link : ℕ) → Untouched v (with_link_swept v link)
Untouched-link_swept v link =
    Untouched-if (is_link_over v link) _ v (Untouched-next (Untouched-noted v link 2 (name_bit v link) None) (Untouched-without_link _ link)) (Untouched-same v)

pub Untouched-swept : (v : Volume) (handle : Handle) → Untouched v (with_swept v handle)
Untouched-swept v handle =
    Untouched-next (Untouched-option handle.stream (λ stream. with_stream_swept v handle.link stream) v (λ stream. Untouched-stream_swept v handle.link stream) (Untouched-same v))
    (Untouched-link_swept _ handle.link)

pub Keeps-closed : (v : Volume) (id : ℕ) (handle : Handle) → KeepsAll v (with_closed v id handle)
unfolding with_closed
Keeps-closed v id handle =
    let ended : Volume = with_calls_ended closed_status (pending_by_turn (is_call_on handle) v) v in
    let gone : Volume = without_handle ended id in
    let marked : Volume = with_mark_on_close gone handle in
    KeepsAll-next (Keeps-ended_by_turn closed_status (is_call_on handle) v)
    (KeepsAll-next (KeepsAll-without_handle ended id)
    (KeepsAll-next (KeepsAll-untouched gone marked (Untouched-mark_on_close gone handle)) (KeepsAll-untouched marked (with_swept marked handle) (Untouched-swept marked handle))))

close_at-kept : (v : Volume) (id : ℕ) → Kept v (close_at v id)
unfolding close_at
close_at-kept v id =
    Kept-option (row_of v.handles id) (λ handle. ends_with (with_closed v id handle) Success) _ (λ handle found. Kept-done _ _ (Keeps-closed v id handle)) (Kept-refused v InvalidHandle)

pub try_close-kept : (v : Volume) (client handle : ℕ) → Kept v (try_close v client handle)
unfolding try_close
try_close-kept v client handle = Kept-option (handle_of v client handle) (λ id. close_at v id) _ (λ id found. close_at-kept v id) (Kept-refused v InvalidHandle)

pub Keeps-all_closed : (handles : List (ℕ × Handle)) (v : Volume) → KeepsAll v (with_all_closed handles v)
Keeps-all_closed [] v = KeepsAll-same v
Keeps-all_closed (entry ∷ handles) v = KeepsAll-next (Keeps-closed v entry.0 entry.1) (Keeps-all_closed handles (with_closed v entry.0 entry.1))

Untouched-left : (v : Volume) (client : ℕ) → Untouched v (with_left v client)
Untouched-left v client = record { oplocks = refl; locks = refl; pending = refl; ended = refl; last_break = refl; seen = Watches-equal refl refl; opens = refl; numbers = record { files = refl; links = refl; streams = refl; handles = refl; locks = refl } }

pub try_leave-kept : (v : Volume) (client : ℕ) → Kept v (try_leave v client)
unfolding try_leave with_client_gone
try_leave-kept v client =
    let ended : Volume = with_calls_ended (λ _. Cancelled) (pending_by_turn (is_left_behind client) v) v in
    let closed : Volume = with_all_closed (handles_of_client v client) ended in
    Kept-done (with_left closed client) _ (KeepsAll-next (Keeps-ended_by_turn (λ _. Cancelled) (is_left_behind client) v)
    (KeepsAll-next (Keeps-all_closed (handles_of_client v client) ended) (KeepsAll-untouched closed (with_left closed client) (Untouched-left closed client))))

-- ---- watches and unlocks

-- a Notify only sees to its watch
pub KeepsAll-begun : (v : Volume) (id filter : ℕ) (tree : Bool) → KeepsAll v (with_watch_begun v id filter tree)
KeepsAll-begun v id filter tree = elim (cases_Bool (is_some (watch_of v id))) [
  | inl is ↦ rw is (KeepsAll-same v)
  | inr isnt ↦ rw isnt (KeepsAll-untouched v _ (record { oplocks = refl; locks = refl; pending = refl; ended = refl; last_break = refl; seen = Watches-begun v id filter tree; opens = refl; numbers = record { files = refl; links = refl; streams = refl; handles = refl; locks = refl } }))
]

notify_due-kept : (v w : Volume) (id room : ℕ) → KeepsAll v w → Kept v (notify_due w id room)
notify_due-kept v w id room kept =
    Kept-if (is_something_due w id) _ _ (λ is. Kept-done (with_watch_seen w id) (report w id room) (KeepsAll-next kept (KeepsAll-untouched w (with_watch_seen w id) (Untouched-seen w id))))
    (λ no. Kept-stay w _ kept)

notify_by-kept : (v : Volume) (id : ℕ) (handle : Handle) (filter : ℕ) (tree : Bool) (room : ℕ) → Kept v (notify_by v id handle filter tree room)
notify_by-kept v id handle filter tree room =
    Kept-if (is_some handle.stream) _ _ (λ is. Kept-refused v InvalidParameter)
    (λ no. Kept-if (not (has_any handle.access 0x1)) _ _ (λ is. Kept-refused v AccessDenied)
    (λ no. Kept-if (not (is_notify_filter filter)) _ _ (λ is. Kept-refused v InvalidParameter)
    (λ no. Kept-if (is_link_marked v handle.link) _ _ (λ is. Kept-refused v DeletePending)
    (λ no. notify_due-kept v (with_watch_begun v id filter tree) id room (KeepsAll-begun v id filter tree)))))

notify_at-kept : (v : Volume) (id filter : ℕ) (tree : Bool) (room : ℕ) → Kept v (notify_at v id filter tree room)
unfolding notify_at
notify_at-kept v id filter tree room = Kept-option (row_of v.handles id) _ _ (λ handle found. notify_by-kept v id handle filter tree room) (Kept-refused v InvalidHandle)

pub try_notify-kept : (v : Volume) (client handle filter : ℕ) (tree : Bool) (room : ℕ) → Kept v (try_notify v client handle filter tree room)
unfolding try_notify
try_notify-kept v client handle filter tree room = Kept-option (handle_of v client handle) _ _ (λ id found. notify_at-kept v id filter tree room) (Kept-refused v InvalidHandle)

Keeps-without_lock : (v : Volume) (id at count : ℕ) → Keeps v (without_lock v id at count)
Keeps-without_lock v id at count = record { granted = λ turn. omega arith; oplocks = λ handle. omega arith; pending = λ test. omega arith; times = λ once client number. refl; made = λ once. refl; ended = AddsEnds-same v.ended; seen = Watches-equal refl refl }

KeepsAll-without_lock : (v : Volume) (id at count : ℕ) → KeepsAll v (without_lock v id at count)
KeepsAll-without_lock v id at count =
    KeepsAll-old v (without_lock v id at count) (record { files = refl; links = refl; streams = refl; handles = refl; locks = refl }) (Keeps-without_lock v id at count)
    (λ b lives. old b lives) (λ b is. is) (omega arith) (λ number. omega arith)
  where
    locks_old : (found : Option ℕ) (number : ℕ) → lives (option_map_or (λ (n : ℕ). without_row v.locks n) found v.locks) number ≡ true → lives v.locks number ≡ true
    locks_old None number is = is
    locks_old (Some n) number is = any-of_filter (λ (entry : ℕ × Lock). entry.0 == number) (λ entry. not (entry.0 == n)) v.locks is

    old : (b : Blocker) → blocker_lives (without_lock v id at count) b ≡ true → blocker_lives v b ≡ true
    old (blocker.Break number) is = is
    old (blocker.Lock number) is = locks_old (number_of (is_lock_on id at count) v.locks) number is

unlock_range-kept : (v : Volume) (id at count : ℕ) → Kept v (unlock_range v id at count)
unfolding unlock_range
unlock_range-kept v id at count =
    Kept-option (number_of (is_lock_on id at count) v.locks) (λ _. ends_with (without_lock v id at count) Success) _ (λ number found. Kept-done _ _ (KeepsAll-without_lock v id at count)) (Kept-refused v RangeNotLocked)

unlock_by-kept : (v : Volume) (id : ℕ) (handle : Handle) (at count : ℕ) → Kept v (unlock_by v id handle at count)
unfolding unlock_by
unlock_by-kept v id handle at count = Kept-option handle.stream (λ _. unlock_range v id at count) _ (λ stream is. unlock_range-kept v id at count) (Kept-refused v InvalidParameter)

unlock_at-kept : (v : Volume) (id at count : ℕ) → Kept v (unlock_at v id at count)
unfolding unlock_at
unlock_at-kept v id at count = Kept-option (row_of v.handles id) (λ handle. unlock_by v id handle at count) _ (λ handle found. unlock_by-kept v id handle at count) (Kept-refused v InvalidHandle)

pub try_unlock-kept : (v : Volume) (client handle at count : ℕ) → Kept v (try_unlock v client handle at count)
unfolding try_unlock
try_unlock-kept v client handle at count = Kept-option (handle_of v client handle) (λ id. unlock_at v id at count) _ (λ id found. unlock_at-kept v id at count) (Kept-refused v InvalidHandle)

-- ---- waits, cancellations and the clock

pub try_wait-kept : (v : Volume) (client number : ℕ) → Kept v (try_wait v client number)
unfolding try_wait
try_wait-kept v client number =
    Kept-if (has_ended v client number) _ _ (λ is. Kept-done v _ (KeepsAll-same v))
    (λ no. Kept-if (is_pending v client number) _ _ (λ is. Kept-stay v _ (KeepsAll-same v)) (λ isnt. Kept-refused v InvalidParameter))

Keeps-given_up : (v : Volume) (turn : ℕ) → Keeps v (with_oplock_given_up v turn)
Keeps-given_up v turn = record {
  granted = λ other. how_many-filter_le (is_granted_under other) (λ (o : Oplock). not (is_granted_under turn o)) v.oplocks;
  oplocks = λ handle. how_many-filter_le (is_of handle) (λ (o : Oplock). not (is_granted_under turn o)) v.oplocks;
  pending = λ test. omega arith;
  times = λ once client number. refl;
  made = λ once. refl;
  ended = AddsEnds-same v.ended;
  seen = Watches-equal refl refl;
}

pub KeepsAll-given_up : (v : Volume) (turn : ℕ) → KeepsAll v (with_oplock_given_up v turn)
KeepsAll-given_up v turn = KeepsAll-old v (with_oplock_given_up v turn) (record { files = refl; links = refl; streams = refl; handles = refl; locks = refl }) (Keeps-given_up v turn) (λ b lives. old b lives) (λ b is. is) (let fewer = how_many-filter_le is_unbroken (λ (o : Oplock). not (is_granted_under turn o)) v.oplocks in omega arith)
    (λ number. how_many-filter_le (is_breaking number) (λ (o : Oplock). not (is_granted_under turn o)) v.oplocks)
  where
    old : (b : Blocker) → blocker_lives (with_oplock_given_up v turn) b ≡ true → blocker_lives v b ≡ true
    old (blocker.Break number) is = any-of_filter (is_breaking number) (λ (o : Oplock). not (is_granted_under turn o)) v.oplocks is
    old (blocker.Lock number) is = is

-- a call that has a turn is pending
pub pending-numbered : (rows : List (ℕ × Pending)) (client number turn : ℕ) → number_of (is_call client number) rows ≡ Some turn → 1 ≤ how_many (is_call_of client number) rows
pending-numbered rows client number turn found = elim (option_cases (find (is_call_of client number) rows)) [
  | inl none ↦ (let impossible : None ≡ Some turn = rw none at found in cc)
  | inr some ↦ how_many-some (is_call_of client number) rows
      (find-any (is_call_of client number) (is_call_of client number) rows some.0 some.1 (find-passes (is_call_of client number) rows some.0 some.1))
]

pub try_cancel-kept : (v : Volume) (client number : ℕ) → Kept v (try_cancel v client number)
unfolding try_cancel
try_cancel-kept v client number =
    Kept-option (number_of (is_call client number) v.pending) (λ turn. ends_with (with_cancelled v client number turn) Success) _
    (λ turn found. Kept-done _ _ (KeepsAll-next (KeepsAll-given_up v turn) (KeepsAll-ends (with_oplock_given_up v turn) client number _ (pending-numbered v.pending client number turn found))))
    (Kept-refused v InvalidParameter)

pub ticks-kept : (v : Volume) (ticks : ℕ) → Kept v (ends_with (with_ticks v ticks) Success)
ticks-kept v ticks = Kept-done (with_ticks v ticks) _ (KeepsAll-untouched v (with_ticks v ticks) (record { oplocks = refl; locks = refl; pending = refl; ended = refl; last_break = refl; seen = Watches-equal refl refl; opens = refl; numbers = record { files = refl; links = refl; streams = refl; handles = refl; locks = refl } }))
