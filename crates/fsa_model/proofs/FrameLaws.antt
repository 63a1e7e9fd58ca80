-- What a try changes within its frame: one law for each way in which a definition goes on, and one for each edit.
use Rattle.std.proofs.Common.{◌≡◌, ℕ, ◌+◌, ◌≤◌, Bool, true, false, not, List, [], ◌∷◌, ◌++◌, length, get_or, append-nil, append_assoc, refl, ap, sym, subst, ◌∙◌, arith, inl, inr, Option, Some, None}
use Rattle.std.specs.List.{filter, find, list_any, All}
use Rattle.std.specs.Option.{option_map_or}
use Rattle.std.specs.Prelude.{◌==◌, IsTrue, IfSome, slice_set, if◌then◌else◌}
use Rattle.std.proofs.lemmas.Bool.{cases_Bool}
use Rattle.std.proofs.lemmas.List.Elements.{All-nil, All-push, All-append, All-map, All-filter, All-weaker}
use Rattle.fsa_types.specs.Oplocks.{Effect, Stays, Ends, Begins, Lowers, effect}
use Rattle.fsa_types.specs.Rows.{row_of, without_row, with_row_changed}
use Rattle.fsa_types.specs.declared.oplock.Class.{Class}
use Rattle.fsa_types.specs.declared.oplock.HandleSet.{HandleSet}
use Rattle.fsa_types.specs.declared.reply.Blocker.{Blocker}
use Rattle.fsa_types.specs.declared.reply.EndOf.{EndOf}
use Rattle.fsa_types.specs.declared.reply.Interim.{Interim}
use Rattle.fsa_types.specs.declared.reply.Reply.{Reply}
use Rattle.fsa_types.specs.declared.request.Call.{Call}
use Rattle.fsa_types.specs.declared.request.Level.{Level}
use Rattle.fsa_types.specs.declared.request.Level.TheVariants.{Nil}
use Rattle.fsa_types.specs.declared.request.What.{What}
use Rattle.fsa_types.specs.declared.status.Status.{Status}
use Rattle.fsa_model.specs.Bounds.{most_point_bytes}
use Rattle.fsa_model.specs.Breaks.{with_told, with_break_begun, with_effect, with_breaks, chosen}
use Rattle.fsa_model.specs.Changes.{with_change_noted}
use Rattle.fsa_model.specs.Edits.{is_call, with_basic, with_cursor, with_end, without_oplock}
use Rattle.fsa_model.specs.Frame.{ticks_of, is_query_dir, is_failure, FitsReply, IsBare, PointsFit, unenumerated, all_unenumerated, lasting, EndsPending, KeepsFrame, Breaking, with_all_breaks, OnlyBreaks, FailsTo, StaysTo, FramedTo, InFrame}
use Rattle.fsa_model.specs.Outcome.{Outcome, Done, Stay, Hold, ends_with, refused}
use Rattle.fsa_model.specs.Sound.{PointFits}
use Rattle.fsa_model.specs.Volume.{Cursor, File, Handle, Lock, Oplock, Pending, Volume}
use Rattle.fsa_model.specs.Waiting.{is_pending}
use Rattle.fsa_model.specs.Waits.{waits_for, held_by}
use Rattle.fsa_model.proofs.BreakLaws.{broken}
use Rattle.fsa_model.proofs.OnceLaws.{is_same-refl}
use Rattle.fsa_model.proofs.RowLaws.{option_cases, find-any, change_at, change_at-number, change_at-same}
use Rattle.fsa_model.proofs.WaitLaws.{any-of_filter}

-- ---- what adds nothing

-- no handle and no lock is new, no number is given, and what no verb but one may change is as it was
pub record AddsNothing (v w : Volume) : Type 0 where
  pub table : w.table ≡ v.table
  pub clients : w.clients ≡ v.clients
  pub left : w.left ≡ v.left
  pub clock : w.clock ≡ v.clock
  pub handles : (test : ℕ × Handle → Bool) → All (λ entry. IsTrue (test entry)) v.handles → All (λ entry. IsTrue (test entry)) w.handles
  pub locks : (test : ℕ × Lock → Bool) → All (λ entry. IsTrue (test entry)) v.locks → All (λ entry. IsTrue (test entry)) w.locks
  pub last_file : w.last_file ≡ v.last_file
  pub last_link : w.last_link ≡ v.last_link
  pub last_stream : w.last_stream ≡ v.last_stream
  pub last_handle : w.last_handle ≡ v.last_handle
  pub last_lock : w.last_lock ≡ v.last_lock
  pub pending : (client number : ℕ) → IsTrue (is_pending w client number) → IsTrue (is_pending v client number)
  pub ended : EndsPending v w
  pub points : PointsFit v → PointsFit w

pub EndsPending-equal : {v w : Volume} → w.ended ≡ v.ended → EndsPending v w
EndsPending-equal {v} same = record {
  more = [];
  is = same ∙ sym (append-nil v.ended);
  bare = All-nil (λ (end : EndOf). IsBare end.reply.body);
  were_pending = All-nil (λ (end : EndOf). IsTrue (is_pending v end.client end.number));
}

EndsPending-next : {u v w : Volume} → ((client number : ℕ) → IsTrue (is_pending v client number) → IsTrue (is_pending u client number)) → EndsPending u v → EndsPending v w → EndsPending u w
EndsPending-next {u} {v} before first second = record {
  more = first.more ++ second.more;
  is = second.is ∙ ap (λ (ended : List EndOf). ended ++ second.more) first.is ∙ append_assoc u.ended first.more second.more;
  bare = All-append (λ (end : EndOf). IsBare end.reply.body) first.more second.more first.bare second.bare;
  were_pending = All-append (λ (end : EndOf). IsTrue (is_pending u end.client end.number)) first.more second.more first.were_pending
      (All-weaker (λ (end : EndOf). IsTrue (is_pending v end.client end.number)) (λ end. IsTrue (is_pending u end.client end.number)) (λ end is. before end.client end.number is) second.more second.were_pending);
}

pub AddsNothing-next : {u v w : Volume} → AddsNothing u v → AddsNothing v w → AddsNothing u w
AddsNothing-next first second = record {
  table = second.table ∙ first.table;
  clients = second.clients ∙ first.clients;
  left = second.left ∙ first.left;
  clock = second.clock ∙ first.clock;
  handles = λ test all. second.handles test (first.handles test all);
  locks = λ test all. second.locks test (first.locks test all);
  last_file = second.last_file ∙ first.last_file;
  last_link = second.last_link ∙ first.last_link;
  last_stream = second.last_stream ∙ first.last_stream;
  last_handle = second.last_handle ∙ first.last_handle;
  last_lock = second.last_lock ∙ first.last_lock;
  pending = λ client number is. first.pending client number (second.pending client number is);
  ended = EndsPending-next first.pending first.ended second.ended;
  points = λ fit. second.points (first.points fit);
}

-- one volume, with the parts of another in which nothing is added that counts
abbrev pub alike : Volume → Volume → Volume
alike v w = record v {
  links = w.links;
  streams = w.streams;
  oplocks = w.oplocks;
  watches = w.watches;
  changes = w.changes;
  limits = w.limits;
  last_break = w.last_break;
}

-- all but these parts is as it was
pub AddsNothing-alike : (v w : Volume) → w ≡ alike v w → AddsNothing v w
AddsNothing-alike v w same = record {
  table = ap (λ (u : Volume). u.table) same;
  clients = ap (λ (u : Volume). u.clients) same;
  left = ap (λ (u : Volume). u.left) same;
  clock = ap (λ (u : Volume). u.clock) same;
  handles = λ test all. subst (λ (u : Volume). All (λ entry. IsTrue (test entry)) u.handles) (sym same) all;
  locks = λ test all. subst (λ (u : Volume). All (λ entry. IsTrue (test entry)) u.locks) (sym same) all;
  last_file = ap (λ (u : Volume). u.last_file) same;
  last_link = ap (λ (u : Volume). u.last_link) same;
  last_stream = ap (λ (u : Volume). u.last_stream) same;
  last_handle = ap (λ (u : Volume). u.last_handle) same;
  last_lock = ap (λ (u : Volume). u.last_lock) same;
  pending = λ client number is. subst (λ (u : Volume). IsTrue (is_pending u client number)) same is;
  ended = EndsPending-equal (ap (λ (u : Volume). u.ended) same);
  points = λ fit. subst (λ (u : Volume). All (λ entry. PointFits entry.1) u.files) (sym same) fit;
}

pub AddsNothing-same : (v : Volume) → AddsNothing v v
AddsNothing-same v = AddsNothing-alike v v refl

-- ---- edits that add nothing

-- fewer handles and locks
pub AddsNothing-fewer : (v : Volume) (keep : ℕ × Handle → Bool) (keep_lock : ℕ × Lock → Bool) → AddsNothing v (record v { handles = filter keep v.handles; locks = filter keep_lock v.locks })
AddsNothing-fewer v keep keep_lock = record {
  table = refl;
  clients = refl;
  left = refl;
  clock = refl;
  handles = λ test all. All-filter keep (λ entry. IsTrue (test entry)) v.handles all;
  locks = λ test all. All-filter keep_lock (λ entry. IsTrue (test entry)) v.locks all;
  last_file = refl;
  last_link = refl;
  last_stream = refl;
  last_handle = refl;
  last_lock = refl;
  pending = λ client number is. is;
  ended = EndsPending-equal refl;
  points = λ fit. fit;
}

-- other files, with reparse points that fit
pub AddsNothing-files : (v : Volume) (files : List (ℕ × File)) → (All (λ entry. PointFits entry.1) v.files → All (λ entry. PointFits entry.1) files) → AddsNothing v (record v { files = files })
AddsNothing-files v files fit = record {
  table = refl;
  clients = refl;
  left = refl;
  clock = refl;
  handles = λ test all. all;
  locks = λ test all. all;
  last_file = refl;
  last_link = refl;
  last_stream = refl;
  last_handle = refl;
  last_lock = refl;
  pending = λ client number is. is;
  ended = EndsPending-equal refl;
  points = fit;
}

-- a file less
pub AddsNothing-without_file : (v : Volume) (file : ℕ) → AddsNothing v (record v { files = without_row v.files file })
AddsNothing-without_file v file = AddsNothing-files v (without_row v.files file) (λ fit. All-filter (λ entry. not (entry.0 == file)) (λ entry. PointFits entry.1) v.files fit)

-- a file changed, but not its reparse point
pub AddsNothing-file : (v : Volume) (change : File → File) (file : ℕ) → ((row : File) → (change row).point ≡ row.point)
    → AddsNothing v (record v { files = with_row_changed change v.files file })
AddsNothing-file v change file same = AddsNothing-files v (with_row_changed change v.files file) (λ fit.
    All-map (λ entry. PointFits entry.1) (change_at change file) v.files (λ k d within.
    subst (λ (point : Option (ℕ × List ℕ)). IfSome point (λ p. length p.1 ≤ most_point_bytes)) (sym (change_at-same change file (λ row. row.point) same (get_or v.files k d))) (fit k d within)))

-- another call ended, which was pending at first
pub AddsNothing-end : {v w : Volume} (client number : ℕ) (reply : Reply) → AddsNothing v w → IsTrue (is_pending v client number) → IsBare reply.body → AddsNothing v (with_end w client number reply)
AddsNothing-end {v} {w} client number reply nothing was bare = record {
  table = nothing.table;
  clients = nothing.clients;
  left = nothing.left;
  clock = nothing.clock;
  handles = nothing.handles;
  locks = nothing.locks;
  last_file = nothing.last_file;
  last_link = nothing.last_link;
  last_stream = nothing.last_stream;
  last_handle = nothing.last_handle;
  last_lock = nothing.last_lock;
  pending = λ other_client other_number is. nothing.pending other_client other_number (any-of_filter (λ (entry : ℕ × Pending). is_call other_client other_number entry.1) (λ entry. not (is_call client number entry.1)) w.pending is);
  ended = record {
    more = nothing.ended.more ++ end ∷ [];
    is = ap (λ (ended : List EndOf). ended ++ end ∷ []) nothing.ended.is ∙ append_assoc v.ended nothing.ended.more (end ∷ []);
    bare = All-push (λ (e : EndOf). IsBare e.reply.body) nothing.ended.more end nothing.ended.bare bare;
    were_pending = All-push (λ (e : EndOf). IsTrue (is_pending v e.client e.number)) nothing.ended.more end nothing.ended.were_pending was;
  };
  points = nothing.points;
}
  where
    end : EndOf
    end = record { client = client; number = number; reply = reply }

-- a call that is found under its turn is pending
pub is_pending-found : (rows : List (ℕ × Pending)) (turn : ℕ) (row : Pending) → row_of rows turn ≡ Some row → list_any (λ (entry : ℕ × Pending). is_call row.call.client row.call.number entry.1) rows ≡ true
is_pending-found rows turn row found = elim (option_cases (find (λ (entry : ℕ × Pending). entry.0 == turn) rows)) [
  | inl none ↦ (let impossible : None ≡ Some row = rw none at found in cc)
  | inr some ↦ (let is : Some some.0.1 ≡ Some row = rw some.1 at found in let same : some.0.1 ≡ row = cc in
      find-any (λ (entry : ℕ × Pending). entry.0 == turn) (λ entry. is_call row.call.client row.call.number entry.1) rows some.0 some.1 (rw same (is_same-refl row.call.client row.call.number)))
]

pub AddsNothing-if : {v : Volume} (test : Bool) (one other : Volume) → AddsNothing v one → AddsNothing v other → AddsNothing v (if test then one else other)
AddsNothing-if true one other holds fails = holds
AddsNothing-if false one other holds fails = fails

pub AddsNothing-option : {X : Type 0} {v : Volume} (found : Option X) (some : X → Volume) (none : Volume) → ((x : X) → AddsNothing v (some x)) → AddsNothing v none
    → AddsNothing v (option_map_or some found none)
AddsNothing-option None some none with_some with_none = with_none
AddsNothing-option (Some x) some none with_some with_none = with_some x

-- a change noted
pub AddsNothing-noted : (v : Volume) (link action bits : ℕ) (stream : Option ℕ) → AddsNothing v (with_change_noted v link action bits stream)
AddsNothing-noted v link action bits stream = elim (option_cases (row_of v.links link)) [
  | inl none ↦ rw none (AddsNothing-same v)
  | inr some ↦ rw some.1 (AddsNothing-alike v _ refl)
]

-- times and attributes set
pub AddsNothing-basic : (v : Volume) (file creation access write change attributes : ℕ) → AddsNothing v (with_basic v file creation access write change attributes)
AddsNothing-basic v file creation access write change attributes =
    AddsNothing-file v (λ row. record row { creation = creation; access = access; write = write; change = change; attributes = attributes }) file (λ row. refl)

-- ---- breaks

AddsNothing-told : (v : Volume) (turn : Option ℕ) (level : Level) (ack : Bool) → AddsNothing v (with_told v turn level ack)
AddsNothing-told v None level ack = AddsNothing-same v
AddsNothing-told v (Some turn) level ack = elim (option_cases (row_of v.pending turn)) [
  | inl none ↦ rw none (AddsNothing-same v)
  | inr some ↦ rw some.1 (AddsNothing-end some.0.call.client some.0.call.number _ (AddsNothing-same v) (is_pending-found v.pending turn some.0 some.1) (record { bytes = refl; units = refl }))
]

AddsNothing-effect : (v : Volume) (oplock : Oplock) (done : Effect) → AddsNothing v (with_effect v oplock done)
AddsNothing-effect v oplock Stays = AddsNothing-same v
AddsNothing-effect v oplock Ends =
    AddsNothing-next {v = without_oplock v oplock.handle} (AddsNothing-alike v _ refl) (AddsNothing-told (without_oplock v oplock.handle) oplock.call Nil false)
AddsNothing-effect v oplock (Begins level) =
    AddsNothing-next {v = with_break_begun v oplock.handle level} (AddsNothing-alike v _ refl) (AddsNothing-told (with_break_begun v oplock.handle level) oplock.call level true)
AddsNothing-effect v oplock (Lowers level) = AddsNothing-alike v _ refl

AddsNothing-broken : (kind : Class) (v : Volume) (oplocks : List Oplock) → AddsNothing v (broken kind v oplocks)
AddsNothing-broken kind v [] = AddsNothing-same v
AddsNothing-broken kind v (o ∷ oplocks) =
    AddsNothing-next (AddsNothing-effect v o (effect kind o.level o.target)) (AddsNothing-broken kind (with_effect v o (effect kind o.level o.target)) oplocks)

pub AddsNothing-breaks : (v : Volume) (on : HandleSet) (kind : Class) (acting : Option ℕ) (key : ℕ) → AddsNothing v (with_breaks v on kind acting key)
AddsNothing-breaks v on kind acting key = AddsNothing-broken kind v (chosen v on acting key)

pub OnlyBreaks-none : (v : Volume) → OnlyBreaks v v
OnlyBreaks-none v = record { breaks = []; is = refl }

pub OnlyBreaks-one : (v : Volume) (on : HandleSet) (kind : Class) (acting : Option ℕ) (key : ℕ) → OnlyBreaks v (with_breaks v on kind acting key)
OnlyBreaks-one v on kind acting key = record { breaks = record { on = on; class = kind; acting = acting; key = key } ∷ []; is = refl }

all_breaks-append : (first second : List Breaking) (v : Volume) → with_all_breaks (first ++ second) v ≡ with_all_breaks second (with_all_breaks first v)
all_breaks-append [] second v = refl
all_breaks-append (one ∷ first) second v = all_breaks-append first second (with_breaks v one.on one.class one.acting one.key)

pub OnlyBreaks-next : {u v w : Volume} → OnlyBreaks u v → OnlyBreaks v w → OnlyBreaks u w
OnlyBreaks-next {u} first second = record {
  breaks = first.breaks ++ second.breaks;
  is = second.is ∙ ap (with_all_breaks second.breaks) first.is ∙ sym (all_breaks-append first.breaks second.breaks u);
}

AddsNothing-all_breaks : (breaks : List Breaking) (v : Volume) → AddsNothing v (with_all_breaks breaks v)
AddsNothing-all_breaks [] v = AddsNothing-same v
AddsNothing-all_breaks (one ∷ breaks) v =
    AddsNothing-next (AddsNothing-breaks v one.on one.class one.acting one.key) (AddsNothing-all_breaks breaks (with_breaks v one.on one.class one.acting one.key))

pub AddsNothing-only_breaks : {v w : Volume} → OnlyBreaks v w → AddsNothing v w
AddsNothing-only_breaks {v} only = subst (AddsNothing v) (sym only.is) (AddsNothing-all_breaks only.breaks v)

-- ---- the frame

-- where nothing is added
pub KeepsFrame-adds_nothing : {call : Call} {v w : Volume} → AddsNothing v w → KeepsFrame call v w
KeepsFrame-adds_nothing {call} nothing = record {
  table = nothing.table;
  clients = nothing.clients;
  left = inl nothing.left;
  clock = inl nothing.clock;
  handles = λ test all own. nothing.handles (λ entry. test (entry.0, lasting call.what entry.1)) all;
  locks = λ test all own. nothing.locks test all;
  numbers = record {
    files = let same = nothing.last_file in omega arith;
    links = let same = nothing.last_link in omega arith;
    streams = let same = nothing.last_stream in omega arith;
    handles = let same = nothing.last_handle in omega arith;
    locks = let same = nothing.last_lock in omega arith;
    handles_of_creates = λ other. nothing.last_handle;
    locks_of_locks = λ other. nothing.last_lock;
  };
  pending = nothing.pending;
  ended = nothing.ended;
  points = λ fits fit. nothing.points fit;
}

-- what adds nothing may come before
pub KeepsFrame-after : {call : Call} {u v w : Volume} → AddsNothing u v → KeepsFrame call v w → KeepsFrame call u w
KeepsFrame-after {call} {u} {v} {w} first keeps = record {
  table = keeps.table ∙ first.table;
  clients = keeps.clients ∙ first.clients;
  left = elim keeps.left [
    | inl same ↦ inl (same ∙ first.left)
    | inr leaves ↦ inr (leaves.0, leaves.1 ∙ ap (λ (left : List Bool). slice_set left call.client true) first.left)
  ];
  clock = elim keeps.clock [ inl same ↦ inl (same ∙ first.clock) | inr on ↦ inr (on ∙ ap (λ (clock : ℕ). clock + ticks_of call.what) first.clock) ];
  handles = λ test all own. keeps.handles test (first.handles (λ entry. test (entry.0, lasting call.what entry.1)) all)
      (λ handle is client number. subst (λ (last : ℕ). IsTrue (test (last + 1, handle))) (sym first.last_handle) (own handle is client number));
  locks = λ test all own. keeps.locks test (first.locks test all) (λ lock is. subst (λ (last : ℕ). IsTrue (test (last + 1, lock))) (sym first.last_lock) (own lock is));
  numbers = record {
    files = let same = first.last_file in let more = keeps.numbers.files in omega arith;
    links = let same = first.last_link in let more = keeps.numbers.links in omega arith;
    streams = let same = first.last_stream in let more = keeps.numbers.streams in omega arith;
    handles = let same = first.last_handle in let more = keeps.numbers.handles in omega arith;
    locks = let same = first.last_lock in let more = keeps.numbers.locks in omega arith;
    handles_of_creates = λ other. keeps.numbers.handles_of_creates other ∙ first.last_handle;
    locks_of_locks = λ other. keeps.numbers.locks_of_locks other ∙ first.last_lock;
  };
  pending = λ client number is. first.pending client number (keeps.pending client number is);
  ended = EndsPending-next first.pending first.ended keeps.ended;
  points = λ fits fit. keeps.points fits (first.points fit);
}

-- and behind
pub KeepsFrame-before : {call : Call} {u v w : Volume} → KeepsFrame call u v → AddsNothing v w → KeepsFrame call u w
KeepsFrame-before {call} {u} {v} {w} keeps later = record {
  table = later.table ∙ keeps.table;
  clients = later.clients ∙ keeps.clients;
  left = elim keeps.left [ inl same ↦ inl (later.left ∙ same) | inr leaves ↦ inr (leaves.0, later.left ∙ leaves.1) ];
  clock = elim keeps.clock [ inl same ↦ inl (later.clock ∙ same) | inr on ↦ inr (later.clock ∙ on) ];
  handles = λ test all own. later.handles (λ entry. test (entry.0, lasting call.what entry.1)) (keeps.handles test all own);
  locks = λ test all own. later.locks test (keeps.locks test all own);
  numbers = record {
    files = let same = later.last_file in let more = keeps.numbers.files in omega arith;
    links = let same = later.last_link in let more = keeps.numbers.links in omega arith;
    streams = let same = later.last_stream in let more = keeps.numbers.streams in omega arith;
    handles = let same = later.last_handle in let more = keeps.numbers.handles in omega arith;
    locks = let same = later.last_lock in let more = keeps.numbers.locks in omega arith;
    handles_of_creates = λ other. later.last_handle ∙ keeps.numbers.handles_of_creates other;
    locks_of_locks = λ other. later.last_lock ∙ keeps.numbers.locks_of_locks other;
  };
  pending = λ client number is. keeps.pending client number (later.pending client number is);
  ended = EndsPending-next keeps.pending keeps.ended later.ended;
  points = λ fits fit. later.points (keeps.points fits fit);
}

-- an enumeration that has gone on, where that is what is asked
pub KeepsFrame-cursor : (call : Call) (v : Volume) (handle : ℕ) (expression : List ℕ) (cursor : Cursor) → ((other : Handle) → lasting call.what other ≡ unenumerated other)
    → KeepsFrame call v (with_cursor v handle expression cursor)
KeepsFrame-cursor call v handle expression cursor lasts =
    let change : Handle → Handle = λ row. record row { enumeration = Some (expression, cursor) } in
    let nothing : KeepsFrame call v v = KeepsFrame-adds_nothing (AddsNothing-same v) in
    record {
      table = refl;
      clients = refl;
      left = nothing.left;
      clock = nothing.clock;
      handles = λ test all own. All-map (λ (entry : ℕ × Handle). IsTrue (test (entry.0, lasting call.what entry.1))) (change_at change handle) v.handles (λ k d within.
          rw (change_at-number change handle (get_or v.handles k d), lasts (change_at change handle (get_or v.handles k d)).1, change_at-same change handle unenumerated (λ row. refl) (get_or v.handles k d), ← lasts (get_or v.handles k d).1)
          (all k d within));
      locks = λ test all own. all;
      numbers = record { files = omega arith; links = omega arith; streams = omega arith; handles = omega arith; locks = omega arith; handles_of_creates = λ other. refl; locks_of_locks = λ other. refl };
      pending = λ client number is. is;
      ended = EndsPending-equal refl;
      points = λ fits fit. fit;
    }

-- ---- how a try goes on

FailsTo-breaks : {what : What} {v w : Volume} → OnlyBreaks v w → FailsTo what v w
FailsTo-breaks {w = w} only = record { broken = w; breaks = only; enumerates = record { rest = refl; handles = refl; query_dir = λ other. refl } }

FailsTo-after : {what : What} {u v w : Volume} → OnlyBreaks u v → FailsTo what v w → FailsTo what u w
FailsTo-after first fails = record { broken = fails.broken; breaks = OnlyBreaks-next first fails.breaks; enumerates = fails.enumerates }

all_unenumerated-cursor : (handles : List (ℕ × Handle)) (handle : ℕ) (expression : List ℕ) (cursor : Cursor)
    → all_unenumerated (with_row_changed (λ row. record row { enumeration = Some (expression, cursor) }) handles handle) ≡ all_unenumerated handles
all_unenumerated-cursor [] handle expression cursor = refl
all_unenumerated-cursor (entry ∷ handles) handle expression cursor = elim (cases_Bool (entry.0 == handle)) [
  | inl here ↦ rw here (ap (λ (rest : List (ℕ × Handle)). (entry.0, unenumerated entry.1) ∷ rest) (all_unenumerated-cursor handles handle expression cursor))
  | inr other ↦ rw other (ap (λ (rest : List (ℕ × Handle)). (entry.0, unenumerated entry.1) ∷ rest) (all_unenumerated-cursor handles handle expression cursor))
]

-- an enumeration that fails may have gone on
pub FailsTo-cursor : (what : What) (v : Volume) (handle : ℕ) (expression : List ℕ) (cursor : Cursor) → is_query_dir what ≡ true → FailsTo what v (with_cursor v handle expression cursor)
FailsTo-cursor what v handle expression cursor lists = record {
  broken = v;
  breaks = OnlyBreaks-none v;
  enumerates = record { rest = refl; handles = all_unenumerated-cursor v.handles handle expression cursor; query_dir = λ other. (let impossible : true ≡ false = sym lists ∙ other in cc) };
}

-- it is refused
pub InFrame-refused : (call : Call) (v : Volume) (status : Status) → InFrame call v (refused v status)
InFrame-refused call v status = record {
  so = (KeepsFrame-adds_nothing (AddsNothing-same v), (record { bytes = omega arith; units = omega arith }, λ fails. FailsTo-breaks (OnlyBreaks-none v)));
}

-- it changes nothing and replies
pub InFrame-replies : (call : Call) (v : Volume) (reply : Reply) → FitsReply call.what reply → InFrame call v (Done v reply)
InFrame-replies call v reply fits = record { so = (KeepsFrame-adds_nothing (AddsNothing-same v), (fits, λ fails. FailsTo-breaks (OnlyBreaks-none v))) }

-- it succeeds
pub InFrame-done : (call : Call) (v w : Volume) (reply : Reply) → KeepsFrame call v w → FitsReply call.what reply → is_failure reply.status ≡ false → InFrame call v (Done w reply)
InFrame-done call v w reply keeps fits success = record { so = (keeps, (fits, λ fails. absurd_failure reply.status fails success)) }
  where
    absurd_failure : (status : Status) → is_failure status ≡ true → is_failure status ≡ false → FailsTo call.what v w
    absurd_failure status is isnt = (let impossible : true ≡ false = sym is ∙ isnt in cc)

-- with neither bytes nor units
pub InFrame-ends : (call : Call) (v w : Volume) (status : Status) → KeepsFrame call v w → is_failure status ≡ false → InFrame call v (ends_with w status)
InFrame-ends call v w status keeps success = InFrame-done call v w _ keeps (record { bytes = omega arith; units = omega arith }) success

-- it is held, and began breaks alone
pub InFrame-held : (call : Call) (v w : Volume) (blockers : List Blocker) (interim : Interim) → OnlyBreaks v w → InFrame call v (Hold w blockers interim)
InFrame-held call v w blockers interim only = record { so = (KeepsFrame-adds_nothing (AddsNothing-only_breaks only), only) }

pub InFrame-if : {call : Call} {v : Volume} (test : Bool) (one other : Outcome) → (test ≡ true → InFrame call v one) → (test ≡ false → InFrame call v other)
    → InFrame call v (if test then one else other)
InFrame-if true one other holds fails = holds refl
InFrame-if false one other holds fails = fails refl

pub InFrame-option : {X : Type 0} {call : Call} {v : Volume} (found : Option X) (some : X → Outcome) (none : Outcome)
    → ((x : X) → found ≡ Some x → InFrame call v (some x)) → InFrame call v none → InFrame call v (option_map_or some found none)
InFrame-option None some none with_some with_none = with_none
InFrame-option (Some x) some none with_some with_none = with_some x refl

-- the call is none that may stay without a blocker
abbrev pub NeverStays : Call → Type 0
NeverStays call = (v w : Volume) → StaysTo v call.client call.what w → ⊥

framed-after : (call : Call) (u v : Volume) (outcome : Outcome) → NeverStays call → OnlyBreaks u v → FramedTo call v outcome → FramedTo call u outcome
framed-after call u v (Done w reply) never only so = (KeepsFrame-after (AddsNothing-only_breaks only) so.0, (so.1.0, λ fails. FailsTo-after only (so.1.1 fails)))
framed-after call u v (Stay w interim) never only so = absurd (never v w so.1)
framed-after call u v (Hold w blockers interim) never only so = (KeepsFrame-after (AddsNothing-only_breaks only) so.0, OnlyBreaks-next only so.1)

-- it goes on after breaks
pub InFrame-after_breaks : (call : Call) (v : Volume) (on : HandleSet) (kind : Class) (acting : Option ℕ) (key : ℕ) (outcome : Outcome) → NeverStays call
    → InFrame call (with_breaks v on kind acting key) outcome → InFrame call v outcome
InFrame-after_breaks call v on kind acting key outcome never frame = record {
  so = framed-after call v (with_breaks v on kind acting key) outcome never (OnlyBreaks-one v on kind acting key) frame.so;
}

-- it is held by breaks
pub InFrame-held_by : (call : Call) (v : Volume) (on : HandleSet) (kind : Class) (acting : Option ℕ) (key : ℕ) → InFrame call v (held_by v on kind acting key)
InFrame-held_by call v on kind acting key = InFrame-held call v (with_breaks v on kind acting key) _ _ (OnlyBreaks-one v on kind acting key)

-- it is held by breaks or goes on after them
pub InFrame-breaks : (call : Call) (v : Volume) (on : HandleSet) (kind : Class) (acting : Option ℕ) (key : ℕ) (outcome : Outcome) → NeverStays call
    → InFrame call (with_breaks v on kind acting key) outcome → InFrame call v (if waits_for v on kind acting key then held_by v on kind acting key else outcome)
InFrame-breaks call v on kind acting key outcome never frame =
    InFrame-if (waits_for v on kind acting key) _ _ (λ is. InFrame-held_by call v on kind acting key) (λ no. InFrame-after_breaks call v on kind acting key outcome never frame)
