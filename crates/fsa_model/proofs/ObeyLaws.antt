-- What every try is shown to keep, in one record: a law for each way in which a definition goes on, and one for
-- each kind of edit. A request's definition is followed once, by these.
use Rattle.std.proofs.Common.{◌≡◌, ℕ, Bool, true, false, List, refl, sym, subst, arith, Option, Some, None, ◌∙◌, inl, inr}
use Rattle.std.specs.Option.{option_map_or}
use Rattle.std.specs.Prelude.{if◌then◌else◌}
use Rattle.fsa_types.specs.Rows.{row_of, with_row_changed}
use Rattle.fsa_types.specs.declared.oplock.Class.{Class}
use Rattle.fsa_types.specs.declared.oplock.HandleSet.{HandleSet}
use Rattle.fsa_types.specs.declared.reply.Blocker.{Blocker}
use Rattle.fsa_types.specs.declared.reply.Interim.{Interim}
use Rattle.fsa_types.specs.declared.reply.Reply.{Reply}
use Rattle.fsa_types.specs.declared.request.Call.{Call}
use Rattle.fsa_types.specs.declared.request.What.{What}
use Rattle.fsa_types.specs.declared.status.Status.{Status}
use Rattle.fsa_types.specs.declared.status.Status.TheVariants.{NoMemory, Stalled}
use Rattle.fsa_model.specs.Breaks.{with_breaks}
use Rattle.fsa_model.specs.Changes.{with_change_noted}
use Rattle.fsa_model.specs.Edits.{with_basic}
use Rattle.fsa_model.specs.Frame.{is_failure, FitsReply, KeepsFrame, InFrame, PointsFit}
use Rattle.fsa_model.specs.Outcome.{Outcome, Done, Stay, Hold, ends_with, refused}
use Rattle.fsa_model.specs.Starving.{only_settlements_give, TriesPlain}
use Rattle.fsa_model.specs.Turn.{volume_after}
use Rattle.fsa_model.specs.Volume.{File, Volume}
use Rattle.fsa_model.specs.Waits.{waits_for, held_by}
pub use Rattle.fsa_model.specs.Settling.{may_be_held}
use Rattle.fsa_model.proofs.FrameLaws.{AddsNothing, AddsNothing-alike, AddsNothing-breaks, AddsNothing-file, AddsNothing-next, AddsNothing-noted, AddsNothing-same, InFrame-after_breaks, InFrame-done, InFrame-held, InFrame-held_by, InFrame-refused, InFrame-replies, KeepsFrame-adds_nothing, NeverStays, OnlyBreaks-none, KeepsFrame-after, KeepsFrame-before}
use Rattle.fsa_model.proofs.PlainLaws.{EndsPlain-same, TriesPlain-after_breaks, TriesPlain-done, TriesPlain-held_by, TriesPlain-refused, TriesPlain-replies}
use Rattle.fsa_model.proofs.QuietLaws.{Onward, Onward-breaks, Onward-leaves, Onward-next, Onward-same, Onward-untouched}
use Rattle.fsa_model.proofs.RowLaws.{option_cases}
use Rattle.fsa_model.proofs.TryLaws.{AreLiving, FewNumbers, FewNumbers-same, HasOneOplockEach-kept, Leaves, Leaves-breaks, Leaves-same, Leaves-untouched, SameNumbers, SameNumbers-breaks, SameNumbers-same, Tries, Tries-after, Tries-done, Tries-held, Tries-held_by, Tries-refused, Untouched, Untouched-next, Untouched-noted, Untouched-same, Watches-equal, SameNumbers-next, Leaves-next, FewNumbers-after, FewNumbers-before}
use Rattle.fsa_model.proofs.WaitLaws.{HasOneOplockEach}

-- ---- edits that nobody waits for

-- nothing is touched that is waited for, nothing is added, and no number is given
pub record Calm (v w : Volume) : Type 0 where
  pub untouched : Untouched v w
  pub nothing : AddsNothing v w
  pub watches : w.watches ≡ v.watches

pub Calm-same : (v : Volume) → Calm v v
Calm-same v = record { untouched = Untouched-same v; nothing = AddsNothing-same v; watches = refl }

pub Calm-next : {u v w : Volume} → Calm u v → Calm v w → Calm u w
Calm-next first second = record { untouched = Untouched-next first.untouched second.untouched; nothing = AddsNothing-next first.nothing second.nothing; watches = second.watches ∙ first.watches }

pub Calm-if : {v : Volume} (test : Bool) (one other : Volume) → Calm v one → Calm v other → Calm v (if test then one else other)
Calm-if true one other holds fails = holds
Calm-if false one other holds fails = fails

pub Calm-option : {X : Type 0} {v : Volume} (found : Option X) (some : X → Volume) (none : Volume) → ((x : X) → Calm v (some x)) → Calm v none → Calm v (option_map_or some found none)
Calm-option None some none with_some with_none = with_none
Calm-option (Some x) some none with_some with_none = with_some x

-- one volume, with the links, streams and limits of another
abbrev pub with_tree_of : Volume → Volume → Volume
with_tree_of v w = record v { links = w.links; streams = w.streams; limits = w.limits }

-- nothing else is changed
pub Calm-tree : (v w : Volume) → w ≡ with_tree_of v w → Calm v w
Calm-tree v w same = subst (λ (u : Volume). Calm v u) (sym same) (record {
  untouched = record { oplocks = refl; locks = refl; pending = refl; ended = refl; last_break = refl; seen = Watches-equal refl refl; opens = refl; numbers = record { files = refl; links = refl; streams = refl; handles = refl; locks = refl } };
  nothing = AddsNothing-alike v (with_tree_of v w) refl;
  watches = refl;
})

-- other files, whose reparse points fit a reply
pub Calm-files : (v : Volume) (files : List (ℕ × File)) → AddsNothing v (record v { files = files }) → Calm v (record v { files = files })
Calm-files v files nothing = record {
  untouched = record { oplocks = refl; locks = refl; pending = refl; ended = refl; last_break = refl; seen = Watches-equal refl refl; opens = refl; numbers = record { files = refl; links = refl; streams = refl; handles = refl; locks = refl } };
  nothing = nothing;
  watches = refl;
}

-- a file changed, but not its reparse point
pub Calm-file : (v : Volume) (change : File → File) (file : ℕ) → ((row : File) → (change row).point ≡ row.point) → Calm v (record v { files = with_row_changed change v.files file })
Calm-file v change file same = Calm-files v (with_row_changed change v.files file) (AddsNothing-file v change file same)

-- times and attributes set
pub Calm-basic : (v : Volume) (file creation access write change attributes : ℕ) → Calm v (with_basic v file creation access write change attributes)
Calm-basic v file creation access write change attributes =
    Calm-file v (λ row. record row { creation = creation; access = access; write = write; change = change; attributes = attributes }) file (λ row. refl)

-- a change noted
pub watches-noted : (v : Volume) (link action bits : ℕ) (stream : Option ℕ) → (with_change_noted v link action bits stream).watches ≡ v.watches
watches-noted v link action bits stream = elim (option_cases (row_of v.links link)) [ inl none ↦ rw none refl | inr some ↦ rw some.1 refl ]

pub Calm-noted : (v : Volume) (link action bits : ℕ) (stream : Option ℕ) → Calm v (with_change_noted v link action bits stream)
Calm-noted v link action bits stream = record { untouched = Untouched-noted v link action bits stream; nothing = AddsNothing-noted v link action bits stream; watches = watches-noted v link action bits stream }

-- ---- edits that give numbers

-- nothing is touched that is waited for, and few numbers are given; the rest stays within the frame of the call
pub record Gains (call : Call) (v w : Volume) : Type 0 where
  pub leaves : Leaves v w
  pub few : FewNumbers v w
  pub keeps : KeepsFrame call v w
  pub ended : w.ended ≡ v.ended
  pub watches : w.watches ≡ v.watches

pub Gains-next : {call : Call} {u v w : Volume} → Gains call u v → Calm v w → Gains call u w
Gains-next {v = v} {w = w} gains calm = record {
  leaves = Leaves-next gains.leaves (Leaves-untouched v w calm.untouched);
  few = FewNumbers-before gains.few calm.untouched.numbers;
  keeps = KeepsFrame-before gains.keeps calm.nothing;
  ended = calm.untouched.ended ∙ gains.ended;
  watches = calm.watches ∙ gains.watches;
}

pub Gains-after : {call : Call} {u v w : Volume} → Calm u v → Gains call v w → Gains call u w
Gains-after {u = u} {v = v} calm gains = record {
  leaves = Leaves-next (Leaves-untouched u v calm.untouched) gains.leaves;
  few = FewNumbers-after calm.untouched.numbers gains.few;
  keeps = KeepsFrame-after calm.nothing gains.keeps;
  ended = gains.ended ∙ calm.untouched.ended;
  watches = gains.watches ∙ calm.watches;
}

-- ---- a try

-- where such a request is never held, it isn't, and gives no number
abbrev pub SparesTo : What → Volume → Outcome → Type 0
SparesTo what v (Done w reply) = may_be_held what ≡ false → SameNumbers v w
SparesTo what v (Stay w interim) = ⊥
SparesTo what v (Hold w blockers interim) = may_be_held what ≡ true

-- a try of this call, from this volume, that comes to this outcome keeps what every such try has to keep: of what
-- is waited for, of numbers, of its frame, of calls that find no memory or are stalled, and of watches
pub record Obeys (call : Call) (v : Volume) (outcome : Outcome) : Type 0 where
  pub tries : HasOneOplockEach v → Tries Leaves v outcome
  pub spares : SparesTo call.what v outcome
  pub frame : PointsFit v → InFrame call v outcome
  pub plain : TriesPlain v outcome
  pub onward : Onward v (volume_after outcome)

-- the call is one that can be held, and none that may stay without a blocker
pub record CanBeHeld (call : Call) : Type 0 where
  pub never : NeverStays call
  pub held : may_be_held call.what ≡ true

-- what is no failure found memory, and isn't stalled
plain_success : (status : Status) → is_failure status ≡ false → only_settlements_give status ≡ false
plain_success NoMemory success = success
plain_success Stalled success = success
plain_success _ success = refl

pub Obeys-refused : (call : Call) (v : Volume) (status : Status) → only_settlements_give status ≡ false → Obeys call v (refused v status)
Obeys-refused call v status plain = record {
  tries = λ one. Tries-refused v status;
  spares = λ never. SameNumbers-same v;
  frame = λ fit. InFrame-refused call v status;
  plain = TriesPlain-refused v status plain;
  onward = Onward-same v;
}

-- it changes nothing and replies
pub Obeys-replies : (call : Call) (v : Volume) (reply : Reply) → FitsReply call.what reply → only_settlements_give reply.status ≡ false → Obeys call v (Done v reply)
Obeys-replies call v reply fits plain = record {
  tries = λ one. Tries-done v reply (Leaves-same v) (FewNumbers-same (SameNumbers-same v));
  spares = λ never. SameNumbers-same v;
  frame = λ fit. InFrame-replies call v reply fits;
  plain = TriesPlain-replies v reply plain;
  onward = Onward-same v;
}

-- where the reply depends on the files
pub Obeys-replies_fit : (call : Call) (v : Volume) (reply : Reply) → (PointsFit v → FitsReply call.what reply) → only_settlements_give reply.status ≡ false → Obeys call v (Done v reply)
Obeys-replies_fit call v reply fits plain = record {
  tries = λ one. Tries-done v reply (Leaves-same v) (FewNumbers-same (SameNumbers-same v));
  spares = λ never. SameNumbers-same v;
  frame = λ fit. InFrame-replies call v reply (fits fit);
  plain = TriesPlain-replies v reply plain;
  onward = Onward-same v;
}

-- it succeeds, and nobody waits for what it changes
pub Obeys-calm : (call : Call) (v w : Volume) (reply : Reply) → Calm v w → FitsReply call.what reply → is_failure reply.status ≡ false → Obeys call v (Done w reply)
Obeys-calm call v w reply calm fits success = record {
  tries = λ one. Tries-done w reply (Leaves-untouched v w calm.untouched) (FewNumbers-same calm.untouched.numbers);
  spares = λ never. calm.untouched.numbers;
  frame = λ fit. InFrame-done call v w reply (KeepsFrame-adds_nothing calm.nothing) fits success;
  plain = TriesPlain-done v w reply (EndsPlain-same calm.untouched.ended) (plain_success reply.status success);
  onward = Onward-untouched v w calm.untouched calm.watches;
}

-- it succeeds, and touches nothing that is waited for, within its frame
pub Obeys-framed : (call : Call) (v w : Volume) (reply : Reply) → Untouched v w → w.watches ≡ v.watches → KeepsFrame call v w → FitsReply call.what reply → is_failure reply.status ≡ false → Obeys call v (Done w reply)
Obeys-framed call v w reply untouched watches keeps fits success = record {
  tries = λ one. Tries-done w reply (Leaves-untouched v w untouched) (FewNumbers-same untouched.numbers);
  spares = λ never. untouched.numbers;
  frame = λ fit. InFrame-done call v w reply keeps fits success;
  plain = TriesPlain-done v w reply (EndsPlain-same untouched.ended) (plain_success reply.status success);
  onward = Onward-untouched v w untouched watches;
}

-- with neither bytes nor units
pub Obeys-ends : (call : Call) (v w : Volume) (status : Status) → Calm v w → is_failure status ≡ false → Obeys call v (ends_with w status)
Obeys-ends call v w status calm success = Obeys-calm call v w _ calm (record { bytes = omega arith; units = omega arith }) success

-- it succeeds, and gives numbers
pub Obeys-gains : (call : Call) (v w : Volume) (reply : Reply) → CanBeHeld call → Gains call v w → FitsReply call.what reply → is_failure reply.status ≡ false → Obeys call v (Done w reply)
Obeys-gains call v w reply can gains fits success = record {
  tries = λ one. Tries-done w reply gains.leaves gains.few;
  spares = λ never. (let impossible : true ≡ false = sym can.held ∙ never in cc);
  frame = λ fit. InFrame-done call v w reply gains.keeps fits success;
  plain = TriesPlain-done v w reply (EndsPlain-same gains.ended) (plain_success reply.status success);
  onward = Onward-leaves v w gains.leaves gains.ended gains.watches;
}

pub Obeys-if : {call : Call} {v : Volume} (test : Bool) (one other : Outcome) → (test ≡ true → Obeys call v one) → (test ≡ false → Obeys call v other) → Obeys call v (if test then one else other)
Obeys-if true one other holds fails = holds refl
Obeys-if false one other holds fails = fails refl

pub Obeys-option : {X : Type 0} {call : Call} {v : Volume} (found : Option X) (some : X → Outcome) (none : Outcome)
    → ((x : X) → found ≡ Some x → Obeys call v (some x)) → Obeys call v none → Obeys call v (option_map_or some found none)
Obeys-option None some none with_some with_none = with_none
Obeys-option (Some x) some none with_some with_none = with_some x refl

-- it is held by these, which live, and nothing has changed
pub Obeys-held : (call : Call) (v : Volume) (blockers : List Blocker) (interim : Interim) → CanBeHeld call → AreLiving v blockers → Obeys call v (Hold v blockers interim)
Obeys-held call v blockers interim can living = record {
  tries = λ one. Tries-held v blockers interim (Leaves-same v) (SameNumbers-same v) living;
  spares = can.held;
  frame = λ fit. InFrame-held call v v blockers interim (OnlyBreaks-none v);
  plain = record { so = EndsPlain-same refl };
  onward = Onward-same v;
}

-- it is held by breaks
pub Obeys-held_by : (call : Call) (v : Volume) (on : HandleSet) (kind : Class) (acting : Option ℕ) (key : ℕ) → CanBeHeld call → waits_for v on kind acting key ≡ true
    → Obeys call v (held_by v on kind acting key)
Obeys-held_by call v on kind acting key can waits = record {
  tries = λ one. Tries-held_by v on kind acting key one waits;
  spares = can.held;
  frame = λ fit. InFrame-held_by call v on kind acting key;
  plain = TriesPlain-held_by v on kind acting key;
  onward = Onward-breaks v on kind acting key;
}

spares-after : (what : What) (u v : Volume) (outcome : Outcome) → SameNumbers u v → SparesTo what v outcome → SparesTo what u outcome
spares-after what u v (Done w reply) same spares = λ never. SameNumbers-next same (spares never)
spares-after what u v (Stay w interim) same spares = spares
spares-after what u v (Hold w blockers interim) same spares = spares

-- it goes on after breaks
pub Obeys-after_breaks : (call : Call) (v : Volume) (on : HandleSet) (kind : Class) (acting : Option ℕ) (key : ℕ) (outcome : Outcome) → CanBeHeld call
    → Obeys call (with_breaks v on kind acting key) outcome → Obeys call v outcome
Obeys-after_breaks call v on kind acting key outcome can goes = record {
  tries = λ one.
      (let leaves : Leaves v (with_breaks v on kind acting key) = Leaves-breaks v on kind acting key one in
      Tries-after (with_breaks v on kind acting key) outcome leaves (SameNumbers-breaks v on kind acting key) (goes.tries (HasOneOplockEach-kept v (with_breaks v on kind acting key) leaves.keeps one)));
  spares = spares-after call.what v (with_breaks v on kind acting key) outcome (SameNumbers-breaks v on kind acting key) goes.spares;
  frame = λ fit. InFrame-after_breaks call v on kind acting key outcome can.never (goes.frame (AddsNothing.points (AddsNothing-breaks v on kind acting key) fit));
  plain = TriesPlain-after_breaks v on kind acting key outcome goes.plain;
  onward = Onward-next (Onward-breaks v on kind acting key) goes.onward;
}

-- it is held by breaks or goes on after them
pub Obeys-breaks : (call : Call) (v : Volume) (on : HandleSet) (kind : Class) (acting : Option ℕ) (key : ℕ) (outcome : Outcome) → CanBeHeld call
    → Obeys call (with_breaks v on kind acting key) outcome → Obeys call v (if waits_for v on kind acting key then held_by v on kind acting key else outcome)
Obeys-breaks call v on kind acting key outcome can goes =
    Obeys-if (waits_for v on kind acting key) _ _ (λ is. Obeys-held_by call v on kind acting key can is) (λ no. Obeys-after_breaks call v on kind acting key outcome can goes)
