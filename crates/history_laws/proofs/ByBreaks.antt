-- What changes oplocks, pending calls and ends by breaks of one class alone, or by none, and ends no lock: one law for each way in
-- which a definition goes on.
use Rattle.std.proofs.Common.{◌≡◌, ℕ, Bool, true, false, List, refl, ◌∙◌, inl, inr, Option, Some, None}
use Rattle.std.specs.Option.{option_map_or}
use Rattle.std.specs.Prelude.{if◌then◌else◌}
use Rattle.fsa_types.specs.Rows.{row_of}
use Rattle.fsa_types.specs.declared.oplock.Class.{Class}
use Rattle.fsa_types.specs.declared.oplock.Class.TheVariants.{Change}
use Rattle.fsa_types.specs.declared.oplock.HandleSet.{HandleSet}
use Rattle.fsa_types.specs.declared.reply.Blocker.{Blocker}
use Rattle.fsa_types.specs.declared.reply.Interim.{Interim}
use Rattle.fsa_types.specs.declared.reply.Reply.{Reply}
use Rattle.fsa_model.specs.Breaks.{with_breaks}
use Rattle.fsa_model.specs.Changes.{with_change_noted}
use Rattle.fsa_model.specs.Edits.{with_lock}
use Rattle.fsa_model.specs.Outcome.{Outcome, Done, Stay, Hold}
use Rattle.fsa_model.specs.Turn.{volume_after}
use Rattle.fsa_model.specs.Volume.{Volume}
use Rattle.fsa_model.specs.Waits.{waits_for, held_by}
use Rattle.fsa_model.proofs.RowLaws.{option_cases}

-- from one volume to another nothing but breaks of this class, or no breaks, changes oplocks, pending calls, ends, and who has
-- left; and at most there are new locks
pub data ByAtMost : Option Class → Volume → Volume → Type 0 where
  Still : {kind : Option Class} (v w : Volume) → w.oplocks ≡ v.oplocks → w.locks ≡ v.locks → w.pending ≡ v.pending → w.ended ≡ v.ended → w.left ≡ v.left → w.last_break ≡ v.last_break → w.last_lock ≡ v.last_lock → ByAtMost kind v w
  Locked : {kind : Option Class} (v : Volume) (handle at count : ℕ) (exclusive : Bool) → ByAtMost kind v (with_lock v handle at count exclusive)
  Broken : {kind : Class} (v : Volume) (on : HandleSet) (acting : Option ℕ) (key : ℕ) → ByAtMost (Some kind) v (with_breaks v on kind acting key)
  Next : {kind : Option Class} (u v w : Volume) → ByAtMost kind u v → ByAtMost kind v w → ByAtMost kind u w

abbrev pub ByBreaks : Class → Volume → Volume → Type 0
ByBreaks kind = ByAtMost (Some kind)

-- ---- volumes

pub by-same : {kind : Option Class} (v : Volume) → ByAtMost kind v v
by-same v = Still v v refl refl refl refl refl refl refl

pub by-next : {kind : Option Class} {u v w : Volume} → ByAtMost kind u v → ByAtMost kind v w → ByAtMost kind u w
by-next {u} {v} {w} first second = Next u v w first second

pub by-if : {kind : Option Class} {v : Volume} (test : Bool) (one other : Volume) → ByAtMost kind v one → ByAtMost kind v other → ByAtMost kind v (if test then one else other)
by-if true one other holds fails = holds
by-if false one other holds fails = fails

pub by-option : {kind : Option Class} {X : Type 0} {v : Volume} (found : Option X) (some : X → Volume) (none : Volume) → ((x : X) → ByAtMost kind v (some x)) → ByAtMost kind v none → ByAtMost kind v (option_map_or some found none)
by-option None some none with_some with_none = with_none
by-option (Some x) some none with_some with_none = with_some x

-- a change noted
pub by-noted : {kind : Option Class} (v : Volume) (link action bits : ℕ) (stream : Option ℕ) → ByAtMost kind v (with_change_noted v link action bits stream)
by-noted v link action bits stream = elim (option_cases (row_of v.links link)) [
  | inl none ↦ rw none (by-same v)
  | inr some ↦ rw some.1 (Still v _ refl refl refl refl refl refl refl)
]

pub by-breaks : (v : Volume) (on : HandleSet) (kind : Class) (acting : Option ℕ) (key : ℕ) → ByBreaks kind v (with_breaks v on kind acting key)
by-breaks v on kind acting key = Broken v on acting key

-- no breaks leave oplocks as they are
pub none-breaks : {v w : Volume} → ByAtMost None v w → w.oplocks ≡ v.oplocks
none-breaks (Still v w oplocks locks pending ended left last_break last_lock) = oplocks
none-breaks (Locked v handle at count exclusive) = refl
none-breaks (Next u v w first second) = none-breaks second ∙ none-breaks first

-- ---- outcomes

-- a try that comes to this changes them by breaks of this class alone, or by none
pub record TriesByClass (kind : Option Class) (v : Volume) (outcome : Outcome) : Type 0 where
  pub so : ByAtMost kind v (volume_after outcome)

pub tries-done : {kind : Option Class} {v w : Volume} {reply : Reply} → ByAtMost kind v w → TriesByClass kind v (Done w reply)
tries-done by = record { so = by }

pub tries-stays : {kind : Option Class} {v w : Volume} {interim : Interim} → ByAtMost kind v w → TriesByClass kind v (Stay w interim)
tries-stays by = record { so = by }

pub tries-held : {kind : Option Class} {v : Volume} {blockers : List Blocker} {interim : Interim} → TriesByClass kind v (Hold v blockers interim)
tries-held {v} = record { so = by-same v }

pub tries-if : {kind : Option Class} {v : Volume} (test : Bool) (one other : Outcome) → TriesByClass kind v one → TriesByClass kind v other → TriesByClass kind v (if test then one else other)
tries-if true one other holds fails = holds
tries-if false one other holds fails = fails

pub tries-option : {kind : Option Class} {X : Type 0} {v : Volume} (found : Option X) (some : X → Outcome) (none : Outcome) → ((x : X) → TriesByClass kind v (some x)) → TriesByClass kind v none → TriesByClass kind v (option_map_or some found none)
tries-option None some none with_some with_none = with_none
tries-option (Some x) some none with_some with_none = with_some x

-- held by breaks, or on after them
pub tries-breaks : (v : Volume) (on : HandleSet) (kind : Class) (acting : Option ℕ) (key : ℕ) (outcome : Outcome) → TriesByClass (Some kind) (with_breaks v on kind acting key) outcome
    → TriesByClass (Some kind) v (if waits_for v on kind acting key then held_by v on kind acting key else outcome)
tries-breaks v on kind acting key outcome goes =
    tries-if (waits_for v on kind acting key) (held_by v on kind acting key) outcome (record { so = by-breaks v on kind acting key }) (record { so = by-next (by-breaks v on kind acting key) goes.so })

-- so it does by breaks of some one class
pub record TriesByBreaks (v : Volume) (outcome : Outcome) : Type 0 where
  pub kind : Class
  pub so : ByBreaks kind v (volume_after outcome)

pub one-class : {kind : Class} {v : Volume} {outcome : Outcome} → TriesByClass (Some kind) v outcome → TriesByBreaks v outcome
one-class {kind} goes = record { kind = kind; so = goes.so }

pub one-if : {v : Volume} (test : Bool) (one other : Outcome) → TriesByBreaks v one → TriesByBreaks v other → TriesByBreaks v (if test then one else other)
one-if true one other holds fails = holds
one-if false one other holds fails = fails

pub one-option : {X : Type 0} {v : Volume} (found : Option X) (some : X → Outcome) (none : Outcome) → ((x : X) → TriesByBreaks v (some x)) → TriesByBreaks v none → TriesByBreaks v (option_map_or some found none)
one-option None some none with_some with_none = with_none
one-option (Some x) some none with_some with_none = with_some x

-- where nothing breaks, any class will do
pub one-done : {v w : Volume} {reply : Reply} → ByBreaks Change v w → TriesByBreaks v (Done w reply)
one-done by = record { kind = Change; so = by }
