-- What coherence rests on is kept by breaks and by each edit.
use Rattle.std.proofs.Common.{◌≡◌, ℕ, ◌+◌, Bool, true, false, ◌==◌, not, List, [], ◌∷◌, get_or, refl, Option, Some, None, inl, inr}
use Rattle.std.specs.Prelude.{map, All, AllPairs, if◌then◌else◌}
use Rattle.std.proofs.lemmas.Bool.{cases_Bool}
use Rattle.std.proofs.lemmas.List.Elements.{All-map, All-filter}
use Rattle.std.proofs.lemmas.List.Kept.{AllPairs-filter}
use Rattle.fsa_types.specs.declared.oplock.Class.{Class}
use Rattle.fsa_types.specs.declared.oplock.HandleSet.{HandleSet}
use Rattle.fsa_types.specs.declared.reply.Reply.{Reply}
use Rattle.fsa_types.specs.declared.request.Level.{Level}
use Rattle.fsa_types.specs.declared.request.Level.TheVariants.{Nil}
use Rattle.fsa_types.specs.Oplocks.{Effect, Stays, Ends, Begins, Lowers, effect}
use Rattle.fsa_types.specs.Rows.{row_of}
use Rattle.fsa_model.specs.Breaks.{with_told, with_break_begun, with_effect, with_breaks, chosen}
use Rattle.fsa_model.specs.Changes.{with_change_noted}
use Rattle.fsa_model.specs.Coherence.{HasRoot, IsTied}
use Rattle.fsa_model.specs.Edits.{with_end, without_oplock}
use Rattle.fsa_model.specs.Sound.{has_its_key}
use Rattle.fsa_model.specs.Volume.{Handle, Oplock, Volume}
use Rattle.fsa_model.proofs.BreakLaws.{broken}
use Rattle.fsa_model.proofs.RowLaws.{option_cases, AllPairs-map}
use Rattle.fsa_model.proofs.SoundWaits.{touched}

-- ---- the parts that it speaks of

-- a volume that has alike what coherence rests on
pub record IsUntouched (v w : Volume) : Type 0 where
  pub oplocks : w.oplocks ≡ v.oplocks
  pub handles : w.handles ≡ v.handles
  pub links : w.links ≡ v.links
  pub streams : w.streams ≡ v.streams
  pub last_link : w.last_link ≡ v.last_link
  pub last_stream : w.last_stream ≡ v.last_stream
  pub root : HasRoot v.files v.links v.last_file → HasRoot w.files w.links w.last_file

pub IsUntouched-same : (v : Volume) → IsUntouched v v
IsUntouched-same v = record { oplocks = refl; handles = refl; links = refl; streams = refl; last_link = refl; last_stream = refl; root = λ root. root }

pub IsTied-alike : (v w : Volume) → IsUntouched v w → IsTied v → IsTied w
IsTied-alike v w alike tied = record {
  oplocks_differ = rw alike.oplocks tied.oplocks_differ;
  oplocks_have_keys = rw (alike.oplocks, alike.handles) tied.oplocks_have_keys;
  streams_live = rw (alike.handles, alike.links, alike.streams) tied.streams_live;
  links_numbered = rw (alike.links, alike.last_link) tied.links_numbered;
  streams_numbered = rw (alike.streams, alike.last_stream) tied.streams_numbered;
  root = alike.root tied.root;
}

-- a change noted, and a call that ends
pub IsUntouched-noted : (v : Volume) (link action bits : ℕ) (stream : Option ℕ) → IsUntouched v (with_change_noted v link action bits stream)
IsUntouched-noted v link action bits stream = elim (option_cases (row_of v.links link)) [
  | inl none ↦ rw none (IsUntouched-same v)
  | inr some ↦ rw some.1 (record { oplocks = refl; handles = refl; links = refl; streams = refl; last_link = refl; last_stream = refl; root = λ root. root })
]

pub IsUntouched-with_end : (v : Volume) (client number : ℕ) (reply : Reply) → IsUntouched v (with_end v client number reply)
IsUntouched-with_end v client number reply = record { oplocks = refl; handles = refl; links = refl; streams = refl; last_link = refl; last_stream = refl; root = λ root. root }

-- ---- oplocks

-- with other oplocks
pub IsTied-oplocks : (v w : Volume) → IsTied v → AllPairs (λ a b. (a.handle == b.handle) ≡ false) w.oplocks → All (λ o. has_its_key v.handles o ≡ true) w.oplocks
    → IsTied (touched v w)
IsTied-oplocks v w tied differ keyed = record {
  oplocks_differ = differ;
  oplocks_have_keys = keyed;
  streams_live = tied.streams_live;
  links_numbered = tied.links_numbered;
  streams_numbered = tied.streams_numbered;
  root = tied.root;
}

-- a change of a handle's oplock that leaves its handle and its key
pub changed : (Oplock → Oplock) → ℕ → Oplock → Oplock
changed change handle oplock = if oplock.handle == handle then change oplock else oplock

changed-same : {X : Type 0} (of : Oplock → X) (change : Oplock → Oplock) (handle : ℕ) → ((o : Oplock) → of (change o) ≡ of o) → (oplock : Oplock)
    → of (if oplock.handle == handle then change oplock else oplock) ≡ of oplock
changed-same of change handle same oplock = elim (cases_Bool (oplock.handle == handle)) [ inl here ↦ rw here (same oplock) | inr other ↦ rw other refl ]

pub differ-changed : (oplocks : List Oplock) (change : Oplock → Oplock) (handle : ℕ) → ((o : Oplock) → (change o).handle ≡ o.handle)
    → AllPairs (λ a b. (a.handle == b.handle) ≡ false) oplocks
    → AllPairs (λ a b. (a.handle == b.handle) ≡ false) (map (λ o. if o.handle == handle then change o else o) oplocks)
differ-changed oplocks change handle same differ =
    AllPairs-map (λ a b. (a.handle == b.handle) ≡ false) (λ o. if o.handle == handle then change o else o) oplocks (λ j k d below within.
    rw (changed-same (λ o. o.handle) change handle same (get_or oplocks j d), changed-same (λ o. o.handle) change handle same (get_or oplocks k d)) (differ j k d below within))

pub keyed-changed : (handles : List (ℕ × Handle)) (oplocks : List Oplock) (change : Oplock → Oplock) (handle : ℕ)
    → ((o : Oplock) → (change o).handle ≡ o.handle) → ((o : Oplock) → (change o).key ≡ o.key)
    → All (λ o. has_its_key handles o ≡ true) oplocks
    → All (λ o. has_its_key handles o ≡ true) (map (λ o. if o.handle == handle then change o else o) oplocks)
keyed-changed handles oplocks change handle same same_key keyed =
    All-map (λ o. has_its_key handles o ≡ true) (λ o. if o.handle == handle then change o else o) oplocks (λ k d within.
    rw (changed-same (λ o. o.handle) change handle same (get_or oplocks k d), changed-same (λ o. o.key) change handle same_key (get_or oplocks k d)) (keyed k d within))

IsUntouched-told : (v : Volume) (turn : Option ℕ) (level : Level) (ack : Bool) → IsUntouched v (with_told v turn level ack)
IsUntouched-told v None level ack = IsUntouched-same v
IsUntouched-told v (Some turn) level ack = elim (option_cases (row_of v.pending turn)) [
  | inl none ↦ rw none (IsUntouched-same v)
  | inr some ↦ rw some.1 (IsUntouched-with_end v _ _ _)
]

pub IsTied-without_oplock : (v : Volume) (handle : ℕ) → IsTied v → IsTied (without_oplock v handle)
IsTied-without_oplock v handle tied =
    IsTied-oplocks v (without_oplock v handle) tied
    (AllPairs-filter (λ a b. (a.handle == b.handle) ≡ false) (λ (o : Oplock). not (o.handle == handle)) v.oplocks tied.oplocks_differ)
    (All-filter (λ (o : Oplock). not (o.handle == handle)) (λ o. has_its_key v.handles o ≡ true) v.oplocks tied.oplocks_have_keys)

IsTied-effect : (v : Volume) (oplock : Oplock) (done : Effect) → IsTied v → IsTied (with_effect v oplock done)
IsTied-effect v oplock Stays tied = tied
IsTied-effect v oplock Ends tied = IsTied-alike _ _ (IsUntouched-told (without_oplock v oplock.handle) oplock.call Nil false) (IsTied-without_oplock v oplock.handle tied)
IsTied-effect v oplock (Begins level) tied =
    IsTied-alike _ _ (IsUntouched-told (with_break_begun v oplock.handle level) oplock.call level true)
    (IsTied-oplocks v (with_break_begun v oplock.handle level) tied
    (differ-changed v.oplocks (λ o. record o { target = Some level; number = v.last_break + 1; call = None }) oplock.handle (λ o. refl) tied.oplocks_differ)
    (keyed-changed v.handles v.oplocks (λ o. record o { target = Some level; number = v.last_break + 1; call = None }) oplock.handle (λ o. refl) (λ o. refl) tied.oplocks_have_keys))
IsTied-effect v oplock (Lowers level) tied =
    IsTied-oplocks v (with_effect v oplock (Lowers level)) tied
    (differ-changed v.oplocks (λ o. record o { target = Some level }) oplock.handle (λ o. refl) tied.oplocks_differ)
    (keyed-changed v.handles v.oplocks (λ o. record o { target = Some level }) oplock.handle (λ o. refl) (λ o. refl) tied.oplocks_have_keys)

IsTied-broken : (kind : Class) (v : Volume) (oplocks : List Oplock) → IsTied v → IsTied (broken kind v oplocks)
IsTied-broken kind v [] tied = tied
IsTied-broken kind v (oplock ∷ oplocks) tied =
    IsTied-broken kind (with_effect v oplock (effect kind oplock.level oplock.target)) oplocks (IsTied-effect v oplock (effect kind oplock.level oplock.target) tied)

pub IsTied-breaks : (v : Volume) (on : HandleSet) (kind : Class) (acting : Option ℕ) (key : ℕ) → IsTied v → IsTied (with_breaks v on kind acting key)
IsTied-breaks v on kind acting key tied = IsTied-broken kind v (chosen v on acting key) tied
