-- A read, a write and a setting of security are coherent.
use Rattle.std.proofs.Common.{◌≡◌, ℕ, ◌+◌, Bool, true, false, ◌==◌, not, List, [], length, refl, ap, sym, ◌∙◌, Option, Some, None, inl, inr}
use Rattle.std.specs.Option.{option_map_or}
use Rattle.std.specs.Prelude.{nat_lt, nat_le, unwrap_or, if◌then◌else◌}
use Rattle.std.proofs.lemmas.Bool.{cases_Bool, false≢true}
use Rattle.fsa_types.specs.Access.{has_any}
use Rattle.fsa_types.specs.declared.oplock.Class.{Class}
use Rattle.fsa_types.specs.declared.oplock.Class.TheVariants.{Change, ReadOpen}
use Rattle.fsa_types.specs.declared.oplock.HandleSet.{HandleSet}
use Rattle.fsa_types.specs.declared.oplock.HandleSet.TheVariants.{Stream}
use Rattle.fsa_types.specs.declared.reply.Blocker.{Blocker}
use Rattle.fsa_types.specs.declared.request.DaclChange.{DaclChange}
use Rattle.fsa_types.specs.declared.request.DaclChange.TheVariants.{Keep, Remove, Put}
use Rattle.fsa_types.specs.declared.status.Status.{Status}
use Rattle.fsa_types.specs.Rows.{row_of, with_row_changed}
use Rattle.fsa_types.specs.StreamBytes.{put}
use Rattle.fsa_model.specs.Breaks.{with_breaks}
use Rattle.fsa_model.specs.Coherence.{IsBrokenByChange, IsTied, key_of, key_acting, blockers_of}
use Rattle.fsa_model.specs.Edits.{with_basic}
use Rattle.fsa_model.specs.Growth.{growth_fault}
use Rattle.fsa_model.specs.Locked.{read_is_locked, write_is_locked}
use Rattle.fsa_model.specs.Lookups.{bytes_of, handle_of, file_of_link, largest_end, is_named_stream}
use Rattle.fsa_model.specs.Outcome.{Outcome, refused}
use Rattle.fsa_model.specs.Read.{read_bytes, read_unlocked, read_range, read_stream, read_by, read_at, try_read}
use Rattle.fsa_model.specs.Security.{mapped, asks_something, lacks_right, is_foreign, passes_limit, with_owner_asked, with_dacl_asked, with_change_time, with_security_noted, with_security, set_security_of, set_security_by, set_security_at, try_set_security}
use Rattle.fsa_model.specs.Turn.{volume_after}
use Rattle.fsa_model.specs.Volume as volume
use Rattle.fsa_model.specs.Volume.{Handle, Volume}
use Rattle.fsa_model.specs.Waits.{waits_for, held_by}
use Rattle.fsa_model.specs.Write.{with_write_noted, with_written, lengthens, write_bytes, write_grown, write_unlocked, write_range, write_at_place, can_write, write_stream, write_by, write_at, try_write}
use Rattle.fsa_model.proofs.CoherenceBreaks.{handles-breaks, streams-breaks}
use Rattle.fsa_model.proofs.CoherenceEdits.{row_of-changed, IsTied-stream_changed, IsUntouched-file_changed}
use Rattle.fsa_model.proofs.CoherenceEnds.{ends-held, ends-gone_on, counts-same, Gone, HasTold, Awaits, EndsByCause}
use Rattle.fsa_model.proofs.CoherenceFalls.{Falls, Falls-breaks, Falls-next, Falls-opens, Falls-untouched}
use Rattle.fsa_model.proofs.CoherenceSteps.{Comes, KeepsBytes-comes, Changes, KeepsBytes-changes, KeepsBytes}
use Rattle.fsa_model.proofs.CoherenceTied.{IsUntouched-same, IsUntouched-noted, IsTied-alike, IsTied-breaks, IsUntouched}
use Rattle.fsa_model.proofs.RowLaws.{option_cases}

-- ---- a try

-- what coherence rests on is kept, and the try is coherent
pub record Behaves (v : Volume) (acting : Option ℕ) (key : ℕ) (outcome : Outcome) : Type 0 where
  pub tied : IsTied (volume_after outcome)
  pub coherent : KeepsBytes v acting key (volume_after outcome)
  pub ends : EndsByCause v acting key (volume_after outcome) (blockers_of outcome)
  pub falls : Falls v (volume_after outcome)

-- nothing ends where the oplocks are as they were
pub ends-none : (v w : Volume) (acting : Option ℕ) (key : ℕ) (blockers : List Blocker) → w.oplocks ≡ v.oplocks → EndsByCause v acting key w blockers
ends-none v w acting key blockers same handle before after = absurd (false≢true (sym after ∙ counts-same v w handle same ∙ before))

-- the break that ended it, where the oplocks are as it left them
pub broken-as : (v u w : Volume) (acting : Option ℕ) (key handle : ℕ) (oplock : volume.Oplock) → w.oplocks ≡ u.oplocks → IsBrokenByChange v acting key u handle oplock
    → IsBrokenByChange v acting key w handle oplock
broken-as v u w acting key handle oplock same broken = record { set = broken.set; held = broken.held; chosen = broken.chosen; begun = same ∙ broken.begun }

-- and no more than before where they are as the breaks left them
pub ends-as : (v u w : Volume) (acting : Option ℕ) (key : ℕ) → w.oplocks ≡ u.oplocks → ((handle : ℕ) → row_of u.handles handle ≡ None → row_of w.handles handle ≡ None)
    → EndsByCause v acting key u [] → EndsByCause v acting key w []
ends-as v u w acting key same gone ends handle before after = elim (ends handle before (sym (counts-same u w handle same) ∙ after)) [
  | Gone none ↦ Gone (gone handle none)
  | HasTold oplock broken told ↦ HasTold oplock (broken-as v u w acting key handle oplock same broken) told
  | Awaits oplock broken awaits ↦ cc
]

pub Behaves-if : {v : Volume} {acting : Option ℕ} {key : ℕ} (test : Bool) (one other : Outcome) → (test ≡ true → Behaves v acting key one)
    → (test ≡ false → Behaves v acting key other) → Behaves v acting key (if test then one else other)
Behaves-if true one other holds fails = holds refl
Behaves-if false one other holds fails = fails refl

pub Behaves-option : {X : Type 0} {v : Volume} {acting : Option ℕ} {key : ℕ} (found : Option X) (some : X → Outcome) (none : Outcome)
    → ((x : X) → found ≡ Some x → Behaves v acting key (some x)) → Behaves v acting key none → Behaves v acting key (option_map_or some found none)
Behaves-option None some none with_some with_none = with_none
Behaves-option (Some x) some none with_some with_none = with_some x refl

-- alike volumes
pub Comes-alike : (v w : Volume) → IsUntouched v w → Comes v w
Comes-alike v w alike = record {
  handles = λ handle row living. rw alike.handles living;
  bytes = λ stream. rw alike.streams refl;
}

pub KeepsBytes-alike : (v w : Volume) (acting : Option ℕ) (key : ℕ) → IsTied v → IsUntouched v w → KeepsBytes v acting key w
KeepsBytes-alike v w acting key tied alike = KeepsBytes-comes v w acting key tied (Comes-alike v w alike)

pub Behaves-done : (v : Volume) (acting : Option ℕ) (key : ℕ) (outcome : Outcome) → IsTied v → IsUntouched v (volume_after outcome) → Behaves v acting key outcome
Behaves-done v acting key outcome tied alike = record {
  tied = IsTied-alike v (volume_after outcome) alike tied;
  coherent = KeepsBytes-alike v (volume_after outcome) acting key tied alike;
  ends = ends-none v (volume_after outcome) acting key (blockers_of outcome) alike.oplocks;
  falls = Falls-untouched v (volume_after outcome) alike;
}

pub Behaves-refused : (v : Volume) (acting : Option ℕ) (key : ℕ) (status : Status) → IsTied v → Behaves v acting key (refused v status)
Behaves-refused v acting key status tied = Behaves-done v acting key (refused v status) tied (IsUntouched-same v)

-- breaks alone
pub KeepsBytes-breaks : (v : Volume) (on : HandleSet) (kind : Class) (by : Option ℕ) (its_key : ℕ) (acting : Option ℕ) (key : ℕ) → IsTied v
    → KeepsBytes v acting key (with_breaks v on kind by its_key)
KeepsBytes-breaks v on kind by its_key acting key tied = KeepsBytes-comes v (with_breaks v on kind by its_key) acting key tied (record {
  handles = λ handle row living. rw (handles-breaks v on kind by its_key) living;
  bytes = λ stream. ap (λ streams. option_map_or (λ row. row.bytes) (row_of streams stream) []) (streams-breaks v on kind by its_key);
})

pub Behaves-held : (v : Volume) (on : HandleSet) (kind : Class) (acting : Option ℕ) (key : ℕ) → IsTied v → Behaves v acting key (held_by v on kind acting key)
Behaves-held v on kind acting key tied = record {
  tied = IsTied-breaks v on kind acting key tied;
  coherent = KeepsBytes-breaks v on kind acting key acting key tied;
  ends = ends-held v on kind acting key tied;
  falls = Falls-breaks v on kind acting key tied;
}

-- a volume that the breaks left, where the call doesn't wait for them
pub record Broken (v : Volume) (acting : Option ℕ) (key : ℕ) (u : Volume) : Type 0 where
  pub tied : IsTied u
  pub coherent : KeepsBytes v acting key u
  pub ends : EndsByCause v acting key u []
  pub falls : Falls v u

pub Broken-breaks : (v : Volume) (on : HandleSet) (kind : Class) (acting : Option ℕ) (key : ℕ) → IsTied v → waits_for v on kind acting key ≡ false
    → Broken v acting key (with_breaks v on kind acting key)
Broken-breaks v on kind acting key tied goes = record {
  tied = IsTied-breaks v on kind acting key tied;
  coherent = KeepsBytes-breaks v on kind acting key acting key tied;
  ends = ends-gone_on v on kind acting key tied goes;
  falls = Falls-breaks v on kind acting key tied;
}

pub Behaves-broken : (v : Volume) (acting : Option ℕ) (key : ℕ) (u : Volume) (status : Status) → Broken v acting key u → Behaves v acting key (refused u status)
Behaves-broken v acting key u status broken = record { tied = broken.tied; coherent = broken.coherent; ends = broken.ends; falls = broken.falls }

-- ---- a stream changes

unchanged : {R : Type 0} (change : R → R) (rows : List (ℕ × R)) (at id : ℕ) → (id == at) ≡ false → row_of (with_row_changed change rows at) id ≡ row_of rows id
unchanged change rows at id other = row_of-changed change rows at id ∙ elim (option_cases (row_of rows id)) [
  | inl none ↦ rw none refl
  | inr some ↦ rw (some.1, other) refl
]

-- in a volume that is alike but for its bytes
pub Changes-stream : (u n w : Volume) (change : volume.Stream → volume.Stream) (stream : ℕ) → IsUntouched u n
    → IsUntouched (record n { streams = with_row_changed change n.streams stream }) w → Changes u w stream
Changes-stream u n w change stream noted changed = record {
  oplocks = changed.oplocks ∙ noted.oplocks;
  handles = λ handle row living. rw (changed.handles ∙ noted.handles) living;
  new = λ handle row living. inl (rw (changed.handles ∙ noted.handles) at living);
  others = λ other elsewhere. rw changed.streams (ap (λ row. option_map_or (λ r. r.bytes) row []) (unchanged change n.streams stream other elsewhere)
      ∙ ap (λ streams. option_map_or (λ row. row.bytes) (row_of streams other) []) noted.streams);
}

-- ---- a write

pub IsUntouched-write_noted : (v : Volume) (link stream : ℕ) (longer : Bool) → IsUntouched v (with_write_noted v link stream longer)
IsUntouched-write_noted v link stream longer = elim (cases_Bool (is_named_stream v stream)) [
  | inl named ↦ rw named (IsUntouched-noted v link 8 (if longer then 0xC00 else 0x800) (Some stream))
  | inr unnamed ↦ rw unnamed (IsUntouched-noted v link 3 (if longer then 0x18 else 0x10) None)
]

-- the file's times and attributes set
pub IsUntouched-basic : (v : Volume) (file creation access write change attributes : ℕ) → IsUntouched v (with_basic v file creation access write change attributes)
IsUntouched-basic v file creation access write change attributes =
    IsUntouched-file_changed v (λ row. record row { creation = creation; access = access; write = write; change = change; attributes = attributes }) file (λ row. refl)

Changes-written : (u : Volume) (link stream at : ℕ) (bytes : List ℕ) → Changes u (with_written u link stream at bytes) stream
Changes-written u link stream at bytes =
    let n : Volume = with_write_noted u link stream (lengthens u stream at bytes) in
    Changes-stream u n (with_written u link stream at bytes) (λ row. record row { bytes = put row.bytes at bytes }) stream
    (IsUntouched-write_noted u link stream (lengthens u stream at bytes)) (IsUntouched-basic (record n { streams = with_row_changed (λ row. record row { bytes = put row.bytes at bytes }) n.streams stream }) _ _ _ _ _ _)

handles-written : (u : Volume) (link stream at : ℕ) (bytes : List ℕ) → (with_written u link stream at bytes).handles ≡ u.handles
handles-written u link stream at bytes = IsUntouched.handles (IsUntouched-write_noted u link stream (lengthens u stream at bytes))

IsTied-written : (u : Volume) (link stream at : ℕ) (bytes : List ℕ) → IsTied u → IsTied (with_written u link stream at bytes)
IsTied-written u link stream at bytes tied =
    let n : Volume = with_write_noted u link stream (lengthens u stream at bytes) in
    IsTied-alike _ _ (IsUntouched-basic (record n { streams = with_row_changed (λ row. record row { bytes = put row.bytes at bytes }) n.streams stream }) _ _ _ _ _ _)
    (IsTied-stream_changed n (λ row. record row { bytes = put row.bytes at bytes }) stream (λ row. refl)
    (IsTied-alike u n (IsUntouched-write_noted u link stream (lengthens u stream at bytes)) tied))

-- a write by a handle, from the volume that the breaks left
Behaves-write_bytes : (v u : Volume) (acting : Option ℕ) (key link stream at : ℕ) (bytes : List ℕ) → Broken v acting key u
    → KeepsBytes v acting key (with_written u link stream at bytes) → Behaves v acting key (write_bytes u link stream at bytes)
unfolding write_bytes
Behaves-write_bytes v u acting key link stream at bytes broken written = record {
  tied = IsTied-written u link stream at bytes broken.tied;
  coherent = written;
  ends = ends-as v u (with_written u link stream at bytes) acting key (Changes.oplocks (Changes-written u link stream at bytes))
      (λ handle none. ap (λ (rows : List (ℕ × Handle)). row_of rows handle) (handles-written u link stream at bytes) ∙ none) broken.ends;
  falls = Falls-next v u (with_written u link stream at bytes) broken.falls
      (Falls-opens u (with_written u link stream at bytes) (handles-written u link stream at bytes) (Changes.oplocks (Changes-written u link stream at bytes)));
}

Behaves-write_grown : (v u : Volume) (acting : Option ℕ) (key link stream at : ℕ) (bytes : List ℕ) → Broken v acting key u
    → KeepsBytes v acting key (with_written u link stream at bytes) → Behaves v acting key (write_grown u link stream at bytes)
unfolding write_grown
Behaves-write_grown v u acting key link stream at bytes broken written =
    Behaves-option (growth_fault u stream (at + length bytes)) _ _ (λ status is. Behaves-broken v acting key u status broken)
    (Behaves-write_bytes v u acting key link stream at bytes broken written)

Behaves-write_unlocked : (v u : Volume) (acting : Option ℕ) (key handle link stream at : ℕ) (bytes : List ℕ) → Broken v acting key u
    → KeepsBytes v acting key (with_written u link stream at bytes) → Behaves v acting key (write_unlocked u handle link stream at bytes)
unfolding write_unlocked
Behaves-write_unlocked v u acting key handle link stream at bytes broken written =
    Behaves-if (write_is_locked u handle stream at (length bytes)) _ _ (λ locked. Behaves-broken v acting key u _ broken)
    (λ free. Behaves-write_grown v u acting key link stream at bytes broken written)

Behaves-write_range : (v : Volume) (id key link stream at : ℕ) (bytes : List ℕ) → IsTied v → Behaves v (Some id) key (write_range v id key link stream at bytes)
unfolding write_range
Behaves-write_range v id key link stream at bytes tied =
    Behaves-if (waits_for v (Stream stream) Change (Some id) key) _ _ (λ waits. Behaves-held v (Stream stream) Change (Some id) key tied)
    (λ goes. Behaves-write_unlocked v _ (Some id) key id link stream at bytes (Broken-breaks v (Stream stream) Change (Some id) key tied goes)
    (KeepsBytes-changes v _ (Some id) key stream tied goes (Changes-written (with_breaks v (Stream stream) Change (Some id) key) link stream at bytes)))

Behaves-write_at_place : (v : Volume) (id : ℕ) (handle : Handle) (stream at : ℕ) (bytes : List ℕ) → IsTied v
    → Behaves v (Some id) handle.key (write_at_place v id handle stream at bytes)
unfolding write_at_place
Behaves-write_at_place v id handle stream at bytes tied =
    Behaves-if (nat_lt largest_end (at + length bytes)) _ _ (λ far. Behaves-refused v _ _ _ tied) (λ near. Behaves-write_range v id handle.key handle.link stream at bytes tied)

Behaves-write_stream : (v : Volume) (id : ℕ) (handle : Handle) (stream : ℕ) (at : Option ℕ) (bytes : List ℕ) → IsTied v
    → Behaves v (Some id) handle.key (write_stream v id handle stream at bytes)
unfolding write_stream
Behaves-write_stream v id handle stream at bytes tied =
    Behaves-if (not (can_write handle.access at)) _ _ (λ denied. Behaves-refused v _ _ _ tied)
    (λ granted. Behaves-if (length bytes == 0) _ _ (λ none. Behaves-done v _ _ _ tied (IsUntouched-same v))
    (λ some. Behaves-write_at_place v id handle stream (unwrap_or at (length (bytes_of v stream))) bytes tied))

Behaves-write_by : (v : Volume) (id : ℕ) (handle : Handle) (at : Option ℕ) (bytes : List ℕ) → IsTied v
    → Behaves v (Some id) handle.key (write_by v id handle at bytes)
unfolding write_by
Behaves-write_by v id handle at bytes tied =
    Behaves-option handle.stream _ _ (λ stream is. Behaves-write_stream v id handle stream at bytes tied) (Behaves-refused v _ _ _ tied)

Behaves-write_at : (v : Volume) (id : ℕ) (at : Option ℕ) (bytes : List ℕ) → IsTied v → Behaves v (Some id) (key_of v id) (write_at v id at bytes)
unfolding write_at
Behaves-write_at v id at bytes tied = elim (option_cases (row_of v.handles id)) [
  | inl none ↦ rw none (Behaves-refused v _ _ _ tied)
  | inr some ↦ rw some.1 (Behaves-write_by v id some.0 at bytes tied)
]

pub Behaves-write : (v : Volume) (client handle : ℕ) (at : Option ℕ) (bytes : List ℕ) → IsTied v
    → Behaves v (handle_of v client handle) (key_acting v (handle_of v client handle)) (try_write v client handle at bytes)
unfolding try_write
Behaves-write v client handle at bytes tied = elim (option_cases (handle_of v client handle)) [
  | inl none ↦ rw none (Behaves-refused v _ _ _ tied)
  | inr some ↦ rw some.1 (Behaves-write_at v some.0 at bytes tied)
]

-- ---- a read

Behaves-read_bytes : (v u : Volume) (acting : Option ℕ) (key stream at count : ℕ) → Broken v acting key u → Behaves v acting key (read_bytes u stream at count)
unfolding read_bytes
Behaves-read_bytes v u acting key stream at count broken =
    Behaves-if (nat_le (length (bytes_of u stream)) at) _ _ (λ past. Behaves-broken v acting key u _ broken)
    (λ within. record { tied = broken.tied; coherent = broken.coherent; ends = broken.ends; falls = broken.falls })

Behaves-read_unlocked : (v u : Volume) (acting : Option ℕ) (key handle stream at count : ℕ) → Broken v acting key u → Behaves v acting key (read_unlocked u handle stream at count)
unfolding read_unlocked
Behaves-read_unlocked v u acting key handle stream at count broken =
    Behaves-if (read_is_locked u handle stream at count) _ _ (λ locked. Behaves-broken v acting key u _ broken)
    (λ free. Behaves-read_bytes v u acting key stream at count broken)

Behaves-read_range : (v : Volume) (handle key stream at count : ℕ) → IsTied v → Behaves v (Some handle) key (read_range v handle key stream at count)
unfolding read_range
Behaves-read_range v handle key stream at count tied =
    Behaves-if (waits_for v (Stream stream) ReadOpen (Some handle) key) _ _ (λ waits. Behaves-held v (Stream stream) ReadOpen (Some handle) key tied)
    (λ goes. Behaves-read_unlocked v _ (Some handle) key handle stream at count (Broken-breaks v (Stream stream) ReadOpen (Some handle) key tied goes))

Behaves-read_stream : (v : Volume) (id : ℕ) (handle : Handle) (stream at count : ℕ) → IsTied v → Behaves v (Some id) handle.key (read_stream v id handle stream at count)
unfolding read_stream
Behaves-read_stream v id handle stream at count tied =
    Behaves-if (not (has_any handle.access 0x1)) _ _ (λ denied. Behaves-refused v _ _ _ tied)
    (λ granted. Behaves-if (nat_lt largest_end (at + count)) _ _ (λ far. Behaves-refused v _ _ _ tied)
    (λ near. Behaves-if (count == 0) _ _ (λ none. Behaves-done v _ _ _ tied (IsUntouched-same v))
    (λ some. Behaves-read_range v id handle.key stream at count tied)))

Behaves-read_by : (v : Volume) (id : ℕ) (handle : Handle) (at count : ℕ) → IsTied v → Behaves v (Some id) handle.key (read_by v id handle at count)
unfolding read_by
Behaves-read_by v id handle at count tied =
    Behaves-option handle.stream _ _ (λ stream is. Behaves-read_stream v id handle stream at count tied) (Behaves-refused v _ _ _ tied)

Behaves-read_at : (v : Volume) (id at count : ℕ) → IsTied v → Behaves v (Some id) (key_of v id) (read_at v id at count)
unfolding read_at
Behaves-read_at v id at count tied = elim (option_cases (row_of v.handles id)) [
  | inl none ↦ rw none (Behaves-refused v _ _ _ tied)
  | inr some ↦ rw some.1 (Behaves-read_by v id some.0 at count tied)
]

pub Behaves-read : (v : Volume) (client handle at count : ℕ) → IsTied v
    → Behaves v (handle_of v client handle) (key_acting v (handle_of v client handle)) (try_read v client handle at count)
unfolding try_read
Behaves-read v client handle at count tied = elim (option_cases (handle_of v client handle)) [
  | inl none ↦ rw none (Behaves-refused v _ _ _ tied)
  | inr some ↦ rw some.1 (Behaves-read_at v some.0 at count tied)
]

-- ---- a setting of security

pub IsUntouched-next : (u v w : Volume) → IsUntouched u v → IsUntouched v w → IsUntouched u w
IsUntouched-next u v w first second = record {
  oplocks = second.oplocks ∙ first.oplocks;
  handles = second.handles ∙ first.handles;
  links = second.links ∙ first.links;
  streams = second.streams ∙ first.streams;
  last_link = second.last_link ∙ first.last_link;
  last_stream = second.last_stream ∙ first.last_stream;
  root = λ root. second.root (first.root root);
}

IsUntouched-owner_asked : (v : Volume) (file : ℕ) (owner : Option ℕ) → IsUntouched v (with_owner_asked v file owner)
IsUntouched-owner_asked v file None = IsUntouched-same v
IsUntouched-owner_asked v file (Some sid) = IsUntouched-file_changed v (λ row. record row { owner = sid }) file (λ row. refl)

IsUntouched-dacl_asked : (v : Volume) (file : ℕ) (dacl : DaclChange) → IsUntouched v (with_dacl_asked v file dacl)
IsUntouched-dacl_asked v file Keep = IsUntouched-same v
IsUntouched-dacl_asked v file Remove = IsUntouched-file_changed v (λ row. record row { dacl = None }) file (λ row. refl)
IsUntouched-dacl_asked v file (Put dacl) = IsUntouched-file_changed v (λ row. record row { dacl = Some (mapped dacl.items) }) file (λ row. refl)

IsUntouched-security_noted : (v : Volume) (link : ℕ) (asks : Bool) → IsUntouched v (with_security_noted v link asks)
IsUntouched-security_noted v link true = IsUntouched-noted v link 3 0x100 None
IsUntouched-security_noted v link false = IsUntouched-same v

IsUntouched-security : (v : Volume) (link file : ℕ) (owner : Option ℕ) (dacl : DaclChange) → IsUntouched v (with_security v link file owner dacl)
IsUntouched-security v link file owner dacl =
    let owned : Volume = with_owner_asked v file owner in
    let listed : Volume = with_dacl_asked owned file dacl in
    IsUntouched-next v (with_change_time listed file) (with_security v link file owner dacl)
    (IsUntouched-next v listed (with_change_time listed file) (IsUntouched-next v owned listed (IsUntouched-owner_asked v file owner) (IsUntouched-dacl_asked owned file dacl)) (IsUntouched-basic listed _ _ _ _ _ _))
    (IsUntouched-security_noted (with_change_time listed file) link (asks_something owner dacl))

Behaves-set_security_of : (v : Volume) (acting : Option ℕ) (key client link file : ℕ) (owner : Option ℕ) (dacl : DaclChange) → IsTied v
    → Behaves v acting key (set_security_of v client link file owner dacl)
unfolding set_security_of
Behaves-set_security_of v acting key client link file owner dacl tied =
    Behaves-if (is_foreign v client owner) _ _ (λ foreign. Behaves-refused v _ _ _ tied)
    (λ own. Behaves-if (passes_limit v file owner) _ _ (λ passes. Behaves-refused v _ _ _ tied)
    (λ within. Behaves-done v _ _ _ tied (IsUntouched-security v link file owner dacl)))

Behaves-set_security_by : (v : Volume) (acting : Option ℕ) (key client : ℕ) (handle : Handle) (owner : Option ℕ) (dacl : DaclChange) → IsTied v
    → Behaves v acting key (set_security_by v client handle owner dacl)
unfolding set_security_by
Behaves-set_security_by v acting key client handle owner dacl tied =
    Behaves-if (lacks_right handle.access owner dacl) _ _ (λ denied. Behaves-refused v _ _ _ tied)
    (λ granted. Behaves-option (file_of_link v.links handle.link) _ _ (λ file is. Behaves-set_security_of v acting key client handle.link file owner dacl tied) (Behaves-refused v _ _ _ tied))

Behaves-set_security_at : (v : Volume) (acting : Option ℕ) (key client id : ℕ) (owner : Option ℕ) (dacl : DaclChange) → IsTied v
    → Behaves v acting key (set_security_at v client id owner dacl)
unfolding set_security_at
Behaves-set_security_at v acting key client id owner dacl tied =
    Behaves-option (row_of v.handles id) _ _ (λ handle is. Behaves-set_security_by v acting key client handle owner dacl tied) (Behaves-refused v _ _ _ tied)

pub Behaves-set_security : (v : Volume) (acting : Option ℕ) (key client handle : ℕ) (owner : Option ℕ) (dacl : DaclChange) → IsTied v
    → Behaves v acting key (try_set_security v client handle owner dacl)
unfolding try_set_security
Behaves-set_security v acting key client handle owner dacl tied =
    Behaves-option (handle_of v client handle) _ _ (λ id is. Behaves-set_security_at v acting key client id owner dacl tied) (Behaves-refused v _ _ _ tied)
