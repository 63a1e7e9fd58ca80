-- Ways from one volume to the next that are coherent.
use Rattle.std.proofs.Common.{◌≡◌, ℕ, true, false, ◌==◌, List, [], refl, ap, sym, ◌∙◌, Option, Some, None, inl, inr, ◌⊎◌}
use Rattle.std.specs.Option.{option_map_or}
use Rattle.std.specs.Prelude.{find}
use Rattle.std.proofs.lemmas.Bool.{cases_Bool, eqb-true, false≢true}
use Rattle.fsa_types.specs.declared.oplock.Class.TheVariants.{Change}
use Rattle.fsa_types.specs.declared.oplock.HandleSet.TheVariants.{Stream}
use Rattle.fsa_types.specs.Oplocks.{has_write}
use Rattle.fsa_types.specs.Rows.{row_of}
use Rattle.fsa_model.specs.Breaks.{with_breaks}
use Rattle.fsa_model.specs.Coherence.{BytesStay, ChangesWhereNoneWrites, counts_on_reads, bytes_under, IsTied}
use Rattle.fsa_model.specs.Grant.{oplock_of}
use Rattle.fsa_model.specs.Lookups.{bytes_of, is_on, is_open_on}
use Rattle.fsa_model.specs.Sound.{has_its_key}
use Rattle.fsa_model.specs.Volume.{Handle, Oplock, Volume}
use Rattle.fsa_model.specs.Waits.{waits_for}
use Rattle.fsa_model.proofs.CoherenceBreaks.{find-passes, handles-breaks, streams-breaks, no_other-breaks, counts-change, takes_writing}
use Rattle.fsa_model.proofs.RowLaws.{option_cases, find-all}

-- a way from one volume to the next by a call that acts by this handle and with this key: where a handle counts its
-- bytes change only by its own key, and bytes change only where nobody of another key is left with write caching
pub record KeepsBytes (v : Volume) (acting : Option ℕ) (key : ℕ) (next : Volume) : Type 0 where
  pub reads_stay : BytesStay v acting key next
  pub writers_are_done : ChangesWhereNoneWrites v acting key next

-- a handle with an oplock lives
pub oplock-lives : (v : Volume) (handle : ℕ) (oplock : Oplock) → IsTied v → oplock_of v handle ≡ Some oplock → (row : Handle) × (row_of v.handles handle ≡ Some row)
oplock-lives v handle oplock tied found =
    let of_it : oplock.handle ≡ handle = eqb-true oplock.handle handle (find-passes (λ o. o.handle == handle) v.oplocks oplock found) in
    let keyed : has_its_key v.handles oplock ≡ true = find-all (λ o. has_its_key v.handles o ≡ true) (λ o. o.handle == handle) v.oplocks oplock found tied.oplocks_have_keys in
    elim (option_cases (row_of v.handles handle)) [
      | inl none ↦ absurd (false≢true (rw (of_it, none) at keyed))
      | inr some ↦ some
    ]

pub counting-lives : (v : Volume) (handle : ℕ) → IsTied v → counts_on_reads v handle ≡ true → (row : Handle) × (row_of v.handles handle ≡ Some row)
counting-lives v handle tied counts = elim (option_cases (oplock_of v handle)) [
  | inl none ↦ absurd (false≢true (rw none at counts))
  | inr some ↦ oplock-lives v handle some.0 tied some.1
]

-- the bytes under a handle, where both volumes have it and give its stream the same bytes
bytes_under-same : (v w : Volume) (handle : ℕ) (row : Handle) → row_of v.handles handle ≡ Some row → row_of w.handles handle ≡ Some row
    → ((stream : ℕ) → row.stream ≡ Some stream → bytes_of w stream ≡ bytes_of v stream) → bytes_under w handle ≡ bytes_under v handle
bytes_under-same v w handle row before after same = elim (option_cases row.stream) [
  | inl none ↦ rw (before, after, none) refl
  | inr some ↦ rw (before, after, some.1) (same some.0 some.1)
]

-- ---- handles go, and streams without handles

pub record Leaves (v w : Volume) : Type 0 where
  pub handles : (handle : ℕ) (row : Handle) → row_of w.handles handle ≡ Some row → row_of v.handles handle ≡ Some row
  pub bytes : (handle : ℕ) (row : Handle) (stream : ℕ) → row_of w.handles handle ≡ Some row → row.stream ≡ Some stream → bytes_of w stream ≡ bytes_of v stream

pub Leaves-next : (u v w : Volume) → Leaves u v → Leaves v w → Leaves u w
Leaves-next u v w first second = record {
  handles = λ handle row living. first.handles handle row (second.handles handle row living);
  bytes = λ handle row stream living has. second.bytes handle row stream living has ∙ first.bytes handle row stream (second.handles handle row living) has;
}

pub KeepsBytes-leaves : (v w : Volume) (acting : Option ℕ) (key : ℕ) → IsTied w → Leaves v w → KeepsBytes v acting key w
KeepsBytes-leaves v w acting key tied leaves = record {
  reads_stay = λ handle before after other.
      let it : (row : Handle) × (row_of w.handles handle ≡ Some row) = counting-lives w handle tied after in
      bytes_under-same v w handle it.0 (leaves.handles handle it.0 it.1) it.1 (λ stream has. leaves.bytes handle it.0 stream it.1 has);
  writers_are_done = λ stream differ handle row living on_it other. absurd (differ (leaves.bytes handle row stream living (on_stream stream row on_it)));
}
  where
    on_stream : (stream : ℕ) (row : Handle) → is_open_on stream row ≡ true → row.stream ≡ Some stream
    on_stream stream row on_it = elim (option_cases row.stream) [
      | inl none ↦ absurd (false≢true (rw none at on_it))
      | inr some ↦ some.1 ∙ ap (λ s. Some s) (eqb-true some.0 stream (rw some.1 at on_it))
    ]

-- ---- handles and empty streams come

pub record Comes (v w : Volume) : Type 0 where
  pub handles : (handle : ℕ) (row : Handle) → row_of v.handles handle ≡ Some row → row_of w.handles handle ≡ Some row
  pub bytes : (stream : ℕ) → bytes_of w stream ≡ bytes_of v stream

pub KeepsBytes-comes : (v w : Volume) (acting : Option ℕ) (key : ℕ) → IsTied v → Comes v w → KeepsBytes v acting key w
KeepsBytes-comes v w acting key tied comes = record {
  reads_stay = λ handle before after other.
      let it : (row : Handle) × (row_of v.handles handle ≡ Some row) = counting-lives v handle tied before in
      bytes_under-same v w handle it.0 it.1 (comes.handles handle it.0 it.1) (λ stream has. comes.bytes stream);
  writers_are_done = λ stream differ. absurd (differ (comes.bytes stream));
}

-- ---- a stream changes, once the breaks have been

pub record Changes (u w : Volume) (stream : ℕ) : Type 0 where
  pub oplocks : w.oplocks ≡ u.oplocks
  pub handles : (handle : ℕ) (row : Handle) → row_of u.handles handle ≡ Some row → row_of w.handles handle ≡ Some row
  pub new : (handle : ℕ) (row : Handle) → row_of w.handles handle ≡ Some row → (row_of u.handles handle ≡ Some row) ⊎ (oplock_of u handle ≡ None)
  pub others : (other : ℕ) → (other == stream) ≡ false → bytes_of w other ≡ bytes_of u other

pub KeepsBytes-changes : (v w : Volume) (acting : Option ℕ) (key stream : ℕ) → IsTied v → waits_for v (Stream stream) Change acting key ≡ false
    → Changes (with_breaks v (Stream stream) Change acting key) w stream → KeepsBytes v acting key w
KeepsBytes-changes v w acting key stream tied no_wait changes =
    let u : Volume = with_breaks v (Stream stream) Change acting key in
    let as_held : (handle : ℕ) → oplock_of w handle ≡ oplock_of u handle = λ handle. ap (λ (oplocks : List Oplock). find (λ o. o.handle == handle) oplocks) changes.oplocks in
    record {
      reads_stay = λ handle before after other.
          let it : (row : Handle) × (row_of v.handles handle ≡ Some row) = counting-lives v handle tied before in
          let broken : row_of u.handles handle ≡ Some it.0 = rw (handles-breaks v (Stream stream) Change acting key) it.1 in
          bytes_under-same v w handle it.0 it.1 (changes.handles handle it.0 broken) (λ of_it has. elim (cases_Bool (of_it == stream)) [
            | inl here ↦ (let on_it : is_on v (Stream stream) it.0 ≡ true = rw has here in
                let ended : counts_on_reads u handle ≡ false = counts-change v (Stream stream) acting key handle it.0 tied it.1 on_it other in
                let still : counts_on_reads u handle ≡ true = rw (as_held handle) at after in
                absurd (false≢true (sym ended ∙ still)))
            | inr elsewhere ↦ changes.others of_it elsewhere ∙ ap (λ streams. option_map_or (λ row. row.bytes) (row_of streams of_it) []) (streams-breaks v (Stream stream) Change acting key)
          ]);
      writers_are_done = λ changed differ. elim (cases_Bool (changed == stream)) [
        | inl here ↦ (let same : changed ≡ stream = eqb-true changed stream here in rw same (λ handle row living on_it other.
            elim (changes.new handle row living) [
              | inl old ↦ rw (as_held handle) (no_other-breaks has_write v (Stream stream) Change acting key tied (λ level. (takes_writing level).1) no_wait handle row old on_it
                  (rw old (rw living at other)))
              | inr none ↦ rw (as_held handle, none) refl
            ]))
        | inr elsewhere ↦ absurd (differ (changes.others changed elsewhere ∙ ap (λ streams. option_map_or (λ row. row.bytes) (row_of streams changed) []) (streams-breaks v (Stream stream) Change acting key)))
      ];
    }
