-- A new length, a lock, an unlock and a flush are coherent.
use Rattle.std.proofs.Common.{◌≡◌, ℕ, Bool, true, false, ◌==◌, ◌||◌, not, List, [], length, refl, ap, ◌∙◌, Option, Some, None, inl, inr}
use Rattle.std.specs.Option.{option_map_or}
use Rattle.std.specs.Prelude.{nat_lt}
use Rattle.std.proofs.lemmas.Bool.{cases_Bool}
use Rattle.fsa_types.specs.Access.{has_any}
use Rattle.fsa_types.specs.declared.oplock.Class.TheVariants.{Change}
use Rattle.fsa_types.specs.declared.oplock.HandleSet.TheVariants.{Stream}
use Rattle.fsa_types.specs.declared.reply.Blocker.{Blocker}
use Rattle.fsa_types.specs.Rows.{row_of, with_row_changed}
use Rattle.fsa_types.specs.StreamBytes.{cut}
use Rattle.fsa_model.specs.Breaks.{with_breaks}
use Rattle.fsa_model.specs.Coherence.{IsTied, key_of, key_acting}
use Rattle.fsa_model.specs.Edits.{is_lock_on, with_lock, without_lock}
use Rattle.fsa_model.specs.Flush.{flush_at, try_flush}
use Rattle.fsa_model.specs.Growth.{growth_fault}
use Rattle.fsa_model.specs.Locking.{lock_blockers, lock_free, lock_range, passes_top, lock_stream, lock_by, lock_at, try_lock, unlock_range, unlock_by, unlock_at, try_unlock}
use Rattle.fsa_model.specs.Lookups.{bytes_of, handle_of, number_of, largest_end}
use Rattle.fsa_model.specs.Outcome.{Outcome}
use Rattle.fsa_model.specs.SetEnd.{with_resized, with_end_set, set_end_grown, set_end_to, set_end_stream, set_end_by, set_end_at, try_set_end}
use Rattle.fsa_model.specs.Volume as volume
use Rattle.fsa_model.specs.Volume.{Handle, Volume}
use Rattle.fsa_model.specs.Waits.{waits_for}
use Rattle.fsa_model.specs.Write.{with_write_noted}
use Rattle.fsa_model.proofs.CoherenceData.{Behaves, Behaves-if, Behaves-option, Behaves-done, Behaves-refused, Behaves-held, Broken, Broken-breaks, Behaves-broken, Changes-stream, IsUntouched-write_noted, IsUntouched-basic, ends-as}
use Rattle.fsa_model.proofs.CoherenceEdits.{IsTied-stream_changed}
use Rattle.fsa_model.proofs.CoherenceEnds.{Gone, HasTold, Awaits, EndsByCause}
use Rattle.fsa_model.proofs.CoherenceFalls.{Falls-next, Falls-opens}
use Rattle.fsa_model.proofs.CoherenceSteps.{Changes, KeepsBytes-changes}
use Rattle.fsa_model.proofs.CoherenceTied.{IsUntouched-same, IsTied-alike, IsUntouched}
use Rattle.fsa_model.proofs.RowLaws.{option_cases}

-- ---- a new length

-- what a change of a stream's bytes leaves, once the breaks have been
record Changed (u w : Volume) (stream : ℕ) : Type 0 where
  changes : Changes u w stream
  handles : w.handles ≡ u.handles
  tied : IsTied u → IsTied w

Changed-resized : (u : Volume) (link stream end : ℕ) → Changed u (with_resized u link stream end) stream
Changed-resized u link stream end =
    let n : Volume = with_write_noted u link stream true in
    let cut_here : volume.Stream → volume.Stream = λ row. record row { bytes = cut row.bytes end } in
    let c : Volume = record n { streams = with_row_changed cut_here n.streams stream } in
    let noted : IsUntouched u n = IsUntouched-write_noted u link stream true in record {
      changes = Changes-stream u n (with_resized u link stream end) cut_here stream noted (IsUntouched-basic c _ _ _ _ _ _);
      handles = noted.handles;
      tied = λ tied. IsTied-alike c _ (IsUntouched-basic c _ _ _ _ _ _) (IsTied-stream_changed n cut_here stream (λ row. refl) (IsTied-alike u n noted tied));
    }

Changed-end_set : (u : Volume) (link stream end : ℕ) → Changed u (with_end_set u link stream end) stream
Changed-end_set u link stream end = elim (cases_Bool (length (bytes_of u stream) == end)) [
  | inl same ↦ rw same (record {
    changes = record { oplocks = refl; handles = λ handle row living. living; new = λ handle row living. inl living; others = λ other elsewhere. refl };
    handles = refl;
    tied = λ tied. tied;
  })
  | inr differs ↦ rw differs (Changed-resized u link stream end)
]

Behaves-set_end_grown : (v : Volume) (acting : Option ℕ) (key link stream end : ℕ) → IsTied v → waits_for v (Stream stream) Change acting key ≡ false
    → Behaves v acting key (set_end_grown (with_breaks v (Stream stream) Change acting key) link stream end)
unfolding set_end_grown
Behaves-set_end_grown v acting key link stream end tied goes =
    let u : Volume = with_breaks v (Stream stream) Change acting key in
    let broken : Broken v acting key u = Broken-breaks v (Stream stream) Change acting key tied goes in
    let it : Changed u (with_end_set u link stream end) stream = Changed-end_set u link stream end in
    Behaves-option (growth_fault u stream end) _ _ (λ status is. Behaves-broken v acting key u status broken)
    (record {
      tied = it.tied broken.tied;
      coherent = KeepsBytes-changes v (with_end_set u link stream end) acting key stream tied goes it.changes;
      ends = ends-as v u (with_end_set u link stream end) acting key it.changes.oplocks (λ handle none. ap (λ (rows : List (ℕ × Handle)). row_of rows handle) it.handles ∙ none) broken.ends;
      falls = Falls-next v u (with_end_set u link stream end) broken.falls (Falls-opens u (with_end_set u link stream end) it.handles it.changes.oplocks);
    })

Behaves-set_end_to : (v : Volume) (id key link stream end : ℕ) → IsTied v → Behaves v (Some id) key (set_end_to v id key link stream end)
unfolding set_end_to
Behaves-set_end_to v id key link stream end tied =
    Behaves-if (waits_for v (Stream stream) Change (Some id) key) _ _ (λ waits. Behaves-held v (Stream stream) Change (Some id) key tied)
    (λ goes. Behaves-set_end_grown v (Some id) key link stream end tied goes)

Behaves-set_end_by : (v : Volume) (id : ℕ) (handle : Handle) (end : ℕ) → IsTied v → Behaves v (Some id) handle.key (set_end_by v id handle end)
unfolding set_end_by set_end_stream
Behaves-set_end_by v id handle end tied =
    Behaves-option handle.stream _ _ (λ stream is. Behaves-if (not (has_any handle.access 0x2)) _ _ (λ denied. Behaves-refused v _ _ _ tied)
    (λ granted. Behaves-if (nat_lt largest_end end) _ _ (λ far. Behaves-refused v _ _ _ tied) (λ near. Behaves-set_end_to v id handle.key handle.link stream end tied)))
    (Behaves-refused v _ _ _ tied)

-- a verb by the handle that a client names: what holds by its row holds by its number
by_row : (v : Volume) (id : ℕ) (by : Handle → Outcome) (otherwise : Outcome) → ((row : Handle) → Behaves v (Some id) row.key (by row)) → Behaves v (Some id) (key_of v id) otherwise
    → Behaves v (Some id) (key_of v id) (option_map_or by (row_of v.handles id) otherwise)
by_row v id by otherwise with_row without = elim (option_cases (row_of v.handles id)) [
  | inl none ↦ rw none (rw none at without)
  | inr some ↦ rw some.1 (with_row some.0)
]

by_number : (v : Volume) (client handle : ℕ) (at : ℕ → Outcome) (otherwise : Outcome) → ((id : ℕ) → Behaves v (Some id) (key_of v id) (at id)) → Behaves v None 0 otherwise
    → Behaves v (handle_of v client handle) (key_acting v (handle_of v client handle)) (option_map_or at (handle_of v client handle) otherwise)
by_number v client handle at otherwise with_id without = elim (option_cases (handle_of v client handle)) [
  | inl none ↦ rw none without
  | inr some ↦ rw some.1 (with_id some.0)
]

pub Behaves-set_end : (v : Volume) (client handle end : ℕ) → IsTied v
    → Behaves v (handle_of v client handle) (key_acting v (handle_of v client handle)) (try_set_end v client handle end)
unfolding try_set_end set_end_at
Behaves-set_end v client handle end tied =
    by_number v client handle (λ id. _) _ (λ id. by_row v id (λ row. set_end_by v id row end) _ (λ row. Behaves-set_end_by v id row end tied) (Behaves-refused v _ _ _ tied)) (Behaves-refused v _ _ _ tied)

-- ---- locks

-- who doesn't wait for breaks ends nothing more by waiting for something else
ends-any : (v u : Volume) (acting : Option ℕ) (key : ℕ) (blockers : List Blocker) → EndsByCause v acting key u [] → EndsByCause v acting key u blockers
ends-any v u acting key blockers ends handle before after = elim (ends handle before after) [
  | Gone none ↦ Gone none
  | HasTold oplock broken told ↦ HasTold oplock broken told
  | Awaits oplock broken awaits ↦ cc
]

IsUntouched-with_lock : (v : Volume) (handle at count : ℕ) (exclusive : Bool) → IsUntouched v (with_lock v handle at count exclusive)
IsUntouched-with_lock v handle at count exclusive = record { oplocks = refl; handles = refl; links = refl; streams = refl; last_link = refl; last_stream = refl; root = λ root. root }

IsUntouched-without_lock : (v : Volume) (handle at count : ℕ) → IsUntouched v (without_lock v handle at count)
IsUntouched-without_lock v handle at count = record { oplocks = refl; handles = refl; links = refl; streams = refl; last_link = refl; last_stream = refl; root = λ root. root }

Behaves-lock_free : (v : Volume) (acting : Option ℕ) (key : ℕ) (handle stream at count : ℕ) (exclusive wait : Bool) → IsTied v → waits_for v (Stream stream) Change acting key ≡ false
    → Behaves v acting key (lock_free (with_breaks v (Stream stream) Change acting key) handle stream at count exclusive wait)
unfolding lock_free
Behaves-lock_free v acting key handle stream at count exclusive wait tied goes =
    let u : Volume = with_breaks v (Stream stream) Change acting key in
    let broken : Broken v acting key u = Broken-breaks v (Stream stream) Change acting key tied goes in
    Behaves-if (length (lock_blockers u handle stream at count exclusive) == 0) _ _
    (λ free. record {
      tied = IsTied-alike u _ (IsUntouched-with_lock u handle at count exclusive) broken.tied;
      coherent = record { reads_stay = broken.coherent.reads_stay; writers_are_done = broken.coherent.writers_are_done };
      ends = ends-as v u (with_lock u handle at count exclusive) acting key refl (λ other none. none) broken.ends;
      falls = Falls-next v u (with_lock u handle at count exclusive) broken.falls (Falls-opens u (with_lock u handle at count exclusive) refl refl);
    })
    (λ taken. Behaves-if wait _ _ (λ waits. record { tied = broken.tied; coherent = broken.coherent; ends = ends-any v u acting key _ broken.ends; falls = broken.falls })
    (λ refuses. Behaves-broken v acting key u _ broken))

Behaves-lock_by : (v : Volume) (id : ℕ) (handle : Handle) (at count : ℕ) (exclusive wait : Bool) → IsTied v → Behaves v (Some id) handle.key (lock_by v id handle at count exclusive wait)
unfolding lock_by lock_stream lock_range
Behaves-lock_by v id handle at count exclusive wait tied =
    Behaves-option handle.stream _ _ (λ stream is. Behaves-if (not (has_any handle.access 0x1 || has_any handle.access 0x2)) _ _ (λ denied. Behaves-refused v _ _ _ tied)
    (λ granted. Behaves-if (passes_top at count) _ _ (λ far. Behaves-refused v _ _ _ tied)
    (λ near. Behaves-if (waits_for v (Stream stream) Change (Some id) handle.key) _ _ (λ waits. Behaves-held v (Stream stream) Change (Some id) handle.key tied)
    (λ goes. Behaves-lock_free v (Some id) handle.key id stream at count exclusive wait tied goes))))
    (Behaves-refused v _ _ _ tied)

pub Behaves-lock : (v : Volume) (client handle at count : ℕ) (exclusive wait : Bool) → IsTied v
    → Behaves v (handle_of v client handle) (key_acting v (handle_of v client handle)) (try_lock v client handle at count exclusive wait)
unfolding try_lock lock_at
Behaves-lock v client handle at count exclusive wait tied =
    by_number v client handle (λ id. _) _ (λ id. by_row v id (λ row. lock_by v id row at count exclusive wait) _ (λ row. Behaves-lock_by v id row at count exclusive wait tied) (Behaves-refused v _ _ _ tied))
    (Behaves-refused v _ _ _ tied)

pub Behaves-unlock : (v : Volume) (acting : Option ℕ) (key client handle at count : ℕ) → IsTied v → Behaves v acting key (try_unlock v client handle at count)
unfolding try_unlock unlock_at unlock_by unlock_range
Behaves-unlock v acting key client handle at count tied =
    Behaves-option (handle_of v client handle) _ _ (λ id named. Behaves-option (row_of v.handles id) _ _ (λ row living. Behaves-option row.stream _ _ (λ stream on_it.
    Behaves-option (number_of (is_lock_on id at count) v.locks) _ _ (λ number is. Behaves-done v _ _ _ tied (IsUntouched-without_lock v id at count)) (Behaves-refused v _ _ _ tied))
    (Behaves-refused v _ _ _ tied)) (Behaves-refused v _ _ _ tied)) (Behaves-refused v _ _ _ tied)

pub Behaves-flush : (v : Volume) (acting : Option ℕ) (key client handle : ℕ) → IsTied v → Behaves v acting key (try_flush v client handle)
unfolding try_flush flush_at
Behaves-flush v acting key client handle tied =
    Behaves-option (handle_of v client handle) _ _ (λ id named. Behaves-option (row_of v.handles id) _ _
    (λ row living. Behaves-if (has_any row.access 0x2 || has_any row.access 0x4) _ _ (λ may. Behaves-done v _ _ _ tied (IsUntouched-same v)) (λ denied. Behaves-refused v _ _ _ tied))
    (Behaves-refused v _ _ _ tied)) (Behaves-refused v _ _ _ tied)
