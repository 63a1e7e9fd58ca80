-- The break of oplocks over a volume: which are broken, in what order, what becomes of them, whose
-- calls are told, and for which breaks a request waits, after [MS-FSA] 'Algorithm to Check for an
-- Oplock Break'.
use Rattle.std.specs.Prelude.{ℕ, Bool, List, [], false, ◌&&◌, ◌==◌, not, nat_lt, Option, filter, fold, option_and_then, if◌then◌else◌}
use Rattle.std.specs.Option.{option_map_or}
use Rattle.std.specs.Ordering.{is_lt}
use Rattle.fsa_types.specs.CaseTable.{cmp_name, same_name}
pub use Rattle.fsa_types.specs.OplockLists.{is_told}
use Rattle.fsa_types.specs.OplockLists.{OplockState, after_effect, effect_on, told_by, told_among, awaited_among}
use Rattle.fsa_types.specs.Oplocks.{Effect, Begins, is_same_key}
use Rattle.fsa_types.specs.Rows.{row_of}
use Rattle.fsa_types.specs.Sorting.{in_order}
use Rattle.fsa_types.specs.declared.oplock.Class.{Class}
use Rattle.fsa_types.specs.declared.oplock.HandleSet.{HandleSet}
use Rattle.fsa_types.specs.declared.reply.Body.TheVariants.{Broken}
use Rattle.fsa_types.specs.declared.request.Level.{Level}
use Rattle.fsa_types.specs.declared.status.Status.TheVariants.{Success}
use Rattle.fsa_model.specs.Volume.{Oplock, Volume}
use Rattle.fsa_model.specs.Lookups.{is_on, file_of_link}
use Rattle.fsa_model.specs.Edits.{with_end}

-- the file of a handle, and the name of its stream, empty for a directory
abbrev pub file_of_handle : Volume → ℕ → ℕ
file_of_handle v handle =
    option_map_or (λ row. option_map_or (λ file. file) (file_of_link v.links row.link) 0) (row_of v.handles handle) 0

abbrev pub stream_name_of_handle : Volume → ℕ → List ℕ
stream_name_of_handle v handle =
    option_map_or (λ row. option_map_or (λ stream. option_map_or (λ s. s.name) (row_of v.streams stream) []) row.stream [])
    (row_of v.handles handle) []

-- the order in which oplocks are broken: by rising file; in a file the default stream first, then by
-- name; in a stream in the order in which their handles were opened
abbrev pub is_broken_before : Volume → Oplock → Oplock → Bool
is_broken_before v a b =
    if not (file_of_handle v a.handle == file_of_handle v b.handle)
    then nat_lt (file_of_handle v a.handle) (file_of_handle v b.handle)
    else if not (same_name v.table (stream_name_of_handle v a.handle) (stream_name_of_handle v b.handle))
    then is_lt (cmp_name v.table (stream_name_of_handle v a.handle) (stream_name_of_handle v b.handle))
    else nat_lt a.handle b.handle

-- an oplock of a handle of the set, of another key than the acting handle's
abbrev pub is_chosen : Volume → HandleSet → Option ℕ → ℕ → Oplock → Bool
is_chosen v on acting key oplock =
    option_map_or (λ row. is_on v on row) (row_of v.handles oplock.handle) false
    && not (is_same_key oplock.handle oplock.key acting key)

-- the oplocks that are broken, in order
abbrev pub chosen : Volume → HandleSet → Option ℕ → ℕ → List Oplock
chosen v on acting key = in_order (is_broken_before v) (filter (is_chosen v on acting key) v.oplocks)

-- the call that is pending as granted ends with SUCCESS and what it is told
abbrev pub with_told : Volume → Option ℕ → Level → Bool → Volume
with_told v turn level ack =
    option_map_or
    (λ row. with_end v row.call.client row.call.number (record { status = Success; body = Broken level ack }))
    (option_and_then (row_of v.pending) turn) v

-- the holder of an oplock that this call granted is told, where it is to be
abbrev pub with_told_by : Volume → Option ℕ → Effect → Volume
with_told_by v turn done = option_map_or (λ told. with_told v turn told.0 told.1) (told_by done) v

-- the oplocks, with the number of the last break that began
abbrev pub oplocks_of : Volume → OplockState
oplocks_of v = record { oplocks = v.oplocks; last_break = v.last_break }

-- these in their place
abbrev pub with_oplocks : Volume → OplockState → Volume
with_oplocks v held = record v { oplocks = held.oplocks; last_break = held.last_break }

-- what the effect on an oplock leaves of the volume
abbrev pub with_effect : Volume → Oplock → Effect → Volume
with_effect v oplock done = with_told_by (with_oplocks v (after_effect done oplock.handle (oplocks_of v))) oplock.call done

-- all oplocks that are chosen broken, one after the other
abbrev pub with_breaks : Volume → HandleSet → Class → Option ℕ → ℕ → Volume
with_breaks v on class acting key = fold (λ w oplock. with_effect w oplock (effect_on class oplock)) v (chosen v on acting key)

-- the breaks that the request waits for, in order
abbrev pub awaited : Volume → HandleSet → Class → Option ℕ → ℕ → List ℕ
awaited v on class acting key = awaited_among class (chosen v on acting key) (with_breaks v on class acting key).oplocks

-- the oplocks whose pending calls are told
abbrev pub told : Volume → HandleSet → Class → Option ℕ → ℕ → List Oplock
told v on class acting key = told_among class (chosen v on acting key)

-- ---- parts of it

-- a numbered break of the handle's oplock has begun
abbrev pub with_break_begun : Volume → ℕ → Level → Volume
with_break_begun v handle level = with_oplocks v (after_effect (Begins level) handle (oplocks_of v))
