-- Each try of a call ends, where it does, with a status that what it finds allows. The definitions of an open, a read, a write, a
-- lock, a request for an oplock, an acknowledgement and a wait are followed check by check. What a call breaks leaves handles,
-- streams and locks as they were: so a read, a write and a lock find them behind their breaks as they were before. An open knows
-- the set that its path names where its link's file is, and there is none where it makes what it opens.
use Rattle.std.proofs.Common.{◌≡◌, ℕ, ◌+◌, Bool, true, false, ◌&&◌, not, List, [], ◌∷◌, length, get_or, refl, sym, ◌∙◌, subst, inl, inr, ◌⊎◌, Option, Some, None}
use Rattle.std.specs.Option.{option_map_or}
use Rattle.std.specs.Prelude.{◌==◌, ◌||◌, is_some, nat_le, nat_lt, if◌then◌else◌}
use Rattle.std.proofs.lemmas.Bool.{cases_Bool, eq-eqb, not-false, or_parts, or_right}
use Rattle.fsa_types.specs.Access.{has_any}
use Rattle.fsa_types.specs.Masks.{IO_REPARSE_TAG_SYMLINK, READ_DATA, WRITE_DATA}
use Rattle.fsa_types.specs.Oplocks.{has_read, in_both}
use Rattle.fsa_types.specs.Paths.{components, rest_of}
use Rattle.fsa_types.specs.Rows.{row_of}
use Rattle.fsa_types.specs.declared.oplock.Class.{Class}
use Rattle.fsa_types.specs.declared.oplock.Class.TheVariants.{Clash, Change, ReadOpen}
use Rattle.fsa_types.specs.declared.oplock.HandleSet.{HandleSet}
use Rattle.fsa_types.specs.declared.oplock.HandleSet.TheVariants as set
use Rattle.fsa_types.specs.declared.reply.Blocker.{Blocker}
use Rattle.fsa_types.specs.declared.reply.Interim.{Interim}
use Rattle.fsa_types.specs.declared.reply.Reply.{Reply}
use Rattle.fsa_types.specs.declared.request.Call.{Call}
use Rattle.fsa_types.specs.declared.request.Level.{Level}
use Rattle.fsa_types.specs.declared.request.Request.TheVariants as request
use Rattle.fsa_types.specs.declared.request.What.{What}
use Rattle.fsa_types.specs.declared.request.What.TheVariants.{Ask, WaitFor}
use Rattle.fsa_types.specs.declared.status.Status.{Status}
use Rattle.fsa_types.specs.declared.status.Status.TheVariants.{DiskFull, InvalidHandle, QuotaExceeded, Reparse, StoppedOnSymlink}
use Rattle.fsa_model.specs.Breaks.{with_breaks}
use Rattle.fsa_model.specs.Coherence.{set_of_file, set_of_link, set_of_path}
use Rattle.fsa_model.specs.Grant.{ack_at, ack_keeping, is_not_granted, oplock_at, oplock_by, oplock_on, target_of, try_ack, try_oplock}
use Rattle.fsa_model.specs.Growth.{growth_fault}
use Rattle.fsa_model.specs.History.{HistoryEntry}
use Rattle.fsa_model.specs.Locked.{read_is_locked, write_is_locked}
use Rattle.fsa_model.specs.Locking.{lock_at, lock_blockers, lock_by, lock_free, lock_range, lock_stream, passes_top, try_lock}
use Rattle.fsa_model.specs.Lookups.{bytes_of, child_of, handle_of, has_left, is_directory, is_opened_by, largest_end, number_of, stream_of}
use Rattle.fsa_model.specs.Open.{Asked, asks_for_file, clashed, completes_if_oplocked, create_at, create_by_link, create_found, create_in_file, create_missing, create_named, create_on_stream, create_stream, create_there, create_walked, has_stream_part, make_directory, make_file, open_directory, open_existing, open_granted, open_stream, open_waits, overwrite_existing, overwrites, stopped, stream_name, try_create, wants_file, wants_more}
use Rattle.fsa_model.specs.Outcome.{Outcome, Done, Stay, Hold, refused}
use Rattle.fsa_model.specs.Read.{read_at, read_by, read_bytes, read_range, read_stream, read_unlocked, try_read}
use Rattle.fsa_model.specs.Setup.{Setup}
use Rattle.fsa_model.specs.Tries.{Tried, tries_of}
use Rattle.fsa_model.specs.Try.{try, try_what}
use Rattle.fsa_model.specs.Volume.{Handle, Link, Volume}
use Rattle.fsa_model.specs.Waiting.{has_ended, is_pending, try_wait}
use Rattle.fsa_model.specs.Waits.{waits_for, held_by}
use Rattle.fsa_model.specs.Walk.{Walked, Reached, Barred, Diverted, last_name, point_of, walk}
use Rattle.fsa_model.specs.Write.{can_write, try_write, write_at, write_at_place, write_by, write_bytes, write_grown, write_range, write_stream, write_unlocked}
use Rattle.fsa_model.proofs.FaultStatuses.{BarsWithout, walk-fails}
use Rattle.fsa_model.proofs.BreakLaws.{with_breaks-rest}
use Rattle.fsa_model.proofs.SoundWaits.{touched}
use Rattle.history_laws.specs.EndsAsFound.{CallsEndAsFound, EndsAsFound, may_end_as_found, place_of}
use Rattle.history_laws.proofs.SetsByOpens.{clashes, opens_so}

-- ---- ends

-- where a try of such a request of this client has come to this, and has ended it, it may end so
abbrev EndsIn : Volume → ℕ → What → Outcome → Type 0
EndsIn v client what (Done w reply) = may_end_as_found v client what reply.status ≡ true
EndsIn v client what (Stay w interim) = Unit {0}
EndsIn v client what (Hold w blockers interim) = Unit {0}

record Ends (v : Volume) (client : ℕ) (what : What) (outcome : Outcome) : Type 0 where
  so : EndsIn v client what outcome

-- the number that a test finds has its row
is-there : {R : Type 0} (test : R → Bool) (rows : List (ℕ × R)) (id : ℕ) → number_of test rows ≡ Some id → row_of rows id ≡ None → ⊥
is-there test [] id found gone = cc
is-there test (x ∷ rows) id found gone = elim (cases_Bool (x.0 == id)) [
  | inl is ↦ (let impossible = rw is at gone in cc)
  | inr isnt ↦ elim (cases_Bool (test x.1)) [
    | inl passes ↦ (let first : Some x.0 ≡ Some id = rw passes at found in let same : x.0 ≡ id = cc in let is = eq-eqb x.0 id same in cc)
    | inr fails ↦ is-there test rows id (rw fails at found) (rw isnt at gone)
  ]
]

module _ {v : Volume} {client : ℕ} {what : What} where
  -- at once; or it is pending then
  ends-done : {w : Volume} {reply : Reply} → may_end_as_found v client what reply.status ≡ true → Ends v client what (Done w reply)
  ends-done may = record { so = may }

  ends-stay : {w : Volume} {interim : Interim} → Ends v client what (Stay w interim)
  ends-stay = record { so = tt }

  ends-held : {w : Volume} {blockers : List Blocker} {interim : Interim} → Ends v client what (Hold w blockers interim)
  ends-held = record { so = tt }

  -- by a test
  ends-if : (test : Bool) (one other : Outcome) → (test ≡ true → Ends v client what one) → (test ≡ false → Ends v client what other)
      → Ends v client what (if test then one else other)
  ends-if true one other holds fails = holds refl
  ends-if false one other holds fails = fails refl

  -- refused, or on
  ends-unless : (test : Bool) (status : Status) (other : Outcome) → (test ≡ true → may_end_as_found v client what status ≡ true)
      → (test ≡ false → Ends v client what other) → Ends v client what (if test then refused v status else other)
  ends-unless test status other may goes = ends-if test (refused v status) other (λ holds. ends-done (may holds)) goes

  -- with what is looked up
  ends-option : {X : Type 0} (found : Option X) (some : X → Outcome) (none : Outcome) → ((x : X) → found ≡ Some x → Ends v client what (some x))
      → (found ≡ None → Ends v client what none) → Ends v client what (option_map_or some found none)
  ends-option None some none with_some with_none = with_none refl
  ends-option (Some x) some none with_some with_none = with_some x refl

  -- whatever its try comes to
  ends-any : (outcome : Outcome) → ((status : Status) → may_end_as_found v client what status ≡ true) → Ends v client what outcome
  ends-any (Done w reply) may = ends-done (may reply.status)
  ends-any (Stay w interim) may = ends-stay
  ends-any (Hold w blockers interim) may = ends-held

  -- held by breaks, or on behind them, in a volume with the handles, streams and locks of this one
  ends-waits : (on : HandleSet) (class : Class) (acting : Option ℕ) (key : ℕ) (next : Volume → Outcome) → ((w : Volume) → Ends v client what (next (touched v w)))
      → Ends v client what (if waits_for v on class acting key then held_by v on class acting key else next (with_breaks v on class acting key))
  ends-waits on class acting key next goes = ends-if (waits_for v on class acting key) _ _ (λ waits. ends-held)
      (λ free. subst (λ (w : Volume). Ends v client what (next w)) (sym (with_breaks-rest v on class acting key)) (goes (with_breaks v on class acting key)))

  -- by the handle of this number, and its stream
  by-handle : (number : ℕ) (out : ℕ → Handle → Outcome) → (handle_of v client number ≡ None → may_end_as_found v client what InvalidHandle ≡ true)
      → ((id : ℕ) (handle : Handle) → handle_of v client number ≡ Some id → row_of v.handles id ≡ Some handle → Ends v client what (out id handle))
      → Ends v client what (option_map_or (λ id. option_map_or (λ handle. out id handle) (row_of v.handles id) (refused v InvalidHandle)) (handle_of v client number) (refused v InvalidHandle))
  by-handle number out may goes =
      ends-option (handle_of v client number) _ _ (λ id named. ends-option (row_of v.handles id) _ _ (λ handle row. goes id handle named row)
      (λ gone. absurd (is-there (is_opened_by client number) v.handles id named gone))) (λ none. ends-done (may none))

  by-stream : (handle : Handle) (out : ℕ → Outcome) (status : Status) → (handle.stream ≡ None → may_end_as_found v client what status ≡ true)
      → ((stream : ℕ) → handle.stream ≡ Some stream → Ends v client what (out stream)) → Ends v client what (option_map_or (λ stream. out stream) handle.stream (refused v status))
  by-stream handle out status may goes = ends-option handle.stream out (refused v status) goes (λ none. ends-done (may none))

-- the handle of this number, its row, and its stream
record IsOn (v : Volume) (client number id : ℕ) (handle : Handle) (stream : ℕ) : Type 0 where
  named : handle_of v client number ≡ Some id
  row : row_of v.handles id ≡ Some handle
  on : handle.stream ≡ Some stream

-- ---- reads

-- behind its breaks a read ends by the locks in its way, and then by the end of the stream; before them it ends by its checks,
-- or since it is of no bytes
read-unlocked : (v w : Volume) (client number at count id : ℕ) (handle : Handle) (stream : ℕ) → IsOn v client number id handle stream
    → has_any handle.access READ_DATA ≡ true → nat_lt largest_end (at + count) ≡ false → (count == 0) ≡ false
    → Ends v client (Ask (request.Read number at count)) (read_unlocked (touched v w) id stream at count)
unfolding read_unlocked read_bytes
read-unlocked v w client number at count id handle stream its can fits some =
    ends-if (read_is_locked v id stream at count) _ _ (λ locked. ends-done (rw (some, its.named, its.row, its.on, can, fits) locked))
    (λ free. ends-if (nat_le (length (bytes_of v stream)) at) _ _
    (λ past. ends-done (rw (some, its.named, its.row, its.on, can, fits, free) past))
    (λ before. ends-done (rw (some, its.named, its.row, its.on, can, fits, free, before) refl)))

read-stream : (v : Volume) (client number at count id : ℕ) (handle : Handle) (stream : ℕ) → IsOn v client number id handle stream
    → Ends v client (Ask (request.Read number at count)) (read_stream v id handle stream at count)
unfolding read_stream read_range
read-stream v client number at count id handle stream its =
    ends-unless (not (has_any handle.access READ_DATA)) _ _ (λ cannot. rw (its.named, its.row, its.on) cannot) (λ can. let may = not-false (has_any handle.access READ_DATA) can in
    ends-unless (nat_lt largest_end (at + count)) _ _ (λ over. rw (its.named, its.row, its.on, may, over) refl) (λ fits.
    ends-if (count == 0) _ _ (λ none. ends-done (rw (its.named, its.row, its.on, may, fits, none) refl))
    (λ some. ends-waits (set.Stream stream) ReadOpen (Some id) handle.key (λ w. read_unlocked w id stream at count)
    (λ w. read-unlocked v w client number at count id handle stream its may fits some))))

read : (v : Volume) (client number at count : ℕ) → Ends v client (Ask (request.Read number at count)) (try_read v client number at count)
unfolding try_read read_at read_by
read v client number at count =
    by-handle number _ (λ none. rw none refl) (λ id handle named row. by-stream handle _ _ (λ bare. rw (named, row, bare) refl) (λ stream on.
    read-stream v client number at count id handle stream (record { named = named; row = row; on = on })))

-- ---- writes

-- why a stream can't grow: one of two statuses, or none
fault-cases : (no over full : Bool) → let fault : Option Status = if no then None else if over then Some QuotaExceeded else if full then Some DiskFull else None in
    (fault ≡ None) ⊎ (fault ≡ Some QuotaExceeded) ⊎ (fault ≡ Some DiskFull)
fault-cases true over full = inl refl
fault-cases false true full = inr (inl refl)
fault-cases false false true = inr (inr refl)
fault-cases false false false = inl refl

pub growth-cases : (v : Volume) (stream bytes : ℕ) → (growth_fault v stream bytes ≡ None) ⊎ (growth_fault v stream bytes ≡ Some QuotaExceeded) ⊎ (growth_fault v stream bytes ≡ Some DiskFull)
growth-cases v stream bytes = fault-cases _ _ _

-- so does a write, and then by the room that there is
write-unlocked : (v w : Volume) (client number : ℕ) (at : Option ℕ) (bytes : List ℕ) (id : ℕ) (handle : Handle) (stream : ℕ) → IsOn v client number id handle stream
    → can_write handle.access at ≡ true → (length bytes == 0) ≡ false → nat_lt largest_end (place_of v stream at + length bytes) ≡ false
    → Ends v client (Ask (request.Write number at bytes)) (write_unlocked (touched v w) id handle.link stream (place_of v stream at) bytes)
unfolding write_unlocked write_grown write_bytes
write-unlocked v w client number at bytes id handle stream its can some fits =
    ends-if (write_is_locked v id stream (place_of v stream at) (length bytes)) _ _ (λ locked. ends-done (rw (some, its.named, its.row, its.on, can, fits) locked))
    (λ free. elim (growth-cases v stream (place_of v stream at + length bytes)) [
      | inl room ↦ rw room (ends-done (rw (some, its.named, its.row, its.on, can, fits, free, room) refl))
      | inr (inl over) ↦ rw over (ends-done (rw (some, its.named, its.row, its.on, can, fits, free, over) refl))
      | inr (inr full) ↦ rw full (ends-done (rw (some, its.named, its.row, its.on, can, fits, free, full) refl))
    ])

write-stream : (v : Volume) (client number : ℕ) (at : Option ℕ) (bytes : List ℕ) (id : ℕ) (handle : Handle) (stream : ℕ) → IsOn v client number id handle stream
    → Ends v client (Ask (request.Write number at bytes)) (write_stream v id handle stream at bytes)
unfolding write_stream write_at_place write_range
write-stream v client number at bytes id handle stream its =
    ends-unless (not (can_write handle.access at)) _ _ (λ cannot. rw (its.named, its.row, its.on) cannot) (λ can. let may = not-false (can_write handle.access at) can in
    ends-if (length bytes == 0) _ _ (λ none. ends-done (rw (its.named, its.row, its.on, may, none) refl))
    (λ some. ends-unless (nat_lt largest_end (place_of v stream at + length bytes)) _ _ (λ over. rw (its.named, its.row, its.on, may, some, over) refl)
    (λ fits. ends-waits (set.Stream stream) Change (Some id) handle.key (λ w. write_unlocked w id handle.link stream (place_of v stream at) bytes)
    (λ w. write-unlocked v w client number at bytes id handle stream its may some fits))))

write : (v : Volume) (client number : ℕ) (at : Option ℕ) (bytes : List ℕ) → Ends v client (Ask (request.Write number at bytes)) (try_write v client number at bytes)
unfolding try_write write_at write_by
write v client number at bytes =
    by-handle number _ (λ none. rw none refl) (λ id handle named row. by-stream handle _ _ (λ bare. rw (named, row, bare) refl) (λ stream on.
    write-stream v client number at bytes id handle stream (record { named = named; row = row; on = on })))

-- ---- locks

-- behind its breaks a lock ends by the locks in conflict with it, unless it waits for these
lock-free : (v w : Volume) (client number at count : ℕ) (exclusive wait : Bool) (id : ℕ) (handle : Handle) (stream : ℕ) → IsOn v client number id handle stream
    → (has_any handle.access READ_DATA || has_any handle.access WRITE_DATA) ≡ true → passes_top at count ≡ false
    → Ends v client (Ask (request.Lock number at count exclusive wait)) (lock_free (touched v w) id stream at count exclusive wait)
unfolding lock_free
lock-free v w client number at count exclusive wait id handle stream its can fits =
    ends-if (length (lock_blockers v id stream at count exclusive) == 0) _ _ (λ none. ends-done (rw (its.named, its.row, its.on, can, fits, none) refl))
    (λ some. ends-if wait _ _ (λ waits. ends-held) (λ goes. ends-done (rw (goes, its.named, its.row, its.on, can, fits, some) refl)))

lock-stream : (v : Volume) (client number at count : ℕ) (exclusive wait : Bool) (id : ℕ) (handle : Handle) (stream : ℕ) → IsOn v client number id handle stream
    → Ends v client (Ask (request.Lock number at count exclusive wait)) (lock_stream v id handle stream at count exclusive wait)
unfolding lock_stream lock_range
lock-stream v client number at count exclusive wait id handle stream its =
    ends-unless (not (has_any handle.access READ_DATA || has_any handle.access WRITE_DATA)) _ _ (λ cannot. rw (its.named, its.row, its.on) cannot)
    (λ can. let may = not-false (has_any handle.access READ_DATA || has_any handle.access WRITE_DATA) can in
    ends-unless (passes_top at count) _ _ (λ over. rw (its.named, its.row, its.on, may, over) refl)
    (λ fits. ends-waits (set.Stream stream) Change (Some id) handle.key (λ w. lock_free w id stream at count exclusive wait)
    (λ w. lock-free v w client number at count exclusive wait id handle stream its may fits)))

lock : (v : Volume) (client number at count : ℕ) (exclusive wait : Bool)
    → Ends v client (Ask (request.Lock number at count exclusive wait)) (try_lock v client number at count exclusive wait)
unfolding try_lock lock_at lock_by
lock v client number at count exclusive wait =
    by-handle number _ (λ none. rw none refl) (λ id handle named row. by-stream handle _ _ (λ bare. rw (named, row, bare) refl) (λ stream on.
    lock-stream v client number at count exclusive wait id handle stream (record { named = named; row = row; on = on })))

-- ---- oplocks, acknowledgements and waits

-- each has one thing to find, behind its checks
oplock : (v : Volume) (client number turn : ℕ) (level : Level) → Ends v client (Ask (request.Oplock number level)) (try_oplock v client number level turn)
unfolding try_oplock oplock_at oplock_by oplock_on
oplock v client number turn level =
    by-handle number _ (λ none. rw none refl) (λ id handle named row. by-stream handle _ _ (λ bare. rw (named, row, bare) refl) (λ stream on.
    ends-if (is_not_granted v id handle.key stream level) _ _ (λ barred. ends-done (rw (named, row, on) barred)) (λ free. ends-stay)))

ack : (v : Volume) (client number turn : ℕ) (level : Level) → Ends v client (Ask (request.Ack number level)) (try_ack v client number level turn)
unfolding try_ack ack_at ack_keeping
ack v client number turn level =
    ends-option (handle_of v client number) _ _ (λ id named. ends-option (target_of v id) _ _
    (λ target breaking. ends-if (has_read (in_both level target)) _ _ (λ some. ends-stay) (λ none. ends-done (rw (named, breaking) refl)))
    (λ unbroken. ends-done (rw (named, unbroken) refl))) (λ none. ends-done (rw none refl))

wait : (v : Volume) (client number : ℕ) → Ends v client (WaitFor number) (try_wait v client number)
unfolding try_wait
wait v client number =
    ends-if (has_ended v client number) _ _ (λ ended. ends-done ended)
    (λ unended. ends-if (is_pending v client number) _ _ (λ pending. ends-stay) (λ unknown. ends-done (rw (unended, unknown) refl)))

-- ---- opens

module _ (v : Volume) (client : ℕ) (asked : Asked) where
  -- a walk is barred with a status with which any open may end
  abbrev may_not_end : Status → Bool
  may_not_end status = not (may_end_as_found v client (opens_so asked) status)

  -- it is opened as it is
  existing : (link : ℕ) (stream : Option ℕ) (on : HandleSet) → set_of_path v asked.path ≡ Some on → clashes v asked on ≡ false → overwrites asked.disposition ≡ false
      → Ends v client (opens_so asked) (open_existing v asked link stream on)
  unfolding open_existing
  existing link stream on named free keeps =
      ends-if (not (wants_more asked)) _ _ (λ less. ends-done (rw (named, free) refl))
      (λ more. ends-if (not (open_waits v on ReadOpen asked.key)) _ _ (λ none. ends-done (rw (named, free) refl))
      (λ some. ends-if (completes_if_oplocked asked) _ _
      (λ completes. let wants = not-false (wants_more asked) more in let waits = not-false (open_waits v on ReadOpen asked.key) some in
      ends-done (rw (named, free, keeps, completes, wants, waits) refl)) (λ stays. ends-held)))

  -- it clashes
  clashed-ends : (on : HandleSet) → set_of_path v asked.path ≡ Some on → clashes v asked on ≡ true → Ends v client (opens_so asked) (clashed v on asked.key)
  unfolding clashed
  clashed-ends on named clash = ends-if (open_waits v on Clash asked.key) _ _ (λ waits. ends-held) (λ free. ends-done (rw (named, clash) refl))

  -- it is overwritten
  overwrite : (link file stream : ℕ) → set_of_path v asked.path ≡ Some (set.Stream stream) → clashes v asked (set.Stream stream) ≡ false
      → Ends v client (opens_so asked) (overwrite_existing v asked link file stream)
  unfolding overwrite_existing
  overwrite link file stream named free = ends-if (open_waits v (set.Stream stream) Change asked.key) _ _ (λ waits. ends-held) (λ none. ends-done (rw (named, free) refl))

  -- a directory or a stream that is there
  directory : (link file : ℕ) → set_of_path v asked.path ≡ Some (set.Link link) → overwrites asked.disposition ≡ false
      → Ends v client (opens_so asked) (open_directory v asked link file)
  unfolding open_directory open_granted
  directory link file named keeps = search (ends-unless, ends-if, clashed-ends, existing, named, keeps) depth 40

  on_stream : (link file stream : ℕ) → set_of_path v asked.path ≡ Some (set.Stream stream) → Ends v client (opens_so asked) (create_on_stream v asked link file stream)
  unfolding create_on_stream open_stream
  on_stream link file stream named = search (ends-unless, ends-if, clashed-ends, existing, overwrite, named) depth 60 fits 4000

  -- a stream, a directory or a file that is missing: its path names no set
  stream_made : (link file : ℕ) → set_of_path v asked.path ≡ None → Ends v client (opens_so asked) (create_stream v asked link file)
  unfolding create_stream
  stream_made link file none = search (ends-unless, ends-done, none) depth 40

  made : (dir : ℕ) (name : List ℕ) → set_of_path v asked.path ≡ None → Ends v client (opens_so asked) (create_missing v asked dir name)
  unfolding create_missing make_directory make_file
  made dir name none = search (ends-unless, ends-if, ends-done, none) depth 40

  -- a file or a directory that is there; one that overwrites isn't of a directory
  in_file : (link file : ℕ) → is_directory v.files file ≡ false → set_of_path v asked.path ≡ set_of_file v asked.path link file
      → Ends v client (opens_so asked) (create_in_file v asked link file)
  unfolding create_in_file
  in_file link file a_file named =
      ends-option (stream_of v file (stream_name asked.path)) _ _ (λ stream found. on_stream link file stream (named ∙ rw (a_file, found) refl))
      (λ none. stream_made link file (named ∙ rw (a_file, none) refl))

  of_kind : (link file : ℕ) → set_of_path v asked.path ≡ set_of_file v asked.path link file → (is_directory v.files file && asks_for_file asked) ≡ false
      → Ends v client (opens_so asked) (if is_directory v.files file then open_directory v asked link file else create_in_file v asked link file)
  of_kind link file named fits =
      ends-if (is_directory v.files file) _ _ (λ dir. directory link file (named ∙ rw dir refl) (keeps dir)) (λ a_file. in_file link file a_file named)
    where
      keeps : is_directory v.files file ≡ true → overwrites asked.disposition ≡ false
      keeps dir = (or_parts (wants_file asked || has_stream_part asked.path) (overwrites asked.disposition) (rw dir at fits)).1

  there : (link file : ℕ) → set_of_path v asked.path ≡ set_of_file v asked.path link file → Ends v client (opens_so asked) (create_there v asked link file)
  unfolding create_there
  there link file named = search (ends-unless, of_kind, named) depth 40

  stops : (file : ℕ) (rest : List ℕ) → Ends v client (opens_so asked) (stopped v file rest)
  unfolding stopped
  stops file rest = ends-option (point_of v file) _ _ (λ point is. ends-done (by_tag (point.0 == IO_REPARSE_TAG_SYMLINK))) (λ none. ends-done refl)
    where
      by_tag : (is_link : Bool) → may_end_as_found v client (opens_so asked) (if is_link then StoppedOnSymlink else Reparse) ≡ true
      by_tag true = refl
      by_tag false = refl

  found : (link file : ℕ) → set_of_path v asked.path ≡ set_of_file v asked.path link file → Ends v client (opens_so asked) (create_found v asked link file)
  unfolding create_found
  found link file named = search (ends-if, stops, there, named)

  -- by the link of the last name, and by the path
  by_link : (link : ℕ) → set_of_path v asked.path ≡ set_of_link v asked.path link → Ends v client (opens_so asked) (create_by_link v asked link)
  unfolding create_by_link
  by_link link named =
      ends-option (row_of v.links link) _ _ (λ (row : Link) is. ends-unless row.deleted _ _ (λ deleted. refl) (λ living. found link row.file (named ∙ rw is refl)))
      (λ none. ends-done refl)

  by_name : (dir : ℕ) → walk v (components asked.path) ≡ Reached dir → (length (components asked.path) == 0) ≡ false
      → Ends v client (opens_so asked) (create_named v asked dir (last_name (components asked.path)))
  unfolding create_named
  by_name dir reached below =
      ends-option (child_of v dir (last_name (components asked.path))) _ _ (λ link found. by_link link (rw (reached, below, found) refl))
      (λ none. made dir (last_name (components asked.path)) (rw (reached, below, none) refl))

  walked : (way : Walked) → walk v (components asked.path) ≡ way → Ends v client (opens_so asked) (create_walked v asked way)
  unfolding create_walked
  walked (Reached dir) reached = ends-if (length (components asked.path) == 0) _ _ (λ root. found 0 1 (rw (reached, root) refl)) (λ below. by_name dir reached below)
  walked (Barred status) reached =
      (let bars : BarsWithout may_not_end (walk v (components asked.path)) = walk-fails may_not_end refl refl v (components asked.path) 1 0 in
      ends-done (not-false (may_end_as_found v client (opens_so asked) status) (rw reached at bars)))
  walked (Diverted file next) reached = stops file (rest_of asked.path next)

  opens : Ends v client (opens_so asked) (try_create v asked)
  unfolding try_create create_at
  opens = search (ends-unless, walks) depth 40
    where
      walks : Ends v client (opens_so asked) (create_walked v asked (walk v (components asked.path)))
      walks = walked (walk v (components asked.path)) refl

-- ---- all calls

-- of every other request it may end with any status
what-ends : (v : Volume) (turn client number : ℕ) (what : What) → Ends v client what (try_what v turn client number what)
what-ends v turn client number (Ask (request.Create path wanted share disposition options attributes key)) =
    opens v client (record { client = client; number = number; path = path; wanted = wanted; share = share; disposition = disposition; options = options; attributes = attributes; key = key })
what-ends v turn client number (Ask (request.Read handle at count)) = read v client handle at count
what-ends v turn client number (Ask (request.Write handle at bytes)) = write v client handle at bytes
what-ends v turn client number (Ask (request.Lock handle at count exclusive waits)) = lock v client handle at count exclusive waits
what-ends v turn client number (Ask (request.Oplock handle level)) = oplock v client handle turn level
what-ends v turn client number (Ask (request.Ack handle level)) = ack v client handle turn level
what-ends v turn client number (WaitFor earlier) = wait v client earlier
what-ends v turn client number what = ends-any _ (λ status. refl)

-- a client that has left is refused
left-ends : (v : Volume) (client : ℕ) (what : What) → has_left v client ≡ true → may_end_as_found v client what InvalidHandle ≡ true
left-ends v client (Ask (request.Create path wanted share disposition options attributes key)) left = refl
left-ends v client (Ask (request.Read number at count)) left = or_right (not (is_some (handle_of v client number))) (has_left v client) left
left-ends v client (Ask (request.Write number at bytes)) left = or_right (not (is_some (handle_of v client number))) (has_left v client) left
left-ends v client (Ask (request.Lock number at count exclusive waits)) left = or_right (not (is_some (handle_of v client number))) (has_left v client) left
left-ends v client (Ask (request.Oplock number level)) left = or_right (not (is_some (handle_of v client number))) (has_left v client) left
left-ends v client (Ask (request.Ack number level)) left = or_right (not (is_some (handle_of v client number))) (has_left v client) left
left-ends v client (WaitFor number) left = left
left-ends v client what left = refl

-- one try
call-ends : (v : Volume) (call : Call) (outcome : Outcome) → Ends v call.client call.what outcome → EndsAsFound v call outcome
call-ends v call (Done w reply) ends = ends.so
call-ends v call (Stay w interim) ends = tt
call-ends v call (Hold w blockers interim) ends = tt

try-ends : (v : Volume) (call : Call) (turn : ℕ) → EndsAsFound v call (try v call turn)
try-ends v call turn = elim (cases_Bool (has_left v call.client)) [
  | inl left ↦ rw left (left-ends v call.client call.what left)
  | inr here ↦ rw here (call-ends v call _ (what-ends v turn call.client call.number call.what))
]

-- all tries of a history
pub calls-end_as_found : (setup : Setup) (history : List HistoryEntry) → CallsEndAsFound setup history
calls-end_as_found setup history k d within = (let t : Tried = get_or (tries_of setup history) k d in try-ends t.before t.call t.turn)
