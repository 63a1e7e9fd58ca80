-- Each call but an open, a rename and a link comes to what its checks say: the definition of each request is followed check by check, beside
-- its list. Where a check fails, the call is refused with its reply, whose status isn't behind the checks; where it passes, the rest of the
-- list goes with the rest of the definition. Checks with one status that the definition joins are taken one by one. Behind the last check
-- each end has a status that there is for such a call. In a sound volume the link of a handle has a row, so that there is a file by it; and
-- what a call breaks leaves streams as they were, so that a new length finds the room that there was before.
use Rattle.std.proofs.Common.{◌≡◌, ℕ, ◌^◌, Bool, arith, sym, true, false, ◌+◌, ◌==◌, ◌&&◌, ◌||◌, not, List, [], ◌∷◌, length, get_or, refl, ap, ◌∙◌, inl, inr, subst, Option, Some, None}
use Rattle.std.specs.List.{find, list_any}
use Rattle.std.specs.Option.{option_map_or}
use Rattle.std.specs.Prelude.{if◌then◌else◌, is_none, is_some, nat_le, nat_lt, unwrap_or}
use Rattle.std.proofs.lemmas.Bool.{and_parts, both_ways, cases_Bool}
use Rattle.std.proofs.lemmas.Bool.Decides.{nat_tests}
use Rattle.fsa_types.specs.Access.{has_any, has_other, has_sid}
use Rattle.fsa_types.specs.FixedBuffers.{read_reparse, reparse_bytes}
use Rattle.fsa_types.specs.Masks.{APPEND_DATA, DELETE, DIRECTORY, IO_REPARSE_TAG_RESERVED_ONE, IO_REPARSE_TAG_RESERVED_ZERO, MICROSOFT_TAG, READ_ATTRIBUTES, READ_DATA, WRITE_ATTRIBUTES, WRITE_DAC, WRITE_DATA, WRITE_OWNER, known_attributes, known_filters}
use Rattle.fsa_types.specs.Match.{is_refused}
use Rattle.fsa_types.specs.OplockGrants.{some_more, some_writer}
use Rattle.fsa_types.specs.Oplocks.{has_read, has_write, in_both, is_within}
use Rattle.fsa_types.specs.PackedRows.{pack_kind}
use Rattle.fsa_types.specs.Packing.{head_size}
use Rattle.fsa_types.specs.Rows.{lives, row_of}
use Rattle.fsa_types.specs.declared.oplock.Class.{Class}
use Rattle.fsa_types.specs.declared.oplock.Class.TheVariants.{Change}
use Rattle.fsa_types.specs.declared.oplock.HandleSet.{HandleSet}
use Rattle.fsa_types.specs.declared.oplock.HandleSet.TheVariants as set
use Rattle.fsa_types.specs.declared.reply.Blocker.{Blocker}
use Rattle.fsa_types.specs.declared.reply.Interim.{Interim}
use Rattle.fsa_types.specs.declared.reply.Interim.TheVariants.{Waiting}
use Rattle.fsa_types.specs.declared.reply.Reply.{Reply}
use Rattle.fsa_types.specs.declared.request.Call.{Call}
use Rattle.fsa_types.specs.declared.request.DaclChange.{DaclChange}
use Rattle.fsa_types.specs.declared.request.DaclChange.TheVariants.{Keep, Remove, Put}
use Rattle.fsa_types.specs.declared.request.DirKind.{DirKind}
use Rattle.fsa_types.specs.declared.request.InfoKind.{InfoKind}
use Rattle.fsa_types.specs.declared.request.InfoKind.TheVariants.{Basic, Standard, Internal, Tag, Streams}
use Rattle.fsa_types.specs.declared.request.Level.{Level}
use Rattle.fsa_types.specs.declared.request.Level.TheVariants.{Nil}
use Rattle.fsa_types.specs.declared.request.Request.{Request}
use Rattle.fsa_types.specs.declared.request.Request.TheVariants as request
use Rattle.fsa_types.specs.declared.request.What.{What}
use Rattle.fsa_types.specs.declared.request.What.TheVariants.{Ask, Tick, WaitFor, Leave}
use Rattle.fsa_types.specs.declared.status.Status.{Status}
use Rattle.fsa_types.specs.declared.status.Status.TheVariants.{AccessDenied, InfoLengthMismatch, InvalidHandle, InvalidParameter, OplockNotGranted, Success}
use Rattle.fsa_model.specs.Breaks.{with_breaks}
use Rattle.fsa_model.specs.Close.{close_at, is_link_of_parent, try_close, try_leave}
use Rattle.fsa_model.specs.Edits.{is_call, is_lock_on}
use Rattle.fsa_model.specs.Flush.{flush_at, try_flush}
use Rattle.fsa_model.specs.Grant.{ack_at, ack_keeping, is_breaking_on, is_locked, is_of_key, is_open_by_others, is_oplock_on, oplock_at, oplock_by, oplock_on, target_of, try_ack, try_oplock}
use Rattle.fsa_model.specs.History.{HistoryEntry}
use Rattle.fsa_model.specs.Locking.{lock_at, lock_by, lock_free, lock_range, lock_stream, passes_top, try_lock, try_unlock, unlock_at, unlock_by, unlock_range}
use Rattle.fsa_model.specs.Lookups.{bytes_of, file_of_link, handle_of, has_left, has_row, is_directory, is_link_marked, largest_end, linked_file, number_of, sids_of}
use Rattle.fsa_model.specs.Open.{is_readonly}
use Rattle.fsa_model.specs.Outcome.{Outcome, Done, Stay, Hold, ends_with, refused}
use Rattle.fsa_model.specs.QueryDir.{DirectoryEntry, begun_enumeration, is_start, list_entries, query_dir_at, query_dir_by, query_dir_in, try_query_dir}
use Rattle.fsa_model.specs.QueryInfo.{fixed_size, needs_attributes, query_file, query_info_at, query_info_by, query_streams, query_streams_by, try_query_info}
use Rattle.fsa_model.specs.Quota.{try_query_quota, try_set_quota}
use Rattle.fsa_model.specs.Read.{read_at, read_by, read_bytes, read_range, read_stream, read_unlocked, try_read}
use Rattle.fsa_model.specs.ReparsePoints.{delete_reparse_at, delete_reparse_by, delete_reparse_of, get_point, get_reparse_at, get_reparse_by, get_reparse_of, has_other_tag, remove_point, set_buffer, set_point, set_reparse_at, set_reparse_by, try_delete_reparse, try_get_reparse, try_set_reparse}
use Rattle.fsa_model.specs.Security.{changes_dacl, is_foreign, passes_limit, set_security_at, set_security_by, set_security_of, try_set_security}
use Rattle.fsa_model.specs.SetBasic.{Basics, is_no_time, set_basic_at, set_basic_by, set_basic_of, try_set_basic}
use Rattle.fsa_model.specs.SetDisposition.{delete_by, delete_marked, set_disposition_at, set_disposition_by, try_set_disposition}
use Rattle.fsa_model.specs.SetEnd.{set_end_at, set_end_by, set_end_grown, set_end_stream, set_end_to, try_set_end}
use Rattle.fsa_model.specs.Setup.{Setup}
use Rattle.fsa_model.specs.Sound.{IsSoundTree, is_of_living}
use Rattle.fsa_model.specs.Tries.{Tried, tries_of}
use Rattle.fsa_model.specs.Try.{try, try_request, try_what}
use Rattle.fsa_model.specs.Volume.{Cursor, Handle, Link, Volume}
use Rattle.fsa_model.specs.Waiting.{has_ended, is_pending, try_cancel, try_wait}
use Rattle.fsa_model.specs.Waits.{waits_for, held_by}
use Rattle.fsa_model.specs.Watching.{due_size, is_something_due, notify_at, notify_due, try_notify, with_watch_begun}
use Rattle.fsa_model.specs.Walk.{point_of}
use Rattle.fsa_model.specs.Write.{can_write, try_write, write_at, write_at_place, write_by, write_bytes, write_grown, write_range, write_stream, write_unlocked}
use Rattle.fsa_model.proofs.BreakLaws.{with_breaks-rest}
use Rattle.fsa_model.proofs.FaultStatuses.{Gives}
use Rattle.fsa_model.proofs.RowLaws.{find-none, option_cases, row_of-all}
use Rattle.fsa_model.proofs.SettleLaws.{some_equal}
use Rattle.fsa_model.proofs.SoundWaits.{touched}
use Rattle.history_laws.specs.CallChecks.{CallEndsByChecks, CallsEndByChecks, ComesToFirst, is_at_start, checks_asked, checks_by_handle, checks_of_ack, checks_of_call, checks_of_delete_reparse, checks_of_flush, checks_of_get_reparse, checks_of_lock, checks_of_notify, checks_of_oplock, checks_of_query_dir, checks_of_query_info, checks_of_read, checks_of_set_basic, checks_of_set_disposition, checks_of_set_end, checks_of_set_reparse, checks_of_set_security, checks_of_unlock, checks_of_write, fails_with, file_by, is_any_locked, is_change, is_other_open, is_own_oplock, is_time, lacks, lacks_both, least_room, may_be_held, may_end_behind, may_stay, needs_attributes_right, some_oplock}
use Rattle.history_laws.specs.OpenChecks.{Check, first_failing, with_status}
use Rattle.history_laws.proofs.EndsAsFound.{growth-cases}
use Rattle.history_laws.proofs.NoneBefore.{growth-such}
use Rattle.history_laws.proofs.TreeRuns.{run-tree_stays_sound}

-- ---- claims

record By (v : Volume) (client : ℕ) (what : What) (failing : Option Reply) (outcome : Outcome) : Type 0 where
  so : ComesToFirst v client what failing outcome

-- no call ends INVALID_HANDLE behind its checks
never-unknown : (v : Volume) (client : ℕ) (what : What) → may_end_behind v client what InvalidHandle ≡ false
never-unknown v client (Ask (request.QueryInfo number Basic room)) = refl
never-unknown v client (Ask (request.QueryInfo number Standard room)) = refl
never-unknown v client (Ask (request.QueryInfo number Internal room)) = refl
never-unknown v client (Ask (request.QueryInfo number Tag room)) = refl
never-unknown v client (Ask (request.QueryInfo number Streams room)) = refl
never-unknown v client _ = refl

module _ {v : Volume} {client : ℕ} {what : What} where
  -- the same reply, said otherwise
  by-as : (failing below : Option Reply) (outcome : Outcome) → failing ≡ below → By v client what below outcome → By v client what failing outcome
  by-as failing below outcome same by = rw same by

  -- refused with the status of the check that fails, which isn't one of those behind them
  by-refused : (status : Status) → may_end_behind v client what status ≡ false → By v client what (Some (with_status status)) (refused v status)
  by-refused status never = record { so = (refl, never) }

  -- a check, and then the others; the check said otherwise
  by-check : (test : Bool) (status : Status) (more : Option Reply) (rest : Outcome) → may_end_behind v client what status ≡ false → By v client what more rest
      → By v client what (if test then Some (with_status status) else more) (if test then refused v status else rest)
  by-check true status more rest never goes = by-refused status never
  by-check false status more rest never goes = goes

  by-said : (said test : Bool) (status : Status) (more : Option Reply) (rest : Outcome) → said ≡ test → may_end_behind v client what status ≡ false → By v client what more rest
      → By v client what (if said then Some (with_status status) else more) (if test then refused v status else rest)
  by-said said test status more rest same never goes = rw same (by-check test status more rest never goes)

  -- one of what has to be so
  by-need : (test : Bool) (status : Status) (more : Option Reply) (rest : Outcome) → may_end_behind v client what status ≡ false → By v client what more rest
      → By v client what (if not test then Some (with_status status) else more) (if test then rest else refused v status)
  by-need true status more rest never goes = goes
  by-need false status more rest never goes = by-refused status never

  -- two checks with one reply that are joined, and two of what has to be so
  by-split : (failing : Option Reply) (one other : Bool) (fails rest : Outcome) → By v client what failing (if one then fails else (if other then fails else rest))
      → By v client what failing (if one || other then fails else rest)
  by-split failing true other fails rest by = by
  by-split failing false other fails rest by = by

  by-neither : (one other : Bool) (status : Status) (more : Option Reply) (rest : Outcome) → may_end_behind v client what status ≡ false → By v client what more rest
      → By v client what (if one then Some (with_status status) else (if other then Some (with_status status) else more)) (if not (not one && not other) then refused v status else rest)
  by-neither true other status more rest never goes = by-refused status never
  by-neither false true status more rest never goes = by-refused status never
  by-neither false false status more rest never goes = goes

  -- a check that is made where there is something to do
  by-some : (nothing test : Bool) (status : Status) (early rest : Outcome) → may_end_behind v client what status ≡ false → By v client what None early
      → (nothing ≡ false → By v client what None rest)
      → By v client what (if not nothing && test then Some (with_status status) else None) (if nothing then early else (if test then refused v status else rest))
  by-some true test status early rest never none goes = none
  by-some false true status early rest never none goes = by-refused status never
  by-some false false status early rest never none goes = goes refl

  -- what is looked up is there; and then those of what is found, or others
  by-found : {X : Type 0} (found : Option X) (checks : X → List Check) (status : Status) (some : X → Outcome) → may_end_behind v client what status ≡ false
      → ((x : X) → found ≡ Some x → By v client what (first_failing (checks x)) (some x))
      → By v client what (first_failing (option_map_or (λ x. checks x) found (fails_with status))) (option_map_or some found (refused v status))
  by-found None checks status some never goes = by-refused status never
  by-found (Some x) checks status some never goes = goes x refl

  by-there : {X : Type 0} (found : Option X) (status : Status) (more : Option Reply) (some : X → Outcome) → may_end_behind v client what status ≡ false
      → ((x : X) → found ≡ Some x → By v client what more (some x))
      → By v client what (if not (is_some found) then Some (with_status status) else more) (option_map_or some found (refused v status))
  by-there None status more some never goes = by-refused status never
  by-there (Some x) status more some never goes = goes x refl

  -- what is looked up is this
  by-this : {X : Type 0} (found : Option X) (x : X) (more : Option Reply) (some : X → Outcome) (none : Outcome) → found ≡ Some x → By v client what more (some x)
      → By v client what more (option_map_or some found none)
  by-this found x more some none is goes = rw is goes

  -- the client's handle of this number
  by-handle : (number : ℕ) (checks : ℕ → Handle → List Check) (out : ℕ → Handle → Outcome)
      → ((id : ℕ) (handle : Handle) → handle_of v client number ≡ Some id → row_of v.handles id ≡ Some handle → By v client what (first_failing (checks id handle)) (out id handle))
      → By v client what (first_failing (checks_by_handle v client number checks))
      (option_map_or (λ id. option_map_or (λ handle. out id handle) (row_of v.handles id) (refused v InvalidHandle)) (handle_of v client number) (refused v InvalidHandle))
  by-handle number checks out goes =
      by-found (handle_of v client number) _ InvalidHandle _ (never-unknown v client what)
      (λ id named. by-found (row_of v.handles id) _ InvalidHandle _ (never-unknown v client what) (λ handle row. goes id handle named row))

-- ---- behind the checks

module _ {v : Volume} {client : ℕ} {what : What} where
  behind-done : {w : Volume} {reply : Reply} → may_end_behind v client what reply.status ≡ true → By v client what None (Done w reply)
  behind-done may = record { so = may }

  behind-held : {w : Volume} {blockers : List Blocker} {interim : Interim} → may_be_held what ≡ true → By v client what None (Hold w blockers interim)
  behind-held may = record { so = may }

  behind-stay : {w : Volume} {interim : Interim} → may_stay what ≡ true → By v client what None (Stay w interim)
  behind-stay may = record { so = may }

  -- by a test, which may be of the reply alone
  behind-if : (test : Bool) (one other : Outcome) → By v client what None one → By v client what None other → By v client what None (if test then one else other)
  behind-if true one other holds fails = holds
  behind-if false one other holds fails = fails

  behind-test : (test : Bool) (one other : Outcome) → (test ≡ true → By v client what None one) → (test ≡ false → By v client what None other)
      → By v client what None (if test then one else other)
  behind-test true one other holds fails = holds refl
  behind-test false one other holds fails = fails refl

  behind-either : {w : Volume} (test : Bool) (one other : Reply) → may_end_behind v client what one.status ≡ true → may_end_behind v client what other.status ≡ true
      → By v client what None (Done w (if test then one else other))
  behind-either true one other holds fails = behind-done holds
  behind-either false one other holds fails = behind-done fails

  -- there is a fault, with such a status, or none
  behind-fault : (w : Volume) (fault : Option Status) (other : Outcome) → Gives (may_end_behind v client what) fault → By v client what None other
      → By v client what None (option_map_or (λ status. refused w status) fault other)
  behind-fault w None other gives goes = goes
  behind-fault w (Some status) other gives goes = behind-done gives.so

  -- held by breaks, or on behind them, in a volume that differs in what breaks change alone
  behind-waits : (on : HandleSet) (class : Class) (acting : Option ℕ) (key : ℕ) (next : Volume → Outcome) → may_be_held what ≡ true
      → ((w : Volume) → By v client what None (next (touched v w)))
      → By v client what None (if waits_for v on class acting key then held_by v on class acting key else next (with_breaks v on class acting key))
  behind-waits on class acting key next may goes = behind-if (waits_for v on class acting key) _ _ (behind-held may)
      (subst (λ (w : Volume). By v client what None (next w)) (sym (with_breaks-rest v on class acting key)) (goes (with_breaks v on class acting key)))

ruleset behind = (behind-if, behind-done, behind-held, behind-stay, refl)

-- ---- tables, and what is found

room-as : (kind : InfoKind) → least_room kind ≡ fixed_size kind
room-as Basic = refl
room-as Standard = refl
room-as Internal = refl
room-as Tag = refl
room-as Streams = refl

attributes-as : (kind : InfoKind) → needs_attributes_right kind ≡ needs_attributes kind
attributes-as Basic = refl
attributes-as Standard = refl
attributes-as Internal = refl
attributes-as Tag = refl
attributes-as Streams = refl

-- no query ends so behind its checks
never-short : (v : Volume) (client number : ℕ) (kind : InfoKind) (room : ℕ) → may_end_behind v client (Ask (request.QueryInfo number kind room)) InfoLengthMismatch ≡ false
never-short v client number Basic room = refl
never-short v client number Standard room = refl
never-short v client number Internal room = refl
never-short v client number Tag room = refl
never-short v client number Streams room = refl

never-denied : (v : Volume) (client number : ℕ) (kind : InfoKind) (room : ℕ) → may_end_behind v client (Ask (request.QueryInfo number kind room)) AccessDenied ≡ false
never-denied v client number Basic room = refl
never-denied v client number Standard room = refl
never-denied v client number Internal room = refl
never-denied v client number Tag room = refl
never-denied v client number Streams room = refl

change-as : (dacl : DaclChange) → is_change dacl ≡ changes_dacl dacl
change-as Keep = refl
change-as Remove = refl
change-as (Put dacl) = refl

-- a write at a place needs WRITE_DATA
write-as : (writes appends : Bool) (at : Option ℕ) → (not writes && (not appends || is_some at)) ≡ not (writes || (appends && is_none at))
write-as true appends at = refl
write-as false false at = refl
write-as false true None = refl
write-as false true (Some place) = refl

-- below a number, or not below
above : (a b : ℕ) → nat_le b a ≡ true → nat_lt a b ≡ false
above a b le = grind (arith, nat_tests, le)

below : (a b : ℕ) → nat_le b a ≡ false → nat_lt a b ≡ true
below a b nle = grind (arith, nat_tests, nle)

-- what is no time
time-as : (time : ℕ) → not (is_time time) ≡ is_no_time time
time-as time = elim (cases_Bool (nat_le (2 ^ 63) time)) [
  | inl high ↦ rw (high, above time (2 ^ 63) high) refl
  | inr low ↦ rw (low, below time (2 ^ 63) low) refl
]

-- some bytes
some-as : (count : ℕ) → not (count == 0) ≡ nat_lt 0 count
some-as count = elim (cases_Bool (nat_le count 0)) [
  | inl none ↦ rw (above 0 count none, (let is : (count == 0) ≡ true = grind (arith, nat_tests, none) in is)) refl
  | inr some ↦ rw (below 0 count some, (let isnt : (count == 0) ≡ false = grind (arith, nat_tests, some) in isnt)) refl
]

-- a test said otherwise passes for some of these just where it does
any-as : {X : Type 0} (one other : X → Bool) (xs : List X) → ((x : X) → one x ≡ other x) → list_any one xs ≡ list_any other xs
any-as one other [] same = refl
any-as one other (x ∷ xs) same = rw (same x, any-as one other xs same) refl

grouped : (a b c : Bool) → (a && (b && c)) ≡ ((a && b) && c)
grouped true b c = refl
grouped false b c = refl

-- what is kept of a level with R has R only where the level has
keeps-read : (level target : Level) → has_read (in_both level target) ≡ true → has_read level ≡ true
keeps-read Nil target reads = cc
keeps-read _ target reads = refl

-- the cursor is at the start exactly where the listing is
starts-anew : (handle : Handle) (expression : List ℕ) (restart : Bool) → is_start (begun_enumeration handle expression restart).1 ≡ is_at_start handle restart
starts-anew handle expression true = refl
starts-anew handle expression false = elim (option_cases handle.enumeration) [ inl none ↦ rw none refl | inr kept ↦ rw kept.1 refl ]

-- a row passes where its number is found
row-found : {R : Type 0} (test : R → Bool) (rows : List (ℕ × R)) → has_row test rows ≡ is_some (number_of test rows)
row-found test [] = refl
row-found test (x ∷ rows) = elim (cases_Bool (test x.1)) [ inl passes ↦ rw passes refl | inr fails ↦ rw fails (row-found test rows) ]

-- the link of a handle is 0, or has a row; so there is a file by it
is-by : (v : Volume) (id : ℕ) (handle : Handle) → IsSoundTree v → row_of v.handles id ≡ Some handle → file_of_link v.links handle.link ≡ Some (file_by v handle)
is-by v id handle sound row =
    let living : is_of_living v.links v.streams handle ≡ true = row_of-all (λ (h : Handle). is_of_living v.links v.streams h ≡ true) v.handles id handle row sound.are_of_living in
    elim (cases_Bool (handle.link == 0)) [
      | inl root ↦ rw root refl
      | inr link ↦ (let lives_there : (handle.link == 0 || lives v.links handle.link) ≡ true = (and_parts (handle.link == 0 || lives v.links handle.link) _ living).0 in
          let there : lives v.links handle.link ≡ true = rw link at lives_there in
          elim (option_cases (find (λ (e : ℕ × Link). e.0 == handle.link) v.links)) [
            | inl gone ↦ absurd (both_ways (lives v.links handle.link) (find-none (λ (e : ℕ × Link). e.0 == handle.link) v.links gone) there)
            | inr some ↦ rw (link, some.1) refl
          ])
    ]

-- ---- bytes and locks

module _ (v : Volume) (client number : ℕ) where
  close : By v client (Ask (request.Close number)) (first_failing (checks_by_handle v client number (λ id handle. []))) (try_close v client number)
  unfolding try_close close_at
  close = by-handle number (λ id handle. []) _ (λ id handle named row. behind-done refl)

  read : (at count : ℕ) → By v client (Ask (request.Read number at count)) (first_failing (checks_by_handle v client number (λ id handle. checks_of_read handle at count))) (try_read v client number at count)
  unfolding try_read read_at read_by read_stream read_range read_unlocked read_bytes
  read at count = by-handle number _ _ (λ id handle named row. by-found handle.stream _ _ _ refl (λ stream on.
      by-check (lacks handle READ_DATA) _ _ _ refl (by-check (nat_lt largest_end (at + count)) _ None _ refl
      (behind-test (count == 0) _ _ (λ none. behind-done refl) (λ some. let may : not (count == 0) ≡ true = rw some refl in
      search (behind, may) depth 40)))))

  write : (at : Option ℕ) (bytes : List ℕ)
      → By v client (Ask (request.Write number at bytes)) (first_failing (checks_by_handle v client number (λ id handle. checks_of_write v handle at bytes))) (try_write v client number at bytes)
  unfolding try_write write_at write_by write_stream write_at_place write_range write_unlocked write_grown write_bytes
  write at bytes = by-handle number _ _ (λ id handle named row. by-found handle.stream _ _ _ refl (λ stream on.
      by-said (lacks handle WRITE_DATA && (lacks handle APPEND_DATA || is_some at)) (not (can_write handle.access at)) _ _ _
      (write-as (has_any handle.access WRITE_DATA) (has_any handle.access APPEND_DATA) at) refl
      (by-some (length bytes == 0) (nat_lt largest_end (unwrap_or at (length (bytes_of v stream)) + length bytes)) _ _ _ refl (behind-done refl)
      (λ some. let may : not (length bytes == 0) ≡ true = rw some refl in
      search (behind-fault, growth-such, behind, may) depth 40))))

  flush : By v client (Ask (request.Flush number)) (first_failing (checks_by_handle v client number (λ id handle. checks_of_flush handle))) (try_flush v client number)
  unfolding try_flush flush_at
  flush = by-handle number _ _ (λ id handle named row. by-need (has_any handle.access WRITE_DATA || has_any handle.access APPEND_DATA) _ None _ refl (behind-done refl))

  -- behind its breaks a new length finds the room that there was before them
  end-grown : (end : ℕ) (w : Volume) (id : ℕ) (handle : Handle) (stream : ℕ) → handle_of v client number ≡ Some id → row_of v.handles id ≡ Some handle → handle.stream ≡ Some stream
      → By v client (Ask (request.SetEnd number end)) None (set_end_grown (touched v w) handle.link stream end)
  unfolding set_end_grown
  end-grown end w id handle stream named row on = elim (growth-cases v stream end) [
    | inl room ↦ rw room (behind-done (rw (named, row, on, room) refl))
    | inr (inl over) ↦ rw over (behind-done (rw (named, row, on, over) refl))
    | inr (inr full) ↦ rw full (behind-done (rw (named, row, on, full) refl))
  ]

  set_end : (end : ℕ) → By v client (Ask (request.SetEnd number end)) (first_failing (checks_by_handle v client number (λ id handle. checks_of_set_end handle end))) (try_set_end v client number end)
  unfolding try_set_end set_end_at set_end_by set_end_stream set_end_to
  set_end end = by-handle number _ _ (λ id handle named row. by-found handle.stream _ _ _ refl (λ stream on.
      by-check (lacks handle WRITE_DATA) _ _ _ refl (by-check (nat_lt largest_end end) _ None _ refl
      (behind-waits (set.Stream stream) Change (Some id) handle.key (λ w. set_end_grown w handle.link stream end) refl (λ w. end-grown end w id handle stream named row on)))))

  lock : (at count : ℕ) (exclusive wait : Bool)
      → By v client (Ask (request.Lock number at count exclusive wait)) (first_failing (checks_by_handle v client number (λ id handle. checks_of_lock handle at count))) (try_lock v client number at count exclusive wait)
  unfolding try_lock lock_at lock_by lock_stream lock_range lock_free
  lock at count exclusive wait = by-handle number _ _ (λ id handle named row. by-found handle.stream _ _ _ refl (λ stream on.
      by-check (lacks_both handle READ_DATA WRITE_DATA) _ _ _ refl
      (by-said (not (count == 0) && nat_lt (2 ^ 64) (at + count)) (passes_top at count) _ None _ (rw (some-as count) refl) refl
      (behind-if _ _ _ (behind-held refl) (behind-if _ _ _ (behind-done refl) (behind-test wait _ _ (λ waits. behind-held refl) (λ goes. behind-done (rw goes refl))))))))

  unlock : (at count : ℕ) → By v client (Ask (request.Unlock number at count)) (first_failing (checks_by_handle v client number (λ id handle. checks_of_unlock v id handle at count))) (try_unlock v client number at count)
  unfolding try_unlock unlock_at unlock_by unlock_range
  unlock at count = by-handle number _ _ (λ id handle named row. by-found handle.stream _ _ _ refl (λ stream on.
      by-there (number_of (is_lock_on id at count) v.locks) _ None _ refl (λ lock held. behind-done refl)))

-- ---- oplocks

module _ (v : Volume) (client number : ℕ) where
  -- the five reasons are one check of the definition
  oplock_granted : (id : ℕ) (handle : Handle) (stream : ℕ) (level : Level) (turn : ℕ)
      → By v client (Ask (request.Oplock number level))
      (if some_oplock v stream (λ oplock. is_some oplock.target) then Some (with_status OplockNotGranted)
      else if not (has_write level) && is_any_locked v stream then Some (with_status OplockNotGranted)
      else if has_write level && is_other_open v id handle stream then Some (with_status OplockNotGranted)
      else if some_oplock v stream (λ oplock. not (is_own_oplock id handle oplock) && has_write oplock.level) then Some (with_status OplockNotGranted)
      else if some_oplock v stream (λ oplock. is_own_oplock id handle oplock && not (is_within oplock.level level)) then Some (with_status OplockNotGranted)
      else None)
      (oplock_on v id handle.key stream level turn)
  unfolding oplock_on
  oplock_granted id handle stream level turn =
      let breaking : Bool = is_breaking_on v stream in
      let locked : Bool = not (has_write level) && is_locked v stream in
      let opened : Bool = has_write level && is_open_by_others v id handle.key stream in
      let writing : Bool = some_writer (is_oplock_on v stream) id handle.key v.oplocks in
      let more : Bool = some_more (is_oplock_on v stream) id handle.key level v.oplocks in
      by-split _ (breaking || locked || opened || writing) more _ _ (by-split _ (breaking || locked || opened) writing _ _
      (by-split _ (breaking || locked) opened _ _ (by-split _ breaking locked _ _
      (by-check breaking _ _ _ refl (by-check locked _ _ _ refl (by-check opened _ _ _ refl
      (by-said _ writing _ _ _ (any-as _ _ v.oplocks (λ oplock. grouped (is_oplock_on v stream oplock) (not (is_of_key id handle.key oplock)) (has_write oplock.level))) refl
      (by-said _ more _ None _ (any-as _ _ v.oplocks (λ oplock. grouped (is_oplock_on v stream oplock) (is_of_key id handle.key oplock) (not (is_within oplock.level level)))) refl (behind-stay refl)))))))))

  oplock : (level : Level) (turn : ℕ) → By v client (Ask (request.Oplock number level)) (first_failing (checks_by_handle v client number (λ id handle. checks_of_oplock v id handle level))) (try_oplock v client number level turn)
  unfolding try_oplock oplock_at oplock_by
  oplock level turn = by-handle number _ _ (λ id handle named row. by-found handle.stream _ _ _ refl (λ stream on. oplock_granted id handle stream level turn))

  ack : (level : Level) (turn : ℕ) → By v client (Ask (request.Ack number level)) (first_failing (checks_of_ack v client number)) (try_ack v client number level turn)
  unfolding try_ack ack_at ack_keeping
  ack level turn = by-found (handle_of v client number) _ _ _ refl (λ id named. by-there (target_of v id) _ None _ refl (λ target breaking.
      behind-test (has_read (in_both level target)) _ _ (λ reads. behind-stay (keeps-read level target reads)) (λ none. behind-done refl)))

-- ---- deletion

module _ (v : Volume) (client number : ℕ) where
  -- a mark is cleared without more
  disposition : (id : ℕ) (handle : Handle) (delete : Bool)
      → By v client (Ask (request.SetDisposition number delete)) (first_failing (checks_of_set_disposition v handle delete)) (set_disposition_by v id handle delete)
  unfolding set_disposition_by delete_by delete_marked
  disposition id handle false = by-check (lacks handle DELETE) _ None _ refl (behind-done refl)
  disposition id handle true = by-check (lacks handle DELETE) _ _ _ refl (by-split _ (handle.link == 0) (is_readonly v (linked_file v handle.link)) _ _
      (by-check (handle.link == 0) _ _ _ refl (by-check (is_readonly v (linked_file v handle.link)) _ _ _ refl
      (by-check (is_link_of_parent v handle.link) _ None _ refl (search behind depth 40)))))

  set_disposition : (delete : Bool)
      → By v client (Ask (request.SetDisposition number delete)) (first_failing (checks_by_handle v client number (λ id handle. checks_of_set_disposition v handle delete))) (try_set_disposition v client number delete)
  unfolding try_set_disposition set_disposition_at
  set_disposition delete = by-handle number (λ id handle. checks_of_set_disposition v handle delete) _ (λ id handle named row. disposition id handle delete)

-- ---- directories

module _ (v : Volume) (client number : ℕ) where
  -- nothing is left, or the first entry doesn't fit, or some are given
  entries : (id : ℕ) (handle : Handle) (kind : DirKind) (expression asked : List ℕ) (cursor : Cursor) (found : List DirectoryEntry) (restart : Bool) (room : ℕ)
      → handle_of v client number ≡ Some id → row_of v.handles id ≡ Some handle → is_start cursor ≡ is_at_start handle restart
      → By v client (Ask (request.QueryDir number kind asked restart room)) None (list_entries v id kind expression cursor found room)
  unfolding list_entries
  entries id handle kind expression asked cursor found restart room named row anew =
      behind-if (length found == 0) _ _
      (elim (cases_Bool (is_start cursor)) [
        | inl start ↦ rw start (behind-done (rw (named, row) (sym anew ∙ start)))
        | inr later ↦ rw later (behind-done (rw (named, row) (ap not (sym anew ∙ later))))
      ])
      (search behind depth 20)

  query_dir : (kind : DirKind) (expression : List ℕ) (restart : Bool) (room : ℕ) → IsSoundTree v
      → By v client (Ask (request.QueryDir number kind expression restart room)) (first_failing (checks_by_handle v client number (λ id handle. checks_of_query_dir handle kind expression room)))
      (try_query_dir v client number kind expression restart room)
  unfolding try_query_dir query_dir_at query_dir_by query_dir_in
  query_dir kind expression restart room sound = by-handle number _ _ (λ id handle named row. by-check (is_some handle.stream) _ _ _ refl (by-check (lacks handle READ_DATA) _ _ _ refl
      (by-check (is_refused expression) _ _ _ refl (by-check (nat_lt room (head_size (pack_kind kind))) _ None _ refl
      (by-this _ (file_by v handle) _ _ _ (is-by v id handle sound row) (entries id handle kind _ expression _ _ restart room named row (starts-anew handle expression restart)))))))

  -- what is due is reported, or the directory is to be listed
  noticed : (w : Volume) (id filter : ℕ) (whole : Bool) (room : ℕ) → By v client (Ask (request.Notify number filter whole room)) None (notify_due w id room)
  noticed w id filter whole room = behind-if (is_something_due w id) _ _ (behind-either (nat_le (due_size w id) room) _ _ refl refl) (behind-stay refl)

  notify : (filter : ℕ) (whole : Bool) (room : ℕ)
      → By v client (Ask (request.Notify number filter whole room)) (first_failing (checks_by_handle v client number (λ id handle. checks_of_notify v handle filter))) (try_notify v client number filter whole room)
  unfolding try_notify notify_at
  notify filter whole room = by-handle number _ _ (λ id handle named row. by-check (is_some handle.stream) _ _ _ refl (by-check (lacks handle READ_DATA) _ _ _ refl
      (by-neither (filter == 0) (has_other filter known_filters) _ _ _ refl (by-check (is_link_marked v handle.link) _ None _ refl
      (noticed (with_watch_begun v id filter whole) id filter whole room)))))

-- ---- information and security

module _ (v : Volume) (client number : ℕ) where
  -- of each kind
  query : (id : ℕ) (handle : Handle) (file : ℕ) (kind : InfoKind) (room : ℕ) → handle_of v client number ≡ Some id → row_of v.handles id ≡ Some handle
      → By v client (Ask (request.QueryInfo number kind room)) None (query_file v handle file kind room)
  unfolding query_file query_streams_by query_streams
  query id handle file Basic room named row = behind-done refl
  query id handle file Standard room named row = behind-done refl
  query id handle file Internal room named row = behind-done refl
  query id handle file Tag room named row = behind-done refl
  query id handle file Streams room named row =
      behind-test (is_some handle.stream) _ _ (λ some. behind-if _ _ _ (behind-done refl) (behind-done (rw (named, row) some))) (λ none. behind-done refl)

  query_info : (kind : InfoKind) (room : ℕ) → IsSoundTree v
      → By v client (Ask (request.QueryInfo number kind room)) (first_failing (checks_by_handle v client number (λ id handle. checks_of_query_info handle kind room))) (try_query_info v client number kind room)
  unfolding try_query_info query_info_at query_info_by
  query_info kind room sound = by-handle number _ _ (λ id handle named row. by-as _ _ _ (rw (room-as kind, attributes-as kind) refl)
      (by-check (nat_lt room (fixed_size kind)) _ _ _ (never-short v client number kind room)
      (by-check (needs_attributes kind && lacks handle READ_ATTRIBUTES) _ None _ (never-denied v client number kind room)
      (by-this _ (file_by v handle) _ _ _ (is-by v id handle sound row) (query id handle (file_by v handle) kind room named row)))))

  set_basic : (asked : Basics) → IsSoundTree v
      → By v client (Ask (request.SetBasic number asked.creation asked.access asked.write asked.change asked.attributes))
      (first_failing (checks_by_handle v client number (λ id handle. checks_of_set_basic v handle asked.creation asked.access asked.write asked.change asked.attributes))) (try_set_basic v client number asked)
  unfolding try_set_basic set_basic_at set_basic_by set_basic_of
  set_basic asked sound = by-handle number _ _ (λ id handle named row. by-check (lacks handle WRITE_ATTRIBUTES) _ _ _ refl
      (by-this _ (file_by v handle) _ _ _ (is-by v id handle sound row)
      (by-split _ (is_no_time asked.creation || is_no_time asked.access || is_no_time asked.write) (is_no_time asked.change) _ _
      (by-split _ (is_no_time asked.creation || is_no_time asked.access) (is_no_time asked.write) _ _
      (by-split _ (is_no_time asked.creation) (is_no_time asked.access) _ _
      (by-said _ (is_no_time asked.creation) _ _ _ (time-as asked.creation) refl (by-said _ (is_no_time asked.access) _ _ _ (time-as asked.access) refl
      (by-said _ (is_no_time asked.write) _ _ _ (time-as asked.write) refl (by-said _ (is_no_time asked.change) _ _ _ (time-as asked.change) refl
      (by-split _ (has_other asked.attributes known_attributes) (has_any asked.attributes DIRECTORY && not (is_directory v.files (file_by v handle))) _ _
      (by-check (has_other asked.attributes known_attributes) _ _ _ refl
      (by-check (has_any asked.attributes DIRECTORY && not (is_directory v.files (file_by v handle))) _ None _ refl (behind-done refl)))))))))))))

  -- the two rights are one check of the definition
  secure : (id : ℕ) (handle : Handle) (owner : Option ℕ) (dacl : DaclChange) → IsSoundTree v → row_of v.handles id ≡ Some handle
      → By v client (Ask (request.SetSecurity number owner dacl)) (first_failing (checks_of_set_security v client handle owner dacl)) (set_security_by v client handle owner dacl)
  unfolding set_security_by set_security_of
  secure id handle owner dacl sound row = rw (change-as dacl)
      (by-split _ (is_some owner && lacks handle WRITE_OWNER) (changes_dacl dacl && lacks handle WRITE_DAC) _ _
      (by-check (is_some owner && lacks handle WRITE_OWNER) _ _ _ refl (by-check (changes_dacl dacl && lacks handle WRITE_DAC) _ _ _ refl
      (by-this _ (file_by v handle) _ _ _ (is-by v id handle sound row)
      (by-check (is_foreign v client owner) _ _ _ refl (by-check (passes_limit v (file_by v handle) owner) _ None _ refl (behind-done refl)))))))

  set_security : (owner : Option ℕ) (dacl : DaclChange) → IsSoundTree v
      → By v client (Ask (request.SetSecurity number owner dacl)) (first_failing (checks_by_handle v client number (λ id handle. checks_of_set_security v client handle owner dacl))) (try_set_security v client number owner dacl)
  unfolding try_set_security set_security_at
  set_security owner dacl sound = by-handle number (λ id handle. checks_of_set_security v client handle owner dacl) _ (λ id handle named row. secure id handle owner dacl sound row)

-- ---- reparse points

module _ (v : Volume) (client number : ℕ) where
  set_reparse : (bytes : List ℕ) → IsSoundTree v
      → By v client (Ask (request.SetReparse number bytes)) (first_failing (checks_by_handle v client number (λ id handle. checks_of_set_reparse v handle bytes))) (try_set_reparse v client number bytes)
  unfolding try_set_reparse set_reparse_at set_reparse_by set_buffer set_point
  set_reparse bytes sound = by-handle number _ _ (λ id handle named row. by-check (lacks_both handle WRITE_DATA WRITE_ATTRIBUTES) _ _ _ refl (by-check (handle.link == 0) _ _ _ refl
      (by-this _ (file_by v handle) _ _ _ (is-by v id handle sound row) (by-found (read_reparse bytes) _ _ _ refl (λ (point : ℕ × List ℕ) read.
      by-split _ (point.0 == IO_REPARSE_TAG_RESERVED_ZERO || point.0 == IO_REPARSE_TAG_RESERVED_ONE) (not (has_any point.0 MICROSOFT_TAG)) _ _
      (by-split _ (point.0 == IO_REPARSE_TAG_RESERVED_ZERO) (point.0 == IO_REPARSE_TAG_RESERVED_ONE) _ _
      (by-check (point.0 == IO_REPARSE_TAG_RESERVED_ZERO) _ _ _ refl (by-check (point.0 == IO_REPARSE_TAG_RESERVED_ONE) _ _ _ refl (by-check (not (has_any point.0 MICROSOFT_TAG)) _ _ _ refl
      (by-check (is_link_of_parent v handle.link) _ _ _ refl (by-check (has_other_tag v (file_by v handle) point.0) _ None _ refl (behind-done refl))))))))))))

  get_reparse : (room : ℕ) → IsSoundTree v
      → By v client (Ask (request.GetReparse number room)) (first_failing (checks_by_handle v client number (λ id handle. checks_of_get_reparse v handle room))) (try_get_reparse v client number room)
  unfolding try_get_reparse get_reparse_at get_reparse_by get_reparse_of get_point
  get_reparse room sound = by-handle number _ _ (λ id handle named row. by-this _ (file_by v handle) _ _ _ (is-by v id handle sound row)
      (by-there (point_of v (file_by v handle)) _ _ _ refl (λ (point : ℕ × List ℕ) is. by-check (nat_lt room 8) _ None _ refl
      (behind-test (nat_lt room (length (reparse_bytes point.0 0 point.1))) _ _ (λ short. behind-done (rw (named, row, is) short)) (λ whole. behind-done (rw (named, row, is, whole) refl))))))

  delete_reparse : (tag : ℕ) → IsSoundTree v
      → By v client (Ask (request.DeleteReparse number tag)) (first_failing (checks_by_handle v client number (λ id handle. checks_of_delete_reparse v handle tag))) (try_delete_reparse v client number tag)
  unfolding try_delete_reparse delete_reparse_at delete_reparse_by delete_reparse_of remove_point
  delete_reparse tag sound = by-handle number _ _ (λ id handle named row. by-check (lacks_both handle WRITE_DATA WRITE_ATTRIBUTES) _ _ _ refl
      (by-this _ (file_by v handle) _ _ _ (is-by v id handle sound row)
      (by-found (point_of v (file_by v handle)) _ _ _ refl (λ (point : ℕ × List ℕ) is. by-need (point.0 == tag) _ None _ refl (behind-done refl)))))

-- ---- what has no handle

module _ (v : Volume) (client number : ℕ) where
  cancel : By v client (Ask (request.Cancel number)) (first_failing ((not (is_pending v client number), with_status InvalidParameter) ∷ [])) (try_cancel v client number)
  unfolding try_cancel
  cancel = by-as _ _ _ (rw (row-found (is_call client number) v.pending) refl) (by-there (number_of (is_call client number) v.pending) InvalidParameter None _ refl (λ turn pends. behind-done refl))

  waits : (ended pending : Bool)
      → By v client (WaitFor number) (if not ended && not pending then Some (with_status InvalidParameter) else None) (if ended then ends_with v Success else (if pending then Stay v Waiting else refused v InvalidParameter))
  waits true pending = behind-done refl
  waits false true = behind-stay refl
  waits false false = by-refused InvalidParameter refl

  wait : By v client (WaitFor number) (first_failing ((not (has_ended v client number) && not (is_pending v client number), with_status InvalidParameter) ∷ [])) (try_wait v client number)
  unfolding try_wait
  wait = waits (has_ended v client number) (is_pending v client number)

  -- the number is that of a SID
  set_quota : (limit : ℕ) → By v client (Ask (request.SetQuota number limit)) (first_failing ((not (has_sid (sids_of v client) 0), with_status AccessDenied) ∷ [])) (try_set_quota v client number limit)
  unfolding try_set_quota
  set_quota limit = by-check (not (has_sid (sids_of v client) 0)) _ None _ refl (behind-done refl)

  query_quota : By v client (Ask (request.QueryQuota number)) None (try_query_quota v number)
  unfolding try_query_quota
  query_quota = behind-done refl

leave : (v : Volume) (client : ℕ) → By v client Leave None (try_leave v client)
unfolding try_leave
leave v client = behind-done refl

-- ---- each try

-- the list is this one
listed : {v : Volume} {client : ℕ} {what : What} {outcome : Outcome} (those checks : List Check) → Some those ≡ Some checks → By v client what (first_failing those) outcome
    → By v client what (first_failing checks) outcome
listed {v} {client} {what} {outcome} those checks same by = subst (λ (checks : List Check). By v client what (first_failing checks) outcome) (some_equal those checks same) by

request-ends : (v : Volume) (turn client number : ℕ) (asks : Request) (checks : List Check) → IsSoundTree v → checks_asked v client asks ≡ Some checks
    → By v client (Ask asks) (first_failing checks) (try_request v turn client number asks)
request-ends v turn client number (request.Create path wanted share disposition options attributes key) checks sound none = cc
request-ends v turn client number (request.Close handle) checks sound is = listed _ checks is (close v client handle)
request-ends v turn client number (request.Read handle at count) checks sound is = listed _ checks is (read v client handle at count)
request-ends v turn client number (request.Write handle at bytes) checks sound is = listed _ checks is (write v client handle at bytes)
request-ends v turn client number (request.Flush handle) checks sound is = listed _ checks is (flush v client handle)
request-ends v turn client number (request.SetEnd handle end) checks sound is = listed _ checks is (set_end v client handle end)
request-ends v turn client number (request.Lock handle at count exclusive waits) checks sound is = listed _ checks is (lock v client handle at count exclusive waits)
request-ends v turn client number (request.Unlock handle at count) checks sound is = listed _ checks is (unlock v client handle at count)
request-ends v turn client number (request.QueryDir handle kind expression restart room) checks sound is = listed _ checks is (query_dir v client handle kind expression restart room sound)
request-ends v turn client number (request.QueryInfo handle kind room) checks sound is = listed _ checks is (query_info v client handle kind room sound)
request-ends v turn client number (request.SetBasic handle creation access write change attributes) checks sound is = listed _ checks is
    (set_basic v client handle (record { creation = creation; access = access; write = write; change = change; attributes = attributes }) sound)
request-ends v turn client number (request.SetDisposition handle delete) checks sound is = listed _ checks is (set_disposition v client handle delete)
request-ends v turn client number (request.Rename handle path replace) checks sound none = cc
request-ends v turn client number (request.Link handle path replace) checks sound none = cc
request-ends v turn client number (request.Oplock handle level) checks sound is = listed _ checks is (oplock v client handle level turn)
request-ends v turn client number (request.Ack handle level) checks sound is = listed _ checks is (ack v client handle level turn)
request-ends v turn client number (request.SetSecurity handle owner dacl) checks sound is = listed _ checks is (set_security v client handle owner dacl sound)
request-ends v turn client number (request.Notify handle filter whole room) checks sound is = listed _ checks is (notify v client handle filter whole room)
request-ends v turn client number (request.Cancel cancelled) checks sound is = listed _ checks is (cancel v client cancelled)
request-ends v turn client number (request.SetReparse handle bytes) checks sound is = listed _ checks is (set_reparse v client handle bytes sound)
request-ends v turn client number (request.GetReparse handle room) checks sound is = listed _ checks is (get_reparse v client handle room sound)
request-ends v turn client number (request.DeleteReparse handle tag) checks sound is = listed _ checks is (delete_reparse v client handle tag sound)
request-ends v turn client number (request.SetQuota sid limit) checks sound is = listed _ checks is (set_quota v client sid limit)
request-ends v turn client number (request.QueryQuota sid) checks sound is = listed _ checks is (query_quota v client sid)

what-ends : (v : Volume) (turn client number : ℕ) (what : What) (checks : List Check) → IsSoundTree v → checks_of_call v client what ≡ Some checks
    → By v client what (first_failing checks) (try_what v turn client number what)
what-ends v turn client number (Ask asks) checks sound is = request-ends v turn client number asks checks sound is
what-ends v turn client number (Tick ticks) checks sound is = listed _ checks is (behind-done refl)
what-ends v turn client number (WaitFor earlier) checks sound is = listed _ checks is (wait v client earlier)
what-ends v turn client number Leave checks sound is = listed _ checks is (leave v client)

-- a client that has left is refused
call-ends : (v : Volume) (call : Call) (turn : ℕ) → IsSoundTree v → CallEndsByChecks v call (try v call turn)
call-ends v call turn sound checks is = By.so (by-check (has_left v call.client) InvalidHandle _ _ (never-unknown v call.client call.what) (what-ends v turn call.client call.number call.what checks sound is))

-- in all tries of a history
pub calls-end_as_their_checks_say : (setup : Setup) (history : List HistoryEntry) → CallsEndByChecks setup history
calls-end_as_their_checks_say setup history = λ k d within. (let t : Tried = get_or (tries_of setup history) k d in
    call-ends t.before t.call t.turn ((run-tree_stays_sound setup history).tries k d within).before)
