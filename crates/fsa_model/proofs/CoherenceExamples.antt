-- Coherent caching, worked by hand from the rules and shown by computation over whole runs: what each point speaks
-- of does occur.
use Rattle.std.specs.Prelude.{◌≡◌, ℕ, Bool, true, false, List, [], ◌∷◌, map, Option, Some, None, codes, refl}
use Rattle.fsa_types.specs.declared.oplock.HandleSet.{HandleSet}
use Rattle.fsa_types.specs.declared.oplock.HandleSet.TheVariants as set
use Rattle.fsa_types.specs.declared.request.Call.{Call}
use Rattle.fsa_types.specs.declared.request.Disposition.TheVariants.{CreateNew, OpenExisting}
use Rattle.fsa_types.specs.declared.request.Level.{Level}
use Rattle.fsa_types.specs.declared.request.Level.TheVariants.{Nil, R, RH, RWH}
use Rattle.fsa_types.specs.declared.request.Request.TheVariants.{Create, Read, Write, Oplock, Ack}
use Rattle.fsa_types.specs.Oplocks.{has_read, has_write}
use Rattle.fsa_model.specs.Coherence.{are_apart, awaits_break_of, blockers_of, bytes_under, counts_on_reads, gives_bytes, has_in, is_by_own_key, is_clash, level_of, set_of_path}
use Rattle.fsa_model.specs.Grant.{oplock_on, oplock_by, oplock_at, try_oplock, ack_keeping, ack_at, try_ack}
use Rattle.fsa_model.specs.Open.{try_create, create_at, create_walked, create_named, create_by_link, create_found, create_there, create_in_file, create_stream, create_on_stream, open_stream, open_granted, open_existing, clashed, create_missing, make_file}
use Rattle.fsa_model.specs.Outcome.{Outcome, Done}
use Rattle.fsa_model.specs.Read.{try_read, read_at, read_by, read_stream, read_range, read_unlocked, read_bytes}
use Rattle.fsa_model.specs.Schedule.{plain_entry}
use Rattle.fsa_model.specs.Tries.{Tried, left_by, tries_of}
use Rattle.fsa_model.specs.Try.{try}
use Rattle.fsa_model.specs.Write.{try_write, write_at, write_by, write_stream, write_at_place, write_range, write_unlocked, write_grown, write_bytes}
use Rattle.fsa_model.proofs.OplockExamples.{asks, setup}

-- the tries of the history of these calls, in which no call finds no memory
abbrev tries : List Call → List Tried
tries calls = tries_of setup (map plain_entry calls)

-- what a try came to
abbrev came_to : Tried → Outcome
came_to t = try t.before t.call t.turn

-- it gave bytes; it ended SHARING_VIOLATION
abbrev gave_bytes : Outcome → Bool
gave_bytes (Done v reply) = gives_bytes reply.body
gave_bytes _ = false

abbrev clashed_by : Outcome → Bool
clashed_by (Done v reply) = is_clash reply.status
clashed_by _ = false

-- ---- a handle counts, and another key writes once its break was answered

-- `a` writes under its oplock; `b`, of another key, is held until `a` has answered, and then opens, reads and writes
abbrev shared_file : List Call
shared_file =
    asks 0 1 (Create (codes "\\f") 0x3 0x7 CreateNew 0x0 0x0 5)
    ∷ asks 0 2 (Oplock 1 RWH)
    ∷ asks 0 3 (Write 1 (Some 0) (codes "A"))
    ∷ asks 1 1 (Create (codes "\\f") 0x3 0x7 OpenExisting 0x0 0x0 0)
    ∷ asks 0 4 (Ack 1 RH)
    ∷ asks 1 2 (Read 1 0 1)
    ∷ asks 1 3 (Write 1 (Some 0) (codes "B"))
    ∷ asks 0 5 (Ack 1 R)
    ∷ []

-- who tries, in which call and under which turn, and whether by the key of the first handle: the open of `b` is tried
-- once more in the turn of the answer
pub tries_of_shared_file :
    map {B = ℕ × ℕ × ℕ × Bool} (λ t. (t.call.client, t.call.number, t.turn, is_by_own_key 1 t)) (tries shared_file)
    ≡ (0, 1, 1, false)
    ∷ (0, 2, 2, true)
    ∷ (0, 3, 3, true)
    ∷ (1, 1, 4, false)
    ∷ (0, 4, 5, true)
    ∷ (1, 1, 4, false)
    ∷ (1, 2, 6, false)
    ∷ (1, 3, 7, false)
    ∷ (0, 5, 8, true)
    ∷ []
unfolding try_create create_at create_walked create_named create_by_link create_found create_there create_in_file create_stream create_on_stream open_stream open_granted open_existing clashed create_missing make_file try_oplock oplock_at oplock_by oplock_on try_ack ack_at ack_keeping try_write write_at write_by write_stream write_at_place write_range write_unlocked write_grown write_bytes try_read read_at read_by read_stream read_range read_unlocked read_bytes
tries_of_shared_file = refl

-- whether the first handle counts before and after, its level and its bytes after, and whether the try gave bytes: from
-- the grant on it counts until `b` writes, and till then its bytes change by `a` alone; `b` reads and writes while
-- it has no write caching
pub counts_until_other_key_writes :
    map {B = Bool × Bool × Level × List ℕ × Bool} (λ t. (counts_on_reads t.before 1, counts_on_reads (left_by t) 1, level_of (left_by t) 1, bytes_under (left_by t) 1, gave_bytes (came_to t))) (tries shared_file)
    ≡ (false, false, Nil, [], false)
    ∷ (false, true, RWH, [], false)
    ∷ (true, true, RWH, codes "A", false)
    ∷ (true, true, RWH, codes "A", false)
    ∷ (true, true, RH, codes "A", false)
    ∷ (true, true, RH, codes "A", false)
    ∷ (true, true, RH, codes "A", true)
    ∷ (true, false, RH, codes "B", false)
    ∷ (false, false, Nil, codes "B", false)
    ∷ []
unfolding try_create create_at create_walked create_named create_by_link create_found create_there create_in_file create_stream create_on_stream open_stream open_granted open_existing clashed create_missing make_file try_oplock oplock_at oplock_by oplock_on try_ack ack_at ack_keeping try_write write_at write_by write_stream write_at_place write_range write_unlocked write_grown write_bytes try_read read_at read_by read_stream read_range read_unlocked read_bytes
counts_until_other_key_writes = refl

-- ---- a change is held on a break that was told to keep reads

-- `c` clashes with `a`, whose oplock is broken to R; the write of `b` is held on that break
abbrev held_write : List Call
held_write =
    asks 0 1 (Create (codes "\\w") 0x1 0x3 CreateNew 0x0 0x0 0)
    ∷ asks 1 1 (Create (codes "\\w") 0x2 0x7 OpenExisting 0x0 0x0 0)
    ∷ asks 0 2 (Oplock 1 RH)
    ∷ asks 2 1 (Create (codes "\\w") 0x10000 0x7 OpenExisting 0x0 0x0 0)
    ∷ asks 1 2 (Write 1 (Some 0) (codes "A"))
    ∷ asks 0 3 (Ack 1 R)
    ∷ []

-- whether the first handle counts after, and whether the try is held on its break: that of `c` leaves it counting,
-- that of `b` ends it; after the answer `c` is refused and `b` writes
pub counts_until_change_is_held :
    map {B = ℕ × Bool × Bool × List ℕ} (λ t. (t.call.client, counts_on_reads (left_by t) 1, awaits_break_of (left_by t) (blockers_of (came_to t)) 1, bytes_under (left_by t) 1)) (tries held_write)
    ≡ (0, false, false, [])
    ∷ (1, false, false, [])
    ∷ (0, true, false, [])
    ∷ (2, true, true, [])
    ∷ (1, false, true, [])
    ∷ (0, false, false, [])
    ∷ (2, false, false, [])
    ∷ (1, false, false, codes "A")
    ∷ []
unfolding try_create create_at create_walked create_named create_by_link create_found create_there create_in_file create_stream create_on_stream open_stream open_granted open_existing clashed create_missing make_file try_oplock oplock_at oplock_by oplock_on try_ack ack_at ack_keeping try_write write_at write_by write_stream write_at_place write_range write_unlocked write_grown write_bytes
counts_until_change_is_held = refl

-- ---- a clash comes once no handle of another key is cached

abbrev clash_after_answer : List Call
clash_after_answer =
    asks 0 1 (Create (codes "\\o") 0x3 0x0 CreateNew 0x0 0x0 1)
    ∷ asks 0 2 (Oplock 1 RWH)
    ∷ asks 1 1 (Create (codes "\\o") 0x1 0x7 OpenExisting 0x0 0x0 0)
    ∷ asks 0 3 (Ack 1 R)
    ∷ []

-- the handles that the path names, the level of the first handle after, and whether the try ended
-- SHARING_VIOLATION: first the open of `b` is held, and it is refused once `a` has given handle caching up
pub clashes_once_no_handle_is_cached :
    map {B = Option HandleSet × Level × Bool} (λ t. (set_of_path t.before (codes "\\o"), level_of (left_by t) 1, clashed_by (came_to t))) (tries clash_after_answer)
    ≡ (None, Nil, false)
    ∷ (Some (set.Stream 1), RWH, false)
    ∷ (Some (set.Stream 1), RWH, false)
    ∷ (Some (set.Stream 1), R, false)
    ∷ (Some (set.Stream 1), R, true)
    ∷ []
unfolding try_create create_at create_walked create_named create_by_link create_found create_there create_in_file create_stream create_on_stream open_stream open_granted open_existing clashed create_missing make_file try_oplock oplock_at oplock_by oplock_on try_ack ack_at ack_keeping
clashes_once_no_handle_is_cached = refl

-- ---- nobody caches beside a handle of another key that caches writes

-- `b` opens for attributes alone, which breaks nothing, and is granted no oplock
abbrev beside_a_writer : List Call
beside_a_writer =
    asks 0 1 (Create (codes "\\f") 0x3 0x7 CreateNew 0x0 0x0 5)
    ∷ asks 0 2 (Oplock 1 RWH)
    ∷ asks 1 1 (Create (codes "\\f") 0x80 0x7 OpenExisting 0x0 0x0 0)
    ∷ asks 1 2 (Oplock 1 R)
    ∷ []

-- whether the two handles are of one stream and of different keys, whether the first caches writes, and whether the
-- second caches anything
pub nobody_caches_beside_a_writer :
    map {B = Bool × Bool × Bool} (λ t. (are_apart (left_by t) 1 2, has_in has_write (left_by t) 1, has_in has_read (left_by t) 2)) (tries beside_a_writer)
    ≡ (false, false, false)
    ∷ (false, true, false)
    ∷ (true, true, false)
    ∷ (true, true, false)
    ∷ []
unfolding try_create create_at create_walked create_named create_by_link create_found create_there create_in_file create_stream create_on_stream open_stream open_granted open_existing clashed create_missing make_file try_oplock oplock_at oplock_by oplock_on
nobody_caches_beside_a_writer = refl
