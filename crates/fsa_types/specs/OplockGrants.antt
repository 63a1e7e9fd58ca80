-- Grants and acknowledgements over lists of oplocks: when no oplock is granted, which oplocks a grant
-- switches, and what a grant and an answer leave, after [MS-FSA] 'Server Requests an Oplock' and 'Server
-- Acknowledges an Oplock Break'. `on` says which oplocks of a list are of the stream.
use Rattle.std.specs.Prelude.{ℕ, Bool, List, [], ◌∷◌, ◌++◌, ◌==◌, ◌&&◌, ◌||◌, not, Option, Some, None, is_some, option_and_then, filter, find, fold, map, if◌then◌else◌}
use Rattle.std.specs.List.{list_any}
use Rattle.fsa_types.specs.OplockLists.{without_oplock_of}
use Rattle.fsa_types.specs.Oplocks.{Oplock, has_read, has_write, is_same_key, is_within}
use Rattle.fsa_types.specs.declared.request.Level.{Level}

-- ---- what is asked of those that are there

-- an oplock is of this handle, or of one with its key
abbrev pub is_of_key : ℕ → ℕ → Oplock → Bool
is_of_key handle key oplock = is_same_key oplock.handle oplock.key (Some handle) key

-- a break is in progress
abbrev pub some_breaking : (Oplock → Bool) → List Oplock → Bool
some_breaking on oplocks = list_any (λ oplock. on oplock && is_some oplock.target) oplocks

-- an oplock of another key has write caching
abbrev pub some_writer : (Oplock → Bool) → ℕ → ℕ → List Oplock → Bool
some_writer on handle key oplocks = list_any (λ oplock. on oplock && not (is_of_key handle key oplock) && has_write oplock.level) oplocks

-- an oplock of this key has more than is asked for
abbrev pub some_more : (Oplock → Bool) → ℕ → ℕ → Level → List Oplock → Bool
some_more on handle key level oplocks = list_any (λ oplock. on oplock && is_of_key handle key oplock && not (is_within oplock.level level)) oplocks

-- no oplock of this level is granted to a handle of this key: a break is in progress; a level without write
-- caching is asked for and a range is locked; one with write caching is, and a handle of another key is
-- there; an oplock of another key has write caching; or one of this key has more than is asked for
abbrev pub is_refused_among : (Oplock → Bool) → ℕ → ℕ → Level → Bool → Bool → List Oplock → Bool
is_refused_among on handle key level others locked oplocks =
    some_breaking on oplocks || (not (has_write level) && locked) || (has_write level && others)
    || some_writer on handle key oplocks || some_more on handle key level oplocks

-- ---- what a grant leaves

-- those of this key, which a grant switches
abbrev pub switched_among : (Oplock → Bool) → ℕ → ℕ → List Oplock → List Oplock
switched_among on handle key oplocks = filter (λ oplock. on oplock && is_of_key handle key oplock) oplocks

-- what is left once these have ended, one after the other
abbrev pub after_switches : List Oplock → List Oplock → List Oplock
after_switches oplocks switched = fold (λ now oplock. without_oplock_of oplock.handle now) oplocks switched

-- an oplock as it is granted; its call is pending under this turn
abbrev pub as_granted : ℕ → ℕ → Level → ℕ → Oplock
as_granted handle key level turn = record { handle = handle; key = key; level = level; target = None; number = 0; call = Some turn }

-- what a grant leaves
abbrev pub after_grant : (Oplock → Bool) → ℕ → ℕ → Level → ℕ → List Oplock → List Oplock
after_grant on handle key level turn oplocks =
    after_switches oplocks (switched_among on handle key oplocks) ++ as_granted handle key level turn ∷ []

-- ---- what an answer leaves

-- the most that may stay of the oplock of this handle, where a break of it is in progress
abbrev pub target_among : ℕ → List Oplock → Option Level
target_among handle oplocks = option_and_then (λ oplock. oplock.target) (find (λ oplock. oplock.handle == handle) oplocks)

-- an oplock of which this level stays once its break has ended, where it is this handle's; the call that is
-- pending under this turn is its own
abbrev pub as_answered : ℕ → Level → ℕ → Oplock → Oplock
as_answered handle level turn oplock =
    if oplock.handle == handle then record oplock { level = level; target = None; number = 0; call = Some turn } else oplock

-- what is left once the break has ended, and this level stays of the oplock of this handle
abbrev pub after_answer : ℕ → Level → ℕ → List Oplock → List Oplock
after_answer handle level turn oplocks =
    if has_read level then map (as_answered handle level turn) oplocks else without_oplock_of handle oplocks
