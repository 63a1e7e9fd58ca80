-- Caching by oplocks is coherent over every history: what the holder of an oplock may count on, after [MS-FSA]
-- 'Algorithm to Check for an Oplock Break'. First when a handle counts on the reads that it has cached, and by
-- whom a call acts; then the facts that every try keeps, and the four points that hold of every try; then all
-- tries of a history, and any stretch of them.
use Rattle.std.specs.List.{list_any}
use Rattle.std.specs.Option.{option_map_or}
use Rattle.std.specs.Prelude.{◌≡◌, ◌≢◌, ◌≤◌, ℕ, Bool, true, false, not, ◌&&◌, ◌||◌, ◌==◌, ◌++◌, List, [], ◌∷◌, length, filter, Option, Some, None, option_map, option_and_then, unwrap_or, All, AllPairs, IsTrue, if◌then◌else◌}
use Rattle.fsa_types.specs.declared.oplock.Class.TheVariants.{Change}
use Rattle.fsa_types.specs.declared.oplock.HandleSet.{HandleSet}
use Rattle.fsa_types.specs.declared.oplock.HandleSet.TheVariants as set
use Rattle.fsa_types.specs.declared.reply.Blocker.{Blocker}
use Rattle.fsa_types.specs.declared.reply.Blocker.TheVariants.{Break}
use Rattle.fsa_types.specs.declared.reply.Body.{Body}
use Rattle.fsa_types.specs.declared.reply.Body.TheVariants.{Got}
use Rattle.fsa_types.specs.declared.reply.Reply.{Reply}
use Rattle.fsa_types.specs.declared.request.Disposition.{Disposition}
use Rattle.fsa_types.specs.declared.request.Level.{Level}
use Rattle.fsa_types.specs.declared.request.Level.TheVariants.{Nil}
use Rattle.fsa_types.specs.declared.request.Request.TheVariants.{Create, Read, Oplock, Ack, Cancel}
use Rattle.fsa_types.specs.declared.request.What.{What}
use Rattle.fsa_types.specs.declared.request.What.TheVariants.{Ask}
use Rattle.fsa_types.specs.declared.status.Status.{Status}
use Rattle.fsa_types.specs.declared.status.Status.TheVariants.{SharingViolation}
use Rattle.fsa_types.specs.OplockLists.{effect_on, number_of_break, told_by}
use Rattle.fsa_types.specs.Oplocks.{has_read, has_write, has_handle, is_same_key}
use Rattle.fsa_types.specs.Paths.{components}
use Rattle.fsa_types.specs.Rows.{row_of, IsNumbered}
use Rattle.fsa_model.specs.Breaks.{is_chosen, with_breaks}
use Rattle.fsa_model.specs.Close.{handle_named}
use Rattle.fsa_model.specs.Edits.{is_call}
use Rattle.fsa_model.specs.Grant.{oplock_of, call_of, target_of, with_granted}
use Rattle.fsa_model.specs.History.{HistoryEntry, Run, begun, run}
use Rattle.fsa_model.specs.Lookups.{bytes_of, child_of, handle_of, is_directory, is_on, is_open_on, number_of, stream_of}
use Rattle.fsa_model.specs.Open.{stream_name}
use Rattle.fsa_model.specs.Outcome.{Outcome, Done, Hold}
use Rattle.fsa_model.specs.Setup.{Setup}
use Rattle.fsa_model.specs.Sound.{has_its_key}
use Rattle.fsa_model.specs.Tries.{Tried, left_by, tries_of}
use Rattle.fsa_model.specs.Try.{try}
use Rattle.fsa_model.specs.Turn.{volume_after}
use Rattle.fsa_model.specs.Volume.{File, Link, Stream, Handle, Volume}
use Rattle.fsa_model.specs.Volume as volume
use Rattle.fsa_model.specs.Walk.{Walked, Reached, walk, last_name}

-- ---- counting on cached reads

-- the level of the handle's oplock
abbrev pub level_of : Volume → ℕ → Level
level_of v handle = option_map_or (λ oplock. oplock.level) (oplock_of v handle) Nil

-- an oplock caches reads: its level has read caching and, while a break is in progress, its target has it too
abbrev pub caches_reads : volume.Oplock → Bool
caches_reads oplock = has_read oplock.level && option_map_or has_read oplock.target true

-- a handle counts on the reads that it has cached
abbrev pub counts_on_reads : Volume → ℕ → Bool
counts_on_reads v handle = option_map_or caches_reads (oplock_of v handle) false

-- the bytes of the handle's stream
abbrev pub bytes_under : Volume → ℕ → List ℕ
bytes_under v handle = option_map_or (λ row. option_map_or (bytes_of v) row.stream []) (row_of v.handles handle) []

-- ---- by whom a call acts

-- the number by which it names a handle, and the handle, where that is open
abbrev pub handle_asked : What → Option ℕ
handle_asked (Ask request) = handle_named request
handle_asked _ = None

abbrev pub acting_handle : Volume → ℕ → What → Option ℕ
acting_handle v client what = option_and_then (handle_of v client) (handle_asked what)

-- the key of a handle; that of the acting handle, 0 where there is none; and the key that an open brings
abbrev pub key_of : Volume → ℕ → ℕ
key_of v handle = option_map_or (λ row. row.key) (row_of v.handles handle) 0

abbrev pub key_acting : Volume → Option ℕ → ℕ
key_acting v acting = option_map_or (key_of v) acting 0

abbrev pub key_brought : What → Option ℕ
key_brought (Ask (Create path wanted share disposition options attributes key)) = Some key
key_brought _ = None

-- the key with which the call acts
abbrev pub acting_key : Volume → ℕ → What → ℕ
acting_key v client what = unwrap_or (key_brought what) (key_acting v (acting_handle v client what))

-- the handle is the acting one, or its key is that with which the call acts
abbrev pub is_own : Volume → ℕ → Option ℕ → ℕ → Bool
is_own v handle acting key = option_map_or (λ row. is_same_key handle row.key acting key) (row_of v.handles handle) false

-- no handle of the set that is of another key has this in its level
abbrev pub NoOtherHas : (Level → Bool) → Volume → HandleSet → Option ℕ → ℕ → Type 0
NoOtherHas has v on acting key =
    (handle : ℕ) (row : Handle) → row_of v.handles handle ≡ Some row → is_on v on row ≡ true → is_own v handle acting key ≡ false
    → has (level_of v handle) ≡ false

-- the handle's oplock, or what a break in progress leaves of it, has this
abbrev pub has_in : (Level → Bool) → Volume → ℕ → Bool
has_in has v handle = option_map_or (λ oplock. has oplock.level || option_map_or has oplock.target false) (oplock_of v handle) false

-- two handles of one stream, of different keys
abbrev pub is_on_one : Handle → Handle → Bool
is_on_one row other = option_map_or (λ stream. is_open_on stream other) row.stream false

abbrev pub are_apart : Volume → ℕ → ℕ → Bool
are_apart v handle other =
    option_map_or
    (λ row. option_map_or (λ other_row. is_on_one row other_row && not (is_same_key handle row.key (Some other) other_row.key)) (row_of v.handles other) false)
    (row_of v.handles handle) false

-- ---- the facts of a volume that every try keeps; each is part of soundness

-- the handle's stream, where it has one, lives, and so does the link by which it was opened; both are of one file
abbrev pub is_under_link : List (ℕ × Link) → ℕ → Stream → Bool
is_under_link links link stream = option_map_or (λ row. row.file == stream.file) (row_of links link) false

abbrev pub has_living_stream : List (ℕ × Link) → List (ℕ × Stream) → Handle → Bool
has_living_stream links streams handle =
    option_map_or (λ stream. option_map_or (is_under_link links handle.link) (row_of streams stream) false) handle.stream true

-- file 1 is a directory and no link is of it, and the next file has another number
pub record HasRoot (files : List (ℕ × File)) (links : List (ℕ × Link)) (last_file : ℕ) : Type 0 where
  pub is_there : IsTrue (is_directory files 1)
  pub has_no_link : All (λ entry. (entry.1.file == 1) ≡ false) links
  pub given : 1 ≤ last_file

-- a handle has at most one oplock, whose handle lives and has its key; streams and links of handles live; links
-- and streams have numbers that were given
pub record IsTied (v : Volume) : Type 0 where
  pub oplocks_differ : AllPairs (λ a b. (a.handle == b.handle) ≡ false) v.oplocks
  pub oplocks_have_keys : All (λ oplock. IsTrue (has_its_key v.handles oplock)) v.oplocks
  pub streams_live : All (λ entry. IsTrue (has_living_stream v.links v.streams entry.1)) v.handles
  pub links_numbered : IsNumbered v.links v.last_link
  pub streams_numbered : IsNumbered v.streams v.last_stream
  pub root : HasRoot v.files v.links v.last_file

-- ---- first: while a handle counts, the bytes of its stream change only by its own key

-- from one volume to the next, by a call that acts by this handle and with this key
abbrev pub BytesStay : Volume → Option ℕ → ℕ → Volume → Type 0
BytesStay v acting key next =
    (handle : ℕ) → counts_on_reads v handle ≡ true → counts_on_reads next handle ≡ true → is_own v handle acting key ≡ false
    → bytes_under next handle ≡ bytes_under v handle

-- ---- second: counting ends only for one of six causes

-- class Change was begun by another key on a set with this handle, whose oplock this was, and left these oplocks
pub record IsBrokenByChange (v : Volume) (acting : Option ℕ) (key : ℕ) (next : Volume) (handle : ℕ) (oplock : volume.Oplock) : Type 0 where
  pub set : HandleSet
  pub held : oplock_of v handle ≡ Some oplock
  pub chosen : is_chosen v set acting key oplock ≡ true
  pub begun : next.oplocks ≡ (with_breaks v set Change acting key).oplocks

-- one of the blockers is the break of this handle
abbrev pub is_break : ℕ → Blocker → Bool
is_break number (Break other) = other == number
is_break number _ = false

abbrev pub awaits_break_of : Volume → List Blocker → ℕ → Bool
awaits_break_of v blockers handle = list_any (is_break (number_of_break v.oplocks handle)) blockers

abbrev pub blockers_of : Outcome → List Blocker
blockers_of (Hold v blockers interim) = blockers
blockers_of _ = []

-- the stream of the acting handle, where it has one
abbrev pub stream_under : Volume → Option ℕ → Option ℕ
stream_under v acting = option_and_then (λ handle. option_and_then (λ row. row.stream) (row_of v.handles handle)) acting

-- after a try of this client's call, which left this volume and is held by these blockers
pub data WhyEnded (v : Volume) (client : ℕ) (what : What) (next : Volume) (blockers : List Blocker) (handle : ℕ) : Type 0 where
  -- it is closed
  Closed : row_of next.handles handle ≡ None → WhyEnded v client what next blockers handle
  -- it acknowledged its break, which was in progress
  Acknowledged : (number : ℕ) (level target : Level) → what ≡ Ask (Ack number level) → handle_of v client number ≡ Some handle → target_of v handle ≡ Some target
      → WhyEnded v client what next blockers handle
  -- it was switched: a handle of its key was granted an oplock on its stream
  Switched : (number granted stream turn : ℕ) (level : Level) → what ≡ Ask (Oplock number level) → handle_of v client number ≡ Some granted → stream_under v (Some granted) ≡ Some stream
      → next.oplocks ≡ (with_granted v granted (acting_key v client what) stream level turn).oplocks → is_own v handle (Some granted) (acting_key v client what) ≡ true → WhyEnded v client what next blockers handle
  -- the call by which it had its oplock was cancelled
  Cancelled : (number turn : ℕ) → what ≡ Ask (Cancel number) → number_of (is_call client number) v.pending ≡ Some turn → call_of v handle ≡ Some turn
      → WhyEnded v client what next blockers handle
  -- another key's change told it that nothing is left
  Told : (oplock : volume.Oplock) (ack : Bool) → IsBrokenByChange v (acting_handle v client what) (acting_key v client what) next handle oplock
      → told_by (effect_on Change oplock) ≡ Some (Nil, ack) → WhyEnded v client what next blockers handle
  -- another key's change is held on its break
  Awaited : (oplock : volume.Oplock) → IsBrokenByChange v (acting_handle v client what) (acting_key v client what) next handle oplock
      → awaits_break_of next blockers handle ≡ true → WhyEnded v client what next blockers handle

abbrev pub CountsUntilCause : Volume → ℕ → What → Outcome → Type 0
CountsUntilCause v client what outcome =
    (handle : ℕ) → counts_on_reads v handle ≡ true → counts_on_reads (volume_after outcome) handle ≡ false
    → WhyEnded v client what (volume_after outcome) (blockers_of outcome) handle

-- it begins only where the handle is granted an oplock, or acknowledges a break that left it reads
pub data WhyBegun (v : Volume) (client : ℕ) (what : What) (handle : ℕ) : Type 0 where
  Granted : (number : ℕ) (level : Level) → what ≡ Ask (Oplock number level) → handle_of v client number ≡ Some handle → WhyBegun v client what handle
  Kept : (number : ℕ) (level target : Level) → what ≡ Ask (Ack number level) → handle_of v client number ≡ Some handle → target_of v handle ≡ Some target
      → has_read target ≡ true → WhyBegun v client what handle

abbrev pub CountsFromCause : Volume → ℕ → What → Volume → Type 0
CountsFromCause v client what next =
    (handle : ℕ) → counts_on_reads v handle ≡ false → counts_on_reads next handle ≡ true → WhyBegun v client what handle

-- ---- third: bytes are changed, or read, only where nobody of another key may have written

-- the bytes of a stream change only where no handle of another key on it is left with write caching
abbrev pub ChangesWhereNoneWrites : Volume → Option ℕ → ℕ → Volume → Type 0
ChangesWhereNoneWrites v acting key next =
    (stream : ℕ) → bytes_of next stream ≢ bytes_of v stream → NoOtherHas has_write next (set.Stream stream) acting key

-- where the call has ended with a reply that passes, the volume that it left is such
abbrev pub Where : (Reply → Bool) → (Volume → Type 0) → Outcome → Type 0
Where test Such (Done v reply) = test reply ≡ true → Such v
Where test Such _ = Unit {0}

-- there are bytes in it
abbrev pub gives_bytes : Body → Bool
gives_bytes (Got bytes) = not (length bytes == 0)
gives_bytes _ = false

-- no handle of another key on the stream of the acting one is left with write caching
abbrev pub NoOtherWrites : Volume → Option ℕ → ℕ → Volume → Type 0
NoOtherWrites v acting key next = (stream : ℕ) → stream_under v acting ≡ Some stream → NoOtherHas has_write next (set.Stream stream) acting key

-- and a read gives bytes only there
abbrev pub ReadsWhereNoneWrites : Volume → ℕ → What → Outcome → Type 0
ReadsWhereNoneWrites v client what outcome =
    (handle at count : ℕ) → what ≡ Ask (Read handle at count)
    → Where (λ reply. gives_bytes reply.body) (NoOtherWrites v (acting_handle v client what) (acting_key v client what)) outcome

-- a handle that caches writes has no handle of another key beside it that caches anything: so nobody of another key
-- writes in his cache while a handle counts
abbrev pub WritersAlone : Volume → Type 0
WritersAlone v = (handle other : ℕ) → are_apart v handle other ≡ true → has_in has_write v handle ≡ true → has_in has_read v other ≡ false

-- ---- fourth: an open ends SHARING_VIOLATION only where nobody of another key caches the handle

abbrev pub is_clash : Status → Bool
is_clash SharingViolation = true
is_clash _ = false

-- the handles of the directory or of the stream that a path names
abbrev pub set_of_file : Volume → List ℕ → ℕ → ℕ → Option HandleSet
set_of_file v path link file =
    if is_directory v.files file then Some (set.Link link) else option_map (λ stream. set.Stream stream) (stream_of v file (stream_name path))

abbrev pub set_of_link : Volume → List ℕ → ℕ → Option HandleSet
set_of_link v path link = option_and_then (λ row. set_of_file v path link row.file) (row_of v.links link)

abbrev pub set_walked : Volume → List ℕ → Walked → Option HandleSet
set_walked v path (Reached dir) =
    if length (components path) == 0 then set_of_file v path 0 1
    else option_and_then (set_of_link v path) (child_of v dir (last_name (components path)))
set_walked v path _ = None

abbrev pub set_of_path : Volume → List ℕ → Option HandleSet
set_of_path v path = set_walked v path (walk v (components path))

-- there are such, and none of another key is left with handle caching
abbrev pub NoOtherKeeps : Option HandleSet → ℕ → Volume → Type 0
NoOtherKeeps named key next = (on : HandleSet) × (named ≡ Some on) × NoOtherHas has_handle next on None key

abbrev pub ClashesWhereNoneKeeps : Volume → What → Outcome → Type 0
ClashesWhereNoneKeeps v what outcome =
    (path : List ℕ) (wanted share : ℕ) (disposition : Disposition) (options attributes key : ℕ)
    → what ≡ Ask (Create path wanted share disposition options attributes key)
    → Where (λ reply. is_clash reply.status) (NoOtherKeeps (set_of_path v path) key) outcome

-- ---- one try

-- the try of such a call of this client from this volume, which came to this, keeps the facts and is coherent
pub record IsCoherent (v : Volume) (client : ℕ) (what : What) (outcome : Outcome) : Type 0 where
  pub tied : IsTied (volume_after outcome)
  pub bytes : BytesStay v (acting_handle v client what) (acting_key v client what) (volume_after outcome)
  pub ends : CountsUntilCause v client what outcome
  pub begins : CountsFromCause v client what (volume_after outcome)
  pub changes : ChangesWhereNoneWrites v (acting_handle v client what) (acting_key v client what) (volume_after outcome)
  pub reads : ReadsWhereNoneWrites v client what outcome
  pub alone : WritersAlone v → WritersAlone (volume_after outcome)
  pub clashes : ClashesWhereNoneKeeps v what outcome

-- ---- all tries of a history

-- the facts hold before it, and it is coherent
pub record IsCoherentTry (t : Tried) : Type 0 where
  pub tied : IsTied t.before
  pub alone : WritersAlone t.before
  pub coherent : IsCoherent t.before t.call.client t.call.what (try t.before t.call t.turn)

-- handles, oplocks, and bytes are as they were
pub record IsAlike (v w : Volume) : Type 0 where
  pub handles : w.handles ≡ v.handles
  pub oplocks : w.oplocks ≡ v.oplocks
  pub streams : w.streams ≡ v.streams

-- these tries, one after another, lead from one volume to another, and nothing changes between two of them
abbrev pub Stretch : List Tried → Volume → Volume → Type 0
Stretch [] v w = IsAlike v w
Stretch (t ∷ more) v w = IsAlike v t.before × Stretch more (left_by t) w

-- the handle counts before and after each of them
abbrev pub CountsAlong : ℕ → List Tried → Type 0
CountsAlong handle tries = All (λ t. (counts_on_reads t.before handle ≡ true) × (counts_on_reads (left_by t) handle ≡ true)) tries

-- the try is of the handle's own key
abbrev pub is_by_own_key : ℕ → Tried → Bool
is_by_own_key handle t = is_own t.before handle (acting_handle t.before t.call.client t.call.what) (acting_key t.before t.call.client t.call.what)

-- from the first bytes of the handle's stream to the last ones it takes these tries, each of which begins with what
-- the one before it left
abbrev pub LeadTo : ℕ → List ℕ → List Tried → List ℕ → Type 0
LeadTo handle from [] to = to ≡ from
LeadTo handle from (t ∷ more) to = (bytes_under t.before handle ≡ from) × LeadTo handle (bytes_under (left_by t) handle) more to

-- caching is coherent over this history
pub record CachingIsCoherent (setup : Setup) (history : List HistoryEntry) : Type 0 where
  pub tries : All IsCoherentTry (tries_of setup history)
  -- nothing between two tries changes bytes or oplocks
  pub between : (r : Run) → run setup history ≡ Some r → Stretch (tries_of setup history) (begun setup).volume r.volume
  -- over any stretch in which a handle counts, its later bytes are the earlier ones with its own key's changes in order
  pub stretches : (handle : ℕ) (first part last : List Tried) (v w : Volume) → tries_of setup history ≡ first ++ part ++ last
      → Stretch part v w → CountsAlong handle part → LeadTo handle (bytes_under v handle) (filter (is_by_own_key handle) part) (bytes_under w handle)
