-- A read gives bytes only where no handle of another key may write in its cache; an open clashes only
-- where none of another key may keep its handle.
use Rattle.std.proofs.Common.{◌≡◌, ℕ, ◌+◌, Bool, true, false, ◌==◌, ◌&&◌, ◌||◌, not, List, [], length, refl, sym, ◌∙◌, Option, Some, None, inl, inr}
use Rattle.std.specs.Int.RustNames.{bit_or}
use Rattle.std.specs.Option.{option_map_or}
use Rattle.std.specs.Prelude.{nat_lt, nat_le, option_map, option_and_then, is_some, if◌then◌else◌}
use Rattle.std.proofs.lemmas.Bool.{cases_Bool, false≢true}
use Rattle.fsa_types.specs.Access.{has_any}
use Rattle.fsa_types.specs.declared.oplock.Class.TheVariants.{Clash, Change, ReadOpen}
use Rattle.fsa_types.specs.declared.oplock.HandleSet.{HandleSet}
use Rattle.fsa_types.specs.declared.oplock.HandleSet.TheVariants as set
use Rattle.fsa_types.specs.declared.reply.Reply.{Reply}
use Rattle.fsa_types.specs.declared.status.Status.{Status}
use Rattle.fsa_types.specs.Oplocks.{has_write, has_handle}
use Rattle.fsa_types.specs.Paths.{path_fault, components, rest_of}
use Rattle.fsa_types.specs.Rows.{row_of}
use Rattle.fsa_model.specs.Coherence.{key_of, key_acting, NoOtherHas, IsTied, Where, gives_bytes, is_clash, NoOtherWrites, set_of_file, set_of_link, set_walked, set_of_path, NoOtherKeeps}
use Rattle.fsa_model.specs.Locked.{read_is_locked}
use Rattle.fsa_model.specs.Lookups.{bytes_of, handle_of, child_of, stream_of, is_directory, clashes_on, attributes_of, is_marked, largest_end}
use Rattle.fsa_model.specs.Open.{open_waits, Asked, wants_directory, deletes_on_close, opens_point, overwrites, only_opens, only_makes, access_of, is_invalid, wants_no_right, lacks_delete, has_stream_part, stream_name, names_stream, grants, is_readonly, uncovers, stopped, make_directory, make_file, parent_right, create_missing, clashed, wants_more, completes_if_oplocked, open_existing, overwrite_existing, open_granted, open_directory, replacing_right, open_stream, create_on_stream, create_stream, create_in_file, is_other_kind, asks_for_file, create_there, create_found, create_by_link, create_named, create_walked, create_at, try_create}
use Rattle.fsa_model.specs.Outcome.{Outcome, Done, refused, Hold, Stay}
use Rattle.fsa_model.specs.Read.{read_bytes, read_unlocked, read_range, read_stream, read_by, read_at, try_read}
use Rattle.fsa_model.specs.Volume.{Handle, Volume}
use Rattle.fsa_model.specs.Waits.{waits_for}
use Rattle.fsa_model.specs.Walk.{Walked, Reached, Barred, Diverted, point_of, walk, last_name}
use Rattle.fsa_model.proofs.CoherenceBreaks.{no_other-breaks, takes_writing, takes_handles}
use Rattle.fsa_model.proofs.FaultStatuses.{BarsWithout, walk-fails}
use Rattle.fsa_model.proofs.RowLaws.{option_cases}

record Answers (test : Reply → Bool) (Such : Volume → Type 0) (outcome : Outcome) : Type 0 where
  holds : Where test Such outcome

Answers-if : {test : Reply → Bool} {Such : Volume → Type 0} (asked : Bool) (one other : Outcome) → (asked ≡ true → Answers test Such one)
    → (asked ≡ false → Answers test Such other) → Answers test Such (if asked then one else other)
Answers-if true one other with_one with_other = with_one refl
Answers-if false one other with_one with_other = with_other refl

Answers-option : {X : Type 0} {test : Reply → Bool} {Such : Volume → Type 0} (found : Option X) (some : X → Outcome) (none : Outcome)
    → ((x : X) → found ≡ Some x → Answers test Such (some x)) → Answers test Such none → Answers test Such (option_map_or some found none)
Answers-option None some none with_some with_none = with_none
Answers-option (Some x) some none with_some with_none = with_some x refl

-- the reply doesn't pass; the call is held
passes_not : (test : Reply → Bool) (Such : Volume → Type 0) (v : Volume) (reply : Reply) → test reply ≡ false → Answers test Such (Done v reply)
passes_not test Such v reply fails = record { holds = λ passes. absurd (false≢true (sym fails ∙ passes)) }

Answers-weaker : (test : Reply → Bool) (One Other : Volume → Type 0) (outcome : Outcome) → ((v : Volume) → One v → Other v) → Answers test One outcome → Answers test Other outcome
Answers-weaker test One Other (Done v reply) weaker answers = record { holds = λ passes. weaker v (answers.holds passes) }
Answers-weaker test One Other (Stay v interim) weaker answers = record { holds = tt }
Answers-weaker test One Other (Hold v blockers interim) weaker answers = record { holds = tt }

-- ---- a read

abbrev reads : Reply → Bool
reads reply = gives_bytes reply.body

reads-refused : (Such : Volume → Type 0) (v : Volume) (status : Status) → Answers reads Such (refused v status)
reads-refused Such v status = passes_not reads Such v _ refl

reads-bytes : (Such : Volume → Type 0) (u : Volume) (stream at count : ℕ) → Such u → Answers reads Such (read_bytes u stream at count)
unfolding read_bytes
reads-bytes Such u stream at count such =
    Answers-if (nat_le (length (bytes_of u stream)) at) _ _ (λ past. reads-refused Such u _) (λ within. record { holds = λ passes. such })

reads-unlocked : (Such : Volume → Type 0) (u : Volume) (handle stream at count : ℕ) → Such u → Answers reads Such (read_unlocked u handle stream at count)
unfolding read_unlocked
reads-unlocked Such u handle stream at count such =
    Answers-if (read_is_locked u handle stream at count) _ _ (λ locked. reads-refused Such u _) (λ free. reads-bytes Such u stream at count such)

-- no handle of another key on this stream has write caching
abbrev NoneWrites : ℕ → Option ℕ → ℕ → Volume → Type 0
NoneWrites stream acting key next = NoOtherHas has_write next (set.Stream stream) acting key

reads-range : (v : Volume) (handle key stream at count : ℕ) → IsTied v → Answers reads (NoneWrites stream (Some handle) key) (read_range v handle key stream at count)
unfolding read_range
reads-range v handle key stream at count tied =
    Answers-if (waits_for v (set.Stream stream) ReadOpen (Some handle) key) _ _ (λ waiting. record { holds = tt })
    (λ goes. reads-unlocked (NoneWrites stream (Some handle) key) _ handle stream at count
    (no_other-breaks has_write v (set.Stream stream) ReadOpen (Some handle) key tied (λ level. (takes_writing level).0) goes))

reads-stream : (v : Volume) (id : ℕ) (handle : Handle) (stream at count : ℕ) → IsTied v → Answers reads (NoneWrites stream (Some id) handle.key) (read_stream v id handle stream at count)
unfolding read_stream
reads-stream v id handle stream at count tied =
    Answers-if (not (has_any handle.access 0x1)) _ _ (λ denied. reads-refused _ v _)
    (λ granted. Answers-if (nat_lt largest_end (at + count)) _ _ (λ far. reads-refused _ v _)
    (λ near. Answers-if (count == 0) _ _ (λ none. passes_not reads _ v _ refl)
    (λ some. reads-range v id handle.key stream at count tied)))

reads-by : (v : Volume) (id : ℕ) (handle : Handle) (at count : ℕ) → IsTied v → row_of v.handles id ≡ Some handle
    → Answers reads (NoOtherWrites v (Some id) handle.key) (read_by v id handle at count)
unfolding read_by
reads-by v id handle at count tied found =
    Answers-option handle.stream _ _ (λ stream is. Answers-weaker reads (NoneWrites stream (Some id) handle.key) (NoOtherWrites v (Some id) handle.key) _
    (λ next none other of_it. (let here : handle.stream ≡ Some other = rw found at of_it in
    let same : Some stream ≡ Some other = sym is ∙ here in
    let so : stream ≡ other = cc in rw (← so) none))
    (reads-stream v id handle stream at count tied))
    (reads-refused _ v _)

reads-at : (v : Volume) (id at count : ℕ) → IsTied v → Answers reads (NoOtherWrites v (Some id) (key_of v id)) (read_at v id at count)
unfolding read_at
reads-at v id at count tied = elim (option_cases (row_of v.handles id)) [
  | inl none ↦ rw none (reads-refused _ v _)
  | inr some ↦ Answers-weaker reads (NoOtherWrites v (Some id) some.0.key) (NoOtherWrites v (Some id) (key_of v id)) _ (λ next none stream of_it. rw some.1 (none stream of_it))
      (rw some.1 (reads-by v id some.0 at count tied some.1))
]

reads-try : (v : Volume) (client handle at count : ℕ) → IsTied v
    → Answers reads (NoOtherWrites v (handle_of v client handle) (key_acting v (handle_of v client handle))) (try_read v client handle at count)
unfolding try_read
reads-try v client handle at count tied = elim (option_cases (handle_of v client handle)) [
  | inl none ↦ rw none (reads-refused _ v _)
  | inr some ↦ rw some.1 (reads-at v some.0 at count tied)
]

-- a read gives bytes only where no handle of another key on its stream has write caching
pub read-coherent : (v : Volume) (client handle at count : ℕ) → IsTied v
    → Where (λ reply. gives_bytes reply.body) (NoOtherWrites v (handle_of v client handle) (key_acting v (handle_of v client handle))) (try_read v client handle at count)
read-coherent v client handle at count tied = (reads-try v client handle at count tied).holds

-- ---- an open

abbrev clashes : Reply → Bool
clashes reply = is_clash reply.status

clashes-refused : (Such : Volume → Type 0) (v : Volume) (status : Status) → is_clash status ≡ false → Answers clashes Such (refused v status)
clashes-refused Such v status fails = passes_not clashes Such v _ fails

clashes-stopped : (Such : Volume → Type 0) (v : Volume) (file : ℕ) (rest : List ℕ) → Answers clashes Such (stopped v file rest)
unfolding stopped
clashes-stopped Such v file rest =
    Answers-option (point_of v file) _ _ (λ point is. passes_not clashes Such v _ (elim (cases_Bool (point.0 == 0xA000000C)) [ inl link ↦ rw link refl | inr other ↦ rw other refl ]))
    (clashes-refused Such v _ refl)

clashes-make_directory : (Such : Volume → Type 0) (v : Volume) (asked : Asked) (dir : ℕ) (name : List ℕ) → Answers clashes Such (make_directory v asked dir name)
unfolding make_directory
clashes-make_directory Such v asked dir name = passes_not clashes Such _ _ refl

clashes-make_file : (Such : Volume → Type 0) (v : Volume) (asked : Asked) (dir : ℕ) (name : List ℕ) → Answers clashes Such (make_file v asked dir name)
unfolding make_file
clashes-make_file Such v asked dir name = Answers-if (names_stream asked.path) _ _ (λ named. passes_not clashes Such _ _ refl) (λ unnamed. passes_not clashes Such _ _ refl)

clashes-create_missing : (Such : Volume → Type 0) (v : Volume) (asked : Asked) (dir : ℕ) (name : List ℕ) → Answers clashes Such (create_missing v asked dir name)
unfolding create_missing
clashes-create_missing Such v asked dir name =
    Answers-if (only_opens asked.disposition) _ _ (λ is. clashes-refused Such v _ refl)
    (λ isnt. Answers-if (deletes_on_close asked && has_any asked.attributes 0x1) _ _ (λ is. clashes-refused Such v _ refl)
    (λ isnt. Answers-if (not (grants v dir asked.client (parent_right asked))) _ _ (λ is. clashes-refused Such v _ refl)
    (λ isnt. Answers-if (wants_directory asked) _ _ (λ is. clashes-make_directory Such v asked dir name) (λ isnt. clashes-make_file Such v asked dir name))))

clashes-clashed : (v : Volume) (on : HandleSet) (key : ℕ) → IsTied v → Answers clashes (NoOtherKeeps (Some on) key) (clashed v on key)
unfolding clashed
clashes-clashed v on key tied =
    Answers-if (open_waits v on Clash key) _ _ (λ waiting. record { holds = tt })
    (λ goes. record { holds = λ passes. (on, refl, no_other-breaks has_handle v on Clash None key tied (λ level. (takes_handles level).0) goes) })

clashes-open_existing : (Such : Volume → Type 0) (v : Volume) (asked : Asked) (link : ℕ) (stream : Option ℕ) (on : HandleSet) → Answers clashes Such (open_existing v asked link stream on)
unfolding open_existing
clashes-open_existing Such v asked link stream on =
    Answers-if (not (wants_more asked)) _ _ (λ is. passes_not clashes Such _ _ refl)
    (λ isnt. Answers-if (not (open_waits v on ReadOpen asked.key)) _ _ (λ is. passes_not clashes Such _ _ refl)
    (λ isnt. Answers-if (completes_if_oplocked asked) _ _ (λ is. passes_not clashes Such _ _ refl) (λ isnt. record { holds = tt })))

clashes-overwrite_existing : (Such : Volume → Type 0) (v : Volume) (asked : Asked) (link file stream : ℕ) → Answers clashes Such (overwrite_existing v asked link file stream)
unfolding overwrite_existing
clashes-overwrite_existing Such v asked link file stream =
    Answers-if (open_waits v (set.Stream stream) Change asked.key) _ _ (λ is. record { holds = tt }) (λ isnt. passes_not clashes Such _ _ refl)

clashes-open_directory : (v : Volume) (asked : Asked) (link file : ℕ) → IsTied v → Answers clashes (NoOtherKeeps (Some (set.Link link)) asked.key) (open_directory v asked link file)
unfolding open_directory open_granted
clashes-open_directory v asked link file tied =
    Answers-if (not (grants v file asked.client (access_of asked))) _ _ (λ is. clashes-refused _ v _ refl)
    (λ isnt. Answers-if (deletes_on_close asked && (link == 0 || is_readonly v file)) _ _ (λ is. clashes-refused _ v _ refl)
    (λ isnt. Answers-if (clashes_on v (set.Link link) (access_of asked) asked.share) _ _ (λ is. clashes-clashed v (set.Link link) asked.key tied)
    (λ isnt. clashes-open_existing _ v asked link None (set.Link link))))

clashes-open_stream : (v : Volume) (asked : Asked) (link file stream : ℕ) → IsTied v → Answers clashes (NoOtherKeeps (Some (set.Stream stream)) asked.key) (open_stream v asked link file stream)
unfolding open_stream
clashes-open_stream v asked link file stream tied =
    Answers-if (clashes_on v (set.Stream stream) (access_of asked) asked.share) _ _ (λ is. clashes-clashed v (set.Stream stream) asked.key tied)
    (λ isnt. Answers-if (overwrites asked.disposition) _ _ (λ is. clashes-overwrite_existing _ v asked link file stream)
    (λ isnt. clashes-open_existing _ v asked link (Some stream) (set.Stream stream)))

clashes-create_on_stream : (v : Volume) (asked : Asked) (link file stream : ℕ) → IsTied v
    → Answers clashes (NoOtherKeeps (Some (set.Stream stream)) asked.key) (create_on_stream v asked link file stream)
unfolding create_on_stream
clashes-create_on_stream v asked link file stream tied =
    Answers-if (names_stream asked.path && is_marked v stream) _ _ (λ is. clashes-refused _ v _ refl)
    (λ isnt. Answers-if (names_stream asked.path && only_makes asked.disposition) _ _ (λ is. clashes-refused _ v _ refl)
    (λ isnt. Answers-if (not (grants v file asked.client (bit_or (access_of asked) (replacing_right asked.disposition)))) _ _ (λ is. clashes-refused _ v _ refl)
    (λ isnt. Answers-if (is_readonly v file && (has_any (access_of asked) 0x6 || overwrites asked.disposition)) _ _ (λ is. clashes-refused _ v _ refl)
    (λ isnt. Answers-if (is_readonly v file && deletes_on_close asked) _ _ (λ is. clashes-refused _ v _ refl)
    (λ isnt. Answers-if (overwrites asked.disposition && uncovers (attributes_of v file) asked.attributes) _ _ (λ is. clashes-refused _ v _ refl)
    (λ isnt. clashes-open_stream v asked link file stream tied))))))

clashes-create_stream : (Such : Volume → Type 0) (v : Volume) (asked : Asked) (link file : ℕ) → Answers clashes Such (create_stream v asked link file)
unfolding create_stream
clashes-create_stream Such v asked link file =
    Answers-if (only_opens asked.disposition) _ _ (λ is. clashes-refused Such v _ refl)
    (λ isnt. Answers-if (not (grants v file asked.client (bit_or (access_of asked) 0x2))) _ _ (λ is. clashes-refused Such v _ refl)
    (λ isnt. Answers-if (is_readonly v file) _ _ (λ is. clashes-refused Such v _ refl) (λ isnt. passes_not clashes Such _ _ refl)))

clashes-create_in_file : (v : Volume) (asked : Asked) (link file : ℕ) → IsTied v
    → Answers clashes (NoOtherKeeps (option_map (λ stream. set.Stream stream) (stream_of v file (stream_name asked.path))) asked.key) (create_in_file v asked link file)
unfolding create_in_file
clashes-create_in_file v asked link file tied = elim (option_cases (stream_of v file (stream_name asked.path))) [
  | inl none ↦ rw none (clashes-create_stream _ v asked link file)
  | inr some ↦ rw some.1 (clashes-create_on_stream v asked link file some.0 tied)
]

clashes-create_there : (v : Volume) (asked : Asked) (link file : ℕ) → IsTied v
    → Answers clashes (NoOtherKeeps (set_of_file v asked.path link file) asked.key) (create_there v asked link file)
unfolding create_there
clashes-create_there v asked link file tied =
    Answers-if (only_makes asked.disposition && not (names_stream asked.path)) _ _ (λ is. clashes-refused _ v _ refl)
    (λ isnt. Answers-if (is_other_kind asked (is_directory v.files file)) _ _ (λ is. clashes-refused _ v _ refl)
    (λ isnt. Answers-if (is_directory v.files file && asks_for_file asked) _ _ (λ is. clashes-refused _ v _ refl)
    (λ isnt. Answers-if (is_directory v.files file) _ _
    (λ is. rw is (clashes-open_directory v asked link file tied)) (λ isnt. rw isnt (clashes-create_in_file v asked link file tied)))))

clashes-create_found : (v : Volume) (asked : Asked) (link file : ℕ) → IsTied v
    → Answers clashes (NoOtherKeeps (set_of_file v asked.path link file) asked.key) (create_found v asked link file)
unfolding create_found
clashes-create_found v asked link file tied =
    Answers-if (is_some (point_of v file) && not (opens_point asked)) _ _ (λ is. clashes-stopped _ v file []) (λ isnt. clashes-create_there v asked link file tied)

clashes-create_by_link : (v : Volume) (asked : Asked) (link : ℕ) → IsTied v
    → Answers clashes (NoOtherKeeps (set_of_link v asked.path link) asked.key) (create_by_link v asked link)
unfolding create_by_link
clashes-create_by_link v asked link tied = elim (option_cases (row_of v.links link)) [
  | inl none ↦ rw none (clashes-refused _ v _ refl)
  | inr some ↦ rw some.1 (Answers-if some.0.deleted _ _ (λ is. clashes-refused _ v _ refl) (λ isnt. clashes-create_found v asked link some.0.file tied))
]

clashes-create_named : (v : Volume) (asked : Asked) (dir : ℕ) (name : List ℕ) → IsTied v
    → Answers clashes (NoOtherKeeps (option_and_then (set_of_link v asked.path) (child_of v dir name)) asked.key) (create_named v asked dir name)
unfolding create_named
clashes-create_named v asked dir name tied = elim (option_cases (child_of v dir name)) [
  | inl none ↦ rw none (clashes-create_missing _ v asked dir name)
  | inr some ↦ rw some.1 (clashes-create_by_link v asked some.0 tied)
]

clashes-create_walked : (v : Volume) (asked : Asked) (walked : Walked) → IsTied v → BarsWithout is_clash walked
    → Answers clashes (NoOtherKeeps (set_walked v asked.path walked) asked.key) (create_walked v asked walked)
unfolding create_walked
clashes-create_walked v asked (Reached dir) tied free = elim (cases_Bool (length (components asked.path) == 0)) [
  | inl at_root ↦ rw at_root (clashes-create_found v asked 0 1 tied)
  | inr below ↦ rw below (clashes-create_named v asked dir (last_name (components asked.path)) tied)
]
clashes-create_walked v asked (Barred why) tied free = clashes-refused _ v why free
clashes-create_walked v asked (Diverted file next) tied free = clashes-stopped _ v file (rest_of asked.path next)

clashes-create : (v : Volume) (asked : Asked) → IsTied v → Answers clashes (NoOtherKeeps (set_of_path v asked.path) asked.key) (try_create v asked)
unfolding try_create create_at
clashes-create v asked tied =
    Answers-if (is_invalid asked) _ _ (λ is. clashes-refused _ v _ refl)
    (λ isnt. Answers-if (wants_no_right asked) _ _ (λ is. clashes-refused _ v _ refl)
    (λ isnt. Answers-if (lacks_delete asked) _ _ (λ is. clashes-refused _ v _ refl)
    (λ isnt. Answers-if (is_some (path_fault asked.path)) _ _ (λ is. clashes-refused _ v _ refl)
    (λ isnt. Answers-if (has_stream_part asked.path && wants_directory asked) _ _ (λ is. clashes-refused _ v _ refl)
    (λ isnt. clashes-create_walked v asked (walk v (components asked.path)) tied (walk-fails is_clash refl refl v (components asked.path) 1 0))))))

-- an open ends SHARING_VIOLATION only where no handle of another key on what it names has handle caching
pub create-coherent : (v : Volume) (asked : Asked) → IsTied v → Where (λ reply. is_clash reply.status) (NoOtherKeeps (set_of_path v asked.path) asked.key) (try_create v asked)
create-coherent v asked tied = (clashes-create v asked tied).holds
