-- A volume stays sound as locks, oplocks, watches and pending calls come and go, as enumerations go on, and
-- as the clock does.
use Rattle.std.proofs.Common.{◌≡◌, ℕ, ◌+◌, ◌^◌, ◌<◌, ◌≤◌, Bool, true, false, not, List, [], ◌∷◌, ◌++◌, length, get_or, refl, ap, ◌∙◌, arith, Some, inl, inr}
use Rattle.std.specs.List.{All, find}
use Rattle.std.specs.Prelude.{◌==◌, map, option_map}
use Rattle.std.proofs.lemmas.Bool.{cases_Bool}
use Rattle.std.proofs.lemmas.List.Elements.{All-push, All-map, All-filter}
use Rattle.std.proofs.lemmas.List.Quantifiers.{all_pairs_push}
use Rattle.std.proofs.Math.ListN.{set, length-set}
use Rattle.fsa_types.proofs.OplockLemmas.{AreOplocks-filter}
use Rattle.fsa_types.specs.OplockLists.{AreOplocks}
use Rattle.fsa_types.specs.Rows.{lives, with_row_changed, IsNumbered}
use Rattle.fsa_types.specs.declared.reply.Blocker.{Blocker}
use Rattle.fsa_types.specs.declared.reply.Blocker.TheVariants.{Break, Lock as LockOf}
use Rattle.fsa_types.specs.declared.request.Call.{Call}
use Rattle.fsa_model.specs.Edits.{is_call, is_lock_on, with_lock, without_lock, without_oplock, with_watch, with_limit, with_ticks, with_pending, with_blockers, with_left, with_cursor}
use Rattle.fsa_model.specs.Lookups.{number_of, is_opened_by}
use Rattle.fsa_model.specs.Sound.{ArePending, IsGiven, IsSound, has_its_key, is_of_living, has_its_stream}
use Rattle.fsa_model.specs.Volume.{Cursor, Handle, Lock, Oplock, Pending, Watch, Volume}
use Rattle.fsa_model.proofs.RowLaws.{AllPairs-map, any-map, any-same, change_at, change_at-same, change_at-number, find-map, find-same, IsNumbered-change, IsNumbered-push, IsNumbered-filter, option_cases}

-- ---- what blocks calls

-- numbers that were given are so once more are given
IsGiven-later : (lock lock' break break' : ℕ) (blocker : Blocker) → lock ≤ lock' → break ≤ break' → IsGiven lock break blocker → IsGiven lock' break' blocker
IsGiven-later lock lock' break break' (Break number) locks breaks given = omega arith
IsGiven-later lock lock' break break' (LockOf number) locks breaks given = omega arith

pub blockers-later : (pending : List (ℕ × Pending)) (lock lock' break break' : ℕ) → lock ≤ lock' → break ≤ break'
    → All (λ entry. All (IsGiven lock break) entry.1.blockers) pending → All (λ entry. All (IsGiven lock' break') entry.1.blockers) pending
blockers-later pending lock lock' break break' locks breaks given k d within j e inside =
    IsGiven-later lock lock' break break' (get_or (get_or pending k d).1.blockers j e) locks breaks (given k d within j e inside)

-- ---- oplocks and pending calls

-- one volume, with the parts of another that breaks change
abbrev pub touched : Volume → Volume → Volume
touched v w = record v { oplocks = w.oplocks; pending = w.pending; ended = w.ended; last_break = w.last_break }

-- a volume stays sound with other sound oplocks of living handles and other pending calls of clients
pub IsSound-touched : (v w : Volume) → IsSound v → ArePending v.clients w.pending → All (λ entry. All (IsGiven v.last_lock w.last_break) entry.1.blockers) w.pending
    → All (λ oplock. has_its_key v.handles oplock ≡ true) w.oplocks → AreOplocks w.oplocks w.last_break → w.last_break < 2 ^ 64 → IsSound (touched v w)
IsSound-touched v w sound pending given keys are below = record {
  tree = sound.tree;
  opens = sound.opens;
  pending = pending;
  clients = sound.clients;
  of_handles = record {
    locks_live = sound.of_handles.locks_live;
    oplocks_have_keys = keys;
    watches_live = sound.of_handles.watches_live;
    watches_differ = sound.of_handles.watches_differ;
  };
  files_numbered = sound.files_numbered;
  links_numbered = sound.links_numbered;
  streams_numbered = sound.streams_numbered;
  handles_numbered = sound.handles_numbered;
  locks_numbered = sound.locks_numbered;
  oplocks = are;
  blockers_given = given;
  streams_fit = sound.streams_fit;
  points_fit = sound.points_fit;
  bounded = record { files = sound.bounded.files; links = sound.bounded.links; streams = sound.bounded.streams; handles = sound.bounded.handles; clock = sound.bounded.clock; locks = sound.bounded.locks; breaks = below };
}

pub IsSound-without_oplock : (v : Volume) (handle : ℕ) → IsSound v → IsSound (without_oplock v handle)
IsSound-without_oplock v handle sound =
    IsSound-touched v (without_oplock v handle) sound sound.pending sound.blockers_given
    (All-filter (λ (o : Oplock). not (o.handle == handle)) (λ o. has_its_key v.handles o ≡ true) v.oplocks sound.of_handles.oplocks_have_keys)
    (AreOplocks-filter (λ (o : Oplock). not (o.handle == handle)) v.oplocks v.last_break sound.oplocks) sound.bounded.breaks

-- a call of a client becomes pending, whose number and turn no other has, and what blocks it was given
pub IsSound-with_pending : (v : Volume) (turn : ℕ) (call : Call) (blockers : List Blocker) → IsSound v → call.client < length v.clients
    → All (λ entry. is_call call.client call.number entry.1 ≡ false) v.pending → All (λ entry. (entry.0 == turn) ≡ false) v.pending
    → All (IsGiven v.last_lock v.last_break) blockers → IsSound (with_pending v turn call blockers)
IsSound-with_pending v turn call blockers sound client new_call new_turn given =
    let row : ℕ × Pending = (turn, record { call = call; blockers = blockers }) in
    IsSound-touched v (with_pending v turn call blockers) sound
    (record {
      differ = all_pairs_push (λ a b. is_call b.1.call.client b.1.call.number a.1 ≡ false) v.pending row sound.pending.differ new_call;
      turns_differ = all_pairs_push (λ a b. (a.0 == b.0) ≡ false) v.pending row sound.pending.turns_differ new_turn;
      have_clients = All-push (λ entry. entry.1.call.client < length v.clients) v.pending row sound.pending.have_clients client;
    })
    (All-push (λ entry. All (IsGiven v.last_lock v.last_break) entry.1.blockers) v.pending row sound.blockers_given given)
    sound.of_handles.oplocks_have_keys sound.oplocks sound.bounded.breaks

-- a pending call waits for other blockers, whose numbers were given
pub IsSound-with_blockers : (v : Volume) (turn : ℕ) (blockers : List Blocker) → IsSound v → All (IsGiven v.last_lock v.last_break) blockers → IsSound (with_blockers v turn blockers)
IsSound-with_blockers v turn blockers sound given =
    let change : Pending → Pending = λ row. record row { blockers = blockers } in
    let at : ℕ × Pending → ℕ × Pending = change_at change turn in
    let call_of : (e : ℕ × Pending) → (at e).1.call ≡ e.1.call = change_at-same change turn (λ row. row.call) (λ row. refl) in
    IsSound-touched v (with_blockers v turn blockers) sound
    (record {
      differ = AllPairs-map (λ a b. is_call b.1.call.client b.1.call.number a.1 ≡ false) at v.pending
          (λ i j d below within. rw (call_of (get_or v.pending i d), call_of (get_or v.pending j d)) (sound.pending.differ i j d below within));
      turns_differ = AllPairs-map (λ a b. (a.0 == b.0) ≡ false) at v.pending
          (λ i j d below within. rw (change_at-number change turn (get_or v.pending i d), change_at-number change turn (get_or v.pending j d)) (sound.pending.turns_differ i j d below within));
      have_clients = All-map (λ entry. entry.1.call.client < length v.clients) at v.pending
          (λ k d within. rw (call_of (get_or v.pending k d)) (sound.pending.have_clients k d within));
    })
    (All-map (λ entry. All (IsGiven v.last_lock v.last_break) entry.1.blockers) at v.pending
    (λ k d within. elim (cases_Bool ((get_or v.pending k d).0 == turn)) [
      | inl here ↦ rw here given
      | inr other ↦ rw other (sound.blockers_given k d within)
    ]))
    sound.of_handles.oplocks_have_keys sound.oplocks sound.bounded.breaks

-- ---- locks

-- other numbered locks, each of a living handle; the last number that was given is no less than it was
with_locks : (v : Volume) (locks : List (ℕ × Lock)) (last : ℕ) → IsSound v → All (λ entry. lives v.handles entry.1.handle ≡ true) locks → IsNumbered locks last
    → v.last_lock ≤ last → last < 2 ^ 64 → IsSound (record v { locks = locks; last_lock = last })
with_locks v locks last sound live numbered later fits = record {
  tree = sound.tree;
  opens = sound.opens;
  pending = sound.pending;
  clients = sound.clients;
  of_handles = record {
    locks_live = live;
    oplocks_have_keys = sound.of_handles.oplocks_have_keys;
    watches_live = sound.of_handles.watches_live;
    watches_differ = sound.of_handles.watches_differ;
  };
  files_numbered = sound.files_numbered;
  links_numbered = sound.links_numbered;
  streams_numbered = sound.streams_numbered;
  handles_numbered = sound.handles_numbered;
  locks_numbered = numbered;
  oplocks = sound.oplocks;
  blockers_given = blockers-later v.pending v.last_lock last v.last_break v.last_break later (omega arith) sound.blockers_given;
  streams_fit = sound.streams_fit;
  points_fit = sound.points_fit;
  bounded = record { files = sound.bounded.files; links = sound.bounded.links; streams = sound.bounded.streams; handles = sound.bounded.handles; clock = sound.bounded.clock; locks = fits; breaks = sound.bounded.breaks };
}

pub IsSound-with_lock : (v : Volume) (handle at count : ℕ) (exclusive : Bool) → IsSound v → lives v.handles handle ≡ true → v.last_lock + 1 < 2 ^ 64
    → IsSound (with_lock v handle at count exclusive)
IsSound-with_lock v handle at count exclusive sound living fits =
    let lock : Lock = record { handle = handle; at = at; count = count; exclusive = exclusive } in
    with_locks v (v.locks ++ (v.last_lock + 1, lock) ∷ []) (v.last_lock + 1) sound
    (All-push (λ entry. lives v.handles entry.1.handle ≡ true) v.locks (v.last_lock + 1, lock) sound.of_handles.locks_live living)
    (IsNumbered-push v.locks v.last_lock lock sound.locks_numbered) (omega arith) fits

pub IsSound-without_lock : (v : Volume) (handle at count : ℕ) → IsSound v → IsSound (without_lock v handle at count)
IsSound-without_lock v handle at count sound =
    elim (option_cases (number_of (is_lock_on handle at count) v.locks)) [
      | inl none ↦ rw none (with_locks v v.locks v.last_lock sound sound.of_handles.locks_live sound.locks_numbered (omega arith) sound.bounded.locks)
      | inr some ↦ rw some.1 (
          with_locks v _ v.last_lock sound (All-filter (λ entry. not (entry.0 == some.0)) (λ entry. lives v.handles entry.1.handle ≡ true) v.locks sound.of_handles.locks_live)
          (IsNumbered-filter (λ entry. not (entry.0 == some.0)) v.locks v.last_lock sound.locks_numbered) (omega arith) sound.bounded.locks)
    ]

-- ---- enumerations

-- an oplock has its handle's key also where something else of a handle is changed
has_its_key-changed : (handles : List (ℕ × Handle)) (change : Handle → Handle) (handle : ℕ) (oplock : Oplock) → ((row : Handle) → (change row).key ≡ row.key)
    → has_its_key (with_row_changed change handles handle) oplock ≡ has_its_key handles oplock
has_its_key-changed handles change handle oplock same =
    let at : ℕ × Handle → ℕ × Handle = change_at change handle in
    let found : find (λ e. e.0 == oplock.handle) (map at handles) ≡ option_map at (find (λ e. e.0 == oplock.handle) handles)
    = find-map (λ e. e.0 == oplock.handle) at handles
    ∙ ap (λ o. option_map at o) (find-same (λ e. (at e).0 == oplock.handle) (λ e. e.0 == oplock.handle) handles (λ e. rw (change_at-number change handle e) refl)) in
    elim (option_cases (find (λ e. e.0 == oplock.handle) handles)) [
      | inl none ↦ rw (found, none) refl
      | inr some ↦ rw (found, some.1) (ap (λ key. key == oplock.key) (change_at-same change handle (λ row. row.key) same some.0))
    ]

-- how far a handle's directory is enumerated
pub IsSound-with_cursor : (v : Volume) (handle : ℕ) (expression : List ℕ) (cursor : Cursor) → IsSound v → IsSound (with_cursor v handle expression cursor)
IsSound-with_cursor v handle expression cursor sound =
    let change : Handle → Handle = λ row. record row { enumeration = Some (expression, cursor) } in
    let at : ℕ × Handle → ℕ × Handle = change_at change handle in
    let client_of : (e : ℕ × Handle) → (at e).1.client ≡ e.1.client = change_at-same change handle (λ row. row.client) (λ row. refl) in
    let number_of : (e : ℕ × Handle) → (at e).1.number ≡ e.1.number = change_at-same change handle (λ row. row.number) (λ row. refl) in
    let as_many : (id : ℕ) → lives (with_row_changed change v.handles handle) id ≡ lives v.handles id
    = λ id. any-map (λ e. e.0 == id) at v.handles ∙ any-same (λ e. (at e).0 == id) (λ e. e.0 == id) v.handles (λ e. rw (change_at-number change handle e) refl) in
    record {
      tree = sound.tree;
      opens = record {
        are_of_living = All-map (λ entry. is_of_living v.links v.streams entry.1 ≡ true) at v.handles
            (λ k d within. change_at-same change handle (λ row. is_of_living v.links v.streams row) (λ row. refl) (get_or v.handles k d) ∙ sound.opens.are_of_living k d within);
        have_streams = All-map (λ entry. has_its_stream v.files v.links entry.1 ≡ true) at v.handles
            (λ k d within. change_at-same change handle (λ row. has_its_stream v.files v.links row) (λ row. refl) (get_or v.handles k d) ∙ sound.opens.have_streams k d within);
        differ = AllPairs-map (λ a b. is_opened_by b.1.client b.1.number a.1 ≡ false) at v.handles
            (λ i j d below within. rw (client_of (get_or v.handles j d), number_of (get_or v.handles j d), client_of (get_or v.handles i d), number_of (get_or v.handles i d))
            (sound.opens.differ i j d below within));
        have_clients = All-map (λ entry. entry.1.client < length v.clients) at v.handles (λ k d within. rw (client_of (get_or v.handles k d)) (sound.opens.have_clients k d within));
      };
      pending = sound.pending;
      clients = sound.clients;
      of_handles = record {
        locks_live = λ k d within. as_many _ ∙ sound.of_handles.locks_live k d within;
        oplocks_have_keys = λ k d within. has_its_key-changed v.handles change handle (get_or v.oplocks k d) (λ row. refl) ∙ sound.of_handles.oplocks_have_keys k d within;
        watches_live = λ k d within. as_many _ ∙ sound.of_handles.watches_live k d within;
        watches_differ = sound.of_handles.watches_differ;
      };
      files_numbered = sound.files_numbered;
      links_numbered = sound.links_numbered;
      streams_numbered = sound.streams_numbered;
      handles_numbered = IsNumbered-change change v.handles v.last_handle handle sound.handles_numbered;
      locks_numbered = sound.locks_numbered;
      oplocks = sound.oplocks;
      blockers_given = sound.blockers_given;
      streams_fit = sound.streams_fit;
      points_fit = sound.points_fit;
      bounded = record { files = sound.bounded.files; links = sound.bounded.links; streams = sound.bounded.streams; handles = sound.bounded.handles; clock = sound.bounded.clock; locks = sound.bounded.locks; breaks = sound.bounded.breaks };
    }

-- ---- watches, limits and the clock

-- a watch of a living handle that has none
pub IsSound-with_watch : (v : Volume) (handle wants : ℕ) (tree : Bool) (from : ℕ) → IsSound v → lives v.handles handle ≡ true
    → All (λ watch. (watch.handle == handle) ≡ false) v.watches → IsSound (with_watch v handle wants tree from)
IsSound-with_watch v handle wants tree from sound living first =
    let watch : Watch = record { handle = handle; filter = wants; tree = tree; from = from } in
    record {
      tree = sound.tree;
      opens = sound.opens;
      pending = sound.pending;
      clients = sound.clients;
      of_handles = record {
        locks_live = sound.of_handles.locks_live;
        oplocks_have_keys = sound.of_handles.oplocks_have_keys;
        watches_live = All-push (λ w. lives v.handles w.handle ≡ true) v.watches watch sound.of_handles.watches_live living;
        watches_differ = all_pairs_push (λ a b. (a.handle == b.handle) ≡ false) v.watches watch sound.of_handles.watches_differ first;
      };
      files_numbered = sound.files_numbered;
      links_numbered = sound.links_numbered;
      streams_numbered = sound.streams_numbered;
      handles_numbered = sound.handles_numbered;
      locks_numbered = sound.locks_numbered;
      oplocks = sound.oplocks;
      blockers_given = sound.blockers_given;
      streams_fit = sound.streams_fit;
      points_fit = sound.points_fit;
      bounded = record { files = sound.bounded.files; links = sound.bounded.links; streams = sound.bounded.streams; handles = sound.bounded.handles; clock = sound.bounded.clock; locks = sound.bounded.locks; breaks = sound.bounded.breaks };
    }

-- the parts of which soundness says nothing
abbrev pub aside : Volume → Volume → Volume
aside v w = record v { ended = w.ended; changes = w.changes; limits = w.limits }

pub IsSound-aside : (v w : Volume) → IsSound v → IsSound (aside v w)
IsSound-aside v w sound = record {
  tree = sound.tree;
  opens = sound.opens;
  pending = sound.pending;
  clients = sound.clients;
  of_handles = sound.of_handles;
  files_numbered = sound.files_numbered;
  links_numbered = sound.links_numbered;
  streams_numbered = sound.streams_numbered;
  handles_numbered = sound.handles_numbered;
  locks_numbered = sound.locks_numbered;
  oplocks = sound.oplocks;
  blockers_given = sound.blockers_given;
  streams_fit = sound.streams_fit;
  points_fit = sound.points_fit;
  bounded = record { files = sound.bounded.files; links = sound.bounded.links; streams = sound.bounded.streams; handles = sound.bounded.handles; clock = sound.bounded.clock; locks = sound.bounded.locks; breaks = sound.bounded.breaks };
}

pub IsSound-with_limit : (v : Volume) (sid limit : ℕ) → IsSound v → IsSound (with_limit v sid limit)
IsSound-with_limit v sid limit sound = IsSound-aside v (with_limit v sid limit) sound

-- other times, and other clients that have left
IsSound-at : (v : Volume) (clock : ℕ) (left : List Bool) → IsSound v → clock < 2 ^ 64 → length left ≡ length v.clients → IsSound (record v { clock = clock; left = left })
IsSound-at v clock left sound fits as_many = record {
  tree = sound.tree;
  opens = sound.opens;
  pending = sound.pending;
  clients = record { have_sids = sound.clients.have_sids; may_leave = as_many };
  of_handles = sound.of_handles;
  files_numbered = sound.files_numbered;
  links_numbered = sound.links_numbered;
  streams_numbered = sound.streams_numbered;
  handles_numbered = sound.handles_numbered;
  locks_numbered = sound.locks_numbered;
  oplocks = sound.oplocks;
  blockers_given = sound.blockers_given;
  streams_fit = sound.streams_fit;
  points_fit = sound.points_fit;
  bounded = record { files = sound.bounded.files; links = sound.bounded.links; streams = sound.bounded.streams; handles = sound.bounded.handles; clock = fits; locks = sound.bounded.locks; breaks = sound.bounded.breaks };
}

pub IsSound-with_ticks : (v : Volume) (ticks : ℕ) → IsSound v → v.clock + ticks < 2 ^ 64 → IsSound (with_ticks v ticks)
IsSound-with_ticks v ticks sound fits = IsSound-at v (v.clock + ticks) v.left sound fits sound.clients.may_leave

pub IsSound-with_left : (v : Volume) (client : ℕ) → IsSound v → IsSound (with_left v client)
IsSound-with_left v client sound = IsSound-at v v.clock (set v.left client true) sound sound.bounded.clock (length-set v.left client true ∙ sound.clients.may_leave)
