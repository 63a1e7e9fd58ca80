-- An open keeps what every try keeps.
use Rattle.std.proofs.Common.{◌≡◌, ℕ, ◌+◌, ◌≤◌, Bool, true, false, not, List, [], length, refl, ap, subst, arith, inl, Option, Some, None}
use Rattle.std.specs.List.{list_any}
use Rattle.std.specs.Prelude.{◌==◌, ◌||◌, ◌&&◌, IsTrue, is_some, if◌then◌else◌}
use Rattle.std.specs.Int.RustNames.{bit_or}
use Rattle.std.proofs.lemmas.List.Elements.{All-push}
use Rattle.fsa_types.specs.Access.{has_any}
use Rattle.fsa_types.specs.Paths.{path_fault, components, rest_of}
use Rattle.fsa_types.specs.Rows.{row_of}
use Rattle.fsa_types.specs.declared.oplock.Class.TheVariants.{Clash, Change, ReadOpen}
use Rattle.fsa_types.specs.declared.oplock.HandleSet.{HandleSet}
use Rattle.fsa_types.specs.declared.oplock.HandleSet.TheVariants as set
use Rattle.fsa_types.specs.declared.reply.Action.{Action}
use Rattle.fsa_types.specs.declared.reply.Action.TheVariants as action
use Rattle.fsa_types.specs.declared.request.Call.{Call}
use Rattle.fsa_types.specs.declared.request.Request.TheVariants.{Create}
use Rattle.fsa_types.specs.declared.request.What.TheVariants.{Ask}
use Rattle.fsa_types.specs.declared.status.Status.{Status}
use Rattle.fsa_types.specs.declared.status.Status.TheVariants as status
use Rattle.fsa_model.specs.Breaks.{with_breaks}
use Rattle.fsa_model.specs.Edits.{is_call, with_file, with_stream, with_handle, with_length}
use Rattle.fsa_model.specs.Frame.{is_failure, PointsFit, KeepsFrame}
use Rattle.fsa_model.specs.Lookups.{child_of, stream_of, is_directory, clashes_on, attributes_of, is_marked}
use Rattle.fsa_model.specs.Open.{Asked, wants_directory, deletes_on_close, opens_point, overwrites, only_opens, only_makes, access_of, completes_if_oplocked, is_invalid, wants_no_right, lacks_delete, has_stream_part, stream_name, names_stream, grants, is_readonly, uncovers, with_open, opens, opened, open_waits, with_directory_made, with_file_made, make_directory, make_file, parent_right, create_missing, clashed, wants_more, open_existing, with_overwrite_noted, with_overwritten, overwrite_action, overwrite_existing, open_granted, open_directory, replacing_right, open_stream, create_on_stream, create_stream, create_in_file, is_other_kind, asks_for_file, create_there, create_found, create_by_link, create_named, create_walked, create_at, try_create}
use Rattle.fsa_model.specs.Outcome.{refused}
use Rattle.fsa_model.specs.Sound.{PointFits}
use Rattle.fsa_model.specs.Volume.{File, Handle, Pending, Volume}
use Rattle.fsa_model.specs.Walk.{Walked, Reached, Barred, Diverted, point_of, walk, last_name}
use Rattle.fsa_model.proofs.FrameLaws.{EndsPending-equal}
use Rattle.fsa_model.proofs.ObeyLaws.{Calm, Calm-basic, Calm-next, Calm-noted, Calm-tree, CanBeHeld, Gains, Gains-next, Obeys, Obeys-after_breaks, Obeys-breaks, Obeys-held_by, Obeys-if, Obeys-gains, Obeys-option, Obeys-refused}
use Rattle.fsa_model.proofs.ObeyPaths.{BarsPlainly, length-rest_of, stopped-obeys, walk_from-plain}
use Rattle.fsa_model.proofs.PendLaws.{HandlesStay-next, HandlesStay-opened, HandlesStay-same}
use Rattle.fsa_model.proofs.TryLaws.{Leaves-same_waits, Watches-equal}

-- the call of an open
abbrev pub call_of : Asked → Call
call_of asked = record {
  client = asked.client;
  number = asked.number;
  what = Ask (Create asked.path asked.wanted asked.share asked.disposition asked.options asked.attributes asked.key);
}

-- which breaks can hold, and which never stays
can_be_held : (asked : Asked) → CanBeHeld (call_of asked)
can_be_held asked = record { never = λ u w so. so; held = refl }

-- ---- how an open ends

-- a handle more, with what was made for it
record Makes (v w : Volume) : Type 0 where
  table : w.table ≡ v.table
  clients : w.clients ≡ v.clients
  left : w.left ≡ v.left
  clock : w.clock ≡ v.clock
  handles : w.handles ≡ v.handles
  locks : w.locks ≡ v.locks
  pending : w.pending ≡ v.pending
  ended : w.ended ≡ v.ended
  oplocks : w.oplocks ≡ v.oplocks
  last_break : w.last_break ≡ v.last_break
  changes : w.changes ≡ v.changes
  watches : w.watches ≡ v.watches
  files : w.last_file ≤ v.last_file + 1
  links : w.last_link ≤ v.last_link + 1
  streams : w.last_stream ≤ v.last_stream + 2
  last_handle : w.last_handle ≡ v.last_handle
  last_lock : w.last_lock ≡ v.last_lock
  points : PointsFit v → PointsFit w

Makes-none : (v : Volume) → Makes v v
Makes-none v = record {
  table = refl;
  clients = refl;
  left = refl;
  clock = refl;
  handles = refl;
  locks = refl;
  pending = refl;
  ended = refl;
  oplocks = refl;
  last_break = refl;
  changes = refl;
  watches = refl;
  files = omega arith;
  links = omega arith;
  streams = omega arith;
  last_handle = refl;
  last_lock = refl;
  points = λ fit. fit;
}

-- a file more, and then a link and two streams at most
Makes-file : (v : Volume) (file : File) (w : Volume) → PointFits file → w ≡ record (with_file v file) { links = w.links; last_link = w.last_link; streams = w.streams; last_stream = w.last_stream }
    → w.last_link ≤ v.last_link + 1 → w.last_stream ≤ v.last_stream + 2 → Makes v w
Makes-file v file w fits same links streams = record {
  table = ap (λ (u : Volume). u.table) same;
  clients = ap (λ (u : Volume). u.clients) same;
  left = ap (λ (u : Volume). u.left) same;
  clock = ap (λ (u : Volume). u.clock) same;
  handles = ap (λ (u : Volume). u.handles) same;
  locks = ap (λ (u : Volume). u.locks) same;
  pending = ap (λ (u : Volume). u.pending) same;
  ended = ap (λ (u : Volume). u.ended) same;
  oplocks = ap (λ (u : Volume). u.oplocks) same;
  last_break = ap (λ (u : Volume). u.last_break) same;
  changes = ap (λ (u : Volume). u.changes) same;
  watches = ap (λ (u : Volume). u.watches) same;
  files = let is = ap (λ (u : Volume). u.last_file) same in omega arith;
  links = links;
  streams = streams;
  last_handle = ap (λ (u : Volume). u.last_handle) same;
  last_lock = ap (λ (u : Volume). u.last_lock) same;
  points = λ fit. rw same (All-push (λ (entry : ℕ × File). PointFits entry.1) v.files (v.last_file + 1, file) fit fits);
}

KeepsFrame-handle : (v w : Volume) (asked : Asked) (handle : Handle) → handle.client ≡ asked.client → handle.number ≡ asked.number → Makes v w → KeepsFrame (call_of asked) v (with_handle w handle)
KeepsFrame-handle v w asked handle client number makes = record {
  table = makes.table;
  clients = makes.clients;
  left = inl makes.left;
  clock = inl makes.clock;
  handles = λ test all own.
      All-push (λ (entry : ℕ × Handle). IsTrue (test entry)) w.handles (w.last_handle + 1, handle) (rw makes.handles all) (rw makes.last_handle (own handle refl client number));
  locks = λ test all own. rw makes.locks all;
  numbers = record {
    files = makes.files;
    links = makes.links;
    streams = makes.streams;
    handles = let same = makes.last_handle in omega arith;
    locks = let same = makes.last_lock in omega arith;
    handles_of_creates = λ other. cc;
    locks_of_locks = λ other. makes.last_lock;
  };
  pending = λ client_of_other number_of_other is. subst (λ (rows : List (ℕ × Pending)). list_any (λ (entry : ℕ × Pending). is_call client_of_other number_of_other entry.1) rows ≡ true) makes.pending is;
  ended = EndsPending-equal makes.ended;
  points = λ fits fit. makes.points fit;
}

-- it ends in a success, in a volume with one handle more and what was made for it
Gains-made : (v w : Volume) (asked : Asked) (link : ℕ) (stream : Option ℕ) → Makes v w → Gains (call_of asked) v (with_open w asked link stream)
Gains-made v w asked link stream makes = record {
  leaves = Leaves-same_waits v (with_open w asked link stream) (record {
    oplocks = makes.oplocks;
    locks = makes.locks;
    pending = makes.pending;
    ended = makes.ended;
    last_break = makes.last_break;
    last_lock = makes.last_lock;
    seen = Watches-equal makes.changes makes.watches;
    stay = HandlesStay-next (HandlesStay-same makes.handles makes.last_handle) (HandlesStay-opened {v = w} _ refl refl);
  });
  few = record { files = makes.files; links = makes.links; streams = makes.streams; handles = (let same = makes.last_handle in omega arith); locks = (let same = makes.last_lock in omega arith) };
  keeps = KeepsFrame-handle v w asked _ refl refl makes;
  ended = makes.ended;
  watches = makes.watches;
}

opens-obeys : (v : Volume) (asked : Asked) (w : Volume) (why : Status) (done : Action) → Gains (call_of asked) v w → is_failure why ≡ false → Obeys (call_of asked) v (opens w why done)
opens-obeys v asked w why done gains success = Obeys-gains (call_of asked) v w _ (can_be_held asked) gains (record { bytes = omega arith; units = omega arith }) success

opened-obeys : (v : Volume) (asked : Asked) (link : ℕ) (stream : Option ℕ) (why : Status) (done : Action) → is_failure why ≡ false → Obeys (call_of asked) v (opened v asked link stream why done)
opened-obeys v asked link stream why done success = opens-obeys v asked _ why done (Gains-made v v asked link stream (Makes-none v)) success

-- ---- the last name is missing

make_directory-obeys : (v : Volume) (asked : Asked) (dir : ℕ) (name : List ℕ) → Obeys (call_of asked) v (make_directory v asked dir name)
unfolding make_directory
make_directory-obeys v asked dir name =
    let made : Volume = with_directory_made v asked dir name in
    opens-obeys v asked _ status.Success action.Created
    (Gains-next (Gains-made v made asked (v.last_link + 1) None (Makes-file v _ made tt refl (omega arith) (omega arith))) (Calm-noted _ (v.last_link + 1) 1 0x2 None)) refl

make_file-obeys : (v : Volume) (asked : Asked) (dir : ℕ) (name : List ℕ) → Obeys (call_of asked) v (make_file v asked dir name)
unfolding make_file
make_file-obeys v asked dir name =
    let made : Volume = with_file_made v asked dir name in
    let both : Volume = with_stream made (v.last_file + 1) (stream_name asked.path) in
    Obeys-if (names_stream asked.path) _ _
    (λ named. opens-obeys v asked _ status.Success action.Created
    (Gains-next (Gains-made v both asked (v.last_link + 1) (Some (v.last_stream + 2)) (Makes-file v _ both tt refl (omega arith) (omega arith)))
    (Calm-next (Calm-noted _ (v.last_link + 1) 1 0x1 None) (Calm-noted _ (v.last_link + 1) 6 0x200 (Some (v.last_stream + 2))))) refl)
    (λ unnamed. opens-obeys v asked _ status.Success action.Created
    (Gains-next (Gains-made v made asked (v.last_link + 1) (Some (v.last_stream + 1)) (Makes-file v _ made tt refl (omega arith) (omega arith))) (Calm-noted _ (v.last_link + 1) 1 0x1 None)) refl)

create_missing-obeys : (v : Volume) (asked : Asked) (dir : ℕ) (name : List ℕ) → Obeys (call_of asked) v (create_missing v asked dir name)
unfolding create_missing
create_missing-obeys v asked dir name =
    let call : Call = call_of asked in
    Obeys-if (only_opens asked.disposition) _ _ (λ is. Obeys-refused call v _ refl)
    (λ no. Obeys-if (deletes_on_close asked && has_any asked.attributes 0x1) _ _ (λ is. Obeys-refused call v _ refl)
    (λ no. Obeys-if (not (grants v dir asked.client (parent_right asked))) _ _ (λ is. Obeys-refused call v _ refl)
    (λ no. Obeys-if (wants_directory asked) _ _ (λ is. make_directory-obeys v asked dir name)
    (λ no. make_file-obeys v asked dir name))))

-- ---- it is there

clashed-obeys : (v : Volume) (asked : Asked) (on : HandleSet) (key : ℕ) → Obeys (call_of asked) v (clashed v on key)
unfolding clashed
clashed-obeys v asked on key =
    Obeys-breaks (call_of asked) v on Clash None key (refused (with_breaks v on Clash None key) status.SharingViolation) (can_be_held asked) (Obeys-refused (call_of asked) (with_breaks v on Clash None key) status.SharingViolation refl)

open_existing-obeys : (v : Volume) (asked : Asked) (link : ℕ) (stream : Option ℕ) (on : HandleSet) → Obeys (call_of asked) v (open_existing v asked link stream on)
unfolding open_existing
open_existing-obeys v asked link stream on =
    Obeys-if (not (wants_more asked)) _ _ (λ is. opened-obeys v asked link stream status.Success action.Opened refl)
    (λ no. Obeys-if (not (open_waits v on ReadOpen asked.key)) _ _ (λ is. after_breaks status.Success refl)
    (λ no. Obeys-if (completes_if_oplocked asked) _ _ (λ is. after_breaks status.OplockBreakInProgress refl)
    (λ isnt. Obeys-held_by (call_of asked) v on ReadOpen None asked.key (can_be_held asked) (twice (open_waits v on ReadOpen asked.key) no))))
  where
    twice : (b : Bool) → not b ≡ false → b ≡ true
    twice true is = refl
    twice false is = cc

    after_breaks : (why : Status) → is_failure why ≡ false → Obeys (call_of asked) v (opened (with_breaks v on ReadOpen None asked.key) asked link stream why action.Opened)
    after_breaks why success =
        Obeys-after_breaks (call_of asked) v on ReadOpen None asked.key _ (can_be_held asked) (opened-obeys (with_breaks v on ReadOpen None asked.key) asked link stream why action.Opened success)

Calm-overwrite_noted : (w : Volume) (link stream : ℕ) (named : Bool) → Calm w (with_overwrite_noted w link stream named)
Calm-overwrite_noted w link stream true = Calm-noted w link 8 0xC00 (Some stream)
Calm-overwrite_noted w link stream false = Calm-noted w link 3 0x1C None

Calm-overwritten : (w : Volume) (asked : Asked) (link file stream : ℕ) → Calm w (with_overwritten w asked link file stream)
Calm-overwritten w asked link file stream =
    let noted : Volume = with_overwrite_noted w link stream (names_stream asked.path) in
    let cut : Volume = with_length noted stream 0 in
    Calm-next (Calm-overwrite_noted w link stream (names_stream asked.path)) (Calm-next (Calm-tree noted cut refl) (Calm-basic cut file _ _ _ _ _))

overwrite_existing-obeys : (v : Volume) (asked : Asked) (link file stream : ℕ) → Obeys (call_of asked) v (overwrite_existing v asked link file stream)
unfolding overwrite_existing
overwrite_existing-obeys v asked link file stream =
    let after : Volume = with_breaks v (set.Stream stream) Change None asked.key in
    Obeys-breaks (call_of asked) v (set.Stream stream) Change None asked.key _ (can_be_held asked)
    (opens-obeys after asked _ status.Success (overwrite_action asked.disposition)
    (Gains-next (Gains-made after after asked link (Some stream) (Makes-none after)) (Calm-overwritten (with_open after asked link (Some stream)) asked link file stream)) refl)

open_granted-obeys : (v : Volume) (asked : Asked) (link : ℕ) → Obeys (call_of asked) v (open_granted v asked link)
unfolding open_granted
open_granted-obeys v asked link =
    Obeys-if (clashes_on v (set.Link link) (access_of asked) asked.share) _ _ (λ is. clashed-obeys v asked (set.Link link) asked.key)
    (λ no. open_existing-obeys v asked link None (set.Link link))

open_directory-obeys : (v : Volume) (asked : Asked) (link file : ℕ) → Obeys (call_of asked) v (open_directory v asked link file)
unfolding open_directory
open_directory-obeys v asked link file =
    let call : Call = call_of asked in
    Obeys-if (not (grants v file asked.client (access_of asked))) _ _ (λ is. Obeys-refused call v _ refl)
    (λ no. Obeys-if (deletes_on_close asked && (link == 0 || is_readonly v file)) _ _ (λ is. Obeys-refused call v _ refl)
    (λ no. open_granted-obeys v asked link))

open_stream-obeys : (v : Volume) (asked : Asked) (link file stream : ℕ) → Obeys (call_of asked) v (open_stream v asked link file stream)
unfolding open_stream
open_stream-obeys v asked link file stream =
    Obeys-if (clashes_on v (set.Stream stream) (access_of asked) asked.share) _ _ (λ is. clashed-obeys v asked (set.Stream stream) asked.key)
    (λ no. Obeys-if (overwrites asked.disposition) _ _ (λ is. overwrite_existing-obeys v asked link file stream)
    (λ no. open_existing-obeys v asked link (Some stream) (set.Stream stream)))

create_on_stream-obeys : (v : Volume) (asked : Asked) (link file stream : ℕ) → Obeys (call_of asked) v (create_on_stream v asked link file stream)
unfolding create_on_stream
create_on_stream-obeys v asked link file stream =
    let call : Call = call_of asked in
    Obeys-if (names_stream asked.path && is_marked v stream) _ _ (λ is. Obeys-refused call v _ refl)
    (λ no. Obeys-if (names_stream asked.path && only_makes asked.disposition) _ _ (λ is. Obeys-refused call v _ refl)
    (λ no. Obeys-if (not (grants v file asked.client (bit_or (access_of asked) (replacing_right asked.disposition)))) _ _ (λ is. Obeys-refused call v _ refl)
    (λ no. Obeys-if (is_readonly v file && (has_any (access_of asked) 0x6 || overwrites asked.disposition)) _ _ (λ is. Obeys-refused call v _ refl)
    (λ no. Obeys-if (is_readonly v file && deletes_on_close asked) _ _ (λ is. Obeys-refused call v _ refl)
    (λ no. Obeys-if (overwrites asked.disposition && uncovers (attributes_of v file) asked.attributes) _ _ (λ is. Obeys-refused call v _ refl)
    (λ no. open_stream-obeys v asked link file stream))))))

Makes-stream : (v : Volume) (file : ℕ) (name : List ℕ) → Makes v (with_stream v file name)
Makes-stream v file name = record {
  table = refl;
  clients = refl;
  left = refl;
  clock = refl;
  handles = refl;
  locks = refl;
  pending = refl;
  ended = refl;
  oplocks = refl;
  last_break = refl;
  changes = refl;
  watches = refl;
  files = omega arith;
  links = omega arith;
  streams = omega arith;
  last_handle = refl;
  last_lock = refl;
  points = λ fit. fit;
}

create_stream-obeys : (v : Volume) (asked : Asked) (link file : ℕ) → Obeys (call_of asked) v (create_stream v asked link file)
unfolding create_stream
create_stream-obeys v asked link file =
    let call : Call = call_of asked in
    Obeys-if (only_opens asked.disposition) _ _ (λ is. Obeys-refused call v _ refl)
    (λ no. Obeys-if (not (grants v file asked.client (bit_or (access_of asked) 0x2))) _ _ (λ is. Obeys-refused call v _ refl)
    (λ no. Obeys-if (is_readonly v file) _ _ (λ is. Obeys-refused call v _ refl)
    (λ no. opens-obeys v asked _ status.Success action.Created
    (Gains-next (Gains-made v _ asked link (Some (v.last_stream + 1)) (Makes-stream v file (stream_name asked.path))) (Calm-noted _ link 6 0x200 (Some (v.last_stream + 1)))) refl)))

create_in_file-obeys : (v : Volume) (asked : Asked) (link file : ℕ) → Obeys (call_of asked) v (create_in_file v asked link file)
unfolding create_in_file
create_in_file-obeys v asked link file =
    Obeys-option (stream_of v file (stream_name asked.path)) (λ stream. create_on_stream v asked link file stream) _
    (λ stream found. create_on_stream-obeys v asked link file stream) (create_stream-obeys v asked link file)

create_there-obeys : (v : Volume) (asked : Asked) (link file : ℕ) → Obeys (call_of asked) v (create_there v asked link file)
unfolding create_there
create_there-obeys v asked link file =
    let call : Call = call_of asked in
    Obeys-if (only_makes asked.disposition && not (names_stream asked.path)) _ _ (λ is. Obeys-refused call v _ refl)
    (λ no. Obeys-if (is_other_kind asked (is_directory v.files file)) _ _ (λ is. Obeys-refused call v _ refl)
    (λ no. Obeys-if (is_directory v.files file && asks_for_file asked) _ _ (λ is. Obeys-refused call v _ refl)
    (λ no. Obeys-if (is_directory v.files file) _ _ (λ is. open_directory-obeys v asked link file)
    (λ no. create_in_file-obeys v asked link file))))

create_found-obeys : (v : Volume) (asked : Asked) (link file : ℕ) → Obeys (call_of asked) v (create_found v asked link file)
unfolding create_found
create_found-obeys v asked link file =
    Obeys-if (is_some (point_of v file) && not (opens_point asked)) _ _ (λ is. stopped-obeys (call_of asked) v file [] (omega arith) (omega arith))
    (λ no. create_there-obeys v asked link file)

-- ---- the last name, and the path

create_by_link-obeys : (v : Volume) (asked : Asked) (link : ℕ) → Obeys (call_of asked) v (create_by_link v asked link)
unfolding create_by_link
create_by_link-obeys v asked link =
    let call : Call = call_of asked in
    Obeys-option (row_of v.links link) (λ row. if row.deleted then refused v status.DeletePending else create_found v asked link row.file) _
    (λ row found. Obeys-if row.deleted _ _ (λ is. Obeys-refused call v _ refl) (λ no. create_found-obeys v asked link row.file))
    (Obeys-refused call v _ refl)

create_named-obeys : (v : Volume) (asked : Asked) (dir : ℕ) (name : List ℕ) → Obeys (call_of asked) v (create_named v asked dir name)
unfolding create_named
create_named-obeys v asked dir name =
    Obeys-option (child_of v dir name) (λ link. create_by_link v asked link) _ (λ link found. create_by_link-obeys v asked link)
    (create_missing-obeys v asked dir name)

create_walked-obeys : (v : Volume) (asked : Asked) (walked : Walked) → BarsPlainly walked → Obeys (call_of asked) v (create_walked v asked walked)
unfolding create_walked
create_walked-obeys v asked (Reached dir) plain =
    Obeys-if (length (components asked.path) == 0) _ _ (λ is. create_found-obeys v asked 0 1)
    (λ no. create_named-obeys v asked dir (last_name (components asked.path)))
create_walked-obeys v asked (Barred why) plain = Obeys-refused (call_of asked) v why plain
create_walked-obeys v asked (Diverted file next) plain = stopped-obeys (call_of asked) v file (rest_of asked.path next) (omega arith) (length-rest_of asked.path next)

create_at-obeys : (v : Volume) (asked : Asked) → Obeys (call_of asked) v (create_at v asked)
unfolding create_at
create_at-obeys v asked =
    Obeys-if (has_stream_part asked.path && wants_directory asked) _ _ (λ is. Obeys-refused (call_of asked) v _ refl)
    (λ no. create_walked-obeys v asked (walk v (components asked.path)) (walk_from-plain v 1 0 (components asked.path)))

pub try_create-obeys : (v : Volume) (asked : Asked) → Obeys (call_of asked) v (try_create v asked)
unfolding try_create
try_create-obeys v asked =
    let call : Call = call_of asked in
    Obeys-if (is_invalid asked) _ _ (λ is. Obeys-refused call v _ refl)
    (λ no. Obeys-if (wants_no_right asked) _ _ (λ is. Obeys-refused call v _ refl)
    (λ no. Obeys-if (lacks_delete asked) _ _ (λ is. Obeys-refused call v _ refl)
    (λ no. Obeys-if (is_some (path_fault asked.path)) _ _ (λ is. Obeys-refused call v _ refl)
    (λ no. create_at-obeys v asked))))
