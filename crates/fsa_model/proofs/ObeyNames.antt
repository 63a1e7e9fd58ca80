-- Renames, links and marks for deletion keep what every try keeps.
use Rattle.std.proofs.Common.{ℕ, ◌≤◌, Bool, true, false, not, List, length, ◌+◌, refl, arith, inl, Option, Some, None}
use Rattle.std.specs.Prelude.{◌==◌, ◌||◌, is_some}
use Rattle.fsa_types.specs.Access.{has_any}
use Rattle.fsa_types.specs.Masks.{DELETE, WRITE_DATA}
use Rattle.fsa_types.specs.Paths.{components, rest_of}
use Rattle.fsa_types.specs.Rows.{row_of, without_row}
use Rattle.fsa_types.specs.declared.oplock.Class.TheVariants.{NameChange}
use Rattle.fsa_types.specs.declared.oplock.HandleSet.TheVariants as set
use Rattle.fsa_types.specs.declared.request.Call.{Call}
use Rattle.fsa_types.specs.declared.status.Status.TheVariants.{Success, InvalidHandle, InvalidParameter, AccessDenied, CannotDelete, DirectoryNotEmpty, FileIsADirectory, ObjectNameCollision, ObjectNameInvalid, TooManyLinks}
use Rattle.fsa_model.specs.Bounds.{most_point_bytes}
use Rattle.fsa_model.specs.Breaks.{with_breaks}
use Rattle.fsa_model.specs.Changes.{with_change_noted}
use Rattle.fsa_model.specs.Close.{is_link_of_parent, named_stream}
use Rattle.fsa_model.specs.Edits.{with_link, with_link_marked, with_link_moved, with_stream_marked, without_file_unless_linked, without_link}
use Rattle.fsa_model.specs.Frame.{most_reply_bytes, most_reply_units}
use Rattle.fsa_model.specs.Link.{has_all_links, link_at, link_by, link_file, link_into, link_over, link_over_broken, link_over_closed, link_over_other, link_walked, try_link, with_link_added, with_linked}
use Rattle.fsa_model.specs.Lookups.{child_of, handle_of, has_row, is_at_or_below, is_directory, is_link_marked, linked_file}
use Rattle.fsa_model.specs.Open.{grants, is_readonly}
use Rattle.fsa_model.specs.Outcome.{ends_with, refused}
use Rattle.fsa_model.specs.Rename.{is_elsewhere, keeps_name, lacks_entry_right, naming_by, rename_at, rename_below_closed, rename_by, rename_directory, rename_done, rename_free, rename_into, rename_link, rename_named, rename_over, rename_over_broken, rename_over_closed, rename_walked, replaced_link, try_rename, with_link_renamed, with_move_noted, with_renamed}
use Rattle.fsa_model.specs.Replacement.{Naming, is_any_open, is_no_name, new_name, replace_fault, with_link_replaced, with_name_breaks, with_replaced}
use Rattle.fsa_model.specs.SetDisposition.{delete_by, delete_marked, marked_handles, set_disposition_at, set_disposition_by, try_set_disposition, with_mark}
use Rattle.fsa_model.specs.Starving.{only_settlements_give}
use Rattle.fsa_model.specs.Volume.{Handle, Link, Volume}
use Rattle.fsa_model.specs.Walk.{Walked, Reached, Barred, Diverted, walk}
use Rattle.fsa_model.proofs.FrameLaws.{AddsNothing-without_file, EndsPending-equal}
use Rattle.fsa_model.proofs.FaultStatuses.{replace-fails}
use Rattle.fsa_model.proofs.ObeyLaws.{Calm, Calm-basic, Calm-files, Calm-if, Calm-next, Calm-noted, Calm-option, Calm-same, Calm-tree, CanBeHeld, Gains, Gains-after, Gains-next, Obeys, Obeys-breaks, Obeys-ends, Obeys-gains, Obeys-if, Obeys-option, Obeys-refused}
use Rattle.fsa_model.proofs.ObeyPaths.{BarsPlainly, length-rest_of, stopped-obeys, walk_from-plain}
use Rattle.fsa_model.proofs.PendLaws.{HandlesStay-same}
use Rattle.fsa_model.proofs.TryLaws.{Leaves-same_waits, Watches-equal}

-- ---- what a link leaves that goes

Calm-without_link : (v : Volume) (link : ℕ) → Calm v (without_link v link)
Calm-without_link v link =
    Calm-option (row_of v.links link) (λ (row : Link). without_file_unless_linked (record v { links = without_row v.links link }) row.file) v
    (λ (row : Link). Calm-if (has_row (λ (other : Link). other.file == row.file) (without_row v.links link)) _ _ (Calm-tree v _ refl)
    (Calm-next (Calm-files v (without_row v.files row.file) (AddsNothing-without_file v row.file)) (Calm-tree (record v { files = without_row v.files row.file }) _ refl)))
    (Calm-same v)

Calm-replaced : (v : Volume) (replaced : Option ℕ) → Calm v (with_replaced v replaced)
Calm-replaced v replaced =
    Calm-option replaced (λ link. with_link_replaced v link) v (λ link. Calm-next (Calm-noted v link _ _ None) (Calm-without_link _ link)) (Calm-same v)

-- the reply of the call has room for what is left of this path at a reparse point
pub record HoldsPath (call : Call) (path : List ℕ) : Type 0 where
  pub bytes : most_point_bytes ≤ most_reply_bytes call.what
  pub units : length path ≤ most_reply_units call.what

-- ---- renames

Calm-move_noted : (v : Volume) (naming : Naming) (dir old new : ℕ) → Calm v (with_move_noted v naming dir old new)
Calm-move_noted v naming dir old new =
    let noted : Volume = with_change_noted v naming.link old _ None in
    Calm-next (Calm-noted v naming.link old _ None) (Calm-next (Calm-tree noted (with_link_moved noted naming.link dir (new_name naming)) refl) (Calm-noted (with_link_moved noted naming.link dir (new_name naming)) naming.link new _ None))

Calm-link_renamed : (v : Volume) (naming : Naming) (dir : ℕ) → Calm v (with_link_renamed v naming dir)
Calm-link_renamed v naming dir = Calm-if (is_elsewhere v naming dir) _ _ (Calm-move_noted v naming dir _ _) (Calm-move_noted v naming dir _ _)

Calm-renamed : (v : Volume) (naming : Naming) (dir : ℕ) (replaced : Option ℕ) → Calm v (with_renamed v naming dir replaced)
Calm-renamed v naming dir replaced =
    Calm-next (Calm-replaced v replaced) (Calm-next (Calm-link_renamed (with_replaced v replaced) naming dir) (Calm-basic (with_link_renamed (with_replaced v replaced) naming dir) naming.file _ _ _ _ _))

rename_done-obeys : (call : Call) (v : Volume) (naming : Naming) (dir : ℕ) (replaced : Option ℕ) → Obeys call v (rename_done v naming dir replaced)
unfolding rename_done
rename_done-obeys call v naming dir replaced =
    Obeys-if (keeps_name v naming dir) _ _ (λ is. Obeys-ends call v v Success (Calm-same v) refl) (λ no. Obeys-ends call v (with_renamed v naming dir replaced) Success (Calm-renamed v naming dir replaced) refl)

rename_free-obeys : (call : Call) (v : Volume) (naming : Naming) (dir : ℕ) (replaced : Option ℕ) → CanBeHeld call → Obeys call v (rename_free v naming dir replaced)
unfolding rename_free
rename_free-obeys call v naming dir replaced can =
    Obeys-breaks call v (set.Link naming.link) NameChange (Some naming.handle) naming.key _ can (rename_done-obeys call (with_name_breaks v naming (set.Link naming.link)) naming dir replaced)

rename_over_closed-obeys : (call : Call) (v : Volume) (naming : Naming) (dir replaced : ℕ) → CanBeHeld call → Obeys call v (rename_over_closed v naming dir replaced)
unfolding rename_over_closed
rename_over_closed-obeys call v naming dir replaced can =
    Obeys-if (is_any_open v (set.Link replaced)) _ _ (λ is. Obeys-refused call v AccessDenied refl) (λ no. rename_free-obeys call v naming dir (Some replaced) can)

rename_over_broken-obeys : (call : Call) (v : Volume) (naming : Naming) (dir replaced : ℕ) → CanBeHeld call → Obeys call v (rename_over_broken v naming dir replaced)
unfolding rename_over_broken
rename_over_broken-obeys call v naming dir replaced can =
    Obeys-breaks call v (set.Link replaced) NameChange (Some naming.handle) naming.key _ can (rename_over_closed-obeys call (with_name_breaks v naming (set.Link replaced)) naming dir replaced can)

rename_over-obeys : (call : Call) (v : Volume) (naming : Naming) (dir replaced : ℕ) → CanBeHeld call → Obeys call v (rename_over v naming dir replaced)
unfolding rename_over
rename_over-obeys call v naming dir replaced can =
    Obeys-option (replace_fault v naming replaced) (λ why. refused v why) _ (λ why is. Obeys-refused call v why (replace-fails only_settlements_give v naming replaced why refl refl refl is)) (rename_over_broken-obeys call v naming dir replaced can)

rename_named-obeys : (call : Call) (v : Volume) (naming : Naming) (dir : ℕ) → CanBeHeld call → Obeys call v (rename_named v naming dir)
unfolding rename_named
rename_named-obeys call v naming dir can =
    Obeys-if (lacks_entry_right v naming dir) _ _ (λ is. Obeys-refused call v AccessDenied refl)
    (λ no. Obeys-option (replaced_link v naming dir) (λ replaced. rename_over v naming dir replaced) _ (λ replaced is. rename_over-obeys call v naming dir replaced can) (rename_free-obeys call v naming dir None can))

rename_below_closed-obeys : (call : Call) (v : Volume) (naming : Naming) (dir : ℕ) → CanBeHeld call → Obeys call v (rename_below_closed v naming dir)
unfolding rename_below_closed
rename_below_closed-obeys call v naming dir can =
    Obeys-if (is_any_open v (set.Below naming.file)) _ _ (λ is. Obeys-refused call v AccessDenied refl) (λ no. rename_named-obeys call v naming dir can)

rename_directory-obeys : (call : Call) (v : Volume) (naming : Naming) (dir : ℕ) → CanBeHeld call → Obeys call v (rename_directory v naming dir)
unfolding rename_directory
rename_directory-obeys call v naming dir can =
    Obeys-if (is_at_or_below v.links naming.file dir) _ _ (λ is. Obeys-refused call v AccessDenied refl)
    (λ no. Obeys-breaks call v (set.Below naming.file) NameChange (Some naming.handle) naming.key _ can (rename_below_closed-obeys call (with_name_breaks v naming (set.Below naming.file)) naming dir can))

rename_into-obeys : (call : Call) (v : Volume) (naming : Naming) (dir : ℕ) → CanBeHeld call → Obeys call v (rename_into v naming dir)
unfolding rename_into
rename_into-obeys call v naming dir can =
    Obeys-if (is_directory v.files naming.file) _ _ (λ is. rename_directory-obeys call v naming dir can) (λ no. rename_named-obeys call v naming dir can)

rename_walked-obeys : (call : Call) (v : Volume) (naming : Naming) (walked : Walked) → CanBeHeld call → HoldsPath call naming.path → BarsPlainly walked → Obeys call v (rename_walked v naming walked)
unfolding rename_walked
rename_walked-obeys call v naming (Reached dir) can holds plain = rename_into-obeys call v naming dir can
rename_walked-obeys call v naming (Barred why) can holds plain = Obeys-refused call v why plain
rename_walked-obeys call v naming (Diverted file next) can holds plain =
    stopped-obeys call v file (rest_of naming.path next) holds.bytes (let few = length-rest_of naming.path next in let most = holds.units in omega arith)

rename_link-obeys : (call : Call) (v : Volume) (naming : Naming) (access : ℕ) → CanBeHeld call → HoldsPath call naming.path → Obeys call v (rename_link v naming access)
unfolding rename_link
rename_link-obeys call v naming access can holds =
    Obeys-if (not (has_any access DELETE)) _ _ (λ is. Obeys-refused call v AccessDenied refl)
    (λ no. Obeys-if (is_link_marked v naming.link) _ _ (λ is. Obeys-refused call v AccessDenied refl)
    (λ no. Obeys-if (is_no_name naming.path) _ _ (λ is. Obeys-refused call v ObjectNameInvalid refl)
    (λ no. rename_walked-obeys call v naming (walk v (components naming.path)) can holds (walk_from-plain v 1 0 (components naming.path)))))

rename_by-obeys : (call : Call) (v : Volume) (id : ℕ) (handle : Handle) (path : List ℕ) (replace : Bool) → CanBeHeld call → HoldsPath call path → Obeys call v (rename_by v id handle path replace)
unfolding rename_by
rename_by-obeys call v id handle path replace can holds =
    Obeys-if (handle.link == 0 || is_some (named_stream v handle)) _ _ (λ is. Obeys-refused call v InvalidParameter refl)
    (λ no. rename_link-obeys call v (naming_by v id handle path replace) handle.access can (record { bytes = holds.bytes; units = holds.units }))

rename_at-obeys : (call : Call) (v : Volume) (id : ℕ) (path : List ℕ) (replace : Bool) → CanBeHeld call → HoldsPath call path → Obeys call v (rename_at v id path replace)
unfolding rename_at
rename_at-obeys call v id path replace can holds =
    Obeys-option (row_of v.handles id) (λ handle. rename_by v id handle path replace) _ (λ handle found. rename_by-obeys call v id handle path replace can holds) (Obeys-refused call v InvalidHandle refl)

pub try_rename-obeys : (call : Call) (v : Volume) (client handle : ℕ) (path : List ℕ) (replace : Bool) → CanBeHeld call → HoldsPath call path → Obeys call v (try_rename v client handle path replace)
unfolding try_rename
try_rename-obeys call v client handle path replace can holds =
    Obeys-option (handle_of v client handle) (λ id. rename_at v id path replace) _ (λ id found. rename_at-obeys call v id path replace can holds) (Obeys-refused call v InvalidHandle refl)

-- ---- links

-- a link more
Gains-link : (call : Call) (v : Volume) (dir : ℕ) (name : List ℕ) (file : ℕ) → Gains call v (with_link v dir name file)
Gains-link call v dir name file = record {
  leaves = Leaves-same_waits v (with_link v dir name file) (record { oplocks = refl; locks = refl; pending = refl; ended = refl; last_break = refl; last_lock = refl; seen = Watches-equal refl refl; stay = HandlesStay-same refl refl });
  few = record { files = omega arith; links = omega arith; streams = omega arith; handles = omega arith; locks = omega arith };
  keeps = record {
    table = refl;
    clients = refl;
    left = inl refl;
    clock = inl refl;
    handles = λ test all own. all;
    locks = λ test all own. all;
    numbers = record { files = omega arith; links = omega arith; streams = omega arith; handles = omega arith; locks = omega arith; handles_of_creates = λ other. refl; locks_of_locks = λ other. refl };
    pending = λ client number is. is;
    ended = EndsPending-equal refl;
    points = λ fits fit. fit;
  };
  ended = refl;
  watches = refl;
}

Gains-linked : (call : Call) (v : Volume) (naming : Naming) (dir : ℕ) (replaced : Option ℕ) → Gains call v (with_linked v naming dir replaced)
Gains-linked call v naming dir replaced =
    let before : Volume = with_replaced v replaced in
    let linked : Volume = with_link before dir (new_name naming) naming.file in
    Gains-next (Gains-next (Gains-after (Calm-replaced v replaced) (Gains-link call before dir (new_name naming) naming.file)) (Calm-noted linked (before.last_link + 1) _ _ None))
    (Calm-basic (with_link_added before naming dir) naming.file _ _ _ _ _)

-- it succeeds with the link added
linked-obeys : (call : Call) (v : Volume) (naming : Naming) (dir : ℕ) (replaced : Option ℕ) → CanBeHeld call → Obeys call v (ends_with (with_linked v naming dir replaced) Success)
linked-obeys call v naming dir replaced can =
    Obeys-gains call v (with_linked v naming dir replaced) _ can (Gains-linked call v naming dir replaced) (record { bytes = omega arith; units = omega arith }) refl

link_over_closed-obeys : (call : Call) (v : Volume) (naming : Naming) (dir replaced : ℕ) → CanBeHeld call → Obeys call v (link_over_closed v naming dir replaced)
unfolding link_over_closed
link_over_closed-obeys call v naming dir replaced can =
    Obeys-if (is_any_open v (set.Link replaced)) _ _ (λ is. Obeys-refused call v AccessDenied refl) (λ no. linked-obeys call v naming dir (Some replaced) can)

link_over_broken-obeys : (call : Call) (v : Volume) (naming : Naming) (dir replaced : ℕ) → CanBeHeld call → Obeys call v (link_over_broken v naming dir replaced)
unfolding link_over_broken
link_over_broken-obeys call v naming dir replaced can =
    Obeys-breaks call v (set.Link replaced) NameChange (Some naming.handle) naming.key _ can (link_over_closed-obeys call (with_name_breaks v naming (set.Link replaced)) naming dir replaced can)

link_over_other-obeys : (call : Call) (v : Volume) (naming : Naming) (dir replaced : ℕ) → CanBeHeld call → Obeys call v (link_over_other v naming dir replaced)
unfolding link_over_other
link_over_other-obeys call v naming dir replaced can =
    Obeys-option (replace_fault v naming replaced) (λ why. refused v why) _ (λ why is. Obeys-refused call v why (replace-fails only_settlements_give v naming replaced why refl refl refl is)) (link_over_broken-obeys call v naming dir replaced can)

link_over-obeys : (call : Call) (v : Volume) (naming : Naming) (dir replaced : ℕ) → CanBeHeld call → Obeys call v (link_over v naming dir replaced)
unfolding link_over
link_over-obeys call v naming dir replaced can =
    Obeys-if (not (linked_file v replaced == naming.file)) _ _ (λ is. link_over_other-obeys call v naming dir replaced can)
    (λ no. Obeys-if naming.replace _ _ (λ is. Obeys-ends call v v Success (Calm-same v) refl) (λ no. Obeys-refused call v ObjectNameCollision refl))

link_into-obeys : (call : Call) (v : Volume) (naming : Naming) (dir : ℕ) → CanBeHeld call → Obeys call v (link_into v naming dir)
unfolding link_into
link_into-obeys call v naming dir can =
    Obeys-if (not (grants v dir naming.client WRITE_DATA)) _ _ (λ is. Obeys-refused call v AccessDenied refl)
    (λ no. Obeys-option (child_of v dir (new_name naming)) (λ replaced. link_over v naming dir replaced) _ (λ replaced is. link_over-obeys call v naming dir replaced can) (linked-obeys call v naming dir None can))

link_walked-obeys : (call : Call) (v : Volume) (naming : Naming) (walked : Walked) → CanBeHeld call → HoldsPath call naming.path → BarsPlainly walked → Obeys call v (link_walked v naming walked)
unfolding link_walked
link_walked-obeys call v naming (Reached dir) can holds plain = link_into-obeys call v naming dir can
link_walked-obeys call v naming (Barred why) can holds plain = Obeys-refused call v why plain
link_walked-obeys call v naming (Diverted file next) can holds plain =
    stopped-obeys call v file (rest_of naming.path next) holds.bytes (let few = length-rest_of naming.path next in let most = holds.units in omega arith)

link_file-obeys : (call : Call) (v : Volume) (naming : Naming) → CanBeHeld call → HoldsPath call naming.path → Obeys call v (link_file v naming)
unfolding link_file
link_file-obeys call v naming can holds =
    Obeys-if (is_link_marked v naming.link) _ _ (λ is. Obeys-refused call v AccessDenied refl)
    (λ no. Obeys-if (has_all_links v naming.file) _ _ (λ is. Obeys-refused call v TooManyLinks refl)
    (λ no. Obeys-if (is_no_name naming.path) _ _ (λ is. Obeys-refused call v ObjectNameInvalid refl)
    (λ no. link_walked-obeys call v naming (walk v (components naming.path)) can holds (walk_from-plain v 1 0 (components naming.path)))))

link_by-obeys : (call : Call) (v : Volume) (id : ℕ) (handle : Handle) (path : List ℕ) (replace : Bool) → CanBeHeld call → HoldsPath call path → Obeys call v (link_by v id handle path replace)
unfolding link_by
link_by-obeys call v id handle path replace can holds =
    Obeys-if (not (is_some handle.stream)) _ _ (λ is. Obeys-refused call v FileIsADirectory refl)
    (λ no. Obeys-if (is_some (named_stream v handle)) _ _ (λ is. Obeys-refused call v InvalidParameter refl)
    (λ no. link_file-obeys call v (naming_by v id handle path replace) can (record { bytes = holds.bytes; units = holds.units })))

link_at-obeys : (call : Call) (v : Volume) (id : ℕ) (path : List ℕ) (replace : Bool) → CanBeHeld call → HoldsPath call path → Obeys call v (link_at v id path replace)
unfolding link_at
link_at-obeys call v id path replace can holds =
    Obeys-option (row_of v.handles id) (λ handle. link_by v id handle path replace) _ (λ handle found. link_by-obeys call v id handle path replace can holds) (Obeys-refused call v InvalidHandle refl)

pub try_link-obeys : (call : Call) (v : Volume) (client handle : ℕ) (path : List ℕ) (replace : Bool) → CanBeHeld call → HoldsPath call path → Obeys call v (try_link v client handle path replace)
unfolding try_link
try_link-obeys call v client handle path replace can holds =
    Obeys-option (handle_of v client handle) (λ id. link_at v id path replace) _ (λ id found. link_at-obeys call v id path replace can holds) (Obeys-refused call v InvalidHandle refl)

-- ---- marks for deletion

Calm-mark : (v : Volume) (handle : Handle) (delete : Bool) → Calm v (with_mark v handle delete)
Calm-mark v handle delete = Calm-option (named_stream v handle) (λ stream. with_stream_marked v stream delete) (with_link_marked v handle.link delete) (λ stream. Calm-tree v _ refl) (Calm-tree v _ refl)

delete_marked-obeys : (call : Call) (v : Volume) (id : ℕ) (handle : Handle) → CanBeHeld call → Obeys call v (delete_marked v id handle)
unfolding delete_marked
delete_marked-obeys call v id handle can =
    let broken : Volume = with_breaks v (marked_handles v handle) NameChange (Some id) handle.key in
    Obeys-breaks call v (marked_handles v handle) NameChange (Some id) handle.key _ can (Obeys-ends call broken (with_mark broken handle true) Success (Calm-mark broken handle true) refl)

delete_by-obeys : (call : Call) (v : Volume) (id : ℕ) (handle : Handle) → CanBeHeld call → Obeys call v (delete_by v id handle)
unfolding delete_by
delete_by-obeys call v id handle can =
    Obeys-if (handle.link == 0 || is_readonly v (linked_file v handle.link)) _ _ (λ is. Obeys-refused call v CannotDelete refl)
    (λ no. Obeys-if (is_link_of_parent v handle.link) _ _ (λ is. Obeys-refused call v DirectoryNotEmpty refl) (λ no. delete_marked-obeys call v id handle can))

set_disposition_by-obeys : (call : Call) (v : Volume) (id : ℕ) (handle : Handle) (delete : Bool) → CanBeHeld call → Obeys call v (set_disposition_by v id handle delete)
unfolding set_disposition_by
set_disposition_by-obeys call v id handle delete can =
    Obeys-if (not (has_any handle.access DELETE)) _ _ (λ is. Obeys-refused call v AccessDenied refl)
    (λ no. Obeys-if (not delete) _ _ (λ is. Obeys-ends call v (with_mark v handle false) Success (Calm-mark v handle false) refl) (λ no. delete_by-obeys call v id handle can))

set_disposition_at-obeys : (call : Call) (v : Volume) (id : ℕ) (delete : Bool) → CanBeHeld call → Obeys call v (set_disposition_at v id delete)
unfolding set_disposition_at
set_disposition_at-obeys call v id delete can =
    Obeys-option (row_of v.handles id) (λ handle. set_disposition_by v id handle delete) _ (λ handle found. set_disposition_by-obeys call v id handle delete can) (Obeys-refused call v InvalidHandle refl)

pub try_set_disposition-obeys : (call : Call) (v : Volume) (client handle : ℕ) (delete : Bool) → CanBeHeld call → Obeys call v (try_set_disposition v client handle delete)
unfolding try_set_disposition
try_set_disposition-obeys call v client handle delete can =
    Obeys-option (handle_of v client handle) (λ id. set_disposition_at v id delete) _ (λ id found. set_disposition_at-obeys call v id delete can) (Obeys-refused call v InvalidHandle refl)
