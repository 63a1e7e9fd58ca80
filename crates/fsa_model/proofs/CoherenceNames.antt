-- A rename, a link and a mark for deletion are coherent: they change no bytes under a handle, and no handle
-- stops to count on its reads by them.
use Rattle.std.proofs.Common.{◌≡◌, ℕ, Bool, true, false, not, List, refl, ap, ◌∙◌, inl, inr, Option, Some, None}
use Rattle.std.specs.Prelude.{◌==◌, ◌||◌, is_some}
use Rattle.std.proofs.lemmas.Bool.{cases_Bool}
use Rattle.fsa_types.specs.Access.{has_any}
use Rattle.fsa_types.specs.declared.oplock.Class.TheVariants.{NameChange}
use Rattle.fsa_types.specs.declared.oplock.HandleSet.{HandleSet}
use Rattle.fsa_types.specs.declared.oplock.HandleSet.TheVariants as set
use Rattle.fsa_types.specs.Paths.{components, rest_of}
use Rattle.fsa_types.specs.Rows.{row_of}
use Rattle.fsa_model.specs.Breaks.{with_breaks}
use Rattle.fsa_model.specs.Changes.{with_change_noted}
use Rattle.fsa_model.specs.Close.{name_bit, named_stream, is_link_of_parent}
use Rattle.fsa_model.specs.Coherence.{IsTied}
use Rattle.fsa_model.specs.Edits.{with_link_moved, with_stream_marked, without_link}
use Rattle.fsa_model.specs.Lookups.{handle_of, is_directory, has_row, is_open_by, is_link_marked, linked_file, is_at_or_below}
use Rattle.fsa_model.specs.Open.{is_readonly, stopped}
use Rattle.fsa_model.specs.Rename.{replaced_link, is_elsewhere, keeps_name, with_move_noted, with_link_renamed, with_renamed, lacks_entry_right, naming_by, rename_done, rename_free, rename_over_closed, rename_over_broken, rename_over, rename_named, rename_below_closed, rename_directory, rename_into, rename_walked, rename_link, rename_by, rename_at, try_rename}
use Rattle.fsa_model.specs.Replacement.{Naming, new_name, is_no_name, is_any_open, waits_to_name, with_name_breaks, replace_fault, with_link_replaced}
use Rattle.fsa_model.specs.Security.{with_change_time}
use Rattle.fsa_model.specs.SetDisposition.{with_mark, marked_handles, delete_marked, delete_by, set_disposition_by, set_disposition_at, try_set_disposition}
use Rattle.fsa_model.specs.Turn.{volume_after}
use Rattle.fsa_model.specs.Volume.{Handle, Volume}
use Rattle.fsa_model.specs.Waits.{waits_for}
use Rattle.fsa_model.specs.Walk.{Walked, Reached, Barred, Diverted, point_of, walk}
use Rattle.fsa_model.proofs.CoherenceBreaks.{handles-breaks}
use Rattle.fsa_model.proofs.CoherenceClose.{Behaves-left, bytes-marked, Left, Left-alike, Left-next, Left-same, Left-noted, Left-without_link, handles-noted}
use Rattle.fsa_model.proofs.CoherenceData.{Behaves, IsUntouched-basic}
use Rattle.fsa_model.proofs.CoherenceEdits.{IsTied-stream_changed}
use Rattle.fsa_model.proofs.CoherenceFalls.{Falls-opens}
use Rattle.fsa_model.proofs.CoherenceRest.{Left-breaks, Left-link_moved, Left-link_set}
use Rattle.fsa_model.proofs.RowLaws.{option_cases}

-- ---- what is changed

pub Left-name_breaks : (v : Volume) (naming : Naming) (on : HandleSet) → IsTied v → Left v (with_name_breaks v naming on)
Left-name_breaks v naming on tied = Left-breaks v on NameChange (Some naming.handle) naming.key (λ is. cc) tied

pub Left-change_time : (v : Volume) (file : ℕ) → IsTied v → Left v (with_change_time v file)
Left-change_time v file tied = Left-alike v (with_change_time v file) (IsUntouched-basic v file _ _ _ _ _) tied

Left-move_noted : (v : Volume) (naming : Naming) (dir old new : ℕ) → IsTied v → Left v (with_move_noted v naming dir old new)
Left-move_noted v naming dir old new tied =
    let n : Volume = with_change_noted v naming.link old (name_bit v naming.link) None in
    let m : Volume = with_link_moved n naming.link dir (new_name naming) in
    Left-next v m (with_move_noted v naming dir old new)
    (Left-next v n m (Left-noted v naming.link old (name_bit v naming.link) None tied) (λ next. Left-link_moved n naming.link dir (new_name naming) next))
    (λ next. Left-noted m naming.link new (name_bit v naming.link) None next)

Left-link_renamed : (v : Volume) (naming : Naming) (dir : ℕ) → IsTied v → Left v (with_link_renamed v naming dir)
Left-link_renamed v naming dir tied = elim (cases_Bool (is_elsewhere v naming dir)) [
  | inl there ↦ rw there (Left-move_noted v naming dir 2 1 tied)
  | inr here ↦ rw here (Left-move_noted v naming dir 4 5 tied)
]

-- a link without a handle replaced
pub Left-link_replaced : (v : Volume) (target : ℕ) → has_row (is_open_by target) v.handles ≡ false → IsTied v → Left v (with_link_replaced v target)
Left-link_replaced v target closed tied =
    let n : Volume = with_change_noted v target 2 (name_bit v target) None in
    let still : has_row (is_open_by target) n.handles ≡ false = ap (λ handles. has_row (is_open_by target) handles) (handles-noted v target 2 (name_bit v target) None) ∙ closed in
    Left-next v n (without_link n target) (Left-noted v target 2 (name_bit v target) None tied) (λ next. Left-without_link n target still next)

-- what is replaced, if anything, has no handle
abbrev pub IsClosed : Volume → Option ℕ → Type 0
IsClosed v None = Unit {0}
IsClosed v (Some target) = has_row (is_open_by target) v.handles ≡ false

Left-renamed : (v : Volume) (naming : Naming) (dir : ℕ) (target : Option ℕ) → IsClosed v target → IsTied v → Left v (with_renamed v naming dir target)
Left-renamed v naming dir None closed tied =
    Left-next v (with_link_renamed v naming dir) (with_renamed v naming dir None) (Left-link_renamed v naming dir tied) (λ next. Left-change_time (with_link_renamed v naming dir) naming.file next)
Left-renamed v naming dir (Some target) closed tied =
    let w : Volume = with_link_replaced v target in
    let m : Volume = with_link_renamed w naming dir in
    Left-next v m (with_renamed v naming dir (Some target))
    (Left-next v w m (Left-link_replaced v target closed tied) (λ next. Left-link_renamed w naming dir next))
    (λ next. Left-change_time m naming.file next)

IsClosed-broken : (v : Volume) (naming : Naming) (on : HandleSet) (target : Option ℕ) → IsClosed v target → IsClosed (with_name_breaks v naming on) target
IsClosed-broken v naming on None closed = tt
IsClosed-broken v naming on (Some target) closed = ap (λ handles. has_row (is_open_by target) handles) (handles-breaks v on NameChange (Some naming.handle) naming.key) ∙ closed

-- ---- a rename

Left-rename_done : (v : Volume) (naming : Naming) (dir : ℕ) (target : Option ℕ) → IsClosed v target → IsTied v → Left v (volume_after (rename_done v naming dir target))
unfolding rename_done
Left-rename_done v naming dir target closed tied = elim (cases_Bool (keeps_name v naming dir)) [
  | inl same ↦ rw same (Left-same v tied)
  | inr new ↦ rw new (Left-renamed v naming dir target closed tied)
]

Left-rename_free : (v : Volume) (naming : Naming) (dir : ℕ) (target : Option ℕ) → IsClosed v target → IsTied v → Left v (volume_after (rename_free v naming dir target))
unfolding rename_free
Left-rename_free v naming dir target closed tied =
    let on : HandleSet = set.Link naming.link in
    elim (cases_Bool (waits_to_name v naming on)) [
      | inl waits ↦ rw waits (Left-name_breaks v naming on tied)
      | inr free ↦ rw free (Left-next v (with_name_breaks v naming on) _ (Left-name_breaks v naming on tied)
          (λ next. Left-rename_done (with_name_breaks v naming on) naming dir target (IsClosed-broken v naming on target closed) next))
    ]

Left-rename_over_closed : (v : Volume) (naming : Naming) (dir target : ℕ) → IsTied v → Left v (volume_after (rename_over_closed v naming dir target))
unfolding rename_over_closed
Left-rename_over_closed v naming dir target tied = elim (cases_Bool (is_any_open v (set.Link target))) [
  | inl open_now ↦ rw open_now (Left-same v tied)
  | inr closed ↦ rw closed (Left-rename_free v naming dir (Some target) closed tied)
]

Left-rename_over_broken : (v : Volume) (naming : Naming) (dir target : ℕ) → IsTied v → Left v (volume_after (rename_over_broken v naming dir target))
unfolding rename_over_broken
Left-rename_over_broken v naming dir target tied =
    let on : HandleSet = set.Link target in
    elim (cases_Bool (waits_to_name v naming on)) [
      | inl waits ↦ rw waits (Left-name_breaks v naming on tied)
      | inr free ↦ rw free (Left-next v (with_name_breaks v naming on) _ (Left-name_breaks v naming on tied)
          (λ next. Left-rename_over_closed (with_name_breaks v naming on) naming dir target next))
    ]

Left-rename_over : (v : Volume) (naming : Naming) (dir target : ℕ) → IsTied v → Left v (volume_after (rename_over v naming dir target))
unfolding rename_over
Left-rename_over v naming dir target tied = elim (option_cases (replace_fault v naming target)) [
  | inr fault ↦ rw fault.1 (Left-same v tied)
  | inl none ↦ rw none (Left-rename_over_broken v naming dir target tied)
]

Left-rename_named : (v : Volume) (naming : Naming) (dir : ℕ) → IsTied v → Left v (volume_after (rename_named v naming dir))
unfolding rename_named
Left-rename_named v naming dir tied = elim (cases_Bool (lacks_entry_right v naming dir)) [
  | inl lacks ↦ rw lacks (Left-same v tied)
  | inr has ↦ rw has (elim (option_cases (replaced_link v naming dir)) [
    | inl none ↦ rw none (Left-rename_free v naming dir None tt tied)
    | inr some ↦ rw some.1 (Left-rename_over v naming dir some.0 tied)
  ])
]

Left-rename_below_closed : (v : Volume) (naming : Naming) (dir : ℕ) → IsTied v → Left v (volume_after (rename_below_closed v naming dir))
unfolding rename_below_closed
Left-rename_below_closed v naming dir tied = elim (cases_Bool (is_any_open v (set.Below naming.file))) [
  | inl open_now ↦ rw open_now (Left-same v tied)
  | inr closed ↦ rw closed (Left-rename_named v naming dir tied)
]

Left-rename_directory : (v : Volume) (naming : Naming) (dir : ℕ) → IsTied v → Left v (volume_after (rename_directory v naming dir))
unfolding rename_directory
Left-rename_directory v naming dir tied =
    let on : HandleSet = set.Below naming.file in
    elim (cases_Bool (is_at_or_below v.links naming.file dir)) [
      | inl below ↦ rw below (Left-same v tied)
      | inr beside ↦ rw beside (elim (cases_Bool (waits_to_name v naming on)) [
        | inl waits ↦ rw waits (Left-name_breaks v naming on tied)
        | inr free ↦ rw free (Left-next v (with_name_breaks v naming on) _ (Left-name_breaks v naming on tied)
            (λ next. Left-rename_below_closed (with_name_breaks v naming on) naming dir next))
      ])
    ]

Left-rename_into : (v : Volume) (naming : Naming) (dir : ℕ) → IsTied v → Left v (volume_after (rename_into v naming dir))
unfolding rename_into
Left-rename_into v naming dir tied = elim (cases_Bool (is_directory v.files naming.file)) [
  | inl directory ↦ rw directory (Left-rename_directory v naming dir tied)
  | inr plain ↦ rw plain (Left-rename_named v naming dir tied)
]

pub Left-stopped : (v : Volume) (file : ℕ) (rest : List ℕ) → IsTied v → Left v (volume_after (stopped v file rest))
unfolding stopped
Left-stopped v file rest tied = elim (option_cases (point_of v file)) [
  | inl none ↦ rw none (Left-same v tied)
  | inr some ↦ rw some.1 (Left-same v tied)
]

Left-rename_walked : (v : Volume) (naming : Naming) (walked : Walked) → IsTied v → Left v (volume_after (rename_walked v naming walked))
unfolding rename_walked
Left-rename_walked v naming (Reached dir) tied = Left-rename_into v naming dir tied
Left-rename_walked v naming (Barred status) tied = Left-same v tied
Left-rename_walked v naming (Diverted file next) tied = Left-stopped v file (rest_of naming.path next) tied

Left-rename_link : (v : Volume) (naming : Naming) (access : ℕ) → IsTied v → Left v (volume_after (rename_link v naming access))
unfolding rename_link
Left-rename_link v naming access tied = elim (cases_Bool (not (has_any access 0x10000))) [
  | inl lacks ↦ rw lacks (Left-same v tied)
  | inr has ↦ rw has (elim (cases_Bool (is_link_marked v naming.link)) [
    | inl marked ↦ rw marked (Left-same v tied)
    | inr kept ↦ rw kept (elim (cases_Bool (is_no_name naming.path)) [
      | inl bad ↦ rw bad (Left-same v tied)
      | inr good ↦ rw good (Left-rename_walked v naming (walk v (components naming.path)) tied)
    ])
  ])
]

Left-rename_by : (v : Volume) (id : ℕ) (handle : Handle) (path : List ℕ) (replace : Bool) → IsTied v → Left v (volume_after (rename_by v id handle path replace))
unfolding rename_by
Left-rename_by v id handle path replace tied = elim (cases_Bool (handle.link == 0 || is_some (named_stream v handle))) [
  | inl none ↦ rw none (Left-same v tied)
  | inr link ↦ rw link (Left-rename_link v (naming_by v id handle path replace) handle.access tied)
]

Left-rename_at : (v : Volume) (id : ℕ) (path : List ℕ) (replace : Bool) → IsTied v → Left v (volume_after (rename_at v id path replace))
unfolding rename_at
Left-rename_at v id path replace tied = elim (option_cases (row_of v.handles id)) [
  | inl none ↦ rw none (Left-same v tied)
  | inr some ↦ rw some.1 (Left-rename_by v id some.0 path replace tied)
]

pub Left-try_rename : (v : Volume) (client handle : ℕ) (path : List ℕ) (replace : Bool) → IsTied v → Left v (volume_after (try_rename v client handle path replace))
unfolding try_rename
Left-try_rename v client handle path replace tied = elim (option_cases (handle_of v client handle)) [
  | inl none ↦ rw none (Left-same v tied)
  | inr some ↦ rw some.1 (Left-rename_at v some.0 path replace tied)
]

pub Behaves-rename : (v : Volume) (acting : Option ℕ) (key client handle : ℕ) (path : List ℕ) (replace : Bool) → IsTied v → Behaves v acting key (try_rename v client handle path replace)
Behaves-rename v acting key client handle path replace tied =
    Behaves-left v (volume_after (try_rename v client handle path replace)) acting key _ refl (Left-try_rename v client handle path replace tied)

-- ---- a mark for deletion

Left-stream_set : (v : Volume) (stream : ℕ) (deleted : Bool) → IsTied v → Left v (with_stream_marked v stream deleted)
Left-stream_set v stream deleted tied = record {
  falls = Falls-opens v (with_stream_marked v stream deleted) refl refl;
  counts = λ handle counts. inl counts;
  tied = IsTied-stream_changed v (λ row. record row { deleted = deleted }) stream (λ row. refl) tied;
  leaves = record { handles = λ handle row living. living; bytes = λ handle row of_it living has. bytes-marked v.streams stream of_it deleted };
}

Left-with_mark : (v : Volume) (handle : Handle) (delete : Bool) → IsTied v → Left v (with_mark v handle delete)
Left-with_mark v handle delete tied = elim (option_cases (named_stream v handle)) [
  | inl none ↦ rw none (Left-link_set v handle.link delete tied)
  | inr some ↦ rw some.1 (Left-stream_set v some.0 delete tied)
]

Left-delete_marked : (v : Volume) (id : ℕ) (handle : Handle) → IsTied v → Left v (volume_after (delete_marked v id handle))
unfolding delete_marked
Left-delete_marked v id handle tied =
    let on : HandleSet = marked_handles v handle in
    let broken : Volume = with_breaks v on NameChange (Some id) handle.key in
    let first : Left v broken = Left-breaks v on NameChange (Some id) handle.key (λ is. cc) tied in
    elim (cases_Bool (waits_for v on NameChange (Some id) handle.key)) [
      | inl waits ↦ rw waits first
      | inr free ↦ rw free (Left-next v broken (with_mark broken handle true) first (λ next. Left-with_mark broken handle true next))
    ]

Left-delete_by : (v : Volume) (id : ℕ) (handle : Handle) → IsTied v → Left v (volume_after (delete_by v id handle))
unfolding delete_by
Left-delete_by v id handle tied = elim (cases_Bool (handle.link == 0 || is_readonly v (linked_file v handle.link))) [
  | inl kept ↦ rw kept (Left-same v tied)
  | inr goes ↦ rw goes (elim (cases_Bool (is_link_of_parent v handle.link)) [
    | inl full ↦ rw full (Left-same v tied)
    | inr empty ↦ rw empty (Left-delete_marked v id handle tied)
  ])
]

Left-set_disposition_by : (v : Volume) (id : ℕ) (handle : Handle) (delete : Bool) → IsTied v → Left v (volume_after (set_disposition_by v id handle delete))
unfolding set_disposition_by
Left-set_disposition_by v id handle delete tied = elim (cases_Bool (not (has_any handle.access 0x10000))) [
  | inl lacks ↦ rw lacks (Left-same v tied)
  | inr has ↦ rw has (elim (cases_Bool delete) [
    | inl marks ↦ rw marks (Left-delete_by v id handle tied)
    | inr clears ↦ rw clears (Left-with_mark v handle false tied)
  ])
]

Left-set_disposition_at : (v : Volume) (id : ℕ) (delete : Bool) → IsTied v → Left v (volume_after (set_disposition_at v id delete))
unfolding set_disposition_at
Left-set_disposition_at v id delete tied = elim (option_cases (row_of v.handles id)) [
  | inl none ↦ rw none (Left-same v tied)
  | inr some ↦ rw some.1 (Left-set_disposition_by v id some.0 delete tied)
]

Left-try_set_disposition : (v : Volume) (client handle : ℕ) (delete : Bool) → IsTied v → Left v (volume_after (try_set_disposition v client handle delete))
unfolding try_set_disposition
Left-try_set_disposition v client handle delete tied = elim (option_cases (handle_of v client handle)) [
  | inl none ↦ rw none (Left-same v tied)
  | inr some ↦ rw some.1 (Left-set_disposition_at v some.0 delete tied)
]

pub Behaves-set_disposition : (v : Volume) (acting : Option ℕ) (key client handle : ℕ) (delete : Bool) → IsTied v → Behaves v acting key (try_set_disposition v client handle delete)
Behaves-set_disposition v acting key client handle delete tied =
    Behaves-left v (volume_after (try_set_disposition v client handle delete)) acting key _ refl (Left-try_set_disposition v client handle delete tied)
