-- A link is coherent.
use Rattle.std.proofs.Common.{◌≡◌, ℕ, ◌+◌, Bool, false, not, List, refl, inl, inr, Option, Some, None}
use Rattle.std.specs.Prelude.{◌==◌, is_some}
use Rattle.std.proofs.lemmas.Bool.{cases_Bool}
use Rattle.fsa_types.specs.declared.oplock.HandleSet.{HandleSet}
use Rattle.fsa_types.specs.declared.oplock.HandleSet.TheVariants as set
use Rattle.fsa_types.specs.Paths.{components, rest_of}
use Rattle.fsa_types.specs.Rows.{row_of}
use Rattle.fsa_model.specs.Close.{named_stream}
use Rattle.fsa_model.specs.Coherence.{IsTied}
use Rattle.fsa_model.specs.Edits.{with_link}
use Rattle.fsa_model.specs.Link.{with_link_added, with_linked, link_over_closed, link_over_broken, link_over_other, link_over, link_into, link_walked, has_all_links, link_file, link_by, link_at, try_link}
use Rattle.fsa_model.specs.Lookups.{child_of, handle_of, has_row, is_open_by, is_link_marked, linked_file}
use Rattle.fsa_model.specs.Open.{grants}
use Rattle.fsa_model.specs.Rename.{naming_by}
use Rattle.fsa_model.specs.Replacement.{Naming, new_name, is_no_name, is_any_open, waits_to_name, with_name_breaks, replace_fault, with_link_replaced}
use Rattle.fsa_model.specs.Turn.{volume_after}
use Rattle.fsa_model.specs.Volume.{Link, Handle, Volume}
use Rattle.fsa_model.specs.Walk.{Walked, Reached, Barred, Diverted, walk}
use Rattle.fsa_model.proofs.CoherenceClose.{Behaves-left, Left, Left-next, Left-same, Left-noted}
use Rattle.fsa_model.proofs.CoherenceData.{Behaves}
use Rattle.fsa_model.proofs.CoherenceNames.{Left-name_breaks, Left-change_time, Left-link_replaced, Left-stopped}
use Rattle.fsa_model.proofs.CoherenceRest.{Left-with_link}
use Rattle.fsa_model.proofs.RowLaws.{option_cases, row_of-all}

Left-link_added : (v : Volume) (naming : Naming) (dir : ℕ) → (naming.file == 1) ≡ false → IsTied v → Left v (with_link_added v naming dir)
Left-link_added v naming dir not_root tied =
    let w : Volume = with_link v dir (new_name naming) naming.file in
    Left-next v w (with_link_added v naming dir) (Left-with_link v dir (new_name naming) naming.file not_root tied) (λ next. Left-noted w (v.last_link + 1) 1 0x1 None next)

Left-linked : (v : Volume) (naming : Naming) (dir : ℕ) → (naming.file == 1) ≡ false → IsTied v → Left v (with_linked v naming dir None)
Left-linked v naming dir not_root tied =
    let m : Volume = with_link_added v naming dir in
    Left-next v m (with_linked v naming dir None) (Left-link_added v naming dir not_root tied) (λ next. Left-change_time m naming.file next)

Left-linked_over : (v : Volume) (naming : Naming) (dir target : ℕ) → (naming.file == 1) ≡ false → has_row (is_open_by target) v.handles ≡ false → IsTied v → Left v (with_linked v naming dir (Some target))
Left-linked_over v naming dir target not_root closed tied =
    let w : Volume = with_link_replaced v target in
    Left-next v w (with_linked v naming dir (Some target)) (Left-link_replaced v target closed tied) (λ next. Left-linked w naming dir not_root next)

Left-link_over_closed : (v : Volume) (naming : Naming) (dir target : ℕ) → (naming.file == 1) ≡ false → IsTied v → Left v (volume_after (link_over_closed v naming dir target))
unfolding link_over_closed
Left-link_over_closed v naming dir target not_root tied = elim (cases_Bool (is_any_open v (set.Link target))) [
  | inl open_now ↦ rw open_now (Left-same v tied)
  | inr closed ↦ rw closed (Left-linked_over v naming dir target not_root closed tied)
]

Left-link_over_broken : (v : Volume) (naming : Naming) (dir target : ℕ) → (naming.file == 1) ≡ false → IsTied v → Left v (volume_after (link_over_broken v naming dir target))
unfolding link_over_broken
Left-link_over_broken v naming dir target not_root tied =
    let on : HandleSet = set.Link target in
    elim (cases_Bool (waits_to_name v naming on)) [
      | inl waits ↦ rw waits (Left-name_breaks v naming on tied)
      | inr free ↦ rw free (Left-next v (with_name_breaks v naming on) _ (Left-name_breaks v naming on tied)
          (λ next. Left-link_over_closed (with_name_breaks v naming on) naming dir target not_root next))
    ]

Left-link_over_other : (v : Volume) (naming : Naming) (dir target : ℕ) → (naming.file == 1) ≡ false → IsTied v → Left v (volume_after (link_over_other v naming dir target))
unfolding link_over_other
Left-link_over_other v naming dir target not_root tied = elim (option_cases (replace_fault v naming target)) [
  | inr fault ↦ rw fault.1 (Left-same v tied)
  | inl none ↦ rw none (Left-link_over_broken v naming dir target not_root tied)
]

Left-link_over : (v : Volume) (naming : Naming) (dir target : ℕ) → (naming.file == 1) ≡ false → IsTied v → Left v (volume_after (link_over v naming dir target))
unfolding link_over
Left-link_over v naming dir target not_root tied = elim (cases_Bool (linked_file v target == naming.file)) [
  | inl same ↦ rw same (elim (cases_Bool naming.replace) [
    | inl leave ↦ rw leave (Left-same v tied)
    | inr without ↦ rw without (Left-same v tied)
  ])
  | inr differ ↦ rw differ (Left-link_over_other v naming dir target not_root tied)
]

Left-link_into : (v : Volume) (naming : Naming) (dir : ℕ) → (naming.file == 1) ≡ false → IsTied v → Left v (volume_after (link_into v naming dir))
unfolding link_into
Left-link_into v naming dir not_root tied = elim (cases_Bool (not (grants v dir naming.client 0x2))) [
  | inl lacks ↦ rw lacks (Left-same v tied)
  | inr has ↦ rw has (elim (option_cases (child_of v dir (new_name naming))) [
    | inl none ↦ rw none (Left-linked v naming dir not_root tied)
    | inr some ↦ rw some.1 (Left-link_over v naming dir some.0 not_root tied)
  ])
]

Left-link_walked : (v : Volume) (naming : Naming) (walked : Walked) → (naming.file == 1) ≡ false → IsTied v → Left v (volume_after (link_walked v naming walked))
unfolding link_walked
Left-link_walked v naming (Reached dir) not_root tied = Left-link_into v naming dir not_root tied
Left-link_walked v naming (Barred status) not_root tied = Left-same v tied
Left-link_walked v naming (Diverted file next) not_root tied = Left-stopped v file (rest_of naming.path next) tied

Left-link_file : (v : Volume) (naming : Naming) → (naming.file == 1) ≡ false → IsTied v → Left v (volume_after (link_file v naming))
unfolding link_file
Left-link_file v naming not_root tied = elim (cases_Bool (is_link_marked v naming.link)) [
  | inl marked ↦ rw marked (Left-same v tied)
  | inr kept ↦ rw kept (elim (cases_Bool (has_all_links v naming.file)) [
    | inl full ↦ rw full (Left-same v tied)
    | inr room ↦ rw room (elim (cases_Bool (is_no_name naming.path)) [
      | inl bad ↦ rw bad (Left-same v tied)
      | inr good ↦ rw good (Left-link_walked v naming (walk v (components naming.path)) not_root tied)
    ])
  ])
]

-- no link's file is the root, nor is what a missing link gives
linked-not_root : (v : Volume) (link : ℕ) → IsTied v → (linked_file v link == 1) ≡ false
linked-not_root v link tied = elim (option_cases (row_of v.links link)) [
  | inl none ↦ rw none refl
  | inr some ↦ rw some.1 (row_of-all (λ (l : Link). (l.file == 1) ≡ false) v.links link some.0 some.1 tied.root.has_no_link)
]

Left-link_by : (v : Volume) (id : ℕ) (handle : Handle) (path : List ℕ) (replace : Bool) → IsTied v → Left v (volume_after (link_by v id handle path replace))
unfolding link_by
Left-link_by v id handle path replace tied = elim (cases_Bool (not (is_some handle.stream))) [
  | inl directory ↦ rw directory (Left-same v tied)
  | inr file ↦ rw file (elim (cases_Bool (is_some (named_stream v handle))) [
    | inl named ↦ rw named (Left-same v tied)
    | inr plain ↦ rw plain (Left-link_file v (naming_by v id handle path replace) (linked-not_root v handle.link tied) tied)
  ])
]

Left-link_at : (v : Volume) (id : ℕ) (path : List ℕ) (replace : Bool) → IsTied v → Left v (volume_after (link_at v id path replace))
unfolding link_at
Left-link_at v id path replace tied = elim (option_cases (row_of v.handles id)) [
  | inl none ↦ rw none (Left-same v tied)
  | inr some ↦ rw some.1 (Left-link_by v id some.0 path replace tied)
]

Left-try_link : (v : Volume) (client handle : ℕ) (path : List ℕ) (replace : Bool) → IsTied v → Left v (volume_after (try_link v client handle path replace))
unfolding try_link
Left-try_link v client handle path replace tied = elim (option_cases (handle_of v client handle)) [
  | inl none ↦ rw none (Left-same v tied)
  | inr some ↦ rw some.1 (Left-link_at v some.0 path replace tied)
]

pub Behaves-link : (v : Volume) (acting : Option ℕ) (key client handle : ℕ) (path : List ℕ) (replace : Bool) → IsTied v → Behaves v acting key (try_link v client handle path replace)
Behaves-link v acting key client handle path replace tied =
    Behaves-left v (volume_after (try_link v client handle path replace)) acting key _ refl (Left-try_link v client handle path replace tied)
