-- The frame of a try of a Notify.
use Rattle.std.proofs.Common.{◌≡◌, ℕ, Bool, false, not, refl, inl, inr, arith}
use Rattle.std.specs.Prelude.{nat_le, is_some}
use Rattle.std.proofs.lemmas.Bool.{cases_Bool, leb-true}
use Rattle.fsa_types.specs.Access.{has_any}
use Rattle.fsa_types.specs.Rows.{row_of}
use Rattle.fsa_types.specs.declared.request.Call.{Call}
use Rattle.fsa_types.specs.declared.request.Request.TheVariants.{Notify}
use Rattle.fsa_types.specs.declared.request.What.TheVariants.{Ask}
use Rattle.fsa_types.specs.declared.status.Status.TheVariants.{InvalidHandle, InvalidParameter, AccessDenied, DeletePending}
use Rattle.fsa_model.specs.Frame.{FitsReply, InFrame, OnlyWatches, is_failure}
use Rattle.fsa_model.specs.Lookups.{handle_of, is_link_marked}
use Rattle.fsa_model.specs.Volume.{Handle, Volume}
use Rattle.fsa_model.specs.Watching.{due_size, is_notify_filter, is_something_due, notify_at, notify_by, notify_due, report, try_notify, watch_of, with_watch_begun, with_watch_seen}
use Rattle.fsa_model.proofs.FrameLaws.{AddsNothing, AddsNothing-alike, AddsNothing-next, AddsNothing-same, InFrame-done, InFrame-if, InFrame-option, InFrame-refused, KeepsFrame-adds_nothing}

-- a Notify with this room
abbrev notifies : ℕ → ℕ → ℕ → ℕ → Bool → ℕ → Call
notifies client number handle filter whole room = record { client = client; number = number; what = Ask (Notify handle filter whole room) }

OnlyWatches-begun : (v : Volume) (id filter : ℕ) (whole : Bool) → OnlyWatches v (with_watch_begun v id filter whole)
OnlyWatches-begun v id filter whole = elim (cases_Bool (is_some (watch_of v id))) [
  | inl there ↦ rw there (record { is = refl })
  | inr new ↦ rw new (record { is = refl })
]

AddsNothing-begun : (v : Volume) (id filter : ℕ) (whole : Bool) → AddsNothing v (with_watch_begun v id filter whole)
AddsNothing-begun v id filter whole = elim (cases_Bool (is_some (watch_of v id))) [
  | inl there ↦ rw there (AddsNothing-same v)
  | inr new ↦ rw new (AddsNothing-alike v _ refl)
]

fits-report : (v : Volume) (id client number handle filter : ℕ) (whole : Bool) (room : ℕ) → FitsReply (Ask (Notify handle filter whole room)) (report v id room)
fits-report v id client number handle filter whole room = elim (cases_Bool (nat_le (due_size v id) room)) [
  | inl within ↦ rw within (record { bytes = leb-true (due_size v id) room within; units = omega arith })
  | inr more ↦ rw more (record { bytes = omega arith; units = omega arith })
]

no_failure : (v : Volume) (id room : ℕ) → is_failure (report v id room).status ≡ false
no_failure v id room = elim (cases_Bool (nat_le (due_size v id) room)) [ inl within ↦ rw within refl | inr more ↦ rw more refl ]

notify_due-frame : (v u : Volume) (id client number handle filter : ℕ) (whole : Bool) (room : ℕ) → AddsNothing v u → OnlyWatches v u
    → InFrame (notifies client number handle filter whole room) v (notify_due u id room)
notify_due-frame v u id client number handle filter whole room nothing only =
    InFrame-if (is_something_due u id) _ _
    (λ is. InFrame-done _ v (with_watch_seen u id) (report u id room) (KeepsFrame-adds_nothing (AddsNothing-next nothing (AddsNothing-alike u _ refl)))
    (fits-report u id client number handle filter whole room) (no_failure u id room))
    (λ no. record { so = (KeepsFrame-adds_nothing nothing, only) })

notify_by-frame : (v : Volume) (id client number asked : ℕ) (handle : Handle) (filter : ℕ) (whole : Bool) (room : ℕ)
    → InFrame (notifies client number asked filter whole room) v (notify_by v id handle filter whole room)
notify_by-frame v id client number asked handle filter whole room =
    InFrame-if (is_some handle.stream) _ _ (λ is. InFrame-refused _ v InvalidParameter)
    (λ no. InFrame-if (not (has_any handle.access 0x1)) _ _ (λ is. InFrame-refused _ v AccessDenied)
    (λ no. InFrame-if (not (is_notify_filter filter)) _ _ (λ is. InFrame-refused _ v InvalidParameter)
    (λ no. InFrame-if (is_link_marked v handle.link) _ _ (λ is. InFrame-refused _ v DeletePending)
    (λ no. notify_due-frame v (with_watch_begun v id filter whole) id client number asked filter whole room (AddsNothing-begun v id filter whole) (OnlyWatches-begun v id filter whole)))))

notify_at-frame : (v : Volume) (id client number asked filter : ℕ) (whole : Bool) (room : ℕ) → InFrame (notifies client number asked filter whole room) v (notify_at v id filter whole room)
unfolding notify_at
notify_at-frame v id client number asked filter whole room =
    InFrame-option (row_of v.handles id) (λ handle. notify_by v id handle filter whole room) _ (λ handle found. notify_by-frame v id client number asked handle filter whole room) (InFrame-refused _ v InvalidHandle)

pub try_notify-frame : (v : Volume) (client number handle filter : ℕ) (whole : Bool) (room : ℕ) → InFrame (notifies client number handle filter whole room) v (try_notify v client handle filter whole room)
unfolding try_notify
try_notify-frame v client number handle filter whole room =
    InFrame-option (handle_of v client handle) (λ id. notify_at v id filter whole room) _ (λ id found. notify_at-frame v id client number handle filter whole room) (InFrame-refused _ v InvalidHandle)
