-- Reparse points and quotas keep what every try keeps.
use Rattle.std.proofs.Common.{◌≡◌, ℕ, ◌+◌, ◌≤◌, Bool, true, false, not, List, length, get_or, refl, inl, inr, arith, Option, Some, None, ◌-◌}
use Rattle.std.specs.Prelude.{◌==◌, nat_lt, take, drop, IfSome, if◌then◌else◌}
use Rattle.std.proofs.Math.Nat.{min-le_left}
use Rattle.std.proofs.lemmas.Bool.{cases_Bool, leb-true, ltb-false}
use Rattle.std.proofs.lemmas.List.{length-drop, length-take}
use Rattle.std.proofs.lemmas.List.Elements.{All-map}
use Rattle.fsa_types.specs.FixedBuffers.{read_reparse}
use Rattle.fsa_types.specs.Rows.{row_of, with_row_changed}
use Rattle.fsa_types.specs.declared.request.Call.{Call}
use Rattle.fsa_types.specs.declared.request.Request.TheVariants as request
use Rattle.fsa_types.specs.declared.request.What.TheVariants.{Ask}
use Rattle.fsa_types.specs.declared.status.Status.TheVariants.{Success, InvalidHandle, InvalidParameter, AccessDenied, BufferTooSmall, DirectoryNotEmpty, IoReparseDataInvalid, IoReparseTagInvalid, IoReparseTagMismatch, NotAReparsePoint}
use Rattle.fsa_model.specs.Bounds.{most_point_bytes}
use Rattle.fsa_model.specs.Close.{is_link_of_parent}
use Rattle.fsa_model.specs.Edits.{with_limit, with_point}
use Rattle.fsa_model.specs.Frame.{KeepsFrame, PointsFit}
use Rattle.fsa_model.specs.Lookups.{file_of_link, handle_of}
use Rattle.fsa_model.specs.Quota.{is_administrator, try_query_quota, try_set_quota}
use Rattle.fsa_model.specs.ReparsePoints.{delete_reparse_at, delete_reparse_by, delete_reparse_of, get_point, get_reparse_at, get_reparse_by, get_reparse_of, has_other_tag, is_no_tag, may_set_point, point_buffer, remove_point, set_buffer, set_point, set_reparse_at, set_reparse_by, try_delete_reparse, try_get_reparse, try_set_reparse, with_point_noted}
use Rattle.fsa_model.specs.Sound.{PointFits}
use Rattle.fsa_model.specs.Volume.{File, Handle, Volume}
use Rattle.fsa_model.specs.Walk.{point_of}
use Rattle.fsa_model.proofs.FrameLaws.{AddsNothing-files, AddsNothing-noted, EndsPending-equal, KeepsFrame-before}
use Rattle.fsa_model.proofs.ObeyLaws.{Calm, Calm-files, Calm-next, Calm-noted, Calm-tree, Obeys, Obeys-ends, Obeys-framed, Obeys-if, Obeys-option, Obeys-refused, Obeys-replies, watches-noted}
use Rattle.fsa_model.proofs.RowLaws.{change_at}
use Rattle.fsa_model.proofs.TryLaws.{Untouched, Untouched-next, Untouched-noted, Watches-equal}
use Rattle.std.specs.Int.{w16, w32, from_le_bytes}

-- ---- a point is set

-- a set of a reparse point
abbrev pub sets : ℕ → ℕ → ℕ → List ℕ → Call
sets client number handle bytes = record { client = client; number = number; what = Ask (request.SetReparse handle bytes) }

-- what is read of a buffer is shorter than that by the header
read-short : (bytes : List ℕ) (point : ℕ × List ℕ) → read_reparse bytes ≡ Some point → length point.1 + 8 ≤ length bytes
read-short bytes point is = elim (cases_Bool (nat_lt (length bytes) 8)) [
  | inl few ↦ (let impossible : None ≡ Some point = rw few at is in cc)
  | inr enough ↦ rest (not (from_le_bytes w16 (take 2 (drop 4 bytes)) == length bytes - 8)) (rw enough at is) (ltb-false (length bytes) 8 enough)
]
  where
    rest : (wrong : Bool) → (if wrong then None else Some (from_le_bytes w32 (take 4 bytes), drop 8 bytes)) ≡ Some point → 8 ≤ length bytes → length point.1 + 8 ≤ length bytes
    rest true is enough = cc
    rest false is enough = (let same : (from_le_bytes w32 (take 4 bytes), drop 8 bytes) ≡ point = cc in let short = length-drop 8 bytes in rw (← same) (omega arith))

-- the point of one file, with as few bytes, leaves all points fitting
points-set : (v : Volume) (file : ℕ) (point : Option (ℕ × List ℕ)) → IfSome point (λ p. length p.1 ≤ most_point_bytes) → PointsFit v → PointsFit (with_point v file point)
points-set v file point few fit =
    All-map (λ (entry : ℕ × File). PointFits entry.1) (change_at (λ row. record row { point = point }) file) v.files
    (λ k d within. elim (cases_Bool ((get_or v.files k d).0 == file)) [ inl here ↦ rw here few | inr other ↦ rw other (fit k d within) ])

Untouched-point : (v : Volume) (file : ℕ) (point : Option (ℕ × List ℕ)) → Untouched v (with_point v file point)
Untouched-point v file point = record { oplocks = refl; locks = refl; pending = refl; ended = refl; last_break = refl; seen = Watches-equal refl refl; opens = refl; numbers = record { files = refl; links = refl; streams = refl; handles = refl; locks = refl } }

-- within the frame of a request that fits
KeepsFrame-point : (v : Volume) (client number handle : ℕ) (bytes : List ℕ) (file : ℕ) (point : ℕ × List ℕ) → length point.1 + 8 ≤ length bytes
    → KeepsFrame (sets client number handle bytes) v (with_point v file (Some point))
KeepsFrame-point v client number handle bytes file point short = record {
  table = refl;
  clients = refl;
  left = inl refl;
  clock = inl refl;
  handles = λ test all own. all;
  locks = λ test all own. all;
  numbers = record { files = omega arith; links = omega arith; streams = omega arith; handles = omega arith; locks = omega arith; handles_of_creates = λ other. refl; locks_of_locks = λ other. refl };
  pending = λ client number is. is;
  ended = EndsPending-equal refl;
  points = λ fits fit. points-set v file (Some point) (let few : length bytes ≤ 16384 = leb-true (length bytes) 16384 fits in omega arith) fit;
}

set_point-obeys : (v : Volume) (client number handle : ℕ) (bytes : List ℕ) (link file : ℕ) (point : ℕ × List ℕ) → length point.1 + 8 ≤ length bytes
    → Obeys (sets client number handle bytes) v (set_point v link file point.0 point.1)
unfolding set_point
set_point-obeys v client number handle bytes link file point short =
    let call : Call = sets client number handle bytes in
    Obeys-if (is_no_tag point.0) _ _ (λ is. Obeys-refused call v IoReparseTagInvalid refl)
    (λ no. Obeys-if (is_link_of_parent v link) _ _ (λ is. Obeys-refused call v DirectoryNotEmpty refl)
    (λ no. Obeys-if (has_other_tag v file point.0) _ _ (λ is. Obeys-refused call v IoReparseTagMismatch refl)
    (λ no. Obeys-framed call v (with_point_noted v link file (Some (point.0, point.1))) _
    (Untouched-next (Untouched-point v file (Some (point.0, point.1))) (Untouched-noted _ link _ _ None)) (watches-noted _ link _ _ None)
    (KeepsFrame-before (KeepsFrame-point v client number handle bytes file (point.0, point.1) short) (AddsNothing-noted _ link _ _ None))
    (record { bytes = omega arith; units = omega arith }) refl)))

set_reparse_by-obeys : (v : Volume) (client number handle : ℕ) (bytes : List ℕ) (row : Handle) → Obeys (sets client number handle bytes) v (set_reparse_by v row bytes)
unfolding set_reparse_by set_buffer
set_reparse_by-obeys v client number handle bytes row =
    let call : Call = sets client number handle bytes in
    Obeys-if (not (may_set_point row)) _ _ (λ is. Obeys-refused call v AccessDenied refl)
    (λ no. Obeys-if (row.link == 0) _ _ (λ is. Obeys-refused call v InvalidParameter refl)
    (λ no. Obeys-option (file_of_link v.links row.link) (λ file. set_buffer v row.link file bytes) _
    (λ file found. Obeys-option (read_reparse bytes) (λ point. set_point v row.link file point.0 point.1) _
    (λ point is. set_point-obeys v client number handle bytes row.link file point (read-short bytes point is)) (Obeys-refused call v IoReparseDataInvalid refl))
    (Obeys-refused call v InvalidHandle refl)))

pub try_set_reparse-obeys : (v : Volume) (client number handle : ℕ) (bytes : List ℕ) → Obeys (sets client number handle bytes) v (try_set_reparse v client handle bytes)
unfolding try_set_reparse set_reparse_at
try_set_reparse-obeys v client number handle bytes =
    let call : Call = sets client number handle bytes in
    Obeys-option (handle_of v client handle) (λ id. set_reparse_at v id bytes) _
    (λ id found. Obeys-option (row_of v.handles id) (λ row. set_reparse_by v row bytes) _ (λ row is. set_reparse_by-obeys v client number handle bytes row) (Obeys-refused call v InvalidHandle refl))
    (Obeys-refused call v InvalidHandle refl)

-- ---- a point is asked for

-- a question for a reparse point
abbrev pub asks_point : ℕ → ℕ → ℕ → ℕ → Call
asks_point client number handle room = record { client = client; number = number; what = Ask (request.GetReparse handle room) }

get_point-obeys : (v : Volume) (client number handle room : ℕ) (point : ℕ × List ℕ) → Obeys (asks_point client number handle room) v (get_point v point room)
unfolding get_point
get_point-obeys v client number handle room point =
    let call : Call = asks_point client number handle room in
    let few : length (take room (point_buffer point)) ≤ room = rw (length-take room (point_buffer point)) (min-le_left room (length (point_buffer point))) in
    Obeys-if (nat_lt room 8) _ _ (λ is. Obeys-refused call v BufferTooSmall refl)
    (λ no. Obeys-if (nat_lt room (length (point_buffer point))) _ _ (λ is. Obeys-replies call v _ (record { bytes = few; units = omega arith }) refl)
    (λ fits. Obeys-replies call v _ (record { bytes = ltb-false room (length (point_buffer point)) fits; units = omega arith }) refl))

pub try_get_reparse-obeys : (v : Volume) (client number handle room : ℕ) → Obeys (asks_point client number handle room) v (try_get_reparse v client handle room)
unfolding try_get_reparse get_reparse_at get_reparse_by get_reparse_of
try_get_reparse-obeys v client number handle room =
    let call : Call = asks_point client number handle room in
    Obeys-option (handle_of v client handle) (λ id. get_reparse_at v id room) _
    (λ id found. Obeys-option (row_of v.handles id) (λ row. get_reparse_by v row room) _
    (λ row is. Obeys-option (file_of_link v.links row.link) (λ file. get_reparse_of v file room) _
    (λ file of. Obeys-option (point_of v file) (λ point. get_point v point room) _ (λ point there. get_point-obeys v client number handle room point) (Obeys-refused call v NotAReparsePoint refl))
    (Obeys-refused call v InvalidHandle refl)) (Obeys-refused call v InvalidHandle refl))
    (Obeys-refused call v InvalidHandle refl)

-- ---- a point is removed

Calm-point_removed : (v : Volume) (link file : ℕ) → Calm v (with_point_noted v link file None)
Calm-point_removed v link file =
    Calm-next (Calm-files v (with_row_changed (λ row. record row { point = None }) v.files file) (AddsNothing-files v _ (λ fit. points-set v file None tt fit))) (Calm-noted (with_point v file None) link _ _ None)

delete_reparse_by-obeys : (call : Call) (v : Volume) (row : Handle) (tag : ℕ) → Obeys call v (delete_reparse_by v row tag)
unfolding delete_reparse_by delete_reparse_of remove_point
delete_reparse_by-obeys call v row tag =
    Obeys-if (not (may_set_point row)) _ _ (λ is. Obeys-refused call v AccessDenied refl)
    (λ no. Obeys-option (file_of_link v.links row.link) (λ file. delete_reparse_of v row.link file tag) _
    (λ file found. Obeys-option (point_of v file) (λ point. remove_point v row.link file point tag) _
    (λ point is. Obeys-if (point.0 == tag) _ _ (λ same. Obeys-ends call v (with_point_noted v row.link file None) Success (Calm-point_removed v row.link file) refl) (λ other. Obeys-refused call v IoReparseTagMismatch refl))
    (Obeys-refused call v NotAReparsePoint refl)) (Obeys-refused call v InvalidHandle refl))

pub try_delete_reparse-obeys : (call : Call) (v : Volume) (client handle tag : ℕ) → Obeys call v (try_delete_reparse v client handle tag)
unfolding try_delete_reparse delete_reparse_at
try_delete_reparse-obeys call v client handle tag =
    Obeys-option (handle_of v client handle) (λ id. delete_reparse_at v id tag) _
    (λ id found. Obeys-option (row_of v.handles id) (λ row. delete_reparse_by v row tag) _ (λ row is. delete_reparse_by-obeys call v row tag) (Obeys-refused call v InvalidHandle refl))
    (Obeys-refused call v InvalidHandle refl)

-- ---- quotas

pub try_set_quota-obeys : (call : Call) (v : Volume) (client sid bytes : ℕ) → Obeys call v (try_set_quota v client sid bytes)
unfolding try_set_quota
try_set_quota-obeys call v client sid bytes =
    Obeys-if (not (is_administrator v client)) _ _ (λ is. Obeys-refused call v AccessDenied refl)
    (λ no. Obeys-ends call v (with_limit v sid bytes) Success (Calm-tree v _ refl) refl)

pub try_query_quota-obeys : (call : Call) (v : Volume) (sid : ℕ) → Obeys call v (try_query_quota v sid)
unfolding try_query_quota
try_query_quota-obeys call v sid = Obeys-replies call v _ (record { bytes = omega arith; units = omega arith }) refl
