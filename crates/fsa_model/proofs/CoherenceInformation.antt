-- What sets or tells of files is coherent: times and attributes, reparse points, quotas, information, lists of a
-- directory and notifications change no bytes and no oplock.
use Rattle.std.proofs.Common.{◌≡◌, ℕ, Bool, ◌==◌, not, ◌&&◌, List, length, refl, Option, Some, None, inl, inr}
use Rattle.std.specs.Prelude.{is_some, nat_lt}
use Rattle.std.proofs.lemmas.Bool.{cases_Bool}
use Rattle.fsa_types.specs.Access.{has_any}
use Rattle.fsa_types.specs.declared.request.DirKind.{DirKind}
use Rattle.fsa_types.specs.declared.request.InfoKind.{InfoKind}
use Rattle.fsa_types.specs.declared.request.InfoKind.TheVariants.{Basic, Standard, Internal, Tag, Streams}
use Rattle.fsa_types.specs.FixedBuffers.{read_reparse}
use Rattle.fsa_types.specs.Match.{is_refused}
use Rattle.fsa_types.specs.PackedRows.{pack_kind}
use Rattle.fsa_types.specs.Packing.{head_size}
use Rattle.fsa_types.specs.Rows.{row_of}
use Rattle.fsa_model.specs.Close.{is_link_of_parent}
use Rattle.fsa_model.specs.Coherence.{IsTied, blockers_of}
use Rattle.fsa_model.specs.Edits.{with_cursor, with_point}
use Rattle.fsa_model.specs.Lookups.{file_of_link, handle_of, is_link_marked}
use Rattle.fsa_model.specs.Outcome.{Outcome}
use Rattle.fsa_model.specs.QueryDir.{DirectoryEntry, how_many_fit, begun_enumeration, left_to_list, list_entries, query_dir_in, query_dir_by, query_dir_at, try_query_dir}
use Rattle.fsa_model.specs.QueryInfo.{fixed_size, how_many_streams_fit, needs_attributes, stream_rows, query_streams, query_streams_by, query_file, query_info_by, query_info_at, try_query_info}
use Rattle.fsa_model.specs.Quota.{is_administrator, try_set_quota, try_query_quota}
use Rattle.fsa_model.specs.ReparsePoints.{with_point_noted, may_set_point, has_other_tag, is_no_tag, set_point, set_buffer, set_reparse_by, set_reparse_at, try_set_reparse, point_buffer, get_point, get_reparse_of, get_reparse_by, get_reparse_at, try_get_reparse, remove_point, delete_reparse_of, delete_reparse_by, delete_reparse_at, try_delete_reparse}
use Rattle.fsa_model.specs.SetBasic.{Basics, with_basics, basic_bits, with_basics_noted, has_no_time, has_wrong_attributes, set_basic_of, set_basic_by, set_basic_at, try_set_basic}
use Rattle.fsa_model.specs.Turn.{volume_after}
use Rattle.fsa_model.specs.Volume.{Cursor, Handle, Volume}
use Rattle.fsa_model.specs.Walk.{point_of}
use Rattle.fsa_model.specs.Watching.{watch_of, is_something_due, with_watch_seen, notify_due, with_watch_begun, is_notify_filter, notify_at, try_notify}
use Rattle.fsa_model.proofs.CoherenceData.{Behaves, Behaves-if, Behaves-option, Behaves-done, Behaves-refused, IsUntouched-basic, ends-none, IsUntouched-next}
use Rattle.fsa_model.proofs.CoherenceEdits.{IsUntouched-file_changed}
use Rattle.fsa_model.proofs.CoherenceRest.{IsTied-with_cursor, KeepsBytes-with_cursor, IsUntouched-with_limit, IsUntouched-with_watch, Falls-with_cursor}
use Rattle.fsa_model.proofs.CoherenceTied.{IsUntouched, IsUntouched-same, IsUntouched-noted}

-- ---- times and attributes

IsUntouched-basics_noted : (v : Volume) (link file : ℕ) (asked : Basics) → IsUntouched v (with_basics_noted v link file asked)
IsUntouched-basics_noted v link file asked = elim (cases_Bool (basic_bits asked == 0)) [
  | inl none ↦ rw none (IsUntouched-basic v file _ _ _ _ _)
  | inr some ↦ rw some (IsUntouched-next v (with_basics v file asked) _ (IsUntouched-basic v file _ _ _ _ _) (IsUntouched-noted (with_basics v file asked) link 3 (basic_bits asked) None))
]

pub Behaves-set_basic : (v : Volume) (acting : Option ℕ) (key client handle : ℕ) (asked : Basics) → IsTied v → Behaves v acting key (try_set_basic v client handle asked)
unfolding try_set_basic set_basic_at set_basic_by set_basic_of
Behaves-set_basic v acting key client handle asked tied =
    Behaves-option (handle_of v client handle) _ _ (λ id is. Behaves-option (row_of v.handles id) _ _
    (λ row living. Behaves-if (not (has_any row.access 0x100)) _ _ (λ denied. Behaves-refused v _ _ _ tied)
    (λ granted. Behaves-option (file_of_link v.links row.link) _ _
    (λ file of_it. Behaves-if (has_no_time asked) _ _ (λ wrong. Behaves-refused v _ _ _ tied)
    (λ times. Behaves-if (has_wrong_attributes v file asked.attributes) _ _ (λ wrong. Behaves-refused v _ _ _ tied)
    (λ good. Behaves-done v _ _ _ tied (IsUntouched-basics_noted v row.link file asked))))
    (Behaves-refused v _ _ _ tied)))
    (Behaves-refused v _ _ _ tied)) (Behaves-refused v _ _ _ tied)

-- ---- reparse points

IsUntouched-point_noted : (v : Volume) (link file : ℕ) (point : Option (ℕ × List ℕ)) → IsUntouched v (with_point_noted v link file point)
IsUntouched-point_noted v link file point =
    IsUntouched-next v (with_point v file point) (with_point_noted v link file point) (IsUntouched-file_changed v (λ row. record row { point = point }) file (λ row. refl))
    (IsUntouched-noted (with_point v file point) link 3 0x4 None)

Behaves-set_point : (v : Volume) (acting : Option ℕ) (key link file tag : ℕ) (content : List ℕ) → IsTied v → Behaves v acting key (set_point v link file tag content)
unfolding set_point
Behaves-set_point v acting key link file tag content tied =
    Behaves-if (is_no_tag tag) _ _ (λ wrong. Behaves-refused v _ _ _ tied)
    (λ right. Behaves-if (is_link_of_parent v link) _ _ (λ full. Behaves-refused v _ _ _ tied)
    (λ empty. Behaves-if (has_other_tag v file tag) _ _ (λ other. Behaves-refused v _ _ _ tied)
    (λ same. Behaves-done v _ _ _ tied (IsUntouched-point_noted v link file (Some (tag, content))))))

pub Behaves-set_reparse : (v : Volume) (acting : Option ℕ) (key client handle : ℕ) (bytes : List ℕ) → IsTied v → Behaves v acting key (try_set_reparse v client handle bytes)
unfolding try_set_reparse set_reparse_at set_reparse_by set_buffer
Behaves-set_reparse v acting key client handle bytes tied =
    Behaves-option (handle_of v client handle) _ _ (λ id is. Behaves-option (row_of v.handles id) _ _
    (λ row living. Behaves-if (not (may_set_point row)) _ _ (λ denied. Behaves-refused v _ _ _ tied)
    (λ granted. Behaves-if (row.link == 0) _ _ (λ root. Behaves-refused v _ _ _ tied)
    (λ below. Behaves-option (file_of_link v.links row.link) _ _
    (λ file of_it. Behaves-option (read_reparse bytes) _ _ (λ point read. Behaves-set_point v acting key row.link file point.0 point.1 tied) (Behaves-refused v _ _ _ tied))
    (Behaves-refused v _ _ _ tied))))
    (Behaves-refused v _ _ _ tied)) (Behaves-refused v _ _ _ tied)

pub Behaves-get_reparse : (v : Volume) (acting : Option ℕ) (key client handle room : ℕ) → IsTied v → Behaves v acting key (try_get_reparse v client handle room)
unfolding try_get_reparse get_reparse_at get_reparse_by get_reparse_of get_point
Behaves-get_reparse v acting key client handle room tied =
    Behaves-option (handle_of v client handle) _ _ (λ id is. Behaves-option (row_of v.handles id) _ _
    (λ row living. Behaves-option (file_of_link v.links row.link) _ _
    (λ file of_it. Behaves-option (point_of v file) _ _
    (λ point there. Behaves-if (nat_lt room 8) _ _ (λ small. Behaves-refused v _ _ _ tied)
    (λ head. Behaves-if (nat_lt room (length (point_buffer point))) _ _ (λ part. Behaves-done v _ _ _ tied (IsUntouched-same v)) (λ whole. Behaves-done v _ _ _ tied (IsUntouched-same v))))
    (Behaves-refused v _ _ _ tied)) (Behaves-refused v _ _ _ tied))
    (Behaves-refused v _ _ _ tied)) (Behaves-refused v _ _ _ tied)

pub Behaves-delete_reparse : (v : Volume) (acting : Option ℕ) (key client handle tag : ℕ) → IsTied v → Behaves v acting key (try_delete_reparse v client handle tag)
unfolding try_delete_reparse delete_reparse_at delete_reparse_by delete_reparse_of remove_point
Behaves-delete_reparse v acting key client handle tag tied =
    Behaves-option (handle_of v client handle) _ _ (λ id is. Behaves-option (row_of v.handles id) _ _
    (λ row living. Behaves-if (not (may_set_point row)) _ _ (λ denied. Behaves-refused v _ _ _ tied)
    (λ granted. Behaves-option (file_of_link v.links row.link) _ _
    (λ file of_it. Behaves-option (point_of v file) _ _
    (λ point there. Behaves-if (point.0 == tag) _ _ (λ same. Behaves-done v _ _ _ tied (IsUntouched-point_noted v row.link file None)) (λ other. Behaves-refused v _ _ _ tied))
    (Behaves-refused v _ _ _ tied)) (Behaves-refused v _ _ _ tied)))
    (Behaves-refused v _ _ _ tied)) (Behaves-refused v _ _ _ tied)

-- ---- quotas

pub Behaves-set_quota : (v : Volume) (acting : Option ℕ) (key client sid limit : ℕ) → IsTied v → Behaves v acting key (try_set_quota v client sid limit)
unfolding try_set_quota
Behaves-set_quota v acting key client sid limit tied =
    Behaves-if (not (is_administrator v client)) _ _ (λ denied. Behaves-refused v _ _ _ tied) (λ may. Behaves-done v _ _ _ tied (IsUntouched-with_limit v sid limit))

pub Behaves-query_quota : (v : Volume) (acting : Option ℕ) (key sid : ℕ) → IsTied v → Behaves v acting key (try_query_quota v sid)
unfolding try_query_quota
Behaves-query_quota v acting key sid tied = Behaves-done v _ _ _ tied (IsUntouched-same v)

-- ---- information

Behaves-query_file : (v : Volume) (acting : Option ℕ) (key : ℕ) (handle : Handle) (file : ℕ) (kind : InfoKind) (room : ℕ) → IsTied v → Behaves v acting key (query_file v handle file kind room)
unfolding query_file query_streams_by query_streams
Behaves-query_file v acting key handle file Basic room tied = Behaves-done v _ _ _ tied (IsUntouched-same v)
Behaves-query_file v acting key handle file Standard room tied = Behaves-done v _ _ _ tied (IsUntouched-same v)
Behaves-query_file v acting key handle file Internal room tied = Behaves-done v _ _ _ tied (IsUntouched-same v)
Behaves-query_file v acting key handle file Tag room tied = Behaves-done v _ _ _ tied (IsUntouched-same v)
Behaves-query_file v acting key handle file Streams room tied =
    Behaves-if (is_some handle.stream) _ _
    (λ has. Behaves-if (how_many_streams_fit v file room == length (stream_rows v file)) _ _ (λ all. Behaves-done v _ _ _ tied (IsUntouched-same v)) (λ some. Behaves-done v _ _ _ tied (IsUntouched-same v)))
    (λ none. Behaves-done v _ _ _ tied (IsUntouched-same v))

pub Behaves-query_info : (v : Volume) (acting : Option ℕ) (key client handle : ℕ) (kind : InfoKind) (room : ℕ) → IsTied v → Behaves v acting key (try_query_info v client handle kind room)
unfolding try_query_info query_info_at query_info_by
Behaves-query_info v acting key client handle kind room tied =
    Behaves-option (handle_of v client handle) _ _ (λ id is. Behaves-option (row_of v.handles id) _ _
    (λ row living. Behaves-if (nat_lt room (fixed_size kind)) _ _ (λ small. Behaves-refused v _ _ _ tied)
    (λ fits. Behaves-if (needs_attributes kind && not (has_any row.access 0x80)) _ _ (λ denied. Behaves-refused v _ _ _ tied)
    (λ granted. Behaves-option (file_of_link v.links row.link) _ _ (λ file of_it. Behaves-query_file v acting key row file kind room tied) (Behaves-refused v _ _ _ tied))))
    (Behaves-refused v _ _ _ tied)) (Behaves-refused v _ _ _ tied)

-- ---- a list of a directory

-- the enumeration goes on
Behaves-with_cursor : (v : Volume) (acting : Option ℕ) (key id : ℕ) (expression : List ℕ) (cursor : Cursor) (outcome : Outcome) → IsTied v
    → volume_after outcome ≡ with_cursor v id expression cursor → Behaves v acting key outcome
Behaves-with_cursor v acting key id expression cursor outcome tied is =
    let next : Volume = with_cursor v id expression cursor in
    record {
      tied = rw is (IsTied-with_cursor v id expression cursor tied);
      coherent = rw is (KeepsBytes-with_cursor v acting key id expression cursor);
      ends = rw is (ends-none v next acting key (blockers_of outcome) refl);
      falls = rw is (Falls-with_cursor v id expression cursor);
    }

Behaves-list_entries : (v : Volume) (acting : Option ℕ) (key id : ℕ) (kind : DirKind) (expression : List ℕ) (cursor : Cursor) (entries : List DirectoryEntry) (room : ℕ) → IsTied v
    → Behaves v acting key (list_entries v id kind expression cursor entries room)
unfolding list_entries
Behaves-list_entries v acting key id kind expression cursor entries room tied =
    Behaves-if (length entries == 0) _ _ (λ none. Behaves-with_cursor v acting key id expression cursor _ tied refl)
    (λ some. Behaves-if (how_many_fit v kind entries room == 0) _ _ (λ no_room. Behaves-with_cursor v acting key id expression cursor _ tied refl)
    (λ fits. Behaves-with_cursor v acting key id expression _ _ tied refl))

pub Behaves-query_dir : (v : Volume) (acting : Option ℕ) (key client handle : ℕ) (kind : DirKind) (expression : List ℕ) (restart : Bool) (room : ℕ) → IsTied v
    → Behaves v acting key (try_query_dir v client handle kind expression restart room)
unfolding try_query_dir query_dir_at query_dir_by query_dir_in
Behaves-query_dir v acting key client handle kind expression restart room tied =
    Behaves-option (handle_of v client handle) _ _ (λ id is. Behaves-option (row_of v.handles id) _ _
    (λ row living. Behaves-if (is_some row.stream) _ _ (λ file. Behaves-refused v _ _ _ tied)
    (λ directory. Behaves-if (not (has_any row.access 0x1)) _ _ (λ denied. Behaves-refused v _ _ _ tied)
    (λ granted. Behaves-if (is_refused expression) _ _ (λ wrong. Behaves-refused v _ _ _ tied)
    (λ right. Behaves-if (nat_lt room (head_size (pack_kind kind))) _ _ (λ small. Behaves-refused v _ _ _ tied)
    (λ fits. Behaves-option (file_of_link v.links row.link) _ _
    (λ dir of_it. Behaves-list_entries v acting key id kind (begun_enumeration row expression restart).0 (begun_enumeration row expression restart).1
    (left_to_list v dir (begun_enumeration row expression restart).0 (begun_enumeration row expression restart).1) room tied)
    (Behaves-refused v _ _ _ tied))))))
    (Behaves-refused v _ _ _ tied)) (Behaves-refused v _ _ _ tied)

-- ---- a notification

IsUntouched-watch_seen : (v : Volume) (id : ℕ) → IsUntouched v (with_watch_seen v id)
IsUntouched-watch_seen v id = record { oplocks = refl; handles = refl; links = refl; streams = refl; last_link = refl; last_stream = refl; root = λ root. root }

IsUntouched-watch_begun : (v : Volume) (id filter : ℕ) (tree : Bool) → IsUntouched v (with_watch_begun v id filter tree)
IsUntouched-watch_begun v id filter tree = elim (cases_Bool (is_some (watch_of v id))) [
  | inl watches ↦ rw watches (IsUntouched-same v)
  | inr first ↦ rw first (IsUntouched-with_watch v id filter tree (length v.changes))
]

IsUntouched-notify_due : (u v : Volume) (id room : ℕ) → IsUntouched u v → IsUntouched u (volume_after (notify_due v id room))
IsUntouched-notify_due u v id room first = elim (cases_Bool (is_something_due v id)) [
  | inl due ↦ rw due (IsUntouched-next u v (with_watch_seen v id) first (IsUntouched-watch_seen v id))
  | inr none ↦ rw none first
]

pub Behaves-notify : (v : Volume) (acting : Option ℕ) (key client handle filter : ℕ) (tree : Bool) (room : ℕ) → IsTied v → Behaves v acting key (try_notify v client handle filter tree room)
unfolding try_notify notify_at
Behaves-notify v acting key client handle filter tree room tied =
    Behaves-option (handle_of v client handle) _ _ (λ id is. Behaves-option (row_of v.handles id) _ _
    (λ row living. Behaves-if (is_some row.stream) _ _ (λ file. Behaves-refused v _ _ _ tied)
    (λ directory. Behaves-if (not (has_any row.access 0x1)) _ _ (λ denied. Behaves-refused v _ _ _ tied)
    (λ granted. Behaves-if (not (is_notify_filter filter)) _ _ (λ wrong. Behaves-refused v _ _ _ tied)
    (λ right. Behaves-if (is_link_marked v row.link) _ _ (λ marked. Behaves-refused v _ _ _ tied)
    (λ unmarked. Behaves-done v _ _ _ tied (IsUntouched-notify_due v (with_watch_begun v id filter tree) id room (IsUntouched-watch_begun v id filter tree)))))))
    (Behaves-refused v _ _ _ tied)) (Behaves-refused v _ _ _ tied)
