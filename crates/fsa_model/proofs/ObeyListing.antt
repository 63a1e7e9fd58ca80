-- Listing a directory keeps what every try keeps.
use Rattle.std.proofs.Common.{◌≡◌, ℕ, zero, suc, ◌≤◌, Bool, true, false, not, List, length, refl, ap, ◌∙◌, inl, inr, ◌⊎◌, arith, Some, None, []}
use Rattle.std.specs.List.{find}
use Rattle.std.specs.Prelude.{◌==◌, nat_lt, is_some, option_map, take}
use Rattle.std.proofs.lemmas.Bool.{cases_Bool, ltb-false}
use Rattle.fsa_types.specs.Access.{has_any}
use Rattle.fsa_types.specs.Masks.{READ_DATA}
use Rattle.fsa_types.specs.Match.{is_refused}
use Rattle.fsa_types.specs.PackedRows.{PackRow, pack_kind}
use Rattle.fsa_types.specs.Packing.{bytes, fitting, head_size, longest_fitting, size}
use Rattle.fsa_types.specs.Rows.{row_of}
use Rattle.fsa_types.specs.declared.reply.PackKind.{PackKind}
use Rattle.fsa_types.specs.declared.request.Call.{Call}
use Rattle.fsa_types.specs.declared.request.DirKind.{DirKind}
use Rattle.fsa_types.specs.declared.request.Request.TheVariants as request
use Rattle.fsa_types.specs.declared.request.What.TheVariants.{Ask}
use Rattle.fsa_types.specs.declared.status.Status.{Status}
use Rattle.fsa_types.specs.declared.status.Status.TheVariants.{InvalidHandle, InvalidParameter, AccessDenied, ObjectNameInvalid, InfoLengthMismatch, BufferOverflow}
use Rattle.fsa_model.specs.Edits.{with_cursor}
use Rattle.fsa_model.specs.Lookups.{file_of_link, handle_of, is_opened_by}
use Rattle.fsa_model.specs.Outcome.{ends_with}
use Rattle.fsa_model.specs.QueryDir.{DirectoryEntry, begun_enumeration, entry_rows, how_many_fit, is_start, left_to_list, list_entries, none_left_status, place_after, query_dir_at, query_dir_by, query_dir_in, try_query_dir}
use Rattle.fsa_model.specs.Starving.{only_settlements_give}
use Rattle.fsa_model.specs.Volume.{Cursor, Handle, Volume}
use Rattle.fsa_model.proofs.FrameLaws.{FailsTo-cursor, KeepsFrame-cursor}
use Rattle.fsa_model.proofs.ObeyLaws.{Obeys, Obeys-if, Obeys-option, Obeys-refused}
use Rattle.fsa_model.proofs.PendLaws.{HandlesStay}
use Rattle.fsa_model.proofs.PlainLaws.{EndsPlain-same, TriesPlain-done}
use Rattle.fsa_model.proofs.RowLaws.{IsNumbered-change, change_at, change_at-number, change_at-same, find-map, find-same, option_cases}
use Rattle.fsa_model.proofs.QuietLaws.{Onward-leaves}
use Rattle.fsa_model.proofs.TryLaws.{FewNumbers-same, Leaves, Leaves-same_waits, SameNumbers, Tries-done, Watches-equal}

-- a query of a directory
abbrev pub queries : ℕ → ℕ → ℕ → DirKind → List ℕ → Bool → ℕ → Call
queries client number handle kind expression restart room = record { client = client; number = number; what = Ask (request.QueryDir handle kind expression restart room) }

-- ---- where an enumeration stands

-- a handle is found as before, wherever its enumeration stands
cursor-found : (v : Volume) (id : ℕ) (expression : List ℕ) (cursor : Cursor) (client number found : ℕ) → handle_of v client number ≡ Some found → handle_of (with_cursor v id expression cursor) client number ≡ Some found
cursor-found v id expression cursor client number found is =
    let change : Handle → Handle = λ row. record row { enumeration = Some (expression, cursor) } in
    let test : ℕ × Handle → Bool = λ entry. is_opened_by client number entry.1 in
    let through = find-map test (change_at change id) v.handles in
    let same = find-same (λ entry. test (change_at change id entry)) test v.handles (λ entry. change_at-same change id (is_opened_by client number) (λ row. refl) entry) in
    elim (option_cases (find test v.handles)) [
      | inl none ↦ (let impossible : None ≡ Some found = rw none at is in cc)
      | inr some ↦ (let number_is : Some some.0.0 ≡ Some found = rw some.1 at is in
          let moved : find test (with_cursor v id expression cursor).handles ≡ Some (change_at change id some.0) = through ∙ ap (option_map (change_at change id)) (same ∙ some.1) in
          rw moved (rw (change_at-number change id some.0) number_is))
    ]

HandlesStay-cursor : (v : Volume) (id : ℕ) (expression : List ℕ) (cursor : Cursor) → HandlesStay v (with_cursor v id expression cursor)
HandlesStay-cursor v id expression cursor = record {
  found = λ client number found is. cursor-found v id expression cursor client number found is;
  numbered = λ numbered. IsNumbered-change (λ row. record row { enumeration = Some (expression, cursor) }) v.handles v.last_handle id numbered;
}

SameNumbers-cursor : (v : Volume) (id : ℕ) (expression : List ℕ) (cursor : Cursor) → SameNumbers v (with_cursor v id expression cursor)
SameNumbers-cursor v id expression cursor = record { files = refl; links = refl; streams = refl; handles = refl; locks = refl }

Leaves-cursor : (v : Volume) (id : ℕ) (expression : List ℕ) (cursor : Cursor) → Leaves v (with_cursor v id expression cursor)
Leaves-cursor v id expression cursor =
    Leaves-same_waits v (with_cursor v id expression cursor)
    (record { oplocks = refl; locks = refl; pending = refl; ended = refl; last_break = refl; last_lock = refl; seen = Watches-equal refl refl; stay = HandlesStay-cursor v id expression cursor })

-- ---- what is given

-- what fits is no larger than the room
fits-longest : (kind : PackKind) (rows : List PackRow) (room most : ℕ) → (longest_fitting kind rows room most ≡ 0) ⊎ (size kind (take (longest_fitting kind rows room most) rows) ≤ room)
fits-longest kind rows room zero = inl refl
fits-longest kind rows room (suc most) = elim (cases_Bool (nat_lt room (size kind (take (suc most) rows)))) [
  | inl over ↦ rw over (fits-longest kind rows room most)
  | inr within ↦ rw within (inr (ltb-false room (size kind (take (suc most) rows)) within))
]

fits-room : (kind : PackKind) (rows : List PackRow) (room : ℕ) → (fitting kind rows room == 0) ≡ false → size kind (take (fitting kind rows room) rows) ≤ room
fits-room kind rows room some = elim (fits-longest kind rows room (length rows)) [
  | inl none ↦ (let impossible : true ≡ false = rw none at some in cc)
  | inr fits ↦ fits
]

-- and where nothing fits nothing is given
pub fits-any : (kind : PackKind) (rows : List PackRow) (room : ℕ) → bytes kind [] ≡ [] → length (bytes kind (take (fitting kind rows room) rows)) ≤ room
fits-any kind rows room none_there = elim (fits-longest kind rows room (length rows)) [
  | inl none ↦ rw none (omega arith)
  | inr fits ↦ fits
]

none_left-plain : (cursor : Cursor) → only_settlements_give (none_left_status cursor) ≡ false
none_left-plain cursor = elim (cases_Bool (is_start cursor)) [ inl is ↦ rw is refl | inr isnt ↦ rw isnt refl ]

list_entries-obeys : (v : Volume) (client number handle : ℕ) (kind asked_kind : DirKind) (asked : List ℕ) (restart : Bool) (id : ℕ) (expression : List ℕ) (cursor : Cursor) (entries : List DirectoryEntry) (room : ℕ)
    → Obeys (queries client number handle asked_kind asked restart room) v (list_entries v id kind expression cursor entries room)
unfolding list_entries
list_entries-obeys v client number handle kind asked_kind asked restart id expression cursor entries room =
    Obeys-if (length entries == 0) _ _ (λ none. fails (none_left_status cursor) (none_left-plain cursor))
    (λ some. Obeys-if (how_many_fit v kind entries room == 0) _ _ (λ none. fails BufferOverflow refl)
    (λ fit. record {
      tries = λ one. Tries-done _ _ (Leaves-cursor v id expression (after room)) (FewNumbers-same (SameNumbers-cursor v id expression (after room)));
      spares = λ never. SameNumbers-cursor v id expression (after room);
      frame = λ points. record {
        so = (
          KeepsFrame-cursor call v id expression (after room) (λ other. refl),
          (record { bytes = fits-room (pack_kind kind) (entry_rows v entries) room fit; units = omega arith }, λ is. FailsTo-cursor call.what v id expression (after room) refl),
        );
      };
      plain = TriesPlain-done v (with_cursor v id expression (after room)) _ (EndsPlain-same refl) refl;
      onward = Onward-leaves v (with_cursor v id expression (after room)) (Leaves-cursor v id expression (after room)) refl refl;
    }))
  where
    call : Call
    call = queries client number handle asked_kind asked restart room

    after : ℕ → Cursor
    after most = place_after cursor entries (how_many_fit v kind entries most)

    fails : (why : Status) → only_settlements_give why ≡ false → Obeys call v (ends_with (with_cursor v id expression cursor) why)
    fails why plain = record {
      tries = λ one. Tries-done _ _ (Leaves-cursor v id expression cursor) (FewNumbers-same (SameNumbers-cursor v id expression cursor));
      spares = λ never. SameNumbers-cursor v id expression cursor;
      frame = λ points. record { so = (KeepsFrame-cursor call v id expression cursor (λ other. refl), (record { bytes = omega arith; units = omega arith }, λ is. FailsTo-cursor call.what v id expression cursor refl)) };
      plain = TriesPlain-done v (with_cursor v id expression cursor) _ (EndsPlain-same refl) plain;
      onward = Onward-leaves v (with_cursor v id expression cursor) (Leaves-cursor v id expression cursor) refl refl;
    }

query_dir_by-obeys : (v : Volume) (client number handle : ℕ) (kind : DirKind) (expression : List ℕ) (restart : Bool) (id : ℕ) (row : Handle) (room : ℕ)
    → Obeys (queries client number handle kind expression restart room) v (query_dir_by v id row kind expression restart room)
unfolding query_dir_by query_dir_in
query_dir_by-obeys v client number handle kind expression restart id row room =
    let call : Call = queries client number handle kind expression restart room in
    Obeys-if (is_some row.stream) _ _ (λ is. Obeys-refused call v InvalidParameter refl)
    (λ no. Obeys-if (not (has_any row.access READ_DATA)) _ _ (λ is. Obeys-refused call v AccessDenied refl)
    (λ no. Obeys-if (is_refused expression) _ _ (λ is. Obeys-refused call v ObjectNameInvalid refl)
    (λ no. Obeys-if (nat_lt room (head_size (pack_kind kind))) _ _ (λ is. Obeys-refused call v InfoLengthMismatch refl)
    (λ no. Obeys-option (file_of_link v.links row.link)
    (λ dir. query_dir_in v id dir kind (begun_enumeration row expression restart).0 (begun_enumeration row expression restart).1 room) _
    (λ dir found. list_entries-obeys v client number handle kind kind expression restart id (begun_enumeration row expression restart).0 (begun_enumeration row expression restart).1
    (left_to_list v dir (begun_enumeration row expression restart).0 (begun_enumeration row expression restart).1) room)
    (Obeys-refused call v InvalidHandle refl)))))

pub try_query_dir-obeys : (v : Volume) (client number handle : ℕ) (kind : DirKind) (expression : List ℕ) (restart : Bool) (room : ℕ)
    → Obeys (queries client number handle kind expression restart room) v (try_query_dir v client handle kind expression restart room)
unfolding try_query_dir query_dir_at
try_query_dir-obeys v client number handle kind expression restart room =
    let call : Call = queries client number handle kind expression restart room in
    Obeys-option (handle_of v client handle) (λ id. query_dir_at v id kind expression restart room) _
    (λ id found. Obeys-option (row_of v.handles id) (λ row. query_dir_by v id row kind expression restart room) _
    (λ row is. query_dir_by-obeys v client number handle kind expression restart id row room) (Obeys-refused call v InvalidHandle refl))
    (Obeys-refused call v InvalidHandle refl)
