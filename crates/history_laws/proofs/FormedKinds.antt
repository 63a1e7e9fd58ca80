-- The tree stays well formed by the changes that a call asks for, one after the other: what each kind of change asks of the volume
-- before it, and lists of them.
use Rattle.std.proofs.Common.{◌≡◌, ℕ, suc, ◌+◌, Bool, true, false, List, [], ◌∷◌, ◌++◌, length, get_or, eq-eqb, refl, sym, ap, subst, ◌∙◌, arith, inl, inr, Option, Some, None}
use Rattle.std.specs.Prelude.{◌==◌, ◌≤◌, ◌<◌, ◌&&◌, ◌||◌, All, not, is_some, filter, cond}
use Rattle.std.specs.List.{list_any}
use Rattle.std.proofs.lemmas.Bool.{cases_Bool, eqb-true, not-true}
use Rattle.std.proofs.lemmas.List.Elements.{All-filter, All-map, All-push, filter_passes}
use Rattle.std.proofs.lemmas.List.Folds.{list_any-append, list_any_none}
use Rattle.fsa_types.specs.Masks.{FILE_ACTION_ADDED, FILE_ACTION_ADDED_STREAM, FILE_ACTION_MODIFIED, FILE_ACTION_MODIFIED_STREAM, FILE_ACTION_REMOVED, FILE_ACTION_RENAMED_NEW_NAME, FILE_ACTION_RENAMED_OLD_NAME, FILE_NOTIFY_CHANGE_ATTRIBUTES, FILE_NOTIFY_CHANGE_DIR_NAME, FILE_NOTIFY_CHANGE_FILE_NAME, FILE_NOTIFY_CHANGE_SECURITY, FILE_NOTIFY_CHANGE_STREAM_NAME}
use Rattle.fsa_types.specs.Rows.{IsNumbered, row_of, with_row_changed, without_row}
use Rattle.fsa_types.specs.StreamBytes.{put, cut}
use Rattle.fsa_types.specs.declared.request.DaclChange.{DaclChange}
use Rattle.fsa_types.specs.declared.request.DaclChange.TheVariants.{Keep, Remove, Put}
use Rattle.fsa_model.specs.Changes.{with_change_noted}
use Rattle.fsa_model.specs.Edits.{with_file, with_link, with_link_moved, with_point, with_stream, without_file_unless_linked, without_link, without_stream}
use Rattle.fsa_model.specs.Lookups.{has_child, has_row, is_marked, is_named_stream, parent_of}
use Rattle.fsa_model.specs.Once.{how_many}
use Rattle.fsa_model.specs.Security.{asks_something, mapped, with_dacl_asked, with_owner_asked}
use Rattle.fsa_model.specs.SetBasic.{basic_bits, with_basics}
use Rattle.fsa_model.specs.Volume.{File, Link, Stream, Volume}
use Rattle.fsa_model.proofs.CountLaws.{how_many-append, how_many-filter_le, how_many-map, how_many-none, how_many-same}
use Rattle.fsa_model.proofs.RowLaws.{IsNumbered-change, IsNumbered-filter, IsNumbered-push, any-filter, any-filter_none, any-map, any-push, any-same, change_at, change_at-number, change_at-same, eqb-swap, none-all, option_cases, row_of-here}
use Rattle.history_laws.specs.TreeChanges.{TreeChange, MakesDirectory, MakesFile, MakesStream, AddsLink, MovesLink, RemovesLink, RemovesStream, MarksLink, MarksStream, Writes, Resizes, Overwrites, SetsBasics, SetsSecurity, SetsPoint, SetsChangeTime, filter_of_name, with_bytes_noted, with_move, with_security_of, with_tree_change, with_tree_changes}
use Rattle.history_laws.specs.WellFormed.{IsLinkName, IsStreamName, IsWellFormed}
use Rattle.history_laws.proofs.OverKinds.{noted-files}
use Rattle.history_laws.proofs.SoundKinds.{noted-holds}

-- ---- what is kept

-- the tree is well formed, and no default stream is marked; streams are numbered
pub record Formed (v : Volume) : Type 0 where
  pub well : IsWellFormed v
  pub unmarked : All (λ entry. (entry.1.deleted && length entry.1.name == 0) ≡ false) v.streams
  pub numbered : IsNumbered v.streams v.last_stream

-- what has a reparse point isn't this
abbrev pub NoPoint : Volume → ℕ → Type 0
NoPoint v dir = All (λ entry. is_some entry.1.point ≡ true → (entry.0 == dir) ≡ false) v.files

-- this is no default stream
abbrev pub IsNamed : Volume → ℕ → Type 0
IsNamed v stream = All (λ entry. (entry.0 == stream) ≡ true → (length entry.1.name == 0) ≡ false) v.streams

-- what a change asks of the volume before it
abbrev pub FormedFits : Volume → TreeChange → Type 0
FormedFits v (MakesDirectory dir name file) =
    IsLinkName name × NoPoint v dir × (has_row (λ link. link.file == v.last_file + 1) v.links ≡ false) × (file.directory ≡ true) × (file.point ≡ None)
FormedFits v (MakesFile dir name file) = IsLinkName name × NoPoint v dir × (has_row (λ link. link.file == v.last_file + 1) v.links ≡ false) × (file.point ≡ None)
FormedFits v (MakesStream link file name) = IsStreamName name
FormedFits v (AddsLink dir name file) = IsLinkName name × NoPoint v dir × (how_many (λ link. link.1.file == file) v.links < 1024)
FormedFits v (MovesLink link dir name) = IsLinkName name × NoPoint v dir
FormedFits v (RemovesStream link stream) = IsNamed v stream
FormedFits v (MarksStream stream true) = IsNamed v stream
FormedFits v (SetsPoint link file (Some point)) = ((file == 1) ≡ false) × (has_child v.links file ≡ false)
FormedFits v _ = Unit {0}

-- each fits the volume that those before it leave
abbrev pub FormedFitsAll : Volume → List TreeChange → Type 0
FormedFitsAll v [] = Unit {0}
FormedFitsAll v (change ∷ more) = FormedFits v change × FormedFitsAll (with_tree_change v change) more

-- ---- volumes with the same tree

pub formed-same : (v w : Volume) → w.files ≡ v.files → w.links ≡ v.links → w.streams ≡ v.streams → w.last_stream ≡ v.last_stream → Formed v → Formed w
formed-same v w files links streams last_stream formed = record {
  well = record {
    link_names = rw links formed.well.link_names;
    stream_names = rw streams formed.well.stream_names;
    default_streams = rw (files, streams) formed.well.default_streams;
    few_links = rw (files, links) formed.well.few_links;
    points = rw (files, links) formed.well.points;
  };
  unmarked = rw streams formed.unmarked;
  numbered = rw (streams, last_stream) formed.numbered;
}

pub formed-noted : (v : Volume) (link action bits : ℕ) (stream : Option ℕ) → Formed v → Formed (with_change_noted v link action bits stream)
formed-noted v link action bits stream formed = noted-holds Formed v link action bits stream (λ changes. formed-same v _ refl refl refl refl formed)

-- ---- one row changed

-- a file changed that stays a directory or none; a point that it gets isn't the root's, and nothing is in it
formed-file_changed : (v : Volume) (change : File → File) (id : ℕ) → ((row : File) → (change row).directory ≡ row.directory)
    → All (λ entry. is_some (change_at change id entry).1.point ≡ true → ((entry.0 == 1) ≡ false) × (has_child v.links entry.0 ≡ false)) v.files
    → Formed v → Formed (record v { files = with_row_changed change v.files id })
formed-file_changed v change id keeps pointed formed = record {
  well = record {
    link_names = formed.well.link_names;
    stream_names = formed.well.stream_names;
    default_streams = All-map (λ (entry : ℕ × File). entry.1.directory ≡ false → has_row (λ stream. stream.file == entry.0 && length stream.name == 0) v.streams ≡ true) (change_at change id) v.files
        (λ k d within. rw (change_at-number change id (get_or v.files k d), change_at-same change id (λ (row : File). row.directory) keeps (get_or v.files k d)) (formed.well.default_streams k d within));
    few_links = All-map (λ (entry : ℕ × File). how_many (λ (link : ℕ × Link). link.1.file == entry.0) v.links ≤ 1024) (change_at change id) v.files
        (λ k d within. rw (change_at-number change id (get_or v.files k d)) (formed.well.few_links k d within));
    points = All-map (λ (entry : ℕ × File). is_some entry.1.point ≡ true → ((entry.0 == 1) ≡ false) × (has_child v.links entry.0 ≡ false)) (change_at change id) v.files
        (λ k d within. rw (change_at-number change id (get_or v.files k d)) (pointed k d within));
  };
  unmarked = formed.unmarked;
  numbered = formed.numbered;
}

-- one that keeps its point too
pub formed-file : (v : Volume) (change : File → File) (id : ℕ) → ((row : File) → (change row).directory ≡ row.directory) → ((row : File) → (change row).point ≡ row.point)
    → Formed v → Formed (record v { files = with_row_changed change v.files id })
formed-file v change id keeps same formed = formed-file_changed v change id keeps
    (λ k d within. rw (change_at-same change id (λ (row : File). row.point) same (get_or v.files k d)) (formed.well.points k d within)) formed

-- a link changed that keeps its file; its new name may be one, and what has a point still has nothing in it
pub formed-link_changed : (v : Volume) (change : Link → Link) (id : ℕ) → ((row : Link) → (change row).file ≡ row.file)
    → All (λ entry. IsLinkName (change_at change id entry).1.name) v.links
    → All (λ entry. is_some entry.1.point ≡ true → has_child (with_row_changed change v.links id) entry.0 ≡ false) v.files
    → Formed v → Formed (record v { links = with_row_changed change v.links id })
formed-link_changed v change id keeps named childless formed = record {
  well = record {
    link_names = All-map (λ (entry : ℕ × Link). IsLinkName entry.1.name) (change_at change id) v.links named;
    stream_names = formed.well.stream_names;
    default_streams = formed.well.default_streams;
    few_links = λ k d within. rw (as_many (get_or v.files k d).0) (formed.well.few_links k d within);
    points = λ k d within is. ((formed.well.points k d within is).0, childless k d within is);
  };
  unmarked = formed.unmarked;
  numbered = formed.numbered;
}
  where
    as_many : (file : ℕ) → how_many (λ (link : ℕ × Link). link.1.file == file) (with_row_changed change v.links id) ≡ how_many (λ (link : ℕ × Link). link.1.file == file) v.links
    as_many file =
        how_many-map (λ (link : ℕ × Link). link.1.file == file) (change_at change id) v.links
        ∙ how_many-same (λ (link : ℕ × Link). (change_at change id link).1.file == file) (λ link. link.1.file == file) v.links
        (λ link. change_at-same change id (λ (row : Link). row.file == file) (λ row. ap (λ (f : ℕ). f == file) (keeps row)) link)

pub formed-link_marked : (v : Volume) (link : ℕ) (marked : Bool) → Formed v → Formed (record v { links = with_row_changed (λ (row : Link). record row { deleted = marked }) v.links link })
formed-link_marked v link marked formed = formed-link_changed v change link (λ row. refl)
    (λ k d within. rw (change_at-same change link (λ (row : Link). row.name) (λ row. refl) (get_or v.links k d)) (formed.well.link_names k d within))
    (λ k d within is. (any-map (λ (entry : ℕ × Link). entry.1.parent == (get_or v.files k d).0) (change_at change link) v.links
    ∙ any-same (λ (entry : ℕ × Link). (change_at change link entry).1.parent == (get_or v.files k d).0) (λ entry. entry.1.parent == (get_or v.files k d).0) v.links
    (λ entry. change_at-same change link (λ (row : Link). row.parent == (get_or v.files k d).0) (λ row. refl) entry))
    ∙ (formed.well.points k d within is).1) formed
  where
    change : Link → Link
    change row = record row { deleted = marked }

formed-moved : (v : Volume) (link dir : ℕ) (name : List ℕ) → IsLinkName name → NoPoint v dir → Formed v → Formed (with_link_moved v link dir name)
formed-moved v link dir name named free formed = formed-link_changed v change link (λ row. refl) names childless formed
  where
    change : Link → Link
    change row = record row { parent = dir; name = name }

    names : All (λ entry. IsLinkName (change_at change link entry).1.name) v.links
    names k d within = elim (cases_Bool ((get_or v.links k d).0 == link)) [
      | inl here ↦ rw here named
      | inr other ↦ rw other (formed.well.link_names k d within)
    ]

    elsewhere : (file : ℕ) → (file == dir) ≡ false → has_child v.links file ≡ false → has_child (with_row_changed change v.links link) file ≡ false
    elsewhere file apart none =
        any-map (λ (entry : ℕ × Link). entry.1.parent == file) (change_at change link) v.links
        ∙ list_any_none (λ (entry : ℕ × Link). (change_at change link entry).1.parent == file) v.links
        (λ k d within. elim (cases_Bool ((get_or v.links k d).0 == link)) [
          | inl here ↦ rw here (eqb-swap dir file ∙ apart)
          | inr other ↦ rw other (none-all (λ (entry : ℕ × Link). entry.1.parent == file) v.links none k d within)
        ])

    childless : All (λ entry. is_some entry.1.point ≡ true → has_child (with_row_changed change v.links link) entry.0 ≡ false) v.files
    childless k d within is = elsewhere (get_or v.files k d).0 (free k d within is) (formed.well.points k d within is).1

-- a stream changed that keeps its file and its name; a default stream isn't marked
pub formed-stream_changed : (v : Volume) (change : Stream → Stream) (id : ℕ) → ((row : Stream) → (change row).file ≡ row.file) → ((row : Stream) → (change row).name ≡ row.name)
    → All (λ entry. ((change_at change id entry).1.deleted && length entry.1.name == 0) ≡ false) v.streams
    → Formed v → Formed (record v { streams = with_row_changed change v.streams id })
formed-stream_changed v change id keeps same unmarked formed = record {
  well = record {
    link_names = formed.well.link_names;
    stream_names = All-map (λ (entry : ℕ × Stream). IsStreamName entry.1.name) (change_at change id) v.streams
        (λ k d within. rw (change_at-same change id (λ (row : Stream). row.name) same (get_or v.streams k d)) (formed.well.stream_names k d within));
    default_streams = λ k d within is. still (get_or v.files k d).0 ∙ formed.well.default_streams k d within is;
    few_links = formed.well.few_links;
    points = formed.well.points;
  };
  unmarked = All-map (λ (entry : ℕ × Stream). (entry.1.deleted && length entry.1.name == 0) ≡ false) (change_at change id) v.streams
      (λ k d within. rw (change_at-same change id (λ (row : Stream). row.name) same (get_or v.streams k d)) (unmarked k d within));
  numbered = IsNumbered-change change v.streams v.last_stream id formed.numbered;
}
  where
    still : (file : ℕ) → has_row (λ stream. stream.file == file && length stream.name == 0) (with_row_changed change v.streams id) ≡ has_row (λ stream. stream.file == file && length stream.name == 0) v.streams
    still file =
        any-map (λ (entry : ℕ × Stream). entry.1.file == file && length entry.1.name == 0) (change_at change id) v.streams
        ∙ any-same (λ (entry : ℕ × Stream). (change_at change id entry).1.file == file && length (change_at change id entry).1.name == 0)
        (λ entry. entry.1.file == file && length entry.1.name == 0) v.streams
        (λ entry. change_at-same change id (λ (row : Stream). row.file == file && length row.name == 0) (λ row. rw (keeps row, same row) refl) entry)

formed-stream_bytes : (v : Volume) (change : List ℕ → List ℕ) (stream : ℕ) → Formed v
    → Formed (record v { streams = with_row_changed (λ (row : Stream). record row { bytes = change row.bytes }) v.streams stream })
formed-stream_bytes v change stream formed = formed-stream_changed v changed stream (λ row. refl) (λ row. refl)
    (λ k d within. rw (change_at-same changed stream (λ (row : Stream). row.deleted) (λ row. refl) (get_or v.streams k d)) (formed.unmarked k d within)) formed
  where
    changed : Stream → Stream
    changed row = record row { bytes = change row.bytes }

pub formed-stream_marked : (v : Volume) (stream : ℕ) (marked : Bool) → (marked ≡ true → IsNamed v stream) → Formed v
    → Formed (record v { streams = with_row_changed (λ (row : Stream). record row { deleted = marked }) v.streams stream })
formed-stream_marked v stream marked named formed = formed-stream_changed v changed stream (λ row. refl) (λ row. refl) kept formed
  where
    changed : Stream → Stream
    changed row = record row { deleted = marked }

    so : (test : Bool) → marked ≡ test → (name : List ℕ) → (marked ≡ true → (length name == 0) ≡ false) → (test && length name == 0) ≡ false
    so true is name named = named is
    so false is name named = refl

    kept : All (λ entry. ((change_at changed stream entry).1.deleted && length entry.1.name == 0) ≡ false) v.streams
    kept k d within = elim (cases_Bool ((get_or v.streams k d).0 == stream)) [
      | inl here ↦ rw here (so marked refl (get_or v.streams k d).1.name (λ is. named is k d within here))
      | inr other ↦ rw other (formed.unmarked k d within)
    ]

-- ---- one row more

formed-stream_more : (v : Volume) (file : ℕ) (name : List ℕ) → IsStreamName name → Formed v → Formed (with_stream v file name)
formed-stream_more v file name good formed = record {
  well = record {
    link_names = formed.well.link_names;
    stream_names = All-push (λ (entry : ℕ × Stream). IsStreamName entry.1.name) v.streams new formed.well.stream_names good;
    default_streams = λ k d within is. any-push (λ (entry : ℕ × Stream). entry.1.file == (get_or v.files k d).0 && length entry.1.name == 0) v.streams (new ∷ []) (formed.well.default_streams k d within is);
    few_links = formed.well.few_links;
    points = formed.well.points;
  };
  unmarked = All-push (λ (entry : ℕ × Stream). (entry.1.deleted && length entry.1.name == 0) ≡ false) v.streams new formed.unmarked refl;
  numbered = IsNumbered-push v.streams v.last_stream new.1 formed.numbered;
}
  where
    new : ℕ × Stream
    new = (v.last_stream + 1, record { file = file; name = name; bytes = []; deleted = false })

formed-link_more : (v : Volume) (dir : ℕ) (name : List ℕ) (file : ℕ) → IsLinkName name → NoPoint v dir → how_many (λ link. link.1.file == file) v.links < 1024
    → Formed v → Formed (with_link v dir name file)
formed-link_more v dir name file named free few formed = record {
  well = record {
    link_names = All-push (λ (entry : ℕ × Link). IsLinkName entry.1.name) v.links new formed.well.link_names named;
    stream_names = formed.well.stream_names;
    default_streams = formed.well.default_streams;
    few_links = λ k d within. rw (how_many-append (λ (link : ℕ × Link). link.1.file == (get_or v.files k d).0) v.links (new ∷ [])) (at_most (get_or v.files k d).0 (formed.well.few_links k d within));
    points = λ k d within is. ((formed.well.points k d within is).0, elsewhere (get_or v.files k d).0 (free k d within is) (formed.well.points k d within is).1);
  };
  unmarked = formed.unmarked;
  numbered = formed.numbered;
}
  where
    new : ℕ × Link
    new = (v.last_link + 1, record { parent = dir; name = name; file = file; deleted = false })

    at_most : (other : ℕ) → how_many (λ (link : ℕ × Link). link.1.file == other) v.links ≤ 1024 → how_many (λ (link : ℕ × Link). link.1.file == other) v.links + (cond (file == other) 1 0 + 0) ≤ 1024
    at_most other bound = elim (cases_Bool (file == other)) [
      | inl same ↦ (let less : how_many (λ (link : ℕ × Link). link.1.file == other) v.links < 1024 = subst (λ (n : ℕ). how_many (λ (link : ℕ × Link). link.1.file == n) v.links < 1024) (eqb-true file other same) few in
          rw same (omega (arith, less)))
      | inr apart ↦ rw apart (omega (arith, bound))
    ]

    elsewhere : (other : ℕ) → (other == dir) ≡ false → has_child v.links other ≡ false → has_child (v.links ++ new ∷ []) other ≡ false
    elsewhere other apart none = list_any-append (λ (entry : ℕ × Link). entry.1.parent == other) v.links (new ∷ []) ∙ rw (none, eqb-swap dir other ∙ apart) refl

-- a file without a link, with its default stream where it's no directory
formed-file_more : (v : Volume) (file : File) → file.point ≡ None → has_row (λ link. link.file == v.last_file + 1) v.links ≡ false
    → (file.directory ≡ false → has_row (λ stream. stream.file == v.last_file + 1 && length stream.name == 0) v.streams ≡ true) → Formed v → Formed (with_file v file)
formed-file_more v file pointless unlinked default formed = record {
  well = record {
    link_names = formed.well.link_names;
    stream_names = formed.well.stream_names;
    default_streams = All-push (λ (entry : ℕ × File). entry.1.directory ≡ false → has_row (λ stream. stream.file == entry.0 && length stream.name == 0) v.streams ≡ true) v.files (v.last_file + 1, file)
        formed.well.default_streams default;
    few_links = All-push (λ (entry : ℕ × File). how_many (λ (link : ℕ × Link). link.1.file == entry.0) v.links ≤ 1024) v.files (v.last_file + 1, file) formed.well.few_links
        (rw (how_many-none (λ (link : ℕ × Link). link.1.file == v.last_file + 1) v.links unlinked) (omega arith));
    points = All-push (λ (entry : ℕ × File). is_some entry.1.point ≡ true → ((entry.0 == 1) ≡ false) × (has_child v.links entry.0 ≡ false)) v.files (v.last_file + 1, file) formed.well.points
        (λ is. absurd (let impossible : false ≡ true = rw pointless at is in cc));
  };
  unmarked = formed.unmarked;
  numbered = formed.numbered;
}

-- ---- one row fewer

any-filter_all : {X : Type 0} (p q : X → Bool) (xs : List X) → All (λ x. p x ≡ true → q x ≡ true) xs → list_any p xs ≡ true → list_any p (filter q xs) ≡ true
any-filter_all p q [] keeps some = cc
any-filter_all p q (x ∷ xs) keeps some = elim (cases_Bool (p x)) [
  | inl passes ↦ rw (keeps 0 x (omega arith) passes, passes) refl
  | inr fails ↦ (let later : list_any p (filter q xs) ≡ true = any-filter_all p q xs (λ k d within. keeps (suc k) d (omega arith)) (rw fails at some) in
      elim (cases_Bool (q x)) [
        | inl stays ↦ rw (stays, fails) later
        | inr goes ↦ rw goes later
      ])
]

-- a stream fewer, no default stream
pub formed-without_stream : (v : Volume) (stream : ℕ) → IsNamed v stream → Formed v → Formed (without_stream v stream)
formed-without_stream v stream named formed = record {
  well = record {
    link_names = formed.well.link_names;
    stream_names = All-filter keep (λ (entry : ℕ × Stream). IsStreamName entry.1.name) v.streams formed.well.stream_names;
    default_streams = λ k d within is. any-filter_all (λ (entry : ℕ × Stream). entry.1.file == (get_or v.files k d).0 && length entry.1.name == 0) keep v.streams
        (λ j e inside passes. stays (get_or v.streams j e) (get_or v.files k d).0 (named j e inside) passes) (formed.well.default_streams k d within is);
    few_links = formed.well.few_links;
    points = formed.well.points;
  };
  unmarked = All-filter keep (λ (entry : ℕ × Stream). (entry.1.deleted && length entry.1.name == 0) ≡ false) v.streams formed.unmarked;
  numbered = IsNumbered-filter keep v.streams v.last_stream formed.numbered;
}
  where
    keep : ℕ × Stream → Bool
    keep entry = not (entry.0 == stream)

    stays : (entry : ℕ × Stream) (file : ℕ) → ((entry.0 == stream) ≡ true → (length entry.1.name == 0) ≡ false) → (entry.1.file == file && length entry.1.name == 0) ≡ true → not (entry.0 == stream) ≡ true
    stays entry file other passes = elim (cases_Bool (entry.0 == stream)) [
      | inr apart ↦ rw apart refl
      | inl same ↦ (let no : (length entry.1.name == 0) ≡ false = other same in
          elim (cases_Bool (entry.1.file == file)) [
            | inl its ↦ (let impossible : false ≡ true = rw (its, no) at passes in cc)
            | inr of_another ↦ (let impossible : false ≡ true = rw of_another at passes in cc)
          ])
    ]

-- a link fewer, and with its last one its file and the file's streams
pub formed-without_link : (v : Volume) (link : ℕ) → Formed v → Formed (without_link v link)
formed-without_link v link formed = elim (option_cases (row_of v.links link)) [
  | inl none ↦ rw none formed
  | inr some ↦ rw some.1 (by_rest some.0.file)
]
  where
    keep : ℕ × Link → Bool
    keep entry = not (entry.0 == link)

    out : Volume
    out = record v { links = without_row v.links link }

    linkless : Formed out
    linkless = record {
      well = record {
        link_names = All-filter keep (λ (entry : ℕ × Link). IsLinkName entry.1.name) v.links formed.well.link_names;
        stream_names = formed.well.stream_names;
        default_streams = formed.well.default_streams;
        few_links = λ k d within. (let fewer = how_many-filter_le (λ (link : ℕ × Link). link.1.file == (get_or v.files k d).0) keep v.links in
            let bound = formed.well.few_links k d within in omega (arith, fewer, bound));
        points = λ k d within is. (
          (formed.well.points k d within is).0,
          any-filter_none (λ (entry : ℕ × Link). entry.1.parent == (get_or v.files k d).0) keep v.links (formed.well.points k d within is).1,
        );
      };
      unmarked = formed.unmarked;
      numbered = formed.numbered;
    }

    fileless : (file : ℕ) → Formed (record out { files = without_row v.files file; streams = filter (λ (entry : ℕ × Stream). not (entry.1.file == file)) v.streams })
    fileless file = record {
      well = record {
        link_names = linkless.well.link_names;
        stream_names = All-filter others (λ (entry : ℕ × Stream). IsStreamName entry.1.name) v.streams formed.well.stream_names;
        default_streams = λ k d within is. any-filter (λ (entry : ℕ × Stream). entry.1.file == (get_or (without_row v.files file) k d).0 && length entry.1.name == 0) others v.streams
            (λ entry passes. of_another entry (get_or (without_row v.files file) k d).0 (not-true _ (filter_passes files v.files k d within)) passes)
            (All-filter files (λ (entry : ℕ × File). entry.1.directory ≡ false → has_row (λ stream. stream.file == entry.0 && length stream.name == 0) v.streams ≡ true) v.files formed.well.default_streams k d within is);
        few_links = All-filter files (λ (entry : ℕ × File). how_many (λ (link : ℕ × Link). link.1.file == entry.0) out.links ≤ 1024) v.files linkless.well.few_links;
        points = All-filter files (λ (entry : ℕ × File). is_some entry.1.point ≡ true → ((entry.0 == 1) ≡ false) × (has_child out.links entry.0 ≡ false)) v.files linkless.well.points;
      };
      unmarked = All-filter others (λ (entry : ℕ × Stream). (entry.1.deleted && length entry.1.name == 0) ≡ false) v.streams formed.unmarked;
      numbered = IsNumbered-filter others v.streams v.last_stream formed.numbered;
    }
      where
        others : ℕ × Stream → Bool
        others entry = not (entry.1.file == file)

        files : ℕ × File → Bool
        files entry = not (entry.0 == file)

        of_another : (entry : ℕ × Stream) (other : ℕ) → (other == file) ≡ false → (entry.1.file == other && length entry.1.name == 0) ≡ true → not (entry.1.file == file) ≡ true
        of_another entry other apart passes = elim (cases_Bool (entry.1.file == other)) [
          | inl its ↦ (let same : entry.1.file ≡ other = eqb-true entry.1.file other its in rw (same, apart) refl)
          | inr isnt ↦ (let impossible : false ≡ true = rw isnt at passes in cc)
        ]

    by_rest : (file : ℕ) → Formed (without_file_unless_linked out file)
    by_rest file = elim (cases_Bool (has_row (λ l. l.file == file) (without_row v.links link))) [
      | inl linked ↦ rw linked linkless
      | inr unlinked ↦ rw unlinked (fileless file)
    ]

-- ---- named streams

-- a stream with a name is no default stream, and neither is a marked one
pub named-named : (v : Volume) (stream : ℕ) → Formed v → is_named_stream v stream ≡ true → IsNamed v stream
named-named v stream formed named k d within here =
    (let row : row_of v.streams stream ≡ Some (get_or v.streams k d).1
    = subst (λ (n : ℕ). row_of v.streams n ≡ Some (get_or v.streams k d).1) (eqb-true (get_or v.streams k d).0 stream here) (row_of-here v.streams v.last_stream k d formed.numbered within) in
    not-true (length (get_or v.streams k d).1.name == 0) (rw row at named))

pub named-marked : (v : Volume) (stream : ℕ) → Formed v → is_marked v stream ≡ true → IsNamed v stream
named-marked v stream formed marked k d within here =
    (let row : row_of v.streams stream ≡ Some (get_or v.streams k d).1
    = subst (λ (n : ℕ). row_of v.streams n ≡ Some (get_or v.streams k d).1) (eqb-true (get_or v.streams k d).0 stream here) (row_of-here v.streams v.last_stream k d formed.numbered within) in
    let deleted : (get_or v.streams k d).1.deleted ≡ true = rw row at marked in
    let default : ((get_or v.streams k d).1.deleted && length (get_or v.streams k d).1.name == 0) ≡ false = formed.unmarked k d within in
    rw deleted at default)

-- ---- each kind of change

formed-bytes_noted : (v : Volume) (link stream : ℕ) (named : Bool) (filters stream_filters : ℕ) → Formed v → Formed (with_bytes_noted v link stream named filters stream_filters)
formed-bytes_noted v link stream true filters stream_filters formed = formed-noted v link FILE_ACTION_MODIFIED_STREAM stream_filters (Some stream) formed
formed-bytes_noted v link stream false filters stream_filters formed = formed-noted v link FILE_ACTION_MODIFIED filters None formed

formed-owner : (v : Volume) (file : ℕ) (owner : Option ℕ) → Formed v → Formed (with_owner_asked v file owner)
formed-owner v file None formed = formed
formed-owner v file (Some sid) formed = formed-file v (λ row. record row { owner = sid }) file (λ row. refl) (λ row. refl) formed

formed-dacl : (v : Volume) (file : ℕ) (dacl : DaclChange) → Formed v → Formed (with_dacl_asked v file dacl)
formed-dacl v file Keep formed = formed
formed-dacl v file Remove formed = formed-file v (λ row. record row { dacl = None }) file (λ row. refl) (λ row. refl) formed
formed-dacl v file (Put dacl) formed = formed-file v (λ row. record row { dacl = Some (mapped dacl.items) }) file (λ row. refl) (λ row. refl) formed

formed-security : (v : Volume) (file : ℕ) (owner : Option ℕ) (dacl : DaclChange) → Formed v → Formed (with_security_of v file owner dacl)
formed-security v file owner dacl formed = formed-file _ _ file (λ row. refl) (λ row. refl) (formed-dacl (with_owner_asked v file owner) file dacl (formed-owner v file owner formed))

formed-move : (v : Volume) (link dir : ℕ) (name : List ℕ) (old new : ℕ) → IsLinkName name → NoPoint v dir → Formed v → Formed (with_move v link dir name old new)
formed-move v link dir name old new named free formed =
    formed-noted (with_link_moved (with_change_noted v link old (filter_of_name v link) None) link dir name) link new (filter_of_name v link) None
    (formed-moved (with_change_noted v link old (filter_of_name v link) None) link dir name named (rw (noted-files v link old (filter_of_name v link) None) free)
    (formed-noted v link old (filter_of_name v link) None formed))

formed-point : (v : Volume) (file : ℕ) (point : ℕ × List ℕ) → (file == 1) ≡ false → has_child v.links file ≡ false → Formed v → Formed (with_point v file (Some point))
formed-point v file point other childless formed = formed-file_changed v change file (λ row. refl) pointed formed
  where
    change : File → File
    change row = record row { point = Some point }

    pointed : All (λ entry. is_some (change_at change file entry).1.point ≡ true → ((entry.0 == 1) ≡ false) × (has_child v.links entry.0 ≡ false)) v.files
    pointed k d within = elim (cases_Bool ((get_or v.files k d).0 == file)) [
      | inl here ↦ rw (eqb-true (get_or v.files k d).0 file here) (λ is. (other, childless))
      | inr apart ↦ rw apart (formed.well.points k d within)
    ]

formed-point_removed : (v : Volume) (file : ℕ) → Formed v → Formed (with_point v file None)
formed-point_removed v file formed = formed-file_changed v change file (λ row. refl) pointed formed
  where
    change : File → File
    change row = record row { point = None }

    pointed : All (λ entry. is_some (change_at change file entry).1.point ≡ true → ((entry.0 == 1) ≡ false) × (has_child v.links entry.0 ≡ false)) v.files
    pointed k d within = elim (cases_Bool ((get_or v.files k d).0 == file)) [
      | inl here ↦ rw here (λ is. absurd (let impossible : false ≡ true = is in cc))
      | inr apart ↦ rw apart (formed.well.points k d within)
    ]

-- a file or a directory that is made, and its link
formed-made : (v : Volume) (dir : ℕ) (name : List ℕ) (file : File) → IsLinkName name → NoPoint v dir → has_row (λ link. link.file == v.last_file + 1) v.links ≡ false → file.point ≡ None
    → (file.directory ≡ false → has_row (λ stream. stream.file == v.last_file + 1 && length stream.name == 0) v.streams ≡ true) → Formed v → Formed (with_link (with_file v file) dir name (v.last_file + 1))
formed-made v dir name file named free unlinked pointless default formed =
    formed-link_more (with_file v file) dir name (v.last_file + 1) named
    (All-push (λ (entry : ℕ × File). is_some entry.1.point ≡ true → (entry.0 == dir) ≡ false) v.files (v.last_file + 1, file) free (λ is. absurd (let impossible : false ≡ true = rw pointless at is in cc)))
    (rw (how_many-none (λ (link : ℕ × Link). link.1.file == v.last_file + 1) v.links unlinked) (omega arith))
    (formed-file_more v file pointless unlinked default formed)

default-made : (v : Volume) (file : ℕ) → has_row (λ stream. stream.file == file && length stream.name == 0) (with_stream v file []).streams ≡ true
default-made v file = list_any-append (λ (entry : ℕ × Stream). entry.1.file == file && length entry.1.name == 0) v.streams _ ∙ or_last (has_row (λ stream. stream.file == file && length stream.name == 0) v.streams)
  where
    or_last : (b : Bool) → (b || ((file == file && true) || false)) ≡ true
    or_last true = refl
    or_last false = rw (eq-eqb file file refl) refl

-- what fits leaves the tree well formed
pub formed-change : (v : Volume) (change : TreeChange) → FormedFits v change → Formed v → Formed (with_tree_change v change)
formed-change v (MakesDirectory dir name file) fits formed =
    formed-noted (with_link (with_file v file) dir name (v.last_file + 1)) (v.last_link + 1) FILE_ACTION_ADDED FILE_NOTIFY_CHANGE_DIR_NAME None
    (formed-made v dir name file fits.0 fits.1 fits.2 fits.4 (λ is. absurd (let impossible : true ≡ false = sym fits.3 ∙ is in cc)) formed)
formed-change v (MakesFile dir name file) fits formed =
    formed-noted (with_stream (with_link (with_file v file) dir name (v.last_file + 1)) (v.last_file + 1) []) (v.last_link + 1) FILE_ACTION_ADDED FILE_NOTIFY_CHANGE_FILE_NAME None
    (formed-made (with_stream v (v.last_file + 1) []) dir name file fits.0 fits.1 fits.2 fits.3 (λ is. default-made v (v.last_file + 1)) (formed-stream_more v (v.last_file + 1) [] (refl, refl, refl) formed))
formed-change v (MakesStream link file name) fits formed =
    formed-noted (with_stream v file name) link FILE_ACTION_ADDED_STREAM FILE_NOTIFY_CHANGE_STREAM_NAME (Some (v.last_stream + 1)) (formed-stream_more v file name fits formed)
formed-change v (AddsLink dir name file) fits formed =
    formed-noted (with_link v dir name file) (v.last_link + 1) FILE_ACTION_ADDED FILE_NOTIFY_CHANGE_FILE_NAME None (formed-link_more v dir name file fits.0 fits.1 fits.2 formed)
formed-change v (MovesLink link dir name) fits formed = elim (cases_Bool (parent_of v link == dir)) [
  | inl there ↦ rw there (formed-move v link dir name FILE_ACTION_RENAMED_OLD_NAME FILE_ACTION_RENAMED_NEW_NAME fits.0 fits.1 formed)
  | inr elsewhere ↦ rw elsewhere (formed-move v link dir name FILE_ACTION_REMOVED FILE_ACTION_ADDED fits.0 fits.1 formed)
]
formed-change v (RemovesLink link) fits formed =
    formed-without_link (with_change_noted v link FILE_ACTION_REMOVED (filter_of_name v link) None) link (formed-noted v link FILE_ACTION_REMOVED (filter_of_name v link) None formed)
formed-change v (RemovesStream link stream) fits formed = elim (option_cases (row_of v.links link)) [
  | inl none ↦ rw none (formed-without_stream v stream fits formed)
  | inr some ↦ rw some.1 (formed-same (without_stream v stream) _ refl refl refl refl (formed-without_stream v stream fits formed))
]
formed-change v (MarksLink link marked) fits formed = formed-link_marked v link marked formed
formed-change v (MarksStream stream true) fits formed = formed-stream_marked v stream true (λ is. fits) formed
formed-change v (MarksStream stream false) fits formed = formed-stream_marked v stream false (λ is. absurd (let impossible : false ≡ true = is in cc)) formed
formed-change v (Writes link stream at bytes) fits formed =
    formed-file _ _ _ (λ row. refl) (λ row. refl) (formed-stream_bytes _ (λ old. put old at bytes) stream (formed-bytes_noted v link stream _ _ _ formed))
formed-change v (Resizes link stream end) fits formed =
    formed-file _ _ _ (λ row. refl) (λ row. refl) (formed-stream_bytes _ (λ old. cut old end) stream (formed-bytes_noted v link stream _ _ _ formed))
formed-change v (Overwrites link file stream named attributes) fits formed =
    formed-file _ _ file (λ row. refl) (λ row. refl) (formed-stream_bytes _ (λ old. cut old 0) stream (formed-bytes_noted v link stream named _ _ formed))
formed-change v (SetsBasics link file basics) fits formed = elim (cases_Bool (basic_bits basics == 0)) [
  | inl none ↦ rw none (formed-file v _ file (λ row. refl) (λ row. refl) formed)
  | inr some ↦ rw some (formed-noted (with_basics v file basics) link FILE_ACTION_MODIFIED (basic_bits basics) None (formed-file v _ file (λ row. refl) (λ row. refl) formed))
]
formed-change v (SetsSecurity link file owner dacl) fits formed = elim (cases_Bool (asks_something owner dacl)) [
  | inl asks ↦ rw asks (formed-noted (with_security_of v file owner dacl) link FILE_ACTION_MODIFIED FILE_NOTIFY_CHANGE_SECURITY None (formed-security v file owner dacl formed))
  | inr asks_nothing ↦ rw asks_nothing (formed-security v file owner dacl formed)
]
formed-change v (SetsPoint link file (Some point)) fits formed =
    formed-noted (with_point v file (Some point)) link FILE_ACTION_MODIFIED FILE_NOTIFY_CHANGE_ATTRIBUTES None (formed-point v file point fits.0 fits.1 formed)
formed-change v (SetsPoint link file None) fits formed =
    formed-noted (with_point v file None) link FILE_ACTION_MODIFIED FILE_NOTIFY_CHANGE_ATTRIBUTES None (formed-point_removed v file formed)
formed-change v (SetsChangeTime file) fits formed = formed-file v _ file (λ row. refl) (λ row. refl) formed

-- ---- lists of changes

pub formed-changes : (changes : List TreeChange) (v : Volume) → FormedFitsAll v changes → Formed v → Formed (with_tree_changes v changes)
formed-changes [] v fits formed = formed
formed-changes (change ∷ more) v fits formed = formed-changes more (with_tree_change v change) fits.1 (formed-change v change fits.0 formed)
