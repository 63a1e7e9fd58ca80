-- What stays true of a volume when it changes.
use Rattle.std.proofs.Common.{◌≡◌, ℕ, zero, suc, ◌+◌, ◌-◌, ◌^◌, ◌<◌, ◌≤◌, Bool, true, false, not, List, [], ◌∷◌, ◌++◌, length, get_or, refl, ap, sym, subst, ◌∙◌, arith, inl, inr, Option, Some, None}
use Rattle.std.specs.List.{filter, find, list_any, All}
use Rattle.std.specs.Option.{option_map_or}
use Rattle.std.specs.Prelude.{◌==◌, ◌||◌, ◌&&◌, is_some, map, option_map, IfSome}
use Rattle.std.proofs.lemmas.Bool.{ne_eqb, eq-eqb, both_ways, eqb-true, not-true, cases_Bool, cases_lt, or_cases, and_parts, and_from, and_cases, and_left, and_right}
use Rattle.std.proofs.lemmas.List.Folds.{list_any-append, list_any_at, list_any_none, find-append}
use Rattle.std.proofs.lemmas.List.Elements.{All-nil, All-push, All-map, All-filter, filter_passes}
use Rattle.std.proofs.lemmas.List.Quantifiers.{all_pairs_push}
use Rattle.std.proofs.lemmas.List.Kept.{AllPairs-filter}
use Rattle.fsa_types.specs.Rows.{row_of, lives, without_row, with_row_changed, IsNumbered}
use Rattle.std.proofs.lemmas.List.{get_or_default, length-map}
use Rattle.fsa_types.proofs.OplockLemmas.{AreOplocks-nil, AreOplocks-filter}
use Rattle.fsa_model.specs.Setup.{Setup}
use Rattle.fsa_model.specs.Volume.{File, Link, Stream, Handle, Oplock, Volume, fresh, root}
use Rattle.fsa_model.specs.Lookups.{child_of, stream_of, handle_of, is_named, is_stream_named, is_opened_by, is_directory, has_child, has_row, leads_to, link_of_file, is_open_on, is_open_by}
use Rattle.fsa_model.specs.Edits.{with_file, with_link, with_stream, with_handle, without_handle, with_link_marked, without_stream, without_file, without_link}
use Rattle.fsa_model.specs.Sound.{IsSound, IsSoundTree, LeadsUp, PointFits, is_of_living, is_stream_of_link, has_its_stream, has_its_key}
use Rattle.fsa_model.proofs.RowLaws.{any-push, any-filter, any-filter_none, find-all, find-any, find-none, row_of-all, any-map, any-same, any-weaker, find-map, find-same, find-filter, AllPairs-map, change_at, change_at-same, change_at-number, IsNumbered-change, row_of-here, eqb-swap, or_right, option_cases, none-all, number_of-none, lives-given, IsNumbered-push, IsNumbered-filter, or-false, no-next}

-- the tree's part of a sound volume
pub tree_of : (v : Volume) → IsSound v → IsSoundTree v
tree_of v sound = record {
  tree = sound.tree;
  are_of_living = sound.opens.are_of_living;
  have_streams = sound.opens.have_streams;
  files_numbered = sound.files_numbered;
  links_numbered = sound.links_numbered;
  streams_numbered = sound.streams_numbered;
  handles_numbered = sound.handles_numbered;
}

-- a volume with other links, of which nothing but the tree's part speaks
pub with_links_sound : (v : Volume) (links : List (ℕ × Link)) → IsSound v → IsSoundTree (record v { links = links }) → IsSound (record v { links = links })
with_links_sound v links sound tree = record {
  tree = tree.tree;
  opens = record { are_of_living = tree.are_of_living; have_streams = tree.have_streams; differ = sound.opens.differ; have_clients = sound.opens.have_clients };
  pending = sound.pending;
  clients = sound.clients;
  of_handles = sound.of_handles;
  files_numbered = tree.files_numbered;
  links_numbered = tree.links_numbered;
  streams_numbered = tree.streams_numbered;
  handles_numbered = tree.handles_numbered;
  locks_numbered = sound.locks_numbered;
  oplocks = sound.oplocks;
  blockers_given = sound.blockers_given;
  streams_fit = sound.streams_fit;
  points_fit = sound.points_fit;
  bounded = record { files = sound.bounded.files; links = sound.bounded.links; streams = sound.bounded.streams; handles = sound.bounded.handles; clock = sound.bounded.clock; locks = sound.bounded.locks; breaks = sound.bounded.breaks };
}

-- a file more is no directory's number that was given before
is_directory-push : (files : List (ℕ × File)) (last id : ℕ) (file : File) → All (λ entry. entry.0 ≤ last) files → lives files id ≡ true
    → is_directory (files ++ (last + 1, file) ∷ []) id ≡ is_directory files id
is_directory-push files last id file given living =
    let bound = lives-given files last id given living in
    let other : (last + 1 == id) ≡ false = ne_eqb (last + 1) id (λ e. absurd (omega arith)) in
    list_any-append (λ entry. entry.0 == id && entry.1.directory) files ((last + 1, file) ∷ []) ∙ rw other (or-false (is_directory files id))

-- a handle has its stream where it had, or where its link is still a directory's
pub has_its_stream-more : (files files' : List (ℕ × File)) (links links' : List (ℕ × Link)) (handle : Handle)
    → (list_any (λ l. l.0 == handle.link && is_directory files l.1.file) links ≡ true → list_any (λ l. l.0 == handle.link && is_directory files' l.1.file) links' ≡ true)
    → has_its_stream files links handle ≡ true → has_its_stream files' links' handle ≡ true
has_its_stream-more files files' links links' handle more has =
    let here : Bool = list_any (λ l. l.0 == handle.link && is_directory files l.1.file) links in
    let there : Bool = list_any (λ l. l.0 == handle.link && is_directory files' l.1.file) links' in
    elim (or_cases (is_some handle.stream) (handle.link == 0 || here) has) [
      | inl some ↦ rw some refl
      | inr directory ↦ or_right (is_some handle.stream) (handle.link == 0 || there)
          (elim (or_cases (handle.link == 0) here directory) [ inl root ↦ rw root refl | inr lived ↦ or_right (handle.link == 0) there (more lived) ])
    ]

pub IsSoundTree-with_file : (v : Volume) (file : File) → IsSoundTree v → IsSoundTree (with_file v file)
IsSoundTree-with_file v file sound = record {
  tree = record {
    link_names_differ = sound.tree.link_names_differ;
    stream_names_differ = sound.tree.stream_names_differ;
    link_files_live = λ k d within. any-push _ v.files _ (sound.tree.link_files_live k d within);
    stream_files_live = λ k d within. any-push _ v.files _ (sound.tree.stream_files_live k d within);
    parents_are_directories = λ k d within. any-push _ v.files _ (sound.tree.parents_are_directories k d within);
    parents_lead_up = sound.tree.parents_lead_up;
    root_is_directory = any-push _ v.files _ sound.tree.root_is_directory;
    root_has_no_link = sound.tree.root_has_no_link;
    directories_have_no_stream = λ k d within.
        rw (is_directory-push v.files v.last_file _ file sound.files_numbered.given (sound.tree.stream_files_live k d within)) (sound.tree.directories_have_no_stream k d within);
    directories_have_one_link = λ j k d below within.
        rw (is_directory-push v.files v.last_file _ file sound.files_numbered.given (sound.tree.link_files_live k d within)) (sound.tree.directories_have_one_link j k d below within);
    marked_are_empty = sound.tree.marked_are_empty;
    numbers_are_not_0 = sound.tree.numbers_are_not_0;
  };
  are_of_living = sound.are_of_living;
  have_streams = λ k d within. has_its_stream-more v.files (v.files ++ (v.last_file + 1, file) ∷ []) v.links v.links (get_or v.handles k d).1
      (any-weaker (λ l. l.0 == (get_or v.handles k d).1.link && is_directory v.files l.1.file)
      (λ l. l.0 == (get_or v.handles k d).1.link && is_directory (v.files ++ (v.last_file + 1, file) ∷ []) l.1.file) v.links
      (λ l both. let parts = and_parts (l.0 == (get_or v.handles k d).1.link) (is_directory v.files l.1.file) both in
      and_from (l.0 == (get_or v.handles k d).1.link) (is_directory (v.files ++ (v.last_file + 1, file) ∷ []) l.1.file) parts.0 (any-push _ v.files ((v.last_file + 1, file) ∷ []) parts.1)))
      (sound.have_streams k d within);
  files_numbered = IsNumbered-push v.files v.last_file file sound.files_numbered;
  links_numbered = sound.links_numbered;
  streams_numbered = sound.streams_numbered;
  handles_numbered = sound.handles_numbered;
}

pub IsSound-with_file : (v : Volume) (file : File) → IsSound v → v.last_file + 1 < 2 ^ 32 - 1 → PointFits file → IsSound (with_file v file)
IsSound-with_file v file sound ids_left fits =
    let tree = IsSoundTree-with_file v file (tree_of v sound) in record {
      tree = tree.tree;
      opens = record {
        are_of_living = tree.are_of_living;
        have_streams = tree.have_streams;
        differ = sound.opens.differ;
        have_clients = sound.opens.have_clients;
      };
      pending = sound.pending;
      clients = sound.clients;
      of_handles = sound.of_handles;
      files_numbered = tree.files_numbered;
      links_numbered = tree.links_numbered;
      streams_numbered = tree.streams_numbered;
      handles_numbered = tree.handles_numbered;
      locks_numbered = sound.locks_numbered;
      oplocks = sound.oplocks;
      blockers_given = sound.blockers_given;
      streams_fit = sound.streams_fit;
      points_fit = All-push (λ entry. PointFits entry.1) v.files (v.last_file + 1, file) sound.points_fit fits;
      bounded = record { files = ids_left; links = sound.bounded.links; streams = sound.bounded.streams; handles = sound.bounded.handles; clock = sound.bounded.clock; locks = sound.bounded.locks; breaks = sound.bounded.breaks };
    }

-- what leads up still does with more links
leads_to-push : (steps : ℕ) (links more : List (ℕ × Link)) (above dir : ℕ) → leads_to steps links above dir ≡ true → leads_to steps (links ++ more) above dir ≡ true
leads_to-push zero links more above dir leads = leads
leads_to-push (suc steps) links more above dir leads =
    let next_up : Option (ℕ × Link) → Bool = λ o. option_map_or (λ entry. leads_to steps links above entry.1.parent) o false in
    elim (or_cases (dir == above) (next_up (link_of_file links dir)) leads) [
      | inl here ↦ rw here refl
      | inr up ↦ or_right (dir == above) _ (elim (option_cases (link_of_file links dir)) [
        | inl none ↦ (let impossible : false ≡ true = rw none at up in cc)
        | inr some ↦ (let next : leads_to steps links above some.0.1.parent ≡ true = rw some.1 at up in
            rw (find-append (λ entry. entry.1.file == dir) links more, some.1) (leads_to-push steps links more above some.0.1.parent next))
      ])
    ]

LeadsUp-push : (links more : List (ℕ × Link)) (dir : ℕ) → LeadsUp links dir → LeadsUp (links ++ more) dir
LeadsUp-push links more dir up = record { steps = up.steps; leads = leads_to-push up.steps links more 1 dir up.leads }

of_stream-more : (stream : Option ℕ) (before after : ℕ → Bool) → ((s : ℕ) → stream ≡ Some s → before s ≡ true → after s ≡ true)
    → option_map_or before stream true ≡ true → option_map_or after stream true ≡ true
of_stream-more None before after more living = refl
of_stream-more (Some s) before after more living = more s refl living

-- a handle is of what lives where its link and its stream still do
pub is_of_living-more : (links links' : List (ℕ × Link)) (streams streams' : List (ℕ × Stream)) (handle : Handle)
    → (lives links handle.link ≡ true → lives links' handle.link ≡ true)
    → ((stream : ℕ) → handle.stream ≡ Some stream → is_stream_of_link links streams handle.link stream ≡ true → is_stream_of_link links' streams' handle.link stream ≡ true)
    → is_of_living links streams handle ≡ true → is_of_living links' streams' handle ≡ true
is_of_living-more links links' streams streams' handle link stream living =
    let parts = and_parts (handle.link == 0 || lives links handle.link) (option_map_or (λ s. is_stream_of_link links streams handle.link s) handle.stream true) living in
    and_from (handle.link == 0 || lives links' handle.link) (option_map_or (λ s. is_stream_of_link links' streams' handle.link s) handle.stream true)
    (elim (or_cases (handle.link == 0) (lives links handle.link) parts.0) [ inl root ↦ rw root refl | inr lived ↦ or_right (handle.link == 0) (lives links' handle.link) (link lived) ])
    (of_stream-more handle.stream (λ s. is_stream_of_link links streams handle.link s) (λ s. is_stream_of_link links' streams' handle.link s) stream parts.1)

is_stream_of_link-links : (links more : List (ℕ × Link)) (streams : List (ℕ × Stream)) (link stream : ℕ)
    → is_stream_of_link links streams link stream ≡ true → is_stream_of_link (links ++ more) streams link stream ≡ true
is_stream_of_link-links links more streams link stream found =
    any-weaker (λ s. s.0 == stream && list_any (λ l. l.0 == link && l.1.file == s.1.file) links)
    (λ s. s.0 == stream && list_any (λ l. l.0 == link && l.1.file == s.1.file) (links ++ more)) streams
    (λ s both. let parts = and_parts (s.0 == stream) (list_any (λ l. l.0 == link && l.1.file == s.1.file) links) both in
    and_from (s.0 == stream) (list_any (λ l. l.0 == link && l.1.file == s.1.file) (links ++ more)) parts.0 (any-push (λ l. l.0 == link && l.1.file == s.1.file) links more parts.1)) found

pub IsSoundTree-with_link : (v : Volume) (parent : ℕ) (name : List ℕ) (file : ℕ) → IsSoundTree v
    → is_directory v.files parent ≡ true → LeadsUp v.links parent → has_row (λ link. link.file == parent && link.deleted) v.links ≡ false
    → lives v.files file ≡ true → (file == 1) ≡ false
    → (is_directory v.files file && has_row (λ link. link.file == file) v.links) ≡ false → child_of v parent name ≡ None
    → IsSoundTree (with_link v parent name file)
IsSoundTree-with_link v parent name file sound directory leads unmarked living not_root one_link fresh_name =
    let link : Link = record { parent = parent; name = name; file = file; deleted = false } in
    let row : ℕ × Link = (v.last_link + 1, link) in record {
      tree = record {
        link_names_differ = all_pairs_push (λ a b. is_named v.table b.1.parent b.1.name a.1 ≡ false) v.links row sound.tree.link_names_differ
            (number_of-none (is_named v.table parent name) v.links fresh_name);
        stream_names_differ = sound.tree.stream_names_differ;
        link_files_live = All-push (λ entry. lives v.files entry.1.file ≡ true) v.links row sound.tree.link_files_live living;
        stream_files_live = sound.tree.stream_files_live;
        parents_are_directories = All-push (λ entry. is_directory v.files entry.1.parent ≡ true) v.links row sound.tree.parents_are_directories directory;
        parents_lead_up = All-push (λ entry. LeadsUp (v.links ++ row ∷ []) entry.1.parent) v.links row
            (λ k d within. LeadsUp-push v.links (row ∷ []) _ (sound.tree.parents_lead_up k d within)) (LeadsUp-push v.links (row ∷ []) parent leads);
        root_is_directory = sound.tree.root_is_directory;
        root_has_no_link = All-push (λ entry. (entry.1.file == 1) ≡ false) v.links row sound.tree.root_has_no_link not_root;
        directories_have_no_stream = sound.tree.directories_have_no_stream;
        directories_have_one_link = all_pairs_push (λ a b. (is_directory v.files b.1.file && a.1.file == b.1.file) ≡ false) v.links row sound.tree.directories_have_one_link
            (λ k d within. elim (and_cases (is_directory v.files file) (has_row (λ l. l.file == file) v.links) one_link) [
              | inl no_directory ↦ rw no_directory refl
              | inr no_link ↦ and_right (is_directory v.files file) ((get_or v.links k d).1.file == file) (none-all (λ entry. entry.1.file == file) v.links no_link k d within)
            ]);
        marked_are_empty = All-push (λ entry. (entry.1.deleted && has_child (v.links ++ row ∷ []) entry.1.file) ≡ false) v.links row
            (λ k d within. elim (and_cases (get_or v.links k d).1.deleted (has_child v.links (get_or v.links k d).1.file) (sound.tree.marked_are_empty k d within)) [
              | inl kept ↦ rw kept refl
              | inr empty ↦ elim (and_cases ((get_or v.links k d).1.file == parent) (get_or v.links k d).1.deleted (none-all (λ entry. entry.1.file == parent && entry.1.deleted) v.links unmarked k d within)) [
                | inl other ↦ and_right (get_or v.links k d).1.deleted (has_child (v.links ++ row ∷ []) (get_or v.links k d).1.file) (list_any-append (λ entry. entry.1.parent == (get_or v.links k d).1.file) v.links (row ∷ []) ∙ rw (empty, eqb-swap parent (get_or v.links k d).1.file, other) refl)
                | inr kept ↦ rw kept refl
              ]
            ]) refl;
        numbers_are_not_0 = All-push (λ entry. (entry.0 == 0) ≡ false) v.links row sound.tree.numbers_are_not_0 (ne_eqb (v.last_link + 1) 0 (λ e. absurd (omega arith)));
      };
      are_of_living = λ k d within. is_of_living-more v.links (v.links ++ row ∷ []) v.streams v.streams (get_or v.handles k d).1
          (any-push _ v.links (row ∷ [])) (λ stream is. is_stream_of_link-links v.links (row ∷ []) v.streams _ stream) (sound.are_of_living k d within);
      have_streams = λ k d within. has_its_stream-more v.files v.files v.links (v.links ++ row ∷ []) (get_or v.handles k d).1
          (any-push _ v.links (row ∷ [])) (sound.have_streams k d within);
      files_numbered = sound.files_numbered;
      links_numbered = IsNumbered-push v.links v.last_link link sound.links_numbered;
      streams_numbered = sound.streams_numbered;
      handles_numbered = sound.handles_numbered;
    }

pub IsSound-with_link : (v : Volume) (parent : ℕ) (name : List ℕ) (file : ℕ) → IsSound v → v.last_link + 1 < 2 ^ 32 - 1
    → is_directory v.files parent ≡ true → LeadsUp v.links parent → has_row (λ link. link.file == parent && link.deleted) v.links ≡ false
    → lives v.files file ≡ true → (file == 1) ≡ false
    → (is_directory v.files file && has_row (λ link. link.file == file) v.links) ≡ false → child_of v parent name ≡ None
    → IsSound (with_link v parent name file)
IsSound-with_link v parent name file sound ids_left directory leads unmarked living not_root one_link fresh_name =
    let tree = IsSoundTree-with_link v parent name file (tree_of v sound) directory leads unmarked living not_root one_link fresh_name in record {
      tree = tree.tree;
      opens = record {
        are_of_living = tree.are_of_living;
        have_streams = tree.have_streams;
        differ = sound.opens.differ;
        have_clients = sound.opens.have_clients;
      };
      pending = sound.pending;
      clients = sound.clients;
      of_handles = sound.of_handles;
      files_numbered = tree.files_numbered;
      links_numbered = tree.links_numbered;
      streams_numbered = tree.streams_numbered;
      handles_numbered = tree.handles_numbered;
      locks_numbered = sound.locks_numbered;
      oplocks = sound.oplocks;
      blockers_given = sound.blockers_given;
      streams_fit = sound.streams_fit;
      points_fit = sound.points_fit;
      bounded = record { files = sound.bounded.files; links = ids_left; streams = sound.bounded.streams; handles = sound.bounded.handles; clock = sound.bounded.clock; locks = sound.bounded.locks; breaks = sound.bounded.breaks };
    }

pub IsSoundTree-with_stream : (v : Volume) (file : ℕ) (name : List ℕ) → IsSoundTree v
    → lives v.files file ≡ true → is_directory v.files file ≡ false → stream_of v file name ≡ None → IsSoundTree (with_stream v file name)
IsSoundTree-with_stream v file name sound living no_directory fresh_name =
    let stream : Stream = record { file = file; name = name; bytes = []; deleted = false } in
    let row : ℕ × Stream = (v.last_stream + 1, stream) in record {
      tree = record {
        link_names_differ = sound.tree.link_names_differ;
        stream_names_differ = all_pairs_push (λ a b. is_stream_named v.table b.1.file b.1.name a.1 ≡ false) v.streams row sound.tree.stream_names_differ
            (number_of-none (is_stream_named v.table file name) v.streams fresh_name);
        link_files_live = sound.tree.link_files_live;
        stream_files_live = All-push (λ entry. lives v.files entry.1.file ≡ true) v.streams row sound.tree.stream_files_live living;
        parents_are_directories = sound.tree.parents_are_directories;
        parents_lead_up = sound.tree.parents_lead_up;
        root_is_directory = sound.tree.root_is_directory;
        root_has_no_link = sound.tree.root_has_no_link;
        directories_have_no_stream = All-push (λ entry. is_directory v.files entry.1.file ≡ false) v.streams row sound.tree.directories_have_no_stream no_directory;
        directories_have_one_link = sound.tree.directories_have_one_link;
        marked_are_empty = sound.tree.marked_are_empty;
        numbers_are_not_0 = sound.tree.numbers_are_not_0;
      };
      are_of_living = λ k d within. is_of_living-more v.links v.links v.streams (v.streams ++ row ∷ []) (get_or v.handles k d).1
          (λ living. living) (λ s is. any-push _ v.streams (row ∷ [])) (sound.are_of_living k d within);
      have_streams = sound.have_streams;
      files_numbered = sound.files_numbered;
      links_numbered = sound.links_numbered;
      streams_numbered = IsNumbered-push v.streams v.last_stream stream sound.streams_numbered;
      handles_numbered = sound.handles_numbered;
    }

pub IsSound-with_stream : (v : Volume) (file : ℕ) (name : List ℕ) → IsSound v → v.last_stream + 1 < 2 ^ 32 - 1
    → lives v.files file ≡ true → is_directory v.files file ≡ false → stream_of v file name ≡ None → IsSound (with_stream v file name)
IsSound-with_stream v file name sound ids_left living no_directory fresh_name =
    let row : ℕ × Stream = (v.last_stream + 1, record { file = file; name = name; bytes = []; deleted = false }) in
    let tree = IsSoundTree-with_stream v file name (tree_of v sound) living no_directory fresh_name in record {
      tree = tree.tree;
      opens = record {
        are_of_living = tree.are_of_living;
        have_streams = tree.have_streams;
        differ = sound.opens.differ;
        have_clients = sound.opens.have_clients;
      };
      pending = sound.pending;
      clients = sound.clients;
      of_handles = sound.of_handles;
      files_numbered = tree.files_numbered;
      links_numbered = tree.links_numbered;
      streams_numbered = tree.streams_numbered;
      handles_numbered = tree.handles_numbered;
      locks_numbered = sound.locks_numbered;
      oplocks = sound.oplocks;
      blockers_given = sound.blockers_given;
      streams_fit = All-push (λ entry. length entry.1.bytes ≤ 2 ^ 26) v.streams row sound.streams_fit (omega arith);
      points_fit = sound.points_fit;
      bounded = record { files = sound.bounded.files; links = sound.bounded.links; streams = ids_left; handles = sound.bounded.handles; clock = sound.bounded.clock; locks = sound.bounded.locks; breaks = sound.bounded.breaks };
    }

-- an oplock has its handle's key also where a handle is added
has_its_key-push : (handles : List (ℕ × Handle)) (row : ℕ × Handle) (oplock : Oplock) → has_its_key handles oplock ≡ true → has_its_key (handles ++ row ∷ []) oplock ≡ true
has_its_key-push handles row oplock has = elim (option_cases (find (λ e. e.0 == oplock.handle) handles)) [
  | inl none ↦ (let impossible : false ≡ true = rw none at has in cc)
  | inr some ↦ rw (find-append (λ e. e.0 == oplock.handle) handles (row ∷ []), some.1) (rw some.1 at has)
]

-- or another one is taken out
has_its_key-without : (handles : List (ℕ × Handle)) (gone : ℕ) (oplock : Oplock) → (oplock.handle == gone) ≡ false → has_its_key handles oplock ≡ true
    → has_its_key (without_row handles gone) oplock ≡ true
has_its_key-without handles gone oplock other has =
    rw (find-filter (λ e. e.0 == oplock.handle) (λ e. not (e.0 == gone)) handles (λ k d within here. rw (eqb-true (get_or handles k d).0 oplock.handle here, other) refl)) has

pub IsSoundTree-with_handle : (v : Volume) (handle : Handle) → IsSoundTree v
    → is_of_living v.links v.streams handle ≡ true → has_its_stream v.files v.links handle ≡ true → IsSoundTree (with_handle v handle)
IsSoundTree-with_handle v handle sound living its_stream =
    let row : ℕ × Handle = (v.last_handle + 1, handle) in record {
      tree = sound.tree;
      are_of_living = All-push (λ entry. is_of_living v.links v.streams entry.1 ≡ true) v.handles row sound.are_of_living living;
      have_streams = All-push (λ entry. has_its_stream v.files v.links entry.1 ≡ true) v.handles row sound.have_streams its_stream;
      files_numbered = sound.files_numbered;
      links_numbered = sound.links_numbered;
      streams_numbered = sound.streams_numbered;
      handles_numbered = IsNumbered-push v.handles v.last_handle handle sound.handles_numbered;
    }

pub IsSound-with_handle : (v : Volume) (handle : Handle) → IsSound v → v.last_handle + 1 < 2 ^ 32 - 1
    → is_of_living v.links v.streams handle ≡ true → has_its_stream v.files v.links handle ≡ true → handle_of v handle.client handle.number ≡ None → handle.client < length v.clients
    → IsSound (with_handle v handle)
IsSound-with_handle v handle sound ids_left living its_stream fresh_number client =
    let row : ℕ × Handle = (v.last_handle + 1, handle) in
    let tree = IsSoundTree-with_handle v handle (tree_of v sound) living its_stream in record {
      tree = tree.tree;
      opens = record {
        are_of_living = tree.are_of_living;
        have_streams = tree.have_streams;
        differ = all_pairs_push (λ a b. is_opened_by b.1.client b.1.number a.1 ≡ false) v.handles row sound.opens.differ
            (number_of-none (is_opened_by handle.client handle.number) v.handles fresh_number);
        have_clients = All-push (λ entry. entry.1.client < length v.clients) v.handles row sound.opens.have_clients client;
      };
      pending = sound.pending;
      clients = sound.clients;
      of_handles = record {
        locks_live = λ k d within. any-push _ v.handles _ (sound.of_handles.locks_live k d within);
        oplocks_have_keys = λ k d within. has_its_key-push v.handles row (get_or v.oplocks k d) (sound.of_handles.oplocks_have_keys k d within);
        watches_live = λ k d within. any-push _ v.handles _ (sound.of_handles.watches_live k d within);
        watches_differ = sound.of_handles.watches_differ;
      };
      files_numbered = tree.files_numbered;
      links_numbered = tree.links_numbered;
      streams_numbered = tree.streams_numbered;
      handles_numbered = tree.handles_numbered;
      locks_numbered = sound.locks_numbered;
      oplocks = sound.oplocks;
      blockers_given = sound.blockers_given;
      streams_fit = sound.streams_fit;
      points_fit = sound.points_fit;
      bounded = record { files = sound.bounded.files; links = sound.bounded.links; streams = sound.bounded.streams; handles = ids_left; clock = sound.bounded.clock; locks = sound.bounded.locks; breaks = sound.bounded.breaks };
    }

-- a row that lives still does where another is taken out
pub lives-without : {R : Type 0} (rows : List (ℕ × R)) (id gone : ℕ) → lives rows id ≡ true → (id == gone) ≡ false → lives (without_row rows gone) id ≡ true
lives-without rows id gone living other =
    any-filter (λ entry. entry.0 == id) (λ entry. not (entry.0 == gone)) rows (λ entry here. rw (eqb-true entry.0 id here, other) refl) living

pub IsSoundTree-without_handle : (v : Volume) (handle : ℕ) → IsSoundTree v → IsSoundTree (without_handle v handle)
IsSoundTree-without_handle v handle sound = record {
  tree = sound.tree;
  are_of_living = All-filter (λ entry. not (entry.0 == handle)) (λ entry. is_of_living v.links v.streams entry.1 ≡ true) v.handles sound.are_of_living;
  have_streams = All-filter (λ entry. not (entry.0 == handle)) (λ entry. has_its_stream v.files v.links entry.1 ≡ true) v.handles sound.have_streams;
  files_numbered = sound.files_numbered;
  links_numbered = sound.links_numbered;
  streams_numbered = sound.streams_numbered;
  handles_numbered = IsNumbered-filter (λ entry. not (entry.0 == handle)) v.handles v.last_handle sound.handles_numbered;
}

pub IsSound-without_handle : (v : Volume) (handle : ℕ) → IsSound v → IsSound (without_handle v handle)
IsSound-without_handle v handle sound =
    let tree = IsSoundTree-without_handle v handle (tree_of v sound) in record {
      tree = tree.tree;
      opens = record {
        are_of_living = tree.are_of_living;
        have_streams = tree.have_streams;
        differ = AllPairs-filter (λ a b. is_opened_by b.1.client b.1.number a.1 ≡ false) (λ entry. not (entry.0 == handle)) v.handles sound.opens.differ;
        have_clients = All-filter (λ entry. not (entry.0 == handle)) (λ entry. entry.1.client < length v.clients) v.handles sound.opens.have_clients;
      };
      pending = sound.pending;
      clients = sound.clients;
      of_handles = record {
        locks_live = λ k d within. lives-without v.handles _ handle
            (All-filter (λ entry. not (entry.1.handle == handle)) (λ entry. lives v.handles entry.1.handle ≡ true) v.locks sound.of_handles.locks_live k d within)
            (not-true _ (filter_passes (λ entry. not (entry.1.handle == handle)) v.locks k d within));
        oplocks_have_keys = λ k d within. has_its_key-without v.handles handle (get_or (filter (λ oplock. not (oplock.handle == handle)) v.oplocks) k d)
            (not-true _ (filter_passes (λ oplock. not (oplock.handle == handle)) v.oplocks k d within))
            (All-filter (λ oplock. not (oplock.handle == handle)) (λ oplock. has_its_key v.handles oplock ≡ true) v.oplocks sound.of_handles.oplocks_have_keys k d within);
        watches_live = λ k d within. lives-without v.handles _ handle
            (All-filter (λ watch. not (watch.handle == handle)) (λ watch. lives v.handles watch.handle ≡ true) v.watches sound.of_handles.watches_live k d within)
            (not-true _ (filter_passes (λ watch. not (watch.handle == handle)) v.watches k d within));
        watches_differ = AllPairs-filter (λ a b. (a.handle == b.handle) ≡ false) (λ watch. not (watch.handle == handle)) v.watches sound.of_handles.watches_differ;
      };
      files_numbered = tree.files_numbered;
      links_numbered = tree.links_numbered;
      streams_numbered = tree.streams_numbered;
      handles_numbered = tree.handles_numbered;
      locks_numbered = IsNumbered-filter (λ entry. not (entry.1.handle == handle)) v.locks v.last_lock sound.locks_numbered;
      oplocks = AreOplocks-filter (λ oplock. not (oplock.handle == handle)) v.oplocks v.last_break sound.oplocks;
      blockers_given = sound.blockers_given;
      streams_fit = sound.streams_fit;
      points_fit = sound.points_fit;
      bounded = record { files = sound.bounded.files; links = sound.bounded.links; streams = sound.bounded.streams; handles = sound.bounded.handles; clock = sound.bounded.clock; locks = sound.bounded.locks; breaks = sound.bounded.breaks };
    }

-- a change of a file that leaves what it is
pub IsSoundTree-file_changed : (v : Volume) (change : File → File) (file : ℕ) → IsSoundTree v
    → ((row : File) → (change row).directory ≡ row.directory) → IsSoundTree (record v { files = with_row_changed change v.files file })
IsSoundTree-file_changed v change file sound directory =
    let files' : List (ℕ × File) = with_row_changed change v.files file in
    let as_many : (id : ℕ) → lives files' id ≡ lives v.files id
    = λ id. any-map (λ e. e.0 == id) (change_at change file) v.files ∙ any-same (λ e. (change_at change file e).0 == id) (λ e. e.0 == id) v.files (λ e. rw (change_at-number change file e) refl) in
    let as_directory : (id : ℕ) → is_directory files' id ≡ is_directory v.files id
    = λ id. any-map (λ e. e.0 == id && e.1.directory) (change_at change file) v.files
    ∙ any-same (λ e. (change_at change file e).0 == id && (change_at change file e).1.directory) (λ e. e.0 == id && e.1.directory) v.files
    (λ e. rw (change_at-number change file e, change_at-same change file (λ row. row.directory) directory e) refl) in
    record {
      tree = record {
        link_names_differ = sound.tree.link_names_differ;
        stream_names_differ = sound.tree.stream_names_differ;
        link_files_live = λ k d within. as_many _ ∙ sound.tree.link_files_live k d within;
        stream_files_live = λ k d within. as_many _ ∙ sound.tree.stream_files_live k d within;
        parents_are_directories = λ k d within. as_directory _ ∙ sound.tree.parents_are_directories k d within;
        parents_lead_up = sound.tree.parents_lead_up;
        root_is_directory = as_directory 1 ∙ sound.tree.root_is_directory;
        root_has_no_link = sound.tree.root_has_no_link;
        directories_have_no_stream = λ k d within. as_directory _ ∙ sound.tree.directories_have_no_stream k d within;
        directories_have_one_link = λ j k d below within. rw (as_directory (get_or v.links k d).1.file) (sound.tree.directories_have_one_link j k d below within);
        marked_are_empty = sound.tree.marked_are_empty;
        numbers_are_not_0 = sound.tree.numbers_are_not_0;
      };
      are_of_living = sound.are_of_living;
      have_streams = λ k d within. has_its_stream-more v.files files' v.links v.links (get_or v.handles k d).1
          (λ living. any-same (λ l. l.0 == (get_or v.handles k d).1.link && is_directory files' l.1.file) (λ l. l.0 == (get_or v.handles k d).1.link && is_directory v.files l.1.file) v.links
          (λ l. rw (as_directory l.1.file) refl) ∙ living) (sound.have_streams k d within);
      files_numbered = IsNumbered-change change v.files v.last_file file sound.files_numbered;
      links_numbered = sound.links_numbered;
      streams_numbered = sound.streams_numbered;
      handles_numbered = sound.handles_numbered;
    }

pub IsSound-file_changed : (v : Volume) (change : File → File) (file : ℕ) → IsSound v
    → ((row : File) → (change row).directory ≡ row.directory) → ((row : File) → PointFits row → PointFits (change row))
    → IsSound (record v { files = with_row_changed change v.files file })
IsSound-file_changed v change file sound directory point =
    let tree = IsSoundTree-file_changed v change file (tree_of v sound) directory in record {
      tree = tree.tree;
      opens = record {
        are_of_living = tree.are_of_living;
        have_streams = tree.have_streams;
        differ = sound.opens.differ;
        have_clients = sound.opens.have_clients;
      };
      pending = sound.pending;
      clients = sound.clients;
      of_handles = sound.of_handles;
      files_numbered = tree.files_numbered;
      links_numbered = tree.links_numbered;
      streams_numbered = tree.streams_numbered;
      handles_numbered = tree.handles_numbered;
      locks_numbered = sound.locks_numbered;
      oplocks = sound.oplocks;
      blockers_given = sound.blockers_given;
      streams_fit = sound.streams_fit;
      points_fit = All-map (λ entry. PointFits entry.1) (change_at change file) v.files
          (λ k d within. elim (cases_Bool ((get_or v.files k d).0 == file)) [
            | inl here ↦ rw here (point _ (sound.points_fit k d within))
            | inr other ↦ rw other (sound.points_fit k d within)
          ]);
      bounded = record { files = sound.bounded.files; links = sound.bounded.links; streams = sound.bounded.streams; handles = sound.bounded.handles; clock = sound.bounded.clock; locks = sound.bounded.locks; breaks = sound.bounded.breaks };
    }

-- a change of a stream that leaves its file and its name, and fits
pub IsSoundTree-stream_changed : (v : Volume) (change : Stream → Stream) (stream : ℕ) → IsSoundTree v
    → ((row : Stream) → (change row).file ≡ row.file) → ((row : Stream) → (change row).name ≡ row.name)
    → IsSoundTree (record v { streams = with_row_changed change v.streams stream })
IsSoundTree-stream_changed v change stream sound file name =
    let at : ℕ × Stream → ℕ × Stream = change_at change stream in
    let file_of : (e : ℕ × Stream) → (at e).1.file ≡ e.1.file = change_at-same change stream (λ row. row.file) file in
    let name_of : (e : ℕ × Stream) → (at e).1.name ≡ e.1.name = change_at-same change stream (λ row. row.name) name in
    let of_link : (link s : ℕ) → is_stream_of_link v.links (with_row_changed change v.streams stream) link s ≡ is_stream_of_link v.links v.streams link s
    = λ link s. any-map (λ e. e.0 == s && list_any (λ l. l.0 == link && l.1.file == e.1.file) v.links) at v.streams
    ∙ any-same (λ e. (at e).0 == s && list_any (λ l. l.0 == link && l.1.file == (at e).1.file) v.links) (λ e. e.0 == s && list_any (λ l. l.0 == link && l.1.file == e.1.file) v.links) v.streams
    (λ e. rw (change_at-number change stream e, file_of e) refl) in
    record {
      tree = record {
        link_names_differ = sound.tree.link_names_differ;
        stream_names_differ = AllPairs-map (λ a b. is_stream_named v.table b.1.file b.1.name a.1 ≡ false) at v.streams
            (λ j k d below within. rw (file_of (get_or v.streams j d), file_of (get_or v.streams k d), name_of (get_or v.streams j d), name_of (get_or v.streams k d))
            (sound.tree.stream_names_differ j k d below within));
        link_files_live = sound.tree.link_files_live;
        stream_files_live = All-map (λ entry. lives v.files entry.1.file ≡ true) at v.streams (λ k d within. rw (file_of (get_or v.streams k d)) (sound.tree.stream_files_live k d within));
        parents_are_directories = sound.tree.parents_are_directories;
        parents_lead_up = sound.tree.parents_lead_up;
        root_is_directory = sound.tree.root_is_directory;
        root_has_no_link = sound.tree.root_has_no_link;
        directories_have_no_stream = All-map (λ entry. is_directory v.files entry.1.file ≡ false) at v.streams (λ k d within. rw (file_of (get_or v.streams k d)) (sound.tree.directories_have_no_stream k d within));
        directories_have_one_link = sound.tree.directories_have_one_link;
        marked_are_empty = sound.tree.marked_are_empty;
        numbers_are_not_0 = sound.tree.numbers_are_not_0;
      };
      are_of_living = λ k d within. is_of_living-more v.links v.links v.streams (with_row_changed change v.streams stream) (get_or v.handles k d).1
          (λ living. living) (λ s is living. of_link _ s ∙ living) (sound.are_of_living k d within);
      have_streams = sound.have_streams;
      files_numbered = sound.files_numbered;
      links_numbered = sound.links_numbered;
      streams_numbered = IsNumbered-change change v.streams v.last_stream stream sound.streams_numbered;
      handles_numbered = sound.handles_numbered;
    }

pub IsSound-stream_changed : (v : Volume) (change : Stream → Stream) (stream : ℕ) → IsSound v
    → ((row : Stream) → (change row).file ≡ row.file) → ((row : Stream) → (change row).name ≡ row.name)
    → ((row : Stream) → length row.bytes ≤ 2 ^ 26 → length (change row).bytes ≤ 2 ^ 26)
    → IsSound (record v { streams = with_row_changed change v.streams stream })
IsSound-stream_changed v change stream sound file name fits =
    let at : ℕ × Stream → ℕ × Stream = change_at change stream in
    let tree = IsSoundTree-stream_changed v change stream (tree_of v sound) file name in record {
      tree = tree.tree;
      opens = record {
        are_of_living = tree.are_of_living;
        have_streams = tree.have_streams;
        differ = sound.opens.differ;
        have_clients = sound.opens.have_clients;
      };
      pending = sound.pending;
      clients = sound.clients;
      of_handles = sound.of_handles;
      files_numbered = tree.files_numbered;
      links_numbered = tree.links_numbered;
      streams_numbered = tree.streams_numbered;
      handles_numbered = tree.handles_numbered;
      locks_numbered = sound.locks_numbered;
      oplocks = sound.oplocks;
      blockers_given = sound.blockers_given;
      streams_fit = All-map (λ entry. length entry.1.bytes ≤ 2 ^ 26) at v.streams
          (λ k d within. elim (cases_Bool ((get_or v.streams k d).0 == stream)) [
            | inl here ↦ rw here (fits _ (sound.streams_fit k d within))
            | inr other ↦ rw other (sound.streams_fit k d within)
          ]);
      points_fit = sound.points_fit;
      bounded = record { files = sound.bounded.files; links = sound.bounded.links; streams = sound.bounded.streams; handles = sound.bounded.handles; clock = sound.bounded.clock; locks = sound.bounded.locks; breaks = sound.bounded.breaks };
    }

-- links with one marked lead to where the links lead
leads_to-marked : (steps : ℕ) (links : List (ℕ × Link)) (change : Link → Link) (link above dir : ℕ)
    → ((row : Link) → (change row).file ≡ row.file) → ((row : Link) → (change row).parent ≡ row.parent)
    → leads_to steps (with_row_changed change links link) above dir ≡ leads_to steps links above dir
leads_to-marked zero links change link above dir file parent = refl
leads_to-marked (suc steps) links change link above dir file parent =
    let at : ℕ × Link → ℕ × Link = change_at change link in
    let found : link_of_file (map at links) dir ≡ option_map at (link_of_file links dir)
    = find-map (λ e. e.1.file == dir) at links
    ∙ ap (λ o. option_map at o) (find-same (λ e. (at e).1.file == dir) (λ e. e.1.file == dir) links
    (λ e. rw (change_at-same change link (λ row. row.file) file e) refl)) in
    ap (λ o. dir == above || option_map_or (λ entry. leads_to steps (map at links) above entry.1.parent) o false) found
    ∙ elim (option_cases (link_of_file links dir)) [
      | inl none ↦ rw none refl
      | inr some ↦ rw some.1 (ap (λ b. dir == above || b)
          (rw (change_at-same change link (λ row. row.parent) parent some.0) (leads_to-marked steps links change link above some.0.1.parent file parent)))
    ]

-- the link marked, where it has no child, or its mark cleared
pub IsSoundTree-with_link_marked : (v : Volume) (link : ℕ) (deleted : Bool) → IsSoundTree v
    → (deleted ≡ true → IfSome (row_of v.links link) (λ row. has_child v.links row.file ≡ false))
    → IsSoundTree (with_link_marked v link deleted)
IsSoundTree-with_link_marked v link deleted sound empty =
    let change : Link → Link = λ row. record row { deleted = deleted } in
    let at : ℕ × Link → ℕ × Link = change_at change link in
    let links' : List (ℕ × Link) = with_row_changed change v.links link in
    let file_of : (e : ℕ × Link) → (at e).1.file ≡ e.1.file = change_at-same change link (λ row. row.file) (λ row. refl) in
    let name_of : (e : ℕ × Link) → (at e).1.name ≡ e.1.name = change_at-same change link (λ row. row.name) (λ row. refl) in
    let parent_of : (e : ℕ × Link) → (at e).1.parent ≡ e.1.parent = change_at-same change link (λ row. row.parent) (λ row. refl) in
    let as_many : (id : ℕ) → lives links' id ≡ lives v.links id
    = λ id. any-map (λ e. e.0 == id) at v.links ∙ any-same (λ e. (at e).0 == id) (λ e. e.0 == id) v.links (λ e. rw (change_at-number change link e) refl) in
    let children : (dir : ℕ) → has_child links' dir ≡ has_child v.links dir
    = λ dir. any-map (λ e. e.1.parent == dir) at v.links ∙ any-same (λ e. (at e).1.parent == dir) (λ e. e.1.parent == dir) v.links (λ e. rw (parent_of e) refl) in
    let inner : (id file : ℕ) → list_any (λ l. l.0 == id && l.1.file == file) links' ≡ list_any (λ l. l.0 == id && l.1.file == file) v.links
    = λ id file. any-map (λ l. l.0 == id && l.1.file == file) at v.links
    ∙ any-same (λ l. (at l).0 == id && (at l).1.file == file) (λ l. l.0 == id && l.1.file == file) v.links (λ l. rw (change_at-number change link l, file_of l) refl) in
    let of_link : (id s : ℕ) → is_stream_of_link links' v.streams id s ≡ is_stream_of_link v.links v.streams id s
    = λ id s. any-same (λ e. e.0 == s && list_any (λ l. l.0 == id && l.1.file == e.1.file) links') (λ e. e.0 == s && list_any (λ l. l.0 == id && l.1.file == e.1.file) v.links) v.streams
    (λ e. rw (inner id e.1.file) refl) in
    let up : (dir : ℕ) → LeadsUp v.links dir → LeadsUp links' dir
    = λ dir leads. record { steps = leads.steps; leads = leads_to-marked leads.steps v.links change link 1 dir (λ row. refl) (λ row. refl) ∙ leads.leads } in
    record {
      tree = record {
        link_names_differ = AllPairs-map (λ a b. is_named v.table b.1.parent b.1.name a.1 ≡ false) at v.links
            (λ j k d below within. rw (parent_of (get_or v.links j d), parent_of (get_or v.links k d), name_of (get_or v.links j d), name_of (get_or v.links k d))
            (sound.tree.link_names_differ j k d below within));
        stream_names_differ = sound.tree.stream_names_differ;
        link_files_live = All-map (λ entry. lives v.files entry.1.file ≡ true) at v.links (λ k d within. rw (file_of (get_or v.links k d)) (sound.tree.link_files_live k d within));
        stream_files_live = sound.tree.stream_files_live;
        parents_are_directories = All-map (λ entry. is_directory v.files entry.1.parent ≡ true) at v.links (λ k d within. rw (parent_of (get_or v.links k d)) (sound.tree.parents_are_directories k d within));
        parents_lead_up = All-map (λ entry. LeadsUp links' entry.1.parent) at v.links (λ k d within. rw (parent_of (get_or v.links k d)) (up _ (sound.tree.parents_lead_up k d within)));
        root_is_directory = sound.tree.root_is_directory;
        root_has_no_link = All-map (λ entry. (entry.1.file == 1) ≡ false) at v.links (λ k d within. rw (file_of (get_or v.links k d)) (sound.tree.root_has_no_link k d within));
        directories_have_no_stream = sound.tree.directories_have_no_stream;
        directories_have_one_link = AllPairs-map (λ a b. (is_directory v.files b.1.file && a.1.file == b.1.file) ≡ false) at v.links
            (λ j k d below within. rw (file_of (get_or v.links j d), file_of (get_or v.links k d)) (sound.tree.directories_have_one_link j k d below within));
        marked_are_empty = All-map (λ entry. (entry.1.deleted && has_child links' entry.1.file) ≡ false) at v.links
            (λ k d within. rw (children (at (get_or v.links k d)).1.file, file_of (get_or v.links k d)) (
            elim (cases_Bool ((get_or v.links k d).0 == link)) [
              | inl here ↦ rw here (elim (cases_Bool deleted) [
                | inl marked ↦ (let found : row_of v.links link ≡ Some (get_or v.links k d).1
                    = rw (← eqb-true (get_or v.links k d).0 link here) (row_of-here v.links v.last_link k d sound.links_numbered within) in
                    and_right deleted _ (rw found at empty marked))
                | inr cleared ↦ rw cleared refl
              ])
              | inr other ↦ rw other (sound.tree.marked_are_empty k d within)
            ]));
        numbers_are_not_0 = All-map (λ entry. (entry.0 == 0) ≡ false) at v.links (λ k d within. rw (change_at-number change link (get_or v.links k d)) (sound.tree.numbers_are_not_0 k d within));
      };
      are_of_living = λ k d within. is_of_living-more v.links links' v.streams v.streams (get_or v.handles k d).1
          (λ living. as_many _ ∙ living) (λ s is living. of_link _ s ∙ living) (sound.are_of_living k d within);
      have_streams = λ k d within. has_its_stream-more v.files v.files v.links links' (get_or v.handles k d).1
          (λ living. any-map (λ l. l.0 == (get_or v.handles k d).1.link && is_directory v.files l.1.file) at v.links
          ∙ any-same (λ l. (at l).0 == (get_or v.handles k d).1.link && is_directory v.files (at l).1.file) (λ l. l.0 == (get_or v.handles k d).1.link && is_directory v.files l.1.file) v.links
          (λ l. rw (change_at-number change link l, file_of l) refl) ∙ living) (sound.have_streams k d within);
      files_numbered = sound.files_numbered;
      links_numbered = IsNumbered-change change v.links v.last_link link sound.links_numbered;
      streams_numbered = sound.streams_numbered;
      handles_numbered = sound.handles_numbered;
    }

pub IsSound-with_link_marked : (v : Volume) (link : ℕ) (deleted : Bool) → IsSound v
    → (deleted ≡ true → IfSome (row_of v.links link) (λ row. has_child v.links row.file ≡ false))
    → IsSound (with_link_marked v link deleted)
IsSound-with_link_marked v link deleted sound empty = with_links_sound v (with_link_marked v link deleted).links sound (IsSoundTree-with_link_marked v link deleted (tree_of v sound) empty)

pub IsSoundTree-without_stream : (v : Volume) (stream : ℕ) → IsSoundTree v → has_row (is_open_on stream) v.handles ≡ false → IsSoundTree (without_stream v stream)
IsSoundTree-without_stream v stream sound unopened =
    let kept : ℕ × Stream → Bool = λ entry. not (entry.0 == stream) in
    record {
      tree = record {
        link_names_differ = sound.tree.link_names_differ;
        stream_names_differ = AllPairs-filter (λ a b. is_stream_named v.table b.1.file b.1.name a.1 ≡ false) kept v.streams sound.tree.stream_names_differ;
        link_files_live = sound.tree.link_files_live;
        stream_files_live = All-filter kept (λ entry. lives v.files entry.1.file ≡ true) v.streams sound.tree.stream_files_live;
        parents_are_directories = sound.tree.parents_are_directories;
        parents_lead_up = sound.tree.parents_lead_up;
        root_is_directory = sound.tree.root_is_directory;
        root_has_no_link = sound.tree.root_has_no_link;
        directories_have_no_stream = All-filter kept (λ entry. is_directory v.files entry.1.file ≡ false) v.streams sound.tree.directories_have_no_stream;
        directories_have_one_link = sound.tree.directories_have_one_link;
        marked_are_empty = sound.tree.marked_are_empty;
        numbers_are_not_0 = sound.tree.numbers_are_not_0;
      };
      are_of_living = λ k d within. is_of_living-more v.links v.links v.streams (without_row v.streams stream) (get_or v.handles k d).1
          (λ living. living)
          (λ s is living.
          let closed : (s == stream) ≡ false = rw is at (none-all (λ entry. is_open_on stream entry.1) v.handles unopened k d within) in
          any-filter (λ e. e.0 == s && list_any (λ l. l.0 == (get_or v.handles k d).1.link && l.1.file == e.1.file) v.links) kept v.streams
          (λ e both. rw (eqb-true e.0 s (and_parts (e.0 == s) _ both).0, closed) refl) living)
          (sound.are_of_living k d within);
      have_streams = sound.have_streams;
      files_numbered = sound.files_numbered;
      links_numbered = sound.links_numbered;
      streams_numbered = IsNumbered-filter kept v.streams v.last_stream sound.streams_numbered;
      handles_numbered = sound.handles_numbered;
    }

pub IsSound-without_stream : (v : Volume) (stream : ℕ) → IsSound v → has_row (is_open_on stream) v.handles ≡ false → IsSound (without_stream v stream)
IsSound-without_stream v stream sound unopened =
    let kept : ℕ × Stream → Bool = λ entry. not (entry.0 == stream) in
    let tree = IsSoundTree-without_stream v stream (tree_of v sound) unopened in record {
      tree = tree.tree;
      opens = record {
        are_of_living = tree.are_of_living;
        have_streams = tree.have_streams;
        differ = sound.opens.differ;
        have_clients = sound.opens.have_clients;
      };
      pending = sound.pending;
      clients = sound.clients;
      of_handles = sound.of_handles;
      files_numbered = tree.files_numbered;
      links_numbered = tree.links_numbered;
      streams_numbered = tree.streams_numbered;
      handles_numbered = tree.handles_numbered;
      locks_numbered = sound.locks_numbered;
      oplocks = sound.oplocks;
      blockers_given = sound.blockers_given;
      streams_fit = All-filter kept (λ entry. length entry.1.bytes ≤ 2 ^ 26) v.streams sound.streams_fit;
      points_fit = sound.points_fit;
      bounded = record { files = sound.bounded.files; links = sound.bounded.links; streams = sound.bounded.streams; handles = sound.bounded.handles; clock = sound.bounded.clock; locks = sound.bounded.locks; breaks = sound.bounded.breaks };
    }

-- from a directory with a child, what leads up still does without a link whose file has no child
pub leads_to-without : (steps : ℕ) (links : List (ℕ × Link)) (last link : ℕ) (row : Link) (above dir : ℕ) → IsNumbered links last
    → row_of links link ≡ Some row → has_child links row.file ≡ false → has_child links dir ≡ true
    → leads_to steps links above dir ≡ true → leads_to steps (without_row links link) above dir ≡ true
leads_to-without zero links last link row above dir numbered found empty child leads = leads
leads_to-without (suc steps) links last link row above dir numbered found empty child leads =
    let kept : All (λ e. (e.1.file == dir) ≡ true → not (e.0 == link) ≡ true) links = λ k d within here.
    elim (cases_Bool ((get_or links k d).0 == link)) [
      | inl same ↦ (let this : Some (get_or links k d).1 ≡ Some row
          = sym (row_of-here links last k d numbered within) ∙ ap (row_of links) (eqb-true (get_or links k d).0 link same) ∙ found in
          let file : (get_or links k d).1 ≡ row = cc in
          let none : has_child links dir ≡ false = rw (← eqb-true (get_or links k d).1.file dir here, file) empty in
          absurd (both_ways (has_child links dir) none child))
      | inr other ↦ rw other refl
    ] in
    let same_link : link_of_file (without_row links link) dir ≡ link_of_file links dir = find-filter (λ e. e.1.file == dir) (λ e. not (e.0 == link)) links kept in
    let next_up : Option (ℕ × Link) → Bool = λ o. option_map_or (λ entry. leads_to steps links above entry.1.parent) o false in
    elim (or_cases (dir == above) (next_up (link_of_file links dir)) leads) [
      | inl here ↦ rw here refl
      | inr up ↦ or_right (dir == above) _ (elim (option_cases (link_of_file links dir)) [
        | inl none ↦ (let impossible : false ≡ true = rw none at up in cc)
        | inr some ↦ (let next : leads_to steps links above some.0.1.parent ≡ true = rw some.1 at up in
            let has : has_child links some.0.1.parent ≡ true = find-any (λ e. e.1.file == dir) (λ e. e.1.parent == some.0.1.parent) links some.0 some.1 (eq-eqb _ _ refl) in
            rw (same_link, some.1) (leads_to-without steps links last link row above some.0.1.parent numbered found empty has next))
      ])
    ]

-- the link taken out, with nothing in it and no handle by it
pub IsSoundTree-link_out : (v : Volume) (link : ℕ) (gone : Link) → IsSoundTree v → row_of v.links link ≡ Some gone → has_child v.links gone.file ≡ false
    → has_row (is_open_by link) v.handles ≡ false → IsSoundTree (record v { links = without_row v.links link })
IsSoundTree-link_out v link gone sound found empty unopened =
    let kept : ℕ × Link → Bool = λ entry. not (entry.0 == link) in
    let links' : List (ℕ × Link) = without_row v.links link in
    let parents : All (λ e. has_child v.links e.1.parent ≡ true) v.links
    = λ k d within. list_any_at (λ e. e.1.parent == (get_or v.links k d).1.parent) v.links k d within (eq-eqb _ _ refl) in
    record {
      tree = record {
        link_names_differ = AllPairs-filter (λ a b. is_named v.table b.1.parent b.1.name a.1 ≡ false) kept v.links sound.tree.link_names_differ;
        stream_names_differ = sound.tree.stream_names_differ;
        link_files_live = All-filter kept (λ entry. lives v.files entry.1.file ≡ true) v.links sound.tree.link_files_live;
        stream_files_live = sound.tree.stream_files_live;
        parents_are_directories = All-filter kept (λ entry. is_directory v.files entry.1.parent ≡ true) v.links sound.tree.parents_are_directories;
        parents_lead_up = All-filter kept (λ entry. LeadsUp links' entry.1.parent) v.links
            (λ k d within. let up = sound.tree.parents_lead_up k d within in record {
              steps = up.steps;
              leads = leads_to-without up.steps v.links v.last_link link gone 1 (get_or v.links k d).1.parent sound.links_numbered found empty (parents k d within) up.leads;
            });
        root_is_directory = sound.tree.root_is_directory;
        root_has_no_link = All-filter kept (λ entry. (entry.1.file == 1) ≡ false) v.links sound.tree.root_has_no_link;
        directories_have_no_stream = sound.tree.directories_have_no_stream;
        directories_have_one_link = AllPairs-filter (λ a b. (is_directory v.files b.1.file && a.1.file == b.1.file) ≡ false) kept v.links sound.tree.directories_have_one_link;
        marked_are_empty = All-filter kept (λ entry. (entry.1.deleted && has_child links' entry.1.file) ≡ false) v.links
            (λ k d within. elim (and_cases (get_or v.links k d).1.deleted (has_child v.links (get_or v.links k d).1.file) (sound.tree.marked_are_empty k d within)) [
              | inl unmarked ↦ rw unmarked refl
              | inr none ↦ and_right (get_or v.links k d).1.deleted _ (any-filter_none (λ e. e.1.parent == (get_or v.links k d).1.file) kept v.links none)
            ]);
        numbers_are_not_0 = All-filter kept (λ entry. (entry.0 == 0) ≡ false) v.links sound.tree.numbers_are_not_0;
      };
      are_of_living = λ k d within.
          let closed : ((get_or v.handles k d).1.link == link) ≡ false = none-all (λ entry. is_open_by link entry.1) v.handles unopened k d within in
          is_of_living-more v.links links' v.streams v.streams (get_or v.handles k d).1
          (λ living. lives-without v.links _ link living closed)
          (λ s is living. any-weaker (λ e. e.0 == s && list_any (λ l. l.0 == (get_or v.handles k d).1.link && l.1.file == e.1.file) v.links)
          (λ e. e.0 == s && list_any (λ l. l.0 == (get_or v.handles k d).1.link && l.1.file == e.1.file) links') v.streams
          (λ e both. let parts = and_parts (e.0 == s) (list_any (λ l. l.0 == (get_or v.handles k d).1.link && l.1.file == e.1.file) v.links) both in
          and_from (e.0 == s) (list_any (λ l. l.0 == (get_or v.handles k d).1.link && l.1.file == e.1.file) links') parts.0
          (any-filter (λ l. l.0 == (get_or v.handles k d).1.link && l.1.file == e.1.file) kept v.links
          (λ l here. rw (eqb-true l.0 _ (and_parts (l.0 == (get_or v.handles k d).1.link) _ here).0, closed) refl) parts.1)) living)
          (sound.are_of_living k d within);
      have_streams = λ k d within.
          let closed : ((get_or v.handles k d).1.link == link) ≡ false = none-all (λ entry. is_open_by link entry.1) v.handles unopened k d within in
          has_its_stream-more v.files v.files v.links links' (get_or v.handles k d).1
          (any-filter (λ l. l.0 == (get_or v.handles k d).1.link && is_directory v.files l.1.file) kept v.links
          (λ l here. rw (eqb-true l.0 _ (and_parts (l.0 == (get_or v.handles k d).1.link) _ here).0, closed) refl)) (sound.have_streams k d within);
      files_numbered = sound.files_numbered;
      links_numbered = IsNumbered-filter kept v.links v.last_link sound.links_numbered;
      streams_numbered = sound.streams_numbered;
      handles_numbered = sound.handles_numbered;
    }

IsSound-link_out : (v : Volume) (link : ℕ) (gone : Link) → IsSound v → row_of v.links link ≡ Some gone → has_child v.links gone.file ≡ false
    → has_row (is_open_by link) v.handles ≡ false → IsSound (record v { links = without_row v.links link })
IsSound-link_out v link gone sound found empty unopened = with_links_sound v (without_row v.links link) sound (IsSoundTree-link_out v link gone (tree_of v sound) found empty unopened)

-- a test that is weaker on each item passes too
any-all : {X : Type 0} (p q : X → Bool) (xs : List X) → All (λ x. p x ≡ true → q x ≡ true) xs → list_any p xs ≡ true → list_any q xs ≡ true
any-all p q [] weaker some = some
any-all p q (x ∷ xs) weaker some =
    elim (cases_Bool (p x)) [
      | inl passes ↦ rw (weaker 0 x (omega arith) passes) refl
      | inr fails ↦ or_right (q x) (list_any q xs) (any-all p q xs (λ k d within. weaker (suc k) d (omega arith)) (rw fails at some))
    ]

-- a file without a link or a child taken out, with its streams
pub IsSoundTree-without_file : (v : Volume) (file : ℕ) → IsSoundTree v → has_row (λ link. link.file == file) v.links ≡ false → has_child v.links file ≡ false
    → (file == 1) ≡ false → IsSoundTree (without_file v file)
IsSoundTree-without_file v file sound unlinked empty not_root =
    let kept : ℕ × File → Bool = λ entry. not (entry.0 == file) in
    let kept_stream : ℕ × Stream → Bool = λ entry. not (entry.1.file == file) in
    let files' : List (ℕ × File) = without_row v.files file in
    let no_link : All (λ l. (l.1.file == file) ≡ false) v.links = none-all (λ l. l.1.file == file) v.links unlinked in
    let no_child : All (λ l. (l.1.parent == file) ≡ false) v.links = none-all (λ l. l.1.parent == file) v.links empty in
    let directory : (id : ℕ) → is_directory v.files id ≡ true → (id == file) ≡ false → is_directory files' id ≡ true
    = λ id is other. any-filter (λ e. e.0 == id && e.1.directory) kept v.files (λ e both. rw (eqb-true e.0 id (and_parts (e.0 == id) _ both).0, other) refl) is in
    let no_directory : (id : ℕ) → is_directory v.files id ≡ false → is_directory files' id ≡ false
    = λ id none. any-filter_none (λ e. e.0 == id && e.1.directory) kept v.files none in
    record {
      tree = record {
        link_names_differ = sound.tree.link_names_differ;
        stream_names_differ = AllPairs-filter (λ a b. is_stream_named v.table b.1.file b.1.name a.1 ≡ false) kept_stream v.streams sound.tree.stream_names_differ;
        link_files_live = λ k d within. lives-without v.files _ file (sound.tree.link_files_live k d within) (no_link k d within);
        stream_files_live = λ k d within. lives-without v.files _ file
            (All-filter kept_stream (λ entry. lives v.files entry.1.file ≡ true) v.streams sound.tree.stream_files_live k d within)
            (not-true _ (filter_passes kept_stream v.streams k d within));
        parents_are_directories = λ k d within. directory _ (sound.tree.parents_are_directories k d within) (no_child k d within);
        parents_lead_up = sound.tree.parents_lead_up;
        root_is_directory = directory 1 sound.tree.root_is_directory (eqb-swap 1 file ∙ not_root);
        root_has_no_link = sound.tree.root_has_no_link;
        directories_have_no_stream = All-filter kept_stream (λ entry. is_directory files' entry.1.file ≡ false) v.streams
            (λ k d within. no_directory _ (sound.tree.directories_have_no_stream k d within));
        directories_have_one_link = λ j k d below within.
            elim (and_cases (is_directory v.files (get_or v.links k d).1.file) ((get_or v.links j d).1.file == (get_or v.links k d).1.file) (sound.tree.directories_have_one_link j k d below within)) [
              | inl none ↦ rw (no_directory _ none) refl
              | inr other ↦ and_right (is_directory files' (get_or v.links k d).1.file) _ other
            ];
        marked_are_empty = sound.tree.marked_are_empty;
        numbers_are_not_0 = sound.tree.numbers_are_not_0;
      };
      are_of_living = λ k d within. is_of_living-more v.links v.links v.streams (filter kept_stream v.streams) (get_or v.handles k d).1
          (λ living. living)
          (λ s is living. any-filter (λ e. e.0 == s && list_any (λ l. l.0 == (get_or v.handles k d).1.link && l.1.file == e.1.file) v.links) kept_stream v.streams
          (λ e both. elim (cases_Bool (e.1.file == file)) [
            | inl here ↦ (let none : list_any (λ l. l.0 == (get_or v.handles k d).1.link && l.1.file == e.1.file) v.links ≡ false
                = list_any_none (λ l. l.0 == (get_or v.handles k d).1.link && l.1.file == e.1.file) v.links
                (λ j x inside. and_right ((get_or v.links j x).0 == (get_or v.handles k d).1.link) ((get_or v.links j x).1.file == e.1.file) (rw (eqb-true e.1.file file here) (no_link j x inside))) in
                absurd (both_ways _ none (and_parts (e.0 == s) (list_any (λ l. l.0 == (get_or v.handles k d).1.link && l.1.file == e.1.file) v.links) both).1))
            | inr other ↦ rw other refl
          ]) living)
          (sound.are_of_living k d within);
      have_streams = λ k d within. has_its_stream-more v.files files' v.links v.links (get_or v.handles k d).1
          (any-all (λ l. l.0 == (get_or v.handles k d).1.link && is_directory v.files l.1.file) (λ l. l.0 == (get_or v.handles k d).1.link && is_directory files' l.1.file) v.links
          (λ j e inside both. let parts = and_parts ((get_or v.links j e).0 == (get_or v.handles k d).1.link) (is_directory v.files (get_or v.links j e).1.file) both in
          and_from ((get_or v.links j e).0 == (get_or v.handles k d).1.link) (is_directory files' (get_or v.links j e).1.file) parts.0 (directory _ parts.1 (no_link j e inside))))
          (sound.have_streams k d within);
      files_numbered = IsNumbered-filter kept v.files v.last_file sound.files_numbered;
      links_numbered = sound.links_numbered;
      streams_numbered = IsNumbered-filter kept_stream v.streams v.last_stream sound.streams_numbered;
      handles_numbered = sound.handles_numbered;
    }

IsSound-without_file : (v : Volume) (file : ℕ) → IsSound v → has_row (λ link. link.file == file) v.links ≡ false → has_child v.links file ≡ false
    → (file == 1) ≡ false → IsSound (without_file v file)
IsSound-without_file v file sound unlinked empty not_root =
    let kept : ℕ × File → Bool = λ entry. not (entry.0 == file) in
    let kept_stream : ℕ × Stream → Bool = λ entry. not (entry.1.file == file) in
    let tree = IsSoundTree-without_file v file (tree_of v sound) unlinked empty not_root in record {
      tree = tree.tree;
      opens = record {
        are_of_living = tree.are_of_living;
        have_streams = tree.have_streams;
        differ = sound.opens.differ;
        have_clients = sound.opens.have_clients;
      };
      pending = sound.pending;
      clients = sound.clients;
      of_handles = sound.of_handles;
      files_numbered = tree.files_numbered;
      links_numbered = tree.links_numbered;
      streams_numbered = tree.streams_numbered;
      handles_numbered = tree.handles_numbered;
      locks_numbered = sound.locks_numbered;
      oplocks = sound.oplocks;
      blockers_given = sound.blockers_given;
      streams_fit = All-filter kept_stream (λ entry. length entry.1.bytes ≤ 2 ^ 26) v.streams sound.streams_fit;
      points_fit = All-filter kept (λ entry. PointFits entry.1) v.files sound.points_fit;
      bounded = record { files = sound.bounded.files; links = sound.bounded.links; streams = sound.bounded.streams; handles = sound.bounded.handles; clock = sound.bounded.clock; locks = sound.bounded.locks; breaks = sound.bounded.breaks };
    }

-- what holds without the link's row, and then without its file where that has no other link, holds without the link
without_link-holds : (P : Volume → Type 0) (v : Volume) (link : ℕ) → P v
    → ((row : Link) → row_of v.links link ≡ Some row → P (record v { links = without_row v.links link }))
    → ((row : Link) → row_of v.links link ≡ Some row → has_row (λ l. l.file == row.file) (without_row v.links link) ≡ false
    → P (record v { links = without_row v.links link }) → P (without_file (record v { links = without_row v.links link }) row.file))
    → P (without_link v link)
without_link-holds P v link whole out file_out =
    elim (option_cases (row_of v.links link)) [
      | inl none ↦ rw none whole
      | inr some ↦ rw some.1 (elim (cases_Bool (has_row (λ l. l.file == some.0.file) (without_row v.links link))) [
        | inl linked ↦ rw linked (out some.0 some.1)
        | inr unlinked ↦ rw unlinked (file_out some.0 some.1 unlinked (out some.0 some.1))
      ])
    ]

-- the file of a link that is taken out still has no child, and isn't the root
childless-out : (v : Volume) (link : ℕ) (row : Link) → row_of v.links link ≡ Some row → IfSome (row_of v.links link) (λ row. has_child v.links row.file ≡ false)
    → has_child (without_row v.links link) row.file ≡ false
childless-out v link row found empty = any-filter_none (λ e. e.1.parent == row.file) (λ e. not (e.0 == link)) v.links (rw found at empty)

not_root-out : (v : Volume) (link : ℕ) (row : Link) → IsSoundTree v → row_of v.links link ≡ Some row → (row.file == 1) ≡ false
not_root-out v link row sound found = row_of-all (λ l. (l.file == 1) ≡ false) v.links link row found sound.tree.root_has_no_link

pub IsSoundTree-without_link : (v : Volume) (link : ℕ) → IsSoundTree v → IfSome (row_of v.links link) (λ row. has_child v.links row.file ≡ false)
    → has_row (is_open_by link) v.handles ≡ false → IsSoundTree (without_link v link)
IsSoundTree-without_link v link sound empty unopened = without_link-holds IsSoundTree v link sound
    (λ row found. IsSoundTree-link_out v link row sound found (rw found at empty) unopened)
    (λ row found unlinked out. IsSoundTree-without_file (record v { links = without_row v.links link }) row.file out unlinked
    (childless-out v link row found empty) (not_root-out v link row sound found))

pub IsSound-without_link : (v : Volume) (link : ℕ) → IsSound v → IfSome (row_of v.links link) (λ row. has_child v.links row.file ≡ false)
    → has_row (is_open_by link) v.handles ≡ false → IsSound (without_link v link)
IsSound-without_link v link sound empty unopened = without_link-holds IsSound v link sound
    (λ row found. IsSound-link_out v link row sound found (rw found at empty) unopened)
    (λ row found unlinked out. IsSound-without_file (record v { links = without_row v.links link }) row.file out unlinked
    (childless-out v link row found empty) (not_root-out v link row (tree_of v sound) found))

-- without a link that isn't there; without a file's last link; without another
pub without_link-none : (v : Volume) (link : ℕ) → row_of v.links link ≡ None → without_link v link ≡ v
without_link-none v link none = rw none refl

pub without_link-last : (v : Volume) (link : ℕ) (row : Link) → row_of v.links link ≡ Some row → has_row (λ l. l.file == row.file) (without_row v.links link) ≡ false
    → without_link v link ≡ record v { links = without_row v.links link; files = without_row v.files row.file; streams = filter (λ entry. not (entry.1.file == row.file)) v.streams }
without_link-last v link row found unlinked = rw (found, unlinked) refl

pub without_link-other : (v : Volume) (link : ℕ) (row : Link) → row_of v.links link ≡ Some row → has_row (λ l. l.file == row.file) (without_row v.links link) ≡ true
    → without_link v link ≡ record v { links = without_row v.links link }
without_link-other v link row found linked = rw (found, linked) refl

-- a fresh volume is sound
pub IsSoundTree-fresh : (setup : Setup) → IsSoundTree (fresh setup)
IsSoundTree-fresh setup = record {
  tree = record {
    link_names_differ = λ i j d below within. absurd (omega arith);
    stream_names_differ = λ i j d below within. absurd (omega arith);
    link_files_live = All-nil _;
    stream_files_live = All-nil _;
    parents_are_directories = All-nil _;
    parents_lead_up = All-nil _;
    root_is_directory = refl;
    root_has_no_link = All-nil _;
    directories_have_no_stream = All-nil _;
    directories_have_one_link = λ i j d below within. absurd (omega arith);
    marked_are_empty = All-nil _;
    numbers_are_not_0 = All-nil _;
  };
  are_of_living = All-nil _;
  have_streams = All-nil _;
  files_numbered = record { rising = λ i j d below within. absurd (omega arith); given = All-push (λ entry. entry.0 ≤ 1) [] (1, root) (All-nil _) (omega arith) };
  links_numbered = record { rising = λ i j d below within. absurd (omega arith); given = All-nil _ };
  streams_numbered = record { rising = λ i j d below within. absurd (omega arith); given = All-nil _ };
  handles_numbered = record { rising = λ i j d below within. absurd (omega arith); given = All-nil _ };
}

pub IsSound-fresh : (setup : Setup) → All (λ client. 0 < length client.sids) setup.clients → IsSound (fresh setup)
IsSound-fresh setup sids =
    let tree = IsSoundTree-fresh setup in record {
      tree = tree.tree;
      opens = record { are_of_living = tree.are_of_living; have_streams = tree.have_streams; differ = λ i j d below within. absurd (omega arith); have_clients = All-nil _ };
      pending = record { differ = λ i j d below within. absurd (omega arith); turns_differ = λ i j d below within. absurd (omega arith); have_clients = All-nil _ };
      clients = record { have_sids = sids; may_leave = length-map setup.clients (λ _. false) };
      of_handles = record { locks_live = All-nil _; oplocks_have_keys = All-nil _; watches_live = All-nil _; watches_differ = λ i j d below within. absurd (omega arith) };
      files_numbered = tree.files_numbered;
      links_numbered = tree.links_numbered;
      streams_numbered = tree.streams_numbered;
      handles_numbered = tree.handles_numbered;
      locks_numbered = record { rising = λ i j d below within. absurd (omega arith); given = All-nil _ };
      oplocks = AreOplocks-nil 0;
      blockers_given = All-nil _;
      streams_fit = All-nil _;
      points_fit = All-push (λ entry. PointFits entry.1) [] (1, root) (All-nil _) tt;
      bounded = record { files = omega arith; links = omega arith; streams = omega arith; handles = omega arith; clock = omega arith; locks = omega arith; breaks = omega arith };
    }

-- from a directory that a link names links lead up to the root
pub LeadsUp-file : (v : Volume) → IsSoundTree v → All (λ entry. LeadsUp v.links entry.1.file) v.links
LeadsUp-file v sound k d within =
    let file : ℕ = (get_or v.links k d).1.file in
    elim (option_cases (link_of_file v.links file)) [
      | inl none ↦ absurd (both_ways (list_any (λ e. e.1.file == file) v.links) (find-none (λ e. e.1.file == file) v.links none)
          (list_any_at (λ e. e.1.file == file) v.links k d within (eq-eqb file file refl)))
      | inr some ↦ (let up = find-all (λ (e : ℕ × Link). LeadsUp v.links e.1.parent) (λ e. e.1.file == file) v.links some.0 some.1 sound.tree.parents_lead_up in record {
        steps = suc up.steps;
        leads = or_right (file == 1) _ (rw some.1 up.leads);
      })
    ]

-- ---- the next file

-- the file that was put in is a directory as its row says
pub next-directory : (files : List (ℕ × File)) (last : ℕ) (file : File) → All (λ entry. entry.0 ≤ last) files → is_directory (files ++ (last + 1, file) ∷ []) (last + 1) ≡ file.directory
next-directory files last file given =
    let test : ℕ × File → Bool = λ entry. entry.0 == last + 1 && entry.1.directory in
    let before : list_any test files ≡ false = list_any_none test files (λ k d within. and_left _ _ (no-next files last given k d within)) in
    list_any-append test files ((last + 1, file) ∷ []) ∙ rw (before, eq-eqb (last + 1) (last + 1) refl) (or-false file.directory)

-- the root lives
pub root-lives : (v : Volume) → IsSoundTree v → lives v.files 1 ≡ true
root-lives v sound = any-weaker (λ (entry : ℕ × File). entry.0 == 1 && entry.1.directory) (λ (entry : ℕ × File). entry.0 == 1) v.files (λ entry both. (and_parts _ _ both).0) sound.tree.root_is_directory

-- and its number isn't the next
pub next-not_root : (v : Volume) → IsSoundTree v → (v.last_file + 1 == 1) ≡ false
next-not_root v sound =
    let given = lives-given v.files v.last_file 1 sound.files_numbered.given (root-lives v sound) in
    ne_eqb (v.last_file + 1) 1 (λ e. absurd (omega arith))

-- no link and no stream is one of the next file
pub next-unlinked : (v : Volume) → IsSoundTree v → has_row (λ link. link.file == v.last_file + 1) v.links ≡ false
next-unlinked v sound =
    list_any_none (λ (entry : ℕ × Link). entry.1.file == v.last_file + 1) v.links (λ k d within.
    let given = lives-given v.files v.last_file _ sound.files_numbered.given (sound.tree.link_files_live k d within) in
    ne_eqb _ (v.last_file + 1) (λ e. absurd (omega arith)))

pub next-no_stream : (v : Volume) → IsSoundTree v → All (λ entry. (entry.1.file == v.last_file + 1) ≡ false) v.streams
next-no_stream v sound k d within =
    let given = lives-given v.files v.last_file _ sound.files_numbered.given (sound.tree.stream_files_live k d within) in
    ne_eqb _ (v.last_file + 1) (λ e. absurd (omega arith))

-- ---- what is no directory

-- a file that is no directory has no link in it
pub childless : (v : Volume) → IsSoundTree v → (file : ℕ) → is_directory v.files file ≡ false → has_child v.links file ≡ false
childless v sound file no_directory =
    list_any_none (λ (entry : ℕ × Link). entry.1.parent == file) v.links (λ k d within.
    elim (cases_Bool ((get_or v.links k d).1.parent == file)) [
      | inr other ↦ other
      | inl here ↦ (let is : (get_or v.links k d).1.parent ≡ file = eqb-true _ _ here in
          let directory : is_directory v.files file ≡ true = rw (← is) (sound.tree.parents_are_directories k d within) in
          absurd (both_ways (is_directory v.files file) no_directory directory))
    ])

-- ---- the mark of a directory

-- another link that is one of the same directory isn't there
other-mark : (v : Volume) → IsSoundTree v → (k : ℕ) (d : ℕ × Link) → k < length v.links → is_directory v.files (get_or v.links k d).1.file ≡ true → (get_or v.links k d).1.deleted ≡ false
    → All (λ entry. (entry.1.file == (get_or v.links k d).1.file && entry.1.deleted) ≡ false) v.links
other-mark v sound k d within directory clear j e inside =
    let a : ℕ × Link = get_or v.links j d in
    let b : ℕ × Link = get_or v.links k d in
    let same : get_or v.links j e ≡ a = get_or_default v.links j e d inside in
    let goal_at : (a.1.file == b.1.file && a.1.deleted) ≡ false
    = elim (cases_lt j k) [
      | inl before ↦ elim (and_cases (is_directory v.files b.1.file) (a.1.file == b.1.file) (sound.tree.directories_have_one_link j k d before within)) [
        | inl impossible ↦ absurd (both_ways (is_directory v.files b.1.file) impossible directory)
        | inr differ ↦ and_left (a.1.file == b.1.file) a.1.deleted differ
      ]
      | inr from ↦ elim (cases_lt k j) [
        | inl behind ↦ elim (cases_Bool (a.1.file == b.1.file)) [
          | inr differ ↦ and_left (a.1.file == b.1.file) a.1.deleted differ
          | inl equal ↦ (let files : a.1.file ≡ b.1.file = eqb-true _ _ equal in
              let pair = sound.tree.directories_have_one_link k j d behind inside in
              let impossible : (is_directory v.files b.1.file && b.1.file == b.1.file) ≡ false = subst (λ f. (is_directory v.files f && b.1.file == f) ≡ false) files pair in
              absurd (both_ways (is_directory v.files b.1.file && b.1.file == b.1.file) impossible (and_from (is_directory v.files b.1.file) (b.1.file == b.1.file) directory (eq-eqb b.1.file b.1.file refl))))
        ]
        | inr to ↦ (let here : j ≡ k = omega arith in
            let is : a.1.deleted ≡ false = ap (λ i. (get_or v.links i d).1.deleted) here ∙ clear in
            and_right (a.1.file == b.1.file) a.1.deleted is)
      ]
    ] in
    ap (λ (entry : ℕ × Link). entry.1.file == b.1.file && entry.1.deleted) same ∙ goal_at

-- the mark of a directory's link is the one of all links of the directory
pub one-mark : (v : Volume) → IsSoundTree v
    → All (λ entry. is_directory v.files entry.1.file ≡ true → has_row (λ link. link.file == entry.1.file && link.deleted) v.links ≡ entry.1.deleted) v.links
one-mark v sound k d within directory =
    let file : ℕ = (get_or v.links k d).1.file in
    let test : ℕ × Link → Bool = λ entry. entry.1.file == file && entry.1.deleted in
    elim (cases_Bool (get_or v.links k d).1.deleted) [
      | inl kept ↦ rw kept (list_any_at test v.links k d within (and_from (file == file) (get_or v.links k d).1.deleted (eq-eqb file file refl) kept))
      | inr clear ↦ rw clear (list_any_none test v.links (other-mark v sound k d within directory clear))
    ]
