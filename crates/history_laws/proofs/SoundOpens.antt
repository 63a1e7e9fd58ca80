-- A try of an open keeps the tree sound. Each definition of the open is followed once: what is made gets a name that nothing had, in a
-- directory that takes entries, and the handle is on a stream of its link's file, or has none where that is a directory.
use Rattle.std.proofs.Common.{◌≡◌, ℕ, ◌+◌, ◌==◌, Bool, true, false, not, List, [], ◌∷◌, ◌++◌, length, refl, sym, subst, ◌∙◌, arith, eq-eqb, inl, inr, Option, Some, None}
use Rattle.std.specs.List.{list_any}
use Rattle.std.specs.Option.{option_map_or}
use Rattle.std.specs.Prelude.{◌&&◌, ◌||◌, if◌then◌else◌}
use Rattle.std.proofs.lemmas.Bool.{and_from, and_parts, and_right, cases_Bool, eqb-true, false≢true, not-true, or_right}
use Rattle.std.proofs.lemmas.List.Elements.{All-push}
use Rattle.fsa_types.specs.CaseTable.{same_name}
use Rattle.fsa_types.specs.Masks.{FILE_ACTION_ADDED, FILE_ACTION_ADDED_STREAM, FILE_NOTIFY_CHANGE_DIR_NAME, FILE_NOTIFY_CHANGE_FILE_NAME, FILE_NOTIFY_CHANGE_STREAM_NAME}
use Rattle.fsa_types.specs.Paths.{components, rest_of}
use Rattle.fsa_types.specs.Rows.{row_of, lives}
use Rattle.fsa_types.specs.declared.oplock.Class.{Class}
use Rattle.fsa_types.specs.declared.oplock.Class.TheVariants.{Clash, Change, ReadOpen}
use Rattle.fsa_types.specs.declared.oplock.HandleSet.{HandleSet}
use Rattle.fsa_types.specs.declared.oplock.HandleSet.TheVariants as set
use Rattle.fsa_types.specs.declared.reply.Action.TheVariants as action
use Rattle.fsa_types.specs.declared.request.Disposition.{Disposition}
use Rattle.fsa_types.specs.declared.status.Status.{Status}
use Rattle.fsa_types.specs.declared.status.Status.TheVariants.{OplockBreakInProgress, SharingViolation, Success}
use Rattle.fsa_model.specs.Breaks.{with_breaks}
use Rattle.fsa_model.specs.Edits.{with_file, with_link, with_stream}
use Rattle.fsa_model.specs.Lookups.{child_of, is_directory, is_stream_named, number_of, stream_of}
use Rattle.fsa_model.specs.Open.{Asked, clashed, completes_if_oplocked, create_at, create_by_link, create_found, create_in_file, create_missing, create_named, create_on_stream, create_stream, create_there, create_walked, file_attributes, held, make_directory, make_file, names_stream, new_file, open_directory, open_existing, open_granted, open_stream, open_waits, opened, opens, overwrite_action, overwrite_existing, stopped, stream_name, try_create, wants_more, with_file_made, with_new_stream, with_open, with_overwritten}
use Rattle.fsa_model.specs.Outcome.{Outcome, refused}
use Rattle.fsa_model.specs.Sound.{IsSoundTree, has_its_stream, is_link_of_directory, is_of_living}
use Rattle.fsa_model.specs.Turn.{volume_after}
use Rattle.fsa_model.specs.Volume.{File, Link, Stream, Volume}
use Rattle.fsa_model.specs.Walk.{Walked, Reached, Barred, Diverted, last_name, point_of, walk}
use Rattle.fsa_model.proofs.BreakLaws.{with_breaks-rest}
use Rattle.fsa_model.proofs.CoherenceBegins.{row-any}
use Rattle.fsa_model.proofs.CoherenceComes.{row_opened}
use Rattle.fsa_model.proofs.RowLaws.{any-last, any-weaker, lives-last, number-none, row_of-all}
use Rattle.fsa_model.proofs.SoundLaws.{IsSoundTree-with_handle, IsSoundTree-with_stream, next-no_stream, root-lives}
use Rattle.fsa_model.proofs.SoundWaits.{touched}
use Rattle.history_laws.specs.TreeChanges.{Overwrites}
use Rattle.history_laws.proofs.FitLists.{by-if, by-option}
use Rattle.history_laws.proofs.SoundKinds.{IsSoundTree-same, TakesEntries, plain-next, sound-change, sound-made, sound-made_file, sound-noted}
use Rattle.history_laws.proofs.SoundWalks.{walk-takes}

-- ---- rows

-- a row is there by the number of the one that passes a test, with what is true of each that passes
number-any : {R : Type 0} (test q : R → Bool) (rows : List (ℕ × R)) (id : ℕ) → number_of test rows ≡ Some id → ((row : R) → test row ≡ true → q row ≡ true)
    → list_any (λ e. e.0 == id && q e.1) rows ≡ true
number-any test q [] id found passes = cc
number-any test q (x ∷ xs) id found passes = elim (cases_Bool (test x.1)) [
  | inl here ↦ (let is : Some x.0 ≡ Some id = rw here at found in let same : x.0 ≡ id = cc in rw (eq-eqb x.0 id same, passes x.1 here) refl)
  | inr other ↦ or_right (x.0 == id && q x.1) _ (number-any test q xs id (rw other at found) passes)
]

-- ---- volumes with the same tree

sound-touched : (v w : Volume) → IsSoundTree v → IsSoundTree (touched v w)
sound-touched v w sound = IsSoundTree-same v (touched v w) refl refl refl refl refl refl refl refl refl sound

-- an overwrite is one of the changes
sound-overwritten : (v : Volume) (asked : Asked) (link file stream : ℕ) → IsSoundTree v → IsSoundTree (with_overwritten v asked link file stream)
sound-overwritten v asked link file stream sound = sound-change v (Overwrites link file stream (names_stream asked.path) (file_attributes asked.attributes)) tt sound

-- ---- what is made

-- a file with its default stream and with one that has a name, which isn't that of the default stream
default-other : (table : List (ℕ × ℕ)) (name : List ℕ) → (length name == 0) ≡ false → same_name table [] name ≡ false
default-other table [] named = cc
default-other table (unit ∷ name) named = refl

made-both : (v : Volume) (dir : ℕ) (name : List ℕ) (file : File) (stream : List ℕ) → IsSoundTree v → TakesEntries v dir → child_of v dir name ≡ None → file.directory ≡ false
    → (length stream == 0) ≡ false → IsSoundTree (with_stream (with_stream (with_link (with_file v file) dir name (v.last_file + 1)) (v.last_file + 1) []) (v.last_file + 1) stream)
made-both v dir name file stream sound takes missing a_file named =
    IsSoundTree-with_stream (with_stream (with_link (with_file v file) dir name (v.last_file + 1)) (v.last_file + 1) []) (v.last_file + 1) stream
    (sound-made_file v dir name file takes missing a_file sound) (lives-last v.files (v.last_file + 1) file) (plain-next v file sound a_file)
    (number-none test (v.streams ++ (v.last_stream + 1, default) ∷ []) (All-push (λ (e : ℕ × Stream). test e.1 ≡ false) v.streams (v.last_stream + 1, default)
    (λ k d within. rw (next-no_stream v sound k d within) refl) (and_right (v.last_file + 1 == v.last_file + 1) _ (default-other v.table stream named))))
  where
    test : Stream → Bool
    test = is_stream_named v.table (v.last_file + 1) stream

    default : Stream
    default = record { file = v.last_file + 1; name = []; bytes = []; deleted = false }

-- ---- the handle

-- the link of an open's handle lives or is 0, its stream is one of that link's file, and it has one or its link is a directory's
record MayOpen (v : Volume) (asked : Asked) (link : ℕ) (stream : Option ℕ) : Type 0 where
  living : is_of_living v.links v.streams (row_opened asked link stream) ≡ true
  its : has_its_stream v.files v.links (row_opened asked link stream) ≡ true

sound-open : (v : Volume) (asked : Asked) (link : ℕ) (stream : Option ℕ) → IsSoundTree v → MayOpen v asked link stream → IsSoundTree (with_open v asked link stream)
sound-open v asked link stream sound may = IsSoundTree-with_handle v (row_opened asked link stream) sound may.living may.its

-- the link is this file's, or the root's
record IsLinked (v : Volume) (link file : ℕ) : Type 0 where
  link_lives : (link == 0 || lives v.links link) ≡ true
  file_lives : lives v.files file ≡ true
  of_file : is_directory v.files file ≡ false → list_any (λ l. l.0 == link && l.1.file == file) v.links ≡ true
  of_directory : is_directory v.files file ≡ true → is_link_of_directory v.files v.links link ≡ true

root-linked : (v : Volume) → IsSoundTree v → IsLinked v 0 1
root-linked v sound = record {
  link_lives = refl;
  file_lives = root-lives v sound;
  of_file = λ a_file. absurd (false≢true (sym a_file ∙ sound.tree.root_is_directory));
  of_directory = λ is. refl;
}

row-linked : (v : Volume) (link : ℕ) (row : Link) → IsSoundTree v → row_of v.links link ≡ Some row → IsLinked v link row.file
row-linked v link row sound found = record {
  link_lives = or_right (link == 0) _ (any-weaker (λ l. l.0 == link && l.1.file == row.file) (λ l. l.0 == link) v.links (λ l both. (and_parts (l.0 == link) (l.1.file == row.file) both).0) its);
  file_lives = row_of-all (λ l. lives v.files l.file ≡ true) v.links link row found sound.tree.link_files_live;
  of_file = λ a_file. its;
  of_directory = λ is. or_right (link == 0) _ (row-any (λ l. l.0 == link && is_directory v.files l.1.file) v.links link row found (and_from _ _ (eq-eqb link link refl) is));
}
  where
    its : list_any (λ l. l.0 == link && l.1.file == row.file) v.links ≡ true
    its = row-any (λ l. l.0 == link && l.1.file == row.file) v.links link row found (and_from _ _ (eq-eqb link link refl) (eq-eqb row.file row.file refl))

-- it may be opened: a directory, a stream that is there, and one that is made
directory-may : (v : Volume) (asked : Asked) (link file : ℕ) → IsLinked v link file → is_directory v.files file ≡ true → MayOpen v asked link None
directory-may v asked link file linked is = record { living = and_from _ _ linked.link_lives refl; its = linked.of_directory is }

stream-may : (v : Volume) (asked : Asked) (link file : ℕ) (name : List ℕ) (stream : ℕ) → IsLinked v link file → is_directory v.files file ≡ false → stream_of v file name ≡ Some stream
    → MayOpen v asked link (Some stream)
stream-may v asked link file name stream linked a_file there = record {
  living = and_from _ _ linked.link_lives
      (number-any (is_stream_named v.table file name) (λ s. list_any (λ l. l.0 == link && l.1.file == s.file) v.links) v.streams stream there
      (λ s named. let same : s.file ≡ file = eqb-true s.file file (and_parts (s.file == file) (same_name v.table s.name name) named).0 in rw same (linked.of_file a_file)));
  its = refl;
}

made-stream_may : (v : Volume) (asked : Asked) (link file : ℕ) (name : List ℕ) → IsLinked v link file → is_directory v.files file ≡ false
    → MayOpen (with_stream v file name) asked link (Some (v.last_stream + 1))
made-stream_may v asked link file name linked a_file = record {
  living = and_from _ _ linked.link_lives
      (any-last (λ s. s.0 == v.last_stream + 1 && list_any (λ l. l.0 == link && l.1.file == s.1.file) v.links) v.streams _
      (and_from _ _ (eq-eqb (v.last_stream + 1) (v.last_stream + 1) refl) (linked.of_file a_file)));
  its = refl;
}

-- what has just been made is linked
made-is_linked : (v : Volume) (dir : ℕ) (name : List ℕ) (file : File) → IsSoundTree v → file.directory ≡ false
    → IsLinked (with_link (with_file v file) dir name (v.last_file + 1)) (v.last_link + 1) (v.last_file + 1)
made-is_linked v dir name file sound a_file = record {
  link_lives = or_right (v.last_link + 1 == 0) _ (any-last (λ e. e.0 == v.last_link + 1) v.links _ number);
  file_lives = lives-last v.files (v.last_file + 1) file;
  of_file = λ _. any-last (λ l. l.0 == v.last_link + 1 && l.1.file == v.last_file + 1) v.links _ (and_from _ _ number (eq-eqb (v.last_file + 1) (v.last_file + 1) refl));
  of_directory = λ is. absurd (false≢true (sym (plain-next v file sound a_file) ∙ is));
}
  where
    number : (v.last_link + 1 == v.last_link + 1) ≡ true
    number = eq-eqb (v.last_link + 1) (v.last_link + 1) refl

made-directory_may : (v : Volume) (asked : Asked) (dir : ℕ) (name : List ℕ) (file : File) → file.directory ≡ true
    → MayOpen (with_link (with_file v file) dir name (v.last_file + 1)) asked (v.last_link + 1) None
made-directory_may v asked dir name file a_directory = record {
  living = and_from _ _ (or_right (v.last_link + 1 == 0) _ (any-last (λ e. e.0 == v.last_link + 1) v.links _ number)) refl;
  its = or_right (v.last_link + 1 == 0) _
      (any-last (λ l. l.0 == v.last_link + 1 && is_directory (with_file v file).files l.1.file) v.links _
      (and_from _ _ number (any-last (λ e. e.0 == v.last_file + 1 && e.1.directory) v.files _ (and_from _ _ (eq-eqb (v.last_file + 1) (v.last_file + 1) refl) a_directory))));
}
  where
    number : (v.last_link + 1 == v.last_link + 1) ≡ true
    number = eq-eqb (v.last_link + 1) (v.last_link + 1) refl

-- ---- what an open comes to

record IsKept (outcome : Outcome) : Type 0 where
  so : IsSoundTree (volume_after outcome)

-- by a test, and by what is looked up
open-if : (test : Bool) (one other : Outcome) → (test ≡ true → IsKept one) → (test ≡ false → IsKept other) → IsKept (if test then one else other)
open-if = by-if IsKept

open-option : {X : Type 0} (found : Option X) (some : X → Outcome) (none : Outcome) → ((x : X) → found ≡ Some x → IsKept (some x)) → (found ≡ None → IsKept none)
    → IsKept (option_map_or some found none)
open-option = by-option IsKept

-- behind breaks, in a volume with the tree and the handles of this one
behind : (v : Volume) (on : HandleSet) (class : Class) (key : ℕ) (out : Volume → Outcome) → ((w : Volume) → IsKept (out (touched v w))) → IsKept (out (with_breaks v on class None key))
behind v on class key out goes = subst (λ (w : Volume). IsKept (out w)) (sym (with_breaks-rest v on class None key)) (goes (with_breaks v on class None key))

module _ (v : Volume) (asked : Asked) (sound : IsSoundTree v) where
  -- ---- nothing is opened

  refuses : (status : Status) → IsKept (refused v status)
  refuses status = record { so = sound }

  open-unless : (test : Bool) (status : Status) (other : Outcome) → (test ≡ false → IsKept other) → IsKept (if test then refused v status else other)
  open-unless test status other goes = open-if test _ other (λ holds. refuses status) goes

  holds_so : (on : HandleSet) (class : Class) → IsKept (held v on class asked.key)
  holds_so on class = record { so = subst IsSoundTree (sym (with_breaks-rest v on class None asked.key)) (sound-touched v (with_breaks v on class None asked.key) sound) }

  stops : (file : ℕ) (rest : List ℕ) → IsKept (stopped v file rest)
  unfolding stopped
  stops file rest = open-option (point_of v file) _ _ (λ point is. record { so = sound }) (λ none. refuses _)

  clashes_so : (on : HandleSet) → IsKept (clashed v on asked.key)
  unfolding clashed
  clashes_so on =
      open-if (open_waits v on Clash asked.key) _ _ (λ waits. holds_so on Clash)
      (λ free. behind v on Clash asked.key (λ w. refused w SharingViolation) (λ w. record { so = sound-touched v w sound }))

  -- ---- it is there

  -- it is opened as it is
  opens_there : (w : Volume) (link : ℕ) (stream : Option ℕ) (status : Status) → MayOpen v asked link stream → IsKept (opened (touched v w) asked link stream status action.Opened)
  opens_there w link stream status may = record { so = sound-open (touched v w) asked link stream (sound-touched v w sound) (record { living = may.living; its = may.its }) }

  existing : (link : ℕ) (stream : Option ℕ) (on : HandleSet) → MayOpen v asked link stream → IsKept (open_existing v asked link stream on)
  unfolding open_existing
  existing link stream on may =
      open-if (not (wants_more asked)) _ _ (λ less. opens_there v link stream Success may)
      (λ more. open-if (not (open_waits v on ReadOpen asked.key)) _ _
      (λ free. behind v on ReadOpen asked.key (λ w. opened w asked link stream Success action.Opened) (λ w. opens_there w link stream Success may))
      (λ waits. open-if (completes_if_oplocked asked) _ _
      (λ beside. behind v on ReadOpen asked.key (λ w. opened w asked link stream OplockBreakInProgress action.Opened) (λ w. opens_there w link stream OplockBreakInProgress may))
      (λ stays. holds_so on ReadOpen)))

  -- it is overwritten
  overwrites_so : (link file stream : ℕ) → MayOpen v asked link (Some stream) → IsKept (overwrite_existing v asked link file stream)
  unfolding overwrite_existing
  overwrites_so link file stream may =
      open-if (open_waits v (set.Stream stream) Change asked.key) _ _ (λ waits. holds_so (set.Stream stream) Change)
      (λ free. behind v (set.Stream stream) Change asked.key
      (λ w. opens (with_overwritten (with_open w asked link (Some stream)) asked link file stream) Success (overwrite_action asked.disposition))
      (λ w. record { so = sound-overwritten (with_open (touched v w) asked link (Some stream)) asked link file stream (IsKept.so (opens_there w link (Some stream) Success may)) }))

  -- a directory, and a stream
  directory : (link file : ℕ) → IsLinked v link file → is_directory v.files file ≡ true → IsKept (open_directory v asked link file)
  unfolding open_directory open_granted
  directory link file linked is = search (open-if, open-unless, clashes_so, existing, directory-may, linked, is) depth 60 fits 4000

  on_stream : (link file stream : ℕ) → MayOpen v asked link (Some stream) → IsKept (create_on_stream v asked link file stream)
  unfolding create_on_stream open_stream
  on_stream link file stream may = search (open-if, open-unless, clashes_so, existing, overwrites_so, may) depth 60 fits 4000

  -- ---- it is missing

  made_stream : (link file : ℕ) → IsLinked v link file → is_directory v.files file ≡ false → stream_of v file (stream_name asked.path) ≡ None → IsKept (create_stream v asked link file)
  unfolding create_stream
  made_stream link file linked a_file missing = search (open-if, open-unless, adds) depth 40
    where
      made : IsSoundTree (with_stream v file (stream_name asked.path))
      made = IsSoundTree-with_stream v file (stream_name asked.path) sound linked.file_lives a_file missing

      adds : IsKept (opens (with_new_stream v asked link file) Success action.Created)
      adds = record {
        so = sound-noted _ link FILE_ACTION_ADDED_STREAM FILE_NOTIFY_CHANGE_STREAM_NAME (Some (v.last_stream + 1))
            (sound-open _ asked link (Some (v.last_stream + 1)) made (made-stream_may v asked link file (stream_name asked.path) linked a_file));
      }

  makes_directory : (dir : ℕ) (name : List ℕ) → TakesEntries v dir → child_of v dir name ≡ None → IsKept (make_directory v asked dir name)
  unfolding make_directory
  makes_directory dir name takes missing = record {
    so = sound-noted _ (v.last_link + 1) FILE_ACTION_ADDED FILE_NOTIFY_CHANGE_DIR_NAME None
        (sound-open _ asked (v.last_link + 1) None (sound-made v dir name _ takes missing sound) (made-directory_may v asked dir name _ refl));
  }

  makes_file : (dir : ℕ) (name : List ℕ) → TakesEntries v dir → child_of v dir name ≡ None → IsKept (make_file v asked dir name)
  unfolding make_file
  makes_file dir name takes missing =
      open-if (names_stream asked.path) _ _
      (λ named. record {
        so = sound-noted _ link FILE_ACTION_ADDED_STREAM FILE_NOTIFY_CHANGE_STREAM_NAME (Some (v.last_stream + 2))
            (sound-noted _ link FILE_ACTION_ADDED FILE_NOTIFY_CHANGE_FILE_NAME None
            (sound-open _ asked link (Some (v.last_stream + 2)) (made-both v dir name file (stream_name asked.path) sound takes missing refl (not-true _ named))
            (rw (two v.last_stream) (made-stream_may (with_file_made v asked dir name) asked link (v.last_file + 1) (stream_name asked.path) still_linked no_directory))));
      })
      (λ none. record {
        so = sound-noted _ link FILE_ACTION_ADDED FILE_NOTIFY_CHANGE_FILE_NAME None
            (sound-open _ asked link (Some (v.last_stream + 1)) (sound-made_file v dir name file takes missing refl sound)
            (made-stream_may (with_link (with_file v file) dir name (v.last_file + 1)) asked link (v.last_file + 1) [] linked no_directory));
      })
    where
      link : ℕ
      link = v.last_link + 1

      file : File
      file = new_file v asked false (file_attributes asked.attributes)

      linked : IsLinked (with_link (with_file v file) dir name (v.last_file + 1)) link (v.last_file + 1)
      linked = made-is_linked v dir name file sound refl

      still_linked : IsLinked (with_file_made v asked dir name) link (v.last_file + 1)
      still_linked = record { link_lives = linked.link_lives; file_lives = linked.file_lives; of_file = linked.of_file; of_directory = linked.of_directory }

      no_directory : is_directory (with_file v file).files (v.last_file + 1) ≡ false
      no_directory = plain-next v file sound refl

      two : (n : ℕ) → n + 2 ≡ n + 1 + 1
      two n = omega arith

  makes : (dir : ℕ) (name : List ℕ) → TakesEntries v dir → child_of v dir name ≡ None → IsKept (create_missing v asked dir name)
  unfolding create_missing
  makes dir name takes missing = search (open-if, open-unless, makes_directory, makes_file, takes, missing) depth 40

  -- ---- what is there

  in_file : (link file : ℕ) → IsLinked v link file → is_directory v.files file ≡ false → IsKept (create_in_file v asked link file)
  unfolding create_in_file
  in_file link file linked a_file =
      open-option (stream_of v file (stream_name asked.path)) _ _
      (λ stream is. on_stream link file stream (stream-may v asked link file (stream_name asked.path) stream linked a_file is))
      (λ missing. made_stream link file linked a_file missing)

  there : (link file : ℕ) → IsLinked v link file → IsKept (create_there v asked link file)
  unfolding create_there
  there link file linked = search (open-if, open-unless, directory, in_file, linked) depth 60 fits 4000

  found : (link file : ℕ) → IsLinked v link file → IsKept (create_found v asked link file)
  unfolding create_found
  found link file linked = open-if _ _ _ (λ point. stops file []) (λ plain. there link file linked)

  -- ---- the last name, and the path

  by_link : (link : ℕ) → IsKept (create_by_link v asked link)
  unfolding create_by_link
  by_link link =
      open-option (row_of v.links link) _ _ (λ (row : Link) is. open-unless row.deleted _ _ (λ living. found link row.file (row-linked v link row sound is))) (λ none. refuses _)

  by_name : (dir : ℕ) (name : List ℕ) → TakesEntries v dir → IsKept (create_named v asked dir name)
  unfolding create_named
  by_name dir name takes = open-option (child_of v dir name) _ _ (λ link is. by_link link) (λ missing. makes dir name takes missing)

  walked : (way : Walked) → walk v (components asked.path) ≡ way → IsKept (create_walked v asked way)
  unfolding create_walked
  walked (Reached dir) reached =
      open-if (length (components asked.path) == 0) _ _ (λ root. found 0 1 (root-linked v sound))
      (λ below. by_name dir (last_name (components asked.path)) (walk-takes v (components asked.path) dir sound reached))
  walked (Barred status) reached = refuses status
  walked (Diverted file next) reached = stops file (rest_of asked.path next)

  creates : IsKept (try_create v asked)
  unfolding try_create create_at
  creates = search (open-if, open-unless, walks) depth 40
    where
      walks : IsKept (create_walked v asked (walk v (components asked.path)))
      walks = walked (walk v (components asked.path)) refl

-- the try of an open keeps the tree sound
pub create-sound : (v : Volume) (client number : ℕ) (path : List ℕ) (wanted share : ℕ) (disposition : Disposition) (options attributes key : ℕ) → IsSoundTree v
    → IsSoundTree (volume_after (try_create v (record { client = client; number = number; path = path; wanted = wanted; share = share; disposition = disposition; options = options; attributes = attributes; key = key })))
create-sound v client number path wanted share disposition options attributes key sound =
    IsKept.so
    (creates v (record { client = client; number = number; path = path; wanted = wanted; share = share; disposition = disposition; options = options; attributes = attributes; key = key }) sound)
