-- What coherence rests on is part of soundness.
use Rattle.std.proofs.Common.{◌≡◌, ℕ, ◌≤◌, Bool, true, ◌==◌, ◌&&◌, ◌||◌, List, get_or, sym, ap, ◌∙◌, arith, Some}
use Rattle.std.specs.List.{list_any}
use Rattle.std.specs.Option.{option_map_or}
use Rattle.std.proofs.lemmas.Bool.{eqb-true, and_parts}
use Rattle.std.proofs.lemmas.List.Folds.{Any-from_list_any}
use Rattle.fsa_types.specs.Rows.{row_of, lives, IsNumbered}
use Rattle.fsa_model.specs.Coherence.{IsTied, has_living_stream}
use Rattle.fsa_model.specs.Sound.{IsSound, is_of_living, is_stream_of_link}
use Rattle.fsa_model.specs.Volume.{Link, Stream, Handle, Volume}
use Rattle.fsa_model.proofs.CoherenceEdits.{Lives, has_living_stream-from}
use Rattle.fsa_model.proofs.RowLaws.{row_of-here}

-- a row that passes is the one that is found under its number
record Passes {R : Type 0} (rows : List (ℕ × R)) (p : ℕ × R → Bool) : Type 0 where
  entry : ℕ × R
  found : row_of rows entry.0 ≡ Some entry.1
  passes : p entry ≡ true
  given : (last : ℕ) → IsNumbered rows last → entry.0 ≤ last

passing : {R : Type 0} (rows : List (ℕ × R)) (last : ℕ) (p : ℕ × R → Bool) → IsNumbered rows last → list_any p rows ≡ true → Passes rows p
passing rows last p numbered some =
    let it = Any-from_list_any p rows some in
    record {
      entry = get_or rows it.0 it.1;
      found = row_of-here rows last it.0 it.1 numbered it.2;
      passes = ap p it.3 ∙ it.4;
      given = λ other so. so.given it.0 it.1 it.2;
    }

-- a stream of a link that lives
Lives-stream : (links : List (ℕ × Link)) (streams : List (ℕ × Stream)) (last_link last_stream link stream : ℕ) → IsNumbered links last_link → IsNumbered streams last_stream
    → is_stream_of_link links streams link stream ≡ true → Lives links streams link stream
Lives-stream links streams last_link last_stream link stream links_numbered streams_numbered of_link =
    let s = passing streams last_stream (λ s. s.0 == stream && list_any (λ l. l.0 == link && l.1.file == s.1.file) links) streams_numbered of_link in
    let both = and_parts (s.entry.0 == stream) (list_any (λ l. l.0 == link && l.1.file == s.entry.1.file) links) s.passes in
    let l = passing links last_link (λ l. l.0 == link && l.1.file == s.entry.1.file) links_numbered both.1 in
    let of_both = and_parts (l.entry.0 == link) (l.entry.1.file == s.entry.1.file) l.passes in
    record {
      a_link = l.entry.1;
      a_stream = s.entry.1;
      of_link = ap (row_of links) (sym (eqb-true l.entry.0 link of_both.0)) ∙ l.found;
      of_stream = ap (row_of streams) (sym (eqb-true s.entry.0 stream both.0)) ∙ s.found;
      one_file = eqb-true l.entry.1.file s.entry.1.file of_both.1;
    }

living-stream : (v : Volume) (handle : Handle) → IsSound v → is_of_living v.links v.streams handle ≡ true → has_living_stream v.links v.streams handle ≡ true
living-stream v handle sound living =
    has_living_stream-from v.links v.streams handle (λ stream has.
    (let of_it : option_map_or (λ s. is_stream_of_link v.links v.streams handle.link s) handle.stream true ≡ true
    = (and_parts (handle.link == 0 || lives v.links handle.link) (option_map_or (λ s. is_stream_of_link v.links v.streams handle.link s) handle.stream true) living).1 in
    Lives-stream v.links v.streams v.last_link v.last_stream handle.link stream sound.links_numbered sound.streams_numbered (rw has at of_it)))

pub IsTied-sound : (v : Volume) → IsSound v → IsTied v
IsTied-sound v sound = record {
  oplocks_differ = sound.oplocks.handles_differ;
  oplocks_have_keys = sound.of_handles.oplocks_have_keys;
  streams_live = λ k d within. living-stream v (get_or v.handles k d).1 sound (sound.opens.are_of_living k d within);
  links_numbered = sound.links_numbered;
  streams_numbered = sound.streams_numbered;
  root = record { is_there = sound.tree.root_is_directory; has_no_link = sound.tree.root_has_no_link; given = given };
}
  where
    given : 1 ≤ v.last_file
    given =
        (let file = passing v.files v.last_file (λ entry. entry.0 == 1 && entry.1.directory) sound.files_numbered sound.tree.root_is_directory in
        let is : file.entry.0 ≡ 1 = eqb-true file.entry.0 1 (and_parts (file.entry.0 == 1) file.entry.1.directory file.passes).0 in
        let below = file.given v.last_file sound.files_numbered in
        omega arith)
