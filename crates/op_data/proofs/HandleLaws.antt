-- The stream of a handle lives.
use Rattle.std.proofs.Common.{◌≡◌, ℕ, Bool, true, List, ap, sym, ◌∙◌, Option, Some}
use Rattle.std.specs.Prelude.{◌==◌, ◌&&◌, ◌||◌, IsTrue}
use Rattle.std.specs.List.{list_any}
use Rattle.std.specs.Option.{option_map_or}
use Rattle.std.proofs.lemmas.Bool.{and_parts}
use Rattle.fsa_types.specs.Rows.{lives}
use Rattle.fsa_model.specs.Sound.{is_of_living, is_stream_of_link}
use Rattle.fsa_model.specs.Volume.{Handle, Link, Stream}
use Rattle.fsa_model.proofs.RowLaws.{any-weaker}

pub stream_lives : (links : List (ℕ × Link)) (streams : List (ℕ × Stream)) (handle : Handle) (stream : ℕ) → handle.stream ≡ Some stream → IsTrue (is_of_living links streams handle) → IsTrue (lives streams stream)
stream_lives links streams handle stream is_its living =
    let has : Option ℕ → Bool = λ o. option_map_or (λ s. is_stream_of_link links streams handle.link s) o true in
    let linked : ℕ × Stream → Bool = λ s. list_any (λ l. l.0 == handle.link && l.1.file == s.1.file) links in
    let its : has (Some stream) ≡ true = sym (ap has is_its) ∙ (and_parts (handle.link == 0 || lives links handle.link) (has handle.stream) living).1 in
    any-weaker (λ s. s.0 == stream && linked s) (λ s. s.0 == stream) streams (λ s passes. (and_parts (s.0 == stream) (linked s) passes).0) its
