-- That the tree of a volume is well formed: names are ones that a component or a stream part of a path can have, what is no
-- directory has its default stream, a file has at most 1,024 links, and what has a reparse point isn't the root and has nothing in it.
-- After [MS-FSCC] 'Pathname', 'Filename' and 'Streamname', and [MS-FSA] 'Per File', 'Per Link' and 'Per Stream'.
use Rattle.std.specs.Prelude.{ℕ, ◌≡◌, ◌≤◌, ◌==◌, ◌&&◌, true, false, List, All, None, is_some, length}
use Rattle.std.specs.List.{list_any}
use Rattle.fsa_types.specs.Paths.{component_fault, is_bad_stream, is_colon, is_separator}
use Rattle.fsa_model.specs.Lookups.{has_child, has_row}
use Rattle.fsa_model.specs.Once.{how_many}
use Rattle.fsa_model.specs.Volume.{Volume}

-- a link's name is one that a component of a path can have; it has no `\`, where paths are cut
abbrev pub IsLinkName : List ℕ → Type 0
IsLinkName name = (component_fault 0 name ≡ None) × (list_any is_separator name ≡ false)

-- a stream's name is one that can stand behind `:`, and empty for a default stream; it has no `:` and no `\`
abbrev pub IsStreamName : List ℕ → Type 0
IsStreamName name = (is_bad_stream name ≡ false) × (list_any is_colon name ≡ false) × (list_any is_separator name ≡ false)

-- the tree of this volume is well formed
pub record IsWellFormed (v : Volume) : Type 0 where
  -- links and streams have names that a path can have
  pub link_names : All (λ entry. IsLinkName entry.1.name) v.links
  pub stream_names : All (λ entry. IsStreamName entry.1.name) v.streams
  -- what is no directory has its default stream
  pub default_streams : All (λ entry. entry.1.directory ≡ false → has_row (λ stream. stream.file == entry.0 && length stream.name == 0) v.streams ≡ true) v.files
  -- a file has at most 1,024 links, those that are marked for deletion among them
  pub few_links : All (λ entry. how_many (λ link. link.1.file == entry.0) v.links ≤ 1024) v.files
  -- what has a reparse point isn't the root, and nothing is in it, marked for deletion or not
  pub points : All (λ entry. is_some entry.1.point ≡ true → ((entry.0 == 1) ≡ false) × (has_child v.links entry.0 ≡ false)) v.files
