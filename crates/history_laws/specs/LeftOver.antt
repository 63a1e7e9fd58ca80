-- That nothing is left over in a volume: what is marked for deletion still has a handle; each file but the root has a link; and the
-- file of each link and each stream is there. After [MS-FSA] 'Server Requests Closing an Open'.
use Rattle.std.specs.Prelude.{◌≡◌, ◌==◌, true, false, All}
use Rattle.fsa_types.specs.Rows.{lives}
use Rattle.fsa_model.specs.Lookups.{has_row, is_open_by, is_open_on}
use Rattle.fsa_model.specs.Volume.{Volume}

-- nothing is left over in this volume: no mark without a handle, no file but the root without a link, and no link or stream without
-- its file
pub record NothingIsLeftOver (v : Volume) : Type 0 where
  -- a link that is marked has a handle that was opened by it, and a stream that is marked has one on it
  pub marked_links : All (λ entry. entry.1.deleted ≡ true → has_row (is_open_by entry.0) v.handles ≡ true) v.links
  pub marked_streams : All (λ entry. entry.1.deleted ≡ true → has_row (is_open_on entry.0) v.handles ≡ true) v.streams
  -- a file but the root has a link, and the file of a link, or of a stream, is there
  pub files : All (λ entry. (entry.0 == 1) ≡ false → has_row (λ link. link.file == entry.0) v.links ≡ true) v.files
  pub links : All (λ entry. lives v.files entry.1.file ≡ true) v.links
  pub streams : All (λ entry. lives v.files entry.1.file ≡ true) v.streams
