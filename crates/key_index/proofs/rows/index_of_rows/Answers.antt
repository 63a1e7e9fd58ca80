use Rattle.std.proofs.Common.{refl}
use Rattle.key_index.proofs.RowLaws.{index-added, index-any, index-changed, index-cleared, index-counted, index-entries, index-first, index-found, index-length, index-listed, index-live, index-removed, index-rows}
use Rattle.key_index.proofs.rows.index_of_rows.Goals as goal

pub returns : goal.returns
returns g c = record {
  empty = λ key k. refl;
  added = index-added;
  removed = index-removed;
  cleared = index-cleared;
  changed = index-changed;
  entries = index-entries;
  live = index-live;
  first = index-first;
  many = index-length;
  rows = index-rows;
  listed = index-listed;
  found = index-found;
  any = index-any;
  counted = index-counted;
}
