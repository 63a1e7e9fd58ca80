-- The indexes of all directories: what one of them is once it is put or taken out, and what they have once a link comes,
-- goes, is marked, or gets another name.
use Rattle.std.proofs.Common.{◌≡◌, ◌≢◌, ℕ, ◌≤◌, ◌+◌, ◌^◌, Bool, true, false, not, List, [], ◌∷◌, ◌++◌, get_or, refl, ap, sym, arith, inl, inr, Option, None, Some, ◌∙◌}
use Rattle.std.specs.Prelude.{◌==◌, ◌&&◌, map, option_map}
use Rattle.std.specs.List.{All, filter, find, insert, list_any, remove}
use Rattle.std.specs.Option.{is_some, option_map_or}
use Rattle.std.proofs.lemmas.Bool.{cases_Bool, eq-eqb, eqb-true, false≢true, ne_eqb}
use Rattle.std.proofs.lemmas.List.Quantifiers.{all_pairs_push}
use Rattle.slab.specs.Slab.{ContainsKey, Slab, Updates, get}
use Rattle.fsa_types.specs.CaseTable.{same_name}
use Rattle.fsa_types.specs.Places.{IsAt, StandsAt}
use Rattle.fsa_types.specs.Rows.{IsNumbered, row_of, with_row_changed, without_row}
use Rattle.fsa_types.specs.Sorting.{in_order, put_in_order}
use Rattle.fsa_model.specs.Lookups.{is_named}
use Rattle.fsa_model.specs.Volume.{Link}
use Rattle.fsa_model.proofs.RowLaws.{number_of-none, without_row-none}
use Rattle.link_index.specs.Keyed.{is_key_before}
use Rattle.object_tables.specs.Places.{ArePlaced, rows_by, rows_in}
use Rattle.object_tables.proofs.PlaceLemmas.{placed-removed, rows-removed}
use Rattle.object_tables.proofs.SearchLemmas.{position-here}
use Rattle.volume_rows.specs.Children.{is_name_after, links_after}
use Rattle.link_index.specs.Beginnings.{name_key}
use Rattle.volume_tables.specs.Directories.{AreByDirectory, HasLinksOf, index_at, index_of, links_by_name}
use Rattle.link_index.specs.Heads.{link_head}
use Rattle.volume_tables.specs.Rooms.{IsOneTaken, room_in}
use Rattle.link_index.specs.Directory.{AreInNameOrder, IsNamePut, IsNameTaken, DirectoryView, links_at}
use Rattle.volume_tables.proofs.DirectoryLemmas.{added-beside, added-here, child-listed, children-listed, differ-marked, differ-moved, differ-without, gone-beside, gone-here, index-ordered, kept-listed, links-listed, links-marked, listed-new, listed-ordered, listed-without, moved-beside, moved-here, other-named, without-named}
use Rattle.link_index.proofs.NameLemmas.{Links}
use Rattle.volume_tables.proofs.PlaceLemmas.{row_of-without}
use Rattle.volume_tables.proofs.ShareLemmas.{placed-inserted, placed-put, row-beside, row-in, row-inserted, row-kept, row-none, row-put, row_of-out}

-- ---- one index

abbrev pub no_names : DirectoryView
no_names = record { numbers = []; heads = []; room = 0 }

-- the index that a row tells
abbrev pub index_in : Option DirectoryView → DirectoryView
index_in row = option_map_or (λ (index : DirectoryView). index) row no_names

pub index_of-none : (dirs : List (ℕ × DirectoryView)) (dir : ℕ) → row_of dirs dir ≡ None → index_of dirs dir ≡ no_names
index_of-none dirs dir none = ap index_in none

pub index_of-some : (dirs : List (ℕ × DirectoryView)) (dir : ℕ) (index : DirectoryView) → row_of dirs dir ≡ Some index → index_of dirs dir ≡ index
index_of-some dirs dir index some = ap index_in some

-- a directory that has none
pub index-missing : (slab : Slab DirectoryView) (places : List (ℕ × ℕ)) (dir i : ℕ) → ArePlaced (get slab) places (2 ^ 64) → StandsAt places dir i → index_of (rows_in slab places) dir ≡ no_names
index-missing slab places dir i placed at = index_of-none (rows_in slab places) dir (row-none (get slab) places (2 ^ 64) dir i placed at)

-- one that has one
pub index-there : (slab : Slab DirectoryView) (places : List (ℕ × ℕ)) (dir slot i : ℕ) (e : ℕ × ℕ) → ArePlaced (get slab) places (2 ^ 64) → IsAt places dir i → (get_or places i e).1 ≡ slot → index_of (rows_in slab places) dir ≡ index_at slab slot
index-there slab places dir slot i e placed at under = ap index_in (row-in (get slab) places (2 ^ 64) dir slot i e placed at under)

pub slot-there : (slab : Slab DirectoryView) (places : List (ℕ × ℕ)) (dir slot i : ℕ) (e : ℕ × ℕ) → ArePlaced (get slab) places (2 ^ 64) → IsAt places dir i → (get_or places i e).1 ≡ slot → ContainsKey slab slot
slot-there slab places dir slot i e placed at under = ap (λ (s : ℕ). is_some (get slab s)) (sym under) ∙ placed.there i e at.within

-- it changes in its slot
module _ (old new : Slab DirectoryView) (places : List (ℕ × ℕ)) (dir slot i : ℕ) (e : ℕ × ℕ) (index : DirectoryView) (placed : ArePlaced (get old) places (2 ^ 64)) (at : IsAt places dir i) (under : (get_or places i e).1 ≡ slot)
    (updates : Updates old new slot (Some index)) where
  pub placed-changed : ArePlaced (get new) places (2 ^ 64)
  placed-changed = placed-put (get old) (get new) places (2 ^ 64) dir slot i e index placed at under updates.changed updates.others

  pub index-changed : index_of (rows_in new places) dir ≡ index
  index-changed = ap index_in (row-put (get old) (get new) places (2 ^ 64) dir slot i e index placed at under updates.changed updates.others)

  pub index-beside : (other : ℕ) → (other == dir) ≡ false → index_of (rows_in new places) other ≡ index_of (rows_in old places) other
  index-beside other differ = ap index_in (row-kept (get old) (get new) places (2 ^ 64) dir slot i e index placed at under updates.changed updates.others other differ)

-- it comes
module _ (old new : Slab DirectoryView) (places : List (ℕ × ℕ)) (dir slot i : ℕ) (index : DirectoryView) (placed : ArePlaced (get old) places (2 ^ 64)) (low : dir ≤ 2 ^ 64) (at : StandsAt places dir i) (vacant : get old slot ≡ None)
    (updates : Updates old new slot (Some index)) where
  pub placed-come : ArePlaced (get new) (insert places i (dir, slot)) (2 ^ 64)
  placed-come = placed-inserted (get old) (get new) places (2 ^ 64) dir slot i index placed low at vacant updates.changed updates.others

  pub index-come : index_of (rows_in new (insert places i (dir, slot))) dir ≡ index
  index-come = ap index_in (row-inserted (get old) (get new) places (2 ^ 64) dir slot i index placed low at vacant updates.changed updates.others)

  pub others-come : (other : ℕ) → (other == dir) ≡ false → index_of (rows_in new (insert places i (dir, slot))) other ≡ index_of (rows_in old places) other
  others-come other differ = ap index_in (row-beside (get old) (get new) places (2 ^ 64) dir slot i index placed low at vacant updates.changed updates.others other differ)

-- it goes
module _ (old new : ℕ → Option DirectoryView) (places : List (ℕ × ℕ)) (dir i : ℕ) (e : ℕ × ℕ) (placed : ArePlaced old places (2 ^ 64)) (at : IsAt places dir i) (others : (other : ℕ) → other ≢ (get_or places i e).1 → new other ≡ old other) where
  rows-gone : rows_by new (remove places i) ≡ without_row (rows_by old places) dir
  rows-gone = rows-removed old new places (2 ^ 64) dir i e placed (position-here places i e dir placed.numbered.rising at.within (at.here e)) others

  pub placed-gone : ArePlaced new (remove places i) (2 ^ 64)
  placed-gone = placed-removed old new places (2 ^ 64) dir i e placed (position-here places i e dir placed.numbered.rising at.within (at.here e)) others

  pub index-gone : index_of (rows_by new (remove places i)) dir ≡ no_names
  index-gone = ap (λ (rows : List (ℕ × DirectoryView)). index_of rows dir) rows-gone ∙ ap index_in (row_of-out (rows_by old places) dir)

  pub others-gone : (other : ℕ) → (other == dir) ≡ false → index_of (rows_by new (remove places i)) other ≡ index_of (rows_by old places) other
  others-gone other differ = ap (λ (rows : List (ℕ × DirectoryView)). index_of rows other) rows-gone ∙ ap index_in (row_of-without (rows_by old places) dir other differ)

-- nothing is taken out of an empty one
pub taken-none : (table : List (ℕ × ℕ)) (rows : Links) (name : List ℕ) (index : DirectoryView) → index ≡ no_names → IsNameTaken table rows name index index
taken-none table rows name index none = rw none (record { numbers = refl; heads = refl; kept = omega arith })

-- ---- all of them

-- no links
pub ByDirectory-empty : (table : List (ℕ × ℕ)) (rows : Links) (dirs : List (ℕ × DirectoryView)) → rows ≡ [] → dirs ≡ [] → AreByDirectory table rows dirs
ByDirectory-empty table rows dirs none empty = rw (none, empty) (record { each = λ dir. record { numbers = refl; heads = refl }; differ = λ j k d below within. absurd (omega arith) })

-- a link is marked
pub ByDirectory-marked : (table : List (ℕ × ℕ)) (change : Link → Link) (id : ℕ) → ((link : Link) → (change link).parent ≡ link.parent) → ((link : Link) → (change link).name ≡ link.name) → (rows : Links) (dirs : List (ℕ × DirectoryView))
    → AreByDirectory table rows dirs → AreByDirectory table (with_row_changed change rows id) dirs
ByDirectory-marked table change id parent name rows dirs are = record {
  each = λ dir. links-marked table change id parent name dir rows (index_of dirs dir) (are.each dir);
  differ = differ-marked table change id parent name rows are.differ;
}

module _ (table : List (ℕ × ℕ)) (rows : Links) (last : ℕ) (numbered : IsNumbered rows last) (dirs : List (ℕ × DirectoryView)) (are : AreByDirectory table rows dirs) where
  -- each index is in the order of names
  pub each-ordered : (dir : ℕ) → AreInNameOrder table rows (index_of dirs dir)
  each-ordered dir = index-ordered table dir rows last (index_of dirs dir) numbered are.differ (are.each dir)

  -- a name is found in the index of its directory, and so are those behind it
  pub child-found : (dir : ℕ) (name : List ℕ) → find (λ (e : ℕ × Link). same_name table e.1.name name) (links_at rows (index_of dirs dir).numbers) ≡ find (λ (e : ℕ × Link). is_named table dir name e.1) rows
  child-found dir name = child-listed table dir rows last numbered (index_of dirs dir).numbers (are.each dir).numbers name are.differ

  pub children-found : (dir : ℕ) (after : Option (List ℕ)) → filter (λ (e : ℕ × Link). is_name_after table after e.1.name) (links_at rows (index_of dirs dir).numbers) ≡ links_after table dir after rows
  children-found dir after = children-listed table dir rows last numbered (index_of dirs dir).numbers (are.each dir).numbers after are.differ

  -- without an index there are none
  pub child-missing : (dir : ℕ) (name : List ℕ) → row_of dirs dir ≡ None → None ≡ option_map (λ (e : ℕ × Link). e.0) (find (λ (e : ℕ × Link). is_named table dir name e.1) rows)
  child-missing dir name none =
      let empty = index_of-none dirs dir none in
      ap (λ (index : DirectoryView). option_map (λ (e : ℕ × Link). e.0) (find (λ (e : ℕ × Link). same_name table e.1.name name) (links_at rows index.numbers))) (sym empty)
      ∙ ap (option_map (λ (e : ℕ × Link). e.0)) (child-found dir name)

  pub children-missing : (dir : ℕ) (after : Option (List ℕ)) → row_of dirs dir ≡ None → [] ≡ links_after table dir after rows
  children-missing dir after none =
      let empty = index_of-none dirs dir none in
      ap (λ (index : DirectoryView). filter (λ (e : ℕ × Link). is_name_after table after e.1.name) (links_at rows index.numbers)) (sym empty)
      ∙ children-found dir after

  -- a link of a new name comes
  module _ (id dir : ℕ) (name : List ℕ) (fresh : option_map (λ (e : ℕ × Link). e.0) (find (λ e. is_named table dir name e.1) rows) ≡ None) where
    none-named : All (λ (e : ℕ × Link). is_named table dir name e.1 ≡ false) rows
    none-named = number_of-none (is_named table dir name) rows fresh

    pub name-new : All (λ (e : ℕ × Link). same_name table e.1.name name ≡ false) (links_at rows (index_of dirs dir).numbers)
    name-new = listed-new table dir rows last numbered (index_of dirs dir).numbers (are.each dir).numbers name none-named

    pub ByDirectory-added : (new : List (ℕ × DirectoryView)) (file : ℕ) (deleted : Bool) → IsNamePut table rows id name (index_of dirs dir) (index_of new dir) → ((other : ℕ) → (other == dir) ≡ false → index_of new other ≡ index_of dirs other)
        → AreByDirectory table (rows ++ (id, record { parent = dir; name = name; file = file; deleted = deleted }) ∷ []) new
    ByDirectory-added new file deleted put others = record {
      each = λ other. elim (cases_Bool (other == dir)) [
        | inl here ↦ (let same : other ≡ dir = eqb-true other dir here in rw same inside)
        | inr differ ↦ beside other differ
      ];
      differ = all_pairs_push (λ a b. is_named table b.1.parent b.1.name a.1 ≡ false) rows (id, link) are.differ none-named;
    }
      where
        link : Link
        link = record { parent = dir; name = name; file = file; deleted = deleted }

        inside : HasLinksOf table (rows ++ (id, link) ∷ []) dir (index_of new dir)
        inside =
            let listed = links-listed table dir rows last numbered (index_of dirs dir).numbers (are.each dir).numbers in
            let all = ap (put_in_order (is_key_before (name_key table)) (id, link)) listed ∙ sym (added-here table dir rows id link (eq-eqb dir dir refl) none-named) in
            record {
              numbers = put.numbers dir file deleted ∙ ap (map (λ (e : ℕ × Link). e.0)) all;
              heads = put.heads dir file deleted ∙ ap (map (link_head table)) all;
            }

        beside : (other : ℕ) → (other == dir) ≡ false → HasLinksOf table (rows ++ (id, link) ∷ []) other (index_of new other)
        beside other differ =
            let all = added-beside table other rows id link (ne_eqb dir other (λ same. absurd (false≢true (sym differ ∙ eq-eqb other dir (sym same))))) in
            record {
              numbers = ap (λ (index : DirectoryView). index.numbers) (others other differ) ∙ (are.each other).numbers ∙ ap (map (λ (e : ℕ × Link). e.0)) (sym all);
              heads = ap (λ (index : DirectoryView). index.heads) (others other differ) ∙ (are.each other).heads ∙ ap (map (link_head table)) (sym all);
            }

  -- a link goes
  module _ (id : ℕ) (row : Link) (found : row_of rows id ≡ Some row) (new : List (ℕ × DirectoryView)) (taken : IsNameTaken table rows row.name (index_of dirs row.parent) (index_of new row.parent))
      (others : (other : ℕ) → (other == row.parent) ≡ false → index_of new other ≡ index_of dirs other) where
    pub ByDirectory-without : AreByDirectory table (without_row rows id) new
    ByDirectory-without = record {
      each = λ other. elim (cases_Bool (other == row.parent)) [
        | inl here ↦ (let same : other ≡ row.parent = eqb-true other row.parent here in rw same inside)
        | inr differ ↦ beside other differ
      ];
      differ = differ-without table rows id are.differ;
    }
      where
        inside : HasLinksOf table (without_row rows id) row.parent (index_of new row.parent)
        inside =
            let listed = links-listed table row.parent rows last numbered (index_of dirs row.parent).numbers (are.each row.parent).numbers in
            let all = ap (filter (λ (e : ℕ × Link). not (same_name table e.1.name row.name))) listed ∙ gone-here table id row rows last numbered are.differ found in
            record {
              numbers = taken.numbers ∙ ap (map (λ (e : ℕ × Link). e.0)) all;
              heads = taken.heads ∙ ap (map (link_head table)) all;
            }

        beside : (other : ℕ) → (other == row.parent) ≡ false → HasLinksOf table (without_row rows id) other (index_of new other)
        beside other differ =
            let all = gone-beside table id row rows last numbered are.differ found other (ne_eqb row.parent other (λ same. absurd (false≢true (sym differ ∙ eq-eqb other row.parent (sym same))))) in
            record {
              numbers = ap (λ (index : DirectoryView). index.numbers) (others other differ) ∙ (are.each other).numbers ∙ ap (map (λ (e : ℕ × Link). e.0)) (sym all);
              heads = ap (λ (index : DirectoryView). index.heads) (others other differ) ∙ (are.each other).heads ∙ ap (map (link_head table)) (sym all);
            }

  pub ByDirectory-none : (id : ℕ) → row_of rows id ≡ None → AreByDirectory table (without_row rows id) dirs
  ByDirectory-none id none = rw (without_row-none rows id none) are

-- a link gets another name: its number was taken out before, and is put in anew
module _ (table : List (ℕ × ℕ)) (rows : Links) (last : ℕ) (numbered : IsNumbered rows last) (old : List (ℕ × DirectoryView)) (id dir : ℕ) (name : List ℕ) (differ : AreByDirectory table rows old)
    (free : list_any (λ (e : ℕ × Link). not (e.0 == id) && is_named table dir name e.1) rows ≡ false) (dirs : List (ℕ × DirectoryView)) (are : AreByDirectory table (without_row rows id) dirs) where
  -- the links of the numbers that are left
  left-listed : links_at rows (index_of dirs dir).numbers ≡ links_by_name table dir (without_row rows id)
  left-listed = kept-listed table dir rows last numbered id (index_of dirs dir).numbers (are.each dir).numbers

  pub left-ordered : AreInNameOrder table rows (index_of dirs dir)
  left-ordered = record {
    ordered = rw left-listed (listed-ordered table dir (without_row rows id) are.differ);
    heads = (are.each dir).heads ∙ ap (map (link_head table)) (sym left-listed);
  }

  pub left-new : All (λ (e : ℕ × Link). same_name table e.1.name name ≡ false) (links_at rows (index_of dirs dir).numbers)
  left-new = rw left-listed (listed-without table dir (without_row rows id) name (without-named table id dir name rows last numbered free))

  pub ByDirectory-moved : (new : List (ℕ × DirectoryView)) → is_some (row_of rows id) ≡ true → IsNamePut table rows id name (index_of dirs dir) (index_of new dir)
      → ((other : ℕ) → (other == dir) ≡ false → index_of new other ≡ index_of dirs other) → AreByDirectory table (with_row_changed (λ row. record row { parent = dir; name = name }) rows id) new
  ByDirectory-moved new living put others = go (row_of rows id) refl living
    where
      go : (o : Option Link) → row_of rows id ≡ o → is_some o ≡ true → AreByDirectory table (with_row_changed (λ row. record row { parent = dir; name = name }) rows id) new
      go None is none = absurd (false≢true none)
      go (Some row) found some = record {
        each = λ other. elim (cases_Bool (other == dir)) [
          | inl here ↦ (let same : other ≡ dir = eqb-true other dir here in rw same inside)
          | inr apart ↦ beside other apart
        ];
        differ = differ-moved table id dir name rows last numbered free differ.differ;
      }
        where
          inside : HasLinksOf table (with_row_changed (λ row. record row { parent = dir; name = name }) rows id) dir (index_of new dir)
          inside =
              let all = ap (put_in_order (is_key_before (name_key table)) (id, record row { parent = dir; name = name })) left-listed
              ∙ sym (moved-here table id dir name row rows numbered.rising found (other-named table id dir name rows last numbered free)) in
              record {
                numbers = put.numbers dir row.file row.deleted ∙ ap (map (λ (e : ℕ × Link). e.0)) all;
                heads = put.heads dir row.file row.deleted ∙ ap (map (link_head table)) all;
              }

          beside : (other : ℕ) → (other == dir) ≡ false → HasLinksOf table (with_row_changed (λ row. record row { parent = dir; name = name }) rows id) other (index_of new other)
          beside other apart =
              let all = ap (in_order (is_key_before (name_key table))) (moved-beside table id dir name row other (ne_eqb dir other (λ same. absurd (false≢true (sym apart ∙ eq-eqb other dir (sym same))))) rows) in
              record {
                numbers = ap (λ (index : DirectoryView). index.numbers) (others other apart) ∙ (are.each other).numbers ∙ ap (map (λ (e : ℕ × Link). e.0)) (sym all);
                heads = ap (λ (index : DirectoryView). index.heads) (others other apart) ∙ (are.each other).heads ∙ ap (map (link_head table)) (sym all);
              }

-- ---- each index has the room that was promised to its directory

-- .. once one room of a directory is taken, and its index has at most one less
pub rooms-left : (rooms newer : List (ℕ × ℕ)) (dirs new : List (ℕ × DirectoryView)) (dir : ℕ) → IsOneTaken rooms newer dir → ((other : ℕ) → room_in rooms other ≤ (index_of dirs other).room)
    → (index_of dirs dir).room ≤ (index_of new dir).room + 1 → ((other : ℕ) → (other == dir) ≡ false → (index_of dirs other).room ≤ (index_of new other).room) → (other : ℕ) → room_in newer other ≤ (index_of new other).room
rooms-left rooms newer dirs new dir taken have left kept other = elim (cases_Bool (other == dir)) [
  | inl here ↦ (let same : other ≡ dir = eqb-true other dir here in
      let one = taken.here in
      let had = have dir in
      rw same (omega arith))
  | inr differ ↦ (let one = taken.others other differ in
      let had = have other in
      let stays = kept other differ in
      omega arith)
]
