-- The entries that are still to come, as links are taken one after the other.
use Rattle.std.proofs.Common.{◌≡◌, ℕ, ◌+◌, ◌<◌, Bool, true, List, [], ◌∷◌, ◌++◌, length, get_or, drop, map, refl, ap, sym, ◌∙◌, append_assoc, inl, inr, ◌⊎◌, Option, None, Some}
use Rattle.std.specs.Prelude.{◌&&◌}
use Rattle.std.specs.List.{filter}
use Rattle.std.specs.Option.{option_map_or}
use Rattle.std.proofs.lemmas.Bool.{cases_Bool}
use Rattle.std.proofs.lemmas.List.{at_drop_more, map-append}
use Rattle.std.proofs.lemmas.List.Elements.{filter-append}
use Rattle.fsa_types.specs.Match.{matches}
use Rattle.fsa_types.specs.Rows.{row_of}
use Rattle.fsa_model.specs.QueryDir.{DirectoryEntry, dots, is_still_to_come, left_to_list, link_entry, listed_links}
use Rattle.fsa_model.specs.Volume.{Cursor, After, Link, Volume}
use Rattle.op_dir.specs.Places.{is_listed, is_wanted}
use Rattle.link_index.specs.Beginnings.{begins_with}
use Rattle.volume_state.specs.Children.{is_unmarked, links_under}
use Rattle.volume_rows.specs.Children.{is_name_after}
use Rattle.volume_rows.specs.Cursors.{cursor_of}
use Rattle.volume_rows.specs.declared.cursors.Cursor.{Cursor as Stand}
use Rattle.volume_rows.specs.declared.cursors.Cursor.TheVariants as stand
use Rattle.volume_state.proofs.ChildLaws.{filter-all, filter-both, filter-stronger}

filter-mapped : {X Y : Type 0} (p : Y → Bool) (f : X → Y) (xs : List X) → filter p (map f xs) ≡ map f (filter (λ x. p (f x)) xs)
filter-mapped p f [] = refl
filter-mapped p f (x ∷ xs) = elim (cases_Bool (p (f x))) [
  | inl passes ↦ rw passes (ap (λ rest. f x ∷ rest) (filter-mapped p f xs))
  | inr fails ↦ rw fails (filter-mapped p f xs)
]

abbrev is_behind : Volume → Cursor → ℕ × Link → Bool
is_behind v cursor entry = is_still_to_come v.table cursor (After entry.1.name)

abbrev matches_link : Volume → List ℕ → ℕ × Link → Bool
matches_link v expression entry = matches v.table expression entry.1.name

all-behind : (v : Volume) (cursor : Cursor) (links : List (ℕ × Link)) → ((entry : ℕ × Link) → is_behind v cursor entry ≡ true) → filter (is_behind v cursor) links ≡ links
all-behind v cursor links each = filter-all (is_behind v cursor) links (λ k d within. each (get_or links k d))

-- a link is still to come, and matches
abbrev is_left : Volume → List ℕ → Cursor → ℕ × Link → Bool
is_left v expression cursor entry = is_still_to_come v.table cursor (After entry.1.name) && matches v.table expression entry.1.name

-- those that begin with some units are enough, where what matches begins so
pub left-beginning : (v : Volume) (dir : ℕ) (expression units : List ℕ) (cursor : Cursor) (links : List (ℕ × Link))
    → ((name : List ℕ) → matches v.table expression name ≡ true → begins_with v.table units name ≡ true)
    → filter is_unmarked links ≡ filter (λ entry. begins_with v.table units entry.1.name) (filter (is_behind v cursor) (listed_links v dir))
    → filter (is_listed v expression) links ≡ filter (is_left v expression cursor) (listed_links v dir)
left-beginning v dir expression units cursor links begins listed =
    filter-both is_unmarked (matches_link v expression) links
    ∙ ap (filter (matches_link v expression)) listed
    ∙ filter-stronger (λ entry. begins_with v.table units entry.1.name) (matches_link v expression) (filter (is_behind v cursor) (listed_links v dir)) (λ entry matched. begins entry.1.name matched)
    ∙ sym (filter-both (is_behind v cursor) (matches_link v expression) (listed_links v dir))

-- before the first link all links are still to come
none-behind : (v : Volume) (dir : ℕ) (cursor : Stand) → (cursor ≡ stand.Start) ⊎ ((cursor ≡ stand.Dot) ⊎ (cursor ≡ stand.DotDot))
    → filter (λ entry. is_name_after v.table None entry.1.name) (listed_links v dir) ≡ filter (is_behind v (cursor_of cursor)) (listed_links v dir)
none-behind v dir cursor start = filter-all (λ entry. is_name_after v.table None entry.1.name) (listed_links v dir) (λ k d within. refl) ∙ go cursor start
  where
    go : (cursor : Stand) → (cursor ≡ stand.Start) ⊎ ((cursor ≡ stand.Dot) ⊎ (cursor ≡ stand.DotDot)) → listed_links v dir ≡ filter (is_behind v (cursor_of cursor)) (listed_links v dir)
    go cursor (inl is) = sym (all-behind v (cursor_of cursor) (listed_links v dir) (λ entry. rw is refl))
    go cursor (inr (inl is)) = sym (all-behind v (cursor_of cursor) (listed_links v dir) (λ entry. rw is refl))
    go cursor (inr (inr is)) = sym (all-behind v (cursor_of cursor) (listed_links v dir) (λ entry. rw is refl))

pub left-first : (v : Volume) (dir : ℕ) (expression units : List ℕ) (cursor : Stand) (links : List (ℕ × Link)) → (cursor ≡ stand.Start) ⊎ ((cursor ≡ stand.Dot) ⊎ (cursor ≡ stand.DotDot))
    → ((name : List ℕ) → matches v.table expression name ≡ true → begins_with v.table units name ≡ true)
    → filter is_unmarked links ≡ filter (λ entry. begins_with v.table units entry.1.name) (filter (λ entry. is_name_after v.table None entry.1.name) (listed_links v dir))
    → filter (is_listed v expression) links ≡ filter (is_left v expression (cursor_of cursor)) (listed_links v dir)
left-first v dir expression units cursor links start begins listed =
    left-beginning v dir expression units (cursor_of cursor) links begins (listed ∙ ap (filter (λ entry. begins_with v.table units entry.1.name)) (none-behind v dir cursor start))

-- the entries that are still to come and match, from the links that do
pub left-from : (v : Volume) (dir : ℕ) (expression : List ℕ) (cursor : Cursor) (links : List (ℕ × Link)) → filter (is_listed v expression) links ≡ filter (is_left v expression cursor) (listed_links v dir)
    → left_to_list v dir expression cursor ≡ filter (is_wanted v expression cursor) (dots v dir) ++ map link_entry (filter (is_listed v expression) links)
left-from v dir expression cursor links left =
    filter-append (is_wanted v expression cursor) (dots v dir) (map link_entry (listed_links v dir))
    ∙ ap (λ rest. filter (is_wanted v expression cursor) (dots v dir) ++ rest) (filter-mapped (is_wanted v expression cursor) link_entry (listed_links v dir))
    ∙ ap (λ rest. filter (is_wanted v expression cursor) (dots v dir) ++ map link_entry rest) (sym left)

-- the entries of those links that are listed
abbrev pub listed_under : Volume → List ℕ → List ℕ → List DirectoryEntry
listed_under v expression ids = map link_entry (filter (is_listed v expression) (links_under v ids))

under-both : (v : Volume) (ids others : List ℕ) → links_under v (ids ++ others) ≡ links_under v ids ++ links_under v others
under-both v [] others = refl
under-both v (id ∷ ids) others = go (row_of v.links id) (under-both v ids others)
  where
    go : (row : Option Link) → links_under v (ids ++ others) ≡ links_under v ids ++ links_under v others → option_map_or (λ row. (id, row) ∷ links_under v (ids ++ others)) row (links_under v (ids ++ others)) ≡ option_map_or (λ row. (id, row) ∷ links_under v ids) row (links_under v ids) ++ links_under v others
    go None rest = rest
    go (Some row) rest = ap (λ (links : List (ℕ × Link)). (id, row) ∷ links) rest

-- one link, and then the others
listed-more : (v : Volume) (expression ids : List ℕ) (i d : ℕ) → i < length ids → listed_under v expression (drop i ids) ≡ listed_under v expression (get_or ids i d ∷ []) ++ listed_under v expression (drop (i + 1) ids)
listed-more v expression ids i d within =
    at_drop_more (listed_under v expression) ids i d within
    ∙ ap (λ (links : List (ℕ × Link)). map link_entry (filter (is_listed v expression) links)) (under-both v (get_or ids i d ∷ []) (drop (i + 1) ids))
    ∙ ap (map link_entry) (filter-append (is_listed v expression) (links_under v (get_or ids i d ∷ [])) (links_under v (drop (i + 1) ids)))
    ∙ map-append link_entry (filter (is_listed v expression) (links_under v (get_or ids i d ∷ []))) (filter (is_listed v expression) (links_under v (drop (i + 1) ids)))

-- one more was taken, and the others are still to come
pub goes_on : (v : Volume) (expression ids : List ℕ) (i d : ℕ) (some more all : List DirectoryEntry) → i < length ids → some ++ listed_under v expression (drop i ids) ≡ all
    → more ≡ some ++ listed_under v expression (get_or ids i d ∷ []) → more ++ listed_under v expression (drop (i + 1) ids) ≡ all
goes_on v expression ids i d some more all within before is =
    rw is (append_assoc some (listed_under v expression (get_or ids i d ∷ [])) (listed_under v expression (drop (i + 1) ids)))
    ∙ ap (λ (entries : List DirectoryEntry). some ++ entries) (sym (listed-more v expression ids i d within))
    ∙ before
