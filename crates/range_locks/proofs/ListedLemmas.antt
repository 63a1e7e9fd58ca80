-- What is listed of the ranges that pass a test.
use Rattle.std.proofs.Common.{◌≡◌, ℕ, ◌+◌, Bool, List, [], ◌++◌, length, map, ap, sym, ◌∙◌, arith}
use Rattle.std.specs.List.{count_by, filter}
use Rattle.std.proofs.lemmas.List.{append-nil, length-append, length-map, nil_from_length}
use Rattle.std.proofs.lemmas.List.Sums.{length-filter}
use Rattle.fsa_types.specs.BoundedList.{Bounded, full}
use Rattle.fsa_types.specs.declared.reply.Blocker.{Blocker}
use Rattle.range_locks.specs.RangeTable.{AreSameByPlace, lock_blocker}
use Rattle.range_locks.specs.declared.range.Range.{Range}
use Rattle.range_locks.proofs.NumberLemmas.{same-length}

full-is : (list : Bounded Blocker) (items : List Blocker) → list.items ≡ items → list.room ≡ length items → list ≡ full items
full-is list items same room =
    let first : list ≡ record { items = items; room = list.room } = ap (λ (its : List Blocker). record { items = its; room = list.room }) same in
    let second : record { items = items; room = list.room } ≡ full items = ap (λ (n : ℕ). record { items = items; room = n }) room in
    first ∙ second

-- once nothing is left
pub none_left : (list : Bounded Blocker) (rest items : List Blocker) → list.items ++ rest ≡ items → rest ≡ [] → list.room ≡ length items → list ≡ full items
none_left list rest items listed none room =
    full-is list items (sym (append-nil list.items) ∙ ap (λ (its : List Blocker). list.items ++ its) (sym none) ∙ listed) room

-- once the list has as many as there are, none is left
pub all_listed : (list : Bounded Blocker) (rest items : List Blocker) → list.items ++ rest ≡ items → length list.items ≡ length items → list.room ≡ length items → list ≡ full items
all_listed list rest items listed many room =
    let both : length list.items + length rest ≡ length items = sym (length-append list.items rest) ∙ ap length listed in
    none_left list rest items listed (nil_from_length rest (omega arith)) room

-- as many are listed as there are near
pub as_many : (test : Range → Bool) (near ranges : List Range) → AreSameByPlace (filter test near) (filter test ranges) → count_by test near ≡ length (map lock_blocker (filter test ranges))
as_many test near ranges same = sym (length-filter test near) ∙ same-length (filter test near) (filter test ranges) same ∙ sym (length-map (filter test ranges) lock_blocker)
