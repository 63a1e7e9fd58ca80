-- Rooms that were promised apart, where one of them changes.
use Rattle.std.proofs.Common.{◌≡◌, ℕ, zero, suc, ◌+◌, ◌-◌, ◌<◌, ◌≤◌, List, [], ◌∷◌, length, get_or, refl, arith, inl, inr, None}
use Rattle.std.specs.List.{insert, remove}
use Rattle.std.specs.Prelude.{◌==◌}
use Rattle.std.proofs.lemmas.Bool.{cases_Bool}
use Rattle.std.proofs.Math.ListN.{set}
use Rattle.fsa_types.specs.Places.{IsAt, StandsAt}
use Rattle.fsa_types.specs.Rows.{row_of, without_row}
use Rattle.fsa_types.proofs.RowLemmas.{AreRising, row_of-at, remove-at}
use Rattle.fsa_types.proofs.PlaceLemmas.{row_of-insert_other, row_of-insert_own, row_of-missing, row_of-set_other, row_of-set_own}
use Rattle.volume_tables.specs.Rooms.{room_in, all_rooms, IsRoomSet, IsOneTaken}
use Rattle.volume_tables.proofs.PlaceLemmas.{row_of-without}

-- no room is more than all together
pub room_in-all : (rooms : List (ℕ × ℕ)) (id : ℕ) → room_in rooms id ≤ all_rooms rooms
room_in-all [] id = omega arith
room_in-all (entry ∷ rooms) id =
    elim (cases_Bool (entry.0 == id)) [
      | inl here ↦ rw here (omega arith)
      | inr other ↦ (let rest = room_in-all rooms id in rw other (omega arith))
    ]

-- where nothing stands for one, it has no room
pub room_in-missing : (rooms : List (ℕ × ℕ)) (id i : ℕ) → StandsAt rooms id i → room_in rooms id ≡ 0
room_in-missing rooms id i at = rw (row_of-missing rooms id i at) refl

-- else it has what stands at its place
pub room_in-at : (rooms : List (ℕ × ℕ)) (id i : ℕ) (d : ℕ × ℕ) → AreRising rooms → IsAt rooms id i → room_in rooms id ≡ (get_or rooms i d).1
room_in-at rooms id i d rising at = rw (row_of-at rooms i d id rising at.within (at.here d)) refl

-- all rooms, where that at one place is set, put in or taken out
all_rooms-set : (rooms : List (ℕ × ℕ)) (i : ℕ) (entry d : ℕ × ℕ) → i < length rooms → all_rooms (set rooms i entry) + (get_or rooms i d).1 ≡ all_rooms rooms + entry.1
all_rooms-set [] i entry d within = absurd (omega arith)
all_rooms-set (x ∷ rooms) zero entry d within = omega arith
all_rooms-set (x ∷ rooms) (suc i) entry d within = let rest = all_rooms-set rooms i entry d (omega arith) in omega arith

all_rooms-insert : (rooms : List (ℕ × ℕ)) (i : ℕ) (entry : ℕ × ℕ) → i ≤ length rooms → all_rooms (insert rooms i entry) ≡ all_rooms rooms + entry.1
all_rooms-insert rooms zero entry within = omega arith
all_rooms-insert [] (suc i) entry within = absurd (omega arith)
all_rooms-insert (x ∷ rooms) (suc i) entry within = let rest = all_rooms-insert rooms i entry (omega arith) in omega arith

all_rooms-remove : (rooms : List (ℕ × ℕ)) (i : ℕ) (d : ℕ × ℕ) → i < length rooms → all_rooms (remove rooms i) + (get_or rooms i d).1 ≡ all_rooms rooms
all_rooms-remove [] i d within = absurd (omega arith)
all_rooms-remove (x ∷ rooms) zero d within = omega arith
all_rooms-remove (x ∷ rooms) (suc i) d within = let rest = all_rooms-remove rooms i d (omega arith) in omega arith

-- other room at the place of one
pub IsRoomSet-set : (rooms : List (ℕ × ℕ)) (id i room : ℕ) → AreRising rooms → IsAt rooms id i → IsRoomSet rooms (set rooms i (id, room)) id room
IsRoomSet-set rooms id i room rising at =
    let old = room_in-at rooms id i (id, room) rising at in
    let all = all_rooms-set rooms i (id, room) (id, room) at.within in
    record {
      here = rw (row_of-set_own rooms id i room rising at) refl;
      others = λ other differ. rw (row_of-set_other rooms id i room other at differ) refl;
      all = omega arith;
    }

-- room for one for which nothing stood
pub IsRoomSet-insert : (rooms : List (ℕ × ℕ)) (id i room : ℕ) → StandsAt rooms id i → IsRoomSet rooms (insert rooms i (id, room)) id room
IsRoomSet-insert rooms id i room at =
    let old = room_in-missing rooms id i at in
    let all = all_rooms-insert rooms i (id, room) at.within in
    record {
      here = rw (row_of-insert_own rooms id i room at) refl;
      others = λ other differ. rw (row_of-insert_other rooms id i room other at differ) refl;
      all = omega arith;
    }

-- .. and none for it
pub IsRoomSet-none : (rooms : List (ℕ × ℕ)) (id i room : ℕ) → room ≡ 0 → StandsAt rooms id i → IsRoomSet rooms rooms id room
IsRoomSet-none rooms id i room none at =
    let old = room_in-missing rooms id i at in
    record { here = omega arith; others = λ other differ. refl; all = omega arith }

-- one that is taken out
row_of-taken : (rooms : List (ℕ × ℕ)) (id : ℕ) → row_of (without_row rooms id) id ≡ None
row_of-taken [] id = refl
row_of-taken (x ∷ rooms) id =
    elim (cases_Bool (x.0 == id)) [
      | inl here ↦ rw here (row_of-taken rooms id)
      | inr other ↦ rw (other, other) (row_of-taken rooms id)
    ]

pub IsRoomSet-remove : (rooms : List (ℕ × ℕ)) (id i room : ℕ) → room ≡ 0 → AreRising rooms → IsAt rooms id i → IsRoomSet rooms (remove rooms i) id room
IsRoomSet-remove rooms id i room none rising at =
    let old = room_in-at rooms id i (id, room) rising at in
    let all = all_rooms-remove rooms i (id, room) at.within in
    let same = remove-at rooms i (id, room) id rising at.within (at.here (id, room)) in
    record {
      here = rw (same, row_of-taken rooms id, none) refl;
      others = λ other differ. rw (same, row_of-without rooms id other differ) refl;
      all = omega arith;
    }

-- one less at the place of one
pub take-room : (old new : List (ℕ × ℕ)) (id : ℕ) → 1 ≤ room_in old id → IsRoomSet old new id (room_in old id - 1) → IsOneTaken old new id
take-room old new id some is =
    let here = is.here in
    let all = is.all in
    record { here = omega arith; others = is.others; all = omega arith }
