-- The room that was promised to the homes of streams, under the numbers of the streams.
use Rattle.std.proofs.Common.{◌≡◌, ℕ, ◌*◌, ◌/◌, ◌%◌, true, false, List, [], ◌∷◌, refl, ap, sym, ◌∙◌, arith, inl, inr}
use Rattle.std.specs.Prelude.{◌==◌}
use Rattle.std.proofs.lemmas.Bool.{cases_Bool, eq-eqb, eqb-true, both_ways}
use Rattle.oplock_state.specs.Homes.{home_of_stream, rooms_of_streams}
use Rattle.oplock_state.proofs.SortLemmas.{homes-differ}
use Rattle.volume_tables.specs.Rooms.{room_in}

-- an even number is the home of the stream of its half
halved : (home stream : ℕ) → (home % 2 == 0) ≡ true → (home / 2 == stream) ≡ (home == home_of_stream stream)
halved home stream even =
    let none_left : home % 2 ≡ 0 = eqb-true (home % 2) 0 even in
    let twice : 2 * (home / 2) ≡ home = omega arith in
    sym (homes-differ (home / 2) stream) ∙ ap (λ (n : ℕ). n == home_of_stream stream) twice

-- an odd number is no stream's home
odd-differs : (home stream : ℕ) → (home % 2 == 0) ≡ false → (home == home_of_stream stream) ≡ false
odd-differs home stream odd = elim (cases_Bool (home == home_of_stream stream)) [
  | inr not ↦ not
  | inl is ↦ (let same : home ≡ 2 * stream = eqb-true home (home_of_stream stream) is in
      let even : home % 2 ≡ 0 = omega arith in
      absurd (both_ways (home % 2 == 0) odd (eq-eqb (home % 2) 0 even)))
]

pub room-of_stream : (rooms : List (ℕ × ℕ)) (stream : ℕ) → room_in (rooms_of_streams rooms) stream ≡ room_in rooms (home_of_stream stream)
room-of_stream [] stream = refl
room-of_stream (room ∷ rooms) stream = elim (cases_Bool (room.0 % 2 == 0)) [
  | inl even ↦ elim (cases_Bool (room.0 == home_of_stream stream)) [
    | inl here ↦ (let half : (room.0 / 2 == stream) ≡ true = halved room.0 stream even ∙ here in rw (even, half, here) refl)
    | inr other ↦ (let half : (room.0 / 2 == stream) ≡ false = halved room.0 stream even ∙ other in rw (even, half, other) (room-of_stream rooms stream))
  ]
  | inr odd ↦ rw (odd, odd-differs room.0 stream odd) (room-of_stream rooms stream)
]
