-- Items that begin at a slot: what an edit of the slots is to them.
use Rattle.std.proofs.Common.{ℕ, List, ◌≡◌, ◌<◌, ◌≤◌, ◌+◌, ◌-◌, ◌++◌, ◌∷◌, [], ◌∙◌, suc, ap, arith, drop, get_or, length, length-append, length-drop, set, sym, take}
use Rattle.std.proofs.lemmas.List.{append-nil, append_assoc, drop-append-le, drop-drop, drop-set-add, drop-take, drop_all, drop_at, drop_more, length-take-le, set_at, take-append-le, take-take, take_at, take_more, take_rest}
use Rattle.std.specs.List.{insert, remove}
use lib.Seq.{paste}

module _ {T : Type 0} (xs : List T) where
  -- a copy of the first items of the list from `from` on, over those from `to` on
  pasted : (to from count : ℕ) → to ≤ length xs → drop to (paste xs to (drop from xs) count) ≡ take count (drop from xs) ++ drop (to + count) xs
  pasted to from count within =
      ap (drop to) (append_assoc (take to xs) (take count (drop from xs)) (drop (to + count) xs))
      ∙ drop_at (take to xs) (take count (drop from xs) ++ drop (to + count) xs) to (length-take-le to xs within)

  -- those before a place go down by one, and one is put behind them
  pub put-before : (start place : ℕ) (item : T) → suc start + place ≤ length xs
      → drop start (set (paste xs start (drop (suc start) xs) place) (start + place) item) ≡ insert (drop (suc start) xs) place item
  put-before start place item within =
      let front = take place (drop (suc start) xs) in
      let all : start + place + 1 ≡ suc start + place = omega arith in
      let long : length front ≡ place = length-take-le place (drop (suc start) xs) (omega (arith, length-drop (suc start) xs)) in
      drop-set-add start (paste xs start (drop (suc start) xs) place) place item
      ∙ ap (λ (ys : List T). set ys place item) (pasted start (suc start) place (omega arith) ∙ ap (λ (ys : List T). front ++ ys) (drop_more xs (start + place) item (omega arith)))
      ∙ set_at front _ (drop (start + place + 1) xs) item place long
      ∙ ap (λ (ys : List T). front ++ item ∷ ys) (ap (λ k. drop k xs) all ∙ sym (drop-drop place (suc start) xs))

  -- the part of an edit that lies from `start` on
  behind : (start place : ℕ) (ys : List T) → start + place ≤ length xs → drop start (take (start + place) xs ++ ys) ≡ take place (drop start xs) ++ ys
  behind start place ys within =
      drop-append-le start (take (start + place) xs) ys (omega (arith, length-take-le (start + place) xs within)) ∙ ap (λ (zs : List T). zs ++ ys) (drop-take start place xs)

  -- one is put at a place, and those behind it go up by one
  pub put-behind : (start place : ℕ) (item : T) → start + place ≤ length xs → drop start (insert xs (start + place) item) ≡ insert (drop start xs) place item
  put-behind start place item within =
      behind start place (item ∷ drop (start + place) xs) within ∙ ap (λ (ys : List T). take place (drop start xs) ++ item ∷ ys) (sym (drop-drop place start xs))

  -- one is put at the end; those from a place on go up by one, over it, and it is put at the place
  pub up-one : (at : ℕ) (item : T) → at ≤ length xs → set (paste (xs ++ item ∷ []) (at + 1) (drop at (xs ++ item ∷ [])) (length xs - at)) at item ≡ insert xs at item
  up-one at item within =
      let ys = xs ++ item ∷ [] in
      let many : length ys ≡ length xs + 1 = length-append xs (item ∷ []) in
      let front : length (take at ys) ≡ at = length-take-le at ys (omega arith) in
      let rest : drop (at + 1 + (length xs - at)) ys ≡ [] = drop_all (at + 1 + (length xs - at)) ys (omega arith) in
      let first : take (at + 1) ys ≡ take at ys ++ get_or ys at item ∷ [] = take_more ys at item (omega arith) in
      let moved : take (length xs - at) (drop at ys) ≡ drop at xs
      = ap (take (length xs - at)) (drop-append-le at xs (item ∷ []) within) ∙ take_at (drop at xs) (item ∷ []) (length xs - at) (length-drop at xs) in
      let same : take at ys ≡ take at xs = take-append-le at xs (item ∷ []) within in
      rw (first, moved, rest)
      (ap (λ (zs : List T). set zs at item) (append_assoc (take at ys ++ get_or ys at item ∷ []) (drop at xs) [] ∙ append_assoc (take at ys) (get_or ys at item ∷ []) (drop at xs ++ []))
      ∙ set_at (take at ys) _ (drop at xs ++ []) item at front
      ∙ ap (λ (zs : List T). take at ys ++ item ∷ zs) (append-nil (drop at xs))
      ∙ ap (λ (zs : List T). zs ++ item ∷ drop at xs) same)

  -- those before a place go up by one, over the one that stands there
  pub take-before : (start place : ℕ) → start + place < length xs → drop (start + 1) (paste xs (start + 1) (drop start xs) place) ≡ remove (drop start xs) place
  take-before start place within =
      let all : start + 1 + place ≡ start + suc place = omega arith in
      pasted (start + 1) start place (omega arith) ∙ ap (λ (ys : List T). take place (drop start xs) ++ ys) (ap (λ k. drop k xs) all ∙ sym (drop-drop (suc place) start xs))

  -- the items from `start` up to a place go round by one, so that the last of them comes first
  turned : (start place count : ℕ) (ys : List T) → start + place < length xs → count ≡ suc place → length (take count (drop start xs)) ≡ suc place
      → ys ≡ drop (length (take count (drop start xs)) - 1) (take count (drop start xs)) ++ take (length (take count (drop start xs)) - 1) (take count (drop start xs))
      → drop (start + 1) (take start xs ++ (ys ++ drop count (drop start xs))) ≡ remove (drop start xs) place
  turned start place count ys within many long now =
      let zs = drop start xs in
      let part = take count zs in
      let less : length part - 1 ≡ place = omega (arith, long) in
      let last : length (drop place part) ≡ 1 = omega (arith, length-drop place part, long) in
      sym (drop-drop 1 start (take start xs ++ (ys ++ drop count zs)))
      ∙ ap (drop 1) (drop_at (take start xs) (ys ++ drop count zs) start (length-take-le start xs (omega arith)))
      ∙ ap (λ (l : List T). drop 1 (l ++ drop count zs)) (now ∙ ap (λ k. drop k part ++ take k part) less)
      ∙ ap (drop 1) (append_assoc (drop place part) (take place part) (drop count zs))
      ∙ drop_at (drop place part) (take place part ++ drop count zs) 1 last
      ∙ ap (λ (l : List T). l ++ drop count zs) (take-take place count zs (omega arith))
      ∙ ap (λ k. take place zs ++ drop k zs) many

  -- the same in a vector that holds as many, whatever stands behind them
  pub put-first : (start place count len : ℕ) (ys rest : List T) → start + place < length xs → count ≡ suc place → len ≡ length xs → length ys ≡ length (take count (drop start xs))
      → ys ≡ drop (length (take count (drop start xs)) - 1) (take count (drop start xs)) ++ take (length (take count (drop start xs)) - 1) (take count (drop start xs))
      → drop (start + 1) (take len ((take start xs ++ (ys ++ drop count (drop start xs))) ++ rest)) ≡ remove (drop start xs) place
  put-first start place count len ys rest within many all same now =
      let zs = drop start xs in
      let long : length (take count zs) ≡ suc place = length-take-le count zs (omega (arith, length-drop start xs)) ∙ many in
      let whole : length (take start xs ++ (ys ++ drop count zs)) ≡ len
      = omega (arith, length-append (take start xs) (ys ++ drop count zs), length-append ys (drop count zs), length-take-le start xs (omega arith), length-drop count zs, length-drop start xs) in
      ap (drop (start + 1)) (take_at (take start xs ++ (ys ++ drop count zs)) rest len whole) ∙ turned start place count ys within many long now

  -- those behind a place go down by one, over the one that stands there
  pub take-behind : (start place : ℕ) → start + place < length xs → drop start (remove xs (start + place)) ≡ remove (drop start xs) place
  take-behind start place within =
      let all : suc (start + place) ≡ start + suc place = omega arith in
      behind start place (drop (suc (start + place)) xs) (omega arith)
      ∙ ap (λ (ys : List T). take place (drop start xs) ++ ys) (ap (λ k. drop k xs) all ∙ sym (drop-drop (suc place) start xs))

  -- those before a part go up over it
  pub part-before : (start place count : ℕ) → start + place + count ≤ length xs
      → drop (start + count) (paste xs (start + count) (drop start xs) place) ≡ take place (drop start xs) ++ drop (place + count) (drop start xs)
  part-before start place count within =
      let all : start + count + place ≡ start + (place + count) = omega arith in
      pasted (start + count) start place (omega arith)
      ∙ ap (λ (ys : List T). take place (drop start xs) ++ ys) (ap (λ k. drop k xs) all ∙ sym (drop-drop (place + count) start xs))

  -- those behind a part go down over it, and as many slots at the end are taken out
  pub part-behind : (start place count : ℕ) → start + place + count ≤ length xs
      → drop start (take (length xs - count) (paste xs (start + place) (drop (start + place + count) xs) (length xs - (start + place + count))))
      ≡ take place (drop start xs) ++ drop (place + count) (drop start xs)
  part-behind start place count within =
      let from = start + place + count in
      let rest : take (length xs - from) (drop from xs) ≡ drop from xs = take_rest xs from in
      let long : length (take (start + place) xs ++ drop from xs) ≡ length xs - count
      = omega (arith, length-append (take (start + place) xs) (drop from xs), length-take-le (start + place) xs (omega arith), length-drop from xs) in
      let all : start + place + count ≡ start + (place + count) = omega arith in
      rw rest (ap (drop start) (take_at (take (start + place) xs ++ drop from xs) (drop (start + place + (length xs - from)) xs) (length xs - count) long)
      ∙ behind start place (drop from xs) (omega arith)
      ∙ ap (λ (ys : List T). take place (drop start xs) ++ ys) (ap (λ k. drop k xs) all ∙ sym (drop-drop (place + count) start xs)))
