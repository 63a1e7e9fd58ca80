-- Streams beside their room: what a change of one of them is to the streams, and what room they have.
use Rattle.std.proofs.Common.{◌≡◌, ℕ, Bool, true, false, ◌+◌, ◌<◌, ◌≤◌, ◌==◌, List, [], ◌∷◌, length, get_or, ◌++◌, refl, ap, sym, subst, ◌∙◌, arith, inl, inr, Option, Some, None, length-append, length-take, length-drop}
use Rattle.std.specs.Prelude.{map, filter, option_map, IfSome, OnOk, Result, Ok, Err}
use Rattle.std.specs.Option.{ForSome}
use Rattle.std.proofs.lemmas.Bool.{cases_Bool, eqb-true, eq-eqb, ne_eqb, both_ways}
use Rattle.std.proofs.lemmas.List.{length-replicate, length-map, get_or-map}
use Rattle.std.proofs.lemmas.List.Folds.{find-append, list_any_none}
use Rattle.std.proofs.lemmas.List.Elements.{All-filter}
use Rattle.std.specs.List.{All, find}
use Rattle.fsa_types.specs.Rows.{row_of, lives}
use Rattle.fsa_types.specs.StreamBytes.{put, cut}
use Rattle.fsa_types.proofs.RowLemmas.{AreRising, AreRising-rest, AreRising-first, row_of-map}
use Rattle.fsa_model.proofs.RowLaws.{option_cases}
use Rattle.stream_pages.specs.Streams.{StreamRoom}
use Rattle.volume_rows.specs.Streams.{StreamRowView}

-- the rooms alone
abbrev pub rooms_in : List (ℕ × StreamRowView) → List (ℕ × StreamRoom)
rooms_in rows = map (λ entry. (entry.0, entry.1.room)) rows

-- what is said of the room of a stream is said of its row, and the other way round
pub room-down : (P : StreamRoom → Type 0) (rows : List (ℕ × StreamRowView)) (id : ℕ) → ForSome (row_of (rooms_in rows) id) P → IfSome (row_of rows id) (λ row. P row.room)
room-down P rows id room = elim (option_cases (row_of rows id)) [
  | inl none ↦ rw none tt
  | inr some ↦ rw some.1 (room some.0.room (row_of-map (λ kept. kept.room) rows id ∙ ap (option_map (λ (kept : StreamRowView). kept.room)) some.1))
]

pub room-up : (P : StreamRoom → Type 0) (rows : List (ℕ × StreamRowView)) (id : ℕ) → IfSome (row_of rows id) (λ row. P row.room) → ForSome (row_of (rooms_in rows) id) P
room-up P rows id room x is = elim (option_cases (row_of rows id)) [
  | inl none ↦ (let impossible : None ≡ Some x = sym (row_of-map (λ kept. kept.room) rows id ∙ ap (option_map (λ (kept : StreamRowView). kept.room)) none) ∙ is in cc)
  | inr some ↦ (let same : Some some.0.room ≡ Some x = sym (row_of-map (λ kept. kept.room) rows id ∙ ap (option_map (λ (kept : StreamRowView). kept.room)) some.1) ∙ is in
      let here : some.0.room ≡ x = cc in
      let there : P some.0.room = rw some.1 at room in
      subst P here there)
]

-- a weaker fact of what is found
pub IfSome-weaker : {X : Type 0} (P Q : X → Type 0) (o : Option X) → ((x : X) → P x → Q x) → IfSome o P → IfSome o Q
IfSome-weaker P Q None weaker some = tt
IfSome-weaker P Q (Some x) weaker some = weaker x some

-- bytes that are put, and bytes that are cut, stay within a bound
pub length-put_le : (bytes : List ℕ) (at : ℕ) (piece : List ℕ) (most : ℕ) → length bytes ≤ most → at + length piece ≤ most → length (put bytes at piece) ≤ most
length-put_le bytes at piece most before end =
    omega (arith, length-append {A = ℕ}, length-take {A = ℕ}, length-drop {A = ℕ}, length-replicate {A = ℕ})

pub length-cut : (bytes : List ℕ) (n : ℕ) → length (cut bytes n) ≡ n
length-cut bytes n = omega (arith, length-append {A = ℕ}, length-take {A = ℕ}, length-replicate {A = ℕ})

pub OnOk-weaker : {T E : Type 0} (P Q : Type 0) (r : Result T E) → (P → Q) → OnOk r P → OnOk r Q
OnOk-weaker P Q (Ok x) weaker holds = weaker holds
OnOk-weaker P Q (Err e) weaker holds = tt

-- where rows are taken out
pub row_of-filter : {R : Type 0} (keep : ℕ × R → Bool) (rows : List (ℕ × R)) (id : ℕ) → AreRising rows → lives (filter keep rows) id ≡ true → row_of (filter keep rows) id ≡ row_of rows id
row_of-filter keep [] id rising living = refl
row_of-filter {R} keep (x ∷ xs) id rising living =
    elim (cases_Bool (keep x)) [
      | inl kept ↦ elim (cases_Bool (x.0 == id)) [
        | inl here ↦ rw (kept, here) refl
        | inr on ↦ rw (kept, on) (row_of-filter keep xs id (AreRising-rest x xs rising) (rw (kept, on) at living))
      ]
      | inr gone ↦ elim (cases_Bool (x.0 == id)) [
        | inl here ↦ (let is : x.0 ≡ id = eqb-true _ _ here in
            let later : All (λ (y : ℕ × R). (y.0 == id) ≡ false) xs = λ k d within. (let above = AreRising-first x xs rising k d within in ne_eqb _ id (λ e. absurd (omega arith))) in
            let none : lives (filter keep xs) id ≡ false = list_any_none (λ (y : ℕ × R). y.0 == id) (filter keep xs) (All-filter keep (λ (y : ℕ × R). (y.0 == id) ≡ false) xs later) in
            absurd (both_ways (lives (filter keep xs) id) none (rw gone at living)))
        | inr on ↦ rw (gone, on) (row_of-filter keep xs id (AreRising-rest x xs rising) (rw gone at living))
      ]
    ]

-- where one is put in
pub row_of-before : {R : Type 0} (rows : List (ℕ × R)) (entry : ℕ × R) (other : ℕ) → (other == entry.0) ≡ false → row_of (rows ++ entry ∷ []) other ≡ row_of rows other
row_of-before {R} rows entry other differ =
    let fails : (entry.0 == other) ≡ false = elim (cases_Bool (entry.0 == other)) [
      | inl same ↦ (let is : entry.0 ≡ other = eqb-true _ _ same in let equal = eq-eqb other entry.0 (sym is) in absurd (both_ways (other == entry.0) differ equal))
      | inr fails ↦ fails
    ] in
    elim (option_cases (find (λ (e : ℕ × R). e.0 == other) rows)) [
      | inl none ↦ rw (find-append (λ (e : ℕ × R). e.0 == other) rows (entry ∷ []), none, fails) refl
      | inr some ↦ rw (find-append (λ (e : ℕ × R). e.0 == other) rows (entry ∷ []), some.1) refl
    ]

-- the room of a stream stays where its row does
pub rooms-same : (old new : List (ℕ × StreamRowView)) (id : ℕ) → row_of new id ≡ row_of old id → row_of (rooms_in new) id ≡ row_of (rooms_in old) id
rooms-same old new id same =
    row_of-map (λ kept. kept.room) new id ∙ ap (option_map (λ (kept : StreamRowView). kept.room)) same ∙ sym (row_of-map (λ kept. kept.room) old id)

-- rows that rise as they are seen rise
pub AreRising-seen : {R S : Type 0} (view : R → S) (rows : List (ℕ × R)) → AreRising (map (λ e. (e.0, view e.1)) rows) → AreRising rows
AreRising-seen {R} {S} view rows rising i j d below within =
    let f : ℕ × R → ℕ × S = λ e. (e.0, view e.1) in
    let inside : j < length (map f rows) = rw (length-map rows f) within in
    let pair : (get_or (map f rows) i (f d)).0 < (get_or (map f rows) j (f d)).0 = rising i j (f d) below inside in
    let first : (get_or (map f rows) i (f d)).0 ≡ (get_or rows i d).0 = ap (λ (e : ℕ × S). e.0) (get_or-map f rows i d (f d) (omega arith)) in
    let second : (get_or (map f rows) j (f d)).0 ≡ (get_or rows j d).0 = ap (λ (e : ℕ × S). e.0) (get_or-map f rows j d (f d) within) in
    omega arith
