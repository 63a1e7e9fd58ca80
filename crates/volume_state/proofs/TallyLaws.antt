-- The tally of what streams take stays right where files and streams change, and its sums fit.
use Rattle.std.proofs.Common.{◌≡◌, ℕ, Bool, true, false, ◌+◌, ◌*◌, ◌-◌, ◌^◌, ◌≤◌, ◌<◌, ◌==◌, not, List, [], ◌∷◌, ◌++◌, length, get_or, refl, ap, sym, subst, ◌∙◌, arith, inl, inr, Option, Some}
use Rattle.std.specs.List.{All, filter, sum_by}
use Rattle.std.specs.Prelude.{IfSome, IfNone, IsSome, IsTrue, if◌then◌else◌}
use Rattle.std.specs.Option.{option_map_or}
use Rattle.std.proofs.lemmas.Bool.{cases_Bool, eqb-true, eq-eqb}
use Rattle.std.proofs.lemmas.List.Elements.{All-append, All-cons, All-filter, All-map}
use Rattle.std.proofs.lemmas.List.Filters.{sum_by-filter_both}
use Rattle.std.proofs.lemmas.List.Sums.{sum_by-le, sum_by_push}
use Rattle.fsa_types.specs.Rows.{IsNumbered, lives, row_of, with_row_changed, without_row}
use Rattle.fsa_types.proofs.RowLemmas.{AreRising, length-numbered, with_row_changed-none}
use Rattle.fsa_types.specs.Clusters.{cluster_size, clusters_for}
use Rattle.fsa_model.specs.Volume.{File, Stream}
use Rattle.fsa_model.proofs.RowLaws.{change_at, change_at-same, found-all, lives-found, option_cases, without_row-none}
use Rattle.tallies.specs.Charges.{sum_of}
use Rattle.volume_state.specs.Tallied.{AreTallied, charged, clusters_at, clusters_of_all, clusters_of_file, part_of_file, part_of_stream}
use Rattle.volume_tables.proofs.StreamLemmas.{row_of-other}
use Rattle.volume_state.proofs.SumLemmas.{row_of-change_here, sum-changed, sum-filtered, sum-same, sum-scaled, sum-without, sum-zero}
use Rattle.volume_tables.specs.Space.{Admits, HandsOver, MayResize, Resizes, Space, share}
use Rattle.volume_tables.proofs.PlaceLemmas.{row_of-append, row_of-without}
use Rattle.volume_tables.proofs.SpaceLemmas.{share-none}

-- ---- what a stream is to a charge

abbrev taken : ℕ × Stream → ℕ
taken entry = clusters_for (length entry.1.bytes)

abbrev is_owned : List (ℕ × File) → ℕ → ℕ → Bool
is_owned files owner file = option_map_or (λ row. row.owner == owner) (row_of files file) false

abbrev weight : List (ℕ × File) → ℕ → ℕ × Stream → ℕ
weight files owner entry = if is_owned files owner entry.1.file then cluster_size * taken entry else 0

charged-weight : (files : List (ℕ × File)) (streams : List (ℕ × Stream)) (owner : ℕ) → charged files streams owner ≡ sum_by (weight files owner) streams
charged-weight files streams owner = sum-filtered (λ entry. is_owned files owner entry.1.file) (λ entry. cluster_size * taken entry) streams

-- where the owner of its file is known
weight-share : (files : List (ℕ × File)) (owner : ℕ) (entry : ℕ × Stream) (file : File) → row_of files entry.1.file ≡ Some file → weight files owner entry ≡ share file.owner owner (taken entry)
weight-share files owner entry file found = rw found refl

share-own : (owner clusters : ℕ) → share owner owner clusters ≡ cluster_size * clusters
share-own owner clusters = rw (eq-eqb owner owner refl) refl

weight-le : (files : List (ℕ × File)) (owner : ℕ) (entry : ℕ × Stream) → weight files owner entry ≤ cluster_size * taken entry
weight-le files owner entry = elim (cases_Bool (is_owned files owner entry.1.file)) [
  | inl owned ↦ rw owned (omega arith)
  | inr other ↦ rw other (omega arith)
]

-- whose files a stream is of says it all
weight-same : (old new : List (ℕ × File)) (owner : ℕ) (entry : ℕ × Stream) → is_owned new owner entry.1.file ≡ is_owned old owner entry.1.file → weight new owner entry ≡ weight old owner entry
weight-same old new owner entry same = ap (λ (b : Bool). if b then cluster_size * taken entry else 0) same

charged-same : (old new : List (ℕ × File)) (streams : List (ℕ × Stream)) (owner : ℕ) → All (λ entry. is_owned new owner entry.1.file ≡ is_owned old owner entry.1.file) streams
    → charged new streams owner ≡ charged old streams owner
charged-same old new streams owner same =
    charged-weight new streams owner
    ∙ sum-same (weight new owner) (weight old owner) streams (λ k d within. weight-same old new owner (get_or streams k d) (same k d within))
    ∙ sym (charged-weight old streams owner)

-- ---- sums fit

module _ (files : List (ℕ × File)) (streams : List (ℕ × Stream)) (last : ℕ) (numbered : IsNumbered streams last) (few : last < 2 ^ 32 - 1) (small : All (λ entry. length entry.1.bytes ≤ 2 ^ 26) streams) where
  pub clusters-few : clusters_of_all streams ≤ 2 ^ 47
  clusters-few =
      let count = length-numbered streams last numbered in
      let sum = sum_by-le taken (2 ^ 15) streams (λ k d within. let bound = small k d within in omega arith) in
      omega arith

  charged-few : (owner : ℕ) → charged files streams owner ≤ 2 ^ 59
  charged-few owner =
      let count = length-numbered streams last numbered in
      let sum = sum_by-le (weight files owner) (2 ^ 27) streams (λ k d within. let bound = small k d within in let most = weight-le files owner (get_or streams k d) in omega arith) in
      let is = charged-weight files streams owner in
      omega arith

-- ---- the clusters of one file's streams

module _ (files : List (ℕ × File)) (streams : List (ℕ × Stream)) (id : ℕ) where
  abbrev others : List (ℕ × Stream)
  others = filter (λ entry. not (entry.1.file == id)) streams

  clusters-split : clusters_of_file streams id + clusters_of_all others ≡ clusters_of_all streams
  clusters-split = sum_by-filter_both (λ (entry : ℕ × Stream). entry.1.file == id) (λ entry. not (entry.1.file == id)) (λ entry. refl) taken streams

  sum-shares : (owner other : ℕ) (some : List (ℕ × Stream)) → sum_by (λ entry. share owner other (taken entry)) some ≡ share owner other (clusters_of_all some)
  sum-shares owner other some = elim (cases_Bool (owner == other)) [
    | inl same ↦ rw same (sum-scaled cluster_size taken some)
    | inr differ ↦ rw differ (sum-zero some)
  ]

  own-weight : (owner : ℕ) (file : File) → row_of files id ≡ Some file → sum_by (weight files owner) (filter (λ entry. entry.1.file == id) streams) ≡ share file.owner owner (clusters_of_file streams id)
  own-weight owner file found =
      let test : ℕ × Stream → Bool = λ entry. entry.1.file == id in
      let part : ℕ × Stream → ℕ = λ entry. share file.owner owner (taken entry) in
      sum-filtered test (weight files owner) streams
      ∙ sum-same (λ entry. if test entry then weight files owner entry else 0) (λ entry. if test entry then part entry else 0) streams
      (λ k d within. elim (cases_Bool (test (get_or streams k d))) [
        | inl here ↦ (let is : (get_or streams k d).1.file ≡ id = eqb-true _ id here in
            rw here (weight-share files owner (get_or streams k d) file (ap (row_of files) is ∙ found)))
        | inr other ↦ rw other refl
      ])
      ∙ sym (sum-filtered test part streams)
      ∙ sum-shares file.owner owner (filter test streams)

  -- the charge is that for the other files with the owner's part of this one
  charged-split : (owner : ℕ) (file : File) → row_of files id ≡ Some file → charged files streams owner ≡ share file.owner owner (clusters_of_file streams id) + charged files others owner
  charged-split owner file found =
      charged-weight files streams owner
      ∙ sym (sum_by-filter_both (λ (entry : ℕ × Stream). entry.1.file == id) (λ entry. not (entry.1.file == id)) (λ entry. refl) (weight files owner) streams)
      ∙ ap (λ n. n + sum_by (weight files owner) others) (own-weight owner file found)
      ∙ ap (λ n. share file.owner owner (clusters_of_file streams id) + n) (sym (charged-weight files others owner))

-- the other files' part stays where they stay
charged-others : (old new : List (ℕ × File)) (streams : List (ℕ × Stream)) (id owner : ℕ) → ((other : ℕ) → (other == id) ≡ false → row_of new other ≡ row_of old other)
    → charged new (others old streams id) owner ≡ charged old (others old streams id) owner
charged-others old new streams id owner stays =
    let test : ℕ × Stream → Bool = λ entry. not (entry.1.file == id) in
    charged-weight new (filter test streams) owner
    ∙ sum-filtered test (weight new owner) streams
    ∙ sum-same (λ entry. if test entry then weight new owner entry else 0) (λ entry. if test entry then weight old owner entry else 0) streams
    (λ k d within. elim (cases_Bool ((get_or streams k d).1.file == id)) [
      | inl here ↦ rw here refl
      | inr other ↦ rw other (weight-same old new owner (get_or streams k d) (ap (λ (row : Option File). option_map_or (λ file. file.owner == owner) row false) (stays _ other)))
    ])
    ∙ sym (sum-filtered test (weight old owner) streams)
    ∙ sym (charged-weight old (filter test streams) owner)

pub clusters_of_file-few : (files : List (ℕ × File)) (streams : List (ℕ × Stream)) (last : ℕ) → IsNumbered streams last → last < 2 ^ 32 - 1 → All (λ entry. length entry.1.bytes ≤ 2 ^ 26) streams
    → (id : ℕ) → clusters_of_file streams id ≤ 2 ^ 47
clusters_of_file-few files streams last numbered few small id =
    let whole = clusters-split files streams id in
    let most = clusters-few files streams last numbered few small in
    omega arith

-- ---- a part that is there

part-stream : (files : List (ℕ × File)) (streams : List (ℕ × Stream)) (id : ℕ) (row : Stream) (file : File) → row_of streams id ≡ Some row → row_of files row.file ≡ Some file
    → part_of_stream files streams id ≡ Some (file.owner, clusters_for (length row.bytes))
part-stream files streams id row file here found = rw (here, found) refl

part-file : (files : List (ℕ × File)) (streams : List (ℕ × Stream)) (id : ℕ) (file : File) → row_of files id ≡ Some file → part_of_file files streams id ≡ Some (file.owner, clusters_of_file streams id)
part-file files streams id file found = rw found refl

file-there : (files : List (ℕ × File)) (streams : List (ℕ × Stream)) (id : ℕ) (row : Stream) → All (λ entry. IsTrue (lives files entry.1.file)) streams → row_of streams id ≡ Some row
    → (file : File) × (row_of files row.file ≡ Some file)
file-there files streams id row live here =
    let living : lives files row.file ≡ true = rw here at (found-all (λ (stream : Stream). lives files stream.file ≡ true) streams id live) in
    elim (option_cases (row_of files row.file)) [
      | inl none ↦ absurd (lives-found files row.file living none)
      | inr some ↦ some
    ]

module _ (files : List (ℕ × File)) (streams : List (ℕ × Stream)) (last : ℕ) (space : Space) (numbered : IsNumbered streams last) (few : last < 2 ^ 32 - 1)
    (small : All (λ entry. length entry.1.bytes ≤ 2 ^ 26) streams) (live : All (λ entry. IsTrue (lives files entry.1.file)) streams) (tallied : AreTallied files streams space) where
  owner-there : (id : ℕ) (file : File) → row_of files id ≡ Some file → IsSome (row_of space.sums file.owner)
  owner-there id file found = rw found at (found-all (λ (row : File). IsSome (row_of space.sums row.owner)) files id tallied.owners)

  -- a stream can be made to take other clusters, and a file's go
  pub may-resize_stream : (id after : ℕ) → after ≤ 2 ^ 15 → IfSome (part_of_stream files streams id) (λ p. MayResize space p.0 p.1 after)
  may-resize_stream id after fits = elim (option_cases (row_of streams id)) [
    | inl none ↦ rw none tt
    | inr some ↦ (let row = some.0 in
        let there = file-there files streams id row live some.1 in
        let file = there.0 in
        let owner = file.owner in
        let part : weight files owner (id, row) ≡ cluster_size * taken (id, row) = weight-share files owner (id, row) file there.1 ∙ share-own owner (taken (id, row)) in
        let whole = sum-without (weight files owner) streams id row numbered.rising some.1 in
        let all = sum-without taken streams id row numbered.rising some.1 in
        let is = charged-weight files streams owner in
        let sum = tallied.charges owner in
        let total = tallied.clusters in
        let most = charged-few files streams last numbered few small owner in
        let most_clusters = clusters-few files streams last numbered few small in
        let may : MayResize space owner (taken (id, row)) after = record {
          there = owner-there row.file file there.1;
          charged = omega arith;
          counted = omega arith;
          fits = omega arith;
          few = omega arith;
        } in
        rw (some.1, there.1) may)
  ]

  pub may-resize_file : (id : ℕ) → IfSome (part_of_file files streams id) (λ p. MayResize space p.0 p.1 0)
  may-resize_file id = elim (option_cases (row_of files id)) [
    | inl none ↦ rw none tt
    | inr some ↦ (let owner = some.0.owner in
        let clusters = clusters_of_file streams id in
        let split = charged-split files streams id owner some.0 some.1 in
        let own = share-own owner clusters in
        let whole = clusters-split files streams id in
        let sum = tallied.charges owner in
        let total = tallied.clusters in
        let most = charged-few files streams last numbered few small owner in
        let most_clusters = clusters-few files streams last numbered few small in
        let may : MayResize space owner clusters 0 = record {
          there = owner-there id some.0 some.1;
          charged = omega arith;
          counted = omega arith;
          fits = omega arith;
          few = omega arith;
        } in
        rw some.1 may)
  ]

  -- its charge can pass to another owner
  pub may-pass : (id to : ℕ) → IfSome (part_of_file files streams id) (λ p. sum_of space.sums to + cluster_size * p.1 < 2 ^ 64)
  may-pass id to = elim (option_cases (row_of files id)) [
    | inl none ↦ rw none tt
    | inr some ↦ (let clusters = clusters_of_file streams id in
        let whole = clusters-split files streams id in
        let sum = tallied.charges to in
        let most = charged-few files streams last numbered few small to in
        let most_clusters = clusters-few files streams last numbered few small in
        let fits : sum_of space.sums to + cluster_size * clusters < 2 ^ 64 = omega arith in
        rw some.1 fits)
  ]

-- ---- a stream is changed

pub clusters_at-few : (streams : List (ℕ × Stream)) (id : ℕ) (change : Stream → Stream) → All (λ entry. length entry.1.bytes ≤ 2 ^ 26) streams
    → ((row : Stream) → length row.bytes ≤ 2 ^ 26 → length (change row).bytes ≤ 2 ^ 26) → clusters_at (with_row_changed change streams id) id ≤ 2 ^ 15
clusters_at-few streams id change small stays = elim (option_cases (row_of streams id)) [
  | inl none ↦ rw (with_row_changed-none streams id change none, none) (omega arith)
  | inr some ↦ (let before : length some.0.bytes ≤ 2 ^ 26 = rw some.1 at (found-all (λ (stream : Stream). length stream.bytes ≤ 2 ^ 26) streams id small) in
      let after = stays some.0 before in
      rw (row_of-change_here change streams id some.0 some.1) (omega arith))
]

module _ (files : List (ℕ × File)) (streams : List (ℕ × Stream)) (old new : Space) (id : ℕ) (rising : AreRising streams) (live : All (λ entry. IsTrue (lives files entry.1.file)) streams) (tallied : AreTallied files streams old) where
  pub tallied-changed : (change : Stream → Stream) → ((row : Stream) → (change row).file ≡ row.file)
      → IfSome (part_of_stream files streams id) (λ p. Resizes old new p.0 p.1 (clusters_at (with_row_changed change streams id) id)) → IfNone (part_of_stream files streams id) (new ≡ old)
      → AreTallied files (with_row_changed change streams id) new
  tallied-changed change keeps some_resized none_same = elim (option_cases (row_of streams id)) [
    | inl none ↦ (let same : new ≡ old = rw none at none_same in
        rw (with_row_changed-none streams id change none) (subst (AreTallied files streams) (sym same) tallied))
    | inr some ↦ (let row = some.0 in
        let there = file-there files streams id row live some.1 in
        let file = there.0 in
        let after = clusters_for (length (change row).bytes) in
        let now : clusters_at (with_row_changed change streams id) id ≡ after = rw (row_of-change_here change streams id row some.1) refl in
        let resized : Resizes old new file.owner (taken (id, row)) after =
        subst (λ n. Resizes old new file.owner (taken (id, row)) n) now (rw (part-stream files streams id row file some.1 there.1) at some_resized) in
        record {
          charges = λ owner. (
              let moved = resized.charges owner in
              let sum = tallied.charges owner in
              let whole = sum-changed (weight files owner) change streams id row rising some.1 in
              let before = weight-share files owner (id, row) file there.1 in
              let behind = weight-share files owner (id, change row) file (ap (row_of files) (keeps row) ∙ there.1) in
              let is = charged-weight files streams owner in
              let will = charged-weight files (with_row_changed change streams id) owner in
              omega arith);
          clusters = let moved = resized.clusters in let total = tallied.clusters in let whole = sum-changed taken change streams id row rising some.1 in omega arith;
          owners = λ k d within. resized.there _ (tallied.owners k d within);
        })
  ]

  -- .. or taken out
  pub tallied-without : IfSome (part_of_stream files streams id) (λ p. Resizes old new p.0 p.1 0) → IfNone (part_of_stream files streams id) (new ≡ old)
      → AreTallied files (without_row streams id) new
  tallied-without some_resized none_same = elim (option_cases (row_of streams id)) [
    | inl none ↦ (let same : new ≡ old = rw none at none_same in
        rw (without_row-none streams id none) (subst (AreTallied files streams) (sym same) tallied))
    | inr some ↦ (let row = some.0 in
        let there = file-there files streams id row live some.1 in
        let file = there.0 in
        let resized : Resizes old new file.owner (taken (id, row)) 0 = rw (part-stream files streams id row file some.1 there.1) at some_resized in
        record {
          charges = λ owner. (
              let moved = resized.charges owner in
              let sum = tallied.charges owner in
              let whole = sum-without (weight files owner) streams id row rising some.1 in
              let before = weight-share files owner (id, row) file there.1 in
              let gone = share-none file.owner owner in
              let is = charged-weight files streams owner in
              let will = charged-weight files (without_row streams id) owner in
              omega arith);
          clusters = let moved = resized.clusters in let total = tallied.clusters in let whole = sum-without taken streams id row rising some.1 in omega arith;
          owners = λ k d within. resized.there _ (tallied.owners k d within);
        })
  ]

-- an empty stream takes nothing
pub tallied-push : (files : List (ℕ × File)) (streams : List (ℕ × Stream)) (space : Space) (entry : ℕ × Stream) → entry.1.bytes ≡ [] → AreTallied files streams space → AreTallied files (streams ++ entry ∷ []) space
tallied-push files streams space entry empty tallied =
    let nothing : taken entry ≡ 0 = ap (λ (bytes : List ℕ). clusters_for (length bytes)) empty in
    record {
      charges = λ owner. (
          let sum = tallied.charges owner in
          let is = charged-weight files streams owner in
          let will = charged-weight files (streams ++ entry ∷ []) owner in
          let whole = sum_by_push (weight files owner) streams entry in
          let most = weight-le files owner entry in
          omega arith);
      clusters = let total = tallied.clusters in let whole = sum_by_push taken streams entry in omega arith;
      owners = tallied.owners;
    }

-- bytes that stay as many take what they took
pub tallied-unseen : (files : List (ℕ × File)) (streams : List (ℕ × Stream)) (space : Space) (id : ℕ) (change : Stream → Stream) → AreRising streams
    → ((row : Stream) → (change row).file ≡ row.file) → ((row : Stream) → (change row).bytes ≡ row.bytes) → AreTallied files streams space → AreTallied files (with_row_changed change streams id) space
tallied-unseen files streams space id change rising keeps stays tallied = elim (option_cases (row_of streams id)) [
  | inl none ↦ rw (with_row_changed-none streams id change none) tallied
  | inr some ↦ (let row = some.0 in
      let same : taken (id, change row) ≡ taken (id, row) = ap (λ (bytes : List ℕ). clusters_for (length bytes)) (stays row) in
      record {
        charges = λ owner. (
            let sum = tallied.charges owner in
            let whole = sum-changed (weight files owner) change streams id row rising some.1 in
            let part : weight files owner (id, change row) ≡ weight files owner (id, row) = λ i. if is_owned files owner (keeps row i) then cluster_size * same i else 0 in
            let is = charged-weight files streams owner in
            let will = charged-weight files (with_row_changed change streams id) owner in
            omega arith);
        clusters = let total = tallied.clusters in let whole = sum-changed taken change streams id row rising some.1 in omega arith;
        owners = tallied.owners;
      })
]

-- ---- a file is changed

-- the owners stay
is_owned-changed : (change : File → File) → ((row : File) → (change row).owner ≡ row.owner) → (files : List (ℕ × File)) (id owner file : ℕ) → is_owned (with_row_changed change files id) owner file ≡ is_owned files owner file
is_owned-changed change same [] id owner file = refl
is_owned-changed change same (x ∷ xs) id owner file = elim (cases_Bool (x.0 == id)) [
  | inl here ↦ elim (cases_Bool (x.0 == file)) [
    | inl is ↦ rw (here, is) (ap (λ o. o == owner) (same x.1))
    | inr on ↦ rw (here, on) (is_owned-changed change same xs id owner file)
  ]
  | inr other ↦ elim (cases_Bool (x.0 == file)) [
    | inl is ↦ rw (other, is) refl
    | inr on ↦ rw (other, on) (is_owned-changed change same xs id owner file)
  ]
]

pub tallied-file_changed : (files : List (ℕ × File)) (streams : List (ℕ × Stream)) (space : Space) (id : ℕ) (change : File → File) → ((row : File) → (change row).owner ≡ row.owner)
    → AreTallied files streams space → AreTallied (with_row_changed change files id) streams space
tallied-file_changed files streams space id change same tallied = record {
  charges = λ owner. tallied.charges owner ∙ sym (charged-same files (with_row_changed change files id) streams owner (λ k d within. is_owned-changed change same files id owner _));
  clusters = tallied.clusters;
  owners = All-map (λ (entry : ℕ × File). IsSome (row_of space.sums entry.1.owner)) (change_at change id) files
      (λ k d within. subst (λ o. IsSome (row_of space.sums o)) (sym (change_at-same change id (λ (row : File). row.owner) same (get_or files k d))) (tallied.owners k d within));
}

-- a file more, whose owner is there
pub tallied-file_added : (files : List (ℕ × File)) (streams : List (ℕ × Stream)) (old new : Space) (entry : ℕ × File) → All (λ e. IsTrue (lives files e.1.file)) streams → Admits old new entry.1.owner
    → AreTallied files streams old → AreTallied (files ++ entry ∷ []) streams new
tallied-file_added files streams old new entry live admitted tallied = record {
  charges = λ owner. admitted.charges owner ∙ tallied.charges owner
      ∙ sym (charged-same files (files ++ entry ∷ []) streams owner
      (λ k d within. ap (λ (row : Option File). option_map_or (λ file. file.owner == owner) row false) (row_of-append files (entry ∷ []) _ (live k d within))));
  clusters = admitted.clusters ∙ tallied.clusters;
  owners = All-append (λ (e : ℕ × File). IsSome (row_of new.sums e.1.owner)) files (entry ∷ [])
      (λ k d within. admitted.there _ (tallied.owners k d within))
      (All-cons (λ (e : ℕ × File). IsSome (row_of new.sums e.1.owner)) entry [] admitted.here (λ k d within. absurd (omega arith)));
}

-- where the owners are admitted all stays right
pub tallied-admitted : (files : List (ℕ × File)) (streams : List (ℕ × Stream)) (old new : Space) (owner : ℕ) → Admits old new owner → AreTallied files streams old → AreTallied files streams new
tallied-admitted files streams old new owner admitted tallied = record {
  charges = λ other. admitted.charges other ∙ tallied.charges other;
  clusters = admitted.clusters ∙ tallied.clusters;
  owners = λ k d within. admitted.there _ (tallied.owners k d within);
}

-- a file has another owner, who is there
module _ (files : List (ℕ × File)) (streams : List (ℕ × Stream)) (old new : Space) (id to : ℕ) (tallied : AreTallied files streams old) where
  abbrev owned : File → File
  owned row = record row { owner = to }

  pub tallied-owner_changed : IsSome (row_of old.sums to) → IfSome (part_of_file files streams id) (λ p. HandsOver old new p.0 to p.1) → IfNone (part_of_file files streams id) (new ≡ old)
      → AreTallied (with_row_changed owned files id) streams new
  tallied-owner_changed admitted some_handed none_same = elim (option_cases (row_of files id)) [
    | inl none ↦ (let same : new ≡ old = rw none at none_same in
        rw (with_row_changed-none files id owned none) (subst (AreTallied files streams) (sym same) tallied))
    | inr some ↦ (let file = some.0 in
        let clusters = clusters_of_file streams id in
        let handed : HandsOver old new file.owner to clusters = rw (part-file files streams id file some.1) at some_handed in
        record {
          charges = λ owner. (
              let moved = handed.charges owner in
              let sum = tallied.charges owner in
              let before = charged-split files streams id owner file some.1 in
              let behind = charged-split (with_row_changed owned files id) streams id owner (owned file) (row_of-change_here owned files id file some.1) in
              let rest = charged-others files (with_row_changed owned files id) streams id owner (λ other differ. row_of-other owned files id other differ) in
              omega arith);
          clusters = handed.clusters ∙ tallied.clusters;
          owners = All-map (λ (entry : ℕ × File). IsSome (row_of new.sums entry.1.owner)) (change_at owned id) files
              (λ k d within. elim (cases_Bool ((get_or files k d).0 == id)) [
                | inl here ↦ rw here (handed.there to admitted)
                | inr other ↦ rw other (handed.there _ (tallied.owners k d within))
              ]);
        })
  ]

  -- a file goes with its streams
  pub tallied-without_file : IfSome (part_of_file files streams id) (λ p. Resizes old new p.0 p.1 0) → IsTrue (lives files id)
      → AreTallied (without_row files id) (filter (λ entry. not (entry.1.file == id)) streams) new
  tallied-without_file some_resized living = elim (option_cases (row_of files id)) [
    | inl none ↦ absurd (lives-found files id living none)
    | inr some ↦ (let file = some.0 in
        let clusters = clusters_of_file streams id in
        let resized : Resizes old new file.owner clusters 0 = rw (part-file files streams id file some.1) at some_resized in
        record {
          charges = λ owner. (
              let moved = resized.charges owner in
              let sum = tallied.charges owner in
              let before = charged-split files streams id owner file some.1 in
              let gone = share-none file.owner owner in
              let rest = charged-others files (without_row files id) streams id owner (λ other differ. row_of-without files id other differ) in
              omega arith);
          clusters = let moved = resized.clusters in let total = tallied.clusters in let whole = clusters-split files streams id in omega arith;
          owners = λ k d within. resized.there _ (All-filter (λ (entry : ℕ × File). not (entry.0 == id)) (λ (entry : ℕ × File). IsSome (row_of old.sums entry.1.owner)) files tallied.owners k d within);
        })
  ]
