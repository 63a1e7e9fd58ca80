-- A grant, an acknowledgement and a cancellation keep what coherence rests on, change no bytes, and end
-- only the counting that they are meant to end.
use Rattle.std.proofs.Common.{◌≡◌, ℕ, Bool, true, false, ◌==◌, ◌&&◌, not, List, [], ◌∷◌, ◌++◌, refl, ap, sym, ◌∙◌, Option, Some, None, inl, inr, eq-eqb}
use Rattle.std.specs.List.{list_any}
use Rattle.std.specs.Option.{option_map_or}
use Rattle.std.specs.Prelude.{filter, find, fold, map, if◌then◌else◌}
use Rattle.std.proofs.lemmas.Bool.{cases_Bool, eqb-true, ne_eqb, false≢true, and_from, not_from_false, or_left, and_right}
use Rattle.std.proofs.lemmas.List.Elements.{All-push, All-filter}
use Rattle.std.proofs.lemmas.List.Kept.{AllPairs-filter}
use Rattle.std.proofs.lemmas.List.Quantifiers.{all_pairs_push}
use Rattle.fsa_types.specs.declared.request.Level.{Level}
use Rattle.fsa_types.specs.declared.status.Status.{Status}
use Rattle.fsa_types.specs.declared.status.Status.TheVariants.{OplockSwitchedToNewHandle}
use Rattle.fsa_types.specs.Oplocks.{is_same_key}
use Rattle.fsa_types.specs.Rows.{row_of}
use Rattle.fsa_model.specs.Coherence.{caches_reads, counts_on_reads, is_own, IsTied}
use Rattle.fsa_model.specs.Edits.{without_oplock}
use Rattle.fsa_model.specs.Grant.{is_oplock_on, is_of_key, with_call_ended, with_switched, switched, with_all_switched, with_oplock, with_granted, with_level_kept, oplock_of, call_of}
use Rattle.fsa_model.specs.Sound.{has_its_key}
use Rattle.fsa_model.specs.Volume.{Handle, Oplock, Volume}
use Rattle.fsa_model.specs.Waiting.{is_granted_under, with_oplock_given_up}
use Rattle.fsa_model.proofs.CoherenceBreaks.{find-passes, counts-held}
use Rattle.fsa_model.proofs.CoherenceLaws.{held_in, held-without, any_oplock}
use Rattle.fsa_model.proofs.CoherenceSteps.{KeepsBytes-comes, KeepsBytes}
use Rattle.fsa_model.proofs.CoherenceTied.{IsUntouched-same, IsUntouched-with_end, IsTied-alike, IsTied-oplocks, IsTied-without_oplock, differ-changed, keyed-changed, IsUntouched}
use Rattle.fsa_model.proofs.RowLaws.{option_cases, find-all, find-none, none-all}

-- ---- the oplocks of the key end

IsUntouched-call_ended : (v : Volume) (turn : Option ℕ) (status : Status) → IsUntouched v (with_call_ended v turn status)
IsUntouched-call_ended v None status = IsUntouched-same v
IsUntouched-call_ended v (Some turn) status = elim (option_cases (row_of v.pending turn)) [
  | inl none ↦ rw none (IsUntouched-same v)
  | inr some ↦ rw some.1 (IsUntouched-with_end v _ _ _)
]

-- the rest stays as it is
pub record Keeps (v w : Volume) : Type 0 where
  pub handles : w.handles ≡ v.handles
  pub streams : w.streams ≡ v.streams

Keeps-switched : (v : Volume) (oplock : Oplock) → Keeps v (with_switched v oplock)
Keeps-switched v oplock = (let alike : IsUntouched (without_oplock v oplock.handle) (with_switched v oplock) = IsUntouched-call_ended (without_oplock v oplock.handle) oplock.call OplockSwitchedToNewHandle in
    record { handles = alike.handles; streams = alike.streams })

pub Keeps-all : (oplocks : List Oplock) (v : Volume) → Keeps v (fold with_switched v oplocks)
Keeps-all [] v = record { handles = refl; streams = refl }
Keeps-all (o ∷ oplocks) v =
    let first : Keeps v (with_switched v o) = Keeps-switched v o in
    let rest : Keeps (with_switched v o) (fold with_switched (with_switched v o) oplocks) = Keeps-all oplocks (with_switched v o) in
    record { handles = rest.handles ∙ first.handles; streams = rest.streams ∙ first.streams }

IsTied-all : (oplocks : List Oplock) (v : Volume) → IsTied v → IsTied (fold with_switched v oplocks)
IsTied-all [] v tied = tied
IsTied-all (o ∷ oplocks) v tied =
    IsTied-all oplocks (with_switched v o) (IsTied-alike _ _ (IsUntouched-call_ended (without_oplock v o.handle) o.call OplockSwitchedToNewHandle) (IsTied-without_oplock v o.handle tied))

-- what a handle holds afterwards: nothing, or what it held
pub held-all : (oplocks : List Oplock) (v : Volume) (handle : ℕ)
    → held_in (fold with_switched v oplocks).oplocks handle ≡ (if list_any (λ o. o.handle == handle) oplocks then None else held_in v.oplocks handle)
held-all [] v handle = refl
held-all (o ∷ oplocks) v handle =
    let alike : IsUntouched (without_oplock v o.handle) (with_switched v o) = IsUntouched-call_ended (without_oplock v o.handle) o.call OplockSwitchedToNewHandle in
    let first : held_in (with_switched v o).oplocks handle ≡ (if o.handle == handle then None else held_in v.oplocks handle)
    = ap (λ os. held_in os handle) alike.oplocks ∙ held-without v.oplocks o.handle handle in
    held-all oplocks (with_switched v o) handle ∙ elim (cases_Bool (o.handle == handle)) [
      | inl here ↦ (let gone : held_in (with_switched v o).oplocks handle ≡ None = first ∙ rw here refl in
          rw (here, gone) (elim (cases_Bool (list_any (λ x. x.handle == handle) oplocks)) [ inl more ↦ rw more refl | inr no_more ↦ rw no_more refl ]))
      | inr other ↦ (let same : held_in (with_switched v o).oplocks handle ≡ held_in v.oplocks handle = first ∙ rw other refl in rw (other, same) refl)
    ]

-- whose key an oplock has
pub own-key : (v : Volume) (handle : ℕ) (oplock : Oplock) (acting : Option ℕ) (key : ℕ) → IsTied v → oplock_of v handle ≡ Some oplock
    → is_own v handle acting key ≡ is_same_key oplock.handle oplock.key acting key
own-key v handle oplock acting key tied found =
    let of_it : oplock.handle ≡ handle = eqb-true oplock.handle handle (find-passes (λ o. o.handle == handle) v.oplocks oplock found) in
    let keyed : has_its_key v.handles oplock ≡ true = find-all (λ o. has_its_key v.handles o ≡ true) (λ o. o.handle == handle) v.oplocks oplock found tied.oplocks_have_keys in
    elim (option_cases (row_of v.handles handle)) [
      | inl none ↦ absurd (false≢true (rw (of_it, none) at keyed))
      | inr some ↦ (let of_key : some.0.key ≡ oplock.key = eqb-true some.0.key oplock.key (rw (of_it, some.1) at keyed) in rw (some.1, of_key, of_it) refl)
    ]

same_key-itself : (handle key : ℕ) → is_same_key handle key (Some handle) key ≡ true
same_key-itself handle key = or_left (handle == handle) _ (eq-eqb handle handle refl)

-- the granted handle holds nothing before it is granted
pub held-granted : (v : Volume) (handle key stream : ℕ) (row : Handle) → IsTied v → row_of v.handles handle ≡ Some row → row.key ≡ key → row.stream ≡ Some stream
    → held_in (with_all_switched v handle key stream).oplocks handle ≡ None
held-granted v handle key stream row tied living of_key on_it =
    held-all (switched v handle key stream) v handle ∙ elim (option_cases (oplock_of v handle)) [
      | inl none ↦ (let nothing : held_in v.oplocks handle ≡ None = rw none refl in
          rw nothing (elim (cases_Bool (list_any (λ o. o.handle == handle) (switched v handle key stream))) [ inl more ↦ rw more refl | inr no_more ↦ rw no_more refl ]))
      | inr some ↦ (let of_it : some.0.handle ≡ handle = eqb-true some.0.handle handle (find-passes (λ o. o.handle == handle) v.oplocks some.0 some.1) in
          let on_stream : is_oplock_on v stream some.0 ≡ true = rw (of_it, living, on_it) (eq-eqb stream stream refl) in
          let own : is_own v handle (Some handle) key ≡ true = rw (living, of_key) (same_key-itself handle key) in
          let its_key : is_of_key handle key some.0 ≡ true = sym (own-key v handle some.0 (Some handle) key tied some.1) ∙ own in
          let there = any_oplock (λ o. is_oplock_on v stream o && is_of_key handle key o) v.oplocks handle some.0 tied.oplocks_differ some.1 ∙ and_from _ _ on_stream its_key in
          rw there refl)
    ]

held-none : (oplocks : List Oplock) (handle : ℕ) → held_in oplocks handle ≡ None → list_any (λ o. o.handle == handle) oplocks ≡ false
held-none oplocks handle none = find-none (λ (o : Oplock). o.handle == handle) oplocks (elim (option_cases (find (λ (o : Oplock). o.handle == handle) oplocks)) [
  | inl nothing ↦ nothing
  | inr some ↦ (let impossible : Some (some.0.level, some.0.target) ≡ None = rw some.1 at none in cc)
])

-- ---- a grant

pub IsTied-granted : (v : Volume) (handle key stream : ℕ) (row : Handle) (level : Level) (turn : ℕ) → row_of v.handles handle ≡ Some row → row.key ≡ key
    → row.stream ≡ Some stream → IsTied v → IsTied (with_granted v handle key stream level turn)
IsTied-granted v handle key stream row level turn living of_key on_it tied =
    let u : Volume = with_all_switched v handle key stream in
    let new : Oplock = record { handle = handle; key = key; level = level; target = None; number = 0; call = Some turn } in
    let broken : IsTied u = IsTied-all (switched v handle key stream) v tied in
    let kept : Keeps v u = Keeps-all (switched v handle key stream) v in
    let none : list_any (λ o. o.handle == handle) u.oplocks ≡ false = held-none u.oplocks handle (held-granted v handle key stream row tied living of_key on_it) in
    let its_key : has_its_key u.handles new ≡ true = rw (kept.handles, living) (eq-eqb row.key key of_key) in
    IsTied-oplocks u (with_oplock u handle key level turn) broken
    (all_pairs_push (λ a b. (a.handle == b.handle) ≡ false) u.oplocks new broken.oplocks_differ (none-all (λ o. o.handle == handle) u.oplocks none))
    (All-push (λ o. has_its_key u.handles o ≡ true) u.oplocks new broken.oplocks_have_keys its_key)

-- no bytes change
pub KeepsBytes-oplocks : (v w : Volume) (acting : Option ℕ) (key : ℕ) → IsTied v → w.handles ≡ v.handles → w.streams ≡ v.streams → KeepsBytes v acting key w
KeepsBytes-oplocks v w acting key tied handles streams = KeepsBytes-comes v w acting key tied (record {
  handles = λ handle row living. rw handles living;
  bytes = λ stream. rw streams refl;
})

pub KeepsBytes-granted : (v : Volume) (handle key stream : ℕ) (level : Level) (turn : ℕ) (acting : Option ℕ) (by : ℕ) → IsTied v
    → KeepsBytes v acting by (with_granted v handle key stream level turn)
KeepsBytes-granted v handle key stream level turn acting by tied =
    let kept : Keeps v (with_all_switched v handle key stream) = Keeps-all (switched v handle key stream) v in
    KeepsBytes-oplocks v _ acting by tied kept.handles kept.streams

-- ---- what ends

held-more : (oplocks more : List Oplock) (handle : ℕ) (held : Level × Option Level) → held_in oplocks handle ≡ Some held → held_in (oplocks ++ more) handle ≡ Some held
held-more [] more handle held found = cc
held-more (o ∷ oplocks) more handle held found = elim (cases_Bool (o.handle == handle)) [
  | inl here ↦ rw here (rw here at found)
  | inr other ↦ rw other (held-more oplocks more handle held (rw other at found))
]

-- a grant ends the counting of its own key alone
pub ends-granted : (v : Volume) (id key stream : ℕ) (level : Level) (turn handle : ℕ) → IsTied v → counts_on_reads v handle ≡ true
    → counts_on_reads (with_granted v id key stream level turn) handle ≡ false → is_own v handle (Some id) key ≡ true
ends-granted v id key stream level turn handle tied before after = elim (cases_Bool (is_own v handle (Some id) key)) [
  | inl own ↦ own
  | inr other ↦ elim (option_cases (oplock_of v handle)) [
    | inl none ↦ absurd (false≢true (rw none at before))
    | inr some ↦ (let u : Volume = with_all_switched v id key stream in
        let not_its : is_of_key id key some.0 ≡ false = sym (own-key v handle some.0 (Some id) key tied some.1) ∙ other in
        let stays : list_any (λ (o : Oplock). o.handle == handle) (switched v id key stream) ≡ false
        = any_oplock (λ o. is_oplock_on v stream o && is_of_key id key o) v.oplocks handle some.0 tied.oplocks_differ some.1 ∙ rw not_its (and_right _ false refl) in
        let held : held_in u.oplocks handle ≡ Some (some.0.level, some.0.target) = held-all (switched v id key stream) v handle ∙ rw (stays, some.1) refl in
        let still : counts_on_reads (with_granted v id key stream level turn) handle ≡ counts_on_reads v handle
        = counts-held (with_granted v id key stream level turn) handle ∙ rw (held-more u.oplocks _ handle (some.0.level, some.0.target) held, some.1) refl in
        absurd (false≢true (sym after ∙ still ∙ before)))
  ]
]

-- ---- an acknowledgement

pub IsTied-kept : (v : Volume) (handle : ℕ) (level : Level) (turn : ℕ) → IsTied v → IsTied (with_level_kept v handle level turn)
IsTied-kept v handle level turn tied =
    IsTied-oplocks v (with_level_kept v handle level turn) tied
    (differ-changed v.oplocks (λ o. record o { level = level; target = None; number = 0; call = Some turn }) handle (λ o. refl) tied.oplocks_differ)
    (keyed-changed v.handles v.oplocks (λ o. record o { level = level; target = None; number = 0; call = Some turn }) handle (λ o. refl) (λ o. refl) tied.oplocks_have_keys)

found-changed : (oplocks : List Oplock) (change : Oplock → Oplock) (at handle : ℕ) → ((o : Oplock) → (change o).handle ≡ o.handle) → (handle == at) ≡ false
    → find (λ o. o.handle == handle) (map (λ o. if o.handle == at then change o else o) oplocks) ≡ find (λ o. o.handle == handle) oplocks
found-changed [] change at handle same other = refl
found-changed (o ∷ oplocks) change at handle same other =
    let rest = found-changed oplocks change at handle same other in
    elim (cases_Bool (o.handle == at)) [
      | inl of_it ↦ (let is : o.handle ≡ at = eqb-true o.handle at of_it in
          let isnt : (o.handle == handle) ≡ false = ne_eqb o.handle handle (λ e. false≢true (sym other ∙ eq-eqb handle at (sym e ∙ is))) in
          rw (of_it, same o, isnt) rest)
      | inr of_another ↦ elim (cases_Bool (o.handle == handle)) [
        | inl here ↦ rw (of_another, here) refl
        | inr elsewhere ↦ rw (of_another, elsewhere) rest
      ]
    ]

-- it ends the counting of its handle alone
pub ends-kept : (v : Volume) (id : ℕ) (level : Level) (turn handle : ℕ) → counts_on_reads v handle ≡ true → counts_on_reads (with_level_kept v id level turn) handle ≡ false → handle ≡ id
ends-kept v id level turn handle before after = elim (cases_Bool (handle == id)) [
  | inl here ↦ eqb-true handle id here
  | inr other ↦ absurd (false≢true (sym after
      ∙ ap (λ found. option_map_or caches_reads found false) (found-changed v.oplocks (λ o. record o { level = level; target = None; number = 0; call = Some turn }) id handle (λ o. refl) other) ∙ before))
]

found-without : (keep : Oplock → Bool) (oplocks : List Oplock) (handle : ℕ) (oplock : Oplock) → find (λ o. o.handle == handle) oplocks ≡ Some oplock → keep oplock ≡ true
    → find (λ o. o.handle == handle) (filter keep oplocks) ≡ Some oplock
found-without keep [] handle oplock found kept = cc
found-without keep (o ∷ oplocks) handle oplock found kept = elim (cases_Bool (o.handle == handle)) [
  | inl here ↦ (let is : Some o ≡ Some oplock = rw here at found in let same : o ≡ oplock = cc in
      let stays : keep o ≡ true = ap keep same ∙ kept in rw (stays, here, same) refl)
  | inr other ↦ (let rest = found-without keep oplocks handle oplock (rw other at found) kept in elim (cases_Bool (keep o)) [
    | inl stays ↦ rw (stays, other) rest
    | inr goes ↦ rw goes rest
  ])
]

pub ends-without : (v : Volume) (id handle : ℕ) → counts_on_reads v handle ≡ true → counts_on_reads (without_oplock v id) handle ≡ false → handle ≡ id
ends-without v id handle before after = elim (cases_Bool (handle == id)) [
  | inl here ↦ eqb-true handle id here
  | inr other ↦ elim (option_cases (oplock_of v handle)) [
    | inl none ↦ absurd (false≢true (rw none at before))
    | inr some ↦ (let of_it : some.0.handle ≡ handle = eqb-true some.0.handle handle (find-passes (λ o. o.handle == handle) v.oplocks some.0 some.1) in
        let stays = found-without (λ o. not (o.handle == id)) v.oplocks handle some.0 some.1 (rw of_it (not_from_false _ other)) in
        absurd (false≢true (sym after ∙ ap (λ found. option_map_or caches_reads found false) (stays ∙ sym some.1) ∙ before)))
  ]
]

-- ---- giving up

pub IsTied-given_up : (v : Volume) (turn : ℕ) → IsTied v → IsTied (with_oplock_given_up v turn)
IsTied-given_up v turn tied =
    IsTied-oplocks v (with_oplock_given_up v turn) tied
    (AllPairs-filter (λ a b. (a.handle == b.handle) ≡ false) (λ (o : Oplock). not (is_granted_under turn o)) v.oplocks tied.oplocks_differ)
    (All-filter (λ (o : Oplock). not (is_granted_under turn o)) (λ o. has_its_key v.handles o ≡ true) v.oplocks tied.oplocks_have_keys)

-- it ends the counting of whose call is cancelled
pub ends-given_up : (v : Volume) (turn handle : ℕ) → counts_on_reads v handle ≡ true → counts_on_reads (with_oplock_given_up v turn) handle ≡ false → call_of v handle ≡ Some turn
ends-given_up v turn handle before after = elim (option_cases (oplock_of v handle)) [
  | inl none ↦ absurd (false≢true (rw none at before))
  | inr some ↦ elim (cases_Bool (is_granted_under turn some.0)) [
    | inl of_it ↦ elim (option_cases some.0.call) [
      | inl no_call ↦ absurd (false≢true (rw no_call at of_it))
      | inr call ↦ (let is : call.0 ≡ turn = eqb-true call.0 turn (rw call.1 at of_it) in rw some.1 (call.1 ∙ ap (λ t. Some t) is))
    ]
    | inr of_another ↦ (let stays = found-without (λ o. not (is_granted_under turn o)) v.oplocks handle some.0 some.1 (not_from_false _ of_another) in
        absurd (false≢true (sym after ∙ ap (λ found. option_map_or caches_reads found false) (stays ∙ sym some.1) ∙ before)))
  ]
]
