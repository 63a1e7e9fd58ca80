-- What breaks of oplocks leave as it was, how many numbers they take, and that they leave a volume sound.
use Rattle.std.proofs.Common.{◌≡◌, ℕ, suc, Bool, true, false, ◌+◌, ◌^◌, ◌<◌, ◌≤◌, ◌==◌, ◌&&◌, not, List, [], ◌∷◌, length, get_or, refl, ap, sym, subst, ◌∙◌, arith, Option, Some, None, inl, inr}
use Rattle.std.specs.Prelude.{filter, fold, map, is_some, All, if◌then◌else◌}
use Rattle.std.proofs.lemmas.Bool.{cases_Bool}
use Rattle.std.proofs.lemmas.List.{length-map}
use Rattle.std.proofs.lemmas.List.Elements.{All-map, All-filter}
use Rattle.std.proofs.lemmas.List.Kept.{AllPairs-filter}
use Rattle.fsa_types.proofs.OplockLemmas.{AreOplocks-effect, CanHave-effect, IsCopy-effect, chosen-are}
use Rattle.fsa_types.proofs.RowLemmas.{length-filter_le}
use Rattle.fsa_types.specs.OplockLists.{OplockState, break_begun, lowered, left_by_effect, last_by, after_effect, effect_on, after_breaks, IsSoundOplock, CanHave, IsCopy}
use Rattle.fsa_types.specs.OplockLists.{number_of_break}
use Rattle.fsa_types.specs.Oplocks.{Effect, Stays, Ends, Begins, Lowers, effect, is_awaited}
use Rattle.fsa_types.specs.Rows.{row_of}
use Rattle.fsa_types.specs.Sorting.{put_in_order, in_order}
use Rattle.fsa_types.specs.declared.oplock.Class.{Class}
use Rattle.fsa_types.specs.declared.oplock.HandleSet.{HandleSet}
use Rattle.fsa_types.specs.declared.request.Level.{Level}
use Rattle.fsa_types.specs.declared.request.Level.TheVariants.{Nil}
use Rattle.fsa_types.specs.declared.reply.Reply.{Reply}
use Rattle.fsa_model.specs.Breaks.{with_told, with_told_by, oplocks_of, with_oplocks, with_break_begun, with_effect, with_breaks, is_broken_before, is_chosen, is_told, chosen, told, awaited}
use Rattle.fsa_model.specs.Edits.{is_call, with_end, without_oplock}
use Rattle.fsa_model.specs.Sound.{IsGiven, IsSound, has_its_key}
use Rattle.fsa_model.specs.Volume.{Handle, Oplock, Pending, Volume}
use Rattle.fsa_model.proofs.RowLaws.{option_cases}
use Rattle.fsa_model.proofs.SoundWaits.{touched, IsSound-touched, blockers-later}

-- the number of the break in progress on a handle
abbrev pub break_of : Volume → ℕ → ℕ
break_of v handle = number_of_break v.oplocks handle

pub touched-told : (v : Volume) (turn : Option ℕ) (level : Level) (ack : Bool) → with_told v turn level ack ≡ touched v (with_told v turn level ack)
touched-told v None level ack = refl
touched-told v (Some turn) level ack = elim (option_cases (row_of v.pending turn)) [ inl none ↦ rw none refl | inr some ↦ rw some.1 refl ]

pub told-oplocks : (v : Volume) (turn : Option ℕ) (level : Level) (ack : Bool) → (with_told v turn level ack).oplocks ≡ v.oplocks
told-oplocks v None level ack = refl
told-oplocks v (Some turn) level ack = elim (option_cases (row_of v.pending turn)) [ inl none ↦ rw none refl | inr some ↦ rw some.1 refl ]

pub told-last_break : (v : Volume) (turn : Option ℕ) (level : Level) (ack : Bool) → (with_told v turn level ack).last_break ≡ v.last_break
told-last_break v None level ack = refl
told-last_break v (Some turn) level ack = elim (option_cases (row_of v.pending turn)) [ inl none ↦ rw none refl | inr some ↦ rw some.1 refl ]

touched-next : (u v w : Volume) → v ≡ touched u v → w ≡ touched v w → w ≡ touched u w
touched-next u v w first second = second ∙ ap (λ x. touched x w) first

touched-effect : (v : Volume) (oplock : Oplock) (done : Effect) → with_effect v oplock done ≡ touched v (with_effect v oplock done)
touched-effect v oplock Stays = refl
touched-effect v oplock Ends =
    touched-next v (without_oplock v oplock.handle) (with_effect v oplock Ends) refl (touched-told (without_oplock v oplock.handle) oplock.call Nil false)
touched-effect v oplock (Begins level) =
    touched-next v (with_break_begun v oplock.handle level) (with_effect v oplock (Begins level)) refl (touched-told (with_break_begun v oplock.handle level) oplock.call level true)
touched-effect v oplock (Lowers level) = refl

few-effect : (v : Volume) (oplock : Oplock) (done : Effect) → length (with_effect v oplock done).oplocks ≤ length v.oplocks
few-effect v oplock Stays = omega arith
few-effect v oplock Ends =
    let same = ap (λ (oplocks : List Oplock). length oplocks) (told-oplocks (without_oplock v oplock.handle) oplock.call Nil false) in
    let kept = length-filter_le (λ (o : Oplock). not (o.handle == oplock.handle)) v.oplocks in
    omega arith
few-effect v oplock (Begins level) =
    let change : Oplock → Oplock = λ o. if o.handle == oplock.handle then record o { target = Some level; number = v.last_break + 1; call = None } else o in
    let same = ap (λ (oplocks : List Oplock). length oplocks) (told-oplocks (with_break_begun v oplock.handle level) oplock.call level true) in
    let as_many = length-map v.oplocks change in
    omega arith
few-effect v oplock (Lowers level) =
    let change : Oplock → Oplock = λ o. if o.handle == oplock.handle then record o { target = Some level } else o in
    let as_many = length-map v.oplocks change in
    omega arith

numbers-effect : (v : Volume) (oplock : Oplock) (done : Effect) → (with_effect v oplock done).last_break ≤ v.last_break + 1
numbers-effect v oplock Stays = omega arith
numbers-effect v oplock Ends = (let same = told-last_break (without_oplock v oplock.handle) oplock.call Nil false in omega arith)
numbers-effect v oplock (Begins level) = (let same = told-last_break (with_break_begun v oplock.handle level) oplock.call level true in omega arith)
numbers-effect v oplock (Lowers level) = omega arith

-- all of it, oplock by oplock
abbrev pub broken : Class → Volume → List Oplock → Volume
broken kind v oplocks = fold (λ w oplock. with_effect w oplock (effect kind oplock.level oplock.target)) v oplocks

touched-broken : (kind : Class) (v : Volume) (oplocks : List Oplock) → broken kind v oplocks ≡ touched v (broken kind v oplocks)
touched-broken kind v [] = refl
touched-broken kind v (oplock ∷ oplocks) =
    let next : Volume = with_effect v oplock (effect kind oplock.level oplock.target) in
    touched-next v next (broken kind next oplocks) (touched-effect v oplock (effect kind oplock.level oplock.target)) (touched-broken kind next oplocks)

few-broken : (kind : Class) (v : Volume) (oplocks : List Oplock) → length (broken kind v oplocks).oplocks ≤ length v.oplocks
few-broken kind v [] = omega arith
few-broken kind v (oplock ∷ oplocks) =
    let next : Volume = with_effect v oplock (effect kind oplock.level oplock.target) in
    let one = few-effect v oplock (effect kind oplock.level oplock.target) in
    let rest = few-broken kind next oplocks in
    omega arith

numbers-broken : (kind : Class) (v : Volume) (oplocks : List Oplock) → (broken kind v oplocks).last_break ≤ v.last_break + length oplocks
numbers-broken kind v [] = omega arith
numbers-broken kind v (oplock ∷ oplocks) =
    let next : Volume = with_effect v oplock (effect kind oplock.level oplock.target) in
    let one = numbers-effect v oplock (effect kind oplock.level oplock.target) in
    let rest = numbers-broken kind next oplocks in
    omega arith

length-put_in_order : {T : Type 0} (before : T → T → Bool) (item : T) (items : List T) → length (put_in_order before item items) ≡ length items + 1
length-put_in_order before item [] = refl
length-put_in_order before item (first ∷ items) =
    elim (cases_Bool (before item first)) [
      | inl here ↦ rw here (omega arith)
      | inr later ↦ (let rest = length-put_in_order before item items in rw later (omega arith))
    ]

length-in_order : {T : Type 0} (before : T → T → Bool) (items : List T) → length (in_order before items) ≡ length items
length-in_order before [] = refl
length-in_order before (item ∷ items) = (let rest = length-in_order before items in let one = length-put_in_order before item (in_order before items) in omega arith)

-- breaks leave all but the oplocks, the pending calls, the ends and the last number
pub with_breaks-rest : (v : Volume) (on : HandleSet) (kind : Class) (acting : Option ℕ) (key : ℕ) → with_breaks v on kind acting key ≡ touched v (with_breaks v on kind acting key)
with_breaks-rest v on kind acting key = touched-broken kind v (chosen v on acting key)

-- no oplock comes to those that are there
pub with_breaks-few : (v : Volume) (on : HandleSet) (kind : Class) (acting : Option ℕ) (key : ℕ) → length (with_breaks v on kind acting key).oplocks ≤ length v.oplocks
with_breaks-few v on kind acting key = few-broken kind v (chosen v on acting key)

-- at most one number for each oplock is taken
pub with_breaks-numbers : (v : Volume) (on : HandleSet) (kind : Class) (acting : Option ℕ) (key : ℕ) → (with_breaks v on kind acting key).last_break ≤ v.last_break + length v.oplocks
with_breaks-numbers v on kind acting key =
    let numbers = numbers-broken kind v (chosen v on acting key) in
    let ordered = length-in_order (is_broken_before v) (filter (is_chosen v on acting key) v.oplocks) in
    let kept = length-filter_le (is_chosen v on acting key) v.oplocks in
    omega arith

-- at most as many oplocks are chosen as there are, and so calls told and breaks awaited
pub chosen-few : (v : Volume) (on : HandleSet) (acting : Option ℕ) (key : ℕ) → length (chosen v on acting key) ≤ length v.oplocks
chosen-few v on acting key =
    let ordered = length-in_order (is_broken_before v) (filter (is_chosen v on acting key) v.oplocks) in
    let kept = length-filter_le (is_chosen v on acting key) v.oplocks in
    omega arith

pub told-few : (v : Volume) (on : HandleSet) (kind : Class) (acting : Option ℕ) (key : ℕ) → length (told v on kind acting key) ≤ length v.oplocks
told-few v on kind acting key =
    let few = chosen-few v on acting key in
    let kept = length-filter_le (λ (oplock : Oplock). is_told (effect kind oplock.level oplock.target) && is_some oplock.call) (chosen v on acting key) in
    omega arith

pub awaited-few : (v : Volume) (on : HandleSet) (kind : Class) (acting : Option ℕ) (key : ℕ) → length (awaited v on kind acting key) ≤ length v.oplocks
awaited-few v on kind acting key =
    let waits : Oplock → Bool = λ oplock. is_awaited kind oplock.level oplock.target in
    let few = chosen-few v on acting key in
    let kept = length-filter_le waits (chosen v on acting key) in
    let as_many = length-map (filter waits (chosen v on acting key)) (λ oplock. break_of (with_breaks v on kind acting key) oplock.handle) in
    omega arith

-- ---- breaks of lists

-- telling leaves the oplocks
oplocks-told : (v : Volume) (turn : Option ℕ) (level : Level) (ack : Bool) → oplocks_of (with_told v turn level ack) ≡ oplocks_of v
oplocks-told v None level ack = refl
oplocks-told v (Some turn) level ack = elim (option_cases (row_of v.pending turn)) [ inl none ↦ rw none refl | inr some ↦ rw some.1 refl ]

oplocks-told_by : (v : Volume) (turn : Option ℕ) (done : Effect) → oplocks_of (with_told_by v turn done) ≡ oplocks_of v
oplocks-told_by v turn Stays = refl
oplocks-told_by v turn Ends = oplocks-told v turn Nil false
oplocks-told_by v turn (Begins level) = oplocks-told v turn level true
oplocks-told_by v turn (Lowers level) = refl

pub oplocks-effect : (v : Volume) (oplock : Oplock) (done : Effect) → oplocks_of (with_effect v oplock done) ≡ after_effect done oplock.handle (oplocks_of v)
oplocks-effect v oplock done = oplocks-told_by (with_oplocks v (after_effect done oplock.handle (oplocks_of v))) oplock.call done

pub oplocks-broken : (kind : Class) (v : Volume) (oplocks : List Oplock) → oplocks_of (broken kind v oplocks) ≡ after_breaks kind (oplocks_of v) oplocks
oplocks-broken kind v [] = refl
oplocks-broken kind v (oplock ∷ oplocks) =
    oplocks-broken kind (with_effect v oplock (effect_on kind oplock)) oplocks
    ∙ ap (λ (held : OplockState). after_breaks kind held oplocks) (oplocks-effect v oplock (effect_on kind oplock))

-- what breaks leave of the oplocks is what they leave of the list of them
pub with_breaks-oplocks : (v : Volume) (on : HandleSet) (kind : Class) (acting : Option ℕ) (key : ℕ)
    → oplocks_of (with_breaks v on kind acting key) ≡ after_breaks kind (oplocks_of v) (chosen v on acting key)
with_breaks-oplocks v on kind acting key = oplocks-broken kind v (chosen v on acting key)

-- ---- soundness

-- a call that ends is pending no more
pub IsSound-with_end : (v : Volume) (client number : ℕ) (reply : Reply) → IsSound v → IsSound (with_end v client number reply)
IsSound-with_end v client number reply sound =
    let stays : ℕ × Pending → Bool = λ entry. not (is_call client number entry.1) in
    IsSound-touched v (with_end v client number reply) sound
    (record {
      differ = AllPairs-filter (λ a b. is_call b.1.call.client b.1.call.number a.1 ≡ false) stays v.pending sound.pending.differ;
      turns_differ = AllPairs-filter (λ a b. (a.0 == b.0) ≡ false) stays v.pending sound.pending.turns_differ;
      have_clients = All-filter stays (λ entry. entry.1.call.client < length v.clients) v.pending sound.pending.have_clients;
    })
    (All-filter stays (λ entry. All (IsGiven v.last_lock v.last_break) entry.1.blockers) v.pending sound.blockers_given)
    sound.of_handles.oplocks_have_keys sound.oplocks sound.bounded.breaks

IsSound-with_told : (v : Volume) (turn : Option ℕ) (level : Level) (ack : Bool) → IsSound v → IsSound (with_told v turn level ack)
IsSound-with_told v None level ack sound = sound
IsSound-with_told v (Some turn) level ack sound =
    elim (option_cases (row_of v.pending turn)) [
      | inl none ↦ rw none sound
      | inr some ↦ rw some.1 (IsSound-with_end v _ _ _ sound)
    ]

IsSound-with_told_by : (v : Volume) (turn : Option ℕ) (done : Effect) → IsSound v → IsSound (with_told_by v turn done)
IsSound-with_told_by v turn Stays sound = sound
IsSound-with_told_by v turn Ends sound = IsSound-with_told v turn Nil false sound
IsSound-with_told_by v turn (Begins level) sound = IsSound-with_told v turn level true sound
IsSound-with_told_by v turn (Lowers level) sound = sound

-- the number of the last break that began
last-left : (done : Effect) (last : ℕ) → (last ≤ last_by done last) × (last_by done last ≤ last + 1)
last-left Stays last = (omega arith, omega arith)
last-left Ends last = (omega arith, omega arith)
last-left (Begins level) last = (omega arith, omega arith)
last-left (Lowers level) last = (omega arith, omega arith)

-- oplocks that are changed are of the handles that they were of, and of their keys
keys-changed : (handles : List (ℕ × Handle)) (change : Oplock → Oplock) (oplocks : List Oplock)
    → ((oplock : Oplock) → has_its_key handles (change oplock) ≡ has_its_key handles oplock)
    → All (λ oplock. has_its_key handles oplock ≡ true) oplocks → All (λ oplock. has_its_key handles oplock ≡ true) (map change oplocks)
keys-changed handles change oplocks same keys =
    All-map (λ oplock. has_its_key handles oplock ≡ true) change oplocks (λ k d within. same (get_or oplocks k d) ∙ keys k d within)

keys-left : (handles : List (ℕ × Handle)) (done : Effect) (handle number : ℕ) (oplocks : List Oplock)
    → All (λ oplock. has_its_key handles oplock ≡ true) oplocks → All (λ oplock. has_its_key handles oplock ≡ true) (left_by_effect done handle number oplocks)
keys-left handles Stays handle number oplocks keys = keys
keys-left handles Ends handle number oplocks keys = All-filter (λ (o : Oplock). not (o.handle == handle)) (λ o. has_its_key handles o ≡ true) oplocks keys
keys-left handles (Begins level) handle number oplocks keys =
    keys-changed handles (break_begun handle level number) oplocks (λ o. elim (cases_Bool (o.handle == handle)) [ inl here ↦ rw here refl | inr other ↦ rw other refl ]) keys
keys-left handles (Lowers level) handle number oplocks keys =
    keys-changed handles (lowered handle level) oplocks (λ o. elim (cases_Bool (o.handle == handle)) [ inl here ↦ rw here refl | inr other ↦ rw other refl ]) keys

IsSound-left : (v : Volume) (done : Effect) (handle : ℕ) → v.last_break + 1 < 2 ^ 64 → CanHave done handle v.oplocks → IsSound v
    → IsSound (with_oplocks v (after_effect done handle (oplocks_of v)))
IsSound-left v done handle below can sound =
    let last = last-left done v.last_break in
    IsSound-touched v (with_oplocks v (after_effect done handle (oplocks_of v))) sound sound.pending
    (blockers-later v.pending v.last_lock v.last_lock v.last_break (last_by done v.last_break) (omega arith) last.0 sound.blockers_given)
    (keys-left v.handles done handle (v.last_break + 1) v.oplocks sound.of_handles.oplocks_have_keys)
    (AreOplocks-effect done handle (oplocks_of v) can sound.oplocks)
    (let most = last.1 in omega arith)

-- an effect that can be had leaves a volume sound
pub IsSound-with_effect : (v : Volume) (oplock : Oplock) (done : Effect) → v.last_break + 1 < 2 ^ 64 → CanHave done oplock.handle v.oplocks → IsSound v
    → IsSound (with_effect v oplock done)
IsSound-with_effect v oplock done below can sound =
    IsSound-with_told_by (with_oplocks v (after_effect done oplock.handle (oplocks_of v))) oplock.call done (IsSound-left v done oplock.handle below can sound)

IsSound-broken : (kind : Class) (v : Volume) (oplocks : List Oplock) → v.last_break + length oplocks < 2 ^ 64 → All IsSoundOplock oplocks → All (IsCopy v.oplocks) oplocks
    → IsSound v → IsSound (broken kind v oplocks)
IsSound-broken kind v [] below each copies sound = sound
IsSound-broken kind v (oplock ∷ oplocks) below each copies sound =
    let done : Effect = effect_on kind oplock in
    let one = numbers-effect v oplock done in
    IsSound-broken kind (with_effect v oplock done) oplocks (omega arith)
    (λ k d within. each (suc k) d (omega arith))
    (λ k d within. subst (λ (held : OplockState). IsCopy held.oplocks (get_or oplocks k d)) (sym (oplocks-effect v oplock done))
    (IsCopy-effect done oplock.handle (oplocks_of v) (get_or oplocks k d) (copies (suc k) d (omega arith))))
    (IsSound-with_effect v oplock done (omega arith) (CanHave-effect kind oplock v.oplocks (each 0 oplock (omega arith)) (copies 0 oplock (omega arith))) sound)

-- breaks leave a volume sound where numbers for them are left
pub IsSound-with_breaks : (v : Volume) (on : HandleSet) (kind : Class) (acting : Option ℕ) (key : ℕ) → v.last_break + length v.oplocks < 2 ^ 64 → IsSound v → IsSound (with_breaks v on kind acting key)
IsSound-with_breaks v on kind acting key below sound =
    let few = chosen-few v on acting key in
    let are = chosen-are (is_broken_before v) (is_chosen v on acting key) v.oplocks v.last_break sound.oplocks in
    IsSound-broken kind v (chosen v on acting key) (omega arith) are.0 are.1 sound
