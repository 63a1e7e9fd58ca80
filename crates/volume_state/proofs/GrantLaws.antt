-- A grant of an oplock and an answer to a break leave a volume sound, and what calls wait for.
use Rattle.std.proofs.Common.{◌≡◌, ℕ, ◌≤◌, Bool, true, false, not, List, [], ◌∷◌, length, get_or, refl, ap, sym, ◌∙◌, inl, inr, ◌⊎◌, Option, Some, None}
use Rattle.std.specs.List.{list_any, All}
use Rattle.std.specs.Option.{option_map_or}
use Rattle.std.specs.Prelude.{◌==◌, ◌&&◌, ◌||◌, fold, map}
use Rattle.std.proofs.lemmas.Bool.{cases_Bool, eq-eqb, eqb-true, both_ways}
use Rattle.std.proofs.lemmas.List.Elements.{All-filter, All-map, All-push}
use Rattle.std.proofs.lemmas.List.Folds.{list_any-append}
use Rattle.fsa_types.proofs.OplockLemmas.{AreOplocks-push}
use Rattle.fsa_types.proofs.RowLemmas.{length-filter_le}
use Rattle.fsa_types.specs.OplockGrants.{after_answer, after_grant, after_switches, as_answered, as_granted}
use Rattle.fsa_types.specs.OplockLists.{AreOplocks, without_oplock_of}
use Rattle.fsa_types.specs.Oplocks.{has_read}
use Rattle.fsa_types.specs.Rows.{row_of}
use Rattle.fsa_types.specs.declared.reply.Blocker.{Blocker}
use Rattle.fsa_types.specs.declared.reply.Blocker.TheVariants.{Break, Lock as LockOf}
use Rattle.fsa_types.specs.declared.reply.EndOf.{EndOf}
use Rattle.fsa_types.specs.declared.request.Level.{Level}
use Rattle.fsa_types.specs.declared.status.Status.{Status}
use Rattle.fsa_types.specs.declared.status.Status.TheVariants.{OplockSwitchedToNewHandle}
use Rattle.fsa_model.specs.Edits.{without_oplock}
use Rattle.fsa_model.specs.Grant.{is_breaking_on, is_not_granted, is_of_key, is_oplock_on, switched, with_all_switched, with_answer, with_call_ended, with_granted, with_oplock, with_switched}
use Rattle.fsa_model.specs.Lookups.{is_open_on}
use Rattle.fsa_model.specs.Sound.{IsSound, has_its_key}
use Rattle.fsa_model.specs.Volume.{Handle, Lock, Oplock, Pending, Volume}
use Rattle.fsa_model.specs.Waiting.{blocker_lives, is_breaking}
use Rattle.fsa_model.proofs.BreakLaws.{IsSound-with_end}
use Rattle.fsa_model.proofs.GrantLaws.{all_switched, lives-granted, oplocks-call_ended, old-switched}
use Rattle.fsa_model.proofs.RowLaws.{option_cases, or-false}
use Rattle.fsa_model.proofs.SoundWaits.{IsSound-touched, IsSound-without_oplock}
use Rattle.volume_breaks.proofs.GrantLemmas.{AreOplocks-after_answer, NoneOf, none-left}
use Rattle.volume_breaks.proofs.ReleaseLemmas.{held-equal}
use Rattle.volume_breaks.proofs.ToldLemmas.{switches-apart}
use Rattle.volume_breaks.specs.Breaks.{with_calls, with_switch_told}
use Rattle.volume_breaks.specs.Calls.{AreHeld, Calls, LoseBlockers, is_break_of}
use Rattle.volume_state.specs.Held.{is_there}
use Rattle.volume_state.specs.OplockOutcome.{key_of_handle}
use Rattle.volume_state.specs.Room.{stream_of_handle}
use Rattle.volume_state.proofs.ThereLaws.{gone-with, one-break}

-- ---- a grant

-- at most as many oplocks are switched as there are
pub switched-few : (v : Volume) (handle key stream : ℕ) → length (switched v handle key stream) ≤ length v.oplocks
switched-few v handle key stream = length-filter_le (λ (o : Oplock). is_oplock_on v stream o && is_of_key handle key o) v.oplocks

IsSound-call_ended : (v : Volume) (turn : Option ℕ) (status : Status) → IsSound v → IsSound (with_call_ended v turn status)
IsSound-call_ended v None status sound = sound
IsSound-call_ended v (Some turn) status sound = elim (option_cases (row_of v.pending turn)) [
  | inl none ↦ rw none sound
  | inr some ↦ rw some.1 (IsSound-with_end v _ _ _ sound)
]

IsSound-switched : (oplocks : List Oplock) (v : Volume) → IsSound v → IsSound (all_switched v oplocks)
IsSound-switched [] v sound = sound
IsSound-switched (o ∷ oplocks) v sound =
    IsSound-switched oplocks (with_switched v o) (IsSound-call_ended (without_oplock v o.handle) o.call OplockSwitchedToNewHandle (IsSound-without_oplock v o.handle sound))

handles-call_ended : (v : Volume) (turn : Option ℕ) (status : Status) → (with_call_ended v turn status).handles ≡ v.handles
handles-call_ended v None status = refl
handles-call_ended v (Some turn) status = elim (option_cases (row_of v.pending turn)) [ inl none ↦ rw none refl | inr some ↦ rw some.1 refl ]

handles-switched : (oplocks : List Oplock) (v : Volume) → (all_switched v oplocks).handles ≡ v.handles
handles-switched [] v = refl
handles-switched (o ∷ oplocks) v = handles-switched oplocks (with_switched v o) ∙ handles-call_ended (without_oplock v o.handle) o.call OplockSwitchedToNewHandle

-- what switches leave of the oplocks is what they leave of the list of them
oplocks-switched : (oplocks : List Oplock) (v : Volume) → (all_switched v oplocks).oplocks ≡ after_switches v.oplocks oplocks
oplocks-switched [] v = refl
oplocks-switched (o ∷ oplocks) v =
    oplocks-switched oplocks (with_switched v o)
    ∙ ap (λ (now : List Oplock). after_switches now oplocks) (oplocks-call_ended (without_oplock v o.handle) o.call OplockSwitchedToNewHandle)

-- a handle of a stream is on it
is-on : (v : Volume) (handle stream : ℕ) → stream_of_handle v handle ≡ Some stream → option_map_or (is_open_on stream) (row_of v.handles handle) false ≡ true
is-on v handle stream found = elim (option_cases (row_of v.handles handle)) [
  | inl none ↦ (let impossible : None ≡ Some stream = rw none at found in cc)
  | inr some ↦ (let its : some.0.stream ≡ Some stream = rw some.1 at found in rw (some.1, its) (eq-eqb stream stream refl))
]

-- the handle that is granted an oplock has none any more
pub none-of : (v : Volume) (handle key stream : ℕ) → stream_of_handle v handle ≡ Some stream → NoneOf handle (after_switches v.oplocks (switched v handle key stream))
none-of v handle key stream found = none-left (is_oplock_on v stream) handle key v.oplocks (λ o is. (let same : o.handle ≡ handle = eqb-true o.handle handle is in rw same (is-on v handle stream found)))

-- an oplock of a handle with this key has its handle's key
has-key : (v : Volume) (handle stream : ℕ) (level : Level) (turn : ℕ) → stream_of_handle v handle ≡ Some stream → has_its_key v.handles (as_granted handle (key_of_handle v handle) level turn) ≡ true
has-key v handle stream level turn found = elim (option_cases (row_of v.handles handle)) [
  | inl none ↦ (let impossible : None ≡ Some stream = rw none at found in cc)
  | inr some ↦ rw some.1 (eq-eqb some.0.key some.0.key refl)
]

IsSound-more : (v : Volume) (handle key : ℕ) (level : Level) (turn : ℕ) → IsSound v → NoneOf handle v.oplocks → has_its_key v.handles (as_granted handle key level turn) ≡ true
    → IsSound (with_oplock v handle key level turn)
IsSound-more v handle key level turn sound none has =
    IsSound-touched v (with_oplock v handle key level turn) sound sound.pending sound.blockers_given
    (All-push (λ o. has_its_key v.handles o ≡ true) v.oplocks (as_granted handle key level turn) sound.of_handles.oplocks_have_keys has)
    (AreOplocks-push v.oplocks v.last_break handle key level turn sound.oplocks none) sound.bounded.breaks

pub IsSound-with_granted : (v : Volume) (handle key stream : ℕ) (level : Level) (turn : ℕ) → IsSound v → stream_of_handle v handle ≡ Some stream → key ≡ key_of_handle v handle
    → IsSound (with_granted v handle key stream level turn)
IsSound-with_granted v handle key stream level turn sound found is_key =
    let w : Volume = with_all_switched v handle key stream in
    let none : NoneOf handle w.oplocks = rw (oplocks-switched (switched v handle key stream) v) (none-of v handle key stream found) in
    let its : has_its_key v.handles (as_granted handle key level turn) ≡ true = rw is_key (has-key v handle stream level turn found) in
    let has : has_its_key w.handles (as_granted handle key level turn) ≡ true = rw (handles-switched (switched v handle key stream) v) its in
    IsSound-more w handle key level turn (IsSound-switched (switched v handle key stream) v sound) none has

-- where the calls of those that are switched have ended, what the list of oplocks comes to is what the grant does
pub granted-content : (v : Volume) (handle key stream : ℕ) (level : Level) (turn : ℕ) (pending : List (ℕ × Pending)) (ended : List EndOf)
    → ((w : Volume) → with_calls w pending ended ≡ fold with_switch_told (with_calls w v.pending v.ended) (switched v handle key stream))
    → record v { oplocks = after_grant (is_oplock_on v stream) handle key level turn v.oplocks; pending = pending; ended = ended } ≡ with_granted v handle key stream level turn
granted-content v handle key stream level turn pending ended done =
    ap (λ (w : Volume). with_oplock w handle key level turn)
    (done (record v { oplocks = after_switches v.oplocks (switched v handle key stream) }) ∙ sym (switches-apart (switched v handle key stream) v))

-- no break is in progress on the stream where an oplock is granted
pub none-breaking : (v : Volume) (handle key stream : ℕ) (level : Level) → is_not_granted v handle key stream level ≡ false → is_breaking_on v stream ≡ false
none-breaking v handle key stream level free = elim (cases_Bool (is_breaking_on v stream)) [
  | inl is ↦ (let impossible : true ≡ false = rw is at free in cc)
  | inr none ↦ none
]

-- what lives stays, and nothing comes to live
lives-alike : (v : Volume) (handle key stream : ℕ) (level : Level) (turn : ℕ) (b : Blocker) → is_breaking_on v stream ≡ false
    → blocker_lives v b ≡ blocker_lives (with_granted v handle key stream level turn) b
lives-alike v handle key stream level turn b none = elim (cases_Bool (blocker_lives v b)) [
  | inl there ↦ there ∙ sym (lives-granted v handle key stream level turn b none there)
  | inr gone ↦ gone ∙ sym (still b gone (cases_Bool (blocker_lives (with_granted v handle key stream level turn) b)))
]
  where
    w : Volume
    w = with_all_switched v handle key stream

    before : (b : Blocker) → blocker_lives (with_granted v handle key stream level turn) b ≡ true → blocker_lives w b ≡ true
    before (LockOf number) there = there
    before (Break number) there = sym (or-false (list_any (is_breaking number) w.oplocks)) ∙ sym (list_any-append (is_breaking number) w.oplocks (as_granted handle key level turn ∷ [])) ∙ there

    still : (b : Blocker) → blocker_lives v b ≡ false → (blocker_lives (with_granted v handle key stream level turn) b ≡ true) ⊎ (blocker_lives (with_granted v handle key stream level turn) b ≡ false)
        → blocker_lives (with_granted v handle key stream level turn) b ≡ false
    still b gone (inr is) = is
    still b gone (inl there) = absurd (both_ways _ gone (old-switched (switched v handle key stream) v b (before b there)))

pub held-granted : (v : Volume) (handle key stream : ℕ) (level : Level) (turn : ℕ) (calls : Calls) → is_breaking_on v stream ≡ false → AreHeld (is_there v.oplocks v.locks) calls
    → AreHeld (is_there (with_granted v handle key stream level turn).oplocks v.locks) calls
held-granted v handle key stream level turn calls none held =
    held-equal (is_there v.oplocks v.locks) (is_there (with_granted v handle key stream level turn).oplocks v.locks) calls same held
  where
    same : (b : Blocker) → is_there v.oplocks v.locks b ≡ is_there (with_granted v handle key stream level turn).oplocks v.locks b
    same (Break number) = lives-alike v handle key stream level turn (Break number) none
    same (LockOf number) = refl

-- ---- an answer

keys-answered : (handles : List (ℕ × Handle)) (handle : ℕ) (level : Level) (turn : ℕ) (oplocks : List Oplock) → All (λ o. has_its_key handles o ≡ true) oplocks
    → All (λ o. has_its_key handles o ≡ true) (after_answer handle level turn oplocks)
keys-answered handles handle level turn oplocks keys = elim (cases_Bool (has_read level)) [
  | inl some ↦ rw some (All-map (λ o. has_its_key handles o ≡ true) (as_answered handle level turn) oplocks (λ k d within. same (get_or oplocks k d) ∙ keys k d within))
  | inr none ↦ rw none (All-filter (λ (o : Oplock). not (o.handle == handle)) (λ o. has_its_key handles o ≡ true) oplocks keys)
]
  where
    same : (o : Oplock) → has_its_key handles (as_answered handle level turn o) ≡ has_its_key handles o
    same o = elim (cases_Bool (o.handle == handle)) [ inl here ↦ rw here refl | inr other ↦ rw other refl ]

pub IsSound-with_answer : (v : Volume) (handle : ℕ) (level : Level) (turn : ℕ) → IsSound v → IsSound (with_answer v handle level turn)
IsSound-with_answer v handle level turn sound =
    IsSound-touched v (with_answer v handle level turn) sound sound.pending sound.blockers_given
    (keys-answered v.handles handle level turn v.oplocks sound.of_handles.oplocks_have_keys)
    (AreOplocks-after_answer v.oplocks v.last_break handle level turn sound.oplocks) sound.bounded.breaks

-- the breaks of all but this handle's oplock
broken-answered : (handle : ℕ) (level : Level) (turn number : ℕ) (oplocks : List Oplock)
    → list_any (is_breaking number) (after_answer handle level turn oplocks) ≡ list_any (is_breaking number) (without_oplock_of handle oplocks)
broken-answered handle level turn number oplocks = elim (cases_Bool (has_read level)) [
  | inl some ↦ rw some (mapped oplocks)
  | inr none ↦ rw none refl
]
  where
    mapped : (xs : List Oplock) → list_any (is_breaking number) (map (as_answered handle level turn) xs) ≡ list_any (is_breaking number) (without_oplock_of handle xs)
    mapped [] = refl
    mapped (o ∷ xs) = elim (cases_Bool (o.handle == handle)) [
      | inl here ↦ rw here (mapped xs)
      | inr other ↦ rw other (ap (λ rest. is_breaking number o || rest) (mapped xs))
    ]

and_all : (a : Bool) → (a && true) ≡ a
and_all true = refl
and_all false = refl

-- no call waits for the break of an oplock that is taken out
pub held-without_oplock : (oplocks : List Oplock) (locks : List (ℕ × Lock)) (old new : Calls) (handle last_break : ℕ) → AreOplocks oplocks last_break
    → LoseBlockers (is_break_of oplocks handle) old new → AreHeld (is_there oplocks locks) old
    → AreHeld (is_there (without_oplock_of handle oplocks) locks) new
held-without_oplock oplocks locks old new handle last_break are lost held =
    held-equal (λ b. is_there oplocks locks b && not (is_break_of oplocks handle b)) (is_there (without_oplock_of handle oplocks) locks) new same (lost (is_there oplocks locks) held)
  where
    same : (b : Blocker) → (is_there oplocks locks b && not (is_break_of oplocks handle b)) ≡ is_there (without_oplock_of handle oplocks) locks b
    same (Break number) = gone-with (is_breaking number) (λ (o : Oplock). o.handle == handle) oplocks (one-break oplocks last_break number are)
    same (LockOf number) = and_all _

-- nor for one that is as_answered
pub held-answered : (oplocks : List Oplock) (locks : List (ℕ × Lock)) (old new : Calls) (handle : ℕ) (level : Level) (turn last_break : ℕ) → AreOplocks oplocks last_break
    → LoseBlockers (is_break_of oplocks handle) old new → AreHeld (is_there oplocks locks) old
    → AreHeld (is_there (after_answer handle level turn oplocks) locks) new
held-answered oplocks locks old new handle level turn last_break are lost held =
    held-equal (is_there (without_oplock_of handle oplocks) locks) (is_there (after_answer handle level turn oplocks) locks) new same
    (held-without_oplock oplocks locks old new handle last_break are lost held)
  where
    same : (b : Blocker) → is_there (without_oplock_of handle oplocks) locks b ≡ is_there (after_answer handle level turn oplocks) locks b
    same (Break number) = sym (broken-answered handle level turn number oplocks)
    same (LockOf number) = refl
