-- Oplocks that are broken, and then the ends of the calls of those who are told, are the same as both at once, one
-- oplock after the other; and so with those that a grant switches.
use Rattle.std.proofs.Common.{◌≡◌, ℕ, ◌+◌, ◌<◌, Bool, true, false, List, [], ◌∷◌, ◌++◌, length, drop, get_or, refl, ap, sym, ◌∙◌, arith, inl, inr, Option, Some, None}
use Rattle.std.specs.Prelude.{◌&&◌, filter, fold, if◌then◌else◌, is_some}
use Rattle.std.proofs.lemmas.Bool.{cases_Bool}
use Rattle.std.proofs.lemmas.List.{append_assoc}
use Rattle.fsa_types.specs.OplockGrants.{after_switches}
use Rattle.fsa_types.specs.OplockLists.{OplockState, after_breaks, after_effect, effect_on, is_told, told_among, without_oplock_of}
use Rattle.fsa_types.specs.Oplocks.{Begins, Effect, Ends, Lowers, Oplock, Stays}
use Rattle.fsa_types.specs.Rows.{row_of}
use Rattle.fsa_types.specs.declared.oplock.Class.{Class}
use Rattle.fsa_types.specs.declared.request.Level.{Level}
use Rattle.fsa_types.specs.declared.request.Level.TheVariants.{Nil}
use Rattle.fsa_types.specs.declared.status.Status.TheVariants.{OplockSwitchedToNewHandle}
use Rattle.fsa_model.specs.Breaks.{oplocks_of, with_effect, with_oplocks, with_told}
use Rattle.fsa_model.specs.Edits.{without_oplock}
use Rattle.fsa_model.specs.Grant.{with_call_ended, with_switched}
use Rattle.fsa_model.specs.Volume.{Volume}
use Rattle.fsa_model.proofs.BreakLaws.{oplocks-effect}
use Rattle.fsa_model.proofs.GrantLaws.{oplocks-call_ended}
use Rattle.fsa_model.proofs.RowLaws.{option_cases}
use Rattle.volume_breaks.specs.Breaks.{with_holder_told, with_switch_told}
use Rattle.volume_breaks.specs.Told.{has_call, told_all, told_by_effect, told_of}
use Rattle.volume_breaks.specs.declared.telling.Told.{Told}
use Rattle.volume_breaks.proofs.BreakLemmas.{drop-item}

-- ---- breaks

-- those who are told by one more, and then those behind it
pub told-more : (class : Class) (told after : List Told) (chosen : List Oplock) (i : ℕ) (oplock : Oplock) → i < length chosen → oplock ≡ get_or chosen i oplock → after ≡ told ++ told_of class oplock
    → after ++ told_all class (drop (i + 1) chosen) ≡ told ++ told_all class (drop i chosen)
told-more kind told after chosen i oplock within read is =
    ap (λ (all : List Told). all ++ told_all kind (drop (i + 1) chosen)) is
    ∙ append_assoc told (told_of kind oplock) (told_all kind (drop (i + 1) chosen))
    ∙ ap (λ (rest : List Oplock). told ++ told_all kind rest) (sym (drop-item chosen i oplock within read))

-- what is told leaves the oplocks, and doesn't depend on them
told-apart : (v : Volume) (held : OplockState) (turn : Option ℕ) (level : Level) (ack : Bool) → with_oplocks (with_told v turn level ack) held ≡ with_told (with_oplocks v held) turn level ack
told-apart v held None level ack = refl
told-apart v held (Some turn) level ack = elim (option_cases (row_of v.pending turn)) [ inl none ↦ rw none refl | inr some ↦ rw some.1 refl ]

effect-apart : (v : Volume) (oplock : Oplock) (done : Effect) (held : OplockState) (rest : List Told)
    → fold with_holder_told (with_oplocks (with_effect v oplock done) held) rest ≡ fold with_holder_told (with_oplocks v held) (told_by_effect oplock done ++ rest)
effect-apart v oplock Stays held rest = refl
effect-apart v oplock Ends held rest =
    ap (λ (w : Volume). fold with_holder_told w rest) (told-apart (with_oplocks v (after_effect Ends oplock.handle (oplocks_of v))) held oplock.call Nil false)
effect-apart v oplock (Begins level) held rest =
    ap (λ (w : Volume). fold with_holder_told w rest) (told-apart (with_oplocks v (after_effect (Begins level) oplock.handle (oplocks_of v))) held oplock.call level true)
effect-apart v oplock (Lowers level) held rest = refl

pub breaks-apart : (class : Class) (chosen : List Oplock) (v : Volume)
    → fold (λ w oplock. with_effect w oplock (effect_on class oplock)) v chosen
    ≡ fold with_holder_told (with_oplocks v (after_breaks class (oplocks_of v) chosen)) (told_all class chosen)
breaks-apart kind [] v = refl
breaks-apart kind (oplock ∷ chosen) v =
    breaks-apart kind chosen (with_effect v oplock (effect_on kind oplock))
    ∙ ap (λ (held : OplockState). fold with_holder_told (with_oplocks (with_effect v oplock (effect_on kind oplock)) (after_breaks kind held chosen)) (told_all kind chosen))
    (oplocks-effect v oplock (effect_on kind oplock))
    ∙ effect-apart v oplock (effect_on kind oplock) (after_breaks kind (after_effect (effect_on kind oplock) oplock.handle (oplocks_of v)) chosen) (told_all kind chosen)

-- as many calls end as oplocks with a call are told
count-told : (oplock : Oplock) (done : Effect) (rest : List Told) (others : List Oplock) → length (filter has_call rest) ≡ length others
    → length (filter has_call (told_by_effect oplock done ++ rest)) ≡ length (if is_told done && is_some oplock.call then oplock ∷ others else others)
count-told oplock Stays rest others same = same
count-told oplock (Lowers level) rest others same = same
count-told oplock Ends rest others same = elim (cases_Bool (is_some oplock.call)) [ inl some ↦ rw some (omega (arith, same)) | inr none ↦ rw none same ]
count-told oplock (Begins level) rest others same = elim (cases_Bool (is_some oplock.call)) [ inl some ↦ rw some (omega (arith, same)) | inr none ↦ rw none same ]

pub told-count : (class : Class) (chosen : List Oplock) → length (filter has_call (told_all class chosen)) ≡ length (told_among class chosen)
told-count kind [] = refl
told-count kind (oplock ∷ chosen) = count-told oplock (effect_on kind oplock) (told_all kind chosen) (told_among kind chosen) (told-count kind chosen)

-- ---- switches

ended-apart : (v : Volume) (oplocks : List Oplock) (turn : Option ℕ)
    → record (with_call_ended v turn OplockSwitchedToNewHandle) { oplocks = oplocks } ≡ with_call_ended (record v { oplocks = oplocks }) turn OplockSwitchedToNewHandle
ended-apart v oplocks None = refl
ended-apart v oplocks (Some turn) = elim (option_cases (row_of v.pending turn)) [ inl none ↦ rw none refl | inr some ↦ rw some.1 refl ]

pub switches-apart : (switched : List Oplock) (v : Volume)
    → fold with_switched v switched ≡ fold with_switch_told (record v { oplocks = after_switches v.oplocks switched }) switched
switches-apart [] v = refl
switches-apart (oplock ∷ switched) v =
    switches-apart switched (with_switched v oplock)
    ∙ ap (λ (oplocks : List Oplock). fold with_switch_told (record (with_switched v oplock) { oplocks = after_switches oplocks switched }) switched)
    (oplocks-call_ended (without_oplock v oplock.handle) oplock.call OplockSwitchedToNewHandle)
    ∙ ap (λ (w : Volume). fold with_switch_told w switched)
    (ended-apart (without_oplock v oplock.handle) (after_switches (without_oplock_of oplock.handle v.oplocks) switched) oplock.call)
