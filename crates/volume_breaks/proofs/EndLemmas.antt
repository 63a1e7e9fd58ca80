-- Ends that are linked by the slots of their calls' numbers: as one is put in, and as the first of a call is looked for.
use Rattle.std.proofs.Common.{◌≡◌, ℕ, zero, suc, Bool, true, false, ◌<◌, ◌≤◌, List, [], ◌∷◌, ◌++◌, length, drop, get_or, refl, ap, sym, ◌∙◌, arith, inl, inr, Option, Some, None}
use Rattle.std.specs.Prelude.{◌==◌, find, option_and_then, slice_get, if◌then◌else◌}
use Rattle.std.proofs.Math.ListN.{set, length-set}
use Rattle.std.proofs.lemmas.Bool.{and_right, cases_Bool, eqb-true, eq-eqb, false≢true, ne_eqb}
use Rattle.std.proofs.lemmas.List.{drop_all}
use Rattle.std.proofs.lemmas.Option.{slice_get_within}
use Rattle.fsa_types.specs.declared.reply.EndOf.{EndOf}
use Rattle.fsa_model.specs.Once.{is_end}
use Rattle.pending_queue.specs.Waits.{end_of, is_in, seek, slot}
use Rattle.pending_queue.proofs.SeekLemmas.{AreLinked-push, end-headed, seek-all, seek-gap, seek-le, seek-settled, settled-here}
use Rattle.volume_breaks.specs.Ends.{AreEndsFound, end_slots}

-- ---- one more

slots-push : (many : ℕ) (ends : List EndOf) (end : EndOf) → end_slots many (ends ++ end ∷ []) ≡ end_slots many ends ++ slot many end.number ∷ []
slots-push many [] end = refl
slots-push many (e ∷ ends) end = ap (λ (rest : List ℕ). slot many e.number ∷ rest) (slots-push many ends end)

slots-many : (many : ℕ) (ends : List EndOf) → length (end_slots many ends) ≡ length ends
slots-many many [] = refl
slots-many many (e ∷ ends) = ap suc (slots-many many ends)

-- with no heads all have slot 0
no_slots : (ends : List EndOf) (p : ℕ) → is_in (end_slots 0 ends) 0 p ≡ true
no_slots [] p = refl
no_slots (e ∷ ends) zero = refl
no_slots (e ∷ ends) (suc p) = no_slots ends p

slot-within : (many number : ℕ) → 0 < many → slot many number < many
slot-within many number some =
    let none : (many == 0) ≡ false = ne_eqb many 0 (λ is. absurd (omega arith)) in
    rw none (omega arith)

-- where those of the slot of a number end
end-is : (heads links : List ℕ) (ends : List EndOf) (number : ℕ) → AreEndsFound heads links ends
    → end_of heads (slot (length heads) number) (length ends) ≡ seek (is_in (end_slots (length heads) ends) (slot (length heads) number)) (length ends)
end-is [] links ends number are = seek-all (is_in (end_slots 0 ends) 0) (length ends) (λ p _. no_slots ends p)
end-is (h ∷ hs) links ends number are =
    let heads : List ℕ = h ∷ hs in
    rw (← slots-many (length heads) ends) (end-headed heads (end_slots (length heads) ends) links (slot (length heads) number) are.linked (slot-within (length heads) number (omega arith)))

pub length-more : (xs : List ℕ) (y : ℕ) → length (xs ++ y ∷ []) ≡ suc (length xs)
length-more [] y = refl
length-more (x ∷ xs) y = ap suc (length-more xs y)

ends-more : (xs : List EndOf) (y : EndOf) → length (xs ++ y ∷ []) ≡ suc (length xs)
ends-more [] y = refl
ends-more (x ∷ xs) y = ap suc (ends-more xs y)

-- one is put in, and the head of its slot is set behind it
pub AreFound-push : (heads links : List ℕ) (ends : List EndOf) (end : EndOf) (own link behind : ℕ) → AreEndsFound heads links ends
    → own ≡ slot (length heads) end.number → link ≡ end_of heads own (length links) → behind ≡ suc (length links)
    → AreEndsFound (set heads own behind) (links ++ link ∷ []) (ends ++ end ∷ [])
AreFound-push heads links ends end own link behind are is linked last =
    let slots : List ℕ = end_slots (length heads) ends in
    let many = slots-many (length heads) ends in
    let found : link ≡ seek (is_in slots own) (length slots) = linked ∙ ap (λ (k : ℕ). end_of heads k (length links)) is ∙ ap (end_of heads (slot (length heads) end.number)) are.many
    ∙ end-is heads links ends end.number are ∙ ap (λ (k : ℕ). seek (is_in slots k) (length ends)) (sym is) ∙ ap (seek (is_in slots own)) (sym many) in
    let end_is : behind ≡ suc (length slots) = last ∙ ap suc (are.many ∙ sym many) in
    let pushed = AreLinked-push heads slots links own link are.linked (are.many ∙ sym many) found in
    record {
      linked = rw (length-set heads own behind, slots-push (length heads) ends end, ← is, end_is) pushed;
      many = length-more links link ∙ ap suc are.many ∙ sym (ends-more ends end);
    }

-- ---- the first of a call

-- what fails from one place up to another isn't found there
find-behind : {X : Type 0} (p : X → Bool) (xs : List X) (lo hi : ℕ) → lo ≤ hi → ((i : ℕ) (x : X) → lo ≤ i → i < hi → slice_get xs i ≡ Some x → p x ≡ false) → find p (drop lo xs) ≡ find p (drop hi xs)
find-behind p [] lo hi within fail = ap (find p) (drop_all lo [] (omega arith) ∙ sym (drop_all hi [] (omega arith)))
find-behind p (x ∷ xs) zero zero within fail = refl
find-behind p (x ∷ xs) zero (suc hi) within fail =
    let here : p x ≡ false = fail 0 x (omega arith) (omega arith) refl in
    rw here (find-behind p xs zero hi (omega arith) (λ i y above below is. fail (suc i) y (omega arith) (omega arith) is))
find-behind p (x ∷ xs) (suc lo) zero within fail = absurd (omega arith)
find-behind p (x ∷ xs) (suc lo) (suc hi) within fail = find-behind p xs lo hi (omega arith) (λ i y above below is. fail (suc i) y (omega arith) (omega arith) is)

drop-at : {X : Type 0} (xs : List X) (i : ℕ) (x : X) → slice_get xs i ≡ Some x → drop i xs ≡ x ∷ drop (suc i) xs
drop-at [] i x is = cc
drop-at (y ∷ xs) zero x is = let same : y ≡ x = cc in rw same refl
drop-at (y ∷ xs) (suc i) x is = drop-at xs i x is

slot-at : (many : ℕ) (ends : List EndOf) (p : ℕ) (end : EndOf) → slice_get ends p ≡ Some end → get_or (end_slots many ends) p 0 ≡ slot many end.number
slot-at many [] p end is = cc
slot-at many (e ∷ ends) zero end is = let same : e ≡ end = cc in rw same refl
slot-at many (e ∷ ends) (suc p) end is = slot-at many ends p end is

-- what hasn't the slot of a number isn't the end of a call of it
other-slot : (many client number : ℕ) (ends : List EndOf) (p : ℕ) (end : EndOf) → slice_get ends p ≡ Some end → is_in (end_slots many ends) (slot many number) p ≡ false → is_end client number end ≡ false
other-slot many client number ends p end is other =
    elim (cases_Bool (end.number == number)) [
      | inl same ↦ (
          let number_is : end.number ≡ number = eqb-true end.number number same in
          let in_slot : is_in (end_slots many ends) (slot many number) p ≡ true = eq-eqb (get_or (end_slots many ends) p 0) (slot many number) (slot-at many ends p end is ∙ ap (slot many) number_is) in
          absurd (false≢true (sym other ∙ in_slot)))
      | inr apart ↦ and_right (end.client == client) (end.number == number) apart
    ]

-- at a place among those up to the end of the slot, what was found is the first of the call from there on
pub record Seeks (many client number : ℕ) (ends : List EndOf) (found : Option ℕ) (end : ℕ) : Type 0 where
  pub rest : option_and_then (slice_get ends) found ≡ find (is_end client number) (drop end ends)
  pub within : end ≤ length ends
  pub settled : seek (is_in (end_slots many ends) (slot many number)) end ≡ end

-- none from the end of the slot up to a place
skip : (many client number : ℕ) (ends : List EndOf) (place end : ℕ) → end ≡ seek (is_in (end_slots many ends) (slot many number)) place → find (is_end client number) (drop end ends) ≡ find (is_end client number) (drop place ends)
skip many client number ends place end is =
    let in_slot : ℕ → Bool = is_in (end_slots many ends) (slot many number) in
    let before : seek in_slot place ≤ place = seek-le in_slot place in
    find-behind (is_end client number) ends end place (omega arith)
    (λ i x above below there. other-slot many client number ends i x there (seek-gap in_slot place i (omega arith) below))

pub Seeks-start : (heads links : List ℕ) (ends : List EndOf) (client number end : ℕ) → AreEndsFound heads links ends → end ≡ end_of heads (slot (length heads) number) (length ends)
    → Seeks (length heads) client number ends None end
Seeks-start heads links ends client number end are is =
    let many : ℕ = length heads in
    let in_slot : ℕ → Bool = is_in (end_slots many ends) (slot many number) in
    let found : end ≡ seek in_slot (length ends) = is ∙ end-is heads links ends number are in
    let bound : seek in_slot (length ends) ≤ length ends = seek-le in_slot (length ends) in
    record {
      rest = ap (find (is_end client number)) (sym (drop_all (length ends) ends (omega arith))) ∙ sym (skip many client number ends (length ends) end found);
      within = omega arith;
      settled = ap (seek in_slot) found ∙ seek-settled in_slot (length ends) ∙ sym found;
    }

-- the link leads back
link-is : (heads links : List ℕ) (ends : List EndOf) (client number place : ℕ) (found : Option ℕ) (link : ℕ) → AreEndsFound heads links ends → Seeks (length heads) client number ends found (suc place) → link ≡ get_or links place 0
    → link ≡ seek (is_in (end_slots (length heads) ends) (slot (length heads) number)) place
link-is heads links ends client number place found link are seeks linked =
    let many : ℕ = length heads in
    let slots : List ℕ = end_slots many ends in
    let own : ℕ = slot many number in
    let inside : suc place ≤ length ends = seeks.within in
    let here : is_in slots own place ≡ true = settled-here (is_in slots own) place seeks.settled in
    linked ∙ are.linked.nexts place (omega (arith, slots-many many ends)) ∙ ap (λ (k : ℕ). seek (is_in slots k) place) (eqb-true (get_or slots place 0) own here)

pub Seeks-back : (heads links : List ℕ) (ends : List EndOf) (client number place : ℕ) (found : Option ℕ) (link : ℕ) → AreEndsFound heads links ends → Seeks (length heads) client number ends found (suc place) → link ≡ get_or links place 0
    → link ≤ place
Seeks-back heads links ends client number place found link are seeks linked =
    let back = link-is heads links ends client number place found link are seeks linked in
    let bound = seek-le (is_in (end_slots (length heads) ends) (slot (length heads) number)) place in
    omega arith

pub Seeks-step : (heads links : List ℕ) (ends : List EndOf) (client number place : ℕ) (found next : Option ℕ) (end : EndOf) (link : ℕ) → AreEndsFound heads links ends → Seeks (length heads) client number ends found (suc place)
    → slice_get ends place ≡ Some end → link ≡ get_or links place 0 → next ≡ (if is_end client number end then Some place else found)
    → Seeks (length heads) client number ends next link
Seeks-step heads links ends client number place found next end link are seeks there linked is =
    let many : ℕ = length heads in
    let slots : List ℕ = end_slots many ends in
    let own : ℕ = slot many number in
    let inside : place < length ends = slice_get_within ends place end there in
    let back : link ≡ seek (is_in slots own) place = link-is heads links ends client number place found link are seeks linked in
    let bound : seek (is_in slots own) place ≤ place = seek-le (is_in slots own) place in
    let cut : drop place ends ≡ end ∷ drop (suc place) ends = drop-at ends place end there in
    let skipped = skip many client number ends place link back in
    record {
      rest = rw is (elim (cases_Bool (is_end client number end)) [
        | inl own_end ↦ rw (own_end, skipped, cut, own_end) there
        | inr other ↦ rw (other, skipped, cut, other) seeks.rest
      ]);
      within = omega arith;
      settled = ap (seek (is_in slots own)) back ∙ seek-settled (is_in slots own) place ∙ sym back;
    }

pub Seeks-done : (many client number : ℕ) (ends : List EndOf) (found : Option ℕ) (end : ℕ) → Seeks many client number ends found end → end ≡ 0 → option_and_then (slice_get ends) found ≡ find (is_end client number) ends
Seeks-done many client number ends found end seeks none = seeks.rest ∙ ap (λ (place : ℕ). find (is_end client number) (drop place ends)) none
