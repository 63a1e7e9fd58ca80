-- Owners and access lists that are written are read again.
use Rattle.std.proofs.Common.{◌≡◌, ◌∙◌, sym, ap, ℕ, zero, suc, ◌+◌, ◌≤◌, Bool, true, false, ◌&&◌, List, [], ◌∷◌, ◌++◌, Option, Some, None, length, drop, refl, arith, if◌then◌else◌}
use Rattle.std.specs.Prelude.{Ok, nat_le, ◌==◌}
use Rattle.std.specs.Option.{option_map_or}
use Rattle.std.specs.List.{before_first, flat_map, list_all, position_or_len}
use Rattle.std.proofs.lemmas.List.{append-nil}
use Rattle.std.proofs.Math.Seq.{drop-append-add}
use Rattle.std.proofs.lemmas.Bool.{eqb-true}
use Rattle.std.proofs.lemmas.Bool.Decides.{nat_tests}
use Rattle.fsa_types.specs.BoundedList.{Bounded, full}
use Rattle.fsa_types.specs.declared.request.Ace.{Ace}
use Rattle.fsa_types.specs.declared.request.DaclChange.{DaclChange}
use Rattle.fsa_types.specs.declared.request.DaclChange.TheVariants.{Keep, Remove, Put}
use Rattle.fsa_model.specs.Numbers.{glyph, spelled, written_number}
use Rattle.fsa_model.specs.Words.{same, most_id}
use Rattle.fsa_model.specs.InformationLines.{most_aces, owner_at, ace_with, ace_of, before_comma, after_entry, aces_of, dacl_of, dacl_at, owner_text, ace_text, dacl_text, is_ace, is_dacl}
use Rattle.script_read.proofs.SpellLemmas.{both, at_most, same-eq, unless, Lacks, EndsAt, NoSpace, EndsWord, Lacks-append, first_at, before-again, from-again, field_at-again, number_of-spelled, Lacks-spelled, NoSpace-spelled, mask_of-again}

-- ---- owners

-- a number is not the word `keep`
not_keep : (sid : ℕ) → sid ≤ most_id → same (spelled 10 sid) (107 ∷ 101 ∷ 101 ∷ 112 ∷ []) ≡ false
not_keep sid small =
    unless (same (spelled 10 sid) (107 ∷ 101 ∷ 101 ∷ 112 ∷ [])) (λ is.
    let reads : written_number 10 4294967295 (spelled 10 sid) ≡ Some sid = number_of-spelled 10 4294967295 sid (omega arith) (omega arith) small in
    let never : None ≡ Some sid = ap (written_number 10 4294967295) (sym (same-eq (spelled 10 sid) _ is)) ∙ reads in
    cc)

pub owner_at-again : (owner : Option ℕ) (rest : List ℕ) → option_map_or (λ sid. nat_le sid most_id) owner true ≡ true → EndsWord rest
    → owner_at (owner_text owner ++ rest) ≡ Ok (owner, rest)
unfolding owner_at
owner_at-again None rest small ends =
    rw (field_at-again (107 ∷ 101 ∷ 101 ∷ 112 ∷ []) rest (refl, (refl, (refl, (refl, tt)))) ends) refl
owner_at-again (Some sid) rest small ends =
    let below = at_most sid most_id small in
    rw (
      field_at-again (spelled 10 sid) rest (NoSpace-spelled 10 sid) ends,
      not_keep sid below,
      number_of-spelled 10 4294967295 sid (omega arith) (omega arith) below,
    ) refl

pub EndsWord-owner : (owner : Option ℕ) (rest : List ℕ) → EndsWord (owner_text owner ++ rest)
EndsWord-owner None rest = refl
EndsWord-owner (Some sid) rest = refl

-- ---- entries

no_comma : (digit : ℕ) → (glyph digit == 44) ≡ false
no_comma digit = grind (arith, nat_tests)

no_colon : (digit : ℕ) → (glyph digit == 58) ≡ false
no_colon digit = grind (arith, nat_tests)

-- an entry behind its sign, and behind its comma
abbrev bare : ℕ → ℕ → List ℕ
bare sid mask = spelled 10 sid ++ 58 ∷ 48 ∷ 120 ∷ spelled 16 mask

abbrev signed : Ace → List ℕ
signed ace = (if ace.allow then 43 else 45) ∷ bare ace.sid ace.mask

ace_with-again : (allow : Bool) (sid mask : ℕ) → sid ≤ most_id → mask ≤ 4294967295
    → ace_with allow (bare sid mask) ≡ Ok (record { allow = allow; sid = sid; mask = mask })
unfolding ace_with
ace_with-again allow sid mask small low =
    let digits = spelled 10 sid in
    let behind = 58 ∷ 48 ∷ 120 ∷ spelled 16 mask in
    let misses = Lacks-spelled 58 10 sid no_colon in
    let at : position_or_len (λ byte. byte == 58) (digits ++ behind) ≡ length digits = first_at 58 digits behind misses refl in
    let word : before_first (λ byte. byte == 58) (digits ++ behind) ≡ digits = before-again 58 digits behind misses refl in
    let rest : drop (position_or_len (λ byte. byte == 58) (digits ++ behind) + 1) (digits ++ behind) ≡ 48 ∷ 120 ∷ spelled 16 mask =
    ap (λ n. drop (n + 1) (digits ++ behind)) at ∙ drop-append-add digits behind 1 in
    rw (word, rest, number_of-spelled 10 4294967295 sid (omega arith) (omega arith) small, mask_of-again mask low) refl

ace_of-again : (allow : Bool) (sid mask : ℕ) → sid ≤ most_id → mask ≤ 4294967295
    → ace_of ((if allow then 43 else 45) ∷ bare sid mask) ≡ Ok (record { allow = allow; sid = sid; mask = mask })
unfolding ace_of
ace_of-again true sid mask small low = ace_with-again true sid mask small low
ace_of-again false sid mask small low = ace_with-again false sid mask small low

Lacks-bare : (mark sid mask : ℕ) → ((digit : ℕ) → (glyph digit == mark) ≡ false) → (58 == mark) ≡ false → (120 == mark) ≡ false
    → Lacks mark (bare sid mask)
Lacks-bare mark sid mask misses no_point no_x =
    Lacks-append mark (spelled 10 sid) _ (Lacks-spelled mark 10 sid misses) (no_point, (misses 0, (no_x, Lacks-spelled mark 16 mask misses)))

Lacks-sign : (mark : ℕ) (allow : Bool) → (43 == mark) ≡ false → (45 == mark) ≡ false → ((if allow then 43 else 45) == mark) ≡ false
Lacks-sign mark true no_plus no_minus = no_plus
Lacks-sign mark false no_plus no_minus = no_minus

NoComma-signed : (ace : Ace) → Lacks 44 (signed ace)
NoComma-signed ace = (Lacks-sign 44 ace.allow refl refl, Lacks-bare 44 ace.sid ace.mask no_comma refl refl)

EndsAt-aces : (aces : List Ace) → EndsAt 44 (flat_map ace_text aces)
EndsAt-aces [] = tt
EndsAt-aces (ace ∷ aces) = refl

aces_of-again : (most : ℕ) (aces : List Ace) → length aces ≤ most → list_all is_ace aces ≡ true → aces_of most (flat_map ace_text aces) ≡ Ok aces
unfolding aces_of
aces_of-again zero [] few fit = refl
aces_of-again zero (ace ∷ aces) few fit = absurd (omega arith)
aces_of-again (suc most) [] few fit = refl
aces_of-again (suc most) (ace ∷ aces) few fit =
    let parts = both (is_ace ace) (list_all is_ace aces) fit in
    let bounds = both (nat_le ace.sid most_id) (nat_le ace.mask 4294967295) parts.0 in
    let rest = flat_map ace_text aces in
    let entry : before_comma (signed ace ++ rest) ≡ signed ace = before-again 44 (signed ace) rest (NoComma-signed ace) (EndsAt-aces aces) in
    let after : after_entry (signed ace ++ rest) ≡ rest = from-again 44 (signed ace) rest (NoComma-signed ace) (EndsAt-aces aces) in
    let read : ace_of (signed ace) ≡ Ok ace = ace_of-again ace.allow ace.sid ace.mask (at_most ace.sid most_id bounds.0) (at_most ace.mask 4294967295 bounds.1) in
    rw (entry, after, read, aces_of-again most aces (omega arith) parts.1) refl

-- ---- access lists

NoSpace-aces : (aces : List Ace) → NoSpace (flat_map ace_text aces)
NoSpace-aces [] = tt
NoSpace-aces (ace ∷ aces) =
    let one : Lacks 32 (bare ace.sid ace.mask) = Lacks-append 32 (spelled 10 ace.sid) _ (NoSpace-spelled 10 ace.sid) (refl, (refl, (refl, NoSpace-spelled 16 ace.mask))) in
    (refl, (Lacks-sign 32 ace.allow refl refl, Lacks-append 32 (bare ace.sid ace.mask) (flat_map ace_text aces) one (NoSpace-aces aces)))

-- a list that has no more room than entries
full-items : (dacl : Bounded Ace) → (dacl.room == length dacl.items) ≡ true → full dacl.items ≡ dacl
full-items dacl is = ap (λ room. record { items = dacl.items; room = room }) (sym (eqb-true dacl.room (length dacl.items) is))

dacl_of-keep : dacl_of (107 ∷ 101 ∷ 101 ∷ 112 ∷ []) ≡ Ok Keep
unfolding dacl_of
dacl_of-keep = refl

dacl_of-null : dacl_of (110 ∷ 117 ∷ 108 ∷ 108 ∷ []) ≡ Ok Remove
unfolding dacl_of
dacl_of-null = refl

dacl_of-put : (aces : List Ace) → length aces ≤ 32 → list_all is_ace aces ≡ true → dacl_of (97 ∷ 99 ∷ 108 ∷ flat_map ace_text aces) ≡ Ok (Put (full aces))
unfolding dacl_of
dacl_of-put aces few fit = rw (aces_of-again 32 aces few fit) refl

dacl_at-again : (change : DaclChange) (rest : List ℕ) → is_dacl change ≡ true → EndsWord rest → dacl_at (dacl_text change ++ rest) ≡ Ok (change, rest)
unfolding dacl_at
dacl_at-again Keep rest fits ends =
    rw (field_at-again (107 ∷ 101 ∷ 101 ∷ 112 ∷ []) rest (refl, (refl, (refl, (refl, tt)))) ends, dacl_of-keep) refl
dacl_at-again Remove rest fits ends =
    rw (field_at-again (110 ∷ 117 ∷ 108 ∷ 108 ∷ []) rest (refl, (refl, (refl, (refl, tt)))) ends, dacl_of-null) refl
dacl_at-again (Put dacl) rest fits ends =
    let outer = both (list_all is_ace dacl.items && nat_le (length dacl.items) most_aces) (dacl.room == length dacl.items) fits in
    let inner = both (list_all is_ace dacl.items) (nat_le (length dacl.items) most_aces) outer.0 in
    let word = 97 ∷ 99 ∷ 108 ∷ flat_map ace_text dacl.items in
    let read : dacl_of word ≡ Ok (Put dacl) =
    dacl_of-put dacl.items (at_most (length dacl.items) 32 inner.1) inner.0 ∙ ap (λ d. Ok (Put d)) (full-items dacl outer.1) in
    rw (field_at-again word rest (refl, (refl, (refl, NoSpace-aces dacl.items))) ends, read) refl

pub dacl_at-last : (change : DaclChange) → is_dacl change ≡ true → dacl_at (dacl_text change) ≡ Ok (change, [])
dacl_at-last change fits = ap dacl_at (sym (append-nil (dacl_text change))) ∙ dacl_at-again change [] fits tt

pub EndsWord-dacl : (change : DaclChange) → EndsWord (dacl_text change)
EndsWord-dacl Keep = refl
EndsWord-dacl Remove = refl
EndsWord-dacl (Put dacl) = refl
