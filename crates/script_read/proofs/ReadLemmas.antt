-- Where a word ends, and lists that are read item by item.
use Rattle.std.proofs.Common.{◌≡◌, ◌∙◌, sym, ap, ℕ, ◌-◌, ◌≤◌, Bool, true, false, List, [], ◌∷◌, ◌++◌, Option, Some, None, length, take, drop, get_or, cond, if◌then◌else◌, refl, arith, ltb}
use Rattle.std.specs.Prelude.{Result, Ok, Err}
use Rattle.std.specs.List.{position, position_or_len}
use Rattle.std.proofs.lemmas.List.{append_assoc, append-nil, take_rest}
use Rattle.std.proofs.lemmas.List.Sums.{prefix_len-le-length}
use Rattle.std.proofs.lemmas.Bool.{ltb-false}
use Rattle.fsa_model.specs.Fault.{Kind, BadSyntax}
use Rattle.fsa_model.specs.Words.{onto, units_of, escaped_units, are_upper_digits, unit_of_digits}

of_some : (test : Bool) (at end : ℕ) → cond test (Some at) None ≡ Some end → end ≡ at
of_some true at end e = cc
of_some false at end e = cc

of_none : (test : Bool) (at : ℕ) → cond test (Some at) None ≡ None → test ≡ false
of_none true at e = cc
of_none false at e = refl

pub position_or_len-from_some : {X : Type 0} (p : X → Bool) (xs : List X) (end : ℕ) → position p xs ≡ Some end → end ≡ position_or_len p xs
position_or_len-from_some p xs end e = of_some (ltb (position_or_len p xs) (length xs)) (position_or_len p xs) end e

pub position_or_len-from_none : {X : Type 0} (p : X → Bool) (xs : List X) → position p xs ≡ None → length xs ≡ position_or_len p xs
position_or_len-from_none p xs e =
    let past : length xs ≤ position_or_len p xs = ltb-false (position_or_len p xs) (length xs) (of_none _ (position_or_len p xs) e) in
    let within : position_or_len p xs ≤ length xs = prefix_len-le-length _ xs in
    omega arith

-- ---- items that were read, before those that are read further on

abbrev pub ahead : {A : Type 0} → List A → Result (List A) Kind → Result (List A) Kind
ahead front (Ok items) = Ok (front ++ items)
ahead front (Err kind) = Err kind

pub ahead-none : {A : Type 0} (read : Result (List A) Kind) → ahead [] read ≡ read
ahead-none (Ok items) = refl
ahead-none (Err kind) = refl

pub ahead-push : (front : List ℕ) (item : ℕ) (read : Result (List ℕ) Kind) → ahead (front ++ item ∷ []) read ≡ ahead front (onto item read)
ahead-push front item (Ok items) = ap Ok (append_assoc front (item ∷ []) items)
ahead-push front item (Err kind) = refl

-- one item more was read
pub ahead-more : (front : List ℕ) (item : ℕ) (read rest all : Result (List ℕ) Kind) → read ≡ onto item rest → ahead front read ≡ all
    → ahead (front ++ item ∷ []) rest ≡ all
ahead-more front item read rest all step so_far = ahead-push front item rest ∙ ap (ahead front) (sym step) ∙ so_far

-- nothing is left to read
pub ahead-end : {A : Type 0} (front : List A) (all : Result (List A) Kind) → ahead front (Ok []) ≡ all → all ≡ Ok front
ahead-end front all so_far = sym so_far ∙ ap Ok (append-nil front)

-- the next item is at fault
pub ahead-fault : {A : Type 0} (front : List A) (kind : Kind) (read all : Result (List A) Kind) → read ≡ Err kind → ahead front read ≡ all → all ≡ Err kind
ahead-fault front kind read all fault so_far = sym so_far ∙ ap (ahead front) fault

-- ---- the four digits of an escape

picked : (test : Bool) (written unit : ℕ) (read : Result (List ℕ) Kind) → Some unit ≡ (if test then Some written else None)
    → (if test then onto written read else Err BadSyntax) ≡ onto unit read
picked true written unit read is = let same : unit ≡ written = cc in ap (λ u. onto u read) (sym same)
picked false written unit read is = absurd (let none : Some unit ≡ None = is in cc)

refused : (test : Bool) (written : ℕ) (read : Result (List ℕ) Kind) → None ≡ (if test then Some written else None)
    → (if test then onto written read else Err BadSyntax) ≡ Err BadSyntax
refused true written read is = absurd (let some : None ≡ Some written = is in cc)
refused false written read is = refl

abbrev digit : List ℕ → ℕ → ℕ
digit bytes place = get_or bytes place 0

abbrev written_by : List ℕ → Option ℕ
written_by bytes =
    if are_upper_digits (digit bytes 0) (digit bytes 1) (digit bytes 2) (digit bytes 3)
    then Some (unit_of_digits (digit bytes 0) (digit bytes 1) (digit bytes 2) (digit bytes 3))
    else None

four_digits : (bytes : List ℕ) (unit : ℕ) → 4 ≤ length bytes → Some unit ≡ written_by bytes → escaped_units bytes ≡ onto unit (units_of (drop 4 bytes))
four_digits [] unit few is = absurd (omega arith)
four_digits (a ∷ []) unit few is = absurd (omega arith)
four_digits (a ∷ b ∷ []) unit few is = absurd (omega arith)
four_digits (a ∷ b ∷ c ∷ []) unit few is = absurd (omega arith)
four_digits (a ∷ b ∷ c ∷ d ∷ bytes) unit few is = picked (are_upper_digits a b c d) (unit_of_digits a b c d) unit (units_of bytes) is

pub escaped_units-some : (bytes : List ℕ) (unit : ℕ) → 4 ≤ length bytes → Some unit ≡ written_by bytes
    → escaped_units bytes ≡ onto unit (units_of (take (length bytes - 4) (drop 4 bytes)))
escaped_units-some bytes unit few is = four_digits bytes unit few is ∙ ap (λ rest. onto unit (units_of rest)) (sym (take_rest bytes 4))

pub escaped_units-none : (bytes : List ℕ) → 4 ≤ length bytes → None ≡ written_by bytes → escaped_units bytes ≡ Err BadSyntax
escaped_units-none [] few is = refl
escaped_units-none (a ∷ []) few is = refl
escaped_units-none (a ∷ b ∷ []) few is = refl
escaped_units-none (a ∷ b ∷ c ∷ []) few is = refl
escaped_units-none (a ∷ b ∷ c ∷ d ∷ bytes) few is = refused (are_upper_digits a b c d) (unit_of_digits a b c d) (units_of bytes) is
