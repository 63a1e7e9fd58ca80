-- Laws on what is read of a source, one take after another.
use Rattle.std.proofs.Common.{◌≡◌, ℕ, ◌+◌, ◌<◌, ◌≤◌, List, [], ◌++◌, length, Option, Some, None, refl, sym, ap, subst, ◌∙◌, append_assoc, append-nil, length-append, arith}
use Rattle.wire_io.specs.Source.{HasRead, IsAtEnd, HasReadAtMost, ReadsWhole, HasMoreThan}

-- before the first take nothing was read
pub HasRead-none : (old : Option (List ℕ)) → HasRead old old []
HasRead-none None = tt
HasRead-none (Some all) = (all, refl, refl)

-- what was read, and then more
pub HasRead-append : (old mid new : Option (List ℕ)) (read piece : List ℕ) → HasRead old mid read → HasRead mid new piece → HasRead old new (read ++ piece)
HasRead-append None mid new read piece first second = tt
HasRead-append (Some all) mid new read piece first second =
    let next : HasRead (Some first.0) new piece = subst (λ (o : Option (List ℕ)). HasRead o new piece) first.1 second in
    (next.0, next.1, first.2 ∙ ap (λ rest. read ++ rest) next.2 ∙ sym (append_assoc read piece next.0))

-- what was read by a call that met the end is all
pub ReadsWhole-at_end : (old new : Option (List ℕ)) (bytes : List ℕ) → HasRead old new bytes → IsAtEnd new → ReadsWhole old new bytes
ReadsWhole-at_end None new bytes read end = tt
ReadsWhole-at_end (Some all) new bytes read end =
    let empty : read.0 ≡ [] = subst IsAtEnd read.1 end in
    (read.2 ∙ ap (λ rest. bytes ++ rest) empty ∙ append-nil bytes, read.1 ∙ ap Some empty)

-- a source of which more bytes were read had more
pub HasMoreThan-read : (limit : ℕ) (old new : Option (List ℕ)) (bytes : List ℕ) → HasRead old new bytes → limit < length bytes → HasMoreThan limit old
HasMoreThan-read limit None new bytes read more = tt
HasMoreThan-read limit (Some all) new bytes read more = omega (arith, ap length read.2, length-append bytes read.0)

-- so had one of which some bytes were read, and then more
pub HasMoreThan-append : (limit : ℕ) (old mid new : Option (List ℕ)) (read piece : List ℕ)
    → HasRead old mid read → HasRead mid new piece → limit < length read + length piece → HasMoreThan limit old
HasMoreThan-append limit old mid new read piece first second more =
    HasMoreThan-read limit old new (read ++ piece) (HasRead-append old mid new read piece first second) (omega (arith, length-append read piece))

-- what was read, and then a piece within what may still come
pub HasReadAtMost-append : (most : ℕ) (old mid new : Option (List ℕ)) (read piece : List ℕ)
    → HasRead old mid read → HasRead mid new piece → length read + length piece ≤ most → HasReadAtMost most old new
HasReadAtMost-append most old mid new read piece first second within =
    (read ++ piece, omega (arith, length-append read piece), HasRead-append old mid new read piece first second)

-- what was read, and then some bytes within what may still come
pub HasReadAtMost-more : (most few : ℕ) (old mid new : Option (List ℕ)) (read : List ℕ)
    → HasRead old mid read → HasReadAtMost few mid new → length read + few ≤ most → HasReadAtMost most old new
HasReadAtMost-more most few old mid new read first second within =
    let few_left : length second.0 ≤ few = second.1 in
    HasReadAtMost-append most old mid new read second.0 first second.2 (omega arith)
