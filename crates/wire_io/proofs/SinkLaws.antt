-- Laws on what is written to a sink, one put after another.
use Rattle.std.proofs.Common.{◌≡◌, ℕ, ◌+◌, ◌-◌, ◌<◌, ◌≤◌, List, [], ◌++◌, length, take, drop, Option, Some, None, refl, sym, ap, subst, ◌∙◌, append_assoc, append-nil, arith, length-append, length-drop}
use Rattle.std.specs.Prelude.{Err, Result}
use Rattle.std.proofs.lemmas.List.{take-take, drop-take, take-append-drop, take_rest}
use Rattle.wire_io.specs.declared.faults.Failed.{Failed}
use Rattle.wire_io.specs.Sink.{Written, Extends, Appends, AppendsFront, AppendsPart, Puts}

pub Extends-none : (old : Option (List ℕ)) → Extends old old []
Extends-none None = tt
Extends-none (Some written) = ap Some (sym (append-nil written))

-- what was written, and then more
pub Extends-append : (old mid new : Option (List ℕ)) (bytes more : List ℕ) → Extends old mid bytes → Extends mid new more → Extends old new (bytes ++ more)
Extends-append None mid new bytes more first second = tt
Extends-append (Some written) mid new bytes more first second =
    let next : Extends (Some (written ++ bytes)) new more = subst (λ (o : Option (List ℕ)). Extends o new more) first second in
    next ∙ ap Some (append_assoc written bytes more)

-- before the first put nothing was written
pub Appends-none : (old : Written) → Appends old old []
Appends-none old = record { told = Extends-none old.bytes; few = omega arith; none_empty = omega arith }

pub Appends-append : (old mid new : Written) (bytes more : List ℕ) → Appends old mid bytes → Appends mid new more → Appends old new (bytes ++ more)
Appends-append old mid new bytes more first second = record {
  told = Extends-append old.bytes mid.bytes new.bytes bytes more first.told second.told;
  few = omega (arith, first.few, second.few, length-append bytes more);
  none_empty = omega (arith, first.none_empty, second.none_empty);
}

-- what was written, and then a prefix of what follows, is a prefix of both
abbrev pub AppendsFront-append : (old mid new : Written) (bytes more : List ℕ) → Appends old mid bytes → AppendsFront mid new more → AppendsFront old new (bytes ++ more)
AppendsFront-append old mid new bytes more first second = record {
  front = bytes ++ second.front;
  back = second.back;
  splits = ap (λ rest. bytes ++ rest) second.splits ∙ sym (append_assoc bytes second.front second.back);
  told = Extends-append old.bytes mid.bytes new.bytes bytes second.front first.told second.told;
  few = omega (arith, first.few, second.few, length-append bytes more);
  none_empty = omega (arith, first.none_empty, second.none_empty);
}

pub AppendsPart-append : (old mid new : Written) (bytes more : List ℕ) → Appends old mid bytes → AppendsPart mid new more → AppendsPart old new (bytes ++ more)
AppendsPart-append old mid new bytes more first second = record {
  written = AppendsFront-append old mid new bytes more first second.written;
  proper = second.proper;
}

-- a prefix of some bytes is one of those bytes and more
abbrev pub AppendsFront-longer : (old new : Written) (bytes more : List ℕ) → AppendsFront old new bytes → AppendsFront old new (bytes ++ more)
AppendsFront-longer old new bytes more part = record {
  front = part.front;
  back = part.back ++ more;
  splits = ap (λ all. all ++ more) part.splits ∙ append_assoc part.front part.back more;
  told = part.told;
  few = omega (arith, part.few, length-append bytes more);
  none_empty = part.none_empty;
}

pub AppendsPart-longer : (old new : Written) (bytes more : List ℕ) → AppendsPart old new bytes → AppendsPart old new (bytes ++ more)
AppendsPart-longer old new bytes more part = record {
  written = AppendsFront-longer old new bytes more part.written;
  proper = omega (arith, part.proper, length-append part.written.back more);
}

-- all of some bytes is a prefix of those bytes and more
abbrev pub AppendsFront-whole : (old new : Written) (bytes more : List ℕ) → Appends old new bytes → AppendsFront old new (bytes ++ more)
AppendsFront-whole old new bytes more whole = record {
  front = bytes;
  back = more;
  splits = refl;
  told = whole.told;
  few = omega (arith, whole.few, length-append bytes more);
  none_empty = whole.none_empty;
}

-- and not all of them, where there are more
pub AppendsPart-whole : (old new : Written) (bytes more : List ℕ) → 0 < length more → Appends old new bytes → AppendsPart old new (bytes ++ more)
AppendsPart-whole old new bytes more some whole = record { written = AppendsFront-whole old new bytes more whole; proper = some }

-- nothing of some bytes
pub AppendsPart-none : (old : Written) (bytes : List ℕ) → 0 < length bytes → AppendsPart old old bytes
AppendsPart-none old bytes some = AppendsPart-whole old old [] bytes some (Appends-none old)

-- the first bytes, and then n of those that follow
pub take-+ : (bytes : List ℕ) (done n : ℕ) → take (done + n) bytes ≡ take done bytes ++ take n (drop done bytes)
take-+ bytes done n =
    let front : take done (take (done + n) bytes) ≡ take done bytes = take-take done (done + n) bytes (omega arith) in
    sym (take-append-drop done (take (done + n) bytes))
    ∙ ap (λ xs. xs ++ drop done (take (done + n) bytes)) front
    ∙ ap (λ xs. take done bytes ++ xs) (drop-take done n bytes)

-- the first bytes, and then n of the rest, which a slice spells so
pub Extends-rest : (old mid new : Option (List ℕ)) (bytes : List ℕ) (done n : ℕ) → Extends old mid (take done bytes)
    → Extends mid new (take n (take (length bytes - done) (drop done bytes))) → Extends old new (take (done + n) bytes)
Extends-rest old mid new bytes done n first second =
    let next : Extends mid new (take n (drop done bytes)) = subst (λ (rest : List ℕ). Extends mid new (take n rest)) (take_rest bytes done) second in
    subst (λ (piece : List ℕ). Extends old new piece) (sym (take-+ bytes done n))
    (Extends-append old mid new (take done bytes) (take n (drop done bytes)) first next)

-- the first bytes, and then a put of the rest that failed
pub AppendsPart-rest : (old mid new : Written) (bytes : List ℕ) (done : ℕ) (failed : Failed) → Extends old.bytes mid.bytes (take done bytes) → done < length bytes
    → Puts mid.bytes new.bytes (Err failed) (take (length bytes - done) (drop done bytes)) → new.puts ≤ old.puts + length bytes → new.empty_puts ≤ old.empty_puts → AppendsPart old new bytes
AppendsPart-rest old mid new bytes done failed first within second few none_empty =
    let rest : take (length bytes - done) (drop done bytes) ≡ drop done bytes = take_rest bytes done in
    let split : drop done bytes ≡ second.0 ++ second.1 = sym rest ∙ second.2 in
    record {
      written = record {
        front = take done bytes ++ second.0;
        back = second.1;
        splits = sym (take-append-drop done bytes) ∙ ap (λ xs. take done bytes ++ xs) split ∙ sym (append_assoc (take done bytes) second.0 second.1);
        told = Extends-append old.bytes mid.bytes new.bytes (take done bytes) second.0 first second.4;
        few = few;
        none_empty = none_empty;
      };
      proper = second.3 (subst (λ (xs : List ℕ). 0 < length xs) (sym rest) (omega (arith, length-drop done bytes)));
    }
