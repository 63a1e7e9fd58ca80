-- The entries that a buffer begins with.
use Rattle.std.proofs.Common.{◌≡◌, ℕ, ◌+◌, ◌-◌, ◌<◌, Bool, true, false, List, [], ◌∷◌, ◌++◌, length, take, drop, refl, sym, ap, subst, ◌∙◌, append_assoc, arith, length-append}
use Rattle.std.proofs.lemmas.List.{take_at, drop_at, append_cancel_left, take-append-drop}
use Rattle.fsa_types.specs.declared.reply.PackKind.{PackKind}
use Rattle.fsa_types.specs.declared.reply.PackKind.TheVariants.{Names, Dir, Full, IdFull, Streams, Changes}
use Rattle.pack_info.specs.declared.reading.Head.{Head}
use Rattle.fsa_types.specs.Packing.{Packed, head, head_size, size_of, entry_bytes, is_nothing, entries_bytes}
use Rattle.pack_info.specs.Entries.{next_distance, padding_of, AreEntries, IsEntry, BeginsWithEntry, IsTail}
use Rattle.std.specs.Prelude.{Option, Result}
use Rattle.pack_info.specs.declared.walk.PackedEntry.{PackedEntry}
use Rattle.pack_info.specs.declared.walk.Malformed.{Malformed}
use Rattle.pack_info.specs.Walks.{WalkState, GivesEntry, StepsToEntry, left_of}
use Rattle.pack_info.specs.Reading.{raw_head, IsPlain, IsBlank, HeadFits}
use Rattle.pack_info.proofs.PackLaws.{length-head, size-at_least, rounds}
use Rattle.pack_info.proofs.TailLaws.{head-some}
use Rattle.pack_info.proofs.ReadLaws.{IsHeadOf, one_head, sound_head}

-- an entry in three parts
pub entry_parts : (kind : PackKind) (e : Packed) (last : Bool) (rest : List ℕ)
    → entry_bytes kind e last ++ rest ≡ head kind e.numbers (next_distance kind (size_of kind e) last) (length e.name) ++ (e.name ++ (padding_of kind (size_of kind e) last ++ rest))
unfolding entry_bytes
entry_parts kind e true rest = append_assoc (head kind e.numbers 0 (length e.name)) e.name rest
entry_parts kind e false rest = simp append_assoc

-- what a buffer that begins with an entry was read as
pub read_as : (kind : PackKind) (h : Head) (buffer after : List ℕ) (e : Packed) (rest : List ℕ) → IsPlain kind h → HeadFits h → buffer ≡ raw_head kind h ++ after → BeginsWithEntry kind buffer e rest
    → IsHeadOf kind h e.numbers (next_distance kind (size_of kind e) (is_nothing rest)) (length e.name) after (e.name ++ (padding_of kind (size_of kind e) (is_nothing rest) ++ rest))
read_as kind h buffer after e rest plain fits is b =
    one_head kind h e.numbers (next_distance kind (size_of kind e) (is_nothing rest)) (length e.name) after (e.name ++ (padding_of kind (size_of kind e) (is_nothing rest) ++ rest)) plain fits b.is_entry.numbers b.is_entry.next b.is_entry.len
    (sym is ∙ b.spelled ∙ entry_parts kind e (is_nothing rest) rest)

pub tail_of : (kind : PackKind) (h : Head) (buffer after : List ℕ) (e : Packed) (rest : List ℕ) → IsPlain kind h → HeadFits h → buffer ≡ raw_head kind h ++ after → BeginsWithEntry kind buffer e rest
    → IsTail kind h.next h.len after e.name rest
tail_of kind h buffer after e rest plain fits is b =
    let r = read_as kind h buffer after e rest plain fits is b in
    record { spelled = rw r.len_is r.rest_is; len_is = sym r.len_is; next_is = rw r.len_is r.next_is; name_is = b.is_entry.name }

pub too_few : (kind : PackKind) (buffer : List ℕ) (e : Packed) (rest : List ℕ) → length buffer < head_size kind → BeginsWithEntry kind buffer e rest → ⊥
too_few kind buffer e rest lt b =
    let last = is_nothing rest in
    let s = ap length (b.spelled ∙ entry_parts kind e (is_nothing rest) rest) in
    let a = length-head kind e.numbers (next_distance kind (size_of kind e) (is_nothing rest)) (length e.name) in
    let c = length-append (head kind e.numbers (next_distance kind (size_of kind e) (is_nothing rest)) (length e.name)) (e.name ++ (padding_of kind (size_of kind e) (is_nothing rest) ++ rest)) in
    omega (arith, s, a, c, lt)

-- a head and a tail that were read are an entry
pub begins_with : (kind : PackKind) (h : Head) (buffer after name rest : List ℕ) → IsPlain kind h → HeadFits h → h.index ≡ 0 → h.attributes_size ≡ 0 → h.reserved ≡ 0 → buffer ≡ raw_head kind h ++ after
    → IsTail kind h.next h.len after name rest → BeginsWithEntry kind buffer (record { numbers = h.numbers; name = name }) rest
begins_with kind h buffer after name rest plain fits a b c is t =
    let e : Packed = record { numbers = h.numbers; name = name } in
    record {
      is_entry = record {
        numbers = fits.numbers;
        only = plain.numbers;
        name = t.name_is;
        len = omega (arith, fits.len, t.len_is);
        next = rw (t.len_is, ← t.next_is) fits.next;
      };
      spelled = is ∙ ap (λ (xs : List ℕ). xs ++ after) (sound_head kind h a b c) ∙ rw (t.next_is, ← t.len_is) (ap (λ (xs : List ℕ). head kind h.numbers (next_distance kind (head_size kind + length name) (is_nothing rest)) (length name) ++ xs) (rw (t.len_is) t.spelled) ∙ sym (entry_parts kind (record { numbers = h.numbers; name = name }) (is_nothing rest) rest));
    }

some : (xs : List ℕ) → 0 < length xs → is_nothing xs ≡ false
some [] lt = absurd (omega arith)
some (x ∷ xs) lt = refl

is_some : (kind : PackKind) (e : Packed) (es : List Packed) → 0 < length (entries_bytes kind (e ∷ es))
is_some kind e es = omega (arith, size-at_least kind e es, head-some kind)

blank_of : (kind : PackKind) (h : Head) → h.index ≡ 0 → h.attributes_size ≡ 0 → h.reserved ≡ 0 → IsBlank kind h
blank_of Names h a b c = (b, c)
blank_of Dir h a b c = (b, c)
blank_of Full h a b c = c
blank_of IdFull h a b c = tt
blank_of Changes h a b c = (a, b, c)
blank_of Streams h a b c = (a, b, c)

nothing_written : (kind : PackKind) (es : List Packed) → is_nothing (entries_bytes kind es) ≡ is_nothing es
nothing_written kind [] = refl
nothing_written kind (e ∷ es) = some (entries_bytes kind (e ∷ es)) (is_some kind e es)

-- what is written begins with its first entry
pub written_begins : (kind : PackKind) (buffer : List ℕ) (e : Packed) (es : List Packed) → IsEntry kind e (is_nothing es) → buffer ≡ entries_bytes kind (e ∷ es) → BeginsWithEntry kind buffer e (entries_bytes kind es)
written_begins kind buffer e es is written = record {
  is_entry = rw (nothing_written kind es) is;
  spelled = rw (nothing_written kind es) written;
}

-- a number that is no sum of anything
same_last : (kind : PackKind) (size : ℕ) (a b : Bool) → 0 < size → next_distance kind size a ≡ next_distance kind size b → a ≡ b
same_last kind size true true some e = refl
same_last kind size false false some e = refl
same_last kind size true false some e = absurd (omega (arith, e, some, (rounds kind size).0))
same_last kind size false true some e = absurd (omega (arith, e, some, (rounds kind size).0))

pub record Same (e f : Packed) (r s : List ℕ) : Type 0 where
  pub entry : e ≡ f
  pub rest : r ≡ s

as_head : Packed → ℕ → Head
as_head e next = record { next = next; index = 0; attributes_size = 0; reserved = 0; len = length e.name; numbers = e.numbers }

-- a buffer begins with one entry
pub begins_once : (kind : PackKind) (buffer : List ℕ) (e f : Packed) (r s : List ℕ) → BeginsWithEntry kind buffer e r → BeginsWithEntry kind buffer f s → Same e f r s
unfolding as_head
begins_once kind buffer e f r s b c =
    let next = next_distance kind (size_of kind e) (is_nothing r) in
    let h = as_head e next in
    let after = e.name ++ (padding_of kind (size_of kind e) (is_nothing r) ++ r) in
    let fits : HeadFits (as_head e (next_distance kind (size_of kind e) (is_nothing r))) = record { next = b.is_entry.next; index = omega arith; attributes_size = omega arith; reserved = omega arith; len = b.is_entry.len; numbers = b.is_entry.numbers } in
    let plain : IsPlain kind (as_head e (next_distance kind (size_of kind e) (is_nothing r))) = record { numbers = b.is_entry.only; blank = blank_of kind (as_head e (next_distance kind (size_of kind e) (is_nothing r))) refl refl refl } in
    let read : buffer ≡ raw_head kind (as_head e (next_distance kind (size_of kind e) (is_nothing r))) ++ (e.name ++ (padding_of kind (size_of kind e) (is_nothing r) ++ r))
    = b.spelled ∙ entry_parts kind e (is_nothing r) r ∙ ap (λ (xs : List ℕ). xs ++ (e.name ++ (padding_of kind (size_of kind e) (is_nothing r) ++ r))) (sym (sound_head kind (as_head e (next_distance kind (size_of kind e) (is_nothing r))) refl refl refl)) in
    let is = read_as kind (as_head e (next_distance kind (size_of kind e) (is_nothing r))) buffer (e.name ++ (padding_of kind (size_of kind e) (is_nothing r) ++ r)) f s plain fits read c in
    let numbers : e.numbers ≡ f.numbers = is.numbers_are ∙ c.is_entry.only in
    let name : e.name ≡ f.name = sym (take_at e.name (padding_of kind (size_of kind e) (is_nothing r) ++ r) (length e.name) refl) ∙ ap (take (length e.name)) is.rest_is ∙ take_at f.name (padding_of kind (size_of kind f) (is_nothing s) ++ s) (length e.name) (sym is.len_is) in
    let behind : padding_of kind (size_of kind e) (is_nothing r) ++ r ≡ padding_of kind (size_of kind f) (is_nothing s) ++ s = sym (drop_at e.name (padding_of kind (size_of kind e) (is_nothing r) ++ r) (length e.name) refl) ∙ ap (drop (length e.name)) is.rest_is ∙ drop_at f.name (padding_of kind (size_of kind f) (is_nothing s) ++ s) (length e.name) (sym is.len_is) in
    let sizes : size_of kind e ≡ size_of kind f = ap (λ (n : ℕ). head_size kind + n) is.len_is in
    let last : is_nothing r ≡ is_nothing s = same_last kind (size_of kind e) (is_nothing r) (is_nothing s) (omega (arith, head-some kind)) (is.next_is ∙ ap (λ (n : ℕ). next_distance kind n (is_nothing s)) (sym sizes)) in
    record {
      entry = rw (numbers, name) refl;
      rest = append_cancel_left (padding_of kind (size_of kind f) (is_nothing s)) r s (ap (λ (xs : List ℕ). xs ++ r) (sym (ap (λ (n : ℕ). padding_of kind n (is_nothing r)) sizes ∙ ap (padding_of kind (size_of kind f)) last)) ∙ behind);
    }

pub nothing_more : (kind : PackKind) (xs : List ℕ) (e : Packed) (es : List Packed) → length xs ≡ 0 → xs ≡ entries_bytes kind (e ∷ es) → ⊥
nothing_more kind xs e es none written = omega (arith, none, ap length written, is_some kind e es)

-- where what follows an entry stands in the buffer
pub rest_at : (buffer : List ℕ) (place : ℕ) (front rest : List ℕ) → drop place buffer ≡ front ++ rest → drop (length buffer - length rest) buffer ≡ rest
rest_at buffer place front rest e =
    let whole : buffer ≡ (take place buffer ++ front) ++ rest = sym (take-append-drop place buffer) ∙ ap (λ (xs : List ℕ). take place buffer ++ xs) e ∙ sym (append_assoc (take place buffer) front rest) in
    let len : length (take place buffer ++ front) ≡ length buffer - length rest = omega (arith, ap length whole, length-append (take place buffer ++ front) rest) in
    ap (drop (length buffer - length rest)) whole ∙ drop_at (take place buffer ++ front) rest (length buffer - length rest) len

-- what holds of a walk as it was looked at holds of it
pub again_at : (result : Result (Option PackedEntry) Malformed) (new v old : WalkState) → v ≡ old
    → ((e : Packed) (es : List Packed) → AreEntries v.kind (e ∷ es) → left_of v ≡ entries_bytes v.kind (e ∷ es) → GivesEntry e result × (left_of new ≡ entries_bytes v.kind es))
    → ((e : Packed) (es : List Packed) → AreEntries old.kind (e ∷ es) → left_of old ≡ entries_bytes old.kind (e ∷ es) → GivesEntry e result × (left_of new ≡ entries_bytes old.kind es))
again_at result new v old same holds = subst (λ (w : WalkState). (e : Packed) (es : List Packed) → AreEntries w.kind (e ∷ es) → left_of w ≡ entries_bytes w.kind (e ∷ es) → GivesEntry e result × (left_of new ≡ entries_bytes w.kind es)) same holds

pub steps_at : (result : Result (Option PackedEntry) Malformed) (new v old : WalkState) → v ≡ old → StepsToEntry v new result → StepsToEntry old new result
steps_at result new v old same holds = subst (λ (w : WalkState). StepsToEntry w new result) same holds

-- an entry takes at least a byte
pub begins_longer : (kind : PackKind) (buffer : List ℕ) (e : Packed) (rest : List ℕ) → BeginsWithEntry kind buffer e rest → length rest < length buffer
begins_longer kind buffer e rest b =
    let s = ap length (b.spelled ∙ entry_parts kind e (is_nothing rest) rest) in
    let h = length-head kind e.numbers (next_distance kind (size_of kind e) (is_nothing rest)) (length e.name) in
    let a = length-append (head kind e.numbers (next_distance kind (size_of kind e) (is_nothing rest)) (length e.name)) (e.name ++ (padding_of kind (size_of kind e) (is_nothing rest) ++ rest)) in
    let c = length-append e.name (padding_of kind (size_of kind e) (is_nothing rest) ++ rest) in
    let d = length-append (padding_of kind (size_of kind e) (is_nothing rest)) rest in
    omega (arith, s, h, a, c, d, head-some kind)
