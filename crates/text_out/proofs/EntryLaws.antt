-- Laws of the steps of a walk: what it finds is what is printed next, and where it finds nothing nothing is printed.
use Rattle.std.proofs.Common.{◌≡◌, ℕ, ◌<◌, ◌^◌, Bool, true, false, List, Option, Some, None, Ok, Err, refl, ap, subst, arith, inl, inr}
use Rattle.std.specs.Prelude.{IfSome, IfNone}
use Rattle.fsa_types.specs.Packing.{Packed, rounded, size_of, is_nothing}
use Rattle.fsa_types.specs.declared.reply.PackKind.{PackKind}
use Rattle.fsa_model.specs.PackedText.{packed_text, read_entry, StartsWith}
use Rattle.fsa_model.proofs.PackedLaws.{StartsWith-longer, StartsWith-read, packed_text-none, packed_text-step, read-StartsWith}
use Rattle.fsa_model.proofs.RowLaws.{option_cases}
use Rattle.pack_info.specs.Entries.{BeginsWithEntry, next_distance}
use Rattle.pack_info.specs.Walks.{StepsToEntry, WalkState, left_of, seen}
use Rattle.pack_info.specs.declared.walk.Malformed.{Malformed}
use Rattle.pack_info.specs.declared.walk.PackedEntry.{PackedEntry}
use Rattle.text_out.specs.EntrySteps.{Finds, FindsNone}

-- ---- what a buffer begins with, as a walk says it and as the text does

starts : (kind : PackKind) (buffer : List ℕ) (e : Packed) (rest : List ℕ) → BeginsWithEntry kind buffer e rest → StartsWith kind buffer e rest
starts kind buffer e rest b = record {
  is_packed = record {
    numbers = record {
      action = b.is_entry.numbers.action;
      creation = b.is_entry.numbers.creation;
      access = b.is_entry.numbers.access;
      write = b.is_entry.numbers.write;
      change = b.is_entry.numbers.change;
      length = b.is_entry.numbers.length;
      room = b.is_entry.numbers.room;
      attributes = b.is_entry.numbers.attributes;
      file = b.is_entry.numbers.file;
    };
    only = b.is_entry.only;
    name = b.is_entry.name;
    len = b.is_entry.len;
    next = λ more. subst (λ (last : Bool). next_distance kind (size_of kind e) last < 2 ^ 32) more b.is_entry.next;
  };
  spelled = b.spelled;
}

next-fits : (kind : PackKind) (size : ℕ) (last : Bool) → (last ≡ false → rounded kind size < 2 ^ 32) → next_distance kind size last < 2 ^ 32
next-fits kind size true fits = omega arith
next-fits kind size false fits = fits refl

begins : (kind : PackKind) (buffer : List ℕ) (e : Packed) (rest : List ℕ) → StartsWith kind buffer e rest → BeginsWithEntry kind buffer e rest
begins kind buffer e rest s = record {
  is_entry = record {
    numbers = record {
      action = s.is_packed.numbers.action;
      creation = s.is_packed.numbers.creation;
      access = s.is_packed.numbers.access;
      write = s.is_packed.numbers.write;
      change = s.is_packed.numbers.change;
      length = s.is_packed.numbers.length;
      room = s.is_packed.numbers.room;
      attributes = s.is_packed.numbers.attributes;
      file = s.is_packed.numbers.file;
    };
    only = s.is_packed.only;
    name = s.is_packed.name;
    len = s.is_packed.len;
    next = next-fits kind (size_of kind e) (is_nothing rest) s.is_packed.next;
  };
  spelled = s.spelled;
}

-- ---- a step

step-found : (old new : WalkState) (entry : PackedEntry) → StepsToEntry old new (Ok (Some entry)) → Finds old new (seen entry)
step-found old new entry steps =
    let here : StartsWith old.kind (left_of old) (seen entry) (left_of new) = starts old.kind (left_of old) (seen entry) (left_of new) steps.0 in
    record {
      kind = steps.1;
      text = packed_text-step old.kind (left_of old) (seen entry) (left_of new) (StartsWith-read old.kind (left_of old) (seen entry) (left_of new) here);
      shorter = StartsWith-longer old.kind (left_of old) (seen entry) (left_of new) here;
    }

pub found_of : (old new : WalkState) (next : Option PackedEntry) → StepsToEntry old new (Ok next) → IfSome next (λ entry. Finds old new (seen entry))
found_of old new None steps = tt
found_of old new (Some entry) steps = step-found old new entry steps

pub none_of : (old new : WalkState) (next : Option PackedEntry) → StepsToEntry old new (Ok next) → IfNone next (FindsNone old)
none_of old new None steps = ap (packed_text old.kind) steps.0
none_of old new (Some entry) steps = tt

pub fault_of : (old new : WalkState) (malformed : Malformed) → StepsToEntry old new (Err malformed) → FindsNone old
fault_of old new malformed steps = elim (option_cases (read_entry old.kind (left_of old))) [
  | inl none ↦ packed_text-none old.kind (left_of old) none
  | inr some ↦ absurd (steps.3 some.0.0 some.0.1 (begins old.kind (left_of old) some.0.0 some.0.1 (read-StartsWith old.kind (left_of old) some.0.0 some.0.1 some.1)))
]
