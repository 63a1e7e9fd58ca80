-- Laws of the generated script: its text writes it, whatever the seed.
use Rattle.std.proofs.Common.{◌≡◌, ◌∙◌, sym, ap, ℕ, zero, suc, ◌+◌, ◌-◌, ◌/◌, ◌%◌, ◌<◌, ◌≤◌, Bool, true, false, List, [], ◌∷◌, ◌++◌, Some, length, map, inl, inr, refl, arith, le-leb, eq-eqb}
use Rattle.std.specs.Prelude.{◌==◌, ◌≢◌, nat_le, nat_lt, if◌then◌else◌, replicate, codes, AllPairs}
use Rattle.std.specs.List.{AllByRecursion, flat_map, list_all}
use Rattle.std.specs.Int.Digits.{digits_of}
use Rattle.std.proofs.lemmas.Int.Digits.{digits_of_step}
use Rattle.std.proofs.lemmas.Bool.{cases_lt, cases_eq, ne_eqb}
use Rattle.std.proofs.lemmas.Bool.Decides.{nat_tests}
use Rattle.std.proofs.lemmas.List.Elements.{All-from_recursion}
use Rattle.std.proofs.lemmas.List.Kept.{AllPairs-cons}
use Rattle.fsa_types.specs.Request.{level_fits}
use Rattle.fsa_types.specs.declared.request.Call.{Call}
use Rattle.fsa_types.specs.declared.request.InfoKind.TheVariants.{Standard}
use Rattle.fsa_types.specs.declared.request.Level.{Level}
use Rattle.fsa_types.specs.declared.request.Level.TheVariants.{Nil, R, RH, RW, RWH}
use Rattle.fsa_types.specs.declared.request.Request.TheVariants.{Close, Read, Write, Lock, QueryInfo, Oplock}
use Rattle.fsa_types.specs.declared.request.What.{What}
use Rattle.fsa_types.specs.declared.request.What.TheVariants.{Ask, WaitFor}
use Rattle.fsa_model.specs.FieldText.{number_text, choice_text, level_text, upper_glyph, unit_text, byte_text, string_text}
use Rattle.fsa_model.specs.Generator.{next_state, drawn, generated_open, generated_path, level_by, generated_what, generated_call, generated_calls, generated_clients, generated_of, generated, lines_text, lines_of, generated_text}
use Rattle.fsa_model.specs.Lines.{Line, RequestLine}
use Rattle.fsa_model.specs.Numbers.{glyph, spelled}
use Rattle.fsa_model.specs.Schedule.{AreNumbered, calls_of}
use Rattle.fsa_model.specs.ScriptText.{client_line, call_line, HasNoFeed, SpellsLines, SpellsScript}
use Rattle.fsa_model.specs.Setup.{Client}
use Rattle.fsa_model.specs.Spelled.{SpellsUnit, SpellsUnits, SpellsFields, Spells, escape_text}
use Rattle.fsa_model.specs.Spelling.{fields_text, can_be_spelled, line_text, is_line}
use Rattle.fsa_model.specs.Text.{name_of}
use Rattle.fsa_model.specs.Verbs.{verb}
use Rattle.fsa_model.specs.Words.{is_plain, is_name, most_id, same}
use Rattle.fsa_model.proofs.ScheduleLaws.{calls_of-push}

-- ---- numbers of two digits

one_digit : (n : ℕ) → 0 < n → n < 10 → digits_of 10 n ≡ n ∷ []
one_digit n some small =
    let none : n / 10 ≡ 0 = omega arith in
    let same : n % 10 ≡ n = omega arith in
    digits_of_step 10 n (omega arith) some ∙ rw (none, same) refl

two_digits : (n : ℕ) → 10 ≤ n → n < 100 → digits_of 10 n ≡ (n / 10) ∷ (n % 10) ∷ []
two_digits n large small = digits_of_step 10 n (omega arith) (omega arith) ∙ ap (λ (front : List ℕ). front ++ (n % 10) ∷ []) (one_digit (n / 10) (omega arith) (omega arith))

glyph-digit : (digit : ℕ) → digit < 10 → glyph digit ≡ 48 + digit
glyph-digit digit small = grind (arith, nat_tests)

-- how a number below 100 is written
pub spelled-small : (n : ℕ) → n < 100 → spelled 10 n ≡ (if nat_lt n 10 then (48 + n) ∷ [] else (48 + n / 10) ∷ (48 + n % 10) ∷ [])
spelled-small n small =
    elim (cases_eq n 0) [
      | inl none ↦ rw none refl
      | inr some ↦
          elim (cases_lt n 10) [
            | inl one ↦
                let test : nat_lt n 10 ≡ true = grind (arith, nat_tests) in
                rw (ne_eqb n 0 some, test) (ap (map glyph) (one_digit n (omega arith) one) ∙ ap (λ (d : ℕ). d ∷ []) (glyph-digit n one))
            | inr two ↦
                let test : nat_lt n 10 ≡ false = grind (arith, nat_tests) in
                rw (ne_eqb n 0 some, test)
                (ap (map glyph) (two_digits n (omega arith) small)
                ∙ ap (λ (d : ℕ). d ∷ glyph (n % 10) ∷ []) (glyph-digit (n / 10) (omega arith))
                ∙ ap (λ (d : ℕ). (48 + n / 10) ∷ d ∷ []) (glyph-digit (n % 10) (omega arith)))
          ]
    ]

-- ---- texts have no line feed

no_feed : (first second : List ℕ) → HasNoFeed first → HasNoFeed second → HasNoFeed (first ++ second)
no_feed [] second one other = other
no_feed (byte ∷ first) second one other = (one.0, no_feed first second one.1 other)

glyph-none : (digit : ℕ) → (glyph digit == 10) ≡ false
glyph-none digit = grind (arith, nat_tests)

upper_glyph-none : (digit : ℕ) → (upper_glyph digit == 10) ≡ false
upper_glyph-none digit = grind (arith, nat_tests)

no_feed-glyphs : (digits : List ℕ) → HasNoFeed (map glyph digits)
no_feed-glyphs [] = tt
no_feed-glyphs (digit ∷ digits) = (glyph-none digit, no_feed-glyphs digits)

no_feed-spelled : (base n : ℕ) → HasNoFeed (spelled base n)
no_feed-spelled base n = by (n == 0) (digits_of base n)
  where
    by : (test : Bool) (digits : List ℕ) → HasNoFeed (if test then 48 ∷ [] else map glyph digits)
    by true digits = (refl, tt)
    by false digits = no_feed-glyphs digits

no_feed-number : (n : ℕ) → HasNoFeed (number_text n)
no_feed-number n = (refl, no_feed-spelled 10 n)

plain-none : (unit : ℕ) → is_plain unit ≡ true → (unit == 10) ≡ false
plain-none unit plain = grind (arith, nat_tests)

no_feed-unit : (unit : ℕ) → HasNoFeed (unit_text unit)
no_feed-unit unit = by (is_plain unit) refl
  where
    by : (test : Bool) → is_plain unit ≡ test → HasNoFeed (if test then unit ∷ [] else escape_text unit)
    by true plain = (plain-none unit plain, tt)
    by false other =
        (refl, (upper_glyph-none (unit / 16 / 16 / 16), (upper_glyph-none (unit / 16 / 16 % 16), (upper_glyph-none (unit / 16 % 16), (upper_glyph-none (unit % 16), tt)))))

no_feed-units : (units : List ℕ) → HasNoFeed (flat_map unit_text units)
no_feed-units [] = tt
no_feed-units (unit ∷ units) = no_feed (unit_text unit) (flat_map unit_text units) (no_feed-unit unit) (no_feed-units units)

no_feed-bytes : (bytes : List ℕ) → HasNoFeed (flat_map byte_text bytes)
no_feed-bytes [] = tt
no_feed-bytes (byte ∷ bytes) = (glyph-none (byte / 16), (glyph-none (byte % 16), no_feed-bytes bytes))

no_feed-level : (level : Level) → HasNoFeed (level_text level)
no_feed-level Nil = (refl, (refl, (refl, (refl, (refl, tt)))))
no_feed-level R = (refl, (refl, tt))
no_feed-level RH = (refl, (refl, (refl, tt)))
no_feed-level RW = (refl, (refl, (refl, tt)))
no_feed-level RWH = (refl, (refl, (refl, (refl, tt))))

-- ---- units are written by their text

SpellsUnit-text : (unit : ℕ) → SpellsUnit unit (unit_text unit)
SpellsUnit-text unit = by (is_plain unit) refl
  where
    by : (test : Bool) → is_plain unit ≡ test → SpellsUnit unit (if test then unit ∷ [] else escape_text unit)
    by true plain = inl (plain, refl)
    by false other = inr refl

SpellsUnits-text : (units : List ℕ) → SpellsUnits units (flat_map unit_text units)
SpellsUnits-text [] = refl
SpellsUnits-text (unit ∷ units) = (unit_text unit, flat_map unit_text units, refl, SpellsUnit-text unit, SpellsUnits-text units)

-- ---- the requests

-- a line can say the call, and its text writes its fields and has no line feed
record IsSaid (what : What) : Type 0 where
  built : can_be_spelled what ≡ true
  word : HasNoFeed (verb what)
  fields : HasNoFeed (fields_text what)
  spells : SpellsFields what (fields_text what)

if_said : (test : Bool) (one other : What) → IsSaid one → IsSaid other → IsSaid (if test then one else other)
if_said true one other this that = this
if_said false one other this that = that

path-fits : (number : ℕ) → list_all (λ unit. nat_le unit 65535) (generated_path number) ≡ true
path-fits number =
    let small : number % 64 < 64 = omega arith in
    rw (spelled-small (number % 64) (omega arith)) (by (number % 64) (nat_lt (number % 64) 10) small)
  where
    by : (n : ℕ) (test : Bool) → n < 64 → list_all (λ unit. nat_le unit 65535) (codes "\\f" ++ (if test then (48 + n) ∷ [] else (48 + n / 10) ∷ (48 + n % 10) ∷ [])) ≡ true
    by n true small = rw (le-leb (48 + n) 65535 (omega arith)) refl
    by n false small = rw (le-leb (48 + n / 10) 65535 (omega arith), le-leb (48 + n % 10) 65535 (omega arith)) refl

create-said : (number : ℕ) → IsSaid (generated_open number)
create-said number = record {
  built = rw (path-fits number) refl;
  word = (refl, (refl, (refl, (refl, (refl, (refl, tt))))));
  fields = (refl, (refl, no_feed (flat_map unit_text (generated_path number)) (codes " 0x3 0x7 open_if 0x0 0x0 0") (no_feed-units (generated_path number)) (refl, (refl, (refl, (refl, (refl, (refl, (refl, (refl, (refl, (refl, (refl, (refl, (refl, (refl, (refl, (refl, (refl, (refl, (refl, (refl, (refl, (refl, (refl, (refl, (refl, (refl, tt))))))))))))))))))))))))))));
  spells = (flat_map unit_text (generated_path number), SpellsUnits-text (generated_path number), refl);
}

wait-said : (handle : ℕ) → handle ≤ most_id → IsSaid (WaitFor handle)
wait-said handle small = record {
  built = le-leb handle most_id small;
  word = (refl, (refl, (refl, (refl, tt))));
  fields = no_feed-number handle;
  spells = refl;
}

level-asked : (choice : ℕ) → level_fits (level_by choice) ≡ true
level-asked choice = by (choice == 0) (choice == 1) (choice == 2)
  where
    by : (one two three : Bool) → level_fits (if one then R else if two then RH else if three then RW else RWH) ≡ true
    by true two three = refl
    by false true three = refl
    by false false true = refl
    by false false false = refl

oplock-said : (handle choice : ℕ) → handle ≤ most_id → IsSaid (Ask (Oplock handle (level_by choice)))
oplock-said handle choice small = record {
  built = rw (le-leb handle most_id small, level-asked choice) refl;
  word = (refl, (refl, (refl, (refl, (refl, (refl, tt))))));
  fields = no_feed (number_text handle) (level_text (level_by choice)) (no_feed-number handle) (no_feed-level (level_by choice));
  spells = refl;
}

write-said : (handle place byte : ℕ) → handle ≤ most_id → place < 65536 → byte < 256 → IsSaid (Ask (Write handle (Some place) (replicate 16 byte)))
write-said handle place byte small within low = record {
  built = rw (le-leb handle most_id small, le-leb place 18446744073709551615 (omega arith), le-leb byte 255 (omega arith)) refl;
  word = (refl, (refl, (refl, (refl, (refl, tt)))));
  fields =
      no_feed (number_text handle) (number_text place ++ string_text (replicate 16 byte)) (no_feed-number handle)
      (no_feed (number_text place) (string_text (replicate 16 byte)) (no_feed-number place) (refl, (refl, no_feed-bytes (replicate 16 byte))));
  spells = refl;
}

read-said : (handle place : ℕ) → handle ≤ most_id → place < 65536 → IsSaid (Ask (Read handle place 4096))
read-said handle place small within = record {
  built = rw (le-leb handle most_id small, le-leb place 18446744073709551615 (omega arith)) refl;
  word = (refl, (refl, (refl, (refl, tt))));
  fields =
      no_feed (number_text handle) (number_text place ++ number_text 4096) (no_feed-number handle) (no_feed (number_text place) (number_text 4096) (no_feed-number place) (no_feed-number 4096));
  spells = refl;
}

no_feed-kind : (exclusive : Bool) → HasNoFeed (choice_text (codes "ex") (codes "sh") exclusive ++ choice_text (codes "wait") (codes "now") false)
no_feed-kind true = (refl, (refl, (refl, (refl, (refl, (refl, (refl, tt)))))))
no_feed-kind false = (refl, (refl, (refl, (refl, (refl, (refl, (refl, tt)))))))

lock-said : (handle place : ℕ) (exclusive : Bool) → handle ≤ most_id → place < 65536 → IsSaid (Ask (Lock handle place 64 exclusive false))
lock-said handle place exclusive small within =
    let kind = choice_text (codes "ex") (codes "sh") exclusive ++ choice_text (codes "wait") (codes "now") false in
    record {
      built = rw (le-leb handle most_id small, le-leb place 18446744073709551615 (omega arith)) refl;
      word = (refl, (refl, (refl, (refl, tt))));
      fields =
          no_feed (number_text handle) (number_text place ++ (number_text 64 ++ kind)) (no_feed-number handle)
          (no_feed (number_text place) (number_text 64 ++ kind) (no_feed-number place) (no_feed (number_text 64) kind (no_feed-number 64) (no_feed-kind exclusive)));
      spells = refl;
    }

query-said : (handle : ℕ) → handle ≤ most_id → IsSaid (Ask (QueryInfo handle Standard 24))
query-said handle small = record {
  built = rw (le-leb handle most_id small) refl;
  word = (refl, (refl, (refl, (refl, (refl, tt)))));
  fields = no_feed (number_text handle) _ (no_feed-number handle) (refl, (refl, (refl, (refl, (refl, (refl, (refl, (refl, (refl, no_feed-number 24)))))))));
  spells = refl;
}

close-said : (handle : ℕ) → handle ≤ most_id → IsSaid (Ask (Close handle))
close-said handle small = record {
  built = le-leb handle most_id small;
  word = (refl, (refl, (refl, (refl, (refl, tt)))));
  fields = no_feed-number handle;
  spells = refl;
}

generated_what-said : (step handle number : ℕ) → handle ≤ most_id → IsSaid (generated_what step handle number)
generated_what-said step handle number small =
    let within : number % 65536 < 65536 = omega arith in
    let low : number % 256 < 256 = omega arith in
    if_said (step == 0) _ _ (create-said number)
    (if_said (step == 1) _ _ (wait-said handle small)
    (if_said (step == 2) _ _ (oplock-said handle (number % 4) small)
    (if_said (step == 3) _ _ (write-said handle (number % 65536) (number % 256) small within low)
    (if_said (step == 4) _ _ (read-said handle (number % 65536) small within)
    (if_said (step == 5) _ _ (lock-said handle (number % 65536) (number % 2 == 1) small within)
    (if_said (step == 6) _ _ (query-said handle small) (close-said handle small)))))))

-- ---- the lines

-- a line is one, and its text writes it and has no line feed
record IsWritten (line : Line) : Type 0 where
  no_feed : HasNoFeed (line_text line)
  is : is_line line ≡ true
  spells : Spells line (line_text line)

SpellsLines-text : (lines : List Line) → AllByRecursion IsWritten lines → SpellsLines lines (lines_text lines)
SpellsLines-text [] written = refl
SpellsLines-text (line ∷ lines) written = (line_text line, lines_text lines, refl, written.0.no_feed, written.0.is, written.0.spells, SpellsLines-text lines written.1)

written-append : (front back : List Line) → AllByRecursion IsWritten front → AllByRecursion IsWritten back → AllByRecursion IsWritten (front ++ back)
written-append [] back one other = other
written-append (line ∷ front) back one other = (one.0, written-append front back one.1 other)

record IsNamed (name : List ℕ) : Type 0 where
  is : is_name name ≡ true
  no_feed : HasNoFeed name

named : (client : ℕ) → client < 4 → IsNamed (name_of generated_clients client)
named zero below = record { is = refl; no_feed = (refl, (refl, tt)) }
named (suc zero) below = record { is = refl; no_feed = (refl, (refl, tt)) }
named (suc (suc zero)) below = record { is = refl; no_feed = (refl, (refl, tt)) }
named (suc (suc (suc zero))) below = record { is = refl; no_feed = (refl, (refl, tt)) }
named (suc (suc (suc (suc client)))) below = absurd (omega arith)

request-written : (name : List ℕ) (number : ℕ) (what : What) → IsNamed name → number ≤ most_id → IsSaid what → IsWritten (RequestLine name number what)
request-written name number what is small said = record {
  no_feed =
      no_feed name (number_text number ++ (32 ∷ (verb what ++ fields_text what))) is.no_feed
      (no_feed (number_text number) (32 ∷ (verb what ++ fields_text what)) (no_feed-number number) (refl, no_feed (verb what) (fields_text what) said.word said.fields));
  is = rw (is.is, le-leb number most_id small, said.built) refl;
  spells = (fields_text what, said.spells, refl);
}

calls-written : (more place state : ℕ) → more + place ≤ 16384 → AllByRecursion IsWritten (map (call_line generated_clients) (generated_calls more place state))
calls-written zero place state few = tt
calls-written (suc more) place state few = (
  request-written (name_of generated_clients (place % 4)) (place / 4 + 1) (generated_what (place / 4 % 8) (place / 4 + 1 - place / 4 % 8) (drawn (next_state state))) (named (place % 4) (omega arith)) (omega arith)
      (generated_what-said (place / 4 % 8) (place / 4 + 1 - place / 4 % 8) (drawn (next_state state)) (omega arith)),
  calls-written more (place + 1) (next_state state) (omega arith),
)

clients-written : AllByRecursion IsWritten (map client_line generated_clients)
clients-written = (
  record { no_feed = (refl, (refl, (refl, (refl, (refl, (refl, (refl, (refl, (refl, (refl, (refl, (refl, tt)))))))))))); is = refl; spells = refl },
  (
    record { no_feed = (refl, (refl, (refl, (refl, (refl, (refl, (refl, (refl, (refl, (refl, (refl, (refl, tt)))))))))))); is = refl; spells = refl },
    (
      record { no_feed = (refl, (refl, (refl, (refl, (refl, (refl, (refl, (refl, (refl, (refl, (refl, (refl, tt)))))))))))); is = refl; spells = refl },
      (record { no_feed = (refl, (refl, (refl, (refl, (refl, (refl, (refl, (refl, (refl, (refl, (refl, (refl, tt)))))))))))); is = refl; spells = refl }, tt),
    ),
  ),
)

-- ---- the numbers of the calls

-- so many calls of each client stand before this place
abbrev HasCallsBefore : ℕ → List Call → Type 0
HasCallsBefore place before = (client : ℕ) → client < 4 → calls_of client before ≡ (place + 3 - client) / 4

-- one call more of the client whose turn it is, and none of another
calls-next : (place : ℕ) (before : List Call) (call : Call) → call.client ≡ place % 4 → HasCallsBefore place before → HasCallsBefore (place + 1) (before ++ call ∷ [])
calls-next place before call is has client below =
    calls_of-push client before call
    ∙ elim (cases_eq call.client client) [
      | inl same ↦ rw (eq-eqb call.client client same) (let count : calls_of client before ≡ (place + 3 - client) / 4 = has client below in omega arith)
      | inr other ↦
          rw (ne_eqb call.client client other)
          (let count : calls_of client before ≡ (place + 3 - client) / 4 = has client below in
          elim (cases_lt call.client client) [
            | inl less ↦ omega arith
            | inr more ↦ (let past : client < call.client = omega arith in omega arith)
          ])
    ]

calls-numbered : (more place state : ℕ) (before : List Call) → HasCallsBefore place before → AreNumbered before (generated_calls more place state)
calls-numbered zero place state before has = tt
calls-numbered (suc more) place state before has = (
  (let count : calls_of (place % 4) before ≡ (place + 3 - place % 4) / 4 = has (place % 4) (omega arith) in omega arith),
  calls-numbered more (place + 1) (next_state state) (before ++ generated_call place (drawn (next_state state)) ∷ []) (calls-next place before (generated_call place (drawn (next_state state))) refl has),
)

calls-of-clients : (more place state : ℕ) → AllByRecursion (λ (call : Call). call.client < 4) (generated_calls more place state)
calls-of-clients zero place state = tt
calls-of-clients (suc more) place state = (omega arith, calls-of-clients more (place + 1) (next_state state))

-- ---- the clients

differs : (left right : List ℕ) → same left right ≡ false → same right right ≡ true → left ≢ right
differs left right other itself is = (let e : true ≡ false = sym itself ∙ ap (λ (name : List ℕ). same name right) (sym is) ∙ other in cc)

abbrev Differ : Client → Client → Type 0
Differ earlier later = earlier.name ≢ later.name

names-differ : AllPairs Differ generated_clients
names-differ =
    let c0 : Client = record { name = codes "c0"; sids = 10 ∷ [] } in
    let c1 : Client = record { name = codes "c1"; sids = 11 ∷ [] } in
    let c2 : Client = record { name = codes "c2"; sids = 12 ∷ [] } in
    let c3 : Client = record { name = codes "c3"; sids = 13 ∷ [] } in
    AllPairs-cons Differ c0 (c1 ∷ c2 ∷ c3 ∷ []) (All-from_recursion (Differ c0) (c1 ∷ c2 ∷ c3 ∷ []) (differs (codes "c0") (codes "c1") refl refl, (differs (codes "c0") (codes "c2") refl refl, (differs (codes "c0") (codes "c3") refl refl, tt))))
    (AllPairs-cons Differ c1 (c2 ∷ c3 ∷ []) (All-from_recursion (Differ c1) (c2 ∷ c3 ∷ []) (differs (codes "c1") (codes "c2") refl refl, (differs (codes "c1") (codes "c3") refl refl, tt)))
    (AllPairs-cons Differ c2 (c3 ∷ []) (All-from_recursion (Differ c2) (c3 ∷ []) (differs (codes "c2") (codes "c3") refl refl, tt))
    (AllPairs-cons Differ c3 [] (All-from_recursion (Differ c3) [] tt) (λ i j d lt within. absurd (omega arith)))))

-- ---- the script

generated_of-spelled : (count seed : ℕ) → count ≤ 16384 → SpellsScript (lines_text (lines_of (generated_of count seed))) (generated_of count seed)
generated_of-spelled count seed few = record {
  lines = lines_of (generated_of count seed);
  spelled =
      SpellsLines-text (lines_of (generated_of count seed))
      (record { no_feed = (refl, (refl, (refl, (refl, (refl, tt))))); is = refl; spells = refl }, written-append (map client_line generated_clients) (map (call_line generated_clients) (generated_calls count 0 seed)) clients-written (calls-written count 0 seed (omega arith)));
  says = record {
    table = [];
    says_table = inl (inl refl, refl);
    in_order = refl;
    some_client = omega arith;
    names_differ = names-differ;
    of_clients = All-from_recursion (λ (call : Call). call.client < 4) (generated_calls count 0 seed) (calls-of-clients count 0 seed);
    numbered = calls-numbered count 0 seed [] (λ client below. omega arith);
  };
}

length-calls : (more place state : ℕ) → length (generated_calls more place state) ≡ more
length-calls zero place state = refl
length-calls (suc more) place state = ap suc (length-calls more (place + 1) (next_state state))

pub length-generated : (seed : ℕ) → length (generated seed).lines ≡ 4096
unfolding generated
length-generated seed = length-calls 4096 0 seed

-- the text of the generated script writes it
pub generated-spelled : (seed : ℕ) → SpellsScript (generated_text seed) (generated seed)
unfolding generated
generated-spelled seed = generated_of-spelled 4096 seed (omega arith)
