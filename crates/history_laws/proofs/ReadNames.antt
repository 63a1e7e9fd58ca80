-- The clients of a script that was read have names, and no two are the same.
use Rattle.std.proofs.Common.{◌≡◌, ℕ, zero, suc, ◌+◌, ◌≤◌, List, [], ◌∷◌, ◌++◌, length, Bool, true, false, if◌then◌else◌, Option, Some, None, Result, Ok, Err, refl, ap, sym, subst, ◌∙◌, inl, inr, ◌⊎◌, arith, ◌<◌, ◌^◌}
use Rattle.std.proofs.lemmas.Bool.{cases_Bool, ltb-false}
use Rattle.std.proofs.lemmas.List.Sums.{count_by-le-length}
use Rattle.std.specs.Prelude.{◌==◌, ◌&&◌, not, nat_le, nat_lt, is_some, codes, nat_eq, drop, position, slice_get}
use Rattle.std.specs.Cmp.Lexicographic.{other_text}
use Rattle.std.specs.List.{position_or_len, starts_with}
use Rattle.fsa_types.specs.declared.request.What.{What}
use Rattle.fsa_types.specs.CaseTable.{is_at_fault}
use Rattle.fsa_model.specs.Setup.{Client, Script}
use Rattle.fsa_model.specs.Fault.{Kind, BadSyntax, Fault, ◌>>=◌, only_if}
use Rattle.fsa_model.specs.Words.{same, word_of, after_word, field_at, number_at, mask_at, ended, is_name, most_id}
use Rattle.fsa_model.specs.Requests.{what_of}
use Rattle.fsa_model.specs.Lines.{Line, Version, DefaultTable, PairTable, Pair, ClientLine, RequestLine, pair_at, sids_at, client_at, request_of, line_of}
use Rattle.fsa_model.specs.Script.{Reading, nothing_read, takes_version, takes_table, takes_pairs, takes_clients, takes_requests, place_of, next_number, with_call, with_client, take_client, take_call, take_request_of, take_request, take_line, line_after, end_after, at_line, lines_from, pieces, script_of}
use Rattle.fsa_model.proofs.ScriptLaws.{script_of-few, script_of-fits, script_of-numbered}
use Rattle.fsa_model.proofs.SettleLaws.{some_equal}
use Rattle.history_laws.specs.Named.{AreNamed, IsReadScript}

-- ---- one client more

get_pushed : {X : Type 0} (items : List X) (last : X) (place : ℕ) (item : X) → slice_get (items ++ last ∷ []) place ≡ Some item → (slice_get items place ≡ Some item) ⊎ ((item ≡ last) × (place ≡ length items))
get_pushed [] last zero item is = inr (sym (some_equal last item is), refl)
get_pushed [] last (suc place) item is = cc
get_pushed (first ∷ items) last zero item is = inl is
get_pushed (first ∷ items) last (suc place) item is = elim (get_pushed items last place item is) [
  | inl before ↦ inl before
  | inr here ↦ inr (here.0, ap suc here.1)
]

-- what a test lets through as far as a list goes
all_fail : {X : Type 0} (test : X → Bool) (items : List X) (place : ℕ) (item : X) → length items ≤ position_or_len test items → slice_get items place ≡ Some item → test item ≡ false
all_fail test [] place item long is = cc
all_fail test (first ∷ items) zero item long is = elim (cases_Bool (test first)) [
  | inl passes ↦ (let impossible : suc (length items) ≤ 0 = rw passes at long in absurd (omega arith))
  | inr fails ↦ subst (λ (x : _). test x ≡ false) (some_equal first item is) fails
]
all_fail test (first ∷ items) (suc place) item long is = elim (cases_Bool (test first)) [
  | inl passes ↦ (let impossible : suc (length items) ≤ 0 = rw passes at long in absurd (omega arith))
  | inr fails ↦ (let more : suc (length items) ≤ 1 + position_or_len test items = rw fails at long in all_fail test items place item (omega arith) is)
]

none_at : {X : Type 0} (test : X → Bool) (items : List X) (place : ℕ) (item : X) → is_some (position test items) ≡ false → slice_get items place ≡ Some item → test item ≡ false
none_at test items place item none is = elim (cases_Bool (nat_lt (position_or_len test items) (length items))) [
  | inl within ↦ (let impossible : true ≡ false = rw within at none in cc)
  | inr past ↦ all_fail test items place item (ltb-false (position_or_len test items) (length items) past) is
]

AreNamed-none : AreNamed []
AreNamed-none = record { names = λ place client is. cc; differ = λ place other client another is also same. cc }

AreNamed-push : (clients : List Client) (name sids : List ℕ) → AreNamed clients → is_name name ≡ true → is_some (place_of clients name) ≡ false
    → AreNamed (clients ++ record { name = name; sids = sids } ∷ [])
AreNamed-push clients name sids named is_one new = record {
  names = λ place client is. elim (get_pushed clients last place client is) [
    | inl before ↦ named.names place client before
    | inr here ↦ ap (λ (c : Client). is_name c.name) here.0 ∙ is_one
  ];
  differ = λ place other client another is also same. elim (get_pushed clients last place client is) [
    | inl first ↦ elim (get_pushed clients last other another also) [
      | inl second ↦ named.differ place other client another first second same
      | inr second ↦ absurd (other_name place client first (same ∙ ap (λ (c : Client). c.name) second.0))
    ]
    | inr first ↦ elim (get_pushed clients last other another also) [
      | inl second ↦ absurd (other_name other another second (sym same ∙ ap (λ (c : Client). c.name) first.0))
      | inr second ↦ first.1 ∙ sym second.1
    ]
  ];
}
  where
    last : Client
    last = record { name = name; sids = sids }

    other_name : (place : ℕ) (client : Client) → slice_get clients place ≡ Some client → client.name ≡ name → ⊥
    other_name place client is alike = other_text name client.name (sym (none_at (λ (c : Client). same name c.name) clients place client new is)) (sym alike)

-- ---- what holds of all that may be read

record IfRead {A E : Type 0} (P : A → Type 0) (read : Result A E) : Type 0 where
  given : (value : A) → read ≡ Ok value → P value

ok-gives : {A E : Type 0} (P : A → Type 0) (value : A) → P value → IfRead {E = E} P (Ok value)
ok-gives P value holds = record { given = λ other is. let alike : value ≡ other = cc in subst P alike holds }

err-gives : {A E : Type 0} (P : A → Type 0) (fault : E) → IfRead {A = A} P (Err fault)
err-gives P fault = record { given = λ value is. cc }

bind-gives : {A B : Type 0} (P : A → Type 0) (Q : B → Type 0) (read : Result A Kind) (more : A → Result B Kind) → IfRead P read → ((value : A) → P value → IfRead Q (more value)) → IfRead Q (read >>= more)
bind-gives P Q (Ok value) more gives next = next value (gives.given value refl)
bind-gives P Q (Err kind) more gives next = err-gives Q kind

then-gives : {A B : Type 0} (Q : B → Type 0) (read : Result A Kind) (more : A → Result B Kind) → ((value : A) → IfRead Q (more value)) → IfRead Q (read >>= more)
then-gives Q (Ok value) more next = next value
then-gives Q (Err kind) more next = err-gives Q kind

if-gives : {A E : Type 0} (P : A → Type 0) (test : Bool) (one other : Result A E) → (test ≡ true → IfRead P one) → (test ≡ false → IfRead P other) → IfRead P (if test then one else other)
if-gives P true one other holds fails = holds refl
if-gives P false one other holds fails = fails refl

only_if-gives : {A : Type 0} (P : A → Type 0) (test : Bool) (value : A) → (test ≡ true → P value) → IfRead P (only_if test value)
only_if-gives P true value holds = ok-gives P value (holds refl)
only_if-gives P false value holds = err-gives P BadSyntax

-- ---- lines

-- the name of a client's line is one
abbrev NamesOne : Line → Type 0
NamesOne (ClientLine name sids) = is_name name ≡ true
NamesOne _ = Unit {0}

ended-gives : (rest : List ℕ) (line : Line) → NamesOne line → IfRead NamesOne (ended rest line)
ended-gives rest line holds = only_if-gives NamesOne (length rest == 0) line (λ none. holds)

pair_at-names : (bytes : List ℕ) → IfRead NamesOne (pair_at bytes)
unfolding pair_at
pair_at-names bytes = then-gives NamesOne (mask_at bytes) _ (λ source. then-gives NamesOne (mask_at source.1) _ (λ target. ended-gives target.1 (Pair source.0 target.0) tt))

client_at-names : (bytes : List ℕ) → IfRead NamesOne (client_at bytes)
unfolding client_at
client_at-names bytes =
    then-gives NamesOne (field_at bytes) _ (λ word.
    bind-gives (λ name. is_name name ≡ true) NamesOne (only_if (is_name word.0) word.0) _ (only_if-gives (λ name. is_name name ≡ true) (is_name word.0) word.0 (λ is. is)) (λ name is.
    then-gives NamesOne (number_at most_id word.1) _ (λ sid. then-gives NamesOne (sids_at 15 sid.1) _ (λ sids. ok-gives NamesOne (ClientLine name (sid.0 ∷ sids)) is))))

request_of-names : (bytes : List ℕ) → IfRead NamesOne (request_of bytes)
unfolding request_of
request_of-names bytes =
    then-gives NamesOne (only_if (is_name (word_of bytes)) (word_of bytes)) _ (λ name. then-gives NamesOne (number_at most_id (after_word bytes)) _ (λ number. then-gives NamesOne (field_at number.1) _ (λ verb.
    then-gives NamesOne (what_of verb.0 verb.1) _ (λ what. ok-gives NamesOne (RequestLine name number.0 what) tt))))

line_of-names : (bytes : List ℕ) → IfRead NamesOne (line_of bytes)
unfolding line_of
line_of-names bytes =
    if-gives NamesOne (same bytes (codes "fsa 1")) _ _ (λ is. ok-gives NamesOne Version tt)
    (λ no. if-gives NamesOne (same bytes (codes "table default")) _ _ (λ is. ok-gives NamesOne DefaultTable tt)
    (λ no. if-gives NamesOne (same bytes (codes "table pairs")) _ _ (λ is. ok-gives NamesOne PairTable tt)
    (λ no. if-gives NamesOne (starts_with nat_eq bytes (codes "up 0x")) _ _ (λ is. pair_at-names (drop 2 bytes))
    (λ no. if-gives NamesOne (starts_with nat_eq bytes (codes "client ")) _ _ (λ is. client_at-names (drop 6 bytes))
    (λ no. request_of-names bytes)))))

-- ---- a script

abbrev HasNames : Reading → Type 0
HasNames reading = AreNamed reading.script.setup.clients

take_client-names : (reading : Reading) (name sids : List ℕ) → HasNames reading → is_name name ≡ true → IfRead HasNames (take_client reading name sids)
unfolding take_client
take_client-names reading name sids named is_one =
    if-gives HasNames (not (takes_clients reading.stage)) _ _ (λ bad. err-gives HasNames _)
    (λ good. if-gives HasNames (is_some (place_of reading.script.setup.clients name)) _ _ (λ known. err-gives HasNames _)
    (λ new. ok-gives HasNames (with_client reading name sids) (AreNamed-push reading.script.setup.clients name sids named is_one new)))

take_call-names : (reading : Reading) (client number : ℕ) (what : What) → HasNames reading → IfRead HasNames (take_call reading client number what)
unfolding take_call
take_call-names reading client number what named =
    if-gives HasNames (number == next_number reading.script.lines client) _ _ (λ is. ok-gives HasNames (with_call reading client number what) named) (λ out. err-gives HasNames _)

take_request_of-names : (reading : Reading) (place : Option ℕ) (number : ℕ) (what : What) → HasNames reading → IfRead HasNames (take_request_of reading place number what)
take_request_of-names reading None number what named = err-gives HasNames _
take_request_of-names reading (Some client) number what named = take_call-names reading client number what named

take_request-names : (reading : Reading) (name : List ℕ) (number : ℕ) (what : What) → HasNames reading → IfRead HasNames (take_request reading name number what)
unfolding take_request
take_request-names reading name number what named =
    if-gives HasNames (not (takes_requests reading.stage)) _ _ (λ over. err-gives HasNames _)
    (λ within. take_request_of-names reading (place_of reading.script.setup.clients name) number what named)

take_line-names : (reading : Reading) (line : Line) → HasNames reading → NamesOne line → IfRead HasNames (take_line reading line)
unfolding take_line
take_line-names reading Version named is_one = only_if-gives HasNames (takes_version reading.stage) _ (λ is. named)
take_line-names reading DefaultTable named is_one = only_if-gives HasNames (takes_table reading.stage) _ (λ is. named)
take_line-names reading PairTable named is_one = only_if-gives HasNames (takes_table reading.stage) _ (λ is. named)
take_line-names reading (Pair source target) named is_one =
    only_if-gives HasNames (takes_pairs reading.stage && nat_le source 65535 && nat_le target 65535 && not (is_at_fault reading.script.setup.table (source, target))) _ (λ is. named)
take_line-names reading (ClientLine name sids) named is_one = take_client-names reading name sids named is_one
take_line-names reading (RequestLine name number what) named is_one = take_request-names reading name number what named

line_after-names : (reading : Reading) (bytes : List ℕ) → HasNames reading → IfRead HasNames (line_after reading bytes)
unfolding line_after
line_after-names reading bytes named = bind-gives NamesOne HasNames (line_of bytes) (take_line reading) (line_of-names bytes) (λ line is_one. take_line-names reading line named is_one)

abbrev ScriptNames : Script → Type 0
ScriptNames script = AreNamed script.setup.clients

end_after-names : (line : ℕ) (reading : Reading) (rest : List ℕ) → HasNames reading → IfRead ScriptNames (end_after line reading rest)
unfolding end_after
end_after-names line reading rest named =
    if-gives ScriptNames (not (length rest == 0)) _ _ (λ cut. err-gives ScriptNames _)
    (λ whole. if-gives ScriptNames (not (takes_requests reading.stage)) _ _ (λ bad. err-gives ScriptNames _) (λ good. ok-gives ScriptNames reading.script named))

at_line-names : (line : ℕ) (read : Result Reading Kind) (more : Reading → Result Script Fault) → IfRead HasNames read → ((next : Reading) → HasNames next → IfRead ScriptNames (more next)) → IfRead ScriptNames (at_line line read more)
at_line-names line (Ok reading) more named next = next reading (named.given reading refl)
at_line-names line (Err kind) more named next = err-gives ScriptNames _

lines_from-names : (line : ℕ) (reading : Reading) (texts : List (List ℕ)) → HasNames reading → IfRead ScriptNames (lines_from line reading texts)
lines_from-names line reading [] named = end_after-names line reading [] named
lines_from-names line reading (bytes ∷ more) named =
    if-gives ScriptNames (length more == 0) _ _
    (λ last. end_after-names line reading bytes named)
    (λ inner. at_line-names line (line_after reading bytes) (λ next. lines_from (line + 1) next more) (line_after-names reading bytes named) (λ next kept. lines_from-names (line + 1) next more kept))

script_of-names : (bytes : List ℕ) → IfRead ScriptNames (script_of bytes)
unfolding script_of
script_of-names bytes =
    if-gives ScriptNames (length bytes == 0) _ _ (λ none. err-gives ScriptNames _)
    (λ some. lines_from-names 1 nothing_read (pieces bytes) AreNamed-none)

-- a script that was read is as the laws of its histories ask
pub script_of-read : (bytes : List ℕ) (script : Script) → length bytes < 2 ^ 63 → script_of bytes ≡ Ok script → IsReadScript script
script_of-read bytes script short is = record {
  named = (script_of-names bytes).given script is;
  fit = script_of-fits bytes script is;
  numbered = script_of-numbered bytes script is;
  few = let few = script_of-few bytes script is in let feeds = count_by-le-length (λ (byte : ℕ). byte == 10) bytes in omega (arith, few, feeds, short);
}
