-- Lines that are written are read again.
use Rattle.std.proofs.Common.{◌≡◌, ◌∙◌, sym, ap, ℕ, zero, suc, ◌+◌, ◌≤◌, true, false, ◌&&◌, List, [], ◌∷◌, ◌++◌, length, take, drop, inl, inr, refl, arith, nat_eq}
use Rattle.std.specs.Prelude.{Ok, Err, nat_le, ◌==◌}
use Rattle.std.specs.List.{list_all, starts_with, position_or_len}
use Rattle.std.proofs.lemmas.Bool.{cases_Bool, eqb-true, ne_eqb}
use Rattle.std.proofs.lemmas.Bool.Decides.{Decides-eqb}
use Rattle.std.proofs.lemmas.Slice.Eq.{starts_is}
use Rattle.fsa_types.specs.declared.request.What.{What}
use Rattle.fsa_model.specs.Fault.{BadSyntax}
use Rattle.fsa_model.specs.Words.{same, word_of, field_at, number_at, is_name, is_name_byte, most_id}
use Rattle.fsa_model.specs.FieldText.{number_text, mask_text}
use Rattle.fsa_model.specs.Verbs.{verb}
use Rattle.fsa_model.specs.Spelling.{fields_text, can_be_spelled, sids_text, line_text, is_line}
use Rattle.fsa_model.specs.Lines.{Line, Version, DefaultTable, PairTable, Pair, ClientLine, RequestLine, pair_at, sids_at, client_at, request_of, line_of}
use Rattle.fsa_model.specs.Spelled.{Spells, SpellsFields}
use Rattle.script_read.proofs.SpellLemmas.{both, at_most, same-eq, unless, NoSpace, EndsWord, word_of-again, after_word-again, field_at-again, number_at-again, mask_at-again, mask_at-last}
use Rattle.script_read.proofs.VerbLemmas.{what_of-again, NoSpace-verb, EndsWord-fields, EndsWord-spelled, what_of-spelled}

-- ---- names

no_space : (byte : ℕ) → is_name_byte byte ≡ true → (byte == 32) ≡ false
no_space byte fits =
    elim (cases_Bool (byte == 32)) [
      | inl space ↦
          let is : byte ≡ 32 = eqb-true byte 32 space in
          let never : is_name_byte 32 ≡ true = rw is at fits in
          absurd (let e : false ≡ true = never in cc)
      | inr other ↦ other
    ]

NoSpace-bytes : (bytes : List ℕ) → list_all is_name_byte bytes ≡ true → NoSpace bytes
NoSpace-bytes [] all = tt
NoSpace-bytes (byte ∷ bytes) all =
    let parts = both (is_name_byte byte) (list_all is_name_byte bytes) all in
    (no_space byte parts.0, NoSpace-bytes bytes parts.1)

NoSpace-name : (name : List ℕ) → is_name name ≡ true → NoSpace name
NoSpace-name name fits =
    let outer = both (nat_le 1 (length name) && nat_le (length name) 16 && list_all is_name_byte name) _ fits in
    let inner = both (nat_le 1 (length name) && nat_le (length name) 16) (list_all is_name_byte name) outer.0 in
    NoSpace-bytes name inner.1

-- ---- requests

request_of-again : (name : List ℕ) (number : ℕ) (what : What) → is_name name ≡ true → number ≤ most_id → can_be_spelled what ≡ true
    → request_of (line_text (RequestLine name number what)) ≡ Ok (RequestLine name number what)
unfolding request_of
request_of-again name number what fits small built =
    let fields = 32 ∷ (verb what ++ fields_text what) in
    let rest = number_text number ++ fields in
    let plain = NoSpace-name name fits in
    rw (
      word_of-again name rest plain refl,
      after_word-again name rest plain refl,
      fits,
      number_at-again 4294967295 number fields small refl,
      field_at-again (verb what) (fields_text what) (NoSpace-verb what built) (EndsWord-fields what built),
      what_of-again what built,
    ) refl

-- a line of another kind is no request
starts-eq : (bytes front : List ℕ) → starts_with nat_eq bytes front ≡ true → bytes ≡ front ++ drop (length front) bytes
starts-eq bytes front is = (starts_is Decides-eqb bytes front (starts_with nat_eq bytes front) refl).0 is

apart : (bytes other : List ℕ) (line : Line) → request_of bytes ≡ Ok line → request_of other ≡ Err BadSyntax → bytes ≡ other → false ≡ true
apart bytes other line reads fails is =
    let both_ways : Ok line ≡ Err BadSyntax = sym reads ∙ ap request_of is ∙ fails in cc

version_fails : request_of (102 ∷ 115 ∷ 97 ∷ 32 ∷ 49 ∷ []) ≡ Err BadSyntax
unfolding request_of number_at field_at
version_fails = refl

default_fails : request_of (116 ∷ 97 ∷ 98 ∷ 108 ∷ 101 ∷ 32 ∷ 100 ∷ 101 ∷ 102 ∷ 97 ∷ 117 ∷ 108 ∷ 116 ∷ []) ≡ Err BadSyntax
unfolding request_of number_at field_at
default_fails = refl

pairs_fails : request_of (116 ∷ 97 ∷ 98 ∷ 108 ∷ 101 ∷ 32 ∷ 112 ∷ 97 ∷ 105 ∷ 114 ∷ 115 ∷ []) ≡ Err BadSyntax
unfolding request_of number_at field_at
pairs_fails = refl

word_of-0x : (rest : List ℕ) → word_of (48 ∷ 120 ∷ rest) ≡ 48 ∷ 120 ∷ word_of rest
word_of-0x rest =
    let longer : 1 + (1 + position_or_len (λ byte. byte == 32) rest) ≡ suc (suc (position_or_len (λ byte. byte == 32) rest)) = omega arith in
    ap (λ n. take n (48 ∷ 120 ∷ rest)) longer

pair_fails : (rest : List ℕ) → request_of (117 ∷ 112 ∷ 32 ∷ 48 ∷ 120 ∷ rest) ≡ Err BadSyntax
unfolding request_of number_at field_at
pair_fails rest = rw (word_of-0x rest) refl

client_fails : (rest : List ℕ) → request_of (99 ∷ 108 ∷ 105 ∷ 101 ∷ 110 ∷ 116 ∷ 32 ∷ rest) ≡ Err BadSyntax
unfolding request_of
client_fails rest = refl

line_of-request : (bytes : List ℕ) (line : Line) → request_of bytes ≡ Ok line → line_of bytes ≡ Ok line
unfolding line_of
line_of-request bytes line reads =
    let not_version = unless (same bytes (102 ∷ 115 ∷ 97 ∷ 32 ∷ 49 ∷ [])) (λ is. apart bytes _ line reads version_fails (same-eq bytes _ is)) in
    let not_default = unless (same bytes (116 ∷ 97 ∷ 98 ∷ 108 ∷ 101 ∷ 32 ∷ 100 ∷ 101 ∷ 102 ∷ 97 ∷ 117 ∷ 108 ∷ 116 ∷ [])) (λ is. apart bytes _ line reads default_fails (same-eq bytes _ is)) in
    let not_pairs = unless (same bytes (116 ∷ 97 ∷ 98 ∷ 108 ∷ 101 ∷ 32 ∷ 112 ∷ 97 ∷ 105 ∷ 114 ∷ 115 ∷ [])) (λ is. apart bytes _ line reads pairs_fails (same-eq bytes _ is)) in
    let not_pair = unless (starts_with nat_eq bytes (117 ∷ 112 ∷ 32 ∷ 48 ∷ 120 ∷ [])) (λ is. apart bytes (117 ∷ 112 ∷ 32 ∷ 48 ∷ 120 ∷ drop 5 bytes) line reads (pair_fails (drop 5 bytes)) (starts-eq bytes (117 ∷ 112 ∷ 32 ∷ 48 ∷ 120 ∷ []) is)) in
    let not_client = unless (starts_with nat_eq bytes (99 ∷ 108 ∷ 105 ∷ 101 ∷ 110 ∷ 116 ∷ 32 ∷ [])) (λ is. apart bytes (99 ∷ 108 ∷ 105 ∷ 101 ∷ 110 ∷ 116 ∷ 32 ∷ drop 7 bytes) line reads (client_fails (drop 7 bytes)) (starts-eq bytes (99 ∷ 108 ∷ 105 ∷ 101 ∷ 110 ∷ 116 ∷ 32 ∷ []) is)) in
    rw (not_version, not_default, not_pairs, not_pair, not_client) reads

-- ---- clients

EndsWord-sids : (sids : List ℕ) → EndsWord (sids_text sids)
EndsWord-sids [] = tt
EndsWord-sids (sid ∷ sids) = refl

sids_at-again : (most : ℕ) (sids : List ℕ) → length sids ≤ most → list_all (λ sid. nat_le sid most_id) sids ≡ true
    → sids_at most (sids_text sids) ≡ Ok sids
unfolding sids_at
sids_at-again zero [] few small = refl
sids_at-again zero (sid ∷ sids) few small = absurd (omega arith)
sids_at-again (suc most) [] few small = refl
sids_at-again (suc most) (sid ∷ sids) few small =
    let parts = both (nat_le sid most_id) (list_all (λ s. nat_le s most_id) sids) small in
    let some : (length (number_text sid ++ sids_text sids) == 0) ≡ false = ne_eqb _ 0 (λ e. absurd (omega arith)) in
    rw (some, number_at-again 4294967295 sid (sids_text sids) (at_most sid most_id parts.0) (EndsWord-sids sids), sids_at-again most sids (omega arith) parts.1) refl

client_at-again : (name : List ℕ) (sids : List ℕ) → is_name name ≡ true → 1 ≤ length sids → length sids ≤ 16
    → list_all (λ sid. nat_le sid most_id) sids ≡ true → client_at (32 ∷ (name ++ sids_text sids)) ≡ Ok (ClientLine name sids)
unfolding client_at
client_at-again name [] fits some few small = absurd (omega arith)
client_at-again name (sid ∷ sids) fits some few small =
    let parts = both (nat_le sid most_id) (list_all (λ s. nat_le s most_id) sids) small in
    rw (
      field_at-again name (sids_text (sid ∷ sids)) (NoSpace-name name fits) refl,
      fits,
      number_at-again 4294967295 sid (sids_text sids) (at_most sid most_id parts.0) (EndsWord-sids sids),
      sids_at-again 15 sids (omega arith) parts.1,
    ) refl

-- ---- pairs

pair_at-again : (source target : ℕ) → source ≤ 4294967295 → target ≤ 4294967295 → pair_at (mask_text source ++ mask_text target) ≡ Ok (Pair source target)
unfolding pair_at
pair_at-again source target low high = rw (mask_at-again source (mask_text target) low refl, mask_at-last target high) refl

-- ---- all lines

pub line_of-again : (line : Line) → is_line line ≡ true → line_of (line_text line) ≡ Ok line
unfolding line_of
line_of-again Version fits = refl
line_of-again DefaultTable fits = refl
line_of-again PairTable fits = refl
line_of-again (Pair source target) fits =
    let parts = both (nat_le source 4294967295) (nat_le target 4294967295) fits in
    pair_at-again source target (at_most source 4294967295 parts.0) (at_most target 4294967295 parts.1)
line_of-again (ClientLine name sids) fits =
    let all = list_all (λ sid. nat_le sid most_id) sids in
    let outer = both (is_name name && nat_le 1 (length sids) && nat_le (length sids) 16) all fits in
    let middle = both (is_name name && nat_le 1 (length sids)) (nat_le (length sids) 16) outer.0 in
    let inner = both (is_name name) (nat_le 1 (length sids)) middle.0 in
    client_at-again name sids inner.0 (at_most 1 (length sids) inner.1) (at_most (length sids) 16 middle.1) outer.1
line_of-again (RequestLine name number what) fits =
    let outer = both (is_name name && nat_le number most_id) (can_be_spelled what) fits in
    let inner = both (is_name name) (nat_le number most_id) outer.0 in
    line_of-request (line_text (RequestLine name number what)) (RequestLine name number what)
    (request_of-again name number what inner.0 (at_most number most_id inner.1) outer.1)

request_of-spelled : (name : List ℕ) (number : ℕ) (what : What) (fields : List ℕ) → is_name name ≡ true → number ≤ most_id → can_be_spelled what ≡ true → SpellsFields what fields
    → request_of (name ++ (number_text number ++ (32 ∷ (verb what ++ fields)))) ≡ Ok (RequestLine name number what)
unfolding request_of
request_of-spelled name number what fields fits small built spells =
    let behind = 32 ∷ (verb what ++ fields) in
    let rest = number_text number ++ behind in
    let plain = NoSpace-name name fits in
    rw (
      word_of-again name rest plain refl,
      after_word-again name rest plain refl,
      fits,
      number_at-again 4294967295 number behind small refl,
      field_at-again (verb what) fields (NoSpace-verb what built) (EndsWord-spelled what fields spells built),
      what_of-spelled what fields spells built,
    ) refl

-- bytes that write a line are read as that line
pub line_of-spelled : (bytes : List ℕ) (line : Line) → is_line line ≡ true → Spells line bytes → line_of bytes ≡ Ok line
line_of-spelled bytes Version fits is = rw is (line_of-again Version fits)
line_of-spelled bytes DefaultTable fits is = rw is (line_of-again DefaultTable fits)
line_of-spelled bytes PairTable fits is = rw is (line_of-again PairTable fits)
line_of-spelled bytes (Pair source target) fits is = rw is (line_of-again (Pair source target) fits)
line_of-spelled bytes (ClientLine name sids) fits is = rw is (line_of-again (ClientLine name sids) fits)
line_of-spelled bytes (RequestLine name number what) fits spells =
    let outer = both (is_name name && nat_le number most_id) (can_be_spelled what) fits in
    let inner = both (is_name name) (nat_le number most_id) outer.0 in
    rw spells.2
    (line_of-request (name ++ (number_text number ++ (32 ∷ (verb what ++ spells.0)))) (RequestLine name number what)
    (request_of-spelled name number what spells.0 inner.0 (at_most number most_id inner.1) outer.1 spells.1))

-- two lines of one text are one line
pub line_text-injective : (left right : Line) → is_line left ≡ true → is_line right ≡ true → line_text left ≡ line_text right → left ≡ right
line_text-injective left right fits_left fits_right is =
    let reads : Ok left ≡ Ok right = sym (line_of-again left fits_left) ∙ ap line_of is ∙ line_of-again right fits_right in cc
