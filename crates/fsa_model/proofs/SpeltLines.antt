-- What is read as a line is written so, backwards.
use Rattle.std.proofs.Common.{◌≡◌, ◌∙◌, sym, ap, subst, ℕ, zero, suc, ◌≤◌, true, List, [], ◌∷◌, ◌++◌, Result, Ok, Err, length, drop, inl, inr, refl, arith, append-nil, le-leb}
use Rattle.std.specs.Prelude.{◌==◌, nat_le, nat_eq, codes}
use Rattle.std.specs.List.{list_all, position_or_len, starts_with}
use Rattle.std.proofs.lemmas.List.{take-append-drop}
use Rattle.fsa_model.specs.Fault.{Kind, ◌>>=◌, only_if}
use Rattle.fsa_model.specs.Words.{most_id, same, word_of, after_word, field_at, number_at, mask_at, is_name, onto}
use Rattle.fsa_model.specs.FieldText.{number_text, mask_text}
use Rattle.fsa_model.specs.Requests.{what_of}
use Rattle.fsa_model.specs.Lines.{Line, Version, DefaultTable, PairTable, Pair, ClientLine, RequestLine, pair_at, sids_at, client_at, request_of, line_of}
use Rattle.fsa_model.specs.Spelling.{sids_text, is_line}
use Rattle.fsa_model.specs.Spelled.{Spells}
use Rattle.fsa_model.proofs.SpeltLaws.{bind_ok, only_if_ok, ended_ok, none_left, field_back, number_at-back, mask_at-back}
use Rattle.fsa_model.proofs.SpeltVerbs.{if_or, same-is, starts-is, what_of-back}

-- what was read as a line, and how these bytes write it
abbrev pub SaysLine : List ℕ → Line → Type 0
SaysLine bytes line = (is_line line ≡ true) × Spells line bytes

-- ---- pairs

pair_back : (bytes : List ℕ) (line : Line) → pair_at bytes ≡ Ok line → SaysLine (codes "up" ++ bytes) line
unfolding pair_at
pair_back bytes line is =
    let source = bind_ok (mask_at bytes) _ line is in
    let target = bind_ok (mask_at source.0.1) _ line source.2 in
    let last = ended_ok target.0.1 (Pair source.0.0 target.0.0) line target.2 in
    let first = mask_at-back bytes source.0 source.1 in
    let second = mask_at-back source.0.1 target.0 target.1 in
    subst (λ (l : Line). SaysLine (codes "up" ++ bytes) l) last.1 (
      rw (le-leb source.0.0 4294967295 first.1, le-leb target.0.0 4294967295 second.1) refl,
      ap (λ (rest : List ℕ). codes "up" ++ rest) (first.0
          ∙ ap (λ (rest : List ℕ). mask_text source.0.0 ++ rest) (second.0
          ∙ ap (λ (rest : List ℕ). mask_text target.0.0 ++ rest) last.0 ∙ append-nil (mask_text target.0.0))),
    )

-- ---- clients

abbrev ReadsSids : ℕ → List ℕ → List ℕ → Type 0
ReadsSids most sids bytes = (bytes ≡ sids_text sids) × (list_all (λ sid. nat_le sid most_id) sids ≡ true) × (length sids ≤ most)

no_sids : (most : ℕ) (bytes sids : List ℕ) → bytes ≡ [] → [] ≡ sids → ReadsSids most sids bytes
no_sids most bytes sids none same = subst (λ (s : List ℕ). ReadsSids most s bytes) same (none, refl, omega arith)

onto_sid : (sid : ℕ) (read : Result (List ℕ) Kind) (value : List ℕ) → onto sid read ≡ Ok value → (sids : List ℕ) × (read ≡ Ok sids) × (sid ∷ sids ≡ value)
onto_sid sid (Ok sids) value is = (sids, refl, (let e : Ok (sid ∷ sids) ≡ Ok value = is in cc))
onto_sid sid (Err kind) value is = absurd (let e : Err kind ≡ Ok value = is in cc)

sids_back : (most : ℕ) (bytes sids : List ℕ) → sids_at most bytes ≡ Ok sids → ReadsSids most sids bytes
unfolding sids_at
sids_back zero bytes sids is = let parts = only_if_ok (length bytes == 0) [] sids is in no_sids zero bytes sids (none_left bytes parts.0) parts.1
sids_back (suc most) bytes sids is =
    elim (if_or (length bytes == 0) (Ok []) (number_at most_id bytes >>= λ sid. onto sid.0 (sids_at most sid.1)) sids is) [
      | inl h ↦ no_sids (suc most) bytes sids (none_left bytes h.0) (let e : Ok [] ≡ Ok sids = h.1 in cc)
      | inr h ↦
          let sid = bind_ok (number_at most_id bytes) (λ sid. onto sid.0 (sids_at most sid.1)) sids h in
          let more = onto_sid sid.0.0 (sids_at most sid.0.1) sids sid.2 in
          let first = number_at-back most_id bytes sid.0 sid.1 in
          let rest = sids_back most sid.0.1 more.0 more.1 in
          let few : length more.0 ≤ most = rest.2 in
          subst (λ (s : List ℕ). ReadsSids (suc most) s bytes) more.2 (
            first.0 ∙ ap (λ (back : List ℕ). number_text sid.0.0 ++ back) rest.0,
            rw (le-leb sid.0.0 4294967295 first.1) rest.1,
            omega arith,
          )
    ]

client_back : (bytes : List ℕ) (line : Line) → client_at bytes ≡ Ok line → SaysLine (codes "client" ++ bytes) line
unfolding client_at
client_back bytes line is =
    let word = bind_ok (field_at bytes) _ line is in
    let name = bind_ok (only_if (is_name word.0.0) word.0.0) _ line word.2 in
    let sid = bind_ok (number_at most_id word.0.1) _ line name.2 in
    let sids = bind_ok (sids_at 15 sid.0.1) _ line sid.2 in
    let made : ClientLine name.0 (sid.0.0 ∷ sids.0) ≡ line = (let e : Ok (ClientLine name.0 (sid.0.0 ∷ sids.0)) ≡ Ok line = sids.2 in cc) in
    let named = only_if_ok (is_name word.0.0) word.0.0 name.0 name.1 in
    let first = number_at-back most_id word.0.1 sid.0 sid.1 in
    let rest = sids_back 15 sid.0.1 sids.0 sids.1 in
    let few : length sids.0 ≤ 15 = rest.2 in
    subst (λ (l : Line). SaysLine (codes "client" ++ bytes) l) made (
      rw (subst (λ (n : List ℕ). is_name n ≡ true) named.1 named.0, le-leb 1 (length (sid.0.0 ∷ sids.0)) (omega arith), le-leb (length (sid.0.0 ∷ sids.0)) 16 (omega arith), le-leb sid.0.0 4294967295 first.1, rest.1) refl,
      ap (λ (back : List ℕ). codes "client" ++ back) (field_back bytes word.0 word.1
          ∙ ap (λ (n : List ℕ). 32 ∷ (n ++ word.0.1)) named.1
          ∙ ap (λ (back : List ℕ). 32 ∷ (name.0 ++ back)) (first.0 ∙ ap (λ (back : List ℕ). number_text sid.0.0 ++ back) rest.0)),
    )

-- ---- requests

request_back : (bytes : List ℕ) (line : Line) → request_of bytes ≡ Ok line → SaysLine bytes line
unfolding request_of
request_back bytes line is =
    let name = bind_ok (only_if (is_name (word_of bytes)) (word_of bytes)) _ line is in
    let number = bind_ok (number_at most_id (after_word bytes)) _ line name.2 in
    let word = bind_ok (field_at number.0.1) _ line number.2 in
    let what = bind_ok (what_of word.0.0 word.0.1) _ line word.2 in
    let made : RequestLine name.0 number.0.0 what.0 ≡ line = (let e : Ok (RequestLine name.0 number.0.0 what.0) ≡ Ok line = what.2 in cc) in
    let named = only_if_ok (is_name (word_of bytes)) (word_of bytes) name.0 name.1 in
    let first = number_at-back most_id (after_word bytes) number.0 number.1 in
    let says = what_of-back word.0.0 word.0.1 what.0 what.1 in
    subst (λ (l : Line). SaysLine bytes l) made (
      rw (subst (λ (n : List ℕ). is_name n ≡ true) named.1 named.0, le-leb number.0.0 4294967295 first.1, says.2) refl,
      (
        word.0.1,
        says.1,
        sym (take-append-drop (position_or_len (λ byte. byte == 32) bytes) bytes)
            ∙ ap (λ (n : List ℕ). n ++ after_word bytes) named.1
            ∙ ap (λ (rest : List ℕ). name.0 ++ rest) (first.0
            ∙ ap (λ (rest : List ℕ). number_text number.0.0 ++ rest) (field_back number.0.1 word.0 word.1
            ∙ ap (λ (w : List ℕ). 32 ∷ (w ++ word.0.1)) says.0)),
      ),
    )

-- ---- all lines

plain_line : (bytes : List ℕ) (this line : Line) (text : List ℕ) → bytes ≡ text → only_if true this ≡ Ok line → (is_line this ≡ true) × Spells this text → SaysLine bytes line
plain_line bytes this line text is made says =
    let same : this ≡ line = (only_if_ok true this line made).1 in
    subst (λ (l : Line). SaysLine bytes l) same (subst (λ (b : List ℕ). SaysLine b this) (sym is) says)

-- what is read as a line is written so, and is a line
pub line_of-back : (bytes : List ℕ) (line : Line) → line_of bytes ≡ Ok line → SaysLine bytes line
unfolding line_of
line_of-back bytes line is =
    elim (if_or (same bytes (codes "fsa 1")) (Ok Version) _ line is) [
      | inl h ↦ plain_line bytes Version line (codes "fsa 1") (same-is bytes (codes "fsa 1") h.0) h.1 (refl, refl)
      | inr is ↦ elim (if_or (same bytes (codes "table default")) (Ok DefaultTable) _ line is) [
        | inl h ↦ plain_line bytes DefaultTable line (codes "table default") (same-is bytes (codes "table default") h.0) h.1 (refl, refl)
        | inr is ↦ elim (if_or (same bytes (codes "table pairs")) (Ok PairTable) _ line is) [
          | inl h ↦ plain_line bytes PairTable line (codes "table pairs") (same-is bytes (codes "table pairs") h.0) h.1 (refl, refl)
          | inr is ↦ elim (if_or (starts_with nat_eq bytes (codes "up 0x")) (pair_at (drop 2 bytes)) _ line is) [
            | inl h ↦ subst (λ (b : List ℕ). SaysLine b line) (up_front bytes (drop 5 bytes) (starts-is bytes (codes "up 0x") h.0)) (pair_back (drop 2 bytes) line h.1)
            | inr is ↦ elim (if_or (starts_with nat_eq bytes (codes "client ")) (client_at (drop 6 bytes)) (request_of bytes) line is) [
              | inl h ↦ subst (λ (b : List ℕ). SaysLine b line) (client_front bytes (drop 7 bytes) (starts-is bytes (codes "client ") h.0)) (client_back (drop 6 bytes) line h.1)
              | inr h ↦ request_back bytes line h
            ]
          ]
        ]
      ]
    ]
  where
    up_front : (bytes rest : List ℕ) → bytes ≡ codes "up 0x" ++ rest → codes "up" ++ drop 2 bytes ≡ bytes
    up_front bytes rest is = ap (λ (b : List ℕ). codes "up" ++ drop 2 b) is ∙ sym is

    client_front : (bytes rest : List ℕ) → bytes ≡ codes "client " ++ rest → codes "client" ++ drop 6 bytes ≡ bytes
    client_front bytes rest is = ap (λ (b : List ℕ). codes "client" ++ drop 6 b) is ∙ sym is
