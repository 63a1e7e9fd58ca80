-- The lines of calls that ended, read back.
use Rattle.std.proofs.Common.{get_or, ◌≡◌, ℕ, ◌<◌, ◌^◌, Bool, true, false, List, [], ◌∷◌, ◌++◌, length, append_assoc, refl, ap, sym, ◌∙◌, inl, inr, ◌⊎◌, Some}
use Rattle.std.specs.Prelude.{◌==◌, ◌&&◌, not, nat_eq, codes, decimal, slice_get, nat_le}
use Rattle.std.specs.List.{list_all, list_any}
use Rattle.std.specs.Cmp.Lexicographic.{pointwise}
use Rattle.std.proofs.lemmas.Bool.{cases_Bool, eqb-true}
use Rattle.std.proofs.lemmas.Fmt.{decimal_injective}
use Rattle.std.proofs.lemmas.Option.{slice_get-get_or}
use Rattle.fsa_types.specs.Status.{status_name}
use Rattle.fsa_types.specs.declared.reply.EndOf.{EndOf}
use Rattle.fsa_model.specs.Setup.{Client}
use Rattle.fsa_model.specs.Text.{body_text, call_text, end_line, ended_lines, last_line, name_of}
use Rattle.fsa_model.specs.Words.{is_name, is_name_byte, same}
use Rattle.fsa_model.proofs.CountLaws.{and_left, and_right}
use Rattle.fsa_model.proofs.RowLaws.{option_cases}
use Rattle.history_laws.specs.Named.{AreNamed}
use Rattle.fsa_model.specs.Starving.{is_no_memory, starved_of}
use Rattle.history_laws.proofs.ReadBack.{EndsWord, Free, Free-body, Free-decimal, Free-status, body-ends_word, ends_line, ends_word, or_false, or_left, same_word, status_name-tells}

-- ---- clients' names

-- the byte that begins a turn's first line
abbrev pub starts_turn : ℕ → Bool
starts_turn byte = byte == 62

differs : (byte other : ℕ) → (byte ≡ other → ⊥) → (byte == other) ≡ false
differs byte other apart = elim (cases_Bool (byte == other)) [ inr isnt ↦ isnt | inl is ↦ absurd (apart (eqb-true byte other is)) ]

name_byte-apart : (byte other : ℕ) → is_name_byte byte ≡ true → is_name_byte other ≡ false → (byte == other) ≡ false
name_byte-apart byte other is isnt = differs byte other (λ alike. (let also : is_name_byte other ≡ true = ap is_name_byte (sym alike) ∙ is in cc))

Free-names : (stops : ℕ → Bool) (bytes : List ℕ) → ((byte : ℕ) → is_name_byte byte ≡ true → stops byte ≡ false) → list_all is_name_byte bytes ≡ true → Free stops bytes
Free-names stops [] apart all = refl
Free-names stops (byte ∷ bytes) apart all =
    or_false (stops byte) (list_any stops bytes) (apart byte (and_left (is_name_byte byte) (list_all is_name_byte bytes) all)) (Free-names stops bytes apart (and_right (is_name_byte byte) (list_all is_name_byte bytes) all))

-- the bytes of a name
name_bytes : (name : List ℕ) → is_name name ≡ true → list_all is_name_byte name ≡ true
name_bytes name is =
    and_right (nat_le 1 (length name) && nat_le (length name) 16) (list_all is_name_byte name)
    (and_left ((nat_le 1 (length name) && nat_le (length name) 16) && list_all is_name_byte name) (not (same name (codes "client"))) is)

-- no byte of a client's name is one that no name has
Free-name : (stops : ℕ → Bool) (clients : List Client) (client : ℕ) → ((byte : ℕ) → is_name_byte byte ≡ true → stops byte ≡ false) → AreNamed clients → Free stops (name_of clients client)
Free-name stops clients client apart named = elim (option_cases (slice_get clients client)) [
  | inl none ↦ rw none refl
  | inr some ↦ rw some.1 (Free-names stops some.0.name apart (name_bytes some.0.name (named.names client some.0 some.1)))
]

pub name-ends_word : (clients : List Client) (client : ℕ) → AreNamed clients → Free ends_word (name_of clients client)
name-ends_word clients client named =
    Free-name ends_word clients client (λ byte is. or_false (byte == 32) (byte == 10) (name_byte-apart byte 32 is refl) (name_byte-apart byte 10 is refl)) named

name-starts_turn : (clients : List Client) (client : ℕ) → AreNamed clients → Free starts_turn (name_of clients client)
name-starts_turn clients client named = Free-name starts_turn clients client (λ byte is. name_byte-apart byte 62 is refl) named

-- a client's name tells which client it is
pub same_client : (clients : List Client) (client other : ℕ) → AreNamed clients → client < length clients → other < length clients → name_of clients client ≡ name_of clients other → client ≡ other
same_client clients client other named within also alike =
    let nobody : Client = record { name = []; sids = [] } in
    let first : slice_get clients client ≡ Some (get_or clients client nobody) = slice_get-get_or clients client nobody within in
    let second : slice_get clients other ≡ Some (get_or clients other nobody) = slice_get-get_or clients other nobody also in
    named.differ client other (get_or clients client nobody) (get_or clients other nobody) first second (rw (first, second) at alike)

-- ---- one line

-- a line of a call that ended, word by word
pub line_words : (clients : List Client) (end : EndOf) (rest : List ℕ)
    → end_line clients end.client end.number end.reply ++ rest ≡ name_of clients end.client ++ 32 ∷ (decimal end.number ++ 32 ∷ (status_name end.reply.status ++ (body_text end.reply.body ++ 10 ∷ rest)))
line_words clients end rest =
    let name : List ℕ = name_of clients end.client in
    let status : List ℕ = status_name end.reply.status in
    let body : List ℕ = body_text end.reply.body in
    let call : List ℕ = call_text clients end.client end.number in
    append_assoc (call ++ 32 ∷ status ++ body) (10 ∷ []) rest
    ∙ append_assoc (call ++ 32 ∷ status) body (10 ∷ rest)
    ∙ append_assoc call (32 ∷ status) (body ++ 10 ∷ rest)
    ∙ append_assoc name (32 ∷ decimal end.number) (32 ∷ (status ++ (body ++ 10 ∷ rest)))

-- a call of one of these clients, by a number of 64 bits
abbrev pub IsOurs : List Client → EndOf → Type 0
IsOurs clients end = (end.client < length clients) × (end.number < 2 ^ 64)

-- two lines that are the same tell of the same call, of whether it found no memory, and what follows them is the same
record SameLine (first second : EndOf) (back rest : List ℕ) : Type 0 where
  client : first.client ≡ second.client
  number : first.number ≡ second.number
  status : is_no_memory first.reply.status ≡ is_no_memory second.reply.status
  after : back ≡ rest

-- behind the same byte the rest is the same
pub tail_of : {byte : ℕ} {front other : List ℕ} → byte ∷ front ≡ byte ∷ other → front ≡ other
tail_of alike = cc

-- so it is behind the two numbers
same_status : (first second : EndOf) (back rest : List ℕ)
    → status_name first.reply.status ++ (body_text first.reply.body ++ 10 ∷ back) ≡ status_name second.reply.status ++ (body_text second.reply.body ++ 10 ∷ rest)
    → (is_no_memory first.reply.status ≡ is_no_memory second.reply.status) × (back ≡ rest)
same_status first second back rest alike =
    let one : EndsWord (body_text first.reply.body ++ 10 ∷ back) = body-ends_word first.reply.body back in
    let two : EndsWord (body_text second.reply.body ++ 10 ∷ rest) = body-ends_word second.reply.body rest in
    let shown : status_name first.reply.status ++ one.first ∷ one.more ≡ status_name second.reply.status ++ two.first ∷ two.more
    = ap (λ (after : List ℕ). status_name first.reply.status ++ after) (sym one.is) ∙ alike ∙ ap (λ (after : List ℕ). status_name second.reply.status ++ after) two.is in
    let words = same_word ends_word (status_name first.reply.status) (status_name second.reply.status) one.first two.first one.more two.more (Free-status first.reply.status) (Free-status second.reply.status) one.ends two.ends shown in
    let bodies : body_text first.reply.body ++ 10 ∷ back ≡ body_text second.reply.body ++ 10 ∷ rest = one.is ∙ words.1 ∙ sym two.is in
    let lines = same_word ends_line (body_text first.reply.body) (body_text second.reply.body) 10 10 back rest (Free-body first.reply.body) (Free-body second.reply.body) refl refl bodies in (
      sym (status_name-tells first.reply.status) ∙ ap (λ (name : List ℕ). pointwise nat_eq name (codes "NO_MEMORY")) words.0 ∙ status_name-tells second.reply.status,
      tail_of lines.1,
    )

same_line : (clients : List Client) (first second : EndOf) (back rest : List ℕ) → AreNamed clients → IsOurs clients first → IsOurs clients second
    → end_line clients first.client first.number first.reply ++ back ≡ end_line clients second.client second.number second.reply ++ rest → SameLine first second back rest
same_line clients first second back rest named ours also alike =
    let shown = sym (line_words clients first back) ∙ alike ∙ line_words clients second rest in
    let names = same_word ends_word (name_of clients first.client) (name_of clients second.client) 32 32 _ _ (name-ends_word clients first.client named) (name-ends_word clients second.client named) refl refl shown in
    let numbers = same_word ends_word (decimal first.number) (decimal second.number) 32 32 _ _ (Free-decimal first.number) (Free-decimal second.number) refl refl (tail_of names.1) in
    let status = same_status first second back rest (tail_of numbers.1) in
    record {
      client = same_client clients first.client second.client named ours.0 also.0 names.0;
      number = decimal_injective first.number second.number ours.1 also.1 numbers.0;
      status = status.0;
      after = status.1;
    }

-- ---- the lines of a turn, and what follows them

-- what follows the lines of a turn: the next turn's first line, or the last line
abbrev pub FollowsTurn : List ℕ → Type 0
FollowsTurn bytes = ((more : List ℕ) × (bytes ≡ 62 ∷ more)) ⊎ ((turns : ℕ) × (bytes ≡ last_line turns))

first_apart : (stops : ℕ → Bool) (word : List ℕ) (x y : ℕ) (back more : List ℕ) → Free stops word → stops x ≡ false → stops y ≡ true → word ++ x ∷ back ≡ y ∷ more → ⊥
first_apart stops [] x y back more free goes stop alike = (let here : x ≡ y = cc in let is : stops x ≡ true = ap stops here ∙ stop in cc)
first_apart stops (c ∷ word) x y back more free goes stop alike =
    (let here : c ≡ y = cc in let is : stops c ≡ true = ap stops here ∙ stop in let isnt : stops c ≡ false = or_left (stops c) (list_any stops word) free in cc)

-- that is no line of a call that ended
follows_apart : (clients : List Client) (end : EndOf) (back rest : List ℕ) → AreNamed clients → FollowsTurn rest → end_line clients end.client end.number end.reply ++ back ≡ rest → ⊥
follows_apart clients end back rest named (inl next) alike =
    first_apart starts_turn (name_of clients end.client) 32 62 _ next.0 (name-starts_turn clients end.client named) refl refl (sym (line_words clients end back) ∙ alike ∙ next.1)
follows_apart clients end back rest named (inr last) alike =
    let shown : name_of clients end.client ++ 32 ∷ (decimal end.number ++ 32 ∷ (status_name end.reply.status ++ (body_text end.reply.body ++ 10 ∷ back))) ≡ codes "end" ++ 32 ∷ (decimal last.0 ++ 10 ∷ [])
    = sym (line_words clients end back) ∙ alike ∙ last.1 in
    let names = same_word ends_word (name_of clients end.client) (codes "end") 32 32 _ _ (name-ends_word clients end.client named) refl refl refl shown in
    let numbers = same_word ends_word (decimal end.number) (decimal last.0) 32 10 _ _ (Free-decimal end.number) (Free-decimal last.0) refl refl (tail_of names.1) in
    apart numbers.1
  where
    apart : {front other : List ℕ} → 32 ∷ front ≡ 10 ∷ other → ⊥
    apart alike = cc

abbrev pub AreOurs : List Client → List EndOf → Type 0
AreOurs clients [] = Unit {0}
AreOurs clients (end ∷ ends) = IsOurs clients end × AreOurs clients ends

starved-cons : (first second : EndOf) (ends others : List EndOf) → first.client ≡ second.client → first.number ≡ second.number → is_no_memory first.reply.status ≡ is_no_memory second.reply.status
    → starved_of ends ≡ starved_of others → starved_of (first ∷ ends) ≡ starved_of (second ∷ others)
starved-cons first second ends others client number status rest = rw (client, number, status, rest) refl

-- where the lines of the ends of two turns, and what follows, are the same, the same calls found no memory
pub same_starved : (clients : List Client) (ends others : List EndOf) (back rest : List ℕ) → AreNamed clients → AreOurs clients ends → AreOurs clients others → FollowsTurn back → FollowsTurn rest
    → ended_lines clients ends ++ back ≡ ended_lines clients others ++ rest → starved_of ends ≡ starved_of others
same_starved clients [] [] back rest named ours also follows follows_other alike = refl
same_starved clients [] (end ∷ others) back rest named ours also follows follows_other alike =
    absurd (follows_apart clients end (ended_lines clients others ++ rest) back named follows
    (sym (append_assoc (end_line clients end.client end.number end.reply) (ended_lines clients others) rest) ∙ sym alike))
same_starved clients (end ∷ ends) [] back rest named ours also follows follows_other alike =
    absurd (follows_apart clients end (ended_lines clients ends ++ back) rest named follows_other
    (sym (append_assoc (end_line clients end.client end.number end.reply) (ended_lines clients ends) back) ∙ alike))
same_starved clients (first ∷ ends) (second ∷ others) back rest named ours also follows follows_other alike =
    let line : SameLine first second (ended_lines clients ends ++ back) (ended_lines clients others ++ rest)
    = same_line clients first second (ended_lines clients ends ++ back) (ended_lines clients others ++ rest) named ours.0 also.0
    (sym (append_assoc (end_line clients first.client first.number first.reply) (ended_lines clients ends) back) ∙ alike
    ∙ append_assoc (end_line clients second.client second.number second.reply) (ended_lines clients others) rest) in
    starved-cons first second ends others line.client line.number line.status (same_starved clients ends others back rest named ours.1 also.1 follows follows_other line.after)
