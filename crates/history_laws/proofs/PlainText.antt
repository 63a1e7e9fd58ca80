-- A text of which no line shows NO_MEMORY is of the history in which memory is never wanting.
use Rattle.std.proofs.Common.{◌≡◌, ℕ, zero, suc, ◌+◌, ◌≤◌, Bool, true, false, cond, not, List, [], ◌∷◌, ◌++◌, length, append_assoc, append-nil, refl, ap, sym, ◌∙◌, inl, inr, arith, Option, Some, None}
use Rattle.std.specs.Prelude.{◌==◌, ◌&&◌, ◌||◌, slice_get, option_and_then, codes, decimal, nat_eq, All}
use Rattle.std.specs.List.{list_any, slice_split, onto_first}
use Rattle.std.specs.Cmp.Lexicographic.{pointwise}
use Rattle.std.specs.Option.{option_map_or}
use Rattle.std.proofs.lemmas.Bool.{cases_Bool, eq-eqb}
use Rattle.std.proofs.lemmas.List.Elements.{All-nil, All-cons}
use Rattle.std.proofs.lemmas.List.Folds.{list_any-append}
use Rattle.std.proofs.lemmas.List.Splits.{slice_split_at, slice_split_none}
use Rattle.fsa_types.specs.Status.{status_name}
use Rattle.fsa_types.specs.declared.reply.Answer.{Answer}
use Rattle.fsa_types.specs.declared.reply.Answer.TheVariants.{Ended, Pending}
use Rattle.fsa_types.specs.declared.reply.Body.{Body}
use Rattle.fsa_types.specs.declared.reply.EndOf.{EndOf}
use Rattle.fsa_types.specs.declared.request.Call.{Call}
use Rattle.fsa_types.specs.declared.request.CallId.{CallId}
use Rattle.fsa_model.specs.History.{HistoryEntry, Run, begun, run, with_turn}
use Rattle.fsa_model.specs.Once.{how_many}
use Rattle.fsa_model.specs.Schedule.{HasAllCalls, Scheduled, all_calls, is_made, is_same_call, next, next_in, plain, plain_entry, plain_on}
use Rattle.fsa_model.specs.Setup.{Client, Script}
use Rattle.fsa_model.specs.Text.{body_text, call_text, end_line, ended_lines, interim_text, last_line, line_shows_no_memory, name_of, shows_no_memory, text}
use Rattle.fsa_model.specs.Turn.{Turned, answer_of, try, turn_number}
use Rattle.fsa_model.specs.Verbs.{verb}
use Rattle.fsa_model.specs.Volume.{Volume}
use Rattle.fsa_model.specs.Waiting.{waits}
use Rattle.fsa_model.proofs.CountLaws.{and_left, how_many-length, how_many-weaker}
use Rattle.fsa_model.proofs.HistoryLaws.{run-push}
use Rattle.fsa_model.proofs.SettleLaws.{some_equal}
use Rattle.history_laws.specs.Named.{AreNamed, IsReadScript}
use Rattle.fsa_model.specs.Starving.{is_no_memory, starved_of}
use Rattle.history_laws.proofs.CallsOfRuns.{GoesOn, GoesOn-scheduled}
use Rattle.history_laws.proofs.EndLines.{line_words, name-ends_word}
use Rattle.history_laws.proofs.ReadBack.{Free, Free-append, Free-body, Free-decimal, Free-line, Free-status, body-begins, ends_line, ends_word, or_false, or_left, or_right, status_name-tells}
use Rattle.history_laws.proofs.SameText.{text_on, text_on-whole, turn_head, turn_lines}
use Rattle.history_laws.proofs.SettlePlain.{GivesStarved, turn-starved}

-- ---- lines of a text

onto_first-append : {X : Type 0} (x : X) (parts more : List (List X)) → 1 ≤ length parts → onto_first x (parts ++ more) ≡ onto_first x parts ++ more
onto_first-append x [] more some = absurd (omega arith)
onto_first-append x (part ∷ parts) more some = refl

length-onto_first : {X : Type 0} (x : X) (parts : List (List X)) → 1 ≤ length (onto_first x parts)
length-onto_first x [] = omega arith
length-onto_first x (part ∷ parts) = omega arith

split-some : {X : Type 0} (stops : X → Bool) (items : List X) → 1 ≤ length (slice_split stops items)
split-some stops [] = omega arith
split-some stops (x ∷ items) = elim (cases_Bool (stops x)) [ inl is ↦ rw is (omega arith) | inr isnt ↦ rw isnt (length-onto_first x (slice_split stops items)) ]

-- what stands before a stop, and what stands behind it, are split apart
split-at : {X : Type 0} (stops : X → Bool) (front : List X) (x : X) (back : List X) → stops x ≡ true → slice_split stops (front ++ x ∷ back) ≡ slice_split stops front ++ slice_split stops back
split-at stops [] x back is = rw is refl
split-at {X} stops (first ∷ front) x back is =
    let rest = split-at stops front x back is in
    elim (cases_Bool (stops first)) [
      | inl stop ↦ rw stop (ap (λ (parts : List (List X)). [] ∷ parts) rest)
      | inr goes ↦ rw goes (ap (onto_first first) rest ∙ onto_first-append first (slice_split stops front) (slice_split stops back) (split-some stops front))
    ]

-- no line behind a line feed shows NO_MEMORY, where no line does
shows-behind : (front back : List ℕ) → shows_no_memory (front ++ 10 ∷ back) ≡ false → shows_no_memory back ≡ false
shows-behind front back none =
    let split = split-at ends_line front 10 back refl in
    or_right (shows_no_memory front) (shows_no_memory back)
    (sym (list_any-append line_shows_no_memory (slice_split ends_line front) (slice_split ends_line back)) ∙ sym (ap (list_any line_shows_no_memory) split) ∙ none)

Free-all : (stops : ℕ → Bool) (bytes : List ℕ) → Free stops bytes → All (λ byte. stops byte ≡ false) bytes
Free-all stops [] free = All-nil (λ (byte : ℕ). stops byte ≡ false)
Free-all stops (byte ∷ bytes) free =
    All-cons (λ (byte : ℕ). stops byte ≡ false) byte bytes (or_left (stops byte) (list_any stops bytes) free) (Free-all stops bytes (or_right (stops byte) (list_any stops bytes) free))

-- nor does the first line
shows-first : (line back : List ℕ) → Free ends_line line → shows_no_memory (line ++ 10 ∷ back) ≡ false → line_shows_no_memory line ≡ false
shows-first line back free none =
    or_left (line_shows_no_memory line) (shows_no_memory back)
    (sym (ap (list_any line_shows_no_memory) (slice_split_at ends_line line 10 back (Free-all ends_line line free) refl)) ∙ none)

-- ---- the line of a call that ended

-- a space
abbrev is_space : ℕ → Bool
is_space byte = byte == 32

Free-space : (bytes : List ℕ) → Free ends_word bytes → Free is_space bytes
Free-space [] free = refl
Free-space (c ∷ bytes) free =
    or_false (is_space c) (list_any is_space bytes) (or_left (c == 32) (c == 10) (or_left (ends_word c) (list_any ends_word bytes) free)) (Free-space bytes (or_right (ends_word c) (list_any ends_word bytes) free))

first_word : (word : List ℕ) (body : Body) → Free is_space word → (more : List (List ℕ)) × (slice_split is_space (word ++ body_text body) ≡ word ∷ more)
first_word word body free = elim (body-begins body) [
  | inl none ↦ ([], ap (λ (text : List ℕ). slice_split is_space (word ++ text)) none ∙ ap (slice_split is_space) (append-nil word) ∙ slice_split_none is_space word (Free-all is_space word free))
  | inr some ↦ (slice_split is_space some.0, ap (λ (text : List ℕ). slice_split is_space (word ++ text)) some.1 ∙ slice_split_at is_space word 32 some.0 (Free-all is_space word free) refl)
]

-- its third word is the status
third_word : (name number status : List ℕ) (body : Body) → Free is_space name → Free is_space number → Free is_space status
    → slice_get (slice_split is_space (name ++ 32 ∷ (number ++ 32 ∷ (status ++ body_text body)))) 2 ≡ Some status
third_word name number status body first second third =
    let word = first_word status body third in
    ap (λ (parts : List (List ℕ)). slice_get parts 2)
    (slice_split_at is_space name 32 (number ++ 32 ∷ (status ++ body_text body)) (Free-all is_space name first) refl
    ∙ ap (λ (parts : List (List ℕ)). name ∷ parts) (slice_split_at is_space number 32 (status ++ body_text body) (Free-all is_space number second) refl)
    ∙ ap (λ (parts : List (List ℕ)). name ∷ number ∷ parts) word.1)

-- the line without its line feed
abbrev end_words : List Client → EndOf → List ℕ
end_words clients end = name_of clients end.client ++ 32 ∷ (decimal end.number ++ 32 ∷ (status_name end.reply.status ++ body_text end.reply.body))

end_words-line : (clients : List Client) (end : EndOf) (rest : List ℕ) → end_line clients end.client end.number end.reply ++ rest ≡ end_words clients end ++ 10 ∷ rest
end_words-line clients end rest =
    let name : List ℕ = name_of clients end.client in
    let number : List ℕ = decimal end.number in
    let status : List ℕ = status_name end.reply.status in
    let body : List ℕ = body_text end.reply.body in
    line_words clients end rest
    ∙ ap (λ (after : List ℕ). name ++ 32 ∷ (number ++ 32 ∷ after)) (sym (append_assoc status body (10 ∷ rest)))
    ∙ ap (λ (after : List ℕ). name ++ 32 ∷ after) (sym (append_assoc number (32 ∷ (status ++ body)) (10 ∷ rest)))
    ∙ sym (append_assoc name (32 ∷ (number ++ 32 ∷ (status ++ body))) (10 ∷ rest))

end_words-shows : (clients : List Client) (end : EndOf) → AreNamed clients → line_shows_no_memory (end_words clients end) ≡ is_no_memory end.reply.status
end_words-shows clients end named =
    ap (λ (word : Option (List ℕ)). option_map_or (λ word. pointwise nat_eq word (codes "NO_MEMORY")) word false)
    (third_word (name_of clients end.client) (decimal end.number) (status_name end.reply.status) end.reply.body (Free-space (name_of clients end.client) (name-ends_word clients end.client named))
    (Free-space (decimal end.number) (Free-decimal end.number)) (Free-space (status_name end.reply.status) (Free-status end.reply.status)))
    ∙ status_name-tells end.reply.status

end_words-free : (clients : List Client) (end : EndOf) → AreNamed clients → Free ends_line (end_words clients end)
end_words-free clients end named =
    Free-append ends_line (name_of clients end.client) (32 ∷ (decimal end.number ++ 32 ∷ (status_name end.reply.status ++ body_text end.reply.body))) (Free-line (name_of clients end.client) (name-ends_word clients end.client named))
    (Free-append ends_line (decimal end.number) (32 ∷ (status_name end.reply.status ++ body_text end.reply.body)) (Free-line (decimal end.number) (Free-decimal end.number))
    (Free-append ends_line (status_name end.reply.status) (body_text end.reply.body) (Free-line (status_name end.reply.status) (Free-status end.reply.status)) (Free-body end.reply.body)))

-- where no line shows NO_MEMORY, none of the calls that ended found no memory
none_starved : (clients : List Client) (ends : List EndOf) (back : List ℕ) → AreNamed clients → shows_no_memory (ended_lines clients ends ++ back) ≡ false
    → (starved_of ends ≡ []) × (shows_no_memory back ≡ false)
none_starved clients [] back named none = (refl, none)
none_starved clients (end ∷ ends) back named none =
    let shown : shows_no_memory (end_words clients end ++ 10 ∷ (ended_lines clients ends ++ back)) ≡ false
    = ap shows_no_memory (sym (append_assoc (end_line clients end.client end.number end.reply) (ended_lines clients ends) back ∙ end_words-line clients end (ended_lines clients ends ++ back))) ∙ none in
    let plain : is_no_memory end.reply.status ≡ false = sym (end_words-shows clients end named) ∙ shows-first (end_words clients end) (ended_lines clients ends ++ back) (end_words-free clients end named) shown in
    let rest = none_starved clients ends back named (shows-behind (end_words clients end) (ended_lines clients ends ++ back) shown) in
    (rw plain rest.0, rest.1)

-- ---- a turn

lines : (first line back : List ℕ) → (first ++ 10 ∷ [] ++ (line ++ 10 ∷ [])) ++ back ≡ first ++ 10 ∷ (line ++ 10 ∷ back)
lines first line back =
    append_assoc (first ++ 10 ∷ []) (line ++ 10 ∷ []) back
    ∙ append_assoc first (10 ∷ []) ((line ++ 10 ∷ []) ++ back)
    ∙ ap (λ (after : List ℕ). first ++ 10 ∷ after) (append_assoc line (10 ∷ []) back)

-- what stands behind the answer's line
shows-behind_head : (clients : List Client) (call : Call) (answer : Answer) (back : List ℕ) → shows_no_memory (turn_head clients call answer ++ back) ≡ false → shows_no_memory back ≡ false
shows-behind_head clients call (Ended reply) back none =
    let first : List ℕ = codes "> " ++ call_text clients call.client call.number ++ 32 ∷ verb call.what in
    let line : List ℕ = call_text clients call.client call.number ++ 32 ∷ status_name reply.status ++ body_text reply.body in
    shows-behind line back (shows-behind first (line ++ 10 ∷ back) (ap shows_no_memory (sym (lines first line back)) ∙ none))
shows-behind_head clients call (Pending interim) back none =
    let first : List ℕ = codes "> " ++ call_text clients call.client call.number ++ 32 ∷ verb call.what in
    let line : List ℕ = call_text clients call.client call.number ++ codes " PENDING" ++ interim_text interim in
    shows-behind line back (shows-behind first (line ++ 10 ∷ back) (ap shows_no_memory (sym (lines first line back)) ∙ none))

-- ---- the plain history

-- how many calls weren't made
abbrev unmade : List Call → List HistoryEntry → ℕ
unmade calls history = how_many (λ call. not (is_made history call)) calls

or_true : (a : Bool) → (a || true) ≡ true
or_true true = refl
or_true false = refl

made-push : (history : List HistoryEntry) (entry : HistoryEntry) (call : Call) → is_made (history ++ entry ∷ []) call ≡ (is_made history call || (is_same_call entry.call call || false))
made-push history entry call = list_any-append (λ (made : HistoryEntry). is_same_call made.call call) history (entry ∷ [])

made-last : (history : List HistoryEntry) (entry : HistoryEntry) → is_made (history ++ entry ∷ []) entry.call ≡ true
made-last history entry =
    let self : is_same_call entry.call entry.call ≡ true = rw (eq-eqb entry.call.client entry.call.client refl, eq-eqb entry.call.number entry.call.number refl) refl in
    made-push history entry entry.call ∙ ap (λ (is : Bool). is_made history entry.call || (is || false)) self ∙ or_true (is_made history entry.call)

unmade-before : (history : List HistoryEntry) (entry : HistoryEntry) (call : Call) → not (is_made (history ++ entry ∷ []) call) ≡ true → not (is_made history call) ≡ true
unmade-before history entry call isnt = elim (cases_Bool (is_made history call)) [
  | inr no_call ↦ rw no_call refl
  | inl is ↦ (let made : is_made (history ++ entry ∷ []) call ≡ true = made-push history entry call ∙ ap (λ (b : Bool). b || (is_same_call entry.call call || false)) is in
      let impossible : false ≡ true = rw made at isnt in cc)
]

fewer_if : (one other : Bool) → (one ≡ true → other ≡ true) → cond one 1 0 ≤ cond other 1 0
fewer_if true true so = omega arith
fewer_if true false so = (let impossible : false ≡ true = so refl in cc)
fewer_if false true so = omega arith
fewer_if false false so = omega arith

-- each turn of a next call leaves one call less
unmade-turn : (calls : List Call) (history : List HistoryEntry) (entry : HistoryEntry) (v : Volume) → next_in calls history v ≡ Some entry.call → unmade calls (history ++ entry ∷ []) + 1 ≤ unmade calls history
unmade-turn [] history entry v is = cc
unmade-turn (call ∷ calls) history entry v is = elim (cases_Bool (not (is_made history call) && not (waits v call.client))) [
  | inl passes ↦ (let same : call ≡ entry.call = some_equal call entry.call (rw passes at is) in
      let before : not (is_made history call) ≡ true = and_left (not (is_made history call)) (not (waits v call.client)) passes in
      let after : is_made (history ++ entry ∷ []) call ≡ true = ap (is_made (history ++ entry ∷ [])) same ∙ made-last history entry in
      let rest = how_many-weaker (λ (other : Call). not (is_made (history ++ entry ∷ []) other)) (λ other. not (is_made history other)) calls (unmade-before history entry) in
      rw (before, after) (omega arith))
  | inr fails ↦ (let rest = unmade-turn calls history entry v (rw fails at is) in
      let first = fewer_if (not (is_made (history ++ entry ∷ []) call)) (not (is_made history call)) (unmade-before history entry call) in
      omega arith)
]

plain_goes : (script : Script) (fuel : ℕ) (history : List HistoryEntry) (r : Run) (rest : List HistoryEntry) (turns : ℕ) → AreNamed script.setup.clients → run script.setup history ≡ Some r
    → GoesOn script history r rest → shows_no_memory (text_on script.setup.clients r.volume rest ++ last_line turns) ≡ false → unmade (all_calls script) history ≤ fuel
    → history ++ rest ≡ plain_on fuel script history
plain_goes script zero history r [] turns named is on none few = append-nil history
plain_goes script (suc fuel) history r [] turns named is on none few =
    let is_next : next script history ≡ None = ap (option_and_then (λ (after : Run). next_in (all_calls script) history after.volume)) is ∙ on in
    append-nil history ∙ sym (ap (λ (o : Option Call). option_map_or (λ call. plain_on fuel script (history ++ plain_entry call ∷ [])) o history) is_next)
plain_goes script zero history r (entry ∷ rest) turns named is on none few = absurd (let less = unmade-turn (all_calls script) history entry r.volume on.0.next in omega arith)
plain_goes script (suc fuel) history r (entry ∷ rest) turns named is on none few =
    let clients : List Client = script.setup.clients in
    let t : Turned = on.0.turned in
    let is_next : next script history ≡ Some entry.call = ap (option_and_then (λ (after : Run). next_in (all_calls script) history after.volume)) is ∙ on.0.next in
    let shown = shows-behind_head clients entry.call (answer_of (try r.volume entry.call (turn_number r.volume))) (ended_lines clients t.out.ended ++ (text_on clients t.volume rest ++ last_line turns))
    (ap shows_no_memory (sym (turn_lines clients r.volume entry rest turns t on.0.turns)) ∙ none) in
    let plains = none_starved clients t.out.ended (text_on clients t.volume rest ++ last_line turns) named shown in
    let starved : entry.starved ≡ [] = sym (GivesStarved.names (turn-starved r.volume entry.call entry.starved t on.0.turns)) ∙ plains.0 in
    let is_plain : entry ≡ plain_entry entry.call = ap (λ (ids : List CallId). record { call = entry.call; starved = ids }) starved in
    let less = unmade-turn (all_calls script) history entry r.volume on.0.next in
    sym (append_assoc history (entry ∷ []) rest)
    ∙ plain_goes script fuel (history ++ entry ∷ []) (with_turn r t) rest turns named (run-push script.setup history entry r t is on.0.turns) on.1 plains.1 (omega arith)
    ∙ ap (λ (made : HistoryEntry). plain_on fuel script (history ++ made ∷ [])) is_plain
    ∙ sym (ap (λ (o : Option Call). option_map_or (λ call. plain_on fuel script (history ++ plain_entry call ∷ [])) o history) is_next)

pub text-plain : (script : Script) (history : List HistoryEntry) → IsReadScript script → Scheduled script history → HasAllCalls script history → shows_no_memory (text script history) ≡ false → history ≡ plain script
text-plain script history read scheduled whole none =
    plain_goes script (length (all_calls script)) [] (begun script.setup) history (length history) read.named refl (GoesOn-scheduled script [] (begun script.setup) history read refl scheduled whole)
    (ap shows_no_memory (sym (text_on-whole script history scheduled.runs)) ∙ none) (how_many-length (λ (call : Call). not (is_made [] call)) (all_calls script))
