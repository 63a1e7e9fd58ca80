-- Two whole histories of clients side by side are one where their texts are: a turn's first line tells its call.
use Rattle.std.proofs.Common.{◌≡◌, ℕ, zero, suc, ◌+◌, ◌<◌, ◌≤◌, ◌^◌, true, All, List, [], ◌∷◌, ◌++◌, length, append_assoc, append-nil, length-append, refl, ap, sym, subst, ◌∙◌, inl, inr, ◌⊎◌, arith, Some, None}
use Rattle.std.specs.Prelude.{◌==◌, codes, decimal, filter, slice_get, nat_lt}
use Rattle.std.proofs.lemmas.Bool.{cases_Bool, eqb-true, eq-eqb, ltb-true, ltb-false}
use Rattle.std.proofs.lemmas.Fmt.{decimal_injective}
use Rattle.std.proofs.lemmas.List.{append_cancel_left}
use Rattle.fsa_types.specs.declared.reply.Answer.{Answer}
use Rattle.fsa_types.specs.declared.request.Call.{Call}
use Rattle.fsa_model.specs.Engine.{CallsDiffer, is_entry_of}
use Rattle.fsa_model.specs.History.{HistoryEntry, Run, begun, run, with_turn}
use Rattle.fsa_model.specs.Once.{how_many, is_end, times}
use Rattle.fsa_model.specs.Schedule.{AreNumbered, calls_of, leave_after}
use Rattle.fsa_model.specs.Setup.{Client, Script}
use Rattle.fsa_model.specs.Starving.{starved_of}
use Rattle.fsa_model.specs.Text.{answer_line, call_text, ended_lines, last_line, name_of, text}
use Rattle.fsa_model.specs.Turn.{Turned, answer_of, try, turn, turn_number}
use Rattle.fsa_model.specs.Verbs.{verb}
use Rattle.fsa_model.specs.Volume.{fresh}
use Rattle.fsa_model.proofs.CountLaws.{and_left, and_right, how_many-append}
use Rattle.fsa_model.proofs.HistoryLaws.{run-push}
use Rattle.fsa_model.proofs.OnceHistory.{Runs, run-runs}
use Rattle.fsa_model.proofs.ScheduleLaws.{calls_of-push}
use Rattle.fsa_model.proofs.ScriptLaws.{length-filter_calls}
use Rattle.fsa_model.proofs.SettleLaws.{some_equal}
use Rattle.history_laws.specs.Named.{IsReadScript}
use Rattle.history_laws.specs.Races.{Begun, Whole, made_by, own_calls}
use Rattle.history_laws.proofs.CallsOfRuns.{calls_of-few, counted-ours, some-entry, turned-there, entry-at}
use Rattle.history_laws.proofs.EndLines.{AreOurs, FollowsTurn, name-ends_word, same_client, same_starved, tail_of}
use Rattle.history_laws.proofs.ReadBack.{Free-decimal, ends_word, same_word}
use Rattle.history_laws.proofs.SameText.{same_entry, text_on, text_on-whole, turn_head, turn_lines}
use Rattle.history_laws.proofs.SettlePlain.{GivesStarved, turn-starved}

-- ---- the calls of a client, by their numbers

numbered_at : (before lines : List Call) (client : ℕ) → AreNumbered before lines → (k : ℕ) (call : Call) → slice_get (filter (λ (c : Call). c.client == client) lines) k ≡ Some call → call.number ≡ calls_of client before + k + 1
numbered_at before [] client numbered k call at = (let impossible : None ≡ Some call = at in cc)
numbered_at before (one ∷ more) client numbered k call at =
    let rest = λ (j : ℕ) (there : slice_get (filter (λ (c : Call). c.client == client) more) j ≡ Some call). numbered_at (before ++ one ∷ []) more client numbered.1 j call there in
    let pushed = calls_of-push client before one in
    elim (cases_Bool (one.client == client)) [
      | inr other ↦ (let later = rest k (rw other at at) in let count : calls_of client (before ++ one ∷ []) ≡ calls_of client before + 0 = rw other at pushed in omega arith)
      | inl own ↦ here own rest (rw own at pushed) k (rw own at at)
    ]
  where
    here : (one.client == client) ≡ true → ((j : ℕ) → slice_get (filter (λ (c : Call). c.client == client) more) j ≡ Some call → call.number ≡ calls_of client (before ++ one ∷ []) + j + 1)
        → calls_of client (before ++ one ∷ []) ≡ calls_of client before + 1 → (k : ℕ) → slice_get (one ∷ filter (λ (c : Call). c.client == client) more) k ≡ Some call → call.number ≡ calls_of client before + k + 1
    here own rest count zero at = (let same : one ≡ call = (let f : Some one ≡ Some call = at in cc) in
        let first : one.number ≡ calls_of client before + 1 = numbered.0 ∙ ap (λ (c : ℕ). calls_of c before + 1) (eqb-true one.client client own) in
        let number : one.number ≡ call.number = ap (λ (c : Call). c.number) same in omega arith)
    here own rest count (suc k) at = (let later = rest k at in omega arith)

pushed_at : (lines : List Call) (last : Call) (k : ℕ) (call : Call) → slice_get (lines ++ last ∷ []) k ≡ Some call → (slice_get lines k ≡ Some call) ⊎ ((last ≡ call) × (k ≡ length lines))
pushed_at [] last zero call at = inr ((let f : Some last ≡ Some call = at in cc), refl)
pushed_at [] last (suc k) call at = (let impossible : None ≡ Some call = at in cc)
pushed_at (one ∷ lines) last zero call at = inl at
pushed_at (one ∷ lines) last (suc k) call at = elim (pushed_at lines last k call at) [ inl old ↦ inl old | inr new ↦ inr (new.0, ap suc new.1) ]

pub own_at : (script : Script) (client : ℕ) → AreNumbered [] script.lines → (k : ℕ) (call : Call) → slice_get (own_calls script client) k ≡ Some call → call.number ≡ k + 1
own_at script client numbered k call at = elim (pushed_at (filter (λ (c : Call). c.client == client) script.lines) (leave_after script.lines client) k call at) [
  | inl line ↦ (let number : call.number ≡ 0 + k + 1 = numbered_at [] script.lines client numbered k call line in omega arith)
  | inr leaves ↦ (let size = length-filter_calls script.lines client in let place = leaves.1 in let number : calls_of client script.lines + 1 ≡ call.number = ap (λ (c : Call). c.number) leaves.0 in omega arith)
]

all_at : {X : Type 0} (P : X → Type 0) (xs : List X) → All P xs → (k : ℕ) (x : X) → slice_get xs k ≡ Some x → P x
all_at P [] all k x at = (let impossible : None ≡ Some x = at in cc)
all_at P (y ∷ xs) all zero x at = (let same : y ≡ x = (let f : Some y ≡ Some x = at in cc) in subst P same (all 0 y (omega arith)))
all_at P (y ∷ xs) all (suc k) x at = all_at P xs (λ j d within. all (suc j) d (omega arith)) k x at

at_below : {X : Type 0} (xs : List X) (k : ℕ) (x : X) → slice_get xs k ≡ Some x → k < length xs
at_below [] k x at = (let impossible : None ≡ Some x = at in cc)
at_below (y ∷ xs) zero x at = omega arith
at_below (y ∷ xs) (suc k) x at = (let rest = at_below xs k x at in omega arith)

-- a call of a history is one of its client's
among : (history : List HistoryEntry) (k : ℕ) (entry : HistoryEntry) → slice_get history k ≡ Some entry → (j : ℕ) × (slice_get (made_by entry.call.client history) j ≡ Some entry.call)
among [] k entry at = (let impossible : None ≡ Some entry = at in cc)
among (one ∷ history) zero entry at = (let same : one ≡ entry = (let f : Some one ≡ Some entry = at in cc) in
    (0, subst (λ (e : HistoryEntry). slice_get (made_by e.call.client (one ∷ history)) 0 ≡ Some e.call) same (rw (eq-eqb one.call.client one.call.client refl) refl)))
among (one ∷ history) (suc k) entry at = (let rest = among history k entry at in elim (cases_Bool (one.call.client == entry.call.client)) [
  | inl own ↦ (suc rest.0, rw own rest.1)
  | inr other ↦ (rest.0, rw other rest.1)
])

-- it is one of the script's calls, at its number
record IsKnown (script : Script) (call : Call) : Type 0 where
  client : call.client < length script.setup.clients
  place : ℕ
  there : slice_get (own_calls script call.client) place ≡ Some call
  number : call.number ≡ place + 1
  few : call.number < 2 ^ 64

known_at : (script : Script) (history : List HistoryEntry) (k : ℕ) (entry : HistoryEntry) → IsReadScript script → Whole script history → slice_get history k ≡ Some entry → IsKnown script entry.call
known_at script history k entry read whole at =
    let own = among history k entry at in
    let client = all_at (λ (e : HistoryEntry). e.call.client < length script.setup.clients) history whole.no_others k entry at in
    let there : slice_get (own_calls script entry.call.client) own.0 ≡ Some entry.call = ap (λ (calls : List Call). slice_get calls own.0) (sym (whole.in_order entry.call.client client)) ∙ own.1 in
    let number = own_at script entry.call.client read.numbered own.0 entry.call there in
    record {
      client = client;
      place = own.0;
      there = there;
      number = number;
      few = (let within = at_below (own_calls script entry.call.client) own.0 entry.call there in let size = length-append (filter (λ (c : Call). c.client == entry.call.client) script.lines) (leave_after script.lines entry.call.client ∷ []) in
          let count = length-filter_calls script.lines entry.call.client in let most = calls_of-few entry.call.client script.lines in let few = read.few in omega arith);
    }

-- its client and its number tell which it is
same_call : (script : Script) (one other : Call) → IsKnown script one → IsKnown script other → one.client ≡ other.client → one.number ≡ other.number → one ≡ other
same_call script one other known also client number =
    let place : known.place ≡ also.place = (let first = known.number in let second = also.number in omega arith) in
    some_equal one other (sym known.there ∙ (λ i. slice_get (own_calls script (client i)) (place i)) ∙ also.there)

-- ---- no call is there twice

counts : (client number : ℕ) (history : List HistoryEntry) → how_many (is_entry_of client number) history ≡ how_many (λ (call : Call). call.number == number) (made_by client history)
counts client number [] = refl
counts client number (entry ∷ history) = (let rest = counts client number history in elim (cases_Bool (entry.call.client == client)) [
  | inl own ↦ rw own (omega arith)
  | inr other ↦ rw other (omega arith)
])

none_below : (calls : List Call) (base number : ℕ) → ((k : ℕ) (call : Call) → slice_get calls k ≡ Some call → call.number ≡ base + k + 1) → number ≤ base → how_many (λ (call : Call). call.number == number) calls ≡ 0
none_below [] base number numbered below = refl
none_below (call ∷ calls) base number numbered below =
    let rest = none_below calls (base + 1) number (λ k c at. (let n = numbered (suc k) c at in omega arith)) (omega arith) in
    let first : call.number ≡ base + 0 + 1 = numbered 0 call refl in
    elim (cases_Bool (call.number == number)) [
      | inl is ↦ (let same = eqb-true call.number number is in absurd (omega arith))
      | inr isnt ↦ rw isnt (omega arith)
    ]

one_at_most : (calls : List Call) (base number : ℕ) → ((k : ℕ) (call : Call) → slice_get calls k ≡ Some call → call.number ≡ base + k + 1) → how_many (λ (call : Call). call.number == number) calls ≤ 1
one_at_most [] base number numbered = omega arith
one_at_most (call ∷ calls) base number numbered =
    let later : (k : ℕ) (c : Call) → slice_get calls k ≡ Some c → c.number ≡ base + 1 + k + 1 = (λ k c at. (let n = numbered (suc k) c at in omega arith)) in
    let first : call.number ≡ base + 0 + 1 = numbered 0 call refl in
    elim (cases_Bool (call.number == number)) [
      | inl is ↦ (let same = eqb-true call.number number is in let none = none_below calls (base + 1) number later (omega arith) in rw is (omega arith))
      | inr isnt ↦ (let few = one_at_most calls (base + 1) number later in rw isnt (omega arith))
    ]

none_past : (clients client number : ℕ) (history : List HistoryEntry) → clients ≤ client → All (λ entry. entry.call.client < clients) history → how_many (is_entry_of client number) history ≡ 0
none_past clients client number [] past all = refl
none_past clients client number (entry ∷ history) past all =
    let rest = none_past clients client number history past (λ k d within. all (suc k) d (omega arith)) in
    let first : entry.call.client < clients = all 0 entry (omega arith) in
    elim (cases_Bool (entry.call.client == client)) [
      | inl is ↦ (let same = eqb-true entry.call.client client is in absurd (omega arith))
      | inr isnt ↦ rw isnt (omega arith)
    ]

-- the first calls of a client are numbered as all are
begun_at : (script : Script) (history : List HistoryEntry) (client : ℕ) (rest : List Call) → AreNumbered [] script.lines → own_calls script client ≡ made_by client history ++ rest
    → (k : ℕ) (call : Call) → slice_get (made_by client history) k ≡ Some call → call.number ≡ k + 1
begun_at script history client rest numbered is k call at = own_at script client numbered k call (ap (λ (calls : List Call). slice_get calls k) is ∙ first-at (made_by client history) rest k call at)
  where
    first-at : (front back : List Call) (k : ℕ) (call : Call) → slice_get front k ≡ Some call → slice_get (front ++ back) k ≡ Some call
    first-at [] back k call at = (let impossible : None ≡ Some call = at in cc)
    first-at (one ∷ front) back zero call at = at
    first-at (one ∷ front) back (suc k) call at = first-at front back k call at

pub Begun-differ : (script : Script) (history : List HistoryEntry) → AreNumbered [] script.lines → Begun script history → CallsDiffer history
Begun-differ script history numbered begun client number = elim (cases_Bool (nat_lt client (length script.setup.clients))) [
  | inr isnt ↦ (let past = ltb-false client (length script.setup.clients) isnt in let none = none_past (length script.setup.clients) client number history past begun.no_others in omega arith)
  | inl is ↦ (let own = begun.in_order client (ltb-true client (length script.setup.clients) is) in
      let count = counts client number history in
      let few = one_at_most (made_by client history) 0 number (λ k call at. (let n = begun_at script history client own.0 numbered own.1 k call at in omega arith)) in omega arith)
]

-- a whole history has come as far as any
pub Whole-begun : (script : Script) (history : List HistoryEntry) → Whole script history → Begun script history
Whole-begun script history whole = record {
  runs = whole.runs;
  in_order = λ client within. ([], sym (whole.in_order client within) ∙ sym (append-nil (made_by client history)));
  free = whole.free;
  no_others = whole.no_others;
}

pub Whole-differ : (script : Script) (history : List HistoryEntry) → IsReadScript script → Whole script history → CallsDiffer history
Whole-differ script history read whole = Begun-differ script history read.numbered (Whole-begun script history whole)

-- ---- turn by turn

-- the turn that an entry stands for
record Made (script : Script) (r : Run) (entry : HistoryEntry) : Type 0 where
  known : IsKnown script entry.call
  turned : Turned
  turns : turn r.volume entry.call entry.starved ≡ Some turned
  ours : AreOurs script.setup.clients turned.out.ended

abbrev GoesOn : Script → Run → List HistoryEntry → Type 0
GoesOn script r [] = Unit {0}
GoesOn script r (entry ∷ rest) = (made : Made script r entry) × GoesOn script (with_turn r made.turned) rest

turned-ours : (script : Script) (history : List HistoryEntry) (entry : HistoryEntry) (rest : List HistoryEntry) (r : Run) (t : Turned) → IsReadScript script → run script.setup history ≡ Some r
    → Whole script (history ++ entry ∷ rest) → turn r.volume entry.call entry.starved ≡ Some t → AreOurs script.setup.clients t.out.ended
turned-ours script history entry rest r t read is whole turns = counted-ours script.setup.clients t.out.ended (λ client number some.
    let both = how_many-append (is_entry_of client number) (history ++ entry ∷ []) rest in
    let joined : how_many (is_entry_of client number) ((history ++ entry ∷ []) ++ rest) ≡ how_many (is_entry_of client number) (history ++ entry ∷ rest) = ap (how_many (is_entry_of client number)) (append_assoc history (entry ∷ []) rest) in
    let times : times client number t.volume ≡ 0 + how_many (is_entry_of client number) (history ++ entry ∷ []) = Runs.times after client number in
    let kept = GivesStarved.kept (turn-starved r.volume entry.call entry.starved t turns) (is_end client number) in
    made_ours client number (omega arith))
  where
    after : Runs (fresh script.setup) (history ++ entry ∷ []) t.volume
    after = run-runs script.setup (history ++ entry ∷ []) (with_turn r t) (λ client number.
        (let both = how_many-append (is_entry_of client number) (history ++ entry ∷ []) rest in
        let joined : how_many (is_entry_of client number) ((history ++ entry ∷ []) ++ rest) ≡ how_many (is_entry_of client number) (history ++ entry ∷ rest) = ap (how_many (is_entry_of client number)) (append_assoc history (entry ∷ []) rest) in
        let few : how_many (is_entry_of client number) (history ++ entry ∷ rest) ≤ 1 = Whole-differ script (history ++ entry ∷ rest) read whole client number in
        omega arith)) (run-push script.setup history entry r t is turns)

    made_ours : (client number : ℕ) → 1 ≤ how_many (is_entry_of client number) (history ++ entry ∷ rest) → (client < length script.setup.clients) × (number < 2 ^ 64)
    made_ours client number some =
        let found = some-entry (is_entry_of client number) (history ++ entry ∷ rest) some in
        let known = known_at script (history ++ entry ∷ rest) found.0 found.1.0 read whole found.1.1.0 in
        let by : found.1.0.call.client ≡ client = eqb-true found.1.0.call.client client (and_left (found.1.0.call.client == client) (found.1.0.call.number == number) found.1.1.1) in
        let same : found.1.0.call.number ≡ number = eqb-true found.1.0.call.number number (and_right (found.1.0.call.client == client) (found.1.0.call.number == number) found.1.1.1) in
        (subst (λ (c : ℕ). c < length script.setup.clients) by known.client, subst (λ (n : ℕ). n < 2 ^ 64) same known.few)

goes_on : (script : Script) (history : List HistoryEntry) (r : Run) (rest : List HistoryEntry) → IsReadScript script → run script.setup history ≡ Some r → Whole script (history ++ rest) → GoesOn script r rest
goes_on script history r [] read is whole = tt
goes_on script history r (entry ∷ rest) read is whole =
    let there = turned-there script.setup history entry rest r is whole.runs in (
      record {
        known = known_at script (history ++ entry ∷ rest) (length history) entry read whole (entry-at history entry rest);
        turned = there.0;
        turns = there.1;
        ours = turned-ours script history entry rest r there.0 read is whole there.1;
      },
      goes_on script (history ++ entry ∷ []) (with_turn r there.0) rest read (run-push script.setup history entry r there.0 is there.1) (subst (Whole script) (sym (append_assoc history (entry ∷ []) rest)) whole),
    )

-- ---- what a turn's first line tells

head_words : (clients : List Client) (call : Call) (answer : Answer) (back : List ℕ)
    → turn_head clients call answer ++ back ≡ 62 ∷ 32 ∷ (name_of clients call.client ++ 32 ∷ (decimal call.number ++ 32 ∷ (verb call.what ++ 10 ∷ (answer_line clients call answer ++ back))))
head_words clients call answer back =
    let begins : List ℕ = codes "> " ++ call_text clients call.client call.number in
    let asks : List ℕ = 32 ∷ verb call.what in
    let answers : List ℕ = answer_line clients call answer in
    append_assoc ((begins ++ asks) ++ 10 ∷ []) answers back
    ∙ append_assoc (begins ++ asks) (10 ∷ []) (answers ++ back)
    ∙ append_assoc begins asks (10 ∷ (answers ++ back))
    ∙ ap (λ (bytes : List ℕ). 62 ∷ 32 ∷ bytes) (append_assoc (name_of clients call.client) (32 ∷ decimal call.number) (32 ∷ (verb call.what ++ 10 ∷ (answers ++ back))))

head_tells : (script : Script) (one other : Call) (answer another : Answer) (back rest : List ℕ) → IsReadScript script → IsKnown script one → IsKnown script other
    → turn_head script.setup.clients one answer ++ back ≡ turn_head script.setup.clients other another ++ rest → one ≡ other
head_tells script one other answer another back rest read known also alike =
    let clients : List Client = script.setup.clients in
    let shown = sym (head_words clients one answer back) ∙ alike ∙ head_words clients other another rest in
    let names = same_word ends_word (name_of clients one.client) (name_of clients other.client) 32 32 _ _ (name-ends_word clients one.client read.named) (name-ends_word clients other.client read.named) refl refl (behind shown) in
    let numbers = same_word ends_word (decimal one.number) (decimal other.number) 32 32 _ _ (Free-decimal one.number) (Free-decimal other.number) refl refl (tail_of names.1) in
    same_call script one other known also (same_client clients one.client other.client read.named known.client also.client names.0) (decimal_injective one.number other.number known.few also.few numbers.0)
  where
    behind : {front more : List ℕ} → 62 ∷ 32 ∷ front ≡ 62 ∷ 32 ∷ more → front ≡ more
    behind alike = cc

-- ---- two histories

follows : (script : Script) (r : Run) (rest : List HistoryEntry) (turns : ℕ) → GoesOn script r rest → FollowsTurn (text_on script.setup.clients r.volume rest ++ last_line turns)
follows script r [] turns on = inr (turns, refl)
follows script r (entry ∷ rest) turns on = inl (_, turn_lines script.setup.clients r.volume entry rest turns on.0.turned on.0.turns)

same_next : (script : Script) (r : Run) (one other : HistoryEntry) (rest more : List HistoryEntry) (turns count : ℕ) → IsReadScript script
    → GoesOn script r (one ∷ rest) → GoesOn script r (other ∷ more)
    → text_on script.setup.clients r.volume (one ∷ rest) ++ last_line turns ≡ text_on script.setup.clients r.volume (other ∷ more) ++ last_line count → one ≡ other
same_next script r one other rest more turns count read on also same =
    let clients : List Client = script.setup.clients in
    let here = turn_lines clients r.volume one rest turns on.0.turned on.0.turns in
    let there = turn_lines clients r.volume other more count also.0.turned also.0.turns in
    let calls : one.call ≡ other.call = head_tells script one.call other.call (answer_of (try r.volume one.call (turn_number r.volume))) (answer_of (try r.volume other.call (turn_number r.volume))) _ _ read on.0.known also.0.known (sym here ∙ same ∙ there) in
    let head : Call → List ℕ = λ (call : Call). turn_head clients call (answer_of (try r.volume call (turn_number r.volume))) in
    let tail : List ℕ = ended_lines clients also.0.turned.out.ended ++ (text_on clients also.0.turned.volume more ++ last_line count) in
    let ends = append_cancel_left (head one.call) (ended_lines clients on.0.turned.out.ended ++ (text_on clients on.0.turned.volume rest ++ last_line turns)) tail
    (sym here ∙ same ∙ there ∙ ap (λ (call : Call). head call ++ tail) (sym calls)) in
    let names : starved_of on.0.turned.out.ended ≡ starved_of also.0.turned.out.ended
    = same_starved clients on.0.turned.out.ended also.0.turned.out.ended _ _ read.named on.0.ours also.0.ours
    (follows script (with_turn r on.0.turned) rest turns on.1) (follows script (with_turn r also.0.turned) more count also.1) ends in
    same_entry one other calls
    (sym (GivesStarved.names (turn-starved r.volume one.call one.starved on.0.turned on.0.turns)) ∙ names ∙ GivesStarved.names (turn-starved r.volume other.call other.starved also.0.turned also.0.turns))

same_rest : (script : Script) (r : Run) (rest more : List HistoryEntry) (turns count : ℕ) → IsReadScript script → GoesOn script r rest → GoesOn script r more
    → text_on script.setup.clients r.volume rest ++ last_line turns ≡ text_on script.setup.clients r.volume more ++ last_line count → rest ≡ more
same_rest script r [] [] turns count read on also same = refl
same_rest script r [] (other ∷ more) turns count read on also same = apart (same ∙ turn_lines script.setup.clients r.volume other more count also.0.turned also.0.turns)
  where
    apart : {front back : List ℕ} → 101 ∷ front ≡ 62 ∷ back → [] ≡ other ∷ more
    apart alike = cc
same_rest script r (one ∷ rest) [] turns count read on also same = apart (sym same ∙ turn_lines script.setup.clients r.volume one rest turns on.0.turned on.0.turns)
  where
    apart : {front back : List ℕ} → 101 ∷ front ≡ 62 ∷ back → one ∷ rest ≡ []
    apart alike = cc
same_rest script r (one ∷ rest) (other ∷ more) turns count read on also same =
    let clients : List Client = script.setup.clients in
    let entries : one ≡ other = same_next script r one other rest more turns count read on also same in
    let goes : GoesOn script r (one ∷ more) = subst (λ (entry : HistoryEntry). GoesOn script r (entry ∷ more)) (sym entries) also in
    let texts : text_on clients r.volume (one ∷ rest) ++ last_line turns ≡ text_on clients r.volume (one ∷ more) ++ last_line count
    = subst (λ (entry : HistoryEntry). text_on clients r.volume (one ∷ rest) ++ last_line turns ≡ text_on clients r.volume (entry ∷ more) ++ last_line count) (sym entries) same in
    let turneds : goes.0.turned ≡ on.0.turned = some_equal goes.0.turned on.0.turned (sym goes.0.turns ∙ on.0.turns) in
    let after : GoesOn script (with_turn r on.0.turned) more = subst (λ (t : Turned). GoesOn script (with_turn r t) more) turneds goes.1 in
    let lines = append_cancel_left (turn_head clients one.call (answer_of (try r.volume one.call (turn_number r.volume))))
    (ended_lines clients on.0.turned.out.ended ++ (text_on clients on.0.turned.volume rest ++ last_line turns)) (ended_lines clients on.0.turned.out.ended ++ (text_on clients on.0.turned.volume more ++ last_line count))
    (sym (turn_lines clients r.volume one rest turns on.0.turned on.0.turns) ∙ texts ∙ turn_lines clients r.volume one more count on.0.turned on.0.turns) in
    let left = append_cancel_left (ended_lines clients on.0.turned.out.ended) (text_on clients on.0.turned.volume rest ++ last_line turns) (text_on clients on.0.turned.volume more ++ last_line count) lines in
    ap (λ (entries : List HistoryEntry). one ∷ entries) (same_rest script (with_turn r on.0.turned) rest more turns count read on.1 after left)
    ∙ ap (λ (entry : HistoryEntry). entry ∷ more) entries

pub same_race : (script : Script) (history other : List HistoryEntry) → IsReadScript script → Whole script history → Whole script other → text script other ≡ text script history → other ≡ history
same_race script history other read whole also same =
    same_rest script (begun script.setup) other history (length other) (length history) read (goes_on script [] (begun script.setup) other read refl also) (goes_on script [] (begun script.setup) history read refl whole)
    (sym (text_on-whole script other also.runs) ∙ same ∙ text_on-whole script history whole.runs)
