-- Lines that are taken one after the other, and how a script may go on behind them.
use Rattle.std.proofs.Common.{◌≡◌, ◌∙◌, sym, ap, subst, ℕ, zero, suc, ◌+◌, ◌<◌, ◌≤◌, Bool, true, false, ◌&&◌, not, List, [], ◌∷◌, ◌++◌, Option, Some, None, length, take, inl, inr, ◌⊎◌, refl, arith, if◌then◌else◌}
use Rattle.std.specs.Prelude.{Result, Ok, Err, ◌==◌, nat_le, is_some}
use Rattle.std.proofs.lemmas.List.{append_assoc, length-append}
use Rattle.std.proofs.lemmas.List.Elements.{All-from_recursion}
use Rattle.std.proofs.lemmas.List.Splits.{slice_split_at}
use Rattle.std.proofs.lemmas.Bool.{ne_eqb}
use Rattle.fsa_types.specs.CaseTable.{ascii_pairs, is_at_fault}
use Rattle.fsa_types.specs.declared.request.What.{What}
use Rattle.fsa_model.specs.Fault.{Kind, BadCut, BadSyntax, BadClient, Fault, ◌>>=◌, only_if}
use Rattle.fsa_model.specs.Setup.{Script}
use Rattle.fsa_model.specs.Words.{field_at, number_at}
use Rattle.fsa_model.specs.Lines.{Line, Version, DefaultTable, PairTable, Pair, ClientLine, RequestLine, line_of, client_at, sids_at}
use Rattle.fsa_model.specs.Script.{Stage, Nothing, Begun, Pairs, Table, Clients, Requests, Reading, takes_version, takes_table, takes_pairs, takes_clients, takes_requests, place_of, with_stage, with_table, with_client, with_call, take_line, take_client, take_request, take_request_of, take_call, line_after, end_after, at_line, lines_from, pieces}
use Rattle.fsa_model.specs.Soundness.{with_line_feeds}
use Rattle.fsa_model.proofs.ScriptSpelt.{NoFeeds}
use Rattle.script_read.proofs.SpellLemmas.{both}

-- ---- answers

result_cases : {A B : Type 0} (x : Result A B) → ((v : A) × (x ≡ Ok v)) ⊎ ((e : B) × (x ≡ Err e))
result_cases (Ok v) = inl (v, refl)
result_cases (Err e) = inr (e, refl)

bind_ok : {A B : Type 0} (x : Result A Kind) (f : A → Result B Kind) (y : B) → (x >>= f) ≡ Ok y → (v : A) × (x ≡ Ok v) × (f v ≡ Ok y)
bind_ok (Ok v) f y e = (v, refl, e)
bind_ok (Err kind) f y e = cc

only_if_ok : {A : Type 0} (test : Bool) (v w : A) → only_if test v ≡ Ok w → (test ≡ true) × (v ≡ w)
only_if_ok true v w e = (refl, cc)
only_if_ok false v w e = cc

-- ---- lines without line feeds

abbrev is_feed : ℕ → Bool
is_feed byte = byte == 10

pub NoFeeds-take : (count : ℕ) (lines : List (List ℕ)) → NoFeeds lines → NoFeeds (take count lines)
NoFeeds-take zero lines none = tt
NoFeeds-take (suc count) [] none = tt
NoFeeds-take (suc count) (line ∷ lines) none = (none.0, NoFeeds-take count lines none.1)

pub pieces-ended : (lines : List (List ℕ)) (more : List ℕ) → NoFeeds lines → pieces (with_line_feeds lines ++ more) ≡ lines ++ pieces more
pieces-ended [] more none = refl
pieces-ended (line ∷ lines) more none =
    let regrouped : ((line ++ 10 ∷ []) ++ with_line_feeds lines) ++ more ≡ line ++ 10 ∷ (with_line_feeds lines ++ more) =
    append_assoc (line ++ 10 ∷ []) (with_line_feeds lines) more ∙ append_assoc line (10 ∷ []) (with_line_feeds lines ++ more) in
    ap pieces regrouped
    ∙ slice_split_at is_feed line 10 (with_line_feeds lines ++ more) (All-from_recursion (λ byte. is_feed byte ≡ false) line none.0) refl
    ∙ ap (λ rest. line ∷ rest) (pieces-ended lines more none.1)

-- ---- runs of lines

abbrev pub run : Reading → List (List ℕ) → Result Reading Kind
run reading [] = Ok reading
run reading (line ∷ lines) = line_after reading line >>= λ next. run next lines

not_last : (lines rest : List (List ℕ)) → 1 ≤ length rest → (length (lines ++ rest) == 0) ≡ false
not_last lines rest some = ne_eqb _ 0 (λ e. absurd (omega (arith, length-append lines rest)))

pub lines_from-run : (line : ℕ) (reading reached : Reading) (lines rest : List (List ℕ)) → 1 ≤ length rest → run reading lines ≡ Ok reached
    → lines_from line reading (lines ++ rest) ≡ lines_from (line + length lines) reached rest
lines_from-run line reading reached [] rest some runs =
    let same : reading ≡ reached = cc in
    let at : line ≡ line + length {A = List ℕ} [] = omega arith in
    ap (λ r. lines_from line r rest) same ∙ ap (λ n. lines_from n reached rest) at
lines_from-run line reading reached (text ∷ lines) rest some runs =
    let step = bind_ok (line_after reading text) (λ next. run next lines) reached runs in
    let at : line + 1 + length lines ≡ line + length (text ∷ lines) = omega arith in
    rw (not_last lines rest some, step.1)
    (lines_from-run (line + 1) step.0 reached lines rest some step.2 ∙ ap (λ n. lines_from n reached rest) at)

pub lines_from-stop : (line : ℕ) (reading : Reading) (kind : Kind) (lines rest : List (List ℕ)) → 1 ≤ length rest → run reading lines ≡ Err kind
    → (fault : Fault) × (lines_from line reading (lines ++ rest) ≡ Err fault)
lines_from-stop line reading kind [] rest some runs = absurd (let e : Ok reading ≡ Err kind = runs in cc)
lines_from-stop line reading kind (text ∷ lines) rest some runs =
    elim (result_cases (line_after reading text)) [
      | inl taken ↦
          let later = lines_from-stop (line + 1) taken.0 kind lines rest some (rw taken.1 at runs) in
          (later.0, rw (not_last lines rest some, taken.1) later.1)
      | inr bad ↦ (record { line = line; kind = bad.0 }, rw (not_last lines rest some, bad.1) refl)
    ]

-- ---- where the fault is

pub record FaultAt (line : ℕ) (reading : Reading) (lines : List (List ℕ)) (fault : Fault) : Type 0 where
  pub place : ℕ
  pub reached : Reading
  pub at : fault.line ≡ line + place
  pub within : place < length lines
  pub runs : run reading (take place lines) ≡ Ok reached
  pub stops : suc place < length lines → run reading (take (suc place) lines) ≡ Err fault.kind

end_line : (first second : Bool) (line : ℕ) (script : Script) (fault : Fault)
    → (if first then Err (record { line = line; kind = BadCut }) else if second then Err (record { line = line; kind = BadSyntax }) else Ok script) ≡ Err fault
    → fault.line ≡ line
end_line true second line script fault e = let same : record { line = line; kind = BadCut } ≡ fault = cc in ap (λ f. f.line) (sym same)
end_line false true line script fault e = let same : record { line = line; kind = BadSyntax } ≡ fault = cc in ap (λ f. f.line) (sym same)
end_line false false line script fault e = cc

end_after-line : (line : ℕ) (reading : Reading) (rest : List ℕ) (fault : Fault) → end_after line reading rest ≡ Err fault → fault.line ≡ line
unfolding end_after
end_after-line line reading rest fault e = end_line (not (length rest == 0)) (not (takes_requests reading.stage)) line reading.script fault e

-- the fault of the lines behind a line that is taken
fault_later : (line : ℕ) (reading next : Reading) (text : List ℕ) (lines : List (List ℕ)) (fault : Fault) → line_after reading text ≡ Ok next
    → FaultAt (line + 1) next lines fault → FaultAt line reading (text ∷ lines) fault
fault_later line reading next text lines fault taken later = record {
  place = suc later.place;
  reached = later.reached;
  at = later.at ∙ (let e : line + 1 + later.place ≡ line + suc later.place = omega arith in e);
  within = omega (arith, later.within);
  runs = rw taken later.runs;
  stops = λ further. rw taken (later.stops (omega arith));
}

-- the fault of this line
fault_here : (line : ℕ) (reading : Reading) (text : List ℕ) (lines : List (List ℕ)) (fault : Fault) (kind : Kind) → line_after reading text ≡ Err kind
    → record { line = line; kind = kind } ≡ fault → FaultAt line reading (text ∷ lines) fault
fault_here line reading text lines fault kind bad same = record {
  place = 0;
  reached = reading;
  at = ap (λ f. f.line) (sym same) ∙ (let e : line ≡ line + 0 = omega arith in e);
  within = omega arith;
  runs = refl;
  stops = λ further. rw bad (ap (λ f. Err f.kind) same);
}

goes_on_or_not : (line : ℕ) (after : Result Reading Kind) (more : Reading → Result Script Fault) (fault : Fault) → at_line line after more ≡ Err fault
    → ((next : Reading) × (after ≡ Ok next) × (more next ≡ Err fault)) ⊎ ((kind : Kind) × (after ≡ Err kind) × (record { line = line; kind = kind } ≡ fault))
goes_on_or_not line (Ok next) more fault e = inl (next, refl, e)
goes_on_or_not line (Err kind) more fault e = inr (kind, refl, cc)

pub fault_at : (line : ℕ) (reading : Reading) (lines : List (List ℕ)) (fault : Fault) → 1 ≤ length lines → lines_from line reading lines ≡ Err fault
    → FaultAt line reading lines fault
fault_at line reading [] fault some fails = absurd (omega arith)
fault_at line reading (text ∷ []) fault some fails = record {
  place = 0;
  reached = reading;
  at = end_after-line line reading text fault fails ∙ (let e : line ≡ line + 0 = omega arith in e);
  within = omega arith;
  runs = refl;
  stops = λ more. absurd (omega arith);
}
fault_at line reading (text ∷ second ∷ lines) fault some fails =
    let more : (length (second ∷ lines) == 0) ≡ false = ne_eqb _ 0 (λ e. absurd (omega arith)) in
    let split : at_line line (line_after reading text) (λ next. lines_from (line + 1) next (second ∷ lines)) ≡ Err fault = rw more at fails in
    elim (goes_on_or_not line (line_after reading text) (λ next. lines_from (line + 1) next (second ∷ lines)) fault split) [
      | inl taken ↦ fault_later line reading taken.0 text (second ∷ lines) fault taken.1 (fault_at (line + 1) taken.0 (second ∷ lines) fault (omega arith) taken.2)
      | inr bad ↦ fault_here line reading text (second ∷ lines) fault bad.0 bad.1 bad.2
    ]

-- ---- before the first client line there are no clients

abbrev pub HasNoneYet : Reading → Type 0
HasNoneYet reading = takes_requests reading.stage ≡ false → reading.script.setup.clients ≡ []

none_at_version : (stage : Stage) → takes_version stage ≡ true → takes_requests stage ≡ false
none_at_version Nothing e = refl
none_at_version _ e = cc

none_at_table : (stage : Stage) → takes_table stage ≡ true → takes_requests stage ≡ false
none_at_table Begun e = refl
none_at_table _ e = cc

none_at_pairs : (stage : Stage) → takes_pairs stage ≡ true → takes_requests stage ≡ false
none_at_pairs Pairs e = refl
none_at_pairs _ e = cc

carried : (old new : Reading) → HasNoneYet old → takes_requests old.stage ≡ false → new.script.setup.clients ≡ old.script.setup.clients → HasNoneYet new
carried old new none at same = λ e. same ∙ none at

moved : (left right : Reading) → left ≡ right → HasNoneYet left → HasNoneYet right
moved left right same none = subst HasNoneYet same none

taken_client : (first second : Bool) (next reading : Reading) → (if first then Err BadSyntax else if second then Err BadClient else Ok next) ≡ Ok reading → next ≡ reading
taken_client true second next reading e = cc
taken_client false true next reading e = cc
taken_client false false next reading e = cc

taken_call : (test : Bool) (next reading : Reading) (kind : Kind) → (if test then Ok next else Err kind) ≡ Ok reading → next ≡ reading
taken_call true next reading kind e = cc
taken_call false next reading kind e = cc

call_stage : (reading next : Reading) (client number : ℕ) (what : What) → take_call reading client number what ≡ Ok next → takes_requests next.stage ≡ true
unfolding take_call
call_stage reading next client number what e =
    let same = taken_call _ (with_call reading client number what) next _ e in
    ap (λ r. takes_requests r.stage) (sym same)

request_of-stage : (reading next : Reading) (found : Option ℕ) (number : ℕ) (what : What) → take_request_of reading found number what ≡ Ok next
    → takes_requests next.stage ≡ true
request_of-stage reading next None number what e = cc
request_of-stage reading next (Some client) number what e = call_stage reading next client number what e

unless_refused : {A : Type 0} (test : Bool) (kind : Kind) (more : Result A Kind) (v : A) → (if test then Err kind else more) ≡ Ok v → more ≡ Ok v
unless_refused true kind more v e = cc
unless_refused false kind more v e = e

request_stage : (reading next : Reading) (name : List ℕ) (number : ℕ) (what : What) → take_request reading name number what ≡ Ok next
    → takes_requests next.stage ≡ true
unfolding take_request
request_stage reading next name number what e =
    request_of-stage reading next (place_of reading.script.setup.clients name) number what
    (unless_refused (not (takes_requests reading.stage)) BadSyntax
    (take_request_of reading (place_of reading.script.setup.clients name) number what) next e)

client_stage : (reading next : Reading) (name sids : List ℕ) → take_client reading name sids ≡ Ok next → takes_requests next.stage ≡ true
unfolding take_client
client_stage reading next name sids e =
    let same = taken_client (not (takes_clients reading.stage)) (is_some (place_of reading.script.setup.clients name)) (with_client reading name sids) next e in
    ap (λ r. takes_requests r.stage) (sym same)

passed : (reading : Reading) → takes_requests reading.stage ≡ true → HasNoneYet reading
passed reading takes = λ none. absurd (let e : true ≡ false = sym takes ∙ none in cc)

take_line-none : (reading next : Reading) (line : Line) → take_line reading line ≡ Ok next → HasNoneYet reading → HasNoneYet next
unfolding take_line
take_line-none reading next Version e none =
    let parts = only_if_ok (takes_version reading.stage) (with_stage reading Begun) next e in
    moved (with_stage reading Begun) next parts.1 (carried reading (with_stage reading Begun) none (none_at_version reading.stage parts.0) refl)
take_line-none reading next DefaultTable e none =
    let parts = only_if_ok (takes_table reading.stage) (with_table reading Table ascii_pairs) next e in
    moved (with_table reading Table ascii_pairs) next parts.1 (carried reading (with_table reading Table ascii_pairs) none (none_at_table reading.stage parts.0) refl)
take_line-none reading next PairTable e none =
    let parts = only_if_ok (takes_table reading.stage) (with_table reading Pairs []) next e in
    moved (with_table reading Pairs []) next parts.1 (carried reading (with_table reading Pairs []) none (none_at_table reading.stage parts.0) refl)
take_line-none reading next (Pair source target) e none =
    let longer = with_table reading Pairs (reading.script.setup.table ++ (source, target) ∷ []) in
    let parts = only_if_ok (takes_pairs reading.stage && nat_le source 65535 && nat_le target 65535 && not (is_at_fault reading.script.setup.table (source, target))) longer next e in
    let three = both (takes_pairs reading.stage && nat_le source 65535 && nat_le target 65535) (not (is_at_fault reading.script.setup.table (source, target))) parts.0 in
    let two = both (takes_pairs reading.stage && nat_le source 65535) (nat_le target 65535) three.0 in
    let one = both (takes_pairs reading.stage) (nat_le source 65535) two.0 in
    moved longer next parts.1 (carried reading longer none (none_at_pairs reading.stage one.0) refl)
take_line-none reading next (ClientLine name sids) e none = passed next (client_stage reading next name sids e)
take_line-none reading next (RequestLine name number what) e none = passed next (request_stage reading next name number what e)

line_after-none : (reading next : Reading) (text : List ℕ) → line_after reading text ≡ Ok next → HasNoneYet reading → HasNoneYet next
unfolding line_after
line_after-none reading next text e none =
    let step = bind_ok (line_of text) (take_line reading) next e in
    take_line-none reading next step.0 step.2 none

pub run-none : (reading reached : Reading) (lines : List (List ℕ)) → run reading lines ≡ Ok reached → HasNoneYet reading → HasNoneYet reached
run-none reading reached [] runs none = let same : reading ≡ reached = cc in moved reading reached same none
run-none reading reached (text ∷ lines) runs none =
    let step = bind_ok (line_after reading text) (λ next. run next lines) reached runs in
    run-none step.0 reached lines step.2 (line_after-none reading step.0 text step.1 none)

-- ---- how a script may go on

-- `fsa 1`, and `client a 0`
abbrev version_line : List ℕ
version_line = 102 ∷ 115 ∷ 97 ∷ 32 ∷ 49 ∷ []

abbrev client_line : List ℕ
client_line = 99 ∷ 108 ∷ 105 ∷ 101 ∷ 110 ∷ 116 ∷ 32 ∷ 97 ∷ 32 ∷ 48 ∷ []

reads_version : line_of version_line ≡ Ok Version
unfolding line_of
reads_version = refl

reads_client : line_of client_line ≡ Ok (ClientLine (97 ∷ []) (0 ∷ []))
unfolding line_of client_at sids_at number_at field_at
reads_client = refl

takes_client_line : (reading : Reading) → takes_clients reading.stage ≡ true → reading.script.setup.clients ≡ []
    → line_after reading client_line ≡ Ok (with_client reading (97 ∷ []) (0 ∷ []))
unfolding line_after take_line take_client
takes_client_line reading takes none =
    let absent : is_some (place_of reading.script.setup.clients (97 ∷ [])) ≡ false = ap (λ clients. is_some (place_of clients (97 ∷ []))) none in
    rw (reads_client, takes, absent) refl

takes_version_line : (reading : Reading) → takes_version reading.stage ≡ true → line_after reading version_line ≡ Ok (record { stage = Begun; script = reading.script })
unfolding line_after take_line
takes_version_line reading takes = rw (reads_version, takes) refl

ends : (line : ℕ) (reading : Reading) → takes_requests reading.stage ≡ true → lines_from line reading ([] ∷ []) ≡ Ok reading.script
unfolding end_after
ends line reading takes = rw takes refl

-- with a client line the script is whole
with_client_line : (line : ℕ) (reading : Reading) → takes_clients reading.stage ≡ true → reading.script.setup.clients ≡ []
    → lines_from line reading (client_line ∷ [] ∷ []) ≡ Ok (with_client reading (97 ∷ []) (0 ∷ [])).script
with_client_line line reading takes none =
    rw (takes_client_line reading takes none) (ends (line + 1) (with_client reading (97 ∷ []) (0 ∷ [])) refl)

-- the text that makes a script whole, with a byte at least where nothing was read
pub goes_on : (stage : Stage) (script : Script) → HasNoneYet (record { stage = stage; script = script })
    → (more : List ℕ) × (whole : Script) × ((line : ℕ) → lines_from line (record { stage = stage; script = script }) (pieces more) ≡ Ok whole) × ((takes_version stage ≡ true) → (length more == 0) ≡ false)
goes_on Nothing script none =
    let begun : Reading = record { stage = Begun; script = script } in (
      version_line ++ 10 ∷ (client_line ++ 10 ∷ []),
      (with_client begun (97 ∷ []) (0 ∷ [])).script,
      (λ line. rw (takes_version_line (record { stage = Nothing; script = script }) refl) (with_client_line (line + 1) begun refl (none refl))),
      (λ e. refl),
    )
goes_on Clients script none = ([], script, (λ line. ends line (record { stage = Clients; script = script }) refl), (λ e. absurd (let never : false ≡ true = e in cc)))
goes_on Requests script none = ([], script, (λ line. ends line (record { stage = Requests; script = script }) refl), (λ e. absurd (let never : false ≡ true = e in cc)))
goes_on Begun script none =
    let reading : Reading = record { stage = Begun; script = script } in
    (client_line ++ 10 ∷ [], (with_client reading (97 ∷ []) (0 ∷ [])).script, (λ line. with_client_line line reading refl (none refl)), (λ e. refl))
goes_on Pairs script none =
    let reading : Reading = record { stage = Pairs; script = script } in
    (client_line ++ 10 ∷ [], (with_client reading (97 ∷ []) (0 ∷ [])).script, (λ line. with_client_line line reading refl (none refl)), (λ e. refl))
goes_on Table script none =
    let reading : Reading = record { stage = Table; script = script } in
    (client_line ++ 10 ∷ [], (with_client reading (97 ∷ []) (0 ∷ [])).script, (λ line. with_client_line line reading refl (none refl)), (λ e. refl))
