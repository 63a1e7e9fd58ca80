-- What is read as a script is written so; and what writes a script is read as it, where its lines are read.
use Rattle.std.proofs.Common.{◌≡◌, ◌∙◌, sym, ap, subst, ℕ, zero, suc, ◌+◌, ◌<◌, ◌≤◌, Bool, true, false, List, [], ◌∷◌, ◌++◌, Option, Some, None, Result, Ok, Err, length, map, get_or, inl, inr, refl, arith, append-nil, append_assoc, leb-true, le-leb, ltb-false, lt-ltb, eq-eqb, length-append}
use Rattle.std.specs.Prelude.{◌≢◌, ◌==◌, ◌&&◌, not, nat_le, nat_lt, is_some, All, AllPairs, if◌then◌else◌}
use Rattle.std.specs.List.{onto_first, position_or_len, join_with_byte}
use Rattle.std.proofs.lemmas.List.{map-append, length_push, get_or_append_left, get_or_push}
use Rattle.std.proofs.Math.Seq.{get_or-append_seam}
use Rattle.std.proofs.lemmas.List.Elements.{All-from_recursion}
use Rattle.std.proofs.lemmas.List.Quantifiers.{position-Some}
use Rattle.std.proofs.lemmas.List.Splits.{length-slice_split, slice_split-cons_yes, slice_split-cons_no, slice_split_at, join_with_byte-slice_split}
use Rattle.std.proofs.lemmas.List.Sums.{fails_before_first, position_or_len_is}
use Rattle.std.proofs.lemmas.Bool.{and_parts, cases_Bool, cases_lt, ne_eqb}
use Rattle.std.proofs.lemmas.Bool.Decides.{Decides-eqb, nat_tests}
use Rattle.std.proofs.lemmas.Slice.Eq.{slice_eq-Decides}
use Rattle.fsa_types.specs.CaseTable.{ascii_pairs, is_at_fault}
use Rattle.fsa_types.specs.declared.request.Call.{Call}
use Rattle.fsa_types.specs.declared.request.What.{What}
use Rattle.fsa_model.specs.Setup.{Client, Script}
use Rattle.fsa_model.specs.Fault.{Kind, BadCut, BadSyntax, BadClient, BadNumber, Fault}
use Rattle.fsa_model.specs.Words.{same}
use Rattle.fsa_model.specs.Lines.{Line, Version, DefaultTable, PairTable, Pair, ClientLine, RequestLine, line_of}
use Rattle.fsa_model.specs.Spelling.{is_line}
use Rattle.fsa_model.specs.Spelled.{Spells}
use Rattle.fsa_model.specs.Script.{Stage, Nothing, Begun, Pairs, Table, Clients, Requests, Reading, nothing_read, takes_version, takes_table, takes_pairs, takes_clients, takes_requests, place_of, next_number, with_stage, with_table, with_client, with_call, take_client, take_call, take_request_of, take_request, take_line, line_after, end_after, at_line, lines_from, pieces, script_of}
use Rattle.fsa_model.specs.Text.{name_of}
use Rattle.fsa_model.specs.ScriptText.{ArePairs, pair_line, SaysTable, client_line, call_line, HasNoFeed, SpellsLines, SpellsScript}
use Rattle.fsa_model.specs.LineCalls.{AreLineCalls}
use Rattle.fsa_model.specs.Schedule.{AreNumbered, calls_of}
use Rattle.fsa_model.proofs.ScriptLaws.{length-filter_calls, script_of-numbered, script_of-fits}
use Rattle.fsa_model.proofs.SpeltLaws.{bind_ok, only_if_ok, none_left}
use Rattle.fsa_model.proofs.SpeltVerbs.{same-is}
use Rattle.fsa_model.proofs.SpeltLines.{line_of-back}

-- ---- lists and tests

AllPairs-push : {X : Type 0} (R : X → X → Type 0) (xs : List X) (x : X) → AllPairs R xs → All (λ y. R y x) xs → AllPairs R (xs ++ x ∷ [])
AllPairs-push R xs x pairs last i j d lt within =
    let long = length_push xs x in
    let low : get_or (xs ++ x ∷ []) i d ≡ get_or xs i d = get_or_append_left xs (x ∷ []) d i (omega arith) in
    elim (cases_lt j (length xs)) [
      | inl inside ↦ rw (low, get_or_append_left xs (x ∷ []) d j inside) (pairs i j d lt inside)
      | inr end ↦ rw (low, get_or_push xs x d j (omega arith)) (last i d (omega arith))
    ]

ArePairs-push : (before pairs : List (ℕ × ℕ)) (source target : ℕ) → ArePairs before pairs → source ≤ 65535 → target ≤ 65535
    → is_at_fault (before ++ pairs) (source, target) ≡ false → ArePairs before (pairs ++ (source, target) ∷ [])
ArePairs-push before [] source target are low high sound = (low, high, subst (λ (front : List (ℕ × ℕ)). is_at_fault front (source, target) ≡ false) (append-nil before) sound, tt)
ArePairs-push before (pair ∷ pairs) source target are low high sound = (
  are.0,
  are.1,
  are.2,
  ArePairs-push (before ++ pair ∷ []) pairs source target are.3 low high
      (subst (λ (front : List (ℕ × ℕ)). is_at_fault front (source, target) ≡ false) (sym (append_assoc before (pair ∷ []) pairs)) sound),
)

not_so : (test : Bool) → not test ≡ true → test ≡ false
not_so true is = absurd (let e : false ≡ true = is in cc)
not_so false is = refl

is_so : (test : Bool) → not test ≡ false → test ≡ true
is_so true is = refl
is_so false is = absurd (let e : true ≡ false = is in cc)

-- what isn't refused
unless_err : {A E : Type 0} (test : Bool) (fault : E) (more : Result A E) (value : A) → (if test then Err fault else more) ≡ Ok value → (test ≡ false) × (more ≡ Ok value)
unless_err true fault more value is = absurd (let e : Err fault ≡ Ok value = is in cc)
unless_err false fault more value is = (refl, is)

where_ok : {A : Type 0} (test : Bool) (one value : A) (kind : Kind) → (if test then Ok one else Err kind) ≡ Ok value → (test ≡ true) × (one ≡ value)
where_ok true one value kind is = (refl, (let e : Ok one ≡ Ok value = is in cc))
where_ok false one value kind is = absurd (let e : Err kind ≡ Ok value = is in cc)

-- ---- names

same-self : (name other : List ℕ) → name ≡ other → same name other ≡ true
same-self name other is = (slice_eq-Decides Decides-eqb name other (same name other) refl).1 is

no_place : (test : Bool) (place : ℕ) → is_some (if test then Some place else None) ≡ false → test ≡ false
no_place true place is = absurd (let e : true ≡ false = is in cc)
no_place false place is = refl

-- a name that has no place is no client's
names-new : (clients : List Client) (name : List ℕ) → is_some (place_of clients name) ≡ false → All (λ client. client.name ≢ name) clients
names-new clients name none k d within is =
    let past : length clients ≤ position_or_len (λ (client : Client). same name client.name) clients = ltb-false _ (length clients) (no_place _ (position_or_len (λ (client : Client). same name client.name) clients) none) in
    let differs : same name (get_or clients k d).name ≡ false = fails_before_first (λ (client : Client). same name client.name) clients k d (omega arith) in
    let equals : same name (get_or clients k d).name ≡ true = same-self name (get_or clients k d).name (sym is) in
    (let e : true ≡ false = sym equals ∙ differs in cc)

name_of-is : (clients : List Client) (place : ℕ) (d : Client) → place < length clients → name_of clients place ≡ (get_or clients place d).name
name_of-is [] place d within = absurd (omega arith)
name_of-is (client ∷ clients) zero d within = refl
name_of-is (client ∷ clients) (suc place) d within = name_of-is clients place d (omega arith)

nobody : Client
nobody = record { name = []; sids = [] }

-- the client at the place of a name has that name
name_of-place : (clients : List Client) (name : List ℕ) (place : ℕ) → place_of clients name ≡ Some place → name_of clients place ≡ name
name_of-place clients name place is =
    let found = position-Some (λ (client : Client). same name client.name) clients place nobody is in
    name_of-is clients place nobody found.0 ∙ sym (same-is name (get_or clients place nobody).name found.1)

-- ---- what lines said so far

-- these lines say the script, but that there may be no client
record Said (lines : List Line) (script : Script) : Type 0 where
  table : List Line
  says_table : SaysTable table script.setup.table
  in_order : lines ≡ Version ∷ (table ++ (map client_line script.setup.clients ++ map (call_line script.setup.clients) script.lines))
  names_differ : AllPairs (λ earlier later. earlier.name ≢ later.name) script.setup.clients

-- these lines said so much, up to this stage
abbrev IsSaid : List Line → Stage → Script → Type 0
IsSaid lines Nothing script = (lines ≡ []) × (script ≡ nothing_read.script)
IsSaid lines Begun script = (lines ≡ Version ∷ []) × (script ≡ nothing_read.script)
IsSaid lines Pairs script = (lines ≡ Version ∷ PairTable ∷ map pair_line script.setup.table) × ArePairs [] script.setup.table × (script.setup.clients ≡ []) × (script.lines ≡ [])
IsSaid lines Table script = (lines ≡ Version ∷ DefaultTable ∷ []) × (script ≡ nothing_read.script)
IsSaid lines Clients script = Said lines script × (script.lines ≡ []) × (1 ≤ length script.setup.clients)
IsSaid lines Requests script = Said lines script × (1 ≤ length script.setup.clients)

none_differ : (clients : List Client) → clients ≡ [] → AllPairs (λ earlier later. earlier.name ≢ later.name) clients
none_differ clients none i j d lt within = let few : length clients ≡ 0 = ap length none in absurd (omega arith)

said_alone : (lines table : List Line) (script : Script) → SaysTable table ascii_pairs → lines ≡ Version ∷ table → script ≡ nothing_read.script → Said lines script × (script.lines ≡ [])
said_alone lines table script says is none =
    subst (λ (s : Script). Said lines s × (s.lines ≡ [])) (sym none) (
      record {
        table = table;
        says_table = says;
        in_order = is ∙ ap (λ (l : List Line). Version ∷ l) (sym (append-nil table));
        names_differ = none_differ [] refl;
      },
      refl,
    )

-- where a client may stand, these lines say what was read
before_clients : (lines : List Line) (stage : Stage) (script : Script) → IsSaid lines stage script → takes_clients stage ≡ true → Said lines script × (script.lines ≡ [])
before_clients lines Nothing script said is = absurd (let e : false ≡ true = is in cc)
before_clients lines Begun script said is = said_alone lines [] script (inl (inl refl, refl)) said.0 said.1
before_clients lines Pairs script said is = (
  record {
    table = PairTable ∷ map pair_line script.setup.table;
    says_table = inr (refl, said.1);
    in_order = rw (said.2, said.3) (said.0 ∙ ap (λ (l : List Line). Version ∷ l) (sym (append-nil (PairTable ∷ map pair_line script.setup.table))));
    names_differ = none_differ script.setup.clients said.2;
  },
  said.3,
)
before_clients lines Table script said is = said_alone lines (DefaultTable ∷ []) script (inl (inr refl, refl)) said.0 said.1
before_clients lines Clients script said is = (said.0, said.1)
before_clients lines Requests script said is = absurd (let e : false ≡ true = is in cc)

before_requests : (lines : List Line) (stage : Stage) (script : Script) → IsSaid lines stage script → takes_requests stage ≡ true → Said lines script × (1 ≤ length script.setup.clients)
before_requests lines Clients script said is = (said.0, said.2)
before_requests lines Requests script said is = said
before_requests lines _ script said is = absurd (let e : false ≡ true = is in cc)

-- ---- one line more

abbrev IsRead : List Line → Reading → Type 0
IsRead lines reading = IsSaid lines reading.stage reading.script

step_version : (lines : List Line) (stage : Stage) (script : Script) → IsSaid lines stage script → takes_version stage ≡ true → IsSaid (lines ++ Version ∷ []) Begun script
step_version lines Nothing script said is = (ap (λ (l : List Line). l ++ Version ∷ []) said.0, said.1)
step_version lines _ script said is = absurd (let e : false ≡ true = is in cc)

step_default : (lines : List Line) (stage : Stage) (script : Script) → IsSaid lines stage script → takes_table stage ≡ true
    → IsRead (lines ++ DefaultTable ∷ []) (with_table (record { stage = stage; script = script }) Table ascii_pairs)
step_default lines Begun script said is = (
  ap (λ (l : List Line). l ++ DefaultTable ∷ []) said.0,
  ap (λ (s : Script). (with_table (record { stage = Begun; script = s }) Table ascii_pairs).script) said.1,
)
step_default lines _ script said is = absurd (let e : false ≡ true = is in cc)

step_table : (lines : List Line) (stage : Stage) (script : Script) → IsSaid lines stage script → takes_table stage ≡ true
    → IsRead (lines ++ PairTable ∷ []) (with_table (record { stage = stage; script = script }) Pairs [])
step_table lines Begun script said is = (
  ap (λ (l : List Line). l ++ PairTable ∷ []) said.0,
  tt,
  ap (λ (s : Script). s.setup.clients) said.1,
  ap (λ (s : Script). s.lines) said.1,
)
step_table lines _ script said is = absurd (let e : false ≡ true = is in cc)

step_pair : (lines : List Line) (stage : Stage) (script : Script) (source target : ℕ) → IsSaid lines stage script → takes_pairs stage ≡ true → source ≤ 65535 → target ≤ 65535
    → is_at_fault script.setup.table (source, target) ≡ false
    → IsRead (lines ++ Pair source target ∷ []) (with_table (record { stage = stage; script = script }) Pairs (script.setup.table ++ (source, target) ∷ []))
step_pair lines Pairs script source target said is low high sound = (
  ap (λ (l : List Line). l ++ Pair source target ∷ []) said.0
      ∙ ap (λ (l : List Line). Version ∷ PairTable ∷ l) (sym (map-append pair_line script.setup.table ((source, target) ∷ []))),
  ArePairs-push [] script.setup.table source target said.1 low high sound,
  said.2,
  said.3,
)
step_pair lines _ script source target said is low high sound = absurd (let e : false ≡ true = is in cc)

order_client : (lines table : List Line) (clients : List Client) (client : Client) (calls : List Call) → calls ≡ []
    → lines ≡ Version ∷ (table ++ (map client_line clients ++ map (call_line clients) calls))
    → lines ++ client_line client ∷ [] ≡ Version ∷ (table ++ (map client_line (clients ++ client ∷ []) ++ map (call_line (clients ++ client ∷ [])) calls))
order_client lines table clients client calls none is =
    let short : lines ≡ Version ∷ (table ++ (map client_line clients ++ [])) = rw none at is in
    rw none (
    ap (λ (l : List Line). l ++ client_line client ∷ []) short
    ∙ ap (λ (l : List Line). Version ∷ l) (append_assoc table (map client_line clients ++ []) (client_line client ∷ []))
    ∙ ap (λ (l : List Line). Version ∷ (table ++ (l ++ client_line client ∷ []))) (append-nil (map client_line clients))
    ∙ ap (λ (l : List Line). Version ∷ (table ++ l)) (sym (map-append client_line clients (client ∷ [])))
    ∙ ap (λ (l : List Line). Version ∷ (table ++ l)) (sym (append-nil (map client_line (clients ++ client ∷ []))))
    )

order_call : (lines table front : List Line) (clients : List Client) (calls : List Call) (call : Call)
    → lines ≡ Version ∷ (table ++ (front ++ map (call_line clients) calls))
    → lines ++ call_line clients call ∷ [] ≡ Version ∷ (table ++ (front ++ map (call_line clients) (calls ++ call ∷ [])))
order_call lines table front clients calls call is =
    ap (λ (l : List Line). l ++ call_line clients call ∷ []) is
    ∙ ap (λ (l : List Line). Version ∷ l) (append_assoc table (front ++ map (call_line clients) calls) (call_line clients call ∷ []))
    ∙ ap (λ (l : List Line). Version ∷ (table ++ l)) (append_assoc front (map (call_line clients) calls) (call_line clients call ∷ []))
    ∙ ap (λ (l : List Line). Version ∷ (table ++ (front ++ l))) (sym (map-append (call_line clients) calls (call ∷ [])))

step_client : (lines : List Line) (stage : Stage) (script : Script) (name sids : List ℕ) → IsSaid lines stage script → takes_clients stage ≡ true
    → is_some (place_of script.setup.clients name) ≡ false → IsRead (lines ++ ClientLine name sids ∷ []) (with_client (record { stage = stage; script = script }) name sids)
step_client lines stage script name sids so_far is new =
    let said = before_clients lines stage script so_far is in
    let client : Client = record { name = name; sids = sids } in (
      record {
        table = said.0.table;
        says_table = said.0.says_table;
        in_order = order_client lines said.0.table script.setup.clients client script.lines said.1 said.0.in_order;
        names_differ = AllPairs-push (λ earlier later. earlier.name ≢ later.name) script.setup.clients client said.0.names_differ (names-new script.setup.clients name new);
      },
      said.1,
      (let long = length_push script.setup.clients client in omega arith),
    )

step_call : (lines : List Line) (stage : Stage) (script : Script) (name : List ℕ) (client number : ℕ) (what : What) → IsSaid lines stage script → takes_requests stage ≡ true
    → place_of script.setup.clients name ≡ Some client → IsRead (lines ++ RequestLine name number what ∷ []) (with_call (record { stage = stage; script = script }) client number what)
step_call lines stage script name client number what so_far is place =
    let said = before_requests lines stage script so_far is in
    let call : Call = record { client = client; number = number; what = what } in
    let named : name_of script.setup.clients client ≡ name = name_of-place script.setup.clients name client place in (
      record {
        table = said.0.table;
        says_table = said.0.says_table;
        in_order =
            ap (λ (n : List ℕ). lines ++ RequestLine n number what ∷ []) (sym named)
            ∙ order_call lines said.0.table (map client_line script.setup.clients) script.setup.clients script.lines call said.0.in_order;
        names_differ = said.0.names_differ;
      },
      said.1,
    )

moved : (lines : List Line) (old new : Reading) → old ≡ new → IsRead lines old → IsRead lines new
moved lines old new same read = subst (IsRead lines) same read

take_client-read : (lines : List Line) (reading next : Reading) (name sids : List ℕ) → IsRead lines reading → take_client reading name sids ≡ Ok next → IsRead (lines ++ ClientLine name sids ∷ []) next
unfolding take_client
take_client-read lines reading next name sids read is =
    let first = unless_err (not (takes_clients reading.stage)) BadSyntax _ next is in
    let second = unless_err (is_some (place_of reading.script.setup.clients name)) BadClient (Ok (with_client reading name sids)) next first.1 in
    let same : with_client reading name sids ≡ next = (let e : Ok (with_client reading name sids) ≡ Ok next = second.1 in cc) in
    moved (lines ++ ClientLine name sids ∷ []) (with_client reading name sids) next same
    (step_client lines reading.stage reading.script name sids read (is_so (takes_clients reading.stage) first.0) second.0)

take_call-ok : (reading next : Reading) (client number : ℕ) (what : What) → take_call reading client number what ≡ Ok next → with_call reading client number what ≡ next
unfolding take_call
take_call-ok reading next client number what is = (where_ok (number == next_number reading.script.lines client) (with_call reading client number what) next BadNumber is).1

take_request_of-ok : (reading next : Reading) (place : Option ℕ) (number : ℕ) (what : What) → take_request_of reading place number what ≡ Ok next
    → (client : ℕ) × (place ≡ Some client) × (with_call reading client number what ≡ next)
take_request_of-ok reading next None number what is = absurd (let e : Err BadClient ≡ Ok next = is in cc)
take_request_of-ok reading next (Some client) number what is = (client, refl, take_call-ok reading next client number what is)

take_request-read : (lines : List Line) (reading next : Reading) (name : List ℕ) (number : ℕ) (what : What) → IsRead lines reading → take_request reading name number what ≡ Ok next
    → IsRead (lines ++ RequestLine name number what ∷ []) next
unfolding take_request
take_request-read lines reading next name number what read is =
    let first = unless_err (not (takes_requests reading.stage)) BadSyntax (take_request_of reading (place_of reading.script.setup.clients name) number what) next is in
    let found = take_request_of-ok reading next (place_of reading.script.setup.clients name) number what first.1 in
    moved (lines ++ RequestLine name number what ∷ []) (with_call reading found.0 number what) next found.2
    (step_call lines reading.stage reading.script name found.0 number what read (is_so (takes_requests reading.stage) first.0) found.1)

take_line-read : (lines : List Line) (reading next : Reading) (line : Line) → IsRead lines reading → take_line reading line ≡ Ok next → IsRead (lines ++ line ∷ []) next
unfolding take_line
take_line-read lines reading next Version read is =
    let parts = only_if_ok (takes_version reading.stage) (with_stage reading Begun) next is in
    moved (lines ++ Version ∷ []) (with_stage reading Begun) next parts.1 (step_version lines reading.stage reading.script read parts.0)
take_line-read lines reading next DefaultTable read is =
    let parts = only_if_ok (takes_table reading.stage) (with_table reading Table ascii_pairs) next is in
    moved (lines ++ DefaultTable ∷ []) (with_table reading Table ascii_pairs) next parts.1 (step_default lines reading.stage reading.script read parts.0)
take_line-read lines reading next PairTable read is =
    let parts = only_if_ok (takes_table reading.stage) (with_table reading Pairs []) next is in
    moved (lines ++ PairTable ∷ []) (with_table reading Pairs []) next parts.1 (step_table lines reading.stage reading.script read parts.0)
take_line-read lines reading next (Pair source target) read is =
    let longer = with_table reading Pairs (reading.script.setup.table ++ (source, target) ∷ []) in
    let sound = not (is_at_fault reading.script.setup.table (source, target)) in
    let parts = only_if_ok (takes_pairs reading.stage && nat_le source 65535 && nat_le target 65535 && sound) longer next is in
    let outer = and_parts (takes_pairs reading.stage && nat_le source 65535 && nat_le target 65535) sound parts.0 in
    let middle = and_parts (takes_pairs reading.stage && nat_le source 65535) (nat_le target 65535) outer.0 in
    let inner = and_parts (takes_pairs reading.stage) (nat_le source 65535) middle.0 in
    moved (lines ++ Pair source target ∷ []) longer next parts.1
    (step_pair lines reading.stage reading.script source target read inner.0 (leb-true source 65535 inner.1) (leb-true target 65535 middle.1) (not_so (is_at_fault reading.script.setup.table (source, target)) outer.1))
take_line-read lines reading next (ClientLine name sids) read is = take_client-read lines reading next name sids read is
take_line-read lines reading next (RequestLine name number what) read is = take_request-read lines reading next name number what read is

-- ---- what was read as a script, backwards

-- no text has a line feed
abbrev pub NoFeeds : List (List ℕ) → Type 0
NoFeeds [] = Unit {0}
NoFeeds (text ∷ texts) = HasNoFeed text × NoFeeds texts

abbrev is_feed : ℕ → Bool
is_feed byte = byte == 10

NoFeeds-onto : (byte : ℕ) (texts : List (List ℕ)) → is_feed byte ≡ false → NoFeeds texts → NoFeeds (onto_first byte texts)
NoFeeds-onto byte [] other none = ((other, tt), tt)
NoFeeds-onto byte (text ∷ texts) other none = ((other, none.0), none.1)

pub NoFeeds-pieces : (bytes : List ℕ) → NoFeeds (pieces bytes)
NoFeeds-pieces [] = (tt, tt)
NoFeeds-pieces (byte ∷ bytes) =
    elim (cases_Bool (is_feed byte)) [
      | inl feed ↦ rw (slice_split-cons_yes is_feed byte bytes feed) (tt, NoFeeds-pieces bytes)
      | inr other ↦ rw (slice_split-cons_no is_feed byte bytes other) (NoFeeds-onto byte (pieces bytes) other (NoFeeds-pieces bytes))
    ]

-- the lines before these and these say the script, and these are written so
record WrittenSo (front : List Line) (bytes : List ℕ) (script : Script) : Type 0 where
  lines : List Line
  spelled : SpellsLines lines bytes
  said : Said (front ++ lines) script
  some : 1 ≤ length script.setup.clients

end_back : (front : List Line) (line : ℕ) (reading : Reading) (rest : List ℕ) (script : Script) → IsRead front reading → end_after line reading rest ≡ Ok script → WrittenSo front rest script
unfolding end_after
end_back front line reading rest script read is =
    let first = unless_err (not (length rest == 0)) (record { line = line; kind = BadCut }) _ script is in
    let second = unless_err (not (takes_requests reading.stage)) (record { line = line; kind = BadSyntax }) (Ok reading.script) script first.1 in
    let same : reading.script ≡ script = (let e : Ok reading.script ≡ Ok script = second.1 in cc) in
    let said = before_requests front reading.stage reading.script read (is_so (takes_requests reading.stage) second.0) in
    subst (WrittenSo front rest) same (
    record {
      lines = [];
      spelled = none_left rest (is_so (length rest == 0) first.0);
      said = subst (λ (l : List Line). Said l reading.script) (sym (append-nil front)) said.0;
      some = said.1;
    })

line_back : (reading next : Reading) (text : List ℕ) → line_after reading text ≡ Ok next → (line : Line) × (line_of text ≡ Ok line) × (take_line reading line ≡ Ok next)
unfolding line_after
line_back reading next text is = bind_ok (line_of text) (take_line reading) next is

at_line_ok : (line : ℕ) (read : Result Reading Kind) (more : Reading → Result Script Fault) (script : Script) → at_line line read more ≡ Ok script
    → (next : Reading) × (read ≡ Ok next) × (more next ≡ Ok script)
at_line_ok line (Ok next) more script is = (next, refl, is)
at_line_ok line (Err kind) more script is = absurd (let e : Err (record { line = line; kind = kind }) ≡ Ok script = is in cc)

more_left : (text : List ℕ) (texts : List (List ℕ)) → (length (text ∷ texts) == 0) ≡ false
more_left text texts = ne_eqb (length (text ∷ texts)) 0 (λ e. absurd (omega arith))

one_longer : (front lines : List Line) (line : Line) (script : Script) → Said ((front ++ line ∷ []) ++ lines) script → Said (front ++ line ∷ lines) script
one_longer front lines line script said = subst (λ (l : List Line). Said l script) (append_assoc front (line ∷ []) lines) said

lines_back : (front : List Line) (line : ℕ) (reading : Reading) (texts : List (List ℕ)) (script : Script) → NoFeeds texts → IsRead front reading → lines_from line reading texts ≡ Ok script
    → WrittenSo front (join_with_byte 10 texts) script
lines_back front line reading [] script none read is = end_back front line reading [] script read is
lines_back front line reading (text ∷ []) script none read is = end_back front line reading text script read is
lines_back front line reading (text ∷ second ∷ texts) script none read is =
    let more = more_left second texts in
    let here : at_line line (line_after reading text) (λ next. lines_from (line + 1) next (second ∷ texts)) ≡ Ok script = rw more at is in
    let taken = at_line_ok line (line_after reading text) (λ next. lines_from (line + 1) next (second ∷ texts)) script here in
    let this = line_back reading taken.0 text taken.1 in
    let says = line_of-back text this.0 this.1 in
    let later = lines_back (front ++ this.0 ∷ []) (line + 1) taken.0 (second ∷ texts) script none.1 (take_line-read front reading taken.0 this.0 read this.2) taken.2 in
    record {
      lines = this.0 ∷ later.lines;
      spelled = (text, join_with_byte 10 (second ∷ texts), refl, none.0, says.0, says.1, later.spelled);
      said = one_longer front later.lines this.0 script later.said;
      some = later.some;
    }

of_clients : (clients : ℕ) (calls : List Call) → AreLineCalls clients calls → All (λ call. call.client < clients) calls
of_clients clients [] are k d within = absurd (omega arith)
of_clients clients (call ∷ calls) are zero d within = are.0.client
of_clients clients (call ∷ calls) are (suc k) d within = of_clients clients calls are.1 k d (omega arith)

pieces_back : (bytes : List ℕ) (script : Script) → script_of bytes ≡ Ok script → lines_from 1 nothing_read (pieces bytes) ≡ Ok script
unfolding script_of
pieces_back bytes script is = (unless_err (length bytes == 0) (record { line = 1; kind = BadCut }) (lines_from 1 nothing_read (pieces bytes)) script is).1

-- what is read as a script is written so
pub script_of-spelled : (bytes : List ℕ) (script : Script) → script_of bytes ≡ Ok script → SpellsScript bytes script
script_of-spelled bytes script is =
    let written = lines_back [] 1 nothing_read (pieces bytes) script (NoFeeds-pieces bytes) (refl, refl) (pieces_back bytes script is) in
    record {
      lines = written.lines;
      spelled = subst (SpellsLines written.lines) (join_with_byte-slice_split 10 bytes) written.spelled;
      says = record {
        table = written.said.table;
        says_table = written.said.says_table;
        in_order = written.said.in_order;
        some_client = written.some;
        names_differ = written.said.names_differ;
        of_clients = of_clients (length script.setup.clients) script.lines (script_of-fits bytes script is);
        numbered = script_of-numbered bytes script is;
      };
    }

-- ---- what writes a script, read again

-- taken one after the other, these lines lead from this to that
abbrev Takes : Reading → List Line → Reading → Type 0
Takes reading [] reached = reading ≡ reached
Takes reading (line ∷ lines) reached = (next : Reading) × (take_line reading line ≡ Ok next) × Takes next lines reached

Takes-append : (reading between reached : Reading) (front back : List Line) → Takes reading front between → Takes between back reached → Takes reading (front ++ back) reached
Takes-append reading between reached [] back same later = subst (λ (r : Reading). Takes r back reached) (sym same) later
Takes-append reading between reached (line ∷ front) back first later = (first.0, first.1, Takes-append first.0 between reached front back first.2 later)

abbrev read_so_far : Stage → List (ℕ × ℕ) → List Client → List Call → Reading
read_so_far stage table clients calls = record { stage = stage; script = record { setup = record { table = table; clients = clients }; lines = calls } }

takes_first : Takes nothing_read (Version ∷ []) (read_so_far Begun ascii_pairs [] [])
unfolding take_line
takes_first = (read_so_far Begun ascii_pairs [] [], refl, refl)

takes_pair : (before : List (ℕ × ℕ)) (pair : ℕ × ℕ) → pair.0 ≤ 65535 → pair.1 ≤ 65535 → is_at_fault before pair ≡ false
    → take_line (read_so_far Pairs before [] []) (pair_line pair) ≡ Ok (read_so_far Pairs (before ++ pair ∷ []) [] [])
unfolding take_line
takes_pair before pair low high sound = rw (le-leb pair.0 65535 low, le-leb pair.1 65535 high, sound) refl

takes_some_pairs : (before pairs : List (ℕ × ℕ)) → ArePairs before pairs → Takes (read_so_far Pairs before [] []) (map pair_line pairs) (read_so_far Pairs (before ++ pairs) [] [])
takes_some_pairs before [] are = ap (λ (table : List (ℕ × ℕ)). read_so_far Pairs table [] []) (sym (append-nil before))
takes_some_pairs before (pair ∷ pairs) are = (
  read_so_far Pairs (before ++ pair ∷ []) [] [],
  takes_pair before pair are.0 are.1 are.2,
  subst (λ (table : List (ℕ × ℕ)). Takes (read_so_far Pairs (before ++ pair ∷ []) [] []) (map pair_line pairs) (read_so_far Pairs table [] [])) (append_assoc before (pair ∷ []) pairs)
      (takes_some_pairs (before ++ pair ∷ []) pairs are.3),
)

takes_default : take_line (read_so_far Begun ascii_pairs [] []) DefaultTable ≡ Ok (read_so_far Table ascii_pairs [] [])
unfolding take_line
takes_default = refl

takes_pair_table : take_line (read_so_far Begun ascii_pairs [] []) PairTable ≡ Ok (read_so_far Pairs [] [] [])
unfolding take_line
takes_pair_table = refl

-- the lines of the case table lead where clients may stand
abbrev LeadsToClients : List Line → List (ℕ × ℕ) → Type 0
LeadsToClients lines table = (stage : Stage) × (takes_clients stage ≡ true) × Takes (read_so_far Begun ascii_pairs [] []) lines (read_so_far stage table [] [])

takes_the_table : (lines : List Line) (table : List (ℕ × ℕ)) → SaysTable lines table → LeadsToClients lines table
takes_the_table lines table (inl (inl none, is)) =
    subst (λ (l : List Line). LeadsToClients l table) (sym none) (subst (LeadsToClients []) (sym is) (Begun, refl, refl))
takes_the_table lines table (inl (inr one, is)) =
    subst (λ (l : List Line). LeadsToClients l table) (sym one)
    (subst (LeadsToClients (DefaultTable ∷ [])) (sym is) (Table, refl, (read_so_far Table ascii_pairs [] [], takes_default, refl)))
takes_the_table lines table (inr (is, are)) =
    subst (λ (l : List Line). LeadsToClients l table) (sym is)
    (Pairs, refl, (read_so_far Pairs [] [] [], takes_pair_table, takes_some_pairs [] table are))

-- ---- names again

same-apart : (name other : List ℕ) → (name ≡ other → ⊥) → same name other ≡ false
same-apart name other apart = elim (cases_Bool (same name other)) [
  | inl is ↦ absurd (apart (same-is name other is))
  | inr differs ↦ differs
]

not_below : (n : ℕ) → nat_lt n n ≡ false
not_below n = grind (arith, nat_tests)

place_of-none : (clients : List Client) (name : List ℕ) → All (λ client. client.name ≢ name) clients → is_some (place_of clients name) ≡ false
place_of-none clients name differ =
    let past : position_or_len (λ (client : Client). same name client.name) clients ≡ length clients =
    position_or_len_is (λ (client : Client). same name client.name) clients (length clients) nobody (omega arith)
    (λ k below. same-apart name (get_or clients k nobody).name (λ is. differ k nobody below (sym is)))
    (λ below. absurd (omega arith)) in
    rw (past, not_below (length clients)) refl

place_of-at : (clients : List Client) (place : ℕ) → AllPairs (λ earlier later. earlier.name ≢ later.name) clients → place < length clients
    → place_of clients (name_of clients place) ≡ Some place
place_of-at clients place differ within =
    let named : name_of clients place ≡ (get_or clients place nobody).name = name_of-is clients place nobody within in
    let first : position_or_len (λ (client : Client). same (name_of clients place) client.name) clients ≡ place =
    position_or_len_is (λ (client : Client). same (name_of clients place) client.name) clients place nobody (omega arith)
    (λ k below. same-apart (name_of clients place) (get_or clients k nobody).name (λ is. differ k place nobody below within (sym is ∙ named)))
    (λ below. same-self (name_of clients place) (get_or clients place nobody).name named) in
    rw (first, lt-ltb place (length clients) within) refl

-- ---- clients and calls again

takes_client : (stage : Stage) (table : List (ℕ × ℕ)) (before : List Client) (client : Client) → takes_clients stage ≡ true → All (λ earlier. earlier.name ≢ client.name) before
    → take_line (read_so_far stage table before []) (client_line client) ≡ Ok (read_so_far Clients table (before ++ client ∷ []) [])
unfolding take_line take_client
takes_client stage table before client takes new = rw (takes, place_of-none before client.name new) refl

-- in a list of clients whose names differ each name is new after those before it
new_after : (before more : List Client) (client : Client) → AllPairs (λ earlier later. earlier.name ≢ later.name) (before ++ client ∷ more) → All (λ earlier. earlier.name ≢ client.name) before
new_after before more client differ k d within =
    let long : length (before ++ client ∷ more) ≡ length before + length (client ∷ more) = length-append before (client ∷ more) in
    let front : get_or (before ++ client ∷ more) k d ≡ get_or before k d = get_or_append_left before (client ∷ more) d k within in
    let here : get_or (before ++ client ∷ more) (length before) d ≡ client = get_or-append_seam before client more d in
    let apart : (get_or (before ++ client ∷ more) k d).name ≢ (get_or (before ++ client ∷ more) (length before) d).name = differ k (length before) d within (omega arith) in
    λ is. apart (ap (λ (c : Client). c.name) front ∙ is ∙ ap (λ (c : Client). c.name) (sym here))

takes_more_clients : (table : List (ℕ × ℕ)) (before more : List Client) → AllPairs (λ earlier later. earlier.name ≢ later.name) (before ++ more)
    → Takes (read_so_far Clients table before []) (map client_line more) (read_so_far Clients table (before ++ more) [])
takes_more_clients table before [] differ = ap (λ (clients : List Client). read_so_far Clients table clients []) (sym (append-nil before))
takes_more_clients table before (client ∷ more) differ =
    let regrouped : (before ++ client ∷ []) ++ more ≡ before ++ client ∷ more = append_assoc before (client ∷ []) more in (
      read_so_far Clients table (before ++ client ∷ []) [],
      takes_client Clients table before client refl (new_after before more client differ),
      subst (λ (clients : List Client). Takes (read_so_far Clients table (before ++ client ∷ []) []) (map client_line more) (read_so_far Clients table clients [])) regrouped
          (takes_more_clients table (before ++ client ∷ []) more (subst (AllPairs (λ earlier later. earlier.name ≢ later.name)) (sym regrouped) differ)),
    )

takes_all_clients : (stage : Stage) (table : List (ℕ × ℕ)) (clients : List Client) → takes_clients stage ≡ true → 1 ≤ length clients
    → AllPairs (λ earlier later. earlier.name ≢ later.name) clients → Takes (read_so_far stage table [] []) (map client_line clients) (read_so_far Clients table clients [])
takes_all_clients stage table [] takes some differ = absurd (omega arith)
takes_all_clients stage table (client ∷ clients) takes some differ = (
  read_so_far Clients table (client ∷ []) [],
  takes_client stage table [] client takes (new_after [] clients client differ),
  takes_more_clients table (client ∷ []) clients differ,
)

takes_call : (stage : Stage) (table : List (ℕ × ℕ)) (clients : List Client) (before : List Call) (call : Call) → takes_requests stage ≡ true
    → AllPairs (λ earlier later. earlier.name ≢ later.name) clients → call.client < length clients → call.number ≡ calls_of call.client before + 1
    → take_line (read_so_far stage table clients before) (call_line clients call) ≡ Ok (read_so_far Requests table clients (before ++ call ∷ []))
unfolding take_line take_request take_call
takes_call stage table clients before call takes differ within next =
    let number : (call.number == next_number before call.client) ≡ true = eq-eqb call.number (next_number before call.client) (next ∙ ap (λ (n : ℕ). n + 1) (sym (length-filter_calls before call.client))) in
    rw (takes, place_of-at clients call.client differ within, number) refl

-- the lines of calls lead to a script with these calls
record LeadsToCalls (table : List (ℕ × ℕ)) (clients : List Client) (reading : Reading) (more all : List Call) : Type 0 where
  stage : Stage
  ends : takes_requests stage ≡ true
  takes : Takes reading (map (call_line clients) more) (read_so_far stage table clients all)

takes_calls : (stage : Stage) (table : List (ℕ × ℕ)) (clients : List Client) (before more : List Call) → takes_requests stage ≡ true
    → AllPairs (λ earlier later. earlier.name ≢ later.name) clients → All (λ call. call.client < length clients) more → AreNumbered before more
    → LeadsToCalls table clients (read_so_far stage table clients before) more (before ++ more)
takes_calls stage table clients before [] takes differ known numbered =
    record { stage = stage; ends = takes; takes = ap (read_so_far stage table clients) (sym (append-nil before)) }
takes_calls stage table clients before (call ∷ more) takes differ known numbered =
    let later = takes_calls Requests table clients (before ++ call ∷ []) more refl differ (λ k d within. known (suc k) d (omega arith)) numbered.1 in
    subst (LeadsToCalls table clients (read_so_far stage table clients before) (call ∷ more)) (append_assoc before (call ∷ []) more) (
    record {
      stage = later.stage;
      ends = later.ends;
      takes = (read_so_far Requests table clients (before ++ call ∷ []), takes_call stage table clients before call takes differ (known 0 call (omega arith)) numbered.0, later.takes);
    })

-- ---- lines again

-- what writes a line is read as it
abbrev pub AreReadAgain : Type 0
AreReadAgain = (bytes : List ℕ) (line : Line) → is_line line ≡ true → Spells line bytes → line_of bytes ≡ Ok line

taken_again : (reading next : Reading) (text : List ℕ) (line : Line) → line_of text ≡ Ok line → take_line reading line ≡ Ok next → line_after reading text ≡ Ok next
unfolding line_after
taken_again reading next text line is takes = rw is takes

end_again : (line : ℕ) (reading : Reading) → takes_requests reading.stage ≡ true → end_after line reading [] ≡ Ok reading.script
unfolding end_after
end_again line reading takes = rw takes refl

some_pieces : (bytes : List ℕ) → (length (pieces bytes) == 0) ≡ false
some_pieces bytes = ne_eqb (length (pieces bytes)) 0 (λ none. absurd (omega (arith, length-slice_split is_feed bytes)))

lines_again : AreReadAgain → (line : ℕ) (reading reached : Reading) (lines : List Line) (bytes : List ℕ) → SpellsLines lines bytes → Takes reading lines reached → takes_requests reached.stage ≡ true
    → lines_from line reading (pieces bytes) ≡ Ok reached.script
lines_again again line reading reached [] bytes none same ends =
    rw (none, same) (end_again line reached ends)
lines_again again line reading reached (this ∷ lines) bytes spelled takes ends =
    let split : pieces (spelled.0 ++ 10 ∷ spelled.1) ≡ spelled.0 ∷ pieces spelled.1 = slice_split_at is_feed spelled.0 10 spelled.1 (All-from_recursion (λ (byte : ℕ). is_feed byte ≡ false) spelled.0 spelled.3) refl in
    let taken = taken_again reading takes.0 spelled.0 this (again spelled.0 this spelled.4 spelled.5) takes.1 in
    rw (spelled.2, split, some_pieces spelled.1, taken) (lines_again again (line + 1) takes.0 reached lines spelled.1 spelled.6 takes.2 ends)

begins_again : (line : Line) (lines : List Line) (bytes : List ℕ) → SpellsLines (line ∷ lines) bytes → (length bytes == 0) ≡ false
begins_again line lines bytes spelled =
    ne_eqb (length bytes) 0 (λ none. absurd (omega (arith, ap length spelled.2, length-append spelled.0 (10 ∷ spelled.1))))

-- where there are bytes, the lines from the first on say whether there is a script
pub from_lines : (bytes : List ℕ) → (length bytes == 0) ≡ false → script_of bytes ≡ lines_from 1 nothing_read (pieces bytes)
unfolding script_of
from_lines bytes some = rw some refl

-- what writes a script is read as it
pub script_of-again : AreReadAgain → (bytes : List ℕ) (script : Script) → SpellsScript bytes script → script_of bytes ≡ Ok script
script_of-again again bytes script spells =
    let says = spells.says in
    let behind = says.table ++ (map client_line script.setup.clients ++ map (call_line script.setup.clients) script.lines) in
    let spelled : SpellsLines (Version ∷ behind) bytes = subst (λ (l : List Line). SpellsLines l bytes) says.in_order spells.spelled in
    let table = takes_the_table says.table script.setup.table says.says_table in
    let clients = takes_all_clients table.0 script.setup.table script.setup.clients table.1 says.some_client says.names_differ in
    let calls = takes_calls Clients script.setup.table script.setup.clients [] script.lines refl says.names_differ says.of_clients says.numbered in
    let reached = read_so_far calls.stage script.setup.table script.setup.clients script.lines in
    let takes : Takes nothing_read (Version ∷ behind) reached =
    Takes-append nothing_read (read_so_far Begun ascii_pairs [] []) reached (Version ∷ []) behind takes_first
    (Takes-append (read_so_far Begun ascii_pairs [] []) (read_so_far table.0 script.setup.table [] []) reached says.table _ table.2
    (Takes-append (read_so_far table.0 script.setup.table [] []) (read_so_far Clients script.setup.table script.setup.clients []) reached (map client_line script.setup.clients) (map (call_line script.setup.clients) script.lines) clients calls.takes)) in
    from_lines bytes (begins_again Version behind bytes spelled)
    ∙ lines_again again 1 nothing_read reached (Version ∷ behind) bytes spelled takes calls.ends
