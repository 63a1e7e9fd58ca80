-- Laws of the schedule: which call is next where the calls were made in order and nobody waits.
use Rattle.std.proofs.Common.{◌≡◌, ℕ, ◌+◌, ◌<◌, ◌≤◌, zero, suc, List, [], ◌∷◌, ◌++◌, length, take, map, Bool, true, false, cond, Some, refl, ap, sym, subst, ◌∙◌, append_assoc, append-nil, arith, eq-eqb}
use Rattle.std.specs.Prelude.{option_and_then, ◌==◌, ◌&&◌, ◌||◌, IsTrue, slice_get, ◌⊎◌}
use Rattle.std.proofs.Common.{inl, inr}
use Rattle.std.specs.Option.{option_map_or}
use Rattle.std.specs.List.{list_any, list_all}
use Rattle.std.proofs.lemmas.Bool.Decides.{nat_tests}
use Rattle.fsa_types.specs.declared.request.Call.{Call}
use Rattle.fsa_model.specs.Setup.{Script}
use Rattle.fsa_model.specs.Volume.{Volume}
use Rattle.fsa_model.specs.History.{HistoryEntry, Run, run}
use Rattle.fsa_model.specs.Turn.{Turned, turn}
use Rattle.fsa_model.specs.Schedule.{calls_of, AreNumbered, is_same_call, is_made, next_in, next, plain_entry, all_calls, Scheduled, plain_on, plain}
use Rattle.fsa_model.proofs.HistoryLaws.{run-push}

-- the turns of these calls, in which none found no memory
abbrev pub entries : List Call → List HistoryEntry
entries calls = map plain_entry calls

-- each of these calls of the client has a number of at most `n`
abbrev AllBelow : List Call → ℕ → ℕ → Type 0
AllBelow [] client n = Unit {0}
AllBelow (call ∷ more) client n = (call.client ≡ client → call.number ≤ n) × AllBelow more client n

AllBelow-more : (calls : List Call) (client m n : ℕ) → m ≤ n → AllBelow calls client m → AllBelow calls client n
AllBelow-more [] client m n le below = tt
AllBelow-more (call ∷ more) client m n le below = ((λ same. let h : call.number ≤ m = below.0 same in omega arith), AllBelow-more more client m n le below.1)

AllBelow-push : (calls : List Call) (call : Call) (client n : ℕ) → AllBelow calls client n → (call.client ≡ client → call.number ≤ n) → AllBelow (calls ++ call ∷ []) client n
AllBelow-push [] call client n below last = (last, tt)
AllBelow-push (first ∷ more) call client n below last = (below.0, AllBelow-push more call client n below.1 last)

pub calls_of-push : (client : ℕ) (calls : List Call) (call : Call) → calls_of client (calls ++ call ∷ []) ≡ calls_of client calls + cond (call.client == client) 1 0
calls_of-push client [] call = omega arith
calls_of-push client (first ∷ more) call = let rest : calls_of client (more ++ call ∷ []) ≡ calls_of client more + cond (call.client == client) 1 0 = calls_of-push client more call in omega arith

last_below : (before : List Call) (call : Call) (client : ℕ) → call.number ≡ calls_of call.client before + 1 → call.client ≡ client → call.number ≤ calls_of client before + cond (call.client == client) 1 0
last_below before call client number same = let counts : calls_of call.client before ≡ calls_of client before = ap (λ c. calls_of c before) same in let is : (call.client == client) ≡ true = eq-eqb call.client client same in rw is (omega arith)

different : (a b m n : ℕ) → (a ≡ b → m < n) → ((a == b) && (m == n)) ≡ false
different a b m n below = grind (arith, nat_tests)

below-all : (before calls : List Call) (client : ℕ) → AllBelow before client (calls_of client before) → AreNumbered before calls → AllBelow (before ++ calls) client (calls_of client (before ++ calls))
below-all before [] client below numbered = rw (append-nil before) below
below-all before (call ∷ more) client below numbered =
    subst (λ (calls : List Call). AllBelow calls client (calls_of client calls)) (append_assoc before (call ∷ []) more)
    (below-all (before ++ call ∷ []) more client (subst (AllBelow (before ++ call ∷ []) client) (sym (calls_of-push client before call)) (AllBelow-push before call client _ (AllBelow-more before client _ _ (omega arith) below) (last_below before call client numbered.0))) numbered.1)

-- a call numbered above all of its client isn't among them
unmade : (calls : List Call) (call : Call) (n : ℕ) → AllBelow calls call.client n → n < call.number → list_any (λ (entry : HistoryEntry). is_same_call entry.call call) (entries calls) ≡ false
unmade [] call n below above = refl
unmade (first ∷ more) call n below above =
    rw (different first.client call.client first.number call.number (λ same. let h : first.number ≤ n = below.0 same in omega arith)) (unmade more call n below.1 above)

is_same_self : (call : Call) → is_same_call call call ≡ true
is_same_self call = rw (eq-eqb call.client call.client refl, eq-eqb call.number call.number refl) refl

or_true : (b : Bool) → (b || true) ≡ true
or_true b = elim b as (λ v. (v || true) ≡ true) [ true ↦ refl | false ↦ refl ]

made_among : (front back : List Call) (call : Call) → list_any (λ (entry : HistoryEntry). is_same_call entry.call call) (entries (front ++ call ∷ back)) ≡ true
made_among [] back call = rw (is_same_self call) refl
made_among (first ∷ front) back call = rw (made_among front back call) (or_true (is_same_call first call))

-- the calls that were made aren't next
skip_made : (front back : List Call) (call : Call) (rest : List Call) (v : Volume) → next_in (back ++ call ∷ rest) (entries (front ++ back)) v ≡ next_in (call ∷ rest) (entries (front ++ back)) v
skip_made front [] call rest v = refl
skip_made front (one ∷ back) call rest v =
    rw (made_among front back one)
    (let joined : front ++ one ∷ back ≡ (front ++ one ∷ []) ++ back = sym (append_assoc front (one ∷ []) back) in
    subst (λ (made : List Call). next_in (back ++ call ∷ rest) (entries made) v ≡ next_in (call ∷ rest) (entries made) v) (sym joined) (skip_made (front ++ one ∷ []) back call rest v))

pub front-numbered : (before front back : List Call) → AreNumbered before (front ++ back) → AreNumbered before front × AreNumbered (before ++ front) back
front-numbered before [] back numbered = (tt, rw (append-nil before) numbered)
front-numbered before (call ∷ front) back numbered =
    let rest = front-numbered (before ++ call ∷ []) front back numbered.1 in
    ((numbered.0, rest.0), subst (λ (calls : List Call). AreNumbered calls back) (append_assoc before (call ∷ []) front) rest.1)

-- the first call that wasn't made is next, where the calls are made in order and no call is pending
pub next_in-first : (done : List Call) (call : Call) (rest : List Call) (v : Volume) → AreNumbered [] (done ++ call ∷ rest) → v.pending ≡ []
    → next_in (done ++ call ∷ rest) (entries done) v ≡ Some call
next_in-first done call rest v numbered idle =
    let cut = front-numbered [] done (call ∷ rest) numbered in
    skip_made [] done call rest v
    ∙ rw (unmade done call (calls_of call.client done) (below-all [] done call.client tt cut.0) (omega (arith, cut.1.0)), idle) refl

-- all calls were made, where each was made in order
all_made : (front back : List Call) → list_all (is_made (entries (front ++ back))) back ≡ true
all_made front [] = refl
all_made front (call ∷ back) =
    rw (made_among front back call)
    (subst (λ (made : List Call). list_all (is_made (entries made)) back ≡ true) (append_assoc front (call ∷ []) back) (all_made (front ++ call ∷ []) back))

pub entries-make_all : (calls : List Call) → IsTrue (list_all (is_made (entries calls)) calls)
entries-make_all calls = all_made [] calls

-- an item of a list and one more at its end is one of the list or the last
last_or_before : {X : Type 0} (items : List X) (last : X) (k : ℕ) (item : X) → slice_get (items ++ last ∷ []) k ≡ Some item
    → ((slice_get items k ≡ Some item) × (take k (items ++ last ∷ []) ≡ take k items)) ⊎ ((item ≡ last) × (take k (items ++ last ∷ []) ≡ items))
last_or_before [] last zero item e = inr (cc, refl)
last_or_before [] last (suc k) item e = absurd (cc)
last_or_before (first ∷ items) last zero item e = inl (e, refl)
last_or_before {X} (first ∷ items) last (suc k) item e =
    elim (last_or_before items last k item e) [
      | inl h ↦ inl (h.0, ap (λ (rest : List X). first ∷ rest) h.1)
      | inr h ↦ inr (h.0, ap (λ (rest : List X). first ∷ rest) h.1)
    ]

-- the history with the next call's turn at its end is scheduled too
pub Scheduled-push : (script : Script) (history : List HistoryEntry) (entry : HistoryEntry) (before : Run) (turned : Turned) → Scheduled script history → run script.setup history ≡ Some before
    → next_in (all_calls script) history before.volume ≡ Some entry.call → turn before.volume entry.call entry.starved ≡ Some turned → Scheduled script (history ++ entry ∷ [])
Scheduled-push script history entry before turned scheduled runs is_next turns = record {
  runs = rw (run-push script.setup history entry before turned runs turns) refl;
  in_order = λ k item at. elim (last_or_before history entry k item at) [
    | inl h ↦ rw h.1 (scheduled.in_order k item h.0)
    | inr h ↦ rw (h.1, h.0) (ap (option_and_then (λ (r : Run). next_in (all_calls script) history r.volume)) runs ∙ is_next)
  ];
}

pub Scheduled-none : (script : Script) → Scheduled script []
Scheduled-none script = record { runs = refl; in_order = λ k item at. absurd (cc) }

-- what stands behind some calls in the history
entry_after : (front : List Call) (call : Call) (more : List Call) → slice_get (entries (front ++ call ∷ more)) (length front) ≡ Some (plain_entry call)
entry_after [] call more = refl
entry_after (one ∷ front) call more = entry_after front call more

entries_before : (front more : List Call) → take (length front) (entries (front ++ more)) ≡ entries front
entries_before [] more = refl
entries_before (one ∷ front) more = ap (λ (rest : List HistoryEntry). plain_entry one ∷ rest) (entries_before front more)

pub entries-push : (calls : List Call) (call : Call) → entries (calls ++ call ∷ []) ≡ entries calls ++ plain_entry call ∷ []
entries-push [] call = refl
entries-push (one ∷ calls) call = ap (λ (rest : List HistoryEntry). plain_entry one ∷ rest) (entries-push calls call)

pub length-entries : (calls : List Call) → length (entries calls) ≡ length calls
length-entries [] = refl
length-entries (one ∷ calls) = ap suc (length-entries calls)

plain_on-scheduled : (script : Script) (front back : List Call) → Scheduled script (entries (front ++ back)) → plain_on (length back) script (entries front) ≡ entries (front ++ back)
plain_on-scheduled script front [] scheduled = ap entries (sym (append-nil front))
plain_on-scheduled script front (call ∷ back) scheduled =
    let is_next : next script (entries front) ≡ Some call = subst (λ (before : List HistoryEntry). next script before ≡ Some call) (entries_before front (call ∷ back)) (scheduled.in_order (length front) (plain_entry call) (entry_after front call back)) in
    ap (λ o. option_map_or (λ c. plain_on (length back) script (entries front ++ plain_entry c ∷ [])) o (entries front)) is_next
    ∙ ap (plain_on (length back) script) (sym (entries-push front call))
    ∙ plain_on-scheduled script (front ++ call ∷ []) back (subst (λ (calls : List Call). Scheduled script (entries calls)) (sym (append_assoc front (call ∷ []) back)) scheduled)
    ∙ ap entries (append_assoc front (call ∷ []) back)

-- the scheduled history of all calls, in which none found no memory, is the plain one
pub plain-scheduled : (script : Script) → Scheduled script (entries (all_calls script)) → plain script ≡ entries (all_calls script)
plain-scheduled script scheduled = plain_on-scheduled script [] (all_calls script) scheduled
