-- Laws of the run of a generated script, and of its summary.
use Rattle.std.proofs.Common.{append_assoc, ◌≡◌, ℕ, zero, suc, ◌+◌, List, [], ◌∷◌, ◌++◌, length, take, true, Option, Some, refl, ap, sym, subst, ◌∙◌, append-nil, arith, Ok}
use Rattle.std.specs.Prelude.{slice_get, codes, decimal}
use Rattle.std.specs.List.{flat_map}
use Rattle.std.specs.Option.{option_map_or}
use Rattle.std.proofs.Math.Seq.{take-length}
use Rattle.std.proofs.lemmas.Grind.{flat_map-append}
use Rattle.fsa_types.specs.declared.status.Status.{Status}
use Rattle.fsa_model.specs.Generator.{generated, generated_clients, generated_text}
use Rattle.fsa_model.specs.History.{HistoryEntry, Run, run}
use Rattle.fsa_model.specs.LineCalls.{HaveSids}
use Rattle.fsa_model.specs.Outcome.{TurnOut}
use Rattle.fsa_model.specs.Schedule.{HasAllCalls, Scheduled}
use Rattle.fsa_model.specs.Script.{script_of}
use Rattle.fsa_model.specs.Setup.{Client, Script, Setup}
use Rattle.fsa_model.specs.Summary.{count_line, statuses, statuses_of, summary_text}
use Rattle.fsa_model.specs.Words.{is_name}
use Rattle.fsa_model.proofs.GeneratorLaws.{length-generated}
use Rattle.fsa_model.proofs.HistoryLaws.{run-gives}
use Rattle.fsa_model.proofs.ScriptLaws.{script_of-fits, script_of-numbered, script_of-sids}
use Rattle.fsa_model.proofs.SettleLaws.{some_equal}
use Rattle.history_laws.specs.Named.{AreNamed, IsReadScript}
use Rattle.history_laws.proofs.WholeLaws.{some_run}
use Rattle.fsa_machine.specs.MachineView.{MachineView}
use Rattle.fsa_top.specs.Order.{IsWithinLimits}
use Rattle.fsa_top.specs.Summaries.{IsSummary, counts_text}
use Rattle.fsa_top.proofs.RunLaws.{history-one}

-- ---- the statuses of a machine's turns

take_next : {X : Type 0} (items : List X) (place : ℕ) (item : X) → slice_get items place ≡ Some item → take (suc place) items ≡ take place items ++ item ∷ []
take_next [] place item at = absurd (cc)
take_next (first ∷ items) zero item at = ap (λ x. x ∷ []) (some_equal first item at)
take_next (first ∷ items) (suc place) item at = ap (λ rest. first ∷ rest) (take_next items place item at)

-- those of one turn more
pub statuses-turn : (outs : List TurnOut) (turn : ℕ) (out : TurnOut) (ends : List Status) → slice_get outs turn ≡ Some out → ends ≡ flat_map statuses_of (take turn outs)
    → ends ++ statuses_of out ≡ flat_map statuses_of (take (turn + 1) outs)
statuses-turn outs turn out ends at is =
    ap (λ (all : List Status). all ++ statuses_of out) is
    ∙ sym (ap (λ (n : ℕ). flat_map statuses_of (take n outs)) (let e : turn + 1 ≡ suc turn = omega arith in e)
    ∙ ap (flat_map statuses_of) (take_next outs turn out at)
    ∙ flat_map-append statuses_of (take turn outs) (out ∷ [])
    ∙ ap (λ (last : List Status). flat_map statuses_of (take turn outs) ++ last) (append-nil (statuses_of out)))

-- those of all turns
pub statuses-all : (setup : Setup) (entries : List HistoryEntry) (r : Run) (turn : ℕ) (ends : List Status) → run setup entries ≡ Some r → turn ≡ length entries → ends ≡ flat_map statuses_of (take turn r.outs)
    → ends ≡ flat_map statuses_of r.outs
statuses-all setup entries r turn ends runs all is =
    is ∙ ap (λ (n : ℕ). flat_map statuses_of (take n r.outs)) (all ∙ sym (run-gives setup entries r runs)) ∙ ap (flat_map statuses_of) (take-length r.outs)

-- ---- the text of a summary

joined : (turns : ℕ) (counts : List ℕ) → ((codes "turns " ++ decimal turns ++ 10 ∷ []) ++ counts) ++ (codes "end" ++ 10 ∷ []) ≡ codes "turns " ++ decimal turns ++ 10 ∷ counts ++ codes "end" ++ 10 ∷ []
joined turns counts =
    ap (λ (text : List ℕ). text ++ (codes "end" ++ 10 ∷ [])) (append_assoc (codes "turns " ++ decimal turns) (10 ∷ []) counts)
    ∙ sym (append_assoc (codes "turns " ++ decimal turns ++ 10 ∷ counts) (codes "end") (10 ∷ []))

-- the lines of its statuses, spelled out
pub counts-are : (ends : List Status) → counts_text ends ≡ flat_map (count_line ends) statuses
unfolding counts_text
counts-are ends = refl

-- of its first line, the lines of its statuses and its last line
pub summary-parts : (turns : ℕ) (ends : List Status) (head counted all : List ℕ) → head ≡ codes "turns " ++ decimal turns ++ 10 ∷ [] → counted ≡ head ++ counts_text ends → all ≡ counted ++ codes "end\n" → all ≡ summary_text turns ends
summary-parts turns ends head counted all first lines last =
    last
    ∙ ap (λ (text : List ℕ). text ++ codes "end\n") (lines ∙ ap (λ (text : List ℕ). text ++ counts_text ends) first)
    ∙ joined turns (counts_text ends)
    ∙ ap (λ (counts : List ℕ). codes "turns " ++ decimal turns ++ 10 ∷ counts ++ codes "end" ++ 10 ∷ []) (counts-are ends)

-- ---- the generated script is one that a run takes

named_at : (place : ℕ) (client : Client) → slice_get generated_clients place ≡ Some client → client.name ≡ 99 ∷ (48 + place) ∷ []
named_at zero client at = ap (λ (c : Client). c.name) (sym (some_equal _ client at))
named_at (suc zero) client at = ap (λ (c : Client). c.name) (sym (some_equal _ client at))
named_at (suc (suc zero)) client at = ap (λ (c : Client). c.name) (sym (some_equal _ client at))
named_at (suc (suc (suc zero))) client at = ap (λ (c : Client). c.name) (sym (some_equal _ client at))
named_at (suc (suc (suc (suc place)))) client at = absurd (cc)

name_at : (place : ℕ) (client : Client) → slice_get generated_clients place ≡ Some client → is_name client.name ≡ true
name_at zero client at = subst (λ (c : Client). is_name c.name ≡ true) (some_equal _ client at) refl
name_at (suc zero) client at = subst (λ (c : Client). is_name c.name ≡ true) (some_equal _ client at) refl
name_at (suc (suc zero)) client at = subst (λ (c : Client). is_name c.name ≡ true) (some_equal _ client at) refl
name_at (suc (suc (suc zero))) client at = subst (λ (c : Client). is_name c.name ≡ true) (some_equal _ client at) refl
name_at (suc (suc (suc (suc place)))) client at = absurd (cc)

names-differ : (place other : ℕ) (client another : Client) → slice_get generated_clients place ≡ Some client → slice_get generated_clients other ≡ Some another → client.name ≡ another.name → place ≡ other
names-differ place other client another here there same =
    let both : 99 ∷ (48 + place) ∷ [] ≡ 99 ∷ (48 + other) ∷ [] = sym (named_at place client here) ∙ same ∙ named_at other another there in
    let digits : 48 + place ≡ 48 + other = cc in
    omega (arith, digits)

generated-named : (seed : ℕ) → AreNamed (generated seed).setup.clients
unfolding generated
generated-named seed = record { names = name_at; differ = names-differ }

generated-four : (seed : ℕ) → length (generated seed).setup.clients ≡ 4
unfolding generated
generated-four seed = refl

pub generated-read : (seed : ℕ) → script_of (generated_text seed) ≡ Ok (generated seed) → IsReadScript (generated seed)
generated-read seed is = record {
  named = generated-named seed;
  fit = script_of-fits (generated_text seed) (generated seed) is;
  numbered = script_of-numbered (generated_text seed) (generated seed) is;
  few = (let long = length-generated seed in omega (arith, long));
}

pub generated-within : (seed : ℕ) → IsWithinLimits (generated seed)
generated-within seed = record {
  lines = (let long = length-generated seed in omega (arith, long));
  clients = (let four = generated-four seed in omega (arith, four));
}

pub generated-sids : (seed : ℕ) → script_of (generated_text seed) ≡ Ok (generated seed) → HaveSids (generated seed).setup.clients
generated-sids seed is = script_of-sids (generated_text seed) (generated seed) is

-- ---- its summary

pub summary-is : (script : Script) (seen : MachineView) (text : List ℕ) → IsReadScript script → seen.setup ≡ script.setup → Scheduled script seen.entries → HasAllCalls script seen.entries
    → ((r : Run) → run seen.setup seen.entries ≡ Some r → text ≡ summary_text (length seen.entries) (flat_map statuses_of r.outs)) → IsSummary script text
summary-is script seen text is_read setup scheduled all is =
    let r = some_run script seen.entries scheduled in
    record {
      history = seen.entries;
      is_history = history-one script seen.entries is_read scheduled all;
      is = is r.0 (ap (λ (s : Setup). run s seen.entries) setup ∙ r.1)
          ∙ sym (ap (λ (o : Option Run). option_map_or (λ (s : Run). summary_text (length seen.entries) (flat_map statuses_of s.outs)) o []) r.1);
    }
