-- Histories that grow by a turn.
use Rattle.std.proofs.Common.{◌≡◌, ◌≢◌, ℕ, ◌+◌, ◌≤◌, Bool, true, false, List, [], ◌∷◌, ◌++◌, length, refl, ap, sym, subst, ◌∙◌, arith, length-append, cond, inl, inr, le-leb, leb-true, lt-ltb, eqb-true, eq-eqb}
use Rattle.std.specs.Prelude.{◌==◌, ◌&&◌, nat_le, nat_lt, IsSome, Option, Result, Ok, Err, IfOk, IfErr}
use Rattle.std.specs.List.{list_any}
use Rattle.std.proofs.lemmas.Bool.{cases_Bool}
use Rattle.std.proofs.lemmas.Bool.Decides.{nat_tests}
use Rattle.std.proofs.lemmas.List.{map-append}
use Rattle.fsa_types.specs.declared.reply.Out.{Out}
use Rattle.fsa_types.specs.declared.reply.Why.{Why}
use Rattle.fsa_types.specs.declared.request.Call.{Call}
use Rattle.fsa_model.specs.Bounds.{most_entries}
use Rattle.fsa_model.specs.Engine.{CallsDiffer, is_entry_of}
use Rattle.fsa_model.specs.History.{GaveOut, HistoryEntry, Run}
use Rattle.fsa_model.specs.Once.{how_many}
use Rattle.fsa_model.specs.Outcome.{TurnOut, out_of}
use Rattle.fsa_model.specs.Schedule.{calls_of}
use Rattle.fsa_model.specs.Setup.{Setup}
use Rattle.fsa_model.proofs.CountLaws.{how_many-append, how_many-none}
use Rattle.fsa_model.proofs.ScheduleLaws.{calls_of-push}
use Rattle.fsa_machine.specs.MachineView.{CallsNumbered, MachineView, calls_of_entries, is_full}
use Rattle.history_lock.specs.History.{calls_by}
use Rattle.shared_volume.specs.Histories.{IsMachineHistory}

-- how many calls of the client there are
pub length-mine : (client : ℕ) (entries : List HistoryEntry) → length (calls_by (λ (e : HistoryEntry). e.call) (λ (c : Call). c.client) client entries) ≡ calls_of client (calls_of_entries entries)
length-mine client [] = refl
length-mine client (entry ∷ entries) = let rest = length-mine client entries in elim (cases_Bool (entry.call.client == client)) [
  | inl own ↦ rw own (omega arith)
  | inr other ↦ rw other (omega arith)
]

-- a call of the client below its next one was made
pub made-call : (entries : List HistoryEntry) (client number : ℕ) → CallsNumbered entries → 1 ≤ number → number ≤ calls_of client (calls_of_entries entries) → list_any (is_entry_of client number) entries ≡ true
made-call entries client number numbered some few = elim (cases_Bool (list_any (is_entry_of client number) entries)) [
  | inl is ↦ is
  | inr isnt ↦ absurd (let none = how_many-none (is_entry_of client number) entries isnt in
      let above : nat_lt 0 number ≡ true = lt-ltb 0 number (omega arith) in
      let within : nat_le number (calls_of client (calls_of_entries entries)) ≡ true = le-leb number (calls_of client (calls_of_entries entries)) few in
      let count : how_many (is_entry_of client number) entries ≡ 1 = numbered client number ∙ rw (above, within) refl in
      omega arith)
]

-- no call is made twice where the calls are numbered
pub numbered-differ : (entries : List HistoryEntry) → CallsNumbered entries → CallsDiffer entries
numbered-differ entries numbered client number = go (nat_lt 0 number && nat_le number (calls_of client (calls_of_entries entries))) (numbered client number)
  where
    go : (b : Bool) → how_many (is_entry_of client number) entries ≡ cond b 1 0 → how_many (is_entry_of client number) entries ≤ 1
    go true is = omega arith
    go false is = omega arith

-- ---- one more call of a client

one_more : (n k : ℕ) → cond (nat_lt 0 n && nat_le n k) 1 0 + cond (k + 1 == n) 1 0 ≡ cond (nat_lt 0 n && nat_le n (k + 1)) 1 0
one_more n k = elim (cases_Bool (k + 1 == n)) [
  | inl is ↦ (let same : k + 1 ≡ n = eqb-true (k + 1) n is in
      let above : nat_lt 0 n ≡ true = lt-ltb 0 n (omega arith) in
      let within : nat_le n (k + 1) ≡ true = le-leb n (k + 1) (omega arith) in
      let past : nat_le n k ≡ false = not_below same in
      rw (is, above, within, past) refl)
  | inr isnt ↦ elim (cases_Bool (nat_le n k)) [
    | inl below ↦ (let few = leb-true n k below in let within : nat_le n (k + 1) ≡ true = le-leb n (k + 1) (omega arith) in rw (isnt, below, within) (omega arith))
    | inr above ↦ (let past : nat_le n (k + 1) ≡ false = later isnt above in rw (isnt, above, past) (omega arith))
  ]
]
  where
    not_below : k + 1 ≡ n → nat_le n k ≡ false
    not_below same = grind (arith, nat_tests)

    later : (k + 1 == n) ≡ false → nat_le n k ≡ false → nat_le n (k + 1) ≡ false
    later isnt above = grind (arith, nat_tests)

next-numbered : (entries : List HistoryEntry) (entry : HistoryEntry) → CallsNumbered entries → entry.call.number ≡ calls_of entry.call.client (calls_of_entries entries) + 1 → CallsNumbered (entries ++ entry ∷ [])
next-numbered entries entry numbered next client number =
    let before = numbered client number in
    let more = how_many-append (is_entry_of client number) entries (entry ∷ []) in
    let pushed : calls_of client (calls_of_entries (entries ++ entry ∷ [])) ≡ calls_of client (calls_of_entries entries) + cond (entry.call.client == client) 1 0
    = ap (λ (calls : List Call). calls_of client calls) (map-append (λ (e : HistoryEntry). e.call) entries (entry ∷ [])) ∙ calls_of-push client (calls_of_entries entries) entry.call in
    rw pushed (elim (cases_Bool (entry.call.client == client)) [
      | inr other ↦ (let count : how_many (is_entry_of client number) (entries ++ entry ∷ []) ≡ how_many (is_entry_of client number) entries + (0 + 0) = rw other at more in
          rw other (let same : calls_of client (calls_of_entries entries) + 0 ≡ calls_of client (calls_of_entries entries) = omega arith in rw same (omega arith)))
      | inl own ↦ (let same : entry.call.client ≡ client = eqb-true entry.call.client client own in
          let is_next : entry.call.number ≡ calls_of client (calls_of_entries entries) + 1 = subst (λ (c : ℕ). entry.call.number ≡ calls_of c (calls_of_entries entries) + 1) same next in
          let step = one_more number (calls_of client (calls_of_entries entries)) in
          let count : how_many (is_entry_of client number) (entries ++ entry ∷ []) ≡ how_many (is_entry_of client number) entries + (cond (entry.call.number == number) 1 0 + 0) = rw own at more in
          let counted : how_many (is_entry_of client number) (entries ++ entry ∷ []) ≡ how_many (is_entry_of client number) entries + (cond (calls_of client (calls_of_entries entries) + 1 == number) 1 0 + 0) = subst (λ (n : ℕ). how_many (is_entry_of client number) (entries ++ entry ∷ []) ≡ how_many (is_entry_of client number) entries + (cond (n == number) 1 0 + 0)) is_next count in
          rw own (omega arith))
    ])

-- no turns are a history
pub history-none : (setup : Setup) (entries : List HistoryEntry) → entries ≡ [] → IsMachineHistory setup entries
history-none setup entries none = rw none (record { runs = refl; numbered = λ client number. grind (arith, nat_tests); few = omega arith })

-- a history with one turn more is one
pub history-grows : (setup : Setup) (entries longer : List HistoryEntry) (entry : HistoryEntry) (out : TurnOut) → IsMachineHistory setup entries → longer ≡ entries ++ entry ∷ []
    → entry.call.number ≡ calls_of entry.call.client (calls_of_entries entries) + 1 → GaveOut setup longer out → length entries ≢ most_entries → IsMachineHistory setup longer
history-grows setup entries longer entry out history is next gave room = record {
  runs = subst (λ (o : Option Run). IsSome o) (sym gave.runs) refl;
  numbered = subst CallsNumbered (sym is) (next-numbered entries entry history.numbered next);
  few = (let size : length longer ≡ length entries + 1 = ap length is ∙ length-append entries (entry ∷ []) in let few = history.few in below few room size);
}
  where
    below : length entries ≤ most_entries → length entries ≢ most_entries → length longer ≡ length entries + 1 → length longer ≤ most_entries
    below few room size = omega arith

-- and so is what a turn leaves that was made, since it wasn't refused for a full history
pub history-made : (setup same : Setup) (entries longer : List HistoryEntry) (entry : HistoryEntry) (out : TurnOut) → IsMachineHistory setup entries → same ≡ setup → longer ≡ entries ++ entry ∷ []
    → entry.call.number ≡ calls_of entry.call.client (calls_of_entries entries) + 1 → GaveOut same longer out → false ≡ (length entries == most_entries) → IsMachineHistory same longer
history-made setup same entries longer entry out history is grown next gave room =
    subst (λ (s : Setup). IsMachineHistory s longer) (sym is) (history-grows setup entries longer entry out history grown next (subst (λ (s : Setup). GaveOut s longer out) is gave) (not_full room))
  where
    not_full : false ≡ (length entries == most_entries) → length entries ≢ most_entries
    not_full room full = absurd (let f : false ≡ true = room ∙ eq-eqb (length entries) most_entries full in cc)

-- so a machine whose entries are a history has one after a call of a turn, whatever that answers
pub turn-history : (old new : MachineView) (call : Call) (result : Result Out (Call × Why)) → IsMachineHistory old.setup old.entries → call.number ≡ calls_of call.client (calls_of_entries old.entries) + 1 → new.setup ≡ old.setup
    → IfOk result (λ out. new.entries ≡ old.entries ++ record { call = call; starved = out.starved.items } ∷ []) → IfOk result (λ out. GaveOut new.setup new.entries (out_of out))
    → is_full result ≡ (length old.entries == most_entries) → IfErr result (λ back. (new ≡ old) × (back.0 ≡ call)) → IsMachineHistory new.setup new.entries
turn-history old new call (Ok out) history next same grown gave room kept =
    history-made old.setup new.setup old.entries new.entries (record { call = call; starved = out.starved.items }) (out_of out) history same grown next gave room
turn-history old new call (Err back) history next same grown gave room kept = subst (λ (s : MachineView). IsMachineHistory s.setup s.entries) (sym kept.0) history
