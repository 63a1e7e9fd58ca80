-- The calls that a client of a script is to make: numbered from 1, each one that can be asked, and only the last leaves.
use Rattle.std.proofs.Common.{◌≡◌, ℕ, zero, suc, ◌+◌, ◌≤◌, true, List, [], ◌∷◌, ◌++◌, length, refl, ap, sym, subst, ◌∙◌, arith, inl, inr, slice_get, None, Some, length-append}
use Rattle.std.specs.Prelude.{◌==◌, ◌↔◌, filter}
use Rattle.std.proofs.lemmas.Bool.{cases_Bool, eqb-true}
use Rattle.fsa_types.specs.declared.request.Call.{Call}
use Rattle.fsa_types.specs.declared.request.What.TheVariants.{Leave}
use Rattle.fsa_model.specs.LineCalls.{AreLineCalls}
use Rattle.fsa_model.specs.Schedule.{AreNumbered, calls_of, leave_after}
use Rattle.fsa_model.specs.Setup.{Script}
use Rattle.fsa_model.proofs.ScheduleLaws.{calls_of-push}
use Rattle.fsa_model.proofs.ScriptLaws.{length-filter_calls}
use Rattle.history_laws.specs.Races.{own_calls}
use Rattle.history_lock.proofs.Places.{each_given, given_below}
use Rattle.history_laws.specs.CallAnswers.{CanAsk}
use Rattle.client_run.specs.Calls.{IsLined}
use Rattle.client_race.specs.Races.{CanRace}

pub calls_of-few : (client : ℕ) (calls : List Call) → calls_of client calls ≤ length calls
calls_of-few client [] = omega arith
calls_of-few client (call ∷ calls) = let rest = calls_of-few client calls in elim (cases_Bool (call.client == client)) [
  | inl own ↦ rw own (omega arith)
  | inr other ↦ rw other (omega arith)
]

-- its lines and then its leaving
pub with_leave : (lines own : List Call) (client n : ℕ) → own ≡ filter (λ (call : Call). call.client == client) lines → n ≡ calls_of client lines
    → own ++ record { client = client; number = n + 1; what = Leave } ∷ [] ≡ filter (λ (call : Call). call.client == client) lines ++ leave_after lines client ∷ []
with_leave lines own client n is count = λ i. is i ++ record { client = client; number = count i + 1; what = Leave } ∷ []

-- a line of the client at this place of its lines
record IsOwnLine (client before place : ℕ) (call : Call) : Type 0 where
  own : call.client ≡ client
  number : call.number ≡ before + place + 1
  can : CanAsk call.what
  stays : call.what ≡ Leave → ⊥

lines_are : (before lines : List Call) (clients client : ℕ) → AreNumbered before lines → AreLineCalls clients lines → ((place : ℕ) (call : Call) → slice_get lines place ≡ Some call → call.what ≡ Leave → ⊥)
    → (place : ℕ) (call : Call) → slice_get (filter (λ (c : Call). c.client == client) lines) place ≡ Some call → IsOwnLine client (calls_of client before) place call
lines_are before [] clients client numbered fit stay place call at = (let impossible : None ≡ Some call = at in cc)
lines_are before (one ∷ more) clients client numbered fit stay place call at =
    let rest = λ (k : ℕ) (there : slice_get (filter (λ (c : Call). c.client == client) more) k ≡ Some call).
    lines_are (before ++ one ∷ []) more clients client numbered.1 fit.1 (λ j c within. stay (suc j) c within) k call there in
    elim (cases_Bool (one.client == client)) [
      | inr other ↦ (let later = rest place (rw other at at) in
          let pushed = calls_of-push client before one in
          let count : calls_of client (before ++ one ∷ []) ≡ calls_of client before + 0 = rw other at pushed in
          let number = later.number in record { own = later.own; number = omega arith; can = later.can; stays = later.stays })
      | inl own ↦ here own rest place (rw own at at)
    ]
  where
    here : (one.client == client) ≡ true
        → ((k : ℕ) → slice_get (filter (λ (c : Call). c.client == client) more) k ≡ Some call → IsOwnLine client (calls_of client (before ++ one ∷ [])) k call)
        → (place : ℕ) → slice_get (one ∷ filter (λ (c : Call). c.client == client) more) place ≡ Some call → IsOwnLine client (calls_of client before) place call
    here own rest zero at = (let same : one ≡ call = (let f : Some one ≡ Some call = at in cc) in
        let is : one.client ≡ client = eqb-true one.client client own in
        let first : one.number ≡ calls_of client before + 1 = numbered.0 ∙ ap (λ (c : ℕ). calls_of c before + 1) is in
        subst (IsOwnLine client (calls_of client before) 0) same
        (record { own = is; number = omega arith; can = record { fits = fit.0.fits; ticks = fit.0.ticks }; stays = stay 0 one refl }))
    here own rest (suc place) at = (let later = rest place at in
        let pushed = calls_of-push client before one in
        let count : calls_of client (before ++ one ∷ []) ≡ calls_of client before + 1 = rw own at pushed in
        let number = later.number in record { own = later.own; number = omega arith; can = later.can; stays = later.stays })

pub own_calls-lined : (script : Script) (client : ℕ) → CanRace script → IsLined client (own_calls script client)
own_calls-lined script client can = record {
  some = (let size = length-append lines (leave ∷ []) in omega arith);
  each = each_given (λ place call. (call.client ≡ client) × ((call.number ≡ place + 1) × CanAsk call.what)) lines (own_calls script client) leave refl
      (λ place call at. (let line = line_at place call at in let number = line.number in (line.own, (omega arith, line.can))))
      (refl, (ap (λ n. n + 1) (sym (length-filter_calls script.lines client)), record { fits = refl; ticks = refl }));
  leaves = each_given (λ place call. (call.what ≡ Leave) ↔ (place + 1 ≡ length (own_calls script client))) lines (own_calls script client) leave refl
      (λ place call at. (let line = line_at place call at in let within = given_below lines place call at in let size = length-append lines (leave ∷ []) in
      (λ leaves. absurd (line.stays leaves), λ last. absurd (omega arith))))
      ((let size = length-append lines (leave ∷ []) in (λ leaves. omega arith, λ last. refl)));
}
  where
    lines : List Call
    lines = filter (λ (call : Call). call.client == client) script.lines

    leave : Call
    leave = leave_after script.lines client

    line_at : (place : ℕ) (call : Call) → slice_get lines place ≡ Some call → IsOwnLine client 0 place call
    line_at place call at = lines_are [] script.lines (length script.setup.clients) client can.numbered can.fit can.stay place call at
