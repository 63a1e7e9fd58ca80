-- A handle goes only by its own close or by its client's leaving, and goes then: a close takes its one handle, a leaving all of its
-- client, and any other request but an open and a query of a directory leaves the handles as they were, as `KeptHandles` tells.
use Rattle.std.proofs.Common.{◌∷◌, suc, eq-eqb, get_or, ◌≡◌, ℕ, Bool, true, false, List, refl, ◌∙◌, Some, ap, sym, arith, inl, inr, []}
use Rattle.std.specs.Prelude.{◌==◌, ◌&&◌, ◌||◌, not, nat_lt, filter, All}
use Rattle.std.proofs.lemmas.Bool.{cases_Bool, eqb-true}
use Rattle.std.proofs.lemmas.List.Folds.{list_any_at, list_any_none}
use Rattle.fsa_types.specs.Rows.{IsNumbered, row_of}
use Rattle.fsa_types.specs.declared.request.Call.{Call}
use Rattle.fsa_types.specs.declared.request.Request.TheVariants as request
use Rattle.fsa_types.specs.declared.request.What.{What}
use Rattle.fsa_types.specs.declared.request.What.TheVariants.{Ask, Leave}
use Rattle.fsa_types.specs.declared.status.Status.TheVariants.{Cancelled, InvalidHandle}
use Rattle.fsa_model.specs.Close.{close_at, handles_of_client, is_left_behind, pending_by_turn, try_close, try_leave, with_all_closed, with_calls_ended, with_client_gone, with_closed}
use Rattle.fsa_model.specs.History.{HistoryEntry}
use Rattle.fsa_model.specs.Lookups.{handle_of, has_left}
use Rattle.fsa_model.specs.Outcome.{refused}
use Rattle.fsa_model.specs.Setup.{Setup}
use Rattle.fsa_model.specs.Tries.{Tried, tries_of}
use Rattle.fsa_model.specs.Try.{try, try_what}
use Rattle.fsa_model.specs.Volume.{Handle, Volume}
use Rattle.fsa_model.proofs.CoherenceLaws.{any-in_order}
use Rattle.fsa_model.proofs.GrantedLaws.{closed-handles}
use Rattle.fsa_model.proofs.RowLaws.{eqb-swap, option_cases, row_of-here}
use Rattle.history_laws.specs.HandlesClose.{HandlesAfter, HandlesGoWhenClosed}
use Rattle.history_laws.proofs.AnyLaws.{any-filter_and}
use Rattle.history_laws.proofs.CausesOfCalls.{filter-all, filter-twice, is_among}
use Rattle.history_laws.proofs.KeptHandles.{what-kept}
use Rattle.history_laws.proofs.TreeParts.{calls_ended-handles}
use Rattle.history_laws.proofs.TreeRuns.{run-holds}

-- ---- closes and leavings

close : (v : Volume) (client number : ℕ) → HandlesAfter v client (Ask (request.Close number)) (try_close v client number)
unfolding try_close close_at
close v client number = elim (option_cases (handle_of v client number)) [
  | inl unknown ↦ rw unknown (record { closes = λ done. cc; refuses = λ fails. refl })
  | inr named ↦ rw named.1 (elim (option_cases (row_of v.handles named.0)) [
    | inl gone ↦ rw gone (record { closes = λ done. cc; refuses = λ fails. refl })
    | inr there ↦ rw there.1 (record { closes = λ done. (named.0, named.1, closed-handles v named.0 there.0); refuses = λ fails. cc })
  ])
]

-- filters that agree on each item
filter-agree : {X : Type 0} (p q : X → Bool) (xs : List X) → All (λ x. p x ≡ q x) xs → filter p xs ≡ filter q xs
filter-agree p q [] agree = refl
filter-agree p q (x ∷ xs) agree =
    let rest : filter p xs ≡ filter q xs = filter-agree p q xs (λ k d within. agree (suc k) d (omega arith)) in
    let here : p x ≡ q x = agree 0 x (omega arith) in
    elim (cases_Bool (q x)) [
      | inl passes ↦ rw (here, passes) (ap (λ rest. x ∷ rest) rest)
      | inr fails ↦ rw (here, fails) rest
    ]

-- the handle is none of these
abbrev pub is_spared : List (ℕ × Handle) → ℕ × Handle → Bool
is_spared handles entry = not (is_among handles entry.0)

-- closes of handles take away just these
pub all_closed : (handles : List (ℕ × Handle)) (v : Volume) → (with_all_closed handles v).handles ≡ filter (is_spared handles) v.handles
all_closed [] v = sym (filter-all (λ (entry : ℕ × Handle). true) v.handles (λ entry. refl))
all_closed (first ∷ more) v =
    all_closed more (with_closed v first.0 first.1)
    ∙ ap (λ (rows : List (ℕ × Handle)). filter (is_spared more) rows) (closed-handles v first.0 first.1)
    ∙ filter-twice (is_spared more) (λ (entry : ℕ × Handle). not (entry.0 == first.0)) (is_spared (first ∷ more)) v.handles
    (λ entry. rw (eqb-swap entry.0 first.0) (neither (first.0 == entry.0) (is_among more entry.0)))
  where
    neither : (a b : Bool) → (not a && not b) ≡ not (a || b)
    neither true b = refl
    neither false b = refl

-- a handle is one of its client's, and of no other's
among-own : (v : Volume) (client : ℕ) → IsNumbered v.handles v.last_handle
    → All (λ (entry : ℕ × Handle). is_among (handles_of_client v client) entry.0 ≡ (entry.1.client == client)) v.handles
among-own v client numbered k d within =
    any-in_order (λ (entry : ℕ × Handle). entry.0 == own.0) (λ a b. nat_lt a.1.number b.1.number) (filter (λ (entry : ℕ × Handle). entry.1.client == client) v.handles)
    ∙ any-filter_and (λ (entry : ℕ × Handle). entry.0 == own.0) (λ entry. entry.1.client == client) v.handles
    ∙ elim (cases_Bool (own.1.client == client)) [
      | inl is ↦ list_any_at is_it v.handles k d within (rw (eq-eqb own.0 own.0 refl, is) refl) ∙ sym is
      | inr other ↦ list_any_none is_it v.handles (λ j e inside. elim (cases_Bool ((get_or v.handles j e).0 == own.0)) [
        | inr apart ↦ rw apart refl
        | inl same ↦ (
            let at_own : Some (get_or v.handles j e).1 ≡ Some own.1
            = sym (row_of-here v.handles v.last_handle j e numbered inside) ∙ ap (λ (id : ℕ). row_of v.handles id) (eqb-true _ own.0 same)
            ∙ row_of-here v.handles v.last_handle k d numbered within in
            let one : (get_or v.handles j e).1 ≡ own.1 = cc in
            rw (same, one, other) refl)
      ]) ∙ sym other
    ]
  where
    own : ℕ × Handle
    own = get_or v.handles k d

    is_it : ℕ × Handle → Bool
    is_it entry = (entry.0 == own.0) && (entry.1.client == client)

leave : (v : Volume) (client : ℕ) → IsNumbered v.handles v.last_handle → HandlesAfter v client Leave (try_leave v client)
unfolding try_leave with_client_gone
leave v client numbered = record {
  closes = λ done.
      all_closed own (with_calls_ended (λ _. Cancelled) (pending_by_turn (is_left_behind client) v) v)
      ∙ ap (λ (rows : List (ℕ × Handle)). filter (is_spared own) rows) (calls_ended-handles (λ _. Cancelled) (pending_by_turn (is_left_behind client) v) v)
      ∙ filter-agree (is_spared own) (λ (entry : ℕ × Handle). not (entry.1.client == client)) v.handles (λ k d within. ap not (among-own v client numbered k d within));
  refuses = λ fails. cc;
}
  where
    own : List (ℕ × Handle)
    own = handles_of_client v client

-- ---- any call

-- what a try of what is asked leaves
what-handles : (v : Volume) (turn client number : ℕ) (what : What) → IsNumbered v.handles v.last_handle
    → HandlesAfter v client what (try_what v turn client number what)
what-handles v turn client number (Ask (request.Close handle)) numbered = close v client handle
what-handles v turn client number Leave numbered = leave v client numbered
what-handles v turn client number what numbered = what-kept v turn client number what refl

-- what is refused leaves them
refused-handles : (v : Volume) (client : ℕ) (what : What) → HandlesAfter v client what (refused v InvalidHandle)
refused-handles v client (Ask (request.Create path wanted share disposition options attributes key)) = tt
refused-handles v client (Ask (request.Close handle)) = record { closes = λ done. cc; refuses = λ fails. refl }
refused-handles v client Leave = record { closes = λ done. cc; refuses = λ fails. refl }
refused-handles v client (Ask (request.QueryDir handle kind expression restart room)) = record { same = refl; others = λ any other. refl }
refused-handles v client _ = refl

-- so it is after each try
try-handles : (v : Volume) (call : Call) (turn : ℕ) → IsNumbered v.handles v.last_handle → HandlesAfter v call.client call.what (try v call turn)
try-handles v call turn numbered = elim (cases_Bool (has_left v call.client)) [
  | inl left ↦ rw left (refused-handles v call.client call.what)
  | inr here ↦ rw here (what-handles v turn call.client call.number call.what numbered)
]

-- ---- the law

-- a handle goes only by its own close or by its client's leaving, and goes then
pub handles-go_when_closed : (setup : Setup) (history : List HistoryEntry) → HandlesGoWhenClosed setup history
handles-go_when_closed setup history k d within =
    let t : Tried = get_or (tries_of setup history) k d in
    try-handles t.before t.call t.turn ((run-holds setup history).tries k d within).before.tidy.handles
