use Rattle.std.proofs.Common.{◌≡◌, ◌∙◌, ℕ, List, ◌-◌, length, drop, arith, refl, sym, subst, Ok, Err, Some, None}
use Rattle.std.proofs.lemmas.List.{length-drop}
use Rattle.pack_info.specs.Entries.{BeginsWithEntry}
use Rattle.fsa_types.specs.Packing.{entries_bytes, entry_bytes, is_nothing}
use Rattle.pack_info.specs.Walks.{seen, WalkState}
use Rattle.pack_info.proofs.WalkLaws.{nothing_more, rest_at, written_begins, begins_once, again_at, steps_at}
use Rattle.pack_info.proofs.walk.Walk.next.Goals as goal

pub returns-then-self-clause-again : goal.returns-then-self-clause-again
returns-then-self-clause-again c =
    let v : WalkState = record { kind = c.self.inside.kind; buffer = c.self.inside.buffer.now; place = c.self.inside.place } in
    again_at (Ok None) c.args.self.now v c.args.self.now c.self.view_is (λ e es are written. absurd (nothing_more c.self.inside.kind (drop c.self.inside.place c.self.inside.buffer.now) e es (omega (arith, length-drop c.self.inside.place c.self.inside.buffer.now, c.if-self.true)) written))

pub returns-in_default-clause-again : goal.returns-in_default-clause-again
returns-in_default-clause-again c =
    let v : WalkState = record { kind = c.self.inside.kind; buffer = c.self.inside.buffer.now; place = c.self.inside.place } in
    again_at (Err (record { place = c.self.inside.place })) c.args.self.now v c.args.self.now c.self.view_is
    (λ e es are written. absurd (c.in_default.ensures.only e (entries_bytes c.self.inside.kind es) (written_begins c.self.inside.kind _ e es are.0 (c.split_at.ensures.back ∙ written))))

pub returns-clause-step : goal.returns-clause-step
returns-clause-step c =
    let v : WalkState = record { kind = c.self.inside.kind; buffer = c.self.inside.buffer.now; place = c.self.inside.place } in
    let n : WalkState = record { kind = c.self.inside.kind; buffer = c.self.inside.buffer.now; place = length c.self.inside.buffer.now - length c.in-Some.rest.now } in
    let found : BeginsWithEntry c.self.inside.kind (drop c.self.inside.place c.self.inside.buffer.now) (seen c.in-Some.entry) c.in-Some.rest.now = subst (λ (xs : List ℕ). BeginsWithEntry c.self.inside.kind xs (seen c.in-Some.entry) c.in-Some.rest.now) c.split_at.ensures.back c.in-Some.ensures.found in
    let r : drop (length c.self.inside.buffer.now - length c.in-Some.rest.now) c.self.inside.buffer.now ≡ c.in-Some.rest.now
    = rest_at c.self.inside.buffer.now c.self.inside.place (entry_bytes c.self.inside.kind (seen c.in-Some.entry) (is_nothing c.in-Some.rest.now)) c.in-Some.rest.now found.spelled in
    steps_at (Ok (Some c.in-Some.entry)) n v c.args.self.now c.self.view_is (subst (λ (xs : List ℕ). BeginsWithEntry c.self.inside.kind (drop c.self.inside.place c.self.inside.buffer.now) (seen c.in-Some.entry) xs) (sym r) found, refl, refl, omega arith)

pub returns-clause-again : goal.returns-clause-again
returns-clause-again c =
    let v : WalkState = record { kind = c.self.inside.kind; buffer = c.self.inside.buffer.now; place = c.self.inside.place } in
    let n : WalkState = record { kind = c.self.inside.kind; buffer = c.self.inside.buffer.now; place = length c.self.inside.buffer.now - length c.in-Some.rest.now } in
    let found : BeginsWithEntry c.self.inside.kind (drop c.self.inside.place c.self.inside.buffer.now) (seen c.in-Some.entry) c.in-Some.rest.now = subst (λ (xs : List ℕ). BeginsWithEntry c.self.inside.kind xs (seen c.in-Some.entry) c.in-Some.rest.now) c.split_at.ensures.back c.in-Some.ensures.found in
    let r : drop (length c.self.inside.buffer.now - length c.in-Some.rest.now) c.self.inside.buffer.now ≡ c.in-Some.rest.now
    = rest_at c.self.inside.buffer.now c.self.inside.place (entry_bytes c.self.inside.kind (seen c.in-Some.entry) (is_nothing c.in-Some.rest.now)) c.in-Some.rest.now found.spelled in
    again_at (Ok (Some c.in-Some.entry)) n v c.args.self.now c.self.view_is (λ e es are written.
    let s = begins_once c.self.inside.kind (drop c.self.inside.place c.self.inside.buffer.now) (seen c.in-Some.entry) e c.in-Some.rest.now (entries_bytes c.self.inside.kind es) found (written_begins c.self.inside.kind (drop c.self.inside.place c.self.inside.buffer.now) e es are.0 written) in
    (s.entry, r ∙ s.rest))
