use Rattle.std.proofs.Common.{ℕ, ◌≡◌, ◌+◌, ◌<◌, ◌∙◌, length, get_or, subst, sym, ap, arith, not}
use Rattle.std.specs.Prelude.{◌&&◌, nat_lt, if◌then◌else◌}
use Rattle.std.proofs.lemmas.Option.{get_or_from_slice_get, slice_get-get_or}
use Rattle.fsa_model.specs.Waiting.{waits}
use Rattle.fsa_top.specs.Order.{IsLeastCursor}
use Rattle.fsa_top.proofs.OrderLaws.{IsLeastCursor-begun, IsLeastCursor-next}
use Rattle.fsa_top.proofs.order.Order.least_place.Goals as goal

pub loop-client-init : goal.loop-client-init
loop-client-init c = λ r runs.
    let all : ℕ = length c.args.self.now.following.items + length c.args.self.now.places.items in
    let same : all ≡ c.len.result + c.len-2.result = omega (arith, c.len.ensures, c.len-2.ensures) in
    subst (λ (n : ℕ). IsLeastCursor (λ client. waits r.volume client) c.args.self.now.places.items 0 all n) same
    (IsLeastCursor-begun (λ client. waits r.volume client) c.args.self.now.places.items all)

pub loop-client-preserved : goal.loop-client-preserved
loop-client-preserved c = λ r runs.
    let all : ℕ = length c.args.self.now.following.items + length c.args.self.now.places.items in
    let places = c.args.self.now.places.items in
    let client = c.loop-client.client in
    let inside : client < length places = omega (arith, c.loop-client-test.true, c.len-client-end.ensures) in
    let place : get_or places client 0 ≡ get_or places client c.index.result.now = get_or_from_slice_get places client (get_or places client c.index.result.now) 0 (slice_get-get_or places client c.index.result.now inside) in
    let is : c.index.result.now ≡ get_or places client 0 = c.index.ensures ∙ sym place in
    let least : c.lesser-least.result ≡ (if nat_lt (get_or places client 0) c.loop-client.least && not (waits r.volume client) then get_or places client 0 else c.loop-client.least)
    = c.lesser-least.ensures r runs ∙ ap (λ (p : ℕ). if nat_lt p c.loop-client.least && not (waits r.volume client) then p else c.loop-client.least) is in
    subst (λ (n : ℕ). IsLeastCursor (λ other. waits r.volume other) places (client + 1) all n) (sym least)
    (IsLeastCursor-next (λ other. waits r.volume other) places client all c.loop-client.least (c.loop-client.invariant r runs))
