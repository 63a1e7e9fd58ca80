use Rattle.std.proofs.Common.{suc, length, slice_get, sym, ap, ◌∙◌}
use Rattle.history_lock.proofs.Gathered.{Gathered, each_sees, all_here, all_made}
use Rattle.history_lock.proofs.close.join_all.Goals as goal
use Rattle.history_lock.proofs.close.join_all.Goals.{After-load}

pub gather-requires-clause-table : goal.gather-requires-clause-table
gather-requires-clause-table g c = let first = c.requires.passes 0 c.first_of-client.result (ap (λ l. slice_get l 0) c.first_of-client.ensures) in (first.0, c.requires.table)

pub gather-requires-clause-rests : goal.gather-requires-clause-rests
gather-requires-clause-rests g c = let pass = c.first_of-client.result in let first = c.requires.passes 0 pass (ap (λ l. slice_get l 0) c.first_of-client.ensures) in (pass.resting.0, first.1, pass.resting.1)

pub gather-requires-clause-passes : goal.gather-requires-clause-passes
gather-requires-clause-passes g c i p at = let other = c.requires.passes (suc i) p (ap (λ l. slice_get l (suc i)) c.first_of-client.ensures ∙ at) in (other.0, other.1)

pub load-requires : goal.load-requires
load-requires g c = let first = c.requires.passes 0 c.first_of-client.result (ap (λ l. slice_get l 0) c.first_of-client.ensures) in record { table = (c.gather.ensures.same.0 ∙ first.0, c.requires.table) }

pub returns-clause-place : goal.returns-clause-place
returns-clause-place g c = let first = c.requires.passes 0 c.first_of-client.result (ap (λ l. slice_get l 0) c.first_of-client.ensures) in
    (c.load.ensures.same.0 ∙ (c.gather.ensures.same.0 ∙ first.0), ap (λ m. m.1) c.load.ensures.loaded.1 ∙ c.gather.ensures.same.2)

pub returns-clause-rests : goal.returns-clause-rests
returns-clause-rests g c = let pass = c.first_of-client.result in let first = c.requires.passes 0 pass (ap (λ l. slice_get l 0) c.first_of-client.ensures) in
    (ap (λ m. m.0.live) c.load.ensures.loaded.1 ∙ (ap (λ v. v.live) c.gather.ensures.view ∙ first.1), ap (λ m. m.0.holds) c.load.ensures.loaded.1 ∙ (ap (λ v. v.holds) c.gather.ensures.view ∙ pass.resting.1))

pub returns-clause-numbers : goal.returns-clause-numbers
returns-clause-numbers g c = let pass = c.first_of-client.result in let first = c.requires.passes 0 pass (ap (λ l. slice_get l 0) c.first_of-client.ensures) in let own = ap (λ m. m.0.own) c.load.ensures.loaded.1 in
    let client = ap (λ v. v.own.client) c.gather.ensures.view in let mine = ap (λ v. v.own.mine) c.gather.ensures.view in
    (pass.client_is ∙ sym (ap (λ p. p.client) own ∙ client), pass.client_is ∙ first.2, pass.made_is ∙ ap length (sym (ap (λ p. p.mine) own ∙ mine)), pass.few)

gathered : (g : _) (c : After-load g) → Gathered g.M.Machine.call_of g.M.Machine.client_of (λ z. z.seat.me.0) c.args.top.now.key.clients c.args.passes.items c.gather.new.seat.me.0 c.load.new.seat.me.0
gathered g c = let pass = c.first_of-client.result in let first = c.requires.passes 0 pass (ap (λ l. slice_get l 0) c.first_of-client.ensures) in record {
  first = pass;
  others = c.first_of-client.new.passes.items;
  log = c.load.ensures.loaded.0;
  whole = c.first_of-client.ensures;
  count = sym c.args.passes.ok.0 ∙ c.requires.one_each.0;
  live = first.1;
  view = c.gather.ensures.view;
  loaded = ap (λ m. m.0) c.load.ensures.loaded.1;
  clients = λ i p at. (c.requires.passes i p at).2;
  kept = c.gather.ensures.kept;
  sees = c.load.ensures.loaded.4;
}

pub returns-clause-all : goal.returns-clause-all
returns-clause-all g c = all_here _ _ _ _ _ _ _ (gathered g c)

pub returns-clause-made : goal.returns-clause-made
returns-clause-made g c = all_made _ _ _ _ _ _ _ (gathered g c)

pub returns-clause-each : goal.returns-clause-each
returns-clause-each g c = each_sees _ _ _ _ _ _ _ (gathered g c)
