use Rattle.std.proofs.Common.{rules, ◌≡◌, ◌+◌, ◌++◌, ◌∙◌, List, take, drop, length, sym, ap, subst, arith}
use Rattle.std.specs.Prelude.{map}
use Rattle.std.proofs.Math.Seq.{take-append_seam}
use Rattle.std.proofs.lemmas.List.{length-map}
use Rattle.fsa_types.proofs.OplockLemmas.{AreOplocks-effect}
use Rattle.fsa_types.specs.OplockLists.{AreOplocks, break_begun}
use Rattle.fsa_types.specs.Oplocks.{Oplock, Begins}
use Rattle.volume_breaks.proofs.oplock_list.Oplocks.begin_break.Goals as goal

pub invariant_of-self : goal.invariant_of-self
invariant_of-self c =
    let rows : List Oplock = c.self.inside.rows.items in
    let new : List Oplock = c.begin_break.new.rows in
    let is : new ≡ map (break_begun c.args.handle c.args.level (c.self.inside.last + 1)) rows = c.begin_break.ensures ∙ ap (map (break_begun c.args.handle c.args.level (c.self.inside.last + 1))) c.deref_mut.ensures.value in
    let as_many : c.self.inside.rows.len ≡ length new = (let len = c.deref_mut.ensures.len in let old = ap length c.deref_mut.ensures.value in let one = ap length is in let same = length-map rows (break_begun c.args.handle c.args.level (c.self.inside.last + 1)) in omega arith) in
    let all : take c.self.inside.rows.len (new ++ drop (length new) rows) ≡ map (break_begun c.args.handle c.args.level (c.self.inside.last + 1)) rows
    = ap (λ n. take n (new ++ drop (length new) rows)) as_many ∙ take-append_seam new (drop (length new) rows) ∙ is in (
      search rules,
      subst (λ (oplocks : List Oplock). AreOplocks oplocks (c.self.inside.last + 1)) (sym all)
          (AreOplocks-effect (Begins c.args.level) c.args.handle (record { oplocks = rows; last_break = c.self.inside.last }) (rw (← c.self.view_is) at c.requires.level) c.self.invariant.1),
    )
