use Rattle.std.proofs.Common.{◌≡◌, ◌==◌, ℕ, Some, is_some, ap, arith, refl, sym, ◌∙◌}
use Rattle.std.specs.List.{position}
use Rattle.fsa_types.proofs.RowLemmas.{IsAt-position}
use Rattle.slab.specs.Slab.{ContainsKey, get, with_value}
use Rattle.slab.proofs.SlabLemmas.{Updates-with_value}
use Rattle.object_tables.proofs.PlaceLemmas.{key-there, len-changed, place-same, placed-changed, row-placed, rows-changed}
use Rattle.object_tables.proofs.table.Table.row_mut.Goals as goal

pub at-key-requires : goal.at-key-requires
at-key-requires g c =
    let i = c.self.inside in
    let found : position (λ e. e.0 == c.args.id) i.places.items ≡ Some c.args.place = sym (place-same (get i.rows) i.places.items c.self.invariant.there c.args.id) ∙ (rw (← c.self.view_is) at c.requires) in
    let within = (IsAt-position i.places.items c.args.id c.args.place (0, 0) found).within in
    omega arith

pub index_mut-requires : goal.index_mut-requires
index_mut-requires g c =
    let i = c.self.inside in
    let found : position (λ e. e.0 == c.args.id) i.places.items ≡ Some c.args.place = sym (place-same (get i.rows) i.places.items c.self.invariant.there c.args.id) ∙ (rw (← c.self.view_is) at c.requires) in
    ap (λ (p : ℕ × ℕ). is_some (get i.rows p.1)) c.at-key.ensures ∙ key-there (get i.rows) i.places.items i.last c.args.id c.args.place c.at-key.result c.self.invariant found

pub invariant_of-self-lent : goal.invariant_of-self-lent
invariant_of-self-lent g c w =
    let i = c.self.inside in
    let key = c.at-key.result.1 in
    let found : position (λ e. e.0 == c.args.id) i.places.items ≡ Some c.args.place = sym (place-same (get i.rows) i.places.items c.self.invariant.there c.args.id) ∙ (rw (← c.self.view_is) at c.requires) in
    let there : ContainsKey i.rows key = ap (λ (p : ℕ × ℕ). is_some (get i.rows p.1)) c.at-key.ensures ∙ key-there (get i.rows) i.places.items i.last c.args.id c.args.place c.at-key.result c.self.invariant found in
    let written = Updates-with_value i.rows key w there in
    placed-changed (get i.rows) (get (with_value i.rows key w)) key c.args.id w written.changed written.others i.places.items i.last c.self.invariant

pub returns : goal.returns
returns g c =
    let i = c.self.inside in
    let key = c.at-key.result.1 in
    let found : position (λ e. e.0 == c.args.id) i.places.items ≡ Some c.args.place = sym (place-same (get i.rows) i.places.items c.self.invariant.there c.args.id) ∙ (rw (← c.self.view_is) at c.requires) in
    let there : ContainsKey i.rows key = ap (λ (p : ℕ × ℕ). is_some (get i.rows p.1)) c.at-key.ensures ∙ key-there (get i.rows) i.places.items i.last c.args.id c.args.place c.at-key.result c.self.invariant found in (
      (
        refl,
        λ w. (let written = Updates-with_value i.rows key w there in
            rw (
              ← c.self.view_is,
              rows-changed (get i.rows) (get (with_value i.rows key w)) key c.args.id w written.changed written.others i.places.items i.last c.args.place c.at-key.result c.self.invariant found (sym (ap (λ (e : ℕ × ℕ). e.1) c.at-key.ensures)),
              len-changed i.rows key w there,
            ) refl),
      ),
      record {
        writes_back = tt;
        row = rw (← c.self.view_is) (
            row-placed (get i.rows) i.places.items i.last c.args.id c.args.place c.at-key.result c.self.invariant found
            ∙ sym (ap (λ (e : ℕ × ℕ). get i.rows e.1) c.at-key.ensures) ∙ c.index_mut.ensures.value);
      },
    )
