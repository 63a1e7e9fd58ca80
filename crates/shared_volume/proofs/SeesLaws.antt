-- What a pass knows while it makes no call.
use Rattle.std.proofs.Common.{◌≡◌, ℕ, ◌+◌, List, ◌++◌, refl, ap, sym, ◌∙◌, arith, append_assoc, append-nil, []}
use Rattle.fsa_model.specs.History.{HistoryEntry}
use Rattle.history_lock.specs.History.{Begins}
use Rattle.history_lock.specs.Passes.{OnlyLoaded, Refreshed}
use Rattle.history_lock.specs.Turns.{beaten}
use Rattle.shared_volume.specs.Shared.{Known, OnlySees}

begins-all : (seen : List HistoryEntry) → Begins seen seen
begins-all seen = record { later = []; whole = sym (append-nil seen) }

begins-further : (seen more log : List HistoryEntry) → Begins seen more → Begins more log → Begins seen log
begins-further seen more log a b = record { later = a.later ++ b.later; whole = b.whole ∙ (ap (λ (l : List HistoryEntry). l ++ b.later) a.whole ∙ append_assoc seen a.later b.later) }

pub sees-nothing : (v : Known) → OnlySees v v
sees-nothing v = record { seen = begins-all v.own.seen; loads = omega arith; lost = omega arith; view = refl }

pub sees-on : (v u w : Known) → OnlySees v u → OnlySees u w → OnlySees v w
sees-on v u w a b = record {
  seen = begins-further v.own.seen u.own.seen w.own.seen a.seen b.seen;
  loads = (let x = a.loads in let y = b.loads in omega arith);
  lost = (let x = a.lost in let y = b.lost in omega arith);
  view = b.view ∙ ap (λ (z : Known). record z { own = record z.own { seen = w.own.seen }; loads = w.loads; lost = w.lost }) a.view;
}

pub sees-refreshed : (u w : Known) → Refreshed u w → OnlySees u w
sees-refreshed u w r = record {
  seen = r.seen;
  loads = (let more : w.loads ≡ u.loads + 1 = ap (λ (z : Known). z.loads) r.view in omega arith);
  lost = (let same : w.lost ≡ u.lost = ap (λ (z : Known). z.lost) r.view in omega arith);
  view = r.view ∙ (ap (λ (k : ℕ). record u { own = record u.own { seen = w.own.seen }; loads = k }) (sym (ap (λ (z : Known). z.loads) r.view))
      ∙ ap (λ (k : ℕ). record u { own = record u.own { seen = w.own.seen }; loads = w.loads; lost = k }) (sym (ap (λ (z : Known). z.lost) r.view)));
}

pub sees-loaded : (u w : Known) → OnlyLoaded u w → OnlySees u w
sees-loaded u w r = record {
  seen = r.seen;
  loads = r.loads;
  lost = (let same : w.lost ≡ u.lost = ap (λ (z : Known). z.lost) r.view in omega arith);
  view = r.view ∙ ap (λ (k : ℕ). record u { own = record u.own { seen = w.own.seen }; loads = w.loads; lost = k }) (sym (ap (λ (z : Known). z.lost) r.view));
}

pub sees-beaten : (u w : Known) → w ≡ beaten u → OnlySees u w
sees-beaten u w is =
    let seen : w.own.seen ≡ u.own.seen = ap (λ (z : Known). z.own.seen) is in
    let loads : w.loads ≡ u.loads = ap (λ (z : Known). z.loads) is in
    let lost : w.lost ≡ u.lost + 1 = ap (λ (z : Known). z.lost) is in record {
      seen = record { later = []; whole = seen ∙ sym (append-nil u.own.seen) };
      loads = omega arith;
      lost = omega arith;
      view = is ∙ (ap (λ (l : List HistoryEntry). record u { own = record u.own { seen = l }; lost = u.lost + 1 }) (sym seen)
          ∙ (ap (λ (k : ℕ). record u { own = record u.own { seen = w.own.seen }; loads = k; lost = u.lost + 1 }) (sym loads)
          ∙ ap (λ (k : ℕ). record u { own = record u.own { seen = w.own.seen }; loads = w.loads; lost = k }) (sym lost)));
    }
