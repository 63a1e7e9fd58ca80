use Rattle.std.proofs.Common.{refl}
use Rattle.std.specs.Prelude.{option_map}
use Rattle.fsa_model.proofs.SoundLaws.{IsSound-file_changed}
use Rattle.volume_state.specs.Content.{content_of}
use Rattle.volume_state.proofs.TallyLaws.{tallied-file_changed}
use Rattle.volume_state.proofs.volume.Volume.set_dacl.Goals as goal

pub invariant_of-self : goal.invariant_of-self
invariant_of-self c = (
  (rw (c.set_dacl.ensures.rows, c.set_dacl.ensures.last)
      (IsSound-file_changed (content_of c.self.inside) (λ row. record row { dacl = option_map (λ list. list.items) c.args.dacl }) c.args.file c.self.invariant.0 (λ row. refl) (λ row fits. fits))),
  c.self.invariant.1,
  rw c.set_dacl.ensures.rows
      (tallied-file_changed c.self.inside.files.rows (content_of c.self.inside).streams c.self.inside.space c.args.file (λ row. record row { dacl = option_map (λ list. list.items) c.args.dacl }) (λ row. refl) c.self.invariant.2),
  c.self.invariant.3,
  c.self.invariant.4,
  c.self.invariant.5,
)
