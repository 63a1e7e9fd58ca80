use Rattle.std.specs.Prelude.{filter}
use Rattle.std.proofs.lemmas.List.{length-map}
use Rattle.std.proofs.Common.{refl}
use Rattle.volume_tables.specs.HandleTable.{is_on_stream, range_of_lock}
use Rattle.volume_state.proofs.volume.Volume.asked.Goals as goal

pub returns : goal.returns
returns c =
    let locks = filter (λ entry. is_on_stream c.self.inside.handles.rows c.args.opened.stream entry.1) c.self.inside.handles.locks in
    rw (← c.self.view_is, c.is_open_by_others-others.ensures, c.len-locked.ensures, c.locks_of.ensures.ranges, length-map locks range_of_lock) refl
