use Rattle.std.proofs.Common.{ap, sym, ◌∙◌}
use Rattle.std.specs.Prelude.{option_map}
use Rattle.oplock_state.specs.Homes.{home_of_stream}
use Rattle.volume_state.proofs.volume.reserve_oplocks.Goals as goal

pub reserve-requires : goal.reserve-requires
reserve-requires c =
    let found = ap (option_map home_of_stream) (sym c.stream_of.ensures ∙ c.in-Some.is) in
    record { fits = c.requires.fit c.args.handle (home_of_stream c.in-Some.stream) found }
