use Rattle.std.proofs.Common.{ap, sym, ◌∙◌}
use Rattle.std.specs.Prelude.{option_map}
use Rattle.oplock_state.specs.Homes.{home_of_stream}
use Rattle.oplock_state.proofs.homes.home_of_handle.Goals as goal

pub home_of_stream-requires : goal.home_of_stream-requires
home_of_stream-requires c =
    let found = ap (option_map home_of_stream) (sym c.stream_of.ensures ∙ c.in_ok-stream.was) in
    record { fits = c.requires.fit c.args.handle (home_of_stream c.in_ok-stream.stream) found }
