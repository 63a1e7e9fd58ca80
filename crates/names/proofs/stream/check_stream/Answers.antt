use Rattle.std.specs.List.{slice_split}
use Rattle.fsa_types.specs.Paths.{is_colon}
use Rattle.names.proofs.CutLemmas.{slice_split-some_part}
use Rattle.names.proofs.PathLemmas.{stream_fault-four}
use Rattle.names.proofs.stream.check_stream.Goals as goal

pub returns-in-Some-split_once-2 : goal.returns-in-Some-split_once-2
returns-in-Some-split_once-2 c =
    let more = c.in-Some-split_once-2._more in
    rw (c.in-Some.ensures.parts, c.in-Some-split_once.ensures.parts, c.in-Some-split_once-2.ensures.parts)
    (stream_fault-four c.in-Some.field-0-0.now c.in-Some-split_once.stream.now more.0.now (slice_split is_colon more.1.now) (slice_split-some_part is_colon more.1.now))
