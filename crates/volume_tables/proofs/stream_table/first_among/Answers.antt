use Rattle.std.proofs.Common.{ℕ, Option, ◌-◌, ◌∙◌, ap, get_or}
use Rattle.std.specs.Option.{option_map_or}
use Rattle.fsa_types.specs.Rows.{row_of}
use Rattle.fsa_model.specs.QueryInfo.{is_stream_before}
use Rattle.fsa_model.specs.Volume.{Stream}
use Rattle.volume_rows.specs.Streams.{streams_in}
use Rattle.volume_tables.specs.StreamOrder.{first_with, is_stream_after}
use Rattle.volume_tables.proofs.OrderLemmas.{first-earlier}
use Rattle.volume_tables.proofs.stream_table.first_among.Goals as goal

pub loop-place-preserved : goal.loop-place-preserved
loop-place-preserved c =
    let rows = streams_in c.args.table.now.rows in
    let id : ℕ = (get_or c.args.entries.now (c.loop-place.place - 1) (0, 0)).1 in
    let next : Option (ℕ × Stream) → Option (ℕ × Stream) = λ was. option_map_or (λ (row : Stream). first_with (is_stream_before c.args.upcase.now) (λ e. is_stream_after c.args.upcase.now c.args.file c.args.units.now e.1) (id, row) was) (row_of rows id) was in
    c.first_at-first.ensures
    ∙ ap next c.loop-place.invariant
    ∙ first-earlier (is_stream_before c.args.upcase.now) (λ e. is_stream_after c.args.upcase.now c.args.file c.args.units.now e.1) rows c.args.entries.now c.loop-place.place (0, 0)
    c.loop-place-test.true c.loop-place.auto.place
