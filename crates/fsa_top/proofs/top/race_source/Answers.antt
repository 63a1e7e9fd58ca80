use Rattle.std.proofs.Common.{ap, inl, arith}
use Rattle.std.proofs.lemmas.Grind.{common_steps}
use Rattle.fsa_top.proofs.top.race_source.Goals as goal

pub returns-in-Err : goal.returns-in-Err
returns-in-Err g c = record {
  promised = record {
    success_is_the_text_of_a_history = grind (arith, common_steps);
    usage_exactly = grind (arith, common_steps);
    usage_reads_nothing = grind (arith, common_steps);
    bad_script = c.in-Err.ensures.bad;
    source_failed = c.in-Err.ensures.read;
    sink_failed = grind (arith, common_steps);
    no_memory = λ five. (let still = c.in-Err.ensures.memory five in (still.1, ap g.K.Sink.faults still.0, inl still.0));
    limit_passed = c.in-Err.ensures.limit;
    known = grind (arith, common_steps);
    reads_in_few_turns = c.in-Err.ensures.turns;
    reads_at_most_one_byte_above_the_limit = λ _. c.in-Err.ensures.bytes;
    takes_nothing_after_the_end_or_a_fault = λ _. c.in-Err.ensures.little;
    the_last_take_met_the_end = grind (arith, common_steps);
    puts_nothing_after_a_fault = c.in-Err.ensures.stops;
    faults_never_fall = c.in-Err.ensures.later;
    complete = grind (arith, common_steps);
    bad_exactly = grind (arith, common_steps);
    limit_exactly = grind (arith, common_steps);
  };
}
