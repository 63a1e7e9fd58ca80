use Rattle.std.proofs.Common.{◌≡◌, take}
use Rattle.std.specs.Prelude.{map}
use Rattle.fsa_types.specs.declared.reply.Blocker.TheVariants.{Break}
use Rattle.volume_breaks.proofs.awaiting.push_breaks.Given as goal

abbrev pub invariant-loop-number : goal.invariant-loop-number
invariant-loop-number l = record {
  items : l.into.items ≡ map (λ number. Break number) (take l.number-index l.numbers);
  room : l.into.room ≡ l.fn.into.room;
}
