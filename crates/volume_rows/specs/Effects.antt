-- What a class of requests does to an oplock, as the code has it.
use Rattle.fsa_types.specs.Oplocks.{Effect, Stays, Ends, Begins, Lowers}
use Rattle.volume_rows.specs.declared.effects.BreakEffect.{BreakEffect}
use Rattle.volume_rows.specs.declared.effects.BreakEffect.TheVariants as given

abbrev pub effect_of : BreakEffect → Effect
effect_of given.Stays = Stays
effect_of given.Ends = Ends
effect_of (given.Begins level) = Begins level
effect_of (given.Lowers level) = Lowers level
