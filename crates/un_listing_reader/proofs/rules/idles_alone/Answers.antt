-- A `nop` with nothing beside it.
use Rattle.std.proofs.Common.{arith}
use Rattle.std.proofs.lemmas.Grind.{common_steps}
use Rattle.un_listing_reader.proofs.rules.idles_alone.Goals as goal

pub returns-else-not-has_nop : goal.returns-else-not-has_nop
returns-else-not-has_nop c = grind (arith, common_steps)
