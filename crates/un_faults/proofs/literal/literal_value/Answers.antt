-- The number with its sign, or the nearest that fits.
use Rattle.std.proofs.Common.{arith}
use Rattle.std.proofs.lemmas.Grind.{common_steps}
use Rattle.un_faults.proofs.literal.literal_value.Goals as goal

pub returns-then-n : goal.returns-then-n
returns-then-n c = grind (arith, common_steps)

pub returns-else-n : goal.returns-else-n
returns-else-n c = grind (arith, common_steps)
