-- Where the block goes on, and where each test holds.
use Rattle.std.proofs.Common.{rules, arith}
use Rattle.std.proofs.lemmas.Grind.{common_steps}
use Rattle.un_listing_reader.proofs.judge.packet_stands.Goals as goal

pub returns-then-goes_on : goal.returns-then-goes_on
returns-then-goes_on c = grind (arith, common_steps)

pub returns : goal.returns
returns c = search rules
