use Rattle.std.proofs.Common.{◌∙◌, sym, arith}
use Rattle.un_length.specs.Blocks.{cycle_of}
use Rattle.un_length.proofs.Steps.{place_is}
use Rattle.un_length.proofs.holds.cycle_at.Goals as goal

pub returns : goal.returns
returns c = c.value.ensures ∙ sym (place_is (cycle_of c.args.fixed.now) c.args.ops.now c.args.place (omega arith))
