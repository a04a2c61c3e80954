use Rattle.std.proofs.Common.{Bool, ◌&&◌, not, ap, ◌∙◌, arith}
use Rattle.un_isa.specs.Tables.{in_mask}
use Rattle.un_target.proofs.FitLaws.{cleared}
use Rattle.un_target.proofs.saved.clobbered_mask.Goals as goal

pub returns-clause-bits : goal.returns-clause-bits
returns-clause-bits c = λ r lt. cleared c.hexagon.result.clobbered c.args.saved r c.ranges.saved.fits (omega (arith, lt))
    ∙ ap (λ (b : Bool). b && not (in_mask c.args.saved r)) (c.hexagon.ensures.entries.clobbered r lt)
