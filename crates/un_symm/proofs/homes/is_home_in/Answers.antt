use Rattle.std.proofs.Common.{◌∙◌, sym}
use Rattle.un_symm.specs.Interchangeable.{is_home_in_block}
use Rattle.un_symm.proofs.HomeSteps.{any_here, any_later}
use Rattle.un_symm.proofs.homes.is_home_in.Goals as goal

pub returns-then-is_home_in_block : goal.returns-then-is_home_in_block
returns-then-is_home_in_block c =
    sym (any_here (is_home_in_block c.args.m.now.ext.table c.args.r.0) c.loop-k.k c.args.m.now.ext.blocks c.get.result.now c.get.ensures
    (sym c.is_home_in_block.ensures ∙ c.if-is_home_in_block.true)) ∙ c.loop-k.invariant

pub loop-k-preserved : goal.loop-k-preserved
loop-k-preserved c =
    sym (any_later (is_home_in_block c.args.m.now.ext.table c.args.r.0) c.loop-k.k c.args.m.now.ext.blocks c.get.result.now c.get.ensures
    (sym c.is_home_in_block.ensures ∙ c.if-is_home_in_block.false)) ∙ c.loop-k.invariant
