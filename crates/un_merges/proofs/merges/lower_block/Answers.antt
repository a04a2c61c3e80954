use Rattle.std.proofs.Common.{List, subst}
use Rattle.un_model.specs.declared.model.OpVars.{OpVars}
use Rattle.un_merges.specs.Lowered.{AreLowered}
use Rattle.un_merges.proofs.Merging.{block_lowered}
use Rattle.un_merges.proofs.merges.lower_block.Goals as goal

pub returns : goal.returns
returns c = block_lowered c.args.vars.now c.args.t c.args.old.now c.lower_cycles.new.new c.lower.new.new
    (subst (λ (ops : List OpVars). AreLowered ops c.args.t c.args.old.now c.lower_cycles.new.new) c.as_slice.ensures c.lower_cycles.ensures)
    c.lower.ensures.lower c.lower.ensures.same
