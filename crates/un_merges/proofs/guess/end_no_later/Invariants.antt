use Rattle.std.proofs.Common.{◌≤◌, take, All}
use Rattle.un_model.specs.declared.model.BlockVars.{BlockVars}
use Rattle.un_model.specs.Cost.{value_of}
use Rattle.un_merges.proofs.guess.end_no_later.Given as goal

abbrev pub invariant-loop-vars : goal.invariant-loop-vars
invariant-loop-vars l = All (λ (v : BlockVars). value_of l.new v.end ≤ value_of l.old v.end) (take l.vars-index l.blocks)
