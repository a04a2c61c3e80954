use Rattle.std.proofs.Common.{take}
use Rattle.un_merges.proofs.Passes.{IsPassed}
use Rattle.un_merges.proofs.merges.merge_blocks.Given as goal

abbrev pub invariant-loop-vars : goal.invariant-loop-vars
invariant-loop-vars l = IsPassed l.m (take l.vars-index l.m.blocks) l.fn.s l.s l.found
