-- the operations so far with those that are to be drawn are all
use Rattle.un_gen.proofs.GenLoops.{OpsSoFar}
use Rattle.un_gen.proofs.ops.drawn_ops.Given as goal

abbrev pub invariant-loop-i : goal.invariant-loop-i
invariant-loop-i l = OpsSoFar l.initial.draws.state l.ops l.i l.draws.state
