use Rattle.std.proofs.Common.{arith}
use Rattle.std.specs.Prelude.{slice_index}
use Rattle.un_bound.specs.Choices.{InSets}
use Rattle.un_bound.proofs.Nexts.{next_more}
use Rattle.un_bound.proofs.settle.start.Goals as goal

pub returns-in-None : goal.returns-in-None
returns-in-None c = λ others ch. c.in-None.ensures (slice_index others c.loop-i.i) (ch c.loop-i.i (omega arith)) (omega arith)

pub loop-i-preserved : goal.loop-i-preserved
loop-i-preserved c =
    let b = c.args.b.now in
    next_more (InSets b.store.now.sets b.end b.ops.now b.vars.now) c.loop-i.i c.loop-i.cycles c.in-Some.cycle (omega arith)
    c.loop-i.invariant c.in-Some.ensures

pub returns : goal.returns
returns c = λ k lt. c.loop-i.invariant k (omega arith)
