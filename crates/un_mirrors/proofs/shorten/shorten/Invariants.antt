-- the walk stands at the next node of the tree, and the nodes so far are those before it, shortened
use Rattle.std.proofs.Common.{◌-◌, length}
use Rattle.un_mirrors.specs.Works.{IsWork}
use Rattle.un_mirrors.proofs.shorten.shorten.Given as goal

abbrev pub invariant-loop-work : goal.invariant-loop-work
invariant-loop-work l = IsWork l.m l.nodes l.work

abbrev pub decreases-loop-work : goal.decreases-loop-work
decreases-loop-work l = length l.nodes - l.work.place
