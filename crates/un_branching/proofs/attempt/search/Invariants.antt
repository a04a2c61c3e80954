-- the search so far
use Rattle.std.proofs.Common.{◌≡◌, ◌-◌, ◌≤◌, length}
use Rattle.un_tree.specs.declared.node.Node.TheVariants.{Open}
use Rattle.un_branching.specs.Growths.{node_of}
use Rattle.un_branching.specs.Searching.{Searching}
use Rattle.un_branching.proofs.attempt.search.Given as goal

abbrev pub invariant-loop-alloc : goal.invariant-loop-alloc
invariant-loop-alloc g l = record {
  ready : g.P.Problem.is_ready l.problem l.room;
  sofar : Searching (g.P.Problem.root l.problem) (g.P.Problem.fix l.problem) (g.P.Problem.least l.problem) l.tree.nodes.items
      l.tree.branches.items l.waiting;
  within : length l.tree.nodes.items ≤ l.nodes;
  fresh : length l.tree.nodes.items ≡ 1 → node_of l.tree.nodes.items 0 ≡ Open;
}

abbrev pub decreases-loop-alloc : goal.decreases-loop-alloc
decreases-loop-alloc g l = l.nodes - length l.tree.nodes.items
