-- the decisions so far are on the model's variables
use Rattle.std.proofs.Common.{All}
use Rattle.inspect.specs.Nodes.{IsOn}
use Rattle.inspect.proofs.node.node_of.Given as goal

abbrev pub invariant-loop-line : goal.invariant-loop-line
invariant-loop-line l =
    (goal.iterator-loop-line).can_next l.line-iterator × (goal.iterator-loop-line).is_finite l.line-iterator ×
    All (IsOn l.vars) l.node.decisions.items
