-- the walk is on its staircase, and what waits waits behind it
use Rattle.std.proofs.Common.{◌≡◌, [], length}
use Rattle.un_domains.specs.Sets.{Sets}
use Rattle.un_walk.specs.Stands.{IsStandAt}
use Rattle.un_walk.specs.Turns.{paths_behind}
use Rattle.un_walk.proofs.stand.turn.Given as goal

abbrev pub invariant-loop-decision : goal.invariant-loop-decision
invariant-loop-decision l = record {
  at : (root : Sets) → IsStandAt root l.fn.stand → IsStandAt root l.stand;
  waits : paths_behind [] l.fn.stand.path.items ≡ paths_behind [] l.stand.path.items;
}

abbrev pub decreases-loop-decision : goal.decreases-loop-decision
decreases-loop-decision l = length l.stand.path.items
