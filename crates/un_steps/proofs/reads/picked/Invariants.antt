use Rattle.std.proofs.Common.{◌≡◌}
use Rattle.un_steps.specs.Words.{alternative_in}
use Rattle.un_steps.proofs.Picking.{picked_from}
use Rattle.un_steps.proofs.reads.picked.Given as goal

abbrev pub invariant-loop-j : goal.invariant-loop-j
invariant-loop-j l = picked_from l.v.0 l.y l.choices l.operands l.j ≡ alternative_in l.v.0 l.y 0 l.choices l.operands
