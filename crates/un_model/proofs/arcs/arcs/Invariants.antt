use Rattle.std.proofs.Common.{◌≡◌, ◌++◌, drop}
use Rattle.un_model.specs.Arcs.{blocks_arcs}
use Rattle.un_model.proofs.arcs.arcs.Given as goal

abbrev pub invariant-loop-k : goal.invariant-loop-k
invariant-loop-k l = l.arcs ++ blocks_arcs l.e.table l.temps l.n (drop l.k l.e.blocks) ≡ blocks_arcs l.e.table l.temps 0 l.e.blocks
