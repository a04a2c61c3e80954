use Rattle.std.proofs.Common.{◌≡◌, ◌+◌, ◌++◌, drop}
use Rattle.un_model.specs.Arcs.{arcs_at, block_arcs}
use Rattle.un_model.specs.Pairs.{places_from, joined}
use Rattle.un_model.proofs.arcs.block_arcs.Given as goal

abbrev pub invariant-loop-i : goal.invariant-loop-i
invariant-loop-i l = record {
  arcs : l.arcs ++ joined (places_from (arcs_at l.t l.temps l.first l.ops) l.i (drop l.i l.ops)) ≡ block_arcs l.t l.temps l.first l.ops;
  number : l.m ≡ l.first + l.i;
}
