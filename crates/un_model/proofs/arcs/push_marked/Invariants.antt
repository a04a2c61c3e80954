use Rattle.std.proofs.Common.{◌≡◌, ◌+◌, ◌++◌, drop}
use Rattle.un_model.specs.Arcs.{arcs_between, arcs_into}
use Rattle.un_model.specs.Pairs.{places_from, joined}
use Rattle.un_model.proofs.arcs.push_marked.Given as goal

abbrev pub invariant-loop-k : goal.invariant-loop-k
invariant-loop-k l = record {
  arcs : l.arcs ++ joined (places_from (arcs_between l.t l.temps l.m l.to) l.n (drop l.k l.before)) ≡ l.initial.arcs ++ arcs_into l.t
      l.temps l.first l.before l.m l.to;
  number : l.n ≡ l.first + l.k;
}
