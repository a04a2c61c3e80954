use Rattle.std.proofs.Common.{◌≡◌, ◌++◌, drop, length, nat_eq, true}
use Rattle.un_model.specs.Variables.{blocks_domains, own_horizon, blocks_temps, blocks_vars}
use Rattle.un_model.proofs.build.add_blocks.Given as goal

abbrev pub invariant-loop-k : goal.invariant-loop-k
invariant-loop-k l = record {
  domains : l.domains ++ blocks_domains l.e l.o own_horizon (nat_eq l.k 0) (drop l.k l.e.blocks) ≡ l.initial.domains ++ blocks_domains
      l.e l.o own_horizon true l.e.blocks;
  temps : l.temps ++ blocks_temps l.n (length l.domains) (drop l.k l.e.blocks) ≡ l.initial.temps ++ blocks_temps 0
      (length l.initial.domains) l.e.blocks;
  vars : l.vars ++ blocks_vars (length l.domains) (drop l.k l.e.blocks) ≡ blocks_vars (length l.initial.domains) l.e.blocks;
}
