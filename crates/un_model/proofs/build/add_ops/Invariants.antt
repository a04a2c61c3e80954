use Rattle.std.proofs.Common.{◌≡◌, ◌++◌, drop, length}
use Rattle.un_model.specs.Variables.{ops_domains, ops_temps, ops_vars}
use Rattle.un_model.proofs.build.add_ops.Given as goal

abbrev pub invariant-loop-i : goal.invariant-loop-i
invariant-loop-i l =
    let s = l.scope in
    let b = s.block.now in
    record {
      domains : l.domains ++ ops_domains s.ext.now s.options.now s.is_entry b b.horizon (drop l.i b.ops) ≡ l.initial.domains ++
          ops_domains s.ext.now s.options.now s.is_entry b b.horizon b.ops;
      temps : l.temps ++ ops_temps l.n (length l.domains) (drop l.i b.ops) ≡ l.initial.temps ++ ops_temps l.first
          (length l.initial.domains) b.ops;
      vars : l.vars ++ ops_vars (length l.domains) (drop l.i b.ops) ≡ ops_vars (length l.initial.domains) b.ops;
    }
