use Rattle.std.proofs.Common.{◌≡◌, ◌+◌, ◌++◌, map, drop, length}
use Rattle.std.specs.List.{range_with_len}
use Rattle.un_model.specs.Variables.{choice_domain, var_at}
use Rattle.un_model.proofs.build.add_choices.Given as goal

abbrev pub invariant-loop-j : goal.invariant-loop-j
invariant-loop-j l = record {
  domains : l.domains ++ map choice_domain (drop l.j l.operands) ≡ l.initial.domains ++ map choice_domain l.operands;
  count : length l.domains ≡ length l.initial.domains + l.j;
  vars : l.vars ≡ map var_at (range_with_len (length l.initial.domains) l.j);
}
