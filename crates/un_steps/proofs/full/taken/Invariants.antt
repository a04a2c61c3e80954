use Rattle.std.proofs.Common.{◌≡◌, ◌+◌, ◌*◌, ◌^◌, ◌≤◌, drop}
use Rattle.std.specs.Prelude.{sum_by}
use Rattle.un_steps.specs.Full.{operations_of}
use Rattle.un_steps.specs.Rules.{takes_in}
use Rattle.un_steps.proofs.full.taken.Given as goal

abbrev pub invariant-loop-i : goal.invariant-loop-i
invariant-loop-i l = record {
  so_far : l.sum + sum_by (takes_in l.m l.s.sets l.r l.a l.n) (drop l.i (operations_of l.b))
      ≡ sum_by (takes_in l.m l.s.sets l.r l.a l.n) (operations_of l.b);
  small : l.sum ≤ l.i * 2 ^ 8;
}
