use Rattle.std.proofs.Common.{ℕ, ◌<◌, ◌^◌}
use Rattle.std.specs.Prelude.{IfSome}
use Rattle.un_steps.specs.Found.{operation_of}
use Rattle.un_steps.specs.Full.{IsLeastTo}
use Rattle.un_steps.specs.Rules.{share_with}
use Rattle.un_steps.specs.Words.{instrs}
use Rattle.un_steps.proofs.full.least_share.Given as goal

abbrev pub invariant-loop-i : goal.invariant-loop-i
invariant-loop-i l = record {
  least : IsLeastTo (share_with l.m l.r (operation_of l.p)) (instrs l.s.sets (operation_of l.p)) l.i l.known;
  few : IfSome l.known (λ (k : ℕ). k < 2 ^ 8);
}
