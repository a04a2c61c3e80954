use Rattle.std.proofs.Common.{◌≡◌, map}
use Rattle.std.specs.List.{range_with_len}
use Rattle.un_model.specs.Instructions.{instruction_of}
use Rattle.un_model.specs.Solutions.{latency_gap}
use Rattle.un_sites.proofs.numbers.gaps_after.Given as goal

abbrev pub invariant-loop-n : goal.invariant-loop-n
invariant-loop-n l = l.gaps ≡ map (λ n. latency_gap l.t (instruction_of l.kind n) l.user) (range_with_len 0 l.n)
