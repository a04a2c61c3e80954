use Rattle.std.proofs.Common.{ℕ, ◌≡◌, map}
use Rattle.std.specs.List.{range_with_len}
use Rattle.un_model.specs.Instructions.{instruction_of, space_given}
use Rattle.un_sites.specs.Postings.{registers_in}
use Rattle.un_single.proofs.post_spaces.result_sets.Given as goal

abbrev pub invariant-loop-n : goal.invariant-loop-n
invariant-loop-n l = l.sets ≡ map (λ (n : ℕ). registers_in l.slots (space_given (instruction_of l.kind n))) (range_with_len 0 l.n)
