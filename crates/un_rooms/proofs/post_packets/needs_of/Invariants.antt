use Rattle.std.proofs.Common.{ℕ, ◌≡◌, map}
use Rattle.std.specs.List.{range_with_len}
use Rattle.un_model.specs.Instructions.{instruction_of, needs_by}
use Rattle.un_rooms.proofs.post_packets.needs_of.Given as goal

abbrev pub invariant-loop-n : goal.invariant-loop-n
invariant-loop-n l = l.uses ≡ map (λ (n : ℕ). needs_by l.t (instruction_of l.kind n)) (range_with_len 0 l.n)
