use Rattle.std.proofs.Common.{ℕ, ◌≡◌, ◌<◌, true}
use Rattle.un_domains.specs.Sets.{has}
use Rattle.un_model.specs.Instructions.{instruction_of, space_read}
use Rattle.un_model.specs.Solutions.{InSpace}
use Rattle.un_steps.specs.Found.{operation_of}
use Rattle.un_steps.specs.Words.{instrs, regs}
use Rattle.un_steps.proofs.reads.has_no_space.Given as goal

abbrev pub invariant-loop-n : goal.invariant-loop-n
invariant-loop-n l = (k : ℕ) → k < l.n → has (instrs l.s.sets (operation_of l.p)) k ≡ true → (r : ℕ)
    → has (regs l.m l.s.sets l.a.temp) r ≡ true → InSpace r (space_read (instruction_of l.p.op.now.kind k) l.a.at) → ⊥
