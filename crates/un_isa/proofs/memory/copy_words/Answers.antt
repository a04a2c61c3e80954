use Rattle.std.proofs.Common.{arith}
use Rattle.std.proofs.lemmas.List.{same_lists}
use Rattle.un_isa.proofs.memory.copy_words.Goals as goal

pub returns : goal.returns
returns c = same_lists _ _ c.loop-i.invariant.long (λ k d lt. c.loop-i.invariant.written k d
    (omega (arith, c.loop-i.invariant.long, c.loop-i-test.false)))
