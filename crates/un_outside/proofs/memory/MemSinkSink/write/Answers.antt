use Rattle.std.proofs.Common.{arith}
use Rattle.un_outside.proofs.memory.MemSinkSink.write.Goals.{then-contains-via-then-contains, then-contains-via-else-contains+then-len-self}
use Rattle.un_outside.proofs.memory.MemSinkSink.write.Goals as goal

pub returns-then-contains-clause-takes : goal.returns-then-contains-clause-takes
returns-then-contains-clause-takes c = λ passes room. absurd (elim c.then-contains.branch [
  | then-contains-via-then-contains w ↦ let e = rw c.deref.ensures.value at c.contains.ensures.value in cc
  | then-contains-via-else-contains+then-len-self w ↦ let e = rw c.deref.ensures.value at c.contains.ensures.value in grind (arith, w)
])
