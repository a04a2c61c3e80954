use Rattle.un_outside.proofs.memory.MemSourceSource.read.Goals as goal

pub returns-then-contains-clause-gives : goal.returns-then-contains-clause-gives
returns-then-contains-clause-gives c = λ passes. let e = rw c.deref.ensures.value at c.contains.ensures.value in cc
