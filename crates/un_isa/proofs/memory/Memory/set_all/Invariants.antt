-- what is left to write comes to the whole
use Rattle.std.proofs.Common.{◌≡◌, drop}
use Rattle.un_isa.specs.Memories.{set_words}
use Rattle.un_isa.proofs.memory.Memory.set_all.Given as goal

abbrev pub invariant-loop-change : goal.invariant-loop-change
invariant-loop-change l = set_words (drop l.change-index l.changed) l.self ≡ set_words l.changed l.fn.self
