-- what is left decides
use Rattle.std.proofs.Common.{◌≡◌, ◌≤◌, ◌^◌, drop}
use Rattle.un_isa.specs.Memories.{is_memory, is_memory_from}
use Rattle.un_isa.proofs.memory.is_memory.Given as goal

abbrev pub invariant-loop-word : goal.invariant-loop-word
invariant-loop-word l = record {
  rest : is_memory_from l.low (drop l.word-index l.words) ≡ is_memory l.words;
  bound : l.low ≤ 2 ^ 32;
}
