-- the blocks so far, and the issues of the rest
use Rattle.std.proofs.Common.{◌≡◌, ℕ, map, take, drop}
use Rattle.std.specs.List.{zip}
use Rattle.un_ir.specs.declared.extended.ExtBlock.{ExtBlock}
use Rattle.un_model.specs.declared.model.BlockVars.{BlockVars}
use Rattle.un_model.specs.Pairs.{over_blocks}
use Rattle.un_model.specs.Schedules.{block_issues}
use Rattle.un_emit.specs.Emitted.{code_block}
use Rattle.un_emit.proofs.packets.code_blocks.Given as goal

abbrev pub invariant-loop-k : goal.invariant-loop-k
invariant-loop-k l = record {
  made : l.code ≡ map (λ (b : ExtBlock × BlockVars). code_block l.m l.values b.0 b.1) (take l.k (zip l.m.ext.blocks l.m.blocks));
  rest : (n : ℕ) × (l.rest ≡ over_blocks (block_issues l.values) l.k n (drop l.k l.m.ext.blocks) (drop l.k l.m.blocks));
}
