use Rattle.std.proofs.Common.{◌≡◌, ◌++◌, drop, true, []}
use Rattle.un_ir.specs.ExtendOf.{extended_blocks}
use Rattle.un_extend.proofs.extend.extended_all.Given as goal

abbrev pub invariant-loop-block : goal.invariant-loop-block
invariant-loop-block l = (l.g.ops ≡ [])
    × (l.extended ++ extended_blocks l.names l.is_entry l.g.values l.g.next (drop l.block-index l.blocks) ≡ extended_blocks
    l.names true [] 0 l.blocks)
