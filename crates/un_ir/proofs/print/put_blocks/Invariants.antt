use Rattle.std.proofs.Common.{◌≡◌, ◌++◌, drop}
use Rattle.std.specs.List.{flat_map}
use Rattle.un_ir.specs.Text.{block_lines, ended}
use Rattle.un_ir.proofs.print.put_blocks.Given as goal

-- the text so far with what is left is the whole
abbrev pub invariant-loop-block : goal.invariant-loop-block
invariant-loop-block l =
    l.out.items ++ flat_map ended (flat_map (block_lines l.blocks l.names) (drop l.block-index l.blocks))
    ≡ l.initial.out.items ++ flat_map ended (flat_map (block_lines l.blocks l.names) l.blocks)
