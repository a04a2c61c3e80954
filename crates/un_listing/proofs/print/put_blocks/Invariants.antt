use Rattle.std.proofs.Common.{◌≡◌, ◌++◌, drop}
use Rattle.std.specs.List.{flat_map}
use Rattle.un_base.specs.Lines.{joined_lines}
use Rattle.un_listing.specs.Listing.{block_lines}
use Rattle.un_listing.proofs.print.put_blocks.Given as goal

-- the text so far with what is left is the whole
abbrev pub invariant-loop-block : goal.invariant-loop-block
invariant-loop-block l =
    l.out.items ++ joined_lines (flat_map block_lines (drop l.block-index l.blocks))
    ≡ l.initial.out.items ++ joined_lines (flat_map block_lines l.blocks)
