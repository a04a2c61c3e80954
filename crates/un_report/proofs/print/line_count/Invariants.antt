-- the lines so far with those of the blocks that are left are all
use Rattle.std.proofs.Common.{◌≡◌, ◌+◌, drop, length}
use Rattle.std.specs.List.{flat_map}
use Rattle.un_listing.specs.Listing.{block_lines}
use Rattle.un_report.proofs.print.line_count.Given as goal

abbrev pub invariant-loop-block : goal.invariant-loop-block
invariant-loop-block l = l.count + length (flat_map block_lines (drop l.block-index l.c.blocks))
    ≡ 1 + length (flat_map block_lines l.c.blocks)
