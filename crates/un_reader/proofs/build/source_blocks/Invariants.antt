-- the blocks so far and those of the lines that are left are all
use Rattle.std.proofs.Common.{◌≡◌, ◌++◌, drop}
use Rattle.un_reader.specs.Functions.{blocks_of}
use Rattle.un_reader.proofs.build.source_blocks.Given as goal

abbrev pub invariant-loop-i : goal.invariant-loop-i
invariant-loop-i l = l.blocks ++ blocks_of l.names l.labels (drop l.i l.lines) ≡ blocks_of l.names l.labels l.lines
